-- A response: the call that waits for it takes it, or none does.
use Rattle.std.proofs.Common.{Bool, List, None, Ok, Option, Some, ap, false, refl, true, ℕ, ◌++◌, ◌∙◌, ◌≡◌}
use Rattle.std.specs.Prelude.{slice_get}
use Rattle.events.specs.declared.sent.Sent.{Sent}
use Rattle.sip_message.specs.Read.{message_of}
use Rattle.sip_message.specs.declared.message.Message.TheVariants as Kinds
use Rattle.sip_message.specs.declared.message.Response.{Response}
use Rattle.sip_message.specs.Words.{class_of}
use Rattle.sip_message.specs.declared.words.Class.TheVariants as classes
use Rattle.transactions.specs.Contents.{reception_of}
use Rattle.transactions.specs.declared.change.Entry.{Entry}
use Rattle.transactions.specs.declared.transaction.Transaction.{Transaction}
use Rattle.event_rows.specs.Rows.{is_unreachable_message}
use Rattle.call_core.specs.CallRows.{is_fit}
use Rattle.call_rules.specs.Content.{described}
use Rattle.call_core.specs.declared.input.Input.TheVariants as inputs
use Rattle.call_core.specs.declared.stage.Standing.{Standing}
use Rattle.call_steps.specs.Rows.{answers_leg, fork_row, late_row}
use Rattle.calls.specs.declared.standing_call.StandingCall.{StandingCall}
use Rattle.plans.specs.CallRows.{occasion, takes}
use Rattle.plans.specs.Effect.{Effect}
use Rattle.plans.specs.Office.{Office}
use Rattle.plans.specs.Plan.{goes}
use Rattle.plans.specs.declared.setting.Setting.{Setting}
use Rattle.call_trace.specs.declared.call.Call.{Call}
use Rattle.call_trace.specs.declared.datagram.Datagram.{Datagram}
use Rattle.call_trace.specs.declared.datagram.Message.{Message}
use Rattle.call_trace.specs.Events.{passed}
use Rattle.call_trace.specs.Messages.{offering}
use Rattle.call_trace.specs.Moves.{Move}
use Rattle.media_laws.specs.Taking.{KnowsLegs}
use Rattle.message_laws.specs.Messages.{AreMessages, IsTakenOf}
use Rattle.media_laws.specs.Listing.{is_listed as is_listed_call}
use Rattle.media_laws.specs.Shows.{ShowsCall}
use Rattle.media_laws.specs.Ties.{AreTied}
use Rattle.media_laws.specs.Steps.{GoOn, IsAfter, StandsShown}
use Rattle.sip_message.specs.declared.message.Parts.{Parts}
use Rattle.transactions.specs.declared.outcome.Outgoing.{Outgoing}
use Rattle.message_laws.proofs.Messages.MessageViews.{IsResponseTo}
use Rattle.media_laws.proofs.EventKinds.EventCases.{DatagramCase, EventCase, IsNotDone, MessageCase, ResponseCase}
use Rattle.media_laws.proofs.EventKinds.EventCases as cases
use Rattle.media_laws.specs.Known.{IsTied}
use Rattle.media_laws.proofs.EventKinds.Laws.{Laws, reading_laws}
use Rattle.media_laws.proofs.EventKinds.HiddenInputs.{hidden_refusal, hidden_ringing, hidden_success}
use Rattle.media_laws.proofs.EventKinds.Puts.{none_goes_on}
use Rattle.media_laws.proofs.EndTags.ResponseSteps.{refusal_goes_on, ringing_goes_on, unfit_goes_on}
use Rattle.media_laws.proofs.EventKinds.CaseMoves.{NoneTakesResponse}
use Rattle.message_laws.proofs.AwaitedOffers.Awaiting.{opened}
use Rattle.message_laws.proofs.Messages.ResponseViews.{IsAsked}
use Rattle.media_laws.proofs.OfferPairs.Responses.{responds_to}
use Rattle.media_laws.proofs.EndTags.AnswerSteps.{answer_goes_on}
use Rattle.plans.specs.declared.taken.Taken.TheVariants.{Done}
use Rattle.media_laws.proofs.EventKinds.CallInputs.{shown, ties}
use Rattle.sip_uri.specs.declared.uri.Uri.{Uri}
use Rattle.sip_message.specs.declared.message.Parts.{Parts}
use Rattle.sip_message.specs.Contact.{contacts_of}
use Rattle.dialogs.specs.Making.{reached_at}
use Rattle.calls.specs.State.{Standing as Calls}
use Rattle.call_steps.specs.Rows.{fork_by, late_by}
use Rattle.call_steps.specs.declared.occasion.Occasion.{Occasion}

-- a 2xx that no call takes changes none
fork_at : (calls : Calls) (o : Occasion) (asked : Parts) (r : Response) (target : Option Uri) → (fork_by calls o asked r target).outcome.standing.calls ≡ calls.calls
fork_at calls o asked r None = refl
fork_at calls o asked r (Some uri) = refl

fork_same : (calls : Calls) (o : Occasion) (asked : Parts) (r : Response) → (fork_row calls o asked r).outcome.standing.calls ≡ calls.calls
unfolding fork_row
fork_same calls o asked r = fork_at calls o asked r (reached_at (contacts_of r.headers))

late_at : (calls : Calls) (o : Occasion) (asked : Parts) (r : Response) (target : Option Uri) → (late_by calls o asked r target).outcome.standing.calls ≡ calls.calls
late_at calls o asked r None = refl
late_at calls o asked r (Some uri) = refl

late_same : (calls : Calls) (o : Occasion) (asked : Parts) (r : Response) → (late_row calls o asked r).outcome.standing.calls ≡ calls.calls
unfolding late_row
late_same calls o asked r = late_at calls o asked r (reached_at (contacts_of r.headers))

module _ (laws : Laws) (s after : Office) (begun more : List Transaction) (sent : List Sent) (t : List Datagram) (old : List Call) (k : ℕ) (tied : IsTied s begun sent t old k) (later : IsAfter s after (begun ++ more)) (taken : Option Message) (ms : List Message) (e : Setting) (bytes : List ℕ) (r : Response) (read : message_of bytes ≡ Ok (Kinds.Response r)) (reaches : is_unreachable_message (Kinds.Response r) ≡ false) (entries : List Entry) (id : ℕ) (y : Transaction) (to : IsResponseTo s r id y) (x : Effect) (took : x.plan.taken ≡ Done → IsTakenOf bytes taken) (are : AreMessages x.plan.sends ms) (calls : after.calls.calls ≡ x.calls.standing.calls) where
  abbrev Goes : Type 0
  Goes = GoOn (ShowsCall after.table.slots (begun ++ more) (t ++ passed k taken ms)) after.calls.calls t old taken ms

  abbrev shows : StandsShown s begun t old k
  shows = shown laws s after begun more sent t old k tied later taken ms

  abbrev tie : AreTied s begun sent t old
  tie = ties laws s after begun more sent t old k tied later taken ms

  abbrev knows : KnowsLegs s
  knows = tied.known.legs

  stays : Move offering t old taken ms old → after.calls.calls ≡ s.calls.calls → Goes
  stays move same = none_goes_on laws.keep s after begun more t old k shows later taken ms move same

  -- ---- the call that waits for it is there

  module _ (place : ℕ) (c : StandingCall) (there : slice_get s.calls.calls place ≡ Some c) (asked : IsAsked y.parts c) where
    stands : (n : Standing) × (c.call.standing ≡ Some n)
    stands = let o = opened y.parts c asked.waits in (o.0, o.1.stands)

    ringing_goes : class_of r.status ≡ classes.Provisional → x ≡ takes s e entries (reception_of s.table (Kinds.Response r)).send None place (inputs.Provisional r.status) None → (listed : Bool) → is_listed_call c ≡ listed → Goes
    ringing_goes class is true listed =
        ringing_goes_on laws.reads laws.names laws.describes laws.sent laws.keep s after begun more sent t old k shows later tie knows e place c stands.0 entries there stands.1 listed bytes r taken read (took (ap (λ (z : Effect). z.plan.taken) is)) class x is ms are calls
    ringing_goes class is false unlisted =
        hidden_ringing laws.reads laws.names laws.describes laws.sent laws.keep s after begun more sent t old k shows later tie knows e place c stands.0 entries there stands.1 unlisted bytes r taken read (took (ap (λ (z : Effect). z.plan.taken) is)) class x is ms are calls

    refusal_goes : class_of r.status ≡ classes.Failure → x ≡ takes s e entries (reception_of s.table (Kinds.Response r)).send None place (inputs.Refusal r.status) None → (listed : Bool) → is_listed_call c ≡ listed → Goes
    refusal_goes class is true listed =
        refusal_goes_on laws.reads laws.names laws.describes laws.sent laws.keep s after begun more sent t old k shows later tie knows e place c stands.0 entries there stands.1 listed bytes r taken read (took (ap (λ (z : Effect). z.plan.taken) is)) laws.replies id y (responds_to s r id y c to asked) class x is ms are calls
    refusal_goes class is false unlisted =
        hidden_refusal laws.reads laws.names laws.describes laws.sent laws.keep s after begun more sent t old k shows later tie knows e place c stands.0 entries there stands.1 unlisted bytes r taken read (took (ap (λ (z : Effect). z.plan.taken) is)) id y (responds_to s r id y c to asked) class x is ms are calls

    module _ (class : class_of r.status ≡ classes.Success) (is : x ≡ takes s e entries (reception_of s.table (Kinds.Response r)).send (Some id) place (inputs.Answer (described r.headers r.body)) (answers_leg s.calls.calls place y.parts r)) where
      listed_goes : is_listed_call c ≡ true → (fit : Bool) → is_fit c.call c.call.media.offer (described r.headers r.body) ≡ fit → Goes
      listed_goes listed true fit =
          answer_goes_on laws.reads (reading_laws laws) laws.describes laws.sent laws.keep s after begun more sent t old k shows later tie knows e place c stands.0 entries there stands.1 listed bytes r taken read (took (ap (λ (z : Effect). z.plan.taken) is)) id y (responds_to s r id y c to asked) reaches class fit x is ms are calls
      listed_goes listed false unfit =
          unfit_goes_on laws.reads laws.names laws.describes laws.sent laws.keep s after begun more sent t old k shows later tie knows e place c stands.0 entries there stands.1 listed bytes r taken read (took (ap (λ (z : Effect). z.plan.taken) is)) (reading_laws laws) tied.known.waiting id y (responds_to s r id y c to asked) reaches class unfit x is ms are calls

      success_goes : (listed : Bool) → is_listed_call c ≡ listed → Goes
      success_goes true listed = listed_goes listed (is_fit c.call c.call.media.offer (described r.headers r.body)) refl
      success_goes false unlisted =
          hidden_success laws.reads laws.names laws.describes laws.sent laws.keep s after begun more sent t old k shows later tie knows e place c stands.0 entries there stands.1 unlisted bytes r taken read (took (ap (λ (z : Effect). z.plan.taken) is)) id y (responds_to s r id y c to asked) (reading_laws laws) reaches class x is ms are calls

  -- ---- all

  pub response_goes : (send : Option Outgoing) → send ≡ (reception_of s.table (Kinds.Response r)).send → (row : ResponseCase s e r entries send id y x) → (NoneTakesResponse s e r entries send id y x row → Move offering t old taken ms old) → Goes
  response_goes send goes (cases.silent rule is) alone = stays (alone tt) (calls ∙ ap (λ (z : Effect). z.calls.standing.calls) is)
  response_goes send goes (cases.provisional place status c there asked class same is) alone =
      ringing_goes place c there asked class (is ∙ (ap (λ o. takes s e entries o None place (inputs.Provisional status) None) goes ∙ ap (λ (n : ℕ). takes s e entries (reception_of s.table (Kinds.Response r)).send None place (inputs.Provisional n) None) same)) (is_listed_call c) refl
  response_goes send goes (cases.answered place c there asked class is) alone =
      success_goes place c there asked class (is ∙ ap (λ o. takes s e entries o (Some id) place (inputs.Answer (described r.headers r.body)) (answers_leg s.calls.calls place y.parts r)) goes) (is_listed_call c) refl
  response_goes send goes (cases.again place rule is) alone = stays (alone tt) (calls ∙ ap (λ (z : Effect). z.calls.standing.calls) is)
  response_goes send goes (cases.fork rule is) alone = stays (alone tt) (calls ∙ (ap (λ (z : Effect). z.calls.standing.calls) is ∙ fork_same s.calls (occasion s e) y.parts r))
  response_goes send goes (cases.ack_alone rule is) alone = stays (alone tt) (calls ∙ (ap (λ (z : Effect). z.calls.standing.calls) is ∙ late_same s.calls (occasion s e) y.parts r))
  response_goes send goes (cases.refused place status c there asked class same is) alone =
      refusal_goes place c there asked class (is ∙ (ap (λ o. takes s e entries o None place (inputs.Refusal status) None) goes ∙ ap (λ (n : ℕ). takes s e entries (reception_of s.table (Kinds.Response r)).send None place (inputs.Refusal n) None) same)) (is_listed_call c) refl
