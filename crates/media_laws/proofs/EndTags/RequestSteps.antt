-- A CANCEL or a BYE that a call takes: what it does is a move, and the trace's calls show the server's afterwards.
use Rattle.std.proofs.Common.{◌≡◌, ◌∙◌, ℕ, true, false, List, ◌++◌, Option, Some, Ok, refl, sym, ap, subst, not, ◌&&◌}
use Rattle.std.specs.Prelude.{IsTrue, slice_get}
use Rattle.std.proofs.lemmas.Option.{same_Some}
use Rattle.events.specs.declared.sent.Sent.{Sent}
use Rattle.sip_message.specs.Words.{is_method as is_ack}
use Rattle.sip_message.specs.Read.{message_of}
use Rattle.sip_message.specs.declared.message.Message.TheVariants as Kinds
use Rattle.transactions.specs.declared.change.Entry.{Entry}
use Rattle.transactions.specs.declared.transaction.Transaction.{Transaction}
use Rattle.call_core.specs.CallRows.{call_row}
use Rattle.call_core.specs.declared.input.Input.{Input}
use Rattle.call_core.specs.declared.input.Input.TheVariants as inputs
use Rattle.call_core.specs.declared.signal.Signal.{Signal}
use Rattle.call_core.specs.declared.signal.Signal.TheVariants as signals
use Rattle.call_core.specs.declared.stage.Standing.{Standing}
use Rattle.call_steps.specs.Values.{without_offer}
use Rattle.calls.specs.declared.standing_call.StandingCall.{StandingCall}
use Rattle.plans.specs.Effect.{Effect}
use Rattle.plans.specs.Office.{Office}
use Rattle.plans.specs.declared.setting.Setting.{Setting}
use Rattle.call_trace.specs.declared.call.Call.{Call}
use Rattle.call_trace.specs.declared.datagram.Datagram.{Datagram}
use Rattle.call_trace.specs.declared.datagram.Message.{Message}
use Rattle.call_trace.specs.Events.{NoneAsked, passed}
use Rattle.call_trace.specs.Lives.{Stands}
use Rattle.call_trace.specs.Messages.{asks, is_listed, is_request, offering}
use Rattle.call_trace.specs.Moves.{Move}
use Rattle.call_trace.specs.Stands.{AllApart}
use Rattle.trace_reading.specs.Message.{trace_message}
use Rattle.message_laws.proofs.QuietEvents.Describing.{BodiesDescribe}
use Rattle.message_laws.proofs.Messages.ReadBack.{SentIsRead}
use Rattle.message_laws.specs.Comings.{CanCome}
use Rattle.media_laws.specs.Taking.{IsShownAt, KnowsLegs, TakesSignal}
use Rattle.media_laws.specs.Coming.{scene_at}
use Rattle.message_laws.specs.Messages.{AreMessages, IsTakenOf}
use Rattle.media_laws.specs.Listing.{is_listed as is_listed_call}
use Rattle.media_laws.specs.Shows.{ShowsCall}
use Rattle.media_laws.proofs.Scenes.Reading.{Reading}
use Rattle.media_laws.proofs.Scenes.ReadTexts.{taken_is}
use Rattle.media_laws.specs.Steps.{GoOn, IsAfter, IsSignalOf, StandsShown}
use Rattle.media_laws.proofs.CallLines.Again.{again_none}
use Rattle.media_laws.proofs.EndTags.Takes.{takes_go_on}
use Rattle.std.proofs.lemmas.Slice.Eq.{bytes_eq-Decides}
use Rattle.std.proofs.Common.{Bool, None, codes, true, false, [], not, ◌&&◌}
use Rattle.sip_message.specs.declared.message.Request.{Request}
use Rattle.calls.specs.declared.change.LegDialog.{LegDialog}
use Rattle.call_media.specs.declared.end.End.{End}
use Rattle.call_rules.specs.Requests.{dialog_rule}
use Rattle.call_steps.specs.Rows.{counts}
use Rattle.responses.specs.Words.{is_method}
use Rattle.message_laws.proofs.Messages.ReadParts.{same_method}
use Rattle.plans.specs.CallRows.{asker, tag_at, takes_request, takes}
use Rattle.responses.specs.Responding.{stateless}
use Rattle.message_laws.specs.Addresses.{IsSource}
use Rattle.message_laws.proofs.Traces.Comings.{alone_comes, bye_comes, cancel_comes}
use Rattle.media_laws.specs.Coming.{FitsComing}
use Rattle.media_laws.proofs.Scenes.Fitting.{counts_fits}
use Rattle.media_laws.proofs.Scenes.Comings.{ack_signals, bye_signals, cancel_signals}
use Rattle.call_rules.specs.Speaking.{is_bye}
use Rattle.message_laws.specs.Sending.{KnowsSent}
use Rattle.message_laws.specs.Sound.{HasSoundLegs}
use Rattle.message_laws.proofs.AwaitedOffers.Awaiting.{all_at}
use Rattle.message_laws.specs.KnownTrace.{KnowsTrace}
use Rattle.call_rules.specs.DialogRule.{Leaves}

unlisted : (a b : Bool) → b ≡ false → IsTrue (not (a && b))
unlisted true b e = ap not e
unlisted false b e = refl

asks_nothing : (bytes : List ℕ) (r : Request) → is_listed offering r.parts.cseq.method ≡ false → IsTrue (not (asks offering (trace_message bytes (Kinds.Request r))))
unfolding trace_message
asks_nothing bytes r e = unlisted (is_request (trace_message bytes (Kinds.Request r)).kind) (is_listed offering r.parts.cseq.method) e

-- a request of no method that may carry an offer
none_asked : (bytes : List ℕ) (r : Request) (taken : Option Message) → message_of bytes ≡ Ok (Kinds.Request r) → IsTakenOf bytes taken → is_listed offering r.parts.cseq.method ≡ false → NoneAsked offering taken
none_asked bytes r taken read took none m is =
    let same : trace_message bytes (Kinds.Request r) ≡ m = same_Some (trace_message bytes (Kinds.Request r)) m (sym (taken_is bytes (Kinds.Request r) taken read took) ∙ is) in
    subst (λ (x : Message). IsTrue (not (asks offering x))) same (asks_nothing bytes r none)

ack_unlisted : (r : Request) → is_ack (codes "ACK") r.parts ≡ true → is_listed offering r.parts.cseq.method ≡ false
ack_unlisted r is = subst (λ (v : List ℕ). is_listed offering v ≡ false) (sym ((bytes_eq-Decides r.parts.cseq.method (codes "ACK")).0 is)) refl

bye_unlisted : (r : Request) → is_bye r.parts ≡ true → is_listed offering r.parts.cseq.method ≡ false
bye_unlisted r is = subst (λ (v : List ℕ). is_listed offering v ≡ false) (sym ((bytes_eq-Decides r.parts.cseq.method (codes "BYE")).0 is)) refl

module _ (reads : Reading) (describes : BodiesDescribe) (law : SentIsRead) (keep : (k : ℕ) (t : List Datagram) (old new : List Call) (taken : Option Message) (sent : List Message) → Move offering t old taken sent new → Stands offering old k t → AllApart new) (s after : Office) (begun more : List Transaction) (sent : List Sent) (t : List Datagram) (old : List Call) (k : ℕ) (before : StandsShown s begun t old k) (later : IsAfter s after (begun ++ more)) (known : KnowsTrace s begun sent t) (was : KnowsSent s sent) (knows : KnowsLegs s) (e : Setting) (from : IsSource e.source) (place : ℕ) (c : StandingCall) (n : Standing) (entries : List Entry) (there : slice_get s.calls.calls place ≡ Some c) (stands : c.call.standing ≡ Some n) (listed : is_listed_call c ≡ true) (bytes : List ℕ) (r : Request) (id : ℕ) (taken : Option Message) (read : message_of bytes ≡ Ok (Kinds.Request r)) (took : IsTakenOf bytes taken) where
  abbrev GoesOn : Input → Option LegDialog → List ℕ → Type 0
  GoesOn input leg tag = (x : Effect) → x ≡ takes_request s e r entries id place input leg tag → (ms : List Message) → AreMessages x.plan.sends ms → after.calls.calls ≡ x.calls.standing.calls
      → GoOn (ShowsCall after.table.slots (begun ++ more) (t ++ passed k taken ms)) after.calls.calls t old taken ms

  by_request : (input : Input) (signal : Signal) (leg : Option LegDialog) (tag : List ℕ) → IsSignalOf c.call input signal → CanCome input (without_offer leg (Some (asker r e id tag))) → FitsComing c leg → is_listed offering r.parts.cseq.method ≡ false
      → ((d : Call) (j : ℕ) → slice_get old j ≡ Some d → ShowsCall s.table.slots begun t c d
      → TakesSignal n (scene_at s e (without_offer leg (Some (asker r e id tag))) c (call_row c.call input s.calls.pool e.now).description) d taken signal) → GoesOn input leg tag
  by_request input signal leg tag is can fits none comes x eq ms are calls =
      takes_go_on reads describes law keep s after begun more t old k before later e place c n input signal leg (Some (asker r e id tag)) there stands listed is can taken [] ms tt (λ bye. refl)
      (again_none reads s begun sent t taken known was (none_asked bytes r taken read took none) e (without_offer leg (Some (asker r e id tag))) place c (call_row c.call input s.calls.pool e.now).description n.offerer there) comes fits
      (subst (λ (y : Effect). AreMessages y.plan.sends ms) eq are) (calls ∙ ap (λ (y : Effect). y.calls.standing.calls) eq)

  shown : (d : Call) → ShowsCall s.table.slots begun t c d → IsShownAt s begun t place c n d
  shown d shows = record { there = there; stands = stands; shows = shows }

  pub bye_goes_on : (end : End) → is_bye r.parts ≡ true → dialog_rule s.calls.calls r ≡ Leaves place end → GoesOn (inputs.Bye end) (counts s.calls.calls place end r.parts.cseq.number) stateless
  bye_goes_on end is rule =
      by_request (inputs.Bye end) (signals.Bye end) (counts s.calls.calls place end r.parts.cseq.number) stateless refl (bye_comes s e bytes r id place end before.scenes from read is)
      (counts_fits s.calls.calls place end r.parts.cseq.number c there (all_at HasSoundLegs s.calls.calls place c knows.dialogs.calls there)) (bye_unlisted r is)
      (λ d j at shows. bye_signals s e place c (call_row c.call (inputs.Bye end) s.calls.pool e.now).description begun t n d r id end stateless bytes taken knows (shown d shows) read took rule)

  pub cancel_goes_on : is_method (codes "CANCEL") r ≡ true → GoesOn inputs.Cancel None (tag_at (slice_get s.calls.calls place))
  cancel_goes_on is =
      let method = (bytes_eq-Decides r.method (codes "CANCEL")).0 is in
      by_request inputs.Cancel signals.Cancel None (tag_at (slice_get s.calls.calls place)) refl (cancel_comes s e bytes r id place before.scenes from read method) tt
      (subst (λ (v : List ℕ). is_listed offering v ≡ false) (sym (same_method bytes r read ∙ method)) refl)
      (λ d j at shows. cancel_signals s e place c (call_row c.call inputs.Cancel s.calls.pool e.now).description begun t n d r id (tag_at (slice_get s.calls.calls place)) bytes taken knows (shown d shows) read took is)

  -- an ACK, to which nothing is said
  pub ack_goes_on : is_ack (codes "ACK") r.parts ≡ true → (x : Effect) → x ≡ takes s e entries None None place inputs.Ack None → (ms : List Message) → AreMessages x.plan.sends ms → after.calls.calls ≡ x.calls.standing.calls
      → GoOn (ShowsCall after.table.slots (begun ++ more) (t ++ passed k taken ms)) after.calls.calls t old taken ms
  ack_goes_on is x eq ms are calls =
      takes_go_on reads describes law keep s after begun more t old k before later e place c n inputs.Ack signals.Ack None None there stands listed refl (alone_comes inputs.Ack tt refl tt) taken [] ms tt (λ bye. refl)
      (again_none reads s begun sent t taken known was (none_asked bytes r taken read took (ack_unlisted r is)) e (without_offer None None) place c (call_row c.call inputs.Ack s.calls.pool e.now).description n.offerer there)
      (λ d j at shows. ack_signals s e place c (call_row c.call inputs.Ack s.calls.pool e.now).description begun t n d r bytes taken knows (shown d shows) read took) tt
      (subst (λ (y : Effect). AreMessages y.plan.sends ms) eq are) (calls ∙ ap (λ (y : Effect). y.calls.standing.calls) eq)
