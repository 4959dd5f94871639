-- A first INVITE that no rule refuses, with room for its call: its row, and what that sends.
use Rattle.std.proofs.Common.{◌≡◌, ◌∙◌, ℕ, true, cond, is_some, length, List, [], ◌∷◌, ◌++◌, map, Option, Some, None, refl, ap, sym, subst}
use Rattle.std.specs.Prelude.{slice_get}
use Rattle.std.proofs.lemmas.Bool.{lt-leb}
use Rattle.events.specs.declared.event.Event.{Event}
use Rattle.events.specs.declared.sent.Sent.{Sent}
use Rattle.sip_uri.specs.Address.{address_of}
use Rattle.sip_uri.specs.declared.uri.Addr.{Addr}
use Rattle.sip_uri.specs.declared.uri.Uri.{Uri}
use Rattle.sip_message.specs.Contact.{contacts_of}
use Rattle.sip_message.specs.declared.message.Request.{Request}
use Rattle.sdp.specs.declared.description.Description.{Description}
use Rattle.offer_answer.specs.Alike.{Alike}
use Rattle.offer_answer.specs.declared.fault.OfferFault.{OfferFault}
use Rattle.dialogs.specs.Making.{reached_at}
use Rattle.call_core.specs.CallRows.{first_call_row}
use Rattle.call_steps.specs.Rows.{begins_as, first_row}
use Rattle.calls.specs.declared.standing_call.StandingCall.{StandingCall}
use Rattle.plans.specs.CallRows.{begins, call_row, first_by, has_pairs, max_calls, occasion, refuses_first, unless_full, with_step}
use Rattle.plans.specs.Effect.{Effect}
use Rattle.plans.specs.declared.reason.Reason.{Reason}
use Rattle.plans.specs.declared.reason.Reason.TheVariants as reasons
use Rattle.plans.specs.declared.setting.Setting.{Setting}
use Rattle.event_rows.specs.Rows.{after, row, rule_row}
use Rattle.event_rows.specs.Rules.{request_rule}
use Rattle.event_rows.specs.State.{Contents, after_event, moment_at, office}
use Rattle.transactions.specs.declared.change.Entry.{Entry}
use Rattle.transactions.specs.declared.transaction.Transaction.{Transaction}
use Rattle.call_trace.specs.declared.call.Call.{Call}
use Rattle.call_trace.specs.declared.datagram.Datagram.{Datagram}
use Rattle.message_laws.specs.Addresses.{IsSource}
use Rattle.message_laws.proofs.QuietEvents.Describing.{BodiesDescribe}
use Rattle.message_laws.proofs.TokenUse.Events.{few_tokens}
use Rattle.message_laws.proofs.Messages.ReadBack.{SentIsRead}
use Rattle.message_laws.proofs.StandingCalls.Reading.{Reading as ReadsNames}
use Rattle.message_laws.proofs.StandingCalls.SoundRows.{callee_target}
use Rattle.message_laws.proofs.Messages.RequestViews.{FitsRule, request_fits}
use Rattle.message_laws.specs.Serving.{KnowsServing}
use Rattle.message_laws.specs.Messages.{AreMessages}
use Rattle.media_laws.specs.Beginning.{entries_of}
use Rattle.media_laws.specs.Offering.{IsFirstOffer}
use Rattle.media_laws.specs.Standing.{AgentStands}
use Rattle.media_laws.specs.Ties.{AreTied}
use Rattle.media_laws.proofs.OfferPairs.FirstSteps.{NamesOne, first_before, first_call, first_is, first_listed, first_reached}
use Rattle.media_laws.proofs.Scenes.Reading.{Reading}
use Rattle.step_laws.specs.Coming.{BeginsTransaction}
use Rattle.step_laws.specs.Offers.{BeginsCall, IsFirstCall}
use Rattle.step_laws.proofs.AlikeOffers.{Serves, offer_alike}
use Rattle.step_laws.proofs.ComingRows.{begun_row, setting_of}
use Rattle.step_laws.proofs.FirstTargets.{first_found}
use Rattle.step_laws.proofs.FirstSends.{calls_out, first_goes, opens}
use Rattle.step_laws.proofs.Known.{tied_of}

-- ---- the row

module _ (s : Contents) (e : Setting) (r : Request) (begun : List Entry) (id : ℕ) (to : Uri) (offer : Description) (h : IsFirstCall s e.now r to offer) where
  abbrev Step : Effect
  Step = with_step s.acks begun None None (first_row s.calls (occasion (office s) e) r id e.source to offer)

  fit_row : first_by (office s) e r begun id to offer ≡ Step
  fit_row =
      let refusal : Reason → Effect = λ reason. refuses_first (office s) e r begun id reason in
      let full = unless_full (office s) e r begun id (first_row s.calls (occasion (office s) e) r id e.source to offer) in
      ap (λ (o : Option OfferFault). cond (is_some o) (refusal reasons.UnfitOffer) (cond (has_pairs (office s) e.now offer) full (refusal reasons.NoPorts))) h.fit
      ∙ (ap (λ b. cond b full (refusal reasons.NoPorts)) h.pairs ∙ ap (λ b. cond b (refusal reasons.TooManyCalls) Step) (lt-leb max_calls (length s.calls.calls) h.few))

  first_step_row : rule_row (office s) e r begun id (request_rule (office s) r e.now) ≡ Step
  unfolding call_row
  first_step_row =
      ap (rule_row (office s) e r begun id) h.rule
      ∙ (ap (begins (office s) e r begun id to) h.described ∙ fit_row)

  is_first_offer : IsFirstOffer (office s) e.now r to offer
  is_first_offer =
      let first = subst (FitsRule (office s) r) h.rule (request_fits (office s) r e.now) in
      record { invite = first.0; no_tag = first.1; bound = first_found s e.now r to offer h; described = h.described }

-- ---- what it does

got_last : {X : Type 0} (xs : List X) (x : X) → slice_get (xs ++ x ∷ []) (length xs) ≡ Some x
got_last [] x = refl
got_last (y ∷ xs) x = got_last xs x

leads_there : (o : Option Addr) → is_some o ≡ true → (callee : Addr) × (o ≡ Some callee)
leads_there None h = absurd cc
leads_there (Some callee) h = (callee, refl)

module _ (reads : Reading) (names : ReadsNames) (describes : BodiesDescribe) (law : SentIsRead) (serves : Serves) (s : Contents) (event : Event) (begun : List Transaction) (sent : List Sent) (t : List Datagram) (calls : List Call) (serving : KnowsServing (office s)) (tied : AreTied (office s) begun sent t calls) (source : Addr) (bytes : List ℕ) (r : Request) (id : ℕ) (from : IsSource source) (came : BeginsTransaction s event source bytes r id) (to contact : Uri) (offer : Description) (h : IsFirstCall s (moment_at s event.now) r to offer) (reached : reached_at (contacts_of r.headers) ≡ Some contact) where
  abbrev e : Setting
  e = setting_of s event source

  p : IsFirstOffer (office s) e.now r to offer
  p = is_first_offer s e r (entries_of (office s) e r) id to offer h

  abbrev before : StandingCall
  before = first_before names describes law (office s) begun sent t calls tied e from bytes r id came.comes.read to contact offer p reached

  abbrev Begins : Effect
  Begins = with_step s.acks (entries_of (office s) e r) None None (begins_as s.calls (occasion (office s) e) r id e.source to offer before)

  is_row : row s event ≡ Begins
  is_row =
      begun_row s event source bytes r id came
      ∙ (first_step_row s e r (entries_of (office s) e r) id to offer h
      ∙ ap (with_step s.acks (entries_of (office s) e r) None None) (first_is names describes law (office s) begun sent t calls tied e from bytes r id came.comes.read to contact offer p reached))

  -- ---- the call afterwards

  abbrev new : StandingCall
  new = first_call names describes law (office s) begun sent t calls tied e from bytes r id came.comes.read to contact offer p reached

  calls_are : (after s event).calls.calls ≡ s.calls.calls ++ new ∷ []
  unfolding after_event
  calls_are =
      ap (λ (y : Effect). y.calls.standing.calls) is_row ∙ ap (λ b. cond b (s.calls.calls ++ new ∷ []) s.calls.calls) (first_listed names describes law (office s) begun sent t calls tied e from bytes r id came.comes.read to contact offer p reached)

  alike : Alike offer (opens names describes law (office s) begun sent t calls tied e from bytes r id came.comes.read to contact offer p reached).offer_sent
  unfolding first_call_row
  alike =
      offer_alike (office (after s event)) (serves s event serving) (length s.calls.calls) new
      (subst (λ l. slice_get l (length s.calls.calls) ≡ Some new) (sym calls_are) (got_last s.calls.calls new)) _ refl

  pub begins_call : BeginsCall source bytes r to offer (row s event)
  begins_call =
      let callee = leads_there (address_of to) (callee_target (office s) tied.scenes.dialogs r e.now to p.bound).leads in
      record {
        taken = ap (λ (y : Effect). y.plan.taken) is_row;
        callee = callee.0;
        leads = callee.1;
        addresses = ap (λ (y : Effect). map (λ (d : Sent). d.to) y.plan.sends) is_row
            ∙ first_goes names describes law (office s) begun sent t calls tied e from bytes r id came.comes.read to contact offer p reached callee.0 callee.1;
        sends = λ ms are.
            calls_out names describes law (office s) begun sent t calls tied e from bytes r id came.comes.read to contact offer p reached reads alike ms (subst (λ (y : Effect). AreMessages y.plan.sends ms) is_row are);
      }

pub first_invites : Reading → ReadsNames → BodiesDescribe → SentIsRead → NamesOne → Serves → (s : Contents) (event : Event) (t : List Datagram) (k : ℕ) → AgentStands s t k → (source : Addr) (bytes : List ℕ) (r : Request) (id : ℕ) → IsSource source
    → BeginsTransaction s event source bytes r id → (to : Uri) (offer : Description) → IsFirstCall s (moment_at s event.now) r to offer → BeginsCall source bytes r to offer (row s event)
first_invites reads names describes law one serves s event t k stands source bytes r id from came to offer h =
    let up = stands.2.1 in
    let tied = tied_of s stands.0 stands.1 t stands.2.0 k up (few_tokens s event came.comes.counts) in
    let e = setting_of s event source in
    let found = first_reached one names bytes r (office s) e.now to offer came.comes.read (is_first_offer s e r (entries_of (office s) e r) id to offer h) in
    begins_call reads names describes law serves s event stands.0 stands.1 t stands.2.0 up.known.serving tied source bytes r id from came to found.0 offer h found.1
