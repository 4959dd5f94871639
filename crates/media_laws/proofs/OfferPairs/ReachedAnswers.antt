-- Where a 2xx to the open offer of a call reaches, whether or not a trace lists the call (RFC 3261 sections 12.1.2 and
-- 12.2.1.2).
use Rattle.std.proofs.Common.{◌≡◌, ◌∙◌, ℕ, true, false, codes, List, [], ◌∷◌, Option, Some, None, Ok, is_some, nat_eq, slice_get, refl, sym, ap, subst}
use Rattle.std.specs.Cmp.Lexicographic.{pointwise}
use Rattle.std.proofs.lemmas.Bool.{false≢true}
use Rattle.std.proofs.lemmas.Option.{same_Some}
use Rattle.sip_uri.specs.declared.uri.Uri.{Uri}
use Rattle.sip_message.specs.Contact.{contacts_of, is_one_address}
use Rattle.sip_message.specs.Read.{message_of}
use Rattle.sip_message.specs.Words.{class_of}
use Rattle.sip_message.specs.declared.contact.ContactValue.{ContactValue}
use Rattle.sip_message.specs.declared.contact.ContactValue.TheVariants.{Address, Star, Unreadable}
use Rattle.sip_message.specs.declared.message.Message.TheVariants as Kinds
use Rattle.sip_message.specs.declared.message.Response.{Response}
use Rattle.sip_message.specs.declared.words.Class.TheVariants.{Success}
use Rattle.dialogs.specs.Making.{reached_at}
use Rattle.dialogs.specs.declared.state.Dialog.{Dialog as LegDialog}
use Rattle.transactions.specs.declared.transaction.Transaction.{Transaction}
use Rattle.call_media.specs.Ends.{is_same, other}
use Rattle.call_media.specs.declared.end.End.TheVariants.{Callee, Caller}
use Rattle.call_core.specs.Calls.{dialog_of}
use Rattle.call_core.specs.declared.stage.Standing.{Standing}
use Rattle.calls.specs.Carrying.{offerer_of}
use Rattle.calls.specs.declared.standing_call.StandingCall.{StandingCall}
use Rattle.call_rules.specs.Responses.{asked_end}
use Rattle.call_rules.specs.Speaking.{is_invite}
use Rattle.call_steps.specs.Rows.{answers_leg}
use Rattle.plans.specs.Office.{Office}
use Rattle.event_rows.specs.Rows.{is_unreachable_message}
use Rattle.message_laws.specs.CalleeDialogs.{AsksFirst}
use Rattle.message_laws.specs.Sound.{HasSoundLegs, IsTargetIf}
use Rattle.message_laws.specs.Waiting.{IsCounted, IsOffering, KnowsWaiting, from_tag}
use Rattle.message_laws.proofs.AwaitedOffers.Awaiting.{all_at, fits_at, opened}
use Rattle.message_laws.proofs.StandingCalls.CalleeRows.{NamesContact}
use Rattle.message_laws.proofs.StandingCalls.Reaching.{response_may_offer, response_method, response_reached, success_is}
use Rattle.message_laws.proofs.StandingCalls.Reading.{Reading, reached_target}
use Rattle.message_laws.proofs.TokenUse.Rows.{answered_client}
use Rattle.message_laws.proofs.TokenUse.TaggedSteps.{asked_leg}
use Rattle.message_laws.proofs.AwaitedOffers.WaitTakes.{same_is}
use Rattle.media_laws.specs.Coming.{FitsComing}
use Rattle.media_laws.proofs.Scenes.Fitting.{answers_fits}
use Rattle.media_laws.specs.Responding.{RespondsToOffer}
use Rattle.media_laws.specs.Taking.{KnowsLegs}

-- ---- where the 2xx reaches

one_reached : (values : List ContactValue) → is_one_address values ≡ true → is_some (reached_at values) ≡ true
one_reached [] h = absurd (false≢true h)
one_reached (Star ∷ more) h = absurd (false≢true h)
one_reached (Unreadable ∷ more) h = absurd (false≢true h)
one_reached (Address name ∷ []) h = refl
one_reached (Address name ∷ next ∷ more) h = absurd (false≢true h)

some_of : (o : Option Uri) → is_some o ≡ true → (uri : Uri) × (o ≡ Some uri)
some_of None h = absurd (false≢true h)
some_of (Some uri) h = (uri, refl)

module _ (reading : Reading) (names : NamesContact) (s : Office) (place : ℕ) (c : StandingCall) (n : Standing) (r : Response) (id : ℕ) (x : Transaction) (bytes : List ℕ) (knows : KnowsLegs s) (waiting : KnowsWaiting s) (there : slice_get s.calls.calls place ≡ Some c) (stands : c.call.standing ≡ Some n) (to : RespondsToOffer s r id x c) (read : message_of bytes ≡ Ok (Kinds.Response r)) (reaches : is_unreachable_message (Kinds.Response r) ≡ false) (class : class_of r.status ≡ Success) where
  pub sound : HasSoundLegs c
  sound = all_at HasSoundLegs s.calls.calls place c knows.dialogs.calls there

  pub target : IsTargetIf (reached_at (contacts_of r.headers))
  target = reached_target reading r.parts r.headers (response_may_offer r.parts x to.answers to.offers) (response_reached r reaches class)

  -- ---- a later one

  pub answered_fits : (old : LegDialog) → dialog_of (other (offerer_of c.call.standing)) c.call ≡ Some old → FitsComing c (answers_leg s.calls.calls place x.parts r)
  answered_fits old is = answers_fits s.calls.calls place x.parts r c old there sound target is

  -- ---- the first one

  offers : IsOffering x
  offers = record { client = answered_client r.parts x to.answers; offers = to.offers }

  asks_callee : n.offerer ≡ Caller → asked_end x.parts c ≡ Callee
  asks_callee first =
      let o = opened x.parts c to.opens in
      let same : o.0 ≡ n = same_Some o.0 n (sym o.1.stands ∙ stands) in
      same_is (asked_end x.parts c) (other o.0.offerer) o.1.end ∙ ap (λ (m : Standing). other m.offerer) same ∙ ap other first

  pub reached : n.offerer ≡ Caller → c.call.callee ≡ None → (uri : Uri) × (reached_at (contacts_of r.headers) ≡ Some uri)
  reached first none =
      let tag : from_tag x ≡ c.callee_tag = sym (asked_leg x.parts c (ap (λ y. is_same y Callee) (asks_callee first))) in
      let invite : is_invite x.parts ≡ true = all_at (AsksFirst x) s.calls.calls place c (knows.callees.requests id x to.there offers) there tag none in
      let invited : is_invite r.parts ≡ true = subst (λ m. pointwise nat_eq m (codes "INVITE") ≡ true) (sym (response_method r.parts x to.answers)) invite in
      some_of (reached_at (contacts_of r.headers)) (one_reached (contacts_of r.headers) (names bytes r read invited (success_is r.status class)))

  pub counted : n.offerer ≡ Caller → IsCounted x.parts.cseq.number c.call.callee
  counted first =
      subst (λ end. IsCounted x.parts.cseq.number (dialog_of end c.call)) (asks_callee first) (fits_at x s.calls.calls place c (waiting.awaited id x to.there offers) there to.tag).counted
