-- A BYE in the dialog of a 2xx that no call takes leaves each call of the trace alone: it is in no dialog of theirs
-- (RFC 3261 section 13.2.2.4).
use Rattle.std.proofs.Common.{◌≡◌, ◌≢◌, ◌∙◌, ℕ, suc, ◌==◌, ◌&&◌, Bool, true, false, cond, List, [], ◌∷◌, Option, Some, None, refl, ap, sym, subst, inl, inr}
use Rattle.std.specs.Prelude.{◌⊎◌, slice_get}
use Rattle.std.specs.Cmp.Lexicographic.{bytes_decides}
use Rattle.std.specs.List.{All}
use Rattle.std.proofs.lemmas.Bool.{false≢true}
use Rattle.std.proofs.lemmas.List.Elements.{All-head, All-tail}
use Rattle.std.proofs.lemmas.Option.{same_Some}
use Rattle.sip_message.specs.declared.message.Parts.{Parts}
use Rattle.sip_message.specs.declared.message.Response.{Response}
use Rattle.sip_message.specs.Words.{tag_text}
use Rattle.dialogs.specs.declared.state.Dialog.{Dialog as LegDialog}
use Rattle.transactions.specs.declared.transaction.Transaction.{Transaction}
use Rattle.call_media.specs.Ends.{is_same, other}
use Rattle.call_media.specs.declared.end.End.TheVariants.{Callee, Caller}
use Rattle.call_media.specs.declared.session.Session.{Session as CallSession}
use Rattle.call_core.specs.Calls.{dialog_of as dialog_with}
use Rattle.call_core.specs.declared.stage.Stage.{Stage}
use Rattle.call_core.specs.declared.stage.Stage.TheVariants as stages
use Rattle.call_core.specs.declared.stage.Standing.{Standing}
use Rattle.calls.specs.Finding.{has_tag, is_text}
use Rattle.calls.specs.declared.standing_call.StandingCall.{StandingCall}
use Rattle.call_rules.specs.Responses.{asked_end, asked_place, awaits_final, has_their_tag, is_last_in, is_of_known_dialog, is_open, is_open_in}
use Rattle.call_trace.specs.declared.call.Call.{Call}
use Rattle.call_trace.specs.declared.call.Stage.{Stage as TraceStage}
use Rattle.call_trace.specs.declared.call.Stage.TheVariants.{Answered, Asked, Ending}
use Rattle.call_trace.specs.declared.datagram.Datagram.{Datagram}
use Rattle.call_trace.specs.declared.datagram.Dialog.{Dialog}
use Rattle.call_trace.specs.declared.datagram.Message.{Message}
use Rattle.call_trace.specs.Events.{dialog_sent, sent_at}
use Rattle.call_trace.specs.Listed.{AllOf}
use Rattle.call_trace.specs.Lives.{SparesCall}
use Rattle.call_trace.proofs.Members.{all_at}
use Rattle.message_laws.specs.CalleeDialogs.{FitsStage, HasCallee, IsUnanswered, is_unanswered}
use Rattle.message_laws.specs.Knowing.{AreApart, HasMadeTags}
use Rattle.message_laws.proofs.Messages.ResponseViews.{IsForked}
use Rattle.message_laws.proofs.AwaitedOffers.Tagged.{asked_callee, differs_at, named_place, one_tagged, tagged}
use Rattle.media_laws.specs.Listing.{Listed}
use Rattle.media_laws.specs.Shows.{ShowsCall, ShowsCallee, ShowsSettled, ShowsStage, ShowsStanding}
use Rattle.media_laws.specs.Lateness.{HaveNot, IsLate}
use Rattle.media_laws.proofs.Copies.CallTags.{shown_tag}

-- ---- which calls

-- the tag is that of its leg to the callee, in which it has a dialog other than that of this 2xx, and it does not
-- wait for the request
pub record IsOtherDialog (asked : Parts) (r : Response) (c : StandingCall) : Type 0 where
  pub callee : tag_text asked.from.params ≡ c.callee_tag
  pub differ : c.call.caller.id.ours ≢ c.callee_tag
  pub theirs : has_their_tag r c.call.callee ≡ false
  pub closed : is_open asked c ≡ false

abbrev pub IsAside : Parts → Response → StandingCall → Type 0
IsAside asked r c = HaveNot (tag_text asked.from.params) c ⊎ IsOtherDialog asked r c

all_by_place : {X : Type 0} (P : X → Type 0) (xs : List X) → ((i : ℕ) (x : X) → slice_get xs i ≡ Some x → P x) → AllOf P xs
all_by_place P [] h = tt
all_by_place P (x ∷ xs) h = (h 0 x refl, all_by_place P xs (λ i y there. h (suc i) y there))

module _ (calls : List StandingCall) (asked : Parts) (r : Response) (apart : AreApart calls) (forked : IsForked calls asked r) (late : IsLate calls asked) where
  place_named : (i : ℕ) (c : StandingCall) → slice_get calls i ≡ Some c → has_tag (tag_text asked.from.params) c ≡ true → asked_place calls asked ≡ Some i
  unfolding asked_place
  place_named i c there has = named_place (tag_text asked.from.params) calls i c apart there has

  closed_at : (i : ℕ) (c : StandingCall) → slice_get calls i ≡ Some c → has_tag (tag_text asked.from.params) c ≡ true → is_open asked c ≡ false
  closed_at i c there has = elim late [
    | inl none ↦ absurd (false≢true (sym (all_at (HaveNot (tag_text asked.from.params)) calls i c none there) ∙ has))
    | inr k ↦ (let place : k.place ≡ i = one_tagged (tag_text asked.from.params) calls k.place i k.call c apart k.there there (tagged _ k.call k.tag) (tagged _ c has) in
        let same : k.call ≡ c = same_Some k.call c (sym k.there ∙ ap (slice_get calls) place ∙ there) in
        subst (λ x. is_open asked x ≡ false) same k.closed)
  ]

  second : (b y : Bool) → cond b y true ≡ false → y ≡ false
  second true y e = e
  second false y e = absurd (false≢true (sym e))

  other_by : (i : ℕ) (c : StandingCall) → slice_get calls i ≡ Some c → is_open asked c ≡ false → (b : Bool) → is_text c.callee_tag (tag_text asked.from.params) ≡ b
      → is_of_known_dialog asked r c (cond b Callee Caller) ≡ false → IsOtherDialog asked r c
  other_by i c there closed true is unknown = record {
    callee = sym ((bytes_decides c.callee_tag (tag_text asked.from.params)).0 is);
    differ = differs_at calls i c apart there;
    theirs = second (asked.cseq.number == 1) (has_their_tag r c.call.callee) unknown;
    closed = closed;
  }
  other_by i c there closed false is unknown = absurd (false≢true (sym unknown))

  aside_at : (i : ℕ) (c : StandingCall) → slice_get calls i ≡ Some c → (b : Bool) → has_tag (tag_text asked.from.params) c ≡ b → IsAside asked r c
  aside_at i c there true has = inr (other_by i c there (closed_at i c there has) (is_text c.callee_tag (tag_text asked.from.params)) refl (forked i c (place_named i c there has) there))
  aside_at i c there false none = inl none

  pub all_aside : AllOf (IsAside asked r) calls
  all_aside = all_by_place (IsAside asked r) calls (λ i c there. aside_at i c there (has_tag (tag_text asked.from.params) c) refl)

-- ---- a call without a dialog with its callee waits for its first INVITE

unanswered_awaits : (stage : Stage) → is_unanswered stage ≡ true → awaits_final stage ≡ true
unanswered_awaits (stages.Asked rung) e = refl
unanswered_awaits (stages.Cancelling sent) e = refl
unanswered_awaits (stages.Answered interval) e = absurd (false≢true e)
unanswered_awaits stages.Settled e = absurd (false≢true e)
unanswered_awaits (stages.Reasked rung cancelled) e = absurd (false≢true e)
unanswered_awaits (stages.Reanswered interval) e = absurd (false≢true e)
unanswered_awaits stages.Updating e = absurd (false≢true e)
unanswered_awaits (stages.Ending interval) e = absurd (false≢true e)

all_true : (b : Bool) → b ≡ true → (b && true && true) ≡ true
all_true true e = refl
all_true false e = absurd (false≢true e)

opens_first : (asked : Parts) (c : StandingCall) (n : Standing) → c.call.standing ≡ Some n → IsUnanswered n → asked_end asked c ≡ Callee → c.call.callee ≡ None → is_open asked c ≡ true
opens_first asked c n st first end none =
    ap (is_open_in asked c) st
    ∙ (ap (λ x. awaits_final n.stage && is_same x (other n.offerer) && is_last_in asked.cseq.number (dialog_with x c.call)) end
    ∙ (ap (λ o. awaits_final n.stage && is_same Callee (other o) && is_last_in asked.cseq.number c.call.callee) first.offerer
    ∙ (ap (λ d. awaits_final n.stage && true && is_last_in asked.cseq.number d) none
    ∙ all_true (awaits_final n.stage) (unanswered_awaits n.stage first.stage))))

-- ---- what a trace shows of it

asked_answered : (x : Option CallSession) (d : TraceStage) → ShowsSettled x d → d ≡ Asked → ⊥
asked_answered None d shows is = shows
asked_answered (Some x) d shows is = let e : Asked ≡ Answered _ = sym is ∙ shows in absurd cc

module _ (slots : List (Option Transaction)) (begun : List Transaction) (t : List Datagram) where
  stage_none : (c : StandingCall) (n : Standing) (stage : Stage) (d : Call) → ShowsStage slots begun t c n stage d → d.stage ≡ Asked → c.call.callee ≡ None
  stage_none c n (stages.Asked rung) d h is = h.1
  stage_none c n (stages.Cancelling sent) d h is = absurd h
  stage_none c n (stages.Answered interval) d h is = absurd (asked_answered c.call.media.session d.stage h.0 is)
  stage_none c n stages.Settled d h is = absurd (asked_answered c.call.media.session d.stage h.0 is)
  stage_none c n (stages.Reasked rung cancelled) d h is = absurd (asked_answered c.call.media.session d.stage h.0 is)
  stage_none c n (stages.Reanswered interval) d h is = absurd (asked_answered c.call.media.session d.stage h.0 is)
  stage_none c n stages.Updating d h is = absurd (asked_answered c.call.media.session d.stage h.0 is)
  stage_none c n (stages.Ending interval) d h is = let e : Asked ≡ Ending _ = sym is ∙ h.0 in absurd cc

  standing_none : (c : StandingCall) (o : Option Standing) (d : Call) → ShowsStanding slots begun t c o d → d.stage ≡ Asked → c.call.callee ≡ None
  standing_none c None d h is = absurd h
  standing_none c (Some n) d h is = stage_none c n n.stage d h is

  standing_some : (c : StandingCall) (o : Option Standing) (d : Call) → ShowsStanding slots begun t c o d → (n : Standing) × (o ≡ Some n)
  standing_some c None d h = absurd h
  standing_some c (Some n) d h = (n, refl)

  -- a call with the tag that no longer waits has a dialog with its callee
  has_callee : (asked : Parts) (r : Response) (c : StandingCall) (d : Call) → HasCallee c → IsOtherDialog asked r c → ShowsCall slots begun t c d → c.call.callee ≢ None
  has_callee asked r c d callee k h none =
      let n = standing_some c c.call.standing d h.standing in
      let first : IsUnanswered n.0 = subst (λ x. FitsStage x n.0) none (callee n.0 n.1) in
      false≢true (sym k.closed ∙ opens_first asked c n.0 n.1 first (asked_callee asked c k.callee) none)

  -- ---- the BYE

  module _ (made : ℕ) (asked : Parts) (r : Response) (m : Message) (theirs : dialog_sent m ≡ record { call_id = asked.call_id; ours = tag_text asked.from.params; theirs = tag_text r.parts.to.params })
      (from : m.from_tag ≡ tag_text asked.from.params) where
    ours : (d : Dialog) → dialog_sent m ≡ d → tag_text asked.from.params ≡ d.ours
    ours d e = ap (λ (x : Dialog). x.ours) (sym theirs ∙ e)

    other_callee : (tag : List ℕ) (o : Option LegDialog) (d : Dialog) → o ≢ None → ShowsCallee tag o d → has_their_tag r o ≡ false → dialog_sent m ≢ d
    other_callee tag None d some shows unknown = absurd (some refl)
    other_callee tag (Some leg) d some shows unknown = λ e.
        let same : leg.id.theirs ≡ tag_text r.parts.to.params = ap (λ (x : Dialog). x.theirs) (sym shows ∙ sym e ∙ theirs) in
        false≢true (sym unknown ∙ (bytes_decides leg.id.theirs (tag_text r.parts.to.params)).1 same)

    spares_one : (c : StandingCall) (d : Call) → HasMadeTags made c → HasCallee c → ShowsCall slots begun t c d → IsAside asked r c → SparesCall (sent_at 0 m) d
    spares_one c d own callee h (inl none) = record {
      caller = λ stays e. false≢true (sym none ∙ shown_tag made (tag_text asked.from.params) c d own h.legs (inl (ours d.caller e)));
      callee = λ stays e. false≢true (sym none ∙ shown_tag made (tag_text asked.from.params) c d own h.legs (inr (ours d.callee e)));
      first = λ stage e. false≢true (sym none ∙ shown_tag made (tag_text asked.from.params) c d own h.legs (inr (sym from ∙ e)));
    }
    spares_one c d own callee h (inr k) = record {
      caller = λ stays e. k.differ (sym (ours d.caller e ∙ ap (λ (x : Dialog). x.ours) h.legs.caller) ∙ k.callee);
      callee = λ stays e. other_callee c.callee_tag c.call.callee d.callee (has_callee asked r c d callee k h) h.legs.callee k.theirs e;
      first = λ stage e. has_callee asked r c d callee k h (standing_none c c.call.standing d h.standing stage);
    }

    pub spares_all : (cs : List StandingCall) (ds : List Call) → All (HasMadeTags made) cs → All HasCallee cs → AllOf (IsAside asked r) cs → Listed (ShowsCall slots begun t) cs ds → AllOf (SparesCall (sent_at 0 m)) ds
    spares_all [] ds own callees aside h = subst (AllOf (SparesCall (sent_at 0 m))) (sym h) tt
    spares_all (c ∷ cs) ds own callees aside (inl h) = spares_all cs ds (All-tail (HasMadeTags made) c cs own) (All-tail HasCallee c cs callees) aside.1 h.1
    spares_all (c ∷ cs) ds own callees aside (inr h) =
        subst (AllOf (SparesCall (sent_at 0 m))) (sym h.3) (
          spares_one c h.1 (All-head (HasMadeTags made) c cs own) (All-head HasCallee c cs callees) h.4 aside.0,
          spares_all cs h.2 (All-tail (HasMadeTags made) c cs own) (All-tail HasCallee c cs callees) aside.1 h.5,
        )
