-- What is listed of the calls that an end has left is what has ended in the trace.
use Rattle.std.proofs.Common.{◌≡◌, ◌≢◌, ◌∙◌, Bool, true, false, List, [], ◌∷◌, Option, Some, None, option_map, ap, refl, sym, subst, inl, inr, ◌⊎◌}
use Rattle.std.specs.List.{All}
use Rattle.std.proofs.lemmas.Bool.{false≢true}
use Rattle.std.proofs.lemmas.List.Elements.{All-head, All-tail}
use Rattle.call_core.specs.Calls.{has_session, holds_in}
use Rattle.call_core.specs.declared.stage.Stage.{Stage}
use Rattle.call_core.specs.declared.stage.Stage.TheVariants as stages
use Rattle.call_core.specs.declared.stage.Standing.{Standing}
use Rattle.call_media.specs.Ends.{other}
use Rattle.call_media.specs.declared.end.End.{End}
use Rattle.call_media.specs.declared.end.End.TheVariants.{Callee, Caller}
use Rattle.call_media.specs.declared.session.Session.{Session}
use Rattle.call_trace.specs.declared.call.Call.{Call}
use Rattle.call_trace.specs.declared.call.Settled.{Settled}
use Rattle.call_trace.specs.declared.call.Stage.TheVariants.{Answered, Asked, Ending}
use Rattle.call_trace.specs.declared.datagram.Datagram.{Datagram}
use Rattle.call_trace.specs.declared.datagram.Dialog.{Dialog}
use Rattle.call_trace.specs.Calls.{CallFrom, Ended, Live}
use Rattle.call_trace.specs.Listed.{AllOf, AnyOf}
use Rattle.call_trace.specs.Lives.{IsLegOf, LivesExactly, Stands}
use Rattle.call_trace.specs.Messages.{offering}
use Rattle.call_trace.specs.Stands.{IsCallOf, leg}
use Rattle.calls.specs.declared.standing_call.StandingCall.{StandingCall}
use Rattle.dialogs.specs.declared.state.Dialog.{Dialog as LegDialog}
use Rattle.plans.specs.Office.{Office}
use Rattle.message_laws.specs.CalleeDialogs.{FitsStage, HasCallee, KnowsCallees, is_unanswered}
use Rattle.media_laws.specs.Keeping.{dialog_with_callee, dialog_with_caller}
use Rattle.media_laws.specs.Leaving.{HasDialog, IsLeaving, IsLeft, ListsLeft, dialog_with, is_ending}
use Rattle.media_laws.specs.Listing.{Listed, is_listed_stage}
use Rattle.media_laws.specs.Shows.{ShowsCall, ShowsCallee, ShowsSettled, ShowsStage, ShowsStanding, is_caller, settled_of}
use Rattle.trace_reading.specs.Message.{dialog_named}
use Rattle.transactions.specs.declared.transaction.Transaction.{Transaction}

-- ---- what a trace shows of a stage

data ShownAs (x : Call) (o : Option Standing) : Type 0 where
  asked : x.stage ≡ Asked → ShownAs x o
  talking : (z : Settled) → x.stage ≡ Answered z → holds_in has_session o ≡ true → ShownAs x o
  ending : (n : Standing) → o ≡ Some n → x.stage ≡ Ending (is_caller (other n.offerer)) → holds_in is_ending o ≡ true → ShownAs x o

settled_as : (n : Standing) (o : Option Session) (x : Call) → ShowsSettled o x.stage → has_session n.stage ≡ true → ShownAs x (Some n)
settled_as n None x h has = absurd h
settled_as n (Some y) x h has = talking (settled_of y) h has

ending_listed : (stage : Stage) → is_ending stage ≡ true → is_listed_stage stage ≡ true
ending_listed (stages.Asked rung) h = absurd (false≢true h)
ending_listed (stages.Cancelling sent) h = absurd (false≢true h)
ending_listed (stages.Answered interval) h = absurd (false≢true h)
ending_listed stages.Settled h = absurd (false≢true h)
ending_listed (stages.Reasked rung cancelled) h = absurd (false≢true h)
ending_listed (stages.Reanswered interval) h = absurd (false≢true h)
ending_listed stages.Updating h = absurd (false≢true h)
ending_listed (stages.Ending interval) h = refl

speaking_answered : (stage : Stage) → (has_session stage ≡ true) ⊎ (is_ending stage ≡ true) → is_unanswered stage ≡ false
speaking_answered (stages.Asked rung) (inl h) = absurd (false≢true h)
speaking_answered (stages.Asked rung) (inr h) = absurd (false≢true h)
speaking_answered (stages.Cancelling sent) (inl h) = absurd (false≢true h)
speaking_answered (stages.Cancelling sent) (inr h) = absurd (false≢true h)
speaking_answered (stages.Answered interval) h = refl
speaking_answered stages.Settled h = refl
speaking_answered (stages.Reasked rung cancelled) h = refl
speaking_answered (stages.Reanswered interval) h = refl
speaking_answered stages.Updating h = refl
speaking_answered (stages.Ending interval) h = refl

abbrev IsSpeaking : Option Standing → Type 0
IsSpeaking o = (holds_in has_session o ≡ true) ⊎ (holds_in is_ending o ≡ true)

-- a call of the trace that an end has left
record IsLeftCall (dx dy : Dialog) (x : Call) : Type 0 where
  call : IsCallOf dx dy x
  lives : (z : Settled) → x.stage ≡ Answered z → ⊥

-- ---- its dialog with the callee

callee_by : (n : Standing) (o : Option LegDialog) → FitsStage o n → is_unanswered n.stage ≡ false → (d : LegDialog) × (o ≡ Some d)
callee_by n None fits answered = absurd (false≢true (sym answered ∙ fits.stage))
callee_by n (Some d) fits answered = (d, refl)

callee_in : (c : StandingCall) (o : Option Standing) → HasCallee c → c.call.standing ≡ o → IsSpeaking o → (d : LegDialog) × (c.call.callee ≡ Some d)
callee_in c None own stands (inl h) = absurd (false≢true h)
callee_in c None own stands (inr h) = absurd (false≢true h)
callee_in c (Some n) own stands speaks = callee_by n c.call.callee (own n stands) (speaking_answered n.stage speaks)

callee_shown : (tag : _) (o : Option LegDialog) (d : LegDialog) (y : Dialog) → o ≡ Some d → ShowsCallee tag o y → option_map (λ (v : LegDialog). dialog_named v.id) o ≡ Some y
callee_shown tag o d y is h =
    let same : y ≡ dialog_named d.id = subst (λ v. ShowsCallee tag v y) is h in
    ap (option_map (λ (v : LegDialog). dialog_named v.id)) is ∙ ap (λ (v : Dialog). Some v) (sym same)

module _ (slots : List (Option Transaction)) (begun : List Transaction) (t : List Datagram) where
  stage_as : (c : StandingCall) (n : Standing) (stage : Stage) (x : Call) → n.stage ≡ stage → ShowsStage slots begun t c n stage x → ShownAs x (Some n)
  stage_as c n (stages.Asked rung) x is h = asked h.0
  stage_as c n (stages.Cancelling sent) x is h = absurd h
  stage_as c n (stages.Answered interval) x is h = settled_as n c.call.media.session x h.0 (ap has_session is)
  stage_as c n stages.Settled x is h = settled_as n c.call.media.session x h.0 (ap has_session is)
  stage_as c n (stages.Reasked rung cancelled) x is h = settled_as n c.call.media.session x h.0 (ap has_session is)
  stage_as c n (stages.Reanswered interval) x is h = settled_as n c.call.media.session x h.0 (ap has_session is)
  stage_as c n stages.Updating x is h = settled_as n c.call.media.session x h.0 (ap has_session is)
  stage_as c n (stages.Ending interval) x is h = ending n refl h.0 (ap is_ending is)

  shown_as : (c : StandingCall) (o : Option Standing) (x : Call) → ShowsStanding slots begun t c o x → ShownAs x o
  shown_as c None x h = absurd h
  shown_as c (Some n) x h = stage_as c n n.stage x refl h

  callee_there : (c : StandingCall) (x : Call) → HasCallee c → ShowsCall slots begun t c x → IsSpeaking c.call.standing → dialog_with_callee c ≡ Some x.callee
  callee_there c x own shows speaks = let d = callee_in c c.call.standing own refl speaks in callee_shown c.callee_tag c.call.callee d.0 x.callee d.1 shows.legs.callee

  -- ---- the end that left

  abbrev EndsAs : Call → Type 0
  EndsAs x = (b : Bool) → x.stage ≡ Ending b → Ended t (leg x b)

  abbrev Left : StandingCall → Type 0
  Left c = (n : Standing) → c.call.standing ≡ Some n → is_ending n.stage ≡ true → IsLeft t c n

  left_at : (c : StandingCall) (x : Call) (n : Standing) (e : End) → other n.offerer ≡ e → dialog_with_caller c ≡ x.caller → dialog_with_callee c ≡ Some x.callee → Ended t (leg x (is_caller e)) → IsLeft t c n
  left_at c x n Caller is caller callee ended = record { dialog = x.caller; with_it = ap (λ (e : End). dialog_with e c) is ∙ ap (λ (d : Dialog). Some d) caller; ended = ended }
  left_at c x n Callee is caller callee ended = record { dialog = x.callee; with_it = ap (λ (e : End). dialog_with e c) is ∙ callee; ended = ended }

  one_left : (c : StandingCall) (x : Call) → HasCallee c → ShowsCall slots begun t c x → EndsAs x → Left c
  one_left c x own shows ends = λ n stands ending_is.
      let shown : ShowsStage slots begun t c n n.stage x = subst (λ o. ShowsStanding slots begun t c o x) stands shows.standing in
      let speaks : IsSpeaking c.call.standing = inr (ap (holds_in is_ending) stands ∙ ending_is) in
      left_at c x n (other n.offerer) refl (sym shows.legs.caller) (callee_there c x own shows speaks) (ends (is_caller (other n.offerer)) (stage_left c n n.stage x ending_is shown)) where
        stage_left : (c : StandingCall) (n : Standing) (stage : Stage) (x : Call) → is_ending stage ≡ true → ShowsStage slots begun t c n stage x → x.stage ≡ Ending (is_caller (other n.offerer))
        stage_left c n (stages.Asked rung) x e h = absurd (false≢true e)
        stage_left c n (stages.Cancelling sent) x e h = absurd (false≢true e)
        stage_left c n (stages.Answered interval) x e h = absurd (false≢true e)
        stage_left c n stages.Settled x e h = absurd (false≢true e)
        stage_left c n (stages.Reasked rung cancelled) x e h = absurd (false≢true e)
        stage_left c n (stages.Reanswered interval) x e h = absurd (false≢true e)
        stage_left c n stages.Updating x e h = absurd (false≢true e)
        stage_left c n (stages.Ending interval) x e h = h.0

  unlisted : (c : StandingCall) → holds_in is_listed_stage c.call.standing ≡ false → Left c
  unlisted c none = λ n stands is. absurd (false≢true (sym (sym (ap (holds_in is_listed_stage) stands) ∙ none) ∙ ending_listed n.stage is))

  each_left : (cs : List StandingCall) (xs : List Call) → Listed (ShowsCall slots begun t) cs xs → All HasCallee cs → AllOf EndsAs xs → AllOf Left cs
  each_left [] xs h own ends = tt
  each_left (c ∷ cs) xs (inl h) own ends = (unlisted c h.0, each_left cs xs h.1 (All-tail HasCallee c cs own) ends)
  each_left (c ∷ cs) xs (inr h) own ends =
      let l : AllOf EndsAs (h.1 ∷ h.2) = subst (AllOf EndsAs) h.3 ends in
      (one_left c h.1 (All-head HasCallee c cs own) h.4 l.0, each_left cs h.2 h.5 (All-tail HasCallee c cs own) l.1)

  -- ---- a member of the trace's calls, and the agent's

  module _ (P : Call → Type 0) (Q : StandingCall → Type 0) (one : (c : StandingCall) (x : Call) → HasCallee c → ShowsCall slots begun t c x → P x → Q c) where
    member : (cs : List StandingCall) (xs : List Call) → Listed (ShowsCall slots begun t) cs xs → All HasCallee cs → AnyOf P xs → AnyOf Q cs
    member [] xs h own any = subst (AnyOf P) h any
    member (c ∷ cs) xs (inl h) own any = inr (member cs xs h.1 (All-tail HasCallee c cs own) any)
    member (c ∷ cs) xs (inr h) own any = elim (subst (AnyOf P) h.3 any) [
      | inl p ↦ inl (one c h.1 (All-head HasCallee c cs own) h.4 p)
      | inr more ↦ inr (member cs h.2 h.5 (All-tail HasCallee c cs own) more)
    ]

  -- ---- both dialogs of a call

  one_leaving : (dx dy : Dialog) (c : StandingCall) (x : Call) → HasCallee c → ShowsCall slots begun t c x → IsLeftCall dx dy x → IsLeaving dx dy c
  one_leaving dx dy c x own shows is =
      elim (shown_as c c.call.standing x shows.standing) [
        | asked h ↦ absurd (is.call.answered h)
        | talking z h has ↦ absurd (is.lives z h)
        | ending n stands h left ↦ record {
          left = left;
          caller = sym shows.legs.caller ∙ is.call.caller;
          callee = callee_there c x own shows (inr left) ∙ ap (λ (d : Dialog). Some d) is.call.callee;
        }
      ]

  abbrev LivesAs : Call → Type 0
  LivesAs x = (z : Settled) → x.stage ≡ Answered z → CallFrom offering t x.caller x.callee × Live t x.caller × Live t x.callee

  left_call : (dx dy : Dialog) (x : Call) → Ended t dx ⊎ Ended t dy → LivesAs x → IsCallOf dx dy x → IsLeftCall dx dy x
  left_call dx dy x (inl h) lives is = record { call = is; lives = λ z answered. (lives z answered).1.1 (subst (Ended t) (sym is.caller) h) }
  left_call dx dy x (inr h) lives is = record { call = is; lives = λ z answered. (lives z answered).2.1 (subst (Ended t) (sym is.callee) h) }

  left_calls : (dx dy : Dialog) (xs : List Call) → Ended t dx ⊎ Ended t dy → AllOf LivesAs xs → AnyOf (IsCallOf dx dy) xs → AnyOf (IsLeftCall dx dy) xs
  left_calls dx dy [] h lives any = any
  left_calls dx dy (x ∷ xs) h lives (inl is) = inl (left_call dx dy x h lives.0 is)
  left_calls dx dy (x ∷ xs) h lives (inr more) = inr (left_calls dx dy xs h lives.1 more)

  -- ---- a dialog of a call

  one_dialog : (d : Dialog) (c : StandingCall) (x : Call) → HasCallee c → ShowsCall slots begun t c x → IsLegOf d x → HasDialog d c
  one_dialog d c x own shows is = record { answered = speaks; leg = leg_of is.leg } where
    speaks : IsSpeaking c.call.standing
    speaks = elim (shown_as c c.call.standing x shows.standing) [
      | asked h ↦ absurd (is.answered h)
      | talking z h has ↦ inl has
      | ending n stands h left ↦ inr left
    ]

    leg_of : (x.caller ≡ d) ⊎ (x.callee ≡ d) → (dialog_with_caller c ≡ d) ⊎ (dialog_with_callee c ≡ Some d)
    leg_of (inl h) = inl (sym shows.legs.caller ∙ h)
    leg_of (inr h) = inr (callee_there c x own shows speaks ∙ ap (λ (v : Dialog). Some v) h)

pub left_listed : (s : Office) (begun : List Transaction) (t : List Datagram) (calls : List Call) (k : _) → KnowsCallees s → Listed (ShowsCall s.table.slots begun t) s.calls.calls calls → LivesExactly offering calls t → Stands offering calls k t
    → ListsLeft s.calls.calls t
left_listed s begun t calls k callees shown lives stands = record {
  left = each_left s.table.slots begun t s.calls.calls calls shown callees.calls lives.ending;
  both = λ dx dy call ended.
      elim (stands.sessions.known dx dy call) [
        | inl any ↦ inl (member s.table.slots begun t (IsLeftCall dx dy) (IsLeaving dx dy) (one_leaving s.table.slots begun t dx dy) s.calls.calls calls shown callees.calls
            (left_calls s.table.slots begun t dx dy calls ended lives.answered any))
        | inr both ↦ inr both
      ];
  begun = λ d has_begun.
      elim (stands.lives.begun d has_begun) [
        | inl any ↦ inl (member s.table.slots begun t (IsLegOf d) (HasDialog d) (one_dialog s.table.slots begun t d) s.calls.calls calls shown callees.calls any)
        | inr ended ↦ inr ended
      ];
}
