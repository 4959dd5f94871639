-- The calls that were answered, and that no end has left, are exactly the live ones.
use Rattle.std.proofs.Common.{◌≡◌, ◌∙◌, ℕ, true, false, is_some, List, [], ◌∷◌, Option, Some, None, option_map, ap, refl, sym, subst, inl, inr}
use Rattle.std.specs.List.{All}
use Rattle.std.proofs.lemmas.Bool.{false≢true}
use Rattle.std.proofs.lemmas.List.Elements.{All-head, All-tail}
use Rattle.call_core.specs.Calls.{has_session, holds_in}
use Rattle.call_core.specs.declared.stage.Stage.{Stage}
use Rattle.call_core.specs.declared.stage.Stage.TheVariants as stages
use Rattle.call_core.specs.declared.stage.Standing.{Standing}
use Rattle.call_media.specs.declared.session.Session.{Session}
use Rattle.call_trace.specs.declared.call.Call.{Call}
use Rattle.call_trace.specs.declared.call.Settled.{Settled}
use Rattle.call_trace.specs.declared.call.Stage.TheVariants.{Answered}
use Rattle.call_trace.specs.declared.datagram.Datagram.{Datagram}
use Rattle.call_trace.specs.declared.datagram.Dialog.{Dialog}
use Rattle.call_trace.specs.Calls.{CallFrom, Live}
use Rattle.call_trace.specs.Listed.{AllOf, AnyOf}
use Rattle.call_trace.specs.Lives.{IsAnsweredCall, LivesExactly, Stands}
use Rattle.call_trace.specs.Messages.{offering}
use Rattle.calls.specs.declared.standing_call.StandingCall.{StandingCall}
use Rattle.dialogs.specs.declared.state.Dialog.{Dialog as LegDialog}
use Rattle.plans.specs.Office.{Office}
use Rattle.message_laws.specs.CalleeDialogs.{FitsStage, HasCallee, KnowsCallees, is_unanswered}
use Rattle.message_laws.specs.Serving.{AreStaged, IsStaged}
use Rattle.media_laws.specs.Listing.{Listed}
use Rattle.media_laws.specs.Shows.{ShowsCall, ShowsCallee}
use Rattle.trace_reading.specs.Message.{dialog_named}
use Rattle.transactions.specs.declared.transaction.Transaction.{Transaction}
use Rattle.media_laws.specs.Keeping.{dialog_with_caller}
use Rattle.media_laws.specs.Living.{IsLiveCall, IsTalking, ListsLive}
use Rattle.media_laws.proofs.WholePromise.LeftCalls.{left_listed}
use Rattle.media_laws.proofs.WholePromise.ListedOnce.{talk_apart}
use Rattle.media_laws.proofs.WholePromise.Sessions.{bare, standing_session, standing_settled}

-- ---- the dialog with the callee

stage_unanswered : (stage : Stage) → has_session stage ≡ true → is_unanswered stage ≡ false
stage_unanswered (stages.Asked rung) h = absurd (false≢true h)
stage_unanswered (stages.Cancelling sent) h = absurd (false≢true h)
stage_unanswered (stages.Answered interval) h = refl
stage_unanswered stages.Settled h = refl
stage_unanswered (stages.Reasked rung cancelled) h = refl
stage_unanswered (stages.Reanswered interval) h = refl
stage_unanswered stages.Updating h = refl
stage_unanswered (stages.Ending interval) h = absurd (false≢true h)

callee_by : (n : Standing) (o : Option LegDialog) → FitsStage o n → has_session n.stage ≡ true → (d : LegDialog) × (o ≡ Some d)
callee_by n None fits has = absurd (false≢true (sym (stage_unanswered n.stage has) ∙ fits.stage))
callee_by n (Some d) fits has = (d, refl)

callee_in : (c : StandingCall) (o : Option Standing) → HasCallee c → c.call.standing ≡ o → holds_in has_session o ≡ true → (d : LegDialog) × (c.call.callee ≡ Some d)
callee_in c None own stands has = absurd (false≢true has)
callee_in c (Some n) own stands has = callee_by n c.call.callee (own n stands) has

callee_shown : (tag : _) (o : Option LegDialog) (d : LegDialog) (y : Dialog) → o ≡ Some d → ShowsCallee tag o y → y ≡ dialog_named d.id
callee_shown tag o d y is h = subst (λ v. ShowsCallee tag v y) is h

session_there : (o : Option Session) → is_some o ≡ true → (y : Session) × (o ≡ Some y)
session_there None h = absurd (false≢true h)
session_there (Some y) h = (y, refl)

module _ (slots : List (Option Transaction)) (begun : List Transaction) (t : List Datagram) where
  abbrev LivesAs : Call → Type 0
  LivesAs x = (z : Settled) → x.stage ≡ Answered z → CallFrom offering t x.caller x.callee × Live t x.caller × Live t x.callee

  abbrev Lives : StandingCall → Type 0
  Lives c = holds_in has_session c.call.standing ≡ true → IsLiveCall t c

  one_lives : (c : StandingCall) (x : Call) → IsStaged c.call → HasCallee c → ShowsCall slots begun t c x → LivesAs x → Lives c
  one_lives c x staged own shows lives has =
      let y = session_there c.call.media.session (staged.session ∙ has) in
      let z = standing_session slots begun t c c.call.standing x y.0 staged refl shows.standing y.1 in
      let f = lives z.0 z.1 in
      let d = callee_in c c.call.standing own refl has in
      let caller : x.caller ≡ dialog_with_caller c = shows.legs.caller in
      let callee : x.callee ≡ dialog_named d.0.id = callee_shown c.callee_tag c.call.callee d.0 x.callee d.1 shows.legs.callee in
      record {
        callee = dialog_named d.0.id;
        talks = record { answered = has; caller = refl; callee = ap (λ (o : Option LegDialog). option_map (λ (v : LegDialog). dialog_named v.id) o) d.1 };
        call = subst (λ v. CallFrom offering t v (dialog_named d.0.id)) caller (subst (CallFrom offering t x.caller) callee f.0);
        caller_lives = subst (Live t) caller f.1;
        callee_lives = subst (Live t) callee f.2;
      }

  each_lives : (cs : List StandingCall) (xs : List Call) → Listed (ShowsCall slots begun t) cs xs → AllOf (λ c. IsStaged c.call) cs → All HasCallee cs → AllOf LivesAs xs → AllOf Lives cs
  each_lives [] xs h staged own lives = tt
  each_lives (c ∷ cs) xs (inl h) staged own lives = ((λ has. absurd (false≢true (sym (bare c.call.standing h.0).0 ∙ has))), each_lives cs xs h.1 staged.1 (All-tail HasCallee c cs own) lives)
  each_lives (c ∷ cs) xs (inr h) staged own lives =
      let l : AllOf LivesAs (h.1 ∷ h.2) = subst (AllOf LivesAs) h.3 lives in
      (one_lives c h.1 staged.0 (All-head HasCallee c cs own) h.4 l.0, each_lives cs h.2 h.5 staged.1 (All-tail HasCallee c cs own) l.1)

  -- ---- and each that lives is one of them

  one_talks : (caller callee : Dialog) (c : StandingCall) (x : Call) → IsStaged c.call → HasCallee c → ShowsCall slots begun t c x → IsAnsweredCall caller callee x → IsTalking caller callee c
  one_talks caller callee c x staged own shows is =
      let y = standing_settled slots begun t c c.call.standing x is.answered.0 shows.standing is.answered.1 in
      let has : holds_in has_session c.call.standing ≡ true = sym staged.session ∙ ap is_some y.1 in
      let d = callee_in c c.call.standing own refl has in
      record {
        answered = has;
        caller = sym shows.legs.caller ∙ is.caller;
        callee = ap (λ (o : Option LegDialog). option_map (λ (v : LegDialog). dialog_named v.id) o) d.1 ∙ ap (λ (v : Dialog). Some v) (sym (callee_shown c.callee_tag c.call.callee d.0 x.callee d.1 shows.legs.callee) ∙ is.callee);
      }

  one_of_them : (caller callee : Dialog) (cs : List StandingCall) (xs : List Call) → Listed (ShowsCall slots begun t) cs xs → AllOf (λ c. IsStaged c.call) cs → All HasCallee cs → AnyOf (IsAnsweredCall caller callee) xs → AnyOf (IsTalking caller callee) cs
  one_of_them caller callee [] xs h staged own any = subst (AnyOf (IsAnsweredCall caller callee)) h any
  one_of_them caller callee (c ∷ cs) xs (inl h) staged own any = inr (one_of_them caller callee cs xs h.1 staged.1 (All-tail HasCallee c cs own) any)
  one_of_them caller callee (c ∷ cs) xs (inr h) staged own any = elim (subst (AnyOf (IsAnsweredCall caller callee)) h.3 any) [
    | inl is ↦ inl (one_talks caller callee c h.1 staged.0 (All-head HasCallee c cs own) h.4 is)
    | inr more ↦ inr (one_of_them caller callee cs h.2 h.5 staged.1 (All-tail HasCallee c cs own) more)
  ]

pub live_listed : (s : Office) (begun : List Transaction) (t : List Datagram) (calls : List Call) (k : ℕ) → AreStaged s → KnowsCallees s → Listed (ShowsCall s.table.slots begun t) s.calls.calls calls → LivesExactly offering calls t → Stands offering calls k t → ListsLive s.calls.calls t
live_listed s begun t calls k staged callees shown lives stands = record {
  live = each_lives s.table.slots begun t s.calls.calls calls shown staged callees.calls lives.answered;
  listed = λ caller callee call a b. one_of_them s.table.slots begun t caller callee s.calls.calls calls shown staged callees.calls (lives.listed caller callee call a b);
  once = talk_apart s.table.slots begun t s.calls.calls calls shown lives.once;
  left = left_listed s begun t calls k callees shown lives stands;
  one_call = lives.one_call;
}
