-- The live calls are served after a step of one of them, and after one begins.
use Rattle.std.proofs.Common.{◌≡◌, ◌≢◌, ◌∙◌, ◌==◌, ◌+◌, ◌++◌, ℕ, zero, suc, Bool, true, false, cond, List, [], ◌∷◌, set, Option, Some, None, is_some, refl, sym, ap, subst, arith}
use Rattle.std.specs.Prelude.{slice_get}
use Rattle.std.specs.List.{remove}
use Rattle.std.proofs.lemmas.Bool.{eqb-true, eq-eqb, false≢true}
use Rattle.port_pool.specs.Holdings.{even_of, holder_at, is_among}
use Rattle.port_pool.specs.Pool.{Contents, is_port_of}
use Rattle.sip_uri.specs.declared.uri.Uri.{Uri}
use Rattle.dialogs.specs.declared.state.Dialog.{Dialog}
use Rattle.offer_answer.specs.declared.range.OwnRange.{OwnRange}
use Rattle.call_media.specs.declared.end.End.{End}
use Rattle.call_media.specs.declared.end.End.TheVariants.{Callee, Caller}
use Rattle.call_media.specs.declared.session.Session.{Session}
use Rattle.call_media.specs.declared.state.CallMedia.{CallMedia}
use Rattle.call_media.specs.Serving.{SameFor, Serves, SparesOthers}
use Rattle.call_media.specs.Sessions.{pairs_listed}
use Rattle.call_core.specs.declared.call.Call.{Call}
use Rattle.call_core.specs.Calls.{IsServed, awaits_answer, has_session, holds_in, with_dialog, with_target}
use Rattle.call_core.specs.Plans.{Step}
use Rattle.calls.specs.Carrying.{changed_at, with_dialog_at, with_step}
use Rattle.calls.specs.Changes.{after_first_step, after_step, beside}
use Rattle.calls.specs.State.{AreKept, Standing}
use Rattle.calls.specs.declared.change.Beside.{Beside}
use Rattle.calls.specs.declared.change.LegDialog.{LegDialog}
use Rattle.calls.specs.declared.standing_call.StandingCall.{StandingCall}
use Rattle.call_trace.specs.Listed.{AllOf}
use Rattle.message_laws.proofs.Messages.Besides.{beside_same}
use Rattle.message_laws.specs.Serving.{IsServedAsAsked, IsServing, IsStaged}
use Rattle.calls.proofs.KeptLaws.{Spared, kept_pushed, kept_put, kept_remove, kept_set, number_beside, standing_beside}
use Rattle.call_media.proofs.HeldLaws.{holder_of_own, own_holder}
use Rattle.call_media.proofs.ServeLaws.{Owns}
use Rattle.message_laws.proofs.StandingCalls.CallLists.{HasNumber, all_at, all_left, all_pushed, all_put, all_set, all_spared, all_weaker, all_with_served, new_differs, number_last, number_left, number_pushed, number_set, number_there}
use Rattle.message_laws.proofs.StandingCalls.CallSteps.{GoesOn, IsAsked, none_there, served_after}
use Rattle.message_laws.proofs.StandingCalls.MediaSteps.{asked_spared}

-- ---- what is put beside a call leaves its media

dialog_media : (end : End) (d : Dialog) (c : Call) → (with_dialog end d c).media ≡ c.media
dialog_media Caller d c = refl
dialog_media Callee d c = refl

dialog_number : (end : End) (d : Dialog) (c : Call) → (with_dialog end d c).number ≡ c.number
dialog_number Caller d c = refl
dialog_number Callee d c = refl

dialog_standing : (end : End) (d : Dialog) (c : Call) → (with_dialog end d c).standing ≡ c.standing
dialog_standing Caller d c = refl
dialog_standing Callee d c = refl

target_media : (end : End) (target : Uri) (c : Call) → (with_target end target c).media ≡ c.media
target_media Caller target c = refl
target_media Callee target c = refl

media_beside : (kept : Beside) (c : StandingCall) → (beside kept c).call.media ≡ c.call.media
media_beside kept c = beside_same (λ (c : Call). c.media) dialog_media target_media c kept

same_served : (pool : Contents) (new c : Call) → new.media ≡ c.media → new.number ≡ c.number → new.standing ≡ c.standing → IsServed c pool → IsServed new pool
same_served pool new c media number standing served = record {
  number = ap (λ (m : CallMedia). m.number) media ∙ served.number ∙ sym number;
  media = subst (λ m. Serves m pool) (sym media) served.media;
  offer = ap (λ (m : CallMedia). is_some m.offer) media ∙ served.offer ∙ sym (ap (holds_in awaits_answer) standing);
  session = ap (λ (m : CallMedia). is_some m.session) media ∙ served.session ∙ sym (ap (holds_in has_session) standing);
}

same_asked : (server : OwnRange) (pool : Contents) (new c : CallMedia) → new ≡ c → IsServedAsAsked server pool c → IsServedAsAsked server pool new
same_asked server pool new c same asked = subst (IsServedAsAsked server pool) (sym same) asked

remove_set : (cs : List StandingCall) (place : ℕ) (new : StandingCall) → remove (set cs place new) place ≡ remove cs place
remove_set [] place new = refl
remove_set (x ∷ xs) zero new = refl
remove_set (x ∷ xs) (suc k) new = ap (λ (ys : List StandingCall). x ∷ ys) (remove_set xs k new)

-- ---- who holds a port

-- by another call than the one that changed, it was held before
held_before : (pool after : Contents) (number n port : ℕ) → SparesOthers number pool after → n ≢ number → holder_at after.holdings port ≡ Some n → holder_at pool.holdings port ≡ Some n
held_before pool after number n port spares differ held =
    let now : is_port_of after n port ≡ true = rw held (own_holder n) in
    holder_of_own n (holder_at pool.holdings port) (sym ((spares n differ).ports port) ∙ now)

-- a call that is gone holds none
gone_holds_none : (server : OwnRange) (c : Call) (pool : Contents) → c.media.number ≡ c.number → IsStaged c → IsServedAsAsked server pool c.media → is_some c.standing ≡ false → (port : ℕ)
    → holder_at pool.holdings port ≡ Some c.number → ⊥
gone_holds_none server c pool number staged asked gone port held =
    let nowhere = none_there c.standing gone in
    let settled = none_there c.media.offer (staged.offer ∙ ap (holds_in awaits_answer) nowhere) in
    let bare = none_there c.media.session (staged.session ∙ ap (holds_in has_session) nowhere) in
    let own : is_port_of pool c.media.number port ≡ true = rw (held, number) (own_holder c.number) in
    false≢true (ap (λ (session : Option Session). is_among (pairs_listed session) (even_of port)) (sym bare) ∙ asked.exact settled port own)

module _ (own : Owns) (law : Spared) (server : OwnRange) where
  abbrev Known : Contents → Call → Type 0
  Known pool c = IsServed c pool × IsServedAsAsked server pool c.media

  known_spared : (c : Call) (pool after : Contents) → Known pool c → SameFor c.number pool after → Known after c
  known_spared c pool after known same =
      (law c pool after known.0 same, asked_spared own server c.media pool after known.0.media known.1 (subst (λ n. SameFor n pool after) (sym known.0.number) same))

  all_known : (s : Standing) → IsServing server s → AllOf (λ c. Known s.pool c.call) s.calls
  all_known s k = all_with_served (λ c. IsServedAsAsked server s.pool c.call.media) s.pool s.calls k.kept.served k.calls

  asked_alone : (pool : Contents) (cs : List StandingCall) → AllOf (λ c. Known pool c.call) cs → AllOf (λ c. IsServedAsAsked server pool c.call.media) cs
  asked_alone pool cs all = all_weaker (λ c. Known pool c.call) (λ c. IsServedAsAsked server pool c.call.media) (λ c known. known.1) cs all

  pub known_at : (s : Standing) (place : ℕ) (c : StandingCall) → IsServing server s → slice_get s.calls place ≡ Some c → IsAsked server c.call s.pool
  known_at s place c k there = let known = all_at (λ c. Known s.pool c.call) s.calls place c (all_known s k) there in record { served = known.0; asked = known.1 }

  -- ---- a step of a live call

  module _ (s : Standing) (k : IsServing server s) (place now : ℕ) (put : Beside) (c : StandingCall) (there : slice_get s.calls place ≡ Some c) (x : Step) (h : GoesOn server c.call s.pool x) where
    abbrev new : StandingCall
    new = beside put (with_step c x)

    spares : SparesOthers c.call.number s.pool x.pool
    spares = subst (λ n. SparesOthers n s.pool x.pool) (known_at s place c k there).served.number h.goes.spares

    new_number : new.call.number ≡ c.call.number
    new_number = number_beside put (with_step c x) ∙ h.number

    new_known : Known x.pool new.call
    new_known =
        let after = served_after server c.call s.pool x (known_at s place c k there) h in
        let media = media_beside put (with_step c x) in (
          same_served x.pool new.call x.call media (number_beside put (with_step c x)) (standing_beside put (with_step c x)) after.served,
          same_asked server x.pool new.call.media x.call.media media after.asked,
        )

    kept_after : (b : Bool) → AreKept (cond b (set s.calls place new) (remove s.calls place)) x.pool s.begun
    kept_after b =
        let stood = kept_set law s.calls place c new s.pool x.pool s.begun k.kept there new_number spares new_known.0 in
        step b stood where
          step : (b : Bool) → AreKept (set s.calls place new) x.pool s.begun → AreKept (cond b (set s.calls place new) (remove s.calls place)) x.pool s.begun
          step true stood = stood
          step false stood = subst (λ cs. AreKept cs x.pool s.begun) (remove_set s.calls place new) (kept_remove (set s.calls place new) place x.pool s.begun stood)

    known_after : (b : Bool) → AllOf (λ c. Known x.pool c.call) (cond b (set s.calls place new) (remove s.calls place))
    known_after true = all_set Known known_spared 0 s.begun s.calls place c new s.pool x.pool k.kept.numbers there spares (all_known s k) new_known
    known_after false = all_left Known known_spared 0 s.begun s.calls place c s.pool x.pool k.kept.numbers there spares (all_known s k)

    others_hold : (b : Bool) (port n : ℕ) → n ≢ c.call.number → holder_at x.pool.holdings port ≡ Some n → HasNumber n (cond b (set s.calls place new) (remove s.calls place))
    others_hold b port n differ held = step b (k.holders port n (held_before s.pool x.pool c.call.number n port spares differ held)) where
      step : (b : Bool) → HasNumber n s.calls → HasNumber n (cond b (set s.calls place new) (remove s.calls place))
      step true any = number_set n s.calls place c new there new_number any
      step false any = number_left n s.calls place c there (λ same. differ (sym same)) any

    own_holds : (b : Bool) (port n : ℕ) → is_some x.call.standing ≡ b → c.call.number ≡ n → holder_at x.pool.holdings port ≡ Some n → HasNumber n (cond b (set s.calls place new) (remove s.calls place))
    own_holds true port n e same held =
        number_set n s.calls place c new there new_number (subst (λ m. HasNumber m s.calls) same (number_there s.calls place c there))
    own_holds false port n e same held =
        absurd (gone_holds_none server x.call x.pool (h.media_number ∙ (known_at s place c k there).served.number ∙ sym h.number) h.staged h.goes.asked e port (held ∙ ap Some (sym (h.number ∙ same))))

    holders_after : (b : Bool) (port n : ℕ) → is_some x.call.standing ≡ b → holder_at x.pool.holdings port ≡ Some n → HasNumber n (cond b (set s.calls place new) (remove s.calls place))
    holders_after b port n e held = step (c.call.number == n) refl where
      step : (d : Bool) → (c.call.number == n) ≡ d → HasNumber n (cond b (set s.calls place new) (remove s.calls place))
      step true is = own_holds b port n e (eqb-true c.call.number n is) held
      step false is = others_hold b port n (λ same. false≢true (sym is ∙ eq-eqb c.call.number n (sym same))) held

    pub step_serves : IsServing server (after_step s now place put c x).standing
    step_serves = record {
      pool = h.goes.pool;
      kept = kept_after (is_some x.call.standing);
      calls = asked_alone x.pool (cond (is_some x.call.standing) (set s.calls place new) (remove s.calls place)) (known_after (is_some x.call.standing));
      holders = λ port n held. holders_after (is_some x.call.standing) port n refl held;
    }

  -- ---- a call that begins

  module _ (s : Standing) (k : IsServing server s) (now : ℕ) (c : StandingCall) (number : c.call.number ≡ s.begun + 1) (known : IsAsked server c.call s.pool) (x : Step) (h : GoesOn server c.call s.pool x) where
    abbrev begun : StandingCall
    begun = with_step c x

    first_spares : SparesOthers x.call.number s.pool x.pool
    first_spares = subst (λ n. SparesOthers n s.pool x.pool) (known.served.number ∙ sym h.number) h.goes.spares

    first_number : x.call.number ≡ s.begun + 1
    first_number = h.number ∙ number

    others_known : AllOf (λ c. Known x.pool c.call) s.calls
    others_known =
        all_spared Known known_spared x.call.number s.pool x.pool first_spares s.calls (new_differs x.call.number 0 s.begun s.calls (omega (arith, first_number)) k.kept.numbers) (all_known s k)

    first_known : (b : Bool) → AllOf (λ c. Known x.pool c.call) (cond b (s.calls ++ begun ∷ []) s.calls)
    first_known true = let after = served_after server c.call s.pool x known h in all_pushed Known known_spared x.pool s.calls begun others_known (after.served, after.asked)
    first_known false = others_known

    first_holds : (b : Bool) (port n : ℕ) → is_some x.call.standing ≡ b → x.call.number ≡ n → holder_at x.pool.holdings port ≡ Some n → HasNumber n (cond b (s.calls ++ begun ∷ []) s.calls)
    first_holds true port n e same held = subst (λ m. HasNumber m (s.calls ++ begun ∷ [])) same (number_last s.calls begun)
    first_holds false port n e same held =
        absurd (gone_holds_none server x.call x.pool (h.media_number ∙ known.served.number ∙ sym h.number) h.staged h.goes.asked e port (held ∙ ap Some (sym same)))

    others_held : (b : Bool) (port n : ℕ) → n ≢ x.call.number → holder_at x.pool.holdings port ≡ Some n → HasNumber n (cond b (s.calls ++ begun ∷ []) s.calls)
    others_held b port n differ held = step b (k.holders port n (held_before s.pool x.pool x.call.number n port first_spares differ held)) where
      step : (b : Bool) → HasNumber n s.calls → HasNumber n (cond b (s.calls ++ begun ∷ []) s.calls)
      step true any = number_pushed n s.calls begun any
      step false any = any

    first_holders : (b : Bool) (port n : ℕ) → is_some x.call.standing ≡ b → holder_at x.pool.holdings port ≡ Some n → HasNumber n (cond b (s.calls ++ begun ∷ []) s.calls)
    first_holders b port n e held = step (x.call.number == n) refl where
      step : (d : Bool) → (x.call.number == n) ≡ d → HasNumber n (cond b (s.calls ++ begun ∷ []) s.calls)
      step true is = first_holds b port n e (eqb-true x.call.number n is) held
      step false is = others_held b port n (λ same. false≢true (sym is ∙ eq-eqb x.call.number n (sym same))) held

    pub first_serves : IsServing server (after_first_step s now c x).standing
    first_serves = record {
      pool = h.goes.pool;
      kept = kept_pushed law s.calls begun s.pool x.pool s.begun k.kept first_number first_spares (served_after server c.call s.pool x known h).served;
      calls = asked_alone x.pool (cond (is_some x.call.standing) (s.calls ++ begun ∷ []) s.calls) (first_known (is_some x.call.standing));
      holders = λ port n held. first_holders (is_some x.call.standing) port n refl held;
    }

  -- ---- a dialog alone is put

  module _ (s : Standing) (k : IsServing server s) (place : ℕ) (leg : LegDialog) where
    put_serves : (c : Option StandingCall) → slice_get s.calls place ≡ c → (calls : List StandingCall) → calls ≡ changed_at (with_dialog_at leg.end leg.dialog) place s.calls c
        → IsServing server (record { calls = calls; pool = s.pool; begun = s.begun; timers = s.timers })
    put_serves None there calls is = record {
      pool = k.pool;
      kept = subst (λ cs. AreKept cs s.pool s.begun) (sym is) k.kept;
      calls = subst (AllOf (λ c. IsServedAsAsked server s.pool c.call.media)) (sym is) k.calls;
      holders = λ port n held. subst (HasNumber n) (sym is) (k.holders port n held);
    }
    put_serves (Some c) there calls is =
        let after = with_dialog_at leg.end leg.dialog c in
        let number = dialog_number leg.end leg.dialog c.call in
        let known = known_at s place c k there in
        let media = dialog_media leg.end leg.dialog c.call in
        record {
          pool = k.pool;
          kept = subst (λ cs. AreKept cs s.pool s.begun) (sym is)
              (kept_put s.calls place c after s.pool s.begun k.kept there number (same_served s.pool after.call c.call media number (dialog_standing leg.end leg.dialog c.call) known.served));
          calls = subst (AllOf (λ c. IsServedAsAsked server s.pool c.call.media)) (sym is)
              (all_put (λ c. IsServedAsAsked server s.pool c.call.media) s.calls place after (same_asked server s.pool after.call.media c.call.media media known.asked) k.calls);
          holders = λ port n held. subst (HasNumber n) (sym is) (number_set n s.calls place c after there number (k.holders port n held));
        }

    pub leg_serves : IsServing server (record { calls = changed_at (with_dialog_at leg.end leg.dialog) place s.calls (slice_get s.calls place); pool = s.pool; begun = s.begun; timers = s.timers })
    leg_serves = put_serves (slice_get s.calls place) refl (changed_at (with_dialog_at leg.end leg.dialog) place s.calls (slice_get s.calls place)) refl
