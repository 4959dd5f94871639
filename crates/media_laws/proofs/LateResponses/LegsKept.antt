-- A dialog that is a leg of an answered call, or has ended, stays so at each move of the calls.
use Rattle.std.proofs.Common.{◌≡◌, ◌∙◌, ℕ, List, [], ◌∷◌, ◌++◌, true, false, Option, Some, refl, sym, subst, inl, inr}
use Rattle.std.specs.Prelude.{◌⊎◌, remove, slice_get, slice_set}
use Rattle.call_trace.specs.declared.call.Call.{Call}
use Rattle.call_trace.specs.declared.call.Stage.TheVariants.{Asked}
use Rattle.call_trace.specs.declared.datagram.Datagram.{Datagram}
use Rattle.call_trace.specs.declared.datagram.Dialog.{Dialog}
use Rattle.call_trace.specs.declared.datagram.Message.{Message}
use Rattle.call_trace.specs.Calls.{Ended}
use Rattle.call_trace.specs.Events.{passed}
use Rattle.call_trace.specs.Listed.{AnyOf}
use Rattle.call_trace.specs.Lives.{IsLegOf, LegsStand, Stands}
use Rattle.call_trace.specs.Messages.{offering}
use Rattle.call_trace.specs.Moves.{Leaves, Move, ask, ending, go, new_call, part, quiet, release, reoffer, reoffered, settle_first, settle_later, settled_first, settled_later, without_offer}
use Rattle.call_trace.proofs.Growing.{ended_left}
use Rattle.call_trace.proofs.Members.{all_at, any_left, any_remove, any_set}
use Rattle.call_trace.proofs.Parting.{leaves_now}
use Rattle.media_laws.specs.Late.{IsAnsweredOrEnded}

leg_kept : (d : Dialog) (c e : Call) → c.caller ≡ e.caller → c.callee ≡ e.callee → (e.stage ≡ Asked → c.stage ≡ Asked) → IsLegOf d c → IsLegOf d e
leg_kept d c e caller callee stage l = record { answered = λ x. l.answered (stage x); leg = elim l.leg [ inl q ↦ inl (sym caller ∙ q) | inr q ↦ inr (sym callee ∙ q) ] }

module _ (n : ℕ) (t : List Datagram) (old : List Call) (stands : Stands offering old n t) (taken : Option Message) (sent : List Message) (d : Dialog) where
  abbrev Keeps : List Call → Type 0
  Keeps new = IsAnsweredOrEnded (t ++ passed n taken sent) new d

  kept_set : (k : ℕ) (c e : Call) → slice_get old k ≡ Some c → c.caller ≡ e.caller → c.callee ≡ e.callee → (e.stage ≡ Asked → c.stage ≡ Asked) → AnyOf (IsLegOf d) old → Keeps (slice_set old k e)
  kept_set k c e at caller callee stage q = inl (any_set (IsLegOf d) old k c e at (leg_kept d c e caller callee stage) q)

  kept_gone : (k : ℕ) (c : Call) → slice_get old k ≡ Some c → (c.stage ≡ Asked) ⊎ (Leaves t taken sent c true × Leaves t taken sent c false) → AnyOf (IsLegOf d) old → Keeps (remove old k)
  kept_gone k c at over q =
      let legs : LegsStand t c = all_at (LegsStand t) old k c stands.lives.legs at in
      let P : Dialog → Type 0 = λ v. Ended (t ++ passed n taken sent) v in
      elim (any_remove (IsLegOf d) old k c at q) [
        | inl g ↦ inl g
        | inr g ↦ inr (elim over [
          | inl stage ↦ absurd (g.answered stage)
          | inr both ↦ elim g.leg [ inl e ↦ subst P e (leaves_now n t taken sent c true legs both.0) | inr e ↦ subst P e (leaves_now n t taken sent c false legs both.1) ]
        ])
      ]

  leg_moved : (new : List Call) → Move offering t old taken sent new → AnyOf (IsLegOf d) old → Keeps new
  leg_moved new mv q =
      elim mv [
        | quiet tk se e ↦ subst Keeps (sym e) (inl q)
        | ask x y m g w asks fresh tk se e ↦ subst Keeps (sym e) (inl (any_left (IsLegOf d) old (new_call x y m w ∷ []) q))
        | reoffer k c z b m g w at stage none asks tag tk se e ↦ subst Keeps (sym e) (kept_set k c (reoffered c b m w) at refl refl (λ s. s) q)
        | settle_first k c p s m a u at stage pe ans tk se e ↦ subst Keeps (sym e) (inl (any_set (IsLegOf d) old k c (settled_first c m.to_tag s) at (λ r. absurd (r.answered stage)) q))
        | settle_later k c z p s m a u at stage pe ans acks tk se e ↦ subst Keeps (sym e) (kept_set k c (settled_later c p.by_caller s) at refl refl (λ s. absurd (cc)) q)
        | release k c z p m at stage pe final refused re tk se e ↦ subst Keeps (sym e) (kept_set k c (without_offer c) at refl refl (λ s. s) q)
        | part k c z b at stage ends tk se e ↦ subst Keeps (sym e) (kept_set k c (ending c b) at refl refl (λ s. absurd (cc)) q)
        | go k c at over tk se e ↦ subst Keeps (sym e) (kept_gone k c at over q)
      ]

  pub dialog_moved : (new : List Call) → Move offering t old taken sent new → IsAnsweredOrEnded t old d → IsAnsweredOrEnded (t ++ passed n taken sent) new d
  dialog_moved new mv (inl q) = leg_moved new mv q
  dialog_moved new mv (inr e) = inr (ended_left t (passed n taken sent) d e)
