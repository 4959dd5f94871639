-- Each move keeps the calls standing after the trace.
use Rattle.std.proofs.Common.{◌≡◌, ℕ, suc, List, [], ◌∷◌, ◌++◌, Option, Some, sym, subst}
use Rattle.std.specs.Prelude.{slice_set, remove}
use Rattle.call_trace.specs.declared.datagram.Message.{Message}
use Rattle.call_trace.specs.declared.datagram.Datagram.{Datagram}
use Rattle.call_trace.specs.declared.call.Call.{Call}
use Rattle.call_trace.specs.Stands.{StandsAfter}
use Rattle.call_trace.specs.Lives.{LegsStand, LivesAfter}
use Rattle.call_trace.specs.Events.{passed}
use Rattle.call_trace.specs.Moves.{Move, quiet, ask, reoffer, settle_first, settle_later, release, part, go, new_call, reoffered, without_offer, settled_first, settled_later, ending}
use Rattle.call_trace.proofs.Members.{all_at}
use Rattle.call_trace.proofs.Offering.{ask_stands, reoffer_stands}
use Rattle.call_trace.proofs.Settles.{settle_first_stands, settle_later_stands}
use Rattle.call_trace.proofs.Parting.{release_stands, quiet_stands, part_stands, go_stands}

pub moved : (methods : List (List ℕ)) (n : ℕ) (t : List Datagram) (old new : List Call) (taken : Option Message) (sent : List Message) → Move methods t old taken sent new → StandsAfter methods old n t → LivesAfter old t
    → StandsAfter methods new (suc n) (t ++ passed n taken sent)
moved methods n t old new taken sent mv h l =
    elim mv [
      | ask x y m g w asks fresh tk se e ↦ all (old ++ new_call x y m w ∷ []) (Some m) (g ++ w ∷ []) e tk se (ask_stands methods old n t x y m g w asks fresh h)
      | reoffer k c z b m g w at stage none asks tag tk se e ↦ all (slice_set old k (reoffered c b m w)) (Some m) (g ++ w ∷ []) e tk se (reoffer_stands methods old n t k c z b m g w at stage asks tag h)
      | settle_first k c p s m a u at stage pe ans tk se e ↦ all (slice_set old k (settled_first c m.to_tag s)) (Some m) (a ∷ u ∷ []) e tk se (settle_first_stands methods old n t k c p s m (a ∷ []) u at stage pe ans h)
      | settle_later k c z p s m a u at stage pe ans acks tk se e ↦ all (slice_set old k (settled_later c p.by_caller s)) (Some m) (a ++ u ∷ []) e tk se (settle_later_stands methods old n t k c z p s m a u at stage pe ans h)
      | release k c z p m at stage pe final refused re tk se e ↦ to (slice_set old k (without_offer c)) e (release_stands methods old n t taken sent k c z p m at stage pe refused re tk se h)
      | quiet tk se e ↦ to old e (quiet_stands methods old n t taken sent tk se h)
      | part k c z b at stage ends tk se e ↦ to (slice_set old k (ending c b)) e (part_stands methods old n t taken sent k c z b at stage tk se h)
      | go k c at over tk se e ↦ to (remove old k) e (go_stands methods old n t taken sent k c at over (all_at (LegsStand t) old k c l.legs at) tk se h)
    ]
  where
    to : (new' : List Call) → new ≡ new' → StandsAfter methods new' (suc n) (t ++ passed n taken sent) → StandsAfter methods new (suc n) (t ++ passed n taken sent)
    to new' e g = let P : List Call → Type 0 = λ v. StandsAfter methods v (suc n) (t ++ passed n taken sent) in subst P (sym e) g

    all : (new' : List Call) (taken' : Option Message) (sent' : List Message) → new ≡ new' → taken ≡ taken' → sent ≡ sent' → StandsAfter methods new' (suc n) (t ++ passed n taken' sent') → StandsAfter methods new (suc n) (t ++ passed n taken sent)
    all new' taken' sent' e f g k =
        let P : Option Message → Type 0 = λ v. StandsAfter methods new' (suc n) (t ++ passed n v sent') in
        let Q : List Message → Type 0 = λ v. StandsAfter methods new' (suc n) (t ++ passed n taken v) in
        to new' e (subst Q (sym g) (subst P (sym f) k))
