-- Each move keeps the relation, and so does each list of moves.
use Rattle.std.proofs.Common.{◌≡◌, ℕ, suc, not, ◌+◌, List, [], ◌∷◌, ◌++◌, length, Option, Some, sym, subst, arith, append_assoc, append-nil}
use Rattle.std.specs.Prelude.{slice_set, remove}
use Rattle.call_trace.specs.declared.datagram.Message.{Message}
use Rattle.call_trace.specs.declared.datagram.Datagram.{Datagram}
use Rattle.call_trace.specs.declared.call.Call.{Call}
use Rattle.call_trace.specs.Stands.{leg, AreOffering, StandsAfter}
use Rattle.call_trace.specs.Lives.{LivesAfter, Stands}
use Rattle.call_trace.specs.Events.{passed}
use Rattle.call_trace.specs.Moves.{Move, quiet, ask, reoffer, settle_first, settle_later, release, part, go, new_call, reoffered, without_offer, settled_first, settled_later, ending}
use Rattle.call_trace.specs.Runs.{Event, trace_from, Moves}
use Rattle.call_trace.proofs.Sessions.{moved}
use Rattle.call_trace.proofs.LivingMoves.{ask_lives, reoffer_lives, settle_first_lives, settle_later_lives, release_lives, quiet_lives, part_lives, go_lives}
use Rattle.call_trace.proofs.Standing.{none_stand}

pub lives_moved : (methods : List (List ℕ)) (n : ℕ) (t : List Datagram) (old new : List Call) (taken : Option Message) (sent : List Message) → Move methods t old taken sent new → StandsAfter methods old n t → LivesAfter old t
    → LivesAfter new (t ++ passed n taken sent)
lives_moved methods n t old new taken sent mv h l =
    elim mv [
      | ask x y m g w asks fresh tk se e ↦ all (old ++ new_call x y m w ∷ []) (Some m) (g ++ w ∷ []) e tk se (ask_lives methods old n t x y m g w h.offering asks fresh l)
      | reoffer k c z b m g w at stage none asks tag tk se e ↦ all (slice_set old k (reoffered c b m w)) (Some m) (g ++ w ∷ []) e tk se (reoffer_lives methods old n t k c b (leg c b) (leg c (not b)) m g w h.offering at asks l)
      | settle_first k c p s m a u at stage pe ans tk se e ↦ all (slice_set old k (settled_first c m.to_tag s)) (Some m) (a ∷ u ∷ []) e tk se (settle_first_lives methods old n t k c p s m a u at stage pe ans h l)
      | settle_later k c z p s m a u at stage pe ans acks tk se e ↦ all (slice_set old k (settled_later c p.by_caller s)) (Some m) (a ++ u ∷ []) e tk se (settle_later_lives methods old n t k c z p s m a u at stage pe ans h l)
      | release k c z p m at stage pe final refused re tk se e ↦ to (slice_set old k (without_offer c)) e (release_lives methods old n t taken sent k c h.offering at se l)
      | quiet tk se e ↦ to old e (quiet_lives methods old n t taken sent h.offering se l)
      | part k c z b at stage ends tk se e ↦ to (slice_set old k (ending c b)) e (part_lives methods old n t taken sent k c z b h.offering at stage ends se l)
      | go k c at over tk se e ↦ to (remove old k) e (go_lives methods old n t taken sent k c h.offering at over se l)
    ]
  where
    to : (new' : List Call) → new ≡ new' → LivesAfter new' (t ++ passed n taken sent) → LivesAfter new (t ++ passed n taken sent)
    to new' e g = let P : List Call → Type 0 = λ v. LivesAfter v (t ++ passed n taken sent) in subst P (sym e) g

    all : (new' : List Call) (taken' : Option Message) (sent' : List Message) → new ≡ new' → taken ≡ taken' → sent ≡ sent' → LivesAfter new' (t ++ passed n taken' sent') → LivesAfter new (t ++ passed n taken sent)
    all new' taken' sent' e f g k =
        let P : Option Message → Type 0 = λ v. LivesAfter new' (t ++ passed n v sent') in
        let Q : List Message → Type 0 = λ v. LivesAfter new' (t ++ passed n taken v) in
        to new' e (subst Q (sym g) (subst P (sym f) k))

pub stands_moved : (methods : List (List ℕ)) (n : ℕ) (t : List Datagram) (old new : List Call) (taken : Option Message) (sent : List Message) → Move methods t old taken sent new → Stands methods old n t
    → Stands methods new (suc n) (t ++ passed n taken sent)
stands_moved methods n t old new taken sent mv h = record { sessions = moved methods n t old new taken sent mv h.sessions h.lives; lives = lives_moved methods n t old new taken sent mv h.sessions h.lives }

pub stands_run : (methods : List (List ℕ)) (n : ℕ) (t : List Datagram) (old new : List Call) (es : List Event) → Moves methods n t old es new → Stands methods old n t → Stands methods new (n + length es) (t ++ trace_from n es)
stands_run methods n t old new [] mv h =
    let P : List Call → Type 0 = λ v. Stands methods v (n + 0) (t ++ trace_from n []) in
    let Q : ℕ → Type 0 = λ v. Stands methods old v (t ++ trace_from n []) in
    let R : List Datagram → Type 0 = λ v. Stands methods old n v in
    let z : n ≡ n + 0 = omega arith in
    subst P mv (subst Q z (subst R (sym (append-nil t)) h))
stands_run methods n t old new (e ∷ es) mv h =
    let next : Stands methods mv.0 (suc n) (t ++ passed n e.taken e.sent) = stands_moved methods n t old mv.0 e.taken e.sent mv.1 h in
    let rest : Stands methods new (suc n + length es) ((t ++ passed n e.taken e.sent) ++ trace_from (suc n) es) = stands_run methods (suc n) (t ++ passed n e.taken e.sent) mv.0 new es mv.2 next in
    let P : ℕ → Type 0 = λ v. Stands methods new v (t ++ (passed n e.taken e.sent ++ trace_from (suc n) es)) in
    let Q : List Datagram → Type 0 = λ v. Stands methods new (suc n + length es) v in
    let k : suc n + length es ≡ n + length (e ∷ es) = omega arith in
    subst P k (subst Q (assoc t (passed n e.taken e.sent) (trace_from (suc n) es)) rest)
  where
    assoc : (a b c : List Datagram) → (a ++ b) ++ c ≡ a ++ (b ++ c)
    assoc a b c = simp append_assoc

pub stands_from_none : (methods : List (List ℕ)) (new : List Call) (es : List Event) → AreOffering methods → Moves methods 0 [] [] es new → Stands methods new (length es) (trace_from 0 es)
stands_from_none methods new es off mv =
    let P : ℕ → Type 0 = λ v. Stands methods new v (trace_from 0 es) in
    let k : 0 + length es ≡ length es = omega arith in
    subst P k (stands_run methods 0 [] [] new es mv (none_stand methods off))
