-- What a search through a trace says about a branch.
use Rattle.std.proofs.Common.{◌≡◌, ◌≢◌, ℕ, Bool, not, nat_eq, List, Some}
use Rattle.std.specs.Prelude.{slice_get, IsTrue}
use Rattle.std.specs.List.{list_any}
use Rattle.std.specs.Cmp.Lexicographic.{pointwise, bytes_decides}
use Rattle.call_trace.specs.declared.datagram.Datagram.{Datagram}
use Rattle.call_trace.specs.Dialogs.{is_ours_in_from}
use Rattle.call_trace.specs.Computed.{uses}
use Rattle.call_trace.specs.Events.{IsUnused}
use Rattle.call_trace.proofs.AtLaws.{place_at}
use Rattle.call_trace.proofs.PlaceTests.{decides_some}
use Rattle.call_trace.proofs.MessageTests.{decides_itself}
use Rattle.call_trace.proofs.Words.{and_both, not_both}

pub some_true : {X : Type 0} (q : X → Bool) (t : List X) (i : ℕ) (x : X) → slice_get t i ≡ Some x → IsTrue (q x) → IsTrue (list_any q t)
some_true q t i x e h = (decides_some q (λ v. IsTrue (q v)) (λ v. decides_itself (q v)) t).1 (i, x, e, h)

pub differ : (a b : List ℕ) → IsTrue (not (pointwise nat_eq a b)) → a ≢ b
differ a b h e = not_both (pointwise nat_eq a b) h ((bytes_decides a b).1 e)

pub unused : (t : List Datagram) (branch : List ℕ) → IsTrue (not (list_any (uses branch) t)) → IsUnused t branch
unused t branch h i p at ours same =
    not_both (list_any (uses branch) t) h
    (some_true (uses branch) t i p (place_at t i p at) (and_both (is_ours_in_from p.direction p.message.kind) (pointwise nat_eq p.message.branch branch) ours ((bytes_decides p.message.branch branch).1 same)))
