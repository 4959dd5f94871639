-- The rows of the relay table, port by port.
use Rattle.std.proofs.Common.{◌≡◌, ◌∙◌, ℕ, ◌+◌, List, [], ◌++◌, Result, Ok, Err, OnOk, refl, sym, ap, add-one, append_assoc}
use Rattle.std.proofs.lemmas.List.{append-nil}
use Rattle.port_pool.specs.RelayTable.{Rows}
use Rattle.server.specs.State.{hop_line, hops_below}

hops_none : (rows : Rows) → hops_below rows 0 ≡ []
unfolding hops_below
hops_none rows = refl

hops_more : (rows : Rows) (n : ℕ) → hops_below rows (n + 1) ≡ hops_below rows n ++ hop_line rows n
unfolding hops_below
hops_more rows n = ap (hops_below rows) (add-one n)

-- before the first port
pub no_port : (rows : Rows) (start : List ℕ) → start ≡ start ++ hops_below rows 0
no_port rows start = sym (ap (λ (t : List ℕ). start ++ t) (hops_none rows) ∙ append-nil start)

pub one_port_more : (rows : Rows) (n : ℕ) (start so_far then : List ℕ) → so_far ≡ start ++ hops_below rows n → then ≡ so_far ++ hop_line rows n
    → then ≡ start ++ hops_below rows (n + 1)
one_port_more rows n start so_far then h k =
    k ∙ ap (λ (t : List ℕ). t ++ hop_line rows n) h ∙ append_assoc start (hops_below rows n) (hop_line rows n)
    ∙ ap (λ (t : List ℕ). start ++ t) (sym (hops_more rows n))

-- after the last port
pub all_ports : {E : Type 0} (r : Result (Unit {0}) E) (rows : Rows) (n : ℕ) (start so_far then : List ℕ) → n ≡ 65535
    → so_far ≡ start ++ hops_below rows n → OnOk r (then ≡ so_far ++ hop_line rows 65535) → OnOk r (then ≡ start ++ hops_below rows 65536)
all_ports (Ok done) rows n start so_far then is h k =
    one_port_more rows 65535 start so_far then (h ∙ ap (λ (m : ℕ). start ++ hops_below rows m) is) k
all_ports (Err e) rows n start so_far then is h k = tt
