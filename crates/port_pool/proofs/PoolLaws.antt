-- Lemmas on the pool: what each change keeps, and what it leaves.
use Rattle.std.proofs.Common.{◌≡◌, ◌≢◌, ◌⊎◌, inl, inr, ◌==◌, ◌+◌, ◌*◌, ◌-◌, ◌%◌, ◌≤◌, ◌∙◌, ℕ, Bool, true, false, not, ◌&&◌, cond, List, [], ◌∷◌, All, get_or, Option, Some, None, is_some, refl, sym, ap, arith}
use Prim.Native.Nat.{zero, suc}
use Rattle.std.specs.List.{list_any}
use Rattle.std.specs.Ordering.{nat_cmp}
use Rattle.std.specs.FinMap.{get, get-empty}
use Rattle.std.proofs.lemmas.Bool.Decides.{nat_tests}
use Rattle.std.proofs.lemmas.Bool.{eqb-true}
use Rattle.port_pool.specs.Limits.{min_port, last_port}
use Rattle.port_pool.specs.declared.hop.Hop.{Hop}
use Rattle.port_pool.specs.declared.pair.Pair.{Pair}
use Rattle.port_pool.specs.declared.relay_line.RelayLine.{RelayLine}
use Rattle.port_pool.specs.declared.changes.Change.{Change}
use Rattle.port_pool.specs.declared.changes.Change.TheVariants.{Put, Remove}
use Rattle.port_pool.specs.declared.holdings.Holding.{Holding}
use Rattle.port_pool.specs.RelayTable.{Rows, changed, changed_by}
use Rattle.port_pool.specs.Changes.{port_of, change_to, changes_between, LeadFrom}
use Rattle.port_pool.specs.Holdings.{is_call, even_of, is_among, holder_of, holder_at, dropped}
use Rattle.port_pool.specs.Pool.{Contents, new_pool, AreFree, with_pairs, freed, is_port_of, HasNoRow, AreBareBut, AreOwn, StandOnce, hop_of, row_after, ports_of, changes_of, changes_of_port, AreHeld, with_changes, committed, without_others, without_call, IsPool, IsPortOfPair, NeverMeet}
use Rattle.port_pool.proofs.HoldingLaws.{PairsFrom-unheld, PairsFrom-taken, PairsFrom-released, PairsFrom-dropped, PairsFrom-others, holder_of-held, holder_of-released, holder_of-dropped, holder_of-others, held_leads}
use Rattle.port_pool.proofs.PortLaws.{PortsFrom-pairs, port_in, ports_own}
use Rattle.port_pool.proofs.ChangeLaws.{own, between_own, get-change_to, get_after, changes_each, changes_rise, changes_within}

pub IsPool-new_pool : (first pairs : ℕ) → first % 2 ≡ 0 → min_port ≤ first → first + 2 * pairs ≤ last_port + 1 → IsPool (new_pool first pairs)
IsPool-new_pool first pairs even from upto = record {
  pairs = PairsFrom-unheld first pairs 0 min_port even (omega arith) (omega arith);
  held = λ port some. cc (sym (ap is_some (get-empty nat_cmp port)) ∙ some);
}

-- ---- pairs

pub IsPool-with_pairs : (pool : Contents) (call : ℕ) (pairs : List Pair) (now : ℕ) → IsPool pool → AreFree pool now pairs → IsPool (with_pairs pool call pairs)
IsPool-with_pairs pool call pairs now is free = record {
  pairs = PairsFrom-taken call pairs min_port pool.holdings is.pairs;
  held = λ port some. rw (holder_of-held now call pairs pool.holdings (even_of port) free)
      (elim (is_among pairs (even_of port)) as (λ b. is_some (cond b (Some call) (holder_at pool.holdings port)) ≡ true) [
        | true ↦ refl
        | false ↦ is.held port some
      ]);
}

not_even : (port e : ℕ) → port - port % 2 ≡ e → (port == e) ≡ false → port ≡ e + 1
not_even port e at is = grind (arith, nat_tests)

pub is_call_is : (call : ℕ) (h : Option ℕ) → is_call call h ≡ true → h ≡ Some call
is_call_is call None is = cc is
is_call_is call (Some other) is = ap (λ n. Some n) (eqb-true other call is)

port_of_pair : (port e : ℕ) → port - port % 2 ≡ e → (port ≡ e) ⊎ (port ≡ e + 1)
port_of_pair port e at =
    (elim (port == e) as (λ b. (port == e) ≡ b → (port ≡ e) ⊎ (port ≡ e + 1)) [
      | true ↦ λ is. inl (eqb-true port e is)
      | false ↦ λ is. inr (not_even port e at is)
    ]) refl

no_row : (pool : Contents) (pair : Pair) (port : ℕ) → HasNoRow pool pair → (port ≡ pair.even) ⊎ (port ≡ pair.even + 1) → get pool.rows port ≡ None
no_row pool pair port none (inl at) = ap (get pool.rows) at ∙ none.0
no_row pool pair port none (inr at) = ap (get pool.rows) at ∙ none.1

pub IsPool-freed : (pool : Contents) (pair : Pair) (now : ℕ) → IsPool pool → HasNoRow pool pair → IsPool (freed pool pair now)
IsPool-freed pool pair now is none = record {
  pairs = PairsFrom-released pair now min_port pool.holdings is.pairs;
  held = λ port some. rw (holder_of-released pair now pool.holdings (even_of port))
      ((elim (even_of port == pair.even) as (λ b. (even_of port == pair.even) ≡ b → is_some (cond b None (holder_at pool.holdings port)) ≡ true) [
        | true ↦ λ at. cc (sym (ap is_some (no_row pool pair port none (port_of_pair port pair.even (eqb-true (even_of port) pair.even at)))) ∙ some)
        | false ↦ λ at. is.held port some
      ]) refl);
}

no_other : (a b : Bool) (o : Option ℕ) → (a ≡ true → b ≡ false → ⊥) → cond (a && not b) None o ≡ o
no_other true true o h = refl
no_other true false o h = absurd (h refl refl)
no_other false b o h = refl

pub IsPool-others : (pool : Contents) (call : ℕ) (kept : List Pair) (now : ℕ) → IsPool pool → AreBareBut pool call kept → IsPool (without_others pool call kept now)
IsPool-others pool call kept now is bare = record {
  pairs = PairsFrom-others call kept now min_port pool.holdings is.pairs;
  held = λ port some. rw (holder_of-others call kept now pool.holdings (even_of port))
      (rw (no_other (is_port_of pool call port) (is_among kept (even_of port)) (holder_at pool.holdings port) (λ own out. cc (sym (ap is_some (bare port own out)) ∙ some)))
      (is.held port some));
}

-- ---- rows

pub row-committed : (pool : Contents) (call : ℕ) (lines : List RelayLine) (port : ℕ) → IsPool pool → get (committed pool call lines).rows port ≡ row_after pool call lines port
row-committed pool call lines port is =
    get_after pool.rows lines (ports_of call pool.holdings) port
    ∙ ap (λ b. cond b (hop_of lines port) (get pool.rows port)) (port_in call min_port pool.holdings port is.pairs)

pub LeadFrom-committed : (pool : Contents) (call : ℕ) (lines : List RelayLine) → IsPool pool → LeadFrom pool.rows (committed pool call lines).rows (changes_of pool call lines)
LeadFrom-committed pool call lines is =
    let ports = ports_of call pool.holdings in
    let rise = PortsFrom-pairs call min_port pool.holdings is.pairs in
    record {
      rising = changes_rise pool.rows lines min_port ports rise;
      each = λ port. changes_each pool.rows lines port min_port ports rise
          ∙ (elim (list_any (λ p. p == port) ports) as (λ b. cond b (changes_of_port pool.rows lines port) []
          ≡ changes_between port (get pool.rows port) (cond b (hop_of lines port) (get pool.rows port))) [
            | true ↦ refl
            | false ↦ sym (between_own port (get pool.rows port))
          ])
          ∙ sym (ap (changes_between port (get pool.rows port)) (get_after pool.rows lines ports port));
      whole = refl;
    }

abbrev RowsIn : List Holding → Rows → Type 0
RowsIn holdings rows = (port : ℕ) → is_some (get rows port) ≡ true → is_some (holder_at holdings port) ≡ true

held_change : (holdings : List Holding) (rows : Rows) (p : ℕ) (o : Option Hop) → RowsIn holdings rows → is_some (holder_at holdings p) ≡ true → RowsIn holdings (changed rows (change_to p o))
held_change holdings rows p o all here port some =
    (elim (p == port) as (λ b. (p == port) ≡ b → is_some (cond b o (get rows port)) ≡ true → is_some (holder_at holdings port) ≡ true) [
      | true ↦ λ is row. let at : p ≡ port = eqb-true p port is in ap (λ q. is_some (holder_at holdings q)) (sym at) ∙ here
      | false ↦ λ is row. all port row
    ]) refl (sym (ap is_some (get-change_to rows p o port)) ∙ some)

held_after : (holdings : List Holding) (rows : Rows) (changes : List Change) → RowsIn holdings rows → All (λ c. is_some (holder_at holdings (port_of c)) ≡ true) changes → RowsIn holdings (changed_by rows changes)
held_after holdings rows [] all held = all
held_after holdings rows (Put p hop ∷ cs) all held =
    held_after holdings (changed rows (Put p hop)) cs (held_change holdings rows p (Some hop) all (held 0 (Put p hop) (omega arith))) (λ k d within. held (suc k) d (omega arith))
held_after holdings rows (Remove p ∷ cs) all held =
    held_after holdings (changed rows (Remove p)) cs (held_change holdings rows p None all (held 0 (Remove p) (omega arith))) (λ k d within. held (suc k) d (omega arith))

-- changes of ports that are held leave a pool
pub IsPool-with_changes : (pool : Contents) (changes : List Change) → IsPool pool → AreHeld pool changes → IsPool (with_changes pool changes)
IsPool-with_changes pool changes is held = record {
  pairs = is.pairs;
  held = held_after pool.holdings pool.rows changes is.held held;
}

some_call : (call : ℕ) (h : Option ℕ) → is_call call h ≡ true → is_some h ≡ true
some_call call None is = cc is
some_call call (Some c) is = refl

-- what leads to rows of a call changes ports of its pairs
pub changes_held : (pool : Contents) (call : ℕ) (lines : List RelayLine) → IsPool pool → AreHeld pool (changes_of pool call lines)
changes_held pool call lines is =
    changes_within (λ p. is_some (holder_at pool.holdings p) ≡ true) pool.rows lines (ports_of call pool.holdings)
    (λ k d within. some_call call (holder_at pool.holdings (get_or (ports_of call pool.holdings) k d))
    (sym (port_in call min_port pool.holdings (get_or (ports_of call pool.holdings) k d) is.pairs) ∙ ports_own (ports_of call pool.holdings) k d within))

pub IsPool-committed : (pool : Contents) (call : ℕ) (lines : List RelayLine) → IsPool pool → IsPool (committed pool call lines)
IsPool-committed pool call lines is = IsPool-with_changes pool (changes_of pool call lines) is (changes_held pool call lines is)

held_less : (h : Option ℕ) (call : ℕ) (row : Option Hop) → (is_call call h ≡ true → row ≡ None) → (is_some row ≡ true → is_some h ≡ true) → is_some row ≡ true
    → is_some (cond (is_call call h) None h) ≡ true
held_less h call row none keep some =
    (elim (is_call call h) as (λ b. is_call call h ≡ b → is_some (cond b None h) ≡ true) [
      | true ↦ λ is. cc (sym (ap is_some (none is)) ∙ some)
      | false ↦ λ is. keep some
    ]) refl

-- a call that has no row may leave its pairs
pub IsPool-without_rows : (pool : Contents) (call now : ℕ) → IsPool pool → ((port : ℕ) → is_port_of pool call port ≡ true → get pool.rows port ≡ None)
    → IsPool (record { holdings = dropped call now pool.holdings; rows = pool.rows })
IsPool-without_rows pool call now is none = record {
  pairs = PairsFrom-dropped call now min_port pool.holdings is.pairs;
  held = λ port some. rw (holder_of-dropped call now pool.holdings (even_of port))
      (held_less (holder_at pool.holdings port) call (get pool.rows port) (none port) (is.held port) some);
}

-- a call that ends leaves a pool
pub IsPool-without_call : (pool : Contents) (call now : ℕ) → IsPool pool → IsPool (without_call pool call now)
IsPool-without_call pool call now is =
    IsPool-without_rows (committed pool call []) call now (IsPool-committed pool call [] is)
    (λ port own. row-committed pool call [] port is ∙ ap (λ b. cond b None (get pool.rows port)) own)

-- ---- lines

other : (a b : ℕ) → a ≢ b → (a == b) ≡ false
other a b ne =
    (elim (a == b) as (λ t. (a == b) ≡ t → t ≡ false) [
      | true ↦ λ is. absurd (ne (eqb-true a b is))
      | false ↦ λ is. refl
    ]) refl

hop_of-line : (lines : List RelayLine) → StandOnce lines → All (λ l. hop_of lines l.port ≡ l.hop) lines
hop_of-line [] once k d within = absurd (omega arith)
hop_of-line (l ∷ ls) once zero d within = rw (own l.port) refl
hop_of-line (l ∷ ls) once (suc k) d within =
    let ne : l.port ≢ (get_or ls k d).port = once 0 (suc k) d (omega arith) within in
    rw (other l.port (get_or ls k d).port ne) (hop_of-line ls (λ i j e below in_it. once (suc i) (suc j) e (omega arith) (omega arith)) k d (omega arith))

-- each line's port then has the line's row
pub lines-committed : (pool : Contents) (call : ℕ) (lines : List RelayLine) → IsPool pool → AreOwn pool call lines → StandOnce lines
    → All (λ l. get (committed pool call lines).rows l.port ≡ l.hop) lines
lines-committed pool call lines is mine once k d within =
    row-committed pool call lines (get_or lines k d).port is
    ∙ ap (λ b. cond b (hop_of lines (get_or lines k d).port) (get pool.rows (get_or lines k d).port)) (ap (is_call call) (mine k d within) ∙ own call)
    ∙ hop_of-line lines once k d within

-- ---- pairs never meet

meet : (a b : Pair) (port : ℕ) → a.even % 2 ≡ 0 → b.even % 2 ≡ 0 → IsPortOfPair a port → IsPortOfPair b port → a.even ≡ b.even
meet a b port even_a even_b (inl at) (inl also) = omega arith
meet a b port even_a even_b (inl at) (inr also) = omega arith
meet a b port even_a even_b (inr at) (inl also) = omega arith
meet a b port even_a even_b (inr at) (inr also) = omega arith

pub NeverMeet-pool : (pool : Contents) → IsPool pool → NeverMeet pool
NeverMeet-pool pool is a b port call rival in_a in_b of_a of_b =
    let same : a.even ≡ b.even = meet a b port (held_leads min_port pool.holdings a.even call (omega arith) is.pairs of_a).1 (held_leads min_port pool.holdings b.even rival (omega arith) is.pairs of_b).1 in_a in_b in
    let both : Some call ≡ Some rival = sym of_a ∙ ap (holder_of pool.holdings) same ∙ of_b in cc
