-- Each port of a session's pairs is named by it, and where the table leads such a port, it has a row of the session
-- there.
use Rattle.std.proofs.Common.{◌≡◌, ◌∙◌, ◌==◌, ◌||◌, ◌+◌, ◌-◌, ◌%◌, ◌++◌, ◌⊎◌, inl, inr, ℕ, Bool, true, false, cond, List, [], ◌∷◌, Option, Some, None, refl, sym, ap, subst, arith}
use Rattle.std.specs.List.{All, cons_option, filter_map}
use Rattle.std.proofs.lemmas.Bool.{eqb-true, false≢true}
use Rattle.std.proofs.lemmas.Bool.Decides.{nat_tests}
use Rattle.std.proofs.lemmas.List.Elements.{All-head, All-tail}
use Rattle.sip_uri.specs.declared.uri.Addr.{Addr}
use Rattle.port_pool.specs.Holdings.{even_of}
use Rattle.sdp.specs.declared.description.Description.{Description}
use Rattle.sdp.specs.declared.description.Media.{Media}
use Rattle.offer_answer.specs.Direct.{destination}
use Rattle.offer_answer.specs.Rows.{Named, Row, media_named, media_pairs, pair_named, row_to}
use Rattle.call_media.specs.Seats.{stands_in}
use Rattle.call_trace.specs.Listed.{AnyOf}
use Rattle.call_trace.specs.Serving.{Hop, hop_of}

-- ---- the ports of a pair

not_even : (port e : ℕ) → port - port % 2 ≡ e → (port == e) ≡ false → port ≡ e + 1
not_even port e at is = grind (arith, nat_tests)

port_of_pair : (port e : ℕ) → even_of port ≡ e → (port ≡ e) ⊎ (port ≡ e + 1)
port_of_pair port e at = step (port == e) refl where
  step : (b : Bool) → (port == e) ≡ b → (port ≡ e) ⊎ (port ≡ e + 1)
  step true is = inl (eqb-true port e is)
  step false is = inr (not_even port e at is)

abbrev pub NamesPort : ℕ → List Named → Type 0
NamesPort port ns = AnyOf (λ (n : Named). n.port ≡ port) ns

in_pair : (port e from : ℕ) (to : Option Addr) (ns : List Named) → (port ≡ e) ⊎ (port ≡ e + 1) → NamesPort port (pair_named e to from ++ ns)
in_pair port e from to ns (inl at) = inl (sym at)
in_pair port e from to ns (inr at) = inr (inl (sym at))

-- ---- the pairs of a session

in_medium : (port : ℕ) (OX SY : Description) (ox sx oy sy : Media) (pairs : List ℕ) (ns : List Named) → (stands_in pairs (even_of port) ≡ true → NamesPort port ns) → (b : Bool)
    → stands_in (cond b [] (sx.port ∷ oy.port ∷ []) ++ pairs) (even_of port) ≡ true
    → NamesPort port (cond b [] (pair_named sx.port (destination SY sy) oy.port ++ pair_named oy.port (destination OX ox) sx.port) ++ ns)
in_medium port OX SY ox sx oy sy pairs ns rest true h = rest h
in_medium port OX SY ox sx oy sy pairs ns rest false h = first (sx.port == even_of port) refl h where
  second : (b : Bool) → (oy.port == even_of port) ≡ b → (b || stands_in pairs (even_of port)) ≡ true → NamesPort port (pair_named oy.port (destination OX ox) sx.port ++ ns)
  second true is k = in_pair port oy.port sx.port (destination OX ox) ns (port_of_pair port oy.port (sym (eqb-true oy.port (even_of port) is)))
  second false is k = inr (inr (rest k))

  first : (b : Bool) → (sx.port == even_of port) ≡ b → (b || (oy.port == even_of port || stands_in pairs (even_of port))) ≡ true
      → NamesPort port (pair_named sx.port (destination SY sy) oy.port ++ pair_named oy.port (destination OX ox) sx.port ++ ns)
  first true is k =
      in_pair port sx.port oy.port (destination SY sy) (pair_named oy.port (destination OX ox) sx.port ++ ns) (port_of_pair port sx.port (sym (eqb-true sx.port (even_of port) is)))
  first false is k = inr (inr (second (oy.port == even_of port) refl k))

pub names_port : (port : ℕ) (OX SY : Description) (oxs sxs oys sys : List Media) → stands_in (media_pairs oxs sxs oys sys) (even_of port) ≡ true → NamesPort port (media_named OX oxs sxs oys SY sys)
names_port port OX SY [] sxs oys sys h = absurd (false≢true h)
names_port port OX SY (ox ∷ oxs) [] oys sys h = absurd (false≢true h)
names_port port OX SY (ox ∷ oxs) (sx ∷ sxs) [] sys h = absurd (false≢true h)
names_port port OX SY (ox ∷ oxs) (sx ∷ sxs) (oy ∷ oys) [] h = absurd (false≢true h)
names_port port OX SY (ox ∷ oxs) (sx ∷ sxs) (oy ∷ oys) (sy ∷ sys) h =
    in_medium port OX SY ox sx oy sy (media_pairs oxs sxs oys sys) (media_named OX oxs sxs oys SY sys) (names_port port OX SY oxs sxs oys sys) (ox.port == 0 || sy.port == 0) h

-- ---- the row at such a port

abbrev row_at : ℕ → Hop → Row
row_at port hop = record { port = port; to = hop.to; from = hop.from }

row_is : (n : Named) (port : ℕ) (hop : Hop) → n.port ≡ port → hop_of n ≡ Some hop → row_to n.port n.to n.from ≡ Some (row_at port hop)
row_is n port hop at leads = step n.to leads where
  step : (to : Option Addr) → hop_of (record { port = n.port; to = to; from = n.from }) ≡ Some hop → row_to n.port to n.from ≡ Some (row_at port hop)
  step None h = absurd cc
  step (Some a) h =
      let same : Path Hop (record { to = a; from = n.from }) hop = cc in
      ap (λ (p : ℕ). Some (record { port = p; to = a; from = n.from })) at ∙ ap (λ (h : Hop). Some (row_at port h)) same

behind : (o : Option Row) (r : Row) (rows : List Row) → AnyOf (λ q. q ≡ r) rows → AnyOf (λ q. q ≡ r) (cons_option o rows)
behind None r rows any = any
behind (Some q) r rows any = inr any

pub named_row : (table : ℕ → Option Hop) (port : ℕ) (hop : Hop) (ns : List Named) → All (λ n. table n.port ≡ hop_of n) ns → NamesPort port ns → table port ≡ Some hop
    → AnyOf (λ q. q ≡ row_at port hop) (filter_map (λ n. row_to n.port n.to n.from) ns)
named_row table port hop [] leads any there = absurd any
named_row table port hop (n ∷ ns) leads (inl here) there =
    let lead = All-head (λ m. table m.port ≡ hop_of m) n ns leads in
    let is = row_is n port hop here (sym lead ∙ ap table here ∙ there) in
    subst (λ o. AnyOf (λ q. q ≡ row_at port hop) (cons_option o (filter_map (λ n. row_to n.port n.to n.from) ns))) (sym is) (inl refl)
named_row table port hop (n ∷ ns) leads (inr later) there =
    behind (row_to n.port n.to n.from) (row_at port hop) (filter_map (λ n. row_to n.port n.to n.from) ns)
    (named_row table port hop ns (All-tail (λ m. table m.port ≡ hop_of m) n ns leads) later there)
