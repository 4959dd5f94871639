-- The lines of media: what is found of them is said by them, and what they say is found.
use Rattle.std.proofs.Common.{◌≡◌, ℕ, Bool, true, false, ◌||◌, eqb, List, [], ◌∷◌, ◌++◌, map, Option, Some, None, refl, sym, ap, ◌∙◌, codes}
use Rattle.std.specs.Prelude.{is_some}
use Rattle.std.specs.List.{list_all}
use Rattle.std.proofs.lemmas.Bool.{and_parts, eqb-true, true≢false}
use Rattle.text.specs.Class.{is_one_of}
use Rattle.sdp.specs.declared.address.Address.{Address}
use Rattle.sdp.specs.declared.line.Line.{Line}
use Rattle.sdp.specs.Addresses.{address_of}
use Rattle.sdp.specs.Classes.{begins, is_text_byte}
use Rattle.sdp.specs.Grammar.{SaysConnection}
use Rattle.sdp.specs.Lines.{is_formed, value_on, line_of}
use Rattle.sdp.specs.Order.{first_of, less_one, begin}
use Rattle.sdp.specs.Reading.{is_good_connection, is_good_medium, connection_of}
use Rattle.sdp.specs.Writing.{line_text}
use Rattle.sdp.proofs.AddressLaws.{address_found, address_read}
use Rattle.sdp.proofs.FrontLaws.{if_there, no_first, none_less}

-- ---- one line

pub formed_line : (l : List ℕ) → is_formed l ≡ true → line_text (line_of l) ≡ l
formed_line [] h = absurd (true≢false (sym h))
formed_line (x ∷ []) h = absurd (true≢false (sym h))
formed_line (x ∷ b ∷ v) h =
    let mark : b ≡ 61 = eqb-true b 61 (and_parts (eqb b 61) (list_all is_text_byte (x ∷ b ∷ v)) h).0 in
    ap (λ (y : ℕ). x ∷ y ∷ v) (sym mark)

pub formed_lines : (ls : List (List ℕ)) → list_all is_formed ls ≡ true → map line_text (map line_of ls) ≡ ls
formed_lines [] h = refl
formed_lines (l ∷ ls) h =
    let parts = and_parts (is_formed l) (list_all is_formed ls) h in
    ap (λ (x : List ℕ). x ∷ map line_text (map line_of ls)) (formed_line l parts.0) ∙ ap (λ (x : List (List ℕ)). l ∷ x) (formed_lines ls parts.1)

pub lines_again : (ls : List Line) → map line_of (map line_text ls) ≡ ls
lines_again [] = refl
lines_again (l ∷ ls) = ap (λ (x : List Line). l ∷ x) (lines_again ls)

-- a line of one type, by its text
one_type : (c b : ℕ) → is_one_of (c ∷ []) b ≡ true → b ≡ c
one_type c b h = step (eqb c b) refl h where
  step : (e : Bool) → eqb c b ≡ e → (e || false) ≡ true → b ≡ c
  step true is k = sym (eqb-true c b is)
  step false is k = absurd (true≢false (sym k))

pub typed_line : (c : ℕ) (l : List ℕ) → begins (c ∷ []) l ≡ true → is_formed l ≡ true → l ≡ c ∷ 61 ∷ value_on l
typed_line c [] b h = absurd (true≢false (sym b))
typed_line c (x ∷ []) b h = absurd (true≢false (sym h))
typed_line c (x ∷ y ∷ v) b h =
    let mark : y ≡ 61 = eqb-true y 61 (and_parts (eqb y 61) (list_all is_text_byte (x ∷ y ∷ v)) h).0 in
    let type : x ≡ c = one_type c x b in
    ap (λ (z : ℕ). z ∷ y ∷ v) type ∙ ap (λ (z : ℕ). c ∷ z ∷ v) mark

-- ---- c=

abbrev found : Address → Option Address
found a = Some a

same : (a b : Address) → found a ≡ found b → a ≡ b
same a b h = cc

-- the lines that may have a c= at their front
pub connection_found : (o : Option (List ℕ)) → ((l : List ℕ) → o ≡ Some l → (begins (codes "c") l ≡ true) × (is_formed l ≡ true) × (is_good_connection l ≡ true)) → SaysConnection (if_there o) (connection_of o)
connection_found None h = refl
connection_found (Some l) h = by_address (address_of (value_on l)) refl where
  facts : (begins (codes "c") l ≡ true) × (is_formed l ≡ true) × (is_good_connection l ≡ true)
  facts = h l refl

  good : (o : Option Address) → address_of (value_on l) ≡ o → is_good_connection l ≡ true → is_some o ≡ true
  good None e k = absurd (true≢false (sym k ∙ rw (facts.0, e) refl))
  good (Some a) e k = refl

  by_address : (o : Option Address) → address_of (value_on l) ≡ o → SaysConnection (l ∷ []) o
  by_address None e = absurd (true≢false (sym (good None e facts.2)))
  by_address (Some a) e = (value_on l, ap (λ (x : List ℕ). x ∷ []) (typed_line 99 l facts.0 facts.1), address_found (value_on l) a e)

-- what a c= says, with lines of other types after it
pub record ConnectionIs (lines more : List (List ℕ)) (c : Option Address) : Type 0 where
  pub first : connection_of (first_of (codes "c") (lines ++ more)) ≡ c
  pub rest : less_one (codes "c") (lines ++ more) ≡ more
  pub good : list_all is_good_connection lines ≡ true
  pub good_media : list_all is_good_medium lines ≡ true

pub connection_read : (lines more : List (List ℕ)) (c : Option Address) → SaysConnection lines c → begin (codes "c") more ≡ false → ConnectionIs lines more c
connection_read lines more None h other = record {
  first = ap (λ (ls : List (List ℕ)). connection_of (first_of (codes "c") (ls ++ more))) h ∙ ap connection_of (no_first (codes "c") more other);
  rest = ap (λ (ls : List (List ℕ)). less_one (codes "c") (ls ++ more)) h ∙ none_less (codes "c") more other;
  good = ap (list_all is_good_connection) h;
  good_media = ap (list_all is_good_medium) h;
}
connection_read lines more (Some a) h other =
    let reads : address_of h.0 ≡ Some a = address_read h.0 a h.2 in
    record {
      first = ap (λ (ls : List (List ℕ)). connection_of (first_of (codes "c") (ls ++ more))) h.1 ∙ reads;
      rest = ap (λ (ls : List (List ℕ)). less_one (codes "c") (ls ++ more)) h.1;
      good = ap (list_all is_good_connection) h.1 ∙ rw reads refl;
      good_media = ap (list_all is_good_medium) h.1;
    }
