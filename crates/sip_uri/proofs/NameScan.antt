-- A host name that is read byte by byte is its labels.
use Rattle.std.proofs.Common.{◌≡◌, ℕ, ◌<◌, Bool, true, false, ◌&&◌, ◌||◌, cond, eqb, List, [], ◌∷◌, length, refl, sym, ap, ◌∙◌, arith}
use Rattle.std.specs.List.{list_all, slice_split, onto_first}
use Rattle.std.specs.Char.{is_ascii_alphabetic, is_ascii_alphanumeric}
use Rattle.std.proofs.lemmas.Bool.{eqb-true}
use Rattle.std.proofs.lemmas.List.Splits.{length-slice_split}
use Rattle.sip_uri.specs.Classes.{is_label_byte}
use Rattle.sip_uri.specs.Hosts.{begins_with, ends_with, is_label, without_dot, top_label, goes_on, is_hostname}

abbrev labels : List ℕ → List (List ℕ)
labels bs = slice_split (λ b. eqb b 46) bs

some_label : (bs : List ℕ) → 0 < length (labels bs)
some_label bs = omega (arith, length-slice_split (λ b. eqb b 46) bs)

abbrev are_name : List (List ℕ) → Bool
are_name ls = list_all is_label ls && begins_with is_ascii_alphabetic (top_label [] ls)

-- the labels after one that begins with a letter or not
abbrev end_name : Bool → List (List ℕ) → Bool
end_name letter [] = letter
end_name letter (l ∷ ls) = are_name (l ∷ ls)

-- the same, if the first label comes after this byte of its own
abbrev end_inside : ℕ → Bool → List (List ℕ) → Bool
end_inside last letter [] = false
end_inside last letter (l ∷ ls) = (list_all is_label_byte l && ends_with is_ascii_alphanumeric (last ∷ l)) && end_name letter ls

some_end : (letter : Bool) (ls : List (List ℕ)) → 0 < length ls → end_name letter ls ≡ are_name ls
some_end letter [] some = absurd (omega arith)
some_end letter (l ∷ ls) some = refl

none_left : (letter end : Bool) → (letter && end) ≡ ((true && end) && letter)
none_left true true = refl
none_left true false = refl
none_left false true = refl
none_left false false = refl

regrouped : (b all end rest : Bool) → (b && ((all && end) && rest)) ≡ (((b && all) && end) && rest)
regrouped true all end rest = refl
regrouped false all end rest = refl

first_of_label : (first hyphen all end others top : Bool) → (first && ((all && end) && (others && top))) ≡ ((((((first || hyphen) && all) && first) && end) && others) && top)
first_of_label true hyphen true true true top = refl
first_of_label true hyphen true true false top = refl
first_of_label true hyphen true false others top = refl
first_of_label true hyphen false end others top = refl
first_of_label false true true end others top = refl
first_of_label false true false end others top = refl
first_of_label false false all end others top = refl

more_of_label : (last : ℕ) (letter : Bool) (b : ℕ) (ls : List (List ℕ)) → 0 < length ls → (is_label_byte b && end_inside b letter ls) ≡ end_inside last letter (onto_first b ls)
more_of_label last letter b [] some = absurd (omega arith)
more_of_label last letter b (l ∷ ls) some = regrouped (is_label_byte b) (list_all is_label_byte l) (ends_with is_ascii_alphanumeric (b ∷ l)) (end_name letter ls)

new_label : (b : ℕ) (ls : List (List ℕ)) → 0 < length ls → (is_ascii_alphanumeric b && end_inside b (is_ascii_alphabetic b) ls) ≡ are_name (onto_first b ls)
new_label b [] some = absurd (omega arith)
new_label b (l ∷ []) some = first_of_label (is_ascii_alphanumeric b) (eqb b 45) (list_all is_label_byte l) (ends_with is_ascii_alphanumeric (b ∷ l)) true (is_ascii_alphabetic b)
new_label b (l ∷ m ∷ ms) some = first_of_label (is_ascii_alphanumeric b) (eqb b 45) (list_all is_label_byte l) (ends_with is_ascii_alphanumeric (b ∷ l)) (list_all is_label (m ∷ ms)) (begins_with is_ascii_alphabetic (top_label m ms))

abbrev Begun : List ℕ → Type 0
Begun bs = (letter : Bool) → goes_on 46 letter bs ≡ are_name (labels bs)

abbrev Inside : List ℕ → Type 0
Inside bs = (last : ℕ) (letter : Bool) → eqb last 46 ≡ false → goes_on last letter bs ≡ end_inside last letter (labels bs)

none_begun : Begun []
none_begun true = refl
none_begun false = refl

begun : (b : ℕ) (bs : List ℕ) → Inside bs → Begun (b ∷ bs)
begun b bs in_label letter = step (eqb b 46) refl where
  step : (dot : Bool) → eqb b 46 ≡ dot → (cond dot false (is_ascii_alphanumeric b) && goes_on b (is_ascii_alphabetic b) bs) ≡ are_name (cond dot ([] ∷ labels bs) (onto_first b (labels bs)))
  step true is = refl
  step false is = ap (λ (rest : Bool). is_ascii_alphanumeric b && rest) (in_label b (is_ascii_alphabetic b) is) ∙ new_label b (labels bs) (some_label bs)

inside : (b : ℕ) (bs : List ℕ) → Begun bs → Inside bs → Inside (b ∷ bs)
inside b bs at_begin in_label last letter apart = step (eqb b 46) (eqb last 46) refl apart where
  step : (dot begins : Bool) → eqb b 46 ≡ dot → begins ≡ false → (cond dot (is_ascii_alphanumeric last) (cond begins (is_ascii_alphanumeric b) (is_label_byte b)) && goes_on b (cond begins (is_ascii_alphabetic b) letter) bs) ≡ end_inside last letter (cond dot ([] ∷ labels bs) (onto_first b (labels bs)))
  step dot true is none = absurd cc
  step true false is none = ap (λ (rest : Bool). is_ascii_alphanumeric last && rest) (ap (λ (n : ℕ). goes_on n letter bs) (eqb-true b 46 is) ∙ at_begin letter ∙ sym (some_end letter (labels bs) (some_label bs)))
  step false false is none = ap (λ (rest : Bool). is_label_byte b && rest) (in_label b letter is) ∙ more_of_label last letter b (labels bs) (some_label bs)

scanned : (bs : List ℕ) → Begun bs × Inside bs
scanned [] = (none_begun, λ last letter apart. none_left letter (is_ascii_alphanumeric last))
scanned (b ∷ bs) = (begun b bs (scanned bs).1, inside b bs (scanned bs).0 (scanned bs).1)

pub name_again : (text : List ℕ) → goes_on 46 false (without_dot text) ≡ is_hostname text
unfolding is_hostname
name_again text = (scanned (without_dot text)).0 false
