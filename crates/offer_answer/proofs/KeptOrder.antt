-- Lines that are in order are in order without the attributes that name places of their own.
use Rattle.std.proofs.Common.{◌≡◌, ◌∙◌, ℕ, Bool, true, false, not, cond, List, [], ◌∷◌, map, codes, refl, sym, ap}
use Rattle.std.specs.List.{list_all}
use Rattle.std.proofs.lemmas.Bool.{and_parts, and_from, eqb-true, true≢false}
use Rattle.text.specs.Class.{is_one_of}
use Rattle.sdp.specs.declared.line.Line.{Line}
use Rattle.sdp.specs.Classes.{begins}
use Rattle.sdp.specs.Order.{less_one, less_all, begin, is_nothing, is_after, is_media_after}
use Rattle.sdp.specs.Writing.{line_text}
use Rattle.sdp.proofs.FrontLaws.{less_all_again, none_less, begin_apart, from_less_one, from_less_all, from_nothing}
use Rattle.offer_answer.specs.Alike.{is_kept, kept_lines}
use Rattle.offer_answer.proofs.KeptLines.{left_out}

abbrev lines : List Line → List (List ℕ)
lines ls = map line_text ls

-- ---- one line

kept_first : (l : Line) (ls : List Line) → is_kept l ≡ true → kept_lines (l ∷ ls) ≡ l ∷ kept_lines ls
kept_first l ls e = ap (λ (b : Bool). cond b (l ∷ kept_lines ls) (kept_lines ls)) e

-- a line of a type that is not an attribute is kept
stays : (set : List ℕ) → is_one_of set 97 ≡ false → (l : Line) → begins set (line_text l) ≡ true → is_kept l ≡ true
stays set out l h = step (is_kept l) refl where
  step : (b : Bool) → is_kept l ≡ b → is_kept l ≡ true
  step true e = e
  step false e = absurd (true≢false (sym h ∙ ap (is_one_of set) (eqb-true l.letter 97 (left_out l e).0) ∙ out))

-- ---- all lines

-- what all lines pass, those that are kept pass
pub all_kept : (p : List ℕ → Bool) (ls : List Line) → list_all p (lines ls) ≡ true → list_all p (lines (kept_lines ls)) ≡ true
all_kept p [] h = refl
all_kept p (l ∷ ls) h = step (is_kept l) (and_parts (p (line_text l)) (list_all p (lines ls)) h) (λ k. all_kept p ls k) where
  step : (b : Bool) → (p (line_text l) ≡ true) × (list_all p (lines ls) ≡ true) → (list_all p (lines ls) ≡ true → list_all p (lines (kept_lines ls)) ≡ true)
      → list_all p (lines (cond b (l ∷ kept_lines ls) (kept_lines ls))) ≡ true
  step true k more = and_from _ _ k.0 (more k.1)
  step false k more = more k.1

begin_kept : (set : List ℕ) → is_one_of set 97 ≡ false → (ls : List Line) → begin set (lines ls) ≡ true → begin set (lines (kept_lines ls)) ≡ true
begin_kept set out [] h = h
begin_kept set out (l ∷ ls) h = ap (λ (xs : List Line). begin set (lines xs)) (kept_first l ls (stays set out l h)) ∙ h

none_left : (set : List ℕ) (xs : List (List ℕ)) → list_all (begins set) xs ≡ true → less_all set xs ≡ []
none_left set [] h = refl
none_left set (x ∷ xs) h =
    let parts = and_parts (begins set x) (list_all (begins set) xs) h in
    ap (λ (b : Bool). cond b (less_all set xs) (x ∷ xs)) parts.0 ∙ none_left set xs parts.1

-- ---- lines at the front

-- what cuts lines off the front cuts the same off those that are kept
record Cuts (cut : List (List ℕ) → List (List ℕ)) (ls : List Line) : Type 0 where
  rest : List Line
  at : cut (lines ls) ≡ lines rest
  kept_at : cut (lines (kept_lines ls)) ≡ lines (kept_lines rest)

-- what is left is of other types than those that are cut off, which are no attributes
cut_all : (set others : List ℕ) → is_one_of set 97 ≡ false → list_all (λ y. not (is_one_of set y)) others ≡ true → (ls : List Line) → list_all (begins others) (less_all set (lines ls)) ≡ true → Cuts (less_all set) ls
cut_all set others out apart [] h = record { rest = []; at = refl; kept_at = refl }
cut_all set others out apart (l ∷ ls) h = step (begins set (line_text l)) refl h (λ k. cut_all set others out apart ls k) where
  step : (b : Bool) → begins set (line_text l) ≡ b → list_all (begins others) (cond b (less_all set (lines ls)) (lines (l ∷ ls))) ≡ true
      → (list_all (begins others) (less_all set (lines ls)) ≡ true → Cuts (less_all set) ls) → Cuts (less_all set) (l ∷ ls)
  step true is k more =
      let c = more k in
      let first : (xs : List (List ℕ)) → less_all set (line_text l ∷ xs) ≡ less_all set xs = λ xs. ap (λ (b : Bool). cond b (less_all set xs) (line_text l ∷ xs)) is in
      record {
        rest = c.rest;
        at = first (lines ls) ∙ c.at;
        kept_at = ap (λ (xs : List Line). less_all set (lines xs)) (kept_first l ls (stays set out l is)) ∙ first (lines (kept_lines ls)) ∙ c.kept_at;
      }
  step false is k more =
      let types : list_all (begins others) (lines (kept_lines (l ∷ ls))) ≡ true = all_kept (begins others) (l ∷ ls) k in
      record {
        rest = l ∷ ls;
        at = ap (λ (b : Bool). cond b (less_all set (lines ls)) (lines (l ∷ ls))) is;
        kept_at = less_all_again set [] (lines (kept_lines (l ∷ ls))) refl (begin_apart others set apart (lines (kept_lines (l ∷ ls))) types);
      }

cut_one : (set others : List ℕ) → is_one_of set 97 ≡ false → list_all (λ y. not (is_one_of set y)) others ≡ true → (ls : List Line) → list_all (begins others) (less_one set (lines ls)) ≡ true → Cuts (less_one set) ls
cut_one set others out apart [] h = record { rest = []; at = refl; kept_at = refl }
cut_one set others out apart (l ∷ ls) h = step (begins set (line_text l)) refl h where
  step : (b : Bool) → begins set (line_text l) ≡ b → list_all (begins others) (cond b (lines ls) (lines (l ∷ ls))) ≡ true → Cuts (less_one set) (l ∷ ls)
  step true is k =
      let first : (xs : List (List ℕ)) → less_one set (line_text l ∷ xs) ≡ xs = λ xs. ap (λ (b : Bool). cond b xs (line_text l ∷ xs)) is in
      record {
        rest = ls;
        at = first (lines ls);
        kept_at = ap (λ (xs : List Line). less_one set (lines xs)) (kept_first l ls (stays set out l is)) ∙ first (lines (kept_lines ls));
      }
  step false is k =
      let types : list_all (begins others) (lines (kept_lines (l ∷ ls))) ≡ true = all_kept (begins others) (l ∷ ls) k in
      record {
        rest = l ∷ ls;
        at = ap (λ (b : Bool). cond b (lines ls) (lines (l ∷ ls))) is;
        kept_at = none_less set (lines (kept_lines (l ∷ ls))) (begin_apart others set apart (lines (kept_lines (l ∷ ls))) types);
      }

-- ---- the lines at the end: k, and attributes

-- the key and the attributes after it
abbrev is_end : List (List ℕ) → Bool
is_end xs = is_nothing (less_all (codes "a") (less_one (codes "k") xs))

end_kept : (ls : List Line) → is_end (lines ls) ≡ true → is_end (lines (kept_lines ls)) ≡ true
end_kept ls h =
    let key = cut_one (codes "k") (codes "a") refl refl ls (from_less_all (codes "a") (codes "a") refl (less_one (codes "k") (lines ls)) (from_nothing (codes "a") (less_all (codes "a") (less_one (codes "k") (lines ls))) h)) in
    let left : is_nothing (less_all (codes "a") (lines key.rest)) ≡ true = ap (λ (xs : List (List ℕ)). is_nothing (less_all (codes "a") xs)) (sym key.at) ∙ h in
    let types = all_kept (begins (codes "a")) key.rest (from_less_all (codes "a") (codes "a") refl (lines key.rest) (from_nothing (codes "a") (less_all (codes "a") (lines key.rest)) left)) in
    ap (λ (xs : List (List ℕ)). is_nothing (less_all (codes "a") xs)) key.kept_at ∙ ap is_nothing (none_left (codes "a") (lines (kept_lines key.rest)) types)

end_types : (xs : List (List ℕ)) → is_end xs ≡ true → list_all (begins (codes "ka")) xs ≡ true
end_types xs h =
    let all = codes "ka" in
    from_less_one (codes "k") all refl xs (from_less_all (codes "a") all refl (less_one (codes "k") xs) (from_nothing all (less_all (codes "a") (less_one (codes "k") xs)) h))

-- ---- under m=

pub media_after_kept : (ls : List Line) → is_media_after (lines ls) ≡ true → is_media_after (lines (kept_lines ls)) ≡ true
unfolding is_media_after
media_after_kept ls h =
    let band = cut_all (codes "b") (codes "ka") refl refl ls (end_types (less_all (codes "b") (lines ls)) h) in
    ap is_end band.kept_at ∙ end_kept band.rest (ap is_end (sym band.at) ∙ h)

-- ---- in the session

-- the zones, and what comes after them
abbrev is_zoned : List (List ℕ) → Bool
is_zoned xs = is_end (less_one (codes "z") xs)

zoned_types : (xs : List (List ℕ)) → is_zoned xs ≡ true → list_all (begins (codes "zka")) xs ≡ true
zoned_types xs h =
    let all = codes "zka" in
    let behind = less_one (codes "z") xs in
    from_less_one (codes "z") all refl xs (
    from_less_one (codes "k") all refl behind (
    from_less_all (codes "a") all refl (less_one (codes "k") behind) (from_nothing all (less_all (codes "a") (less_one (codes "k") behind)) h)))

zoned_kept : (ls : List Line) → is_zoned (lines ls) ≡ true → is_zoned (lines (kept_lines ls)) ≡ true
zoned_kept ls h =
    let zone = cut_one (codes "z") (codes "ka") refl refl ls (end_types (less_one (codes "z") (lines ls)) h) in
    ap is_end zone.kept_at ∙ end_kept zone.rest (ap is_end (sym zone.at) ∙ h)

-- the times, and what comes after them
abbrev is_timed : List (List ℕ) → Bool
is_timed xs = is_zoned (less_all (codes "tr") xs)

timed_types : (xs : List (List ℕ)) → is_timed xs ≡ true → list_all (begins (codes "trzka")) xs ≡ true
timed_types xs h =
    let all = codes "trzka" in
    let times = less_all (codes "tr") xs in
    let behind = less_one (codes "z") times in
    from_less_all (codes "tr") all refl xs (
    from_less_one (codes "z") all refl times (
    from_less_one (codes "k") all refl behind (
    from_less_all (codes "a") all refl (less_one (codes "k") behind) (from_nothing all (less_all (codes "a") (less_one (codes "k") behind)) h))))

timed_kept : (ls : List Line) → is_timed (lines ls) ≡ true → is_timed (lines (kept_lines ls)) ≡ true
timed_kept ls h =
    let times = cut_all (codes "tr") (codes "zka") refl refl ls (zoned_types (less_all (codes "tr") (lines ls)) h) in
    ap is_zoned times.kept_at ∙ zoned_kept times.rest (ap is_zoned (sym times.at) ∙ h)

pub after_kept : (ls : List Line) → is_after (lines ls) ≡ true → is_after (lines (kept_lines ls)) ≡ true
unfolding is_after
after_kept ls h =
    let parts = and_parts (begin (codes "t") (less_all (codes "b") (lines ls))) (is_timed (less_all (codes "b") (lines ls))) h in
    let band = cut_all (codes "b") (codes "trzka") refl refl ls (timed_types (less_all (codes "b") (lines ls)) parts.1) in
    let starts = begin_kept (codes "t") refl band.rest (ap (begin (codes "t")) (sym band.at) ∙ parts.0) in
    let times = timed_kept band.rest (ap is_timed (sym band.at) ∙ parts.1) in
    and_from _ _ (ap (begin (codes "t")) band.kept_at ∙ starts) (ap is_timed band.kept_at ∙ times)
