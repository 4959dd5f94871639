-- The last lines of a text that grows.
use Rattle.std.proofs.Common.{◌≡◌, ◌≢◌, ℕ, ◌+◌, ◌-◌, ◌<◌, ◌≤◌, Bool, true, false, cond, List, [], ◌∷◌, ◌++◌, drop, get_or, length, ltb, map, take, Result, Ok, Err, OnOk, OnErr, refl, sym, subst, ap, ◌∙◌, inl, inr, arith}
use Rattle.std.specs.List.{All, concat}
use Rattle.std.proofs.lemmas.Bool.{cases_lt, ltb-true, lt-ltb}
use Rattle.std.proofs.lemmas.List.{append_assoc, append-nil, drop-append-le, drop-drop, length-append, length-drop, length-take-le, map-append, take-append-le, take-take, take_all, take_more}
use Rattle.std.proofs.lemmas.List.Elements.{All-nil, All-push}
use Rattle.std.proofs.lemmas.List.Folds.{concat-append}
use Rattle.page_desk.specs.Rings.{GoesOn, IsAll, block_of_lines}
use Rattle.page_desk.specs.Lines.{Contents, IsText, Keeps, Lacks, ended, last_lines, line_feed, max_lines, with_line, with_one}

pub of_nothing : Keeps [] (record { lines = []; rest = [] })
of_nothing = record {
  lines = [];
  is_text = record { all = refl; whole = All-nil Lacks; unended = All-nil (λ byte. byte ≢ line_feed) };
  last = refl;
}

-- a byte that ends no line
pub goes_on : (text : List ℕ) (kept : Contents) (byte : ℕ) → byte ≢ line_feed → Keeps text kept
    → Keeps (text ++ byte ∷ []) (record { lines = kept.lines; rest = kept.rest ++ byte ∷ [] })
goes_on text kept byte other keeps = record {
  lines = keeps.lines;
  is_text = record {
    all = ap (λ t. t ++ byte ∷ []) keeps.is_text.all ∙ append_assoc (concat (map ended keeps.lines)) kept.rest (byte ∷ []);
    whole = keeps.is_text.whole;
    unended = All-push (λ b. b ≢ line_feed) kept.rest byte keeps.is_text.unended other;
  };
  last = keeps.last;
}

not_many : (n : ℕ) → ltb 50 n ≡ false → n ≤ 50
not_many n less = elim (cases_lt 50 n) [
  | inl many ↦ absurd (cc (less, lt-ltb 50 n many))
  | inr few ↦ few
]

-- without the first if they are too many
trimmed : (all : List (List ℕ)) (n : ℕ) (b : Bool) → ltb 50 (length (drop (n - 50) all)) ≡ b → length all ≡ n + 1
    → cond b (drop 1 (drop (n - 50) all)) (drop (n - 50) all) ≡ drop (length all - 50) all
trimmed all n true is one_more =
    drop-drop 1 (n - 50) all
    ∙ ap (λ k. drop k all) (omega (arith, one_more, length-drop (n - 50) all, ltb-true 50 (length (drop (n - 50) all)) is))
trimmed all n false is one_more =
    ap (λ k. drop k all) (omega (arith, one_more, length-drop (n - 50) all, not_many (length (drop (n - 50) all)) is))

one_more : (lines : List (List ℕ)) (line : List ℕ) → with_one (last_lines lines) line ≡ last_lines (lines ++ line ∷ [])
one_more lines line =
    ap (λ xs. cond (ltb 50 (length xs)) (drop 1 xs) xs) (sym (drop-append-le (length lines - 50) lines (line ∷ []) (omega arith)))
    ∙ trimmed (lines ++ line ∷ []) (length lines) (ltb 50 (length (drop (length lines - 50) (lines ++ line ∷ [])))) refl (length-append lines (line ∷ []))

-- a line ends
pub ends : (text : List ℕ) (kept : Contents) → Keeps text kept → Keeps (text ++ line_feed ∷ []) (with_line kept)
ends text kept keeps = record {
  lines = keeps.lines ++ kept.rest ∷ [];
  is_text = record {
    all =
        ap (λ t. t ++ line_feed ∷ []) keeps.is_text.all
        ∙ append_assoc (concat (map ended keeps.lines)) kept.rest (line_feed ∷ [])
        ∙ ap (λ t. concat (map ended keeps.lines) ++ t) (sym (append-nil (ended kept.rest)))
        ∙ sym (concat-append (map ended keeps.lines) (ended kept.rest ∷ []))
        ∙ ap concat (sym (map-append ended keeps.lines (kept.rest ∷ [])))
        ∙ sym (append-nil (concat (map ended (keeps.lines ++ kept.rest ∷ []))));
    whole = All-push Lacks keeps.lines kept.rest keeps.is_text.whole keeps.is_text.unended;
    unended = All-nil (λ byte. byte ≢ line_feed);
  };
  last = ap (λ lines. with_one lines kept.rest) keeps.last ∙ one_more keeps.lines kept.rest;
}

pub line_ended : {T E : Type 0} (r : Result T E) (old new : Contents) (byte : ℕ) → byte ≡ line_feed → OnOk r (new ≡ with_line old)
    → OnOk r ((text : List ℕ) → Keeps text old → Keeps (text ++ byte ∷ []) new)
line_ended (Ok x) old new byte is same = λ text keeps.
    subst (λ b. Keeps (text ++ b ∷ []) new) (sym is) (subst (λ k. Keeps (text ++ line_feed ∷ []) k) (sym same) (ends text old keeps))
line_ended (Err e) old new byte is same = same

-- one byte more of those that are to be added
pub one_byte_more : (text bytes : List ℕ) (i d : ℕ) (kept : Contents) → i < length bytes → Keeps ((text ++ take i bytes) ++ get_or bytes i d ∷ []) kept
    → Keeps (text ++ take (i + 1) bytes) kept
one_byte_more text bytes i d kept within keeps =
    subst (λ t. Keeps t kept) (append_assoc text (take i bytes) (get_or bytes i d ∷ []) ∙ ap (λ t. text ++ t) (sym (take_more bytes i d within))) keeps

-- what is read of a block is what was written to it
pub of_block : (count len : ℕ) (slice items : List ℕ) → count ≤ length slice → count ≤ len
    → take count (take len (slice ++ drop (length slice) items)) ≡ take count slice
of_block count len slice items within fits =
    take-take count len (slice ++ drop (length slice) items) fits
    ∙ take-append-le count slice (drop (length slice) items) within

-- a block that was not filled leaves nothing that is known
pub all_known : (count : ℕ) (slice left : List ℕ) → count ≤ length slice → length slice ≡ block_of_lines → (count < length slice → length left ≡ 0)
    → IsAll block_of_lines (take count slice) left
all_known count slice left within full most = elim (cases_lt count (length slice)) [
  | inl fewer ↦ inl (empty left (most fewer))
  | inr all ↦ inr (omega (arith, length-take-le count slice within, within, all, full))
] where
  empty : (xs : List ℕ) → length xs ≡ 0 → xs ≡ []
  empty [] h = refl
  empty (x ∷ xs) h = absurd cc

-- the bytes of a block that were taken are added, or its first ones
pub going_on : {T E : Type 0} (r : Result T E) (before after left bytes given : List ℕ) (old new : Contents) → given ≡ bytes → after ≡ before ++ bytes
    → IsAll block_of_lines bytes left
    → OnOk r ((text : List ℕ) → Keeps text old → Keeps (text ++ given) new)
    → OnErr r ((count : ℕ) × (count ≤ length given) × ((text : List ℕ) → Keeps text old → Keeps (text ++ take count given) new))
    → GoesOn before after left old new
going_on (Ok x) before after left bytes given old new same taken every all few = record {
  items = given;
  count = length given;
  taken = taken ∙ ap (λ b. before ++ b) (sym same);
  all = subst (λ b. IsAll block_of_lines b left) (sym same) every;
  few = omega arith;
  goes_on = λ text keeps. subst (λ b. Keeps (text ++ b) new) (sym (take_all (length given) given (omega arith))) (all text keeps);
}
going_on (Err e) before after left bytes given old new same taken every all few = record {
  items = given;
  count = few.0;
  taken = taken ∙ ap (λ b. before ++ b) (sym same);
  all = subst (λ b. IsAll block_of_lines b left) (sym same) every;
  few = few.1;
  goes_on = few.2;
}
