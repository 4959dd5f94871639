-- Via values, one by one.
use Rattle.std.proofs.Common.{◌≡◌, ℕ, ◌+◌, ◌<◌, get_or, drop, Bool, true, false, cond, List, [], ◌∷◌, ◌++◌, length, Option, Some, None, refl, sym, ap, ◌∙◌, append_assoc}
use Rattle.std.specs.Prelude.{nat_eq, option_map, codes, Ok, Err}
use Rattle.std.specs.Borrow.{Bor}
use Rattle.std.specs.Option.{option_copied}
use Rattle.std.specs.Cmp.Lexicographic.{pointwise, bytes_decides}
use Rattle.std.proofs.lemmas.List.{append-nil, at_drop_more}
use Rattle.text.specs.Pieces.{pieces, pieces_behind}
use Rattle.text.specs.declared.split.Within.TheVariants.{Nothing}
use Rattle.text.proofs.PieceSteps.{pieces_left, next_here}
use Rattle.sip_message.specs.declared.header_names.HeaderName.TheVariants as Names
use Rattle.sip_message.specs.declared.error.MessageError.TheVariants.{Missing, Unreadable}
use Rattle.sip_message.specs.declared.via.Via.{Via}
use Rattle.sip_message.specs.AnswerableParts.{vias_there}
use Rattle.text.specs.Cut.{before, after, led_by}
use Rattle.text.proofs.CutLaws.{joined}
use Rattle.header_fields.specs.declared.headers.Header.{Header}
use Rattle.sip_message.specs.Lookup.{is_named}
use Rattle.sip_message.specs.Via.{with_via, each_via, via_texts, some_vias, put_before, via_of}

-- ---- one value more

one_more : (front : List Via) (via : Via) (o : Option (List Via)) → put_before front (option_map (λ vs. via ∷ vs) o) ≡ put_before (front ++ via ∷ []) o
one_more front via None = refl
one_more front via (Some vs) = ap (λ (all : List Via). Some all) (sym (append_assoc front (via ∷ []) vs))

pub one_put : (front more : List Via) (via : Via) (left : Option (Bor (List ℕ))) (text : Bor (List ℕ)) (piece : List ℕ) (behind : Option (List ℕ)) (all : Option (List Via)) → left ≡ Some text
    → pieces_behind 44 piece behind ≡ pieces 44 Nothing text.now → Some via ≡ via_of piece → more ≡ front ++ via ∷ [] → put_before front (each_via (pieces_left 44 (option_copied left))) ≡ all
    → put_before more (each_via (pieces_left 44 behind)) ≡ all
one_put front more via left text piece behind all is cuts read put so_far =
    let next : each_via (pieces_left 44 (option_copied left)) ≡ option_map (λ vs. via ∷ vs) (each_via (pieces_left 44 behind)) =
    ap each_via (next_here 44 refl left text piece behind is cuts) ∙ ap (λ (o : Option Via). with_via o (each_via (pieces_left 44 behind))) (sym read) in
    ap (λ (vs : List Via). put_before vs (each_via (pieces_left 44 behind))) put ∙ sym (one_more front via (each_via (pieces_left 44 behind))) ∙ ap (put_before front) (sym next) ∙ so_far

-- a piece that is not a value
pub none_put : (front : List Via) (left : Option (Bor (List ℕ))) (text : Bor (List ℕ)) (piece : List ℕ) (behind : Option (List ℕ)) (all : Option (List Via)) → left ≡ Some text
    → pieces_behind 44 piece behind ≡ pieces 44 Nothing text.now → None ≡ via_of piece → put_before front (each_via (pieces_left 44 (option_copied left))) ≡ all → all ≡ None
none_put front left text piece behind all is cuts read so_far =
    sym so_far ∙ ap (λ (ps : List (List ℕ)). put_before front (each_via ps)) (next_here 44 refl left text piece behind is cuts)
    ∙ ap (λ (o : Option Via). put_before front (with_via o (each_via (pieces_left 44 behind)))) (sym read)

-- nothing is left
pub all_put : (front : List Via) (left : Option (Bor (List ℕ))) (all : Option (List Via)) → left ≡ None → put_before front (each_via (pieces_left 44 (option_copied left))) ≡ all → all ≡ Some front
all_put front left all none so_far =
    sym so_far ∙ ap (λ (o : Option (Bor (List ℕ))). put_before front (each_via (pieces_left 44 (option_copied o)))) none ∙ ap (λ (vs : List Via). Some vs) (append-nil front)

-- ---- texts that are read together

pub each_joined : (xs ys : List (List ℕ)) (vias : List Via) → each_via xs ≡ Some vias → each_via (xs ++ ys) ≡ put_before vias (each_via ys)
each_joined [] ys vias h = let none : [] ≡ vias = cc in rw (← none) (same (each_via ys)) where
  same : (o : Option (List Via)) → o ≡ put_before [] o
  same None = refl
  same (Some vs) = refl
each_joined (x ∷ xs) ys vias h = step (via_of x) (each_via xs) refl h (λ vs k. each_joined xs ys vs k) where
  inner : (via : Via) (vs : List Via) (o : Option (List Via)) → with_via (Some via) (put_before vs o) ≡ put_before (via ∷ vs) o
  inner via vs None = refl
  inner via vs (Some ws) = refl

  step : (v : Option Via) (o : Option (List Via)) → each_via xs ≡ o → with_via v o ≡ Some vias → ((vs : List Via) → each_via xs ≡ Some vs → each_via (xs ++ ys) ≡ put_before vs (each_via ys))
      → with_via v (each_via (xs ++ ys)) ≡ put_before vias (each_via ys)
  step None o e k on = absurd cc
  step (Some via) None e k on = absurd cc
  step (Some via) (Some vs) e k on =
      let same : via ∷ vs ≡ vias = cc in
      ap (with_via (Some via)) (on vs e) ∙ inner via vs (each_via ys) ∙ ap (λ (ws : List Via). put_before ws (each_via ys)) same

pub each_fails : (xs ys : List (List ℕ)) → each_via xs ≡ None → each_via (xs ++ ys) ≡ None
each_fails [] ys h = absurd cc
each_fails (x ∷ xs) ys h = step (via_of x) (each_via xs) refl h (λ k. each_fails xs ys k) where
  step : (v : Option Via) (o : Option (List Via)) → each_via xs ≡ o → with_via v o ≡ None → (each_via xs ≡ None → each_via (xs ++ ys) ≡ None) → with_via v (each_via (xs ++ ys)) ≡ None
  step None o e k on = refl
  step (Some via) None e k on = ap (with_via (Some via)) (on e)
  step (Some via) (Some vs) e k on = absurd cc

-- values that could be put before all others are read so
pub read_of_put : (front more : List Via) (o : Option (List Via)) → put_before front o ≡ Some more → (vs : List Via) × (o ≡ Some vs) × (more ≡ front ++ vs)
read_of_put front more None h = absurd cc
read_of_put front more (Some vs) h = (vs, refl, let same : front ++ vs ≡ more = cc in sym same)

pub unread_of_put : (front : List Via) (o : Option (List Via)) → put_before front o ≡ None → o ≡ None
unread_of_put front None h = refl
unread_of_put front (Some vs) h = absurd cc

-- ---- whether there is one

pub empty_texts : (texts : List (List ℕ)) → each_via texts ≡ Some [] → texts ≡ []
empty_texts [] h = refl
empty_texts (x ∷ xs) h = absurd (step (via_of x) (each_via xs) h) where
  step : (v : Option Via) (o : Option (List Via)) → with_via v o ≡ Some [] → ⊥
  step None o k = cc
  step (Some via) None k = cc
  step (Some via) (Some vs) k = cc

pub some_unreadable : (texts : List (List ℕ)) → None ≡ each_via texts → some_vias texts ≡ Err (Unreadable Names.Via)
some_unreadable [] h = absurd cc
some_unreadable (x ∷ xs) h = rw (← h) refl

pub none_there : (texts : List (List ℕ)) (vias : List Via) → Some vias ≡ each_via texts → vias ≡ [] → some_vias texts ≡ Err (Missing Names.Via)
none_there texts vias h none = rw (empty_texts texts (sym h ∙ ap (λ (vs : List Via). Some vs) none)) refl

pub some_there : (texts : List (List ℕ)) (vias : List Via) → Some vias ≡ each_via texts → (vias ≡ [] → ⊥) → some_vias texts ≡ Ok vias
some_there [] vias h some = absurd (some (let same : vias ≡ [] = cc in same))
some_there (x ∷ xs) vias h some = rw (← h) refl

pub none_among : (texts : List (List ℕ)) → None ≡ each_via texts → vias_there texts ≡ None
none_among [] h = absurd cc
none_among (x ∷ xs) h = sym h

pub empty_among : (texts : List (List ℕ)) (vias : List Via) → Some vias ≡ each_via texts → vias ≡ [] → vias_there texts ≡ None
empty_among texts vias h none = rw (empty_texts texts (sym h ∙ ap (λ (vs : List Via). Some vs) none)) refl

pub all_among : (texts : List (List ℕ)) (vias : List Via) → Some vias ≡ each_via texts → (vias ≡ [] → ⊥) → vias_there texts ≡ Some vias
all_among [] vias h some = absurd (some (let same : vias ≡ [] = cc in same))
all_among (x ∷ xs) vias h some = sym h

-- ---- header fields

texts_more : (h : Header) (hs : List Header) → is_named (codes "Via") h ≡ true → via_texts (h ∷ hs) ≡ pieces 44 Nothing h.value ++ via_texts hs
texts_more h hs named = rw named refl

texts_same : (h : Header) (hs : List Header) → is_named (codes "Via") h ≡ false → via_texts (h ∷ hs) ≡ via_texts hs
texts_same h hs named = rw named refl

-- a field of another name
pub field_passed : (vias : List Via) (h : Header) (hs : List Header) (all : Option (List Via)) → is_named (codes "Via") h ≡ false → put_before vias (each_via (via_texts (h ∷ hs))) ≡ all → put_before vias (each_via (via_texts hs)) ≡ all
field_passed vias h hs all named so_far = ap (λ (ts : List (List ℕ)). put_before vias (each_via ts)) (sym (texts_same h hs named)) ∙ so_far

-- the values of a field more
pub field_put : (vias more : List Via) (h : Header) (hs : List Header) (all : Option (List Via)) → is_named (codes "Via") h ≡ true → (r : Bool)
    → put_before vias (each_via (pieces 44 Nothing h.value)) ≡ cond r (Some more) None → r ≡ true
    → put_before vias (each_via (via_texts (h ∷ hs))) ≡ all → put_before more (each_via (via_texts hs)) ≡ all
field_put vias more h hs all named r put whether so_far =
    let read = read_of_put vias more (each_via (pieces 44 Nothing h.value)) (put ∙ ap (λ (b : Bool). cond b (Some more) None) whether) in
    let whole : each_via (via_texts (h ∷ hs)) ≡ put_before read.0 (each_via (via_texts hs)) = ap each_via (texts_more h hs named) ∙ each_joined (pieces 44 Nothing h.value) (via_texts hs) read.0 read.1 in
    ap (λ (vs : List Via). put_before vs (each_via (via_texts hs))) read.2 ∙ twice vias read.0 (each_via (via_texts hs)) ∙ ap (put_before vias) (sym whole) ∙ so_far where
      twice : (xs ys : List Via) (o : Option (List Via)) → put_before (xs ++ ys) o ≡ put_before xs (put_before ys o)
      twice xs ys None = refl
      twice xs ys (Some zs) = ap (λ (vs : List Via). Some vs) (append_assoc xs ys zs)

-- a field with a text that is not a value
pub field_refused : (vias : List Via) (h : Header) (hs : List Header) (all : Option (List Via)) → is_named (codes "Via") h ≡ true → (r : Bool) (more : List Via)
    → put_before vias (each_via (pieces 44 Nothing h.value)) ≡ cond r (Some more) None → r ≡ false
    → put_before vias (each_via (via_texts (h ∷ hs))) ≡ all → None ≡ all
field_refused vias h hs all named r more put refused so_far =
    let none : put_before vias (each_via (pieces 44 Nothing h.value)) ≡ None = put ∙ ap (λ (b : Bool). cond b (Some more) None) refused in
    let fails : each_via (via_texts (h ∷ hs)) ≡ None = ap each_via (texts_more h hs named) ∙ each_fails (pieces 44 Nothing h.value) (via_texts hs) (unread_of_put vias (each_via (pieces 44 Nothing h.value)) none) in
    ap (put_before vias) (sym fails) ∙ so_far

-- ---- sent-by

pub joined_text : (bytes host port front behind : List ℕ) → front ≡ before 58 bytes → Some behind ≡ after 58 bytes → front ≡ host → behind ≡ port → bytes ≡ host ++ 58 ∷ port
joined_text bytes host port front behind cut_front cut_back same_host same_port =
    sym (joined 58 bytes) ∙ ap (λ (t : List ℕ). t ++ led_by 58 (after 58 bytes)) (sym cut_front ∙ same_host) ∙ ap (λ (o : Option (List ℕ)). host ++ led_by 58 o) (sym cut_back) ∙ ap (λ (t : List ℕ). host ++ 58 ∷ t) same_port

pub same_bytes : (a b : List ℕ) → pointwise nat_eq a b ≡ true → a ≡ b
same_bytes a b h = (bytes_decides a b).0 h

-- ---- header fields in a list

pub fields_from : (headers : List Header) (i : ℕ) (h : Header) → i < length headers → h ≡ get_or headers i h → drop i headers ≡ h ∷ drop (i + 1) headers
fields_from headers i h lt at = at_drop_more (λ (hs : List Header). hs) headers i h lt ∙ ap (λ (k : Header). k ∷ drop (i + 1) headers) (sym at)
