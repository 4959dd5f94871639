-- A key that a text's table has is that of one of the text's top entries.
use Rattle.std.proofs.Common.{◌≡◌, ◌==◌, ◌||◌, ℕ, zero, suc, Bool, true, false, not, cond, Ordering, Less, Equal, Greater, List, [], ◌∷◌, ◌++◌, length, find, Option, Some, None, inl, inr, refl, sym, ap, subst, ◌∙◌, arith, nat_cmp, eqb-true}
use Rattle.std.specs.Ordering.{match_ordering}
use Rattle.std.specs.Cmp.Lexicographic.{slice_cmp}
use Rattle.std.proofs.lemmas.Bool.{cases_Bool, true≢false}
use Rattle.toml_parser.specs.Lexical.{skip_blank}
use Rattle.toml_parser.specs.Strings.{Key}
use Rattle.toml.specs.Data.{Members, same_key}
use Rattle.toml.specs.Tables.{implicit, dotted, Node, open_table, Nodes, no_nodes, node, get_node, insert, replace, close, Edit, header_node, dot_node, by_header, by_dot, along_header, along_dots, Definition, key_value, std_table, array_table, Expression, new_node, redefine, at_found, at_key, put, Document, define}
use Rattle.toml.specs.Parse.{line, lines, skip_bom, parse_document}
use Rattle.toml.proofs.Turns.{lines_end}
use Rattle.configuration.specs.Keys.{is_same}
use Rattle.configuration.specs.Entries.{Entry, AreEntries, is_header, first_part, root_of, top_entries, first_top}
use Rattle.configuration.specs.Lines.{has_key}
use Rattle.configuration.proofs.SkipLaws.{bind_some, map_some, some_is, one_read}
use Rattle.configuration.proofs.EntryLaws.{nothing_read, nil_from}

abbrev pub NoKey : List ℕ → Nodes → Type 0
NoKey key ns = has_key key (close ns) ≡ false

or_none : (b c : Bool) → (b || c) ≡ false → (b ≡ false) × (c ≡ false)
or_none true c h = absurd (true≢false h)
or_none false c h = (refl, h)

-- ---- one edit

insert_keys : (key k : List ℕ) (x : Node) (ns : Nodes) → is_same k key ≡ false → NoKey key ns → NoKey key (insert k x ns)
insert_keys key k x no_nodes other none = rw other
insert_keys key k x (node l y ns) other none = go (slice_cmp nat_cmp k l) (insert_keys key k x ns other (parts.1)) where
  parts : (is_same l key ≡ false) × (has_key key (close ns) ≡ false)
  parts = or_none (is_same l key) (has_key key (close ns)) none

  go : (o : Ordering) → NoKey key (insert k x ns) → NoKey key (match_ordering o (node k x (node l y ns)) (node l x ns) (node l y (insert k x ns)))
  go Less later = rw other none
  go Equal later = none
  go Greater later = rw (parts.0) later

replace_keys : (key k : List ℕ) (x : Node) (ns : Nodes) → has_key key (close (replace k x ns)) ≡ has_key key (close ns)
replace_keys key k x no_nodes = refl
replace_keys key k x (node l y ns) = go (same_key k l) (replace_keys key k x ns) where
  go : (b : Bool) → has_key key (close (replace k x ns)) ≡ has_key key (close ns)
      → has_key key (close (cond b (node l x ns) (node l y (replace k x ns)))) ≡ (is_same l key || has_key key (close ns))
  go true later = refl
  go false later = ap (λ (t : Bool). is_same l key || t) later

replaced : (key k : List ℕ) (x : Node) (ns : Nodes) → NoKey key ns → NoKey key (replace k x ns)
replaced key k x ns none = replace_keys key k x ns ∙ none

by_header_keys : (key k : List ℕ) (edit : Edit) (ns new : Nodes) (o : Option Node) → by_header k edit ns o ≡ Some new → is_same k key ≡ false → NoKey key ns → NoKey key new
by_header_keys key k edit ns new None some other none =
    let (inner, is, same) = map_some _ (edit no_nodes) new some in
    subst (NoKey key) same (insert_keys key k (open_table implicit inner) ns other none)
by_header_keys key k edit ns new (Some x) some other none =
    let (inner, is, same) = map_some _ (header_node edit x) new some in
    subst (NoKey key) same (replaced key k inner ns none)

by_dot_keys : (key k : List ℕ) (edit : Edit) (ns new : Nodes) (o : Option Node) → by_dot k edit ns o ≡ Some new → is_same k key ≡ false → NoKey key ns → NoKey key new
by_dot_keys key k edit ns new None some other none =
    let (inner, is, same) = map_some _ (edit no_nodes) new some in
    subst (NoKey key) same (insert_keys key k (open_table dotted inner) ns other none)
by_dot_keys key k edit ns new (Some x) some other none =
    let (inner, is, same) = map_some _ (dot_node edit x) new some in
    subst (NoKey key) same (replaced key k inner ns none)

at_found_keys : (key k : List ℕ) (what : Definition) (ns new : Nodes) (o : Option Node) → at_found k what ns o ≡ Some new → is_same k key ≡ false → NoKey key ns → NoKey key new
at_found_keys key k what ns new None some other none = subst (NoKey key) (some_is _ _ some) (insert_keys key k (new_node what) ns other none)
at_found_keys key k what ns new (Some x) some other none =
    let (y, is, same) = map_some _ (redefine what x) new some in
    subst (NoKey key) same (replaced key k y ns none)

at_key_keys : (key k : List ℕ) (what : Definition) (ns new : Nodes) → at_key k what ns ≡ Some new → is_same k key ≡ false → NoKey key ns → NoKey key new
unfolding at_key
at_key_keys key k what ns new some other none = at_found_keys key k what ns new (get_node k ns) some other none

header_keys : (key : List ℕ) (path : List (List ℕ)) (last : List ℕ) (what : Definition) (ns new : Nodes) → along_header path (at_key last what) ns ≡ Some new
    → is_same (first_part path last) key ≡ false → NoKey key ns → NoKey key new
unfolding along_header
header_keys key [] last what ns new some other none = at_key_keys key last what ns new some other none
header_keys key (k ∷ path) last what ns new some other none = by_header_keys key k (along_header path (at_key last what)) ns new (get_node k ns) some other none

below_keys : (key k : List ℕ) (path : List (List ℕ)) (edit : Edit) (ns new : Nodes) → along_header (k ∷ path) edit ns ≡ Some new → is_same k key ≡ false → NoKey key ns → NoKey key new
unfolding along_header
below_keys key k path edit ns new some other none = by_header_keys key k (along_header path edit) ns new (get_node k ns) some other none

dots_keys : (key : List ℕ) (path : List (List ℕ)) (last : List ℕ) (what : Definition) (ns new : Nodes) → along_dots path (at_key last what) ns ≡ Some new
    → is_same (first_part path last) key ≡ false → NoKey key ns → NoKey key new
unfolding along_dots
dots_keys key [] last what ns new some other none = at_key_keys key last what ns new some other none
dots_keys key (k ∷ path) last what ns new some other none = by_dot_keys key k (along_dots path (at_key last what)) ns new (get_node k ns) some other none

pair_keys : (key : List ℕ) (k : Key) (what : Definition) (ns new : Nodes) → along_header [] (along_dots k.0 (at_key k.1 what)) ns ≡ Some new
    → is_same (root_of k) key ≡ false → NoKey key ns → NoKey key new
unfolding along_header
pair_keys key k what ns new some other none = dots_keys key k.0 k.1 what ns new some other none

-- ---- one entry

-- there was a header before
abbrev pub is_under : List (List ℕ) → Bool
is_under [] = false
is_under (k ∷ path) = true

-- the table of the last header is not in this key's
abbrev pub NotIn : List (List ℕ) → List ℕ → Type 0
NotIn [] key = Unit {0}
NotIn (k ∷ path) key = is_same k key ≡ false

-- the key is not there, and the last header is not in it
pub record Lacks (key : List ℕ) (under : Bool) (doc : Document) : Type 0 where
  pub none : NoKey key doc.0
  pub section : NotIn doc.1 key
  pub under_is : is_under doc.1 ≡ under

not_in : (key : List ℕ) (path : List (List ℕ)) (last : List ℕ) → is_same (first_part path last) key ≡ false → NotIn (path ++ last ∷ []) key
not_in key [] last other = other
not_in key (k ∷ path) last other = other

under_header : (path : List (List ℕ)) (last : List ℕ) → is_under (path ++ last ∷ []) ≡ true
under_header [] last = refl
under_header (k ∷ path) last = refl

or_false : (b : Bool) → b ≡ (b || false)
or_false true = refl
or_false false = refl

or_true : (b : Bool) → true ≡ (b || true)
or_true true = refl
or_true false = refl

define_header_keys : (key : List ℕ) (under : Bool) (doc : Document) (k : Key) (what : Definition) (root : Nodes) → along_header k.0 (at_key k.1 what) doc.0 ≡ Some root
    → is_same (root_of k) key ≡ false → Lacks key under doc → Lacks key (under || true) (root, k.0 ++ k.1 ∷ [])
define_header_keys key under doc k what root edit other lacks = record {
  none = header_keys key k.0 k.1 what doc.0 root edit other lacks.none;
  section = not_in key k.0 k.1 other;
  under_is = under_header k.0 k.1 ∙ or_true under;
}

define_keys : (key : List ℕ) (under : Bool) (doc next : Document) (k : Key) (what : Definition) → define doc (k, what) ≡ Some next
    → ((is_header what || not under) ≡ true → is_same (root_of k) key ≡ false) → Lacks key under doc → Lacks key (under || is_header what) next
unfolding define
define_keys key under doc next k std_table some other lacks =
    let (root, edit, same) = map_some _ (along_header k.0 (at_key k.1 std_table) doc.0) next some in
    subst (Lacks key (under || true)) same (define_header_keys key under doc k std_table root edit (other refl) lacks)
define_keys key under doc next k array_table some other lacks =
    let (root, edit, same) = map_some _ (along_header k.0 (at_key k.1 array_table) doc.0) next some in
    subst (Lacks key (under || true)) same (define_header_keys key under doc k array_table root edit (other refl) lacks)
define_keys key under (ns, []) next k (key_value d) some other lacks =
    let (root, edit, same) = map_some _ (along_header [] (put k d) ns) next some in
    let top : not under ≡ true = ap not (sym lacks.under_is) in
    subst (Lacks key (under || false)) same (record {
      none = pair_keys key k (key_value d) ns root edit (other top) lacks.none;
      section = tt;
      under_is = lacks.under_is ∙ or_false under;
    })
define_keys key under (ns, l ∷ path) next k (key_value d) some other lacks =
    let (root, edit, same) = map_some _ (along_header (l ∷ path) (put k d) ns) next some in
    subst (Lacks key (under || false)) same (record {
      none = below_keys key l path (put k d) ns root edit lacks.section lacks.none;
      section = lacks.section;
      under_is = lacks.under_is ∙ or_false under;
    })

-- ---- all of them

pub record NoneNext (key : List ℕ) (under : Bool) (e : Entry) (es : List Entry) : Type 0 where
  pub other : (is_header e.what || not under) ≡ true → is_same (root_of e.key) key ≡ false
  pub rest : find (λ entry. is_same (root_of entry.key) key) (top_entries (under || is_header e.what) es) ≡ None

none_next : (key : List ℕ) (under : Bool) (e : Entry) (es : List Entry) → find (λ entry. is_same (root_of entry.key) key) (top_entries under (e ∷ es)) ≡ None → NoneNext key under e es
none_next key under e es none = go (is_header e.what || not under) refl where
  rest : List Entry
  rest = top_entries (under || is_header e.what) es

  named : (b : Bool) → is_same (root_of e.key) key ≡ b → cond b (Some e) (find (λ entry. is_same (root_of entry.key) key) rest) ≡ None
      → (is_same (root_of e.key) key ≡ false) × (find (λ entry. is_same (root_of entry.key) key) rest ≡ None)
  named true is found = absurd cc
  named false is found = (is, found)

  go : (b : Bool) → (is_header e.what || not under) ≡ b → NoneNext key under e es
  go true top = let p = named (is_same (root_of e.key) key) refl (rw top at none) in record { other = λ h. p.0; rest = p.1 }
  go false below = record { other = λ h. absurd (true≢false (sym h ∙ below)); rest = rw below at none }

some_line : (text : List ℕ) (e : Entry) → e.from ≡ skip_blank text → line e.from ≡ Some ((e.key, e.what), e.behind) → length (skip_blank text) ≡ 0 → ⊥
some_line text e from read none = clash _ (sym nothing_read ∙ ap line (sym (from ∙ nil_from _ none)) ∙ read) where
  clash : (x : Expression × List ℕ) → None ≡ Some x → ⊥
  clash x h = cc

lines_keys : (key : List ℕ) (under : Bool) (n : ℕ) (doc final : Document) (text : List ℕ) (es : List Entry) → lines n doc text ≡ Some final → AreEntries text es
    → find (λ entry. is_same (root_of entry.key) key) (top_entries under es) ≡ None → Lacks key under doc → NoKey key final.0
unfolding lines
lines_keys key under zero doc final text es some are none lacks = absurd cc
lines_keys key under (suc n) doc final text [] some are none lacks =
    subst (λ (d : Document). NoKey key d.0) (some_is _ _ (sym (lines_end (suc n) doc text (omega arith) are) ∙ some)) lacks.none
lines_keys key under (suc n) doc final text (e ∷ es) some are none lacks = elim (cases_Bool (length (skip_blank text) == 0)) [
  | inl blank ↦ absurd (some_line text e are.0 are.1 (eqb-true (length (skip_blank text)) 0 blank))
  | inr more ↦
      let (x, is, on) = bind_some _ (line (skip_blank text)) final (rw more at some) in
      let (next, defined, last) = bind_some _ (define doc x.0) final on in
      let same : x ≡ ((e.key, e.what), e.behind) = one_read (line (skip_blank text)) _ _ is (ap line (sym are.0) ∙ are.1) in
      let step = none_next key under e es none in
      let later = define_keys key under doc next e.key e.what (ap (λ (y : Expression × List ℕ). define doc y.0) (sym same) ∙ defined) step.other lacks in
      lines_keys key (under || is_header e.what) n next final e.behind es (ap (λ (y : Expression × List ℕ). lines n next y.1) (sym same) ∙ last) are.2 step.rest later
]

pub no_entry_no_key : (text key : List ℕ) (ms : Members) (es : List Entry) → parse_document text ≡ Some ms → AreEntries (skip_bom text) es → first_top key es ≡ None → has_key key ms ≡ false
unfolding parse_document
no_entry_no_key text key ms es some are none =
    let (doc, is, closed) = map_some _ (lines (suc (length text)) (no_nodes, []) (skip_bom text)) ms some in
    ap (has_key key) (sym closed) ∙ lines_keys key false (suc (length text)) (no_nodes, []) doc (skip_bom text) es is are none (record { none = refl; section = tt; under_is = refl })
