-- The entries of a text, and what the grammar has read when it reads one.
use Rattle.std.proofs.Common.{◌≡◌, ◌==◌, ◌&&◌, ◌||◌, ℕ, zero, suc, Bool, true, false, not, List, [], ◌∷◌, length, drop, slice_index, find, Option, Some, None, refl, sym, ap, subst, ◌∙◌, arith}
use Rattle.std.specs.Prelude.{Result, Ok, Err, MatchResult}
use Rattle.std.specs.Result.{IsErrAnd}
use Rattle.std.proofs.lemmas.Bool.{cases_Bool, and_parts}
use Rattle.toml.proofs.OnLiterals.{toml_on_literals}
use Rattle.std.proofs.Common.{inl, inr, eqb-true}
use Rattle.toml_parser.specs.declared.error.ParseError.{ParseError}
use Rattle.toml_parser.specs.declared.error.ParseError.TheVariants.{OutOfMemory}
use Rattle.toml_parser.specs.Lexical.{first, skip_blank, skip_ws}
use Rattle.toml_parser.specs.Strings.{Key, recursion_limit}
use Rattle.toml.specs.Data.{Data, Members}
use Rattle.toml.specs.Tables.{no_nodes, Document, Expression, define}
use Rattle.toml.specs.Parse.{after_byte, key_equals, keyval, val, header_key, expression, ends_line, line, lines, skip_bom, parse_document}
use Rattle.configuration.specs.Keys.{is_same}
use Rattle.configuration.specs.Entries.{Entry, AreEntries, is_header, root_of, top_entries}
use Rattle.configuration.proofs.SkipLaws.{bind_some, map_some, some_is}

-- ---- what a line was read from

-- the line's entry, without what ends the line
pub line_of_entry : (text : List ℕ) (read : Expression × List ℕ) → line text ≡ Some read → expression text ≡ Some read
unfolding line
line_of_entry text read some =
    let (e, is, ends) = bind_some _ (expression text) read some in
    elim (cases_Bool (ends_line (skip_ws e.1))) [
      | inl ended ↦ is ∙ rw ended at ends
      | inr open_still ↦ absurd (clash (rw open_still at ends))
    ] where
      clash : None ≡ Some read → ⊥
      clash none = cc

-- a key with its value
pub record PairRead (text : List ℕ) (read : Expression × List ℕ) : Type 0 where
  pub key : Key × List ℕ
  pub item : Data × List ℕ
  pub key_is : key_equals text ≡ Some key
  pub value : val recursion_limit key.1 ≡ Some item
  pub name : key.0 ≡ read.0.0
  pub kind : false ≡ is_header read.0.1
  pub behind : item.1 ≡ read.1

pair_read : (text : List ℕ) (read : Expression × List ℕ) → (first text == 91) ≡ false → expression text ≡ Some read → PairRead text read
unfolding expression
pair_read text read other some =
    let (p, is, same) = map_some _ (keyval (val recursion_limit) text) read (rw other at some) in
    let (k, key_is, behind) = bind_some _ (key_equals text) p is in
    let (v, value, both) = map_some _ (val recursion_limit k.1) p behind in
    record {
      key = k;
      item = v;
      key_is = key_is;
      value = value;
      name = ap (λ (q : (Key × Data) × List ℕ). q.0.0) both ∙ ap (λ (r : Expression × List ℕ). r.0.0) same;
      kind = ap (λ (r : Expression × List ℕ). is_header r.0.1) same;
      behind = ap (λ (q : (Key × Data) × List ℕ). q.1) both ∙ ap (λ (r : Expression × List ℕ). r.1) same;
    }

-- the header of a table
pub record TableRead (text : List ℕ) (read : Expression × List ℕ) : Type 0 where
  pub key : Key × List ℕ
  pub key_is : header_key (drop 1 text) ≡ Some key
  pub name : key.0 ≡ read.0.0
  pub kind : true ≡ is_header read.0.1
  pub behind : key.1 ≡ read.1

table_read : (text : List ℕ) (read : Expression × List ℕ) → (first text == 91) ≡ true → (slice_index text 1 == 91) ≡ false → expression text ≡ Some read → TableRead text read
unfolding expression
table_read text read opens single some =
    let (k, key_is, same) = map_some _ (header_key (drop 1 text)) read (rw (opens, single) at some) in
    record {
      key = k;
      key_is = key_is;
      name = ap (λ (r : Expression × List ℕ). r.0.0) same;
      kind = ap (λ (r : Expression × List ℕ). is_header r.0.1) same;
      behind = ap (λ (r : Expression × List ℕ). r.1) same;
    }

-- the header of a table of an array
pub record ArrayRead (text : List ℕ) (read : Expression × List ℕ) : Type 0 where
  pub key : Key × List ℕ
  pub key_is : header_key (drop 2 text) ≡ Some key
  pub name : key.0 ≡ read.0.0
  pub kind : true ≡ is_header read.0.1
  pub closes : after_byte 93 key.1 ≡ Some read.1

array_read : (text : List ℕ) (read : Expression × List ℕ) → (first text == 91) ≡ true → (slice_index text 1 == 91) ≡ true → expression text ≡ Some read → ArrayRead text read
unfolding expression
array_read text read opens double some =
    let (k, key_is, closing) = bind_some _ (header_key (drop 2 text)) read (rw (opens, double) at some) in
    let (rest, closes, same) = map_some _ (after_byte 93 k.1) read closing in
    record {
      key = k;
      key_is = key_is;
      name = ap (λ (r : Expression × List ℕ). r.0.0) same;
      kind = ap (λ (r : Expression × List ℕ). is_header r.0.1) same;
      closes = closes ∙ ap (λ (r : Expression × List ℕ). Some r.1) same;
    }

pub line_of_pair : (text : List ℕ) (read : Expression × List ℕ) → (first text == 91) ≡ false → line text ≡ Some read → PairRead text read
line_of_pair text read other some = pair_read text read other (line_of_entry text read some)

pub line_of_table : (text : List ℕ) (read : Expression × List ℕ) → (first text == 91) ≡ true → (slice_index text 1 == 91) ≡ false → line text ≡ Some read → TableRead text read
line_of_table text read opens single some = table_read text read opens single (line_of_entry text read some)

pub line_of_array : (text : List ℕ) (read : Expression × List ℕ) → (first text == 91) ≡ true → (slice_index text 1 == 91) ≡ true → line text ≡ Some read → ArrayRead text read
line_of_array text read opens double some = array_read text read opens double (line_of_entry text read some)

-- a closing bracket is there, and what comes after it is left
pub closed : (text rest : List ℕ) → after_byte 93 text ≡ Some rest → (first text == 93) ≡ true → drop 1 text ≡ rest
closed text rest closes here = some_is _ _ (rw here at closes)

pub unclosed : (text rest : List ℕ) → after_byte 93 text ≡ Some rest → (first text == 93) ≡ false → ⊥
unclosed text rest closes other = clash (rw other at closes) where
  clash : None ≡ Some rest → ⊥
  clash none = cc

-- an error that a `?` passes on
pub entry_err : {X : Type 0} (r : Result X ParseError) (e : ParseError) (Q : ParseError → Type 0) (P : X → Type 0)
    → IsErrAnd r Q → ((y : ParseError) → Q y → y ≡ e) → e ≡ OutOfMemory → MatchResult r P (λ y. y ≡ OutOfMemory)
entry_err (Ok a) e Q P h same memory = absurd h
entry_err (Err y) e Q P h same memory = same y h ∙ memory

-- ---- one entry after another

-- the entries from here on, of which the first of the key is this one
pub record Left (key text : List ℕ) (under : Bool) (found : Option Entry) : Type 0 where
  pub entries : List Entry
  pub are : AreEntries text entries
  pub same : find (λ entry. is_same (root_of entry.key) key) (top_entries under entries) ≡ found

-- the next of them, which is that entry or comes before it
pub record Next (key text : List ℕ) (under : Bool) (found : Option Entry) : Type 0 where
  pub entry : Entry
  pub from : entry.from ≡ skip_blank text
  pub read : line (skip_blank text) ≡ Some ((entry.key, entry.what), entry.behind)
  pub here : ((is_header entry.what || not under) && is_same (root_of entry.key) key) ≡ true → Some entry ≡ found
  pub on : ((is_header entry.what || not under) && is_same (root_of entry.key) key) ≡ false → Left key entry.behind (under || is_header entry.what) found

top_here : (key : List ℕ) (under : Bool) (e : Entry) (es : List Entry) → ((is_header e.what || not under) && is_same (root_of e.key) key) ≡ true
    → find (λ entry. is_same (root_of entry.key) key) (top_entries under (e ∷ es)) ≡ Some e
top_here key under e es h =
    let (top, named) = and_parts (is_header e.what || not under) (is_same (root_of e.key) key) h in
    rw (top, named)

top_on : (key : List ℕ) (under : Bool) (e : Entry) (es : List Entry) → ((is_header e.what || not under) && is_same (root_of e.key) key) ≡ false
    → find (λ entry. is_same (root_of entry.key) key) (top_entries under (e ∷ es))
    ≡ find (λ entry. is_same (root_of entry.key) key) (top_entries (under || is_header e.what) es)
top_on key under e es h = elim (cases_Bool (is_header e.what || not under)) [
  | inl top ↦ rw (top, rw top at h)
  | inr below ↦ rw below
]

pub next_of : (key text : List ℕ) (under : Bool) (found : Option Entry) → Left key text under found → (length (skip_blank text) ≡ 0 → ⊥) → Next key text under found
next_of key text under found left some = go left.entries left.are left.same where
  go : (es : List Entry) → AreEntries text es → find (λ entry. is_same (root_of entry.key) key) (top_entries under es) ≡ found → Next key text under found
  go [] are same = absurd (some are)
  go (e ∷ es) are same = record {
    entry = e;
    from = are.0;
    read = ap line (sym are.0) ∙ are.1;
    here = λ is. sym (top_here key under e es is) ∙ same;
    on = λ other. record { entries = es; are = are.2; same = sym (top_on key under e es other) ∙ same };
  }

pub nothing_read : line [] ≡ None
unfolding toml_on_literals
nothing_read = refl

pub nil_from : (text : List ℕ) → length text ≡ 0 → text ≡ []
nil_from [] h = refl
nil_from (c ∷ cs) h = absurd (omega arith)

pub ended : (key text : List ℕ) (under : Bool) (found : Option Entry) → Left key text under found → length (skip_blank text) ≡ 0 → None ≡ found
ended key text under found left none = go left.entries left.are left.same where
  clash : (x : Expression × List ℕ) → None ≡ Some x → ⊥
  clash x h = cc

  go : (es : List Entry) → AreEntries text es → find (λ entry. is_same (root_of entry.key) key) (top_entries under es) ≡ found → None ≡ found
  go [] are same = same
  go (e ∷ es) are same = absurd (clash _ (sym nothing_read ∙ ap line (sym (are.0 ∙ nil_from _ none)) ∙ are.1))

-- what the code has of an entry is the entry's
pub same_test : (under h : Bool) (name : Key) (key : List ℕ) (e : Entry) → name ≡ e.key → h ≡ is_header e.what
    → ((h || not under) && is_same (root_of name) key) ≡ ((is_header e.what || not under) && is_same (root_of e.key) key)
same_test under h name key e named kind =
    ap (λ (k : Key). (h || not under) && is_same (root_of k) key) named
    ∙ ap (λ (b : Bool). (b || not under) && is_same (root_of e.key) key) kind

pub left_at : {key : List ℕ} {found : Option Entry} (under next h : Bool) (text : List ℕ) (e : Entry) → Left key e.behind (under || is_header e.what) found
    → text ≡ e.behind → h ≡ is_header e.what → next ≡ (under || h) → Left key text next found
left_at {key} under next h text e left behind kind is = record {
  entries = left.entries;
  are = subst (λ (t : List ℕ). AreEntries t left.entries) (sym behind) left.are;
  same = ap (λ (b : Bool). find (λ entry. is_same (root_of entry.key) key) (top_entries b left.entries)) (is ∙ ap (λ (b : Bool). under || b) kind) ∙ left.same;
}

-- ---- a text that has a table has entries

entries_of_lines : (n : ℕ) (doc final : Document) (text : List ℕ) → lines n doc text ≡ Some final → (es : List Entry) × AreEntries text es
unfolding lines
entries_of_lines zero doc final text some = absurd cc
entries_of_lines (suc n) doc final text some = elim (cases_Bool (length (skip_blank text) == 0)) [
  | inl blank ↦ ([], eqb-true (length (skip_blank text)) 0 blank)
  | inr more ↦
      let (e, is, on) = bind_some _ (line (skip_blank text)) final (rw more at some) in
      let (next, defined, last) = bind_some _ (define doc e.0) final on in
      let (es, are) = entries_of_lines n next final e.1 last in
      (record { from = skip_blank text; key = e.0.0; what = e.0.1; behind = e.1 } ∷ es, (refl, is, are))
]

pub entries_of : (text : List ℕ) (ms : Members) → parse_document text ≡ Some ms → (es : List Entry) × AreEntries (skip_bom text) es
unfolding parse_document
entries_of text ms some =
    let (doc, is, closed) = map_some _ (lines (suc (length text)) (no_nodes, []) (skip_bom text)) ms some in
    entries_of_lines (suc (length text)) (no_nodes, []) doc (skip_bom text) is
