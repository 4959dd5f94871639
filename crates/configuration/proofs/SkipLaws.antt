-- What the grammar has read when it reads an array or an inline table.
use Rattle.std.proofs.Common.{◌≡◌, ◌-◌, ◌<◌, ◌==◌, ℕ, zero, suc, true, false, List, drop, Option, Some, None, option_map, option_and_then, refl, sym, ap, subst, ◌∙◌, arith}
use Rattle.std.specs.Prelude.{Result, Ok, Err, MatchResult}
use Rattle.std.specs.Borrow.{Bor}
use Rattle.std.specs.Result.{IsErrAnd}
use Rattle.toml_parser.specs.declared.error.ParseError.{ParseError}
use Rattle.toml_parser.specs.declared.error.ParseError.TheVariants.{OutOfMemory, At}
use Rattle.toml_parser.specs.Lexical.{Read, first, skip_blank}
use Rattle.toml_parser.specs.Strings.{Key, quoted, starts_string}
use Rattle.toml_parser.specs.Numbers.{unquoted}
use Rattle.configuration.specs.Entries.{Skips}
use Rattle.toml.specs.Data.{Data, string, Items, push_item, Members}
use Rattle.toml.specs.Tables.{Nodes, put}
use Rattle.toml.specs.Parse.{read_map, after_element, key_equals, keyval, items, members, scalar_data, atom}
use Rattle.toml.proofs.Turns.{items_end, members_end}

memory : (e : ParseError) → ((e ≡ OutOfMemory → ⊥) → ⊥) → e ≡ OutOfMemory
memory OutOfMemory h = refl
memory (At kind from to) h = absurd (h (λ is. cc))

-- what the grammar reads is refused only because memory ran out
pub for_memory : {A : Type 0} (e : ParseError) (expected : Option A) (read : A) → ((e ≡ OutOfMemory → ⊥) → expected ≡ None) → expected ≡ Some read → e ≡ OutOfMemory
for_memory e expected read refused some = memory e (λ other. clash (refused other)) where
  clash : expected ≡ None → ⊥
  clash none = cc

pub some_is : {A : Type 0} (x y : A) → Some x ≡ Some y → x ≡ y
some_is x y h = cc

pub bind_some : {A B : Type 0} (f : A → Option B) (o : Option A) (y : B) → option_and_then f o ≡ Some y → (x : A) × (o ≡ Some x) × (f x ≡ Some y)
bind_some f None y h = absurd cc
bind_some f (Some x) y h = (x, refl, h)

pub map_some : {A B : Type 0} (f : A → B) (o : Option A) (y : B) → option_map f o ≡ Some y → (x : A) × (o ≡ Some x) × (f x ≡ y)
map_some f None y h = absurd cc
map_some f (Some x) y h = (x, refl, some_is _ _ h)

-- ---- arrays

-- an array that is read from here on, after the items that were found
pub record ReadsItems (val : List ℕ → Read Data) (m : ℕ) (text : List ℕ) (read : Items × List ℕ) : Type 0 where
  pub found : Items
  pub is : items val m found text ≡ Some read

-- an item of it, and what comes after its comma
pub record ReadsItem (val : List ℕ → Read Data) (m : ℕ) (text : List ℕ) (read : Items × List ℕ) : Type 0 where
  pub item : Data × List ℕ
  pub next : List ℕ
  pub value : val (skip_blank text) ≡ Some item
  pub element : after_element 93 item.1 ≡ Some next
  pub more : ReadsItems val (m - 1) next read

pub items_turn : (val : List ℕ → Read Data) (m : ℕ) (text : List ℕ) (read : Items × List ℕ) → 0 < m → (first (skip_blank text) == 93) ≡ false
    → ReadsItems val m text read → ReadsItem val m text read
unfolding items
items_turn val zero text read some other reads = absurd (omega arith)
items_turn val (suc m) text read some other reads =
    let less : suc m - 1 ≡ m = omega arith in
    let (v, value, more) = bind_some _ (val (skip_blank text)) read (rw other at reads.is) in
    let (next, element, last) = bind_some _ (after_element 93 v.1) read more in
    record { item = v; next = next; value = value; element = element; more = record { found = push_item reads.found v.0; is = rw less last } }

pub items_last : (val : List ℕ → Read Data) (m : ℕ) (text : List ℕ) (read : Items × List ℕ) → 0 < m → (first (skip_blank text) == 93) ≡ true
    → ReadsItems val m text read → drop 1 (skip_blank text) ≡ read.1
items_last val m text read some closing reads =
    ap (λ (p : Items × List ℕ). p.1) (some_is _ _ (sym (items_end val m reads.found text some closing) ∙ reads.is))

-- ---- inline tables

pub record ReadsMembers (val : List ℕ → Read Data) (m : ℕ) (text : List ℕ) (read : Members × List ℕ) : Type 0 where
  pub found : Nodes
  pub is : members val m found text ≡ Some read

pub record ReadsMember (val : List ℕ → Read Data) (m : ℕ) (text : List ℕ) (read : Members × List ℕ) : Type 0 where
  pub key : Key × List ℕ
  pub item : Data × List ℕ
  pub next : List ℕ
  pub key_is : key_equals (skip_blank text) ≡ Some key
  pub value : val key.1 ≡ Some item
  pub element : after_element 125 item.1 ≡ Some next
  pub more : ReadsMembers val (m - 1) next read

pub members_turn : (val : List ℕ → Read Data) (m : ℕ) (text : List ℕ) (read : Members × List ℕ) → 0 < m → (first (skip_blank text) == 125) ≡ false
    → ReadsMembers val m text read → ReadsMember val m text read
unfolding members
members_turn val zero text read some other reads = absurd (omega arith)
members_turn val (suc m) text read some other reads =
    let less : suc m - 1 ≡ m = omega arith in
    let (e, pair, more) = bind_some _ (keyval val (skip_blank text)) read (rw other at reads.is) in
    let (k, key_is, behind) = bind_some _ (key_equals (skip_blank text)) e pair in
    let (v, value, both) = map_some _ (val k.1) e behind in
    let (nodes, edit, after) = bind_some _ (put e.0.0 e.0.1 reads.found) read more in
    let (next, element, last) = bind_some _ (after_element 125 e.1) read after in
    let same : v.1 ≡ e.1 = ap (λ (p : (Key × Data) × List ℕ). p.1) both in
    record { key = k; item = v; next = next; key_is = key_is; value = value; element = ap (after_element 125) same ∙ element; more = record { found = nodes; is = rw less last } }

pub members_last : (val : List ℕ → Read Data) (m : ℕ) (text : List ℕ) (read : Members × List ℕ) → 0 < m → (first (skip_blank text) == 125) ≡ true
    → ReadsMembers val m text read → drop 1 (skip_blank text) ≡ read.1
members_last val m text read some closing reads =
    ap (λ (p : Members × List ℕ). p.1) (some_is _ _ (sym (members_end val m reads.found text some closing) ∙ reads.is))

-- an error that a `?` passes on
pub skips_err : (r : Result (Bor (List ℕ)) ParseError) (e : ParseError) (Q : ParseError → Type 0) (behind : List ℕ)
    → IsErrAnd r Q → ((y : ParseError) → Q y → y ≡ e) → e ≡ OutOfMemory → MatchResult r (λ rest. rest.now ≡ behind) (λ y. y ≡ OutOfMemory)
skips_err (Ok a) e Q behind h same memory = absurd h
skips_err (Err y) e Q behind h same memory = same y h ∙ memory

-- what the code read is what the grammar did
pub one_read : {A : Type 0} (o : Option A) (x y : A) → o ≡ Some x → o ≡ Some y → x ≡ y
one_read o x y a b = some_is x y (sym a ∙ b)

-- ---- what is read as something else

pub skips_map : {A B : Type 0} (f : A → B) (r : Result (Bor (List ℕ)) ParseError) (o : Read A) → Skips r o → Skips r (read_map f o)
skips_map f r o skips read some =
    let (x, is, same) = map_some _ o read some in
    subst (λ (t : List ℕ). MatchResult r (λ rest. rest.now ≡ t) (λ e. e ≡ OutOfMemory)) (ap (λ p. p.1) same) (skips x is)

pub read_ok : {A B : Type 0} (f : A → B) (o : Read A) (x : A) (rest : List ℕ) (read : B × List ℕ) → o ≡ Some (x, rest) → read_map f o ≡ Some read → rest ≡ read.1
read_ok f o x rest read is some =
    let (y, other, same) = map_some _ o read some in
    ap (λ p. p.1) (one_read o (x, rest) y is other) ∙ ap (λ p. p.1) same

pub read_err : {A B : Type 0} (f : A → B) (o : Read A) (e : ParseError) (read : B × List ℕ) → ((e ≡ OutOfMemory → ⊥) → o ≡ None) → read_map f o ≡ Some read → e ≡ OutOfMemory
read_err f o e read refused some =
    let (y, other, same) = map_some _ o read some in
    for_memory e o y refused other

pub atom_text : (text : List ℕ) → starts_string text ≡ true → atom text ≡ read_map string (quoted text)
unfolding atom
atom_text text starts = rw starts

pub atom_scalar : (text : List ℕ) → starts_string text ≡ false → atom text ≡ read_map scalar_data (unquoted text)
unfolding atom
atom_scalar text starts = rw starts
