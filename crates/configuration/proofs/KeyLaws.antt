-- The keys of a table that has no flaw keep their rows.
use Rattle.std.proofs.Common.{◌≡◌, ◌≤◌, ◌<◌, ℕ, zero, suc, ℤ, pos, negsuc, Bool, true, false, not, ◌&&◌, cond, leb, List, [], ◌∷◌, length, slice_index_or, Option, Some, None, unwrap_or, refl, sym, ap, subst, ◌∙◌, arith}
use Rattle.std.proofs.lemmas.Bool.{leb-true, le-leb}
use Rattle.std.specs.Prelude.{is_some, option_and_then}
use Rattle.std.specs.Option.{option_or}
use Rattle.toml.specs.Data.{Data, Items, Members, as_integer, as_bool, as_str, as_array}
use Rattle.configuration.specs.declared.key.Key.{Key}
use Rattle.configuration.specs.declared.key.Key.TheVariants as keys
use Rattle.configuration.specs.declared.key.Measure.{Measure}
use Rattle.configuration.specs.declared.key.Kind.{Kind}
use Rattle.configuration.specs.declared.key.Kind.TheVariants.{Whole, Between, Truth, Text, Digits, Level, Page, Texts}
use Rattle.configuration.specs.declared.flaw.Flaw.{Flaw}
use Rattle.configuration.specs.Keys.{Row, row_of, all_keys}
use Rattle.configuration.specs.Files.{natural, value_at, flag_at, key_of, level_named}
use Rattle.configuration.specs.Status.{page_at}
use Rattle.configuration.specs.Flaws.{unknown_key, unknown_flaw, unless, is_within, number_flaw, digits_flaw, level_flaw, page_flaw, texts_flaw, value_flaw, row_flaw, key_flaw, first_flaw, said_flaw}
use Rattle.configuration.specs.KeyLaws.{IsThere, IsBetween, HoldsTexts, IsOfKind, KeepsRow, KeysKeepRows, IsExact, SmallNumbersAreExact}

-- ---- no flaw of all is none of each

both : (f g : Option Flaw) → option_or f g ≡ None → (f ≡ None) × (g ≡ None)
both None g h = (refl, h)
both (Some flaw) g h = absurd cc

none_at : (ms : Members) (some : List Key) (key : Key) (k : ℕ) → k < length some → slice_index_or some k key ≡ key → first_flaw ms some ≡ None → key_flaw ms key ≡ None
none_at ms [] key k less is h = absurd (omega (arith, less))
none_at ms (first ∷ rest) key zero less is h = subst (λ (other : Key). key_flaw ms other ≡ None) is (both (key_flaw ms first) (first_flaw ms rest) h).0
none_at ms (first ∷ rest) key (suc k) less is h = none_at ms rest key k (omega (arith, less)) is (both (key_flaw ms first) (first_flaw ms rest) h).1

no_flaw : (ms : Members) → said_flaw ms ≡ None → first_flaw ms all_keys ≡ None
unfolding said_flaw
no_flaw ms h = (both (unknown_flaw (unknown_key ms)) (first_flaw ms all_keys) h).1

-- ---- a value without a flaw is of its kind

holds : (b : Bool) (flaw : Flaw) → unless b flaw ≡ None → b ≡ true
holds true flaw h = refl
holds false flaw h = absurd cc

there : {X : Type 0} (o : Option X) → is_some o ≡ true → IsThere o
there None h = absurd cc
there (Some x) h = (x, refl)

two : (a b : Bool) → (a && b) ≡ true → (a ≡ true) × (b ≡ true)
two true true h = (refl, refl)
two true false h = absurd cc
two false b h = absurd cc

within : (least most n : ℕ) → is_within least most (natural 4294967295 (pos n)) ≡ true → (least ≤ n) × (n ≤ most)
within least most n h = step (leb n 4294967295) h where
  step : (b : Bool) → is_within least most (cond b (Some n) None) ≡ true → (least ≤ n) × (n ≤ most)
  step true h = let parts = two (leb least n) (leb n most) h in (leb-true least n parts.0, leb-true n most parts.1)
  step false h = absurd cc

number : (key : Key) (least most : ℕ) (z : Option ℤ) → number_flaw key least most z ≡ None → IsBetween least most z
number key least most None h = absurd cc
number key least most (Some (negsuc n)) h = absurd cc
number key least most (Some (pos n)) h = let bounds = within least most n (holds _ _ h) in (n, refl, bounds.0, bounds.1)

digits : (key : Key) (text : Option (List ℕ)) → digits_flaw key text ≡ None → IsThere (option_and_then key_of text)
digits key None h = absurd cc
digits key (Some text) h = there (key_of text) (holds _ _ h)

level : (key : Key) (text : Option (List ℕ)) → level_flaw key text ≡ None → IsThere (option_and_then level_named text)
level key None h = absurd cc
level key (Some text) h = there (level_named text) (holds _ _ h)

page : (key : Key) (is_open : Bool) (text : Option (List ℕ)) → page_flaw key is_open text ≡ None → IsThere (option_and_then (page_at is_open) text)
page key is_open None h = absurd cc
page key is_open (Some text) h = there (page_at is_open text) (holds _ _ h)

texts : (key : Key) (items : Option Items) → texts_flaw key items ≡ None → HoldsTexts items
texts key None h = absurd cc
texts key (Some items) h = (items, refl, holds _ _ h)

of_kind : (key : Key) (is_open : Bool) (kind : Kind) (value : Data) → value_flaw key is_open kind value ≡ None → IsOfKind is_open kind value
of_kind key is_open (Whole rule) value h = there (as_integer value) (holds _ _ h)
of_kind key is_open (Between measure least most) value h = number key least most (as_integer value) h
of_kind key is_open Truth value h = there (as_bool value) (holds _ _ h)
of_kind key is_open (Text rule) value h = there (as_str value) (holds _ _ h)
of_kind key is_open Digits value h = digits key (as_str value) h
of_kind key is_open Level value h = level key (as_str value) h
of_kind key is_open Page value h = page key is_open (as_str value) h
of_kind key is_open (Texts rule) value h = texts key (as_array value) h

keeps_row : (key : Key) (row : Row) (is_open : Bool) (o : Option Data) → row_flaw key row is_open o ≡ None → KeepsRow is_open row o
keeps_row key row is_open None h = optional row.is_required (holds _ _ h) where
  optional : (b : Bool) → not b ≡ true → b ≡ false
  optional true h = absurd cc
  optional false h = refl
keeps_row key row is_open (Some value) h = of_kind key is_open row.kind value h

pub keep_rows : KeysKeepRows
keep_rows ms key (k, less, is) h =
    keeps_row key (row_of key) (flag_at keys.StatusOpen ms) (value_at key ms) (none_at ms all_keys key k less is (no_flaw ms h))

-- ---- small numbers

fits : (z : Option ℤ) (n usual : ℕ) → z ≡ Some (pos n) → n ≤ 255 → z ≡ Some (pos (unwrap_or (option_and_then (natural 255) z) usual))
fits z n usual is small =
    is ∙ ap (λ (m : ℕ). Some (pos m)) (sym (ap (λ (y : Option ℤ). unwrap_or (option_and_then (natural 255) y) usual) is ∙ ap (λ (b : Bool). unwrap_or (cond b (Some n) None) usual) (le-leb n 255 small)))

exact : (is_open : Bool) (least most usual : ℕ) (measure : Measure) (row : Row) (o : Option Data) → row.kind ≡ Between measure least most → most ≤ 255 → KeepsRow is_open row o
    → IsExact usual o (unwrap_or (option_and_then (natural 255) (option_and_then as_integer o)) usual)
exact is_open least most usual measure row None is small keeps = refl
exact is_open least most usual measure row (Some value) is small keeps =
    let between : IsBetween least most (as_integer value) = subst (λ (kind : Kind). IsOfKind is_open kind value) is keeps in
    fits (as_integer value) between.0 usual between.1 (omega (arith, between.3))

pub small_exact : SmallNumbersAreExact
small_exact ms key measure least most usual listed h is small =
    exact (flag_at keys.StatusOpen ms) least most usual measure (row_of key) (value_at key ms) is small (keep_rows ms key listed h)
