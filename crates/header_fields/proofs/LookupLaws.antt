-- Headers that are looked up: the first value is that of the list of values.
use Rattle.std.proofs.Common.{◌≡◌, ℕ, Bool, true, false, cond, List, [], ◌∷◌, map, Some, refl}
use Rattle.std.specs.Prelude.{option_map, find, filter, slice_get}
use Rattle.header_fields.specs.Lookup.{is_named, value_named, values_named}
use Rattle.header_fields.specs.declared.headers.Header.{Header}

pub value_named-first : (name : List ℕ) (headers : List Header) → value_named name headers ≡ slice_get (values_named name headers) 0
value_named-first name [] = refl
value_named-first name (h ∷ headers) = step (is_named name h) (value_named-first name headers) where
  step : (e : Bool) → value_named name headers ≡ slice_get (values_named name headers) 0
      → option_map (λ (x : Header). x.value) (cond e (Some h) (find (is_named name) headers)) ≡ slice_get (map (λ (x : Header). x.value) (cond e (h ∷ filter (is_named name) headers) (filter (is_named name) headers))) 0
  step true more = refl
  step false more = more
