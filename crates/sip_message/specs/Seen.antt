-- What is there of a header field that may occur once.
use Rattle.std.specs.Prelude.{ℕ, List, [], ◌∷◌, if◌then◌else◌}
use Rattle.header_fields.specs.Lookup.{is_named}
use Rattle.header_fields.specs.declared.headers.Header.{Header}
use Rattle.sip_message.specs.declared.seen.Seen.{Seen}
use Rattle.sip_message.specs.declared.seen.Seen.TheVariants.{Nowhere, Once, Again}

pub data Standing : Type 0 where
  absent : Standing
  single : List ℕ → Standing
  repeated : Standing

-- if these are all its values
abbrev pub standing_of : List (List ℕ) → Standing
standing_of [] = absent
standing_of (v ∷ []) = single v
standing_of (v ∷ w ∷ vs) = repeated

-- with this value added
abbrev pub and_value : List ℕ → Standing → Standing
and_value v absent = single v
and_value v (single u) = repeated
and_value v repeated = repeated

-- with this header field added, if it has this name
abbrev pub and_header : List ℕ → Header → Standing → Standing
and_header name h standing = if is_named name h then and_value h.value standing else standing

-- wherever the value is
abbrev pub seen : Seen → Standing
seen Nowhere = absent
seen (Once v) = single v.now
seen Again = repeated
