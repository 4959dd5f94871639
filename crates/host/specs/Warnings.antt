-- What a start warns of.
use Rattle.std.specs.Prelude.{ℕ, Bool, List, ◌==◌, codes}
use Rattle.std.specs.List.{list_all}

-- it is the example's key, which everybody knows
abbrev pub is_examples_key : List ℕ → Bool
is_examples_key key = list_all (λ byte. byte == 0) key

abbrev pub warning_text : List ℕ
warning_text = codes "office: random_key is the example's key of zeros: anyone can guess tags and branches\n"
