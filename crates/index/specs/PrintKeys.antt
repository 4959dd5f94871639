-- A number for what is looked up by a text.
use Rattle.std.specs.Prelude.{ℕ, List}
use Rattle.core.specs.Hash.DefaultHasher.{finish, with_keys, write}
use Rattle.index.specs.declared.print.PrintKey.{PrintKey}

-- SipHash-1-3 of the text under the key: equal texts have equal ones
abbrev pub print_of : PrintKey → List ℕ → ℕ
print_of key bytes = finish (write (with_keys key.first key.second) bytes)
