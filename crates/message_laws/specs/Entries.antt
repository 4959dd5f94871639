-- Changes of the transactions: those that begin are of requests of the server's own, or of others'.
use Rattle.std.specs.Prelude.{ℕ, List, [], ◌∷◌}
use Rattle.transactions.specs.declared.change.Entry.{Entry}
use Rattle.transactions.specs.declared.change.Entry.TheVariants.{Opens, Tells, Answers, Leaves}
use Rattle.message_laws.specs.Tokens.{IsOwn}

abbrev pub EntersOwn : ℕ → Entry → Type 0
EntersOwn made (Opens t starts) = IsOwn made t
EntersOwn made (Tells id input fresh) = Unit {0}
EntersOwn made (Answers id class bytes) = Unit {0}
EntersOwn made Leaves = Unit {0}

abbrev pub EnterOwn : ℕ → List Entry → Type 0
EnterOwn made [] = Unit {0}
EnterOwn made (change ∷ changes) = EntersOwn made change × EnterOwn made changes
