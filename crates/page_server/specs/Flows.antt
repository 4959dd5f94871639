-- Bytes from and to a client.
use Rattle.std.specs.Prelude.{ℕ, ⊤}
use Rattle.page_server.specs.declared.flow.Flow.{Flow}
use Rattle.page_server.specs.declared.flow.Flow.TheVariants.{Gone, Stuck, Ended}

-- P of how many bytes went, if any did
abbrev pub IfGone : Flow → (ℕ → Type 0) → Type 0
IfGone (Gone count) P = P count
IfGone Stuck P = ⊤
IfGone Ended P = ⊤
