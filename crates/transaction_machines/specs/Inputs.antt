-- The timers by their letters.
use Rattle.std.specs.Prelude.{ℕ}
use Rattle.transaction_machines.specs.declared.input.TimerKind.{TimerKind}
use Rattle.transaction_machines.specs.declared.input.TimerKind.TheVariants.{A, B, D, E, F, G, H, I, J, K, L, M, N}

-- each letter by its place among the letters
abbrev pub place_of : TimerKind → ℕ
place_of A = 0
place_of B = 1
place_of D = 2
place_of E = 3
place_of F = 4
place_of G = 5
place_of H = 6
place_of I = 7
place_of J = 8
place_of K = 9
place_of L = 10
place_of M = 11
place_of N = 12
