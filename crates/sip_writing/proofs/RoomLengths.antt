-- How long a text in a room is after a number.
use Rattle.std.proofs.Common.{ℕ, ◌+◌, ◌<◌, ◌^◌, ◌≤◌, List, ◌++◌, length, decimal, length-append, arith}
use Rattle.std.proofs.lemmas.Fmt.{length-decimal-le}

pub behind_octet : (room : List ℕ) (n : ℕ) → n ≤ 255 → length (room ++ decimal n) ≤ length room + 3
behind_octet room n h = omega (arith, length-append room (decimal n), length-decimal-le 3 n (omega arith) (omega (arith, h)) (omega (arith, h)))

pub behind_port : (room : List ℕ) (n : ℕ) → n ≤ 65535 → length (room ++ decimal n) ≤ length room + 5
behind_port room n h = omega (arith, length-append room (decimal n), length-decimal-le 5 n (omega arith) (omega (arith, h)) (omega (arith, h)))

pub behind_number : (room : List ℕ) (n : ℕ) → n ≤ 4294967295 → length (room ++ decimal n) ≤ length room + 10
behind_number room n h = omega (arith, length-append room (decimal n), length-decimal-le 10 n (omega arith) (omega (arith, h)) (omega (arith, h)))
