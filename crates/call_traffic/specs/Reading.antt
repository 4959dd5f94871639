-- A reading of a port's count.
use Rattle.std.specs.Prelude.{ℕ, refl}
use Rattle.std.specs.Coded.{Coded, code_by, coded_ℕ, coded×}

-- how many datagrams had come at a port since the server's start
pub record Reading : Type 0 where
  pub port : ℕ
  pub count : ℕ

abbrev pub coded_reading : Coded Reading
coded_reading = code_by (ℕ × ℕ) (coded× coded_ℕ coded_ℕ) (λ r. (r.port, r.count)) (λ p. record { port = p.0; count = p.1 }) (λ _. refl)
