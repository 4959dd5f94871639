-- What a socket of the system took or sent, and how a text was written, as clauses see it.
use Rattle.std.specs.Prelude.{ℕ, List, refl}
use Rattle.std.specs.Coded.{Coded, code_by, coded×, coded_ℕ, coded_list}

-- a datagram at a port of the server's own, and the address and port of the other side
pub record Datagram : Type 0 where
  pub own : ℕ
  pub ip : List ℕ
  pub port : ℕ
  pub bytes : List ℕ

abbrev pub coded_datagram : Coded Datagram
coded_datagram =
    code_by (ℕ × (List ℕ × (ℕ × List ℕ))) (coded× coded_ℕ (coded× (coded_list coded_ℕ) (coded× coded_ℕ (coded_list coded_ℕ))))
    (λ d. (d.own, (d.ip, (d.port, d.bytes)))) (λ p. record { own = p.0; ip = p.1.0; port = p.1.1.0; bytes = p.1.1.1 }) (λ _. refl)

-- a part of a text, and how many of its bytes the system took: 0 if it refused them
pub record Part : Type 0 where
  pub bytes : List ℕ
  pub taken : ℕ

abbrev pub coded_part : Coded Part
coded_part = code_by (List ℕ × ℕ) (coded× (coded_list coded_ℕ) coded_ℕ) (λ p. (p.bytes, p.taken)) (λ p. record { bytes = p.0; taken = p.1 }) (λ _. refl)
