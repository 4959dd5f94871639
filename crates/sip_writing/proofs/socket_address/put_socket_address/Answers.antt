use Rattle.std.proofs.Common.{◌∷◌, [], List, ℕ, length, length-append, ap, arith}
use Rattle.sip_writing.proofs.socket_address.put_socket_address.Goals as goal

pub returns-clause-short : goal.returns-clause-short
returns-clause-short c =
    omega (
      arith,
      c.put_octet.ensures.short,
      ap (λ (l : List ℕ). length l) c.put_byte.ensures,
      length-append c.put_octet.new.room (46 ∷ []),
      c.put_octet-2.ensures.short,
      ap (λ (l : List ℕ). length l) c.put_byte-2.ensures,
      length-append c.put_octet-2.new.room (46 ∷ []),
      c.put_octet-3.ensures.short,
      ap (λ (l : List ℕ). length l) c.put_byte-3.ensures,
      length-append c.put_octet-3.new.room (46 ∷ []),
      c.put_octet-4.ensures.short,
      ap (λ (l : List ℕ). length l) c.put_byte-4.ensures,
      length-append c.put_octet-4.new.room (58 ∷ []),
      c.put_port.ensures.short,
    )
