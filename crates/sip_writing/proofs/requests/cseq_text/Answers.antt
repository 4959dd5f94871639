use Rattle.std.proofs.Common.{◌≡◌, ◌≤◌, ◌+◌, ◌∷◌, [], List, ℕ, length, length-append, ap, arith}
use Rattle.sip_writing.proofs.RoomLengths.{behind_number}
use Rattle.sip_writing.proofs.requests.cseq_text.Goals as goal

pub put_byte-requires : goal.put_byte-requires
put_byte-requires c =
    let empty : length c.new-room.result ≡ 0 = ap (λ (l : List ℕ). length l) c.new-room.ensures in
    rw c.put_number-2.ensures (omega (arith, empty, behind_number c.new-room.result c.from-2.result (omega (arith, c.from-2.ensures, c.ranges.number.fits))))

pub put-requires : goal.put-requires
put-requires c =
    let empty : length c.new-room.result ≡ 0 = ap (λ (l : List ℕ). length l) c.new-room.ensures in
    let short : length c.put_number-2.new.self ≤ length c.new-room.result + 10 = rw c.put_number-2.ensures (behind_number c.new-room.result c.from-2.result (omega (arith, c.from-2.ensures, c.ranges.number.fits))) in
    omega (
      arith,
      empty,
      short,
      ap (λ (l : List ℕ). length l) c.put_byte.ensures,
      length-append c.put_number-2.new.self (32 ∷ []),
      c.if-method-gt-MOST_BEHIND.false,
    )
