use Rattle.std.proofs.Common.{◌≡◌, ◌-◌, ◌++◌, ◌∙◌, ap, ℕ, length, take, arith}
use Rattle.server.specs.Input.{max_kept}
use Rattle.server.proofs.InputLaws.{take_fits, take_room}
use Rattle.server.proofs.input.keep.Goals as goal

pub returns-then-bytes-room-clause-ok : goal.returns-then-bytes-room-clause-ok
returns-then-bytes-room-clause-ok c =
    c.in_ok-extend_from_slice.ensures.items ∙ take_fits max_kept c.args.whole.now.items c.args.bytes.now (omega (arith, c.args.whole.now.ok.0))

pub returns-clause-ok : goal.returns-clause-ok
returns-clause-ok c =
    let room : max_kept - c.len-room.result ≡ max_kept - length c.args.whole.now.items = omega (arith, c.args.whole.now.ok.0) in
    c.in_ok-extend_from_slice-2.ensures.items
    ∙ ap (λ (n : ℕ). c.args.whole.now.items ++ take n c.args.bytes.now) room
    ∙ take_room max_kept c.args.whole.now.items c.args.bytes.now (omega (arith, c.args.whole.now.ok.0))
