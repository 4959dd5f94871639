use Rattle.std.proofs.Common.{◌≡◌, ◌-◌, ◌++◌, ◌∙◌, ap, ℕ, length, take, arith}
use Rattle.page_server.specs.Requests.{max_head}
use Rattle.page_server.proofs.RoomLaws.{take_fits, take_room}
use Rattle.page_server.proofs.request.keep.Goals as goal

pub returns-then-bytes-room-clause-ok : goal.returns-then-bytes-room-clause-ok
returns-then-bytes-room-clause-ok c =
    c.in_ok-extend_from_slice.ensures.items ∙ take_fits max_head c.args.kept.now.items c.args.bytes.now (omega (arith, c.args.kept.now.ok.0))

pub returns-clause-ok : goal.returns-clause-ok
returns-clause-ok c =
    let room : max_head - c.len-room.result ≡ max_head - length c.args.kept.now.items = omega (arith, c.args.kept.now.ok.0) in
    c.in_ok-extend_from_slice-2.ensures.items
    ∙ ap (λ (n : ℕ). c.args.kept.now.items ++ take n c.args.bytes.now) room
    ∙ take_room max_head c.args.kept.now.items c.args.bytes.now (omega (arith, c.args.kept.now.ok.0))
