use Rattle.std.proofs.Common.{arith}
use Rattle.sip_writing.proofs.RoomLengths.{behind_port}
use Rattle.sip_writing.proofs.socket_address.put_port.Goals as goal

pub returns-clause-short : goal.returns-clause-short
returns-clause-short c = rw c.put_number.ensures (behind_port c.args.room.now c.from.result (omega (arith, c.from.ensures, c.ranges.port.fits)))
