use Rattle.std.proofs.Common.{arith, ◌∙◌, sym}
use Rattle.sockets.proofs.Parts.{few_of, more}
use Rattle.sockets.proofs.error_stream.ErrorStream.write.Goals as goal

pub left_by-left-requires : goal.left_by-left-requires
left_by-left-requires g c = few_of c.loop.left.now c.in-Some-write_part.count c.in-Some-write_part.ensures.few

pub loop-preserved-in-Some-write_part : goal.loop-preserved-in-Some-write_part
loop-preserved-in-Some-write_part g c =
    let further = more c.args.text.now c.loop.self.parts c.wait_for_room.new.self.parts c.write_part.new.self.parts c.loop.left.now c.in-Some-write_part.count c.loop.invariant.parts c.loop.invariant.left c.in-Some-write_part.ensures.few c.wait_for_room.ensures.parts c.in-Some-write_part.ensures.parts in
    record {
      texts = c.write_part.ensures.texts ∙ c.wait_for_room.ensures.texts ∙ c.loop.invariant.texts;
      parts = further.0;
      left = further.1 ∙ sym c.left_by-left.ensures;
      patience = omega (arith, c.write_part.ensures.patience, c.wait_for_room.ensures.patience, c.loop.invariant.patience);
      waited = rw c.write_part.ensures.waited (rw c.write_part.ensures.patience (omega (arith, c.wait_for_room.ensures.waited, c.loop.invariant.waited)));
    }
