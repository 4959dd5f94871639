use Rattle.std.proofs.Common.{◌++◌, ◌∷◌, [], length, take, arith, rules}
use Rattle.rtrb.specs.Ring.{known_items}
use Rattle.log_pipe.proofs.WritingLaws.{as_left, is_block, one_more}
use Rattle.log_pipe.proofs.log_writer.write_all.Goals as goal

pub loop-preserved : goal.loop-preserved
loop-preserved g c =
    let count = c.pop_partial_slice-count.result in
    let block = take count c.pop_partial_slice-count.new.slice in
    record {
      blocks = c.loop.invariant.blocks ++ block ∷ [];
      written =
          one_more c.loop.invariant.blocks block c.args.ring.now c.is_empty.new.self c.pop_partial_slice-count.new.self c.args.stream.now c.wait_for_room.new.self c.write.new.self
          (as_left c.loop.invariant.blocks c.args.ring.now c.loop.ring c.is_empty.new.self c.args.stream.now c.loop.stream c.wait_for_room.new.self c.loop.invariant.written
          c.is_empty.ensures.looked.1 c.wait_for_room.ensures.texts c.wait_for_room.ensures.patience) c.pop_partial_slice-count.ensures.received.1
          (search rules)
          (is_block count (length c.loop.block) c.pop_partial_slice-count.new.slice (known_items c.is_empty.new.self) (known_items c.pop_partial_slice-count.new.self)
          (λ none. search rules) c.pop_partial_slice-count.ensures.known c.pop_partial_slice-count.ensures.most
          (omega arith) (omega arith)) c.write.ensures.patience;
    }
