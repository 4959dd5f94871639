use Rattle.std.proofs.Common.{◌++◌, ap, append_assoc, refl, ◌∙◌}
use Rattle.call_media.specs.declared.end.End.TheVariants.{Caller, Callee}
use Rattle.call_traffic.specs.SilentWays.{TellsCall, way_from}
use Rattle.call_traffic.proofs.silent_way.put_of_call.Goals as goal

pub returns-clause-tells : goal.returns-clause-tells
returns-clause-tells c =
    let first = c.put_of_end.ensures.tells in
    let second = c.put_of_end-2.ensures.tells in
    let callers = way_from c.args.call.now.number Caller first.0 in
    let callees = way_from c.put_of_end.new.call.number Callee second.0 in
    let told : TellsCall c.args.now c.args.call.now c.put_of_end-2.new.call (callers ++ callees) = record {
      between = c.put_of_end.new.call;
      from_caller = first.0;
      from_callee = second.0;
      of_caller = first.1;
      of_callee = second.1;
      told = refl;
    } in
    (callers ++ callees, told, second.2 ∙ ap (λ ws. ws ++ callees) first.2 ∙ append_assoc c.args.ways.now.items callers callees)
