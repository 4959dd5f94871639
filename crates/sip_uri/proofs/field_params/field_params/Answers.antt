use Rattle.std.proofs.Common.{List, [], ◌∷◌, ◌++◌, ap, ◌∙◌, rules}
use Rattle.std.specs.Option.{option_copied}
use Rattle.sip_uri.specs.declared.uri.Param.{Param}
use Rattle.sip_uri.proofs.PlainParam.{plain_here}
use Rattle.sip_uri.proofs.FieldLaws.{nothing_read, refused_here, read_here, left_shrinks}
use Rattle.sip_uri.proofs.field_params.field_params.Goals as goal

pub loop-left-init : goal.loop-left-init
loop-left-init c = rw c.new-params.ensures.items (nothing_read c.args.text.now)

pub returns-in_default-field_param : goal.returns-in_default-field_param
returns-in_default-field_param c =
    refused_here c.loop-left.params.items c.loop-left.left c.in-Some.text c.cut_piece.result.0.now (option_copied c.cut_piece.result.1) _ c.in-Some.is c.cut_piece.ensures.pieces (search rules) c.loop-left.invariant

pub loop-left-smaller : goal.loop-left-smaller
loop-left-smaller c = rw c.in-Some.is (left_shrinks c.cut_piece.result.1 c.in-Some.text.now c.cut_piece.ensures.shorter)

pub loop-left-preserved : goal.loop-left-preserved
loop-left-preserved c =
    read_here c.loop-left.params.items c.push_reserved-in-Some.new.self.items c.loop-left.left c.in-Some.text c.cut_piece.result.0.now (option_copied c.cut_piece.result.1) c.in-Some-field_param.param _ c.in-Some.is c.cut_piece.ensures.pieces (search rules)
    (search rules) c.loop-left.invariant

pub returns-in-Some-plain_param : goal.returns-in-Some-plain_param
returns-in-Some-plain_param c =
    plain_here c.loop-left.params.items c.from_vec.result c.loop-left.left c.in-Some.text c.in-Some-plain_param.param _ c.in-Some.is c.in-Some-plain_param.ensures
    (c.from_vec.ensures ∙ c.push_reserved.ensures.items ∙ ap (λ (ps : List Param). ps ++ c.in-Some-plain_param.param ∷ []) c.reserve.ensures.items) c.loop-left.invariant
