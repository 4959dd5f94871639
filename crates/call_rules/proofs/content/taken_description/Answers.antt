use Rattle.std.proofs.Common.{◌≡◌, Option, IfOk, subst, sym}
use Rattle.sdp.specs.declared.description.Description.{Description}
use Rattle.call_rules.proofs.ContentLaws.{taken_is_described}
use Rattle.call_rules.proofs.content.taken_description.Goals as goal

pub returns : goal.returns
returns c = λ headers taken.
    subst (λ (told : Option Description). IfOk c.description_read.result (λ d. d ≡ told)) (sym (taken_is_described headers c.args.body.now taken)) c.description_read.ensures
