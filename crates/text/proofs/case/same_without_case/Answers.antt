use Rattle.std.proofs.Common.{◌∙◌, ap, sym, get_or, arith}
use Rattle.std.specs.Char.{to_ascii_lowercase}
use Rattle.std.proofs.lemmas.List.{get_or-map}
use Rattle.text.proofs.case.same_without_case.Goals as goal

pub returns-then-not-same_letter : goal.returns-then-not-same_letter
returns-then-not-same_letter c =
    let a = c.args.a.now in
    let b = c.args.b.now in
    let at = c.loop-at.at in (
      (λ e. absurd cc),
      λ same. c.if-not-same_letter.ensures.1
          (sym (get_or-map to_ascii_lowercase a at 0 0 (omega arith)) ∙ ap (λ bs. get_or bs at 0) same ∙ get_or-map to_ascii_lowercase b at 0 0 (omega arith)),
    )
