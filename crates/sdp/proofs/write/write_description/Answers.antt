use Rattle.std.proofs.Common.{◌≡◌, List, ℕ, sym, subst}
use Rattle.std.proofs.lemmas.Result.{IfOk-weaker}
use Rattle.sdp.specs.Grammar.{ReadsDescription}
use Rattle.sdp.specs.Writing.{description_text}
use Rattle.sdp.proofs.WrittenForm.{written_again}
use Rattle.sdp.proofs.write.write_description.Goals as goal

pub returns-clause-again : goal.returns-clause-again
returns-clause-again c = λ from h.
    IfOk-weaker c.write.result (λ t. t ≡ description_text c.args.description.now) (λ t. ReadsDescription t c.args.description.now) (λ t e. subst (λ (x : List ℕ). ReadsDescription x c.args.description.now) (sym e) (written_again from c.args.description.now h)) c.write.ensures
