use Rattle.std.proofs.Common.{◌≡◌, List, ℕ, sym, subst}
use Rattle.std.proofs.lemmas.Result.{IfOk-weaker}
use Rattle.sip_uri.specs.NameAddr.{ReadsNameAddr, name_addr_text}
use Rattle.sip_uri.proofs.NameTrip.{name_written_again}
use Rattle.sip_uri.proofs.name_addr.write_name_addr.Goals as goal

pub returns-clause-again : goal.returns-clause-again
returns-clause-again c = λ from h.
    IfOk-weaker c.write.result (λ t. t ≡ name_addr_text c.args.name.now) (λ t. ReadsNameAddr t c.args.name.now) (λ t e. subst (λ (x : List ℕ). ReadsNameAddr x c.args.name.now) (sym e) (name_written_again from c.args.name.now h)) c.write.ensures
