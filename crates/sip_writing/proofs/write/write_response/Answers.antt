use Rattle.std.proofs.Common.{◌≡◌, rules, sym, subst}
use Rattle.sip_message.specs.declared.message.Message.TheVariants as Kinds
use Rattle.sip_message.specs.Grammar.{ReadsMessage}
use Rattle.sip_writing.specs.Writing.{message_text}
use Rattle.sip_writing.proofs.MessageRoundTrip.{message_reads}
use Rattle.sip_writing.proofs.write.write_response.Goals as goal

pub returns-clause-again : goal.returns-clause-again
returns-clause-again c =
    let text : c.from_vec.result ≡ message_text (Kinds.Response c.args.response.now) = search rules in
    λ w. subst (λ t. ReadsMessage t (Kinds.Response c.args.response.now)) (sym text) (message_reads (Kinds.Response c.args.response.now) w)
