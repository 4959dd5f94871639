use Rattle.std.proofs.Common.{List, ℕ, subst, sym}
use Rattle.sip_message.specs.declared.message.Message.TheVariants as Kinds
use Rattle.sip_message.specs.Grammar.{ReadsMessage}
use Rattle.message_laws.proofs.Askers.AskerKnown.{after_askers, after_own, new_askers, new_list_askers, new_list_sends}
use Rattle.message_laws.proofs.datagrams.responses_are_read.Goals as goal

pub returns-clause-begins : goal.returns-clause-begins
returns-clause-begins c = new_askers

pub returns-clause-step : goal.returns-clause-step
returns-clause-step c = after_askers c.bodies_describe.ensures

pub returns-clause-sends : goal.returns-clause-sends
returns-clause-sends c = after_own c.bodies_describe.ensures

pub returns-clause-known : goal.returns-clause-known
returns-clause-known c = new_list_askers c.bodies_describe.ensures

pub returns-clause-sent : goal.returns-clause-sent
returns-clause-sent c = new_list_sends c.bodies_describe.ensures

pub returns-clause-back : goal.returns-clause-back
returns-clause-back c = λ bytes h. subst (λ (text : List ℕ). ReadsMessage text (Kinds.Response h.response)) (sym h.said) (c.written_is_read.ensures (Kinds.Response h.response) h.written)
