use Rattle.call_trace.proofs.Apart.{others_tagless}
use Rattle.call_trace.proofs.Sparing.{spares_others, ok_spares_others}
use Rattle.call_trace.proofs.dialog_laws.calls_are_spared.Goals as goal

pub returns : goal.returns
returns c = record { tags = others_tagless; bye_sent = spares_others; bye_answered = ok_spares_others }
