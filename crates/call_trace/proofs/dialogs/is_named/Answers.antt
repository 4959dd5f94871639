use Rattle.std.proofs.lemmas.Bool.Decides.{Decides-at}
use Rattle.call_trace.proofs.MessageTests.{decides_names}
use Rattle.call_trace.proofs.dialogs.is_named.Goals as goal

pub returns : goal.returns
returns c = Decides-at _ _ c.names.ensures (decides_names c.args.datagram.now c.args.dialog.now)
