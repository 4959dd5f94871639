use Rattle.call_trace.proofs.Parting.{ends_now}
use Rattle.call_trace.proofs.Gone.{gone_ended, leg_lasts, first_bytes, stands_later}
use Rattle.call_trace.proofs.dialog_laws.dialogs_are_known.Goals as goal

pub returns : goal.returns
returns c = record { gone = gone_ended; ends = ends_now; lasts = leg_lasts; first_bytes = first_bytes; later = stands_later }
