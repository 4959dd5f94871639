use Rattle.message_laws.proofs.Traces.StandingThere.{again_stands, late_is_swallowed, replies_stand}
use Rattle.message_laws.proofs.reply_traces.replies_stand_in_traces.Goals as goal

pub returns : goal.returns
returns c = record { again = again_stands; replies = replies_stand; late = late_is_swallowed }
