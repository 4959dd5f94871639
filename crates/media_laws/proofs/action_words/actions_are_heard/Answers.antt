use Rattle.media_laws.proofs.Scenes.HeardActions.{hears_actions}
use Rattle.media_laws.proofs.action_words.actions_are_heard.Goals as goal

pub returns : goal.returns
returns c = hears_actions (record { same = c.bytes_say_all.ensures.one; bytes = c.bytes_say_all.ensures.bytes; back = c.written_is_read.ensures })
