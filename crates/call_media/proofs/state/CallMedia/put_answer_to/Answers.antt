use Rattle.std.proofs.Common.{refl}
use Rattle.call_media.proofs.state.CallMedia.put_answer_to.Goals as goal

pub returns-clause-media : goal.returns-clause-media
returns-clause-media c = rw (c.requires.taken, c.one_more_to-self.ensures, c.replace.ensures.after, c.session_of-session.ensures.session) refl
