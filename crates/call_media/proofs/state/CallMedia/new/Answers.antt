use Rattle.std.proofs.Common.{◌∙◌, sym}
use Rattle.call_media.proofs.state.CallMedia.new.Goals as goal

pub returns-clause-serves : goal.returns-clause-serves
returns-clause-serves c = λ pool none. record { server = c.requires; session = tt; offer = tt; bare = λ port own out. absurd (cc (sym (none port) ∙ own)) }
