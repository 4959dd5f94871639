use Rattle.media_laws.proofs.Scenes.OfferReplies.{move_answers}
use Rattle.media_laws.proofs.answer_moves.moves_answer_open_offers.Goals as goal

pub returns : goal.returns
returns c = move_answers
