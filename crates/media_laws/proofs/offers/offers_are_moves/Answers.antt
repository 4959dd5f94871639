use Rattle.media_laws.proofs.OfferPairs.FitLines.{invite_passed, update_passed}
use Rattle.media_laws.proofs.OfferPairs.OfferMoves.{asks_callee}
use Rattle.media_laws.proofs.offers.offers_are_moves.Goals as goal

pub returns-clause-first : goal.returns-clause-first
returns-clause-first c = asks_callee

pub returns-clause-invite : goal.returns-clause-invite
returns-clause-invite c = invite_passed

pub returns-clause-update : goal.returns-clause-update
returns-clause-update c = update_passed
