use Rattle.media_laws.proofs.Scenes.OfferRequests.{first_offers, first_untagged, offers_in, offers_to}
use Rattle.media_laws.proofs.offer_requests.requests_are_offers.Goals as goal

pub returns-clause-later : goal.returns-clause-later
returns-clause-later c = offers_in

pub returns-clause-tag : goal.returns-clause-tag
returns-clause-tag c = offers_to

pub returns-clause-first : goal.returns-clause-first
returns-clause-first c = first_offers

pub returns-clause-untagged : goal.returns-clause-untagged
returns-clause-untagged c = first_untagged
