use Rattle.message_laws.proofs.QuietEvents.SeenMessages.{ack_sees, bye_sees, cancel_sees, offer_sees, refused_sees, request_says}
use Rattle.message_laws.proofs.message_views.requests_are_seen.Goals as goal

pub returns-clause-describes : goal.returns-clause-describes
returns-clause-describes c = request_says c.bodies_describe.ensures

pub returns-clause-offer : goal.returns-clause-offer
returns-clause-offer c = offer_sees c.bodies_describe.ensures

pub returns-clause-ack : goal.returns-clause-ack
returns-clause-ack c = ack_sees

pub returns-clause-bye : goal.returns-clause-bye
returns-clause-bye c = bye_sees

pub returns-clause-cancel : goal.returns-clause-cancel
returns-clause-cancel c = cancel_sees

pub returns-clause-refused : goal.returns-clause-refused
returns-clause-refused c = refused_sees
