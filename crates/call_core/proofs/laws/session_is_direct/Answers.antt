use Rattle.std.proofs.Common.{sym}
use Rattle.call_core.proofs.laws.session_is_direct.Goals as goal

pub returns-clause-joined : goal.returns-clause-joined
returns-clause-joined c = λ call pool s serves is. c.session_is_direct.ensures.joined call.media pool s serves.media is

pub returns-clause-offers : goal.returns-clause-offers
returns-clause-offers c = λ call pool s serves is. c.session_is_direct.ensures.offers call.media pool s serves.media is

pub returns-clause-answers : goal.returns-clause-answers
returns-clause-answers c = λ call pool s serves is. c.session_is_direct.ensures.answers call.media pool s serves.media is

pub returns-clause-held : goal.returns-clause-held
returns-clause-held c = λ call pool s serves is. rw (sym serves.number) (c.session_is_direct.ensures.held call.media pool s serves.media is)

pub returns-clause-stands : goal.returns-clause-stands
returns-clause-stands c = λ call pool serves. serves.session
