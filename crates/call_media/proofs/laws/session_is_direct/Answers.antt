use Rattle.offer_answer.specs.Session.{leads_by}
use Rattle.call_media.proofs.ServeLaws.{standing}
use Rattle.call_media.proofs.laws.session_is_direct.Goals as goal

pub returns-clause-joined : goal.returns-clause-joined
returns-clause-joined c = λ m pool s serves is.
    let stands = standing m pool s serves is in
    c.joined_is_direct.ensures m.range.ip (leads_by pool.rows) s.offer_taken s.answer_sent s.offer_sent s.answer_taken stands.offers stands.answers stands.answer_sent stands.offer_sent stands.rows

pub returns-clause-offers : goal.returns-clause-offers
returns-clause-offers c = λ m pool s serves is. (standing m pool s serves is).offers

pub returns-clause-answers : goal.returns-clause-answers
returns-clause-answers c = λ m pool s serves is. (standing m pool s serves is).answers

pub returns-clause-held : goal.returns-clause-held
returns-clause-held c = λ m pool s serves is. (standing m pool s serves is).held
