use Rattle.message_laws.proofs.StandingCalls.ServingRows.{after_serves, list_serves, new_serves}
use Rattle.message_laws.proofs.sessions.calls_are_served.Goals as goal

pub returns-clause-begins : goal.returns-clause-begins
returns-clause-begins c = new_serves

pub returns-clause-step : goal.returns-clause-step
returns-clause-step c = after_serves c.rows_of_session_stand.ensures.own c.rows_of_session_stand.ensures.once c.rows_of_session_stand.ensures.rows c.spared_call_is_served.ensures

pub returns-clause-known : goal.returns-clause-known
returns-clause-known c = λ config s entries rules new are.
    list_serves c.rows_of_session_stand.ensures.own c.rows_of_session_stand.ensures.once c.rows_of_session_stand.ensures.rows c.spared_call_is_served.ensures s entries (new_serves config s rules new)
