-- The table of calls with its effects: for a call, an input, the pool and the moment, what is done, the call and the
-- pool afterwards, and the changes of the relay table.
use Rattle.std.specs.Prelude.{ℕ, Bool, false, is_none, [], Option, Some, None, if◌then◌else◌}
use Rattle.port_pool.specs.Pool.{Contents, changes_of, lowest_free, with_changes, with_pairs, without_call, without_others}
use Rattle.sdp.specs.declared.description.Description.{Description}
use Rattle.offer_answer.specs.Checks.{answer_fault}
use Rattle.call_media.specs.declared.end.End.{End}
use Rattle.call_media.specs.declared.end.End.TheVariants.{Caller}
use Rattle.call_media.specs.declared.session.OpenOffer.{OpenOffer}
use Rattle.call_media.specs.declared.session.Session.{Session}
use Rattle.call_media.specs.Answers.{answer_sent, changes_to, session_over, with_session}
use Rattle.call_media.specs.Ends.{other}
use Rattle.call_media.specs.Offers.{ended, fresh_needed, opened, with_offer, without_offer}
use Rattle.call_media.specs.Sessions.{pairs_listed}
use Rattle.call_core.specs.declared.call.Call.{Call}
use Rattle.call_core.specs.declared.input.Input.{Input}
use Rattle.call_core.specs.declared.input.Input.TheVariants as inputs
use Rattle.call_core.specs.declared.row.Row.{Row}
use Rattle.call_core.specs.declared.signal.Signal.{Signal}
use Rattle.call_core.specs.declared.signal.Signal.TheVariants as signals
use Rattle.call_core.specs.declared.stage.Standing.{Standing}
use Rattle.call_core.specs.Calls.{after, moved, number_to, numbers_to}
use Rattle.call_core.specs.Plans.{Step, ends_media, releases}
use Rattle.call_core.specs.Table.{first_row, row_of}

-- ---- what the lines do to media, pool and relay table

-- nothing is done, and nothing changes
abbrev pub unchanged : Call → Contents → Step
unchanged c pool = record { actions = []; description = None; call = moved c c.standing c.media; pool = pool; changes = [] }

-- the media stay as they are
abbrev pub kept_step : Call → Contents → Row → Step
kept_step c pool row = record { actions = row.actions; description = None; call = moved c row.next c.media; pool = pool; changes = [] }

-- INVITE Y, UPDATE Y: over the pairs in use and the lowest that are free, which are the call's; its number counts in
-- Y's dialog
abbrev pub offer_step : Call → Contents → ℕ → End → Description → Row → Step
offer_step c pool now x offer row = record {
  actions = row.actions;
  description = Some (opened c.media pool x offer now).offer_sent;
  call = after c (numbers_to (other x) (number_to (other x) c)) row.next (with_offer c.media (opened c.media pool x offer now));
  pool = with_pairs pool c.media.number (lowest_free pool now (fresh_needed c.media x offer));
  changes = [];
}

-- rows, 200 X: the session is that of the open offer and its answer, its rows are put, and the pairs that it doesn't
-- use rest
abbrev pub session_step : Call → Contents → ℕ → Session → Row → Step
session_step c pool now s row = record {
  actions = row.actions;
  description = Some s.answer_sent;
  call = moved c row.next (with_session c.media s);
  pool = without_others (with_changes pool (changes_to c.media.number pool s)) c.media.number s.pairs now;
  changes = changes_to c.media.number pool s;
}

abbrev pub answer_step : Call → Contents → ℕ → OpenOffer → Description → Row → Step
answer_step c pool now o answer row = session_step c pool now (session_over o (answer_sent c.media o answer) answer) row

-- release: the pairs of the open offer rest, except for those that the session uses
abbrev pub release_step : Call → Contents → ℕ → Row → Step
release_step c pool now row = record {
  actions = row.actions;
  description = None;
  call = moved c row.next (without_offer c.media);
  pool = without_others pool c.media.number (pairs_listed c.media.session) now;
  changes = [];
}

-- gone, and where the rows go: all pairs rest, and no row is left
abbrev pub end_step : Call → Contents → ℕ → Row → Step
end_step c pool now row = record {
  actions = row.actions;
  description = None;
  call = moved c row.next (ended c.media);
  pool = without_call pool c.media.number now;
  changes = changes_of pool c.media.number [];
}

abbrev pub signal_step : Call → Contents → ℕ → Row → Step
signal_step c pool now row =
    if ends_media row then end_step c pool now row
    else if releases row then release_step c pool now row
    else kept_step c pool row

-- ---- the table

-- a signal without a line does nothing
abbrev pub at_line : Call → Contents → (Row → Step) → Option Row → Step
at_line c pool step None = unchanged c pool
at_line c pool step (Some row) = step row

abbrev pub signal_at : Call → Standing → Signal → Contents → ℕ → Step
signal_at c s signal pool now = at_line c pool (signal_step c pool now) (row_of s signal)

-- an offer without a description is refused
abbrev pub offer_at : Call → Standing → Signal → End → Option Description → Contents → ℕ → Step
offer_at c s signal x None pool now = unchanged c pool
offer_at c s signal x (Some offer) pool now = at_line c pool (offer_step c pool now x offer) (row_of s signal)

-- a 2xx is fit where the open offer lets the answerer give this answer, and the relay carries it (RFC 3264 section 6)
abbrev pub is_fit : Call → Option OpenOffer → Option Description → Bool
is_fit c None answer = false
is_fit c (Some o) None = false
is_fit c (Some o) (Some answer) = is_none (answer_fault c.media.range o.offer_sent answer)

-- a 2xx that is fit
abbrev pub is_fit_input : Call → Input → Bool
is_fit_input c (inputs.Answer answer) = is_fit c c.media.offer answer
is_fit_input c input = false

abbrev pub fit_at : Call → Standing → Option OpenOffer → Option Description → Contents → ℕ → Step
fit_at c s None answer pool now = unchanged c pool
fit_at c s (Some o) None pool now = unchanged c pool
fit_at c s (Some o) (Some answer) pool now = at_line c pool (answer_step c pool now o answer) (row_of s signals.FitAnswer)

abbrev pub answer_at : Call → Standing → Option Description → Contents → ℕ → Step
answer_at c s answer pool now =
    if is_fit c c.media.offer answer then fit_at c s c.media.offer answer pool now
    else signal_at c s signals.UnfitAnswer pool now

abbrev pub step_at : Call → Standing → Input → Contents → ℕ → Step
step_at c s (inputs.Offer x method offer) pool now = offer_at c s (signals.Offer x method) x offer pool now
step_at c s (inputs.Provisional status) pool now = signal_at c s (signals.Provisional status) pool now
step_at c s (inputs.Answer answer) pool now = answer_at c s answer pool now
step_at c s (inputs.Refusal status) pool now = signal_at c s (signals.Refusal status) pool now
step_at c s inputs.TimedOut pool now = signal_at c s signals.TimedOut pool now
step_at c s inputs.Ack pool now = signal_at c s signals.Ack pool now
step_at c s inputs.Cancel pool now = signal_at c s signals.Cancel pool now
step_at c s (inputs.Bye end) pool now = signal_at c s (signals.Bye end) pool now
step_at c s inputs.Limit pool now = signal_at c s signals.Limit pool now
step_at c s inputs.Repeat pool now = signal_at c s signals.Repeat pool now
step_at c s inputs.Wait pool now = signal_at c s signals.Wait pool now
step_at c s inputs.Lifetime pool now = signal_at c s signals.Lifetime pool now

abbrev pub step_in : Call → Option Standing → Input → Contents → ℕ → Step
step_in c None input pool now = unchanged c pool
step_in c (Some s) input pool now = step_at c s input pool now

-- what an input does to a call
unfoldable pub call_row : Call → Input → Contents → ℕ → Step
call_row c input pool now = step_in c c.standing input pool now

-- what the first offer does to a new call: 100 X, INVITE Y. The callee has no dialog yet: its number is in that of its
-- 2xx
unfoldable pub first_call_row : Call → Description → Contents → ℕ → Step
first_call_row c offer pool now = record {
  actions = first_row.actions;
  description = Some (opened c.media pool Caller offer now).offer_sent;
  call = moved c first_row.next (with_offer c.media (opened c.media pool Caller offer now));
  pool = with_pairs pool c.media.number (lowest_free pool now (fresh_needed c.media Caller offer));
  changes = [];
}
