-- The line of an event.
use Rattle.std.specs.Prelude.{◌/◌, ℕ, Bool, true, false, ◌&&◌, ◌||◌, not, List, [], nat_lt, if◌then◌else◌}
use Rattle.plans.specs.declared.note.Note.{Note}
use Rattle.log_rules.specs.Levels.{is_of_strangers, logs_note}
use Rattle.log_rules.specs.NoteLimits.{Contents as Limit, after_question, logged_in, most_logged}
use Rattle.note_lines.specs.declared.ledger.Entry.{Entry}
use Rattle.note_lines.specs.Lines.{said}
use Rattle.note_lines.specs.NoteLines.{Noted, ledger_after, note_line}
use Rattle.operator.specs.declared.event_log.EventLog.{EventLog}

-- it is logged if the level logs such an event, and, of those that strangers cause, if few were logged in this second
abbrev pub is_logged : EventLog → Note → ℕ → Bool
is_logged log note now = logs_note log.level note && (not (is_of_strangers note) || nat_lt (logged_in (now / 1000) log.limit) most_logged)

-- what the limit knows then: it is asked only of what the level logs and strangers cause
abbrev pub limit_after : EventLog → Note → ℕ → Limit
limit_after log note now = if logs_note log.level note && is_of_strangers note then after_question now log.limit else log.limit

-- its line is the one of its note, and the ledger follows it
abbrev pub event_text : Bool → List Entry → Noted → List ℕ
event_text logged ledger e = if logged then said (note_line ledger e) else []

abbrev pub ledger_then : Bool → List Entry → Noted → List Entry
ledger_then logged ledger e = if logged then ledger_after ledger e else ledger
