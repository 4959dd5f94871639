-- The note of each line of the table is what the line's actions tell.
use Rattle.std.proofs.Common.{◌≡◌, ℕ, ◌==◌, Bool, true, false, cond, List, [], ◌∷◌, ◌++◌, Option, Some, None, refl, subst}
use Rattle.std.proofs.lemmas.Option.{same_Some}
use Rattle.call_media.specs.declared.end.End.{End}
use Rattle.call_media.specs.declared.end.End.TheVariants.{Caller, Callee}
use Rattle.call_media.specs.Ends.{is_same}
use Rattle.call_core.specs.declared.action.Action.{Action}
use Rattle.call_core.specs.declared.action.Action.TheVariants.{Okay}
use Rattle.call_core.specs.declared.note.CallNote.{CallNote}
use Rattle.call_core.specs.declared.note.CallNote.TheVariants as notes
use Rattle.call_core.specs.declared.row.Row.{Row}
use Rattle.call_core.specs.declared.signal.OfferMethod.TheVariants as methods
use Rattle.call_core.specs.declared.signal.Signal.{Signal}
use Rattle.call_core.specs.declared.signal.Signal.TheVariants as signals
use Rattle.call_core.specs.declared.stage.Cancelled.{Cancelled}
use Rattle.call_core.specs.declared.stage.Cancelled.TheVariants.{Never, Waits, PassedOn}
use Rattle.call_core.specs.declared.stage.Stage.{Stage}
use Rattle.call_core.specs.declared.stage.Stage.TheVariants as stages
use Rattle.call_core.specs.declared.stage.Standing.{Standing}
use Rattle.call_core.specs.Answered.{answered_row}
use Rattle.call_core.specs.Asked.{asked_row, given_up, rings}
use Rattle.call_core.specs.Cancelling.{cancelling_row}
use Rattle.call_core.specs.Ending.{ending_row}
use Rattle.call_core.specs.Notes.{answered_note, asked_note, inside_note, inside_refusal_note, line_note, may_give_up, note_of, settled_note}
use Rattle.call_core.specs.Reasked.{cancelled_inside, has_lost_the_call, reasked_row, refused_inside, rings_inside}
use Rattle.call_core.specs.Rows.{ringing_time, short_time}
use Rattle.call_core.specs.Settled.{settled_row}
use Rattle.call_core.specs.Table.{first_row, row_in}
use Rattle.call_core.specs.Updating.{update_refused, updating_row}

pub begins_as_noted : note_of None first_row.actions first_row.next ≡ Some notes.Begun
unfolding note_of
begins_as_noted = refl

-- the row has this note, after a call at this stage
abbrev Noted : Stage → End → Option CallNote → Row → Type 0
Noted stage x note row = note_of (Some (record { offerer = x; stage = stage })) row.actions row.next ≡ note

at_row : (stage : Stage) (x : End) (note : Option CallNote) (one row : Row) → Noted stage x note one → Some one ≡ Some row → Noted stage x note row
at_row stage x note one row noted is = subst (Noted stage x note) (same_Some one row is) noted

-- ---- the first INVITE

first_ring : (rung b : Bool) (x : End) (status : ℕ) → (status == 100) ≡ b
    → Noted (stages.Asked rung) x (asked_note (signals.Provisional status)) (record { actions = rings rung ringing_time x status; next = Some (record { offerer = x; stage = stages.Asked true }) })
unfolding note_of
first_ring true true x status e = rw e refl
first_ring true false x status e = rw e refl
first_ring false true x status e = rw e refl
first_ring false false x status e = rw e refl

first_given_up : (rung : Bool) (x : End) → Noted (stages.Asked rung) x (Some notes.GivenUp) (given_up rung x)
unfolding note_of
first_given_up true x = refl
first_given_up false x = refl

first_left : (rung b : Bool) (x : End) (row : Row) → cond b (Some (given_up rung x)) None ≡ Some row → Noted (stages.Asked rung) x (Some notes.GivenUp) row
first_left rung true x row is = at_row (stages.Asked rung) x (Some notes.GivenUp) (given_up rung x) row (first_given_up rung x) is
first_left rung false x row is = absurd cc

asked_line : (rung : Bool) (x : End) (signal : Signal) (row : Row) → asked_row rung x signal ≡ Some row → Noted (stages.Asked rung) x (asked_note signal) row
unfolding asked_row note_of
asked_line rung x (signals.Offer end method) row is = absurd cc
asked_line rung x (signals.Provisional status) row is =
    at_row (stages.Asked rung) x (asked_note (signals.Provisional status)) _ row (first_ring rung (status == 100) x status refl) is
asked_line rung x signals.FitAnswer row is = at_row (stages.Asked rung) x (Some notes.Answered) _ row refl is
asked_line rung x signals.UnfitAnswer row is = at_row (stages.Asked rung) x (Some (notes.Refused 500)) _ row refl is
asked_line rung x (signals.Refusal status) row is = at_row (stages.Asked rung) x (asked_note (signals.Refusal status)) _ row refl is
asked_line rung x signals.TimedOut row is = at_row (stages.Asked rung) x (Some (notes.Refused 408)) _ row refl is
asked_line rung x signals.Ack row is = absurd cc
asked_line rung x signals.Cancel row is = at_row (stages.Asked rung) x (Some notes.GivenUp) _ row (first_given_up rung x) is
asked_line rung x (signals.Bye end) row is = first_left rung (is_same end x) x row is
asked_line true x signals.Limit row is = at_row (stages.Asked true) x (Some (notes.Refused 480)) _ row refl is
asked_line false x signals.Limit row is = absurd cc
asked_line rung x signals.Repeat row is = absurd cc
asked_line rung x signals.Wait row is = absurd cc
asked_line rung x signals.Lifetime row is = absurd cc

cancelling_line : (sent : Bool) (x : End) (signal : Signal) (row : Row) → cancelling_row sent x signal ≡ Some row → Noted (stages.Cancelling sent) x None row
unfolding cancelling_row note_of
cancelling_line true x (signals.Offer end method) row is = absurd cc
cancelling_line false x (signals.Offer end method) row is = absurd cc
cancelling_line true x (signals.Provisional status) row is = at_row (stages.Cancelling true) x None _ row refl is
cancelling_line false x (signals.Provisional status) row is = at_row (stages.Cancelling false) x None _ row refl is
cancelling_line true x signals.FitAnswer row is = at_row (stages.Cancelling true) x None _ row refl is
cancelling_line false x signals.FitAnswer row is = at_row (stages.Cancelling false) x None _ row refl is
cancelling_line true x signals.UnfitAnswer row is = at_row (stages.Cancelling true) x None _ row refl is
cancelling_line false x signals.UnfitAnswer row is = at_row (stages.Cancelling false) x None _ row refl is
cancelling_line true x (signals.Refusal status) row is = at_row (stages.Cancelling true) x None _ row refl is
cancelling_line false x (signals.Refusal status) row is = at_row (stages.Cancelling false) x None _ row refl is
cancelling_line true x signals.TimedOut row is = at_row (stages.Cancelling true) x None _ row refl is
cancelling_line false x signals.TimedOut row is = at_row (stages.Cancelling false) x None _ row refl is
cancelling_line true x signals.Ack row is = absurd cc
cancelling_line false x signals.Ack row is = absurd cc
cancelling_line true x signals.Cancel row is = absurd cc
cancelling_line false x signals.Cancel row is = absurd cc
cancelling_line true x (signals.Bye end) row is = absurd cc
cancelling_line false x (signals.Bye end) row is = absurd cc
cancelling_line true x signals.Limit row is = at_row (stages.Cancelling true) x None _ row refl is
cancelling_line false x signals.Limit row is = absurd cc
cancelling_line true x signals.Repeat row is = absurd cc
cancelling_line false x signals.Repeat row is = absurd cc
cancelling_line true x signals.Wait row is = absurd cc
cancelling_line false x signals.Wait row is = absurd cc
cancelling_line true x signals.Lifetime row is = absurd cc
cancelling_line false x signals.Lifetime row is = absurd cc

-- ---- a call that was answered

abbrev waiting_stage : Bool → ℕ → Stage
waiting_stage false interval = stages.Answered interval
waiting_stage true interval = stages.Reanswered interval

answered_left : (inside : Bool) (interval : ℕ) (x end : End) (row : Row) → answered_row inside interval x (signals.Bye end) ≡ Some row
    → Noted (waiting_stage inside interval) x (Some (notes.Left end)) row
unfolding answered_row note_of
answered_left false interval Caller Caller row is = at_row (waiting_stage false interval) Caller (Some (notes.Left Caller)) _ row refl is
answered_left false interval Caller Callee row is = at_row (waiting_stage false interval) Caller (Some (notes.Left Callee)) _ row refl is
answered_left false interval Callee Caller row is = at_row (waiting_stage false interval) Callee (Some (notes.Left Caller)) _ row refl is
answered_left false interval Callee Callee row is = at_row (waiting_stage false interval) Callee (Some (notes.Left Callee)) _ row refl is
answered_left true interval Caller Caller row is = at_row (waiting_stage true interval) Caller (Some (notes.Left Caller)) _ row refl is
answered_left true interval Caller Callee row is = at_row (waiting_stage true interval) Caller (Some (notes.Left Callee)) _ row refl is
answered_left true interval Callee Caller row is = at_row (waiting_stage true interval) Callee (Some (notes.Left Caller)) _ row refl is
answered_left true interval Callee Callee row is = at_row (waiting_stage true interval) Callee (Some (notes.Left Callee)) _ row refl is

answered_line : (inside : Bool) (interval : ℕ) (x : End) (signal : Signal) (row : Row) → answered_row inside interval x signal ≡ Some row
    → Noted (waiting_stage inside interval) x (answered_note signal) row
unfolding answered_row note_of
answered_line inside interval x (signals.Offer end method) row is = absurd cc
answered_line inside interval x (signals.Provisional status) row is = absurd cc
answered_line inside interval x signals.FitAnswer row is = absurd cc
answered_line inside interval x signals.UnfitAnswer row is = absurd cc
answered_line inside interval x (signals.Refusal status) row is = absurd cc
answered_line inside interval x signals.TimedOut row is = absurd cc
answered_line false interval x signals.Ack row is = at_row (waiting_stage false interval) x (answered_note signals.Ack) _ row refl is
answered_line true interval x signals.Ack row is = at_row (waiting_stage true interval) x (answered_note signals.Ack) _ row refl is
answered_line inside interval x signals.Cancel row is = absurd cc
answered_line inside interval x (signals.Bye end) row is = answered_left inside interval x end row is
answered_line inside interval x signals.Limit row is = absurd cc
answered_line false interval x signals.Repeat row is = at_row (waiting_stage false interval) x (answered_note signals.Repeat) _ row refl is
answered_line true interval x signals.Repeat row is = at_row (waiting_stage true interval) x (answered_note signals.Repeat) _ row refl is
answered_line false interval x signals.Wait row is = at_row (waiting_stage false interval) x (answered_note signals.Wait) _ row refl is
answered_line true interval x signals.Wait row is = at_row (waiting_stage true interval) x (answered_note signals.Wait) _ row refl is
answered_line false interval x signals.Lifetime row is = at_row (waiting_stage false interval) x (answered_note signals.Lifetime) _ row refl is
answered_line true interval x signals.Lifetime row is = at_row (waiting_stage true interval) x (answered_note signals.Lifetime) _ row refl is

settled_line : (x : End) (signal : Signal) (row : Row) → settled_row signal ≡ Some row → Noted stages.Settled x (settled_note signal) row
unfolding settled_row note_of
settled_line x (signals.Offer Caller methods.Invite) row is = at_row stages.Settled x (settled_note (signals.Offer Caller methods.Invite)) _ row refl is
settled_line x (signals.Offer Callee methods.Invite) row is = at_row stages.Settled x (settled_note (signals.Offer Callee methods.Invite)) _ row refl is
settled_line x (signals.Offer Caller methods.Update) row is = at_row stages.Settled x (settled_note (signals.Offer Caller methods.Update)) _ row refl is
settled_line x (signals.Offer Callee methods.Update) row is = at_row stages.Settled x (settled_note (signals.Offer Callee methods.Update)) _ row refl is
settled_line x (signals.Provisional status) row is = absurd cc
settled_line x signals.FitAnswer row is = absurd cc
settled_line x signals.UnfitAnswer row is = absurd cc
settled_line x (signals.Refusal status) row is = absurd cc
settled_line x signals.TimedOut row is = absurd cc
settled_line x signals.Ack row is = absurd cc
settled_line x signals.Cancel row is = absurd cc
settled_line x (signals.Bye end) row is = at_row stages.Settled x (settled_note (signals.Bye end)) _ row refl is
settled_line x signals.Limit row is = absurd cc
settled_line x signals.Repeat row is = absurd cc
settled_line x signals.Wait row is = absurd cc
settled_line x signals.Lifetime row is = at_row stages.Settled x (settled_note signals.Lifetime) _ row refl is

-- ---- an offer inside the call

later_ring : (rung b : Bool) (cancelled : Cancelled) (x : End) (status : ℕ) → (status == 100) ≡ b → Noted (stages.Reasked rung cancelled) x None (rings_inside rung cancelled x status)
unfolding note_of
later_ring true true Never x status e = rw e refl
later_ring true false Never x status e = rw e refl
later_ring false true Never x status e = rw e refl
later_ring false false Never x status e = rw e refl
later_ring true true Waits x status e = rw e refl
later_ring true false Waits x status e = rw e refl
later_ring false true Waits x status e = rw e refl
later_ring false false Waits x status e = rw e refl
later_ring true true PassedOn x status e = rw e refl
later_ring true false PassedOn x status e = rw e refl
later_ring false true PassedOn x status e = rw e refl
later_ring false false PassedOn x status e = rw e refl

later_refused : (rung b : Bool) (cancelled : Cancelled) (x : End) (status : ℕ) → has_lost_the_call status ≡ b
    → Noted (stages.Reasked rung cancelled) x (Some (inside_refusal_note status)) (refused_inside x status)
unfolding note_of
later_refused rung true cancelled x status e = rw e refl
later_refused rung false cancelled x status e = rw e refl

later_given_up : (rung : Bool) (cancelled : Cancelled) (x : End)
    → Noted (stages.Reasked rung cancelled) x (inside_note (may_give_up (stages.Reasked rung cancelled)) signals.Cancel) (cancelled_inside rung cancelled x)
unfolding note_of
later_given_up true Never x = refl
later_given_up false Never x = refl
later_given_up true Waits x = refl
later_given_up false Waits x = refl
later_given_up true PassedOn x = refl
later_given_up false PassedOn x = refl

reasked_line : (rung : Bool) (cancelled : Cancelled) (x : End) (signal : Signal) (row : Row) → reasked_row rung cancelled x signal ≡ Some row
    → Noted (stages.Reasked rung cancelled) x (inside_note (may_give_up (stages.Reasked rung cancelled)) signal) row
unfolding reasked_row note_of
reasked_line rung cancelled x (signals.Offer end method) row is = absurd cc
reasked_line rung cancelled x (signals.Provisional status) row is = at_row (stages.Reasked rung cancelled) x None _ row (later_ring rung (status == 100) cancelled x status refl) is
reasked_line rung cancelled x signals.FitAnswer row is = at_row (stages.Reasked rung cancelled) x (inside_note (may_give_up (stages.Reasked rung cancelled)) signals.FitAnswer) _ row refl is
reasked_line rung cancelled x signals.UnfitAnswer row is = at_row (stages.Reasked rung cancelled) x (inside_note (may_give_up (stages.Reasked rung cancelled)) signals.UnfitAnswer) _ row refl is
reasked_line rung cancelled x (signals.Refusal status) row is =
    at_row (stages.Reasked rung cancelled) x (inside_note (may_give_up (stages.Reasked rung cancelled)) (signals.Refusal status)) _ row (later_refused rung (has_lost_the_call status) cancelled x status refl) is
reasked_line rung cancelled x signals.TimedOut row is = at_row (stages.Reasked rung cancelled) x (inside_note (may_give_up (stages.Reasked rung cancelled)) signals.TimedOut) _ row refl is
reasked_line rung cancelled x signals.Ack row is = absurd cc
reasked_line rung cancelled x signals.Cancel row is = at_row (stages.Reasked rung cancelled) x (inside_note (may_give_up (stages.Reasked rung cancelled)) signals.Cancel) _ row (later_given_up rung cancelled x) is
reasked_line rung cancelled x (signals.Bye end) row is = at_row (stages.Reasked rung cancelled) x (inside_note (may_give_up (stages.Reasked rung cancelled)) (signals.Bye end)) _ row refl is
reasked_line true cancelled x signals.Limit row is = at_row (stages.Reasked true cancelled) x (inside_note (may_give_up (stages.Reasked true cancelled)) signals.Limit) _ row refl is
reasked_line false cancelled x signals.Limit row is = absurd cc
reasked_line rung cancelled x signals.Repeat row is = absurd cc
reasked_line rung cancelled x signals.Wait row is = absurd cc
reasked_line rung cancelled x signals.Lifetime row is = at_row (stages.Reasked rung cancelled) x (inside_note (may_give_up (stages.Reasked rung cancelled)) signals.Lifetime) _ row refl is

update_is_refused : (b : Bool) (x : End) (status : ℕ) → has_lost_the_call status ≡ b → Noted stages.Updating x (Some (inside_refusal_note status)) (update_refused x status)
unfolding note_of
update_is_refused true x status e = rw e refl
update_is_refused false x status e = rw e refl

updating_line : (x : End) (signal : Signal) (row : Row) → updating_row x signal ≡ Some row → Noted stages.Updating x (inside_note false signal) row
unfolding updating_row note_of
updating_line x (signals.Offer end method) row is = absurd cc
updating_line x (signals.Provisional status) row is = absurd cc
updating_line x signals.FitAnswer row is = at_row stages.Updating x (inside_note false signals.FitAnswer) _ row refl is
updating_line x signals.UnfitAnswer row is = at_row stages.Updating x (inside_note false signals.UnfitAnswer) _ row refl is
updating_line x (signals.Refusal status) row is = at_row stages.Updating x (inside_note false (signals.Refusal status)) _ row (update_is_refused (has_lost_the_call status) x status refl) is
updating_line x signals.TimedOut row is = at_row stages.Updating x (inside_note false signals.TimedOut) _ row refl is
updating_line x signals.Ack row is = absurd cc
updating_line x signals.Cancel row is = absurd cc
updating_line x (signals.Bye end) row is = at_row stages.Updating x (inside_note false (signals.Bye end)) _ row refl is
updating_line x signals.Limit row is = absurd cc
updating_line x signals.Repeat row is = absurd cc
updating_line x signals.Wait row is = absurd cc
updating_line x signals.Lifetime row is = at_row stages.Updating x (inside_note false signals.Lifetime) _ row refl is

-- ---- an end has left

ending_left : (interval : ℕ) (b : Bool) (x : End) (row : Row) → cond b (Some (record { actions = Okay x ∷ []; next = None })) None ≡ Some row → Noted (stages.Ending interval) x None row
unfolding note_of
ending_left interval true x row is = at_row (stages.Ending interval) x None _ row refl is
ending_left interval false x row is = absurd cc

ending_line : (interval : ℕ) (x : End) (signal : Signal) (row : Row) → ending_row interval x signal ≡ Some row → Noted (stages.Ending interval) x None row
unfolding ending_row note_of
ending_line interval x (signals.Offer end method) row is = absurd cc
ending_line interval x (signals.Provisional status) row is = absurd cc
ending_line interval x signals.FitAnswer row is = absurd cc
ending_line interval x signals.UnfitAnswer row is = absurd cc
ending_line interval x (signals.Refusal status) row is = absurd cc
ending_line interval x signals.TimedOut row is = absurd cc
ending_line interval x signals.Ack row is = at_row (stages.Ending interval) x None _ row refl is
ending_line interval x signals.Cancel row is = absurd cc
ending_line interval x (signals.Bye end) row is = ending_left interval (is_same end x) x row is
ending_line interval x signals.Limit row is = absurd cc
ending_line interval x signals.Repeat row is = at_row (stages.Ending interval) x None _ row refl is
ending_line interval x signals.Wait row is = at_row (stages.Ending interval) x None _ row refl is
ending_line interval x signals.Lifetime row is = absurd cc

-- ---- every line

pub line_is_noted : (stage : Stage) (x : End) (signal : Signal) (row : Row) → row_in stage x signal ≡ Some row → Noted stage x (line_note stage signal) row
line_is_noted (stages.Asked rung) x signal row is = asked_line rung x signal row is
line_is_noted (stages.Cancelling sent) x signal row is = cancelling_line sent x signal row is
line_is_noted (stages.Answered interval) x signal row is = answered_line false interval x signal row is
line_is_noted stages.Settled x signal row is = settled_line x signal row is
line_is_noted (stages.Reasked rung cancelled) x signal row is = reasked_line rung cancelled x signal row is
line_is_noted (stages.Reanswered interval) x signal row is = answered_line true interval x signal row is
line_is_noted stages.Updating x signal row is = updating_line x signal row is
line_is_noted (stages.Ending interval) x signal row is = ending_line interval x signal row is
