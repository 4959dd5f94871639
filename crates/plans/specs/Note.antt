-- What an event was about.
use Rattle.std.specs.Prelude.{Option, Some, None}
use Rattle.call_core.specs.declared.note.NoteOfCall.{NoteOfCall}
use Rattle.registrar.specs.Registrar.{PlanContents}
use Rattle.plans.specs.declared.note.Note.{Note}
use Rattle.plans.specs.declared.note.Note.TheVariants as notes
use Rattle.plans.specs.declared.taken.Taken.{Taken}
use Rattle.plans.specs.declared.taken.Taken.TheVariants.{Done, Dropped, Shed, Idle}

-- nothing is sent for it
abbrev pub note_of_taken : Taken → Note
note_of_taken Done = notes.Quiet
note_of_taken (Dropped why) = notes.Dropped why
note_of_taken Shed = notes.Shed
note_of_taken Idle = notes.Quiet

-- what a REGISTER changed
abbrev pub note_of_registration : Option PlanContents → Note
note_of_registration None = notes.Quiet
note_of_registration (Some registration) = notes.Registered

abbrev pub note_of_call : Option NoteOfCall → Note
note_of_call None = notes.Quiet
note_of_call (Some note) = notes.Call note
