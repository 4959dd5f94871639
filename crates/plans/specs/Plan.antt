-- What an event results in: what it is answered, what is sent, and what changes.
use Rattle.std.specs.Prelude.{ℕ, List, [], ◌∷◌, ◌++◌, Option, Some, None, option_map}
use Rattle.events.specs.declared.sent.Sent.{Sent}
use Rattle.sip_uri.specs.declared.uri.Addr.{Addr}
use Rattle.sip_message.specs.declared.message.Message.TheVariants as Kinds
use Rattle.sip_message.specs.declared.message.Response.{Response}
use Rattle.sip_writing.specs.Writing.{message_text}
use Rattle.registrar.specs.Registrar.{ListingContents, PlanContents}
use Rattle.registrar.specs.declared.change.RegistrarChange.{RegistrarChange}
use Rattle.registrar.specs.declared.change.RegistrarChange.TheVariants.{Binds, Lists}
use Rattle.transactions.specs.declared.change.Entry.{Entry}
use Rattle.transactions.specs.declared.outcome.Outgoing.{Outgoing}
use Rattle.transactions.specs.Changes.{answer_of}
use Rattle.plans.specs.declared.note.Note.{Note}
use Rattle.plans.specs.declared.note.Note.TheVariants.{Quiet, Refused}
use Rattle.plans.specs.declared.reason.Reason.{Reason}
use Rattle.plans.specs.declared.taken.Taken.{Taken}
use Rattle.plans.specs.declared.taken.Taken.TheVariants.{Done}
use Rattle.plans.specs.Note.{note_of_registration, note_of_taken}

-- what is answered, the changes of the transactions in order, what is sent in order, what changes in the registrar, how
-- many tokens are made, and what the event was about
pub record Plan : Type 0 where
  pub taken : Taken
  pub changes : List Entry
  pub sends : List Sent
  pub registration : Option RegistrarChange
  pub made : ℕ
  pub note : Note

-- the bytes of a response go to this address
abbrev pub sent_response : Addr → Response → Sent
sent_response to response = record { to = to; bytes = message_text (Kinds.Response response) }

-- nothing changes in the transactions, and nothing is sent
abbrev pub nothing : Taken → Plan
nothing taken = record { taken = taken; changes = []; sends = []; registration = None; made = 0; note = note_of_taken taken }

-- the users are to be those of this listing, each with what it is to be bound to
abbrev pub lists : ListingContents → Plan
lists listing = record { taken = Done; changes = []; sends = []; registration = Some (Lists listing); made = 0; note = Quiet }

-- bytes that a transaction sends, if any
abbrev pub goes : Option Outgoing → List Sent
goes None = []
goes (Some out) = record { to = out.to; bytes = out.bytes } ∷ []

-- a transaction did something by itself
abbrev pub moves : List Entry → Option Outgoing → Plan
moves begun out = record { taken = Done; changes = begun; sends = goes out; registration = None; made = 0; note = Quiet }

-- a refusal that no transaction sends
abbrev pub replies : Addr → Response → Reason → Plan
replies to response reason = record { taken = Done; changes = []; sends = sent_response to response ∷ []; registration = None; made = 0; note = Refused reason }

-- a request began transaction id, and is answered there at once
abbrev pub answers : List Entry → ℕ → Addr → Response → Option PlanContents → ℕ → Plan
answers begun id to response registration made = record {
  taken = Done;
  changes = begun ++ answer_of id response ∷ [];
  sends = sent_response to response ∷ [];
  registration = option_map Binds registration;
  made = made;
  note = note_of_registration registration;
}

-- the same plan, of a request that is refused for this reason
abbrev pub as_refusal : Reason → Plan → Plan
as_refusal reason p = record p { note = Refused reason }
