-- What the calls of a trace show of those of the server: their dialogs, their sessions, and their open offers with the
-- requests of them.
use Rattle.std.specs.Prelude.{◌≡◌, ◌≢◌, ℕ, Bool, true, false, List, [], Option, Some, None, IsTrue}
use Rattle.transactions.specs.Slots.{at}
use Rattle.transactions.specs.declared.transaction.Transaction.{Transaction}
use Rattle.dialogs.specs.declared.state.Dialog.{Dialog as LegDialog}
use Rattle.call_media.specs.declared.end.End.{End}
use Rattle.call_media.specs.declared.end.End.TheVariants.{Caller, Callee}
use Rattle.call_media.specs.Ends.{other}
use Rattle.call_media.specs.declared.session.OpenOffer.{OpenOffer}
use Rattle.call_media.specs.declared.session.Session.{Session as CallSession}
use Rattle.call_core.specs.declared.stage.Stage.{Stage}
use Rattle.call_core.specs.declared.stage.Standing.{Standing}
use Rattle.calls.specs.declared.standing_call.StandingCall.{StandingCall}
use Rattle.calls.specs.Finding.{has_tag}
use Rattle.call_rules.specs.Responses.{is_open}
use Rattle.call_trace.specs.declared.call.Call.{Call}
use Rattle.call_trace.specs.declared.call.Offer.{Offer}
use Rattle.call_trace.specs.declared.call.Session.{Session}
use Rattle.call_trace.specs.declared.call.Settled.{Settled}
use Rattle.call_trace.specs.declared.call.Stage.{Stage as TraceStage}
use Rattle.call_trace.specs.declared.call.Stage.TheVariants.{Asked, Answered, Ending}
use Rattle.call_trace.specs.declared.datagram.Datagram.{Datagram}
use Rattle.call_trace.specs.declared.datagram.Dialog.{Dialog}
use Rattle.call_trace.specs.declared.datagram.Direction.TheVariants.{Sent}
use Rattle.call_trace.specs.Exchanges.{At}
use Rattle.call_trace.specs.Messages.{invite, is_listed, is_answer, offering, update}
use Rattle.call_trace.specs.Stands.{leg}
use Rattle.trace_reading.specs.Message.{dialog_named}
use Rattle.message_laws.specs.OpenRequests.{IsAmong}
use Rattle.message_laws.specs.Waiting.{IsOffering, from_tag}
use Rattle.message_laws.specs.Messages.{IsRequestOf}
use Rattle.media_laws.specs.Listing.{Listing, asking, ending_by, first, hidden, listing, talking, updating}

-- ---- ends and dialogs

abbrev pub is_caller : End → Bool
is_caller Caller = true
is_caller Callee = false

-- before the first 2xx there is none with the callee: its leg has the server's tag, and no other (RFC 3261 section
-- 12.1.2)
abbrev pub ShowsCallee : List ℕ → Option LegDialog → Dialog → Type 0
ShowsCallee tag None d = (d.ours ≡ tag) × (d.theirs ≡ [])
ShowsCallee tag (Some leg) d = d ≡ dialog_named leg.id

pub record ShowsLegs (c : StandingCall) (d : Call) : Type 0 where
  pub caller : d.caller ≡ dialog_named c.call.caller.id
  pub callee : ShowsCallee c.callee_tag c.call.callee d.callee

-- ---- sessions

abbrev pub session_of : CallSession → Session
session_of x = record { offer_taken = x.offer_taken; answer_sent = x.answer_sent; offer_sent = x.offer_sent; answer_taken = x.answer_taken }

abbrev pub settled_of : CallSession → Settled
settled_of x = record { by_caller = is_caller x.offerer; session = session_of x }

abbrev pub ShowsSettled : Option CallSession → TraceStage → Type 0
ShowsSettled None stage = ⊥
ShowsSettled (Some x) stage = stage ≡ Answered (settled_of x)

-- ---- open offers

-- the request of this transaction
pub record Came (slots : List (Option Transaction)) (id : ℕ) (p : Offer) : Type 0 where
  pub transaction : Transaction
  pub stands : at slots id ≡ Some transaction
  pub request : IsRequestOf transaction.parts p.came

-- the request that the server began for it
abbrev pub Went : List Transaction → StandingCall → Offer → Type 0
Went begun c p = (u : Transaction) → IsAmong begun u → IsOffering u → has_tag (from_tag u) c ≡ true → is_open u.parts c ≡ true → IsRequestOf u.parts p.went

-- no 2xx with an answer to an INVITE or UPDATE of this number was sent in the offerer's dialog
abbrev pub IsUnanswered : List Datagram → List ℕ → ℕ → Type 0
IsUnanswered t tag number =
    (i : ℕ) (p : Datagram) → At t i p → p.direction ≡ Sent → IsTrue (is_answer p.message) → IsTrue (is_listed offering p.message.method) → p.message.to_tag ≡ tag
    → p.message.number ≢ number

-- the offer that the call keeps as open came and went by requests of this method
pub record ShowsOffer (slots : List (Option Transaction)) (begun : List Transaction) (t : List Datagram) (name : List ℕ) (c : StandingCall) (x : End) (o : OpenOffer) (d : Call) (p : Offer) : Type 0 where
  pub open_is : d.offer ≡ Some p
  pub by : p.by_caller ≡ is_caller x
  pub same : o.offerer ≡ x
  pub came : Came slots c.asked.id p
  pub went : Went begun c p
  pub method : p.went.method ≡ name
  pub taken : p.came.description ≡ Some o.offer_taken
  pub sent : p.went.description ≡ Some o.offer_sent
  pub unanswered : IsUnanswered t (leg d p.by_caller).ours p.came.number

abbrev pub ShowsOpen : List (Option Transaction) → List Transaction → List Datagram → List ℕ → StandingCall → End → Option OpenOffer → Call → Type 0
ShowsOpen slots begun t name c x None d = ⊥
ShowsOpen slots begun t name c x (Some o) d = (p : Offer) × ShowsOffer slots begun t name c x o d p

-- ---- a call

abbrev pub ShowsListing : List (Option Transaction) → List Transaction → List Datagram → StandingCall → End → Listing → Call → Type 0
ShowsListing slots begun t c x first d = (d.stage ≡ Asked) × (c.call.callee ≡ None) × (x ≡ Caller) × ShowsOpen slots begun t invite c x c.call.media.offer d
ShowsListing slots begun t c x talking d = ShowsSettled c.call.media.session d.stage × (d.offer ≡ None)
ShowsListing slots begun t c x asking d = ShowsSettled c.call.media.session d.stage × ShowsOpen slots begun t invite c x c.call.media.offer d
ShowsListing slots begun t c x updating d = ShowsSettled c.call.media.session d.stage × ShowsOpen slots begun t update c x c.call.media.offer d
ShowsListing slots begun t c x ending_by d = (d.stage ≡ Ending (is_caller (other x))) × (d.offer ≡ None)
ShowsListing slots begun t c x hidden d = ⊥

abbrev pub ShowsStage : List (Option Transaction) → List Transaction → List Datagram → StandingCall → Standing → Stage → Call → Type 0
ShowsStage slots begun t c n stage d = ShowsListing slots begun t c n.offerer (listing stage) d

abbrev pub ShowsStanding : List (Option Transaction) → List Transaction → List Datagram → StandingCall → Option Standing → Call → Type 0
ShowsStanding slots begun t c None d = ⊥
ShowsStanding slots begun t c (Some n) d = ShowsStage slots begun t c n n.stage d

pub record ShowsCall (slots : List (Option Transaction)) (begun : List Transaction) (t : List Datagram) (c : StandingCall) (d : Call) : Type 0 where
  pub legs : ShowsLegs c d
  pub standing : ShowsStanding slots begun t c c.call.standing d
