-- Why an event counts as not come: the words of each answer but Done, in the terms of what came.
use Rattle.std.specs.Prelude.{◌≡◌, ◌≤◌, ◌<◌, ◌⊎◌, ℕ, true, false, codes, length, List, None, Ok, Err}
use Rattle.sip_uri.specs.declared.uri.Addr.{Addr}
use Rattle.sip_message.specs.AnswerableParts.{answerable_of}
use Rattle.sip_message.specs.Read.{max_datagram, message_of}
use Rattle.sip_message.specs.declared.error.MessageError.{MessageError}
use Rattle.sip_message.specs.declared.error.MessageError.TheVariants as faults
use Rattle.sip_message.specs.declared.message.Message.{Message}
use Rattle.sip_message.specs.declared.message.Message.TheVariants as Kinds
use Rattle.sip_message.specs.declared.message.Request.{Request}
use Rattle.sip_message.specs.declared.message.Response.{Response}
use Rattle.timers.specs.Queue.{first_due}
use Rattle.transactions.specs.Contents.{reception_of}
use Rattle.transactions.specs.Shares.{has_no_room}
use Rattle.transactions.specs.declared.outcome.Verdict.{Verdict}
use Rattle.transactions.specs.declared.outcome.Verdict.TheVariants as verdicts
use Rattle.events.specs.declared.event.Event.{Event}
use Rattle.events.specs.declared.event.What.TheVariants as whats
use Rattle.calls.specs.Finding.{place_by_ack}
use Rattle.calls.specs.Settled.{has_settled}
use Rattle.configuration.specs.Rules.{is_user_list}
use Rattle.call_rules.specs.Reach.{is_unreachable}
use Rattle.responses.specs.Words.{has_fit_branch, is_method}
use Rattle.plans.specs.declared.taken.Taken.{Taken}
use Rattle.plans.specs.declared.taken.Taken.TheVariants.{Done, Dropped, Idle, Shed}
use Rattle.plans.specs.declared.taken.Why.{Why}
use Rattle.plans.specs.declared.taken.Why.TheVariants.{Ack, Clock, NoBranch, Spent, Stray, Unread}
use Rattle.event_rows.specs.Rows.{parts_of}
use Rattle.event_rows.specs.State.{Contents, moment_at, moments_end, max_tokens}

-- a datagram of these bytes, which reads as this message
pub record IsRead (event : Event) (m : Message) : Type 0 where
  pub source : Addr
  pub bytes : List ℕ
  pub datagram : event.what ≡ whats.Datagram source bytes
  pub read : message_of bytes ≡ Ok m

-- and whose branch begins as it has to (RFC 3261 section 8.1.1.7)
pub record IsBranched (event : Event) (m : Message) : Type 0 where
  pub is_read : IsRead event m
  pub branch : has_fit_branch (parts_of m).vias ≡ true

-- ---- it can't be read: it has more bytes than are read, or a fault, and nothing in it that could be answered (section
-- 8.2.1)

pub record IsUnread (event : Event) (fault : MessageError) : Type 0 where
  pub source : Addr
  pub bytes : List ℕ
  pub datagram : event.what ≡ whats.Datagram source bytes
  pub why : ((fault ≡ faults.TooLong) × (max_datagram < length bytes)) ⊎ ((message_of bytes ≡ Err fault) × ((fault ≡ faults.TooLong) ⊎ (answerable_of bytes ≡ None)))

-- ---- it is read

-- an ACK or a response whose branch does not begin as it has to
abbrev pub IsUnansweredKind : Message → Type 0
IsUnansweredKind (Kinds.Request r) = is_method (codes "ACK") r ≡ true
IsUnansweredKind (Kinds.Response r) = Unit {0}

pub record HasNoBranch (event : Event) : Type 0 where
  pub message : Message
  pub is_read : IsRead event message
  pub branch : has_fit_branch (parts_of message).vias ≡ false
  pub kind : IsUnansweredKind message

-- a response that replies to no request of the server's own whose transaction is live, or a 2xx that says no address
-- to go on with (sections 12.1.2 and 17.1.3)
pub record IsStray (s : Contents) (event : Event) : Type 0 where
  pub response : Response
  pub comes : IsBranched event (Kinds.Response response)
  pub why : (is_unreachable response ≡ true) ⊎ ((reception_of s.table (Kinds.Response response)).verdict ≡ verdicts.Stray)

-- no transaction takes it for itself
abbrev pub NoneTakes : Verdict → Type 0
NoneTakes (verdicts.New id) = ⊥
NoneTakes verdicts.Repeat = ⊥
NoneTakes verdicts.Swallowed = ⊥
NoneTakes (verdicts.Up id) = Unit {0}
NoneTakes verdicts.Stray = Unit {0}

-- an ACK that no transaction swallows, and no call waits for (sections 13.3.1.4 and 17.2.1)
pub record IsUnawaited (s : Contents) (event : Event) : Type 0 where
  pub request : Request
  pub comes : IsBranched event (Kinds.Request request)
  pub method : is_method (codes "ACK") request ≡ true
  pub up : NoneTakes (reception_of s.table (Kinds.Request request)).verdict
  pub place : place_by_ack request.parts s.calls.calls ≡ None

abbrev pub IsDroppedFor : Contents → Event → Why → Type 0
IsDroppedFor s event (Unread fault) = IsUnread event fault
IsDroppedFor s event Stray = IsStray s event
IsDroppedFor s event Ack = IsUnawaited s event
IsDroppedFor s event NoBranch = HasNoBranch event
IsDroppedFor s event Clock = moments_end ≤ event.now
IsDroppedFor s event Spent = max_tokens ≤ s.tokens

-- a request that would begin a transaction, where the limit of live ones is reached, of all or of those from its
-- address
pub record IsShed (s : Contents) (event : Event) : Type 0 where
  pub request : Request
  pub comes : IsBranched event (Kinds.Request request)
  pub id : ℕ
  pub new : (reception_of s.table (Kinds.Request request)).verdict ≡ verdicts.New id
  pub full : has_no_room s.table comes.is_read.source ≡ true

-- a timer is looked for, and none is due
pub record LooksInVain (s : Contents) (event : Event) : Type 0 where
  pub due : event.what ≡ whats.Due
  pub of_transactions : first_due s.table.timers (moment_at s event.now) ≡ None
  pub of_calls : first_due s.calls.timers (moment_at s event.now) ≡ None

-- silence is reported, and no call of this number is settled
pub record SpeaksOfNone (s : Contents) (event : Event) : Type 0 where
  pub number : ℕ
  pub silent : event.what ≡ whats.Silent number
  pub none : has_settled number s.calls.calls ≡ false

-- users are listed as no configuration may list them
pub record ListsAmiss (event : Event) : Type 0 where
  pub users : List (List ℕ)
  pub what : event.what ≡ whats.Users users
  pub amiss : is_user_list users ≡ false

abbrev pub IsIdle : Contents → Event → Type 0
IsIdle s event = LooksInVain s event ⊎ (SpeaksOfNone s event ⊎ ListsAmiss event)

abbrev pub IsAnsweredFor : Contents → Event → Taken → Type 0
IsAnsweredFor s event Done = Unit {0}
IsAnsweredFor s event (Dropped why) = IsDroppedFor s event why
IsAnsweredFor s event Shed = IsShed s event
IsAnsweredFor s event Idle = IsIdle s event
