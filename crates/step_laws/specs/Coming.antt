-- What reaches the agent in an event: a message that was read, and what the transactions say of it.
use Rattle.std.specs.Prelude.{◌≡◌, ℕ, List, Some, None, Ok, true, false}
use Rattle.sip_uri.specs.declared.uri.Addr.{Addr}
use Rattle.sip_message.specs.Read.{message_of}
use Rattle.sip_message.specs.declared.message.Message.{Message}
use Rattle.sip_message.specs.declared.message.Message.TheVariants as Kinds
use Rattle.sip_message.specs.declared.message.Request.{Request}
use Rattle.sip_message.specs.declared.message.Response.{Response}
use Rattle.transactions.specs.Contents.{reception_of}
use Rattle.transactions.specs.Shares.{has_no_room}
use Rattle.transactions.specs.Slots.{at}
use Rattle.transactions.specs.declared.outcome.Verdict.TheVariants as verdicts
use Rattle.transactions.specs.declared.transaction.Transaction.{Transaction}
use Rattle.events.specs.declared.event.Event.{Event}
use Rattle.events.specs.declared.event.What.TheVariants as whats
use Rattle.responses.specs.Words.{has_fit_branch}
use Rattle.call_rules.specs.Reach.{is_unreachable}
use Rattle.event_rows.specs.Rows.{only_counts, parts_of}
use Rattle.event_rows.specs.State.{Contents}

-- a datagram of these bytes from this source, at a moment and with a token that count, which reads as this message, and
-- whose branch begins as it has to (RFC 3261 sections 7 and 8.1.1.7)
pub record Comes (s : Contents) (event : Event) (source : Addr) (bytes : List ℕ) (m : Message) : Type 0 where
  pub datagram : event.what ≡ whats.Datagram source bytes
  pub counts : only_counts s event ≡ None
  pub read : message_of bytes ≡ Ok m
  pub branch : has_fit_branch (parts_of m).vias ≡ true

-- a request that is not a repeat, and begins the transaction of this number, for which there is room (section 17.2.3)
pub record BeginsTransaction (s : Contents) (event : Event) (source : Addr) (bytes : List ℕ) (r : Request) (id : ℕ) : Type 0 where
  pub comes : Comes s event source bytes (Kinds.Request r)
  pub new : (reception_of s.table (Kinds.Request r)).verdict ≡ verdicts.New id
  pub room : has_no_room s.table source ≡ false

-- a response to the request of the server's own in the transaction of this number, which hands it up (section 17.1.3);
-- a 2xx says where its sender is reached
pub record GoesUp (s : Contents) (event : Event) (source : Addr) (bytes : List ℕ) (r : Response) (id : ℕ) (asked : Transaction) : Type 0 where
  pub comes : Comes s event source bytes (Kinds.Response r)
  pub reached : is_unreachable r ≡ false
  pub up : (reception_of s.table (Kinds.Response r)).verdict ≡ verdicts.Up id
  pub stands : at s.table.slots id ≡ Some asked
