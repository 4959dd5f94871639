-- What no call takes is a quiet move.
use Rattle.std.proofs.Common.{ℕ, List, [], ◌∷◌, Option, Some, None, refl}
use Rattle.sip_uri.specs.declared.uri.Addr.{Addr}
use Rattle.sip_message.specs.declared.message.Parts.{Parts}
use Rattle.sip_message.specs.declared.message.Request.{Request}
use Rattle.transactions.specs.declared.change.Entry.{Entry}
use Rattle.transactions.specs.declared.outcome.Outgoing.{Outgoing}
use Rattle.events.specs.declared.sent.Sent.{Sent}
use Rattle.responses.specs.Responding.{responds}
use Rattle.plans.specs.declared.reason.Reason.{Reason}
use Rattle.plans.specs.Office.{Office}
use Rattle.plans.specs.declared.rule.Reply.{Reply}
use Rattle.plans.specs.declared.setting.Setting.{Setting}
use Rattle.plans.specs.declared.taken.Taken.{Taken}
use Rattle.plans.specs.CallRows.{okay_plan}
use Rattle.plans.specs.Plan.{moves, nothing, replies as plain_replies}
use Rattle.plans.specs.Replies.{reply_row, responds_in}
use Rattle.call_trace.specs.declared.call.Call.{Call}
use Rattle.call_trace.specs.declared.datagram.Datagram.{Datagram}
use Rattle.call_trace.specs.declared.datagram.Message.{Message}
use Rattle.call_trace.specs.Events.{IsIdle, plain, again, due, calm, IsParting, idle, IsPartingTaken, unmoved}
use Rattle.call_trace.specs.Listed.{AllOf}
use Rattle.call_trace.specs.Moves.{quiet}
use Rattle.trace_reading.specs.Message.{trace_message}
use Rattle.message_laws.specs.Quiet.{AreSeenAs, GoesAgain, IsQuietReply, IsQuietStatus, IsRequestIf, MovesNone, SayPlain, SeenMove}
use Rattle.message_laws.specs.Saying.{IsSeen}
use Rattle.message_laws.proofs.QuietEvents.QuietReplies.{calm_by, in_plain, okay_plain, one_plain, reply_plain}

-- ---- datagrams as messages

abbrev seen_of : (sees : Message → Type 0) (sends : List Sent) → AllOf (IsSeen sees) sends → List Message
seen_of sees [] all = []
seen_of sees (d ∷ sends) all = trace_message d.bytes all.0.0 ∷ seen_of sees sends all.1

seen_as : (sees : Message → Type 0) (sends : List Sent) (all : AllOf (IsSeen sees) sends) → AreSeenAs sends (seen_of sees sends all)
seen_as sees [] all = tt
seen_as sees (d ∷ sends) all = ((all.0.0, all.0.1, refl), seen_as sees sends all.1)

seen_each : (sees : Message → Type 0) (sends : List Sent) (all : AllOf (IsSeen sees) sends) → AllOf sees (seen_of sees sends all)
seen_each sees [] all = tt
seen_each sees (d ∷ sends) all = (all.0.2, seen_each sees sends all.1)

-- ---- a quiet move

idle_parts : (methods : List (List ℕ)) (t : List Datagram) (taken : Option Message) (sent : List Message) (calls : List Call) (ms : List Message) → AllOf (IsIdle methods t taken) ms
    → AllOf (IsParting methods t taken sent calls) ms
idle_parts methods t taken sent calls [] all = tt
idle_parts methods t taken sent calls (m ∷ ms) all = (idle all.0, idle_parts methods t taken sent calls ms all.1)

pub quiet_move : (methods : List (List ℕ)) (t : List Datagram) (calls : List Call) (taken : Option Message) (sends : List Sent) → IsPartingTaken methods t taken calls → AllOf (IsSeen (IsIdle methods t taken)) sends
    → SeenMove methods t calls taken sends calls
quiet_move methods t calls taken sends took all =
    let ms = seen_of (IsIdle methods t taken) sends all in
    record {
      sent = ms;
      seen = seen_as (IsIdle methods t taken) sends all;
      move = quiet took (idle_parts methods t taken ms calls ms (seen_each (IsIdle methods t taken) sends all)) refl;
    }

plain_idle : (methods : List (List ℕ)) (t : List Datagram) (taken : Option Message) (sends : List Sent) → SayPlain methods sends → AllOf (IsSeen (IsIdle methods t taken)) sends
plain_idle methods t taken [] all = tt
plain_idle methods t taken (d ∷ sends) all = ((all.0.0, all.0.1, plain all.0.2), plain_idle methods t taken sends all.1)

request_parts : (methods : List (List ℕ)) (t : List Datagram) (calls : List Call) (taken : Option Message) → IsRequestIf taken → IsPartingTaken methods t taken calls
request_parts methods t calls None is = unmoved (due refl)
request_parts methods t calls (Some m) is = unmoved (calm m refl (calm_by methods m is))

plain_move : (methods : List (List ℕ)) (t : List Datagram) (calls : List Call) (taken : Option Message) (sends : List Sent) → IsRequestIf taken → SayPlain methods sends
    → SeenMove methods t calls taken sends calls
plain_move methods t calls taken sends is all = quiet_move methods t calls taken sends (request_parts methods t calls taken is) (plain_idle methods t taken sends all)

-- ---- the rows that no call takes

-- what counts as not come
pub nothing_move : (methods : List (List ℕ)) (t : List Datagram) (calls : List Call) (answer : Taken) → SeenMove methods t calls None (nothing answer).sends calls
nothing_move methods t calls answer = quiet_move methods t calls None [] (request_parts methods t calls None tt) tt

pub stateless_move : (methods : List (List ℕ)) (t : List Datagram) (calls : List Call) (taken : Option Message) (to source : Addr) (parts : Parts) (status : ℕ) (tag : List ℕ) (reason : Reason) → IsRequestIf taken
    → IsQuietStatus parts status → SeenMove methods t calls taken (plain_replies to (responds parts source status tag []) reason).sends calls
stateless_move methods t calls taken to source parts status tag reason is fits = plain_move methods t calls taken _ is (one_plain methods to parts source status tag [] fits)

pub refusal_move : (methods : List (List ℕ)) (t : List Datagram) (calls : List Call) (taken : Option Message) (s : Office) (e : Setting) (r : Request) (begun : List Entry) (id status : ℕ) → IsRequestIf taken
    → IsQuietStatus r.parts status → SeenMove methods t calls taken (responds_in s e r begun id status [] None).sends calls
refusal_move methods t calls taken s e r begun id status is fits = plain_move methods t calls taken _ is (in_plain methods s e r begun id status [] None fits)

pub reply_move : (methods : List (List ℕ)) (t : List Datagram) (calls : List Call) (taken : Option Message) (s : Office) (e : Setting) (r : Request) (begun : List Entry) (id : ℕ) (reply : Reply) → IsRequestIf taken
    → IsQuietReply r reply → SeenMove methods t calls taken (reply_row s e r begun id reply).sends calls
reply_move methods t calls taken s e r begun id reply is fits = plain_move methods t calls taken (reply_row s e r begun id reply).sends is (reply_plain methods s e r begun id reply fits)

pub okay_move : (methods : List (List ℕ)) (t : List Datagram) (calls : List Call) (taken : Option Message) (s : Office) (e : Setting) (r : Request) (begun : List Entry) (id : ℕ) → IsRequestIf taken
    → MovesNone r.parts → SeenMove methods t calls taken (okay_plan s e r begun id).sends calls
okay_move methods t calls taken s e r begun id is none = plain_move methods t calls taken (okay_plan s e r begun id).sends is (okay_plain methods s e r begun id none)

-- ---- what transactions do by themselves

pub silent_move : (methods : List (List ℕ)) (t : List Datagram) (calls : List Call) (taken : Option Message) (begun : List Entry) → IsPartingTaken methods t taken calls
    → SeenMove methods t calls taken (moves begun None).sends calls
silent_move methods t calls taken begun took = quiet_move methods t calls taken [] took tt

again_idle : (methods : List (List ℕ)) (t : List Datagram) (taken : Option Message) (m : Message) → GoesAgain methods t taken m → IsIdle methods t taken m
again_idle methods t taken m h = again h.place h.before h.there h.sent h.same h.quiet

pub again_move : (methods : List (List ℕ)) (t : List Datagram) (calls : List Call) (taken : Option Message) (begun : List Entry) (out : Outgoing) → IsPartingTaken methods t taken calls
    → IsSeen (GoesAgain methods t taken) (record { to = out.to; bytes = out.bytes }) → SeenMove methods t calls taken (moves begun (Some out)).sends calls
again_move methods t calls taken begun out took h =
    quiet_move methods t calls taken (record { to = out.to; bytes = out.bytes } ∷ []) took ((h.0, h.1, again_idle methods t taken _ h.2), tt)
