-- Where the datagrams of an event are in the trace.
use Rattle.std.proofs.Common.{◌≡◌, ◌∙◌, ℕ, zero, suc, ◌+◌, List, [], ◌∷◌, ◌++◌, length, Option, Some, refl, subst, inl, inr}
use Rattle.std.specs.Prelude.{slice_get}
use Rattle.std.specs.List.{All}
use Rattle.std.proofs.lemmas.List.Elements.{All-append, All-head, All-nil, All-push, All-tail, All-weaker}
use Rattle.events.specs.declared.sent.Sent.{Sent}
use Rattle.call_trace.specs.declared.datagram.Datagram.{Datagram}
use Rattle.call_trace.specs.declared.datagram.Direction.TheVariants as directions
use Rattle.call_trace.specs.declared.datagram.Message.{Message as TraceMessage}
use Rattle.call_trace.specs.Events.{passed, sent_at, taken_at}
use Rattle.call_trace.specs.Exchanges.{At}
use Rattle.call_trace.specs.Listed.{AllOf}
use Rattle.call_trace.specs.Messages.{offering}
use Rattle.call_trace.specs.Stands.{AsksAt}
use Rattle.call_trace.proofs.AtLaws.{at_left, at_right}
use Rattle.call_trace.proofs.OneEvent.{offset, sent_stands, taken_stands}
use Rattle.message_laws.specs.Sending.{WasSent}
use Rattle.transactions.specs.declared.transaction.Transaction.{Transaction}
use Rattle.message_laws.specs.KnownTrace.{HasBytes, IsRequested, IsFinallyAnswered}
use Rattle.message_laws.specs.Messages.{AreMessages, IsMessage}
use Rattle.message_laws.proofs.Traces.ReadTexts.{own_bytes}

-- ---- one by one

-- the datagram of a message
pub datagram_at : (P : Sent → Type 0) (sends : List Sent) (ms : List TraceMessage) (i : ℕ) (m : TraceMessage) → AllOf P sends → AreMessages sends ms → slice_get ms i ≡ Some m → (d : Sent) × P d × IsMessage d.bytes m
datagram_at P [] [] i m all are e = absurd (cc)
datagram_at P [] (x ∷ ms) i m all are e = absurd are
datagram_at P (d ∷ sends) [] i m all are e = absurd are
datagram_at P (d ∷ sends) (x ∷ ms) zero m all are e = let same : x ≡ m = cc in (d, all.0, subst (IsMessage d.bytes) same are.0)
datagram_at P (d ∷ sends) (x ∷ ms) (suc i) m all are e = datagram_at P sends ms i m all.1 are.1 e

-- and the message of a datagram
pub message_at : (sends : List Sent) (ms : List TraceMessage) (bytes : List ℕ) → AreMessages sends ms → WasSent sends bytes → (i : ℕ) × (m : TraceMessage) × (slice_get ms i ≡ Some m) × IsMessage bytes m
message_at [] ms bytes are h = absurd h
message_at (d ∷ sends) [] bytes are h = absurd are
message_at (d ∷ sends) (x ∷ ms) bytes are (inl same) = (0, x, refl, subst (λ (text : List ℕ). IsMessage text x) same are.0)
message_at (d ∷ sends) (x ∷ ms) bytes are (inr h) = let r = message_at sends ms bytes are.1 h in (suc r.0, r.1, r.2, r.3)

-- ---- in the trace

-- a message that was sent now
pub sent_place : (t : List Datagram) (n : ℕ) (taken : Option TraceMessage) (ms : List TraceMessage) (i : ℕ) (m : TraceMessage) → slice_get ms i ≡ Some m
    → At (t ++ passed n taken ms) (length t + (offset taken + i)) (sent_at n m)
sent_place t n taken ms i m e = at_right t (passed n taken ms) (offset taken + i) (sent_at n m) (sent_stands n taken ms i m e)

pub taken_place : (t : List Datagram) (n : ℕ) (taken : Option TraceMessage) (ms : List TraceMessage) (m : TraceMessage) → taken ≡ Some m → At (t ++ passed n taken ms) (length t + 0) (taken_at n m)
taken_place t n taken ms m e = at_right t (passed n taken ms) 0 (taken_at n m) (taken_stands n taken ms m e)

-- ---- what stays

pub bytes_left : (t s : List Datagram) (d : Sent) → HasBytes t d → HasBytes (t ++ s) d
bytes_left t s d h = (h.0, h.1, at_left t s h.0 h.1 h.2, h.3, h.4)

asks_left : (t s : List Datagram) (i : ℕ) (q : Datagram) → AsksAt offering t i q → AsksAt offering (t ++ s) i q
asks_left t s i q h = record { at = at_left t s i q h.at; sent = h.sent; asks = h.asks }

pub asked_left : (t s : List Datagram) (u : Transaction) → IsRequested t u → IsRequested (t ++ s) u
asked_left t s u h = (h.0, h.1, asks_left t s h.0 h.1 h.2, h.3)

pub answered_left : (t s : List Datagram) (x : Transaction) → IsFinallyAnswered t x → IsFinallyAnswered (t ++ s) x
answered_left t s x h = (h.0, h.1, h.2, h.3, asks_left t s h.0 h.1 h.4, h.5, at_left t s h.2 h.3 h.6, h.7)

-- ---- what was sent

pub all_of : (P : Sent → Type 0) (xs : List Sent) → AllOf P xs → All P xs
all_of P [] h = All-nil P
all_of P (x ∷ xs) h = All-append P (x ∷ []) xs (All-push P [] x (All-nil P) h.0) (all_of P xs h.1)

pub all_sent : (sends more : List Sent) → ((bytes : List ℕ) → WasSent sends bytes → WasSent more bytes) → AllOf (λ (d : Sent). WasSent more d.bytes) sends
all_sent [] more within = tt
all_sent (d ∷ sends) more within = (within d.bytes (inl refl), all_sent sends more (λ bytes h. within bytes (inr h)))

has_bytes : (t : List Datagram) (n : ℕ) (taken : Option TraceMessage) (ms : List TraceMessage) (sends : List Sent) (d : Sent) → AreMessages sends ms → WasSent sends d.bytes → HasBytes (t ++ passed n taken ms) d
has_bytes t n taken ms sends d are h =
    let r = message_at sends ms d.bytes are h in
    (length t + (offset taken + r.0), sent_at n r.1, sent_place t n taken ms r.0 r.1 r.2, refl, own_bytes d.bytes r.1 r.3)

have_bytes : (t : List Datagram) (n : ℕ) (taken : Option TraceMessage) (ms : List TraceMessage) (sends xs : List Sent) → AreMessages sends ms → AllOf (λ (d : Sent). WasSent sends d.bytes) xs → AllOf (HasBytes (t ++ passed n taken ms)) xs
have_bytes t n taken ms sends [] are h = tt
have_bytes t n taken ms sends (d ∷ xs) are h = (has_bytes t n taken ms sends d are h.0, have_bytes t n taken ms sends xs are h.1)

pub sent_more : (t : List Datagram) (n : ℕ) (taken : Option TraceMessage) (ms : List TraceMessage) (before sends : List Sent) → AreMessages sends ms → All (HasBytes t) before → All (HasBytes (t ++ passed n taken ms)) (before ++ sends)
sent_more t n taken ms before sends are k =
    All-append (HasBytes (t ++ passed n taken ms)) before sends (All-weaker (HasBytes t) (HasBytes (t ++ passed n taken ms)) (bytes_left t (passed n taken ms)) before k)
    (all_of (HasBytes (t ++ passed n taken ms)) sends (have_bytes t n taken ms sends sends are (all_sent sends sends (λ bytes h. h))))

-- where bytes that were sent are
pub was_place : (t : List Datagram) (before : List Sent) (bytes : List ℕ) → All (HasBytes t) before → WasSent before bytes → (k : ℕ) × (q : Datagram) × At t k q × (q.direction ≡ directions.Sent) × (q.message.bytes ≡ bytes)
was_place t [] bytes k h = absurd h
was_place t (d ∷ before) bytes k (inl same) = let r = All-head (HasBytes t) d before k in (r.0, r.1, r.2, r.3, r.4 ∙ same)
was_place t (d ∷ before) bytes k (inr h) = was_place t before bytes (All-tail (HasBytes t) d before k) h
