-- What is sent and taken without a move, whichever methods may carry an offer.
use Rattle.std.proofs.Common.{◌≡◌, ℕ, List, Bool, true, false, not, ◌&&◌, nat_le, nat_lt, ◌<◌, ◌≤◌, le-ltb, inl, inr, Option, Some, None, refl}
use Rattle.std.specs.Prelude.{IsTrue}
use Rattle.std.proofs.lemmas.Bool.{lt-leb}
use Rattle.call_trace.specs.declared.datagram.Direction.TheVariants.{Sent}
use Rattle.call_trace.specs.declared.datagram.Kind.{Kind}
use Rattle.call_trace.specs.declared.datagram.Kind.TheVariants.{Request, Response}
use Rattle.call_trace.specs.declared.datagram.Message.{Message}
use Rattle.call_trace.specs.declared.datagram.Datagram.{Datagram}
use Rattle.call_trace.specs.Messages.{ack, is_request, is_final, is_success, is_listed, is_request_of, asks}
use Rattle.call_trace.specs.Exchanges.{At}
use Rattle.call_trace.specs.Events.{is_calm, IsIdle, plain, again, IsIdleTaken, calm}
use Rattle.call_trace.proofs.Words.{other_asks}

-- ---- what is sent

not_first : (a b : Bool) → IsTrue (not a) → IsTrue (not (a && b))
not_first true b h = absurd (cc)
not_first false b h = refl

below_both : (a b : Bool) → b ≡ false → IsTrue (not (a && b))
below_both true b e = rw e refl
below_both false b e = refl

-- a final response that is not a 2xx
pub refusal_idle : (methods : List (List ℕ)) (t : List Datagram) (taken : Option Message) (m : Message) (status : ℕ) → m.kind ≡ Response status → 300 ≤ status → IsIdle methods t taken m
refusal_idle methods t taken m status e h = plain (rw e (not_first (is_success (Response status)) _ (below_both (nat_le 200 status) (nat_lt status 300) (le-ltb status 300 h))))

-- a provisional response
pub ringing_idle : (methods : List (List ℕ)) (t : List Datagram) (taken : Option Message) (m : Message) (status : ℕ) → m.kind ≡ Response status → status < 200 → IsIdle methods t taken m
ringing_idle methods t taken m status e h = plain (rw (e, lt-leb 200 status h) refl)

no_request : (k : Kind) (b : Bool) → IsTrue (not (is_request k)) → IsTrue (not (is_request k && b))
no_request Request b e = absurd (cc)
no_request (Response s) b e = refl

-- a response of ours again
pub response_again : (methods : List (List ℕ)) (t : List Datagram) (taken : Option Message) (k : ℕ) (q : Datagram) → At t k q → q.direction ≡ Sent → IsTrue (not (is_request q.message.kind)) → IsIdle methods t taken q.message
response_again methods t taken k q at out response = again k q at out refl (inl (no_request q.message.kind (is_listed methods q.message.method) response))

truth_not : (b : Bool) → (IsTrue b → ⊥) → IsTrue (not b)
truth_not true h = absurd (h refl)
truth_not false h = refl

-- an ACK of ours again
pub ack_again : (methods : List (List ℕ)) (t : List Datagram) (taken : Option Message) (k : ℕ) (q : Datagram) → IsTrue (not (is_listed methods ack)) → At t k q → q.direction ≡ Sent → IsTrue (is_request_of ack q.message)
    → IsIdle methods t taken q.message
ack_again methods t taken k q acks at out acknowledges = again k q at out refl (inl (truth_not (asks methods q.message) (other_asks methods ack q.message acks acknowledges)))

-- whatever a timer sends again
pub timer_idle : (methods : List (List ℕ)) (t : List Datagram) (k : ℕ) (q : Datagram) → At t k q → q.direction ≡ Sent → IsIdle methods t None q.message
timer_idle methods t k q at out = again k q at out refl (inr (λ m g. absurd (cc)))

-- ---- what is taken

calm_kind : (k : Kind) (b : Bool) → IsTrue (is_request k) → IsTrue (not (is_final k && b))
calm_kind Request b h = refl
calm_kind (Response s) b h = absurd (cc)

pub request_calm : (methods : List (List ℕ)) (m : Message) → IsTrue (is_request m.kind) → IsTrue (is_calm methods m)
request_calm methods m h = calm_kind m.kind (is_listed methods m.method) h

-- a request
pub request_taken : (methods : List (List ℕ)) (t : List Datagram) (m : Message) → IsTrue (is_request m.kind) → IsIdleTaken methods t (Some m)
request_taken methods t m h = calm m refl (request_calm methods m h)

-- a provisional response
pub provisional_taken : (methods : List (List ℕ)) (t : List Datagram) (m : Message) (status : ℕ) → m.kind ≡ Response status → status < 200 → IsIdleTaken methods t (Some m)
provisional_taken methods t m status e h = calm m refl (rw (e, lt-leb 200 status h) refl)
