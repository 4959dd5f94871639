-- What goes where no call takes the event: what is plain, and what went before.
use Rattle.std.proofs.Common.{◌≡◌, ◌∙◌, ℕ, List, [], ◌∷◌, Option, Some, None, refl, sym, subst, inl, inr}
use Rattle.std.specs.Prelude.{◌⊎◌, IsTrue, not}
use Rattle.std.specs.List.{All}
use Rattle.std.proofs.lemmas.List.Elements.{All-head, All-tail}
use Rattle.events.specs.declared.sent.Sent.{Sent}
use Rattle.call_trace.specs.declared.call.Call.{Call}
use Rattle.call_trace.specs.declared.datagram.Datagram.{Datagram}
use Rattle.call_trace.specs.declared.datagram.Message.{Message}
use Rattle.call_trace.specs.Events.{IsIdle, IsParting, IsPartingTaken, NoneAsked, again, calm, due, idle, is_plain, plain, unmoved}
use Rattle.call_trace.specs.Listed.{AllOf}
use Rattle.call_trace.specs.Messages.{asks, offering}
use Rattle.call_trace.specs.Moves.{Move, quiet}
use Rattle.call_trace.specs.Exchanges.{At}
use Rattle.call_trace.specs.declared.datagram.Direction.TheVariants as directions
use Rattle.message_laws.specs.Quiet.{IsRequestIf}
use Rattle.message_laws.specs.Sending.{WasSent}
use Rattle.message_laws.proofs.QuietEvents.QuietReplies.{calm_by}
use Rattle.message_laws.specs.Said.{IsSaid}
use Rattle.message_laws.specs.KnownTrace.{HasBytes}
use Rattle.message_laws.specs.Messages.{AreMessages, IsMessage}
use Rattle.media_laws.proofs.Scenes.Reading.{Reading, by_bytes, has_bytes, message_is}

-- ---- messages of datagrams

-- of each datagram a trace sees this
pub all_seen : Reading → (sees : Message → Type 0) (sends : List Sent) (ms : List Message) → AllOf (IsSaid sees) sends → AreMessages sends ms → AllOf sees ms
all_seen r sees [] [] said are = tt
all_seen r sees [] (m ∷ ms) said are = absurd are
all_seen r sees (d ∷ sends) [] said are = absurd are
all_seen r sees (d ∷ sends) (m ∷ ms) said are =
    (subst sees (sym (message_is r d.bytes m said.0.0 are.0 said.0.1 said.0.2)) said.0.3, all_seen r sees sends ms said.1 are.1)

-- ---- a quiet move

abbrev IsPlain : Message → Type 0
IsPlain m = IsTrue (is_plain offering m)

abbrev pub SaysPlain : List Sent → Type 0
SaysPlain sends = AllOf (IsSaid (λ m. IsTrue (is_plain offering m))) sends

module _ (t : List Datagram) (ds : List Call) (taken : Option Message) where
  idle_all : (sent ms : List Message) → AllOf (IsIdle offering t taken) ms → AllOf (IsParting offering t taken sent ds) ms
  idle_all sent [] all = tt
  idle_all sent (m ∷ ms) all = (idle all.0, idle_all sent ms all.1)

  pub idle_move : (ms : List Message) → IsPartingTaken offering t taken ds → AllOf (IsIdle offering t taken) ms → Move offering t ds taken ms ds
  idle_move ms took all = quiet took (idle_all ms ms all) refl

  plain_all : (ms : List Message) → AllOf (λ m. IsTrue (is_plain offering m)) ms → AllOf (IsIdle offering t taken) ms
  plain_all [] all = tt
  plain_all (m ∷ ms) all = (plain all.0, plain_all ms all.1)

  pub request_parts : IsRequestIf taken → IsPartingTaken offering t taken ds
  request_parts is = by_taken taken is
    where
      by_taken : (o : Option Message) → IsRequestIf o → IsPartingTaken offering t o ds
      by_taken None is = unmoved (due refl)
      by_taken (Some m) is = unmoved (calm m refl (calm_by offering m is))

  -- where a request was taken, and what goes is plain
  pub plain_move : Reading → (sends : List Sent) (ms : List Message) → IsRequestIf taken → SaysPlain sends → AreMessages sends ms → Move offering t ds taken ms ds
  plain_move r sends ms is said are = idle_move ms (request_parts is) (plain_all ms (all_seen r (λ m. IsTrue (is_plain offering m)) sends ms said are))

  -- where nothing goes
  pub silent_move : (ms : List Message) → IsPartingTaken offering t taken ds → AreMessages [] ms → Move offering t ds taken ms ds
  silent_move [] took are = idle_move [] took tt
  silent_move (m ∷ ms) took are = absurd are

-- ---- what went before

-- the bytes of this message are in the trace as sent
pub record WentBefore (t : List Datagram) (m : Message) : Type 0 where
  pub place : ℕ
  pub before : Datagram
  pub there : At t place before
  pub sent : before.direction ≡ directions.Sent
  pub same : before.message ≡ m

found_before : (t : List Datagram) (sent : List Sent) (bytes : List ℕ) → All (HasBytes t) sent → WasSent sent bytes → (k : ℕ) × (q : Datagram) × At t k q × (q.direction ≡ directions.Sent) × (q.message.bytes ≡ bytes)
found_before t [] bytes each h = absurd h
found_before t (d ∷ sent) bytes each (inl h) = let f = All-head (HasBytes t) d sent each in (f.0, f.1, f.2, f.3, f.4 ∙ h)
found_before t (d ∷ sent) bytes each (inr h) = found_before t sent bytes (All-tail (HasBytes t) d sent each) h

pub went_before : Reading → (t : List Datagram) (sent : List Sent) (bytes : List ℕ) (m : Message) → ((i : ℕ) (p : Datagram) → At t i p → IsMessage p.message.bytes p.message) → All (HasBytes t) sent
    → WasSent sent bytes → IsMessage bytes m → WentBefore t m
went_before r t sent bytes m read each was is =
    let f = found_before t sent bytes each was in
    record {
      place = f.0;
      before = f.1;
      there = f.2;
      sent = f.3;
      same = by_bytes r f.1.message.bytes bytes f.1.message m (read f.0 f.1 f.2) is (f.4 ∙ sym (has_bytes r bytes m is));
    }

-- it moves no call, where it or what was taken asks nothing
pub before_idle : (t : List Datagram) (taken : Option Message) (m : Message) → WentBefore t m → IsTrue (not (asks offering m)) ⊎ NoneAsked offering taken → IsIdle offering t taken m
before_idle t taken m h none = again h.place h.before h.there h.sent h.same none
