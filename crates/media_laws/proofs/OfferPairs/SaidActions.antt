-- What the actions of a call's lines say to a trace, one by one.
use Rattle.std.proofs.Common.{◌≡◌, ◌∙◌, ℕ, ◌+◌, ◌≤◌, ◌<◌, ◌^◌, List, [], ◌∷◌, ◌++◌, suc, Option, Some, None, refl, sym, subst, arith}
use Rattle.std.specs.Prelude.{slice_get}
use Rattle.std.specs.Option.{option_copied}
use Rattle.events.specs.declared.sent.Sent.{Sent}
use Rattle.dialogs.specs.declared.method.Method.TheVariants as methods
use Rattle.dialogs.specs.declared.state.Dialog.{Dialog as LegDialog}
use Rattle.dialogs.specs.Counting.{following, last_number, method_text}
use Rattle.dialogs.specs.Requests.{ack_text}
use Rattle.transactions.specs.declared.transaction.Transaction.{Transaction}
use Rattle.call_media.specs.declared.end.End.{End}
use Rattle.call_core.specs.declared.action.Action.{Action}
use Rattle.call_core.specs.declared.action.Action.TheVariants.{Provisional, Ack, Refusal, Okay, Cancel, Bye}
use Rattle.call_messages.specs.declared.scene.Asker.{Asker}
use Rattle.call_messages.specs.declared.scene.Scene.{Scene}
use Rattle.call_messages.specs.Dressing.{branch, dress_one}
use Rattle.call_trace.specs.declared.call.Call.{Call}
use Rattle.call_trace.specs.declared.datagram.Datagram.{Datagram}
use Rattle.call_trace.specs.declared.datagram.Dialog.{Dialog}
use Rattle.call_trace.specs.declared.datagram.Message.{Message}
use Rattle.call_trace.specs.Events.{EndsNow, IsIdle, IsUnused, plain}
use Rattle.call_trace.specs.Listed.{AllOf}
use Rattle.call_trace.specs.Messages.{cancel, offering}
use Rattle.call_trace.specs.Stands.{IsTagOf}
use Rattle.call_trace.proofs.Idle.{refusal_idle, ringing_idle}
use Rattle.message_laws.specs.Saying.{SeesCancel, SeesIn, SeesTo}
use Rattle.media_laws.specs.Scenes.{AreOwn, ByeIn, LegIn}
use Rattle.media_laws.specs.Heard.{HearsAction, HearsActions, HearsOne}
use Rattle.media_laws.specs.Said.{Acknowledges, AcksIn, EndSaid, IsLeft, Leaves, acknowledged, leaves, moves_none, was_left}
use Rattle.message_laws.proofs.TokenUse.UnusedTokens.{new_branch}
use Rattle.media_laws.proofs.OfferPairs.SeenWords.{cancel_plain, okay_plain}
use Rattle.media_laws.proofs.OfferPairs.Taking.{SaysOne, take_one}

-- ---- one by one

pub refusal_moves_none : (t : List Datagram) (taken : Option Message) (s : Scene) (x : End) (status : ℕ) → 300 ≤ status → (tokens : ℕ) (m : Message) → HearsAction s tokens (Refusal x status) m → IsIdle offering t taken m
refusal_moves_none t taken s x status low tokens m h = by_asker s.offer h
  where
    by_asker : (a : Option Asker) → SeesTo a status None m → IsIdle offering t taken m
    by_asker None h = absurd h
    by_asker (Some a) h = refusal_idle offering t taken m status h.kind low

pub ringing_moves_none : (t : List Datagram) (taken : Option Message) (s : Scene) (x : End) (status : ℕ) → status < 200 → (tokens : ℕ) (m : Message) → HearsAction s tokens (Provisional x status) m → IsIdle offering t taken m
ringing_moves_none t taken s x status low tokens m h = by_asker s.offer h
  where
    by_asker : (a : Option Asker) → SeesTo a status None m → IsIdle offering t taken m
    by_asker None h = absurd h
    by_asker (Some a) h = ringing_idle offering t taken m status h.kind low

pub cancel_moves_none : (t : List Datagram) (taken : Option Message) (s : Scene) (end : End) (tokens : ℕ) (m : Message) → HearsAction s tokens (Cancel end) m → IsIdle offering t taken m
cancel_moves_none t taken s end tokens m h = by_invite (option_copied s.passed) h
  where
    by_invite : (x : Option Transaction) → SeesCancel x m → IsIdle offering t taken m
    by_invite None h = absurd h
    by_invite (Some x) h = plain (cancel_plain m h.kind h.method)

-- the 200 to a CANCEL
pub okay_moves_none : (t : List Datagram) (taken : Option Message) (s : Scene) (end : End) (a : Asker) → s.request ≡ Some a → a.parts.now.cseq.method ≡ cancel → (tokens : ℕ) (m : Message)
    → HearsAction s tokens (Okay end) m → IsIdle offering t taken m
okay_moves_none t taken s end a is method tokens m h =
    let seen : SeesTo (Some a) 200 None m = subst (λ (o : Option Asker). SeesTo o 200 None m) is h in
    plain (okay_plain m 200 seen.kind (seen.method ∙ method))

pub refusal_said : (t : List Datagram) (taken : Option Message) (sent : List Message) (d : Call) (s : Scene) (x : End) (status : ℕ) → 300 ≤ status → (tokens : ℕ) (m : Message) → HearsAction s tokens (Refusal x status) m
    → EndSaid t taken sent d m
refusal_said t taken sent d s x status low tokens m h = moves_none (refusal_moves_none t taken s x status low tokens m h)

pub leaves_of : (s : Scene) (end : End) (y : Dialog) → LegIn s end y → (tokens : ℕ) (m : Message) → HearsAction s tokens (Bye end) m → Leaves y m
leaves_of s end y l tokens m h = record {
  leg = l.leg;
  token = branch s tokens;
  number = following l.leg;
  seen = subst (λ (o : Option LegDialog). SeesIn o (branch s tokens) following (method_text methods.Bye) None m) l.has h;
  in_leg = l.is;
}

pub bye_said : (t : List Datagram) (taken : Option Message) (sent : List Message) (d : Call) (s : Scene) (end : End) (y : Dialog) → LegIn s end y → IsTagOf d y.ours → (tokens : ℕ) (m : Message) → HearsAction s tokens (Bye end) m
    → EndSaid t taken sent d m
bye_said t taken sent d s end y l tag tokens m h = leaves y tag (leaves_of s end y l tokens m h)

pub cancel_said : (t : List Datagram) (taken : Option Message) (sent : List Message) (d : Call) (s : Scene) (end : End) (tokens : ℕ) (m : Message) → HearsAction s tokens (Cancel end) m → EndSaid t taken sent d m
cancel_said t taken sent d s end tokens m h = moves_none (cancel_moves_none t taken s end tokens m h)

pub okay_said : (t : List Datagram) (taken : Option Message) (sent : List Message) (d : Call) (s : Scene) (end : End) (a : Asker) → s.request ≡ Some a → a.parts.now.cseq.method ≡ cancel → (tokens : ℕ) (m : Message)
    → HearsAction s tokens (Okay end) m → EndSaid t taken sent d m
okay_said t taken sent d s end a is method tokens m h = moves_none (okay_moves_none t taken s end a is method tokens m h)

pub left_of : (s : Scene) (end : End) (x : Dialog) (came : Message) → ByeIn s x came → (tokens : ℕ) (m : Message) → HearsAction s tokens (Okay end) m → IsLeft x came m
left_of s end x came b tokens m h = record {
  parts = b.asker.parts.now;
  tag = b.asker.tag.now;
  request = b.request;
  method = b.method;
  call_id = b.call_id;
  ours = b.ours;
  theirs = b.theirs;
  seen = subst (λ (o : Option Asker). SeesTo o 200 None m) b.has h;
  reply_tag = b.reply_tag;
}

pub left_said : (t : List Datagram) (taken : Option Message) (sent : List Message) (d : Call) (s : Scene) (end : End) (x : Dialog) (came : Message) → ByeIn s x came → taken ≡ Some came → IsTagOf d x.ours → (tokens : ℕ) (m : Message)
    → HearsAction s tokens (Okay end) m → EndSaid t taken sent d m
left_said t taken sent d s end x came b is tag tokens m h = was_left x came is tag (left_of s end x came b tokens m h)

pub acks_of : (s : Scene) (end : End) (y : Dialog) → LegIn s end y → (tokens : ℕ) (m : Message) → HearsAction s tokens (Ack end) m → AcksIn y m
acks_of s end y l tokens m h = record {
  leg = l.leg;
  token = branch s tokens;
  number = last_number l.leg;
  seen = subst (λ (o : Option LegDialog). SeesIn o (branch s tokens) last_number ack_text None m) l.has h;
  in_leg = l.is;
}

pub acknowledges_of : (made : ℕ) (t : List Datagram) → AreOwn made t → (s : Scene) (end : End) (y : Dialog) → LegIn s end y → (tokens : ℕ) (m : Message) → made ≤ tokens → tokens + 1 < 2 ^ 64
    → HearsAction s tokens (Ack end) m → Acknowledges t y m
unfolding acks_of
acknowledges_of made t own s end y l tokens m old few h =
    let acks = acks_of s end y l tokens m h in
    record { acks = acks; unused = subst (IsUnused t) (sym acks.seen.branch) (new_branch made s.salt (tokens + 1) t own (omega (arith, old)) few) }

-- the ACK of a 2xx in a dialog that ends at once
pub ack_said : (t : List Datagram) (taken : Option Message) (sent : List Message) (d : Call) (s : Scene) (end : End) (y : Dialog) → LegIn s end y → EndsNow t taken sent y → (tokens : ℕ) (m : Message)
    → HearsAction s tokens (Ack end) m → EndSaid t taken sent d m
ack_said t taken sent d s end y l ends tokens m h = acknowledged y (acks_of s end y l tokens m h) ends

-- ---- all of them

-- each message is as its action has it
pub all_said : (P : Message → Type 0) (s : Scene) (tokens : ℕ) (actions : List Action) (ms : List Message) → AllOf (λ action. (count : ℕ) (m : Message) → HearsAction s count action m → P m) actions → HearsActions s tokens actions ms
    → AllOf P ms
all_said P s tokens [] ms each h = subst (AllOf P) (sym h) tt
all_said P s tokens (action ∷ later) ms each h =
    subst (AllOf P) (sym h.2) (all_joined P h.0 h.1 (one_said P s tokens action (dress_one s tokens action).sends h.0 (each.0 tokens) h.3) (all_said P s (tokens + (dress_one s tokens action).made) later h.1 each.1 h.4))
  where
    all_joined : (P : Message → Type 0) (xs ys : List Message) → AllOf P xs → AllOf P ys → AllOf P (xs ++ ys)
    all_joined P [] ys a b = b
    all_joined P (x ∷ xs) ys a b = (a.0, all_joined P xs ys a.1 b)

    one_said : (P : Message → Type 0) (s : Scene) (tokens : ℕ) (action : Action) (sends : List Sent) (ms : List Message) → ((m : Message) → HearsAction s tokens action m → P m) → HearsOne (HearsAction s tokens action) sends ms → AllOf P ms
    one_said P s tokens action [] ms f h = subst (AllOf P) (sym h) tt
    one_said P s tokens action (d ∷ []) ms f h = subst (AllOf P) (sym h.1) (f h.0 h.3, tt)
    one_said P s tokens action (d ∷ e ∷ sends) ms f h = absurd h

-- ---- one of them, wherever it is

-- a place after these
abbrev pub behind : List Message → ℕ → ℕ
behind [] i = i
behind (x ∷ xs) i = suc (behind xs i)

pub slice_right : (xs ys : List Message) (i : ℕ) (m : Message) → slice_get ys i ≡ Some m → slice_get (xs ++ ys) (behind xs i) ≡ Some m
slice_right [] ys i m e = e
slice_right (x ∷ xs) ys i m e = slice_right xs ys i m e

pub record Stands (s : Scene) (action : Action) (ms : List Message) : Type 0 where
  pub place : ℕ
  pub message : Message
  pub count : ℕ
  pub there : slice_get ms place ≡ Some message
  pub heard : HearsAction s count action message

pub stands_behind : (s : Scene) (tokens : ℕ) (before : List Action) (action : Action) (later : List Action) (ms : List Message) → ((count : ℕ) → SaysOne s count action) → HearsActions s tokens (before ++ action ∷ later) ms
    → Stands s action ms
stands_behind s tokens [] action later ms one h =
    let said = take_one s tokens action later ms (one tokens).0 (one tokens).1 h in
    record { place = 0; message = said.message; count = tokens; there = subst (λ l. slice_get l 0 ≡ Some said.message) (sym said.whole) refl; heard = said.heard }
stands_behind s tokens (x ∷ before) action later ms one h =
    let more = stands_behind s (tokens + (dress_one s tokens x).made) before action later h.1 one h.4 in
    record {
      place = behind h.0 more.place;
      message = more.message;
      count = more.count;
      there = subst (λ l. slice_get l (behind h.0 more.place) ≡ Some more.message) (sym h.2) (slice_right h.0 h.1 more.place more.message more.there);
      heard = more.heard;
    }
