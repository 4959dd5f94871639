-- The lines by which a call passes an offer on, or an answer: what they say, and the moves that they are.
use Rattle.std.proofs.Common.{◌≡◌, ◌≢◌, ◌∙◌, ℕ, ◌+◌, ◌≤◌, ◌<◌, ◌^◌, List, [], ◌∷◌, ◌++◌, Option, Some, None, refl, ap, sym, subst, arith}
use Rattle.std.specs.Prelude.{IsTrue}
use Rattle.std.specs.Option.{option_copied}
use Rattle.events.specs.declared.sent.Sent.{Sent}
use Rattle.sdp.specs.declared.description.Description.{Description}
use Rattle.dialogs.specs.declared.state.Dialog.{Dialog as LegDialog}
use Rattle.dialogs.specs.declared.method.Method.TheVariants as methods
use Rattle.dialogs.specs.Counting.{following, method_text}
use Rattle.call_media.specs.declared.end.End.{End}
use Rattle.call_core.specs.declared.action.Action.{Action}
use Rattle.call_core.specs.declared.action.Action.TheVariants.{Trying, Offer, Ack, Answer, PutRows}
use Rattle.call_core.specs.declared.signal.OfferMethod.{OfferMethod}
use Rattle.call_core.specs.declared.signal.OfferMethod.TheVariants.{Invite, Update}
use Rattle.call_messages.specs.declared.scene.Asker.{Asker}
use Rattle.call_messages.specs.declared.scene.Scene.{Scene}
use Rattle.call_messages.specs.Dressing.{branch, dialog_with, dress_one, method_of}
use Rattle.call_trace.specs.declared.call.Offer.{Offer as TraceOffer}
use Rattle.call_trace.specs.declared.call.Session.{Session}
use Rattle.call_trace.specs.declared.datagram.Datagram.{Datagram}
use Rattle.call_trace.specs.declared.datagram.Dialog.{Dialog}
use Rattle.call_trace.specs.declared.datagram.Kind.{Kind}
use Rattle.call_trace.specs.declared.datagram.Message.{Message}
use Rattle.call_trace.specs.Events.{IsUnused, is_plain}
use Rattle.call_trace.specs.Listed.{AllOf}
use Rattle.call_trace.specs.Messages.{is_listed, offering}
use Rattle.message_laws.specs.Saying.{SeesIn, SeesTo}
use Rattle.message_laws.specs.Seeing.{SeesRequest, SeesResponse}
use Rattle.message_laws.specs.Messages.{IsMessage}
use Rattle.media_laws.specs.Heard.{HearsAction, HearsActions, HearsOne}
use Rattle.media_laws.specs.Said.{Acknowledges, Answers, Asks, OfferHeard}
use Rattle.media_laws.specs.Shows.{IsUnanswered}
use Rattle.message_laws.proofs.TokenUse.UnusedTokens.{new_branch}
use Rattle.media_laws.proofs.OfferPairs.Fresh.{new_answer, other_bytes}
use Rattle.media_laws.specs.Scenes.{AreAllRead, AreOwn, AskedLeg, AskerIn, LegIn}
use Rattle.media_laws.proofs.OfferPairs.SaidActions.{acknowledges_of}
use Rattle.media_laws.proofs.Scenes.Reading.{Reading}
use Rattle.media_laws.proofs.OfferPairs.SeenWords.{answer_of}
use Rattle.media_laws.proofs.OfferPairs.Taking.{ack_one, answer_one, made_small, offer_one, puts_none, skip, take_one}

answers_of : Reading → (t : List Datagram) → AreAllRead t → (s : Scene) (x : Dialog) (p : TraceOffer) (z : Session) (bytes : List ℕ) (end : End) → AskerIn s x p → option_copied s.description ≡ Some z.answer_sent
    → IsTrue (is_listed offering p.came.method) → IsUnanswered t x.ours p.came.number → (tokens : ℕ) (m : Message) → IsMessage bytes m → HearsAction s tokens (Answer end) m → Answers t x p z m
answers_of r t read s x p z bytes end a said listed none tokens m is h =
    let seen : SeesResponse a.asker.parts.now 200 a.asker.tag.now (Some z.answer_sent) m =
    subst (λ (o : Option Asker). SeesTo o 200 (Some z.answer_sent) m) a.has (subst (λ (b : Option Description). SeesTo s.offer 200 b m) said h) in
    record {
      parts = a.asker.parts.now;
      tag = a.asker.tag.now;
      asked = a.request;
      seen = seen;
      reply_tag = a.reply_tag;
      ours = a.ours;
      new = new_answer r t read bytes x.ours p.came.number m is (answer_of m z.answer_sent seen.kind seen.description)
          (subst (λ v. IsTrue (is_listed offering v)) (a.request.method ∙ sym seen.method) listed) (seen.to_tag ∙ a.ours) (seen.number ∙ sym a.request.number) none;
    }

-- ---- an answer that is passed on

pub record AnswerHeard (t : List Datagram) (x y : Dialog) (p : TraceOffer) (z : Session) (ms : List Message) : Type 0 where
  pub acked : Message
  pub went : Message
  pub whole : ms ≡ acked ∷ went ∷ []
  pub ack : Acknowledges t y acked
  pub answer : Answers t x p z went
  pub other : acked.bytes ≢ went.bytes

-- three later actions, which say nothing
abbrev pub AreSilent : Scene → List Action → Type 0
AreSilent s actions = AllOf (λ action. (tokens : ℕ) → (dress_one s tokens action).sends ≡ []) actions

pub none_said : (s : Scene) (tokens : ℕ) (actions : List Action) (ms : List Message) → AreSilent s actions → HearsActions s tokens actions ms → ms ≡ []
none_said s tokens [] ms silent h = h
none_said s tokens (action ∷ later) ms silent h = none_said s (tokens + (dress_one s tokens action).made) later ms silent.1 (skip s tokens action later ms (silent.0 tokens) h)

module _ (r : Reading) (made : ℕ) (t : List Datagram) (own : AreOwn made t) (read : AreAllRead t) (s : Scene) (tokens : ℕ) (old : made ≤ tokens) (few : tokens + 1 < 2 ^ 64) (x y : Dialog) (p : TraceOffer) (z : Session) (asker : AskerIn s x p) (said : option_copied s.description ≡ Some z.answer_sent) (listed : IsTrue (is_listed offering p.came.method)) (none : IsUnanswered t x.ours p.came.number) where
  -- the 2xx to an INVITE
  pub invite_answered : (one two : End) (later : List Action) (ms : List Message) → LegIn s one y → AreSilent s later → HearsActions s tokens (Ack one ∷ PutRows ∷ Answer two ∷ later) ms → AnswerHeard t x y p z ms
  invite_answered one two later ms l silent h =
      let first = ack_one s tokens one l.leg l.has l.leads in
      let acked = take_one s tokens (Ack one) (PutRows ∷ Answer two ∷ later) ms first.0 first.1 h in
      let tokens2 = tokens + (dress_one s tokens (Ack one)).made in
      let behind_rows = skip s tokens2 PutRows (Answer two ∷ later) acked.rest (puts_none s tokens2) acked.more in
      let tokens3 = tokens2 + (dress_one s tokens2 PutRows).made in
      let second = answer_one s tokens3 two asker.asker z.answer_sent asker.has said in
      let went = take_one s tokens3 (Answer two) later acked.rest second.0 second.1 behind_rows in
      let answer = answers_of r t read s x p z second.0.bytes two asker said listed none tokens3 went.message went.is went.heard in
      let ack = acknowledges_of made t own s one y l tokens acked.message old few acked.heard in
      record {
        acked = acked.message;
        went = went.message;
        whole = acked.whole ∙ ap (λ l. acked.message ∷ l) (went.whole ∙ ap (λ l. went.message ∷ l) (none_said s _ later went.rest silent went.more));
        ack = ack;
        answer = answer;
        other = other_bytes r first.0.bytes second.0.bytes acked.message went.message 200 acked.is went.is ack.acks.seen.kind answer.seen.kind;
      }

  -- the 2xx to an UPDATE, which has no ACK
  pub update_answered : (two : End) (later : List Action) (ms : List Message) → AreSilent s later → HearsActions s tokens (PutRows ∷ Answer two ∷ later) ms → (went : Message) × (ms ≡ went ∷ []) × Answers t x p z went
  update_answered two later ms silent h =
      let behind_rows = skip s tokens PutRows (Answer two ∷ later) ms (puts_none s tokens) h in
      let tokens2 = tokens + (dress_one s tokens PutRows).made in
      let second = answer_one s tokens2 two asker.asker z.answer_sent asker.has said in
      let went = take_one s tokens2 (Answer two) later ms second.0 second.1 behind_rows in
      (went.message, went.whole ∙ ap (λ l. went.message ∷ l) (none_said s _ later went.rest silent went.more), answers_of r t read s x p z second.0.bytes two asker said listed none tokens2 went.message went.is went.heard)

-- ---- an offer that is passed on

pub asks_of : (made : ℕ) (t : List Datagram) → AreOwn made t → (s : Scene) (end : End) (method : OfferMethod) (y : Dialog) (offer : Description) → AskedLeg s end method y → option_copied s.description ≡ Some offer → (tokens : ℕ) (m : Message)
    → made ≤ tokens → tokens + 1 < 2 ^ 64 → HearsAction s tokens (Offer end method) m → Asks t y (method_text (method_of method)) offer m
asks_of made t own s end method y offer l said tokens m old few h =
    let seen : SeesRequest l.leg (branch s tokens) (following l.leg) (method_text (method_of method)) (Some offer) m =
    subst (λ (o : Option LegDialog). SeesIn o (branch s tokens) following (method_text (method_of method)) (Some offer) m) l.has
    (subst (λ (b : Option Description). SeesIn (dialog_with end s) (branch s tokens) following (method_text (method_of method)) b m) said h) in
    record {
      leg = l.leg;
      token = branch s tokens;
      number = following l.leg;
      seen = seen;
      in_leg = l.is;
      unused = subst (IsUnused t) (sym seen.branch) (new_branch made s.salt (tokens + 1) t own (omega (arith, old)) few);
    }

trying_plain : (s : Scene) (tokens : ℕ) (end : End) (m : Message) → HearsAction s tokens (Trying end) m → IsTrue (is_plain offering m)
trying_plain s tokens end m h = by_asker s.offer h
  where
    by_asker : (a : Option Asker) → SeesTo a 100 None m → IsTrue (is_plain offering m)
    by_asker None h = absurd h
    by_asker (Some a) h = subst (λ (k : Kind). IsTrue (is_plain offering (record m { kind = k }))) (sym h.kind) refl

module _ (made : ℕ) (t : List Datagram) (own : AreOwn made t) (s : Scene) (tokens : ℕ) (old : made ≤ tokens) (few : tokens + 2 < 2 ^ 64) (y : Dialog) (offer : Description) (said : option_copied s.description ≡ Some offer) where
  -- 100 to an INVITE, and an INVITE
  pub invite_offered : (one two : End) (ms : List Message) → AskedLeg s two Invite y → HearsActions s tokens (Trying one ∷ Offer two Invite ∷ []) ms → OfferHeard t y (method_text methods.Invite) offer ms
  invite_offered one two ms l h =
      let tokens2 = tokens + (dress_one s tokens (Trying one)).made in
      let one_more = made_small s tokens (Trying one) in
      let second = offer_one s tokens2 two Invite l.leg offer l.has said l.numbered l.leads in
      let went = take_one s tokens2 (Offer two Invite) [] h.1 second.0 second.1 h.4 in
      record {
        before = h.0;
        went = went.message;
        whole = h.2 ∙ ap (λ l. h.0 ++ l) (went.whole ∙ ap (λ l. went.message ∷ l) went.more);
        plain = heard_plain (dress_one s tokens (Trying one)).sends h.0 h.3;
        asks = asks_of made t own s two Invite y offer l said tokens2 went.message (omega (arith, old)) (omega (arith, few, one_more)) went.heard;
      }
    where
      heard_plain : (sends : List Sent) (ms : List Message) → HearsOne (HearsAction s tokens (Trying one)) sends ms → AllOf (λ m. IsTrue (is_plain offering m)) ms
      heard_plain [] ms h = subst (AllOf (λ m. IsTrue (is_plain offering m))) (sym h) tt
      heard_plain (d ∷ []) ms h = subst (AllOf (λ m. IsTrue (is_plain offering m))) (sym h.1) (trying_plain s tokens one h.0 h.3, tt)
      heard_plain (d ∷ e ∷ sends) ms h = absurd h

  -- an UPDATE alone
  pub update_offered : (two : End) (ms : List Message) → AskedLeg s two Update y → HearsActions s tokens (Offer two Update ∷ []) ms → OfferHeard t y (method_text methods.Update) offer ms
  update_offered two ms l h =
      let first = offer_one s tokens two Update l.leg offer l.has said l.numbered l.leads in
      let went = take_one s tokens (Offer two Update) [] ms first.0 first.1 h in
      record {
        before = [];
        went = went.message;
        whole = went.whole ∙ ap (λ l. went.message ∷ l) went.more;
        plain = tt;
        asks = asks_of made t own s two Update y offer l said tokens went.message old (omega (arith, few)) went.heard;
      }
