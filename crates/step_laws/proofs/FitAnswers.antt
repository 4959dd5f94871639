-- A 2xx that a call takes, with an answer that fits its open offer: the offerer gets that answer, and the 2xx to an
-- INVITE its ACK.
use Rattle.std.proofs.Common.{◌≡◌, ◌∙◌, ℕ, ◌+◌, not, List, [], ◌∷◌, Option, Some, None, inl, inr, refl, ap, subst}
use Rattle.std.specs.Option.{option_copied}
use Rattle.std.specs.Prelude.{IsTrue}
use Rattle.sdp.specs.declared.description.Description.{Description}
use Rattle.offer_answer.specs.Alike.{Alike}
use Rattle.dialogs.specs.Counting.{last_number}
use Rattle.dialogs.specs.Requests.{ack_text}
use Rattle.dialogs.specs.declared.state.Dialog.{Dialog as LegDialog}
use Rattle.transactions.specs.Slots.{at}
use Rattle.transactions.specs.declared.transaction.Transaction.{Transaction}
use Rattle.call_media.specs.declared.end.End.{End}
use Rattle.call_core.specs.declared.action.Action.{Action}
use Rattle.call_core.specs.declared.action.Action.TheVariants.{Ack, Answer, PutRows}
use Rattle.call_steps.specs.Scenes.{offerer_tag}
use Rattle.call_steps.specs.Values.{ComingValue, lent_asker}
use Rattle.calls.specs.declared.standing_call.StandingCall.{StandingCall}
use Rattle.call_messages.specs.Dressing.{branch, dress_one}
use Rattle.call_messages.specs.declared.scene.Asker.{Asker}
use Rattle.call_messages.specs.declared.scene.Scene.{Scene}
use Rattle.plans.specs.Office.{Office}
use Rattle.plans.specs.declared.setting.Setting.{Setting}
use Rattle.call_trace.specs.declared.datagram.Dialog.{Dialog}
use Rattle.call_trace.specs.declared.datagram.Message.{Message}
use Rattle.call_trace.specs.Messages.{ack, invite, is_method, is_request_of}
use Rattle.message_laws.specs.Saying.{SeesIn, SeesTo}
use Rattle.message_laws.specs.Seeing.{SeesRequest, SeesResponse}
use Rattle.media_laws.specs.Coming.{scene_at}
use Rattle.media_laws.specs.Heard.{HearsAction, HearsActions}
use Rattle.media_laws.specs.Scenes.{LegIn}
use Rattle.media_laws.proofs.OfferPairs.SeenWords.{request_of, response_replies}
use Rattle.media_laws.proofs.OfferPairs.Settling.{AreSilent, none_said}
use Rattle.media_laws.proofs.Scenes.Tags.{reply_tag}
use Rattle.media_laws.proofs.OfferPairs.Taking.{ack_one, answer_one, puts_none, skip, take_one}
use Rattle.step_laws.specs.Answers.{PassesAnswer}

-- ---- what its actions say

-- the request of the open offer
abbrev pub asker_for : StandingCall → Transaction → Asker
asker_for c offered = lent_asker (record { id = c.asked.id; parts = offered.parts; source = c.asked.source; tag = offerer_tag c.call })

pub asker_there : (s : Office) (e : Setting) (w : ComingValue) (c : StandingCall) (description : Option Description) (offered : Transaction) → w.offer ≡ None → at s.table.slots c.asked.id ≡ Some offered
    → (scene_at s e w c description).offer ≡ Some (asker_for c offered)
asker_there s e w c description offered none there = rw (none, there) refl

module _ (scene : Scene) (c : StandingCall) (asked offered : Transaction) (has : scene.offer ≡ Some (asker_for c offered)) (answer sent : Description) (says : option_copied scene.description ≡ Some sent) (alike : Alike answer sent) where
  abbrev Passes : List Message → Type 0
  Passes ms = PassesAnswer asked offered answer ms

  answer_seen : (tokens : ℕ) (end : End) (m : Message) → HearsAction scene tokens (Answer end) m → SeesResponse offered.parts 200 (offerer_tag c.call) (Some sent) m
  answer_seen tokens end m h = subst (λ (o : Option Asker). SeesTo o 200 (Some sent) m) has (subst (λ (b : Option Description). SeesTo scene.offer 200 b m) says h)

  ack_seen : (tokens : ℕ) (end : End) (y : Dialog) → LegIn scene end y → (m : Message) → HearsAction scene tokens (Ack end) m → IsTrue (is_request_of ack m)
  ack_seen tokens end y l m h =
      let seen : SeesRequest l.leg (branch scene tokens) (last_number l.leg) ack_text None m = subst (λ (o : Option LegDialog). SeesIn o (branch scene tokens) last_number ack_text None m) l.has h in
      request_of ack m seen.kind seen.method refl

  -- the 2xx to an INVITE
  pub invite_passes : (one two : End) (y : Dialog) → LegIn scene one y → IsTrue (is_method invite asked.parts.cseq.method) → (tokens : ℕ) (later : List Action) → AreSilent scene later → (ms : List Message)
      → HearsActions scene tokens (Ack one ∷ PutRows ∷ Answer two ∷ later) ms → Passes ms
  invite_passes one two y l method tokens later silent ms h =
      let first = ack_one scene tokens one l.leg l.has l.leads in
      let acked = take_one scene tokens (Ack one) (PutRows ∷ Answer two ∷ later) ms first.0 first.1 h in
      let tokens2 = tokens + (dress_one scene tokens (Ack one)).made in
      let behind_rows = skip scene tokens2 PutRows (Answer two ∷ later) acked.rest (puts_none scene tokens2) acked.more in
      let tokens3 = tokens2 + (dress_one scene tokens2 PutRows).made in
      let second = answer_one scene tokens3 two (asker_for c offered) sent has says in
      let went = take_one scene tokens3 (Answer two) later acked.rest second.0 second.1 behind_rows in
      let seen = answer_seen tokens3 two went.message went.heard in
      record {
        acks = acked.message ∷ [];
        went = went.message;
        whole = acked.whole ∙ ap (λ l. acked.message ∷ l) (went.whole ∙ ap (λ l. went.message ∷ l) (none_said scene _ later went.rest silent went.more));
        acknowledged = inl (method, acked.message, refl);
        are_acks = (ack_seen tokens one y l acked.message acked.heard, tt);
        okay = seen.kind;
        replies = λ came is. response_replies offered.parts 200 (offerer_tag c.call) (Some sent) went.message came is seen (reply_tag offered.parts (offerer_tag c.call));
        given = sent;
        said = seen.description;
        alike = alike;
      }

  -- the 2xx to an UPDATE, which has no ACK
  pub update_passes : (two : End) → IsTrue (not (is_method invite asked.parts.cseq.method)) → (tokens : ℕ) (ms : List Message) → HearsActions scene tokens (PutRows ∷ Answer two ∷ []) ms → Passes ms
  update_passes two method tokens ms h =
      let behind_rows = skip scene tokens PutRows (Answer two ∷ []) ms (puts_none scene tokens) h in
      let tokens2 = tokens + (dress_one scene tokens PutRows).made in
      let second = answer_one scene tokens2 two (asker_for c offered) sent has says in
      let went = take_one scene tokens2 (Answer two) [] ms second.0 second.1 behind_rows in
      let seen = answer_seen tokens2 two went.message went.heard in
      record {
        acks = [];
        went = went.message;
        whole = went.whole ∙ ap (λ l. went.message ∷ l) went.more;
        acknowledged = inr (method, refl);
        are_acks = tt;
        okay = seen.kind;
        replies = λ came is. response_replies offered.parts 200 (offerer_tag c.call) (Some sent) went.message came is seen (reply_tag offered.parts (offerer_tag c.call));
        given = sent;
        said = seen.description;
        alike = alike;
      }
