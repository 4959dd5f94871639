-- What is known of the answers in a trace stays known, event by event.
use Rattle.std.proofs.Common.{◌≡◌, ◌≢◌, ◌∙◌, ℕ, ◌+◌, suc, zero, List, [], ◌∷◌, ◌++◌, Option, Some, refl, ap, sym, subst, inl, inr, arith}
use Rattle.std.specs.Prelude.{IsTrue, get_or, slice_get}
use Rattle.std.specs.List.{All}
use Rattle.std.proofs.lemmas.Option.{none-some, same_Some, slice_get-get_or}
use Rattle.configuration.specs.declared.config.Config.{Config}
use Rattle.dialogs.specs.Counting.{IsOld}
use Rattle.dialogs.specs.declared.state.Dialog.{Dialog}
use Rattle.events.specs.declared.event.Event.{Event}
use Rattle.events.specs.declared.sent.Sent.{Sent}
use Rattle.transactions.specs.declared.transaction.Transaction.{Transaction}
use Rattle.call_media.specs.declared.end.End.{End}
use Rattle.call_media.specs.declared.end.End.TheVariants.{Callee, Caller}
use Rattle.call_core.specs.Calls.{dialog_of}
use Rattle.call_steps.specs.Scenes.{tag_to}
use Rattle.calls.specs.declared.standing_call.StandingCall.{StandingCall}
use Rattle.plans.specs.Effect.{Effect}
use Rattle.plans.specs.Office.{Office}
use Rattle.event_rows.specs.Rows.{after, moment_after, row}
use Rattle.event_rows.specs.State.{Contents, IsNew, after_event, office}
use Rattle.call_trace.specs.declared.call.Call.{Call}
use Rattle.call_trace.specs.declared.datagram.Datagram.{Datagram}
use Rattle.call_trace.specs.declared.datagram.Message.{Message}
use Rattle.call_trace.specs.Events.{passed}
use Rattle.call_trace.specs.Exchanges.{At}
use Rattle.call_trace.specs.Messages.{is_answer, is_listed, offering}
use Rattle.call_trace.specs.Moves.{Move}
use Rattle.call_trace.proofs.AtLaws.{at_split}
use Rattle.call_trace.proofs.OneEvent.{sent_part}
use Rattle.message_laws.specs.Knowing.{ApartFrom, AreApart, HasLegTag, HasMadeTags, IsTagOf, KnowsCalls, KnowsTokens}
use Rattle.message_laws.specs.Tokens.{IsMade}
use Rattle.message_laws.proofs.TokenUse.Apartness.{made_tag, old_and_new}
use Rattle.message_laws.proofs.AwaitedOffers.Awaiting.{all_at}
use Rattle.message_laws.proofs.TokenUse.Calls.{call_at}
use Rattle.message_laws.proofs.QuietEvents.Growing.{made_more}
use Rattle.message_laws.proofs.AwaitedOffers.Tagged.{differs_at, tag_of_end}
use Rattle.media_laws.specs.Ties.{AreTied}
use Rattle.message_laws.specs.Asked.{HasAskerIf, KnowsAsked}
use Rattle.media_laws.specs.Answering.{AnswersOffer, answers, was_sent}
use Rattle.media_laws.specs.Answers.{IsAnswerSent, KnowsAnswers}
use Rattle.media_laws.specs.Rising.{RisesFrom, began, stood}
use Rattle.media_laws.specs.Taken.{HasTakenBy, HasTakenOffer, IsTakenIn, KnowsTaken}
use Rattle.media_laws.proofs.Scenes.OfferReplies.{move_answers}
use Rattle.media_laws.proofs.OtherCalls.OffersOpen.{IsNumberedIn, listed_at, reply_numbered}
use Rattle.media_laws.proofs.RisingNumbers.RaisedRows.{after_raised}

-- ---- a tag is of one call, and of one end of it

from_at : (x d : StandingCall) (calls : List StandingCall) (j : ℕ) (tag : List ℕ) → ApartFrom x calls → slice_get calls j ≡ Some d → IsTagOf x tag → IsTagOf d tag → ⊥
from_at x d [] j tag apart there one two = absurd (none-some d there)
from_at x d (y ∷ calls) zero tag apart there one two = apart.0 tag one (subst (λ z. IsTagOf z tag) (sym (same_Some y d there)) two)
from_at x d (y ∷ calls) (suc j) tag apart there one two = from_at x d calls j tag apart.1 there one two

one_call : (calls : List StandingCall) (i j : ℕ) (c d : StandingCall) (tag : List ℕ) → AreApart calls → slice_get calls i ≡ Some c → slice_get calls j ≡ Some d → IsTagOf c tag → IsTagOf d tag → c ≡ d
one_call [] i j c d tag apart at_c at_d one two = absurd (none-some c at_c)
one_call (x ∷ calls) zero zero c d tag apart at_c at_d one two = sym (same_Some x c at_c) ∙ same_Some x d at_d
one_call (x ∷ calls) zero (suc j) c d tag apart at_c at_d one two = absurd (from_at x d calls j tag apart.1 at_d (subst (λ z. IsTagOf z tag) (sym (same_Some x c at_c)) one) two)
one_call (x ∷ calls) (suc i) zero c d tag apart at_c at_d one two = absurd (from_at x c calls i tag apart.1 at_c (subst (λ z. IsTagOf z tag) (sym (same_Some x d at_d)) two) one)
one_call (x ∷ calls) (suc i) (suc j) c d tag apart at_c at_d one two = one_call calls i j c d tag apart.2 at_c at_d one two

one_end : (c : StandingCall) (x y : End) (tag : List ℕ) → c.call.caller.id.ours ≢ c.callee_tag → tag_to x c ≡ tag → tag_to y c ≡ tag → x ≡ y
one_end c Caller Caller tag differ one two = refl
one_end c Caller Callee tag differ one two = absurd (differ (one ∙ sym two))
one_end c Callee Caller tag differ one two = absurd (differ (two ∙ sym one))
one_end c Callee Callee tag differ one two = refl

-- ---- one answer

-- its tag was made, and its number counts wherever a call has that tag
pub record IsCounted (s : Office) (tag : List ℕ) (number : ℕ) : Type 0 where
  pub made : IsMade s.tokens tag
  pub counted : All (HasTakenBy tag number) s.calls.calls

-- the answer to the offer of a current call
counted_in : (s : Office) (m : Message) (place : ℕ) (c : StandingCall) → KnowsCalls s.tokens s.calls.calls → slice_get s.calls.calls place ≡ Some c → IsNumberedIn c m → IsCounted s m.to_tag m.number
counted_in s m place c knows there n =
    let own = tag_of_end n.end c m.to_tag (sym n.tag) in
    record {
      made = made_tag s.tokens c m.to_tag (call_at s.tokens s.calls.calls place c knows there) own;
      counted = λ i x lt end is.
          let d = get_or s.calls.calls i x in
          let at_d = slice_get-get_or s.calls.calls i x lt in
          let same : c ≡ d = one_call s.calls.calls place i c d m.to_tag knows.apart there at_d own (tag_of_end end d m.to_tag (sym is)) in
          let ends : n.end ≡ end = one_end c n.end end m.to_tag (differs_at s.calls.calls place c knows.apart there) n.tag (subst (λ y. tag_to end y ≡ m.to_tag) (sym same) is) in
          subst (λ y. IsTakenIn m.number (dialog_of end y.call)) same (subst (λ y. IsTakenIn m.number (dialog_of y c.call)) ends n.taken);
    }

pub same_counted : (s : Office) (m n : Message) → n ≡ m → IsCounted s n.to_tag n.number → IsCounted s m.to_tag m.number
same_counted s m n same h = subst (λ (x : Message). IsCounted s x.to_tag x.number) same h

-- ---- over an event

goes_on : (made : ℕ) (calls : List StandingCall) (tag : List ℕ) (number : ℕ) (d : StandingCall) → IsMade made tag → All (HasTakenBy tag number) calls → RisesFrom made calls d → HasTakenBy tag number d
goes_on made calls tag number d own all (stood place c there raised) end is = raised.taken end number (all_at (HasTakenBy tag number) calls place c all there end (sym (raised.tags end) ∙ is))
goes_on made calls tag number d own all (began new) end is =
    let next = new end in absurd (old_and_new made next.salt next.count tag own next.later next.few (sym is ∙ next.said))

tokens_grow : (s : Contents) (now : ℕ) (x : Effect) (tag : List ℕ) → IsMade s.tokens tag → IsMade (office (after_event s now x)).tokens tag
unfolding after_event
tokens_grow s now x tag h = made_more s.tokens (s.tokens + x.plan.made) tag (omega arith) h

after_counted : (s : Contents) (e : Event) (tag : List ℕ) (number : ℕ) → KnowsTokens (office s) → KnowsTaken (office s) → IsCounted (office s) tag number → IsCounted (office (after s e)) tag number
after_counted s e tag number tokens taken h = record {
  made = tokens_grow s (moment_after s e) (row s e) tag h.made;
  counted = λ i d lt. goes_on s.tokens s.calls.calls tag number (get_or (office (after s e)).calls.calls i d) h.made h.counted (after_raised s e tokens taken i d lt);
}

-- ---- the trace

at_counted : (s : Office) (t : List Datagram) → KnowsAnswers s t → (i : ℕ) (p : Datagram) → At t i p → IsAnswerSent p → IsCounted s p.message.to_tag p.message.number
at_counted s t k i p there is = record { made = k.tag i p there is; counted = k.counted i p there is }

module _ (s : Contents) (e : Event) (begun : List Transaction) (sent : List Sent) (t : List Datagram) (ds : List Call) (n : ℕ) (taken : Option Message) (ms : List Message) (new : List Call) (ties : AreTied (office s) begun sent t ds)
    (asked : KnowsAsked (office s)) (numbers : KnowsTaken (office s)) (k : KnowsAnswers (office s) t) (move : Move offering t ds taken ms new) where
  answer_counted : (m : Message) → IsTrue (is_answer m) → IsTrue (is_listed offering m.method) → AnswersOffer t ds m → IsCounted (office s) m.to_tag m.number
  answer_counted m is listed (was_sent i q there out same) =
      same_counted (office s) m q.message same
      (at_counted (office s) t k i q there
      (record { sent = out; answer = subst (λ (x : Message). IsTrue (is_answer x)) (sym same) is; method = subst (λ (x : Message). IsTrue (is_listed offering x.method)) (sym same) listed }))
  answer_counted m is listed (answers j d p reply) =
      let shown = listed_at _ s.calls.calls ds ties.listed j d reply.there in
      let calls = ties.tokens.calls in
      counted_in (office s) m shown.0 shown.1 calls shown.2
      (reply_numbered s.table.slots begun t s.tokens ds m j shown.1 d p reply (call_at s.tokens s.calls.calls shown.0 shown.1 calls shown.2) shown.3
      (all_at (HasAskerIf s.table.slots) s.calls.calls shown.0 shown.1 asked shown.2) (all_at HasTakenOffer s.calls.calls shown.0 shown.1 numbers shown.2))

  all_counted : (i : ℕ) (p : Datagram) → At (t ++ passed n taken ms) i p → IsAnswerSent p → IsCounted (office s) p.message.to_tag p.message.number
  all_counted i p there is = elim (at_split t (passed n taken ms) i p there) [
    | inl old ↦ at_counted (office s) t k i p old is
    | inr b ↦ (let went = sent_part n taken ms b.0 p b.2 is.sent in
        let same : p.message ≡ went.1 = ap (λ (v : Datagram). v.message) went.4 in
        let answer : IsTrue (is_answer went.1) = subst (λ (x : Message). IsTrue (is_answer x)) same is.answer in
        let method : IsTrue (is_listed offering went.1.method) = subst (λ (x : Message). IsTrue (is_listed offering x.method)) same is.method in
        same_counted (office s) p.message went.1 (sym same) (answer_counted went.1 answer method (move_answers t ds taken ms new move went.0 went.1 went.2 answer method)))
  ]

  pub answers_after : KnowsAnswers (office (after s e)) (t ++ passed n taken ms)
  answers_after = record {
    tag = λ i p there is. (after_counted s e p.message.to_tag p.message.number ties.tokens numbers (all_counted i p there is)).made;
    counted = λ i p there is. (after_counted s e p.message.to_tag p.message.number ties.tokens numbers (all_counted i p there is)).counted;
  }

pub new_answers : (c : Config) (s : Contents) → IsNew c s → KnowsAnswers (office s) []
unfolding At
new_answers c s new = record { tag = λ i p e is. absurd (cc); counted = λ i p e is. absurd (cc) }

-- ---- in a dialog of a current call

pub dialog_tag : (made : ℕ) (c : StandingCall) (end : End) (d : Dialog) → HasMadeTags made c → dialog_of end c.call ≡ Some d → tag_to end c ≡ d.id.ours
dialog_tag made c Caller d tags at = ap (λ (x : Dialog). x.id.ours) (same_Some c.call.caller d at)
dialog_tag made c Callee d tags at = sym (subst (HasLegTag c.callee_tag) at tags.leg)

pub in_dialog : (s : Office) (t : List Datagram) → KnowsTokens s → KnowsAnswers s t → (i : ℕ) (p : Datagram) → At t i p → IsAnswerSent p → (place : ℕ) (c : StandingCall) → slice_get s.calls.calls place ≡ Some c
    → (end : End) (d : Dialog) → dialog_of end c.call ≡ Some d → d.id.ours ≡ p.message.to_tag → IsOld d.remote_number p.message.number
in_dialog s t tokens k i p there is place c at_c end d at own =
    subst (IsTakenIn p.message.number) at
    (all_at (HasTakenBy p.message.to_tag p.message.number) s.calls.calls place c (k.counted i p there is) at_c end (dialog_tag s.tokens c end d (call_at s.tokens s.calls.calls place c tokens.calls at_c) at ∙ own))
