-- A refusal of the request of an open offer: the offerer gets its number, or the one sent in its place.
use Rattle.std.proofs.Common.{◌≡◌, ◌∙◌, ℕ, ◌==◌, ◌||◌, Bool, true, false, cond, List, [], ◌∷◌, ◌++◌, Option, Some, None, inl, inr, refl, ap, sym, subst}
use Rattle.std.specs.Prelude.{unwrap_or}
use Rattle.std.proofs.lemmas.Bool.{eqb-true, false≢true}
use Rattle.std.proofs.lemmas.List.{append_assoc}
use Rattle.sip_uri.specs.declared.uri.Param.{Param}
use Rattle.sip_message.specs.Words.{tag_text, value_found}
use Rattle.sip_message.specs.declared.message.Parts.{Parts}
use Rattle.sip_writing.specs.Replies.{answered_tag, tag_of}
use Rattle.transactions.specs.declared.transaction.Transaction.{Transaction}
use Rattle.call_media.specs.Ends.{other}
use Rattle.call_media.specs.declared.end.End.{End}
use Rattle.call_core.specs.Asked.{asked_row}
use Rattle.call_core.specs.Calls.{awaits_answer}
use Rattle.call_core.specs.Passing.{status_passed_on}
use Rattle.call_core.specs.Reasked.{has_lost_the_call, reasked_row}
use Rattle.call_core.specs.Rows.{gone, row}
use Rattle.call_core.specs.Table.{row_in}
use Rattle.call_core.specs.Updating.{fails, updating_row}
use Rattle.call_core.specs.declared.action.Action.{Action}
use Rattle.call_core.specs.declared.action.Action.TheVariants.{Bye, Refusal, Release, Stop}
use Rattle.call_core.specs.declared.action.CallTimer.TheVariants as timers
use Rattle.call_core.specs.declared.row.Row.{Row}
use Rattle.call_core.specs.declared.signal.Signal.TheVariants as signals
use Rattle.call_core.specs.declared.stage.Stage.{Stage}
use Rattle.call_core.specs.declared.stage.Stage.TheVariants as stages
use Rattle.call_steps.specs.Scenes.{offerer_tag}
use Rattle.calls.specs.declared.standing_call.StandingCall.{StandingCall}
use Rattle.call_messages.specs.declared.scene.Asker.{Asker}
use Rattle.call_messages.specs.declared.scene.Scene.{Scene}
use Rattle.call_trace.specs.declared.datagram.Kind.TheVariants as kinds
use Rattle.call_trace.specs.declared.datagram.Message.{Message}
use Rattle.message_laws.specs.Saying.{SeesTo}
use Rattle.message_laws.specs.Seeing.{SeesResponse, response_tag}
use Rattle.message_laws.proofs.Messages.RequestViews.{by_if}
use Rattle.media_laws.specs.Heard.{HearsActions}
use Rattle.media_laws.specs.Lines.{actions_in}
use Rattle.media_laws.specs.Said.{IsReplyTag}
use Rattle.media_laws.proofs.OfferPairs.SeenWords.{response_replies}
use Rattle.media_laws.proofs.OfferPairs.Taking.{refusal_one, take_one}
use Rattle.step_laws.specs.Answers.{PassesRefusal}
use Rattle.step_laws.proofs.FitAnswers.{asker_for}

-- ---- the tag of a response, whatever its status (RFC 3261 section 8.2.6.2)

tag_by : (status : ℕ) (own : Option Param) (tag : List ℕ) → IsReplyTag (unwrap_or (value_found own) []) (unwrap_or (value_found (answered_tag status own tag)) [])
tag_by status None tag = inl refl
tag_by status (Some own) tag = inr refl

pub any_reply_tag : (parts : Parts) (status : ℕ) (tag : List ℕ) → IsReplyTag (tag_text parts.to.params) (response_tag status parts tag)
any_reply_tag parts status tag = tag_by status (tag_of parts.to.params) tag

-- ---- its number

one_of : (a b : Bool) → (a || b) ≡ true → (P : Type 0) → (a ≡ true → P) → (b ≡ true → P) → P
one_of true b h P p q = p refl
one_of false b h P p q = q h

-- 408 and 481 are passed on as they are
lost_passed : (status : ℕ) → has_lost_the_call status ≡ true → status ≡ status_passed_on status
lost_passed status lost =
    one_of (status == 408) (status == 481) lost (status ≡ status_passed_on status) (λ a. subst (λ n. n ≡ status_passed_on n) (sym (eqb-true status 408 a)) refl)
    (λ b. subst (λ n. n ≡ status_passed_on n) (sym (eqb-true status 481 b)) refl)

-- ---- what is said

module _ (scene : Scene) (c : StandingCall) (offered : Transaction) (has : scene.offer ≡ Some (asker_for c offered)) (tokens status : ℕ) where
  abbrev Passes : List Message → Type 0
  Passes ms = PassesRefusal status offered ms

  refuses : (number : ℕ) → number ≡ status_passed_on status → (end : End) (later : List Action) (ms : List Message) → HearsActions scene tokens (Refusal end number ∷ later) ms → Passes ms
  refuses number same end later ms h =
      let first = refusal_one scene tokens end number (asker_for c offered) has in
      let went = take_one scene tokens (Refusal end number) later ms first.0 first.1 h in
      let seen : SeesResponse offered.parts number (offerer_tag c.call) None went.message = subst (λ (o : Option Asker). SeesTo o number None went.message) has went.heard in
      record {
        before = [];
        went = went.message;
        behind = went.rest;
        whole = went.whole;
        refuses = seen.kind ∙ ap (λ n. kinds.Response n) same;
        replies = λ came is. response_replies offered.parts number (offerer_tag c.call) None went.message came is seen (any_reply_tag offered.parts number (offerer_tag c.call));
      }

  by_row : (x : End) (line lost : Row) (later after : List Action) → lost.actions ≡ Refusal x status ∷ later → line.actions ≡ Refusal x (status_passed_on status) ∷ after → (ms : List Message)
      → HearsActions scene tokens (cond (has_lost_the_call status) lost line).actions ms → Passes ms
  by_row x line lost later after is_lost is_line ms =
      by_if (λ (l : Row). HearsActions scene tokens l.actions ms → Passes ms) (has_lost_the_call status) lost line
      (λ b h. refuses status (lost_passed status b) x later ms (subst (λ l. HearsActions scene tokens l ms) is_lost h)) (λ b h. refuses (status_passed_on status) refl x after ms (subst (λ l. HearsActions scene tokens l ms) is_line h))

  pub stage_refuses : (stage : Stage) (x : End) → awaits_answer stage ≡ true → (ms : List Message) → HearsActions scene tokens (actions_in (row_in stage x (signals.Refusal status))) ms → Passes ms
  unfolding asked_row reasked_row updating_row
  stage_refuses (stages.Asked rung) x waits ms h = refuses (status_passed_on status) refl x [] ms h
  stage_refuses (stages.Cancelling sent) x waits ms h = absurd (false≢true waits)
  stage_refuses (stages.Answered interval) x waits ms h = absurd (false≢true waits)
  stage_refuses stages.Settled x waits ms h = absurd (false≢true waits)
  stage_refuses (stages.Reasked rung cancelled) x waits ms h =
      by_row x (row (Refusal x (status_passed_on status) ∷ Release ∷ Stop timers.Limit ∷ []) x stages.Settled) (gone (Refusal x status ∷ Bye (other x) ∷ Bye x ∷ [])) _ _ refl refl ms h
  stage_refuses (stages.Reanswered interval) x waits ms h = absurd (false≢true waits)
  stage_refuses stages.Updating x waits ms h = by_row x (row (Refusal x (status_passed_on status) ∷ Release ∷ []) x stages.Settled) (fails x status) _ _ refl refl ms h
  stage_refuses (stages.Ending interval) x waits ms h = absurd (false≢true waits)

-- after what the transactions send
pub refused_behind : (status : ℕ) (offered : Transaction) (first ms : List Message) → PassesRefusal status offered ms → PassesRefusal status offered (first ++ ms)
refused_behind status offered first ms h = record {
  before = first ++ h.before;
  went = h.went;
  behind = h.behind;
  whole = ap (λ l. first ++ l) h.whole ∙ sym (append_assoc first h.before (h.went ∷ h.behind));
  refuses = h.refuses;
  replies = h.replies;
}
