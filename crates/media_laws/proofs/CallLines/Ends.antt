-- A call that goes, and one that an end leaves, are moves.
use Rattle.std.proofs.Common.{◌≡◌, ◌≢◌, ◌∙◌, ℕ, Bool, true, false, List, [], ◌∷◌, Option, Some, None, refl, sym, subst, inl, inr}
use Rattle.std.specs.Prelude.{IsTrue, slice_get, slice_set, remove}
use Rattle.sip_message.specs.Words.{tag_text}
use Rattle.call_trace.specs.declared.call.Call.{Call}
use Rattle.call_trace.specs.declared.call.Settled.{Settled}
use Rattle.call_trace.specs.declared.call.Stage.TheVariants.{Answered, Asked}
use Rattle.call_trace.specs.declared.datagram.Datagram.{Datagram}
use Rattle.call_trace.specs.declared.datagram.Dialog.{Dialog}
use Rattle.call_trace.specs.declared.datagram.Message.{Message}
use Rattle.call_trace.specs.Dialogs.{dialog_of}
use Rattle.call_trace.specs.Events as events
use Rattle.call_trace.specs.Events.{EndsNow, IsIdleTaken, IsParting, IsPartingTaken, dialog_sent, taken_at}
use Rattle.call_trace.specs.Listed.{AllOf}
use Rattle.call_trace.specs.Lives.{IsEnding}
use Rattle.call_trace.specs.Messages.{bye, is_request_of, offering, Replies, ack}
use Rattle.call_trace.specs.Moves.{Leaves as LeavesCall, Move, ending, go, part}
use Rattle.call_trace.specs.Stands.{AllApart, HasTags, IsTagOf, leg}
use Rattle.call_trace.proofs.Apart.{others_tagless, set_others}
use Rattle.call_trace.proofs.Sparing.{ok_spares_others, served_method, served_tag, spares_others}
use Rattle.media_laws.specs.Said.{EndSaid, EndTaken, IsLeft, Leaves, acknowledged, answered, leaves, moves_none, unmoved, was_left}
use Rattle.media_laws.proofs.OfferPairs.SeenWords.{ok_of, request_dialog, request_of, response_replies, same_dialog, taken_dialog}

-- ---- a leg that ends

pub leaves_in : (y : Dialog) (m : Message) → Leaves y m → dialog_sent m ≡ y
leaves_in y m h = request_dialog h.leg h.token h.number bye None m h.seen ∙ h.in_leg

pub is_bye : (y : Dialog) (m : Message) → Leaves y m → IsTrue (is_request_of bye m)
is_bye y m h = request_of bye m h.seen.kind h.seen.method refl

pub ends_by_bye : (t : List Datagram) (taken : Option Message) (sent : List Message) (i : ℕ) (y : Dialog) (m : Message) → slice_get sent i ≡ Some m → Leaves y m → EndsNow t taken sent y
ends_by_bye t taken sent i y m there h = events.left i m there (is_bye y m h) (leaves_in y m h)

left_in : (x : Dialog) (came went : Message) → IsLeft x came went → dialog_of (taken_at 0 came) ≡ x
left_in x came went h =
    taken_dialog h.parts came h.request ∙ same_dialog h.parts.call_id (tag_text h.parts.to.params) (tag_text h.parts.from.params) x.call_id x.ours x.theirs h.call_id h.ours h.theirs

came_bye : (x : Dialog) (came went : Message) → IsLeft x came went → IsTrue (is_request_of bye came)
came_bye x came went h = request_of bye came h.request.kind h.method refl

left_replies : (x : Dialog) (came went : Message) → IsLeft x came went → Replies went came
left_replies x came went h = response_replies h.parts 200 h.tag None went came h.request h.seen h.reply_tag

pub ends_by_okay : (t : List Datagram) (sent : List Message) (i : ℕ) (x : Dialog) (came went : Message) → slice_get sent i ≡ Some went → IsLeft x came went → EndsNow t (Some came) sent x
ends_by_okay t sent i x came went there h =
    events.served i came went refl (came_bye x came went h) (left_in x came went h) there (ok_of went h.seen.kind) (left_replies x came went h)

-- ---- what is said where a call goes spares the others

own_tag : (c : Call) (tag : List ℕ) → HasTags c → IsTagOf c tag → tag ≢ []
own_tag c tag has (inl is) = λ none. has.caller (sym is ∙ none)
own_tag c tag has (inr is) = λ none. has.callee (sym is ∙ none)

module _ (t : List Datagram) (taken : Option Message) (sent : List Message) (old : List Call) (k : ℕ) (c : Call) (apart : AllApart old) (there : slice_get old k ≡ Some c) (has : HasTags c) where
  parts_one : (m : Message) → EndSaid t taken sent c m → IsParting offering t taken sent (remove old k) m
  parts_one m (moves_none h) = events.idle h
  parts_one m (leaves y tag h) =
      events.bye_sent (is_bye y m h) (spares_others old k c m apart there (is_bye y m h) (subst (λ (d : Dialog). IsTagOf c d.ours) (sym (leaves_in y m h)) tag))
  parts_one m (was_left x came is tag h) =
      events.bye_answered (ok_of m h.seen.kind) (served_method came m (came_bye x came m h) (left_replies x came m h))
      (ok_spares_others old k c came m x apart there (came_bye x came m h) (left_in x came m h) tag (own_tag c x.ours has tag) (left_replies x came m h))
  parts_one m (acknowledged y h ends) =
      events.acknowledged (request_of ack m h.seen.kind h.seen.method refl) (subst (EndsNow t taken sent) (sym (request_dialog h.leg h.token h.number ack None m h.seen ∙ h.in_leg)) ends)

  parts_all : (ms : List Message) → AllOf (EndSaid t taken sent c) ms → AllOf (IsParting offering t taken sent (remove old k)) ms
  parts_all [] all = tt
  parts_all (m ∷ ms) all = (parts_one m all.0, parts_all ms all.1)

  parts_taken : EndTaken t taken c → IsPartingTaken offering t taken (remove old k)
  parts_taken (unmoved h) = events.unmoved h
  parts_taken (answered m is final tag) = events.answered m is final (others_tagless old k c m.from_tag apart there tag)

  -- a call goes whose first offer has no answer
  pub goes_unanswered : c.stage ≡ Asked → EndTaken t taken c → AllOf (EndSaid t taken sent c) sent → Move offering t old taken sent (remove old k)
  goes_unanswered stage took all = go k c there (inl stage) (parts_taken took) (parts_all sent all) refl

  -- one whose two legs end by this event, or had
  pub goes_over : LeavesCall t taken sent c true → LeavesCall t taken sent c false → EndTaken t taken c → AllOf (EndSaid t taken sent c) sent → Move offering t old taken sent (remove old k)
  goes_over one two took all = go k c there (inr (one, two)) (parts_taken took) (parts_all sent all) refl

-- ---- one end leaves

pub one_leaves : (t : List Datagram) (old : List Call) (k : ℕ) (c : Call) (z : Settled) (b : Bool) (came went : Message) → AllApart old → HasTags c → slice_get old k ≡ Some c → c.stage ≡ Answered z → IsLeft (leg c b) came went
    → IsTagOf c (leg c b).ours → IsIdleTaken offering t (Some came) → Move offering t old (Some came) (went ∷ []) (slice_set old k (ending c b))
one_leaves t old k c z b came went apart has there stage h tag took =
    let reply = left_replies (leg c b) came went h in
    let to_tag : went.to_tag ≡ (leg c b).ours = served_tag came went (leg c b) (came_bye (leg c b) came went h) (left_in (leg c b) came went h) (own_tag c (leg c b).ours has tag) reply in
    let others : AllOf (λ (d : Call). ¬ IsEnding d.stage → ¬ IsTagOf d went.to_tag) (slice_set old k (ending c b)) =
    set_others (λ d. Unit {0}) (λ (d : Call). ¬ IsEnding d.stage → ¬ IsTagOf d went.to_tag) old k c (ending c b) apart there (all_unit old)
    (λ d other u not_ending is. other went.to_tag is (subst (IsTagOf c) (sym to_tag) tag)) (λ not_ending. absurd (not_ending tt)) in
    part k c z b there stage (ends_by_okay t (went ∷ []) 0 (leg c b) came went refl h) took
    (events.bye_answered (ok_of went h.seen.kind) (served_method came went (came_bye (leg c b) came went h) reply) others, tt) refl
  where
    all_unit : (xs : List Call) → AllOf (λ d. Unit {0}) xs
    all_unit [] = tt
    all_unit (x ∷ xs) = (tt, all_unit xs)
