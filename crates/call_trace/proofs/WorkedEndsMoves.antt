-- The calls whose ends are not plain are lists of moves.
use Rattle.std.proofs.Common.{true, false, List, [], ◌∷◌, ◌++◌, codes, Some, None, inl, inr, refl}
use Rattle.call_trace.specs.declared.datagram.Datagram.{Datagram}
use Rattle.call_trace.specs.declared.call.Session.{Session}
use Rattle.call_trace.specs.declared.call.Settled.{Settled}
use Rattle.call_trace.specs.declared.call.Offer.{Offer}
use Rattle.call_trace.specs.declared.call.Call.{Call}
use Rattle.call_trace.specs.Messages.{offering, Replies}
use Rattle.call_trace.specs.Calls.{Ended}
use Rattle.call_trace.specs.Events.{passed, sent_at, dialog_sent, calm, due, plain, branch_acknowledged, again, served, left, before, unmoved, idle, bye_sent, bye_answered}
use Rattle.call_trace.specs.Events as events
use Rattle.call_trace.specs.Moves.{Move, PassesOffer, PassesAnswer, reoffered, settled_later, ending, quiet, reoffer, settle_later, part, go}
use Rattle.call_trace.specs.Runs.{Moves}
use Rattle.call_trace.specs.Worked.{asked_on, cancelled, cancelled_well, terminated, cancelled_on}
use Rattle.call_trace.specs.WorkedOffers.{again_offered, trying_again, again_on, agreed, agreed_ack, agreed_on}
use Rattle.call_trace.specs.WorkedEnds.{refused_late, refused_late_ack, refused_cancelling, ringing, ringing_on, unanswered, given_up, leaving, leaving_served, left_asking, reasked, retrying, reasked_on, reasked_terminated, leaving_on, late, late_ack, answered_late, agreed_acknowledged, caller_leaves}
use Rattle.call_trace.proofs.AtLaws.{at_place}
use Rattle.call_trace.proofs.Unused.{differ, unused}
use Rattle.call_trace.proofs.WorkedMoves.{new_bytes, begun, answered, first, third, asked_for, answered_then, acknowledged_then}

leaving_replied : Replies leaving_served leaving
leaving_replied = record { response_kind = refl; request_kind = refl; branch = refl; call_id = refl; from_tag = refl; number = refl; method = refl; to_tag = inr refl }

-- ---- no answer

module _ (s : Session) where
  -- cancelled and then refused

  abbrev after_again : List Datagram
  after_again = first s ++ passed 1 None (asked_on s ∷ [])

  again_then : Move offering (first s) (begun s ∷ []) None (asked_on s ∷ []) (begun s ∷ [])
  again_then = quiet (unmoved (due refl)) (idle (again 2 (sent_at 0 (asked_on s)) (at_place (first s) 2 (sent_at 0 (asked_on s)) refl) refl refl (inr (λ m e. absurd (cc)))), tt) refl

  abbrev after_cancel : List Datagram
  after_cancel = after_again ++ passed 2 (Some cancelled) (cancelled_well ∷ terminated ∷ cancelled_on ∷ [])

  cancelled_then : Move offering after_again (begun s ∷ []) (Some cancelled) (cancelled_well ∷ terminated ∷ cancelled_on ∷ []) []
  cancelled_then = go 0 (begun s) refl (inl refl) (unmoved (calm cancelled refl refl)) (idle (plain refl), (idle (plain refl), (idle (plain refl), tt))) refl

  refused_then : Move offering after_cancel [] (Some refused_late) (refused_late_ack ∷ []) []
  refused_then =
      quiet (events.answered refused_late refl refl tt)
      (idle (branch_acknowledged 2 (sent_at 0 (asked_on s)) refl (at_place after_cancel 2 (sent_at 0 (asked_on s)) refl) refl refl refl), tt) refl

  pub refused_is_moves : Moves offering 0 [] [] (refused_cancelling s) []
  refused_is_moves = (begun s ∷ [], asked_for s, (begun s ∷ [], again_then, ([], cancelled_then, ([], refused_then, refl))))

  -- given up

  abbrev after_ringing : List Datagram
  after_ringing = first s ++ passed 1 (Some ringing) (ringing_on ∷ [])

  ringing_then : Move offering (first s) (begun s ∷ []) (Some ringing) (ringing_on ∷ []) (begun s ∷ [])
  ringing_then = quiet (unmoved (calm ringing refl refl)) (idle (plain refl), tt) refl

  limit_then : Move offering after_ringing (begun s ∷ []) None (unanswered ∷ cancelled_on ∷ []) []
  limit_then = go 0 (begun s) refl (inl refl) (unmoved (due refl)) (idle (plain refl), (idle (plain refl), tt)) refl

  pub given_up_is_moves : Moves offering 0 [] [] (given_up s) []
  given_up_is_moves = (begun s ∷ [], asked_for s, (begun s ∷ [], ringing_then, ([], limit_then, refl)))

  -- left

  left_then : Move offering (first s) (begun s ∷ []) (Some leaving) (leaving_served ∷ terminated ∷ cancelled_on ∷ []) []
  left_then = go 0 (begun s) refl (inl refl) (unmoved (calm leaving refl refl)) (bye_answered refl refl tt, (idle (plain refl), (idle (plain refl), tt))) refl

  pub left_asking_is_moves : Moves offering 0 [] [] (left_asking s) []
  left_asking_is_moves = (begun s ∷ [], asked_for s, ([], left_then, refl))

-- ---- a later offer

module _ (s r : Session) where
  abbrev resting : Call
  resting = answered s

  abbrev first_settled : Settled
  first_settled = record { by_caller = true; session = s }

  -- answered too late

  abbrev reasking : Call
  reasking = reoffered resting true (reasked r) (reasked_on r)

  abbrev after_reask : List Datagram
  after_reask = third s ++ passed 3 (Some (reasked r)) (retrying ∷ reasked_on r ∷ [])

  reasks : PassesOffer offering (third s) resting.caller resting.callee (reasked r) (retrying ∷ []) (reasked_on r)
  reasks = record {
    plain = (refl, tt);
    offer_came = refl;
    offer_went = refl;
    method = refl;
    came_call = refl;
    came_from = refl;
    went_call = refl;
    went_from = refl;
    went_to = refl;
    unused = unused (third s) (codes "6.7") refl;
  }

  reasked_then : Move offering (third s) (resting ∷ []) (Some (reasked r)) (retrying ∷ reasked_on r ∷ []) (reasking ∷ [])
  reasked_then = reoffer 0 resting first_settled true (reasked r) (retrying ∷ []) (reasked_on r) refl refl refl reasks refl refl refl refl

  abbrev after_leaving : List Datagram
  after_leaving = after_reask ++ passed 4 (Some leaving) (leaving_served ∷ reasked_terminated ∷ leaving_on ∷ [])

  leaving_then : Move offering after_reask (reasking ∷ []) (Some leaving) (leaving_served ∷ reasked_terminated ∷ leaving_on ∷ []) []
  leaving_then =
      go 0 reasking refl (inr (inl (served 0 leaving leaving_served refl refl refl refl refl leaving_replied), inl (left 2 leaving_on refl refl refl)))
      (unmoved (calm leaving refl refl)) (bye_answered refl refl tt, (idle (plain refl), (bye_sent refl tt, tt))) refl

  over : Ended after_leaving (dialog_sent late_ack)
  over = inl (13, sent_at 4 leaving_on, record { sent = record { at = at_place after_leaving 13 (sent_at 4 leaving_on) refl; sent = refl; named = refl }; ends = refl })

  abbrev after_late : List Datagram
  after_late = after_leaving ++ passed 5 (Some (late r)) (late_ack ∷ [])

  late_then : Move offering after_leaving [] (Some (late r)) (late_ack ∷ []) []
  late_then = quiet (events.answered (late r) refl refl tt) (events.acknowledged refl (before over), tt) refl

  late_again : Move offering after_late [] (Some (late r)) (late_ack ∷ []) []
  late_again = quiet (events.answered (late r) refl refl tt) (idle (again 15 (sent_at 5 late_ack) (at_place after_late 15 (sent_at 5 late_ack) refl) refl refl (inl refl)), tt) refl

  pub late_is_moves : Moves offering 0 [] [] (answered_late s r) []
  late_is_moves = (
    begun s ∷ [],
    asked_for s,
    (answered s ∷ [], answered_then s, (resting ∷ [], acknowledged_then s, (reasking ∷ [], reasked_then, ([], leaving_then, ([], late_then, ([], late_again, refl)))))),
  )

  -- left by the caller before the callee's ACK

  abbrev offer : Offer
  offer = record { by_caller = false; came = again_offered r; went = again_on r }

  abbrev asking_call : Call
  asking_call = reoffered resting false (again_offered r) (again_on r)

  abbrev after_offer : List Datagram
  after_offer = third s ++ passed 3 (Some (again_offered r)) (trying_again ∷ again_on r ∷ [])

  asks : PassesOffer offering (third s) resting.callee resting.caller (again_offered r) (trying_again ∷ []) (again_on r)
  asks = record {
    plain = (refl, tt);
    offer_came = refl;
    offer_went = refl;
    method = refl;
    came_call = refl;
    came_from = refl;
    went_call = refl;
    went_from = refl;
    went_to = refl;
    unused = unused (third s) (codes "8.10") refl;
  }

  offered_then : Move offering (third s) (resting ∷ []) (Some (again_offered r)) (trying_again ∷ again_on r ∷ []) (asking_call ∷ [])
  offered_then = reoffer 0 resting first_settled false (again_offered r) (trying_again ∷ []) (again_on r) refl refl refl asks refl refl refl refl

  abbrev settled : Call
  settled = settled_later asking_call false r

  answers : PassesAnswer after_offer resting.callee resting.caller offer r (agreed r) (agreed_ack ∷ []) (agreed_on r)
  answers = record {
    answer_came = refl;
    replies_came = record { response_kind = refl; request_kind = refl; branch = refl; call_id = refl; from_tag = refl; number = refl; method = refl; to_tag = inr refl };
    answer_went = refl;
    replies_went = record { response_kind = refl; request_kind = refl; branch = refl; call_id = refl; from_tag = refl; number = refl; method = refl; to_tag = inr refl };
    to_tag = refl;
    new_bytes = new_bytes after_offer (codes "200 to the callee") refl;
    acknowledged = (record { other_bytes = differ (codes "ACK to the caller") (codes "200 to the callee") refl; ack = refl; in_dialog = refl; unused = unused after_offer (codes "9.11") refl }, tt);
    offer_taken = refl;
    answer_sent = refl;
    offer_sent = refl;
    answer_taken = refl;
  }

  abbrev after_answer : List Datagram
  after_answer = after_offer ++ passed 4 (Some (agreed r)) (agreed_ack ∷ agreed_on r ∷ [])

  agreed_then : Move offering after_offer (asking_call ∷ []) (Some (agreed r)) (agreed_ack ∷ agreed_on r ∷ []) (settled ∷ [])
  agreed_then = settle_later 0 asking_call first_settled offer r (agreed r) (agreed_ack ∷ []) (agreed_on r) refl refl refl answers (inl (refl, agreed_ack, refl)) refl refl refl

  abbrev after_part : List Datagram
  after_part = after_answer ++ passed 5 (Some leaving) (leaving_served ∷ [])

  parted_then : Move offering after_answer (settled ∷ []) (Some leaving) (leaving_served ∷ []) (ending settled true ∷ [])
  parted_then =
      part 0 settled (record { by_caller = false; session = r }) true refl refl (served 0 leaving leaving_served refl refl refl refl refl leaving_replied)
      (calm leaving refl refl) (bye_answered refl refl (λ stays. absurd (stays tt), tt), tt) refl

  told_then : Move offering after_part (ending settled true ∷ []) (Some agreed_acknowledged) (leaving_on ∷ []) []
  told_then =
      go 0 (ending settled true) refl (inr (inr refl, inl (left 0 leaving_on refl refl refl)))
      (unmoved (calm agreed_acknowledged refl refl)) (bye_sent refl tt, tt) refl

  pub caller_leaves_is_moves : Moves offering 0 [] [] (caller_leaves s r) []
  caller_leaves_is_moves = (
    begun s ∷ [],
    asked_for s,
    (
      answered s ∷ [],
      answered_then s,
      (resting ∷ [], acknowledged_then s, (asking_call ∷ [], offered_then, (settled ∷ [], agreed_then, (ending settled true ∷ [], parted_then, ([], told_then, refl))))),
    ),
  )
