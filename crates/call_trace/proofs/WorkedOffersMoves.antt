-- The call whose callee offers again is a list of moves.
use Rattle.std.proofs.Common.{ℕ, true, false, List, [], ◌∷◌, ◌++◌, codes, Some, None, inl, inr, refl, ap}
use Rattle.call_trace.specs.declared.datagram.Datagram.{Datagram}
use Rattle.call_trace.specs.declared.datagram.Dialog.{Dialog}
use Rattle.call_trace.specs.declared.call.Session.{Session}
use Rattle.call_trace.specs.declared.call.Offer.{Offer}
use Rattle.call_trace.specs.declared.call.Call.{Call}
use Rattle.call_trace.specs.Messages.{offering, Replies}
use Rattle.call_trace.specs.Exchanges.{TakesFinal}
use Rattle.call_trace.specs.Events.{passed, sent_at, taken_at, calm, due, swallowed, plain, branch_acknowledged, again, served, left, unmoved, idle, bye_sent, bye_answered, acknowledged}
use Rattle.call_trace.specs.Lives.{SparesCall}
use Rattle.call_trace.specs.Moves.{Move, PassesOffer, PassesAnswer, reoffered, settled_later, reoffer, settle_later, release, quiet, go}
use Rattle.call_trace.specs.Runs.{Moves}
use Rattle.call_trace.specs.Stands.{AsksAt}
use Rattle.call_trace.specs.Worked.{asked_on, accepted}
use Rattle.call_trace.specs.WorkedOffers.{offered, trying_offer, offered_on, refused, refusal_ack, refused_on, again_offered, trying_again, again_on, agreed, agreed_ack, agreed_on, second_answer, second_ack, second_bye, callee_ends, callee_served, caller_told, offers_again}
use Rattle.call_trace.proofs.AtLaws.{at_place}
use Rattle.call_trace.proofs.Unused.{differ, unused}
use Rattle.call_trace.proofs.WorkedMoves.{new_bytes, begun, answered, second, asked_for, answered_then}

module _ (s r : Session) where
  abbrev methods : List (List ℕ)
  methods = offering

  abbrev before_offer : Call
  before_offer = answered s

  abbrev offer : Offer
  offer = record { by_caller = false; came = offered r; went = offered_on r }

  abbrev asking_call : Call
  asking_call = reoffered before_offer false (offered r) (offered_on r)

  abbrev after_offer : List Datagram
  after_offer = second s ++ passed 2 (Some (offered r)) (trying_offer ∷ offered_on r ∷ [])

  asks : PassesOffer methods (second s) before_offer.callee before_offer.caller (offered r) (trying_offer ∷ []) (offered_on r)
  asks = record {
    plain = (refl, tt);
    offer_came = refl;
    offer_went = refl;
    method = refl;
    came_call = refl;
    came_from = refl;
    went_call = refl;
    went_from = refl;
    went_to = refl;
    unused = unused (second s) (codes "7.9") refl;
  }

  offered_then : Move methods (second s) (before_offer ∷ []) (Some (offered r)) (trying_offer ∷ offered_on r ∷ []) (asking_call ∷ [])
  offered_then = reoffer 0 before_offer (record { by_caller = true; session = s }) false (offered r) (trying_offer ∷ []) (offered_on r) refl refl refl asks refl refl refl refl

  -- ---- refused

  abbrev after_refusal : List Datagram
  after_refusal = after_offer ++ passed 3 (Some refused) (refusal_ack ∷ refused_on ∷ [])

  refuses : Replies refused (offered_on r)
  refuses = record { response_kind = refl; request_kind = refl; branch = refl; call_id = refl; from_tag = refl; number = refl; method = refl; to_tag = inr refl }

  refused_then : Move methods after_offer (asking_call ∷ []) (Some refused) (refusal_ack ∷ refused_on ∷ []) (before_offer ∷ [])
  refused_then =
      release 0 asking_call (record { by_caller = true; session = s }) offer refused refl refl refl refl refl refuses refl
      (branch_acknowledged 8 (sent_at 2 (offered_on r)) refl (at_place after_offer 8 (sent_at 2 (offered_on r)) refl) refl refl refl, (plain refl, tt)) refl

  -- ---- offered again, and answered

  abbrev offer_again : Offer
  offer_again = record { by_caller = false; came = again_offered r; went = again_on r }

  abbrev offering_again : Call
  offering_again = reoffered before_offer false (again_offered r) (again_on r)

  abbrev after_again : List Datagram
  after_again = after_refusal ++ passed 4 (Some (again_offered r)) (trying_again ∷ again_on r ∷ [])

  asks_again : PassesOffer methods after_refusal before_offer.callee before_offer.caller (again_offered r) (trying_again ∷ []) (again_on r)
  asks_again = record {
    plain = (refl, tt);
    offer_came = refl;
    offer_went = refl;
    method = refl;
    came_call = refl;
    came_from = refl;
    went_call = refl;
    went_from = refl;
    went_to = refl;
    unused = unused after_refusal (codes "8.10") refl;
  }

  again_then : Move methods after_refusal (before_offer ∷ []) (Some (again_offered r)) (trying_again ∷ again_on r ∷ []) (offering_again ∷ [])
  again_then = reoffer 0 before_offer (record { by_caller = true; session = s }) false (again_offered r) (trying_again ∷ []) (again_on r) refl refl refl asks_again refl refl refl refl

  abbrev settled : Call
  settled = settled_later offering_again false r

  answers : PassesAnswer after_again before_offer.callee before_offer.caller offer_again r (agreed r) (agreed_ack ∷ []) (agreed_on r)
  answers = record {
    answer_came = refl;
    replies_came = record { response_kind = refl; request_kind = refl; branch = refl; call_id = refl; from_tag = refl; number = refl; method = refl; to_tag = inr refl };
    answer_went = refl;
    replies_went = record { response_kind = refl; request_kind = refl; branch = refl; call_id = refl; from_tag = refl; number = refl; method = refl; to_tag = inr refl };
    to_tag = refl;
    new_bytes = new_bytes after_again (codes "200 to the callee") refl;
    acknowledged = (record { other_bytes = differ (codes "ACK to the caller") (codes "200 to the callee") refl; ack = refl; in_dialog = refl; unused = unused after_again (codes "9.11") refl }, tt);
    offer_taken = refl;
    answer_sent = refl;
    offer_sent = refl;
    answer_taken = refl;
  }

  abbrev after_answer : List Datagram
  after_answer = after_again ++ passed 5 (Some (agreed r)) (agreed_ack ∷ agreed_on r ∷ [])

  agreed_then : Move methods after_again (offering_again ∷ []) (Some (agreed r)) (agreed_ack ∷ agreed_on r ∷ []) (settled ∷ [])
  agreed_then = settle_later 0 offering_again (record { by_caller = true; session = s }) offer_again r (agreed r) (agreed_ack ∷ []) (agreed_on r) refl refl refl answers (inl (refl, agreed_ack, refl)) refl refl refl

  -- ---- a second telephone

  abbrev after_second : List Datagram
  after_second = after_answer ++ passed 6 (Some second_answer) (second_ack ∷ second_bye ∷ [])

  first_answered : TakesFinal (taken_at 1 (accepted s)) (asked_on s)
  first_answered = record {
    taken = refl;
    final = refl;
    replies = record { response_kind = refl; request_kind = refl; branch = refl; call_id = refl; from_tag = refl; number = refl; method = refl; to_tag = inl refl };
  }

  first_asked : AsksAt methods after_answer 2 (sent_at 0 (asked_on s))
  first_asked = record { at = at_place after_answer 2 (sent_at 0 (asked_on s)) refl; sent = refl; asks = refl }

  spares : SparesCall (sent_at 0 second_bye) settled
  spares = record {
    caller = λ goes e. differ (codes "2.3") (codes "c1") refl (ap (λ (d : Dialog). d.call_id) e);
    callee = λ goes e. differ (codes "tc") (codes "tb") refl (ap (λ (d : Dialog). d.theirs) e);
    first = λ e. absurd (cc);
  }

  second_then : Move methods after_answer (settled ∷ []) (Some second_answer) (second_ack ∷ second_bye ∷ []) (settled ∷ [])
  second_then =
      quiet (unmoved (swallowed second_answer 2 3 (sent_at 0 (asked_on s)) (taken_at 1 (accepted s)) refl first_asked refl (at_place after_answer 3 (taken_at 1 (accepted s)) refl) first_answered))
      (acknowledged refl (left 1 second_bye refl refl refl), (bye_sent refl (spares, tt), tt)) refl

  -- ---- the 2xx is sent again, and the callee ends the call

  abbrev after_repeat : List Datagram
  after_repeat = after_second ++ passed 7 None (agreed_on r ∷ [])

  repeat_then : Move methods after_second (settled ∷ []) None (agreed_on r ∷ []) (settled ∷ [])
  repeat_then = quiet (unmoved (due refl)) (idle (again 17 (sent_at 5 (agreed_on r)) (at_place after_second 17 (sent_at 5 (agreed_on r)) refl) refl refl (inl refl)), tt) refl

  served_well : Replies callee_served callee_ends
  served_well = record { response_kind = refl; request_kind = refl; branch = refl; call_id = refl; from_tag = refl; number = refl; method = refl; to_tag = inr refl }

  ended_then : Move methods after_repeat (settled ∷ []) (Some callee_ends) (callee_served ∷ caller_told ∷ []) []
  ended_then =
      go 0 settled refl (inr (inl (left 1 caller_told refl refl refl), inl (served 0 callee_ends callee_served refl refl refl refl refl served_well)))
      (unmoved (calm callee_ends refl refl)) (bye_answered refl refl tt, (bye_sent refl tt, tt)) refl

  pub offers_are_moves : Moves methods 0 [] [] (offers_again s r) []
  offers_are_moves = (
    begun s ∷ [],
    asked_for s,
    (
      answered s ∷ [],
      answered_then s,
      (
        asking_call ∷ [],
        offered_then,
        (
          before_offer ∷ [],
          refused_then,
          (
            offering_again ∷ [],
            again_then,
            (settled ∷ [], agreed_then, (settled ∷ [], second_then, (settled ∷ [], repeat_then, ([], ended_then, refl)))),
          ),
        ),
      ),
    ),
  )
