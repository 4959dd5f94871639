-- The call whose caller offers by UPDATE is a list of moves.
use Rattle.std.proofs.Common.{true, List, [], ◌∷◌, ◌++◌, codes, Some, None, inl, inr, refl}
use Rattle.call_trace.specs.declared.datagram.Datagram.{Datagram}
use Rattle.call_trace.specs.declared.call.Session.{Session}
use Rattle.call_trace.specs.declared.call.Settled.{Settled}
use Rattle.call_trace.specs.declared.call.Offer.{Offer}
use Rattle.call_trace.specs.declared.call.Call.{Call}
use Rattle.call_trace.specs.Messages.{offering, Replies}
use Rattle.call_trace.specs.Events.{passed, sent_at, calm, due, plain, again, served, left, unmoved, idle, bye_sent, bye_answered}
use Rattle.call_trace.specs.Moves.{Move, PassesOffer, PassesAnswer, reoffered, settled_later, reoffer, settle_later, release, quiet, go}
use Rattle.call_trace.specs.Runs.{Moves}
use Rattle.call_trace.specs.WorkedUpdates.{updated, updated_on, crossing, crossing_refused, silent, silent_answered, update_refused, update_refused_on, again_updated, again_updated_on, update_answered, update_answered_on, caller_ends, caller_served, callee_told, updates}
use Rattle.call_trace.proofs.AtLaws.{at_place}
use Rattle.call_trace.proofs.Unused.{unused}
use Rattle.call_trace.proofs.WorkedMoves.{new_bytes, begun, answered, asked_for, answered_then, third, acknowledged_then}

module _ (s r : Session) where
  abbrev first_settled : Settled
  first_settled = record { by_caller = true; session = s }

  abbrev resting : Call
  resting = answered s

  -- ---- an offer that is refused

  abbrev offer : Offer
  offer = record { by_caller = true; came = updated r; went = updated_on r }

  abbrev updating : Call
  updating = reoffered resting true (updated r) (updated_on r)

  abbrev after_update : List Datagram
  after_update = third s ++ passed 3 (Some (updated r)) (updated_on r ∷ [])

  asks : PassesOffer offering (third s) resting.caller resting.callee (updated r) [] (updated_on r)
  asks = record {
    plain = tt;
    offer_came = refl;
    offer_went = refl;
    method = refl;
    came_call = refl;
    came_from = refl;
    went_call = refl;
    went_from = refl;
    went_to = refl;
    unused = unused (third s) (codes "6.7") refl;
  }

  updated_then : Move offering (third s) (resting ∷ []) (Some (updated r)) (updated_on r ∷ []) (updating ∷ [])
  updated_then = reoffer 0 resting first_settled true (updated r) [] (updated_on r) refl refl refl asks refl refl refl refl

  abbrev after_crossing : List Datagram
  after_crossing = after_update ++ passed 4 (Some (crossing r)) (crossing_refused ∷ [])

  crossed_then : Move offering after_update (updating ∷ []) (Some (crossing r)) (crossing_refused ∷ []) (updating ∷ [])
  crossed_then = quiet (unmoved (calm (crossing r) refl refl)) (idle (plain refl), tt) refl

  abbrev after_silent : List Datagram
  after_silent = after_crossing ++ passed 5 (Some silent) (silent_answered ∷ [])

  silent_then : Move offering after_crossing (updating ∷ []) (Some silent) (silent_answered ∷ []) (updating ∷ [])
  silent_then = quiet (unmoved (calm silent refl refl)) (idle (plain refl), tt) refl

  abbrev after_refusal : List Datagram
  after_refusal = after_silent ++ passed 6 (Some update_refused) (update_refused_on ∷ [])

  refuses : Replies update_refused (updated_on r)
  refuses = record { response_kind = refl; request_kind = refl; branch = refl; call_id = refl; from_tag = refl; number = refl; method = refl; to_tag = inr refl }

  refused_then : Move offering after_silent (updating ∷ []) (Some update_refused) (update_refused_on ∷ []) (resting ∷ [])
  refused_then = release 0 updating first_settled offer update_refused refl refl refl refl refl refuses refl (plain refl, tt) refl

  -- ---- and one that is answered

  abbrev offer_again : Offer
  offer_again = record { by_caller = true; came = again_updated r; went = again_updated_on r }

  abbrev updating_again : Call
  updating_again = reoffered resting true (again_updated r) (again_updated_on r)

  abbrev after_again : List Datagram
  after_again = after_refusal ++ passed 7 (Some (again_updated r)) (again_updated_on r ∷ [])

  asks_again : PassesOffer offering after_refusal resting.caller resting.callee (again_updated r) [] (again_updated_on r)
  asks_again = record {
    plain = tt;
    offer_came = refl;
    offer_went = refl;
    method = refl;
    came_call = refl;
    came_from = refl;
    went_call = refl;
    went_from = refl;
    went_to = refl;
    unused = unused after_refusal (codes "8.9") refl;
  }

  again_then : Move offering after_refusal (resting ∷ []) (Some (again_updated r)) (again_updated_on r ∷ []) (updating_again ∷ [])
  again_then = reoffer 0 resting first_settled true (again_updated r) [] (again_updated_on r) refl refl refl asks_again refl refl refl refl

  abbrev after_timer : List Datagram
  after_timer = after_again ++ passed 8 None (again_updated_on r ∷ [])

  timer_then : Move offering after_again (updating_again ∷ []) None (again_updated_on r ∷ []) (updating_again ∷ [])
  timer_then = quiet (unmoved (due refl)) (idle (again 16 (sent_at 7 (again_updated_on r)) (at_place after_again 16 (sent_at 7 (again_updated_on r)) refl) refl refl (inr (λ m e. absurd (cc)))), tt) refl

  abbrev settled : Call
  settled = settled_later updating_again true r

  answers : PassesAnswer after_timer resting.caller resting.callee offer_again r (update_answered r) [] (update_answered_on r)
  answers = record {
    answer_came = refl;
    replies_came = record { response_kind = refl; request_kind = refl; branch = refl; call_id = refl; from_tag = refl; number = refl; method = refl; to_tag = inr refl };
    answer_went = refl;
    replies_went = record { response_kind = refl; request_kind = refl; branch = refl; call_id = refl; from_tag = refl; number = refl; method = refl; to_tag = inr refl };
    to_tag = refl;
    new_bytes = new_bytes after_timer (codes "200 to the caller's UPDATE") refl;
    acknowledged = tt;
    offer_taken = refl;
    answer_sent = refl;
    offer_sent = refl;
    answer_taken = refl;
  }

  abbrev after_answer : List Datagram
  after_answer = after_timer ++ passed 9 (Some (update_answered r)) (update_answered_on r ∷ [])

  answered_by_update : Move offering after_timer (updating_again ∷ []) (Some (update_answered r)) (update_answered_on r ∷ []) (settled ∷ [])
  answered_by_update = settle_later 0 updating_again first_settled offer_again r (update_answered r) [] (update_answered_on r) refl refl refl answers (inr (refl, refl)) refl refl refl

  -- ---- and the end

  served_well : Replies caller_served caller_ends
  served_well = record { response_kind = refl; request_kind = refl; branch = refl; call_id = refl; from_tag = refl; number = refl; method = refl; to_tag = inr refl }

  ended_then : Move offering after_answer (settled ∷ []) (Some caller_ends) (caller_served ∷ callee_told ∷ []) []
  ended_then =
      go 0 settled refl (inr (inl (served 0 caller_ends caller_served refl refl refl refl refl served_well), inl (left 1 callee_told refl refl refl)))
      (unmoved (calm caller_ends refl refl)) (bye_answered refl refl tt, (bye_sent refl tt, tt)) refl

  pub updates_are_moves : Moves offering 0 [] [] (updates s r) []
  updates_are_moves = (
    begun s ∷ [],
    asked_for s,
    (
      answered s ∷ [],
      answered_then s,
      (
        resting ∷ [],
        acknowledged_then s,
        (
          updating ∷ [],
          updated_then,
          (
            updating ∷ [],
            crossed_then,
            (
              updating ∷ [],
              silent_then,
              (
                resting ∷ [],
                refused_then,
                (updating_again ∷ [], again_then, (updating_again ∷ [], timer_then, (settled ∷ [], answered_by_update, ([], ended_then, refl)))),
              ),
            ),
          ),
        ),
      ),
    ),
  )
