-- The calls that are written out are moves.
use Rattle.std.proofs.Common.{◌≡◌, ℕ, Bool, true, false, not, ◌&&◌, nat_eq, List, [], ◌∷◌, ◌++◌, codes, Some, inl, inr, refl}
use Rattle.std.specs.Prelude.{slice_get, IsTrue}
use Rattle.std.specs.List.{list_any}
use Rattle.std.specs.Cmp.Lexicographic.{pointwise, bytes_decides}
use Rattle.call_trace.specs.declared.datagram.Kind.TheVariants.{Request, Response}
use Rattle.call_trace.specs.declared.datagram.Message.{Message}
use Rattle.call_trace.specs.declared.datagram.Datagram.{Datagram}
use Rattle.call_trace.specs.declared.datagram.Dialog.{Dialog}
use Rattle.call_trace.specs.declared.call.Session.{Session}
use Rattle.call_trace.specs.declared.call.Call.{Call}
use Rattle.call_trace.specs.Messages.{offering, Replies}
use Rattle.call_trace.specs.Computed.{is_taken}
use Rattle.call_trace.specs.Exchanges.{At}
use Rattle.call_trace.specs.Events.{passed, IsUnused, IsNewTag, AreNewBytes, plain, calm, served, left, unmoved, idle, bye_sent, bye_answered}
use Rattle.call_trace.specs.Events as events
use Rattle.call_trace.specs.Moves.{Move, PassesOffer, IsNewCall, PassesAnswer, new_call, settled_first, tagged, ending, ask, settle_first, quiet, part, go}
use Rattle.call_trace.specs.Runs.{Moves}
use Rattle.call_trace.specs.Worked.{asked, trying, asked_on, accepted, acknowledged_on, accepted_on, acknowledged, ended, ended_well, ended_on, leaves, told, plain_call, left_before_ack, cancelled, cancelled_well, terminated, cancelled_on, cancelled_call}
use Rattle.call_trace.proofs.AtLaws.{place_at}
use Rattle.call_trace.proofs.Unused.{some_true, differ, unused}
use Rattle.call_trace.proofs.MessageTests.{decides_sent}
use Rattle.call_trace.proofs.Words.{and_both, not_both}

-- ---- what a look through a trace tells

-- a datagram of ours with these bytes
abbrev has_bytes : List ℕ → Datagram → Bool
has_bytes bytes p = not (is_taken p.direction) && pointwise nat_eq p.message.bytes bytes

pub new_bytes : (t : List Datagram) (bytes : List ℕ) → IsTrue (not (list_any (has_bytes bytes) t)) → AreNewBytes t bytes
new_bytes t bytes h i p at out same =
    not_both (list_any (has_bytes bytes) t) h
    (some_true (has_bytes bytes) t i p (place_at t i p at) (and_both (not (is_taken p.direction)) (pointwise nat_eq p.message.bytes bytes) ((decides_sent p.direction).1 out) ((bytes_decides p.message.bytes bytes).1 same)))

none_at : (i : ℕ) (p : Datagram) → At [] i p → ⊥
none_at i p at = let e : slice_get [] i ≡ Some p = place_at [] i p at in cc

none_ended : (tag : List ℕ) → IsNewTag [] tag
none_ended tag = record { from = λ i p at out b. absurd (none_at i p at); to = λ i p at out k b. absurd (none_at i p at) }

-- ---- the calls

module _ (s : Session) where
  abbrev methods : List (List ℕ)
  methods = offering

  abbrev caller : Dialog
  caller = record { call_id = codes "c1"; ours = codes "2.2"; theirs = codes "fa" }

  abbrev callee : Dialog
  callee = record { call_id = codes "2.3"; ours = codes "2.4"; theirs = [] }

  abbrev pub begun : Call
  begun = new_call caller callee (asked s) (asked_on s)

  abbrev pub answered : Call
  answered = settled_first begun (codes "tb") s

  abbrev pub first : List Datagram
  first = passed 0 (Some (asked s)) (trying ∷ asked_on s ∷ [])

  abbrev pub second : List Datagram
  second = first ++ passed 1 (Some (accepted s)) (acknowledged_on ∷ accepted_on s ∷ [])

  asks : PassesOffer methods [] caller callee (asked s) (trying ∷ []) (asked_on s)
  asks = record {
    plain = (refl, tt);
    offer_came = refl;
    offer_went = refl;
    method = refl;
    came_call = refl;
    came_from = refl;
    went_call = refl;
    went_from = refl;
    went_to = refl;
    unused = λ i p at ours. absurd (none_at i p at);
  }

  is_new : IsNewCall [] [] (asked s) begun
  is_new = record {
    invite = refl;
    no_tag = refl;
    callee = refl;
    tags = record { caller = differ (codes "2.2") [] refl; callee = differ (codes "2.4") [] refl; differ = differ (codes "2.2") (codes "2.4") refl };
    apart = tt;
    caller_new = none_ended (codes "2.2");
    callee_new = none_ended (codes "2.4");
  }

  answers : PassesAnswer first caller (tagged callee (codes "tb")) (record { by_caller = true; came = asked s; went = asked_on s }) s (accepted s) (acknowledged_on ∷ []) (accepted_on s)
  answers = record {
    answer_came = refl;
    replies_came = record { response_kind = refl; request_kind = refl; branch = refl; call_id = refl; from_tag = refl; number = refl; method = refl; to_tag = inl refl };
    answer_went = refl;
    replies_went = record { response_kind = refl; request_kind = refl; branch = refl; call_id = refl; from_tag = refl; number = refl; method = refl; to_tag = inl refl };
    to_tag = refl;
    new_bytes = new_bytes first (codes "200 of ours") refl;
    acknowledged = (record { other_bytes = differ (codes "ACK of ours") (codes "200 of ours") refl; ack = refl; in_dialog = refl; unused = unused first (codes "4.6") refl }, tt);
    offer_taken = refl;
    answer_sent = refl;
    offer_sent = refl;
    answer_taken = refl;
  }

  pub asked_for : Move methods [] [] (Some (asked s)) (trying ∷ asked_on s ∷ []) (begun ∷ [])
  asked_for = ask caller callee (asked s) (trying ∷ []) (asked_on s) asks is_new refl refl refl

  pub answered_then : Move methods first (begun ∷ []) (Some (accepted s)) (acknowledged_on ∷ accepted_on s ∷ []) (answered ∷ [])
  answered_then =
      settle_first 0 begun (record { by_caller = true; came = asked s; went = asked_on s }) s (accepted s) acknowledged_on (accepted_on s) refl refl refl answers refl refl refl

  -- ---- the caller ends it

  abbrev pub third : List Datagram
  third = second ++ passed 2 (Some acknowledged) []

  pub acknowledged_then : Move methods second (answered ∷ []) (Some acknowledged) [] (answered ∷ [])
  acknowledged_then = quiet (unmoved (calm acknowledged refl refl)) tt refl

  served_well : Replies ended_well ended
  served_well = record { response_kind = refl; request_kind = refl; branch = refl; call_id = refl; from_tag = refl; number = refl; method = refl; to_tag = inr refl }

  ended_then : Move methods third (answered ∷ []) (Some ended) (ended_well ∷ ended_on ∷ []) []
  ended_then =
      go 0 answered refl (inr (inl (served 0 ended ended_well refl refl refl refl refl served_well), inl (left 1 ended_on refl refl refl)))
      (unmoved (calm ended refl refl)) (bye_answered refl refl tt, (bye_sent refl tt, tt)) refl

  pub plain_is_moves : Moves methods 0 [] [] (plain_call s) []
  plain_is_moves = (begun ∷ [], asked_for, (answered ∷ [], answered_then, (answered ∷ [], acknowledged_then, ([], ended_then, refl))))

  -- ---- the callee leaves it before the ACK

  abbrev bye_came : Message
  bye_came = leaves Request (codes "BYE of the callee")

  abbrev bye_served : Message
  bye_served = leaves (Response 200) (codes "200 to the callee's BYE")

  left_well : Replies bye_served bye_came
  left_well = record { response_kind = refl; request_kind = refl; branch = refl; call_id = refl; from_tag = refl; number = refl; method = refl; to_tag = inr refl }

  abbrev parted : List Datagram
  parted = second ++ passed 2 (Some bye_came) (bye_served ∷ [])

  left_then : Move methods second (answered ∷ []) (Some bye_came) (bye_served ∷ []) (ending answered false ∷ [])
  left_then =
      part 0 answered (record { by_caller = true; session = s }) false refl refl (served 0 bye_came bye_served refl refl refl refl refl left_well)
      (calm bye_came refl refl) (bye_answered refl refl (λ stays. absurd (stays tt), tt), tt) refl

  told_then : Move methods parted (ending answered false ∷ []) (Some acknowledged) (told ∷ []) []
  told_then =
      go 0 (ending answered false) refl (inr (inl (left 0 told refl refl refl), inr refl))
      (unmoved (calm acknowledged refl refl)) (bye_sent refl tt, tt) refl

  pub left_is_moves : Moves methods 0 [] [] (left_before_ack s) []
  left_is_moves = (begun ∷ [], asked_for, (answered ∷ [], answered_then, (ending answered false ∷ [], left_then, ([], told_then, refl))))

  -- ---- it is cancelled

  abbrev gone : List Datagram
  gone = first ++ passed 1 (Some cancelled) (cancelled_well ∷ terminated ∷ cancelled_on ∷ [])

  cancelled_then : Move methods first (begun ∷ []) (Some cancelled) (cancelled_well ∷ terminated ∷ cancelled_on ∷ []) []
  cancelled_then = go 0 begun refl (inl refl) (unmoved (calm cancelled refl refl)) (idle (plain refl), (idle (plain refl), (idle (plain refl), tt))) refl

  crossed_then : Move methods gone [] (Some (accepted s)) (acknowledged_on ∷ ended_on ∷ []) []
  crossed_then =
      quiet (events.answered (accepted s) refl refl tt) (events.acknowledged refl (left 1 ended_on refl refl refl), (bye_sent refl tt, tt)) refl

  pub cancelled_is_moves : Moves methods 0 [] [] (cancelled_call s) []
  cancelled_is_moves = (begun ∷ [], asked_for, ([], cancelled_then, ([], crossed_then, refl)))
