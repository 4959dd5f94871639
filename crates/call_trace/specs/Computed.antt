-- The definitions as tests, which a plain program computes.
use Rattle.std.specs.Prelude.{ℕ, Bool, true, false, not, ◌&&◌, ◌||◌, ◌==◌, nat_eq, nat_lt, List, [], ◌∷◌, length, take, drop, Option, Some, None, slice_get}
use Rattle.std.specs.List.{list_any, range_with_len}
use Rattle.std.specs.Cmp.Lexicographic.{pointwise}
use Rattle.call_trace.specs.declared.datagram.Direction.{Direction}
use Rattle.call_trace.specs.declared.datagram.Direction.TheVariants.{Taken, Sent}
use Rattle.call_trace.specs.declared.datagram.Message.{Message}
use Rattle.call_trace.specs.declared.datagram.Datagram.{Datagram}
use Rattle.call_trace.specs.declared.datagram.Dialog.{Dialog}
use Rattle.call_trace.specs.declared.exchange.Places.{Places}
use Rattle.call_trace.specs.Messages.{invite, ack, bye, is_request, is_final, is_ok, is_request_of, is_method, is_offer, is_answer, asks, accepts}
use Rattle.call_trace.specs.Dialogs.{is_ours_in_from, our_tag, their_tag}

abbrev pub is_absent : List ℕ → Bool
is_absent [] = true
is_absent (b ∷ bs) = false

abbrev pub is_taken : Direction → Bool
is_taken Taken = true
is_taken Sent = false

unfoldable pub replies : Message → Message → Bool
replies r m =
    not (is_request r.kind) && (is_request m.kind && (pointwise nat_eq r.branch m.branch && (pointwise nat_eq r.call_id m.call_id && (pointwise nat_eq r.from_tag m.from_tag
    && (r.number == m.number && (pointwise nat_eq r.method m.method && (is_absent m.to_tag || pointwise nat_eq r.to_tag m.to_tag)))))))

unfoldable pub names : Datagram → Dialog → Bool
names p d = pointwise nat_eq p.message.call_id d.call_id && (pointwise nat_eq (our_tag p) d.ours && pointwise nat_eq (their_tag p) d.theirs)

-- a request of ours has this branch, or a response that was taken
abbrev pub uses : List ℕ → Datagram → Bool
uses branch p = is_ours_in_from p.direction p.message.kind && pointwise nat_eq p.message.branch branch

-- ---- exchanges

unfoldable pub takes_final : Datagram → Message → Bool
takes_final p m = is_taken p.direction && (is_final p.message.kind && replies p.message m)

unfoldable pub sends_bytes : Datagram → List ℕ → Bool
sends_bytes p bytes = not (is_taken p.direction) && pointwise nat_eq p.message.bytes bytes

-- the bytes were sent before the place
unfoldable pub sent_before : List Datagram → ℕ → List ℕ → Bool
sent_before t j bytes = list_any (λ r. sends_bytes r bytes) (take j t)

-- a final response to the request was taken before the place
unfoldable pub final_before : List Datagram → ℕ → Message → Bool
final_before t j m = list_any (λ r. takes_final r m) (take j t)

unfoldable pub is_served : List Datagram → Datagram → ℕ → Datagram → Bool
is_served t p j q = is_taken p.direction && (not (is_taken q.direction) && not (sent_before t j q.message.bytes))

unfoldable pub is_made : List Datagram → Datagram → ℕ → Datagram → Bool
is_made t p j q = not (is_taken p.direction) && (is_taken q.direction && not (final_before t j p.message))

-- what is at the places is an exchange of the dialog
unfoldable pub is_exchange : List (List ℕ) → List Datagram → Dialog → Places → Datagram → Datagram → Bool
is_exchange methods t d at p q =
    nat_lt at.asked at.answered && (is_offer methods p.message && (is_answer q.message && (replies q.message p.message && ((names p d || names q d)
    && (is_served t p at.answered q || is_made t p at.answered q)))))

-- ---- places

-- the test of what is at a place
abbrev pub on : (Datagram → Bool) → Option Datagram → Bool
on test None = false
on test (Some p) = test p

abbrev pub on_both : (Datagram → Datagram → Bool) → List Datagram → Places → Bool
on_both test t at = on (λ p. on (λ q. test p q) (slice_get t at.answered)) (slice_get t at.asked)

-- a number below passes the test
abbrev pub some_below : (ℕ → Bool) → ℕ → Bool
some_below test n = list_any test (range_with_len 0 n)

abbrev pub places : ℕ → ℕ → Places
places i j = record { asked = i; answered = j }

-- some places of the trace pass the test
abbrev pub some_places : (Places → Bool) → ℕ → Bool
some_places test n = some_below (λ j. some_below (λ i. test (places i j)) j) n

unfoldable pub exchange_at : List (List ℕ) → List Datagram → Dialog → Places → Bool
exchange_at methods t d at = on_both (λ p q. is_exchange methods t d at p q) t at

unfoldable pub answered_at : List (List ℕ) → List Datagram → Dialog → ℕ → Bool
answered_at methods t d j = some_below (λ i. exchange_at methods t d (places i j)) j

-- an exchange was answered at the place, which is after the other
unfoldable pub answered_behind : List (List ℕ) → List Datagram → Dialog → ℕ → ℕ → Bool
answered_behind methods t d j l = nat_lt j l && answered_at methods t d l

unfoldable pub later_exchange : List (List ℕ) → List Datagram → Dialog → ℕ → Bool
later_exchange methods t d j = some_below (λ l. answered_behind methods t d j l) (length t)

unfoldable pub last_at : List (List ℕ) → List Datagram → Dialog → Places → Bool
last_at methods t d at = exchange_at methods t d at && not (later_exchange methods t d at.answered)

-- ---- passing

unfoldable pub is_handed_on : Datagram → Datagram → Bool
is_handed_on p q = is_taken p.direction && (not (is_taken q.direction) && (p.event == q.event && pointwise nat_eq p.message.method q.message.method))

-- the exchange of p and q is passed on as that of r and s
unfoldable pub is_passed_on : Datagram → Datagram → Datagram → Datagram → Bool
is_passed_on p q r s = is_handed_on p r && is_handed_on s q

unfoldable pub passed_on_at : List Datagram → Places → Places → Bool
passed_on_at t x y = on_both (λ p q. on_both (λ r s. is_passed_on p q r s) t y) t x

unfoldable pub together_at : List Datagram → Places → Places → Bool
together_at t x y = passed_on_at t x y || passed_on_at t y x

-- ---- calls

unfoldable pub is_first : List (List ℕ) → List Datagram → Dialog → Places → Datagram → Datagram → Bool
is_first methods t d at p q = is_exchange methods t d at p q && (is_method invite p.message.method && (is_absent p.message.to_tag && names q d))

unfoldable pub first_at : List (List ℕ) → List Datagram → Dialog → Places → Bool
first_at methods t d at = on_both (λ p q. is_first methods t d at p q) t at

unfoldable pub partner_at : List (List ℕ) → List Datagram → Places → Dialog → Places → Bool
partner_at methods t x dy y = first_at methods t dy y && together_at t x y

unfoldable pub has_partner : List (List ℕ) → List Datagram → Places → Dialog → Bool
has_partner methods t x dy = some_places (λ y. partner_at methods t x dy y) (length t)

unfoldable pub begins_call : List (List ℕ) → List Datagram → Dialog → Dialog → Places → Bool
begins_call methods t dx dy x = first_at methods t dx x && has_partner methods t x dy

unfoldable pub call_of : List (List ℕ) → List Datagram → Dialog → Dialog → Bool
call_of methods t dx dy = some_places (λ x. begins_call methods t dx dy x) (length t)

-- ---- live

unfoldable pub is_sent_in : Datagram → Dialog → Bool
is_sent_in p d = not (is_taken p.direction) && names p d

unfoldable pub is_accepted : Datagram → Dialog → Bool
is_accepted p d = is_sent_in p d && accepts p.message

unfoldable pub invites_with : Datagram → List ℕ → Bool
invites_with q branch = not (is_taken q.direction) && (is_request_of invite q.message && pointwise nat_eq q.message.branch branch)

-- an INVITE with the branch was sent
unfoldable pub is_invited_with : List Datagram → List ℕ → Bool
is_invited_with t branch = list_any (λ q. invites_with q branch) t

unfoldable pub is_acknowledged : List Datagram → Datagram → Dialog → Bool
is_acknowledged t p d = is_sent_in p d && (is_request_of ack p.message && not (is_invited_with t p.message.branch))

unfoldable pub some_accepted : List Datagram → Dialog → Bool
some_accepted t d = list_any (λ p. is_accepted p d) t

unfoldable pub some_acknowledged : List Datagram → Dialog → Bool
some_acknowledged t d = list_any (λ p. is_acknowledged t p d) t

unfoldable pub begun : List Datagram → Dialog → Bool
begun t d = some_accepted t d || some_acknowledged t d

unfoldable pub is_bye_sent : Datagram → Dialog → Bool
is_bye_sent p d = is_sent_in p d && is_request_of bye p.message

unfoldable pub is_bye_served : Datagram → Datagram → Dialog → Bool
is_bye_served p r d = is_taken p.direction && (is_request_of bye p.message && (names p d && replies r.message p.message))

-- a BYE of the dialog, to which the response replies, was taken before the place
unfoldable pub bye_before : List Datagram → Dialog → ℕ → Datagram → Bool
bye_before t d j r = list_any (λ p. is_bye_served p r d) (take j t)

unfoldable pub serves_bye : List Datagram → Dialog → ℕ → Datagram → Bool
serves_bye t d j r = not (is_taken r.direction) && (is_ok r.message.kind && bye_before t d j r)

unfoldable pub serves_bye_at : List Datagram → Dialog → ℕ → Bool
serves_bye_at t d j = on (λ r. serves_bye t d j r) (slice_get t j)

unfoldable pub some_bye_sent : List Datagram → Dialog → Bool
some_bye_sent t d = list_any (λ p. is_bye_sent p d) t

unfoldable pub some_bye_served : List Datagram → Dialog → Bool
some_bye_served t d = some_below (λ j. serves_bye_at t d j) (length t)

unfoldable pub ended : List Datagram → Dialog → Bool
ended t d = some_bye_sent t d || some_bye_served t d

unfoldable pub live : List Datagram → Dialog → Bool
live t d = begun t d && not (ended t d)

-- ---- open

-- a final response to the request was taken from the place on
unfoldable pub final_from : List Datagram → ℕ → Message → Bool
final_from t i m = list_any (λ r. takes_final r m) (drop i t)

unfoldable pub is_unanswered : List (List ℕ) → List Datagram → Dialog → ℕ → Datagram → Bool
is_unanswered methods t d i p = is_sent_in p d && (asks methods p.message && not (final_from t i p.message))

unfoldable pub unanswered_at : List (List ℕ) → List Datagram → Dialog → ℕ → Bool
unanswered_at methods t d i = on (λ p. is_unanswered methods t d i p) (slice_get t i)

unfoldable pub open_in : List (List ℕ) → List Datagram → Dialog → Bool
open_in methods t d = some_below (λ i. unanswered_at methods t d i) (length t)

-- ---- the last exchanges of two dialogs

abbrev pub same_places : Places → Places → Bool
same_places x y = x.asked == y.asked && x.answered == y.answered

unfoldable pub rival_at : List (List ℕ) → List Datagram → Places → Places → Places → Dialog → Places → Bool
rival_at methods t x y e dy f = last_at methods t dy f && (together_at t e f && not (same_places e x && same_places f y))

unfoldable pub has_rival_for : List (List ℕ) → List Datagram → Places → Places → Places → Dialog → Bool
has_rival_for methods t x y e dy = some_places (λ f. rival_at methods t x y e dy f) (length t)

unfoldable pub has_rival_at : List (List ℕ) → List Datagram → Dialog → Dialog → Places → Places → Places → Bool
has_rival_at methods t dx dy x y e = last_at methods t dx e && has_rival_for methods t x y e dy

unfoldable pub has_rival : List (List ℕ) → List Datagram → Dialog → Dialog → Places → Places → Bool
has_rival methods t dx dy x y = some_places (λ e. has_rival_at methods t dx dy x y e) (length t)

unfoldable pub last_together : List (List ℕ) → List Datagram → Dialog → Dialog → Places → Places → Bool
last_together methods t dx dy x y =
    last_at methods t dx x && (last_at methods t dy y && (passed_on_at t x y && not (has_rival methods t dx dy x y)))
