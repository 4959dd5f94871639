-- The offers of calls, as the list of calls changes.
use Rattle.std.proofs.Common.{◌≡◌, ◌∙◌, ℕ, zero, suc, true, List, [], ◌∷◌, ◌++◌, drop, get_or, take, Option, Some, None, refl, ap, sym, subst}
use Rattle.std.specs.Prelude.{slice_get, slice_set}
use Rattle.std.specs.List.{All, remove}
use Rattle.std.proofs.lemmas.List.Elements.{All-append, All-cons, All-drop, All-head, All-nil, All-tail, All-take}
use Rattle.std.proofs.lemmas.Option.{get_or_from_slice_get, none-some, same_Some, slice_get_within}
use Rattle.events.specs.declared.sent.Sent.{Sent}
use Rattle.sip_uri.specs.declared.uri.Uri.{Uri}
use Rattle.call_media.specs.declared.end.End.{End}
use Rattle.call_media.specs.declared.end.End.TheVariants.{Callee, Caller}
use Rattle.call_core.specs.declared.call.Call.{Call}
use Rattle.call_core.specs.Calls.{awaits_answer, holds_in, with_dialog, with_target}
use Rattle.calls.specs.Carrying.{offerer_of, reached_call, with_dialog_at}
use Rattle.calls.specs.Changes.{beside, with_last, with_leg, with_taken_if}
use Rattle.calls.specs.declared.change.Beside.{Beside}
use Rattle.calls.specs.declared.change.LegDialog.{LegDialog}
use Rattle.calls.specs.declared.standing_call.OfferRequest.{OfferRequest}
use Rattle.calls.specs.declared.standing_call.StandingCall.{StandingCall}
use Rattle.message_laws.specs.Askers.{AreAskedApart, AskedApart, AskedApartFrom, waits_for}

-- ---- one call in the place of another that waits for the same, if it waits

pub record GoesOn (c d : StandingCall) : Type 0 where
  pub waits : waits_for d ≡ true → waits_for c ≡ true
  pub id : d.asked.id ≡ c.asked.id

apart_on_left : (c d x : StandingCall) → GoesOn c d → AskedApart c x → AskedApart d x
apart_on_left c d x on h w v = λ e. h (on.waits w) v (sym on.id ∙ e)

apart_on_right : (c d x : StandingCall) → GoesOn c d → AskedApart x c → AskedApart x d
apart_on_right c d x on h w v = λ e. h w (on.waits v) (e ∙ on.id)

-- a call whose offer no other call waits for
abbrev pub ApartFromAll : StandingCall → List StandingCall → Type 0
ApartFromAll d calls = All (AskedApart d) calls

apart_swapped : (c d : StandingCall) → AskedApart c d → AskedApart d c
apart_swapped c d h w v = λ e. h v w (sym e)

from_on : (c d : StandingCall) (calls : List StandingCall) → GoesOn c d → AskedApartFrom c calls → AskedApartFrom d calls
from_on c d [] on h = tt
from_on c d (x ∷ calls) on h = (apart_on_left c d x on h.0, from_on c d calls on h.1)

from_set_on : (x c d : StandingCall) (calls : List StandingCall) (place : ℕ) → slice_get calls place ≡ Some c → GoesOn c d → AskedApartFrom x calls → AskedApartFrom x (slice_set calls place d)
from_set_on x c d [] place there on h = tt
from_set_on x c d (y ∷ calls) zero there on h = (apart_on_right c d x on (subst (AskedApart x) (same_Some y c there) h.0), h.1)
from_set_on x c d (y ∷ calls) (suc place) there on h = (h.0, from_set_on x c d calls place there on h.1)

pub set_on : (c d : StandingCall) (calls : List StandingCall) (place : ℕ) → slice_get calls place ≡ Some c → GoesOn c d → AreAskedApart calls → AreAskedApart (slice_set calls place d)
set_on c d [] place there on h = tt
set_on c d (y ∷ calls) zero there on h = (from_on c d calls on (subst (λ z. AskedApartFrom z calls) (same_Some y c there) h.0), h.1)
set_on c d (y ∷ calls) (suc place) there on h = (from_set_on y c d calls place there on h.0, set_on c d calls place there on h.1)

-- ---- one whose offer no other call waits for

from_new : (d : StandingCall) (calls : List StandingCall) → ApartFromAll d calls → AskedApartFrom d calls
from_new d [] h = tt
from_new d (x ∷ calls) h = (All-head (AskedApart d) x calls h, from_new d calls (All-tail (AskedApart d) x calls h))

from_set_new : (x d : StandingCall) (calls : List StandingCall) (place : ℕ) → AskedApart x d → AskedApartFrom x calls → AskedApartFrom x (slice_set calls place d)
from_set_new x d [] place apart h = tt
from_set_new x d (y ∷ calls) zero apart h = (apart, h.1)
from_set_new x d (y ∷ calls) (suc place) apart h = (h.0, from_set_new x d calls place apart h.1)

pub set_new : (d : StandingCall) (calls : List StandingCall) (place : ℕ) → ApartFromAll d calls → AreAskedApart calls → AreAskedApart (slice_set calls place d)
set_new d [] place new h = tt
set_new d (y ∷ calls) zero new h = (from_new d calls (All-tail (AskedApart d) y calls new), h.1)
set_new d (y ∷ calls) (suc place) new h =
    (from_set_new y d calls place (apart_swapped d y (All-head (AskedApart d) y calls new)) h.0, set_new d calls place (All-tail (AskedApart d) y calls new) h.1)

from_pushed : (x d : StandingCall) (calls : List StandingCall) → AskedApart x d → AskedApartFrom x calls → AskedApartFrom x (calls ++ d ∷ [])
from_pushed x d [] apart h = (apart, tt)
from_pushed x d (y ∷ calls) apart h = (h.0, from_pushed x d calls apart h.1)

pub push_new : (d : StandingCall) (calls : List StandingCall) → ApartFromAll d calls → AreAskedApart calls → AreAskedApart (calls ++ d ∷ [])
push_new d [] new h = (tt, tt)
push_new d (y ∷ calls) new h =
    (from_pushed y d calls (apart_swapped d y (All-head (AskedApart d) y calls new)) h.0, push_new d calls (All-tail (AskedApart d) y calls new) h.1)

-- ---- one that is gone

from_removed : (x : StandingCall) (calls : List StandingCall) (place : ℕ) → AskedApartFrom x calls → AskedApartFrom x (remove calls place)
from_removed x [] zero h = tt
from_removed x [] (suc place) h = tt
from_removed x (y ∷ calls) zero h = h.1
from_removed x (y ∷ calls) (suc place) h = (h.0, from_removed x calls place h.1)

pub apart_removed : (calls : List StandingCall) (place : ℕ) → AreAskedApart calls → AreAskedApart (remove calls place)
apart_removed [] zero h = tt
apart_removed [] (suc place) h = tt
apart_removed (y ∷ calls) zero h = h.1
apart_removed (y ∷ calls) (suc place) h = (from_removed y calls place h.0, apart_removed calls place h.1)

pub all_removed : (P : StandingCall → Type 0) (calls : List StandingCall) (place : ℕ) → All P calls → All P (remove calls place)
all_removed P calls place all = All-append P (take place calls) (drop (suc place) calls) (All-take P place calls all) (All-drop P (suc place) calls all)

-- ---- a call at a place, and those beside it

pub at_place : (P : StandingCall → Type 0) (calls : List StandingCall) (place : ℕ) (c : StandingCall) → All P calls → slice_get calls place ≡ Some c → P c
at_place P calls place c each there = subst P (get_or_from_slice_get calls place c c there) (each place c (slice_get_within calls place c there))

-- those beside the one at this place wait for another offer than that one
abbrev pub Besides : List StandingCall → ℕ → (StandingCall → Type 0) → Type 0
Besides [] place P = Unit {0}
Besides (c ∷ calls) zero P = All P calls
Besides (c ∷ calls) (suc place) P = P c × Besides calls place P

from_all : (P : StandingCall → Type 0) (x : StandingCall) (calls : List StandingCall) → ((y : StandingCall) → AskedApart x y → P y) → AskedApartFrom x calls → All P calls
from_all P x [] h a = All-nil P
from_all P x (y ∷ calls) h a = All-cons P y calls (h y a.0) (from_all P x calls h a.1)

from_at : (x c : StandingCall) (calls : List StandingCall) (place : ℕ) → slice_get calls place ≡ Some c → AskedApartFrom x calls → AskedApart x c
from_at x c [] place there h = absurd (none-some c there)
from_at x c (y ∷ calls) zero there h = subst (AskedApart x) (same_Some y c there) h.0
from_at x c (y ∷ calls) (suc place) there h = from_at x c calls place there h.1

pub besides_apart : (c : StandingCall) (calls : List StandingCall) (place : ℕ) → slice_get calls place ≡ Some c → AreAskedApart calls → Besides calls place (AskedApart c)
besides_apart c [] place there h = tt
besides_apart c (y ∷ calls) zero there h = from_all (AskedApart c) y calls (λ x a. subst (λ z. AskedApart z x) (same_Some y c there) a) h.0
besides_apart c (y ∷ calls) (suc place) there h = (apart_swapped y c (from_at y c calls place there h.0), besides_apart c calls place there h.1)

-- all after a change at that place, where the others have it for not being that one
pub all_set_besides : (P Q R : StandingCall → Type 0) (d : StandingCall) (calls : List StandingCall) (place : ℕ) → ((x : StandingCall) → P x → Q x → R x) → R d → All P calls → Besides calls place Q
    → All R (slice_set calls place d)
all_set_besides P Q R d [] place more new all h = All-nil R
all_set_besides P Q R d (y ∷ calls) zero more new all h = All-cons R d calls new (both calls (All-tail P y calls all) h)
  where
    both : (xs : List StandingCall) → All P xs → All Q xs → All R xs
    both xs p q = λ i e lt. more (get_or xs i e) (p i e lt) (q i e lt)
all_set_besides P Q R d (y ∷ calls) (suc place) more new all h =
    All-cons R y (slice_set calls place d) (more y (All-head P y calls all) h.0) (all_set_besides P Q R d calls place more new (All-tail P y calls all) h.1)

pub all_removed_besides : (P Q R : StandingCall → Type 0) (calls : List StandingCall) (place : ℕ) → ((x : StandingCall) → P x → Q x → R x) → All P calls → Besides calls place Q → All R (remove calls place)
all_removed_besides P Q R [] zero more all h = All-nil R
all_removed_besides P Q R [] (suc place) more all h = All-nil R
all_removed_besides P Q R (y ∷ calls) zero more all h = λ i e lt. more (get_or calls i e) (All-tail P y calls all i e lt) (h i e lt)
all_removed_besides P Q R (y ∷ calls) (suc place) more all h =
    All-cons R y (remove calls place) (more y (All-head P y calls all) h.0) (all_removed_besides P Q R calls place more (All-tail P y calls all) h.1)

-- ---- what is put beside a call

abbrev pub SameOffer : StandingCall → StandingCall → Type 0
SameOffer c d = (d.asked ≡ c.asked) × (d.call.standing ≡ c.call.standing)

dialog_standing : (end : End) (d : _) (call : Call) → (with_dialog end d call).standing ≡ call.standing
dialog_standing Caller d call = refl
dialog_standing Callee d call = refl

target_standing : (end : End) (target : Uri) (call : Call) → (with_target end target call).standing ≡ call.standing
target_standing Caller target call = refl
target_standing Callee target call = refl

pub dialog_same : (leg : LegDialog) (c : StandingCall) → SameOffer c (with_dialog_at leg.end leg.dialog c)
dialog_same leg c = (refl, dialog_standing leg.end leg.dialog c.call)

leg_same : (leg : Option LegDialog) (c : StandingCall) → SameOffer c (with_leg leg c)
leg_same None c = (refl, refl)
leg_same (Some leg) c = dialog_same leg c

reached_standing : (target : Option Uri) (call : Call) → (reached_call target call).standing ≡ call.standing
reached_standing None call = refl
reached_standing (Some target) call = target_standing (offerer_of call.standing) target call

last_same : (answer : Option Sent) (c : StandingCall) → SameOffer c (with_last answer c)
last_same None c = (refl, refl)
last_same (Some answer) c = (refl, reached_standing c.target c.call)

then_same : (c d e : StandingCall) → SameOffer c d → SameOffer d e → SameOffer c e
then_same c d e one two = (two.0 ∙ one.0, two.1 ∙ one.1)

-- where no offer is taken
pub beside_same : (kept : Beside) (c : StandingCall) → kept.taken ≡ None → SameOffer c (beside kept c)
beside_same kept c none =
    then_same c (with_leg kept.leg c) (beside kept c) (leg_same kept.leg c)
    (subst (λ o. SameOffer (with_leg kept.leg c) (with_last kept.answer (with_taken_if o (with_leg kept.leg c)))) (sym none) (last_same kept.answer (with_leg kept.leg c)))

-- where one is
pub beside_taken : (kept : Beside) (o : _) (c : StandingCall) → kept.taken ≡ Some o → ((beside kept c).asked ≡ o.asked) × ((beside kept c).call.standing ≡ c.call.standing)
beside_taken kept o c some =
    subst (λ x. ((with_last kept.answer (with_taken_if x (with_leg kept.leg c))).asked ≡ o.asked) × ((with_last kept.answer (with_taken_if x (with_leg kept.leg c))).call.standing ≡ c.call.standing)) (sym some)
    (let last = last_same kept.answer (with_taken_if (Some o) (with_leg kept.leg c)) in (last.0, last.1 ∙ (leg_same kept.leg c).1))

pub same_on : (c d : StandingCall) → SameOffer c d → GoesOn c d
same_on c d same = record {
  waits = λ w. subst (λ x. holds_in awaits_answer x ≡ true) same.1 w;
  id = ap (λ (x : OfferRequest). x.id) same.0;
}
