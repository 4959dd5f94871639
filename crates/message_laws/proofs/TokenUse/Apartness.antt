-- Two tokens of different counts differ, and no tag is of two calls.
use Rattle.std.proofs.Common.{◌≡◌, ◌≢◌, ◌∙◌, ℕ, ◌<◌, ◌^◌, suc, List, [], ◌∷◌, ◌++◌, drop, Some, ap, sym, subst, inl, inr, arith}
use Rattle.std.specs.Prelude.{slice_get, slice_set}
use Rattle.std.specs.List.{All, remove}
use Rattle.std.proofs.lemmas.Fmt.{decimal_injective}
use Rattle.std.proofs.lemmas.List.Elements.{All-head, All-tail}
use Rattle.std.proofs.Common.{zero}
use Rattle.std.proofs.lemmas.Option.{same_Some}
use Rattle.hex.specs.Hex.{encode_with}
use Rattle.responses.specs.Tokens.{token}
use Rattle.calls.specs.declared.standing_call.StandingCall.{StandingCall}
use Rattle.message_laws.specs.Knowing.{Apart, ApartFrom, AreApart, HasMadeTags, IsTagOf}
use Rattle.message_laws.specs.Tokens.{IsMade}

-- ---- tokens

tail_of : List ℕ → List ℕ
tail_of [] = []
tail_of (x ∷ xs) = xs

-- what comes after this many elements
behind : (n : ℕ) (xs ys : List ℕ) → xs ≡ ys → drop n xs ≡ drop n ys
behind n xs ys e = ap (drop n) e

pub counts_differ : (salt other a b : ℕ) → a < 2 ^ 64 → b < 2 ^ 64 → token salt a ≡ token other b → a ≡ b
unfolding token encode_with
counts_differ salt other a b low high e = decimal_injective a b low high (behind 17 _ _ e)

-- ---- calls

pub record SameTags (c d : StandingCall) : Type 0 where
  pub caller : d.call.caller.id.ours ≡ c.call.caller.id.ours
  pub callee : d.callee_tag ≡ c.callee_tag

tag_back : (c d : StandingCall) (tag : List ℕ) → SameTags c d → IsTagOf d tag → IsTagOf c tag
tag_back c d tag same (inl h) = inl (h ∙ same.caller)
tag_back c d tag same (inr h) = inr (h ∙ same.callee)

apart_left : (c d x : StandingCall) → SameTags c d → Apart c x → Apart d x
apart_left c d x same apart = λ tag one two. apart tag (tag_back c d tag same one) two

apart_right : (c d x : StandingCall) → SameTags c d → Apart x c → Apart x d
apart_right c d x same apart = λ tag one two. apart tag one (tag_back c d tag same two)

from_left : (c d : StandingCall) (calls : List StandingCall) → SameTags c d → ApartFrom c calls → ApartFrom d calls
from_left c d [] same h = tt
from_left c d (x ∷ calls) same h = (apart_left c d x same h.0, from_left c d calls same h.1)

from_set : (x c d : StandingCall) (calls : List StandingCall) (place : ℕ) → slice_get calls place ≡ Some c → SameTags c d → ApartFrom x calls → ApartFrom x (slice_set calls place d)
from_set x c d [] place there same h = tt
from_set x c d (y ∷ calls) zero there same h = (apart_right y d x (subst (λ z. SameTags z d) (sym (same_Some y c there)) same) h.0, h.1)
from_set x c d (y ∷ calls) (suc place) there same h = (h.0, from_set x c d calls place there same h.1)

differ_same : (c d : StandingCall) → SameTags c d → c.call.caller.id.ours ≢ c.callee_tag → d.call.caller.id.ours ≢ d.callee_tag
differ_same c d same differ = λ e. differ (sym same.caller ∙ e ∙ same.callee)

pub apart_set : (c d : StandingCall) (calls : List StandingCall) (place : ℕ) → slice_get calls place ≡ Some c → SameTags c d → AreApart calls → AreApart (slice_set calls place d)
apart_set c d [] place there same h = tt
apart_set c d (y ∷ calls) zero there same h =
    let same_y = subst (λ z. SameTags z d) (sym (same_Some y c there)) same in
    (differ_same y d same_y h.0, from_left y d calls same_y h.1, h.2)
apart_set c d (y ∷ calls) (suc place) there same h = (h.0, from_set y c d calls place there same h.1, apart_set c d calls place there same h.2)

from_removed : (x : StandingCall) (calls : List StandingCall) (place : ℕ) → ApartFrom x calls → ApartFrom x (remove calls place)
from_removed x [] zero h = tt
from_removed x [] (suc place) h = tt
from_removed x (y ∷ calls) zero h = h.1
from_removed x (y ∷ calls) (suc place) h = (h.0, from_removed x calls place h.1)

pub apart_removed : (calls : List StandingCall) (place : ℕ) → AreApart calls → AreApart (remove calls place)
apart_removed [] zero h = tt
apart_removed [] (suc place) h = tt
apart_removed (y ∷ calls) zero h = h.2
apart_removed (y ∷ calls) (suc place) h = (h.0, from_removed y calls place h.1, apart_removed calls place h.2)

-- a call whose tags are made now
pub record HasNewTags (made : ℕ) (c : StandingCall) : Type 0 where
  pub salt : ℕ
  pub first : ℕ
  pub second : ℕ
  pub new_first : made < first
  pub new_second : made < second
  pub in_order : first < second
  pub few : second < 2 ^ 64
  pub caller : c.call.caller.id.ours ≡ token salt first
  pub callee : c.callee_tag ≡ token salt second

new_differ : (made : ℕ) (c : StandingCall) → HasNewTags made c → c.call.caller.id.ours ≢ c.callee_tag
new_differ made c new e = arith-absurd new.first new.second new.in_order (counts_differ new.salt new.salt new.first new.second (omega (arith, new.in_order, new.few)) new.few (sym new.caller ∙ e ∙ new.callee))
  where
    arith-absurd : (a b : ℕ) → a < b → a ≡ b → ⊥
    arith-absurd a b lt is = omega (arith, lt, is)

pub old_and_new : (made salt count : ℕ) (tag : List ℕ) → IsMade made tag → made < count → count < 2 ^ 64 → tag ≡ token salt count → ⊥
old_and_new made salt count tag old new few is =
    let same : old.count ≡ count = counts_differ old.salt salt old.count count (omega (arith, old.early, new, few)) few (sym old.said ∙ is) in
    omega (arith, old.early, new, same)

pub made_tag : (made : ℕ) (c : StandingCall) (tag : List ℕ) → HasMadeTags made c → IsTagOf c tag → IsMade made tag
made_tag made c tag h (inl is) = record { salt = h.caller.salt; count = h.caller.count; early = h.caller.early; said = is ∙ h.caller.said }
made_tag made c tag h (inr is) = record { salt = h.callee.salt; count = h.callee.count; early = h.callee.early; said = is ∙ h.callee.said }

new_apart : (made : ℕ) (c d : StandingCall) → HasMadeTags made c → HasNewTags made d → Apart c d
new_apart made c d old new tag one (inl is) =
    old_and_new made new.salt new.first tag (made_tag made c tag old one) new.new_first (omega (arith, new.in_order, new.few)) (is ∙ new.caller)
new_apart made c d old new tag one (inr is) = old_and_new made new.salt new.second tag (made_tag made c tag old one) new.new_second new.few (is ∙ new.callee)

from_pushed : (x d : StandingCall) (calls : List StandingCall) → Apart x d → ApartFrom x calls → ApartFrom x (calls ++ d ∷ [])
from_pushed x d [] apart h = (apart, tt)
from_pushed x d (y ∷ calls) apart h = (h.0, from_pushed x d calls apart h.1)

pub apart_pushed : (made : ℕ) (d : StandingCall) (calls : List StandingCall) → HasNewTags made d → All (HasMadeTags made) calls → AreApart calls → AreApart (calls ++ d ∷ [])
apart_pushed made d [] new all h = (new_differ made d new, tt, tt)
apart_pushed made d (c ∷ calls) new all h = (
  h.0,
  from_pushed c d calls (new_apart made c d (All-head (HasMadeTags made) c calls all) new) h.1,
  apart_pushed made d calls new (All-tail (HasMadeTags made) c calls all) h.2,
)
