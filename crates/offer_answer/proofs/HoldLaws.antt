-- A medium at 0.0.0.0 is not refused on account of its place.
use Rattle.std.proofs.Common.{◌≡◌, ◌≢◌, ℕ, Bool, true, false, cond, eqb, Some, None, refl}
use Rattle.std.proofs.lemmas.Bool.{eqb-true}
use Rattle.sdp.specs.declared.address.Address.TheVariants.{Ip4}
use Rattle.sdp.specs.declared.description.Media.{Media}
use Rattle.sdp.specs.declared.description.Description.{Description}
use Rattle.sdp.specs.PlaceOf.{address_of_medium}
use Rattle.offer_answer.specs.declared.range.OwnRange.{OwnRange}
use Rattle.offer_answer.specs.Checks.{is_carried, is_same_media, used_fault, medium_fault, accepted_fault, answered_fault}
use Rattle.offer_answer.specs.Direct.{hold_address}

pub hold_offered : (range : OwnRange) (d : Description) (m : Media) → address_of_medium d m ≡ Some (Ip4 hold_address) → is_carried m.proto ≡ true → m.count ≡ None
    → medium_fault range d m ≡ None
unfolding used_fault
hold_offered range d m at carried single = step (eqb m.port 0) where
  step : (b : Bool) → cond b None (used_fault range d m) ≡ None
  step true = refl
  step false = rw (carried, single, at) refl

not_zero : (n : ℕ) → n ≢ 0 → eqb n 0 ≡ false
not_zero n other = step (eqb n 0) refl where
  step : (b : Bool) → eqb n 0 ≡ b → b ≡ false
  step true e = absurd (other (eqb-true n 0 e))
  step false e = refl

pub hold_answered : (range : OwnRange) (o : Media) (d : Description) (m : Media) → address_of_medium d m ≡ Some (Ip4 hold_address) → is_same_media o m ≡ true → m.count ≡ None → o.port ≢ 0
    → answered_fault range o d m ≡ None
unfolding accepted_fault
hold_answered range o d m at same single used = step (eqb m.port 0) where
  step : (b : Bool) → cond b None (accepted_fault range o d m) ≡ None
  step true = refl
  step false = rw (same, not_zero o.port used, single, at) refl
