-- Attributes that name places of their own are neither a direction nor an rtpmap.
use Rattle.std.proofs.Common.{◌≡◌, ◌∙◌, ℕ, Bool, true, false, cond, not, ◌&&◌, eqb, List, [], ◌∷◌, Some, None, codes, refl, sym, ap}
use Rattle.std.specs.Prelude.{nat_eq}
use Rattle.std.specs.Option.{option_or}
use Rattle.std.specs.Cmp.Lexicographic.{pointwise, bytes_decides}
use Rattle.text.specs.Cut.{before}
use Rattle.sdp.specs.declared.line.Line.{Line}
use Rattle.sdp.specs.declared.way.Way.TheVariants.{SendReceive, SendOnly, ReceiveOnly, Inactive}
use Rattle.sdp.specs.WayOf.{way_named, way_on, first_way}
use Rattle.offer_answer.specs.Formats.{rtpmap_in, first_rtpmap}
use Rattle.offer_answer.specs.Alike.{tells_place, is_kept, kept_lines}

-- a line that is left out is an attribute that names a place
pub left_out : (l : Line) → is_kept l ≡ false → (eqb l.letter 97 ≡ true) × (tells_place (before 58 l.value) ≡ true)
left_out l e = step (eqb l.letter 97) (tells_place (before 58 l.value)) e where
  step : (a b : Bool) → not (a && b) ≡ false → (a ≡ true) × (b ≡ true)
  step true true h = (refl, refl)
  step true false h = absurd cc
  step false b h = absurd cc

no_way_named : (text : List ℕ) → tells_place (before 58 text) ≡ true → way_named text ≡ None
no_way_named text e =
    step (pointwise nat_eq text (codes "sendrecv")) (pointwise nat_eq text (codes "sendonly")) (pointwise nat_eq text (codes "recvonly")) (pointwise nat_eq text (codes "inactive")) refl refl refl refl where
      clash : (name : List ℕ) → pointwise nat_eq text name ≡ true → tells_place (before 58 name) ≡ false → true ≡ false
      clash name same tells = sym e ∙ ap (λ t. tells_place (before 58 t)) ((bytes_decides text name).0 same) ∙ tells

      step : (a b c d : Bool) → pointwise nat_eq text (codes "sendrecv") ≡ a → pointwise nat_eq text (codes "sendonly") ≡ b → pointwise nat_eq text (codes "recvonly") ≡ c → pointwise nat_eq text (codes "inactive") ≡ d
          → cond a (Some SendReceive) (cond b (Some SendOnly) (cond c (Some ReceiveOnly) (cond d (Some Inactive) None))) ≡ None
      step true b c d h i j k = let wrong : true ≡ false = clash (codes "sendrecv") h refl in absurd cc
      step false true c d h i j k = let wrong : true ≡ false = clash (codes "sendonly") i refl in absurd cc
      step false false true d h i j k = let wrong : true ≡ false = clash (codes "recvonly") j refl in absurd cc
      step false false false true h i j k = let wrong : true ≡ false = clash (codes "inactive") k refl in absurd cc
      step false false false false h i j k = refl

no_way : (l : Line) → is_kept l ≡ false → way_on l ≡ None
no_way l e = let out = left_out l e in rw (out.0) (no_way_named l.value out.1)

no_rtpmap : (format : List ℕ) (l : Line) → is_kept l ≡ false → rtpmap_in format l ≡ None
no_rtpmap format l e = step (pointwise nat_eq (before 58 l.value) (codes "rtpmap")) refl where
  out : (eqb l.letter 97 ≡ true) × (tells_place (before 58 l.value) ≡ true)
  out = left_out l e

  step : (b : Bool) → pointwise nat_eq (before 58 l.value) (codes "rtpmap") ≡ b → rtpmap_in format l ≡ None
  step true h = let wrong : true ≡ false = sym out.1 ∙ ap tells_place ((bytes_decides (before 58 l.value) (codes "rtpmap")).0 h) in absurd cc
  step false h = rw (out.0, h) refl

-- the first way and the first rtpmap are among the lines that are kept
pub first_way-kept : (ls : List Line) → first_way (kept_lines ls) ≡ first_way ls
first_way-kept [] = refl
first_way-kept (l ∷ ls) = step (is_kept l) refl (first_way-kept ls) where
  step : (b : Bool) → is_kept l ≡ b → first_way (kept_lines ls) ≡ first_way ls → first_way (cond b (l ∷ kept_lines ls) (kept_lines ls)) ≡ option_or (way_on l) (first_way ls)
  step true h rest = ap (λ w. option_or (way_on l) w) rest
  step false h rest = rw (no_way l h) rest

pub first_rtpmap-kept : (format : List ℕ) (ls : List Line) → first_rtpmap format (kept_lines ls) ≡ first_rtpmap format ls
first_rtpmap-kept format [] = refl
first_rtpmap-kept format (l ∷ ls) = step (is_kept l) refl (first_rtpmap-kept format ls) where
  step : (b : Bool) → is_kept l ≡ b → first_rtpmap format (kept_lines ls) ≡ first_rtpmap format ls
      → first_rtpmap format (cond b (l ∷ kept_lines ls) (kept_lines ls)) ≡ option_or (rtpmap_in format l) (first_rtpmap format ls)
  step true h rest = ap (λ w. option_or (rtpmap_in format l) w) rest
  step false h rest = rw (no_rtpmap format l h) rest
