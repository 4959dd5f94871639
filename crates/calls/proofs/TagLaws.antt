-- The prints of tags represent the tags: a call that has a tag has its print, so the first with a print is looked up
-- in place of the first with a tag.
use Rattle.std.proofs.Common.{◌≡◌, ◌∙◌, ◌<◌, ◌≤◌, ◌+◌, ℕ, zero, suc, Bool, true, false, not, cond, is_some, List, [], ◌∷◌, length, get_or, map, set, Option, Some, None, refl, sym, ap, subst, ltb, arith}
use Rattle.std.specs.Prelude.{◌||◌, ◌&&◌, nat_eq, option_map, slice_get}
use Rattle.std.specs.List.{position, position_or_len, remove}
use Rattle.std.specs.Cmp.Lexicographic.{bytes_decides}
use Rattle.index.specs.declared.print.PrintKey.{PrintKey}
use Rattle.index.specs.PrintKeys.{print_of}
use Rattle.sip_message.specs.declared.message.Parts.{Parts}
use Rattle.sip_message.specs.Words.{tag_text}
use Rattle.call_media.specs.declared.end.End.{End}
use Rattle.call_media.specs.declared.end.End.TheVariants.{Caller, Callee}
use Rattle.sip_uri.specs.declared.uri.Uri.{Uri}
use Rattle.events.specs.declared.sent.Sent.{Sent}
use Rattle.dialogs.specs.declared.state.Dialog.{Dialog}
use Rattle.call_media.specs.declared.state.CallMedia.{CallMedia}
use Rattle.call_core.specs.declared.plan.Numbers.{Numbers}
use Rattle.call_core.specs.declared.stage.Standing.{Standing}
use Rattle.call_core.specs.Calls.{after, to_target, with_number, with_number_if, with_target}
use Rattle.calls.specs.declared.change.Beside.{Beside}
use Rattle.calls.specs.declared.change.LegDialog.{LegDialog}
use Rattle.calls.specs.declared.standing_call.TakenOffer.{TakenOffer}
use Rattle.calls.specs.declared.standing_call.StandingCall.{StandingCall}
use Rattle.calls.specs.declared.tags.TagPrints.{TagPrints}
use Rattle.calls.specs.Carrying.{offerer_of, reached_call, with_call, without_gone}
use Rattle.calls.specs.Changes.{beside, with_last, with_leg, with_taken_if}
use Rattle.calls.specs.Finding.{has_tag, is_of_dialog, is_of_end, is_text}
use Rattle.calls.specs.Tags.{has_print, has_print_at, prints_of, tag_print}
use Rattle.calls.proofs.KeptLaws.{read_at, same_read, set_read}
use Rattle.std.proofs.lemmas.List.{length-set, map-set}
use Rattle.std.proofs.lemmas.Bool.{eq-eqb, ltb-true, ltb-false}

-- ---- the first that passes, by a test of what represents it

both_first : (b c : Bool) (m n : ℕ) → (b ≡ true → c ≡ true) → m ≤ n → cond (not c) (1 + m) 0 ≤ cond (not b) (1 + n) 0
both_first true true m n passes less = omega arith
both_first true false m n passes less = absurd (let passed = passes refl in cc)
both_first false true m n passes less = omega arith
both_first false false m n passes less = omega (arith, less)

none_there : (m n : ℕ) (b : Bool) → ltb m n ≡ b → cond b (Some m) None ≡ None → n ≤ m
none_there m n true is none = absurd cc
none_there m n false is none = ltb-false m n is

some_there : (m n i : ℕ) (b : Bool) → ltb m n ≡ b → cond b (Some m) None ≡ Some i → (m ≡ i) × (m < n)
some_there m n i true is some = (cc, ltb-true m n is)
some_there m n i false is some = absurd cc

not_there : (m n : ℕ) (b : Bool) → ltb m n ≡ b → n ≤ m → cond b (Some m) None ≡ None
not_there m n true is above = absurd (omega (arith, ltb-true m n is, above))
not_there m n false is above = refl

there : (m n i : ℕ) (b : Bool) → ltb m n ≡ b → m ≡ i → m < n → cond b (Some m) None ≡ Some i
there m n i true is same less = ap Some same
there m n i false is same less = absurd (omega (arith, ltb-false m n is, less))

at_once : (b : Bool) (n k : ℕ) → b ≡ true → cond (not b) (1 + n) 0 ≤ k
at_once true n k is = omega arith
at_once false n k is = absurd cc

one_later : (b : Bool) (n k : ℕ) → n ≤ k → cond (not b) (1 + n) 0 ≤ suc k
one_later true n k less = omega arith
one_later false n k less = omega (arith, less)

same_length : {X Y : Type 0} (f : X → Y) (xs : List X) → length (map f xs) ≡ length xs
same_length f [] = refl
same_length f (x ∷ xs) = ap suc (same_length f xs)

module _ {X Y : Type 0} (f : X → Y) (p : X → Bool) (q : Y → Bool) (passes : (x : X) → p x ≡ true → q (f x) ≡ true) where
  before : (xs : List X) → position_or_len q (map f xs) ≤ position_or_len p xs
  before [] = omega arith
  before (x ∷ xs) = both_first (p x) (q (f x)) (position_or_len q (map f xs)) (position_or_len p xs) (passes x) (before xs)

  at_most : (xs : List X) (i : ℕ) (x : X) → slice_get xs i ≡ Some x → p x ≡ true → position_or_len p xs ≤ i
  at_most [] i x is passed = absurd cc
  at_most (y ∷ ys) zero x is passed = let same : y ≡ x = cc in at_once (p y) (position_or_len p ys) 0 (ap p same ∙ passed)
  at_most (y ∷ ys) (suc k) x is passed = one_later (p y) (position_or_len p ys) k (at_most ys k x is passed)

  pub none_passes : (xs : List X) (ys : List Y) → ys ≡ map f xs → position q ys ≡ None → position p xs ≡ None
  none_passes xs ys is none =
      let m = position_or_len q (map f xs) in
      let n = length (map f xs) in
      let above = none_there m n (ltb m n) refl (ap (position q) (sym is) ∙ none) in
      not_there (position_or_len p xs) (length xs) (ltb (position_or_len p xs) (length xs)) refl (omega (arith, above, before xs, same_length f xs))

  pub first_passes : (xs : List X) (ys : List Y) (i : ℕ) (x : X) → ys ≡ map f xs → position q ys ≡ Some i → slice_get xs i ≡ Some x → p x ≡ true → position p xs ≡ Some i
  first_passes xs ys i x is some read passed =
      let m = position_or_len q (map f xs) in
      let n = length (map f xs) in
      let found = some_there m n i (ltb m n) refl (ap (position q) (sym is) ∙ some) in
      let least = before xs in
      let most = at_most xs i x read passed in
      there (position_or_len p xs) (length xs) i (ltb (position_or_len p xs) (length xs)) refl (omega (arith, found.0, least, most)) (omega (arith, found.0, found.1, most, same_length f xs))

-- ---- who has a tag has its print

same_print : (key : PrintKey) (one tag : List ℕ) → is_text one tag ≡ true → nat_eq (print_of key one) (print_of key tag) ≡ true
same_print key one tag is = eq-eqb (print_of key one) (print_of key tag) (ap (print_of key) ((bytes_decides one tag).0 is))

either : (a b x y : Bool) → (a ≡ true → x ≡ true) → (b ≡ true → y ≡ true) → (a || b) ≡ true → (x || y) ≡ true
either true b x y one other is = let so = one refl in cc
either false b true y one other is = refl
either false b false y one other is = other is

pub tag_passes : (key : PrintKey) (tag : List ℕ) (c : StandingCall) → has_tag tag c ≡ true → has_print (print_of key tag) (prints_of key c) ≡ true
tag_passes key tag c = either (is_text c.callee_tag tag) (is_text c.call.caller.id.ours tag) _ _ (same_print key c.callee_tag tag) (same_print key c.call.caller.id.ours tag)

middle : (a b c : Bool) → (a && b && c) ≡ true → b ≡ true
middle true true c is = refl
middle true false c is = absurd cc
middle false b c is = absurd cc

dialog_passes : (key : PrintKey) (parts : Parts) (d : Option Dialog) → is_of_dialog parts d ≡ true → nat_eq (tag_print key d) (print_of key (tag_text parts.to.params)) ≡ true
dialog_passes key parts None is = absurd cc
dialog_passes key parts (Some d) is = same_print key d.id.ours (tag_text parts.to.params) (middle _ _ _ is)

pub end_passes : (key : PrintKey) (end : End) (parts : Parts) (c : StandingCall) → is_of_end end parts c ≡ true
    → has_print_at end (print_of key (tag_text parts.to.params)) (prints_of key c) ≡ true
end_passes key Caller parts c = dialog_passes key parts (Some c.call.caller)
end_passes key Callee parts c = dialog_passes key parts c.call.callee

-- ---- the prints of calls that change

pub noted : (key : PrintKey) (cs after : List StandingCall) (place : ℕ) (new now : StandingCall) (tags : List TagPrints) → place < length cs → tags ≡ map (prints_of key) cs
    → after ≡ set cs place new → now ≡ get_or after place now → set tags place (prints_of key now) ≡ map (prints_of key) after
noted key cs after place new now tags within stood changed read =
    let there : place < length (set cs place new) = omega (arith, within, length-set cs place new) in
    let is = read_at (set cs place new) place now there (subst (λ (all : List StandingCall). now ≡ get_or all place now) changed read) in
    let same : now ≡ new = same_read now new (slice_get (set cs place new) place) is (set_read cs place new within) in
    ap (λ (ts : List TagPrints). set ts place (prints_of key now)) stood ∙ ap (λ c. set (map (prints_of key) cs) place (prints_of key c)) same
    ∙ sym (map-set (prints_of key) cs place new) ∙ ap (map (prints_of key)) (sym changed)

-- ---- the prints of a call that changes without a dialog that is put

abbrev with_callee : TagPrints → ℕ → TagPrints
with_callee tags callee = record { leg = tags.leg; caller = tags.caller; callee = callee }

counted_tag : (key : PrintKey) (number : Option ℕ) (d : Dialog) → print_of key (with_number number d).id.ours ≡ print_of key d.id.ours
counted_tag key None d = refl
counted_tag key (Some number) d = refl

counted_tag_if : (key : PrintKey) (number : Option ℕ) (d : Option Dialog) → tag_print key (with_number_if number d) ≡ tag_print key d
counted_tag_if key None d = refl
counted_tag_if key (Some number) None = refl
counted_tag_if key (Some number) (Some d) = refl

-- a step counts numbers
step_tags : (key : PrintKey) (c : StandingCall) (numbers : Numbers) (next : Option Standing) (media : CallMedia)
    → prints_of key (with_call (after c.call numbers next media) c) ≡ prints_of key c
step_tags key c numbers next media =
    ap (λ n. record { leg = print_of key c.callee_tag; caller = n; callee = tag_print key (with_number_if numbers.to_callee c.call.callee) }) (counted_tag key numbers.to_caller c.call.caller)
    ∙ ap (with_callee (prints_of key c)) (counted_tag_if key numbers.to_callee c.call.callee)

target_tag : (key : PrintKey) (target : Uri) (d : Option Dialog) → tag_print key (option_map (to_target target) d) ≡ tag_print key d
target_tag key target None = refl
target_tag key target (Some d) = refl

reached_tags : (key : PrintKey) (target : Uri) (end : End) (c : StandingCall) → prints_of key (with_call (with_target end target c.call) c) ≡ prints_of key c
reached_tags key target Caller c = refl
reached_tags key target Callee c = ap (with_callee (prints_of key c)) (target_tag key target c.call.callee)

answered_tags : (key : PrintKey) (target : Option Uri) (c : StandingCall) → prints_of key (with_call (reached_call target c.call) c) ≡ prints_of key c
answered_tags key None c = refl
answered_tags key (Some target) c = reached_tags key target (offerer_of c.call.standing) c

last_tags : (key : PrintKey) (answer : Option Sent) (c : StandingCall) → prints_of key (with_last answer c) ≡ prints_of key c
last_tags key None c = refl
last_tags key (Some answer) c = answered_tags key c.target c

taken_tags : (key : PrintKey) (taken : Option TakenOffer) (c : StandingCall) → prints_of key (with_taken_if taken c) ≡ prints_of key c
taken_tags key None c = refl
taken_tags key (Some offer) c = refl

leg_tags : (key : PrintKey) (leg : Option LegDialog) (c : StandingCall) → is_some leg ≡ false → prints_of key (with_leg leg c) ≡ prints_of key c
leg_tags key None c none = refl
leg_tags key (Some leg) c none = absurd cc

-- all that is put beside a call except a dialog
tags_beside : (key : PrintKey) (kept : Beside) (c : StandingCall) → is_some kept.leg ≡ false → prints_of key (beside kept c) ≡ prints_of key c
tags_beside key kept c none = last_tags key kept.answer (with_taken_if kept.taken (with_leg kept.leg c)) ∙ taken_tags key kept.taken (with_leg kept.leg c) ∙ leg_tags key kept.leg c none

prints_as_before : (key : PrintKey) (cs : List StandingCall) (place : ℕ) (c new : StandingCall) → slice_get cs place ≡ Some c → prints_of key new ≡ prints_of key c
    → map (prints_of key) (set cs place new) ≡ map (prints_of key) cs
prints_as_before key [] place c new is same = absurd cc
prints_as_before key (x ∷ xs) zero c new is same = let here : x ≡ c = cc in ap (λ p. p ∷ map (prints_of key) xs) (same ∙ ap (prints_of key) (sym here))
prints_as_before key (x ∷ xs) (suc k) c new is same = ap (λ ps. prints_of key x ∷ ps) (prints_as_before key xs k c new is same)

-- the tags are noted anew where a dialog is put, and are as they were where none is
pub noted_if : (key : PrintKey) (cs there : List StandingCall) (place : ℕ) (kept : Beside) (c : StandingCall) (numbers : Numbers) (next : Option Standing) (media : CallMedia)
    (tags now : List TagPrints) (puts : Bool) → place < length cs → slice_get cs place ≡ Some c → tags ≡ map (prints_of key) cs → puts ≡ is_some kept.leg
    → there ≡ set cs place (beside kept (with_call (after c.call numbers next media) c))
    → (puts ≡ true → (d : StandingCall) → slice_get there place ≡ Some d → now ≡ set tags place (prints_of key d)) → (puts ≡ false → now ≡ tags)
    → now ≡ map (prints_of key) there
noted_if key cs there place kept c numbers next media tags now true within is stood puts changed anew left =
    let new = beside kept (with_call (after c.call numbers next media) c) in
    let read = ap (λ xs. slice_get xs place) changed ∙ set_read cs place new within in
    anew refl new read ∙ ap (λ (ts : List TagPrints). set ts place (prints_of key new)) stood ∙ sym (map-set (prints_of key) cs place new) ∙ ap (map (prints_of key)) (sym changed)
noted_if key cs there place kept c numbers next media tags now false within is stood puts changed anew left =
    let step = with_call (after c.call numbers next media) c in
    let same = tags_beside key kept step (sym puts) ∙ step_tags key c numbers next media in
    left refl ∙ stood ∙ sym (prints_as_before key cs place c (beside kept step) is same) ∙ ap (map (prints_of key)) (sym changed)

pub map_removed : (key : PrintKey) (cs : List StandingCall) (place : ℕ) → map (prints_of key) (remove cs place) ≡ remove (map (prints_of key) cs) place
map_removed key [] zero = refl
map_removed key [] (suc k) = refl
map_removed key (c ∷ cs) zero = refl
map_removed key (c ∷ cs) (suc k) = ap (λ ts. prints_of key c ∷ ts) (map_removed key cs k)

kept_if : (stands : Bool) (cs gone : List StandingCall) → stands ≡ true → cond stands cs gone ≡ cs
kept_if true cs gone is = refl
kept_if false cs gone is = absurd cc

pub stays : (cs : List StandingCall) (place : ℕ) (c : StandingCall) → is_some c.call.standing ≡ true → without_gone cs place (Some c) ≡ cs
stays cs place c is = kept_if (is_some c.call.standing) cs (remove cs place) is
