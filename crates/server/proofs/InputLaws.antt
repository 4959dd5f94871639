-- What is kept of an input, piece by piece.
use Rattle.std.proofs.Common.{◌≡◌, ℕ, zero, suc, ◌+◌, ◌-◌, ◌≤◌, List, [], ◌∷◌, ◌++◌, length, take, Option, Some, None, Result, Ok, Err, OnOk, refl, sym, ap, subst, ◌∙◌, append_assoc, arith, length-append}
use Rattle.std.proofs.Math.Seq.{take-append-add}
use Rattle.std.proofs.lemmas.List.{take_all, append-nil}
use Rattle.std.specs.Io.KnownBytes.{Consumes, Appends, IsAtEnd, Keeps}
use Rattle.server.specs.declared.fault.Fault.{Fault}
use Rattle.events.specs.declared.sent.Sent.{Sent}
use Rattle.server.specs.Input.{max_kept, Takes, Reads}
use Rattle.server.specs.Texts.{HasText}
use Rattle.server.specs.Once.{Answers, SendsFor, bytes_of}

-- all of a short list is taken
pub take_fits : (n : ℕ) (xs ys : List ℕ) → length xs + length ys ≤ n → xs ++ ys ≡ take n (xs ++ ys)
take_fits n xs ys le = sym (take_all n (xs ++ ys) (omega (arith, length-append xs ys)))

-- as much of the second list as there is room for
pub take_room : (n : ℕ) (xs ys : List ℕ) → length xs ≤ n → xs ++ take (n - length xs) ys ≡ take n (xs ++ ys)
take_room n xs ys le =
    let room : length xs + (n - length xs) ≡ n = omega arith in
    sym (take-append-add xs ys (n - length xs)) ∙ ap (λ (k : ℕ). take k (xs ++ ys)) room

-- what is kept of a front is kept of the whole
take_kept : (n : ℕ) (xs ys : List ℕ) → take n (take n xs ++ ys) ≡ take n (xs ++ ys)
take_kept zero xs ys = refl
take_kept (suc n) [] ys = refl
take_kept (suc n) (x ∷ xs) ys = ap (λ (t : List ℕ). x ∷ t) (take_kept n xs ys)

pub consumes_more : (a b c : Option (List ℕ)) (xs ys : List ℕ) → Consumes a b xs → Consumes b c ys → Consumes a c (xs ++ ys)
consumes_more None b c xs ys h k = tt
consumes_more (Some as') None c xs ys h k = absurd h
consumes_more (Some as') (Some bs) None xs ys h k = absurd k
consumes_more (Some as') (Some bs) (Some cs) xs ys h k = h ∙ ap (λ (t : List ℕ). xs ++ t) k ∙ sym (append_assoc xs ys cs)

-- nothing more was taken
pub consumes_same : (a b c : Option (List ℕ)) (xs : List ℕ) → Consumes a b xs → Consumes b c [] → Consumes a c xs
consumes_same a b c xs h k = subst (λ (t : List ℕ). Consumes a c t) (append-nil xs) (consumes_more a b c xs [] h k)

abbrev no_bytes : List ℕ
no_bytes = []

pub takes_nothing : (a : Option (List ℕ)) → Takes a a []
takes_nothing a = ([], none a, nil_is) where
  none : (o : Option (List ℕ)) → Consumes o o []
  none None = tt
  none (Some xs) = refl

  nil_is : no_bytes ≡ take max_kept no_bytes
  nil_is = refl

-- more was taken
pub takes_more : (a b c : Option (List ℕ)) (kept bytes kept_after : List ℕ) → Takes a b kept → Consumes b c bytes → kept_after ≡ take max_kept (kept ++ bytes) → Takes a c kept_after
takes_more a b c kept bytes kept_after h k e =
    (h.0 ++ bytes, consumes_more a b c h.0 bytes h.1 k, e ∙ ap (λ (t : List ℕ). take max_kept (t ++ bytes)) h.2 ∙ take_kept max_kept h.0 bytes)

-- nothing more was taken
pub takes_same : (a b c : Option (List ℕ)) (kept : List ℕ) → Takes a b kept → Consumes b c [] → Takes a c kept
takes_same a b c kept h k = (h.0 ++ [], consumes_more a b c h.0 [] h.1 k, h.2 ∙ ap (take max_kept) (sym (append-nil h.0)))

-- what is sent for all that was read was written, where it was written
pub answered_all : (r : Result (Unit {0}) Fault) (left left_after held held_after : Option (List ℕ)) (datagram : List ℕ) (sent : List Sent) (bytes : List ℕ)
    → Reads left left_after datagram → SendsFor datagram sent → bytes ≡ bytes_of sent → OnOk r (Appends held held_after bytes)
    → OnOk r (Answers left left_after held held_after)
answered_all (Ok done) left left_after held held_after datagram sent bytes reads sends is written =
    (datagram, sent, reads, sends, subst (λ (t : List ℕ). Appends held held_after t) is written)
answered_all (Err e) left left_after held held_after datagram sent bytes reads sends is written = tt

-- all that a file has
pub has_text : (a b : Option (List ℕ)) (whole : List ℕ) → Consumes a b whole → IsAtEnd b → HasText a whole
has_text None b whole h k = tt
has_text (Some xs) None whole h k = absurd h
has_text (Some xs) (Some ys) whole h k = h ∙ ap (λ (t : List ℕ). whole ++ t) k ∙ append-nil whole

-- ---- what is written

pub appends_more : (a b c : Option (List ℕ)) (xs ys : List ℕ) → Appends a b xs → Appends b c ys → Appends a c (xs ++ ys)
appends_more None b c xs ys h k = tt
appends_more (Some as') None c xs ys h k = absurd h
appends_more (Some as') (Some bs) None xs ys h k = absurd k
appends_more (Some as') (Some bs) (Some cs) xs ys h k = k ∙ ap (λ (t : List ℕ). t ++ ys) h ∙ append_assoc as' xs ys

pub appends_kept : (a b c : Option (List ℕ)) (xs : List ℕ) → Appends a b xs → Keeps b c → Appends a c xs
appends_kept None b c xs h k = tt
appends_kept (Some as') None c xs h k = absurd h
appends_kept (Some as') (Some bs) None xs h k = absurd k
appends_kept (Some as') (Some bs) (Some cs) xs h k = k ∙ h

pub appends_nothing : (a : Option (List ℕ)) → Appends a a []
appends_nothing None = tt
appends_nothing (Some xs) = sym (append-nil xs)

pub keeps_same : (a : Option (List ℕ)) → Keeps a a
keeps_same None = tt
keeps_same (Some xs) = refl
