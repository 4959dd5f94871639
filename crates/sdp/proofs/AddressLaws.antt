-- The address of a c= line: found if it is written, and read if it is found.
use Rattle.std.proofs.Common.{◌≡◌, ℕ, zero, suc, ◌^◌, ◌≤◌, ◌<◌, Bool, true, false, not, ◌&&◌, ◌||◌, cond, eqb, leb, List, [], ◌∷◌, ◌++◌, length, take, drop, get_or, Option, Some, None, refl, sym, ap, subst, ◌∙◌, arith, codes}
use Rattle.std.specs.Prelude.{decimal, nat_eq}
use Rattle.std.specs.List.{list_all}
use Rattle.std.specs.Char.{is_ascii_digit}
use Rattle.std.specs.Cmp.Lexicographic.{pointwise, same_text}
use Rattle.std.proofs.lemmas.Bool.{and_parts, and_from, true≢false, ne_eqb}
use Rattle.std.proofs.lemmas.List.{take-append-drop}
use Rattle.std.proofs.lemmas.List.Folds.{list_all-append}
use Rattle.std.proofs.lemmas.Fmt.{first_decimal, decimal_digit}
use Rattle.text.specs.Class.{is_run_of}
use Rattle.text.specs.Cut.{before, after, led_by}
use Rattle.text.specs.Number.{number_upto}
use Rattle.text.proofs.CutLaws.{joined, Lacks, Lacks-from_class, before_at, after_at, after_none}
use Rattle.text.proofs.Numbers.{number_is, number_again, decimal_digits, decimal_run}
use Rattle.text.proofs.Lists.{some_then}
use Rattle.sdp.specs.declared.address.Address.{Address}
use Rattle.sdp.specs.declared.address.Address.TheVariants.{Ip4, Multicast, Ip6, Name}
use Rattle.sdp.specs.Classes.{begins, is_word}
use Rattle.sdp.specs.Addresses.{octet_of, ip4_of, is_unicast, is_group_address, is_multicast, is_name_byte, is_dotted_byte, is_name, IsAddress, unicast_of, inet_of, behind, address_from, address_of}
use Rattle.sdp.specs.Writing.{ip4_text}

-- ---- octets

abbrev no_zero : List ℕ → Bool
no_zero text = eqb (length text) 1 || not (begins (codes "0") text)

octet_parts : (t : List ℕ) (n : ℕ) → octet_of t ≡ Some n → (is_run_of is_ascii_digit t ≡ true) × (n ≤ 255)
unfolding octet_of
octet_parts t n h = step (is_run_of is_ascii_digit t) (no_zero t) refl h where
  step : (a b : Bool) → is_run_of is_ascii_digit t ≡ a → cond (a && b) (number_upto 255 t) None ≡ Some n → (is_run_of is_ascii_digit t ≡ true) × (n ≤ 255)
  step true true run e = (run, number_is 255 n t e)
  step true false run e = absurd cc
  step false b run e = absurd cc

-- a number is written without a leading zero
first_other : (ds : List ℕ) → 48 < get_or ds 0 0 → begins (codes "0") ds ≡ false
first_other [] h = refl
first_other (d ∷ ds) h = rw (ne_eqb 48 d (λ e. omega arith)) refl

pub decimal_begins : (n : ℕ) → 0 < n → n < 2 ^ 64 → begins (codes "0") (decimal n) ≡ false
decimal_begins n some small = first_other (decimal n) (first_decimal n some small)

no_zero_written : (n : ℕ) → n ≤ 255 → no_zero (decimal n) ≡ true
no_zero_written zero le = rw (decimal_digit 0 (omega arith)) refl
no_zero_written (suc n) le = rw (decimal_begins (suc n) (omega arith) (omega arith)) (or_true (eqb (length (decimal (suc n))) 1)) where
  or_true : (b : Bool) → (b || true) ≡ true
  or_true true = refl
  or_true false = refl

octet_again : (n : ℕ) → n ≤ 255 → octet_of (decimal n) ≡ Some n
unfolding octet_of
octet_again n le = rw (decimal_run n (omega arith), no_zero_written n le, number_again 255 n le (omega arith)) refl

-- ---- four octets

abbrev some : List ℕ → Option (List ℕ)
some x = Some x

pub record AreOctets (t os : List ℕ) : Type 0 where
  pub a : ℕ
  pub b : ℕ
  pub c : ℕ
  pub d : ℕ
  pub are : os ≡ a ∷ b ∷ c ∷ d ∷ []
  pub a_small : a ≤ 255
  pub b_small : b ≤ 255
  pub c_small : c ≤ 255
  pub d_small : d ≤ 255
  pub dotted : list_all is_dotted_byte t ≡ true

digits_dotted : (t : List ℕ) → list_all is_ascii_digit t ≡ true → list_all is_dotted_byte t ≡ true
digits_dotted [] h = refl
digits_dotted (b ∷ bs) h =
    let parts = and_parts (is_ascii_digit b) (list_all is_ascii_digit bs) h in
    rw parts.0 (digits_dotted bs parts.1)

run_dotted : (t : List ℕ) (n : ℕ) → octet_of t ≡ Some n → list_all is_dotted_byte t ≡ true
run_dotted t n h = digits_dotted t (and_parts (not (eqb (length t) 0)) (list_all is_ascii_digit t) (octet_parts t n h).0).1

cut_dotted : (t rest : List ℕ) → list_all is_dotted_byte (before 46 t) ≡ true → after 46 t ≡ Some rest → list_all is_dotted_byte rest ≡ true → list_all is_dotted_byte t ≡ true
cut_dotted t rest front e back =
    let whole : before 46 t ++ 46 ∷ rest ≡ t = sym (ap (λ (o : Option (List ℕ)). before 46 t ++ led_by 46 o) e) ∙ joined 46 t in
    sym (ap (list_all is_dotted_byte) whole) ∙ list_all-append is_dotted_byte (before 46 t) (46 ∷ rest) ∙ and_from _ _ front back

pub octets_are : (t os : List ℕ) → ip4_of t ≡ Some os → AreOctets t os
unfolding ip4_of
octets_are t os h =
    let p1 = some_then (after 46 t) _ os h in
    let p2 = some_then (after 46 p1.0) _ os p1.2 in
    let p3 = some_then (after 46 p2.0) _ os p2.2 in
    let q0 = some_then (octet_of (before 46 t)) _ os p3.2 in
    let q1 = some_then (octet_of (before 46 p1.0)) _ os q0.2 in
    let q2 = some_then (octet_of (before 46 p2.0)) _ os q1.2 in
    let q3 = some_then (octet_of p3.0) (λ x3. Some (q0.0 ∷ q1.0 ∷ q2.0 ∷ x3 ∷ [])) os q2.2 in
    let d3 = cut_dotted p2.0 p3.0 (run_dotted (before 46 p2.0) q2.0 q2.1) p3.1 (run_dotted p3.0 q3.0 q3.1) in
    let d2 = cut_dotted p1.0 p2.0 (run_dotted (before 46 p1.0) q1.0 q1.1) p2.1 d3 in
    record {
      a = q0.0;
      b = q1.0;
      c = q2.0;
      d = q3.0;
      are = value_is (q0.0 ∷ q1.0 ∷ q2.0 ∷ q3.0 ∷ []) os q3.2;
      a_small = (octet_parts _ _ q0.1).1;
      b_small = (octet_parts _ _ q1.1).1;
      c_small = (octet_parts _ _ q2.1).1;
      d_small = (octet_parts _ _ q3.1).1;
      dotted = cut_dotted t p1.0 (run_dotted (before 46 t) q0.0 q0.1) p1.1 d2;
    } where
      value_is : (x y : List ℕ) → some x ≡ some y → y ≡ x
      value_is x y e = cc

decimal_lacks : (n : ℕ) → n ≤ 255 → Lacks 46 (decimal n)
decimal_lacks n le = Lacks-from_class is_ascii_digit 46 refl (decimal n) (decimal_digits n (omega arith))

pub ip4_again : (a b c d : ℕ) → a ≤ 255 → b ≤ 255 → c ≤ 255 → d ≤ 255 → ip4_of (ip4_text (a ∷ b ∷ c ∷ d ∷ [])) ≡ Some (a ∷ b ∷ c ∷ d ∷ [])
unfolding ip4_of
ip4_again a b c d la lb lc ld =
    let z : Option (List ℕ) = Some (decimal d) in
    let y : Option (List ℕ) = Some (decimal c ++ led_by 46 z) in
    let x : Option (List ℕ) = Some (decimal b ++ led_by 46 y) in
    let regrouped : ip4_text (a ∷ b ∷ c ∷ d ∷ []) ≡ decimal a ++ led_by 46 x = refl in
    let la' = decimal_lacks a la in
    let lb' = decimal_lacks b lb in
    let lc' = decimal_lacks c lc in
    rw (
      regrouped,
      before_at 46 (decimal a) x la',
      after_at 46 (decimal a) x la',
      before_at 46 (decimal b) y lb',
      after_at 46 (decimal b) y lb',
      before_at 46 (decimal c) z lc',
      after_at 46 (decimal c) z lc',
      octet_again a la,
      octet_again b lb,
      octet_again c lc,
      octet_again d ld,
    ) refl

-- what is written for four octets is read again
pub octets_again : (t os : List ℕ) → ip4_of t ≡ Some os → ip4_of (ip4_text os) ≡ Some os
octets_again t os h =
    let is = octets_are t os h in
    subst (λ (x : List ℕ). ip4_of (ip4_text x) ≡ Some x) (sym is.are) (ip4_again is.a is.b is.c is.d is.a_small is.b_small is.c_small is.d_small)

-- ---- fronts

behind_is : (front t rest : List ℕ) → behind front t ≡ Some rest → t ≡ front ++ rest
behind_is front t rest h = step (pointwise nat_eq (take (length front) t) front) refl h where
  step : (e : Bool) → pointwise nat_eq (take (length front) t) front ≡ e → cond e (Some (drop (length front) t)) None ≡ Some rest → t ≡ front ++ rest
  step true is k =
      let back : drop (length front) t ≡ rest = cc in
      let same : take (length front) t ≡ front = same_text _ _ (sym is) in
      sym (take-append-drop (length front) t) ∙ ap (λ (x : List ℕ). x ++ drop (length front) t) same ∙ ap (λ (x : List ℕ). front ++ x) back
  step false is k = absurd cc

inet_behind : (rest : List ℕ) → behind (codes "IN IP4 ") (codes "IN IP4 " ++ rest) ≡ Some rest
inet_behind rest = refl

-- ---- an address is read

and_false : (b : Bool) → (b && false) ≡ false
and_false true = refl
and_false false = refl

dotted_no_name : (t : List ℕ) → list_all is_dotted_byte t ≡ true → is_name t ≡ false
unfolding is_name
dotted_no_name t h = rw h (and_false (leb 4 (length t) && list_all is_name_byte t))

no_slash : (t : List ℕ) → after 47 t ≡ None → is_multicast t ≡ false
unfolding is_multicast
no_slash t h = rw h (and_false (is_group_address (ip4_of (before 47 t))))

dotted_no_multicast : (t : List ℕ) → list_all is_dotted_byte t ≡ true → is_multicast t ≡ false
dotted_no_multicast t h = no_slash t (after_none 47 t (Lacks-from_class is_dotted_byte 47 refl t h))

name_no_multicast : (t : List ℕ) → is_name t ≡ true → is_multicast t ≡ false
unfolding is_name
name_no_multicast t h =
    let bytes = (and_parts _ _ (and_parts (leb 4 (length t) && list_all is_name_byte t) (not (list_all is_dotted_byte t)) h).0).1 in
    no_slash t (after_none 47 t (Lacks-from_class is_name_byte 47 refl t bytes))

multicast_no_name : (t : List ℕ) → is_multicast t ≡ true → is_name t ≡ false
multicast_no_name t h = step (is_name t) refl where
  step : (e : Bool) → is_name t ≡ e → is_name t ≡ false
  step true is = absurd (true≢false (sym h ∙ name_no_multicast t is))
  step false is = is

inet_read : (value t : List ℕ) (a : Address) → value ≡ codes "IN IP4 " ++ t → inet_of t ≡ Some a → address_of value ≡ Some a
unfolding address_of
inet_read value t a h k = ap (λ (o : Option (List ℕ)). address_from o (behind (codes "IN IP6 ") value)) (ap (behind (codes "IN IP4 ")) h ∙ inet_behind t) ∙ k

pub address_read : (value : List ℕ) (a : Address) → IsAddress value a → address_of value ≡ Some a
unfolding address_of inet_of
address_read value (Ip4 octets) h =
    let is = octets_are h.0 octets h.2 in
    inet_read value h.0 (Ip4 octets) h.1 (rw (dotted_no_name h.0 is.dotted, dotted_no_multicast h.0 is.dotted, h.2, h.3) refl)
address_read value (Multicast t) h = inet_read value t (Multicast t) h.0 (rw (multicast_no_name t h.1, h.1) refl)
address_read value (Ip6 t) h = rw (h.0, h.1) refl
address_read value (Name t) h = inet_read value t (Name t) h.0 (rw h.1 refl)

-- ---- what is read is an address

abbrev found : Address → Option Address
found a = Some a

same : (a b : Address) → found a ≡ found b → a ≡ b
same a b h = cc

inet_found : (value t : List ℕ) (a : Address) → value ≡ codes "IN IP4 " ++ t → inet_of t ≡ Some a → IsAddress value a
unfolding inet_of
inet_found value t a h k = step (is_name t) (is_multicast t) refl refl k where
  unicast : (os : List ℕ) (e : Bool) → ip4_of t ≡ Some os → is_unicast os ≡ e → cond e (found (Ip4 os)) None ≡ Some a → IsAddress value a
  unicast os true is test m = subst (λ (x : Address). IsAddress value x) (same (Ip4 os) a m) (t, h, is, test)
  unicast os false is test m = absurd cc

  by_octets : (o : Option (List ℕ)) → ip4_of t ≡ o → unicast_of o ≡ Some a → IsAddress value a
  by_octets None is m = absurd cc
  by_octets (Some os) is m = unicast os (is_unicast os) is refl m

  step : (e f : Bool) → is_name t ≡ e → is_multicast t ≡ f → cond e (found (Name t)) (cond f (found (Multicast t)) (unicast_of (ip4_of t))) ≡ Some a → IsAddress value a
  step true f is test m = subst (λ (x : Address). IsAddress value x) (same (Name t) a m) (h, is)
  step false true is test m = subst (λ (x : Address). IsAddress value x) (same (Multicast t) a m) (h, test)
  step false false is test m = by_octets (ip4_of t) refl m

pub address_found : (value : List ℕ) (a : Address) → address_of value ≡ Some a → IsAddress value a
unfolding address_of
address_found value a k = step (behind (codes "IN IP4 ") value) (behind (codes "IN IP6 ") value) refl refl k where
  inet6 : (t : List ℕ) (e : Bool) → value ≡ codes "IN IP6 " ++ t → is_word t ≡ e → cond e (found (Ip6 t)) None ≡ Some a → IsAddress value a
  inet6 t true h is m = subst (λ (x : Address). IsAddress value x) (same (Ip6 t) a m) (h, is)
  inet6 t false h is m = absurd cc

  step : (o p : Option (List ℕ)) → behind (codes "IN IP4 ") value ≡ o → behind (codes "IN IP6 ") value ≡ p → address_from o p ≡ Some a → IsAddress value a
  step (Some t) p h i m = inet_found value t a (behind_is (codes "IN IP4 ") value t h) m
  step None (Some t) h i m = inet6 t (is_word t) (behind_is (codes "IN IP6 ") value t i) refl m
  step None None h i m = absurd cc
