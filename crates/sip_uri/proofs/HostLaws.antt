-- A host that is written is read again.
use Rattle.std.proofs.Common.{◌≡◌, ℕ, ◌≤◌, Bool, true, false, not, ◌&&◌, ◌||◌, cond, eqb, ltb, List, [], ◌∷◌, ◌++◌, length, Option, Some, None, refl, sym, ap, subst, ◌∙◌, append_assoc, arith}
use Rattle.std.specs.Prelude.{is_some, decimal}
use Rattle.std.specs.List.{list_all, slice_split}
use Rattle.std.specs.Char.{is_ascii_digit}
use Rattle.std.proofs.lemmas.Bool.{and_parts, eqb-true, lt-ltb}
use Rattle.std.proofs.lemmas.List.{nil_from_length}
use Rattle.std.proofs.lemmas.Fmt.{length-decimal-le}
use Rattle.text.specs.Class.{is_run_of}
use Rattle.text.specs.Cut.{before, after, led_by}
use Rattle.text.specs.Number.{number_upto}
use Rattle.sip_uri.specs.Classes.{is_label_byte}
use Rattle.sip_uri.specs.Hosts.{octet_of, ip4_of, is_label, without_dot, is_hostname, is_host}
use Rattle.sip_uri.specs.Reading.{host_of}
use Rattle.sip_uri.specs.Writing.{ip4_text, host_text}
use Rattle.text.proofs.CutLaws.{Lacks, Lacks-from_class, Lacks-from_pieces, Lacks-from_cut, AllLack-from_test, before_at, after_at}
use Rattle.text.proofs.Numbers.{number_is, number_again, decimal_digits, decimal_run}
use Rattle.text.proofs.Lists.{some_then}

-- ---- octets

octet_small : (t : List ℕ) (n : ℕ) → octet_of t ≡ Some n → n ≤ 255
unfolding octet_of
octet_small t n h = step (is_run_of is_ascii_digit t && ltb (length t) 4) h where
  step : (b : Bool) → cond b (number_upto 255 t) None ≡ Some n → n ≤ 255
  step true e = number_is 255 n t e
  step false e = absurd cc

octet_again : (n : ℕ) → n ≤ 255 → octet_of (decimal n) ≡ Some n
unfolding octet_of
octet_again n le =
    let short : ltb (length (decimal n)) 4 ≡ true = lt-ltb _ _ (omega (arith, length-decimal-le 3 n (omega arith) (omega arith) (omega arith))) in
    rw (decimal_run n (omega arith), short, number_again 255 n le (omega arith)) refl

abbrev some : List ℕ → Option (List ℕ)
some x = Some x

-- the value of a step that did not fail

-- four octets
pub record AreOctets (os : List ℕ) : Type 0 where
  pub a : ℕ
  pub b : ℕ
  pub c : ℕ
  pub d : ℕ
  pub are : os ≡ a ∷ b ∷ c ∷ d ∷ []
  pub a_small : a ≤ 255
  pub b_small : b ≤ 255
  pub c_small : c ≤ 255
  pub d_small : d ≤ 255

pub octets_are : (t os : List ℕ) → ip4_of t ≡ Some os → AreOctets os
unfolding ip4_of
octets_are t os h =
    let p1 = some_then (after 46 t) _ os h in
    let p2 = some_then (after 46 p1.0) _ os p1.2 in
    let p3 = some_then (after 46 p2.0) _ os p2.2 in
    let q0 = some_then (octet_of (before 46 t)) _ os p3.2 in
    let q1 = some_then (octet_of (before 46 p1.0)) _ os q0.2 in
    let q2 = some_then (octet_of (before 46 p2.0)) _ os q1.2 in
    let q3 = some_then (octet_of p3.0) (λ x3. Some (q0.0 ∷ q1.0 ∷ q2.0 ∷ x3 ∷ [])) os q2.2 in
    record {
      a = q0.0;
      b = q1.0;
      c = q2.0;
      d = q3.0;
      are = value_is (q0.0 ∷ q1.0 ∷ q2.0 ∷ q3.0 ∷ []) os q3.2;
      a_small = octet_small _ _ q0.1;
      b_small = octet_small _ _ q1.1;
      c_small = octet_small _ _ q2.1;
      d_small = octet_small _ _ q3.1;
    } where
      value_is : (x y : List ℕ) → some x ≡ some y → y ≡ x
      value_is x y e = cc

decimal_lacks : (n : ℕ) → n ≤ 255 → Lacks 46 (decimal n)
decimal_lacks n le = Lacks-from_class is_ascii_digit 46 refl (decimal n) (decimal_digits n (omega arith))

-- what is written for four octets is read again
pub ip4_again : (a b c d : ℕ) → a ≤ 255 → b ≤ 255 → c ≤ 255 → d ≤ 255 → ip4_of (ip4_text (a ∷ b ∷ c ∷ d ∷ [])) ≡ Some (a ∷ b ∷ c ∷ d ∷ [])
unfolding ip4_of
ip4_again a b c d la lb lc ld =
    let z : Option (List ℕ) = Some (decimal d) in
    let y : Option (List ℕ) = Some (decimal c ++ led_by 46 z) in
    let x : Option (List ℕ) = Some (decimal b ++ led_by 46 y) in
    let regrouped : ip4_text (a ∷ b ∷ c ∷ d ∷ []) ≡ decimal a ++ led_by 46 x = simp append_assoc in
    let la' = decimal_lacks a la in
    let lb' = decimal_lacks b lb in
    let lc' = decimal_lacks c lc in
    rw (
      regrouped,
      before_at 46 (decimal a) x la',
      after_at 46 (decimal a) x la',
      before_at 46 (decimal b) y lb',
      after_at 46 (decimal b) y lb',
      before_at 46 (decimal c) z lc',
      after_at 46 (decimal c) z lc',
      octet_again a la,
      octet_again b lb,
      octet_again c lc,
      octet_again d ld,
    ) refl

-- ---- the bytes of hosts

octet_lacks : (c : ℕ) → is_ascii_digit c ≡ false → (t : List ℕ) (n : ℕ) → octet_of t ≡ Some n → Lacks c t
unfolding octet_of
octet_lacks c out t n h = step (is_run_of is_ascii_digit t) (ltb (length t) 4) refl h where
  step : (a b : Bool) → is_run_of is_ascii_digit t ≡ a → cond (a && b) (number_upto 255 t) None ≡ Some n → Lacks c t
  step true b run e = Lacks-from_class is_ascii_digit c out t (and_parts (not (eqb (length t) 0)) (list_all is_ascii_digit t) run).1
  step false b run e = absurd cc

dotted : (c : ℕ) → eqb 46 c ≡ false → (t rest : List ℕ) → Lacks c (before 46 t) → after 46 t ≡ Some rest → Lacks c rest → Lacks c t
dotted c apart t rest front e back = Lacks-from_cut c 46 apart t front (subst (λ (o : Option (List ℕ)). Lacks c (led_by 46 o)) (sym e) (apart, back))

ip4_lacks : (c : ℕ) → is_ascii_digit c ≡ false → eqb 46 c ≡ false → (t os : List ℕ) → ip4_of t ≡ Some os → Lacks c t
unfolding ip4_of
ip4_lacks c out apart t os h =
    let p1 = some_then (after 46 t) _ os h in
    let p2 = some_then (after 46 p1.0) _ os p1.2 in
    let p3 = some_then (after 46 p2.0) _ os p2.2 in
    let q0 = some_then (octet_of (before 46 t)) _ os p3.2 in
    let q1 = some_then (octet_of (before 46 p1.0)) _ os q0.2 in
    let q2 = some_then (octet_of (before 46 p2.0)) _ os q1.2 in
    let q3 = some_then (octet_of p3.0) (λ x3. Some (q0.0 ∷ q1.0 ∷ q2.0 ∷ x3 ∷ [])) os q2.2 in
    dotted c apart t p1.0 (octet_lacks c out _ _ q0.1) p1.1 (
    dotted c apart p1.0 p2.0 (octet_lacks c out _ _ q1.1) p2.1 (
    dotted c apart p2.0 p3.0 (octet_lacks c out _ _ q2.1) p3.1 (octet_lacks c out _ _ q3.1)
    )
    )

label_lacks : (c : ℕ) → is_label_byte c ≡ false → (t : List ℕ) → is_label t ≡ true → Lacks c t
label_lacks c out t h = Lacks-from_class is_label_byte c out t (and_parts (list_all is_label_byte t) _ (and_parts _ _ h).0).0

without_dot_lacks : (c : ℕ) → eqb 46 c ≡ false → (t : List ℕ) → Lacks c (without_dot t) → Lacks c t
without_dot_lacks c apart [] h = tt
without_dot_lacks c apart (b ∷ bs) h = step (eqb b 46) (eqb (length bs) 0) (λ e. eqb-true b 46 e) (λ e. nil_from_length bs (eqb-true _ _ e)) h (λ k. without_dot_lacks c apart bs k) where
  step : (e f : Bool) → (e ≡ true → b ≡ 46) → (f ≡ true → bs ≡ []) → Lacks c (cond (e && f) [] (b ∷ without_dot bs)) → (Lacks c (without_dot bs) → Lacks c bs) → Lacks c (b ∷ bs)
  step true true same none k more = subst (λ (x : List ℕ). Lacks c (b ∷ x)) (sym (none refl)) (ap (λ (x : ℕ). eqb x c) (same refl) ∙ apart, tt)
  step true false same none k more = (k.0, more k.1)
  step false f same none k more = (k.0, more k.1)

hostname_lacks : (c : ℕ) → is_label_byte c ≡ false → eqb 46 c ≡ false → (t : List ℕ) → is_hostname t ≡ true → Lacks c t
unfolding is_hostname
hostname_lacks c out apart t h =
    without_dot_lacks c apart t (Lacks-from_pieces c 46 apart (without_dot t) (AllLack-from_test is_label c (label_lacks c out) (slice_split (λ b. eqb b 46) (without_dot t)) (and_parts _ _ h).0))

pub host_lacks : (c : ℕ) → is_label_byte c ≡ false → is_ascii_digit c ≡ false → eqb 46 c ≡ false → (t : List ℕ) → is_host t ≡ true → Lacks c t
unfolding is_host
host_lacks c out digit apart t h = step (ip4_of t) refl h where
  step : (o : Option (List ℕ)) → ip4_of t ≡ o → (is_some o || is_hostname t) ≡ true → Lacks c t
  step None e k = hostname_lacks c out apart t k
  step (Some os) e k = ip4_lacks c digit apart t os e

-- ---- hosts

octets_again : (os : List ℕ) → AreOctets os → ip4_of (ip4_text os) ≡ Some os
octets_again os h = subst (λ (x : List ℕ). ip4_of (ip4_text x) ≡ Some x) (sym h.are) (ip4_again h.a h.b h.c h.d h.a_small h.b_small h.c_small h.d_small)

pub host_again : (t : List ℕ) → is_host t ≡ true → (is_host (host_text (host_of t)) ≡ true) × (host_of (host_text (host_of t)) ≡ host_of t)
unfolding is_host
host_again t h = step (ip4_of t) refl where
  step : (o : Option (List ℕ)) → ip4_of t ≡ o → (is_host (host_text (host_of t)) ≡ true) × (host_of (host_text (host_of t)) ≡ host_of t)
  step None e = rw e (h, rw e refl)
  step (Some os) e =
      let again = octets_again os (octets_are t os e) in
      rw e (rw again refl, rw again refl)
