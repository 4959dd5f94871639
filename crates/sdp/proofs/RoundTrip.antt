-- What is written for a part of a description is read again as that part.
use Rattle.std.proofs.Common.{◌≡◌, ℕ, zero, suc, ◌+◌, ◌<◌, ◌≤◌, Bool, true, false, not, ◌&&◌, cond, eqb, leb, inr, List, [], ◌∷◌, ◌++◌, length, Option, Some, None, refl, sym, ap, subst, ◌∙◌, append_assoc, arith, codes}
use Rattle.std.specs.Prelude.{IsTrue, is_some, option_map, option_and_then, unwrap_or, decimal}
use Rattle.std.specs.List.{list_all, slice_split, onto_first, join_with_byte}
use Rattle.std.specs.Char.{is_ascii_digit, digit_value}
use Rattle.std.specs.Str.Parse.{digits_value}
use Rattle.std.proofs.lemmas.Bool.{and_parts, and_from, true≢false, eq-eqb}
use Rattle.std.proofs.lemmas.List.{append-nil}
use Rattle.std.proofs.lemmas.List.Splits.{join_with_byte-slice_split}
use Rattle.std.proofs.lemmas.Str.Parse.{digits_value-take-le}
use Rattle.text.specs.Class.{is_run_of, passes_if_there}
use Rattle.text.specs.Cut.{led_by}
use Rattle.text.specs.Number.{number_upto}
use Rattle.text.proofs.CutLaws.{Lacks, Lacks-append, Lacks-led_by, Lacks-from_class}
use Rattle.text.proofs.Numbers.{digit_is, number_is, number_again, decimal_run}
use Rattle.text.proofs.Lists.{run_lacks}
use Rattle.sdp.specs.declared.address.Address.{Address}
use Rattle.sdp.specs.declared.address.Address.TheVariants.{Ip4, Multicast, Ip6, Name}
use Rattle.sdp.specs.declared.description.Media.{Media}
use Rattle.sdp.specs.Addresses.{IsAddress, ip4_of, is_unicast, is_dotted_byte}
use Rattle.sdp.specs.Classes.{begins, is_text_byte, is_token_char, is_token, is_number, is_integer, is_proto}
use Rattle.sdp.specs.Grammar.{SaysConnection, SaysMedium}
use Rattle.sdp.specs.Lines.{IsLines, is_formed}
use Rattle.sdp.specs.MediumLines.{RawMedium, raw_medium_text, max_media_port, is_port, is_count, formats_of, is_raw_medium}
use Rattle.sdp.specs.Writing.{ended, ip4_text, address_text, connection_lines, count_text, formats_text, medium_line}
use Rattle.sdp.proofs.AddressLaws.{octets_are, octets_again, decimal_begins}
use Rattle.sdp.proofs.MediumLaws.{IsForm, form_of, tokens_lack}

-- ---- lines with their ends

pub ended_lines : (ls : List (List ℕ)) → IsLines ls (ended ls)
ended_lines [] = refl
ended_lines (l ∷ ls) = inr (ended ls, inr (append_assoc l (13 ∷ 10 ∷ []) (ended ls)), ended_lines ls)

-- ---- bytes of lines

pub text_from_lacks : (t : List ℕ) → Lacks 13 t → Lacks 10 t → Lacks 0 t → list_all is_text_byte t ≡ true
text_from_lacks [] h k l = refl
text_from_lacks (b ∷ bs) h k l = rw (h.0, k.0, l.0) (text_from_lacks bs h.1 k.1 l.1)

-- ---- c=

pub record Written (says : Type 0) (ls : List (List ℕ)) : Type 0 where
  pub said : says
  pub formed : list_all is_formed ls ≡ true

-- an address whose text is the one that was read
as_read : (lines : List (List ℕ)) (value : List ℕ) (a : Address) → lines ≡ (codes "c=" ++ value) ∷ [] → value ≡ address_text a → IsAddress value a → list_all is_formed lines ≡ true
    → Written (SaysConnection (connection_lines (Some a)) (Some a)) (connection_lines (Some a))
as_read lines value a whole same is formed =
    let lines_same : lines ≡ connection_lines (Some a) = whole ∙ ap (λ (x : List ℕ). (codes "c=" ++ x) ∷ []) same in
    record { said = (address_text a, refl, subst (λ (x : List ℕ). IsAddress x a) same is); formed = sym (ap (list_all is_formed) lines_same) ∙ formed }

-- a unicast address whose four octets are read back as written
pub ip4_written : (octets : List ℕ) → ip4_of (ip4_text octets) ≡ Some octets → IsTrue (is_unicast octets) → Written (SaysConnection (connection_lines (Some (Ip4 octets))) (Some (Ip4 octets))) (connection_lines (Some (Ip4 octets)))
ip4_written octets again unicast =
    let dotted = (octets_are (ip4_text octets) octets again).dotted in
    let bytes : list_all is_text_byte (ip4_text octets) ≡ true = text_from_lacks (ip4_text octets) (Lacks-from_class is_dotted_byte 13 refl (ip4_text octets) dotted) (Lacks-from_class is_dotted_byte 10 refl (ip4_text octets) dotted) (Lacks-from_class is_dotted_byte 0 refl (ip4_text octets) dotted) in
    let line : is_formed (codes "c=" ++ address_text (Ip4 octets)) ≡ true = bytes in
    record { said = (address_text (Ip4 octets), refl, (ip4_text octets, refl, again, unicast)); formed = and_from _ _ line refl }

pub connection_written : (lines : List (List ℕ)) (c : Option Address) → SaysConnection lines c → list_all is_formed lines ≡ true → Written (SaysConnection (connection_lines c) c) (connection_lines c)
connection_written lines None h formed = record { said = refl; formed = refl }
connection_written lines (Some (Ip4 octets)) h formed = (let is = h.2 in ip4_written octets (octets_again is.0 octets is.2) is.3)
connection_written lines (Some (Multicast t)) h formed = as_read lines h.0 (Multicast t) h.1 h.2.0 h.2 formed
connection_written lines (Some (Ip6 t)) h formed = as_read lines h.0 (Ip6 t) h.1 h.2.0 h.2 formed
connection_written lines (Some (Name t)) h formed = as_read lines h.0 (Name t) h.1 h.2.0 h.2 formed

-- ---- the numbers of m=

port_small : (o : Option ℕ) (t : List ℕ) → number_upto max_media_port t ≡ o → unwrap_or o 0 ≤ max_media_port
port_small None t h = omega arith
port_small (Some n) t h = number_is max_media_port n t h

port_again : (n : ℕ) → n ≤ max_media_port → number_upto max_media_port (decimal n) ≡ Some n
port_again n le = number_again max_media_port n le (omega arith)

is_port_written : (n : ℕ) → n ≤ max_media_port → is_port (decimal n) ≡ true
unfolding is_number
is_port_written n le = and_from _ _ (decimal_run n (omega arith)) (rw (port_again n le) refl)

-- digits that do not begin with 0 are not 0
some_digits : (t : List ℕ) → is_run_of is_ascii_digit t ≡ true → begins (codes "0") t ≡ false → 0 < digits_value 10 t
some_digits [] h k = absurd (true≢false (sym h))
some_digits (c ∷ cs) h k =
    let digit : is_ascii_digit c ≡ true = (and_parts (is_ascii_digit c) (list_all is_ascii_digit cs) (and_parts (not (eqb (length (c ∷ cs)) 0)) (list_all is_ascii_digit (c ∷ cs)) h).1).0 in
    let value : digit_value c + 48 ≡ c = digit_is c digit in
    let one : digits_value 10 (c ∷ []) ≤ digits_value 10 (c ∷ cs) = digits_value-take-le 10 (c ∷ cs) 1 (omega arith) in
    by_first (digit_value c) refl value one where
      first_is_zero : digit_value c ≡ 0 → digit_value c + 48 ≡ c → ⊥
      first_is_zero z v = true≢false (sym (rw (eq-eqb 48 c (omega (arith, z, v))) refl) ∙ k)

      by_first : (n : ℕ) → digit_value c ≡ n → digit_value c + 48 ≡ c → digits_value 10 (c ∷ []) ≤ digits_value 10 (c ∷ cs) → 0 < digits_value 10 (c ∷ cs)
      by_first zero z v le = absurd (first_is_zero z v)
      by_first (suc n) z v le = omega (arith, z, le)

-- what a count is, by its text
count_number : (t : List ℕ) (n : ℕ) → is_integer t ≡ true → number_upto max_media_port t ≡ Some n → (0 < n) × (n ≤ max_media_port)
unfolding is_integer
count_number t n h e =
    let parts = and_parts (is_run_of is_ascii_digit t) (not (begins (codes "0") t)) h in
    let other : begins (codes "0") t ≡ false = not-true (begins (codes "0") t) parts.1 in
    let some : 0 < digits_value 10 t = some_digits t parts.0 other in
    let is : digits_value 10 t ≡ n = value_is (list_all is_ascii_digit t) (leb (digits_value 10 t) max_media_port) e in
    (omega (arith, some, is), number_is max_media_port n t e) where
      not-true : (b : Bool) → not b ≡ true → b ≡ false
      not-true true h = absurd cc
      not-true false h = refl

      value_is : (a b : Bool) → cond (a && b) (Some (digits_value 10 t)) None ≡ Some n → digits_value 10 t ≡ n
      value_is true true e = cc
      value_is true false e = absurd cc
      value_is false b e = absurd cc

is_count_written : (n : ℕ) → 0 < n → n ≤ max_media_port → is_count (decimal n) ≡ true
unfolding is_integer
is_count_written n some le = and_from _ _ (and_from _ _ (decimal_run n (omega arith)) (rw (decimal_begins n some (omega arith)) refl)) (rw (port_again n le) refl)

pub record CountAgain (c : Option ℕ) : Type 0 where
  pub form : passes_if_there is_count (option_map decimal c) ≡ true
  pub value : c ≡ option_and_then (number_upto max_media_port) (option_map decimal c)
  pub text : count_text c ≡ led_by 47 (option_map decimal c)

count_by : (t : List ℕ) (o : Option ℕ) → number_upto max_media_port t ≡ o → is_integer t ≡ true → is_some o ≡ true → CountAgain o
count_by t None e h k = absurd (true≢false (sym k))
count_by t (Some n) e h k =
    let is = count_number t n h e in
    record { form = is_count_written n is.0 is.1; value = sym (port_again n is.1); text = refl }

count_again : (o : Option (List ℕ)) → passes_if_there is_count o ≡ true → CountAgain (option_and_then (number_upto max_media_port) o)
count_again None h = record { form = refl; value = refl; text = refl }
count_again (Some t) h =
    let parts = and_parts (is_integer t) (is_some (number_upto max_media_port t)) h in
    count_by t (number_upto max_media_port t) refl parts.0 parts.1

-- ---- the formats of m=

some_piece : (s : ℕ) (text : List ℕ) → (p : List ℕ) × (ps : List (List ℕ)) × (slice_split (λ b. eqb b s) text ≡ p ∷ ps)
some_piece s [] = ([], [], refl)
some_piece s (b ∷ bs) = step (eqb b s) (slice_split (λ x. eqb x s) bs) where
  step : (e : Bool) (ps : List (List ℕ)) → (q : List ℕ) × (qs : List (List ℕ)) × (cond e ([] ∷ ps) (onto_first b ps) ≡ q ∷ qs)
  step true ps = ([], ps, refl)
  step false [] = (b ∷ [], [], refl)
  step false (p ∷ ps) = (b ∷ p, ps, refl)

formats_joined : (p : List ℕ) (ps : List (List ℕ)) → formats_text (p ∷ ps) ≡ 32 ∷ join_with_byte 32 (p ∷ ps)
formats_joined p [] = ap (λ (t : List ℕ). 32 ∷ t) (append-nil p)
formats_joined p (q ∷ ps) = ap (λ (t : List ℕ). 32 ∷ (p ++ t)) (formats_joined q ps)

formats_written : (text : List ℕ) → formats_text (formats_of text) ≡ 32 ∷ text
formats_written text =
    let s = some_piece 32 text in
    ap formats_text s.2 ∙ formats_joined s.0 s.1 ∙ ap (λ (ps : List (List ℕ)). 32 ∷ join_with_byte 32 ps) (sym s.2) ∙ ap (λ (t : List ℕ). 32 ∷ t) (join_with_byte-slice_split 32 text)

-- ---- m=

abbrev written_raw : Media → List ℕ → RawMedium
written_raw m formats = record { kind = m.kind; port = decimal m.port; count = option_map decimal m.count; proto = m.proto; formats = formats }

count_lacks : (c : ℕ) → is_ascii_digit c ≡ false → (t : List ℕ) → is_count t ≡ true → Lacks c t
unfolding is_integer
count_lacks c out t h = run_lacks is_ascii_digit c out t (and_parts (is_run_of is_ascii_digit t) _ (and_parts (is_integer t) _ h).0).0

proto_lacks : (c : ℕ) → is_token_char c ≡ false → eqb 47 c ≡ false → (t : List ℕ) → is_proto t ≡ true → Lacks c t
unfolding is_proto
proto_lacks c out apart t h = tokens_lack c 47 out apart t h

raw_lacks : (c : ℕ) → is_token_char c ≡ false → is_ascii_digit c ≡ false → eqb 32 c ≡ false → eqb 47 c ≡ false → (r : RawMedium) → IsForm r → Lacks c (raw_medium_text r)
raw_lacks c token digit space slash r f =
    let kind = run_lacks is_token_char c token r.kind f.kind in
    let port = run_lacks is_ascii_digit c digit r.port f.port in
    let count = Lacks-led_by c 47 slash r.count is_count (count_lacks c digit) f.count in
    let proto = proto_lacks c token slash r.proto f.proto in
    let formats = tokens_lack c 32 token space r.formats f.formats in
    Lacks-append c r.kind _ kind (space, Lacks-append c r.port _ port (Lacks-append c (led_by 47 r.count) _ count (space, Lacks-append c r.proto _ proto (space, formats))))

pub record MediumAgain (m : Media) : Type 0 where
  pub value : List ℕ
  pub line : medium_line m ≡ 109 ∷ 61 ∷ value
  pub said : SaysMedium value m
  pub formed : is_formed (medium_line m) ≡ true

raw_form : (m : Media) (raw : RawMedium) → IsForm raw → m.kind ≡ raw.kind → m.port ≤ max_media_port → CountAgain m.count → m.proto ≡ raw.proto → is_raw_medium (written_raw m raw.formats) ≡ true
unfolding is_raw_medium is_token
raw_form m raw f kind small count proto =
    and_from _ _ (and_from _ _ (and_from _ _ (and_from _ _ (ap is_token kind ∙ f.kind) (is_port_written m.port small)) count.form) (ap is_proto proto ∙ f.proto)) f.formats

-- a medium with the kind, protocol and formats of a line, and with a port and a count of their sizes
medium_of : (m : Media) (raw : RawMedium) → IsForm raw → m.kind ≡ raw.kind → m.port ≤ max_media_port → CountAgain m.count → m.proto ≡ raw.proto → m.formats ≡ formats_of raw.formats → MediumAgain m
medium_of m r f kind small count proto same_formats =
    let raw = written_raw m r.formats in
    let form = raw_form m r f kind small count proto in
    let formats : formats_text m.formats ≡ 32 ∷ r.formats = ap formats_text same_formats ∙ formats_written r.formats in
    let text : medium_line m ≡ 109 ∷ 61 ∷ raw_medium_text raw =
    ap (λ (x : List ℕ). 109 ∷ 61 ∷ (m.kind ++ 32 ∷ (decimal m.port ++ (x ++ 32 ∷ (m.proto ++ formats_text m.formats))))) count.text
    ∙ ap (λ (x : List ℕ). 109 ∷ 61 ∷ (m.kind ++ 32 ∷ (decimal m.port ++ (led_by 47 (option_map decimal m.count) ++ 32 ∷ (m.proto ++ x))))) formats in
    let again = form_of raw form in
    let bytes : list_all is_text_byte (raw_medium_text raw) ≡ true = text_from_lacks (raw_medium_text raw) (raw_lacks 13 refl refl refl refl raw again) (raw_lacks 10 refl refl refl refl raw again) (raw_lacks 0 refl refl refl refl raw again) in
    record {
      value = raw_medium_text raw;
      line = text;
      said = record {
        raw = raw;
        whole = refl;
        form = form;
        kind = refl;
        port = sym (ap (λ (o : Option ℕ). unwrap_or o 0) (port_again m.port small));
        count = count.value;
        proto = refl;
        formats = same_formats;
      };
      formed = ap is_formed text ∙ bytes;
    }

count_of_line : (value : List ℕ) (m : Media) → SaysMedium value m → CountAgain m.count
count_of_line value m s = subst (λ (c : Option ℕ). CountAgain c) (sym s.count) (count_again s.raw.count (form_of s.raw s.form).count)

pub medium_written : (value : List ℕ) (m : Media) → SaysMedium value m → MediumAgain m
medium_written value m s =
    let small : m.port ≤ max_media_port = subst (λ (n : ℕ). n ≤ max_media_port) (sym s.port) (port_small (number_upto max_media_port s.raw.port) s.raw.port refl) in
    medium_of m s.raw (form_of s.raw s.form) s.kind small (count_of_line value m s) s.proto s.formats

-- the line of a medium except for its port
pub record SameLine (m n : Media) : Type 0 where
  pub kind : n.kind ≡ m.kind
  pub count : n.count ≡ m.count
  pub proto : n.proto ≡ m.proto
  pub formats : n.formats ≡ m.formats

pub with_port : (m n : Media) → MediumAgain m → SameLine m n → n.port ≤ max_media_port → MediumAgain n
with_port m n again same small =
    let s = again.said in
    let count = subst (λ (c : Option ℕ). CountAgain c) (sym same.count) (count_of_line again.value m s) in
    medium_of n s.raw (form_of s.raw s.form) (same.kind ∙ s.kind) small count (same.proto ∙ s.proto) (same.formats ∙ s.formats)
