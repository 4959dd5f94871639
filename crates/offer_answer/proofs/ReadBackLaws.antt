-- What is sent on in place of a description that was read reads back.
use Rattle.std.proofs.Common.{◌≡◌, ◌∙◌, ◌≤◌, ◌<◌, ◌^◌, ℕ, suc, Bool, true, false, not, ◌||◌, cond, eqb, leb, List, [], ◌∷◌, ◌++◌, length, Option, Some, None, Result, Ok, Err, codes, refl, sym, ap, subst, arith}
use Rattle.std.specs.Prelude.{IsTrue, IfOk, decimal, option_map, is_some, slice_index}
use Rattle.std.specs.List.{list_all}
use Rattle.std.specs.Option.{option_or}
use Rattle.std.specs.Char.{is_ascii_digit}
use Rattle.std.proofs.lemmas.Bool.{and_parts, and_from, le-leb, leb-true, ne_eqb}
use Rattle.std.proofs.lemmas.List.Folds.{list_all-append}
use Rattle.text.specs.Class.{is_run_of}
use Rattle.text.proofs.Numbers.{decimal_digits, decimal_run}
use Rattle.sip_uri.specs.Writing as uri
use Rattle.sdp.specs.declared.address.Address.{Address}
use Rattle.sdp.specs.declared.address.Address.TheVariants.{Ip4}
use Rattle.sdp.specs.declared.description.Description.{Description}
use Rattle.sdp.specs.declared.description.Media.{Media}
use Rattle.sdp.specs.Addresses.{ip4_of, is_unicast}
use Rattle.sdp.specs.Classes.{is_token, is_visible, is_word, is_number}
use Rattle.sdp.specs.Grammar.{ReadsDescription}
use Rattle.sdp.specs.Limits.{max_media, max_formats}
use Rattle.sdp.specs.Lines.{is_formed}
use Rattle.sdp.specs.MediumLines.{max_media_port}
use Rattle.sdp.specs.Origins.{is_origin}
use Rattle.sdp.specs.PlaceOf.{address_of_medium}
use Rattle.sdp.specs.Reading.{is_placed}
use Rattle.sdp.specs.Writing.{ip4_text, description_text}
use Rattle.sdp.proofs.AddressLaws.{ip4_again}
use Rattle.sdp.proofs.RoundTrip.{ip4_written, with_port}
use Rattle.sdp.proofs.WrittenForm.{ConnectionForm, MediumForm, MediaForm, DescriptionForm, form_of_read, form_reads}
use Rattle.offer_answer.specs.declared.sent_description.ServerOrigin.{ServerOrigin}
use Rattle.offer_answer.specs.Direct.{hold_address, is_hold}
use Rattle.offer_answer.specs.Readdressing.{AreOfTheirSizes, origin_of, readdressed_address, told_port, readdressed_medium, readdressed_media, readdressed_description}
use Rattle.offer_answer.proofs.KeptOrder.{all_kept, media_after_kept, after_kept}

-- ---- addresses

address_again : (ip : List ℕ) → length ip ≡ 4 → ((i : ℕ) → slice_index ip i ≤ 255) → ip4_of (ip4_text ip) ≡ Some ip
address_again [] h k = absurd cc
address_again (a ∷ []) h k = absurd cc
address_again (a ∷ b ∷ []) h k = absurd cc
address_again (a ∷ b ∷ c ∷ []) h k = absurd cc
address_again (a ∷ b ∷ c ∷ d ∷ []) h k = ip4_again a b c d (k 0) (k 1) (k 2) (k 3)
address_again (a ∷ b ∷ c ∷ d ∷ e ∷ more) h k = absurd (omega (arith, h))

-- a unicast address of four octets
record IsPlace (ip : List ℕ) : Type 0 where
  again : ip4_of (ip4_text ip) ≡ Some ip
  unicast : IsTrue (is_unicast ip)

connection_told : (ip : List ℕ) → IsPlace ip → (c : Option Address) → ConnectionForm (option_map (readdressed_address ip) c)
connection_told ip place None = record { said = refl; formed = refl }
connection_told ip place (Some a) = step (is_hold a) where
  step : (b : Bool) → ConnectionForm (Some (cond b (Ip4 hold_address) (Ip4 ip)))
  step true = ip4_written hold_address (ip4_again 0 0 0 0 (omega arith) (omega arith) (omega arith) (omega arith)) refl
  step false = ip4_written ip place.again place.unicast

-- ---- the origin

digit_visible : (b : ℕ) → is_ascii_digit b ≡ true → is_visible b ≡ true
digit_visible b h =
    let parts = and_parts (leb 48 b) (leb b 57) h in
    let low = leb-true 48 b parts.0 in
    let high = leb-true b 57 parts.1 in
    and_from _ _ (le-leb 33 b (omega (arith, low))) (ap not (ne_eqb b 127 (λ e. omega (arith, high, e))))

digits_visible : (t : List ℕ) → list_all is_ascii_digit t ≡ true → list_all is_visible t ≡ true
digits_visible [] h = refl
digits_visible (b ∷ bs) h =
    let parts = and_parts (is_ascii_digit b) (list_all is_ascii_digit bs) h in
    and_from _ _ (digit_visible b parts.0) (digits_visible bs parts.1)

word_more : (xs ys : List ℕ) → is_run_of is_visible xs ≡ true → list_all is_visible ys ≡ true → is_run_of is_visible (xs ++ ys) ≡ true
word_more [] ys h k = absurd cc
word_more (x ∷ xs) ys h k =
    let all = (and_parts (not (eqb (length (x ∷ xs)) 0)) (list_all is_visible (x ∷ xs)) h).1 in
    and_from _ _ (rw (ne_eqb (suc (length (xs ++ ys))) 0 (λ e. cc)) refl) (list_all-append is_visible (x ∷ xs) ys ∙ and_from _ _ all k)

number_visible : (n : ℕ) → n ≤ 255 → list_all is_visible (decimal n) ≡ true
number_visible n small = digits_visible (decimal n) (decimal_digits n (omega (arith, small)))

-- a word, a dot and an octet
dot_word : (front : List ℕ) (octet : ℕ) → is_run_of is_visible front ≡ true → octet ≤ 255 → is_run_of is_visible (front ++ 46 ∷ [] ++ decimal octet) ≡ true
dot_word front octet h small = word_more (front ++ 46 ∷ []) (decimal octet) (word_more front (46 ∷ []) h refl) (number_visible octet small)

number_word : (n : ℕ) → n ≤ 255 → is_run_of is_visible (decimal n) ≡ true
number_word n small =
    let run = and_parts (not (eqb (length (decimal n)) 0)) (list_all is_ascii_digit (decimal n)) (decimal_run n (omega (arith, small))) in
    and_from _ _ run.0 (number_visible n small)

address_word : (ip : List ℕ) → ((i : ℕ) → slice_index ip i ≤ 255) → is_word (uri.ip4_text ip) ≡ true
unfolding is_word
address_word ip octets =
    let a = slice_index ip 0 in
    let b = slice_index ip 1 in
    let c = slice_index ip 2 in
    let d = slice_index ip 3 in
    let first = number_word a (octets 0) in
    let second = dot_word (decimal a) b first (octets 1) in
    let third = dot_word (decimal a ++ 46 ∷ [] ++ decimal b) c second (octets 2) in
    dot_word (decimal a ++ 46 ∷ [] ++ decimal b ++ 46 ∷ [] ++ decimal c) d third (octets 3)

dash : is_word (codes "-") ≡ true
unfolding is_word
dash = refl

origin_told : (o : ServerOrigin) → o.id < 2 ^ 64 → o.version < 2 ^ 64 → ((i : ℕ) → slice_index o.ip i ≤ 255) → is_origin (origin_of o) ≡ true
unfolding origin_of is_origin is_number is_token
origin_told o id version octets = and_from _ _ (and_from _ _ (and_from _ _ (and_from _ _ (and_from _ _ dash (decimal_run o.id id)) (decimal_run o.version version)) refl) refl) (address_word o.ip octets)

-- ---- media

port_told : (port : ℕ) (m : Media) → port ≤ max_media_port → told_port port m ≤ max_media_port
port_told port m small = step (eqb m.port 0) where
  step : (b : Bool) → cond b 0 port ≤ max_media_port
  step true = omega arith
  step false = small

medium_told : (ip : List ℕ) → IsPlace ip → (port : ℕ) → port ≤ max_media_port → (m : Media) → MediumForm m → MediumForm (readdressed_medium ip port m)
unfolding readdressed_medium
medium_told ip place port small m f = record {
  line = with_port m (readdressed_medium ip port m) f.line (record { kind = refl; count = refl; proto = refl; formats = refl }) (port_told port m small);
  info = f.info;
  connection = connection_told ip place m.connection;
  after = media_after_kept m.after f.after;
  after_formed = all_kept is_formed m.after f.after_formed;
}

media_told : (ip : List ℕ) → IsPlace ip → (ports : List ℕ) → ((i : ℕ) → slice_index ports i ≤ max_media_port) → (ms : List Media) → MediaForm ms → MediaForm (readdressed_media ip ports ms)
media_told ip place [] small ms f = tt
media_told ip place (port ∷ ports) small [] f = tt
media_told ip place (port ∷ ports) small (m ∷ ms) f = (medium_told ip place port (small 0) m f.0, media_told ip place ports (λ i. small (suc i)) ms f.1)

-- ---- places and limits

some_told : (f : Address → Address) (a c : Option Address) → is_some (option_or (option_map f a) (option_map f c)) ≡ is_some (option_or a c)
some_told f None None = refl
some_told f None (Some c) = refl
some_told f (Some a) c = refl

or_true : (a b : Bool) → b ≡ true → (a || b) ≡ true
or_true true b h = refl
or_true false b h = h

placed_told : (origin : ServerOrigin) (ports : List ℕ) (d : Description) (port : ℕ) (m : Media) → is_placed d m ≡ true → is_placed (readdressed_description origin ports d) (readdressed_medium origin.ip port m) ≡ true
unfolding readdressed_description readdressed_medium
placed_told origin ports d port m h = step (eqb m.port 0) h where
  step : (b : Bool) → (b || is_some (address_of_medium d m)) ≡ true → (eqb (cond b 0 port) 0 || is_some (option_or (option_map (readdressed_address origin.ip) m.connection) (option_map (readdressed_address origin.ip) d.connection))) ≡ true
  step true k = refl
  step false k = or_true (eqb port 0) _ (some_told (readdressed_address origin.ip) m.connection d.connection ∙ k)

places_told : (origin : ServerOrigin) (all ports : List ℕ) (d : Description) (ms : List Media) → list_all (is_placed d) ms ≡ true → list_all (is_placed (readdressed_description origin all d)) (readdressed_media origin.ip ports ms) ≡ true
places_told origin all [] d ms h = refl
places_told origin all (port ∷ ports) d [] h = refl
places_told origin all (port ∷ ports) d (m ∷ ms) h =
    let parts = and_parts (is_placed d m) (list_all (is_placed d) ms) h in
    and_from _ _ (placed_told origin all d port m parts.0) (places_told origin all ports d ms parts.1)

as_few : (ip ports : List ℕ) (ms : List Media) → length (readdressed_media ip ports ms) ≤ length ms
as_few ip [] ms = omega arith
as_few ip (port ∷ ports) [] = omega arith
as_few ip (port ∷ ports) (m ∷ ms) = let more = as_few ip ports ms in omega (arith, more)

formats_told : (ip ports : List ℕ) (ms : List Media) → list_all (λ (m : Media). leb (length m.formats) max_formats) ms ≡ true → list_all (λ (m : Media). leb (length m.formats) max_formats) (readdressed_media ip ports ms) ≡ true
unfolding readdressed_medium
formats_told ip [] ms h = refl
formats_told ip (port ∷ ports) [] h = refl
formats_told ip (port ∷ ports) (m ∷ ms) h =
    let parts = and_parts (leb (length m.formats) max_formats) (list_all (λ (m : Media). leb (length m.formats) max_formats) ms) h in
    and_from _ _ parts.0 (formats_told ip ports ms parts.1)

-- ---- all

form_told : (d : Description) (origin : ServerOrigin) (ports : List ℕ) → DescriptionForm d → AreOfTheirSizes origin ports → IsTrue (is_unicast origin.ip) → DescriptionForm (readdressed_description origin ports d)
unfolding readdressed_description
form_told d origin ports f sizes unicast =
    let place : IsPlace origin.ip = record { again = address_again origin.ip sizes.four sizes.octets; unicast = unicast } in
    let few = leb-true (length d.media) max_media f.few_media in
    record {
      origin = origin_told origin sizes.id sizes.version sizes.octets;
      before = f.before;
      before_formed = f.before_formed;
      connection = connection_told origin.ip place d.connection;
      after = after_kept d.after f.after;
      after_formed = all_kept is_formed d.after f.after_formed;
      media = media_told origin.ip place ports sizes.each_port d.media f.media;
      places = places_told origin ports ports d d.media f.places;
      few_media = le-leb _ _ (let fewer = as_few origin.ip ports d.media in omega (arith, few, fewer));
      few_formats = formats_told origin.ip ports d.media f.few_formats;
    }

pub sent_is_read : (text : List ℕ) (d : Description) (origin : ServerOrigin) (ports : List ℕ) → ReadsDescription text d → AreOfTheirSizes origin ports → IsTrue (is_unicast origin.ip)
    → ReadsDescription (description_text (readdressed_description origin ports d)) (readdressed_description origin ports d)
sent_is_read text d origin ports h sizes unicast = form_reads (readdressed_description origin ports d) (form_told d origin ports (form_of_read text d h) sizes unicast)

-- ---- at a call that gives it

pub sent_at : {E : Type 0} (r : Result Description E) (text : List ℕ) (d : Description) (origin : ServerOrigin) (ports : List ℕ) → ReadsDescription text d → AreOfTheirSizes origin ports → IsTrue (is_unicast origin.ip) → IfOk r (λ sent. sent ≡ readdressed_description origin ports d)
    → IfOk r (λ sent. ReadsDescription (description_text sent) sent)
sent_at (Ok sent) text d origin ports h sizes unicast e = subst (λ (x : Description). ReadsDescription (description_text x) x) (sym e) (sent_is_read text d origin ports h sizes unicast)
sent_at (Err out) text d origin ports h sizes unicast e = tt
