-- How long what the server writes in place of a description can be.
use Rattle.std.proofs.Common.{◌≡◌, ◌∙◌, ℕ, ◌+◌, ◌*◌, ◌<◌, ◌^◌, ◌≤◌, ◌==◌, Bool, true, false, cond, ◌&&◌, List, [], ◌∷◌, ◌++◌, codes, length, map, nat_le, Option, Some, None, option_map, decimal, length-append, refl, sym, ap, suc, subst, inl, inr, arith}
use Rattle.std.specs.Prelude.{slice_index, option_and_then}
use Rattle.std.specs.Char.{is_ascii_digit}
use Rattle.std.specs.List.{flat_map, list_all, onto_first}
use Rattle.std.specs.Str.Parse.{digits_value}
use Rattle.std.proofs.lemmas.Bool.{and_parts, leb-true}
use Rattle.std.proofs.lemmas.Fmt.{length-decimal-le}
use Rattle.sip_message.specs.ContentLength.{max_content_length}
use Rattle.sdp.specs.declared.address.Address.{Address}
use Rattle.sdp.specs.declared.address.Address.TheVariants.{Ip4}
use Rattle.sdp.specs.declared.description.Description.{Description}
use Rattle.sdp.specs.declared.description.Media.{Media}
use Rattle.sdp.specs.declared.line.Line.{Line}
use Rattle.sdp.specs.Grammar.{BeginsMedium, ReadsDescription, SaysDescription, SaysMedia, SaysMedium, SaysUnder}
use Rattle.sdp.specs.Lines.{Ends, IsLines}
use Rattle.sdp.specs.MediumLines.{RawMedium, count_of, formats_of, raw_medium_text}
use Rattle.sdp.specs.Writing.{address_text, connection_lines, count_text, description_lines, description_text, ended, formats_text, info_lines, line_text, media_lines, medium_line, origin_line}
use Rattle.offer_answer.specs.declared.sent_description.ServerOrigin.{ServerOrigin}
use Rattle.offer_answer.specs.Alike.{is_kept, kept_lines}
use Rattle.offer_answer.specs.Direct.{hold_address, is_hold}
use Rattle.offer_answer.specs.Readdressing.{AreOfTheirSizes, origin_of, readdressed_address, readdressed_description, readdressed_media, readdressed_medium, told_port}
use Rattle.message_laws.specs.Bodies.{IsOfRead}

-- ---- the length of lines that are written, each with its end

weight : List (List ℕ) → ℕ
weight lines = length (ended lines)

no_weight : weight [] ≡ 0
unfolding weight
no_weight = refl

one_weight : (line : List ℕ) (lines : List (List ℕ)) → weight (line ∷ lines) ≡ length line + 2 + weight lines
unfolding weight
one_weight line lines = simp length-append (omega arith)

both_weights : (xs ys : List (List ℕ)) → weight (xs ++ ys) ≡ weight xs + weight ys
both_weights [] ys = omega (arith, no_weight)
both_weights (x ∷ xs) ys = omega (arith, one_weight x xs, one_weight x (xs ++ ys), both_weights xs ys)

-- ---- the lines of a text

ends_length : (line rest text : List ℕ) → Ends line rest text → length line + 1 + length rest ≤ length text
ends_length line rest text (inl e) = rw e (simp length-append (omega arith))
ends_length line rest text (inr e) = rw e (simp length-append (omega arith))

lines_weigh : (lines : List (List ℕ)) (text : List ℕ) → IsLines lines text → weight lines ≤ 2 * length text + 2
lines_weigh [] text h = omega (arith, no_weight)
lines_weigh (line ∷ lines) text (inl h) = rw (h.0, h.1) (omega (arith, one_weight line [], no_weight))
lines_weigh (line ∷ lines) text (inr h) = omega (arith, one_weight line lines, ends_length line h.0 text h.1, lines_weigh lines h.0 h.2)

-- ---- numbers and addresses

number_length : (n : ℕ) → n < 2 ^ 64 → length (decimal n) ≤ 20
number_length n h = length-decimal-le 20 n (omega arith) (omega (arith, h)) h

port_length : (n : ℕ) → n ≤ 65535 → length (decimal n) ≤ 20
port_length n h = number_length n (omega (arith, h))

-- the four numbers of an address
record AreShort (ip : List ℕ) : Type 0 where
  one : length (decimal (slice_index ip 0)) ≤ 20
  two : length (decimal (slice_index ip 1)) ≤ 20
  three : length (decimal (slice_index ip 2)) ≤ 20
  four : length (decimal (slice_index ip 3)) ≤ 20

octets_short : (ip : List ℕ) → ((i : ℕ) → slice_index ip i ≤ 255) → AreShort ip
octets_short ip octets = record {
  one = port_length (slice_index ip 0) (omega (arith, octets 0));
  two = port_length (slice_index ip 1) (omega (arith, octets 1));
  three = port_length (slice_index ip 2) (omega (arith, octets 2));
  four = port_length (slice_index ip 3) (omega (arith, octets 3));
}

hold_short : AreShort hold_address
hold_short = record { one = port_length 0 (omega arith); two = port_length 0 (omega arith); three = port_length 0 (omega arith); four = port_length 0 (omega arith) }

connection_weighs : (ip : List ℕ) (a : Option Address) → AreShort ip → weight (connection_lines (option_map (readdressed_address ip) a)) ≤ 100
connection_weighs ip None h = omega (arith, no_weight)
connection_weighs ip (Some a) h = by (is_hold a)
  where
    of : (octets : List ℕ) → AreShort octets → weight (connection_lines (Some (Ip4 octets))) ≤ 100
    of octets short =
        let line : length (codes "c=" ++ address_text (Ip4 octets)) ≤ 95 = simp length-append (omega arith) in
        omega (arith, one_weight (codes "c=" ++ address_text (Ip4 octets)) [], no_weight, line)

    by : (b : Bool) → weight (connection_lines (Some (cond b (Ip4 hold_address) (Ip4 ip)))) ≤ 100
    by true = of hold_address hold_short
    by false = of ip h

origin_length : (origin : ServerOrigin) (ports : List ℕ) → AreOfTheirSizes origin ports → length (origin_line (origin_of origin)) ≤ 200
unfolding origin_of
origin_length origin ports sizes =
    let short = octets_short origin.ip sizes.octets in
    let id = number_length origin.id sizes.id in
    let version = number_length origin.version sizes.version in
    simp length-append (omega (arith, id, version))

-- ---- lines that are kept

kept_weigh : (lines : List Line) → weight (map line_text (kept_lines lines)) ≤ weight (map line_text lines)
kept_weigh [] = omega arith
kept_weigh (l ∷ ls) = by (is_kept l) (kept_weigh ls)
  where
    by : (b : Bool) → weight (map line_text (kept_lines ls)) ≤ weight (map line_text ls) → weight (map line_text (cond b (l ∷ kept_lines ls) (kept_lines ls))) ≤ weight (map line_text (l ∷ ls))
    by true h = omega (arith, h, one_weight (line_text l) (map line_text (kept_lines ls)), one_weight (line_text l) (map line_text ls))
    by false h = omega (arith, h, one_weight (line_text l) (map line_text ls))

-- ---- a medium

raw_length : (r : RawMedium) → length r.kind + length r.proto + length r.formats + 3 ≤ length (raw_medium_text r)
raw_length r = simp length-append (omega arith)

-- formats are written as they were, with a space before the first
onto_length : (b : ℕ) (pieces : List (List ℕ)) → 0 < length pieces → length (formats_text (onto_first b pieces)) ≡ length (formats_text pieces) + 1
onto_length b [] h = absurd (omega (arith, h))
onto_length b (piece ∷ pieces) h = simp length-append (omega arith)

onto_some : (b : ℕ) (pieces : List (List ℕ)) → 0 < length (onto_first b pieces)
onto_some b [] = omega arith
onto_some b (piece ∷ pieces) = omega arith

split_some : (text : List ℕ) → 0 < length (formats_of text)
split_some [] = omega arith
split_some (b ∷ bs) = by (b == 32) (split_some bs)
  where
    by : (t : Bool) → 0 < length (formats_of bs) → 0 < length (cond t ([] ∷ formats_of bs) (onto_first b (formats_of bs)))
    by true h = omega arith
    by false h = onto_some b (formats_of bs)

formats_length : (text : List ℕ) → length (formats_text (formats_of text)) ≡ length text + 1
formats_length [] = refl
formats_length (b ∷ bs) = by (b == 32) (formats_length bs)
  where
    by : (t : Bool) → length (formats_text (formats_of bs)) ≡ length bs + 1 → length (formats_text (cond t ([] ∷ formats_of bs) (onto_first b (formats_of bs)))) ≡ length (b ∷ bs) + 1
    by true h = omega (arith, h)
    by false h = omega (arith, h, onto_length b (formats_of bs) (split_some bs))

abbrev IsSmallIf : Option ℕ → Type 0
IsSmallIf None = Unit {0}
IsSmallIf (Some n) = n ≤ 65535

count_small : (r : RawMedium) → IsSmallIf (count_of r)
count_small r = of r.count
  where
    by : (text : List ℕ) (b : Bool) → (list_all is_ascii_digit text && nat_le (digits_value 10 text) 65535) ≡ b → IsSmallIf (cond b (Some (digits_value 10 text)) None)
    by text true e = leb-true (digits_value 10 text) 65535 (and_parts _ _ e).1
    by text false e = tt

    of : (count : Option (List ℕ)) → IsSmallIf (option_and_then (λ text. cond (list_all is_ascii_digit text && nat_le (digits_value 10 text) 65535) (Some (digits_value 10 text)) None) count)
    of None = tt
    of (Some text) = by text (list_all is_ascii_digit text && nat_le (digits_value 10 text) 65535) refl

count_length : (count : Option ℕ) → IsSmallIf count → length (count_text count) ≤ 21
count_length None h = omega arith
count_length (Some n) h = omega (arith, port_length n h)

told_length : (port : ℕ) (m : Media) → port ≤ 65535 → length (decimal (told_port port m)) ≤ 20
told_length port m fits = by (m.port == 0)
  where
    by : (b : Bool) → length (decimal (cond b 0 port)) ≤ 20
    by true = port_length 0 (omega arith)
    by false = port_length port fits

medium_line_length : (m : Media) → length (medium_line m) ≡ 4 + length m.kind + length (decimal m.port) + length (count_text m.count) + length m.proto + length (formats_text m.formats)
medium_line_length m = simp length-append (omega arith)

line_length : (ip : List ℕ) (port : ℕ) (m : Media) (value : List ℕ) → port ≤ 65535 → SaysMedium value m → length (medium_line (readdressed_medium ip port m)) ≤ length value + 60
unfolding readdressed_medium
line_length ip port m value fits h =
    let whole = ap (λ (text : List ℕ). length text) h.whole in
    let kind = ap (λ (text : List ℕ). length text) h.kind in
    let proto = ap (λ (text : List ℕ). length text) h.proto in
    let formats : length (formats_text m.formats) ≡ length h.raw.formats + 1 = ap (λ (formats : List (List ℕ)). length (formats_text formats)) h.formats ∙ formats_length h.raw.formats in
    let told = told_length port m fits in
    let count = count_length m.count (subst IsSmallIf (sym h.count) (count_small h.raw)) in
    let line = medium_line_length (readdressed_medium ip port m) in
    let raw = raw_length h.raw in
    omega (arith, whole, kind, proto, formats, told, count, line, raw)

-- what is under m=, as it is written and as it was read
under_weighs : (ip : List ℕ) (m : Media) (under : List (List ℕ)) → AreShort ip → SaysUnder under m
    → weight (info_lines m.info ++ (connection_lines (option_map (readdressed_address ip) m.connection) ++ map line_text (kept_lines m.after))) ≤ weight under + 100
under_weighs ip m under short h =
    let info = info_lines m.info in
    let after = map line_text m.after in
    let kept = map line_text (kept_lines m.after) in
    let own = connection_lines (option_map (readdressed_address ip) m.connection) in
    let whole = ap weight h.whole in
    let a = both_weights info (h.connection ++ after) in
    let b = both_weights h.connection after in
    let c = both_weights info (own ++ kept) in
    let d = both_weights own kept in
    let e = kept_weigh m.after in
    let f = connection_weighs ip m.connection short in
    omega (arith, whole, a, b, c, d, e, f)

-- a medium as it is written, and the lines that it was read of
medium_weighs : (ip : List ℕ) (port : ℕ) (m : Media) (lines more : List (List ℕ)) → AreShort ip → port ≤ 65535 → BeginsMedium lines more m
    → weight (media_lines (readdressed_medium ip port m)) + 64 * weight more ≤ 64 * weight lines
unfolding readdressed_medium
medium_weighs ip port m lines more short fits h =
    let own = info_lines m.info ++ (connection_lines (option_map (readdressed_address ip) m.connection) ++ map line_text (kept_lines m.after)) in
    let whole = ap weight h.whole in
    let a = one_weight (codes "m=" ++ h.value) (h.under ++ more) in
    let b = both_weights h.under more in
    let c = one_weight (medium_line (readdressed_medium ip port m)) own in
    let d = line_length ip port m h.value fits h.says_medium in
    let e = under_weighs ip m h.under short h.says_under in
    omega (arith, whole, a, b, c, d, e)

media_weigh : (ip ports : List ℕ) (media : List Media) (lines : List (List ℕ)) → AreShort ip → ((i : ℕ) → slice_index ports i ≤ 65535) → SaysMedia lines media
    → weight (flat_map media_lines (readdressed_media ip ports media)) ≤ 64 * weight lines
media_weigh ip [] media lines short fits h = omega (arith, no_weight)
media_weigh ip (port ∷ ports) [] lines short fits h = omega (arith, no_weight)
media_weigh ip (port ∷ ports) (m ∷ ms) lines short fits h =
    let one = medium_weighs ip port m lines h.0 short (fits 0) h.1 in
    let more = media_weigh ip ports ms h.0 short (λ i. fits (suc i)) h.2 in
    let both = both_weights (media_lines (readdressed_medium ip port m)) (flat_map media_lines (readdressed_media ip ports ms)) in
    omega (arith, one, more, both)

-- ---- all

lines_written : (origin : ServerOrigin) (ports : List ℕ) (d : Description) (lines : List (List ℕ)) → AreOfTheirSizes origin ports → SaysDescription lines d
    → weight (description_lines (readdressed_description origin ports d)) ≤ 64 * weight lines + 400
unfolding description_lines readdressed_description
lines_written origin ports d lines sizes h =
    let short = octets_short origin.ip sizes.octets in
    let before = map line_text d.before in
    let own = connection_lines (option_map (readdressed_address origin.ip) d.connection) in
    let after = map line_text d.after in
    let kept = map line_text (kept_lines d.after) in
    let told = flat_map media_lines (readdressed_media origin.ip ports d.media) in
    let line = origin_line (origin_of origin) in
    let whole = ap weight h.whole in
    let a = one_weight (codes "v=0") ((codes "o=" ++ h.origin_value) ∷ (before ++ (h.connection ++ (after ++ h.media)))) in
    let b = one_weight (codes "o=" ++ h.origin_value) (before ++ (h.connection ++ (after ++ h.media))) in
    let c = both_weights before (h.connection ++ (after ++ h.media)) in
    let e = both_weights h.connection (after ++ h.media) in
    let f = both_weights after h.media in
    let g = one_weight (codes "v=0") (line ∷ (before ++ (own ++ (kept ++ told)))) in
    let i = one_weight line (before ++ (own ++ (kept ++ told))) in
    let j = both_weights before (own ++ (kept ++ told)) in
    let k = both_weights own (kept ++ told) in
    let l = both_weights kept told in
    let o = origin_length origin ports sizes in
    let p = connection_weighs origin.ip d.connection short in
    let q = kept_weigh d.after in
    let r = media_weigh origin.ip ports d.media h.media short sizes.each_port h.says_media in
    omega (arith, whole, a, b, c, e, f, g, i, j, k, l, o, p, q, r)

text_written : (text : List ℕ) (d : Description) (origin : ServerOrigin) (ports : List ℕ) → ReadsDescription text d → AreOfTheirSizes origin ports
    → length (description_text (readdressed_description origin ports d)) ≤ 128 * length text + 528
unfolding weight description_text
text_written text d origin ports h sizes = omega (arith, lines_written origin ports d h.lines sizes h.says, lines_weigh h.lines text h.are_lines)

pub written_short : (ip : List ℕ) (d : Description) → IsOfRead ip d → length (description_text d) ≤ max_content_length
written_short ip d h =
    let r = h.readdressed in
    subst (λ (x : Description). length (description_text x) ≤ max_content_length) (sym r.whole) (omega (arith, text_written h.read.text h.taken r.origin r.ports h.read.reads r.sizes, h.read.fits))
