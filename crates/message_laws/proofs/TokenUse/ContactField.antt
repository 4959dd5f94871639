-- The Contact of the server's own: it is written, and is one address (RFC 3261 section 20.10).
use Rattle.std.proofs.Common.{◌≡◌, ◌∙◌, ℕ, ◌<◌, ◌≤◌, ◌^◌, ◌==◌, Bool, true, not, List, [], ◌∷◌, ◌++◌, codes, decimal, length, Some, None, refl, sym, ap, inl, inr, arith, append_assoc}
use Rattle.std.specs.Prelude.{nat_eq, slice_index}
use Rattle.std.specs.Char.{is_ascii_digit}
use Rattle.std.specs.Cmp.Lexicographic.{pointwise}
use Rattle.std.specs.List.{list_all, onto_first}
use Rattle.std.proofs.lemmas.Bool.{and_from, and_parts, lt-ltb, ne_eqb, not-true}
use Rattle.std.proofs.lemmas.Fmt.{decimal_nonempty}
use Rattle.std.proofs.lemmas.List.{append-nil}
use Rattle.std.proofs.lemmas.List.Folds.{list_all-append}
use Rattle.std.proofs.lemmas.Slice.Eq.{bytes_eq-Decides}
use Rattle.text.specs.Class.{is_blank, is_run_of}
use Rattle.text.specs.Pieces.{pieces}
use Rattle.text.specs.Trim.{trimmed, without_blanks, without_end}
use Rattle.text.specs.declared.split.Within.TheVariants.{Angles, Nothing}
use Rattle.sip_uri.specs.declared.uri.Addr.{Addr}
use Rattle.sip_uri.specs.declared.uri.NameAddr.{NameAddr}
use Rattle.sip_uri.specs.FieldParams.{field_params_of}
use Rattle.sip_uri.specs.Grammar.{ReadsUri}
use Rattle.sip_uri.specs.Hosts.{ip4_of, is_host}
use Rattle.sip_uri.specs.NameAddr.{ReadsNameAddr}
use Rattle.sip_uri.specs.NameParts.{RawName, stands_well}
use Rattle.sip_uri.specs.RawUri.{RawUri, has_good_escapes, has_good_port, is_raw}
use Rattle.sip_uri.specs.Reading.{value_of}
use Rattle.sip_uri.specs.Writing.{ip4_text}
use Rattle.sip_message.specs.declared.contact.ContactValue.TheVariants.{Address}
use Rattle.sip_message.specs.Contact.{contact_of, contacts_of, is_one_address}
use Rattle.sip_message.specs.HeaderNames.{long_name}
use Rattle.sip_message.specs.Lines.{is_text_byte}
use Rattle.sip_message.specs.Written.{is_written}
use Rattle.call_messages.specs.Messages.{contact}
use Rattle.message_laws.specs.Addresses.{IsReached, IsSource}
use Rattle.message_laws.proofs.TokenUse.Grounds.{address_reads, name_reads, number_reads}
use Rattle.message_laws.proofs.TokenUse.TokenRuns.{DigitsPass, decimal_passes}

-- ---- texts without blanks

solid_front : (text : List ℕ) → list_all (λ b. not (is_blank b)) text ≡ true → without_blanks text ≡ text
solid_front [] h = refl
solid_front (b ∷ bs) h = rw (not-true (is_blank b) (and_parts _ _ h).0) refl

solid_end : (text : List ℕ) → list_all (λ b. not (is_blank b)) text ≡ true → without_end text ≡ text
solid_end [] h = refl
solid_end (b ∷ bs) h = let parts = and_parts (not (is_blank b)) (list_all (λ x. not (is_blank x)) bs) h in rw (not-true (is_blank b) parts.0, solid_end bs parts.1) refl

pub solid_trimmed : (text : List ℕ) → list_all (λ b. not (is_blank b)) text ≡ true → trimmed text ≡ text
solid_trimmed text h = ap without_end (solid_front text h) ∙ solid_end text h

pub bytes_same : {xs ys : List ℕ} → xs ≡ ys → pointwise nat_eq xs ys ≡ true
bytes_same {xs} {ys} e = (bytes_eq-Decides xs ys).1 e

-- ---- the bytes of an address

all_joined : (p : ℕ → Bool) (xs ys : List ℕ) → list_all p xs ≡ true → list_all p ys ≡ true → list_all p (xs ++ ys) ≡ true
all_joined p xs ys h k = list_all-append p xs ys ∙ and_from _ _ h k

small : (n limit : ℕ) → n ≤ limit → limit < 2 ^ 64 → n < 2 ^ 64
small n limit le lt = omega (arith, le, lt)

octet_passes : (p : ℕ → Bool) → DigitsPass p → (ip : List ℕ) (i : ℕ) → slice_index ip i ≤ 255 → list_all p (decimal (slice_index ip i)) ≡ true
octet_passes p digits ip i le = decimal_passes p digits (slice_index ip i) (small _ 255 le (omega arith))

dot_more : (p : ℕ → Bool) (front back : List ℕ) → p 46 ≡ true → list_all p front ≡ true → list_all p back ≡ true → list_all p (front ++ 46 ∷ [] ++ back) ≡ true
dot_more p front back dot h k = all_joined p (front ++ 46 ∷ []) back (all_joined p front (46 ∷ []) h (and_from _ _ dot refl)) k

ip_passes : (p : ℕ → Bool) → DigitsPass p → p 46 ≡ true → (ip : List ℕ) → ((i : ℕ) → slice_index ip i ≤ 255) → list_all p (ip4_text ip) ≡ true
ip_passes p digits dot ip octets =
    let text : ℕ → List ℕ = λ i. decimal (slice_index ip i) in
    let at : (i : ℕ) → list_all p (text i) ≡ true = λ i. octet_passes p digits ip i (octets i) in
    let second = dot_more p (text 0) (text 1) dot (at 0) (at 1) in
    let third = dot_more p (text 0 ++ 46 ∷ [] ++ text 1) (text 2) dot second (at 2) in
    dot_more p (text 0 ++ 46 ∷ [] ++ text 1 ++ 46 ∷ [] ++ text 2) (text 3) dot third (at 3)

-- ---- sip:ADDRESS:PORT

abbrev uri_text_of : Addr → List ℕ
uri_text_of server = codes "sip:" ++ (ip4_text server.ip ++ (58 ∷ decimal server.port))

port_small : (server : Addr) → IsSource server → server.port < 2 ^ 64
port_small server source = small server.port 65535 source.port (omega arith)

uri_passes : (p : ℕ → Bool) → DigitsPass p → p 46 ≡ true → p 58 ≡ true → list_all p (codes "sip:") ≡ true → (server : Addr) → IsSource server → list_all p (uri_text_of server) ≡ true
uri_passes p digits dot colon scheme server source =
    all_joined p (codes "sip:") (ip4_text server.ip ++ (58 ∷ decimal server.port)) scheme (all_joined p (ip4_text server.ip) (58 ∷ decimal server.port) (ip_passes p digits dot server.ip source.octets) (and_from _ _ colon (decimal_passes p digits server.port (port_small server source))))

abbrev raw_uri : Addr → RawUri
raw_uri server = record { user = None; host = ip4_text server.ip; port = Some (decimal server.port); params = None; headers = None }

four_again : (ip : List ℕ) → length ip ≡ 4 → ((i : ℕ) → slice_index ip i ≤ 255) → ip4_of (ip4_text ip) ≡ Some ip
four_again [] four k = absurd cc
four_again (a ∷ []) four k = absurd cc
four_again (a ∷ b ∷ []) four k = absurd cc
four_again (a ∷ b ∷ c ∷ []) four k = absurd cc
four_again (a ∷ b ∷ c ∷ d ∷ []) four k = address_reads a b c d (k 0) (k 1) (k 2) (k 3)
four_again (a ∷ b ∷ c ∷ d ∷ e ∷ more) four k = absurd (omega (arith, four))

host_stands : (server : Addr) → IsReached server → is_host (ip4_text server.ip) ≡ true
unfolding is_host
host_stands server h = rw (four_again server.ip h.four h.source.octets) refl

port_run : (n : ℕ) → n < 2 ^ 64 → is_run_of is_ascii_digit (decimal n) ≡ true
port_run n lt = and_from _ _ (rw (ne_eqb (length (decimal n)) 0 (λ e. omega (arith, decimal_nonempty n lt, e))) refl) (decimal_passes is_ascii_digit refl n lt)

raw_stands : (server : Addr) → IsReached server → is_raw (raw_uri server) ≡ true
unfolding is_raw
raw_stands server h = rw (host_stands server h, port_run server.port (port_small server h.source)) refl

port_stands : (server : Addr) → IsReached server → has_good_port (raw_uri server) ≡ true
unfolding has_good_port
port_stands server h = rw (number_reads 65535 server.port h.source.port (port_small server h.source)) (lt-ltb 0 server.port h.port)

uri_reads : (server : Addr) → IsReached server → ReadsUri (uri_text_of server) (value_of (raw_uri server))
unfolding has_good_escapes
uri_reads server h = record {
  raw = raw_uri server;
  spelled = record {
    begins = record { scheme = codes "sip:"; is_sip = refl; whole = ap (λ (t : List ℕ). codes "sip:" ++ (ip4_text server.ip ++ (58 ∷ t))) (sym (append-nil (decimal server.port))) };
    form = raw_stands server h;
  };
  escapes = refl;
  port = port_stands server h;
  value = refl;
}

-- ---- <sip:ADDRESS:PORT>

abbrev contact_value : Addr → List ℕ
contact_value server = codes "<sip:" ++ ip4_text server.ip ++ codes ":" ++ decimal server.port ++ codes ">"

value_whole : (server : Addr) → contact_value server ≡ 60 ∷ (uri_text_of server ++ 62 ∷ [])
value_whole server = simp append_assoc

value_passes : (p : ℕ → Bool) → DigitsPass p → p 46 ≡ true → p 58 ≡ true → p 60 ≡ true → p 62 ≡ true → list_all p (codes "sip:") ≡ true → (server : Addr) → IsSource server
    → list_all p (contact_value server) ≡ true
value_passes p digits dot colon opening closing scheme server source =
    ap (list_all p) (value_whole server) ∙ and_from _ _ opening (all_joined p (uri_text_of server) (62 ∷ []) (uri_passes p digits dot colon scheme server source) (and_from _ _ closing refl))

abbrev contact_name : Addr → NameAddr
contact_name server = record { display = None; uri = value_of (raw_uri server); params = [] }

abbrev raw_name : Addr → RawName
raw_name server = record { display = None; uri = uri_text_of server; in_angles = true; params = None }

name_stands : (server : Addr) → IsReached server → ReadsNameAddr (contact_value server) (contact_name server)
unfolding stands_well field_params_of
name_stands server h = record {
  raw = raw_name server;
  fits = record {
    spelled = inr (inl (record { front = []; rest = []; whole = value_whole server; words = refl; closes = record { gap = []; blank = refl; whole = refl }; display = refl; in_angles = refl }));
    stands = refl;
    form = refl;
  };
  uri = uri_reads server h;
  display = refl;
  params = refl;
}

-- ---- the header field

pub contact_written : (server : Addr) → IsReached server → is_written (contact server) ≡ true
unfolding is_written long_name
contact_written server h =
    let clean = value_passes is_text_byte refl refl refl refl refl refl server h.source in
    let solid = value_passes (λ b. not (is_blank b)) refl refl refl refl refl refl server h.source in
    and_from _ _ (and_from _ _ refl clean) (bytes_same (solid_trimmed (contact_value server) solid))

-- in angle brackets no comma parts values
in_angles : (text : List ℕ) → list_all (λ b. not (b == 62)) text ≡ true → pieces 44 Angles (text ++ 62 ∷ []) ≡ (text ++ 62 ∷ []) ∷ []
in_angles [] h = refl
in_angles (b ∷ bs) h = let parts = and_parts (not (b == 62)) (list_all (λ x. not (x == 62)) bs) h in rw (not-true (b == 62) parts.0, in_angles bs parts.1) refl

one_piece : (server : Addr) → IsReached server → pieces 44 Nothing (contact_value server) ≡ contact_value server ∷ []
one_piece server h =
    ap (pieces 44 Nothing) (value_whole server) ∙ ap (onto_first 60) (in_angles (uri_text_of server) (uri_passes (λ b. not (b == 62)) refl refl refl refl server h.source))
    ∙ ap (λ (t : List ℕ). t ∷ []) (sym (value_whole server))

contact_is : (server : Addr) → IsReached server → contact_of (contact_value server) ≡ Address (contact_name server)
unfolding contact_of
contact_is server h = rw (name_reads (contact_value server) (contact_name server) (name_stands server h)) refl

pub contact_is_one : (server : Addr) → IsReached server → is_one_address (contacts_of (contact server ∷ [])) ≡ true
contact_is_one server h = rw (one_piece server h, contact_is server h) refl
