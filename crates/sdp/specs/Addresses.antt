-- The address of a c= line (RFC 4566 sections 5.7 and 9).
use Rattle.std.specs.Prelude.{◌≡◌, ℕ, Bool, false, not, ◌&&◌, ◌||◌, ◌==◌, nat_eq, nat_le, nat_lt, IsTrue, List, [], ◌∷◌, ◌++◌, take, drop, length, codes, Option, Some, None, is_some, option_and_then, slice_index, if◌then◌else◌}
use Rattle.std.specs.List.{list_all}
use Rattle.std.specs.Cmp.Lexicographic.{pointwise}
use Rattle.std.specs.Char.{is_ascii_alphanumeric, is_ascii_digit}
use Rattle.text.specs.Class.{is_one_of, is_run_of, passes_if_there}
use Rattle.text.specs.Cut.{before, after}
use Rattle.text.specs.Number.{number_upto}
use Rattle.sdp.specs.declared.address.Address.{Address}
use Rattle.sdp.specs.declared.address.Address.TheVariants.{Ip4, Multicast, Ip6, Name}
use Rattle.sdp.specs.Classes.{begins, is_integer, is_word}

-- ---- four octets

-- one or more digits without a leading 0, at most 255
unfoldable pub octet_of : List ℕ → Option ℕ
octet_of text =
    if is_run_of is_ascii_digit text && (length text == 1 || not (begins (codes "0") text)) then number_upto 255 text else None

-- four octets with dots between them
unfoldable pub ip4_of : List ℕ → Option (List ℕ)
ip4_of text =
    option_and_then (λ b.
    option_and_then (λ c.
    option_and_then (λ d.
    option_and_then (λ x0.
    option_and_then (λ x1.
    option_and_then (λ x2.
    option_and_then (λ x3. Some (x0 ∷ x1 ∷ x2 ∷ x3 ∷ []))
    (octet_of d)) (octet_of (before 46 c))) (octet_of (before 46 b))) (octet_of (before 46 text)))
    (after 46 c)) (after 46 b)) (after 46 text)

-- ---- the kinds

-- below 224.0.0.0
abbrev pub is_unicast : List ℕ → Bool
is_unicast octets = nat_lt (slice_index octets 0) 224

-- from 224.0.0.0 to 239.255.255.255
abbrev pub is_group_address : Option (List ℕ) → Bool
is_group_address None = false
is_group_address (Some octets) = nat_le 224 (slice_index octets 0) && nat_lt (slice_index octets 0) 240

-- `/ttl` and perhaps `/count`
abbrev pub is_scope : Option (List ℕ) → Bool
is_scope None = false
is_scope (Some text) = is_some (octet_of (before 47 text)) && passes_if_there is_integer (after 47 text)

-- an address with `/ttl`, and perhaps a count
unfoldable pub is_multicast : List ℕ → Bool
is_multicast text = is_group_address (ip4_of (before 47 text)) && is_scope (after 47 text)

abbrev pub is_name_byte : ℕ → Bool
is_name_byte b = is_ascii_alphanumeric b || is_one_of (codes "-.") b

abbrev pub is_dotted_byte : ℕ → Bool
is_dotted_byte b = is_ascii_digit b || b == 46

-- four or more letters, digits, hyphens and dots (FQDN), not only digits and dots
unfoldable pub is_name : List ℕ → Bool
is_name text = nat_le 4 (length text) && list_all is_name_byte text && not (list_all is_dotted_byte text)

-- ---- as a relation

-- the value of a c= line is this address; an IPv6 address is any text without blanks
abbrev pub IsAddress : List ℕ → Address → Type 0
IsAddress value (Ip4 octets) = (text : List ℕ) × (value ≡ codes "IN IP4 " ++ text) × (ip4_of text ≡ Some octets) × IsTrue (is_unicast octets)
IsAddress value (Multicast text) = (value ≡ codes "IN IP4 " ++ text) × IsTrue (is_multicast text)
IsAddress value (Ip6 text) = (value ≡ codes "IN IP6 " ++ text) × IsTrue (is_word text)
IsAddress value (Name text) = (value ≡ codes "IN IP4 " ++ text) × IsTrue (is_name text)

-- ---- as a function

abbrev pub unicast_of : Option (List ℕ) → Option Address
unicast_of None = None
unicast_of (Some octets) = if is_unicast octets then Some (Ip4 octets) else None

unfoldable pub inet_of : List ℕ → Option Address
inet_of text =
    if is_name text then Some (Name text) else (if is_multicast text then Some (Multicast text) else unicast_of (ip4_of text))

-- what comes after this front, if the text has it
abbrev pub behind : List ℕ → List ℕ → Option (List ℕ)
behind front text = if pointwise nat_eq (take (length front) text) front then Some (drop (length front) text) else None

abbrev pub address_from : Option (List ℕ) → Option (List ℕ) → Option Address
address_from (Some text) other = inet_of text
address_from None (Some text) = if is_word text then Some (Ip6 text) else None
address_from None None = None

unfoldable pub address_of : List ℕ → Option Address
address_of value = address_from (behind (codes "IN IP4 ") value) (behind (codes "IN IP6 ") value)
