-- IPv4 addresses and host names (RFC 3261 section 25.1).
use Rattle.std.specs.Prelude.{ℕ, Bool, false, ◌&&◌, ◌||◌, ◌==◌, nat_lt, List, [], ◌∷◌, length, Option, Some, None, is_some, option_and_then, if◌then◌else◌}
use Rattle.std.specs.List.{list_all, slice_split}
use Rattle.std.specs.Char.{is_ascii_alphabetic, is_ascii_digit, is_ascii_alphanumeric}
use Rattle.text.specs.Class.{is_run_of}
use Rattle.text.specs.Cut.{before, after}
use Rattle.text.specs.Number.{number_upto}
use Rattle.sip_uri.specs.Classes.{is_label_byte}

-- ---- addresses

-- one to three digits, at most 255
unfoldable pub octet_of : List ℕ → Option ℕ
octet_of text = if is_run_of is_ascii_digit text && nat_lt (length text) 4 then number_upto 255 text else None

-- four octets with dots between them
unfoldable pub ip4_of : List ℕ → Option (List ℕ)
ip4_of text =
    option_and_then (λ b.
    option_and_then (λ c.
    option_and_then (λ d.
    option_and_then (λ x0.
    option_and_then (λ x1.
    option_and_then (λ x2.
    option_and_then (λ x3. Some (x0 ∷ x1 ∷ x2 ∷ x3 ∷ []))
    (octet_of d)) (octet_of (before 46 c))) (octet_of (before 46 b))) (octet_of (before 46 text)))
    (after 46 c)) (after 46 b)) (after 46 text)

-- ---- names

abbrev pub begins_with : (ℕ → Bool) → List ℕ → Bool
begins_with p [] = false
begins_with p (b ∷ bs) = p b

abbrev pub ends_with : (ℕ → Bool) → List ℕ → Bool
ends_with p [] = false
ends_with p (b ∷ []) = p b
ends_with p (b ∷ x ∷ bs) = ends_with p (x ∷ bs)

-- letters, digits and inner hyphens
abbrev pub is_label : List ℕ → Bool
is_label text = list_all is_label_byte text && begins_with is_ascii_alphanumeric text && ends_with is_ascii_alphanumeric text

-- the text without a dot at its end
abbrev pub without_dot : List ℕ → List ℕ
without_dot [] = []
without_dot (b ∷ bs) = if b == 46 && length bs == 0 then [] else b ∷ without_dot bs

-- the last of the labels
abbrev pub top_label : List ℕ → List (List ℕ) → List ℕ
top_label label [] = label
top_label label (next ∷ rest) = top_label next rest

-- labels with dots between them, the last of which begins with a letter; there may be a dot at the end
unfoldable pub is_hostname : List ℕ → Bool
is_hostname text =
    let labels = slice_split (λ b. b == 46) (without_dot text) in
    list_all is_label labels && begins_with is_ascii_alphabetic (top_label [] labels)

-- whether this byte may come after that one, with a dot before and after each label
abbrev pub may_follow : ℕ → ℕ → Bool
may_follow last b = if b == 46 then is_ascii_alphanumeric last else if last == 46 then is_ascii_alphanumeric b else is_label_byte b

-- what may be left of such labels after this byte, given whether the label that it is in begins with a letter
abbrev pub goes_on : ℕ → Bool → List ℕ → Bool
goes_on last letter [] = letter && is_ascii_alphanumeric last
goes_on last letter (b ∷ bs) = may_follow last b && goes_on b (if last == 46 then is_ascii_alphabetic b else letter) bs

-- four octets, or a name
unfoldable pub is_host : List ℕ → Bool
is_host text = is_some (ip4_of text) || is_hostname text
