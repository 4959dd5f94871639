-- The bytes that are allowed in each part of a URI (RFC 3261 section 25.1).
use Rattle.std.specs.Prelude.{ℕ, Bool, ◌||◌, ◌==◌, codes}
use Rattle.std.specs.Char.{is_ascii_alphanumeric}
use Rattle.text.specs.Class.{is_one_of}

abbrev pub is_unreserved : ℕ → Bool
is_unreserved b = is_ascii_alphanumeric b || is_one_of (codes "-_.!~*'()") b

-- what is written in a user without an escape; a password is part of the user
abbrev pub is_plain_user : ℕ → Bool
is_plain_user b = is_unreserved b || is_one_of (codes "&=+$,;?/:") b

abbrev pub is_user_byte : ℕ → Bool
is_user_byte b = is_plain_user b || b == 37

abbrev pub is_label_byte : ℕ → Bool
is_label_byte b = is_ascii_alphanumeric b || b == 45

abbrev pub is_param_byte : ℕ → Bool
is_param_byte b = is_unreserved b || is_one_of (codes "[]/:&+$%") b

abbrev pub is_header_byte : ℕ → Bool
is_header_byte b = is_unreserved b || is_one_of (codes "[]/?:+$%") b
