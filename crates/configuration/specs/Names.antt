-- Names of users and of the domain.
use Rattle.std.specs.Prelude.{ℕ, Bool, not, ◌&&◌, ◌||◌, nat_le, List, length, codes, is_some}
use Rattle.std.specs.List.{list_all}
use Rattle.std.specs.Char.{is_ascii_alphanumeric}
use Rattle.text.specs.Class.{is_one_of}
use Rattle.sip_uri.specs.Hosts.{is_host, ip4_of}
use Rattle.configuration.specs.Limits.{max_user_bytes}
use Rattle.configuration.specs.Ranges.{is_like_range}

-- a letter, a digit, `-`, `_` or `.`
abbrev pub is_name_byte : ℕ → Bool
is_name_byte b = is_ascii_alphanumeric b || is_one_of (codes "-_.") b

-- 1 to 64 of these, and nothing that is written as a range, whose names take its place
abbrev pub is_user : List ℕ → Bool
is_user text = nat_le 1 (length text) && nat_le (length text) max_user_bytes && list_all is_name_byte text && not (is_like_range text)

-- a host that is no address (RFC 3261 section 25.1: hostname)
abbrev pub is_domain : List ℕ → Bool
is_domain text = is_host text && not (is_some (ip4_of text))
