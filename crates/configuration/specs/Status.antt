-- Where the status page is served, which shows what the server does, as a file says it.
use Rattle.std.specs.Prelude.{ℕ, Bool, ◌||◌, ◌==◌, List, [], ◌∷◌, slice_index, Option, Some, None, option_and_then, if◌then◌else◌}
use Rattle.text.specs.Cut.{before, after}
use Rattle.text.specs.Number.{number_upto}
use Rattle.sip_uri.specs.Hosts.{ip4_of}
use Rattle.sip_uri.specs.declared.uri.Addr.{Addr}

-- a port from 1 to 65535: digits, the first of which is not 0
abbrev pub page_port : List ℕ → Option ℕ
page_port [] = None
page_port (digit ∷ digits) = if digit == 48 then None else number_upto 65535 (digit ∷ digits)

-- an IPv4 address in dotted form, a colon, and a port
abbrev pub page_addr : List ℕ → Option Addr
page_addr text =
    option_and_then (λ digits.
    option_and_then (λ ip.
    option_and_then (λ port. Some (record { ip = ip; port = port }))
    (page_port digits)) (ip4_of (before 58 text))) (after 58 text)

-- in 127.0.0.0/8
abbrev pub is_loopback : List ℕ → Bool
is_loopback ip = slice_index ip 0 == 127

-- the page's address: a loopback address, or any address if the page is open
abbrev pub page_at : Bool → List ℕ → Option Addr
page_at is_open text = option_and_then (λ addr. if is_open || is_loopback addr.ip then Some addr else None) (page_addr text)
