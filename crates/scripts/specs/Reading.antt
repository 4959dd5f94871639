-- The first event of a script, as a function of the text.
use Rattle.std.specs.Prelude.{ℕ, ◌+◌, Bool, true, false, ◌&&◌, ◌==◌, nat_eq, nat_le, nat_lt, List, length, slice_index, take, drop, codes, Option, Some, None, option_and_then, if◌then◌else◌}
use Rattle.std.specs.Cmp.Lexicographic.{pointwise}
use Rattle.text.specs.Cut.{before, after}
use Rattle.sip_uri.specs.Hosts.{ip4_of}
use Rattle.scripts.specs.Limits.{max_number, max_bytes}
use Rattle.scripts.specs.Numbers.{number_of, port_of}
use Rattle.scripts.specs.Values.{Entry, due_at, silent_at, names_of, users_at, datagram_at}
use Rattle.scripts.specs.declared.head.Head.{Head}

abbrev pub is_same : List ℕ → List ℕ → Bool
is_same text other = pointwise nat_eq text other

-- ---- a due timer

unfoldable pub timer_of : List ℕ → List ℕ → Option Entry
timer_of fields behind =
    option_and_then (λ now.
    option_and_then (λ salt_text.
    option_and_then (λ salt. Some (record { event = due_at now salt; rest = behind }))
    (number_of max_number salt_text)) (after 32 fields)) (number_of max_number (before 32 fields))

-- ---- a silent call

unfoldable pub silent_of : List ℕ → List ℕ → Option Entry
silent_of fields behind =
    option_and_then (λ more.
    option_and_then (λ now.
    option_and_then (λ salt.
    option_and_then (λ call_text.
    option_and_then (λ call. Some (record { event = silent_at now salt call; rest = behind }))
    (number_of max_number call_text)) (after 32 more)) (number_of max_number (before 32 more))) (number_of max_number (before 32 fields))) (after 32 fields)

-- ---- the office's users

unfoldable pub users_of : List ℕ → List ℕ → Option Entry
users_of fields behind =
    option_and_then (λ more.
    option_and_then (λ now.
    option_and_then (λ salt.
    option_and_then (λ names. Some (record { event = users_at now salt (names_of names); rest = behind }))
    (after 32 more)) (number_of max_number (before 32 more))) (number_of max_number (before 32 fields))) (after 32 fields)

-- ---- a datagram

-- what the five fields of its line say
unfoldable pub head_from : List ℕ → List ℕ → List ℕ → List ℕ → List ℕ → Option Head
head_from now_text salt_text ip_text port_text length_text =
    option_and_then (λ now.
    option_and_then (λ salt.
    option_and_then (λ ip.
    option_and_then (λ port.
    option_and_then (λ count. Some (record { now = now; salt = salt; source = record { ip = ip; port = port }; count = count }))
    (number_of max_bytes length_text)) (port_of port_text)) (ip4_of ip_text)) (number_of max_number salt_text)) (number_of max_number now_text)

unfoldable pub head_of : List ℕ → Option Head
head_of fields =
    option_and_then (λ b.
    option_and_then (λ c.
    option_and_then (λ d.
    option_and_then (λ e. head_from (before 32 fields) (before 32 b) (before 32 c) (before 32 d) e)
    (after 32 d)) (after 32 c)) (after 32 b)) (after 32 fields)

-- as many bytes, and the line feed after them
unfoldable pub bytes_of : Head → List ℕ → Option Entry
bytes_of head behind =
    if nat_lt head.count (length behind) && slice_index behind head.count == 10
    then Some (record {
      event = datagram_at head.now head.salt head.source (take head.count behind);
      rest = drop (head.count + 1) behind;
    })
    else None

abbrev pub datagram_of : List ℕ → List ℕ → Option Entry
datagram_of fields behind = option_and_then (λ head. bytes_of head behind) (head_of fields)

-- ---- each of the four

abbrev pub entry_of : List ℕ → List ℕ → List ℕ → Option Entry
entry_of kind fields behind =
    if is_same kind (codes "T") then timer_of fields behind
    else (if is_same kind (codes "Q") then silent_of fields behind
    else (if is_same kind (codes "U") then users_of fields behind
    else (if is_same kind (codes "D") then datagram_of fields behind else None)))

-- the event of the first line, with the bytes after the line
unfoldable pub next_of : List ℕ → Option Entry
next_of text =
    option_and_then (λ fields.
    option_and_then (λ behind. entry_of (before 32 (before 10 text)) fields behind)
    (after 10 text)) (after 32 (before 10 text))

-- ---- a text to which more may be added

-- fewer bytes than the line says, or as many without a line feed
abbrev pub lacks_bytes : Option Head → List ℕ → Bool
lacks_bytes None behind = false
lacks_bytes (Some head) behind = nat_le (length behind) head.count

-- the line is a datagram's, which is not yet whole
abbrev pub lacks_datagram : List ℕ → Option (List ℕ) → List ℕ → Bool
lacks_datagram kind None behind = false
lacks_datagram kind (Some fields) behind = is_same kind (codes "D") && lacks_bytes (head_of fields) behind

abbrev pub is_cut_behind : List ℕ → Option (List ℕ) → Bool
is_cut_behind line None = true
is_cut_behind line (Some behind) = lacks_datagram (before 32 line) (after 32 line) behind

-- the first line has no end, or its datagram is not yet whole
unfoldable pub is_cut_off : List ℕ → Bool
is_cut_off text = is_cut_behind (before 10 text) (after 10 text)
