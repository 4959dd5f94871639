-- What can be answered for a request that can't be read (RFC 3261 section 8.2.6): the values that a response repeats,
-- each read by itself.
use Rattle.std.specs.Prelude.{ℕ, Bool, false, not, ◌&&◌, nat_eq, List, [], ◌∷◌, codes, Option, Some, None, option_map, option_and_then, if◌then◌else◌}
use Rattle.std.specs.Cmp.Lexicographic.{pointwise}
use Rattle.text.specs.Cut.{before, after}
use Rattle.sip_message.specs.declared.cseq.Sequence.{Sequence}
use Rattle.header_fields.specs.declared.headers.Header.{Header}
use Rattle.sip_message.specs.declared.message.Parts.{Parts}
use Rattle.sip_message.specs.declared.party.Ends.{Ends}
use Rattle.sip_message.specs.declared.party.Party.{Party}
use Rattle.sip_message.specs.declared.via.Via.{Via}
use Rattle.sip_message.specs.CSeq.{cseq_of}
use Rattle.header_fields.specs.Fields.{readable_headers}
use Rattle.sip_message.specs.CallId.{is_call_id}
use Rattle.header_fields.specs.Lines.{before_line_end, after_line_end, ended_lines}
use Rattle.sip_message.specs.Lookup.{value_named}
use Rattle.sip_message.specs.Party.{party_of}
use Rattle.sip_message.specs.Start.{begins_sip, is_part}
use Rattle.sip_message.specs.Via.{each_via, via_texts}
use Rattle.sip_message.specs.Values.{parts_with}

-- ---- the request line

abbrev pub is_part_there : Option (List ℕ) → Bool
is_part_there None = false
is_part_there (Some text) = is_part text

abbrev pub are_two_parts : Option (List ℕ) → Bool
are_two_parts None = false
are_two_parts (Some text) = is_part (before 32 text) && is_part_there (after 32 text)

-- a method that gets a response: an ACK gets none (section 17), and a first line that begins with `SIP/` is that of a
-- response
abbrev pub asks_answer : List ℕ → Bool
asks_answer method = is_part method && not (begins_sip method) && not (pointwise nat_eq method (codes "ACK"))

-- three parts separated by single spaces, whatever they are
abbrev pub is_asking_line : List ℕ → Bool
is_asking_line line = asks_answer (before 32 line) && are_two_parts (after 32 line)

-- ---- the values

-- each Via is read, and there is one
abbrev pub vias_there : List (List ℕ) → Option (List Via)
vias_there [] = None
vias_there (text ∷ texts) = each_via (text ∷ texts)

-- of header fields that occur twice, the first is read; From needs no tag here
abbrev pub party_at : List ℕ → Option Party
party_at text = option_map (λ name. record { text = text; name = name }) (party_of text)

abbrev pub first_party : List ℕ → List Header → Option Party
first_party name headers = option_and_then party_at (value_named name headers)

abbrev pub if_call_id : List ℕ → Option (List ℕ)
if_call_id text = if is_call_id text then Some text else None

abbrev pub first_call_id : List Header → Option (List ℕ)
first_call_id headers = option_and_then if_call_id (value_named (codes "Call-ID") headers)

-- the method need not be the request's
abbrev pub sequence_at : List ℕ → Option Sequence
sequence_at text = option_map (λ cseq. record { text = text; cseq = cseq }) (cseq_of text)

abbrev pub first_sequence : List Header → Option Sequence
first_sequence headers = option_and_then sequence_at (value_named (codes "CSeq") headers)

abbrev pub first_ends : List Header → Option Ends
first_ends headers =
    option_and_then (λ from. option_map (λ to. record { from = from; to = to }) (first_party (codes "To") headers)) (first_party (codes "From") headers)

unfoldable pub parts_among : List Header → Option Parts
parts_among headers =
    option_and_then (λ vias.
    option_and_then (λ ends.
    option_and_then (λ call_id.
    option_map (λ cseq. parts_with vias ends.from ends.to call_id cseq) (first_sequence headers))
    (first_call_id headers))
    (first_ends headers))
    (vias_there (via_texts headers))

-- ---- all

abbrev pub parts_behind : Option (List ℕ) → Option Parts
parts_behind None = None
parts_behind (Some rest) = parts_among (readable_headers (ended_lines rest))

-- what a response to the datagram repeats; none if it can't be answered
unfoldable pub answerable_of : List ℕ → Option Parts
answerable_of text = if is_asking_line (before_line_end text) then parts_behind (after_line_end text) else None
