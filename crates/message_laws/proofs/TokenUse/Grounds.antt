-- What the crates below prove of what they read and write, by the words of their specs alone.
use Rattle.std.proofs.Common.{◌≡◌, ℕ, ◌<◌, ◌≤◌, ◌^◌, Bool, true, false, cond, List, [], ◌∷◌, decimal, Option, Some, None, Ok, refl, sym}
use Rattle.std.specs.Prelude.{IsTrue}
use Rattle.sip_message.specs.declared.error.MessageError.{MessageError}
use Rattle.sip_message.specs.declared.message.Message.{Message}
use Rattle.sip_message.specs.declared.message.Parts.{Parts}
use Rattle.sip_message.specs.AnswerableParts.{answerable_of, is_asking_line, parts_behind}
use Rattle.sip_message.specs.Lines.{after_line_end, before_line_end}
use Rattle.sip_message.specs.Read.{message_of}
use Rattle.sip_message.specs.Repeatable.{CanBeRepeated, parts_in}
use Rattle.sip_message.proofs.MessageLaws.{found_at}
use Rattle.sip_message.proofs.RepeatableLaws.{behind_at, repeatable_at}
use Rattle.sip_uri.specs.declared.uri.Addr.{Addr}
use Rattle.sip_uri.specs.declared.uri.NameAddr.{NameAddr}
use Rattle.sip_uri.specs.Hosts.{ip4_of}
use Rattle.sip_uri.specs.NameAddr.{ReadsNameAddr, name_addr_of}
use Rattle.sip_uri.specs.Writing.{ip4_text}
use Rattle.sip_uri.proofs.HostLaws.{ip4_again}
use Rattle.sip_uri.proofs.NameLaws.{name_is_read}
use Rattle.sip_writing.specs.Further.{IsReadAgain}
use Rattle.sip_writing.specs.Reply.{reply_of}
use Rattle.sip_writing.proofs.AnswerTrip.{read_again_at}
use Rattle.text.specs.Class.{is_run_of, is_token_byte}
use Rattle.text.specs.Number.{number_upto}
use Rattle.text.proofs.Numbers.{number_again}
use Rattle.message_laws.specs.Addresses.{IsSource}

-- a datagram that is read as a message is that message

-- a response can repeat what was read of a request
pub read_repeats : (bytes : List ℕ) (m : Message) → message_of bytes ≡ Ok m → CanBeRepeated (parts_in m)
read_repeats bytes m read = repeatable_at bytes (Ok m) (found_at bytes (Ok m) read)

-- and what can be answered of a request that can't be read
behind_repeats : (rest : Option (List ℕ)) (parts : Parts) → parts_behind rest ≡ Some parts → CanBeRepeated parts
behind_repeats None parts is = absurd cc
behind_repeats (Some rest) parts is = behind_at {E = MessageError} rest (Ok (Some parts)) (sym is)

asking_repeats : (b : Bool) (rest : Option (List ℕ)) (parts : Parts) → cond b (parts_behind rest) None ≡ Some parts → CanBeRepeated parts
asking_repeats true rest parts is = behind_repeats rest parts is
asking_repeats false rest parts is = absurd cc

pub answerable_repeats : (bytes : List ℕ) (parts : Parts) → answerable_of bytes ≡ Some parts → CanBeRepeated parts
unfolding answerable_of
answerable_repeats bytes parts is = asking_repeats (is_asking_line (before_line_end bytes)) (after_line_end bytes) parts is

-- a response that repeats such parts is read again, whatever may follow in it
pub reply_is_read : (parts : Parts) (source : Addr) (status : ℕ) (tag : List ℕ) → IsSource source → CanBeRepeated parts → IsTrue (is_run_of is_token_byte tag) → 100 ≤ status → status ≤ 699
    → IsReadAgain (reply_of parts source status tag)
reply_is_read parts source status tag from repeats token low high =
    read_again_at {E = MessageError} (Ok (reply_of parts source status tag)) parts source status tag (record { octets = from.octets; port = from.port }) refl repeats token low high

-- ---- names, addresses and numbers that are written are read again

pub name_reads : (text : List ℕ) (name : NameAddr) → ReadsNameAddr text name → name_addr_of text ≡ Ok name
name_reads text name reads = name_is_read text name reads

pub address_reads : (a b c d : ℕ) → a ≤ 255 → b ≤ 255 → c ≤ 255 → d ≤ 255 → ip4_of (ip4_text (a ∷ b ∷ c ∷ d ∷ [])) ≡ Some (a ∷ b ∷ c ∷ d ∷ [])
address_reads a b c d = ip4_again a b c d

pub number_reads : (limit n : ℕ) → n ≤ limit → n < 2 ^ 64 → number_upto limit (decimal n) ≡ Some n
number_reads limit n le small = number_again limit n le small
