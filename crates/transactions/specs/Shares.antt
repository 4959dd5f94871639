-- The share of one address in the server transactions, so that a flood from one host leaves the others room.
use Rattle.std.specs.Prelude.{◌≡◌, ℕ, ◌<◌, ◌≤◌, ◌&&◌, ◌||◌, Bool, true, false, codes, List, length, get_or, Option, Some, None, IfSome, count_by, nat_eq, nat_le}
use Rattle.std.specs.Int.{from_be_bytes, w32}
use Rattle.sip_uri.specs.declared.uri.Addr.{Addr}
use Rattle.sip_message.specs.declared.message.Message.{Message}
use Rattle.sip_message.specs.declared.message.Parts.{Parts}
use Rattle.sip_message.specs.Words.{is_method}
use Rattle.transaction_machines.specs.Machines.{is_server}
use Rattle.transactions.specs.declared.error.TableError.{TableError}
use Rattle.transactions.specs.declared.error.TableError.TheVariants.{OutOfMemory, Unknown, AfterFinal, Full}
use Rattle.transactions.specs.declared.transaction.Transaction.{Transaction}
use Rattle.transactions.specs.Contents.{Contents, IsNew, begun, message_takes, reception_of}
use Rattle.transactions.specs.Limits.{max_served}
use Rattle.transactions.specs.Slots.{serving}

-- an address as a number of 32 bits (RFC 791 section 2.3)
unfoldable pub ip_number : List ℕ → ℕ
ip_number ip = from_be_bytes w32 ip

-- four octets, as a socket has them
pub record IsIp (ip : List ℕ) : Type 0 where
  pub four : length ip ≡ 4
  pub octets : (i : ℕ) → get_or ip i 0 < 256

-- two addresses have one number where they are one, and nowhere else
abbrev pub SameNumberSameIp : List ℕ → List ℕ → Type 0
SameNumberSameIp a b = IsIp a → IsIp b → ip_number a ≡ ip_number b → a ≡ b

-- a server transaction whose request came from this address: the responses go where it came from (RFC 3261 section
-- 18.2.2)
unfoldable pub serves : List ℕ → Option Transaction → Bool
serves ip None = false
serves ip (Some t) = is_server t.state && nat_eq (ip_number t.place.ip) (ip_number ip)

-- how many of them are live
abbrev pub serving_from : List ℕ → List (Option Transaction) → ℕ
serving_from ip slots = count_by (serves ip) slots

-- this many are the share of one address, or more
abbrev pub meets : Option ℕ → ℕ → Bool
meets None count = false
meets (Some share) count = nat_le share count

-- a request of this source would be one too many: of all, or of its address
abbrev pub has_no_room : Contents → Addr → Bool
has_no_room table source = nat_le max_served (serving table.slots) || meets table.rules.share (serving_from source.ip table.slots)

-- no address has more than its share
abbrev pub AreShared : Contents → Type 0
AreShared table = (ip : List ℕ) → IfSome table.rules.share (λ share. serving_from ip table.slots ≤ share)

-- which message is refused: one that would begin a transaction, where there is no room
abbrev pub RefusesMessage : Contents → Message → Addr → TableError → Type 0
RefusesMessage table message source OutOfMemory = message_takes table message ≡ true
RefusesMessage table message source Full = IsNew (reception_of table message).verdict × (has_no_room table source ≡ true)
RefusesMessage table message source Unknown = ⊥
RefusesMessage table message source AfterFinal = ⊥

-- the same, of a request that belongs to no transaction
abbrev pub RefusesBegun : Contents → Parts → Addr → TableError → Type 0
RefusesBegun table parts source OutOfMemory = is_method (codes "ACK") parts ≡ false
RefusesBegun table parts source Full = IsNew (begun table parts).verdict × (has_no_room table source ≡ true)
RefusesBegun table parts source Unknown = ⊥
RefusesBegun table parts source AfterFinal = ⊥
