-- Server transactions: no two have one key, and there are at most as many as the limit.
use Rattle.std.specs.Prelude.{◌≡◌, ◌≢◌, ◌≤◌, ◌<◌, ℕ, Bool, true, false, ◌&&◌, nat_eq, List, [], ◌∷◌, codes, Option, Some}
use Rattle.std.specs.List.{list_any}
use Rattle.std.specs.Cmp.Lexicographic.{pointwise}
use Rattle.sip_message.specs.declared.message.Parts.{Parts}
use Rattle.sip_message.specs.Words.{is_method}
use Rattle.transaction_machines.specs.Machines.{is_server}
use Rattle.transactions.specs.declared.change.Entry.{Entry}
use Rattle.transactions.specs.declared.change.Entry.TheVariants.{Opens, Tells, Answers, Leaves}
use Rattle.transactions.specs.declared.transaction.Transaction.{Transaction}
use Rattle.transactions.specs.Limits.{max_served}
use Rattle.transactions.specs.Matching.{same_top}
use Rattle.transactions.specs.Shares.{has_no_room}
use Rattle.transactions.specs.Slots.{at, is_asked, serving}
use Rattle.transactions.specs.Contents.{Contents, reception_of, IsNew}
use Rattle.transactions.specs.Calls.{Call, Receive, Start, Answer, Abandon, Fire, Leave, after}

-- method, top branch and sent-by agree (section 17.2.3)
abbrev pub same_key : Parts → Parts → Bool
same_key a b = pointwise nat_eq a.cseq.method b.cseq.method && same_top a.vias b.vias

-- no two server transactions have one key
abbrev pub KeysOnce : List (Option Transaction) → Type 0
KeysOnce slots =
    (i j : ℕ) (t u : Transaction) → i ≢ j → at slots i ≡ Some t → at slots j ≡ Some u → is_server t.state ≡ true → is_server u.state ≡ true
    → same_key t.parts u.parts ≡ false

-- what is so of the server transactions
pub record AreServers (slots : List (Option Transaction)) : Type 0 where
  pub once : KeysOnce slots
  pub few : serving slots ≤ max_served

-- ---- a change

-- a server transaction may begin: its request is not an ACK, no live one has its key, and there is room
pub record IsFree (slots : List (Option Transaction)) (t : Transaction) : Type 0 where
  pub no_ack : is_method (codes "ACK") t.parts ≡ false
  pub new : list_any (is_asked t.parts) slots ≡ false
  pub room : serving slots < max_served

abbrev pub MayEnter : List (Option Transaction) → Entry → Type 0
MayEnter slots (Opens t starts) = is_server t.state ≡ true → IsFree slots t
MayEnter slots (Tells id input fresh) = Unit {0}
MayEnter slots (Answers id class bytes) = Unit {0}
MayEnter slots Leaves = Unit {0}

-- ---- calls that were done: where there is no room no message began a transaction, which is the clause `room` of
-- `receive`

abbrev pub WasDone : Contents → Call → Type 0
WasDone table (Receive message source now) = IsNew (reception_of table message).verdict → has_no_room table source ≡ false
WasDone table (Start r to now) = Unit {0}
WasDone table (Answer id r now) = Unit {0}
WasDone table (Abandon id now) = Unit {0}
WasDone table (Fire timer now) = Unit {0}
WasDone table Leave = Unit {0}

abbrev pub WereDone : Contents → List Call → Type 0
WereDone table [] = Unit {0}
WereDone table (call ∷ calls) = WasDone table call × WereDone (after table call) calls
