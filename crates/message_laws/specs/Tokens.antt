-- The server's own texts are tokens that were made.
use Rattle.std.specs.Prelude.{◌≡◌, ℕ, ◌≤◌, false, List, Option, Some, None}
use Rattle.responses.specs.Tokens.{token}
use Rattle.sip_message.specs.declared.message.Parts.{Parts}
use Rattle.sip_message.specs.Words.{tag_text, top_branch}
use Rattle.sip_writing.specs.Requests.{branch_text}
use Rattle.transaction_machines.specs.Machines.{is_server}
use Rattle.transactions.specs.declared.transaction.Transaction.{Transaction}

-- one of the first `made` tokens, whatever the salt
pub record IsMade (made : ℕ) (text : List ℕ) : Type 0 where
  pub salt : ℕ
  pub count : ℕ
  pub early : count ≤ made
  pub said : text ≡ token salt count

-- the same, after the cookie of a branch (RFC 3261 section 8.1.1.7)
pub record IsMadeBranch (made : ℕ) (branch : Option (List ℕ)) : Type 0 where
  pub salt : ℕ
  pub count : ℕ
  pub early : count ≤ made
  pub said : branch ≡ Some (branch_text (token salt count))

-- a request of the server's own: its branch and the tag of its From
pub record IsOwnRequest (made : ℕ) (parts : Parts) : Type 0 where
  pub branch : IsMadeBranch made (top_branch parts.vias)
  pub tag : IsMade made (tag_text parts.from.params)

-- a client transaction has a request of the server's own (section 17.1)
abbrev pub IsOwn : ℕ → Transaction → Type 0
IsOwn made t = is_server t.state ≡ false → IsOwnRequest made t.parts

abbrev pub IsOwnIf : ℕ → Option Transaction → Type 0
IsOwnIf made None = Unit {0}
IsOwnIf made (Some t) = IsOwn made t
