-- What the agent knows of its own texts.
use Rattle.std.specs.Prelude.{◌≡◌, ◌≢◌, ℕ, List, [], ◌∷◌, Option, Some, None, ◌⊎◌}
use Rattle.std.specs.List.{All}
use Rattle.dialogs.specs.declared.state.Dialog.{Dialog}
use Rattle.calls.specs.declared.standing_call.StandingCall.{StandingCall}
use Rattle.plans.specs.Office.{Office}
use Rattle.message_laws.specs.Tokens.{IsMade, IsOwnIf}

-- the server's tag in the dialog with the callee, once there is one, is that of the leg
abbrev pub HasLegTag : List ℕ → Option Dialog → Type 0
HasLegTag tag None = Unit {0}
HasLegTag tag (Some d) = d.id.ours ≡ tag

-- the server's tags in the two dialogs of a call
pub record HasMadeTags (made : ℕ) (c : StandingCall) : Type 0 where
  pub caller : IsMade made c.call.caller.id.ours
  pub callee : IsMade made c.callee_tag
  pub leg : HasLegTag c.callee_tag c.call.callee

-- a tag of the server's in one of a call's two dialogs
abbrev pub IsTagOf : StandingCall → List ℕ → Type 0
IsTagOf c tag = (tag ≡ c.call.caller.id.ours) ⊎ (tag ≡ c.callee_tag)

abbrev pub Apart : StandingCall → StandingCall → Type 0
Apart c d = (tag : List ℕ) → IsTagOf c tag → IsTagOf d tag → ⊥

abbrev pub ApartFrom : StandingCall → List StandingCall → Type 0
ApartFrom c [] = Unit {0}
ApartFrom c (d ∷ calls) = Apart c d × ApartFrom c calls

-- no tag of the server's is of two dialogs
abbrev pub AreApart : List StandingCall → Type 0
AreApart [] = Unit {0}
AreApart (c ∷ calls) = (c.call.caller.id.ours ≢ c.callee_tag) × ApartFrom c calls × AreApart calls

-- the tags of calls were made, each once
pub record KnowsCalls (made : ℕ) (calls : List StandingCall) : Type 0 where
  pub tags : All (HasMadeTags made) calls
  pub apart : AreApart calls

-- each client transaction is of a request of the server's own, and the tags of the calls were made, each once
pub record KnowsTokens (s : Office) : Type 0 where
  pub slots : All (IsOwnIf s.tokens) s.table.slots
  pub calls : KnowsCalls s.tokens s.calls.calls
