-- From the first 2xx that a call takes on it has a dialog with its callee (RFC 3261 sections 12.1 and 13.2.2.4).
use Rattle.std.specs.Prelude.{◌≡◌, ℕ, Bool, true, false, Option, Some, None}
use Rattle.std.specs.List.{All}
use Rattle.dialogs.specs.declared.state.Dialog.{Dialog}
use Rattle.transactions.specs.Slots.{at}
use Rattle.transactions.specs.declared.transaction.Transaction.{Transaction}
use Rattle.call_media.specs.declared.end.End.TheVariants.{Caller}
use Rattle.call_core.specs.declared.stage.Stage.{Stage}
use Rattle.call_core.specs.declared.stage.Stage.TheVariants.{Answered, Asked, Cancelling, Ending, Reanswered, Reasked, Settled, Updating}
use Rattle.call_core.specs.declared.stage.Standing.{Standing}
use Rattle.calls.specs.declared.standing_call.StandingCall.{StandingCall}
use Rattle.call_rules.specs.Speaking.{is_invite}
use Rattle.plans.specs.Office.{Office}
use Rattle.message_laws.specs.Waiting.{IsOffering, from_tag}

-- the first INVITE has no answer yet
abbrev pub is_unanswered : Stage → Bool
is_unanswered (Asked rung) = true
is_unanswered (Cancelling sent) = true
is_unanswered (Answered interval) = false
is_unanswered Settled = false
is_unanswered (Reasked rung cancelled) = false
is_unanswered (Reanswered interval) = false
is_unanswered Updating = false
is_unanswered (Ending interval) = false

pub record IsUnanswered (n : Standing) : Type 0 where
  pub stage : is_unanswered n.stage ≡ true
  pub offerer : n.offerer ≡ Caller

abbrev pub FitsStage : Option Dialog → Standing → Type 0
FitsStage None n = IsUnanswered n
FitsStage (Some d) n = Unit {0}

-- without a dialog with the callee, the caller's first offer waits
abbrev pub HasCallee : StandingCall → Type 0
HasCallee c = (n : Standing) → c.call.standing ≡ Some n → FitsStage c.call.callee n

-- before there is one, a request to the callee is an INVITE
abbrev pub AsksFirst : Transaction → StandingCall → Type 0
AsksFirst t c = from_tag t ≡ c.callee_tag → c.call.callee ≡ None → is_invite t.parts ≡ true

pub record KnowsCallees (s : Office) : Type 0 where
  pub calls : All HasCallee s.calls.calls
  pub requests : (id : ℕ) (t : Transaction) → at s.table.slots id ≡ Some t → IsOffering t → All (AsksFirst t) s.calls.calls
