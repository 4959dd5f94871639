-- When a request of the server's own is given up.
use Rattle.std.specs.Prelude.{◌≡◌, ℕ, ◌+◌, false, codes, Some, min, if◌then◌else◌}
use Rattle.timers.specs.Queue.{moment}
use Rattle.sip_uri.specs.declared.uri.Addr.{Addr}
use Rattle.sip_message.specs.declared.message.Parts.{Parts}
use Rattle.sip_message.specs.declared.message.Request.{Request}
use Rattle.sip_message.specs.Words.{is_method}
use Rattle.transaction_machines.specs.declared.input.TimerKind.{TimerKind}
use Rattle.transaction_machines.specs.declared.input.TimerKind.TheVariants.{B, F}
use Rattle.transaction_machines.specs.Steps.{timeout}
use Rattle.transactions.specs.Changes.{after_start}
use Rattle.transactions.specs.Contents.{Contents}
use Rattle.transactions.specs.Slots.{free_number}
use Rattle.transactions.specs.Timing.{same_timer, timer_of}
use Rattle.transactions.specs.Waiting.{begins_dialog}

-- by timer B an INVITE (RFC 3261 section 17.1.1.2), by timer F another request (section 17.1.2.2)
abbrev pub last_timer : Parts → TimerKind
last_timer parts = if is_method (codes "INVITE") parts then B else F

-- 64*T1 after it was sent; sooner where it begins a dialog and the table says so
abbrev pub longest_wait : ℕ → Parts → ℕ
longest_wait first_wait parts = if begins_dialog parts then min first_wait timeout else timeout

-- A request that is not an ACK has its last timer set.
abbrev pub GivesUp : Contents → Request → Addr → ℕ → Type 0
GivesUp table r to now =
    is_method (codes "ACK") r.parts ≡ false
    → moment same_timer (after_start table r to now).timers (timer_of (free_number table.slots) (last_timer r.parts)) ≡ Some (now + longest_wait table.rules.first_wait r.parts)
