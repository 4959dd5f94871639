-- How long an INVITE of the server's own that begins a dialog waits for its first response.
use Rattle.std.specs.Prelude.{ℕ, ◌&&◌, ◌==◌, Bool, not, codes, is_some, min, if◌then◌else◌}
use Rattle.sip_message.specs.declared.message.Parts.{Parts}
use Rattle.sip_message.specs.Words.{is_method, tag_value}
use Rattle.transaction_machines.specs.declared.step.Start.{Start}
use Rattle.transaction_machines.specs.declared.step.Starts.{Starts}
use Rattle.transaction_machines.specs.declared.step.Starts.TheVariants.{NoTimer, One, Two}

-- To has no tag outside a dialog (RFC 3261 section 8.1.1.2), nor inside one whose first 2xx had none. The server's
-- numbers begin at 1, so that the first INVITE alone has this one (section 12.2.1.1).
abbrev pub begins_dialog : Parts → Bool
begins_dialog parts = is_method (codes "INVITE") parts && not (is_some (tag_value parts.to.params)) && parts.cseq.number == 1

-- after at most this many milliseconds
abbrev pub sooner : ℕ → Start → Start
sooner wait start = record { kind = start.kind; after = min wait start.after }

-- the second of two timers is the one that gives up: timer B of an INVITE (section 17.1.1.2)
abbrev pub limited : ℕ → Starts → Starts
limited wait NoTimer = NoTimer
limited wait (One start) = One start
limited wait (Two start last) = Two start (sooner wait last)

unfoldable pub starts_within : ℕ → Parts → Starts → Starts
starts_within wait parts starts = if begins_dialog parts then limited wait starts else starts
