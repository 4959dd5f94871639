-- Each reason is given by a status that refuses (RFC 3261 sections 21.4 to 21.6).
use Rattle.std.proofs.Common.{ℕ, ◌≤◌, arith}
use Rattle.sip_message.specs.declared.error.MessageError.{MessageError}
use Rattle.sip_message.specs.declared.error.MessageError.TheVariants as faults
use Rattle.registrar.specs.declared.refusal.Refusal.{Refusal}
use Rattle.registrar.specs.declared.refusal.Refusal.TheVariants as refusals
use Rattle.responses.specs.Responding.{status_of}
use Rattle.plans.specs.declared.reason.Reason.{Reason}
use Rattle.plans.specs.declared.reason.Reason.TheVariants as reasons
use Rattle.plans.specs.Reasons.{status, unread_status}

abbrev Refuses : ℕ → Type 0
Refuses status = (300 ≤ status) × (status ≤ 699)

unread_refuses : (fault : MessageError) → Refuses (unread_status fault)
unread_refuses faults.OutOfMemory = (omega arith, omega arith)
unread_refuses faults.StartLine = (omega arith, omega arith)
unread_refuses faults.Version = (omega arith, omega arith)
unread_refuses faults.HeaderLine = (omega arith, omega arith)
unread_refuses (faults.Missing name) = (omega arith, omega arith)
unread_refuses (faults.Unreadable name) = (omega arith, omega arith)
unread_refuses faults.Short = (omega arith, omega arith)
unread_refuses faults.TooLong = (omega arith, omega arith)

register_refuses : (refusal : Refusal) → Refuses (status_of refusal)
register_refuses refusals.OutOfMemory = (omega arith, omega arith)
register_refuses refusals.UnknownUser = (omega arith, omega arith)
register_refuses refusals.StarMisused = (omega arith, omega arith)
register_refuses refusals.TooBrief = (omega arith, omega arith)
register_refuses refusals.OutOfOrder = (omega arith, omega arith)
register_refuses refusals.TooManyBindings = (omega arith, omega arith)
register_refuses refusals.BadContact = (omega arith, omega arith)

pub reason_refuses : (reason : Reason) → (300 ≤ status reason) × (status reason ≤ 699)
reason_refuses (reasons.Unread fault) = unread_refuses fault
reason_refuses reasons.NoBranch = (omega arith, omega arith)
reason_refuses reasons.NothingToCancel = (omega arith, omega arith)
reason_refuses reasons.Merged = (omega arith, omega arith)
reason_refuses reasons.MethodNotOffered = (omega arith, omega arith)
reason_refuses reasons.UnknownMethod = (omega arith, omega arith)
reason_refuses reasons.ExtensionRequired = (omega arith, omega arith)
reason_refuses reasons.ProxyBetween = (omega arith, omega arith)
reason_refuses reasons.NoDialog = (omega arith, omega arith)
reason_refuses reasons.OldNumber = (omega arith, omega arith)
reason_refuses reasons.NoHops = (omega arith, omega arith)
reason_refuses reasons.Unreached = (omega arith, omega arith)
reason_refuses reasons.UnknownUser = (omega arith, omega arith)
reason_refuses reasons.Unbound = (omega arith, omega arith)
reason_refuses reasons.BodyType = (omega arith, omega arith)
reason_refuses reasons.BodyEncoding = (omega arith, omega arith)
reason_refuses reasons.Undescribed = (omega arith, omega arith)
reason_refuses reasons.UnfitOffer = (omega arith, omega arith)
reason_refuses reasons.NoPorts = (omega arith, omega arith)
reason_refuses reasons.TooManyCalls = (omega arith, omega arith)
reason_refuses reasons.Glare = (omega arith, omega arith)
reason_refuses reasons.SecondOffer = (omega arith, omega arith)
reason_refuses reasons.NumberAtItsEnd = (omega arith, omega arith)
reason_refuses (reasons.Register refusal) = register_refuses refusal
