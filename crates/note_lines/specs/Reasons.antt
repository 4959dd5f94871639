-- The words for why the server itself refuses a request, or drops an event.
use Rattle.std.specs.Prelude.{ℕ, List, ◌++◌, codes}
use Rattle.sip_message.specs.declared.error.MessageError.{MessageError}
use Rattle.sip_message.specs.declared.error.MessageError.TheVariants as faults
use Rattle.sip_message.specs.HeaderNames.{name_text}
use Rattle.registrar.specs.declared.refusal.Refusal.{Refusal}
use Rattle.registrar.specs.declared.refusal.Refusal.TheVariants as refusals
use Rattle.plans.specs.declared.reason.Reason.{Reason}
use Rattle.plans.specs.declared.reason.Reason.TheVariants.{Unread, NoBranch, NothingToCancel, Merged, MethodNotOffered, UnknownMethod, ExtensionRequired, ProxyBetween, NoDialog, OldNumber, NoHops, Unreached, UnknownUser, Unbound, BodyType, BodyEncoding, Undescribed, UnfitOffer, NoPorts, TooManyCalls, Glare, SecondOffer, NumberAtItsEnd, Register}
use Rattle.plans.specs.declared.taken.Why.{Why}
use Rattle.plans.specs.declared.taken.Why.TheVariants as drops

-- a datagram's first fault
abbrev pub fault_words : MessageError → List ℕ
fault_words faults.OutOfMemory = codes "out of memory"
fault_words faults.StartLine = codes "M1: bad start line"
fault_words faults.Version = codes "M2: bad version"
fault_words faults.HeaderLine = codes "M3: bad header line"
fault_words (faults.Missing name) = codes "M4: no " ++ name_text name
fault_words (faults.Unreadable name) = codes "M5: bad " ++ name_text name
fault_words faults.Short = codes "M6: body shorter than Content-Length"
fault_words faults.TooLong = codes "M7: too long"

-- why the registrar refuses a REGISTER
abbrev pub refusal_words : Refusal → List ℕ
refusal_words refusals.OutOfMemory = codes "out of memory"
refusal_words refusals.UnknownUser = codes "B1: unknown user"
refusal_words refusals.StarMisused = codes "B2: star misused"
refusal_words refusals.TooBrief = codes "B3: too brief"
refusal_words refusals.OutOfOrder = codes "B4: out of order"
refusal_words refusals.TooManyBindings = codes "B5: too many bindings"
refusal_words refusals.BadContact = codes "B6: bad contact"

abbrev pub reason_words : Reason → List ℕ
reason_words (Unread fault) = fault_words fault
reason_words NoBranch = codes "no branch of RFC 3261"
reason_words NothingToCancel = codes "nothing to cancel"
reason_words Merged = codes "merged"
reason_words MethodNotOffered = codes "method not offered"
reason_words UnknownMethod = codes "unknown method"
reason_words ExtensionRequired = codes "extension required"
reason_words ProxyBetween = codes "proxy between"
reason_words NoDialog = codes "no dialog"
reason_words OldNumber = codes "old number"
reason_words NoHops = codes "no hops left"
reason_words Unreached = codes "contact without address"
reason_words UnknownUser = codes "unknown user"
reason_words Unbound = codes "not registered"
reason_words BodyType = codes "type of body"
reason_words BodyEncoding = codes "encoding of body"
reason_words Undescribed = codes "no description"
reason_words UnfitOffer = codes "unfit offer"
reason_words NoPorts = codes "no ports"
reason_words TooManyCalls = codes "too many calls"
reason_words Glare = codes "glare"
reason_words SecondOffer = codes "second offer"
reason_words NumberAtItsEnd = codes "number at its end"
reason_words (Register refusal) = refusal_words refusal

-- why an event was dropped, by the name of its count
abbrev pub why_word : Why → List ℕ
why_word (drops.Unread fault) = codes "unread"
why_word drops.Stray = codes "stray"
why_word drops.Ack = codes "ack"
why_word drops.NoBranch = codes "no_branch"
why_word drops.Clock = codes "clock"
why_word drops.Spent = codes "spent"
