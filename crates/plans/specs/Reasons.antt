-- Why the server itself refuses a request, and the status of each reason.
use Rattle.std.specs.Prelude.{ℕ}
use Rattle.sip_message.specs.declared.error.MessageError.TheVariants as faults
use Rattle.sip_message.specs.declared.error.MessageError.{MessageError}
use Rattle.responses.specs.Responding.{status_of}
use Rattle.plans.specs.declared.reason.Reason.{Reason}
use Rattle.plans.specs.declared.reason.Reason.TheVariants.{Unread, NoBranch, NothingToCancel, Merged, MethodNotOffered, UnknownMethod, ExtensionRequired, ProxyBetween, NoDialog, OldNumber, NoHops, Unreached, UnknownUser, Unbound, BodyType, BodyEncoding, Undescribed, UnfitOffer, NoPorts, TooManyCalls, Glare, SecondOffer, NumberAtItsEnd, Register}

-- 505 for another version (RFC 3261 section 21.5.6), 400 for each other fault
abbrev pub unread_status : MessageError → ℕ
unread_status faults.Version = 505
unread_status fault = 400

abbrev pub status : Reason → ℕ
status (Unread fault) = unread_status fault
status NoBranch = 400
status ProxyBetween = 400
status Unreached = 400
status UnknownUser = 404
status MethodNotOffered = 405
status BodyType = 415
status BodyEncoding = 415
status ExtensionRequired = 420
status Unbound = 480
status NothingToCancel = 481
status NoDialog = 481
status Merged = 482
status NoHops = 483
status Undescribed = 488
status UnfitOffer = 488
status Glare = 491
status OldNumber = 500
status SecondOffer = 500
status NumberAtItsEnd = 500
status UnknownMethod = 501
status NoPorts = 503
status TooManyCalls = 503
status (Register refusal) = status_of refusal
