-- The actions of a call as messages.
use Rattle.std.specs.Prelude.{ℕ, ◌+◌, List, [], ◌∷◌, Option, Some, None}
use Rattle.std.specs.Option.{option_copied}
use Rattle.events.specs.declared.sent.Sent.{Sent}
use Rattle.sip_uri.specs.declared.uri.Addr.{Addr}
use Rattle.sip_message.specs.declared.message.Request.{Request}
use Rattle.sdp.specs.declared.description.Description.{Description}
use Rattle.dialogs.specs.declared.method.Method.{Method}
use Rattle.dialogs.specs.declared.method.Method.TheVariants as methods
use Rattle.dialogs.specs.declared.state.Dialog.{Dialog}
use Rattle.transactions.specs.declared.transaction.Transaction.{Transaction}
use Rattle.transactions.specs.SameBranch.{cancel_of}
use Rattle.responses.specs.Tokens.{token}
use Rattle.call_media.specs.declared.end.End.{End}
use Rattle.call_media.specs.declared.end.End.TheVariants.{Caller, Callee}
use Rattle.call_core.specs.declared.action.Action.{Action}
use Rattle.call_core.specs.declared.action.Action.TheVariants.{Trying, Offer, Provisional, Ack, Answer, AnswerAgain, Refusal, Okay, Cancel, Bye, PutRows, Release, RemoveRows, Set, Stop, Abandon}
use Rattle.call_core.specs.declared.signal.OfferMethod.{OfferMethod}
use Rattle.call_core.specs.declared.signal.OfferMethod.TheVariants.{Invite, Update}
use Rattle.call_messages.specs.declared.scene.Asker.{Asker}
use Rattle.call_messages.specs.declared.scene.Scene.{Scene}
use Rattle.call_messages.specs.Messages.{ack, answer, bye, offer, okay, provisional, refusal, trying}
use Rattle.call_messages.specs.Dressed.{Dressed, again, asks, behind, no_message, responds_through}

-- ---- what the scene has

abbrev pub dialog_with : End → Scene → Option Dialog
dialog_with Caller s = option_copied s.caller
dialog_with Callee s = option_copied s.callee

abbrev pub method_of : OfferMethod → Method
method_of Invite = methods.Invite
method_of Update = methods.Update

-- the token of a branch, where this many were made before it
abbrev pub branch : Scene → ℕ → List ℕ
branch s tokens = token s.salt (tokens + 1)

-- ---- responses: of the offer, or of the request that is answered now

abbrev pub says_trying : Option Asker → Dressed
says_trying None = no_message
says_trying (Some a) = responds_through a (trying a)

abbrev pub says_provisional : Addr → Option Asker → ℕ → Dressed
says_provisional server None status = no_message
says_provisional server (Some a) status = responds_through a (provisional server a status)

abbrev pub says_answer : Addr → Option Asker → Option Description → Dressed
says_answer server None description = no_message
says_answer server (Some a) None = no_message
says_answer server (Some a) (Some description) = responds_through a (answer server a description)

abbrev pub says_refusal : Option Asker → ℕ → Dressed
says_refusal None status = no_message
says_refusal (Some a) status = responds_through a (refusal a status)

abbrev pub says_okay : Addr → Option Asker → Dressed
says_okay server None = no_message
says_okay server (Some a) = responds_through a (okay server a)

abbrev pub says_again : Option Sent → Dressed
says_again None = no_message
says_again (Some sent) = again sent

-- ---- requests: each but a CANCEL makes the token of its branch

abbrev pub asks_if : Option Request → ℕ → Dressed
asks_if None made = no_message
asks_if (Some request) made = asks request made

abbrev pub says_offer : Scene → ℕ → Option Dialog → OfferMethod → Option Description → Dressed
says_offer s tokens None method description = no_message
says_offer s tokens (Some d) method None = no_message
says_offer s tokens (Some d) method (Some description) = asks_if (offer s.server d (method_of method) s.hops description (branch s tokens)) 1

abbrev pub says_ack : Scene → ℕ → Option Dialog → Dressed
says_ack s tokens None = no_message
says_ack s tokens (Some d) = asks (ack s.server d (branch s tokens)) 1

abbrev pub says_bye : Scene → ℕ → Option Dialog → Dressed
says_bye s tokens None = no_message
says_bye s tokens (Some d) = asks_if (bye s.server d (branch s tokens)) 1

-- it has the branch of its INVITE (RFC 3261 section 9.1)
abbrev pub says_cancel : Option Transaction → Dressed
says_cancel None = no_message
says_cancel (Some invite) = asks_if (cancel_of invite) 0

-- ---- an action, where this many tokens were made before it

unfoldable pub dress_one : Scene → ℕ → Action → Dressed
dress_one s tokens (Trying end) = says_trying s.offer
dress_one s tokens (Offer end method) = says_offer s tokens (dialog_with end s) method (option_copied s.description)
dress_one s tokens (Provisional end status) = says_provisional s.server s.offer status
dress_one s tokens (Ack end) = says_ack s tokens (dialog_with end s)
dress_one s tokens (Answer end) = says_answer s.server s.offer (option_copied s.description)
dress_one s tokens (AnswerAgain end) = says_again (option_copied s.again)
dress_one s tokens (Refusal end status) = says_refusal s.offer status
dress_one s tokens (Okay end) = says_okay s.server s.request
dress_one s tokens (Cancel end) = says_cancel (option_copied s.passed)
dress_one s tokens (Bye end) = says_bye s tokens (dialog_with end s)
dress_one s tokens PutRows = no_message
dress_one s tokens Release = no_message
dress_one s tokens RemoveRows = no_message
dress_one s tokens (Set timer after) = no_message
dress_one s tokens (Stop timer) = no_message
dress_one s tokens (Abandon end) = no_message

-- ---- actions, in order: branches are counted in the order of sending

abbrev pub dressed : Scene → ℕ → List Action → Dressed
dressed s tokens [] = no_message
dressed s tokens (action ∷ later) =
    behind (dress_one s tokens action) (dressed s (tokens + (dress_one s tokens action).made) later)
