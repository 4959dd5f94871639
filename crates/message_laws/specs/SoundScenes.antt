-- What the actions of a call are dressed with, so that each message is of the form that is written and read again.
use Rattle.std.specs.Prelude.{◌≡◌, ◌≤◌, ◌<◌, ◌||◌, ℕ, Bool, true, false, codes, length, nat_eq, IsTrue, List, [], ◌∷◌, Option, Some, None}
use Rattle.std.specs.Cmp.Lexicographic.{pointwise}
use Rattle.std.specs.Option.{option_copied}
use Rattle.text.specs.Class.{is_run_of, is_token_byte}
use Rattle.sip_uri.specs.declared.uri.Addr.{Addr}
use Rattle.sip_uri.specs.declared.uri.Uri.{Uri}
use Rattle.sip_message.specs.declared.message.Parts.{Parts}
use Rattle.sip_message.specs.ContentLength.{max_content_length}
use Rattle.sip_message.specs.CSeq.{max_cseq}
use Rattle.sip_message.specs.Repeatable.{CanBeRepeated}
use Rattle.sip_writing.specs.Requests.{IsEnd}
use Rattle.sdp.specs.declared.description.Description.{Description}
use Rattle.sdp.specs.Writing.{description_text}
use Rattle.dialogs.specs.declared.state.Dialog.{Dialog}
use Rattle.dialogs.specs.Counting.{last_number}
use Rattle.dialogs.specs.Sound.{IsSound}
use Rattle.transactions.specs.declared.transaction.Transaction.{Transaction}
use Rattle.transactions.specs.SameBranch.{HasReadVia, IsSoundInvite}
use Rattle.call_core.specs.declared.action.Action.{Action}
use Rattle.call_core.specs.declared.action.Action.TheVariants.{Trying, Provisional, Answer, Refusal}
use Rattle.call_messages.specs.declared.scene.Asker.{Asker}
use Rattle.call_messages.specs.declared.scene.Scene.{Scene}
use Rattle.message_laws.specs.Addresses.{IsReached, IsSource}
use Rattle.message_laws.specs.Saying.{ReadsBackIf}

-- ---- requests

-- its last number is one that CSeq can say (RFC 3261 section 8.1.1.5)
abbrev pub CountsLow : Dialog → Type 0
CountsLow d = last_number d ≤ max_cseq

-- a dialog in which a request can be said
pub record CanAskIn (d : Dialog) : Type 0 where
  pub sound : IsSound d
  pub low : CountsLow d

abbrev pub CanAskInIf : Option Dialog → Type 0
CanAskInIf None = Unit {0}
CanAskInIf (Some d) = CanAskIn d

-- a request of the server's own, of values that came out of messages, or are of their form
pub record IsSoundRequest (uri : Uri) (parts : Parts) : Type 0 where
  pub values : IsSoundInvite uri parts
  pub via : HasReadVia parts.vias
  pub to : IsEnd parts.to

abbrev pub IsSoundRequestIf : Option Transaction → Type 0
IsSoundRequestIf None = Unit {0}
IsSoundRequestIf (Some t) = IsSoundRequest t.uri t.parts

-- what the requests of a scene are made of
pub record CanAskFrom (s : Scene) : Type 0 where
  pub server : IsReached s.server
  pub caller : CanAskInIf (option_copied s.caller)
  pub callee : CanAskInIf (option_copied s.callee)
  pub passed : IsSoundRequestIf (option_copied s.passed)

-- ---- responses

-- a request to which a response can be said, with this tag in its To
pub record CanSay (parts : Parts) (source : Addr) (tag : List ℕ) : Type 0 where
  pub repeats : CanBeRepeated parts
  pub from : IsSource source
  pub token : IsTrue (is_run_of is_token_byte tag)

abbrev pub CanSayIf : Option Asker → Type 0
CanSayIf None = Unit {0}
CanSayIf (Some a) = CanSay a.parts.now a.source a.tag.now

-- one that gets a 200 without a description is not an INVITE
abbrev pub IsNoInvite : Parts → Type 0
IsNoInvite parts = pointwise nat_eq parts.cseq.method (codes "INVITE") ≡ false

abbrev pub CanOkay : Option Asker → Type 0
CanOkay None = Unit {0}
CanOkay (Some a) = CanSay a.parts.now a.source a.tag.now × IsNoInvite a.parts.now

-- the action is a response to the offer
abbrev pub answers_offer : Action → Bool
answers_offer (Trying end) = true
answers_offer (Provisional end status) = true
answers_offer (Answer end) = true
answers_offer (Refusal end status) = true
answers_offer action = false

abbrev pub answer_offer : List Action → Bool
answer_offer [] = false
answer_offer (action ∷ later) = answers_offer action || answer_offer later

-- the status of a response that is passed on is of its class
abbrev pub HasFitStatus : Action → Type 0
HasFitStatus (Provisional end status) = (100 ≤ status) × (status < 200)
HasFitStatus (Refusal end status) = (300 ≤ status) × (status ≤ 699)
HasFitStatus action = Unit {0}

abbrev pub HaveFitStatuses : List Action → Type 0
HaveFitStatuses [] = Unit {0}
HaveFitStatuses (action ∷ later) = HasFitStatus action × HaveFitStatuses later

-- ---- descriptions

-- no longer than Content-Length can say
abbrev pub IsShortIf : Option Description → Type 0
IsShortIf None = Unit {0}
IsShortIf (Some d) = length (description_text d) ≤ max_content_length

-- ---- the whole

-- what actions are dressed with; the offer where one of them answers it
pub record IsSoundScene (s : Scene) (answers : Bool) : Type 0 where
  pub asks : CanAskFrom s
  pub hops : s.hops ≤ 255
  pub offer : answers ≡ true → CanSayIf s.offer
  pub request : CanOkay s.request
  pub reads : ReadsBackIf (option_copied s.description)
  pub short : IsShortIf (option_copied s.description)
