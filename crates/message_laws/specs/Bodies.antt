-- The descriptions that the calls keep: each was read, or is what the server sends in place of one that was read (RFC
-- 3264).
use Rattle.std.specs.Prelude.{◌≡◌, ℕ, ◌≤◌, List, length, Option, Some, None}
use Rattle.std.specs.List.{All}
use Rattle.sip_message.specs.Read.{max_datagram}
use Rattle.sdp.specs.declared.description.Description.{Description}
use Rattle.sdp.specs.Grammar.{ReadsDescription}
use Rattle.port_pool.specs.Holdings.{HasOdd}
use Rattle.port_pool.specs.Pool as pools
use Rattle.offer_answer.specs.declared.sent_description.ServerOrigin.{ServerOrigin}
use Rattle.offer_answer.specs.Readdressing.{AreOfTheirSizes, readdressed_description}
use Rattle.call_media.specs.declared.seat.Seat.{Seat}
use Rattle.call_media.specs.declared.session.OpenOffer.{OpenOffer}
use Rattle.call_media.specs.declared.session.Session.{Session}
use Rattle.call_media.specs.declared.state.CallMedia.{CallMedia}
use Rattle.call_core.specs.declared.input.Input.{Input}
use Rattle.call_core.specs.declared.input.Input.TheVariants as inputs
use Rattle.call_core.specs.Plans.{Step}
use Rattle.calls.specs.declared.standing_call.StandingCall.{StandingCall}
use Rattle.calls.specs.State.{Standing}
use Rattle.plans.specs.Office.{Office}
use Rattle.message_laws.specs.Addresses.{IsServerAddress}

-- ---- descriptions

-- it was read, of a body that fits into a datagram
pub record WasRead (d : Description) : Type 0 where
  pub text : List ℕ
  pub reads : ReadsDescription text d
  pub fits : length text ≤ max_datagram

-- what the server sends in its place: with this address, and ports of its own
pub record IsReaddressed (ip : List ℕ) (taken sent : Description) : Type 0 where
  pub origin : ServerOrigin
  pub ports : List ℕ
  pub sizes : AreOfTheirSizes origin ports
  pub address : origin.ip ≡ ip
  pub whole : sent ≡ readdressed_description origin ports taken

-- sent in place of one that was read
pub record IsOfRead (ip : List ℕ) (sent : Description) : Type 0 where
  pub taken : Description
  pub read : WasRead taken
  pub readdressed : IsReaddressed ip taken sent

abbrev pub WasReadIf : Option Description → Type 0
WasReadIf None = Unit {0}
WasReadIf (Some d) = WasRead d

abbrev pub IsOfReadIf : List ℕ → Option Description → Type 0
IsOfReadIf ip None = Unit {0}
IsOfReadIf ip (Some d) = IsOfRead ip d

-- ---- the media of a call

-- its ports are ports
pub record HasPorts (s : Seat) : Type 0 where
  pub offerer : s.offerer ≤ 65535
  pub answerer : s.answerer ≤ 65535

abbrev pub HasPortsIf : Option Seat → Type 0
HasPortsIf None = Unit {0}
HasPortsIf (Some s) = HasPorts s

pub record KnowsOffer (ip : List ℕ) (o : OpenOffer) : Type 0 where
  pub taken : WasRead o.offer_taken
  pub sent : IsReaddressed ip o.offer_taken o.offer_sent
  pub seats : All HasPortsIf o.seats

pub record KnowsSession (ip : List ℕ) (s : Session) : Type 0 where
  pub offer_taken : WasRead s.offer_taken
  pub offer_sent : IsReaddressed ip s.offer_taken s.offer_sent
  pub answer_taken : WasRead s.answer_taken
  pub answer_sent : IsReaddressed ip s.answer_taken s.answer_sent

abbrev pub KnowsOfferIf : List ℕ → Option OpenOffer → Type 0
KnowsOfferIf ip None = Unit {0}
KnowsOfferIf ip (Some o) = KnowsOffer ip o

abbrev pub KnowsSessionIf : List ℕ → Option Session → Type 0
KnowsSessionIf ip None = Unit {0}
KnowsSessionIf ip (Some s) = KnowsSession ip s

pub record KnowsMedia (ip : List ℕ) (m : CallMedia) : Type 0 where
  pub address : m.range.ip ≡ ip
  pub offer : KnowsOfferIf ip m.offer
  pub session : KnowsSessionIf ip m.session

abbrev pub KnowsCall : List ℕ → StandingCall → Type 0
KnowsCall ip c = KnowsMedia ip c.call.media

-- each pair has ports
abbrev pub HavePorts : pools.Contents → Type 0
HavePorts pool = All HasOdd pool.holdings

-- ---- a step of a call

-- what reaches a call has a description that was read, if any
abbrev pub WasReadIn : Input → Type 0
WasReadIn (inputs.Offer end method offer) = WasReadIf offer
WasReadIn (inputs.Provisional status) = Unit {0}
WasReadIn (inputs.Answer answer) = WasReadIf answer
WasReadIn (inputs.Refusal status) = Unit {0}
WasReadIn inputs.TimedOut = Unit {0}
WasReadIn inputs.Ack = Unit {0}
WasReadIn inputs.Cancel = Unit {0}
WasReadIn (inputs.Bye end) = Unit {0}
WasReadIn inputs.Limit = Unit {0}
WasReadIn inputs.Repeat = Unit {0}
WasReadIn inputs.Wait = Unit {0}
WasReadIn inputs.Lifetime = Unit {0}

-- what the call keeps after it, and sends
pub record KnowsStep (ip : List ℕ) (x : Step) : Type 0 where
  pub media : KnowsMedia ip x.call.media
  pub pairs : HavePorts x.pool
  pub sent : IsOfReadIf ip x.description

-- ---- all of them

-- of the live calls
pub record KnowsStanding (ip : List ℕ) (standing : Standing) : Type 0 where
  pub pairs : HavePorts standing.pool
  pub calls : All (KnowsCall ip) standing.calls

pub record KnowsDescriptions (s : Office) : Type 0 where
  pub address : IsServerAddress s.range.ip
  pub calls : KnowsStanding s.range.ip s.calls
