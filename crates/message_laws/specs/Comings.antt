-- What reaches a call with an event, such that all that the call says about it has the form that is written and read
-- again.
use Rattle.std.specs.Prelude.{◌≡◌, ◌≤◌, ◌<◌, ◌^◌, Bool, true, false, is_some, Option, Some, None}
use Rattle.call_core.specs.declared.input.Input.{Input}
use Rattle.call_core.specs.declared.input.Input.TheVariants as inputs
use Rattle.calls.specs.declared.change.LegDialog.{LegDialog}
use Rattle.call_steps.specs.Values.{AskerValue, ComingValue}
use Rattle.plans.specs.Office.{Office}
use Rattle.message_laws.specs.Askers.{KnowsAskers}
use Rattle.message_laws.specs.Bodies.{KnowsDescriptions, WasReadIn}
use Rattle.message_laws.specs.Knowing.{KnowsTokens}
use Rattle.message_laws.specs.Sound.{KnowsDialogs}
use Rattle.message_laws.specs.SoundClients.{KnowsClients}
use Rattle.message_laws.specs.SoundScenes.{CanSay, CanAskIn, IsNoInvite}

-- ---- what the agent knows of what it says

pub record KnowsScenes (s : Office) : Type 0 where
  pub dialogs : KnowsDialogs s
  pub clients : KnowsClients s
  pub descriptions : KnowsDescriptions s
  pub askers : KnowsAskers s
  pub tokens : KnowsTokens s
  pub few : s.tokens < 2 ^ 63

-- ---- what comes

-- a dialog that is put in place of one of the call's
abbrev pub CanAskPut : Option LegDialog → Type 0
CanAskPut None = Unit {0}
CanAskPut (Some leg) = CanAskIn leg.dialog

-- a request that offers, if one comes, and one that gets a 200 now
abbrev pub CanSayTo : Option AskerValue → Type 0
CanSayTo None = Unit {0}
CanSayTo (Some a) = CanSay a.parts a.source a.tag

abbrev pub CanOkayTo : Option AskerValue → Type 0
CanOkayTo None = Unit {0}
CanOkayTo (Some a) = CanSay a.parts a.source a.tag × IsNoInvite a.parts

-- the status of a response is of its class
abbrev pub ComesWithFitStatus : Input → Type 0
ComesWithFitStatus (inputs.Provisional status) = (100 ≤ status) × (status < 200)
ComesWithFitStatus (inputs.Refusal status) = (300 ≤ status) × (status ≤ 699)
ComesWithFitStatus input = Unit {0}

abbrev pub is_offer_input : Input → Bool
is_offer_input (inputs.Offer end method offer) = true
is_offer_input input = false

-- this input, with what comes with it; an offer comes with its request
pub record CanCome (input : Input) (w : ComingValue) : Type 0 where
  pub leg : CanAskPut w.leg
  pub offer : CanSayTo w.offer
  pub request : CanOkayTo w.request
  pub hops : w.hops ≤ 255
  pub status : ComesWithFitStatus input
  pub read : WasReadIn input
  pub asked : is_offer_input input ≡ true → is_some w.offer ≡ true
