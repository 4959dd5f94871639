-- Which silent ends of calls are reported.
use Rattle.std.specs.Prelude.{◌≡◌, ℕ, ◌||◌, List, [], ◌∷◌, ◌++◌, is_some, map, IfSome, Option, Some, None}
use Rattle.std.specs.List.{AllZip, flat_map}
use Rattle.sip_uri.specs.declared.uri.Addr.{Addr}
use Rattle.call_media.specs.declared.end.End.{End}
use Rattle.call_media.specs.declared.end.End.TheVariants.{Caller, Callee}
use Rattle.call_traffic.specs.declared.call_traffic.CallTraffic.{CallTraffic}
use Rattle.call_traffic.specs.declared.silent_way.SilentWay.{SilentWay}
use Rattle.call_traffic.specs.Calls.{traffic_from, with_way}
use Rattle.call_traffic.specs.EndTraffic.{total}
use Rattle.call_traffic.specs.Looks.{Look, MomentsRise, after_look}
use Rattle.call_traffic.specs.Stillness.{IsStillnessOf}
use Rattle.call_traffic.specs.Ways.{IsSilent, looks_since}

-- A further look at an end of a call. `source` is where RTP should come from, if the end is silent and that was not
-- reported.
pub record TellsEnd (end : End) (now : ℕ) (before after : CallTraffic) (source : Option Addr) : Type 0 where
  pub looks : (looks : List Look) → let was = traffic_from end before in IsStillnessOf looks was.way.stillness →
      IsStillnessOf (looks_since was.way.source looks now (total was)) (traffic_from end after).way.stillness
  pub silent : (looks : List Look) → let was = traffic_from end before in IsStillnessOf looks was.way.stillness →
      IfSome source (λ place. IsSilent was.way (after_look looks now (total was)) now place)
  -- each silent end is reported
  pub each : (looks : List Look) (place : Addr) → let was = traffic_from end before in IsStillnessOf looks was.way.stillness →
      MomentsRise (after_look looks now (total was)) → IsSilent was.way (after_look looks now (total was)) now place → source ≡ Some place
  pub once : (traffic_from end after).way.is_told ≡ (traffic_from end before).way.is_told || is_some source
  pub expected : (traffic_from end after).way.source ≡ (traffic_from end before).way.source
  pub others : after ≡ with_way end (traffic_from end after).way before

abbrev pub way_from : ℕ → End → Option Addr → List SilentWay
way_from number end None = []
way_from number end (Some expected) = record { call = number; end = end; expected = expected } ∷ []

-- A further look at both ends of a call, the caller's first.
pub record TellsCall (now : ℕ) (before after : CallTraffic) (ways : List SilentWay) : Type 0 where
  pub between : CallTraffic
  pub from_caller : Option Addr
  pub from_callee : Option Addr
  pub of_caller : TellsEnd Caller now before between from_caller
  pub of_callee : TellsEnd Callee now between after from_callee
  pub told : ways ≡ way_from before.number Caller from_caller ++ way_from between.number Callee from_callee

-- a call after a further look, and which of its ends are reported
pub record Told : Type 0 where
  pub call : CallTraffic
  pub ways : List SilentWay

-- A further look at each call.
pub record TellsAll (now : ℕ) (before after : List CallTraffic) (ways : List SilentWay) : Type 0 where
  pub each : List Told
  pub tells : AllZip (λ call told. TellsCall now call told.call told.ways) before each
  pub calls : after ≡ map (λ told. told.call) each
  pub told : ways ≡ flat_map (λ told. told.ways) each
