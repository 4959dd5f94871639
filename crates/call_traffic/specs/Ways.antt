-- When an end of a call is silent.
use Rattle.std.specs.Prelude.{◌≡◌, ℕ, ◌*◌, false, List, [], Option, Some, None}
use Rattle.sip_uri.specs.declared.uri.Addr.{Addr}
use Rattle.call_traffic.specs.declared.way.Way.{Way}
use Rattle.call_traffic.specs.Limits.{silent_time}
use Rattle.call_traffic.specs.Looks.{Look, after_look}
use Rattle.call_traffic.specs.Stillness.{IsStill}

-- An end is silent: RTP should come from a source, and none came for ten seconds, by these looks. It was not
-- reported.
pub record IsSilent (way : Way) (looks : List Look) (now : ℕ) (source : Addr) : Type 0 where
  pub expected : way.source ≡ Some source
  pub untold : way.is_told ≡ false
  pub still : IsStill looks now silent_time

-- the looks that count: while no RTP should come, each look restarts them
abbrev pub looks_since : Option Addr → List Look → ℕ → ℕ → List Look
looks_since None looks now count = after_look [] now count
looks_since (Some source) looks now count = after_look looks now count
