-- What a call's traffic is after something happened to the call.
use Rattle.std.specs.Prelude.{◌≡◌, ℕ, ◌==◌, Bool, true, false, List, [], ◌++◌, Option, Some, None, option_map, if◌then◌else◌}
use Rattle.std.specs.List.{AllZip}
use Rattle.calls.specs.declared.standing_call.StandingCall.{StandingCall}
use Rattle.call_core.specs.declared.call.Call.{Call}
use Rattle.call_core.specs.declared.note.CallNote.{CallNote}
use Rattle.call_core.specs.declared.note.CallNote.TheVariants.{Begun, Answered, Refused, GivenUp, Reanswered, Left, Failed, Unacknowledged, Expired}
use Rattle.call_media.specs.declared.end.End.TheVariants.{Caller, Callee}
use Rattle.call_media.specs.declared.session.Session.{Session}
use Rattle.call_traffic.specs.declared.call_traffic.CallTraffic.{CallTraffic}
use Rattle.call_traffic.specs.declared.relay_port.RelayPort.{RelayPort}
use Rattle.call_traffic.specs.declared.sources.Sources.{Sources}
use Rattle.call_traffic.specs.Calls.{CallLooks, all_with_rtcp}
use Rattle.call_traffic.specs.EndTraffic.{HasOtherPorts, after_taking}
use Rattle.call_traffic.specs.Facing.{ports_of}
use Rattle.call_traffic.specs.Looks.{after_look}
use Rattle.call_traffic.specs.Reading.{Reading}
use Rattle.call_traffic.specs.Readings.{IsCallRead, call_readings, port_readings}
use Rattle.call_traffic.specs.RelayPorts.{IsJustGot}
use Rattle.call_traffic.specs.Sources.{sources_of}
use Rattle.call_traffic.specs.Stillness.{IsStillnessOf}

-- ---- what a note says

abbrev pub is_begin : CallNote → Bool
is_begin Begun = true
is_begin note = false

-- a session begins, or another replaces it
abbrev pub is_answer : CallNote → Bool
is_answer Answered = true
is_answer Reanswered = true
is_answer note = false

-- the call is over
abbrev pub is_over : CallNote → Bool
is_over (Refused status) = true
is_over GivenUp = true
is_over (Left end) = true
is_over (Failed status) = true
is_over Unacknowledged = true
is_over Expired = true
is_over note = false

-- the call of this number
abbrev pub is_call : ℕ → StandingCall → Bool
is_call number standing = standing.call.number == number

-- where RTP should come from after this, if that is new
abbrev pub new_sources : CallNote → Option Session → Option Sources
new_sources note session = if is_answer note then option_map sources_of session else None

-- ---- what becomes of the traffic

-- The call gets the ports that face its ends now, each with what had come there, and leaves all others. `old` and `new`
-- are the readings that were given before and after.
pub record HasGotPorts (call : Call) (old new : List Reading) (before after : CallTraffic) : Type 0 where
  pub caller : List RelayPort
  pub callee : List RelayPort
  pub of_caller : AllZip IsJustGot (ports_of Caller call) caller
  pub of_callee : AllZip IsJustGot (ports_of Callee call) callee
  pub told : new ≡ old ++ port_readings caller ++ port_readings callee
  pub caller_ports : after.from_caller.ports.items ≡ after_taking caller before.from_caller.ports.items
  pub callee_ports : after.from_callee.ports.items ≡ after_taking callee before.from_callee.ports.items
  pub from_caller : HasOtherPorts before.from_caller after.from_caller
  pub from_callee : HasOtherPorts before.from_callee after.from_callee
  pub others : after ≡ record before { from_caller = after.from_caller; from_callee = after.from_callee }

-- RTP should come from these sources from now on, and the call has been still since now.
pub record ExpectsFrom (sources : Sources) (now : ℕ) (before after : CallTraffic) : Type 0 where
  pub caller : after.from_caller.way.source ≡ sources.caller
  pub callee : after.from_callee.way.source ≡ sources.callee
  pub caller_looks : IsStillnessOf (after_look [] now before.from_caller.way.stillness.count) after.from_caller.way.stillness
  pub callee_looks : IsStillnessOf (after_look [] now before.from_callee.way.stillness.count) after.from_callee.way.stillness
  pub caller_told : after.from_caller.way.is_told ≡ before.from_caller.way.is_told
  pub callee_told : after.from_callee.way.is_told ≡ before.from_callee.way.is_told
  pub looks : CallLooks (after_look [] now (all_with_rtcp before)) after
  pub others : after ≡ record before {
    from_caller = record before.from_caller { way = after.from_caller.way };
    from_callee = record before.from_callee { way = after.from_callee.way };
    stillness = after.stillness;
  }

abbrev pub Expects : Option Sources → ℕ → CallTraffic → CallTraffic → Type 0
Expects None now before after = after ≡ before
Expects (Some sources) now before after = ExpectsFrom sources now before after

-- Its ports' counts were read, and then it got the ports of the call. After an answer it expects RTP from the
-- session's sources.
pub record IsFollowed (call : Call) (note : CallNote) (now : ℕ) (old new : List Reading) (before after : CallTraffic) : Type 0 where
  pub read : CallTraffic
  pub got : CallTraffic
  pub is_read : IsCallRead before read
  pub has_got : HasGotPorts call (old ++ call_readings read) new read got
  pub expects : Expects (new_sources note call.media.session) now got after

-- It may lack ports of the call, so it isn't silent before it is answered again. No total changes.
pub record LacksPorts (before after : CallTraffic) : Type 0 where
  pub from_caller : HasOtherPorts before.from_caller after.from_caller
  pub from_callee : HasOtherPorts before.from_callee after.from_callee
  pub others : after ≡ record before { from_caller = after.from_caller; from_callee = after.from_callee; stillness = None }

-- Its ports' counts were read, and then memory was refused.
pub record HasMissed (before after : CallTraffic) : Type 0 where
  pub read : CallTraffic
  pub is_read : IsCallRead before read
  pub lacks : LacksPorts read after
