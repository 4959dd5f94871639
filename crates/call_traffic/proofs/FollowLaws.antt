-- What happened to a call is followed.
use Rattle.std.proofs.Common.{◌≡◌, ℕ, List, Option, find, MatchOption, subst}
use Rattle.calls.specs.declared.standing_call.StandingCall.{StandingCall}
use Rattle.call_core.specs.declared.note.NoteOfCall.{NoteOfCall}
use Rattle.call_traffic.specs.declared.traffic_log.TrafficLog.{TrafficLog}
use Rattle.call_traffic.specs.Calls.{has_number}
use Rattle.call_traffic.specs.Following.{IsFollowed, is_call}
use Rattle.call_traffic.specs.MediaLogs.{Begins, FirstBecomes, Follows}
use Rattle.call_traffic.specs.Reading.{Reading}

abbrev Followed : NoteOfCall → ℕ → List Reading → List Reading → TrafficLog → TrafficLog → Option StandingCall → Type 0
Followed note now old new begun after standing = MatchOption standing ((new ≡ old) × (after.calls.items ≡ begun.calls.items))
    (λ s. FirstBecomes (has_number note.number) (IsFollowed s.call note.note now old new) (new ≡ old) begun.calls.items after.calls.items)

pub follows : (standing : List StandingCall) (note : NoteOfCall) (now : ℕ) (old new : List Reading) (before begun after : TrafficLog) (found : Option StandingCall) →
    Begins note now before begun → found ≡ find (is_call note.number) standing → MatchOption found ((new ≡ old) × (after.calls.items ≡ begun.calls.items))
    (λ s. FirstBecomes (has_number note.number) (IsFollowed s.call note.note now old new) (new ≡ old) begun.calls.items after.calls.items) →
    after ≡ record begun { calls = after.calls } → Follows standing note now old new before after
follows standing note now old new before begun after found begins is followed others = record {
  begun = begun;
  begins = begins;
  followed = subst (Followed note now old new begun after) is followed;
  others = others;
}
