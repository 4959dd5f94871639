-- Whether a call is live with no offer open, and each answered.
use Rattle.std.specs.Prelude.{ℕ, ◌&&◌, Bool, List}
use Rattle.std.specs.List.{list_any}
use Rattle.call_core.specs.Calls.{holds_in}
use Rattle.call_core.specs.Notes.{is_settled}
use Rattle.calls.specs.declared.standing_call.StandingCall.{StandingCall}
use Rattle.calls.specs.Finding.{has_number}

abbrev pub is_settled_call : ℕ → StandingCall → Bool
is_settled_call number c = has_number number c && holds_in is_settled c.call.standing

-- the call of this number
abbrev pub has_settled : ℕ → List StandingCall → Bool
has_settled number calls = list_any (is_settled_call number) calls
