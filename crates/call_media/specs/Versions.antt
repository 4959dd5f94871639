-- The `o=` lines of what the server sends (RFC 4566 section 5.2, RFC 3264 section 8): of one session a leg, its
-- versions counted.
use Rattle.std.specs.Prelude.{ℕ, List, ◌+◌, ◌*◌, ◌%◌, min}
use Rattle.offer_answer.specs.declared.sent_description.ServerOrigin.{ServerOrigin}
use Rattle.call_media.specs.declared.end.End.{End}
use Rattle.call_media.specs.declared.end.End.TheVariants.{Caller, Callee}
use Rattle.call_media.specs.declared.versions.Versions.{Versions}

abbrev pub none_sent : Versions
none_sent = record { to_caller = 0; to_callee = 0 }

abbrev pub sent_to : End → Versions → ℕ
sent_to Caller v = v.to_caller
sent_to Callee v = v.to_callee

-- it stays at the greatest number that there is
abbrev pub one_more : ℕ → ℕ
one_more n = min (n + 1) 18446744073709551615

abbrev pub one_more_to : End → Versions → Versions
one_more_to Caller v = record { to_caller = one_more v.to_caller; to_callee = v.to_callee }
one_more_to Callee v = record { to_caller = v.to_caller; to_callee = one_more v.to_callee }

-- twice the call's number for the caller's leg, and one more for the callee's, in 64 bits
abbrev pub leg_id : ℕ → End → ℕ
leg_id number Caller = (2 * number) % 18446744073709551616
leg_id number Callee = (2 * number + 1) % 18446744073709551616

-- what the next description to this end says, which is counted
abbrev pub origin : ℕ → List ℕ → End → Versions → ServerOrigin
origin number ip end v = record { id = leg_id number end; version = one_more (sent_to end v); ip = ip }
