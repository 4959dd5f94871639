-- The order of a dialog's requests (RFC 3261 sections 12.2.1.1 and 12.2.2).
use Rattle.std.specs.Prelude.{ℕ, ◌+◌, ◌-◌, ◌<◌, ◌≤◌, Bool, true, nat_lt, List, codes, Option, Some, None, unwrap_or}
use Rattle.sip_message.specs.CSeq.{max_cseq}
use Rattle.dialogs.specs.declared.error.DialogError.{DialogError}
use Rattle.dialogs.specs.declared.error.DialogError.TheVariants.{OutOfMemory, OldNumber, NoNumberLeft}
use Rattle.dialogs.specs.declared.method.Method.{Method}
use Rattle.dialogs.specs.declared.method.Method.TheVariants.{Invite, Update, Bye}
use Rattle.dialogs.specs.declared.state.Dialog.{Dialog}

-- ---- requests that were taken

-- a first number, or one above the last
abbrev pub is_above : Option ℕ → ℕ → Bool
is_above None number = true
is_above (Some last) number = nat_lt last number

abbrev pub IsAbove : Option ℕ → ℕ → Type 0
IsAbove None number = Unit {0}
IsAbove (Some last) number = last < number

-- a number that is lower than the last one, or equal to it
abbrev pub IsOld : Option ℕ → ℕ → Type 0
IsOld None number = ⊥
IsOld (Some last) number = number ≤ last

-- why a request that was taken is refused
abbrev pub RefusesRequest : Dialog → ℕ → DialogError → Type 0
RefusesRequest d number OutOfMemory = ⊥
RefusesRequest d number OldNumber = IsOld d.remote_number number
RefusesRequest d number NoNumberLeft = ⊥

-- ---- requests that are sent

abbrev pub method_text : Method → List ℕ
method_text Invite = codes "INVITE"
method_text Update = codes "UPDATE"
method_text Bye = codes "BYE"

-- the number of the last request, and 0 before the first
abbrev pub last_number : Dialog → ℕ
last_number d = unwrap_or d.local_number 0

-- one more than the last; the first is 1
abbrev pub following : Dialog → ℕ
following d = last_number d + 1

-- the greatest number of all (section 8.1.1.5) is left for a BYE, so that a dialog can always be ended
abbrev pub max_for : Method → ℕ
max_for Invite = max_cseq - 1
max_for Update = max_cseq - 1
max_for Bye = max_cseq

-- why there is no number for a new request
abbrev pub RefusesNumber : Dialog → Method → DialogError → Type 0
RefusesNumber d method OutOfMemory = ⊥
RefusesNumber d method OldNumber = ⊥
RefusesNumber d method NoNumberLeft = max_for method ≤ last_number d

-- why there is no new request
abbrev pub RefusesNext : Dialog → Method → DialogError → Type 0
RefusesNext d method OutOfMemory = Unit {0}
RefusesNext d method OldNumber = ⊥
RefusesNext d method NoNumberLeft = max_for method ≤ last_number d
