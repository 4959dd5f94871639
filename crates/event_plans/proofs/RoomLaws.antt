-- Whether a request of a source may begin one more server transaction.
use Rattle.std.proofs.Common.{◌≡◌, ◌&&◌, Bool, true, false, refl}
use Rattle.transactions.specs.declared.outcome.Verdict.{Verdict}
use Rattle.transactions.specs.declared.outcome.Verdict.TheVariants as verdicts
use Rattle.transactions.specs.Contents.{IsNew}
use Rattle.event_rows.specs.Rows.{begins}

pub has_room : (v : Verdict) (full : Bool) → (IsNew v → full ≡ false) → (begins v && full) ≡ false
has_room (verdicts.New id) full room = room tt
has_room verdicts.Repeat full room = refl
has_room verdicts.Swallowed full room = refl
has_room (verdicts.Up id) full room = refl
has_room verdicts.Stray full room = refl

pub has_none : (v : Verdict) (full : Bool) → IsNew v → full ≡ true → (begins v && full) ≡ true
has_none (verdicts.New id) full is_new no_room = no_room
has_none verdicts.Repeat full is_new no_room = absurd is_new
has_none verdicts.Swallowed full is_new no_room = absurd is_new
has_none (verdicts.Up id) full is_new no_room = absurd is_new
has_none verdicts.Stray full is_new no_room = absurd is_new
