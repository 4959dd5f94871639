-- Trouble that is reported to an operator as it begins.
use Rattle.std.specs.Prelude.{◌==◌, ◌&&◌, nat_lt, Option, Some, None, if◌then◌else◌}
use Rattle.live.specs.declared.streaks.Streaks.{Streaks}
use Rattle.live.specs.declared.trouble.Trouble.{Trouble}
use Rattle.live.specs.declared.trouble.Trouble.TheVariants.{Socket, Memory}

-- the counts before a round, and after it: a failure, or a lost event, that follows none of its kind
abbrev pub trouble_between : Streaks → Streaks → Option Trouble
trouble_between before after =
    if before.failed == 0 && nat_lt 0 after.failed then Some Socket
    else if before.lost == 0 && nat_lt 0 after.lost then Some Memory
    else None
