-- What is reported of a configuration's file, and what is kept of it.
use Rattle.std.specs.Prelude.{◌≡◌, ◌⊎◌, ℕ, Bool, true, false, ◌&&◌, ◌==◌, List, Option, Some, None, if◌then◌else◌}
use Rattle.configuration.specs.declared.config.Config.{Config}
use Rattle.configuration.specs.declared.fault.ConfigFault.{ConfigFault}
use Rattle.configuration.specs.FaultOf.{IsFaultOf}
use Rattle.configuration.specs.Reading.{ReadsConfig}
use Rattle.live_users.specs.declared.report.FileReport.{FileReport}
use Rattle.live_users.specs.declared.report.FileReport.TheVariants.{Users, RightAgain, Refused}
use Rattle.live_users.specs.Lists.{missing_count}

-- the users that were reported last, and whether the file was refused when it was last read
pub record Contents : Type 0 where
  pub users : List (List ℕ)
  pub is_refused : Bool

-- a file whose users are the same is reported only if it was refused before
abbrev pub same_users : Bool → Option FileReport
same_users false = None
same_users true = Some RightAgain

-- the file says a configuration with these users
abbrev pub right_report : Contents → List (List ℕ) → Option FileReport
right_report file users =
    if missing_count users file.users == 0 && missing_count file.users users == 0
    then same_users file.is_refused
    else Some (Users users (missing_count users file.users) (missing_count file.users users))

-- the users that are reported replace those before
abbrev pub users_after : Contents → Option FileReport → Contents
users_after file None = record { users = file.users; is_refused = false }
users_after file (Some (Users users added removed)) = record { users = users; is_refused = false }
users_after file (Some RightAgain) = record { users = file.users; is_refused = false }
users_after file (Some (Refused fault)) = record { users = file.users; is_refused = true }

-- the bytes say a configuration that keeps the rules, whose users are reported
pub record IsRight (file : Contents) (bytes : List ℕ) (report : Option FileReport) : Type 0 where
  pub config : Config
  pub reads : ReadsConfig bytes config
  pub reported : report ≡ right_report file config.users

-- or else the report says what is wrong with them, and where
pub record IsWrong (bytes : List ℕ) (report : Option FileReport) : Type 0 where
  pub fault : ConfigFault
  pub is_fault : IsFaultOf bytes fault
  pub reported : report ≡ Some (Refused (Some fault))

abbrev pub IsReportOf : Contents → List ℕ → Option FileReport → Type 0
IsReportOf file bytes report = IsRight file bytes report ⊎ IsWrong bytes report
