-- What is handed over of a configuration's file that changed.
use Rattle.std.specs.Prelude.{◌≡◌, ◌++◌, ℕ, Bool, true, false, List, Option, Some, None, IfSome, codes}
use Rattle.live_users.specs.declared.news.FileNews.{FileNews}
use Rattle.live_users.specs.declared.news.OtherUsers.{OtherUsers}
use Rattle.live_users.specs.declared.report.FileReport.{FileReport}
use Rattle.live_users.specs.declared.report.FileReport.TheVariants.{Users, RightAgain, Refused}

-- the line for a file that is refused
abbrev pub refusal_line : List ℕ → List ℕ
refusal_line reason = codes "office: trouble: config: " ++ reason ++ codes "\n"

-- the line once it is right again
abbrev pub trouble_end : List ℕ
trouble_end = codes "office: trouble is over: config\n"

-- a line for a refusal, and for these words if they are known
pub record IsRefusalOf (words : Option (List ℕ)) (line : List ℕ) : Type 0 where
  pub reason : List ℕ
  pub whole : line ≡ refusal_line reason
  pub known : IfSome words (λ known. reason ≡ known)

-- the reason for a file that can't be read; the words of a fault are the configuration's
abbrev pub known_reason : {F : Type 0} → Option F → Option (List ℕ)
known_reason None = Some (codes "the file of the configuration cannot be read")
known_reason (Some fault) = None

-- the end of trouble is told only if there was trouble
abbrev pub end_of : Bool → Option (List ℕ)
end_of true = Some trouble_end
end_of false = None

abbrev pub is_refusal : FileReport → Bool
is_refusal (Users users added removed) = false
is_refusal RightAgain = false
is_refusal (Refused fault) = true

-- other users, if these are reported
abbrev pub users_of : FileReport → Option OtherUsers
users_of (Users users added removed) = Some (record { users = users; added = added; removed = removed })
users_of RightAgain = None
users_of (Refused fault) = None

-- the line of each refusal, and that of its end
abbrev pub IsLineOf : Bool → FileReport → Option (List ℕ) → Type 0
IsLineOf was_refused (Users users added removed) line = line ≡ end_of was_refused
IsLineOf was_refused RightAgain line = line ≡ end_of was_refused
IsLineOf was_refused (Refused fault) line = (words : List ℕ) × (line ≡ Some words) × IsRefusalOf (known_reason fault) words

-- what is handed over for a report, if the file had been refused or not
pub record IsNewsOf (was_refused : Bool) (report : FileReport) (news : FileNews) : Type 0 where
  pub users : news.users ≡ users_of report
  pub line : IsLineOf was_refused report news.line
