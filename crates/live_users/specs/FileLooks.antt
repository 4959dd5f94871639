-- Looks at the configuration's file, and what is handed over for them.
use Rattle.std.specs.Prelude.{◌≡◌, ◌⊎◌, ◌∷◌, [], ◌++◌, ℕ, Bool, true, List, Option, Some, None}
use Rattle.rtrb.specs.declared.producer.Producer.{Producer}
use Rattle.rtrb.specs.Ring.{known_free, sent}
use Rattle.live_users.specs.declared.file_watch.Look.{Look}
use Rattle.live_users.specs.declared.file_watch.Look.TheVariants.{Same, Changed, Gone}
use Rattle.live_users.specs.declared.found.Found.{Found}
use Rattle.live_users.specs.declared.news.FileNews.{FileNews}
use Rattle.live_users.specs.declared.report.FileReport.{FileReport}
use Rattle.live_users.specs.declared.report.FileReport.TheVariants.{Refused}
use Rattle.live_users.specs.Looks.{Looks}
use Rattle.live_users.specs.News.{IsNewsOf, is_refusal}
use Rattle.live_users.specs.Reports.{Contents, IsReportOf, users_after}

-- it can't be read
abbrev pub IsMissed : Contents → Contents → Option FileReport → Type 0
IsMissed before after report = (report ≡ Some (Refused None)) × (after ≡ users_after before report)

-- it was read as some bytes, or can't be read
abbrev pub IsReading : Contents → Contents → Option FileReport → Type 0
IsReading before after report =
    ((bytes : List ℕ) × IsReportOf before bytes report × (after ≡ users_after before report)) ⊎ IsMissed before after report

-- a file that is the same isn't read, and nothing is reported of it
abbrev pub IsReported : Look → Contents → Contents → Option FileReport → Type 0
IsReported Same before after report = (report ≡ None) × (after ≡ before)
IsReported Changed before after report = IsReading before after report
IsReported Gone before after report = IsMissed before after report

abbrev pub IsRefusal : Option FileReport → Type 0
IsRefusal None = ⊥
IsRefusal (Some report) = is_refusal report ≡ true

-- each report has its news
abbrev pub AreNewsOf : Bool → Option FileReport → Option FileNews → Type 0
AreNewsOf was_refused None news = news ≡ None
AreNewsOf was_refused (Some report) news = (told : FileNews) × (news ≡ Some told) × IsNewsOf was_refused report told

-- A look said something of the file, which was reported, and these are the news of it. `seen` are what the look before
-- found and what this one did; `before` and `after` are the users that were reported, and whether the file was refused.
pub record IsLook (seen sees : Option Found) (before after : Contents) (news : Option FileNews) : Type 0 where
  pub look : Look
  pub report : Option FileReport
  pub looks : Looks seen sees look
  pub reported : IsReported look before after report
  pub told : AreNewsOf before.is_refused report news

-- the news as a list
abbrev pub listed : Option FileNews → List FileNews
listed None = []
listed (Some news) = news ∷ []

-- news wait still, and nothing is looked at
pub record Waits {A P : Type 0} (seen sees : Option Found) (before after : Contents) (old new : Producer FileNews A P) : Type 0 where
  pub full : known_free new ≡ 0
  pub none : sent new ≡ sent old
  pub unseen : sees ≡ seen
  pub same : after ≡ before

-- memory was refused: nothing counts as reported, and the next look is like a first one
pub record LacksMemory {A P : Type 0} (sees : Option Found) (before after : Contents) (old new : Producer FileNews A P) : Type 0 where
  pub none : sent new ≡ sent old
  pub forgotten : sees ≡ None
  pub same : after ≡ before

-- the file was looked at, and the news of it are handed over
pub record Tells {A P : Type 0} (seen sees : Option Found) (before after : Contents) (old new : Producer FileNews A P) : Type 0 where
  pub news : Option FileNews
  pub look : IsLook seen sees before after news
  pub handed : sent new ≡ sent old ++ listed news

abbrev pub HandsOver : {A P : Type 0} → Option Found → Option Found → Contents → Contents → Producer FileNews A P → Producer FileNews A P → Type 0
HandsOver seen sees before after old new =
    Tells seen sees before after old new ⊎ Waits seen sees before after old new ⊎ LacksMemory sees before after old new
