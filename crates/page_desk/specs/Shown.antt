-- What a client is shown.
use Rattle.std.specs.Prelude.{◌≡◌, ℕ, List, [], Option, Some, None}
use Rattle.page_server.specs.declared.path.Path.{Path}
use Rattle.page_server.specs.declared.path.Path.TheVariants.{Page, Json, Metrics}
use Rattle.pages.specs.Json.{json_text}
use Rattle.pages.specs.Metrics.{metrics_text}
use Rattle.pages.specs.Page.{IsPage}
use Rattle.status.specs.declared.status.Overview.{Overview}
use Rattle.status.specs.declared.status.Status.{Status}
use Rattle.page_desk.specs.declared.page_desk.PageDesk.{PageDesk}

-- it has the server's version and start, this snapshot, and the lines that are kept
pub record IsOverview (desk : PageDesk) (status : Status) (overview : Overview) : Type 0 where
  pub version : overview.version.now ≡ desk.version.now
  pub started : overview.started ≡ desk.started
  pub snapshot : overview.status.now ≡ status
  pub log : overview.log.now ≡ desk.log.lines

-- the page that was asked for
abbrev pub IsPageOf : Path → Overview → List ℕ → Type 0
IsPageOf Page overview body = IsPage overview [] body
IsPageOf Json overview body = body ≡ json_text overview
IsPageOf Metrics overview body = body ≡ metrics_text overview

-- of the snapshot that came last; nothing before the first
abbrev pub IsShown : PageDesk → Path → Option Status → List ℕ → Type 0
IsShown desk path None body = body ≡ []
IsShown desk path (Some status) body = (overview : Overview) × IsOverview desk status overview × IsPageOf path overview body

abbrev pub Shows : PageDesk → Path → List ℕ → Type 0
Shows desk path body = IsShown desk path desk.latest.status body
