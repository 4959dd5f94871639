-- What a client is shown.
use Rattle.std.proofs.Common.{◌≡◌, ℕ, List, [], ◌++◌, Option, Some, Result, Ok, Err, OnOk, refl, sym, subst}
use Rattle.page_server.specs.declared.path.Path.{Path}
use Rattle.page_server.specs.declared.path.Path.TheVariants.{Page, Json, Metrics}
use Rattle.pages.specs.Json.{json_text}
use Rattle.pages.specs.Metrics.{metrics_text}
use Rattle.pages.specs.Page.{IsPage, page_body, page_top}
use Rattle.status.specs.declared.status.Overview.{Overview}
use Rattle.status.specs.declared.status.Status.{Status}
use Rattle.page_desk.specs.declared.page_desk.PageDesk.{PageDesk}
use Rattle.page_desk.specs.Shown.{IsOverview, IsPageOf, IsShown, Shows}

-- of the last snapshot
of_last : (desk : PageDesk) (path asked : Path) (status : Status) (overview : Overview) (body : List ℕ) → desk.latest.status ≡ Some status → path ≡ asked
    → IsOverview desk status overview → IsPageOf asked overview body → Shows desk path body
of_last desk path asked status overview body last is over page =
    subst (λ (s : Option Status). IsShown desk path s body) (sym last) (overview, over, subst (λ (p : Path). IsPageOf p overview body) (sym is) page)

pub page_shown : {T E : Type 0} (r : Result T E) (desk : PageDesk) (path : Path) (status : Status) (overview : Overview) (before after : List ℕ)
    → desk.latest.status ≡ Some status → path ≡ Page → IsOverview desk status overview → OnOk r (IsPage overview before after)
    → OnOk r ((body : List ℕ) × (after ≡ before ++ body) × Shows desk path body)
page_shown (Err e) desk path status overview before after last is over put = tt
page_shown (Ok x) desk path status overview before after last is over (start, begins, all) =
    let body = page_top overview.version.now ++ start ++ page_body overview in
    (body, all, of_last desk path Page status overview body last is over (start, begins, refl))

pub json_shown : {T E : Type 0} (r : Result T E) (desk : PageDesk) (path : Path) (status : Status) (overview : Overview) (before after : List ℕ)
    → desk.latest.status ≡ Some status → path ≡ Json → IsOverview desk status overview → OnOk r (after ≡ before ++ json_text overview)
    → OnOk r ((body : List ℕ) × (after ≡ before ++ body) × Shows desk path body)
json_shown (Err e) desk path status overview before after last is over put = tt
json_shown (Ok x) desk path status overview before after last is over all =
    (json_text overview, all, of_last desk path Json status overview (json_text overview) last is over refl)

pub metrics_shown : {T E : Type 0} (r : Result T E) (desk : PageDesk) (path : Path) (status : Status) (overview : Overview) (before after : List ℕ)
    → desk.latest.status ≡ Some status → path ≡ Metrics → IsOverview desk status overview → OnOk r (after ≡ before ++ metrics_text overview)
    → OnOk r ((body : List ℕ) × (after ≡ before ++ body) × Shows desk path body)
metrics_shown (Err e) desk path status overview before after last is over put = tt
metrics_shown (Ok x) desk path status overview before after last is over all =
    (metrics_text overview, all, of_last desk path Metrics status overview (metrics_text overview) last is over refl)
