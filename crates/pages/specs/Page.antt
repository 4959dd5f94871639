-- The page for a browser.
use Rattle.std.specs.Prelude.{◌≡◌, ℕ, List, ◌++◌, [], ◌∷◌, codes}
use Rattle.pages.specs.Calls.{calls_table}
use Rattle.pages.specs.Escape.{html}
use Rattle.pages.specs.Limits.{events_table, limits_table, log_text}
use Rattle.pages.specs.Pieces.{duration_text, together}
use Rattle.pages.specs.Start.{IsStart}
use Rattle.pages.specs.Users.{users_table}
use Rattle.pages.specs.declared.page.TheConstants.{HEAD}
use Rattle.status.specs.declared.status.Overview.{Overview}
use Rattle.status.specs.declared.status.Status.{Status}

abbrev pub version_text : List ℕ → List ℕ
version_text version = together (html version ∷ codes "</h1>\n<p>Started " ∷ [])

unfoldable pub page_top : List ℕ → List ℕ
page_top version = HEAD.now ++ version_text version

unfoldable pub up_text : ℕ → List ℕ
up_text moment = together (codes ", up " ∷ duration_text moment ∷ codes "</p>\n" ∷ [])

unfoldable pub standing : Status → List ℕ
standing status = calls_table status.moment status.calls ++ users_table status.users

unfoldable pub numbers : Status → List ℕ
numbers status = limits_table status ++ events_table status.events

unfoldable pub page_foot : List (List ℕ) → List ℕ
page_foot log = log_text log ++ codes "</body>\n</html>\n"

-- all after the start
unfoldable pub page_body : Overview → List ℕ
page_body overview = up_text overview.status.now.moment ++ standing overview.status.now ++ numbers overview.status.now ++ page_foot overview.log.now

-- the page of an overview was appended to what was there
abbrev pub IsPage : Overview → List ℕ → List ℕ → Type 0
IsPage overview before behind =
    (start : List ℕ) × IsStart overview.started start × (behind ≡ before ++ (page_top overview.version.now ++ start ++ page_body overview))
