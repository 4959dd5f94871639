-- When the server started.
use Rattle.std.specs.Prelude.{◌≡◌, ◌⊎◌, ◌≤◌, ℕ, List, ◌++◌, decimal}
use Rattle.httpdate.specs.Date.{unix_secs, date_text}
use Rattle.httpdate.specs.declared.date.HttpDate.{HttpDate as Date}

-- the text is the date of this second since 1970; from the year 10000 on, its number
abbrev pub IsStart : ℕ → List ℕ → Type 0
IsStart seconds text =
    ((date : Date) × (unix_secs date ≡ seconds) × (text ≡ date_text date))
    ⊎ ((253402300800 ≤ seconds) × (text ≡ decimal seconds))

-- it was appended to what was there
abbrev pub PutsStart : ℕ → List ℕ → List ℕ → Type 0
PutsStart seconds before behind = (text : List ℕ) × IsStart seconds text × (behind ≡ before ++ text)
