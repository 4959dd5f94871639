-- The lines that are due at a moment.
use Rattle.std.specs.Prelude.{◌≡◌, ◌≢◌, ◌≤◌, ◌<◌, ◌⊎◌, ◌==◌, ◌/◌, ◌-◌, ℕ, Bool, true, false, List, [], ◌∷◌, ◌++◌, codes, decimal, find, Some, if◌then◌else◌}
use Rattle.std.specs.List.{flat_map}
use Rattle.configuration.specs.declared.level.LogLevel.TheVariants as levels
use Rattle.event_rows.specs.declared.tally.Tally.{Tally}
use Rattle.call_traffic.specs.declared.silent_way.SilentWay.{SilentWay}
use Rattle.log_rules.specs.Counts.{next_after}
use Rattle.log_rules.specs.Levels.{is_up_to}
use Rattle.log_rules.specs.NoteLimits.{Contents as Limit}
use Rattle.log_rules.specs.declared.count_schedule.CountSchedule.{CountSchedule}
use Rattle.note_lines.specs.declared.ledger.Entry.{Entry}
use Rattle.note_lines.specs.Ledger.{is_entry}
use Rattle.note_lines.specs.Lines.{said}
use Rattle.note_lines.specs.NoteLines.{count_line, silent_line}
use Rattle.operator.specs.declared.event_log.EventLog.{EventLog}

-- how many events were answered how
abbrev pub tally_first : Tally → List ℕ
tally_first t = codes "office: done " ++ (decimal t.done ++ (codes " unread " ++ (decimal t.unread ++ (codes " stray " ++ decimal t.stray))))

abbrev pub tally_second : Tally → List ℕ
tally_second t = codes " ack " ++ (decimal t.ack ++ (codes " no_branch " ++ (decimal t.no_branch ++ (codes " clock " ++ decimal t.clock))))

abbrev pub tally_last : Tally → List ℕ
tally_last t = codes " spent " ++ (decimal t.spent ++ (codes " shed " ++ (decimal t.shed ++ (codes " idle " ++ (decimal t.idle ++ codes "\n")))))

abbrev pub tally_text : Tally → List ℕ
tally_text t = tally_first t ++ (tally_second t ++ tally_last t)

-- how many lines of strangers were left out in an earlier second, and not told yet
abbrev pub left_out_at : ℕ → Limit → ℕ
left_out_at now limit = if now / 1000 == limit.second then 0 else limit.left_out

abbrev pub left_out_text : ℕ → List ℕ
left_out_text count = if count == 0 then [] else said (Some (count_line (codes "lines-left-out") count))

-- the counts are told if they are due: ten minutes have passed since they were told, and they differ
abbrev pub TellsCounts : Tally → ℕ → CountSchedule → CountSchedule → List ℕ → Type 0
TellsCounts tally now before after text =
    ((before.next ≤ now) × (tally ≢ before.logged) × (text ≡ tally_text tally) × (after ≡ record { logged = tally; next = next_after now }))
    ⊎ (((now < before.next) ⊎ (tally ≡ before.logged)) × (text ≡ []) × (after ≡ before))

-- an end of a call that is silent
abbrev pub silent_text : List Entry → SilentWay → List ℕ
silent_text ledger way = said (silent_line (find (is_entry way.call) ledger) way.end way.expected)

abbrev pub silent_texts : Bool → List Entry → List SilentWay → List ℕ
silent_texts false ledger ways = []
silent_texts true ledger ways = flat_map (silent_text ledger) ways

-- how many lines were left out, the counts, and the silent ends: those are told from the level on that tells of calls
pub record TellsDue (tally : Tally) (ways : List SilentWay) (now : ℕ) (before after : EventLog) (text : List ℕ) : Type 0 where
  pub counts : List ℕ
  pub counted : TellsCounts tally now before.counts after.counts counts
  pub all : text ≡ left_out_text (left_out_at now before.limit) ++ (counts ++ silent_texts (is_up_to levels.Calls before.level) before.ledger ways)
  pub limit : after.limit ≡ record before.limit { left_out = before.limit.left_out - left_out_at now before.limit }
  pub level : after.level ≡ before.level
  pub ledger : after.ledger ≡ before.ledger

-- nothing is told, and nothing changes, where trouble isn't logged
abbrev pub TellsIf : Bool → Tally → List SilentWay → ℕ → EventLog → EventLog → List ℕ → Type 0
TellsIf false tally ways now before after text = (text ≡ []) × (after ≡ before)
TellsIf true tally ways now before after text = TellsDue tally ways now before after text

abbrev pub Tells : Tally → List SilentWay → ℕ → EventLog → EventLog → List ℕ → Type 0
Tells tally ways now before after text = TellsIf (is_up_to levels.Trouble before.level) tally ways now before after text
