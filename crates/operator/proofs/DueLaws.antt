-- The lines that are due, one after the other.
use Rattle.std.proofs.Common.{◌≡◌, ◌-◌, ℕ, Bool, true, false, List, [], ◌++◌, Result, Ok, Err, OnOk, refl, sym, ap, subst, ◌∙◌}
use Rattle.std.proofs.lemmas.List.{append_assoc}
use Rattle.configuration.specs.declared.level.LogLevel.{LogLevel}
use Rattle.configuration.specs.declared.level.LogLevel.TheVariants as levels
use Rattle.event_rows.specs.declared.tally.Tally.{Tally}
use Rattle.call_traffic.specs.declared.silent_way.SilentWay.{SilentWay}
use Rattle.log_rules.specs.Levels.{is_up_to}
use Rattle.log_rules.specs.declared.count_schedule.CountSchedule.{CountSchedule}
use Rattle.note_lines.specs.declared.ledger.Entry.{Entry}
use Rattle.operator.specs.declared.event_log.EventLog.{EventLog}
use Rattle.operator.specs.DueLines.{TellsCounts, TellsDue, left_out_at, left_out_text, silent_texts}

-- which silent ends are told, by whether calls are
pub none_silent : (level told : LogLevel) (b : Bool) (ledger : List Entry) (ways : List SilentWay) → b ≡ is_up_to levels.Calls level → level ≡ told → b ≡ false
    → [] ≡ silent_texts (is_up_to levels.Calls told) ledger ways
none_silent level told b ledger ways is same off = subst (λ (c : Bool). [] ≡ silent_texts c ledger ways) (sym off ∙ is ∙ ap (λ (l : LogLevel). is_up_to levels.Calls l) same) refl

pub all_silent : (level told : LogLevel) (b : Bool) (ledger kept : List Entry) (ways : List SilentWay) → b ≡ is_up_to levels.Calls level → level ≡ told → b ≡ true → kept ≡ ledger
    → silent_texts true kept ways ≡ silent_texts (is_up_to levels.Calls told) ledger ways
all_silent level told b ledger kept ways is same on kept_is =
    ap (λ (es : List Entry). silent_texts true es ways) kept_is
    ∙ ap (λ (c : Bool). silent_texts c ledger ways) (sym on ∙ is ∙ ap (λ (l : LogLevel). is_up_to levels.Calls l) same)

pub all_due : (tally : Tally) (ways : List SilentWay) (now : ℕ) (before mid after : EventLog) (out0 out1 out2 out3 silent : List ℕ)
    → out1 ≡ out0 ++ left_out_text (left_out_at now before.limit)
    → mid ≡ record before { limit = record before.limit { left_out = before.limit.left_out - left_out_at now before.limit } }
    → ((text : List ℕ) × TellsCounts tally now mid.counts after.counts text × (out2 ≡ out1 ++ text))
    → after ≡ record mid { counts = after.counts }
    → out3 ≡ out2 ++ silent
    → silent ≡ silent_texts (is_up_to levels.Calls before.level) before.ledger ways
    → (text : List ℕ) × TellsDue tally ways now before after text × (out3 ≡ out0 ++ text)
all_due tally ways now before mid after out0 out1 out2 out3 silent first limited (counts, told, second) counted third is =
    let left = left_out_text (left_out_at now before.limit) in
    let ends = silent_texts (is_up_to levels.Calls before.level) before.ledger ways in (
      left ++ (counts ++ ends),
      record {
        counts = counts;
        counted = subst (λ (s : CountSchedule). TellsCounts tally now s after.counts counts) (ap (λ (l : EventLog). l.counts) limited) told;
        all = refl;
        limit = ap (λ (l : EventLog). l.limit) counted ∙ ap (λ (l : EventLog). l.limit) limited;
        level = ap (λ (l : EventLog). l.level) counted ∙ ap (λ (l : EventLog). l.level) limited;
        ledger = ap (λ (l : EventLog). l.ledger) counted ∙ ap (λ (l : EventLog). l.ledger) limited;
      },
      third
          ∙ ap (λ xs. xs ++ silent) (second ∙ ap (λ xs. xs ++ counts) first)
          ∙ append_assoc (out0 ++ left) counts silent
          ∙ append_assoc out0 left (counts ++ silent)
          ∙ ap (λ xs. out0 ++ (left ++ (counts ++ xs))) is,
    )

pub all_due_if : {T E : Type 0} (r : Result T E) (tally : Tally) (ways : List SilentWay) (now : ℕ) (before mid after : EventLog) (out0 out1 out2 out3 silent : List ℕ)
    → out1 ≡ out0 ++ left_out_text (left_out_at now before.limit)
    → mid ≡ record before { limit = record before.limit { left_out = before.limit.left_out - left_out_at now before.limit } }
    → ((text : List ℕ) × TellsCounts tally now mid.counts after.counts text × (out2 ≡ out1 ++ text))
    → after ≡ record mid { counts = after.counts }
    → OnOk r (out3 ≡ out2 ++ silent)
    → silent ≡ silent_texts (is_up_to levels.Calls before.level) before.ledger ways
    → OnOk r ((text : List ℕ) × TellsDue tally ways now before after text × (out3 ≡ out0 ++ text))
all_due_if (Err e) tally ways now before mid after out0 out1 out2 out3 silent first limited second counted third is = tt
all_due_if (Ok x) tally ways now before mid after out0 out1 out2 out3 silent first limited second counted third is =
    all_due tally ways now before mid after out0 out1 out2 out3 silent first limited second counted third is
