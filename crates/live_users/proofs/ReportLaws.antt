-- The report of bytes that say a configuration.
use Rattle.std.proofs.Common.{◌≡◌, ℕ, List, Option, Result, Ok, Err, IfOk, inl, ap, ◌∙◌}
use Rattle.configuration.specs.declared.config.Config.{Config}
use Rattle.configuration.specs.Reading.{ReadsConfig}
use Rattle.live_users.specs.declared.report.FileReport.{FileReport}
use Rattle.live_users.specs.Reports.{Contents, IsReportOf, right_report}

pub right_bytes : {E : Type 0} (r : Result (Option FileReport) E) (file : Contents) (bytes : List ℕ) (config : Config) (users : List (List ℕ))
    → ReadsConfig bytes config → users ≡ config.users → IfOk r (λ report. report ≡ right_report file users) → IfOk r (IsReportOf file bytes)
right_bytes (Ok report) file bytes config users reads same is =
    inl (record { config = config; reads = reads; reported = is ∙ ap (right_report file) same })
right_bytes (Err e) file bytes config users reads same is = is
