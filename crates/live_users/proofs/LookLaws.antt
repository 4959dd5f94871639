-- What a look without memory leaves.
use Rattle.std.proofs.Common.{◌≡◌, Bool, Option, Some, None, Result, Ok, Err, OnErr, subst, ap, ◌∙◌, inl, inr}
use Rattle.live_users.specs.declared.file_watch.Look.{Look}
use Rattle.live_users.specs.declared.file_watch.Look.TheVariants.{Same, Changed, Gone}
use Rattle.live_users.specs.declared.report.FileReport.{FileReport}
use Rattle.live_users.specs.declared.report.FileReport.TheVariants.{Users, RightAgain, Refused}
use Rattle.live_users.specs.FileLooks.{IsRefusal, IsReported}
use Rattle.live_users.specs.Reports.{Contents, users_after}

left_by : (look : Look) (before after : Contents) (report : Option FileReport) → IsReported look before after report → IsRefusal report → after ≡ users_after before report
left_by Same before after report reported refusal = absurd (subst IsRefusal reported.0 refusal)
left_by Changed before after report (inl read) refusal = read.2
left_by Changed before after report (inr missed) refusal = missed.1
left_by Gone before after report missed refusal = missed.1

-- a refusal changes nothing else
unrefused : (before after : Contents) (report : Option FileReport) → IsRefusal report → after ≡ users_after before report
    → record after { is_refused = before.is_refused } ≡ before
unrefused before after None refusal is = absurd refusal
unrefused before after (Some (Users users added removed)) refusal is = cc
unrefused before after (Some RightAgain) refusal is = cc
unrefused before after (Some (Refused fault)) refusal is = ap {A = Contents} (λ file. record file { is_refused = before.is_refused }) is

pub restored : {T E : Type 0} (r : Result T E) (look : Look) (before between after : Contents) (report : Option FileReport) (was_refused : Bool)
    → was_refused ≡ before.is_refused → IsReported look before between report
    → OnErr r (IsRefusal report × (after ≡ record between { is_refused = was_refused })) → OnErr r (after ≡ before)
restored (Ok x) look before between after report was_refused was reported h = h
restored (Err e) look before between after report was_refused was reported (refusal, is) =
    is ∙ ap (λ refused. record between { is_refused = refused }) was ∙ unrefused before between report refusal (left_by look before between report reported refusal)
