-- A step of a call for a fit answer is the line of that signal, after which the session is that of the exchange, and
-- both ends talk.
use Rattle.std.proofs.Common.{◌≡◌, ℕ, true, cond, Option, Some, None, refl, ap, sym, subst}
use Rattle.std.proofs.lemmas.Bool.{false≢true}
use Rattle.port_pool.specs.Pool.{Contents}
use Rattle.sdp.specs.declared.description.Description.{Description}
use Rattle.call_core.specs.Asked.{asked_row}
use Rattle.call_core.specs.CallRows.{answer_at, answer_step, at_line, call_row, fit_at, is_fit, signal_at, step_in}
use Rattle.call_core.specs.Calls.{awaits_answer}
use Rattle.call_core.specs.Plans.{AnswersOn, IsLine}
use Rattle.call_core.specs.Reasked.{reasked_row}
use Rattle.call_core.specs.Table.{row_in, row_of}
use Rattle.call_core.specs.Updating.{updating_row}
use Rattle.call_core.specs.declared.call.Call.{Call}
use Rattle.call_core.specs.declared.input.Input.TheVariants as inputs
use Rattle.call_core.specs.declared.row.Row.{Row}
use Rattle.call_core.specs.declared.signal.Signal.TheVariants as signals
use Rattle.call_core.specs.declared.stage.Stage.{Stage}
use Rattle.call_core.specs.declared.stage.Stage.TheVariants as stages
use Rattle.call_core.specs.declared.stage.Standing.{Standing}
use Rattle.call_core.proofs.TableLaws.{answer_leads}
use Rattle.call_media.specs.declared.end.End.{End}
use Rattle.call_media.specs.declared.session.OpenOffer.{OpenOffer}
use Rattle.media_laws.specs.Lines.{actions_in, next_in}
use Rattle.media_laws.specs.FitSteps.{IsFitStep, Talks}

-- ---- the step

module _ (c : Call) (n : Standing) (pool : Contents) (now : ℕ) where
  line_fits : (o : OpenOffer) (answer : Description) (line : Option Row) → c.media.offer ≡ Some o → IsLine AnswersOn line → row_of n signals.FitAnswer ≡ line
      → IsFitStep c n (Some answer) (at_line c pool (answer_step c pool now o answer) line)
  line_fits o answer None opened h is = absurd h
  line_fits o answer (Some row) opened h is = record {
    offer = o;
    answer = answer;
    open_is = opened;
    said = refl;
    description = refl;
    session = refl;
    actions = ap actions_in (sym is);
    next = ap (next_in n) (sym is);
  }

  open_fits : (offer : Option OpenOffer) (given : Option Description) → c.media.offer ≡ offer → awaits_answer n.stage ≡ true → is_fit c offer given ≡ true → IsFitStep c n given (fit_at c n offer given pool now)
  open_fits None given opened waits fit = absurd (false≢true fit)
  open_fits (Some o) None opened waits fit = absurd (false≢true fit)
  open_fits (Some o) (Some answer) opened waits fit = line_fits o answer (row_of n signals.FitAnswer) opened (answer_leads n waits) refl

  answer_fits : (given : Option Description) → awaits_answer n.stage ≡ true → is_fit c c.media.offer given ≡ true → IsFitStep c n given (answer_at c n given pool now)
  answer_fits given waits fit =
      subst (λ b. IsFitStep c n given (cond b (fit_at c n c.media.offer given pool now) (signal_at c n signals.UnfitAnswer pool now))) (sym fit) (open_fits c.media.offer given refl waits fit)

  pub fit_row : (given : Option Description) → c.standing ≡ Some n → awaits_answer n.stage ≡ true → is_fit c c.media.offer given ≡ true → IsFitStep c n given (call_row c (inputs.Answer given) pool now)
  unfolding call_row
  fit_row given stands waits fit = subst (λ o. IsFitStep c n given (step_in c o (inputs.Answer given) pool now)) (sym stands) (answer_fits given waits fit)

-- ---- where it leads

stage_talks : (n : Standing) (x : End) (stage : Stage) → awaits_answer stage ≡ true → Talks (next_in n (row_in stage x signals.FitAnswer))
unfolding asked_row reasked_row updating_row
stage_talks n x (stages.Asked rung) waits = record { standing = _; is = refl; listed = refl }
stage_talks n x (stages.Cancelling sent) waits = absurd (false≢true waits)
stage_talks n x (stages.Answered interval) waits = absurd (false≢true waits)
stage_talks n x stages.Settled waits = absurd (false≢true waits)
stage_talks n x (stages.Reasked rung cancelled) waits = record { standing = _; is = refl; listed = refl }
stage_talks n x (stages.Reanswered interval) waits = absurd (false≢true waits)
stage_talks n x stages.Updating waits = record { standing = _; is = refl; listed = refl }
stage_talks n x (stages.Ending interval) waits = absurd (false≢true waits)

pub fit_talks : (n : Standing) → awaits_answer n.stage ≡ true → Talks (next_in n (row_of n signals.FitAnswer))
unfolding row_of
fit_talks n waits = stage_talks n n.offerer n.stage waits
