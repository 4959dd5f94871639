use Rattle.std.proofs.Common.{◌≡◌, ◌∙◌, ◌+◌, ◌&&◌, Bool, cond, eqb, not, List, ℕ, Option, drop, length, suc, slice_index_or, ap, sym, arith, rules}
use Rattle.std.specs.Option.{option_copied}
use Rattle.std.specs.Prelude.{option_to_list}
use Rattle.std.proofs.Math.Seq.{drop-cons, drop-length}
use Rattle.events.specs.declared.sent.Sent.{Sent}
use Rattle.call_media.specs.declared.end.End.TheVariants.{Caller}
use Rattle.call_core.specs.declared.action.Action.{Action}
use Rattle.call_core.specs.declared.action.Action.TheVariants.{Trying}
use Rattle.call_messages.specs.Dressed.{Dressed, behind}
use Rattle.call_messages.specs.Dressing.{dress_one, dressed}
use Rattle.call_messages.proofs.BehindLaws.{nothing_behind, one_more}
use Rattle.call_steps.specs.declared.messages.StepMessages.{StepMessages}
use Rattle.call_steps.specs.Messages.{first_sent, is_ack, is_answer}
use Rattle.call_steps.proofs.CopyLaws.{ack_step, answer_step, answered_step}
use Rattle.call_steps.proofs.SceneLaws.{dressed_lent}
use Rattle.call_steps.proofs.messages.with_copies.Goals as goal

pub loop-at-preserved : goal.loop-at-preserved
loop-at-preserved c =
    let s = c.args.scene.now in
    let actions = c.args.actions.now in
    let at = c.loop-at.at in
    let action = slice_index_or actions at (Trying Caller) in
    let tokens = s.tokens + c.loop-at.said.dressed.made in
    let next : at + 1 ≡ suc at = omega arith in
    let sent : first_sent (option_to_list (option_copied c.as_ref.result)) ≡ first_sent (dress_one s tokens action).sends =
    ap (λ (o : Option Sent). first_sent (option_to_list o)) c.as_ref.ensures.value
    ∙ ap (λ (d : Dressed). first_sent d.sends) (c.saying.view_is ∙ c.in_ok-saying.ensures.dressed)
    ∙ ap (λ (m : StepMessages). first_sent (dress_one s (s.tokens + m.dressed.made) action).sends) c.said.view_is in
    rw next (record {
      whole = one_more s s.tokens c.loop-at.said.dressed c.put_behind.new.dressed action (drop (suc at) actions) (search rules)
          ∙ ap (λ (l : List Action). behind c.loop-at.said.dressed (dressed s tokens l)) (sym (drop-cons actions at (Trying Caller) c.loop-at-test.true))
          ∙ c.loop-at.invariant.whole;
      few = omega (
        arith,
        c.loop-at.invariant.few,
        c.in_ok-saying.ensures.few,
        ap (λ (d : Dressed). d.made) c.in_ok-put_behind.ensures.ok,
        ap (λ (m : StepMessages). m.dressed.made) c.in_ok-keep.ensures,
      );
      answered = rw c.answers_first-answers.ensures (answered_step actions at (Trying Caller) c.loop-at.answered c.loop-at-test.true c.loop-at.invariant.answered);
      answer = ap (λ (m : StepMessages). m.answer) c.in_ok-keep.ensures
          ∙ ap (λ (b : Bool). cond b (first_sent (option_to_list (option_copied c.as_ref.result))) c.loop-at.said.answer) c.answers_first-answers.ensures
          ∙ ap (λ (o : Option Sent). cond (not c.loop-at.answered && is_answer action) o c.loop-at.said.answer) sent
          ∙ answer_step s tokens actions at (Trying Caller) c.loop-at.answered c.loop-at.said.answer c.loop-at-test.true c.loop-at.invariant.answered c.loop-at.invariant.answer;
      ack = ap (λ (m : StepMessages). m.ack) c.in_ok-keep.ensures
          ∙ ap (λ (b : Bool). cond b (first_sent (option_to_list (option_copied c.as_ref.result))) c.loop-at.said.ack) c.acknowledges_first-acknowledges.ensures
          ∙ ap (λ (o : Option Sent). cond (eqb at 0 && is_ack action) o c.loop-at.said.ack) sent
          ∙ ack_step s tokens actions at (Trying Caller) c.loop-at.said.ack c.loop-at-test.true (λ z. omega (arith, z, c.loop-at.invariant.few)) c.loop-at.invariant.ack;
    })

pub returns-clause-dressed : goal.returns-clause-dressed
returns-clause-dressed c =
    let s = c.args.scene.now in
    let actions = c.args.actions.now in
    let said = c.loop-at.said.dressed in
    let all : c.loop-at.at ≡ length actions = omega (arith, c.loop-at-test.false, c.loop-at.auto.at-end) in
    sym (nothing_behind said)
    ∙ ap (λ (l : List Action). behind said (dressed s (s.tokens + said.made) l)) (sym (ap (λ (n : ℕ). drop n actions) all ∙ drop-length actions))
    ∙ c.loop-at.invariant.whole
    ∙ dressed_lent s actions
