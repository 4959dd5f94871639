-- The bindings that the 200 to a REGISTER lists lead to addresses.
use Rattle.std.proofs.Common.{◌≡◌, ℕ, List, Option, Some, None, Result, Ok, Err, refl, sym}
use Rattle.std.specs.List.{All}
use Rattle.std.proofs.lemmas.Option.{none-some}
use Rattle.sip_message.specs.declared.message.Request.{Request}
use Rattle.registrar.specs.Registering.{Rules, answer_by, answer_for}
use Rattle.registrar.specs.declared.binding.Binding.{Binding}
use Rattle.registrar.specs.declared.refusal.Refusal.{Refusal}
use Rattle.registrar.specs.declared.register.Register.{Register}
use Rattle.registrar.specs.Registrar.{answer_of, bindings_of, rules_of}
use Rattle.responses.specs.Registering.{register_of}
use Rattle.transactions.specs.declared.change.Entry.{Entry}
use Rattle.plans.specs.Office.{Office}
use Rattle.plans.specs.Replies.{registers, registers_by, reply_row}
use Rattle.plans.specs.declared.rule.Reply.TheVariants as replies
use Rattle.plans.specs.declared.setting.Setting.{Setting}
use Rattle.message_laws.specs.Sound.{IsBound}
use Rattle.message_laws.proofs.StandingCalls.Bindings.{IsBoundPlan, reply_bound}
use Rattle.message_laws.proofs.StandingCalls.Reading.{Reading}
use Rattle.message_laws.proofs.SentTexts.ReadReplies.{AreBound}

-- a REGISTER that names no user is refused
nobody_refused : (rules : Rules) (bindings : List ℕ → List Binding) (register : Register) (now : ℕ) (user : Option (List ℕ)) → user ≡ None → AreBound (answer_for rules bindings register now user)
nobody_refused rules bindings register now None none = tt
nobody_refused rules bindings register now (Some user) none = absurd (none-some user (sym none))

nobody_bound : (s : Office) (register : Register) (now : ℕ) → register.user ≡ None → AreBound (answer_of s.registrar register now)
unfolding answer_of answer_by
nobody_bound s register now none = nobody_refused (rules_of s.registrar) (bindings_of s.registrar.entries) register now register.user none

by_plan : (s : Office) (e : Setting) (r : Request) (begun : List Entry) (id : ℕ) (user : Option (List ℕ)) (answer : Result (List Binding) Refusal) → IsBoundPlan (registers_by s e r begun id user answer).registration
    → (user ≡ None → AreBound answer) → AreBound answer
by_plan s e r begun id None answer plan nobody = nobody refl
by_plan s e r begun id (Some user) (Ok bindings) plan nobody = plan
by_plan s e r begun id (Some user) (Err refusal) plan nobody = tt

pub answer_bound : Reading → (s : Office) (e : Setting) (r : Request) (begun : List Entry) (id : ℕ) → ((user : List ℕ) → All IsBound (bindings_of s.registrar.entries user))
    → AreBound (answer_of s.registrar (register_of (rules_of s.registrar) r) e.now)
unfolding reply_row registers
answer_bound reading s e r begun id each =
    let register = register_of (rules_of s.registrar) r in
    by_plan s e r begun id register.user (answer_of s.registrar register e.now) (reply_bound reading s e r begun id replies.Registration each) (nobody_bound s register e.now)
