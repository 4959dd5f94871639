-- A response goes up only for the transaction whose request it responds to (RFC 3261 section 17.1.3).
use Rattle.std.proofs.Common.{◌≡◌, ℕ, true, List, Option, Some, None, position, refl, subst}
use Rattle.std.proofs.lemmas.List.Quantifiers.{position-Some}
use Rattle.sip_message.specs.declared.message.Message.TheVariants as Kinds
use Rattle.sip_message.specs.declared.message.Response.{Response}
use Rattle.transaction_machines.specs.declared.step.Step.{Step}
use Rattle.transaction_machines.specs.declared.step.Told.{Told}
use Rattle.transaction_machines.specs.declared.step.Told.TheVariants as tellings
use Rattle.transaction_machines.specs.Machines.{row_of}
use Rattle.transactions.specs.Contents.{Contents, ack_at, reception_at, reception_by, reception_of, response_input, response_reception, upward}
use Rattle.transactions.specs.Slots.{at, is_answered}
use Rattle.transactions.specs.declared.outcome.Verdict.{Verdict}
use Rattle.transactions.specs.declared.outcome.Verdict.TheVariants as verdicts
use Rattle.transactions.specs.declared.transaction.Transaction.{Transaction}

module _ (table : Contents) (r : Response) where
  -- that is the first that it responds to
  abbrev Found : Verdict → Type 0
  Found (verdicts.New id) = Unit {0}
  Found verdicts.Repeat = Unit {0}
  Found verdicts.Swallowed = Unit {0}
  Found (verdicts.Up id) = position (is_answered r.parts) table.slots ≡ Some id
  Found verdicts.Stray = Unit {0}

  told_found : (id : ℕ) (told : Told) → position (is_answered r.parts) table.slots ≡ Some id → Found (upward id told verdicts.Swallowed)
  told_found id tellings.Up h = h
  told_found id tellings.Silent h = tt
  told_found id tellings.TimedOut h = tt
  told_found id tellings.Ended h = tt

  step_found : (id : ℕ) (t : Transaction) (fresh : Option (List ℕ)) (step : Option Step) → position (is_answered r.parts) table.slots ≡ Some id → Found (reception_by id t (response_input r) fresh step).verdict
  step_found id t fresh None h = tt
  step_found id t fresh (Some step) h = told_found id step.told h

  at_found : (id : ℕ) (o : Option Transaction) → position (is_answered r.parts) table.slots ≡ Some id → Found (reception_at id o (response_input r) (ack_at o r)).verdict
  at_found id None h = tt
  at_found id (Some t) h = step_found id t (ack_at (Some t) r) (row_of t.state (response_input r)) h

  in_found : (id : Option ℕ) → position (is_answered r.parts) table.slots ≡ id → Found (response_reception table r id).verdict
  in_found None there = tt
  in_found (Some id) there = at_found id (at table.slots id) there

  found : Found (reception_of table (Kinds.Response r)).verdict
  unfolding reception_of
  found = in_found (position (is_answered r.parts) table.slots) refl

  pub place_up : (id : ℕ) → (reception_of table (Kinds.Response r)).verdict ≡ verdicts.Up id → position (is_answered r.parts) table.slots ≡ Some id
  place_up id up = subst Found up found

  pub answered_up : (id : ℕ) (t : Transaction) → (reception_of table (Kinds.Response r)).verdict ≡ verdicts.Up id → at table.slots id ≡ Some t → is_answered r.parts (Some t) ≡ true
  answered_up id t up there =
      subst (λ o. is_answered r.parts o ≡ true) there (position-Some (is_answered r.parts) table.slots id None (place_up id up)).1
