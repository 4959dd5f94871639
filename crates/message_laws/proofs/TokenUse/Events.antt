-- What an agent knows of its tokens after an event.
use Rattle.std.proofs.Common.{◌≡◌, ◌<◌, ◌^◌, Bool, true, false, cond, nat_le, ℕ, ◌+◌, Option, Some, None, refl, subst, sym, arith}
use Rattle.std.specs.List.{All}
use Rattle.std.proofs.lemmas.Bool.{leb-false}
use Rattle.std.proofs.lemmas.Option.{none-some}
use Rattle.std.proofs.lemmas.List.Elements.{All-nil}
use Rattle.configuration.specs.declared.config.Config.{Config}
use Rattle.events.specs.declared.event.Event.{Event}
use Rattle.plans.specs.declared.taken.Taken.{Taken}
use Rattle.plans.specs.Effect.{Effect}
use Rattle.event_rows.specs.Rows.{after, moment_after, only_counts, row, row_by}
use Rattle.event_rows.specs.State.{Contents, IsNew, after_event, moment_at, moments_end, max_tokens, office}
use Rattle.message_laws.specs.Knowing.{HasMadeTags, KnowsCalls, KnowsTokens}
use Rattle.message_laws.specs.Tokens.{IsOwnIf}
use Rattle.message_laws.proofs.QuietEvents.Growing.{calls_more, slots_more}
use Rattle.message_laws.proofs.TokenUse.Rows.{OwnEffect, what_owns}
use Rattle.message_laws.proofs.TokenUse.Slots.{all_entered_own}

pub new_knows : (c : Config) (s : Contents) → IsNew c s → KnowsTokens (office s)
new_knows c s new = record {
  slots = subst (All (IsOwnIf s.tokens)) (sym new.slots) (All-nil (IsOwnIf s.tokens));
  calls = subst (KnowsCalls s.tokens) (sym new.calls) (record { tags = All-nil (HasMadeTags s.tokens); apart = tt });
}

few_by : (clock spent : Bool) (late over : Taken) (other : Option Taken) → cond clock (Some late) (cond spent (Some over) other) ≡ None → spent ≡ false
few_by true spent late over other e = absurd (none-some late (sym e))
few_by false true late over other e = absurd (none-some over (sym e))
few_by false false late over other e = refl

-- fewer tokens were made than may be
pub few_tokens : (s : Contents) (e : Event) → only_counts s e ≡ None → s.tokens < 2 ^ 63
unfolding only_counts
few_tokens s e none = leb-false max_tokens s.tokens (few_by (nat_le moments_end e.now) (nat_le max_tokens s.tokens) _ _ _ none)

event_owns : (s : Contents) → KnowsTokens (office s) → (e : Event) (taken : Option Taken) → only_counts s e ≡ taken → OwnEffect (office s) (row_by s e taken)
event_owns s k e (Some taken) is = record { entries = tt; calls = calls_more s.tokens (s.tokens + 0) s.calls.calls (omega arith) k.calls }
event_owns s k e None is = what_owns (office s) k (few_tokens s e is) (moment_at s e.now) e.salt e.what

pub row_owns : (s : Contents) → KnowsTokens (office s) → (e : Event) → OwnEffect (office s) (row s e)
unfolding row
row_owns s k e = event_owns s k e (only_counts s e) refl

knows_by : (s : Contents) → KnowsTokens (office s) → (now : ℕ) (x : Effect) → OwnEffect (office s) x → KnowsTokens (office (after_event s now x))
unfolding after_event
knows_by s k now x own = record {
  slots = all_entered_own (s.tokens + x.plan.made) now s.table x.plan.changes own.entries (slots_more s.tokens (s.tokens + x.plan.made) s.table.slots (omega arith) k.slots);
  calls = own.calls;
}

pub after_knows : (s : Contents) (e : Event) → KnowsTokens (office s) → KnowsTokens (office (after s e))
after_knows s e k = knows_by s k (moment_after s e) (row s e) (row_owns s k e)
