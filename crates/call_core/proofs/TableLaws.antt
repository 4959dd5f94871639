-- Where the lines of the table lead: an offer is open exactly while the call waits for its answer, and a session is
-- live exactly from the first fit 2xx until an end leaves.
use Rattle.std.proofs.Common.{◌≡◌, ◌==◌, ◌&&◌, ◌++◌, ℕ, Bool, true, false, cond, [], ◌∷◌, Option, Some, None, refl}
use Rattle.std.proofs.lemmas.Bool.{and_parts}
use Rattle.call_media.specs.declared.end.End.{End}
use Rattle.call_media.specs.Ends.{is_same, other}
use Rattle.call_core.specs.declared.action.Action.TheVariants.{Bye, Cancel, Okay, Provisional, RemoveRows, Set}
use Rattle.call_core.specs.declared.action.CallTimer.TheVariants as timers
use Rattle.call_core.specs.declared.row.Row.{Row}
use Rattle.call_core.specs.declared.signal.OfferMethod.{OfferMethod}
use Rattle.call_core.specs.declared.signal.OfferMethod.TheVariants as methods
use Rattle.call_core.specs.declared.signal.Signal.{Signal}
use Rattle.call_core.specs.declared.signal.Signal.TheVariants as signals
use Rattle.call_core.specs.declared.stage.Cancelled.{Cancelled}
use Rattle.call_core.specs.declared.stage.Cancelled.TheVariants.{Never, Waits, PassedOn}
use Rattle.call_core.specs.declared.stage.Stage.{Stage}
use Rattle.call_core.specs.declared.stage.Stage.TheVariants as stages
use Rattle.call_core.specs.declared.stage.Standing.{Standing}
use Rattle.call_core.specs.Answered.{answered_row, waiting}
use Rattle.call_core.specs.Asked.{asked_row, given_up}
use Rattle.call_core.specs.Cancelling.{cancelling_row}
use Rattle.call_core.specs.Ending.{ending_row}
use Rattle.call_core.specs.Reasked.{cancelled_inside, has_lost_the_call, reasked_row, rings_inside}
use Rattle.call_core.specs.Settled.{settled_row}
use Rattle.call_core.specs.Updating.{updating_row}
use Rattle.call_core.specs.Calls.{awaits_answer, has_session, holds_in}
use Rattle.call_core.specs.Plans.{AnswersOn, IfLine, IsLine, LeadsOn, OffersOn, ends_media, is_plain, releases}
use Rattle.call_core.specs.Rows.{gone, row, short_time}
use Rattle.call_core.specs.Table.{row_in, row_of}

-- ---- the test of one line

same : Bool → Bool → Bool
same true true = true
same true false = false
same false true = false
same false false = true

is_same_bool : (a b : Bool) → same a b ≡ true → a ≡ b
unfolding same
is_same_bool true true h = refl
is_same_bool true false h = absurd cc
is_same_bool false true h = absurd cc
is_same_bool false false h = refl

abbrev open_after : Stage → Row → Bool
open_after stage r = cond (ends_media r) false (cond (releases r) false (awaits_answer stage))

abbrev session_after : Stage → Row → Bool
session_after stage r = cond (ends_media r) false (has_session stage)

leads : Stage → Row → Bool
leads stage r = same (holds_in awaits_answer r.next) (open_after stage r) && same (holds_in has_session r.next) (session_after stage r)

leads_if : Stage → Option Row → Bool
leads_if stage None = true
leads_if stage (Some r) = leads stage r

-- ---- the lines, by stage

asked_leads : (rung : Bool) (x : End) (signal : Signal) → is_plain signal ≡ true → leads_if (stages.Asked rung) (asked_row rung x signal) ≡ true
unfolding same leads leads_if asked_row
asked_leads true x (signals.Provisional status) h = step (status == 100) where
  step : (b : Bool) → leads (stages.Asked true) (row (cond b [] (Provisional x status ∷ [])) x (stages.Asked true)) ≡ true
  step true = refl
  step false = refl
asked_leads false x (signals.Provisional status) h = step (status == 100) where
  step : (b : Bool) → leads (stages.Asked false) (row (cond b (Set timers.Limit 180000 ∷ []) (Provisional x status ∷ Set timers.Limit 180000 ∷ [])) x (stages.Asked true)) ≡ true
  step true = refl
  step false = refl
asked_leads rung x signals.FitAnswer h = absurd cc
asked_leads true x signals.Limit h = refl
asked_leads false x signals.Limit h = refl
asked_leads true x signals.Cancel h = refl
asked_leads false x signals.Cancel h = refl
asked_leads true x (signals.Bye end) h = step (is_same end x) where
  step : (b : Bool) → leads_if (stages.Asked true) (cond b (Some (given_up true x)) None) ≡ true
  step true = refl
  step false = refl
asked_leads false x (signals.Bye end) h = step (is_same end x) where
  step : (b : Bool) → leads_if (stages.Asked false) (cond b (Some (given_up false x)) None) ≡ true
  step true = refl
  step false = refl
asked_leads rung x signal h = refl

cancelling_leads : (sent : Bool) (x : End) (signal : Signal) → leads_if (stages.Cancelling sent) (cancelling_row sent x signal) ≡ true
unfolding same leads leads_if cancelling_row
cancelling_leads true x signals.Limit = refl
cancelling_leads false x signals.Limit = refl
cancelling_leads true x (signals.Provisional status) = refl
cancelling_leads false x (signals.Provisional status) = refl
cancelling_leads sent x signal = refl

answered_leads : (inside : Bool) (interval : ℕ) (x : End) (signal : Signal) → leads_if (waiting inside interval) (answered_row inside interval x signal) ≡ true
unfolding same leads leads_if answered_row
answered_leads true interval x (signals.Bye end) = step (is_same end x) where
  step : (b : Bool) → leads_if (stages.Reanswered interval) (cond b (Some (gone (Okay x ∷ Bye (other x) ∷ []))) (Some (row (Okay (other x) ∷ RemoveRows ∷ []) x (stages.Ending interval)))) ≡ true
  step true = refl
  step false = refl
answered_leads false interval x (signals.Bye end) = step (is_same end x) where
  step : (b : Bool) → leads_if (stages.Answered interval) (cond b (Some (gone (Okay x ∷ Bye (other x) ∷ []))) (Some (row (Okay (other x) ∷ RemoveRows ∷ []) x (stages.Ending interval)))) ≡ true
  step true = refl
  step false = refl
answered_leads true interval x signal = refl
answered_leads false interval x signal = refl

settled_leads : (signal : Signal) → is_plain signal ≡ true → leads_if stages.Settled (settled_row signal) ≡ true
unfolding same leads leads_if settled_row
settled_leads (signals.Offer end method) h = absurd cc
settled_leads signal h = refl

ending_leads : (interval : ℕ) (x : End) (signal : Signal) → leads_if (stages.Ending interval) (ending_row interval x signal) ≡ true
unfolding same leads leads_if ending_row
ending_leads interval x (signals.Bye end) = step (is_same end x) where
  step : (b : Bool) → leads_if (stages.Ending interval) (cond b (Some (gone (Okay x ∷ []))) None) ≡ true
  step true = refl
  step false = refl
ending_leads interval x signal = refl

refused_leads : (stage : Stage) (lost kept : Row) (b : Bool) → leads stage lost ≡ true → leads stage kept ≡ true → leads stage (cond b lost kept) ≡ true
refused_leads stage lost kept true h k = h
refused_leads stage lost kept false h k = k

updating_leads : (x : End) (signal : Signal) → is_plain signal ≡ true → leads_if stages.Updating (updating_row x signal) ≡ true
unfolding same leads leads_if updating_row
updating_leads x signals.FitAnswer h = absurd cc
updating_leads x (signals.Refusal status) h = refused_leads stages.Updating _ _ (has_lost_the_call status) refl refl
updating_leads x signal h = refl

rings_leads : (rung : Bool) (cancelled : Cancelled) (x : End) (status : ℕ) → leads (stages.Reasked rung cancelled) (rings_inside rung cancelled x status) ≡ true
unfolding same leads
rings_leads true Never x status = step (status == 100) where
  step : (b : Bool) → leads (stages.Reasked true Never) (row (cond b [] (Provisional x status ∷ [])) x (stages.Reasked true Never)) ≡ true
  step true = refl
  step false = refl
rings_leads false Never x status = step (status == 100) where
  step : (b : Bool) → leads (stages.Reasked false Never) (row (cond b (Set timers.Limit short_time ∷ []) (Provisional x status ∷ Set timers.Limit short_time ∷ [])) x (stages.Reasked true Never)) ≡ true
  step true = refl
  step false = refl
rings_leads rung Waits x status = step (status == 100) where
  step : (b : Bool) → leads (stages.Reasked rung Waits)
      (row (cond b [] (Provisional x status ∷ []) ++ Cancel (other x) ∷ Set timers.Limit short_time ∷ []) x (stages.Reasked true PassedOn)) ≡ true
  step true = refl
  step false = refl
rings_leads true PassedOn x status = step (status == 100) where
  step : (b : Bool) → leads (stages.Reasked true PassedOn) (row (cond b [] (Provisional x status ∷ [])) x (stages.Reasked true PassedOn)) ≡ true
  step true = refl
  step false = refl
rings_leads false PassedOn x status = step (status == 100) where
  step : (b : Bool) → leads (stages.Reasked false PassedOn) (row (cond b (Set timers.Limit short_time ∷ []) (Provisional x status ∷ Set timers.Limit short_time ∷ [])) x (stages.Reasked true PassedOn)) ≡ true
  step true = refl
  step false = refl

cancelled_leads : (rung : Bool) (cancelled : Cancelled) (x : End) → leads (stages.Reasked rung cancelled) (cancelled_inside rung cancelled x) ≡ true
unfolding same leads
cancelled_leads true Never x = refl
cancelled_leads false Never x = refl
cancelled_leads rung Waits x = refl
cancelled_leads rung PassedOn x = refl

reasked_leads : (rung : Bool) (cancelled : Cancelled) (x : End) (signal : Signal) → is_plain signal ≡ true
    → leads_if (stages.Reasked rung cancelled) (reasked_row rung cancelled x signal) ≡ true
unfolding same leads leads_if reasked_row
reasked_leads rung cancelled x (signals.Provisional status) h = rings_leads rung cancelled x status
reasked_leads rung cancelled x signals.FitAnswer h = absurd cc
reasked_leads rung cancelled x (signals.Refusal status) h = refused_leads (stages.Reasked rung cancelled) _ _ (has_lost_the_call status) refl refl
reasked_leads true cancelled x signals.Limit h = refl
reasked_leads false cancelled x signals.Limit h = refl
reasked_leads rung cancelled x signals.Cancel h = cancelled_leads rung cancelled x
reasked_leads rung cancelled x signal h = refl

-- ---- the table

all_lead : (stage : Stage) (x : End) (signal : Signal) → is_plain signal ≡ true → leads_if stage (row_in stage x signal) ≡ true
all_lead (stages.Asked rung) x signal h = asked_leads rung x signal h
all_lead (stages.Cancelling sent) x signal h = cancelling_leads sent x signal
all_lead (stages.Answered interval) x signal h = answered_leads false interval x signal
all_lead stages.Settled x signal h = settled_leads signal h
all_lead (stages.Reasked rung cancelled) x signal h = reasked_leads rung cancelled x signal h
all_lead (stages.Reanswered interval) x signal h = answered_leads true interval x signal
all_lead stages.Updating x signal h = updating_leads x signal h
all_lead (stages.Ending interval) x signal h = ending_leads interval x signal

line_leads : (stage : Stage) (r : Row) → leads stage r ≡ true → LeadsOn stage r
unfolding leads
line_leads stage r h =
    let parts = and_parts (same (holds_in awaits_answer r.next) (open_after stage r)) (same (holds_in has_session r.next) (session_after stage r)) h in
    record { offer = is_same_bool _ _ parts.0; session = is_same_bool _ _ parts.1 }

if_line : (stage : Stage) (line : Option Row) → leads_if stage line ≡ true → IfLine (LeadsOn stage) line
unfolding leads_if
if_line stage None h = tt
if_line stage (Some r) h = line_leads stage r h

-- a signal that no offer and no answer comes with
pub plain_leads : (s : Standing) (signal : Signal) → is_plain signal ≡ true → IfLine (LeadsOn s.stage) (row_of s signal)
unfolding row_of
plain_leads s signal h = if_line s.stage (row_in s.stage s.offerer signal) (all_lead s.stage s.offerer signal h)

-- an offer
offer_in : (stage : Stage) (x end : End) (method : OfferMethod) → IfLine (OffersOn stage) (row_in stage x (signals.Offer end method))
unfolding asked_row cancelling_row answered_row settled_row reasked_row updating_row ending_row
offer_in (stages.Asked true) x end method = tt
offer_in (stages.Asked false) x end method = tt
offer_in (stages.Cancelling true) x end method = tt
offer_in (stages.Cancelling false) x end method = tt
offer_in (stages.Answered interval) x end method = tt
offer_in stages.Settled x end methods.Invite = record { settled = refl; offer = refl; session = refl }
offer_in stages.Settled x end methods.Update = record { settled = refl; offer = refl; session = refl }
offer_in (stages.Reasked true cancelled) x end method = tt
offer_in (stages.Reasked false cancelled) x end method = tt
offer_in (stages.Reanswered interval) x end method = tt
offer_in stages.Updating x end method = tt
offer_in (stages.Ending interval) x end method = tt

pub offer_leads : (s : Standing) (end : End) (method : OfferMethod) → IfLine (OffersOn s.stage) (row_of s (signals.Offer end method))
unfolding row_of
offer_leads s end method = offer_in s.stage s.offerer end method

-- an answer that fits the open offer
answer_in : (stage : Stage) (x : End) → awaits_answer stage ≡ true → IsLine AnswersOn (row_in stage x signals.FitAnswer)
unfolding asked_row reasked_row updating_row
answer_in (stages.Asked rung) x h = record { offer = refl; session = refl }
answer_in (stages.Cancelling sent) x h = absurd cc
answer_in (stages.Answered interval) x h = absurd cc
answer_in stages.Settled x h = absurd cc
answer_in (stages.Reasked rung cancelled) x h = record { offer = refl; session = refl }
answer_in (stages.Reanswered interval) x h = absurd cc
answer_in stages.Updating x h = record { offer = refl; session = refl }
answer_in (stages.Ending interval) x h = absurd cc

pub answer_leads : (s : Standing) → awaits_answer s.stage ≡ true → IsLine AnswersOn (row_of s signals.FitAnswer)
unfolding row_of
answer_leads s h = answer_in s.stage s.offerer h
