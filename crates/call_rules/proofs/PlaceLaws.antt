-- A call is at the place that a rule names.
use Rattle.std.proofs.Common.{◌≡◌, ℕ, Bool, true, false, cond, is_some, List, Option, Some, None, refl, ap}
use Rattle.std.specs.Prelude.{slice_get}
use Rattle.sip_message.specs.declared.message.Parts.{Parts}
use Rattle.sip_message.specs.declared.message.Response.{Response}
use Rattle.sip_message.specs.declared.words.Class.{Class}
use Rattle.sip_message.specs.declared.words.Class.TheVariants as classes
use Rattle.sip_message.specs.Words.{class_of}
use Rattle.calls.specs.declared.standing_call.StandingCall.{StandingCall}
use Rattle.call_rules.specs.declared.responses.ResponseRule.TheVariants.{Silent, Again, Fork, AckAlone}
use Rattle.call_rules.specs.Places.{StandsAt, StandsIfAny}
use Rattle.call_rules.specs.Responses as responses
use Rattle.call_rules.specs.Responses.{asked_end, at_place, callless_rule, further_rule, is_first, is_of_known_dialog, is_open, late_rule, open_at, open_rule, place_if_open}
use Rattle.call_rules.specs.Speaking.{is_acknowledged, may_offer}

-- ---- responses

open_there : (standing : List StandingCall) (place status : ℕ) → StandsAt standing place → (class : Class)
    → responses.NamesCall standing (open_rule place status class)
open_there standing place status there classes.Provisional = there
open_there standing place status there classes.Success = there
open_there standing place status there classes.Failure = there

callless_there : (standing : List StandingCall) (asked : Parts) (r : Response) → responses.NamesCall standing (callless_rule asked r)
callless_there standing asked r = step (is_acknowledged asked r) (is_first asked) where
  step : (late first : Bool) → responses.NamesCall standing (cond late (cond first Fork AckAlone) Silent)
  step true true = tt
  step true false = tt
  step false first = tt

late_there : (standing : List StandingCall) (asked : Parts) (r : Response) (place : ℕ) (c : StandingCall) → StandsAt standing place
    → responses.NamesCall standing (late_rule asked r place c)
late_there standing asked r place c there = step (is_acknowledged asked r) (is_of_known_dialog asked r c (asked_end asked c)) where
  step : (late known : Bool) → responses.NamesCall standing (cond late (cond known (Again place) Fork) Silent)
  step true true = there
  step true false = tt
  step false known = tt

response_in_call : (standing : List StandingCall) (asked : Parts) (r : Response) (place : ℕ) (c : Option StandingCall) → slice_get standing place ≡ c
    → responses.NamesCall standing (responses.in_call asked r place c)
response_in_call standing asked r place None is = callless_there standing asked r
response_in_call standing asked r place (Some c) is = step (is_open asked c) where
  step : (b : Bool) → responses.NamesCall standing (cond b (open_rule place r.status (class_of r.status)) (late_rule asked r place c))
  step true = open_there standing place r.status (ap is_some is) (class_of r.status)
  step false = late_there standing asked r place c (ap is_some is)

response_at_place : (standing : List StandingCall) (asked : Parts) (r : Response) (place : Option ℕ)
    → responses.NamesCall standing (at_place standing asked r place)
unfolding at_place
response_at_place standing asked r None = callless_there standing asked r
response_at_place standing asked r (Some place) = response_in_call standing asked r place (slice_get standing place) refl

pub response_there : (standing : List StandingCall) (asked : Parts) (r : Response) → responses.NamesCall standing (responses.response_rule standing asked r)
unfolding responses.response_rule
response_there standing asked r = step (may_offer asked) where
  step : (b : Bool) → responses.NamesCall standing (cond b (at_place standing asked r (responses.asked_place standing asked)) Silent)
  step true = response_at_place standing asked r (responses.asked_place standing asked)
  step false = tt

-- ---- the end of a request's time

open_if_there : (standing : List StandingCall) (asked : Parts) (place : ℕ) (c : Option StandingCall) → slice_get standing place ≡ c
    → StandsIfAny standing (place_if_open asked place c)
open_if_there standing asked place None is = tt
open_if_there standing asked place (Some c) is = step (is_open asked c) where
  step : (b : Bool) → StandsIfAny standing (cond b (Some place) None)
  step true = ap is_some is
  step false = tt

open_at_there : (standing : List StandingCall) (asked : Parts) (place : Option ℕ) → StandsIfAny standing (open_at standing asked place)
unfolding open_at
open_at_there standing asked None = tt
open_at_there standing asked (Some place) = open_if_there standing asked place (slice_get standing place) refl

pub timeout_there : (standing : List StandingCall) (asked : Parts) → StandsIfAny standing (responses.timeout_rule standing asked)
unfolding responses.timeout_rule
timeout_there standing asked = step (may_offer asked) where
  step : (b : Bool) → StandsIfAny standing (cond b (open_at standing asked (responses.asked_place standing asked)) None)
  step true = open_at_there standing asked (responses.asked_place standing asked)
  step false = tt
