-- A step of a settled call for an offer: what it does, its standing then, and the offer that it keeps as open.
use Rattle.std.proofs.Common.{◌≡◌, ℕ, true, Option, Some, None, refl, sym, subst, false}
use Rattle.std.proofs.lemmas.Bool.{false≢true}
use Rattle.port_pool.specs.Pool as pools
use Rattle.sdp.specs.declared.description.Description.{Description}
use Rattle.call_media.specs.Offers.{opened}
use Rattle.call_media.specs.declared.end.End.{End}
use Rattle.call_core.specs.CallRows.{at_line, call_row, offer_at, offer_step, step_in}
use Rattle.call_core.specs.Calls.{holds_in}
use Rattle.call_core.specs.Plans.{Step}
use Rattle.call_core.specs.Settled.{settled_row}
use Rattle.call_core.specs.Table.{row_in, row_of}
use Rattle.call_core.specs.declared.call.Call.{Call}
use Rattle.call_core.specs.declared.input.Input.TheVariants as inputs
use Rattle.call_core.specs.declared.signal.OfferMethod.{OfferMethod}
use Rattle.call_core.specs.declared.signal.OfferMethod.TheVariants.{Invite, Update}
use Rattle.call_core.specs.declared.signal.Signal.TheVariants as signals
use Rattle.call_core.specs.declared.stage.Cancelled.TheVariants.{Never}
use Rattle.call_core.specs.declared.stage.Stage.{Stage}
use Rattle.call_core.specs.declared.stage.Stage.TheVariants as stages
use Rattle.call_core.specs.declared.stage.Standing.{Standing}
use Rattle.call_rules.specs.Offers.{is_settled}
use Rattle.message_laws.proofs.AwaitedOffers.WaitPassed.{settled_stage}
use Rattle.media_laws.specs.Lines.{actions_in}

-- its stage once it passed on an INVITE or an UPDATE
abbrev pub offer_stage : OfferMethod → Stage
offer_stage Invite = stages.Reasked false Never
offer_stage Update = stages.Updating

pub record IsOfferStep (c : Call) (x : End) (method : OfferMethod) (offer : Description) (pool : pools.Contents) (now : ℕ) (step : Step) : Type 0 where
  pub actions : step.actions ≡ actions_in (settled_row (signals.Offer x method))
  pub next : step.call.standing ≡ Some (record { offerer = x; stage = offer_stage method })
  pub session : step.call.media.session ≡ c.media.session
  pub kept : step.call.media.offer ≡ Some (opened c.media pool x offer now)
  pub says : step.description ≡ Some (opened c.media pool x offer now).offer_sent

line_step : (c : Call) (x : End) (method : OfferMethod) (offer : Description) (pool : pools.Contents) (now : ℕ) → IsOfferStep c x method offer pool now (at_line c pool (offer_step c pool now x offer) (settled_row (signals.Offer x method)))
unfolding settled_row
line_step c x Invite offer pool now = record { actions = refl; next = refl; session = refl; kept = refl; says = refl }
line_step c x Update offer pool now = record { actions = refl; next = refl; session = refl; kept = refl; says = refl }

at_settled : (c : Call) (s : Standing) (x : End) (method : OfferMethod) (offer : Description) (pool : pools.Contents) (now : ℕ) → s.stage ≡ stages.Settled
    → IsOfferStep c x method offer pool now (offer_at c s (signals.Offer x method) x (Some offer) pool now)
unfolding row_of
at_settled c s x method offer pool now is =
    subst (λ st. IsOfferStep c x method offer pool now (at_line c pool (offer_step c pool now x offer) (row_in st s.offerer (signals.Offer x method)))) (sym is) (line_step c x method offer pool now)

in_settled : (c : Call) (standing : Option Standing) (x : End) (method : OfferMethod) (offer : Description) (pool : pools.Contents) (now : ℕ) → holds_in is_settled standing ≡ true
    → IsOfferStep c x method offer pool now (step_in c standing (inputs.Offer x method (Some offer)) pool now)
in_settled c None x method offer pool now h = absurd (false≢true h)
in_settled c (Some s) x method offer pool now h = at_settled c s x method offer pool now (settled_stage s.stage h)

pub offer_row : (c : Call) (x : End) (method : OfferMethod) (offer : Description) (pool : pools.Contents) (now : ℕ) → holds_in is_settled c.standing ≡ true
    → IsOfferStep c x method offer pool now (call_row c (inputs.Offer x method (Some offer)) pool now)
unfolding call_row
offer_row c x method offer pool now h = in_settled c c.standing x method offer pool now h
