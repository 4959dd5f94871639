-- The lines by which a call gives its open INVITE up, and passes a CANCEL on: what they send.
use Rattle.std.proofs.Common.{◌≡◌, ◌∙◌, Bool, true, false, is_some, List, [], ◌∷◌, Option, Some, None, ap, subst}
use Rattle.std.specs.Option.{option_copied}
use Rattle.std.specs.Prelude.{option_map}
use Rattle.std.proofs.lemmas.Bool.{and_parts}
use Rattle.std.proofs.lemmas.List.Quantifiers.{position-Some}
use Rattle.sip_uri.specs.Address.{address_of}
use Rattle.sip_message.specs.declared.message.Request.{Request}
use Rattle.transactions.specs.SameBranch.{cancel_of}
use Rattle.transactions.specs.Slots.{awaits_final, is_waiting_invite}
use Rattle.transactions.specs.declared.transaction.Transaction.{Transaction}
use Rattle.call_media.specs.Ends.{is_same, other}
use Rattle.call_media.specs.declared.end.End.{End}
use Rattle.call_core.specs.Asked.{asked_row, given_up}
use Rattle.call_core.specs.Reasked.{reasked_row}
use Rattle.call_core.specs.Rows.{short_time}
use Rattle.call_core.specs.Table.{row_in}
use Rattle.call_core.specs.declared.action.Action.TheVariants.{Cancel, Release, Set}
use Rattle.call_core.specs.declared.action.CallTimer.TheVariants as timers
use Rattle.call_core.specs.declared.signal.Signal.TheVariants as signals
use Rattle.call_core.specs.declared.stage.Cancelled.TheVariants.{Never, PassedOn, Waits}
use Rattle.call_core.specs.declared.stage.Stage.TheVariants as stages
use Rattle.call_messages.specs.declared.scene.Asker.{Asker}
use Rattle.call_messages.specs.declared.scene.Scene.{Scene}
use Rattle.call_steps.specs.Scenes.{at_id, tag_to}
use Rattle.call_steps.specs.Values.{ComingValue, lent}
use Rattle.calls.specs.Carrying.{offerer_of}
use Rattle.calls.specs.declared.standing_call.StandingCall.{StandingCall}
use Rattle.plans.specs.declared.setting.Setting.{Setting}
use Rattle.event_rows.specs.State.{Contents, office}
use Rattle.message_laws.specs.Comings.{KnowsScenes}
use Rattle.message_laws.specs.Tokens.{IsOwn, IsOwnIf, IsOwnRequest}
use Rattle.message_laws.proofs.Traces.Receptions.{slot_at}
use Rattle.media_laws.specs.Coming.{scene_at}
use Rattle.media_laws.specs.Lines.{actions_in}
use Rattle.media_laws.proofs.OfferPairs.Taking.{releases_none, sets_none}
use Rattle.step_laws.specs.Leaving.{IsGoingOn}
use Rattle.step_laws.specs.Sending.{Going, cancels, responds}
use Rattle.step_laws.proofs.Byes.{same_itself}
use Rattle.step_laws.proofs.StepSends.{cancel_there, client_of}
use Rattle.step_laws.proofs.Telling.{Tells, tells_first, tells_nothing, then_cancel, then_okay, then_refusal, then_silent}

-- ---- the INVITE that is given up

-- the scene has it, and its CANCEL can be made
pub record CanCancel (s : Scene) (went : Transaction) : Type 0 where
  pub has : option_copied s.passed ≡ Some went
  pub request : Request
  pub of : cancel_of went ≡ Some request
  pub same : request.uri ≡ went.uri
  pub leads : is_some (address_of went.uri) ≡ true

module _ (s : Contents) (scenes : KnowsScenes (office s)) (c : StandingCall) (went : Transaction) (on : IsGoingOn s c went) where
  waits : awaits_final went.state ≡ true
  unfolding is_waiting_invite
  waits =
      let tag = tag_to (other (offerer_of c.call.standing)) c in
      let found : is_waiting_invite tag (Some went) ≡ true = subst (λ o. is_waiting_invite tag o ≡ true) on.stands (position-Some (is_waiting_invite tag) s.table.slots on.id None on.waits).1 in
      (and_parts _ _ found).0

  own : IsOwnRequest s.tokens went.parts
  own = let is_own : IsOwn s.tokens went = slot_at (IsOwnIf s.tokens) s.table.slots on.id went scenes.tokens.slots on.stands in is_own (client_of went waits)

  pub can_cancel : (e : Setting) (w : ComingValue) (description : Option _) → CanCancel (scene_at (office s) e w c description) went
  can_cancel e w description =
      let made = cancel_there went _ waits own.branch.said in
      record {
        has = ap (λ o. option_copied (option_map lent (at_id s.table.slots o))) on.waits ∙ ap (λ (o : Option Transaction). option_copied (option_map lent o)) on.stands;
        request = made.0;
        of = made.1;
        same = made.2;
        leads = on.leads;
      }

-- ---- the lines

module _ (s : Scene) (went : Transaction) (can : CanCancel s went) where
  pub cancels_then : (end : End) → Tells s (Cancel end ∷ Set timers.Limit short_time ∷ []) (cancels went ∷ [])
  cancels_then end = then_cancel s end went can.request can.has can.of can.same can.leads (then_silent s (Set timers.Limit short_time) (λ tokens. sets_none s tokens timers.Limit short_time) (tells_nothing s))

  cancels_behind : (end : End) → Tells s (Cancel end ∷ Set timers.Limit short_time ∷ Release ∷ []) (cancels went ∷ [])
  cancels_behind end =
      then_cancel s end went can.request can.has can.of can.same can.leads
      (then_silent s (Set timers.Limit short_time) (λ tokens. sets_none s tokens timers.Limit short_time) (then_silent s Release (releases_none s) (tells_nothing s)))

  module _ (o : Asker) (asked : s.offer ≡ Some o) where
    -- the ringing limit
    pub limit_cancels : (x : End) → Tells s (actions_in (row_in (stages.Asked true) x signals.Limit)) (responds o.parts.now o.source 480 ∷ cancels went ∷ [])
    unfolding asked_row
    limit_cancels x = then_refusal s o x 480 asked (cancels_behind (other x))

    module _ (a : Asker) (has : s.request ≡ Some a) where
      abbrev pub three : List Going
      three = responds a.parts.now a.source 200 ∷ responds o.parts.now o.source 487 ∷ cancels went ∷ []

      gives_up : (x : End) → Tells s (given_up true x).actions three
      gives_up x = then_okay s a x has (then_refusal s o x 487 asked (cancels_behind (other x)))

      pub cancel_cancels : (x : End) → Tells s (actions_in (row_in (stages.Asked true) x signals.Cancel)) three
      unfolding asked_row
      cancel_cancels x = gives_up x

      pub bye_cancels : (x : End) → Tells s (actions_in (row_in (stages.Asked true) x (signals.Bye x))) three
      unfolding asked_row
      bye_cancels x = tells_first s (is_same x x) _ _ (same_itself x) (gives_up x)

  module _ (a : Asker) (has : s.request ≡ Some a) where
    pub inside_cancels : (x : End) → Tells s (actions_in (row_in (stages.Reasked true Never) x signals.Cancel)) (responds a.parts.now a.source 200 ∷ cancels went ∷ [])
    unfolding reasked_row
    inside_cancels x = then_okay s a x has (cancels_then (other x))

-- no provisional response came yet
module _ (s : Scene) (a : Asker) (has : s.request ≡ Some a) where
  module _ (o : Asker) (asked : s.offer ≡ Some o) where
    abbrev pub two : List Going
    two = responds a.parts.now a.source 200 ∷ responds o.parts.now o.source 487 ∷ []

    waits_to_cancel : (x : End) → Tells s (given_up false x).actions two
    waits_to_cancel x = then_okay s a x has (then_refusal s o x 487 asked (then_silent s Release (releases_none s) (tells_nothing s)))

    pub cancel_waits : (x : End) → Tells s (actions_in (row_in (stages.Asked false) x signals.Cancel)) two
    unfolding asked_row
    cancel_waits x = waits_to_cancel x

    pub bye_waits : (x : End) → Tells s (actions_in (row_in (stages.Asked false) x (signals.Bye x))) two
    unfolding asked_row
    bye_waits x = tells_first s (is_same x x) _ _ (same_itself x) (waits_to_cancel x)

  pub inside_waits : (x : End) → Tells s (actions_in (row_in (stages.Reasked false Never) x signals.Cancel)) (responds a.parts.now a.source 200 ∷ [])
  unfolding reasked_row
  inside_waits x = then_okay s a x has (tells_nothing s)

  -- its CANCEL came before
  pub again_waits : (rung : Bool) (x : End) → Tells s (actions_in (row_in (stages.Reasked rung Waits) x signals.Cancel)) (responds a.parts.now a.source 200 ∷ [])
  unfolding reasked_row
  again_waits true x = then_okay s a x has (tells_nothing s)
  again_waits false x = then_okay s a x has (tells_nothing s)

  pub again_passed : (rung : Bool) (x : End) → Tells s (actions_in (row_in (stages.Reasked rung PassedOn) x signals.Cancel)) (responds a.parts.now a.source 200 ∷ [])
  unfolding reasked_row
  again_passed true x = then_okay s a x has (tells_nothing s)
  again_passed false x = then_okay s a x has (tells_nothing s)
