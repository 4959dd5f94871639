-- What reaches a call that the trace no longer lists: its first INVITE was given up, and has no final response.
use Rattle.std.proofs.Common.{◌≡◌, ◌∙◌, ℕ, Bool, true, false, List, [], ◌∷◌, ◌++◌, Option, Some, None, refl, sym, ap, subst, inl, inr, suc}
use Rattle.std.specs.Prelude.{slice_get}
use Rattle.std.specs.List.{All}
use Rattle.std.proofs.lemmas.Bool.{false≢true}
use Rattle.std.proofs.lemmas.List.Elements.{All-head, All-tail}
use Rattle.std.proofs.lemmas.Option.{same_Some}
use Rattle.call_core.specs.Calls.{holds_in}
use Rattle.call_core.specs.Cancelling.{cancelling_row}
use Rattle.call_core.specs.Table.{row_of}
use Rattle.call_core.specs.declared.action.Action.TheVariants.{Abandon}
use Rattle.call_core.specs.declared.signal.Signal.{Signal}
use Rattle.call_core.specs.declared.signal.Signal.TheVariants as signals
use Rattle.call_core.specs.declared.stage.Stage.{Stage}
use Rattle.call_core.specs.declared.stage.Stage.TheVariants.{Answered, Asked, Cancelling, Ending, Reanswered, Reasked, Settled, Updating}
use Rattle.call_core.specs.declared.stage.Standing.{Standing}
use Rattle.call_media.specs.Ends.{other}
use Rattle.call_media.specs.declared.end.End.{End}
use Rattle.calls.specs.Finding.{has_tag}
use Rattle.calls.specs.declared.standing_call.StandingCall.{StandingCall}
use Rattle.call_trace.specs.declared.call.Call.{Call}
use Rattle.call_trace.specs.declared.datagram.Datagram.{Datagram}
use Rattle.call_trace.specs.declared.datagram.Dialog.{Dialog}
use Rattle.call_trace.specs.declared.datagram.Message.{Message}
use Rattle.call_trace.specs.Events.{IsIdle, IsIdleTaken, IsPartingTaken}
use Rattle.call_trace.specs.Listed.{AllOf}
use Rattle.call_trace.specs.Messages.{offering}
use Rattle.call_messages.specs.declared.scene.Scene.{Scene}
use Rattle.message_laws.specs.Knowing.{AreApart, HasMadeTags, IsTagOf as IsTagOfStanding}
use Rattle.message_laws.proofs.AwaitedOffers.Tagged.{one_tagged, tagged}
use Rattle.media_laws.specs.Heard.{HearsActions}
use Rattle.media_laws.specs.Lines.{HiddenMove, IsTagOfNone, actions_in, next_in, standing}
use Rattle.media_laws.specs.Listing.{Listed, is_listed, is_listed_stage, listing}
use Rattle.media_laws.specs.Scenes.{LegIn}
use Rattle.media_laws.specs.Shows.{ShowsLegs}
use Rattle.media_laws.proofs.CallLines.HiddenLines.{hidden_accepted, hidden_gone, hidden_rings}
use Rattle.media_laws.specs.Taking.{is_due_signal}
use Rattle.media_laws.proofs.Copies.CallTags.{shown_tag}

-- ---- the stage

pub is_hidden : (stage : Stage) → is_listed_stage stage ≡ false → (sent : Bool) × (stage ≡ Cancelling sent)
is_hidden (Asked rung) is = absurd (false≢true (sym is))
is_hidden (Cancelling sent) is = (sent, refl)
is_hidden (Answered interval) is = absurd (false≢true (sym is))
is_hidden Settled is = absurd (false≢true (sym is))
is_hidden (Reasked rung cancelled) is = absurd (false≢true (sym is))
is_hidden (Reanswered interval) is = absurd (false≢true (sym is))
is_hidden Updating is = absurd (false≢true (sym is))
is_hidden (Ending interval) is = absurd (false≢true (sym is))

pub hidden_stage : (c : StandingCall) (n : Standing) → c.call.standing ≡ Some n → is_listed c ≡ false → (sent : Bool) × (n.stage ≡ Cancelling sent)
hidden_stage c n stands unlisted = is_hidden n.stage (sym (ap (holds_in is_listed_stage) stands) ∙ unlisted)

-- ---- the tags of the call are of none that the trace lists

module _ (made : ℕ) (tag : List ℕ) (P : StandingCall → Call → Type 0) (legs : (c : StandingCall) (d : Call) → P c d → ShowsLegs c d) where
  none_listed : (cs : List StandingCall) (ds : List Call) → All (HasMadeTags made) cs → ((i : ℕ) (c : StandingCall) → slice_get cs i ≡ Some c → is_listed c ≡ true → has_tag tag c ≡ true → ⊥) → Listed P cs ds → IsTagOfNone ds tag
  none_listed [] ds own none h = subst (λ l. IsTagOfNone l tag) (sym h) tt
  none_listed (c ∷ cs) ds own none (inl h) = none_listed cs ds (All-tail (HasMadeTags made) c cs own) (λ i x at. none (suc i) x at) h.1
  none_listed (c ∷ cs) ds own none (inr h) =
      subst (λ l. IsTagOfNone l tag) (sym h.3)
      ((λ is. none 0 c refl h.0 (shown_tag made tag c h.1 (All-head (HasMadeTags made) c cs own) (legs c h.1 h.4) is)), none_listed cs h.2 (All-tail (HasMadeTags made) c cs own) (λ i x at. none (suc i) x at) h.5)

  pub hidden_tag : (cs : List StandingCall) (ds : List Call) (place : ℕ) (c : StandingCall) → All (HasMadeTags made) cs → AreApart cs → slice_get cs place ≡ Some c → is_listed c ≡ false → IsTagOfStanding c tag → Listed P cs ds → IsTagOfNone ds tag
  hidden_tag cs ds place c own apart there unlisted of h =
      none_listed cs ds own (λ i x at listed has.
      let same : i ≡ place = one_tagged tag cs i place x c apart at there (tagged tag x has) of in
      let alike : x ≡ c = same_Some x c (sym at ∙ (ap (slice_get cs) same ∙ there)) in
      false≢true (sym unlisted ∙ (ap is_listed (sym alike) ∙ listed))) h

-- ---- the lines

-- a signal for which there is none
abbrev pub HasNoLine : Signal → Type 0
HasNoLine signal = (sent : Bool) (x : End) → cancelling_row sent x signal ≡ None

pub no_ack : HasNoLine signals.Ack
unfolding cancelling_row
no_ack true x = refl
no_ack false x = refl

pub no_cancel : HasNoLine signals.Cancel
unfolding cancelling_row
no_cancel true x = refl
no_cancel false x = refl

pub no_bye : (end : End) → HasNoLine (signals.Bye end)
unfolding cancelling_row
no_bye end true x = refl
no_bye end false x = refl

no_repeat : HasNoLine signals.Repeat
unfolding cancelling_row
no_repeat true x = refl
no_repeat false x = refl

no_wait : HasNoLine signals.Wait
unfolding cancelling_row
no_wait true x = refl
no_wait false x = refl

no_lifetime : HasNoLine signals.Lifetime
unfolding cancelling_row
no_lifetime true x = refl
no_lifetime false x = refl

module _ (t : List Datagram) (ds : List Call) (taken : Option Message) (before : List Message) (idle : AllOf (IsIdle offering t taken) before) (s : Scene) (tokens : ℕ) where
  abbrev pub MovesNone : Standing → Signal → Type 0
  MovesNone n signal = (ms : List Message) → HearsActions s tokens (actions_in (row_of n signal)) ms → HiddenMove t ds taken (before ++ ms) (next_in n (row_of n signal))

  -- a signal without a line
  ignored : (x : End) (sent : Bool) → IsPartingTaken offering t taken ds → (ms : List Message) → HearsActions s tokens [] ms → HiddenMove t ds taken (before ++ ms) (Some (standing x (Cancelling sent)))
  ignored x sent took = λ ms h. record {
    hides = λ m e. ap (λ (y : Standing). listing y.stage) (sym (same_Some (standing x (Cancelling sent)) m e));
    move = (hidden_gone t ds taken before idle s tokens (standing x (Cancelling sent)) [] took tt ms h).move;
  }

  gone_silently : (x : End) (sent : Bool) → IsPartingTaken offering t taken ds → (ms : List Message) → HearsActions s tokens [] ms → HiddenMove t ds taken (before ++ ms) None
  gone_silently x sent took = hidden_gone t ds taken before idle s tokens (standing x (Cancelling sent)) [] took tt

  rings : (x : End) (sent : Bool) (status : ℕ) → IsIdleTaken offering t taken → MovesNone (standing x (Cancelling sent)) (signals.Provisional status)
  unfolding row_of
  rings x sent status took = hidden_rings t ds taken before idle s tokens sent x status took

  refused : (x : End) (sent : Bool) (status : ℕ) → IsPartingTaken offering t taken ds → MovesNone (standing x (Cancelling sent)) (signals.Refusal status)
  unfolding row_of cancelling_row
  refused x true status took = gone_silently x true took
  refused x false status took = gone_silently x false took

  timed_out : (x : End) (sent : Bool) → IsPartingTaken offering t taken ds → MovesNone (standing x (Cancelling sent)) signals.TimedOut
  unfolding row_of cancelling_row
  timed_out x true took = gone_silently x true took
  timed_out x false took = gone_silently x false took

  limit : (x : End) (sent : Bool) → IsPartingTaken offering t taken ds → MovesNone (standing x (Cancelling sent)) signals.Limit
  unfolding row_of cancelling_row
  limit x true took = hidden_gone t ds taken before idle s tokens (standing x (Cancelling true)) (Abandon (other x) ∷ []) took ((λ count m e. absurd e), tt)
  limit x false took = ignored x false took

  accepted : (x : End) (sent : Bool) (callee : Dialog) → IsPartingTaken offering t taken ds → LegIn s (other x) callee → IsTagOfNone ds callee.ours → MovesNone (standing x (Cancelling sent)) signals.UnfitAnswer
  unfolding row_of cancelling_row
  accepted x true callee took leg none = hidden_accepted t ds taken before idle s tokens (standing x (Cancelling true)) (other x) callee took leg none
  accepted x false callee took leg none = hidden_accepted t ds taken before idle s tokens (standing x (Cancelling false)) (other x) callee took leg none

  without_line : (x : End) (sent : Bool) (signal : Signal) → cancelling_row sent x signal ≡ None → IsPartingTaken offering t taken ds → MovesNone (standing x (Cancelling sent)) signal
  unfolding row_of
  without_line x sent signal none took =
      subst (λ line. (ms : List Message) → HearsActions s tokens (actions_in line) ms → HiddenMove t ds taken (before ++ ms) (next_in (standing x (Cancelling sent)) line)) (sym none) (ignored x sent took)

  -- ---- where the call has a standing

  module _ (n : Standing) (sent : Bool) (at : n.stage ≡ Cancelling sent) where
    where_it_stands : (signal : Signal) → MovesNone (standing n.offerer (Cancelling sent)) signal → MovesNone n signal
    where_it_stands signal h = subst (λ stage. MovesNone (standing n.offerer stage) signal) (sym at) h

    pub hidden_rings_on : (status : ℕ) → IsIdleTaken offering t taken → MovesNone n (signals.Provisional status)
    hidden_rings_on status took = where_it_stands (signals.Provisional status) (rings n.offerer sent status took)

    pub hidden_refused : (status : ℕ) → IsPartingTaken offering t taken ds → MovesNone n (signals.Refusal status)
    hidden_refused status took = where_it_stands (signals.Refusal status) (refused n.offerer sent status took)

    pub hidden_answered : (callee : Dialog) → IsPartingTaken offering t taken ds → LegIn s (other n.offerer) callee → IsTagOfNone ds callee.ours → MovesNone n signals.UnfitAnswer
    hidden_answered callee took leg none = where_it_stands signals.UnfitAnswer (accepted n.offerer sent callee took leg none)

    pub hidden_ignores : (signal : Signal) → HasNoLine signal → IsPartingTaken offering t taken ds → MovesNone n signal
    hidden_ignores signal none took = where_it_stands signal (without_line n.offerer sent signal (none sent n.offerer) took)

    pub hidden_due : (signal : Signal) → is_due_signal signal ≡ true → IsPartingTaken offering t taken ds → MovesNone n signal
    hidden_due (signals.Offer end method) is took = absurd (false≢true is)
    hidden_due (signals.Provisional status) is took = absurd (false≢true is)
    hidden_due signals.FitAnswer is took = absurd (false≢true is)
    hidden_due signals.UnfitAnswer is took = absurd (false≢true is)
    hidden_due (signals.Refusal status) is took = absurd (false≢true is)
    hidden_due signals.TimedOut is took = where_it_stands signals.TimedOut (timed_out n.offerer sent took)
    hidden_due signals.Ack is took = absurd (false≢true is)
    hidden_due signals.Cancel is took = absurd (false≢true is)
    hidden_due (signals.Bye end) is took = absurd (false≢true is)
    hidden_due signals.Limit is took = where_it_stands signals.Limit (limit n.offerer sent took)
    hidden_due signals.Repeat is took = hidden_ignores signals.Repeat no_repeat took
    hidden_due signals.Wait is took = hidden_ignores signals.Wait no_wait took
    hidden_due signals.Lifetime is took = hidden_ignores signals.Lifetime no_lifetime took
