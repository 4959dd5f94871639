-- The lines of a call's table next to the moves of a trace's calls: what a line asks of the call and of its scene,
-- and what it does to the trace's calls.
use Rattle.std.specs.Prelude.{◌≡◌, ℕ, List, [], Option, Some, None, slice_set, remove}
use Rattle.call_media.specs.declared.end.End.{End}
use Rattle.call_media.specs.declared.end.End.TheVariants.{Caller, Callee}
use Rattle.call_media.specs.Ends.{other}
use Rattle.call_core.specs.declared.action.Action.{Action}
use Rattle.call_core.specs.declared.row.Row.{Row}
use Rattle.call_core.specs.declared.signal.Signal.{Signal}
use Rattle.call_core.specs.declared.signal.Signal.TheVariants as signals
use Rattle.call_core.specs.declared.stage.Stage.{Stage}
use Rattle.call_core.specs.declared.stage.Stage.TheVariants as stages
use Rattle.call_core.specs.declared.stage.Standing.{Standing}
use Rattle.call_messages.specs.declared.scene.Scene.{Scene}
use Rattle.call_trace.specs.declared.call.Call.{Call}
use Rattle.call_trace.specs.declared.call.Offer.{Offer}
use Rattle.call_trace.specs.declared.call.Settled.{Settled}
use Rattle.call_trace.specs.declared.call.Stage.TheVariants as traces
use Rattle.call_trace.specs.declared.datagram.Datagram.{Datagram}
use Rattle.call_trace.specs.declared.datagram.Dialog.{Dialog}
use Rattle.call_trace.specs.declared.datagram.Message.{Message}
use Rattle.call_trace.specs.Events.{IsIdle}
use Rattle.call_trace.specs.Listed.{AllOf}
use Rattle.call_trace.specs.Messages.{offering}
use Rattle.call_trace.specs.Moves.{Move, ending, without_offer}
use Rattle.call_trace.specs.Stands.{IsTagOf, leg}
use Rattle.media_laws.specs.Heard.{HearsAction}
use Rattle.media_laws.specs.Listing.{ending_by, hidden, listing, talking}
use Rattle.media_laws.specs.Scenes.{LegIn}
use Rattle.media_laws.specs.Shows.{is_caller}

-- ---- a line of the table, if a signal has one

abbrev pub actions_in : Option Row → List Action
actions_in None = []
actions_in (Some r) = r.actions

abbrev pub next_in : Standing → Option Row → Option Standing
next_in n None = Some n
next_in n (Some r) = r.next

abbrev pub standing : End → Stage → Standing
standing x stage = record { offerer = x; stage = stage }

-- ---- what is known of the trace's call, by the stage

pub record Answered (d : Call) : Type 0 where
  pub settled : Settled
  pub stage : d.stage ≡ traces.Answered settled

pub record Offering (d : Call) : Type 0 where
  pub answered : Answered d
  pub offer : Offer
  pub open_is : d.offer ≡ Some offer

abbrev pub IsAt : End → Stage → Call → Type 0
IsAt x (stages.Asked rung) d = (d.stage ≡ traces.Asked) × (x ≡ Caller)
IsAt x (stages.Cancelling sent) d = ⊥
IsAt x (stages.Answered interval) d = Answered d
IsAt x stages.Settled d = Answered d
IsAt x (stages.Reasked rung cancelled) d = Offering d
IsAt x (stages.Reanswered interval) d = Answered d
IsAt x stages.Updating d = Offering d
IsAt x (stages.Ending interval) d = d.stage ≡ traces.Ending (is_caller (other x))

-- its legs, where it was answered
abbrev pub Legs : Scene → Call → Type 0
Legs s d = (e : End) → LegIn s e (leg d (is_caller e))

-- the leg that a first 2xx makes
pub record FirstLeg (s : Scene) (d : Call) : Type 0 where
  pub callee : Dialog
  pub leg : LegIn s Callee callee
  pub ours : callee.ours ≡ d.callee.ours

-- which legs a stage asks for
abbrev pub HasLegs : Stage → Scene → Call → Signal → Type 0
HasLegs (stages.Asked rung) s d signals.UnfitAnswer = FirstLeg s d
HasLegs (stages.Asked rung) s d signal = Unit {0}
HasLegs stage s d signal = Legs s d

-- ---- what a line does to the trace's calls

pub data LineMove (t : List Datagram) (ds : List Call) (k : ℕ) (d : Call) (taken : Option Message) (sent : List Message) (n : Standing) (next : Option Standing) : Type 0 where
  -- no call moves, and the call is listed as it was
  waits_on : (m : Standing) → next ≡ Some m → m.offerer ≡ n.offerer → listing m.stage ≡ listing n.stage → Move offering t ds taken sent ds → LineMove t ds k d taken sent n next
  -- the trace no longer lists it
  goes : ((m : Standing) → next ≡ Some m → listing m.stage ≡ hidden) → Move offering t ds taken sent (remove ds k) → LineMove t ds k d taken sent n next
  -- its open offer was refused
  released : (m : Standing) → next ≡ Some m → listing m.stage ≡ talking → Move offering t ds taken sent (slice_set ds k (without_offer d)) → LineMove t ds k d taken sent n next
  -- the end across from the offerer has left it
  parts : (m : Standing) → next ≡ Some m → m.offerer ≡ n.offerer → listing m.stage ≡ ending_by → Move offering t ds taken sent (slice_set ds k (ending d (is_caller (other n.offerer)))) → LineMove t ds k d taken sent n next

-- ---- what is said while a call waits on

abbrev pub SaysNone : List Datagram → Option Message → Scene → Action → Type 0
SaysNone t taken s action = (count : ℕ) (m : Message) → HearsAction s count action m → IsIdle offering t taken m

-- ---- a call that the trace no longer lists

-- no call of the trace has the tag
abbrev pub IsTagOfNone : List Call → List ℕ → Type 0
IsTagOfNone ds tag = AllOf (λ c. ¬ IsTagOf c tag) ds

-- what a line does: no call moves, and the call is hidden still, or gone
pub record HiddenMove (t : List Datagram) (ds : List Call) (taken : Option Message) (sent : List Message) (next : Option Standing) : Type 0 where
  pub hides : (m : Standing) → next ≡ Some m → listing m.stage ≡ hidden
  pub move : Move offering t ds taken sent ds
