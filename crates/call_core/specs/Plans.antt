-- What carrying a plan out results in, and what is known of a plan on the values that it was planned with.
use Rattle.std.specs.Prelude.{◌≡◌, ℕ, ◌||◌, Bool, true, false, is_none, is_some, List, [], Option, Some, None, IsTrue, if◌then◌else◌}
use Rattle.std.specs.List.{list_any}
use Rattle.port_pool.specs.declared.changes.Change.{Change}
use Rattle.port_pool.specs.Pool.{Contents, changes_of, with_changes, with_pairs, without_call, without_others}
use Rattle.sdp.specs.declared.description.Description.{Description}
use Rattle.call_media.specs.declared.answer_plan.PlannedAnswer.{PlannedAnswer}
use Rattle.call_media.specs.declared.session.OpenOffer.{OpenOffer}
use Rattle.call_media.specs.declared.state.CallMedia.{CallMedia}
use Rattle.call_media.specs.Answers.{IsFit, session_planned, with_session}
use Rattle.call_media.specs.Offers.{IsReady, ended, with_offer, without_offer}
use Rattle.call_media.specs.Sessions.{pairs_listed}
use Rattle.call_core.specs.declared.action.Action.{Action}
use Rattle.call_core.specs.declared.action.Action.TheVariants.{Release, RemoveRows}
use Rattle.call_core.specs.declared.call.Call.{Call}
use Rattle.call_core.specs.declared.plan.MediaPlan.{MediaPlan}
use Rattle.call_core.specs.declared.plan.MediaPlan.TheVariants.{Keeps, Holds, Puts, Withdraws, Ends}
use Rattle.call_core.specs.declared.plan.Plan.{Plan}
use Rattle.call_core.specs.declared.row.Row.{Row}
use Rattle.call_core.specs.declared.signal.Signal.{Signal}
use Rattle.call_core.specs.declared.signal.Signal.TheVariants as signals
use Rattle.call_core.specs.declared.stage.Stage.{Stage}
use Rattle.call_core.specs.Calls.{after, awaits_answer, has_session, holds_in}

-- What a call does: the actions in order, the offer or the answer that is passed on with them, as the server sends it,
-- the call and the pool after it, and the changes of the relay table.
pub record Step : Type 0 where
  pub actions : List Action
  pub description : Option Description
  pub call : Call
  pub pool : Contents
  pub changes : List Change

-- the media after the answer to the open offer was passed on
abbrev pub answered_by : CallMedia → Option OpenOffer → PlannedAnswer → CallMedia
answered_by m None p = m
answered_by m (Some o) p = with_session m (session_planned o p)

abbrev pub media_after : CallMedia → MediaPlan → CallMedia
media_after m Keeps = m
media_after m (Holds p) = with_offer m p.offer
media_after m (Puts p) = answered_by m m.offer p
media_after m Withdraws = without_offer m
media_after m (Ends removals) = ended m

abbrev pub pool_after : CallMedia → Contents → ℕ → MediaPlan → Contents
pool_after m pool now Keeps = pool
pool_after m pool now (Holds p) = with_pairs pool m.number p.fresh.items
pool_after m pool now (Puts p) = without_others (with_changes pool p.rows.changes.items) m.number p.rows.pairs now
pool_after m pool now Withdraws = without_others pool m.number (pairs_listed m.session) now
pool_after m pool now (Ends removals) = without_call pool m.number now

abbrev pub changes_made : MediaPlan → List Change
changes_made Keeps = []
changes_made (Holds p) = []
changes_made (Puts p) = p.rows.changes.items
changes_made Withdraws = []
changes_made (Ends removals) = removals.items

-- the offer or the answer that is passed on, as the server sends it
abbrev pub description_sent : MediaPlan → Option Description
description_sent Keeps = None
description_sent (Holds p) = Some p.offer.offer_sent
description_sent (Puts p) = Some p.sent
description_sent Withdraws = None
description_sent (Ends removals) = None

abbrev pub carried : Call → Contents → ℕ → Plan → Step
carried c pool now p = record {
  actions = p.actions;
  description = description_sent p.media;
  call = after c p.numbers p.next (media_after c.media p.media);
  pool = pool_after c.media pool now p.media;
  changes = changes_made p.media;
}

-- ---- what is known of a plan

-- an offer is open, to which this is the planned answer
pub record IsAnswer (m : CallMedia) (pool : Contents) (p : PlannedAnswer) : Type 0 where
  pub asked : IsTrue (is_some m.offer)
  pub fits : (o : OpenOffer) → m.offer ≡ Some o → IsFit m pool o p

abbrev pub FitsMedia : CallMedia → Contents → ℕ → MediaPlan → Type 0
FitsMedia m pool now Keeps = Unit {0}
FitsMedia m pool now (Holds p) = (m.offer ≡ None) × IsReady m pool now p
FitsMedia m pool now (Puts p) = IsAnswer m pool p
FitsMedia m pool now Withdraws = Unit {0}
FitsMedia m pool now (Ends removals) = removals.items ≡ changes_of pool m.number []

-- whether an offer is open afterwards, and whether a session is live
abbrev pub leaves_open : MediaPlan → Bool → Bool
leaves_open Keeps waits = waits
leaves_open (Holds p) waits = true
leaves_open (Puts p) waits = false
leaves_open Withdraws waits = false
leaves_open (Ends removals) waits = false

abbrev pub leaves_session : MediaPlan → Bool → Bool
leaves_session Keeps stands = stands
leaves_session (Holds p) stands = stands
leaves_session (Puts p) stands = true
leaves_session Withdraws stands = stands
leaves_session (Ends removals) stands = false

-- it can be carried out, and leads to where an offer is open, and a session is live, as the next phase requires
pub record IsPlanned (c : Call) (pool : Contents) (now : ℕ) (p : Plan) : Type 0 where
  pub media : FitsMedia c.media pool now p.media
  pub offer : holds_in awaits_answer p.next ≡ leaves_open p.media (holds_in awaits_answer c.standing)
  pub session : holds_in has_session p.next ≡ leaves_session p.media (holds_in has_session c.standing)

-- ---- lines that no offer and no answer comes with

abbrev pub is_removal : Action → Bool
is_removal RemoveRows = true
is_removal action = false

abbrev pub is_release : Action → Bool
is_release Release = true
is_release action = false

-- the call is gone, or its rows go
abbrev pub ends_media : Row → Bool
ends_media row = is_none row.next || list_any is_removal row.actions

-- the pairs of the open offer rest
abbrev pub releases : Row → Bool
releases row = list_any is_release row.actions

abbrev pub is_plain : Signal → Bool
is_plain (signals.Offer end method) = false
is_plain signals.FitAnswer = false
is_plain signal = true

-- where a line leads that releases the pairs of the open offer, that ends the media, or that changes neither
pub record LeadsOn (stage : Stage) (row : Row) : Type 0 where
  pub offer : holds_in awaits_answer row.next ≡ (if ends_media row then false else if releases row then false else awaits_answer stage)
  pub session : holds_in has_session row.next ≡ (if ends_media row then false else has_session stage)

-- where a line leads that passes an offer on, and one that passes an answer on
pub record OffersOn (stage : Stage) (row : Row) : Type 0 where
  pub settled : awaits_answer stage ≡ false
  pub offer : holds_in awaits_answer row.next ≡ true
  pub session : holds_in has_session row.next ≡ has_session stage

pub record AnswersOn (row : Row) : Type 0 where
  pub offer : holds_in awaits_answer row.next ≡ false
  pub session : holds_in has_session row.next ≡ true

abbrev pub IfLine : (Row → Type 0) → Option Row → Type 0
IfLine p None = Unit {0}
IfLine p (Some row) = p row

-- there is a line, and it is so
abbrev pub IsLine : (Row → Type 0) → Option Row → Type 0
IsLine p None = ⊥
IsLine p (Some row) = p row
