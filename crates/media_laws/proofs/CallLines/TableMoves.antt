-- The lines of a call's table, each as a move of the trace's calls (RFC 3261 sections 9, 13, 14 and 15, RFC 3311). x is
-- the offerer, y the end across.
use Rattle.std.proofs.Common.{◌≡◌, ◌∙◌, ℕ, ◌+◌, ◌≤◌, Bool, true, false, not, List, [], ◌∷◌, ◌++◌, Option, Some, refl, ap, sym, subst, inl, inr}
use Rattle.std.specs.Prelude.{slice_get, slice_set, remove}
use Rattle.call_media.specs.declared.end.End.{End}
use Rattle.call_core.specs.declared.action.Action.{Action}
use Rattle.call_core.specs.declared.action.Action.TheVariants.{Ack, Bye, Cancel, Okay, Refusal, Release, Set}
use Rattle.call_core.specs.declared.action.CallTimer.{CallTimer}
use Rattle.call_messages.specs.declared.scene.Scene.{Scene}
use Rattle.call_messages.specs.Dressing.{dress_one}
use Rattle.call_trace.specs.declared.call.Call.{Call}
use Rattle.call_trace.specs.declared.call.Settled.{Settled}
use Rattle.call_trace.specs.declared.call.Stage.TheVariants.{Answered, Asked, Ending}
use Rattle.call_trace.specs.declared.datagram.Datagram.{Datagram}
use Rattle.call_trace.specs.declared.datagram.Dialog.{Dialog}
use Rattle.call_trace.specs.declared.datagram.Message.{Message}
use Rattle.call_trace.specs.Events.{IsIdle, IsIdleTaken}
use Rattle.call_trace.specs.Listed.{AllOf}
use Rattle.call_trace.specs.Messages.{offering}
use Rattle.call_trace.specs.Moves.{Leaves as LeavesCall, Move, ending}
use Rattle.call_trace.specs.Stands.{AllApart, HasTags, leg}
use Rattle.call_trace.proofs.Apart.{leg_tag}
use Rattle.media_laws.specs.Lines.{SaysNone}
use Rattle.media_laws.specs.Heard.{HearsActions}
use Rattle.media_laws.specs.Said.{EndSaid, EndTaken}
use Rattle.media_laws.specs.Scenes.{ByeIn, LegIn}
use Rattle.media_laws.proofs.CallLines.LineMoves.{SaysEnd, answered_goes, bye_ends, first_goes, okay_ends}
use Rattle.media_laws.proofs.CallLines.Ends.{one_leaves}
use Rattle.media_laws.proofs.OfferPairs.Settling.{AreSilent, none_said}
use Rattle.media_laws.proofs.OfferPairs.Taking.{okay_one, take_one}
use Rattle.media_laws.proofs.OfferPairs.SaidActions.{left_of, ack_said, all_said, bye_said, cancel_said, left_said, refusal_said}

-- ---- what is said while a call waits on

pub idle_said : (t : List Datagram) (taken : Option Message) (s : Scene) (tokens : ℕ) (actions : List Action) (ms : List Message) → AllOf (SaysNone t taken s) actions → HearsActions s tokens actions ms
    → AllOf (IsIdle offering t taken) ms
idle_said t taken s tokens actions ms each h = all_said (IsIdle offering t taken) s tokens actions ms each h

-- ---- a first offer ends without an answer

module _ (t : List Datagram) (old : List Call) (k : ℕ) (d : Call) (apart : AllApart old) (there : slice_get old k ≡ Some d) (has : HasTags d) (taken : Option Message) (before : List Message) (s : Scene) (tokens : ℕ) (took : EndTaken t taken d) where
  -- a refusal, or no response in time
  pub first_refused : (x : End) (status : ℕ) (ms : List Message) → 300 ≤ status → d.stage ≡ Asked → AllOf (EndSaid t taken (before ++ ms) d) before → HearsActions s tokens (Refusal x status ∷ []) ms
      → Move offering t old taken (before ++ ms) (remove old k)
  first_refused x status ms low stage earlier h =
      first_goes t old k d apart there has taken before s tokens (Refusal x status ∷ []) ms stage took earlier (refusal_said t taken (before ++ ms) d s x status low, tt) h

  -- an unfit 2xx
  pub first_unfit : (x y : End) (status : ℕ) (callee : Dialog) (ms : List Message) → 300 ≤ status → d.stage ≡ Asked → LegIn s y callee → callee.ours ≡ d.callee.ours → AllOf (EndSaid t taken (before ++ ms) d) before
      → HearsActions s tokens (Ack y ∷ Bye y ∷ Refusal x status ∷ []) ms → Move offering t old taken (before ++ ms) (remove old k)
  first_unfit x y status callee ms low stage l ours earlier h =
      let ends = bye_ends t old k d apart there has taken before s tokens (Ack y ∷ []) y (Refusal x status ∷ []) ms callee l h in
      first_goes t old k d apart there has taken before s tokens (Ack y ∷ Bye y ∷ Refusal x status ∷ []) ms stage took earlier
      (ack_said t taken (before ++ ms) d s y callee l ends, (bye_said t taken (before ++ ms) d s y callee l (inr ours), (refusal_said t taken (before ++ ms) d s x status low, tt))) h

  -- the ringing limit
  pub first_limit : (x y : End) (status after : ℕ) (timer : CallTimer) (ms : List Message) → 300 ≤ status → d.stage ≡ Asked → AllOf (EndSaid t taken (before ++ ms) d) before
      → HearsActions s tokens (Refusal x status ∷ Cancel y ∷ Set timer after ∷ Release ∷ []) ms → Move offering t old taken (before ++ ms) (remove old k)
  first_limit x y status after timer ms low stage earlier h =
      first_goes t old k d apart there has taken before s tokens (Refusal x status ∷ Cancel y ∷ Set timer after ∷ Release ∷ []) ms stage took earlier
      (refusal_said t taken (before ++ ms) d s x status low, (cancel_said t taken (before ++ ms) d s y, ((λ count m e. absurd e), ((λ count m e. absurd e), tt)))) h

  -- CANCEL, or the caller's BYE: with a CANCEL to the callee, or before it may go
  pub first_given_up : (x y : End) (status after : ℕ) (timer : CallTimer) (ms : List Message) → 300 ≤ status → d.stage ≡ Asked → SaysEnd t taken (before ++ ms) d s (Okay x) → AllOf (EndSaid t taken (before ++ ms) d) before
      → HearsActions s tokens (Okay x ∷ Refusal x status ∷ Cancel y ∷ Set timer after ∷ Release ∷ []) ms → Move offering t old taken (before ++ ms) (remove old k)
  first_given_up x y status after timer ms low stage okay earlier h =
      first_goes t old k d apart there has taken before s tokens (Okay x ∷ Refusal x status ∷ Cancel y ∷ Set timer after ∷ Release ∷ []) ms stage took earlier
      (okay, (refusal_said t taken (before ++ ms) d s x status low, (cancel_said t taken (before ++ ms) d s y, ((λ count m e. absurd e), ((λ count m e. absurd e), tt))))) h

  pub first_given_up_early : (x : End) (status : ℕ) (ms : List Message) → 300 ≤ status → d.stage ≡ Asked → SaysEnd t taken (before ++ ms) d s (Okay x) → AllOf (EndSaid t taken (before ++ ms) d) before
      → HearsActions s tokens (Okay x ∷ Refusal x status ∷ Release ∷ []) ms → Move offering t old taken (before ++ ms) (remove old k)
  first_given_up_early x status ms low stage okay earlier h =
      first_goes t old k d apart there has taken before s tokens (Okay x ∷ Refusal x status ∷ Release ∷ []) ms stage took earlier
      (okay, (refusal_said t taken (before ++ ms) d s x status low, ((λ count m e. absurd e), tt))) h

-- ---- an answered call goes

abbrev both_of : (L : Bool → Type 0) → (b : Bool) → L b → L (not b) → L true × L false
both_of L true one two = (one, two)
both_of L false one two = (two, one)

module _ (t : List Datagram) (old : List Call) (k : ℕ) (d : Call) (apart : AllApart old) (there : slice_get old k ≡ Some d) (has : HasTags d) (taken : Option Message) (before : List Message) (s : Scene) (tokens : ℕ) (took : EndTaken t taken d) (b : Bool) (x y : End) where
  -- its legs end by this event
  ended_goes : (actions : List Action) (ms : List Message) → LeavesCall t taken (before ++ ms) d b → LeavesCall t taken (before ++ ms) d (not b) → AllOf (EndSaid t taken (before ++ ms) d) before
      → AllOf (SaysEnd t taken (before ++ ms) d s) actions → HearsActions s tokens actions ms → Move offering t old taken (before ++ ms) (remove old k)
  ended_goes actions ms one two earlier each h =
      let both = both_of (LeavesCall t taken (before ++ ms) d) b one two in
      answered_goes t old k d apart there has taken before s tokens actions ms both.0 both.1 took earlier each h

  -- the ACK did not come in time: BYE to both
  pub both_told : (ms : List Message) → LegIn s x (leg d b) → LegIn s y (leg d (not b)) → AllOf (EndSaid t taken (before ++ ms) d) before → HearsActions s tokens (Bye x ∷ Bye y ∷ []) ms
      → Move offering t old taken (before ++ ms) (remove old k)
  both_told ms lx ly earlier h =
      ended_goes (Bye x ∷ Bye y ∷ []) ms (inl (bye_ends t old k d apart there has taken before s tokens [] x (Bye y ∷ []) ms (leg d b) lx h))
      (inl (bye_ends t old k d apart there has taken before s tokens (Bye x ∷ []) y [] ms (leg d (not b)) ly h)) earlier
      (bye_said t taken (before ++ ms) d s x (leg d b) lx (leg_tag d b), (bye_said t taken (before ++ ms) d s y (leg d (not b)) ly (leg_tag d (not b)), tt)) h

  -- an unfit 2xx to a later INVITE
  pub later_unfit : (status : ℕ) (ms : List Message) → 300 ≤ status → LegIn s x (leg d b) → LegIn s y (leg d (not b)) → AllOf (EndSaid t taken (before ++ ms) d) before
      → HearsActions s tokens (Ack y ∷ Bye y ∷ Refusal x status ∷ Bye x ∷ []) ms → Move offering t old taken (before ++ ms) (remove old k)
  later_unfit status ms low lx ly earlier h =
      let ends = bye_ends t old k d apart there has taken before s tokens (Ack y ∷ []) y (Refusal x status ∷ Bye x ∷ []) ms (leg d (not b)) ly h in
      ended_goes (Ack y ∷ Bye y ∷ Refusal x status ∷ Bye x ∷ []) ms
      (inl (bye_ends t old k d apart there has taken before s tokens (Ack y ∷ Bye y ∷ Refusal x status ∷ []) x [] ms (leg d b) lx h)) (inl ends) earlier
      (ack_said t taken (before ++ ms) d s y (leg d (not b)) ly ends, (bye_said t taken (before ++ ms) d s y (leg d (not b)) ly (leg_tag d (not b)), (refusal_said t taken (before ++ ms) d s x status low, (bye_said t taken (before ++ ms) d s x (leg d b) lx (leg_tag d b), tt)))) h

  -- a refusal by an end that has lost the call, no response in time, or an unfit 2xx to an UPDATE: BYE to both
  pub later_failed : (status : ℕ) (later : List Action) (ms : List Message) → 300 ≤ status → LegIn s x (leg d b) → LegIn s y (leg d (not b)) → AllOf (SaysEnd t taken (before ++ ms) d s) later
      → AllOf (EndSaid t taken (before ++ ms) d) before → HearsActions s tokens (Refusal x status ∷ Bye y ∷ Bye x ∷ later) ms → Move offering t old taken (before ++ ms) (remove old k)
  later_failed status later ms low lx ly rest earlier h =
      ended_goes (Refusal x status ∷ Bye y ∷ Bye x ∷ later) ms
      (inl (bye_ends t old k d apart there has taken before s tokens (Refusal x status ∷ Bye y ∷ []) x later ms (leg d b) lx h))
      (inl (bye_ends t old k d apart there has taken before s tokens (Refusal x status ∷ []) y (Bye x ∷ later) ms (leg d (not b)) ly h)) earlier
      (refusal_said t taken (before ++ ms) d s x status low, (bye_said t taken (before ++ ms) d s y (leg d (not b)) ly (leg_tag d (not b)), (bye_said t taken (before ++ ms) d s x (leg d b) lx (leg_tag d b), rest))) h

  -- x was left by y, and is notified by BYE
  pub last_told : (ms : List Message) → d.stage ≡ Ending (not b) → LegIn s x (leg d b) → AllOf (EndSaid t taken (before ++ ms) d) before → HearsActions s tokens (Bye x ∷ []) ms
      → Move offering t old taken (before ++ ms) (remove old k)
  last_told ms stage lx earlier h =
      ended_goes (Bye x ∷ []) ms (inl (bye_ends t old k d apart there has taken before s tokens [] x [] ms (leg d b) lx h)) (inr stage) earlier
      (bye_said t taken (before ++ ms) d s x (leg d b) lx (leg_tag d b), tt) h

-- ---- an end leaves by BYE

module _ (t : List Datagram) (old : List Call) (k : ℕ) (d : Call) (apart : AllApart old) (there : slice_get old k ≡ Some d) (has : HasTags d) (came : Message) (s : Scene) (tokens : ℕ) (took : EndTaken t (Some came) d) (b : Bool) (x y : End) (bye : ByeIn s (leg d b) came) where
  -- x leaves an answered call, and y is notified
  pub one_left : (ms : List Message) → LegIn s y (leg d (not b)) → HearsActions s tokens (Okay x ∷ Bye y ∷ []) ms → Move offering t old (Some came) ms (remove old k)
  one_left ms ly h =
      let both = both_of (LeavesCall t (Some came) ms d) b (inl (okay_ends t [] s tokens [] x (Bye y ∷ []) ms (leg d b) came bye h))
      (inl (bye_ends t old k d apart there has (Some came) [] s tokens (Okay x ∷ []) y [] ms (leg d (not b)) ly h)) in
      answered_goes t old k d apart there has (Some came) [] s tokens (Okay x ∷ Bye y ∷ []) ms both.0 both.1 took tt
      (left_said t (Some came) ms d s x (leg d b) came bye refl (leg_tag d b), (bye_said t (Some came) ms d s y (leg d (not b)) ly (leg_tag d (not b)), tt)) h

  -- while an offer of `offerer` is open, which is refused
  pub one_left_inside : (offerer : End) (status : ℕ) (later : List Action) (ms : List Message) → 300 ≤ status → LegIn s y (leg d (not b)) → AllOf (SaysEnd t (Some came) ms d s) later
      → HearsActions s tokens (Okay x ∷ Refusal offerer status ∷ Bye y ∷ later) ms → Move offering t old (Some came) ms (remove old k)
  one_left_inside offerer status later ms low ly rest h =
      let both = both_of (LeavesCall t (Some came) ms d) b (inl (okay_ends t [] s tokens [] x (Refusal offerer status ∷ Bye y ∷ later) ms (leg d b) came bye h))
      (inl (bye_ends t old k d apart there has (Some came) [] s tokens (Okay x ∷ Refusal offerer status ∷ []) y later ms (leg d (not b)) ly h)) in
      answered_goes t old k d apart there has (Some came) [] s tokens (Okay x ∷ Refusal offerer status ∷ Bye y ∷ later) ms both.0 both.1 took tt
      (left_said t (Some came) ms d s x (leg d b) came bye refl (leg_tag d b), (refusal_said t (Some came) ms d s offerer status low, (bye_said t (Some came) ms d s y (leg d (not b)) ly (leg_tag d (not b)), rest))) h

  -- x leaves, whom y has left
  pub last_left : (ms : List Message) → d.stage ≡ Ending (not b) → HearsActions s tokens (Okay x ∷ []) ms → Move offering t old (Some came) ms (remove old k)
  last_left ms stage h =
      let both = both_of (LeavesCall t (Some came) ms d) b (inl (okay_ends t [] s tokens [] x [] ms (leg d b) came bye h)) (inr stage) in
      answered_goes t old k d apart there has (Some came) [] s tokens (Okay x ∷ []) ms both.0 both.1 took tt (left_said t (Some came) ms d s x (leg d b) came bye refl (leg_tag d b), tt) h

  -- x leaves before the ACK of y's INVITE has come, and y is notified after it
  pub one_leaves_early : (z : Settled) (later : List Action) (ms : List Message) → d.stage ≡ Answered z → AreSilent s later → IsIdleTaken offering t (Some came) → HearsActions s tokens (Okay x ∷ later) ms
      → Move offering t old (Some came) ms (slice_set old k (ending d b))
  one_leaves_early z later ms stage silent idle h =
      let first = okay_one s tokens x bye.asker bye.has in
      let went = take_one s tokens (Okay x) later ms first.0 first.1 h in
      let whole : ms ≡ went.message ∷ [] = went.whole ∙ ap (λ l. went.message ∷ l) (none_said s (tokens + (dress_one s tokens (Okay x)).made) later went.rest silent went.more) in
      subst (λ l. Move offering t old (Some came) l (slice_set old k (ending d b))) (sym whole)
      (one_leaves t old k d z b came went.message apart has there stage (left_of s x (leg d b) came bye tokens went.message went.heard) (leg_tag d b) idle)
