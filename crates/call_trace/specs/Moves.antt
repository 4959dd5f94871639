-- The moves: what one event does to the calls, and what it takes and sends.
use Rattle.std.specs.Prelude.{◌≡◌, ◌≢◌, ℕ, List, [], ◌∷◌, ◌++◌, Bool, true, false, not, Option, Some, None, slice_get, slice_set, remove, ◌⊎◌, IsTrue}
use Rattle.call_trace.specs.declared.datagram.Message.{Message}
use Rattle.call_trace.specs.declared.datagram.Datagram.{Datagram}
use Rattle.call_trace.specs.declared.datagram.Dialog.{Dialog}
use Rattle.call_trace.specs.declared.call.Session.{Session}
use Rattle.call_trace.specs.declared.call.Settled.{Settled}
use Rattle.call_trace.specs.declared.call.Stage.TheVariants.{Asked, Answered, Ending}
use Rattle.call_trace.specs.declared.call.Offer.{Offer}
use Rattle.call_trace.specs.declared.call.Call.{Call}
use Rattle.call_trace.specs.Messages.{invite, ack, is_final, is_success, is_method, is_offer, is_answer, is_request_of, Replies}
use Rattle.call_trace.specs.Stands.{leg, Apart, HasTags}
use Rattle.call_trace.specs.Events.{dialog_sent, is_plain, IsIdle, IsIdleTaken, IsUnused, IsNewTag, AreNewBytes, EndsNow, IsParting, IsPartingTaken}
use Rattle.call_trace.specs.Listed.{AllOf}

-- ---- an offer is passed on

-- The request came in the dialog x, and another was sent in the dialog y with a branch of its own, after what is
-- plain: a 100 to an INVITE, nothing to an UPDATE.
pub record PassesOffer (methods : List (List ℕ)) (t : List Datagram) (x y : Dialog) (came : Message) (before : List Message) (went : Message) : Type 0 where
  pub plain : AllOf (λ m. IsTrue (is_plain methods m)) before
  pub offer_came : IsTrue (is_offer methods came)
  pub offer_went : IsTrue (is_offer methods went)
  pub method : came.method ≡ went.method
  pub came_call : came.call_id ≡ x.call_id
  pub came_from : came.from_tag ≡ x.theirs
  pub went_call : went.call_id ≡ y.call_id
  pub went_from : went.from_tag ≡ y.ours
  pub went_to : went.to_tag ≡ y.theirs
  pub unused : IsUnused t went.branch

-- a new call: both tags of ours are made now
pub record IsNewCall (t : List Datagram) (old : List Call) (came : Message) (c : Call) : Type 0 where
  pub invite : IsTrue (is_method invite came.method)
  pub no_tag : came.to_tag ≡ []
  pub callee : c.callee.theirs ≡ []
  pub tags : HasTags c
  pub apart : AllOf (λ d. Apart d c) old
  pub caller_new : IsNewTag t c.caller.ours
  pub callee_new : IsNewTag t c.callee.ours

abbrev pub new_call : Dialog → Dialog → Message → Message → Call
new_call caller callee came went = record { caller = caller; callee = callee; stage = Asked; offer = Some (record { by_caller = true; came = came; went = went }) }

abbrev pub reoffered : Call → Bool → Message → Message → Call
reoffered c by_caller came went = record { caller = c.caller; callee = c.callee; stage = c.stage; offer = Some (record { by_caller = by_caller; came = came; went = went }) }

abbrev pub without_offer : Call → Call
without_offer c = record { caller = c.caller; callee = c.callee; stage = c.stage; offer = None }

-- ---- an answer is passed on

-- the dialog, once this answer was taken in it
abbrev pub tagged : Dialog → List ℕ → Dialog
tagged d tag = record { call_id = d.call_id; ours = d.ours; theirs = tag }

-- an ACK in y with a branch of its own
pub record IsAckIn (t : List Datagram) (y : Dialog) (went acknowledged : Message) : Type 0 where
  pub other_bytes : acknowledged.bytes ≢ went.bytes
  pub ack : IsTrue (is_request_of ack acknowledged)
  pub in_dialog : dialog_sent acknowledged ≡ y
  pub unused : IsUnused t acknowledged.branch

-- The 2xx is the answer to the offer that went to y; it is acknowledged in y, and a 2xx of new bytes is sent in x.
pub record PassesAnswer (t : List Datagram) (x y : Dialog) (p : Offer) (s : Session) (came : Message) (acks : List Message) (went : Message) : Type 0 where
  pub answer_came : IsTrue (is_answer came)
  pub replies_came : Replies came p.went
  pub answer_went : IsTrue (is_answer went)
  pub replies_went : Replies went p.came
  pub to_tag : went.to_tag ≡ x.ours
  pub new_bytes : AreNewBytes t went.bytes
  pub acknowledged : AllOf (IsAckIn t y went) acks
  pub offer_taken : p.came.description ≡ Some s.offer_taken
  pub answer_sent : went.description ≡ Some s.answer_sent
  pub offer_sent : p.went.description ≡ Some s.offer_sent
  pub answer_taken : came.description ≡ Some s.answer_taken

-- a 2xx to an INVITE gets one ACK, and one to another request none (RFC 3261 section 13.2.2.4, RFC 3311 section 5)
abbrev pub AcksOf : List ℕ → List Message → Type 0
AcksOf method acks = (IsTrue (is_method invite method) × (acknowledged : Message) × (acks ≡ acknowledged ∷ [])) ⊎ (IsTrue (not (is_method invite method)) × (acks ≡ []))

-- the call after its first answer, and after a later one
abbrev pub settled_first : Call → List ℕ → Session → Call
settled_first c tag s = record { caller = c.caller; callee = tagged c.callee tag; stage = Answered (record { by_caller = true; session = s }); offer = None }

abbrev pub settled_later : Call → Bool → Session → Call
settled_later c by_caller s = record { caller = c.caller; callee = c.callee; stage = Answered (record { by_caller = by_caller; session = s }); offer = None }

-- and after one end has left it, the caller or the callee
abbrev pub ending : Call → Bool → Call
ending c by_caller = record { caller = c.caller; callee = c.callee; stage = Ending by_caller; offer = None }

-- the leg ends by this event, or had when the call began to end
abbrev pub Leaves : List Datagram → Option Message → List Message → Call → Bool → Type 0
Leaves t taken sent c by_caller = EndsNow t taken sent (leg c by_caller) ⊎ (c.stage ≡ Ending by_caller)

-- ---- one event

-- What an event may do to the calls, having taken the one and sent the others after the trace.
pub data Move (methods : List (List ℕ)) (t : List Datagram) (old : List Call) (taken : Option Message) (sent : List Message) (new : List Call) : Type 0 where
  -- No call moves: what is refused at once, what is swallowed, what is sent again, a 2xx that comes again and is
  -- acknowledged again; and a final response that is of no listed call. Of a first INVITE, a 2xx gets ACK and BYE with
  -- its own tag; of a later one whose call is gone, an ACK in the dialog, which has ended.
  quiet : IsPartingTaken methods t taken old → AllOf (IsParting methods t taken sent old) sent → new ≡ old → Move methods t old taken sent new
  -- the callee is asked
  ask : (caller callee : Dialog) (came : Message) (before : List Message) (went : Message) → PassesOffer methods t caller callee came before went → IsNewCall t old came (new_call caller callee came went)
      → taken ≡ Some came → sent ≡ before ++ went ∷ [] → new ≡ old ++ new_call caller callee came went ∷ [] → Move methods t old taken sent new
  -- either end of an answered call offers again
  reoffer : (k : ℕ) (c : Call) (z : Settled) (b : Bool) (came : Message) (before : List Message) (went : Message) → slice_get old k ≡ Some c → c.stage ≡ Answered z → c.offer ≡ None
      → PassesOffer methods t (leg c b) (leg c (not b)) came before went → came.to_tag ≡ (leg c b).ours
      → taken ≡ Some came → sent ≡ before ++ went ∷ [] → new ≡ slice_set old k (reoffered c b came went) → Move methods t old taken sent new
  -- the first answer is passed on; from now on the callee's leg has the tag of this 2xx, and the ACK has it
  settle_first : (k : ℕ) (c : Call) (p : Offer) (s : Session) (came acknowledged went : Message) → slice_get old k ≡ Some c → c.stage ≡ Asked → c.offer ≡ Some p
      → PassesAnswer t c.caller (tagged c.callee came.to_tag) p s came (acknowledged ∷ []) went
      → taken ≡ Some came → sent ≡ acknowledged ∷ went ∷ [] → new ≡ slice_set old k (settled_first c came.to_tag s) → Move methods t old taken sent new
  -- a later answer is passed on; the ACK has the tags of the leg, whichever the 2xx has
  settle_later : (k : ℕ) (c : Call) (z : Settled) (p : Offer) (s : Session) (came : Message) (acks : List Message) (went : Message) → slice_get old k ≡ Some c → c.stage ≡ Answered z → c.offer ≡ Some p
      → PassesAnswer t (leg c p.by_caller) (leg c (not p.by_caller)) p s came acks went → AcksOf p.went.method acks
      → taken ≡ Some came → sent ≡ acks ++ went ∷ [] → new ≡ slice_set old k (settled_later c p.by_caller s) → Move methods t old taken sent new
  -- a later offer was refused, and the call stays as it was
  release : (k : ℕ) (c : Call) (z : Settled) (p : Offer) (came : Message) → slice_get old k ≡ Some c → c.stage ≡ Answered z → c.offer ≡ Some p
      → IsTrue (is_final came.kind) → IsTrue (not (is_success came.kind)) → Replies came p.went
      → taken ≡ Some came → AllOf (IsIdle methods t taken) sent → new ≡ slice_set old k (without_offer c) → Move methods t old taken sent new
  -- one end leaves an answered call, and the other is notified later
  part : (k : ℕ) (c : Call) (z : Settled) (by_caller : Bool) → slice_get old k ≡ Some c → c.stage ≡ Answered z → EndsNow t taken sent (leg c by_caller)
      → IsIdleTaken methods t taken → AllOf (IsParting methods t taken sent (slice_set old k (ending c by_caller))) sent → new ≡ slice_set old k (ending c by_caller) → Move methods t old taken sent new
  -- A call goes: it was not answered, and its first offer is declined, cancelled or given up; or its two legs have
  -- ended, hung up, also while an offer is open, or dropped.
  go : (k : ℕ) (c : Call) → slice_get old k ≡ Some c → (c.stage ≡ Asked) ⊎ (Leaves t taken sent c true × Leaves t taken sent c false)
      → IsPartingTaken methods t taken (remove old k) → AllOf (IsParting methods t taken sent (remove old k)) sent → new ≡ remove old k → Move methods t old taken sent new
