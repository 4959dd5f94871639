-- What the trace's call shows of a call that did a step.
use Rattle.std.proofs.Common.{◌≡◌, ◌∙◌, ℕ, Bool, true, false, is_some, List, Option, Some, None, ◌⊎◌, ap, sym, subst, refl, inl, inr}
use Rattle.std.proofs.lemmas.Bool.{false≢true}
use Rattle.dialogs.specs.declared.state.Dialog.{Dialog as LegDialog}
use Rattle.transactions.specs.declared.transaction.Transaction.{Transaction}
use Rattle.call_core.specs.Calls.{awaits_answer, has_session, holds_in}
use Rattle.call_core.specs.declared.stage.Stage.{Stage}
use Rattle.call_core.specs.declared.stage.Stage.TheVariants.{Answered, Asked, Cancelling, Ending, Reanswered, Reasked, Settled, Updating}
use Rattle.call_core.specs.declared.stage.Standing.{Standing}
use Rattle.call_media.specs.declared.end.End.{End}
use Rattle.call_media.specs.declared.session.Session.{Session as CallSession}
use Rattle.calls.specs.declared.standing_call.StandingCall.{StandingCall}
use Rattle.call_trace.specs.declared.call.Call.{Call}
use Rattle.call_trace.specs.declared.call.Offer.{Offer}
use Rattle.call_trace.specs.declared.call.Stage.{Stage as TraceStage}
use Rattle.call_trace.specs.declared.datagram.Datagram.{Datagram}
use Rattle.call_trace.specs.Messages.{invite, update}
use Rattle.message_laws.specs.Serving.{IsStaged}
use Rattle.media_laws.specs.Listing.{Listing, asking, ending_by, first, hidden, is_listed_stage, listing, talking, updating}
use Rattle.media_laws.specs.Shows.{ShowsListing, ShowsOpen, ShowsSettled}
use Rattle.media_laws.proofs.Scenes.Showing.{OfferOn, open_on}
use Rattle.media_laws.specs.Going.{KeepsDialogs, id_of}
use Rattle.media_laws.specs.Steps.{KeepsMedia}

-- ---- which media are kept

kept_if : {X : Type 0} (before after : Option X) → (after ≡ before) ⊎ (after ≡ None) → is_some after ≡ true → after ≡ before
kept_if before after (inl same) some = same
kept_if before after (inr none) some = absurd (false≢true (ap is_some (sym none) ∙ some))

-- the session of a call that has one
pub session_of : (c new : StandingCall) (m : Standing) → KeepsMedia c.call new.call → IsStaged new.call → new.call.standing ≡ Some m → has_session m.stage ≡ true → new.call.media.session ≡ c.call.media.session
session_of c new m keeps staged stands has =
    kept_if c.call.media.session new.call.media.session keeps.session (staged.session ∙ ap (holds_in has_session) stands ∙ has)

pub offer_of : (c new : StandingCall) (m : Standing) → KeepsMedia c.call new.call → IsStaged new.call → new.call.standing ≡ Some m → awaits_answer m.stage ≡ true → new.call.media.offer ≡ c.call.media.offer
offer_of c new m keeps staged stands waits =
    kept_if c.call.media.offer new.call.media.offer keeps.offer (staged.offer ∙ ap (holds_in awaits_answer) stands ∙ waits)

-- ---- what a listing says of the stage

-- it has a session, an open offer
abbrev pub listing_has : Listing → Bool
listing_has first = false
listing_has talking = true
listing_has asking = true
listing_has updating = true
listing_has ending_by = false
listing_has hidden = false

pub stage_has : (stage : Stage) → has_session stage ≡ listing_has (listing stage)
stage_has (Asked rung) = refl
stage_has (Cancelling sent) = refl
stage_has (Answered interval) = refl
stage_has Settled = refl
stage_has (Reasked rung cancelled) = refl
stage_has (Reanswered interval) = refl
stage_has Updating = refl
stage_has (Ending interval) = refl

abbrev pub listing_waits : Listing → Bool
listing_waits first = true
listing_waits talking = false
listing_waits asking = true
listing_waits updating = true
listing_waits ending_by = false
listing_waits hidden = false

pub stage_waits : (stage : Stage) → awaits_answer stage ≡ listing_waits (listing stage)
stage_waits (Asked rung) = refl
stage_waits (Cancelling sent) = refl
stage_waits (Answered interval) = refl
stage_waits Settled = refl
stage_waits (Reasked rung cancelled) = refl
stage_waits (Reanswered interval) = refl
stage_waits Updating = refl
stage_waits (Ending interval) = refl

-- ---- a call that goes on

settled_as : (before after : Option CallSession) (stage : TraceStage) → after ≡ before → ShowsSettled before stage → ShowsSettled after stage
settled_as before after stage same h = subst (λ o. ShowsSettled o stage) (sym same) h

module _ (slots later : List (Option Transaction)) (begun more : List Transaction) (t longer : List Datagram) (c new : StandingCall) (d : Call) (x : End) where
  opens_as : (name : List ℕ) → new.call.media.offer ≡ c.call.media.offer → ((p : Offer) → d.offer ≡ Some p → OfferOn slots later begun more t longer c new d p)
      → ShowsOpen slots begun t name c x c.call.media.offer d → ShowsOpen later more longer name new x new.call.media.offer d
  opens_as name same on h = subst (λ o. ShowsOpen later more longer name new x o d) (sym same) (open_on slots later begun more t longer name c new x c.call.media.offer d on h)

  -- at the same listing
  pub listing_on : (l : Listing) → (listing_has l ≡ true → new.call.media.session ≡ c.call.media.session) → (listing_waits l ≡ true → new.call.media.offer ≡ c.call.media.offer) → (c.call.callee ≡ None → new.call.callee ≡ None)
      → (listing_waits l ≡ true → (p : Offer) → d.offer ≡ Some p → OfferOn slots later begun more t longer c new d p) → ShowsListing slots begun t c x l d → ShowsListing later more longer new x l d
  listing_on first session offer none on h = (h.0, none h.1, h.2, opens_as invite (offer refl) (on refl) h.3)
  listing_on talking session offer none on h = (settled_as c.call.media.session new.call.media.session d.stage (session refl) h.0, h.1)
  listing_on asking session offer none on h = (settled_as c.call.media.session new.call.media.session d.stage (session refl) h.0, opens_as invite (offer refl) (on refl) h.1)
  listing_on updating session offer none on h = (settled_as c.call.media.session new.call.media.session d.stage (session refl) h.0, opens_as update (offer refl) (on refl) h.1)
  listing_on ending_by session offer none on h = h
  listing_on hidden session offer none on h = h

pub none_on : (c new : StandingCall) → KeepsDialogs c new → c.call.callee ≡ None → new.call.callee ≡ None
none_on c new h none = by new.call.callee (h.callee ∙ ap (λ o. id_of o) none)
  where
    by : (o : Option LegDialog) → id_of o ≡ None → o ≡ None
    by None e = refl
    by (Some a) e = absurd cc

-- ---- what is listed

abbrev pub is_shown : Listing → Bool
is_shown first = true
is_shown talking = true
is_shown asking = true
is_shown updating = true
is_shown ending_by = true
is_shown hidden = false

pub stage_listed : (stage : Stage) → is_listed_stage stage ≡ is_shown (listing stage)
stage_listed (Asked rung) = refl
stage_listed (Cancelling sent) = refl
stage_listed (Answered interval) = refl
stage_listed Settled = refl
stage_listed (Reasked rung cancelled) = refl
stage_listed (Reanswered interval) = refl
stage_listed Updating = refl
stage_listed (Ending interval) = refl

pub shown_in : (slots : List (Option Transaction)) (begun : List Transaction) (t : List Datagram) (c : StandingCall) (x : End) (l : Listing) (d : Call) → ShowsListing slots begun t c x l d → is_shown l ≡ true
shown_in slots begun t c x first d h = refl
shown_in slots begun t c x talking d h = refl
shown_in slots begun t c x asking d h = refl
shown_in slots begun t c x updating d h = refl
shown_in slots begun t c x ending_by d h = refl
shown_in slots begun t c x hidden d h = absurd h

pub settled_in : (slots : List (Option Transaction)) (begun : List Transaction) (t : List Datagram) (c : StandingCall) (x : End) (l : Listing) (d : Call) → listing_has l ≡ true → ShowsListing slots begun t c x l d
    → ShowsSettled c.call.media.session d.stage
settled_in slots begun t c x first d has h = absurd (false≢true has)
settled_in slots begun t c x talking d has h = h.0
settled_in slots begun t c x asking d has h = h.0
settled_in slots begun t c x updating d has h = h.0
settled_in slots begun t c x ending_by d has h = absurd (false≢true has)
settled_in slots begun t c x hidden d has h = absurd h
