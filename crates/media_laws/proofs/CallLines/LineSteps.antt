-- After a line of a call's table both lists of calls go on together, and the trace's calls show the server's.
use Rattle.std.proofs.Common.{◌≡◌, ◌∙◌, ℕ, zero, suc, true, ◌||◌, is_some, List, [], ◌∷◌, ◌++◌, Option, Some, None, ap, sym, subst, refl}
use Rattle.std.specs.Prelude.{remove, slice_get, slice_set}
use Rattle.std.specs.List.{All}
use Rattle.dialogs.specs.declared.identifiers.DialogId.{DialogId}
use Rattle.transactions.specs.declared.transaction.Transaction.{Transaction}
use Rattle.call_core.specs.Calls.{awaits_answer, has_session, holds_in}
use Rattle.call_core.specs.declared.stage.Standing.{Standing}
use Rattle.call_media.specs.declared.end.End.{End}
use Rattle.call_media.specs.Ends.{other}
use Rattle.calls.specs.Finding.{has_tag, is_text}
use Rattle.calls.specs.declared.standing_call.OfferRequest.{OfferRequest}
use Rattle.calls.specs.declared.standing_call.StandingCall.{StandingCall}
use Rattle.plans.specs.Office.{Office}
use Rattle.call_rules.specs.Responses.{is_open}
use Rattle.call_trace.specs.declared.call.Call.{Call}
use Rattle.call_trace.specs.declared.call.Offer.{Offer}
use Rattle.call_trace.specs.declared.call.Stage.TheVariants as traces
use Rattle.call_trace.specs.declared.datagram.Datagram.{Datagram}
use Rattle.call_trace.specs.declared.datagram.Message.{Message}
use Rattle.call_trace.specs.Events.{passed}
use Rattle.call_trace.specs.Messages.{offering}
use Rattle.call_trace.specs.Moves.{Move, ending, without_offer}
use Rattle.call_trace.specs.Stands.{AllApart, leg}
use Rattle.message_laws.specs.Askers.{KeepsAsked}
use Rattle.message_laws.specs.Carried.{CarriesIf}
use Rattle.message_laws.specs.Numbers.{KnowsNumbers}
use Rattle.message_laws.specs.OpenRequests.{HasAsked, IsOpenRequest}
use Rattle.message_laws.specs.Waiting.{from_tag}
use Rattle.message_laws.proofs.Askers.AskedCalls.{at_place}
use Rattle.message_laws.specs.Serving.{IsStaged}
use Rattle.media_laws.proofs.Scenes.GoingOn.{same_legs}
use Rattle.media_laws.specs.Afterwards.{HasSpot, IsLeft, IsLeftOr}
use Rattle.media_laws.specs.Lines.{LineMove, goes, parts, released, waits_on}
use Rattle.media_laws.specs.Listing.{Listed, ending_by, hidden, is_listed, is_listed_stage, listing, talking}
use Rattle.media_laws.specs.Shows.{Came, ShowsCall, ShowsLegs, ShowsListing, ShowsSettled, ShowsStanding, is_caller}
use Rattle.media_laws.proofs.OtherCalls.Afterwards.{left_listed, one_listed}
use Rattle.media_laws.proofs.Scenes.Showing.{OfferOn, legs_on}
use Rattle.media_laws.proofs.OtherCalls.Unanswered.{leg_tag, stays_unanswered}
use Rattle.media_laws.proofs.OtherCalls.Untouched.{came_stays, older}
use Rattle.media_laws.specs.Steps.{GoOn, GoesOnAt, calls_after}
use Rattle.media_laws.proofs.CallLines.OwnCall.{is_shown, listing_has, listing_on, listing_waits, none_on, offer_of, session_of, settled_in, shown_in, stage_has, stage_listed, stage_waits}

-- ---- lists

pub got_set : {X : Type 0} (xs : List X) (k : ℕ) (x y : X) → slice_get xs k ≡ Some x → slice_get (slice_set xs k y) k ≡ Some y
got_set [] k x y e = absurd cc
got_set (z ∷ xs) zero x y e = refl
got_set (z ∷ xs) (suc k) x y e = got_set xs k x y e

set_same : {X : Type 0} (xs : List X) (k : ℕ) (x : X) → slice_get xs k ≡ Some x → slice_set xs k x ≡ xs
set_same [] k x e = absurd cc
set_same (z ∷ xs) zero x e = let same : z ≡ x = cc in ap (λ v. v ∷ xs) (sym same)
set_same (z ∷ xs) (suc k) x e = ap (λ l. z ∷ l) (set_same xs k x e)

-- ---- the step

module _ (slots : List (Option Transaction)) (begun : List Transaction) (t : List Datagram) (cs : List StandingCall) (old : List Call) (place : ℕ) (c : StandingCall) (n : Standing) (stands : c.call.standing ≡ Some n) (at_c : slice_get cs place ≡ Some c) (spot : HasSpot slots begun t cs old place c) (asked : HasAsked begun c) (staged : IsStaged c.call) (new : StandingCall) (next : Option Standing) (on : GoesOnAt c new next) (s : Office) (more : List Transaction) (k : ℕ) (taken : Option Message) (sent : List Message) (apart : (calls : List Call) → Move offering t old taken sent calls → AllApart calls) (numbers : KnowsNumbers s (begun ++ more)) (keeps : All (KeepsAsked slots s.table.slots) s.calls.calls) (after : s.calls.calls ≡ calls_after cs place new next) (staged_new : (m : Standing) → next ≡ Some m → IsStaged new.call) where
  abbrev d : Call
  d = spot.call

  abbrev Shows : StandingCall → Call → Type 0
  Shows = ShowsCall s.table.slots (begun ++ more) (t ++ passed k taken sent)

  -- what the calls result in
  abbrev Goes : Type 0
  Goes = GoOn Shows s.calls.calls t old taken sent

  shows_before : ShowsListing slots begun t c n.offerer (listing n.stage) d
  shows_before = subst (λ o. ShowsStanding slots begun t c o d) stands spot.shows.standing

  legs : ShowsLegs new d
  legs = legs_on c new d (same_legs c new on.dialogs) spot.shows.legs

  module _ (m : Standing) (is : next ≡ Some m) where
    at_new : new.call.standing ≡ Some m
    at_new = on.standing ∙ is

    calls_are : s.calls.calls ≡ slice_set cs place new
    calls_are = after ∙ ap (calls_after cs place new) is

    new_there : slice_get s.calls.calls place ≡ Some new
    new_there = subst (λ l. slice_get l place ≡ Some new) (sym calls_are) (got_set cs place c new at_c)

    listed_as : is_shown (listing m.stage) ≡ true → is_listed new ≡ true
    listed_as shown = ap (holds_in is_listed_stage) at_new ∙ (stage_listed m.stage ∙ shown)

    -- the open offer, where the call goes on to wait
    module _ (calls : List Call) (move : Move offering t old taken sent calls) (j : ℕ) (at_d : slice_get calls j ≡ Some d) (offerer : m.offerer ≡ n.offerer) (waited : awaits_answer n.stage ≡ true) (waits : awaits_answer m.stage ≡ true) where
      alike : (u : Transaction) → is_open u.parts new ≡ is_open u.parts c
      alike u = on.opens n m stands is offerer waited waits u.parts

      tag_alike : (tag : List ℕ) → has_tag tag new ≡ has_tag tag c
      tag_alike tag =
          ap (λ (x : List ℕ). is_text x tag || is_text new.call.caller.id.ours tag) on.dialogs.tag ∙ ap (λ (i : DialogId). is_text c.callee_tag tag || is_text i.ours tag) on.dialogs.caller

      opens_new : (u : Transaction) → IsOpenRequest c u → IsOpenRequest new u
      opens_new u h = record {
        offers = h.offers;
        tag = tag_alike (from_tag u) ∙ h.tag;
        opens = alike u ∙ h.opens;
        carries = subst (CarriesIf u) (sym (offer_of c new m on.media (staged_new m is) at_new waits)) h.carries;
      }

      offer_on : (p : Offer) → d.offer ≡ Some p → OfferOn slots s.table.slots begun (begun ++ more) t (t ++ passed k taken sent) c new d p
      offer_on p open_is =
          let request = asked n stands waited in
          record {
            stands = λ came. came_stays slots s.table.slots new.asked.id p
                (at_place (KeepsAsked slots s.table.slots) s.calls.calls place new keeps new_there (ap (holds_in awaits_answer) at_new ∙ waits))
                (subst (λ (x : OfferRequest). Came slots x.id p) (sym on.asked) came);
            older = λ u among offers tag opens. (
              older s begun more numbers place new new_there request.0 request.1 (opens_new request.0 request.2) u among offers tag opens,
              sym (tag_alike (from_tag u)) ∙ tag,
              sym (alike u) ∙ opens,
            );
            none = stays_unanswered k t old taken sent calls move (apart calls move) j d p at_d open_is (leg d p.by_caller).ours p.came.number (leg_tag d p.by_caller (leg d p.by_caller).ours refl);
          }

    -- no call moved
    waits_shown : m.offerer ≡ n.offerer → listing m.stage ≡ listing n.stage → Move offering t old taken sent old → Shows new d
    waits_shown offerer same move = record {
      legs = legs;
      standing = subst (λ o. ShowsStanding s.table.slots (begun ++ more) (t ++ passed k taken sent) new o d) (sym at_new)
          (subst (λ x. ShowsListing s.table.slots (begun ++ more) (t ++ passed k taken sent) new x (listing m.stage) d) (sym offerer)
          (subst (λ l. ShowsListing s.table.slots (begun ++ more) (t ++ passed k taken sent) new n.offerer l d) (sym same)
          (listing_on slots s.table.slots begun (begun ++ more) t (t ++ passed k taken sent) c new d n.offerer (listing n.stage)
          (λ has. session_of c new m on.media (staged_new m is) at_new (stage_has m.stage ∙ (ap listing_has same ∙ has)))
          (λ waits. offer_of c new m on.media (staged_new m is) at_new (stage_waits m.stage ∙ (ap listing_waits same ∙ waits)))
          (none_on c new on.dialogs)
          (λ waits. offer_on old move spot.place_there spot.there offerer (stage_waits n.stage ∙ waits) (stage_waits m.stage ∙ (ap listing_waits same ∙ waits))) shows_before)));
    }

    go_on_waiting : m.offerer ≡ n.offerer → listing m.stage ≡ listing n.stage → Move offering t old taken sent old → Goes
    go_on_waiting offerer same move =
        let listed = spot.goes_on new d (listed_as (ap is_shown same ∙ shown_in slots begun t c n.offerer (listing n.stage) d shows_before)) in (
          old,
          move,
          one_listed slots s begun more k t old taken sent old move (apart old move) numbers keeps new d (waits_shown offerer same move)
              (subst (λ l. Listed (IsLeftOr slots begun t new d) l old) (sym calls_are) (subst (λ l. Listed (IsLeftOr slots begun t new d) (slice_set cs place new) l) (set_same old spot.place_there d spot.there) listed)),
        )

    -- its first offer was given up
    hide : listing m.stage ≡ hidden → Move offering t old taken sent (remove old spot.place_there) → Goes
    hide is_hidden move =
        let listed = spot.hides new (ap (holds_in is_listed_stage) at_new ∙ (stage_listed m.stage ∙ ap is_shown is_hidden)) in (
          remove old spot.place_there,
          move,
          left_listed slots s begun more k t old taken sent (remove old spot.place_there) move (apart (remove old spot.place_there) move) numbers keeps
              (subst (λ l. Listed (IsLeft slots begun t) l (remove old spot.place_there)) (sym calls_are) listed),
        )

    -- another call of the trace is in its place
    in_place : (y : Call) → is_shown (listing m.stage) ≡ true → Move offering t old taken sent (slice_set old spot.place_there y) → Shows new y → Goes
    in_place y shown move own = (
      slice_set old spot.place_there y,
      move,
      one_listed slots s begun more k t old taken sent (slice_set old spot.place_there y) move (apart (slice_set old spot.place_there y) move) numbers keeps new y own
          (subst (λ l. Listed (IsLeftOr slots begun t new y) l (slice_set old spot.place_there y)) (sym calls_are) (spot.goes_on new y (listed_as shown))),
    )

    -- its open offer was refused
    release : listing m.stage ≡ talking → Move offering t old taken sent (slice_set old spot.place_there (without_offer d)) → Goes
    release is_talking move =
        let kept = session_of c new m on.media (staged_new m is) at_new (stage_has m.stage ∙ ap listing_has is_talking) in
        let some : is_some c.call.media.session ≡ true = ap is_some (sym kept) ∙ ((staged_new m is).session ∙ (ap (holds_in has_session) at_new ∙ (stage_has m.stage ∙ ap listing_has is_talking))) in
        let had : listing_has (listing n.stage) ≡ true = sym (stage_has n.stage) ∙ (sym (ap (holds_in has_session) stands) ∙ (sym staged.session ∙ some)) in
        let settled : ShowsSettled new.call.media.session d.stage = subst (λ o. ShowsSettled o d.stage) (sym kept) (settled_in slots begun t c n.offerer (listing n.stage) d had shows_before) in
        in_place (without_offer d) (ap is_shown is_talking) move (record {
          legs = record { caller = legs.caller; callee = legs.callee };
          standing = subst (λ o. ShowsStanding s.table.slots (begun ++ more) (t ++ passed k taken sent) new o (without_offer d)) (sym at_new)
              (subst (λ l. ShowsListing s.table.slots (begun ++ more) (t ++ passed k taken sent) new m.offerer l (without_offer d)) (sym is_talking) (settled, refl));
        })

    -- one end has left it
    part : m.offerer ≡ n.offerer → listing m.stage ≡ ending_by → Move offering t old taken sent (slice_set old spot.place_there (ending d (is_caller (other n.offerer)))) → Goes
    part offerer is_ending move =
        in_place (ending d (is_caller (other n.offerer))) (ap is_shown is_ending) move (record {
          legs = record { caller = legs.caller; callee = legs.callee };
          standing = subst (λ o. ShowsStanding s.table.slots (begun ++ more) (t ++ passed k taken sent) new o (ending d (is_caller (other n.offerer)))) (sym at_new)
              (subst (λ l. ShowsListing s.table.slots (begun ++ more) (t ++ passed k taken sent) new m.offerer l (ending d (is_caller (other n.offerer)))) (sym is_ending)
              (ap (λ (x : End). traces.Ending (is_caller (other x))) (sym offerer), refl));
        })

  -- both no longer list it
  leave : next ≡ None → Move offering t old taken sent (remove old spot.place_there) → Goes
  leave none move = (
    remove old spot.place_there,
    move,
    left_listed slots s begun more k t old taken sent (remove old spot.place_there) move (apart (remove old spot.place_there) move) numbers keeps
        (subst (λ l. Listed (IsLeft slots begun t) l (remove old spot.place_there)) (sym (after ∙ ap (calls_after cs place new) none)) spot.goes),
  )

  go_away : (o : Option Standing) → next ≡ o → ((m : Standing) → next ≡ Some m → listing m.stage ≡ hidden) → Move offering t old taken sent (remove old spot.place_there) → Goes
  go_away None is hides move = leave is move
  go_away (Some m) is hides move = hide m is (hides m is) move

  pub line_goes_on : LineMove t old spot.place_there d taken sent n next → Goes
  line_goes_on (waits_on m is offerer same move) = go_on_waiting m is offerer same move
  line_goes_on (goes hides move) = go_away next refl hides move
  line_goes_on (released m is is_talking move) = release m is is_talking move
  line_goes_on (parts m is offerer is_ending move) = part m is offerer is_ending move
