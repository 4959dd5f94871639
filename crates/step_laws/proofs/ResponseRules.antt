-- The rule of a response for which a call waits.
use Rattle.std.proofs.Common.{◌≡◌, ◌∙◌, ◌≤◌, ◌<◌, ℕ, Bool, true, false, List, Option, Some, None, get_or, is_some, position, refl, sym, ap, subst, arith}
use Rattle.std.specs.Prelude.{slice_get}
use Rattle.std.specs.List.{All}
use Rattle.std.proofs.lemmas.Bool.{false≢true, le-ltb, lt-ltb}
use Rattle.std.proofs.lemmas.List.Quantifiers.{position-Some}
use Rattle.std.proofs.lemmas.Map.Keys.{any_passes_from_place}
use Rattle.std.proofs.lemmas.Option.{slice_get-get_or}
use Rattle.text.proofs.Lists.{is_some-position}
use Rattle.sip_message.specs.declared.message.Response.{Response}
use Rattle.call_rules.specs.Responses.{asked_place, at_place, is_open, open_rule, response_rule}
use Rattle.sip_message.specs.Words.{class_of}
use Rattle.calls.specs.Finding.{has_tag, place_by_tag}
use Rattle.calls.specs.declared.standing_call.StandingCall.{StandingCall}
use Rattle.call_trace.specs.declared.datagram.Datagram.{Datagram}
use Rattle.event_rows.specs.State.{Contents}
use Rattle.media_laws.specs.Standing.{AgentStands}
use Rattle.message_laws.specs.Waiting.{FitsCall, IsAwaited, from_tag}
use Rattle.message_laws.proofs.AwaitedOffers.Awaiting.{all_at}
use Rattle.transactions.specs.Slots.{at}
use Rattle.transactions.specs.declared.transaction.Transaction.{Transaction}
use Rattle.step_laws.specs.Rulings.{GoesByStatus, IsAsked, IsByStatus}

by_class : (place status : ℕ) → IsByStatus place status (open_rule place status (class_of status))
by_class place status = record {
  early = λ low. rw (lt-ltb status 200 low) refl;
  success = λ from below. rw (le-ltb status 200 from, lt-ltb status 300 below) refl;
  failure = λ from. rw (le-ltb status 200 (omega (arith, from)), le-ltb status 300 from) refl;
}

module _ (s : Contents) (asked : Transaction) (all : All (FitsCall asked) s.calls.calls) (place : ℕ) (h : IsAsked s asked place) (r : Response) where
  -- the call that is found is one of the tag, so that it waits for this
  module _ (p : ℕ) (found : place_by_tag (from_tag asked) s.calls.calls ≡ Some p) where
    abbrev here : StandingCall
    here = get_or s.calls.calls p h.call

    tagged : has_tag (from_tag asked) here ≡ true
    tagged = (position-Some (has_tag (from_tag asked)) s.calls.calls p h.call found).1

    there : slice_get s.calls.calls p ≡ Some here
    there = slice_get-get_or s.calls.calls p h.call (position-Some (has_tag (from_tag asked)) s.calls.calls p h.call found).0

    open_there : is_open asked.parts here ≡ true
    open_there = (all_at (FitsCall asked) s.calls.calls p here all there tagged).opens h.lacks_final

    rule_is : response_rule s.calls.calls asked.parts r ≡ open_rule p r.status (class_of r.status)
    unfolding response_rule at_place asked_place
    rule_is = rw (h.offers.offers, found, there, open_there) refl

    goes : GoesByStatus s asked r
    goes = record {
      place = p;
      is_asked = record { offers = h.offers; lacks_final = h.lacks_final; call = here; there = there; tag = tagged };
      rule = subst (IsByStatus p r.status) (sym rule_is) (by_class p r.status);
    }

  goes_by : (o : Option ℕ) → place_by_tag (from_tag asked) s.calls.calls ≡ o → is_some o ≡ true → GoesByStatus s asked r
  goes_by None e some = absurd (false≢true some)
  goes_by (Some p) e some = goes p e

  pub goes_on : GoesByStatus s asked r
  goes_on =
      goes_by (place_by_tag (from_tag asked) s.calls.calls) refl
      (is_some-position (has_tag (from_tag asked)) s.calls.calls ∙ any_passes_from_place (has_tag (from_tag asked)) s.calls.calls place h.call h.there h.tag)

pub goes_by_class : (s : Contents) (t : List Datagram) (k : ℕ) → AgentStands s t k → (asked : Transaction) (id : ℕ) → at s.table.slots id ≡ Some asked
    → (place : ℕ) → IsAsked s asked place → (r : Response) → GoesByStatus s asked r
goes_by_class s t k stands asked id there place h r = goes_on s asked (stands.2.1.known.waiting.awaited id asked there h.offers) place h r
