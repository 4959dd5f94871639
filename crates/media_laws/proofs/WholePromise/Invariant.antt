-- What is kept from event to event: of the agent, of the trace, and of the calls of the trace.
use Rattle.std.proofs.Common.{◌≡◌, ◌∙◌, ℕ, suc, ◌<◌, ◌^◌, List, [], ◌++◌, Option, None, ap, refl, sym, subst, inl, inr}
use Rattle.std.specs.List.{All}
use Rattle.std.proofs.lemmas.List.{append-nil}
use Rattle.event_rows.specs.Rows.{after, row}
use Rattle.event_rows.specs.State.{Contents, IsNew, office}
use Rattle.call_trace.specs.declared.call.Call.{Call}
use Rattle.call_trace.specs.declared.datagram.Datagram.{Datagram}
use Rattle.call_trace.specs.declared.datagram.Message.{Message}
use Rattle.call_trace.specs.Events.{due, passed, unmoved}
use Rattle.call_trace.specs.Lives.{Stands}
use Rattle.call_trace.specs.Messages.{offering}
use Rattle.call_trace.specs.Moves.{Move, quiet}
use Rattle.configuration.specs.declared.config.Config.{Config}
use Rattle.events.specs.declared.event.Event.{Event}
use Rattle.events.specs.declared.sent.Sent.{Sent}
use Rattle.media_laws.specs.Standing.{IsUpheld, Knows, UpholdsCalls}
use Rattle.media_laws.specs.Known.{IsMoved, IsTied}
use Rattle.media_laws.specs.Steps.{IsAfter}
use Rattle.message_laws.specs.Askers.{KnowsAskers}
use Rattle.media_laws.proofs.OtherCalls.AnswersKnown.{answers_after, new_answers}
use Rattle.plans.specs.Office.{Office}
use Rattle.message_laws.specs.Addresses.{IsConfigured}
use Rattle.message_laws.specs.Datagrams.{ComesFromSource}
use Rattle.message_laws.specs.Numbers.{begun_of}
use Rattle.message_laws.specs.OpenRequests.{HasAsked, IsAmong}
use Rattle.message_laws.proofs.StandingCalls.Asking.{all_asked}
use Rattle.media_laws.specs.Late.{IsAnsweredOrEnded, IsLater, dialog_asked}
use Rattle.media_laws.specs.Ties.{AreTied}
use Rattle.media_laws.proofs.LateResponses.LaterKnown.{later_known}
use Rattle.media_laws.proofs.LateResponses.LegsKept.{dialog_moved}
use Rattle.media_laws.specs.Listing.{Listed}
use Rattle.media_laws.specs.Shows.{ShowsCall}
use Rattle.message_laws.specs.Traces.{IsPassed}
use Rattle.transactions.specs.declared.transaction.Transaction.{Transaction}
use Rattle.media_laws.proofs.WholePromise.Knowing.{Laws, agent_known, is_after, known_after, new_known}
use Rattle.media_laws.proofs.WholePromise.LateInvites.{among_split, later_after, new_of_begun, of_begun_after}

pub new_upheld : Laws → (c : Config) (s : Contents) → IsConfigured c → IsNew c s → IsUpheld (office s) [] [] [] [] 0
new_upheld laws c s is new = record {
  known = new_known laws c s is new;
  stands = laws.none_stand;
  listed = subst (λ cs. Listed (ShowsCall s.table.slots [] []) cs []) (sym new.calls) refl;
  late = λ u among later. absurd among;
  answers = new_answers c s new;
  byes = laws.byes_new c s new;
  of_begun = new_of_begun;
}

-- ---- where nothing happens

idle_move : (t : List Datagram) (calls : List Call) → Move offering t calls None [] calls
idle_move t calls = quiet (unmoved (due refl)) tt refl

-- it is an event of the trace all the same
pub idle_upheld : Laws → (s : Office) (begun : List Transaction) (sent : List Sent) (t : List Datagram) (calls : List Call) (k : ℕ) → IsUpheld s begun sent t calls k → IsUpheld s begun sent t calls (suc k)
idle_upheld laws s begun sent t calls k h = record {
  known = h.known;
  stands = subst (Stands offering calls (suc k)) (append-nil t) (laws.moved k t calls calls None [] (idle_move t calls) h.stands);
  listed = h.listed;
  late = h.late;
  answers = h.answers;
  byes = h.byes;
  of_begun = h.of_begun;
}

pub same_upheld : (s later : Office) (begun more : List Transaction) (sent last : List Sent) (t p : List Datagram) (calls : List Call) (k : ℕ) → later ≡ s → more ≡ [] → last ≡ [] → p ≡ [] → IsUpheld s begun sent t calls k
    → IsUpheld later (begun ++ more) (sent ++ last) (t ++ p) calls k
same_upheld s later begun more sent last t p calls k o e f g h =
    subst (λ x. IsUpheld x (begun ++ more) (sent ++ last) (t ++ p) calls k) (sym o)
    (subst (λ x. IsUpheld s x (sent ++ last) (t ++ p) calls k) (sym (ap (λ (xs : List Transaction). begun ++ xs) e ∙ append-nil begun))
    (subst (λ x. IsUpheld s begun x (t ++ p) calls k) (sym (ap (λ (xs : List Sent). sent ++ xs) f ∙ append-nil sent))
    (subst (λ x. IsUpheld s begun sent x calls k) (sym (ap (λ (xs : List Datagram). t ++ xs) g ∙ append-nil t)) h)))

-- ---- an event while tokens are left

-- what it took and sent is a move of the calls of its trace, as the law of events says it
abbrev pub EventsAreMoves : Type 0
EventsAreMoves = (s : Contents) (event : Event) (begun : List Transaction) (sent : List Sent) (t : List Datagram) (old : List Call) (k : ℕ) → IsTied (office s) begun sent t old k
    → IsAfter (office s) (office (after s event)) (begun ++ begun_of (row s event).plan.changes) → KnowsAskers (office (after s event)) → ComesFromSource event.what → (taken : Option Message) (ms : List Message)
    → IsPassed event.what (row s event).plan.taken (row s event).plan.sends taken ms → IsMoved s event begun t old k taken ms

module _ (laws : Laws) (s : Contents) (begun : List Transaction) (sent : List Sent) (t : List Datagram) (calls : List Call) (k : ℕ) (h : IsUpheld (office s) begun sent t calls k) (few : s.tokens < 2 ^ 63) where
  tied : IsTied (office s) begun sent t calls k
  tied = record { known = agent_known laws s begun sent t h.known few; stands = h.stands; listed = h.listed; late = later_known (office s) begun sent t calls h.known.trace h.late; answers = h.answers; byes = h.byes }

  ties : AreTied (office s) begun sent t calls
  ties =
      let agent = tied.known in
      record { trace = agent.trace; listed = h.listed; tokens = agent.tokens; waiting = agent.waiting; again = agent.again; machines = agent.machines; scenes = agent.scenes }

  module _ (e : Event) (from : ComesFromSource e.what) (taken : Option Message) (ms : List Message) (shows : IsPassed e.what (row s e).plan.taken (row s e).plan.sends taken ms) where
    abbrev more : List Transaction
    more = begun_of (row s e).plan.changes

    known_then : Knows (office (after s e)) (begun ++ more) (sent ++ (row s e).plan.sends) (t ++ passed k taken ms)
    known_then = known_after laws s e k begun sent t h.known from taken ms shows

    asked_then : All (HasAsked (begun ++ more)) (office (after s e)).calls.calls
    asked_then = all_asked (after s e) (begun ++ more) known_then.callees known_then.requests

    module _ (new : List Call) (move : Move offering t calls taken ms new) (listed : Listed (ShowsCall (office (after s e)).table.slots (begun ++ more) (t ++ passed k taken ms)) (office (after s e)).calls.calls new) where
      late_then : (u : Transaction) → IsAmong (begun ++ more) u → IsLater u → IsAnsweredOrEnded (t ++ passed k taken ms) new (dialog_asked u.parts)
      late_then u among later = elim (among_split begun more u among) [
        | inl old ↦ dialog_moved k t calls h.stands taken ms (dialog_asked u.parts) new move (h.late u old later)
        | inr begins ↦ later_after (office (after s e)) begun more t calls new k taken ms move h.of_begun asked_then known_then.numbers listed known_then.trace.asked u begins later
      ]

      upheld_then : IsUpheld (office (after s e)) (begun ++ more) (sent ++ (row s e).plan.sends) (t ++ passed k taken ms) new (suc k)
      upheld_then = record {
        known = known_then;
        stands = laws.moved k t calls new taken ms move h.stands;
        listed = listed;
        late = late_then;
        answers = answers_after s e begun sent t calls k taken ms new ties h.known.offers h.known.counted h.answers move;
        byes = laws.byes s e begun sent t calls k taken ms ties h.known.offers from shows.went h.byes;
        of_begun = of_begun_after (office (after s e)) begun more t calls new k taken ms move h.of_begun asked_then known_then.numbers listed;
      }

    pub event_upheld : EventsAreMoves → UpholdsCalls (office (after s e)) (begun ++ more) (sent ++ (row s e).plan.sends) (t ++ passed k taken ms) (suc k)
    event_upheld law =
        let moved = law s e begun sent t calls k tied (is_after laws s e k begun sent t h.known from) known_then.askers from taken ms shows in
        (moved.0, upheld_then moved.0 moved.1 moved.2)
