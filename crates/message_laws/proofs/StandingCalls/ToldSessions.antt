-- What follows for the sessions of calls that are served: what each end was sent, where the table leads, and who
-- holds which ports.
use Rattle.std.proofs.Common.{◌≡◌, ◌∙◌, inl, inr, ℕ, Bool, true, false, List, [], ◌∷◌, Option, Some, None, is_some, option_map, refl, sym, ap, subst}
use Rattle.std.specs.Prelude.{IfSome}
use Rattle.std.specs.List.{list_all}
use Rattle.std.specs.FinMap.{get}
use Rattle.std.proofs.lemmas.Bool.{and_parts, false≢true}
use Rattle.port_pool.specs.declared.hop.Hop.{Hop as PoolHop}
use Rattle.port_pool.specs.Holdings.{even_of, holder_at, is_among}
use Rattle.port_pool.specs.Pool.{is_port_of}
use Rattle.offer_answer.specs.declared.range.OwnRange.{OwnRange}
use Rattle.offer_answer.specs.Rows.{ports_named}
use Rattle.call_media.specs.declared.session.Session.{Session}
use Rattle.call_media.specs.Seats.{stands_in}
use Rattle.call_media.specs.Serving.{Stands, StandsIfAny, is_held}
use Rattle.call_media.specs.Sessions.{pairs_listed, pairs_of_session}
use Rattle.call_core.specs.Calls.{IsServed, awaits_answer, holds_in}
use Rattle.calls.specs.declared.standing_call.StandingCall.{StandingCall}
use Rattle.plans.specs.Office.{Office}
use Rattle.call_trace.specs.Listed.{AllOf, AnyOf}
use Rattle.call_trace.specs.Promise.{IsReaddressed}
use Rattle.call_trace.specs.Serving.{Hop, IsPairOf, IsRowOf, LeadsSession}
use Rattle.message_laws.specs.Serving.{AreHeldByCalls, AreLed, AreStaged, AreTold, HasNoOtherRow, HoldNoOthers, HoldTheirPairs, IsServedAsAsked, IsSessionOf, IsStaged, KnowsServing, holder_in, trace_session, trace_table}
use Rattle.call_media.proofs.HeldLaws.{among, holder_of_own, own_holder}
use Rattle.message_laws.proofs.StandingCalls.CallLists.{all_weaker, all_with_served}
use Rattle.message_laws.proofs.StandingCalls.CallSteps.{none_there}
use Rattle.message_laws.proofs.StandingCalls.NamedRows.{named_row, names_port}

-- ---- some member, and each

pub any_with : {X : Type 0} (P Q R : X → Type 0) → ((x : X) → P x → Q x → R x) → (xs : List X) → AllOf P xs → AnyOf Q xs → AnyOf R xs
any_with P Q R gives [] all any = absurd any
any_with P Q R gives (x ∷ xs) all (inl here) = inl (gives x all.0 here)
any_with P Q R gives (x ∷ xs) all (inr later) = inr (any_with P Q R gives xs all.1 later)

any_passes : (p : ℕ → Bool) (n : ℕ) (ns : List ℕ) → list_all p ns ≡ true → AnyOf (λ q. q ≡ n) ns → p n ≡ true
any_passes p n [] all any = absurd any
any_passes p n (m ∷ ms) all (inl here) = ap p (sym here) ∙ (and_parts (p m) (list_all p ms) all).0
any_passes p n (m ∷ ms) all (inr later) = any_passes p n ms (and_parts (p m) (list_all p ms) all).1 later

some_there : (o : Option ℕ) → is_some o ≡ true → (n : ℕ) × (o ≡ Some n)
some_there None e = absurd (false≢true e)
some_there (Some n) e = (n, refl)

some_row : (row : Option PoolHop) (hop : Hop) → option_map (λ h. record { to = h.to; from = h.from }) row ≡ Some hop → is_some row ≡ true
some_row None hop there = absurd cc
some_row (Some h) hop there = refl

-- ---- the calls with what is known of them

module _ (s : Office) (k : KnowsServing s) where
  abbrev Known : StandingCall → Type 0
  Known c = IsServed c.call s.calls.pool × IsServedAsAsked s.range s.calls.pool c.call.media

  pub all_known : AllOf Known s.calls.calls
  all_known = all_with_served (λ c. IsServedAsAsked s.range s.calls.pool c.call.media) s.calls.pool s.calls.calls k.calls.kept.served k.calls.calls

  session_stands : (c : StandingCall) → Known c → (x : Session) → IsSessionOf x c → Stands s.range.ip c.call.media.number s.calls.pool x
  session_stands c known x is =
      subst (λ (range : OwnRange). Stands range.ip c.call.media.number s.calls.pool x) known.1.range
      (subst (StandsIfAny c.call.media.range.ip c.call.media.number s.calls.pool) is known.0.media.session)

  session_led : (c : StandingCall) → Known c → (x : Session) → IsSessionOf x c → LeadsSession (trace_table s.calls.pool) (trace_session x)
  session_led c known x is = subst (λ session. IfSome session (λ x. LeadsSession (trace_table s.calls.pool) (trace_session x))) is known.1.leads

  pub are_staged : AreStaged s
  are_staged = all_weaker Known (λ c. IsStaged c.call) (λ c known. record { session = known.0.session; offer = known.0.offer }) s.calls.calls all_known

  pub are_told : AreTold s
  are_told =
      all_weaker Known (λ c. (x : Session) → IsSessionOf x c → IsReaddressed s.range.ip (trace_session x))
      (λ c known x is. let h = session_stands c known x is in record { offers = h.offers; answers = h.answers; answer_place = h.answer_sent; offer_place = h.offer_sent; media = h.media }) s.calls.calls all_known

  pub are_led : AreLed s
  are_led = all_weaker Known (λ c. (x : Session) → IsSessionOf x c → LeadsSession (trace_table s.calls.pool) (trace_session x)) session_led s.calls.calls all_known

  held_pair : (c : StandingCall) → Known c → (x : Session) → IsSessionOf x c → (port : ℕ) → IsPairOf port (trace_session x) → holder_at s.calls.pool.holdings port ≡ Some c.call.number
  held_pair c known x is port pair =
      let h = session_stands c known x is in
      let held : is_held c.call.media.number s.calls.pool port ≡ true = any_passes (is_held c.call.media.number s.calls.pool) port (pairs_of_session x) h.held pair in
      holder_of_own c.call.media.number (holder_at s.calls.pool.holdings port) (and_parts _ _ held).1 ∙ ap Some known.0.number

  pub hold_their_pairs : HoldTheirPairs s
  hold_their_pairs =
      all_weaker Known (λ c. (x : Session) → IsSessionOf x c → (port : ℕ) → IsPairOf port (trace_session x) → holder_at s.calls.pool.holdings port ≡ Some c.call.number) held_pair s.calls.calls all_known

  pub are_held_by_calls : AreHeldByCalls s
  are_held_by_calls = k.calls.holders

  pub hold_no_others : HoldNoOthers s
  hold_no_others =
      all_weaker Known (λ c. holds_in awaits_answer c.call.standing ≡ false → (port : ℕ) → holder_in s.calls.pool port ≡ Some c.call.number → is_among (pairs_listed c.call.media.session) (even_of port) ≡ true)
      (λ c known settled port held. let own : is_port_of s.calls.pool c.call.media.number port ≡ true = rw (held, known.0.number) (own_holder c.call.number) in
      known.1.exact (none_there c.call.media.offer (known.0.offer ∙ settled)) port own)
      s.calls.calls all_known

  -- ---- each row is one of a session

  row_in : (port : ℕ) (hop : Hop) (c : StandingCall) → Known c → trace_table s.calls.pool port ≡ Some hop → (session : Option Session) → c.call.media.session ≡ session
      → is_among (pairs_listed session) (even_of port) ≡ true → (x : Session) × IsSessionOf x c × IsRowOf (record { port = port; to = hop.to; from = hop.from }) (trace_session x)
  row_in port hop c known there None is pair = absurd (false≢true pair)
  row_in port hop c known there (Some x) is pair =
      let h = session_stands c known x is in
      let stands : stands_in (pairs_of_session x) (even_of port) ≡ true = ap (λ ns. stands_in ns (even_of port)) (sym h.listed) ∙ sym (among x.pairs (even_of port)) ∙ pair in (
        x,
        is,
        named_row (trace_table s.calls.pool) port hop (ports_named x.offer_taken x.answer_sent x.offer_sent x.answer_taken) (session_led c known x is)
            (names_port port x.offer_taken x.answer_taken x.offer_taken.media x.answer_sent.media x.offer_sent.media x.answer_taken.media stands) there,
      )

  row_of_call : (port : ℕ) (hop : Hop) → trace_table s.calls.pool port ≡ Some hop → (n : ℕ) → holder_at s.calls.pool.holdings port ≡ Some n → (c : StandingCall) → Known c → c.call.number ≡ n
      → (x : Session) × IsSessionOf x c × IsRowOf (record { port = port; to = hop.to; from = hop.from }) (trace_session x)
  row_of_call port hop there n held c known number = row_in port hop c known there c.call.media.session refl (step (is_among (pairs_listed c.call.media.session) (even_of port)) refl) where
    mine : is_port_of s.calls.pool c.call.media.number port ≡ true
    mine = rw (held, known.0.number, number) (own_holder n)

    step : (b : Bool) → is_among (pairs_listed c.call.media.session) (even_of port) ≡ b → is_among (pairs_listed c.call.media.session) (even_of port) ≡ true
    step true e = e
    step false e = let bare = known.0.media.bare port mine e in absurd (false≢true (ap is_some (ap (option_map (λ h. record { to = h.to; from = h.from })) (sym bare)) ∙ ap is_some there))

  pub has_no_other_row : HasNoOtherRow s
  has_no_other_row port hop there =
      let held = some_there (holder_at s.calls.pool.holdings port) (k.calls.pool.held port (some_row (get s.calls.pool.rows port) hop there)) in
      any_with Known (λ c. c.call.number ≡ held.0) (λ c. (x : Session) × IsSessionOf x c × IsRowOf (record { port = port; to = hop.to; from = hop.from }) (trace_session x))
      (row_of_call port hop there held.0 held.1) s.calls.calls all_known (k.calls.holders port held.0 held.1)
