-- The calls that a trace lists are served, where the live calls are.
use Rattle.std.proofs.Common.{◌≡◌, ◌∙◌, ◌||◌, ◌==◌, ℕ, Bool, true, false, cond, List, [], ◌∷◌, Option, Some, None, find, option_map, refl, sym, ap, subst, inl, inr}
use Rattle.std.proofs.lemmas.Bool.{eqb-true}
use Rattle.port_pool.specs.Holdings.{even_of, is_among}
use Rattle.port_pool.specs.Pool.{is_port_of}
use Rattle.call_media.specs.declared.session.Session.{Session}
use Rattle.offer_answer.specs.Rows.{Row}
use Rattle.call_media.specs.Sessions.{pairs_listed}
use Rattle.call_core.specs.Calls.{IsServed, awaits_answer, has_session, holds_in}
use Rattle.calls.specs.Finding.{has_number}
use Rattle.calls.specs.declared.standing_call.StandingCall.{StandingCall}
use Rattle.plans.specs.Office.{Office}
use Rattle.call_trace.specs.declared.call.Call.{Call}
use Rattle.call_trace.specs.declared.call.Session as traces
use Rattle.call_trace.specs.declared.call.Settled.{Settled}
use Rattle.call_trace.specs.declared.call.Stage.TheVariants.{Answered}
use Rattle.call_trace.specs.declared.datagram.Dialog.{Dialog}
use Rattle.call_trace.specs.Listed.{AllOf, AnyOf}
use Rattle.call_trace.specs.Promise.{IsReaddressed}
use Rattle.call_trace.specs.Promised.{AreServed}
use Rattle.call_trace.specs.Serving.{Hop, IsPairOf, IsRowOf, LeadsSession}
use Rattle.message_laws.specs.Serving.{IsServedAsAsked, IsSessionOf, KnowsServing, call_holding, call_numbered, holder_in, trace_session, trace_table}
use Rattle.message_laws.specs.Traced.{AreTraced, WasSettled, holder_by}
use Rattle.message_laws.proofs.StandingCalls.CallLists.{all_weaker}
use Rattle.message_laws.proofs.StandingCalls.CallSteps.{none_there}
use Rattle.message_laws.proofs.StandingCalls.Holders.{held_by_their_calls, holders_stand}
use Rattle.message_laws.proofs.StandingCalls.ToldSessions.{all_known, any_with, are_led, are_told, has_no_other_row}
use Rattle.call_media.proofs.HeldLaws.{own_holder}

-- ---- some member, whatever it is

some_member : {X : Type 0} (P : X → Type 0) (R : Type 0) → ((x : X) → P x → R) → (xs : List X) → AnyOf P xs → R
some_member P R gives [] any = absurd any
some_member P R gives (x ∷ xs) (inl here) = gives x here
some_member P R gives (x ∷ xs) (inr later) = some_member P R gives xs later

any_weaker : {X : Type 0} (P Q : X → Type 0) → ((x : X) → P x → Q x) → (xs : List X) → AnyOf P xs → AnyOf Q xs
any_weaker P Q weaker [] any = absurd any
any_weaker P Q weaker (x ∷ xs) (inl here) = inl (weaker x here)
any_weaker P Q weaker (x ∷ xs) (inr later) = inr (any_weaker P Q weaker xs later)

-- what holds for each of the live calls, and for some of them, gives it
of_some : {X : Type 0} (P Q : X → Type 0) (R : Type 0) → ((x : X) → P x → Q x → R) → (xs : List X) → AllOf P xs → AnyOf Q xs → R
of_some P Q R gives xs all any = some_member (λ x. P x × Q x) R (λ x h. gives x h.0 h.1) xs (any_with P Q (λ x. P x × Q x) (λ x p q. (p, q)) xs all any)

-- ---- what is found has the number

found_number : (n : ℕ) (cs : List StandingCall) (c : StandingCall) → find (has_number n) cs ≡ Some c → c.call.number ≡ n
found_number n [] c found = absurd cc
found_number n (x ∷ xs) c found = step (x.call.number == n) refl (found_number n xs c) found where
  step : (b : Bool) → (x.call.number == n) ≡ b → (find (has_number n) xs ≡ Some c → c.call.number ≡ n) → cond b (Some x) (find (has_number n) xs) ≡ Some c → c.call.number ≡ n
  step true is later e = let same : x ≡ c = cc in sym (ap (λ (y : StandingCall). y.call.number) same) ∙ eqb-true x.call.number n is
  step false is later e = later e

held_number : (calls : List StandingCall) (n : Option ℕ) (c : StandingCall) → call_numbered calls n ≡ Some c → n ≡ Some c.call.number
held_number calls None c found = absurd cc
held_number calls (Some n) c found = ap Some (sym (found_number n calls c found))

module _ (caller : StandingCall → Dialog) (s : Office) (calls : List Call) (k : KnowsServing s) (traced : AreTraced caller s.calls.calls calls) where
  -- what holds for each live session holds for each that was settled last
  of_settled : (P : traces.Session → Type 0) → AllOf (λ c. (y : Session) → IsSessionOf y c → P (trace_session y)) s.calls.calls
      → AllOf (λ x. (z : Settled) → x.stage ≡ Answered z → P z.session) calls
  of_settled P each =
      all_weaker (λ x. (z : Settled) → x.stage ≡ Answered z → AnyOf (λ c. (y : Session) × IsSessionOf y c × (z.session ≡ trace_session y) × (caller c ≡ x.caller)) s.calls.calls)
      (λ x. (z : Settled) → x.stage ≡ Answered z → P z.session)
      (λ x any z is. of_some (λ c. (y : Session) → IsSessionOf y c → P (trace_session y)) (λ c. (y : Session) × IsSessionOf y c × (z.session ≡ trace_session y) × (caller c ≡ x.caller))
      (P z.session) (λ c p q. subst P (sym q.2) (p q.0 q.1)) s.calls.calls each (any z is))
      calls traced.settled

  row_had : (port : ℕ) (hop : Hop) → trace_table s.calls.pool port ≡ Some hop
      → AnyOf (λ x. (z : Settled) × (x.stage ≡ Answered z) × IsRowOf (record { port = port; to = hop.to; from = hop.from }) z.session) calls
  row_had port hop there =
      let r : Row = record { port = port; to = hop.to; from = hop.from } in
      of_some (λ c. (y : Session) → IsSessionOf y c → AnyOf (WasSettled y) calls) (λ c. (y : Session) × IsSessionOf y c × IsRowOf r (trace_session y))
      (AnyOf (λ x. (z : Settled) × (x.stage ≡ Answered z) × IsRowOf r z.session) calls)
      (λ c p q. any_weaker (WasSettled q.0) (λ x. (z : Settled) × (x.stage ≡ Answered z) × IsRowOf r z.session) (λ x w. (w.0, w.1, subst (IsRowOf r) (sym w.2) q.2)) calls (p q.0 q.1))
      s.calls.calls traced.sessions (has_no_other_row s k port hop there)

  pairs_held : AllOf (λ x. (z : Settled) → x.stage ≡ Answered z → (port : ℕ) → IsPairOf port z.session → holder_by caller s port ≡ Some x.caller) calls
  pairs_held =
      all_weaker (λ x. (z : Settled) → x.stage ≡ Answered z → AnyOf (λ c. (y : Session) × IsSessionOf y c × (z.session ≡ trace_session y) × (caller c ≡ x.caller)) s.calls.calls)
      (λ x. (z : Settled) → x.stage ≡ Answered z → (port : ℕ) → IsPairOf port z.session → holder_by caller s port ≡ Some x.caller)
      (λ x any z is port pair. of_some (λ c. (y : Session) → IsSessionOf y c → (port : ℕ) → IsPairOf port (trace_session y) → call_holding s port ≡ Some c)
      (λ c. (y : Session) × IsSessionOf y c × (z.session ≡ trace_session y) × (caller c ≡ x.caller)) (holder_by caller s port ≡ Some x.caller)
      (λ c p q. ap (option_map caller) (p q.0 q.1 port (subst (IsPairOf port) q.2 pair)) ∙ ap Some q.3) s.calls.calls (held_by_their_calls s k) (any z is))
      calls traced.settled

  -- a call that holds a port has a session, or awaits an answer
  has_media : (port : ℕ) (c : StandingCall) → IsServed c.call s.calls.pool × IsServedAsAsked s.range s.calls.pool c.call.media → holder_in s.calls.pool port ≡ Some c.call.number
      → (holds_in has_session c.call.standing || holds_in awaits_answer c.call.standing) ≡ true
  has_media port c known held = step (holds_in has_session c.call.standing) (holds_in awaits_answer c.call.standing) refl refl where
    own : is_port_of s.calls.pool c.call.media.number port ≡ true
    own = rw (held, known.0.number) (own_holder c.call.number)

    step : (a b : Bool) → holds_in has_session c.call.standing ≡ a → holds_in awaits_answer c.call.standing ≡ b → (a || b) ≡ true
    step true b e f = refl
    step false true e f = refl
    step false false e f =
        let bare = none_there c.call.media.session (known.0.session ∙ e) in
        let settled = none_there c.call.media.offer (known.0.offer ∙ f) in
        ap (λ (session : Option Session). is_among (pairs_listed session) (even_of port)) (sym bare) ∙ known.1.exact settled port own

  holder_listed : (port : ℕ) (d : Dialog) (found : Option StandingCall) → call_holding s port ≡ found → option_map caller found ≡ Some d → AnyOf (λ x. x.caller ≡ d) calls
  holder_listed port d None is e = absurd cc
  holder_listed port d (Some c) is e =
      let dialog : caller c ≡ d = cc in
      let held = held_number s.calls.calls (holder_in s.calls.pool port) c is in
      let there = holders_stand s k port c is in
      let Known : StandingCall → Type 0 = λ x. IsServed x.call s.calls.pool × IsServedAsAsked s.range s.calls.pool x.call.media in
      let HasMedia : StandingCall → Type 0 = λ x. (holds_in has_session x.call.standing || holds_in awaits_answer x.call.standing) ≡ true in
      let Listed : StandingCall → Type 0 = λ x. AnyOf (λ y. y.caller ≡ caller x) calls in
      let media : HasMedia c = of_some Known (λ x. x ≡ c) (HasMedia c) (λ x known same. has_media port c (subst Known same known) held) s.calls.calls (all_known s k) there in
      let listed : Listed c = of_some (λ x. HasMedia x → Listed x) (λ x. x ≡ c) (Listed c) (λ x p same. subst (λ y. HasMedia y → Listed y) same p media) s.calls.calls traced.callers there in
      subst (λ e. AnyOf (λ y. y.caller ≡ e) calls) dialog listed

  pub are_served : AreServed s.range.ip (trace_table s.calls.pool) (holder_by caller s) calls
  are_served = record {
    told = of_settled (IsReaddressed s.range.ip) (are_told s k);
    rows = record { had = row_had; leads = of_settled (LeadsSession (trace_table s.calls.pool)) (are_led s k) };
    held = record { pairs = pairs_held; holders = λ port d held. holder_listed port d (call_holding s port) refl held };
  }
