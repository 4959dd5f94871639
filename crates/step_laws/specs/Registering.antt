-- The REGISTERs and the lists of users of a list of events, and what each results in: a fold over all of them (RFC
-- 3261 section 10.3).
use Rattle.std.specs.Prelude.{◌≡◌, ◌⊎◌, ℕ, map, List, [], ◌∷◌, ◌++◌, None}
use Rattle.sip_uri.specs.declared.uri.Addr.{Addr}
use Rattle.sip_message.specs.declared.message.Request.{Request}
use Rattle.sip_writing.specs.Reply.{response_address}
use Rattle.registrar.specs.Bound.{Event as RegistrarEvent, Listed, bound}
use Rattle.registrar.specs.Registering.{Rules}
use Rattle.registrar.specs.Registrar.{StandsAfter, event as registration}
use Rattle.registrar.specs.declared.binding.Binding.{Binding}
use Rattle.registrar.specs.declared.refusal.Refusal.{Refusal}
use Rattle.events.specs.declared.event.Event.{Event}
use Rattle.events.specs.declared.event.What.TheVariants as whats
use Rattle.responses.specs.Registering.{register_of}
use Rattle.responses.specs.Responding.{contact_header, refusal_headers, responds, status_of}
use Rattle.plans.specs.Effect.{Effect}
use Rattle.plans.specs.Plan.{sent_response}
use Rattle.plans.specs.declared.rule.Reply.TheVariants as reply
use Rattle.plans.specs.declared.taken.Taken.TheVariants.{Done}
use Rattle.event_rows.specs.Rows.{after, only_counts, row}
use Rattle.event_rows.specs.Rules.{request_rule}
use Rattle.event_rows.specs.State.{Contents, moment_at, office}
use Rattle.step_laws.specs.Coming.{BeginsTransaction}
use Rattle.event_rows.specs.Trace.{Entry, after_entry}
use Rattle.event_rows.specs.Rule.{Alone}

-- The event brings this request to the registrar: it is not a repeat, there is room for its transaction, and no rule
-- before refuses it.
pub record Registers (s : Contents) (event : Event) (source : Addr) (r : Request) (id : ℕ) : Type 0 where
  pub bytes : List ℕ
  pub begins : BeginsTransaction s event source bytes r id
  pub rule : request_rule (office s) r (moment_at s event.now) ≡ Alone reply.Registration

-- what it asks of a registrar with these rules, and when
abbrev pub registration_at : Rules → Contents → Event → Request → RegistrarEvent
registration_at rules s event r = registration (register_of rules r) (moment_at s event.now)

abbrev pub IsNoRegister : Contents → Event → Type 0
IsNoRegister s event = (source : Addr) (r : Request) (id : ℕ) → ¬ Registers s event source r id

-- of an entry, which was not lost
pub record IsRegistration (rules : Rules) (s : Contents) (x : Entry) (h : RegistrarEvent) : Type 0 where
  pub not_lost : ¬ (x.answer ≡ None)
  pub source : Addr
  pub request : Request
  pub id : ℕ
  pub registers : Registers s x.event source request id
  pub is : h ≡ registration_at rules s x.event request

-- The event brings a list of the office's users, as a configuration may have it.
pub record BringsUsers (s : Contents) (event : Event) (users : List (List ℕ)) : Type 0 where
  pub what : event.what ≡ whats.Users users
  pub counts : only_counts s event ≡ None

abbrev pub IsNoList : Contents → Event → Type 0
IsNoList s event = (users : List (List ℕ)) → ¬ BringsUsers s event users

-- of an entry, which was not lost
pub record IsListing (s : Contents) (x : Entry) (h : RegistrarEvent) : Type 0 where
  pub not_lost : ¬ (x.answer ≡ None)
  pub users : List (List ℕ)
  pub brings : BringsUsers s x.event users
  pub is : h ≡ Listed users

abbrev pub IsBrought : Rules → Contents → Entry → RegistrarEvent → Type 0
IsBrought rules s x h = IsRegistration rules s x h ⊎ IsListing s x h

-- it was lost, or brings neither
abbrev pub BringsNone : Contents → Entry → Type 0
BringsNone s x = (x.answer ≡ None) ⊎ (IsNoRegister s x.event × IsNoList s x.event)

-- these are the REGISTERs and the lists of users that the entries bring, in order
abbrev pub AreRegistrations : Rules → Contents → List Entry → List RegistrarEvent → Type 0
AreRegistrations rules s [] hs = hs ≡ []
AreRegistrations rules s (x ∷ xs) hs =
    (BringsNone s x × AreRegistrations rules (after_entry s x) xs hs)
    ⊎ ((h : RegistrarEvent) × (rest : List RegistrarEvent) × (hs ≡ h ∷ rest) × IsBrought rules s x h × AreRegistrations rules (after_entry s x) xs rest)

-- the 200 to a REGISTER lists these bindings, each with the rest of its life (step 8)
pub record Lists (source : Addr) (r : Request) (now : ℕ) (bindings : List Binding) (x : Effect) : Type 0 where
  pub taken : x.plan.taken ≡ Done
  pub tag : List ℕ
  pub sends : x.plan.sends ≡ sent_response (response_address r.parts.vias source) (responds r.parts source 200 tag (map (contact_header now) bindings)) ∷ []

-- where it is not refused: what its user is bound to at its moment, this REGISTER counted
pub record ListsBound (rules : Rules) (history : List RegistrarEvent) (h : RegistrarEvent) (now : ℕ) (source : Addr) (r : Request) (user : List ℕ) (x : Effect) : Type 0 where
  pub lists : Lists source r now (bound rules user (history ++ h ∷ []) now) x

-- the one response to a REGISTER that is refused says why, and the registrar stays
pub record Refuses (source : Addr) (r : Request) (least : ℕ) (refusal : Refusal) (x : Effect) : Type 0 where
  pub taken : x.plan.taken ≡ Done
  pub tag : List ℕ
  pub sends : x.plan.sends ≡ sent_response (response_address r.parts.vias source) (responds r.parts source (status_of refusal) tag (refusal_headers least refusal)) ∷ []
  pub registration : x.plan.registration ≡ None

-- after a list of users the registrar has it, all calls are as they were, and nothing is sent
pub record TakesUsers (rules : Rules) (history : List RegistrarEvent) (users : List (List ℕ)) (s : Contents) (event : Event) : Type 0 where
  pub taken : (row s event).plan.taken ≡ Done
  pub sends : (row s event).plan.sends ≡ []
  pub calls : (row s event).calls.standing ≡ s.calls
  pub stands : StandsAfter (after s event).registrar rules (history ++ Listed users ∷ [])
