-- Whether an event brings a REGISTER, or a list of users, can be decided: so there is a list of those that any entries
-- bring.
use Rattle.std.proofs.Common.{◌≡◌, ◌∙◌, ◌⊎◌, ℕ, Bool, true, false, List, [], ◌∷◌, Option, Some, None, Result, Ok, Err, ap, inl, inr, refl, subst, sym}
use Rattle.std.proofs.lemmas.Bool.{false≢true}
use Rattle.std.proofs.lemmas.Option.{none-some}
use Rattle.sip_uri.specs.declared.uri.Addr.{Addr}
use Rattle.sip_message.specs.Read.{message_of}
use Rattle.sip_message.specs.declared.error.MessageError.{MessageError}
use Rattle.sip_message.specs.declared.message.Message.{Message}
use Rattle.sip_message.specs.declared.message.Message.TheVariants as Kinds
use Rattle.sip_message.specs.declared.message.Request.{Request}
use Rattle.registrar.specs.Bound.{Event as RegistrarEvent, Listed}
use Rattle.registrar.specs.Registering.{Rules}
use Rattle.transactions.specs.Contents.{reception_of}
use Rattle.transactions.specs.Shares.{has_no_room}
use Rattle.transactions.specs.declared.outcome.Verdict.{Verdict}
use Rattle.transactions.specs.declared.outcome.Verdict.TheVariants as verdicts
use Rattle.events.specs.declared.event.Event.{Event}
use Rattle.events.specs.declared.event.What.{What}
use Rattle.events.specs.declared.event.What.TheVariants as whats
use Rattle.responses.specs.Words.{has_fit_branch}
use Rattle.plans.specs.declared.rule.Reply.{Reply}
use Rattle.plans.specs.declared.rule.Reply.TheVariants as replies
use Rattle.plans.specs.declared.taken.Taken.{Taken}
use Rattle.event_rows.specs.Rows.{only_counts}
use Rattle.event_rows.specs.Rules.{request_rule}
use Rattle.event_rows.specs.State.{Contents, moment_at, office}
use Rattle.event_rows.specs.Trace.{Entry, after_entry}
use Rattle.event_rows.specs.Rule.{Rule}
use Rattle.event_rows.specs.Rule as rules
use Rattle.step_laws.specs.Registering.{AreRegistrations, BringsUsers, IsListing, IsNoList, IsNoRegister, IsRegistration, Registers, registration_at}

pub record Brought (s : Contents) (event : Event) : Type 0 where
  pub source : Addr
  pub request : Request
  pub id : ℕ
  pub registers : Registers s event source request id

abbrev pub Decided : Contents → Event → Type 0
Decided s event = Brought s event ⊎ IsNoRegister s event

-- ---- a request that is read

same_bytes : (one other : Addr) (bytes more : List ℕ) → whats.Datagram one bytes ≡ whats.Datagram other more → bytes ≡ more
same_bytes one other bytes more is = cc

same_source : (one other : Addr) (bytes more : List ℕ) → whats.Datagram one bytes ≡ whats.Datagram other more → one ≡ other
same_source one other bytes more is = cc

same_request : (r other : Request) (read : Result Message MessageError) → read ≡ Ok (Kinds.Request r) → read ≡ Ok (Kinds.Request other) → r ≡ other
same_request r other read is too = cc

module _ (s : Contents) (event : Event) (source : Addr) (bytes : List ℕ) (datagram : event.what ≡ whats.Datagram source bytes) where
  module _ (r : Request) (read : message_of bytes ≡ Ok (Kinds.Request r)) where
    -- each REGISTER that the event brings is this request
    is_it : (from : Addr) (other : Request) (id : ℕ) → Registers s event from other id → other ≡ r
    is_it from other id h =
        let same = same_bytes source from bytes h.bytes (sym datagram ∙ h.begins.comes.datagram) in
        sym (same_request r other (message_of bytes) read (ap message_of same ∙ h.begins.comes.read))

    by_rule : (id : ℕ) (rule : Rule) → only_counts s event ≡ None → has_fit_branch r.parts.vias ≡ true → (reception_of s.table (Kinds.Request r)).verdict ≡ verdicts.New id → has_no_room s.table source ≡ false
        → request_rule (office s) r (moment_at s event.now) ≡ rule → (IsNoRegister s event) ⊎ (rule ≡ rules.Alone replies.Registration) → Decided s event
    by_rule id rule counts fit new room is (inl none) = inr none
    by_rule id rule counts fit new room is (inr registers) =
        inl (record { source = source; request = r; id = id; registers = record { bytes = bytes; begins = record { comes = record { datagram = datagram; counts = counts; read = read; branch = fit }; new = new; room = room }; rule = is ∙ registers } })

    none_ruled : (rule : Rule) → request_rule (office s) r (moment_at s event.now) ≡ rule → (rule ≡ rules.Alone replies.Registration → ⊥) → IsNoRegister s event
    none_ruled rule is other = λ from one id h. other (sym is ∙ subst (λ x. request_rule (office s) x (moment_at s event.now) ≡ rules.Alone replies.Registration) (is_it from one id h) h.rule)

    by_reply : (reply : Reply) → request_rule (office s) r (moment_at s event.now) ≡ rules.Alone reply → (IsNoRegister s event) ⊎ (rules.Alone reply ≡ rules.Alone replies.Registration)
    by_reply replies.Registration is = inr refl
    by_reply (replies.CancelOf other) is = inl (none_ruled _ is (λ e. cc))
    by_reply (replies.Refusal reason) is = inl (none_ruled _ is (λ e. cc))
    by_reply replies.MethodsListed is = inl (none_ruled _ is (λ e. cc))

    which_rule : (rule : Rule) → request_rule (office s) r (moment_at s event.now) ≡ rule → (IsNoRegister s event) ⊎ (rule ≡ rules.Alone replies.Registration)
    which_rule (rules.Alone reply) is = by_reply reply is
    which_rule (rules.Call rule) is = inl (none_ruled _ is (λ e. cc))

    by_room : (id : ℕ) (full : Bool) → only_counts s event ≡ None → has_fit_branch r.parts.vias ≡ true → (reception_of s.table (Kinds.Request r)).verdict ≡ verdicts.New id → has_no_room s.table source ≡ full
        → Decided s event
    by_room id false counts fit new room =
        let rule = request_rule (office s) r (moment_at s event.now) in
        by_rule id rule counts fit new room refl (which_rule rule refl)
    by_room id true counts fit new full = inr (λ from one other h.
        let same = same_source source from bytes h.bytes (sym datagram ∙ h.begins.comes.datagram) in
        false≢true (sym h.begins.room ∙ ap (has_no_room s.table) (sym same) ∙ full))

    none_new : (verdict : Verdict) → (reception_of s.table (Kinds.Request r)).verdict ≡ verdict → ((id : ℕ) → verdict ≡ verdicts.New id → ⊥) → IsNoRegister s event
    none_new verdict is other = λ from one id h. other id (sym is ∙ subst (λ x. (reception_of s.table (Kinds.Request x)).verdict ≡ verdicts.New id) (is_it from one id h) h.begins.new)

    by_verdict : (verdict : Verdict) → only_counts s event ≡ None → has_fit_branch r.parts.vias ≡ true → (reception_of s.table (Kinds.Request r)).verdict ≡ verdict → Decided s event
    by_verdict (verdicts.New id) counts fit is = by_room id (has_no_room s.table source) counts fit is refl
    by_verdict verdicts.Repeat counts fit is = inr (none_new _ is (λ id e. cc))
    by_verdict verdicts.Swallowed counts fit is = inr (none_new _ is (λ id e. cc))
    by_verdict (verdicts.Up other) counts fit is = inr (none_new _ is (λ id e. cc))
    by_verdict verdicts.Stray counts fit is = inr (none_new _ is (λ id e. cc))

    by_branch : (fit : Bool) → only_counts s event ≡ None → has_fit_branch r.parts.vias ≡ fit → Decided s event
    by_branch true counts is = by_verdict (reception_of s.table (Kinds.Request r)).verdict counts is refl
    by_branch false counts is = inr (λ from one id h. false≢true (sym is ∙ subst (λ (x : Request). has_fit_branch x.parts.vias ≡ true) (is_it from one id h) h.begins.comes.branch))

  -- ---- a datagram

  none_read : (read : Result Message MessageError) → message_of bytes ≡ read → ((r : Request) → read ≡ Ok (Kinds.Request r) → ⊥) → IsNoRegister s event
  none_read read is other = λ from one id h. other one (sym is ∙ (ap message_of (same_bytes source from bytes h.bytes (sym datagram ∙ h.begins.comes.datagram)) ∙ h.begins.comes.read))

  by_reading : (read : Result Message MessageError) → only_counts s event ≡ None → message_of bytes ≡ read → Decided s event
  by_reading (Ok (Kinds.Request r)) counts is = by_branch r is (has_fit_branch r.parts.vias) counts refl
  by_reading (Ok (Kinds.Response r)) counts is = inr (none_read _ is (λ one e. cc))
  by_reading (Err fault) counts is = inr (none_read _ is (λ one e. cc))

-- ---- an event

by_what : (s : Contents) (event : Event) (what : What) → only_counts s event ≡ None → event.what ≡ what → Decided s event
by_what s event (whats.Datagram source bytes) counts is = by_reading s event source bytes is (message_of bytes) counts refl
by_what s event whats.Due counts is = inr (λ source r id h. let none : whats.Due ≡ whats.Datagram source h.bytes = sym is ∙ h.begins.comes.datagram in cc)
by_what s event (whats.Silent number) counts is = inr (λ source r id h. let none : whats.Silent number ≡ whats.Datagram source h.bytes = sym is ∙ h.begins.comes.datagram in cc)
by_what s event (whats.Users users) counts is = inr (λ source r id h. let none : whats.Users users ≡ whats.Datagram source h.bytes = sym is ∙ h.begins.comes.datagram in cc)

by_counts : (s : Contents) (event : Event) (counts : Option Taken) → only_counts s event ≡ counts → Decided s event
by_counts s event None is = by_what s event event.what is refl
by_counts s event (Some taken) is = inr (λ source r id h. none-some taken (sym h.begins.comes.counts ∙ is))

decision : (s : Contents) (event : Event) → Decided s event
decision s event = by_counts s event (only_counts s event) refl

-- ---- a list of users

pub record BroughtUsers (s : Contents) (event : Event) : Type 0 where
  pub users : List (List ℕ)
  pub brings : BringsUsers s event users

list_by_what : (s : Contents) (event : Event) (what : What) → only_counts s event ≡ None → event.what ≡ what → BroughtUsers s event ⊎ IsNoList s event
list_by_what s event (whats.Users users) counts is = inl (record { users = users; brings = record { what = is; counts = counts } })
list_by_what s event (whats.Datagram source bytes) counts is = inr (λ users h. let none : whats.Datagram source bytes ≡ whats.Users users = sym is ∙ h.what in cc)
list_by_what s event whats.Due counts is = inr (λ users h. let none : whats.Due ≡ whats.Users users = sym is ∙ h.what in cc)
list_by_what s event (whats.Silent number) counts is = inr (λ users h. let none : whats.Silent number ≡ whats.Users users = sym is ∙ h.what in cc)

list_by_counts : (s : Contents) (event : Event) (counts : Option Taken) → only_counts s event ≡ counts → BroughtUsers s event ⊎ IsNoList s event
list_by_counts s event None is = list_by_what s event event.what is refl
list_by_counts s event (Some taken) is = inr (λ users h. none-some taken (sym h.counts ∙ is))

list_decision : (s : Contents) (event : Event) → BroughtUsers s event ⊎ IsNoList s event
list_decision s event = list_by_counts s event (only_counts s event) refl

-- ---- the list of any entries

with_answer : (rs : Rules) (s : Contents) (x : Entry) (xs : List Entry) (hs : List RegistrarEvent) (answer : Option Taken) → x.answer ≡ answer → AreRegistrations rs (after_entry s x) xs hs → Decided s x.event → BroughtUsers s x.event ⊎ IsNoList s x.event
    → (history : List RegistrarEvent) × AreRegistrations rs s (x ∷ xs) history
with_answer rs s x xs hs None lost are known listing = (hs, inl (inl lost, are))
with_answer rs s x xs hs (Some taken) told are (inr none) (inr other) = (hs, inl (inr (none, other), are))
with_answer rs s x xs hs (Some taken) told are (inr none) (inl one) =
    let is : IsListing s x (Listed one.users) = record { not_lost = λ lost. none-some taken (sym lost ∙ told); users = one.users; brings = one.brings; is = refl } in
    (Listed one.users ∷ hs, inr (Listed one.users, hs, refl, inr is, are))
with_answer rs s x xs hs (Some taken) told are (inl one) listing =
    let h = registration_at rs s x.event one.request in
    let is : IsRegistration rs s x h = record { not_lost = λ lost. none-some taken (sym lost ∙ told); source = one.source; request = one.request; id = one.id; registers = one.registers; is = refl } in
    (h ∷ hs, inr (h, hs, refl, inl is, are))

pub registrations : (rs : Rules) (xs : List Entry) (s : Contents) → (history : List RegistrarEvent) × AreRegistrations rs s xs history
registrations rs [] s = ([], refl)
registrations rs (x ∷ xs) s =
    let rest = registrations rs xs (after_entry s x) in
    with_answer rs s x xs rest.0 x.answer refl rest.1 (decision s x.event) (list_decision s x.event)
