-- Each contact that a user is bound to was read, and leads to an address.
use Rattle.std.proofs.Common.{◌≡◌, ℕ, ◌+◌, ◌==◌, Bool, true, false, cond, not, nat_eq, nat_lt, List, [], ◌∷◌, ◌++◌, count_by, find, length, map, Option, Some, None, is_some, option_map, position, Result, Ok, Err, refl, sym, subst}
use Rattle.std.specs.Prelude.{unwrap_or}
use Rattle.std.specs.Cmp.Lexicographic.{pointwise}
use Rattle.std.specs.List.{All, filter_map, list_all, list_any}
use Rattle.std.proofs.lemmas.Bool.{and_parts, false≢true}
use Rattle.std.proofs.lemmas.List.Elements.{All-filter, All-head, All-map, All-nil, All-push, All-set, All-tail}
use Rattle.std.proofs.lemmas.Option.{none-some, same_Some}
use Rattle.sip_uri.specs.Address.{address_at}
use Rattle.sip_uri.specs.NameAddr.{name_addr_of}
use Rattle.sip_uri.specs.declared.error.UriError.{UriError}
use Rattle.sip_uri.specs.declared.uri.Host.{Host}
use Rattle.sip_uri.specs.declared.uri.Host.TheVariants.{Ip4, Name}
use Rattle.sip_uri.specs.declared.uri.NameAddr.{NameAddr}
use Rattle.sip_uri.specs.declared.uri.Uri.{Uri}
use Rattle.sip_message.specs.Contact.{address_or_not, contact_of, contact_texts, contacts_of, is_star}
use Rattle.sip_message.specs.declared.contact.ContactValue.{ContactValue}
use Rattle.sip_message.specs.declared.contact.ContactValue.TheVariants.{Address, Star, Unreadable}
use Rattle.sip_message.specs.declared.headers.Header.{Header}
use Rattle.sip_message.specs.declared.message.Request.{Request}
use Rattle.registrar.specs.BindingRules.{granted, standing}
use Rattle.registrar.specs.declared.binding_rules.BindingRules.{BindingRules}
use Rattle.registrar.proofs.RecentLaws.{standing_all}
use Rattle.registrar.specs.Bound.{is_latest, latest, target_of}
use Rattle.registrar.specs.Registering.{Rules, and_then, answer_by, answer_for, binding_by, bindings_after_one, bindings_by, first_number, is_bindable, is_bindable_at, is_bindable_uri, is_known, is_star_misused, is_star_stale, is_of, lifetime, present, put, put_at, rank, unless_refused, uri_refusal, whole_refusal, with_contact, with_contact_at, with_contacts, with_number, with_ranks, with_uri, within_limit, without}
use Rattle.registrar.specs.Changes.{kept_entries}
use Rattle.registrar.specs.declared.change.RegistrarChange.{RegistrarChange}
use Rattle.registrar.specs.declared.change.RegistrarChange.TheVariants.{Binds, Lists}
use Rattle.registrar.proofs.Standing.{kept-bindings}
use Rattle.registrar.specs.Registrar.{Contents, answer_of, bindings_at, bindings_of, entries_with, is_for, plan_of, rules_of, with_bindings}
use Rattle.registrar.specs.declared.binding.Binding.{Binding}
use Rattle.registrar.specs.declared.refusal.Refusal.{Refusal}
use Rattle.registrar.specs.declared.refusal.Refusal.TheVariants.{BadContact, OutOfOrder, StarMisused, TooManyBindings, UnknownUser}
use Rattle.registrar.specs.declared.register.Contact.{Contact}
use Rattle.registrar.specs.declared.register.Register.{Register}
use Rattle.registrar.specs.declared.user_bindings.UserBindings.{UserBindings}
use Rattle.dialogs.specs.Sound.{IsReadUri}
use Rattle.transactions.specs.declared.change.Entry.{Entry}
use Rattle.responses.specs.Registering.{contact_from, contacts_from, further_star, register_of}
use Rattle.plans.specs.Office.{Office}
use Rattle.plans.specs.Replies.{registers, registers_by, reply_row}
use Rattle.plans.specs.declared.rule.Reply.{Reply}
use Rattle.plans.specs.declared.rule.Reply.TheVariants as replies
use Rattle.plans.specs.declared.setting.Setting.{Setting}
use Rattle.responses.specs.Registering as asks
use Rattle.message_laws.specs.Sound.{IsBound, IsTarget, IsTargetIf}
use Rattle.message_laws.proofs.StandingCalls.Reading.{Reading, name_read}

-- ---- the contacts of a REGISTER

-- the URI, if there is one, was read
abbrev IsReadIf : Option Uri → Type 0
IsReadIf None = Unit {0}
IsReadIf (Some uri) = IsReadUri uri

abbrev ValueIsRead : ContactValue → Type 0
ValueIsRead Star = Unit {0}
ValueIsRead (Address name) = IsReadUri name.uri
ValueIsRead Unreadable = Unit {0}

value_read : Reading → (text : List ℕ) → ValueIsRead (contact_of text)
unfolding contact_of
value_read reading text = by_star (is_star text) (name_addr_of text) refl
  where
    by_star : (star : Bool) (r : Result NameAddr UriError) → name_addr_of text ≡ r → ValueIsRead (cond star Star (address_or_not r))
    by_star true r e = tt
    by_star false (Ok name) e = name_read reading text name e
    by_star false (Err fault) e = tt

abbrev AreRead : List Contact → Type 0
AreRead [] = Unit {0}
AreRead (c ∷ cs) = IsReadIf c.uri × AreRead cs

contact_read : (value : ContactValue) (cs : List ContactValue) → ValueIsRead value → AreRead (filter_map contact_from cs) → AreRead (filter_map contact_from (value ∷ cs))
contact_read Star cs h k = k
contact_read (Address name) cs h k = (h, k)
contact_read Unreadable cs h k = (tt, k)

texts_read : Reading → (texts : List (List ℕ)) → AreRead (filter_map contact_from (map contact_of texts))
texts_read reading [] = tt
texts_read reading (text ∷ texts) = contact_read (contact_of text) (map contact_of texts) (value_read reading text) (texts_read reading texts)

read_joined : (xs ys : List Contact) → AreRead xs → AreRead ys → AreRead (xs ++ ys)
read_joined [] ys h k = k
read_joined (x ∷ xs) ys h k = (h.0, read_joined xs ys h.1 k)

star_read : (values : List ContactValue) → AreRead (further_star values)
star_read values = by_count (nat_lt 1 (count_by asks.is_star values))
  where
    by_count : (b : Bool) → AreRead (cond b (record { uri = None; expires = None } ∷ []) [])
    by_count true = (tt, tt)
    by_count false = tt

contacts_read : Reading → (headers : List Header) → AreRead (contacts_from (contacts_of headers))
contacts_read reading headers = read_joined _ (further_star (contacts_of headers)) (texts_read reading (contact_texts headers)) (star_read (contacts_of headers))

-- an address alone may be bound
host_leads : (ip : List ℕ) (sip_port : ℕ) (port : Option ℕ) (host : Host) → is_bindable_at ip sip_port port host ≡ true → is_some (address_at host port) ≡ true
host_leads ip sip_port port (Ip4 octets) h = refl
host_leads ip sip_port port (Name name) h = absurd (false≢true h)

uri_target : (ip : List ℕ) (sip_port : ℕ) (uri : Option Uri) → IsReadIf uri → is_bindable_uri ip sip_port uri ≡ true → IsTargetIf uri
uri_target ip sip_port None read h = tt
uri_target ip sip_port (Some uri) read h = record { read = read; leads = host_leads ip sip_port uri.port uri.host h }

abbrev AreTargets : List Contact → Type 0
AreTargets [] = Unit {0}
AreTargets (c ∷ cs) = IsTargetIf c.uri × AreTargets cs

bindable_targets : (ip : List ℕ) (sip_port : ℕ) (cs : List Contact) → AreRead cs → list_all (is_bindable ip sip_port) cs ≡ true → AreTargets cs
bindable_targets ip sip_port [] read h = tt
bindable_targets ip sip_port (c ∷ cs) read h =
    let parts = and_parts (is_bindable ip sip_port c) (list_all (is_bindable ip sip_port) cs) h in
    (uri_target ip sip_port c.uri read.0 parts.0, bindable_targets ip sip_port cs read.1 parts.1)

-- ---- what a REGISTER leaves

abbrev LeavesBound : Result (List Binding) Refusal → Type 0
LeavesBound (Ok bindings) = All IsBound bindings
LeavesBound (Err refusal) = Unit {0}

then_bound : (r : Result (List Binding) Refusal) (next : List Binding → Result (List Binding) Refusal) → LeavesBound r → ((bindings : List Binding) → All IsBound bindings → LeavesBound (next bindings)) → LeavesBound (and_then r next)
then_bound (Ok bindings) next h k = k bindings h
then_bound (Err refusal) next h k = tt

unless_bound : (o : Option Refusal) (r : Result (List Binding) Refusal) → (o ≡ None → LeavesBound r) → LeavesBound (unless_refused o r)
unless_bound None r h = h refl
unless_bound (Some refusal) r h = tt

put_bound_at : (bindings : List Binding) (new : Binding) (place : Option ℕ) → IsBound new → All IsBound bindings → All IsBound (put_at bindings new place)
put_bound_at bindings new None h all = All-push IsBound bindings new all h
put_bound_at bindings new (Some place) h all = All-set IsBound bindings place new h all

uri_bound : (register : Register) (now : ℕ) (bindings : List Binding) (number : ℕ) (uri : Uri) (seconds : ℕ) → IsTarget uri → All IsBound bindings → All IsBound (with_uri register now bindings number uri seconds)
uri_bound register now bindings number uri seconds is all = by_zero (seconds == 0)
  where
    new : Binding
    new = binding_by register uri seconds number now

    by_zero : (b : Bool) → All IsBound (cond b (without bindings uri) (put bindings new))
    by_zero true = All-filter (λ b. not (is_of uri b)) IsBound bindings all
    by_zero false = put_bound_at bindings new (position (is_of uri) bindings) is all

contact_bound : (rules : BindingRules) (register : Register) (now : ℕ) (bindings : List Binding) (number : ℕ) (contact : Contact) (uri : Option Uri) → IsTargetIf uri → All IsBound bindings
    → LeavesBound (with_contact_at rules register now bindings number contact uri)
contact_bound rules register now bindings number contact None is all = tt
contact_bound rules register now bindings number contact (Some uri) is all =
    unless_bound (uri_refusal rules.min_expires register bindings uri (lifetime register contact)) (Ok (with_uri register now bindings number uri (granted rules (lifetime register contact))))
    (λ none. uri_bound register now bindings number uri (granted rules (lifetime register contact)) is all)

contacts_bound : (rules : BindingRules) (register : Register) (now number : ℕ) (cs : List Contact) (bindings : List Binding) → AreTargets cs → All IsBound bindings → LeavesBound (with_contacts rules register now number cs bindings)
contacts_bound rules register now number [] bindings targets all = all
contacts_bound rules register now number (c ∷ cs) bindings targets all =
    then_bound (with_contact rules register now bindings number c) (λ kept. with_contacts rules register now (number + 1) cs kept) (contact_bound rules register now bindings number c c.uri targets.0 all)
    (λ kept each. contacts_bound rules register now (number + 1) cs kept targets.1 each)

limit_bound : (bindings : List Binding) → All IsBound bindings → LeavesBound (within_limit bindings)
limit_bound bindings all = by_limit (nat_lt 8 (length bindings))
  where
    by_limit : (b : Bool) → LeavesBound (cond b (Err TooManyBindings) (Ok (with_ranks bindings)))
    by_limit true = tt
    by_limit false = All-map IsBound (λ b. with_number (rank bindings b) b) bindings all

all_bound : (rules : Rules) (register : Register) (now : ℕ) (bindings : List Binding) → AreTargets register.contacts → All IsBound bindings → LeavesBound (bindings_by rules register now bindings)
all_bound rules register now bindings targets all = by_star register.star
  where
    by_star : (b : Bool) → LeavesBound (cond b (Ok []) (and_then (with_contacts rules.binding_rules register now (first_number bindings) register.contacts (present now bindings)) (λ kept. within_limit (standing rules.binding_rules kept))))
    by_star true = All-nil IsBound
    by_star false = then_bound _ (λ kept. within_limit (standing rules.binding_rules kept)) (contacts_bound rules.binding_rules register now _ register.contacts (present now bindings) targets (All-filter _ IsBound bindings all))
        (λ kept each. limit_bound (standing rules.binding_rules kept) (standing_all IsBound rules.binding_rules kept each))

-- where it is not refused as a whole, each contact may be bound
whole_bindable : (misused bindable stale : Bool) → cond misused (Some StarMisused) (cond (not bindable) (Some BadContact) (cond stale (Some OutOfOrder) None)) ≡ None → bindable ≡ true
whole_bindable true bindable stale h = absurd (none-some StarMisused (sym h))
whole_bindable false true stale h = refl
whole_bindable false false stale h = absurd (none-some BadContact (sym h))

one_bound : (rules : Rules) (register : Register) (now : ℕ) (bindings : List Binding) → AreRead register.contacts → All IsBound bindings → LeavesBound (bindings_after_one rules register now bindings)
unfolding bindings_after_one whole_refusal
one_bound rules register now bindings read all =
    unless_bound (whole_refusal rules register now bindings) (bindings_by rules register now bindings)
    (λ none. all_bound rules register now bindings
    (bindable_targets rules.ip rules.sip_port register.contacts read
    (whole_bindable (is_star_misused register) (list_all (is_bindable rules.ip rules.sip_port) register.contacts) (is_star_stale register (present now bindings)) none)) all)

answer_bound_for : (rules : Rules) (bindings : List ℕ → List Binding) (register : Register) (now : ℕ) (user : Option (List ℕ)) → AreRead register.contacts → ((user : List ℕ) → All IsBound (bindings user))
    → LeavesBound (answer_for rules bindings register now user)
answer_bound_for rules bindings register now None read each = tt
answer_bound_for rules bindings register now (Some user) read each = by_known (is_known rules user)
  where
    by_known : (b : Bool) → LeavesBound (cond b (bindings_after_one rules register now (bindings user)) (Err UnknownUser))
    by_known true = one_bound rules register now (bindings user) read (each user)
    by_known false = tt

answer_bound : (r : Contents) (register : Register) (now : ℕ) → AreRead register.contacts → ((user : List ℕ) → All IsBound (bindings_of r.entries user)) → LeavesBound (answer_of r register now)
unfolding answer_of answer_by
answer_bound r register now read each = answer_bound_for (rules_of r) (bindings_of r.entries) register now register.user read each

-- ---- a reply

abbrev pub IsBoundPlan : Option RegistrarChange → Type 0
IsBoundPlan None = Unit {0}
IsBoundPlan (Some (Binds plan)) = All IsBound plan.bindings
IsBoundPlan (Some (Lists listing)) = (user : List ℕ) → All IsBound (bindings_of listing.entries user)

plan_bound : (user : Option (List ℕ)) (bindings : List Binding) → All IsBound bindings → IsBoundPlan (option_map Binds (option_map (λ u. plan_of u bindings) user))
plan_bound None bindings all = tt
plan_bound (Some user) bindings all = all

registers_bound : (s : Office) (e : Setting) (r : Request) (begun : List Entry) (id : ℕ) (user : Option (List ℕ)) (answer : Result (List Binding) Refusal) → LeavesBound answer
    → IsBoundPlan (registers_by s e r begun id user answer).registration
registers_bound s e r begun id user (Ok bindings) h = plan_bound user bindings h
registers_bound s e r begun id user (Err refusal) h = tt

register_read : Reading → (rules : Rules) (r : Request) → AreRead (register_of rules r).contacts
unfolding register_of
register_read reading rules r = contacts_read reading r.headers

pub reply_bound : Reading → (s : Office) (e : Setting) (r : Request) (begun : List Entry) (id : ℕ) (reply : Reply) → ((user : List ℕ) → All IsBound (bindings_of s.registrar.entries user))
    → IsBoundPlan (reply_row s e r begun id reply).registration
unfolding reply_row registers
reply_bound reading s e r begun id (replies.CancelOf other) each = tt
reply_bound reading s e r begun id (replies.Refusal reason) each = tt
reply_bound reading s e r begun id replies.MethodsListed each = tt
reply_bound reading s e r begun id replies.Registration each =
    let register = register_of (rules_of s.registrar) r in
    registers_bound s e r begun id register.user (answer_of s.registrar register e.now) (answer_bound s.registrar register e.now (register_read reading (rules_of s.registrar) r) each)

-- ---- the registrar once a plan is carried out

abbrev bindings_in : Option UserBindings → List Binding
bindings_in entry = unwrap_or (option_map (λ (l : UserBindings). l.bindings) entry) []

pub entries_bound : (user : List ℕ) (bindings : List Binding) (entries : List UserBindings) (other : List ℕ) → All IsBound bindings → All IsBound (bindings_of entries other)
    → All IsBound (bindings_of (entries_with user bindings entries) other)
entries_bound user bindings [] other h all = all
entries_bound user bindings (l ∷ ls) other h all = by_user (is_for user l) (is_for other l) refl all (entries_bound user bindings ls other h)
  where
    by_user : (b d : Bool) → is_for other l ≡ d → All IsBound (bindings_in (cond d (Some l) (find (is_for other) ls))) → (All IsBound (bindings_of ls other) → All IsBound (bindings_of (entries_with user bindings ls) other))
        → All IsBound (bindings_of (cond b (with_bindings bindings l ∷ ls) (l ∷ entries_with user bindings ls)) other)
    by_user true true e k more = rw e h
    by_user true false e k more = rw e k
    by_user false true e k more = rw e k
    by_user false false e k more = rw e (more k)

-- a user on a list of users has the bindings that it had, or none
pub kept_bound : (entries : List UserBindings) (users : List (List ℕ)) → ((user : List ℕ) → All IsBound (bindings_of entries user)) → (user : List ℕ) → All IsBound (bindings_of (kept_entries entries users) user)
kept_bound entries users each user = subst (All IsBound) (sym (kept-bindings entries users user)) (by_known (list_any (λ u. pointwise nat_eq u user) users))
  where
    by_known : (known : Bool) → All IsBound (cond known (bindings_of entries user) [])
    by_known true = each user
    by_known false = All-nil IsBound

-- ---- where a call goes

find_all : (p : Binding → Bool) (bindings : List Binding) (b : Binding) → All IsBound bindings → find p bindings ≡ Some b → IsBound b
find_all p [] b all h = absurd (none-some b h)
find_all p (x ∷ xs) b all h = by_first (p x) h (find_all p xs b (All-tail IsBound x xs all))
  where
    by_first : (first : Bool) → cond first (Some x) (find p xs) ≡ Some b → (find p xs ≡ Some b → IsBound b) → IsBound b
    by_first true e more = subst IsBound (same_Some x b e) (All-head IsBound x xs all)
    by_first false e more = more e

found_target : (bindings : List Binding) (b : Option Binding) (uri : Uri) → ((c : Binding) → b ≡ Some c → IsBound c) → option_map (λ (c : Binding). c.uri) b ≡ Some uri → IsTarget uri
found_target bindings None uri each h = absurd (none-some uri h)
found_target bindings (Some b) uri each h = subst IsTarget (same_Some b.uri uri h) (each b refl)

pub bound_target : (r : Contents) (user : List ℕ) (now : ℕ) (uri : Uri) → All IsBound (bindings_of r.entries user) → target_of (bindings_at r user now) ≡ Some uri → IsTarget uri
unfolding bindings_at target_of
bound_target r user now uri all h =
    let there = present now (bindings_of r.entries user) in
    found_target there (latest there) uri (λ c is. find_all (is_latest there) there c (All-filter _ IsBound (bindings_of r.entries user) all) is) h
