-- What one REGISTER does to the bindings of its user (RFC 3261 section 10.3).
use Rattle.std.specs.Prelude.{All, ◌≡◌, ◌==◌, ◌&&◌, ℕ, ◌+◌, ◌*◌, Bool, true, false, not, List, [], ◌∷◌, ◌++◌, length, position, slice_set, filter, find, map, count_by, nat_eq, nat_lt, nat_le, Option, Some, None, unwrap_or, Result, Ok, Err, if◌then◌else◌}
use Rattle.std.specs.List.{list_any, list_all}
use Rattle.std.specs.Cmp.Lexicographic.{pointwise}
use Rattle.std.specs.Str.{str_eq_ignore_ascii_case}
use Rattle.sip_uri.specs.Binding.{same_binding}
use Rattle.sip_uri.specs.declared.uri.Uri.{Uri}
use Rattle.sip_uri.specs.declared.uri.Host.{Host}
use Rattle.sip_uri.specs.declared.uri.Host.TheVariants.{Ip4, Name}
use Rattle.sip_uri.specs.Address.{default_port}
use Rattle.registrar.specs.Limits.{max_bindings, default_expires}
use Rattle.registrar.specs.BindingRules.{granted, standing}
use Rattle.registrar.specs.declared.binding.Binding.{Binding}
use Rattle.registrar.specs.declared.binding_rules.BindingRules.{BindingRules}
use Rattle.registrar.specs.declared.register.Contact.{Contact}
use Rattle.registrar.specs.declared.register.Register.{Register}
use Rattle.registrar.specs.declared.refusal.Refusal.{Refusal}
use Rattle.registrar.specs.declared.refusal.Refusal.TheVariants.{UnknownUser, StarMisused, TooBrief, OutOfOrder, TooManyBindings, BadContact}

-- who may register, where the server is, its domain, and the rules of bindings
pub record Rules : Type 0 where
  pub users : List (List ℕ)
  pub ip : List ℕ
  pub sip_port : ℕ
  pub domain : List ℕ
  pub binding_rules : BindingRules

-- no user occurs twice
abbrev pub are_distinct : List (List ℕ) → Bool
are_distinct [] = true
are_distinct (u ∷ us) = not (list_any (λ v. pointwise nat_eq v u) us) && are_distinct us

-- ---- bindings over time

-- the bindings that are not over: one is over at its very moment of expiry
abbrev pub present : ℕ → List Binding → List Binding
present now bindings = filter (λ b. nat_lt now b.expires_at) bindings

-- no binding is over
abbrev pub AllLast : ℕ → List Binding → Type 0
AllLast now bindings = All (λ b. nat_lt now b.expires_at ≡ true) bindings

-- ---- the order of refresh

-- how many of these bindings were refreshed before it
abbrev pub rank : List Binding → Binding → ℕ
rank bindings b = count_by (λ c. nat_lt c.refreshed b.refreshed) bindings

-- the same binding, with this number
abbrev pub with_number : ℕ → Binding → Binding
with_number number b = record { uri = b.uri; expires_at = b.expires_at; call_id = b.call_id; cseq = b.cseq; refreshed = number }

-- numbered by their order
abbrev pub with_ranks : List Binding → List Binding
with_ranks bindings = map (λ b. with_number (rank bindings b) b) bindings

-- ---- one contact (section 10.3, step 7)

-- seconds: the contact's own, else those of the REGISTER, else the default (section 10.2.1.1)
abbrev pub lifetime : Register → Contact → ℕ
lifetime register contact = unwrap_or contact.expires (unwrap_or register.expires default_expires)

-- the binding of this contact
abbrev pub is_of : Uri → Binding → Bool
is_of uri b = same_binding b.uri uri

-- the request is of the Call-ID that bound it last, and no newer
abbrev pub is_older_than : Register → Binding → Bool
is_older_than register b = pointwise nat_eq b.call_id register.call_id && nat_le register.cseq b.cseq

abbrev pub is_stale : Register → Option Binding → Bool
is_stale register None = false
is_stale register (Some b) = is_older_than register b

-- what a contact is bound as, at a moment in milliseconds
abbrev pub binding_by : Register → Uri → ℕ → ℕ → ℕ → Binding
binding_by register uri seconds number now =
    record { uri = uri; expires_at = now + seconds * 1000; call_id = register.call_id; cseq = register.cseq; refreshed = number }

-- an existing binding keeps its place, and a new one goes last
abbrev pub put_at : List Binding → Binding → Option ℕ → List Binding
put_at bindings new None = bindings ++ new ∷ []
put_at bindings new (Some place) = slice_set bindings place new

abbrev pub put : List Binding → Binding → List Binding
put bindings new = put_at bindings new (position (is_of new.uri) bindings)

abbrev pub without : List Binding → Uri → List Binding
without bindings uri = filter (λ b. not (is_of uri b)) bindings

-- seconds, of which 0 removes, against the least that a binding lasts (section 10.3, step 7)
abbrev pub is_too_brief : ℕ → ℕ → Bool
is_too_brief least seconds = nat_lt 0 seconds && nat_lt seconds least

-- why a contact of this URI, for these seconds, is refused
abbrev pub uri_refusal : ℕ → Register → List Binding → Uri → ℕ → Option Refusal
uri_refusal least register bindings uri seconds =
    if is_too_brief least seconds then Some TooBrief
    else (if is_stale register (find (is_of uri) bindings) then Some OutOfOrder else None)

-- its binding goes, or it is bound
abbrev pub with_uri : Register → ℕ → List Binding → ℕ → Uri → ℕ → List Binding
with_uri register now bindings number uri seconds =
    if seconds == 0 then without bindings uri else put bindings (binding_by register uri seconds number now)

abbrev pub unless_refused : Option Refusal → Result (List Binding) Refusal → Result (List Binding) Refusal
unless_refused None after = after
unless_refused (Some refusal) after = Err refusal

abbrev pub refusal_of_uri : ℕ → Register → List Binding → Contact → Option Uri → Option Refusal
refusal_of_uri least register bindings contact None = Some BadContact
refusal_of_uri least register bindings contact (Some uri) = uri_refusal least register bindings uri (lifetime register contact)

-- why a contact is refused
abbrev pub contact_refusal : ℕ → Register → List Binding → Contact → Option Refusal
contact_refusal least register bindings contact = refusal_of_uri least register bindings contact contact.uri

-- the least lifetime is asked of what the contact asks for, and the greatest is granted in place of more
abbrev pub with_contact_at : BindingRules → Register → ℕ → List Binding → ℕ → Contact → Option Uri → Result (List Binding) Refusal
with_contact_at rules register now bindings number contact None = Err BadContact
with_contact_at rules register now bindings number contact (Some uri) =
    unless_refused (uri_refusal rules.min_expires register bindings uri (lifetime register contact))
    (Ok (with_uri register now bindings number uri (granted rules (lifetime register contact))))

abbrev pub with_contact : BindingRules → Register → ℕ → List Binding → ℕ → Contact → Result (List Binding) Refusal
with_contact rules register now bindings number contact = with_contact_at rules register now bindings number contact contact.uri

-- ---- all contacts of a REGISTER

abbrev pub and_then : Result (List Binding) Refusal → (List Binding → Result (List Binding) Refusal) → Result (List Binding) Refusal
and_then (Ok bindings) next = next bindings
and_then (Err refusal) next = Err refusal

-- a number after all of these, which were numbered by their order
abbrev pub first_number : List Binding → ℕ
first_number bindings = length bindings + 1

-- contact by contact, each refresh numbered after all before it
abbrev pub with_contacts : BindingRules → Register → ℕ → ℕ → List Contact → List Binding → Result (List Binding) Refusal
with_contacts rules register now number [] bindings = Ok bindings
with_contacts rules register now number (c ∷ cs) bindings =
    and_then (with_contact rules register now bindings number c) (λ kept. with_contacts rules register now (number + 1) cs kept)

-- at most as many bindings as a user may have, numbered by the order of their refresh
abbrev pub within_limit : List Binding → Result (List Binding) Refusal
within_limit bindings = if nat_lt max_bindings (length bindings) then Err TooManyBindings else Ok (with_ranks bindings)

-- ---- a star (section 10.3, step 6)

abbrev pub is_zero : Option ℕ → Bool
is_zero None = false
is_zero (Some seconds) = seconds == 0

-- a star is alone, and with Expires 0
abbrev pub is_star_misused : Register → Bool
is_star_misused register = register.star && not (length register.contacts == 0 && is_zero register.expires)

-- all bindings go with a star, unless the request is no newer than one of them
abbrev pub is_star_stale : Register → List Binding → Bool
is_star_stale register bindings = register.star && list_any (is_older_than register) bindings

-- ---- a contact that may be bound: an IPv4 address and a port that are not the server's own

abbrev pub is_bindable_at : List ℕ → ℕ → Option ℕ → Host → Bool
is_bindable_at ip sip_port port (Ip4 octets) = not (pointwise nat_eq octets ip && unwrap_or port default_port == sip_port)
is_bindable_at ip sip_port port (Name name) = false

abbrev pub is_bindable_uri : List ℕ → ℕ → Option Uri → Bool
is_bindable_uri ip sip_port None = false
is_bindable_uri ip sip_port (Some uri) = is_bindable_at ip sip_port uri.port uri.host

abbrev pub is_bindable : List ℕ → ℕ → Contact → Bool
is_bindable ip sip_port contact = is_bindable_uri ip sip_port contact.uri

-- ---- a REGISTER of a known user

-- why it is refused as a whole, before any of its contacts counts
unfoldable pub whole_refusal : Rules → Register → ℕ → List Binding → Option Refusal
whole_refusal rules register now bindings =
    if is_star_misused register then Some StarMisused
    else (if not (list_all (is_bindable rules.ip rules.sip_port) register.contacts) then Some BadContact
    else (if is_star_stale register (present now bindings) then Some OutOfOrder else None))

-- the changes of a REGISTER that is not refused as a whole: those of its star, or those of its contacts
abbrev pub bindings_by : Rules → Register → ℕ → List Binding → Result (List Binding) Refusal
bindings_by rules register now bindings =
    if register.star then Ok []
    else and_then
    (with_contacts rules.binding_rules register now (first_number bindings) register.contacts (present now bindings))
    (λ kept. within_limit (standing rules.binding_rules kept))

-- a user's bindings after a REGISTER, or why it is refused
unfoldable pub bindings_after_one : Rules → Register → ℕ → List Binding → Result (List Binding) Refusal
bindings_after_one rules register now bindings =
    unless_refused (whole_refusal rules register now bindings) (bindings_by rules register now bindings)

-- ---- the user

-- the server's address, or its domain without case
abbrev pub is_own_host : Rules → Host → Bool
is_own_host rules (Ip4 octets) = pointwise nat_eq octets rules.ip
is_own_host rules (Name name) = str_eq_ignore_ascii_case name rules.domain

-- the user that the To of a REGISTER names (section 10.3, steps 1 and 5)
unfoldable pub user_of : Rules → Uri → Option (List ℕ)
user_of rules to = if is_own_host rules to.host then to.user else None

-- a user of the office
abbrev pub is_known : Rules → List ℕ → Bool
is_known rules user = list_any (λ u. pointwise nat_eq u user) rules.users

-- these are the users, and all else is as before
abbrev pub with_users : Rules → List (List ℕ) → Rules
with_users rules users =
    record { users = users; ip = rules.ip; sip_port = rules.sip_port; domain = rules.domain; binding_rules = rules.binding_rules }

-- ---- the answer

abbrev pub answer_for : Rules → (List ℕ → List Binding) → Register → ℕ → Option (List ℕ) → Result (List Binding) Refusal
answer_for rules bindings register now None = Err UnknownUser
answer_for rules bindings register now (Some user) =
    if is_known rules user then bindings_after_one rules register now (bindings user) else Err UnknownUser

-- what a REGISTER is answered where these are the bindings of each user: what its user has then, or why it is refused
unfoldable pub answer_by : Rules → (List ℕ → List Binding) → Register → ℕ → Result (List Binding) Refusal
answer_by rules bindings register now = answer_for rules bindings register now register.user

abbrev pub refusal_for : Rules → (List ℕ → List Binding) → Register → ℕ → Option (List ℕ) → Option Refusal
refusal_for rules bindings register now None = Some UnknownUser
refusal_for rules bindings register now (Some user) =
    if is_known rules user then whole_refusal rules register now (bindings user) else Some UnknownUser

-- what a REGISTER is refused for as a whole: nobody has to be asked for memory to see it
unfoldable pub early_refusal : Rules → (List ℕ → List Binding) → Register → ℕ → Option Refusal
early_refusal rules bindings register now = refusal_for rules bindings register now register.user
