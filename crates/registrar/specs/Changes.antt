-- What a REGISTER, or a list of users, is to change in the registrar.
use Rattle.std.specs.Prelude.{ℕ, List, map, Option, Some, None}
use Rattle.registrar.specs.declared.change.RegistrarChange.{RegistrarChange}
use Rattle.registrar.specs.declared.change.RegistrarChange.TheVariants.{Binds, Lists}
use Rattle.registrar.specs.declared.user_bindings.UserBindings.{UserBindings}
use Rattle.registrar.specs.Registrar.{Contents, ListingContents, after_plan, bindings_of}

-- ---- a list of users

-- a user with what it is bound to there: nothing, for one who was no user
abbrev pub kept_entry : List UserBindings → List ℕ → UserBindings
kept_entry entries user = record { user = user; bindings = bindings_of entries user }

abbrev pub kept_entries : List UserBindings → List (List ℕ) → List UserBindings
kept_entries entries users = map (kept_entry entries) users

-- these users, each with what it is bound to there, who are looked up as before
abbrev pub listing_of : Contents → List (List ℕ) → ListingContents
listing_of r users = record { entries = kept_entries r.entries users; key = r.key }

abbrev pub with_listing : Contents → ListingContents → Contents
with_listing r listing =
    record { entries = listing.entries; ip = r.ip; sip_port = r.sip_port; domain = r.domain; binding_rules = r.binding_rules; key = listing.key }

-- the registrar once these are the users: one who was one keeps its bindings
abbrev pub listed : Contents → List (List ℕ) → Contents
listed r users = with_listing r (listing_of r users)

-- ---- either

-- the registrar once a change is made
abbrev pub after_change : Contents → RegistrarChange → Contents
after_change r (Binds plan) = after_plan r plan
after_change r (Lists listing) = with_listing r listing

-- whose bindings a change sets
abbrev pub user_of_change : RegistrarChange → Option (List ℕ)
user_of_change (Binds plan) = Some plan.user
user_of_change (Lists listing) = None
