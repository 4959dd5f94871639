-- Who may register, and where they are bound (RFC 3261 section 10.3).
use Rattle.std.specs.Prelude.{ℕ, List, [], ◌∷◌, ◌-◌, nat_lt, if◌then◌else◌}
use Rattle.std.specs.List.{flat_map}
use Rattle.std.specs.Int.{div_ceil}
use Rattle.registrar.specs.declared.binding.Binding.{Binding}
use Rattle.registrar.specs.declared.user_bindings.UserBindings.{UserBindings}
use Rattle.sip_uri.specs.Writing.{uri_text}
use Rattle.status.specs.declared.user.BindingStatus.{BindingStatus}
use Rattle.status.specs.declared.user.UserStatus.{UserStatus}

-- the remaining seconds, rounded up
abbrev pub binding_status : ℕ → Binding → BindingStatus
binding_status now binding = record { contact = uri_text binding.uri; seconds_left = div_ceil (binding.expires_at - now) 1000 }

-- that of a binding, unless it has expired
abbrev pub present_status : ℕ → Binding → List BindingStatus
present_status now binding = if nat_lt now binding.expires_at then binding_status now binding ∷ [] else []

-- those of the bindings that have not expired, in order
abbrev pub bindings_at : ℕ → List Binding → List BindingStatus
bindings_at now bindings = flat_map (present_status now) bindings

abbrev pub user_status : ℕ → UserBindings → UserStatus
user_status now entry = record { name = entry.user; bindings = bindings_at now entry.bindings }
