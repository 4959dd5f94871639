-- When two contacts are one binding.
use Rattle.std.specs.Prelude.{◌≡◌, ℕ, Bool, true, false, ◌&&◌, nat_eq, List, codes, Option, Some, None, option_map, find}
use Rattle.std.specs.Str.{str_to_ascii_lowercase, str_eq_ignore_ascii_case}
use Rattle.std.specs.Option.{option_eq}
use Rattle.std.specs.Cmp.Lexicographic.{pointwise}
use Rattle.sip_uri.specs.declared.uri.Uri.{Uri}
use Rattle.sip_uri.specs.declared.uri.Param.{Param}
use Rattle.sip_uri.specs.declared.uri.Host.{Host}
use Rattle.sip_uri.specs.declared.uri.Host.TheVariants.{Ip4, Name}

-- both missing, or the same text
abbrev pub same_text : Option (List ℕ) → Option (List ℕ) → Bool
same_text None None = true
same_text (Some a) (Some b) = pointwise nat_eq a b
same_text None (Some b) = false
same_text (Some a) None = false

-- the same octets, or the same name ignoring case
abbrev pub same_host : Host → Host → Bool
same_host (Ip4 a) (Ip4 b) = pointwise nat_eq a b
same_host (Name a) (Name b) = str_eq_ignore_ascii_case a b
same_host (Ip4 a) (Name b) = false
same_host (Name a) (Ip4 b) = false

-- the first parameter of this name, ignoring case
abbrev pub param_named : List ℕ → List Param → Option Param
param_named name ps = find (λ p. str_eq_ignore_ascii_case p.name name) ps

-- both without a value, or with the same one ignoring case
abbrev pub same_value : Option (List ℕ) → Option (List ℕ) → Bool
same_value None None = true
same_value (Some a) (Some b) = str_eq_ignore_ascii_case a b
same_value None (Some b) = false
same_value (Some a) None = false

-- both missing, or there with the same value
abbrev pub same_found : Option Param → Option Param → Bool
same_found None None = true
same_found (Some p) (Some q) = same_value p.value q.value
same_found None (Some q) = false
same_found (Some p) None = false

abbrev pub same_param : List ℕ → List Param → List Param → Bool
same_param name ps qs = same_found (param_named name ps) (param_named name qs)

-- user, host and port as written agree, and so do five of the parameters
unfoldable pub same_binding : Uri → Uri → Bool
same_binding a b =
    same_text a.user b.user && same_host a.host b.host && option_eq nat_eq a.port b.port
    && same_param (codes "user") a.params b.params
    && same_param (codes "ttl") a.params b.params
    && same_param (codes "method") a.params b.params
    && same_param (codes "maddr") a.params b.params
    && same_param (codes "transport") a.params b.params

-- ---- as equations

-- the host ignoring case
abbrev pub host_key : Host → Host
host_key (Ip4 octets) = Ip4 octets
host_key (Name name) = Name (str_to_ascii_lowercase name)

-- the value ignoring case, if there is one
abbrev pub param_key : Param → Option (List ℕ)
param_key p = option_map str_to_ascii_lowercase p.value

-- both missing, or there with one value
abbrev pub SameParam : List ℕ → List Param → List Param → Type 0
SameParam name ps qs = option_map param_key (param_named name ps) ≡ option_map param_key (param_named name qs)

pub record SameBinding (a b : Uri) : Type 0 where
  pub user : a.user ≡ b.user
  pub host : host_key a.host ≡ host_key b.host
  pub port : a.port ≡ b.port
  pub user_param : SameParam (codes "user") a.params b.params
  pub ttl : SameParam (codes "ttl") a.params b.params
  pub method : SameParam (codes "method") a.params b.params
  pub maddr : SameParam (codes "maddr") a.params b.params
  pub transport : SameParam (codes "transport") a.params b.params
