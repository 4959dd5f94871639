-- The users in JSON, with the contacts at which they are bound.
use Rattle.std.specs.Prelude.{ℕ, List, ◌++◌, [], ◌∷◌, codes, decimal}
use Rattle.pages.specs.Escape.{json}
use Rattle.pages.specs.Pieces.{listed, together}
use Rattle.status.specs.declared.user.BindingStatus.{BindingStatus}
use Rattle.status.specs.declared.user.UserStatus.{UserStatus}

unfoldable pub binding_object : BindingStatus → List ℕ
binding_object binding = together (
    codes "{\"contact\":\"" ∷ json binding.contact ∷ codes "\",\"seconds_left\":" ∷
    decimal binding.seconds_left ∷ codes "}" ∷ [])

abbrev pub user_start : UserStatus → List ℕ
user_start user = together (
    codes "{\"name\":\"" ∷ json user.name ∷ codes "\",\"bindings\":[" ∷ [])

unfoldable pub user_object : UserStatus → List ℕ
user_object user = together (user_start user ∷ listed binding_object user.bindings ∷ codes "]}" ∷ [])
