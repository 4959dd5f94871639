-- The users on the page, with the contacts at which they are bound.
use Rattle.std.specs.Prelude.{ℕ, List, ◌++◌, [], ◌∷◌, length, codes, decimal}
use Rattle.std.specs.List.{flat_map}
use Rattle.pages.specs.Escape.{html}
use Rattle.pages.specs.Pieces.{together}
use Rattle.status.specs.declared.user.BindingStatus.{BindingStatus}
use Rattle.status.specs.declared.user.UserStatus.{UserStatus}

abbrev pub binding_row : List ℕ → BindingStatus → List ℕ
binding_row name binding = together (
    codes "<tr><td>" ∷ html name ∷ codes "</td><td>" ∷ html binding.contact ∷ codes "</td><td>" ∷
    decimal binding.seconds_left ∷ codes "</td></tr>\n" ∷ [])

abbrev pub unbound_row : List ℕ → List ℕ
unbound_row name = together (
    codes "<tr><td>" ∷ html name ∷ codes "</td><td colspan=\"2\" class=\"off\">not registered</td></tr>\n" ∷ [])

-- a row for each binding, or one that says that there is none
abbrev pub rows_of : List ℕ → List BindingStatus → List ℕ
rows_of name [] = unbound_row name
rows_of name (b ∷ bs) = flat_map (binding_row name) (b ∷ bs)

abbrev pub user_rows : UserStatus → List ℕ
user_rows user = rows_of user.name user.bindings

abbrev pub users_heading : ℕ → List ℕ
users_heading count = together (
    codes "<h2>Users: " ∷ decimal count ∷
    codes "</h2>\n<div><table>\n<tr><th>User</th><th>Bound at</th><th>Seconds left</th></tr>\n" ∷ [])

unfoldable pub users_table : List UserStatus → List ℕ
users_table users = together (users_heading (length users) ∷ flat_map user_rows users ∷ codes "</table></div>\n" ∷ [])
