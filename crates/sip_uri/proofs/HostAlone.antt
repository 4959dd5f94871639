-- A host with nothing after it.
use Rattle.std.proofs.Common.{◌≡◌, ℕ, Bool, true, ◌||◌, ltb, List, Option, None, refl}
use Rattle.std.specs.List.{list_all}
use Rattle.text.proofs.CutLaws.{Lacks-from_class, before_none, after_none}
use Rattle.sip_uri.specs.RawUri.{parts_from}

abbrev is_no_mark : ℕ → Bool
is_no_mark b = ltb b 58 || ltb 63 b

-- if no byte begins a port, parameters or headers, all is the host
pub host_alone : (user : Option (List ℕ)) (text : List ℕ) → list_all is_no_mark text ≡ true
    → parts_from user text ≡ record { user = user; host = text; port = None; params = None; headers = None }
host_alone user text h =
    let query = Lacks-from_class is_no_mark 63 refl text h in
    let semicolon = Lacks-from_class is_no_mark 59 refl text h in
    let colon = Lacks-from_class is_no_mark 58 refl text h in
    rw (before_none 63 text query, after_none 63 text query, before_none 59 text semicolon, after_none 59 text semicolon, before_none 58 text colon, after_none 58 text colon) refl
