-- The value of an o= line (RFC 4566 sections 5.2 and 9): six fields separated by single spaces.
use Rattle.std.specs.Prelude.{◌≡◌, ℕ, Bool, ◌&&◌, IsTrue, List, [], unwrap_or}
use Rattle.text.specs.Cut.{before, after}
use Rattle.sdp.specs.declared.description.Origin.{Origin}
use Rattle.sdp.specs.Classes.{is_token, is_word, is_number}
use Rattle.sdp.specs.Writing.{origin_text}

-- what comes after the first space: nothing if there is none
abbrev pub behind_space : List ℕ → List ℕ
behind_space text = unwrap_or (after 32 text) []

-- each field ends at the next space
unfoldable pub origin_of : List ℕ → Origin
origin_of text =
    let a = behind_space text in
    let b = behind_space a in
    let c = behind_space b in
    let d = behind_space c in
    record {
      username = before 32 text;
      id = before 32 a;
      version = before 32 b;
      network_type = before 32 c;
      address_type = before 32 d;
      address = behind_space d;
    }

-- user name and address are not checked
unfoldable pub is_origin : Origin → Bool
is_origin o =
    is_word o.username && is_number o.id && is_number o.version && is_token o.network_type && is_token o.address_type && is_word o.address

-- the value of an o= line is this origin
pub record IsOrigin (value : List ℕ) (o : Origin) : Type 0 where
  pub whole : value ≡ origin_text o
  pub form : IsTrue (is_origin o)
