-- Where a medium of a description is to be sent (RFC 4566 sections 5.7 and 5.14).
use Rattle.std.specs.Prelude.{Option, option_map}
use Rattle.std.specs.Option.{option_or}
use Rattle.sdp.specs.declared.address.Address.{Address}
use Rattle.sdp.specs.declared.description.Description.{Description}
use Rattle.sdp.specs.declared.description.Media.{Media}
use Rattle.sdp.specs.Place.{Place}

-- the medium's own address, or otherwise the session's
abbrev pub address_of_medium : Description → Media → Option Address
address_of_medium d m = option_or m.connection d.connection

-- that address with the medium's port
abbrev pub place_of : Description → Media → Option Place
place_of d m = option_map (λ a. record { address = a; port = m.port }) (address_of_medium d m)
