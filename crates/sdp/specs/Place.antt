-- Where a medium is to be sent: an address and a port.
use Rattle.std.specs.Prelude.{ℕ}
use Rattle.sdp.specs.declared.address.Address.{Address}

pub record Place : Type 0 where
  pub address : Address
  pub port : ℕ
