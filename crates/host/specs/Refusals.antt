-- What a refusal of the system means for the program.
use Rattle.std.specs.Prelude.{◌≡◌, ◌≢◌}
use Rattle.std.specs.declared.io.ErrorKind.{ErrorKind}
use Rattle.std.specs.declared.io.ErrorKind.TheVariants as kinds
use Rattle.server.specs.declared.host.HostFault.{HostFault}
use Rattle.server.specs.declared.host.HostFault.TheVariants.{Socket, OutOfMemory}
use Rattle.host.specs.declared.refusal.Refusal.{Refusal}
use Rattle.host.specs.declared.refusal.Refusal.TheVariants.{Unbound, Descriptors}

-- a lack of memory, or else a socket that could not be opened
pub record IsFaultOfKind (kind : ErrorKind) (fault : HostFault) : Type 0 where
  pub memory : kind ≡ kinds.OutOfMemory → fault ≡ OutOfMemory
  pub socket : kind ≢ kinds.OutOfMemory → fault ≡ Socket

abbrev pub IsFaultOf : Refusal → HostFault → Type 0
IsFaultOf (Unbound unbound) fault = IsFaultOfKind unbound.kind fault
IsFaultOf (Descriptors few) fault = fault ≡ Socket
