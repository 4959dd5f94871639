-- What the faults of other crates are to the program.
use Rattle.configuration.specs.declared.error.ConfigError.{ConfigError}
use Rattle.configuration.specs.declared.error.ConfigError.TheVariants as refusals
use Rattle.scripts.specs.declared.error.ScriptError.{ScriptError}
use Rattle.scripts.specs.declared.error.ScriptError.TheVariants as scripts
use Rattle.std.specs.Prelude.{ℕ, None}
use Rattle.server.specs.declared.host.HostFault.{HostFault}
use Rattle.server.specs.declared.host.HostFault.TheVariants as hosts
use Rattle.server.specs.declared.fault.Fault.{Fault}
use Rattle.server.specs.declared.fault.Fault.TheVariants.{Input, Script, Config, Output, Socket, OutOfMemory}

-- of a configuration
abbrev pub config_fault : ConfigError → Fault
config_fault refusals.OutOfMemory = OutOfMemory
config_fault refusals.RelayPorts = Config None
config_fault refusals.Address = Config None
config_fault refusals.Users = Config None
config_fault refusals.MinExpires = Config None
config_fault refusals.Domain = Config None
config_fault refusals.CallDuration = Config None
config_fault refusals.SourceShare = Config None
config_fault refusals.File = Config None

-- of reading the file of a configuration
abbrev pub unread_config : Fault → Fault
unread_config Input = Config None
unread_config (Script at) = Config None
unread_config (Config fault) = Config None
unread_config Output = Config None
unread_config Socket = Config None
unread_config OutOfMemory = OutOfMemory

-- of the event that begins `at` bytes from the head of a script
abbrev pub event_fault : ScriptError → ℕ → Fault
event_fault scripts.Malformed at = Script at
event_fault scripts.OutOfMemory at = OutOfMemory

-- of what serves on sockets
abbrev pub host_fault : HostFault → Fault
host_fault hosts.Socket = Socket
host_fault hosts.OutOfMemory = OutOfMemory
