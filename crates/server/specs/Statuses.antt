-- The exit statuses of the program, and its words on standard error.
use Rattle.std.specs.Prelude.{ℕ, List, codes, Option, Some, None, string_bytes}
use Rattle.server.specs.declared.fault.Fault.{Fault}
use Rattle.server.specs.declared.fault.Fault.TheVariants.{Input, Script, Config, Output, Socket, OutOfMemory}
use Rattle.server.specs.declared.words.CommandError.{CommandError}
use Rattle.server.specs.declared.words.CommandError.TheVariants as Words

abbrev pub status_of : Fault → ℕ
status_of Input = 4
status_of (Script at) = 4
status_of (Config fault) = 3
status_of Output = 4
status_of Socket = 5
status_of OutOfMemory = 6

abbrev pub fault_words_of : Fault → List ℕ
fault_words_of Input = codes "office: script"
fault_words_of (Script at) = codes "office: script"
fault_words_of (Config fault) = codes "office: config"
fault_words_of Output = codes "office: script"
fault_words_of Socket = codes "office: socket"
fault_words_of OutOfMemory = codes "office: memory"

-- a fault of which more is known than its words say
abbrev pub reason_of : Fault → Option Fault
reason_of Input = None
reason_of (Script at) = Some (Script at)
reason_of (Config fault) = Some (Config fault)
reason_of Output = None
reason_of Socket = None
reason_of OutOfMemory = None

abbrev pub command_status_of : CommandError → ℕ
command_status_of Words.Words = 2
command_status_of (Words.Help text) = 2
command_status_of Words.OutOfMemory = 6

abbrev pub command_words_of : CommandError → List ℕ
command_words_of Words.Words = codes "office: command line"
command_words_of (Words.Help text) = codes "office: command line"
command_words_of Words.OutOfMemory = codes "office: memory"

-- the help that was asked for
abbrev pub command_help_of : CommandError → Option (List ℕ)
command_help_of Words.Words = None
command_help_of (Words.Help text) = Some (string_bytes text)
command_help_of Words.OutOfMemory = None
