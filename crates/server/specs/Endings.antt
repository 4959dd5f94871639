-- How a run of the program ends, and what the shell and the user see.
use Rattle.std.specs.Prelude.{◌≡◌, ℕ, List, Option, Some, None, option_map}
use Rattle.std.specs.Io.KnownBytes.{Keeps}
use Rattle.server.specs.declared.ending.Ending.{Ending}
use Rattle.server.specs.declared.ending.Ending.TheVariants.{Done, Refused, Broken}
use Rattle.server.specs.declared.fault.Fault.{Fault}
use Rattle.server.specs.declared.words.Asked.{Asked}
use Rattle.server.specs.declared.words.Asked.TheVariants.{Once, Replay, Follow, Serve}
use Rattle.server.specs.Leaves.{Leaves}
use Rattle.server.specs.Once.{Answers}
use Rattle.server.specs.Replay.{Replays, ReplayLeaves}
use Rattle.server.specs.Stream.{Follows, FollowLeaves}
use Rattle.server.specs.Serve.{Request, Serves, ServeLeaves}
use Rattle.server.specs.Statuses.{status_of, fault_words_of, reason_of, command_status_of, command_words_of, command_help_of}
use Rattle.server.specs.Words.{Asks, RefusesWords}

abbrev pub ending_status_of : Ending → ℕ
ending_status_of Done = 0
ending_status_of (Refused error) = command_status_of error
ending_status_of (Broken fault) = status_of fault

abbrev pub ending_words_of : Ending → Option (List ℕ)
ending_words_of Done = None
ending_words_of (Refused error) = Some (command_words_of error)
ending_words_of (Broken fault) = Some (fault_words_of fault)

abbrev pub ending_reason_of : Ending → Option Fault
ending_reason_of Done = None
ending_reason_of (Refused error) = None
ending_reason_of (Broken fault) = reason_of fault

abbrev pub ending_help_of : Ending → Option (List ℕ)
ending_help_of Done = None
ending_help_of (Refused error) = command_help_of error
ending_help_of (Broken fault) = None

-- the bytes of the file at a path, if they are known
abbrev pub Files : Type 0
Files = List ℕ → Option (List ℕ)

-- what became of the bytes that the reader had left and the writer held, and of what the host was asked, if the
-- request was completed
abbrev pub Does : Files → Asked → Option (List ℕ) → Option (List ℕ) → Option (List ℕ) → Option (List ℕ) → Request → Request → Type 0
Does files Once left left_after held held_after host host_after = Answers left left_after held held_after × (host_after ≡ host)
Does files (Replay config script notes) left left_after held held_after host host_after =
    Keeps left left_after × Replays notes (option_map (λ path. files path.now) config) (files script.now) held held_after × (host_after ≡ host)
Does files (Follow config notes) left left_after held held_after host host_after =
    Follows notes (option_map (λ path. files path.now) config) left left_after held held_after × (host_after ≡ host)
Does files (Serve config turns) left left_after held held_after host host_after =
    Keeps left left_after × Keeps held held_after × Serves (files config.now) turns host_after

-- and if a fault ended it
abbrev pub Breaks : Files → Asked → Fault → Option (List ℕ) → Option (List ℕ) → Option (List ℕ) → Request → Request → Type 0
Breaks files Once fault left held held_after host host_after = Leaves fault held held_after × (host_after ≡ host)
Breaks files (Replay config script notes) fault left held held_after host host_after =
    ReplayLeaves notes (option_map (λ path. files path.now) config) (files script.now) fault held held_after × (host_after ≡ host)
Breaks files (Follow config notes) fault left held held_after host host_after =
    FollowLeaves notes (option_map (λ path. files path.now) config) left fault held held_after × (host_after ≡ host)
Breaks files (Serve config turns) fault left held held_after host host_after = Keeps held held_after × ServeLeaves (files config.now) turns host host_after fault

-- what was asked, and what became of the bytes and of the host
abbrev pub Ends : List (List ℕ) → Files → Ending → Option (List ℕ) → Option (List ℕ) → Option (List ℕ) → Option (List ℕ) → Request → Request → Type 0
Ends words files Done left left_after held held_after host host_after =
    (asked : Asked) × Asks words asked × Does files asked left left_after held held_after host host_after
Ends words files (Refused error) left left_after held held_after host host_after =
    RefusesWords words error × Keeps left left_after × Keeps held held_after × (host_after ≡ host)
Ends words files (Broken fault) left left_after held held_after host host_after =
    (asked : Asked) × Asks words asked × Breaks files asked fault left held held_after host host_after
