-- The command line, in the words of the parser.
use Rattle.std.specs.Prelude.{◌≡◌, ℕ, Bool, nat_eq, List, [], true, false, codes, ◌⊎◌, Option, Some, None, option_map, option_and_then}
use Rattle.std.specs.Cmp.Lexicographic.{pointwise}
use Rattle.clap.specs.declared.builder.action.ArgAction.TheVariants.{SetTrue}
use Rattle.clap.specs.Simple.{App, Shape, new_app, new_rule, on_top, with_rule, with_subcommand, subcommand_of}
use Rattle.clap.specs.Walk.{Row, Rule, first_of}
use Rattle.clap.specs.Takes.{takes}
use Rattle.clap.specs.Faults.{fault_of}
use Rattle.server.specs.declared.words.Asked.{Asked}
use Rattle.server.specs.declared.words.Asked.TheVariants.{Once, Replay, Follow, Serve}
use Rattle.server.specs.Turns.{turns_of}
use Rattle.server.specs.declared.words.CommandError.{CommandError}
use Rattle.server.specs.declared.words.CommandError.TheVariants.{Words, Help, OutOfMemory}

abbrev pub requiring : Shape → Shape
requiring s = record s { subcommand_required = true }

abbrev pub versioned : Shape → Shape
versioned s = record s { has_version = true }

-- `--config FILE`
abbrev pub config_rule : Rule
config_rule = record (new_rule (codes "config")) { long = Some (codes "config") }

-- `SCRIPT`, which has to be there
abbrev pub script_rule : Rule
script_rule = record (new_rule (codes "script")) { required = true }

-- `--config FILE`, which has to be there
abbrev pub office_rule : Rule
office_rule = record config_rule { required = true }

-- `--turns N`
abbrev pub turns_rule : Rule
turns_rule = record (new_rule (codes "turns")) { long = Some (codes "turns") }

-- `--notes`
abbrev pub notes_rule : Rule
notes_rule = record (new_rule (codes "notes")) { long = Some (codes "notes"); action = Some SetTrue }

abbrev pub once_app : App
once_app = new_app (codes "once")

abbrev pub replay_app : App
replay_app = with_rule (with_rule (with_rule (new_app (codes "replay")) config_rule) script_rule) notes_rule

abbrev pub follow_app : App
follow_app = with_rule (with_rule (new_app (codes "follow")) config_rule) notes_rule

abbrev pub serve_app : App
serve_app = with_rule (with_rule (new_app (codes "serve")) office_rule) turns_rule

-- `office once`, `office replay [--config FILE] [--notes] SCRIPT`, `office follow [--config FILE] [--notes]`, and
-- `office serve --config FILE [--turns N]`
abbrev pub office_app : App
office_app =
    with_subcommand (with_subcommand (with_subcommand (with_subcommand (on_top requiring (on_top versioned (new_app (codes "office")))) once_app.top) replay_app.top) follow_app.top) serve_app.top

-- the subcommand that the words name, and what they give its arguments
unfoldable pub entered_by : List (List ℕ) → Option (List ℕ × List Row)
entered_by words = subcommand_of office_app words

abbrev pub name_in : Option (List ℕ × List Row) → Option (List ℕ)
name_in entered = option_map (λ p. p.0) entered

-- the value of an argument
abbrev pub value_in : List ℕ → Option (List ℕ × List Row) → Option (List ℕ)
value_in id entered = option_and_then (λ p. first_of id p.1) entered

-- the parser finds no fault in these words
unfoldable pub passes : List (List ℕ) → Type 0
passes words = fault_of office_app words ≡ []

-- the parser takes these words
unfoldable pub is_taken : List (List ℕ) → Bool
is_taken words = takes office_app words

-- a flag is set
abbrev pub is_set : Option (List ℕ) → Bool
is_set None = false
is_set (Some value) = pointwise nat_eq value (codes "true")

-- `replay` with these values of its arguments
abbrev pub IsReplay : Option (List ℕ) → Option (List ℕ) → Option (List ℕ) → Asked → Type 0
IsReplay config_text script_text notes_text Once = ⊥
IsReplay config_text script_text notes_text (Follow config notes) = ⊥
IsReplay config_text script_text notes_text (Serve config turns) = ⊥
IsReplay config_text script_text notes_text (Replay config script notes) =
    (option_map (λ path. path.now) config ≡ config_text) × (Some script.now ≡ script_text) × (notes ≡ is_set notes_text)

-- `follow` with these values of its arguments
abbrev pub IsFollow : Option (List ℕ) → Option (List ℕ) → Asked → Type 0
IsFollow config_text notes_text Once = ⊥
IsFollow config_text notes_text (Replay config script notes) = ⊥
IsFollow config_text notes_text (Serve config turns) = ⊥
IsFollow config_text notes_text (Follow config notes) = (option_map (λ path. path.now) config ≡ config_text) × (notes ≡ is_set notes_text)

abbrev pub given_turns : Option ℕ → Option (Option ℕ)
given_turns None = None
given_turns (Some n) = Some (Some n)

-- this many turns, or no end, if no number is given; none if it is no number of turns
abbrev pub turns_in : Option (List ℕ) → Option (Option ℕ)
turns_in None = Some None
turns_in (Some text) = given_turns (turns_of text)

-- `serve` with these values of its arguments
abbrev pub IsServe : Option (List ℕ) → Option (List ℕ) → Asked → Type 0
IsServe config_text turns_text Once = ⊥
IsServe config_text turns_text (Follow config notes) = ⊥
IsServe config_text turns_text (Replay config script notes) = ⊥
IsServe config_text turns_text (Serve config turns) = (Some config.now ≡ config_text) × (Some turns ≡ turns_in turns_text)

-- no path, or no number of turns
abbrev pub LacksServe : Option (List ℕ) → Option (List ℕ) → Type 0
LacksServe config_text turns_text = (config_text ≡ None) ⊎ (turns_in turns_text ≡ None)

-- what a subcommand and its arguments ask for
abbrev pub AsksIn : Option (List ℕ × List Row) → Asked → Type 0
AsksIn entered Once = name_in entered ≡ Some (codes "once")
AsksIn entered (Replay config script notes) =
    (name_in entered ≡ Some (codes "replay")) × IsReplay (value_in (codes "config") entered) (value_in (codes "script") entered) (value_in (codes "notes") entered) (Replay config script notes)
AsksIn entered (Follow config notes) =
    (name_in entered ≡ Some (codes "follow")) × IsFollow (value_in (codes "config") entered) (value_in (codes "notes") entered) (Follow config notes)
AsksIn entered (Serve config turns) =
    (name_in entered ≡ Some (codes "serve")) × IsServe (value_in (codes "config") entered) (value_in (codes "turns") entered) (Serve config turns)

-- what the words ask for
abbrev pub Asks : List (List ℕ) → Asked → Type 0
Asks words asked = AsksIn (entered_by words) asked

-- words are refused only where the parser doesn't take them, or what it makes of them asks for nothing
abbrev pub RefusesWords : List (List ℕ) → CommandError → Type 0
RefusesWords words Words = (is_taken words ≡ true → ⊥) ⊎ ((asked : Asked) → Asks words asked → ⊥)
RefusesWords words (Help text) = is_taken words ≡ true → ⊥
RefusesWords words OutOfMemory = Unit {0}
