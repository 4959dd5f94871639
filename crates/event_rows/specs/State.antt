-- What the agent knows.
use Rattle.std.specs.Prelude.{◌≡◌, ◌≢◌, ℕ, ◌<◌, ◌≤◌, ◌^◌, ◌+◌, ◌-◌, ◌*◌, max, List, [], Option, Some, None, option_and_then}
use Rattle.index.specs.declared.print.PrintKey.{PrintKey}
use Rattle.configuration.specs.declared.config.Config.{Config}
use Rattle.configuration.specs.declared.error.ConfigError.{ConfigError}
use Rattle.configuration.specs.declared.error.ConfigError.TheVariants.{OutOfMemory, RelayPorts, Address, Users, MinExpires, Domain, CallDuration, SourceShare, File}
use Rattle.configuration.specs.Domain.{domain_text}
use Rattle.configuration.specs.Rules.{first_broken}
use Rattle.registrar.specs.Registering.{Rules}
use Rattle.registrar.specs.declared.binding_rules.BindingRules.{BindingRules}
use Rattle.registrar.specs.Changes.{after_change, user_of_change}
use Rattle.registrar.specs.Registrar.{StandsAfter, rules_given}
use Rattle.registrar.specs.declared.change.RegistrarChange.{RegistrarChange}
use Rattle.registrar.specs.Registrar as registrar
use Rattle.transactions.specs.Contents as transactions
use Rattle.transactions.specs.declared.rules.TableRules.{TableRules}
use Rattle.transactions.specs.Changes.{entered_all}
use Rattle.event_rows.specs.declared.tally.Tally.{Tally}
use Rattle.plans.specs.declared.note.Note.{Note}
use Rattle.plans.specs.declared.note.Note.TheVariants.{Quiet}
use Rattle.plans.specs.declared.taken.Taken.{Taken}
use Rattle.sip_uri.specs.declared.uri.Addr.{Addr}
use Rattle.port_pool.specs.Pool.{new_pool}
use Rattle.port_pool.specs.declared.changes.Change.{Change}
use Rattle.offer_answer.specs.declared.range.OwnRange.{OwnRange}
use Rattle.offer_answer.specs.Direct.{hold_address}
use Rattle.calls.specs.State.{Standing}
use Rattle.plans.specs.declared.acks.KeptAck.{KeptAck}
use Rattle.plans.specs.Effect.{Effect}
use Rattle.plans.specs.Note.{note_of_taken}
use Rattle.plans.specs.Office.{Office}
use Rattle.event_rows.specs.Lifetimes.{lifetime_of, with_lifetime}
use Rattle.event_rows.specs.Tally.{counted, none_counted}

-- the registrar, the transactions, the calls with their pool, the ACKs that are sent again, and the changes that the
-- last event made in the relay table; where the server is reached, its relay ports, the least number of seconds that
-- a binding has to last, and the milliseconds that a call may last; the greatest moment so far in milliseconds, how
-- many tokens were made, how many events got each answer, what the last was about, and whose bindings it set; and the
-- key of the prints under which calls are looked up
pub record Contents : Type 0 where
  pub registrar : registrar.Contents
  pub table : transactions.Contents
  pub calls : Standing
  pub acks : List KeptAck
  pub changes : List Change
  pub server : Addr
  pub range : OwnRange
  pub least : ℕ
  pub lifetime : Option ℕ
  pub moment : ℕ
  pub tokens : ℕ
  pub tally : Tally
  pub note : Note
  pub registered : Option (List ℕ)
  pub calls_key : PrintKey

-- what a plan looks at
abbrev pub office : Contents → Office
office s = record {
  registrar = s.registrar;
  table = s.table;
  calls = s.calls;
  acks = s.acks;
  server = s.server;
  range = s.range;
  least = s.least;
  tokens = s.tokens;
}

-- a moment that can be counted with
abbrev pub moments_end : ℕ
moments_end = 2 ^ 60

-- as many tokens may be made before an event
abbrev pub max_tokens : ℕ
max_tokens = 2 ^ 63

-- every moment is before the end; each call that began made tokens, of which one more can be counted; and the server
-- has an address
pub record IsCounted (moment tokens begun : ℕ) (range : OwnRange) : Type 0 where
  pub early : moment < 2 ^ 60
  pub few : tokens + 1 < 2 ^ 64
  pub counted : begun ≤ tokens
  pub somewhere : range.ip ≢ hold_address

-- the moment of an event is the greatest so far
abbrev pub moment_at : Contents → ℕ → ℕ
moment_at s now = max s.moment now

abbrev pub registered_by : registrar.Contents → Option RegistrarChange → registrar.Contents
registered_by r None = r
registered_by r (Some change) = after_change r change

-- the agent after an event of this moment that had this effect
unfoldable pub after_event : Contents → ℕ → Effect → Contents
after_event s now e = record {
  registrar = registered_by s.registrar e.plan.registration;
  table = entered_all now s.table e.plan.changes;
  calls = with_lifetime s.lifetime now e.plan.note e.calls.standing;
  acks = e.acks;
  changes = e.calls.changes;
  server = s.server;
  range = s.range;
  least = s.least;
  lifetime = s.lifetime;
  moment = now;
  tokens = s.tokens + e.plan.made;
  tally = counted s.tally e.plan.taken;
  note = e.plan.note;
  registered = option_and_then user_of_change e.plan.registration;
  calls_key = s.calls_key;
}

-- the agent after an event that was only counted
abbrev pub after_count : Contents → ℕ → Taken → Contents
after_count s now taken = record s { changes = []; moment = now; tally = counted s.tally taken; note = note_of_taken taken; registered = None }

-- ---- the agent of a configuration

abbrev pub binding_rules_of : Config → BindingRules
binding_rules_of c = record { min_expires = c.min_expires; max_expires = c.max_expires; oldest_leaves = c.oldest_leaves }

abbrev pub rules_by : Config → Rules
rules_by c = rules_given c.users c.ip c.sip_port (domain_text c) (binding_rules_of c)

abbrev pub server_of : Config → Addr
server_of c = record { ip = c.ip; port = c.sip_port }

-- from the first relay port to the last
abbrev pub range_of : Config → OwnRange
range_of c = record { ip = c.ip; first = c.relay_first; last = c.relay_first + (2 * c.relay_pairs - 1) }

-- a callee's telephone has this many milliseconds for its first response, and one address this many server
-- transactions
abbrev pub table_rules_of : Config → TableRules
table_rules_of c = record { first_wait = 1000 * c.answer_within; share = c.source_share }

-- nothing has happened: no REGISTER was taken, no transaction is live, and no timer is set
pub record IsNew (c : Config) (s : Contents) : Type 0 where
  pub registers : StandsAfter s.registrar (rules_by c) []
  pub slots : s.table.slots ≡ []
  pub timers : s.table.timers ≡ []
  pub table_rules : s.table.rules ≡ table_rules_of c
  pub calls : s.calls.calls ≡ []
  pub begun : s.calls.begun ≡ 0
  pub call_timers : s.calls.timers ≡ []
  pub pool : s.calls.pool ≡ new_pool c.relay_first c.relay_pairs
  pub acks : s.acks ≡ []
  pub changes : s.changes ≡ []
  pub server : s.server ≡ server_of c
  pub range : s.range ≡ range_of c
  pub least : s.least ≡ c.min_expires
  pub lifetime : s.lifetime ≡ lifetime_of c
  pub moment : s.moment ≡ 0
  pub tokens : s.tokens ≡ 0
  pub tally : s.tally ≡ none_counted
  pub note : s.note ≡ Quiet
  pub registered : s.registered ≡ None

-- transactions, users and calls are looked up by prints under this key
pub record HasKey (key : PrintKey) (s : Contents) : Type 0 where
  pub transactions : s.table.key ≡ key
  pub users : s.registrar.key ≡ key
  pub calls : s.calls_key ≡ key

-- the first broken rule is reported; running out of memory is possible only where none is broken
abbrev pub RefusesConfig : Config → ConfigError → Type 0
RefusesConfig c OutOfMemory = first_broken c ≡ None
RefusesConfig c RelayPorts = first_broken c ≡ Some RelayPorts
RefusesConfig c Address = first_broken c ≡ Some Address
RefusesConfig c Users = first_broken c ≡ Some Users
RefusesConfig c MinExpires = first_broken c ≡ Some MinExpires
RefusesConfig c Domain = first_broken c ≡ Some Domain
RefusesConfig c CallDuration = first_broken c ≡ Some CallDuration
RefusesConfig c SourceShare = first_broken c ≡ Some SourceShare
RefusesConfig c File = ⊥
