-- What is known of an agent, whatever events came, stays known at each event.
use Rattle.std.proofs.Common.{ℕ, suc, ◌<◌, ◌^◌, List, [], ◌++◌, Option}
use Rattle.std.specs.List.{All}
use Rattle.std.proofs.lemmas.List.Elements.{All-nil}
use Rattle.event_rows.specs.Rows.{after, row}
use Rattle.event_rows.specs.State.{Contents, IsNew, office}
use Rattle.call_trace.specs.declared.call.Call.{Call}
use Rattle.call_trace.specs.declared.datagram.Datagram.{Datagram}
use Rattle.call_trace.specs.declared.datagram.Message.{Message}
use Rattle.call_trace.specs.Events.{passed}
use Rattle.call_trace.specs.Lives.{Stands}
use Rattle.call_trace.specs.Messages.{offering}
use Rattle.call_trace.specs.Moves.{Move}
use Rattle.configuration.specs.declared.config.Config.{Config}
use Rattle.configuration.specs.Rules.{KeepsRules}
use Rattle.events.specs.declared.event.Event.{Event}
use Rattle.events.specs.declared.sent.Sent.{Sent}
use Rattle.media_laws.specs.Standing.{Knows}
use Rattle.media_laws.specs.Known.{KnowsAgent}
use Rattle.media_laws.specs.Byes.{KnowsByes}
use Rattle.media_laws.proofs.RisingNumbers.RaisedRows.{after_taken, new_taken}
use Rattle.plans.specs.Office.{Office}
use Rattle.message_laws.specs.Addresses.{IsConfigured}
use Rattle.message_laws.specs.Askers.{KnowsAskers}
use Rattle.message_laws.specs.Bodies.{KnowsDescriptions}
use Rattle.message_laws.specs.Datagrams.{ComesFromSource, IsOwnDatagram}
use Rattle.message_laws.specs.Knowing.{KnowsTokens}
use Rattle.message_laws.specs.Numbers.{begun_of}
use Rattle.message_laws.specs.Sending.{KnowsSent}
use Rattle.message_laws.specs.Sound.{KnowsDialogs}
use Rattle.message_laws.proofs.Askers.AskerKnown.{after_askers, after_kept, after_own, new_askers}
use Rattle.message_laws.proofs.StandingCalls.Asking.{all_asked}
use Rattle.message_laws.proofs.Messages.BodyRows.{after_bodies, new_bodies}
use Rattle.message_laws.proofs.StandingCalls.CalleeRows.{NamesContact, after_callees, new_callees}
use Rattle.message_laws.proofs.TokenUse.Events.{after_knows, new_knows}
use Rattle.message_laws.proofs.StandingCalls.OpenRows.{after_requests, new_requests}
use Rattle.message_laws.proofs.AwaitedOffers.Rising.{after_numbers, new_numbers}
use Rattle.message_laws.proofs.Messages.SendRows.{after_sent, new_sent}
use Rattle.message_laws.proofs.StandingCalls.SoundRows.{after_dialogs, new_dialogs}
use Rattle.message_laws.proofs.AwaitedOffers.WaitEvents.{after_waits, new_waits}
use Rattle.media_laws.specs.Ties.{AreTied}
use Rattle.media_laws.proofs.Scenes.MachineEvents.{after_machines, new_machines}
use Rattle.message_laws.specs.ReadDatagrams.{IsReadDatagram, IsReadText}
use Rattle.message_laws.specs.SoundClients.{KnowsClients}
use Rattle.message_laws.proofs.StandingCalls.ClientRows.{after_clients, new_clients}
use Rattle.media_laws.proofs.Scenes.CountingRows.{after_leaves, new_leaves}
use Rattle.message_laws.specs.Serving.{AreStaged, KnowsServing}
use Rattle.media_laws.specs.Steps.{IsAfter}
use Rattle.sip_message.specs.Grammar.{ReadsMessage}
use Rattle.message_laws.specs.Asked.{KnowsAsked}
use Rattle.message_laws.specs.Messages.{AreMessages}
use Rattle.message_laws.specs.Traces.{IsPassed}
use Rattle.message_laws.proofs.AwaitedOffers.AskedRows.{after_asked, new_asked}
use Rattle.message_laws.proofs.AwaitedOffers.KnownTraces.{Laws as TraceLaws, after_trace, new_trace}
use Rattle.transactions.specs.declared.transaction.Transaction.{Transaction}

-- the laws of the crates below
pub record Laws : Type 0 where
  pub texts : TraceLaws
  pub names : NamesContact
  pub serves_new : (c : Config) (s : Contents) → KeepsRules c → IsNew c s → KnowsServing (office s)
  pub serves : (s : Contents) (e : Event) → KnowsServing (office s) → KnowsServing (office (after s e))
  pub staged : (s : Office) → KnowsServing s → AreStaged s
  pub byes_new : (c : Config) (s : Contents) → IsNew c s → KnowsByes (office s) []
  pub byes : (s : Contents) (e : Event) (begun : List Transaction) (sent : List Sent) (t : List Datagram) (ds : List Call) (k : ℕ) (taken : Option Message) (ms : List Message) → AreTied (office s) begun sent t ds → KnowsAsked (office s)
      → ComesFromSource e.what → AreMessages (row s e).plan.sends ms → KnowsByes (office s) t → KnowsByes (office (after s e)) (t ++ passed k taken ms)
  pub reads : (s : Contents) (e : Event) (sent : List Sent) → ComesFromSource e.what → KnowsDialogs (office s) → KnowsClients (office s) → KnowsDescriptions (office s) → KnowsAskers (office s) → KnowsTokens (office s)
      → KnowsSent (office s) sent → All IsReadDatagram sent → All IsReadDatagram (sent ++ (row s e).plan.sends)
  pub back : (bytes : List ℕ) (h : IsReadText bytes) → ReadsMessage bytes h.0
  pub none_stand : Stands offering [] 0 []
  pub moved : (n : ℕ) (t : List Datagram) (old new : List Call) (taken : Option Message) (sent : List Message) → Move offering t old taken sent new → Stands offering old n t → Stands offering new (suc n) (t ++ passed n taken sent)

pub new_known : Laws → (c : Config) (s : Contents) → IsConfigured c → IsNew c s → Knows (office s) [] [] []
new_known laws c s is new = record {
  trace = new_trace c s new;
  tokens = new_knows c s new;
  waiting = new_waits c s new;
  again = new_sent c s new;
  machines = new_machines c s new;
  dialogs = new_dialogs c s new is.source.octets;
  clients = new_clients c s is new;
  media = new_bodies c s is.rules (record { four = is.four; octets = is.source.octets }) new;
  askers = new_askers c s is new;
  own = All-nil IsOwnDatagram;
  reads = All-nil IsReadDatagram;
  callees = new_callees c s new;
  left = new_leaves c s new;
  numbers = new_numbers c s new;
  requests = new_requests c s new;
  offers = new_asked c s new;
  counted = new_taken c s new;
  serving = laws.serves_new c s is.rules new;
}

module _ (laws : Laws) (s : Contents) (e : Event) (n : ℕ) (begun : List Transaction) (sent : List Sent) (t : List Datagram) (k : Knows (office s) begun sent t) (from : ComesFromSource e.what) where
  askers_after : KnowsAskers (office (after s e))
  askers_after = after_askers laws.texts.describes s e sent from k.tokens k.again k.media k.askers k.own

  pub known_after : (taken : Option Message) (ms : List Message) → IsPassed e.what (row s e).plan.taken (row s e).plan.sends taken ms
      → Knows (office (after s e)) (begun ++ begun_of (row s e).plan.changes) (sent ++ (row s e).plan.sends) (t ++ passed n taken ms)
  known_after taken ms shows = record {
    trace = after_trace laws.texts s e n begun sent t taken ms (record { tokens = k.tokens; was = k.again; askers = k.askers; dialogs = k.dialogs; media = k.media; values = k.clients }) shows k.trace;
    tokens = after_knows s e k.tokens;
    waiting = after_waits s e k.tokens k.waiting;
    again = after_sent s e sent k.again;
    machines = after_machines s e k.machines;
    dialogs = after_dialogs laws.texts.reading s e k.dialogs;
    clients = after_clients laws.texts.reading s e k.dialogs k.clients;
    media = after_bodies laws.texts.describes s e k.media;
    askers = askers_after;
    own = after_own laws.texts.describes s e sent from k.tokens k.again k.media k.askers k.own;
    reads = laws.reads s e sent from k.dialogs k.clients k.media k.askers k.tokens k.again k.reads;
    callees = after_callees laws.names s e k.tokens k.waiting k.callees;
    left = after_leaves s e k.waiting k.left;
    numbers = after_numbers s e begun k.tokens k.waiting k.numbers;
    requests = after_requests s e begun k.tokens k.waiting k.dialogs k.requests;
    offers = after_asked s e askers_after k.offers;
    counted = after_taken s e k.tokens k.counted;
    serving = laws.serves s e k.serving;
  }

  -- the office afterwards, next to the earlier one
  pub is_after : IsAfter (office s) (office (after s e)) (begun ++ begun_of (row s e).plan.changes)
  is_after = record {
    numbers = after_numbers s e begun k.tokens k.waiting k.numbers;
    keeps = after_kept laws.texts.describes s e sent from k.tokens k.again k.media k.askers k.own;
    staged = laws.staged (office (after s e)) (laws.serves s e k.serving);
  }

-- while tokens are left
pub agent_known : Laws → (s : Contents) (begun : List Transaction) (sent : List Sent) (t : List Datagram) → Knows (office s) begun sent t → s.tokens < 2 ^ 63 → KnowsAgent (office s) begun sent t
agent_known laws s begun sent t k few = record {
  trace = k.trace;
  tokens = k.tokens;
  waiting = k.waiting;
  again = k.again;
  machines = k.machines;
  scenes = record { dialogs = k.dialogs; clients = k.clients; descriptions = k.media; askers = k.askers; tokens = k.tokens; few = few };
  legs = record { dialogs = k.dialogs; callees = k.callees; left = k.left };
  numbers = k.numbers;
  asked = all_asked s begun k.callees k.requests;
  offers = k.offers;
  counted = k.counted;
  staged = laws.staged (office s) k.serving;
}
