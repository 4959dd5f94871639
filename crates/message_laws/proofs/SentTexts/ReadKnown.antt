-- At any events of a new agent all that is sent reads back.
use Rattle.std.proofs.Common.{List, [], ◌∷◌, ◌++◌, Option, Some, None, sym, subst}
use Rattle.std.specs.List.{All}
use Rattle.std.proofs.lemmas.List.{append-nil, append_assoc}
use Rattle.std.proofs.lemmas.List.Elements.{All-head, All-nil, All-tail}
use Rattle.configuration.specs.declared.config.Config.{Config}
use Rattle.events.specs.declared.event.Event.{Event}
use Rattle.events.specs.declared.sent.Sent.{Sent}
use Rattle.plans.specs.Office.{Office}
use Rattle.plans.specs.declared.taken.Taken.{Taken}
use Rattle.event_rows.specs.Rows.{after, row}
use Rattle.event_rows.specs.State.{Contents, IsNew, office}
use Rattle.event_rows.specs.Trace.{AreEntries, Entry, IsEntryWith, after_answer, after_entries, after_entry}
use Rattle.message_laws.specs.Addresses.{IsConfigured}
use Rattle.message_laws.specs.Datagrams.{ComesFromSource, EntersFromSource, IsOwnDatagram}
use Rattle.message_laws.specs.Knowledge.{sends_of}
use Rattle.message_laws.proofs.Askers.AskerKnown.{after_askers, after_own, new_askers}
use Rattle.message_laws.proofs.Messages.BodyRows.{after_bodies, new_bodies}
use Rattle.message_laws.proofs.TokenUse.Events.{after_knows, new_knows}
use Rattle.message_laws.proofs.Messages.SendRows.{after_sent, new_sent}
use Rattle.message_laws.proofs.StandingCalls.SoundRows.{after_dialogs, new_dialogs}
use Rattle.message_laws.specs.ReadDatagrams.{IsReadDatagram}
use Rattle.message_laws.proofs.StandingCalls.ClientRows.{after_clients, new_clients}
use Rattle.message_laws.proofs.SentTexts.ReadEvents.{KnowsReads, after_reads}
use Rattle.message_laws.proofs.SentTexts.ReadSteps.{Laws}

-- what is known after events at which this was sent
record KnowsSends (s : Office) (before : List Sent) : Type 0 where
  all : KnowsReads s before
  own : All IsOwnDatagram before

after_sends : (laws : Laws) (s : Contents) (e : Event) (before : List Sent) → ComesFromSource e.what → KnowsSends (office s) before → KnowsSends (office (after s e)) (before ++ (row s e).plan.sends)
after_sends laws s e before from k =
    let a = k.all in
    record {
      all = record {
        dialogs = after_dialogs laws.reading s e a.dialogs;
        clients = after_clients laws.reading s e a.dialogs a.clients;
        descriptions = after_bodies laws.describes s e a.descriptions;
        askers = after_askers laws.describes s e before from a.tokens a.again a.descriptions a.askers k.own;
        tokens = after_knows s e a.tokens;
        again = after_sent s e before a.again;
        reads = after_reads laws s e before from a.dialogs a.clients a.descriptions a.askers a.tokens a.again a.reads;
      };
      own = after_own laws.describes s e before from a.tokens a.again a.descriptions a.askers k.own;
    }

answer_sends : (laws : Laws) (s : Contents) (x : Entry) (before : List Sent) (taken : Option Taken) → IsEntryWith s x taken → EntersFromSource x → KnowsSends (office s) before
    → KnowsSends (office (after_answer s x.event taken)) (before ++ x.sends)
answer_sends laws s x before None lost from k =
    subst (λ (sends : List Sent). KnowsSends (office s) (before ++ sends)) (sym lost.sends) (subst (KnowsSends (office s)) (sym (append-nil before)) k)
answer_sends laws s x before (Some taken) is from k =
    subst (λ (sends : List Sent). KnowsSends (office (after s x.event)) (before ++ sends)) (sym is.sends) (after_sends laws s x.event before from k)

list_sends : (laws : Laws) (s : Contents) (xs : List Entry) (before : List Sent) → AreEntries s xs → All EntersFromSource xs → KnowsSends (office s) before
    → KnowsSends (office (after_entries s xs)) (before ++ sends_of xs)
list_sends laws s [] before are from k = subst (KnowsSends (office s)) (sym (append-nil before)) k
list_sends laws s (x ∷ xs) before are from k =
    subst (KnowsSends (office (after_entries (after_entry s x) xs))) (append_assoc before x.sends (sends_of xs))
    (list_sends laws (after_entry s x) xs (before ++ x.sends) are.1 (All-tail EntersFromSource x xs from) (answer_sends laws s x before x.answer are.0 (All-head EntersFromSource x xs from) k))

new_sends : (c : Config) (s : Contents) → IsConfigured c → IsNew c s → KnowsSends (office s) []
new_sends c s is new = record {
  all = record {
    dialogs = new_dialogs c s new is.source.octets;
    clients = new_clients c s is new;
    descriptions = new_bodies c s is.rules (record { four = is.four; octets = is.source.octets }) new;
    askers = new_askers c s is new;
    tokens = new_knows c s new;
    again = new_sent c s new;
    reads = All-nil IsReadDatagram;
  };
  own = All-nil IsOwnDatagram;
}

pub known_reads : (laws : Laws) (c : Config) (s : Contents) (xs : List Entry) → IsConfigured c → IsNew c s → AreEntries s xs → All EntersFromSource xs → All IsReadDatagram (sends_of xs)
known_reads laws c s xs is new are from = (list_sends laws s xs [] are from (new_sends c s is new)).all.reads
