-- What is known of the trace of any events of a new agent.
use Rattle.std.proofs.Common.{◌≡◌, ◌∙◌, ℕ, suc, List, [], ◌∷◌, ◌++◌, Option, Some, None, refl, sym, ap, subst}
use Rattle.std.specs.List.{All}
use Rattle.std.proofs.lemmas.List.{append-nil, append_assoc}
use Rattle.std.proofs.lemmas.List.Elements.{All-head, All-nil, All-tail}
use Rattle.configuration.specs.declared.config.Config.{Config}
use Rattle.events.specs.declared.sent.Sent.{Sent}
use Rattle.transactions.specs.declared.transaction.Transaction.{Transaction}
use Rattle.plans.specs.Office.{Office}
use Rattle.plans.specs.declared.taken.Taken.{Taken}
use Rattle.event_rows.specs.State.{Contents, IsNew, office}
use Rattle.event_rows.specs.Trace.{AreEntries, Entry, IsEntryWith, after_answer, after_entries, after_entry}
use Rattle.call_trace.specs.declared.datagram.Datagram.{Datagram}
use Rattle.call_trace.specs.Events.{passed}
use Rattle.message_laws.specs.Addresses.{IsConfigured}
use Rattle.message_laws.specs.Askers.{KnowsAskers}
use Rattle.message_laws.specs.Bodies.{KnowsDescriptions}
use Rattle.message_laws.specs.Datagrams.{EntersFromSource, IsOwnDatagram}
use Rattle.message_laws.specs.Knowing.{KnowsTokens}
use Rattle.message_laws.specs.Knowledge.{sends_of}
use Rattle.message_laws.specs.Numbers.{begun_at, begun_in}
use Rattle.message_laws.specs.Sending.{KnowsSent}
use Rattle.message_laws.specs.Sound.{KnowsDialogs}
use Rattle.message_laws.proofs.Askers.AskerKnown.{after_askers, after_own, new_askers}
use Rattle.message_laws.proofs.Messages.BodyRows.{after_bodies, new_bodies}
use Rattle.message_laws.proofs.TokenUse.Events.{after_knows, new_knows}
use Rattle.message_laws.proofs.Messages.SendRows.{after_sent, new_sent}
use Rattle.message_laws.proofs.StandingCalls.SoundRows.{after_dialogs, new_dialogs}
use Rattle.message_laws.specs.Asked.{KnowsAsked}
use Rattle.message_laws.specs.KnownTrace.{KnowsTrace}
use Rattle.message_laws.specs.SoundClients.{KnowsClients}
use Rattle.message_laws.proofs.StandingCalls.ClientRows.{after_clients, new_clients}
use Rattle.message_laws.specs.Traces.{AreTrace}
use Rattle.message_laws.proofs.AwaitedOffers.AskedRows.{after_asked, new_asked}
use Rattle.message_laws.proofs.AwaitedOffers.KnownTraces.{Knows, Laws, entry_trace, new_trace, same_trace}

-- what the agent knows besides, after what was sent
record KnowsHere (s : Office) (sent : List Sent) : Type 0 where
  tokens : KnowsTokens s
  was : KnowsSent s sent
  askers : KnowsAskers s
  dialogs : KnowsDialogs s
  media : KnowsDescriptions s
  clients : KnowsClients s
  own : All IsOwnDatagram sent

answer_here : Laws → (s : Contents) (x : Entry) (sent : List Sent) (answer : Option Taken) → IsEntryWith s x answer → EntersFromSource x → KnowsHere (office s) sent → KnowsHere (office (after_answer s x.event answer)) (sent ++ x.sends)
answer_here laws s x sent None lost from k = subst (λ xs. KnowsHere (office s) (sent ++ xs)) (sym lost.sends) (subst (KnowsHere (office s)) (sym (append-nil sent)) k)
answer_here laws s x sent (Some taken) is from k =
    subst (λ xs. KnowsHere (office (after_answer s x.event (Some taken))) (sent ++ xs)) (sym is.sends)
    (record {
      tokens = after_knows s x.event k.tokens;
      was = after_sent s x.event sent k.was;
      askers = after_askers laws.describes s x.event sent from k.tokens k.was k.media k.askers k.own;
      dialogs = after_dialogs laws.reading s x.event k.dialogs;
      media = after_bodies laws.describes s x.event k.media;
      clients = after_clients laws.reading s x.event k.dialogs k.clients;
      own = after_own laws.describes s x.event sent from k.tokens k.was k.media k.askers k.own;
    })

knows_all : (s : Office) (sent : List Sent) → KnowsHere s sent → Knows s sent
knows_all s sent k = record { tokens = k.tokens; was = k.was; askers = k.askers; dialogs = k.dialogs; media = k.media; values = k.clients }

joined : (s : Office) (b c d : List Transaction) (u v w : List Sent) (t p r rest : List Datagram) → rest ≡ p ++ r → KnowsTrace s ((b ++ c) ++ d) ((u ++ v) ++ w) ((t ++ p) ++ r) → KnowsTrace s (b ++ (c ++ d)) (u ++ (v ++ w)) (t ++ rest)
joined s b c d u v w t p r rest whole k =
    subst (λ xs. KnowsTrace s (b ++ (c ++ d)) (u ++ (v ++ w)) xs) (append_assoc t p r ∙ ap (λ (xs : List Datagram). t ++ xs) (sym whole))
    (subst (λ xs. KnowsTrace s (b ++ (c ++ d)) xs ((t ++ p) ++ r)) (append_assoc u v w) (subst (λ xs. KnowsTrace s xs ((u ++ v) ++ w) ((t ++ p) ++ r)) (append_assoc b c d) k))

entries_trace : Laws → (s : Contents) (xs : List Entry) (n : ℕ) (begun : List Transaction) (sent : List Sent) (t rest : List Datagram) → AreEntries s xs → All EntersFromSource xs → AreTrace n xs rest → KnowsHere (office s) sent
    → KnowsTrace (office s) begun sent t → KnowsTrace (office (after_entries s xs)) (begun ++ begun_in s xs) (sent ++ sends_of xs) (t ++ rest)
entries_trace laws s [] n begun sent t rest are from trace k known = same_trace (office s) begun [] sent [] t rest refl refl trace known
entries_trace laws s (x ∷ xs) n begun sent t rest are from trace k known =
    let shows = trace.3 in
    let here : EntersFromSource x = All-head EntersFromSource x xs from in
    let next = entry_trace laws s x n begun sent t trace.0 trace.1 (knows_all (office s) sent k) are.0 shows.shown known in
    joined (office (after_entries (after_entry s x) xs)) begun (begun_at s x.event x.answer) (begun_in (after_entry s x) xs) sent x.sends (sends_of xs) t (passed n trace.0 trace.1) trace.2 rest shows.whole
    (entries_trace laws (after_entry s x) xs (suc n) (begun ++ begun_at s x.event x.answer) (sent ++ x.sends) (t ++ passed n trace.0 trace.1) trace.2 are.1 (All-tail EntersFromSource x xs from) trace.4
    (answer_here laws s x sent x.answer are.0 here k) next)

new_here : (c : Config) (s : Contents) → IsConfigured c → IsNew c s → KnowsHere (office s) []
new_here c s is new = record {
  tokens = new_knows c s new;
  was = new_sent c s new;
  askers = new_askers c s is new;
  dialogs = new_dialogs c s new is.source.octets;
  media = new_bodies c s is.rules (record { four = is.four; octets = is.source.octets }) new;
  clients = new_clients c s is new;
  own = All-nil IsOwnDatagram;
}

pub known_trace : Laws → (c : Config) (s : Contents) (xs : List Entry) (t : List Datagram) → IsConfigured c → IsNew c s → AreEntries s xs → All EntersFromSource xs → AreTrace 0 xs t
    → KnowsTrace (office (after_entries s xs)) (begun_in s xs) (sends_of xs) t
known_trace laws c s xs t is new are from trace =
    entries_trace laws s xs 0 [] [] [] t are from trace (new_here c s is new) (new_trace c s new)

-- ---- the offers for whose answers the calls wait

answer_asked : (s : Contents) (x : Entry) (answer : Option Taken) → KnowsAskers (office (after_answer s x.event answer)) → KnowsAsked (office s) → KnowsAsked (office (after_answer s x.event answer))
answer_asked s x None askers k = k
answer_asked s x (Some taken) askers k = after_asked s x.event askers k

entries_asked : Laws → (s : Contents) (xs : List Entry) (sent : List Sent) → AreEntries s xs → All EntersFromSource xs → KnowsHere (office s) sent → KnowsAsked (office s) → KnowsAsked (office (after_entries s xs))
entries_asked laws s [] sent are from k asked = asked
entries_asked laws s (x ∷ xs) sent are from k asked =
    let next = answer_here laws s x sent x.answer are.0 (All-head EntersFromSource x xs from) k in
    entries_asked laws (after_entry s x) xs (sent ++ x.sends) are.1 (All-tail EntersFromSource x xs from) next (answer_asked s x x.answer next.askers asked)

pub known_asked : Laws → (c : Config) (s : Contents) (xs : List Entry) → IsConfigured c → IsNew c s → AreEntries s xs → All EntersFromSource xs → KnowsAsked (office (after_entries s xs))
known_asked laws c s xs is new are from = entries_asked laws s xs [] are from (new_here c s is new) (new_asked c s new)
