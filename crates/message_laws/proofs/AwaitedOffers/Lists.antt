-- What the agent knows of its own messages after a list of events.
use Rattle.std.proofs.Common.{List, [], ◌∷◌, ◌++◌, Option, Some, None, sym, subst}
use Rattle.std.proofs.lemmas.List.{append_assoc, append-nil}
use Rattle.configuration.specs.declared.config.Config.{Config}
use Rattle.events.specs.declared.sent.Sent.{Sent}
use Rattle.plans.specs.declared.taken.Taken.{Taken}
use Rattle.event_rows.specs.State.{Contents, IsNew, office}
use Rattle.event_rows.specs.Trace.{AreEntries, Entry, IsEntryWith, after_answer, after_entries, after_entry}
use Rattle.message_laws.specs.Knowledge.{KnowsMessages, sends_of}
use Rattle.message_laws.specs.Sending.{KnowsSent}
use Rattle.message_laws.proofs.AwaitedOffers.AckEvents.{after_acks, new_acks}
use Rattle.message_laws.proofs.TokenUse.Events.{after_knows, new_knows}
use Rattle.message_laws.proofs.Messages.SendRows.{after_sent, new_sent}
use Rattle.message_laws.proofs.AwaitedOffers.WaitEvents.{after_waits, new_waits}

pub new_messages : (c : Config) (s : Contents) → IsNew c s → KnowsMessages (office s) []
new_messages c s new = record { tokens = new_knows c s new; waiting = new_waits c s new; again = new_sent c s new; acks = new_acks c s new }

pub answer_messages : (s : Contents) (x : Entry) (sent : List Sent) (taken : Option Taken) → IsEntryWith s x taken → KnowsMessages (office s) sent → KnowsMessages (office (after_answer s x.event taken)) (sent ++ x.sends)
answer_messages s x sent None lost k =
    subst (λ ys. KnowsMessages (office s) (sent ++ ys)) (sym lost.sends) (subst (KnowsMessages (office s)) (sym (append-nil sent)) k)
answer_messages s x sent (Some taken) is k = record {
  tokens = after_knows s x.event k.tokens;
  waiting = after_waits s x.event k.tokens k.waiting;
  again = subst (λ ys. KnowsSent (office (after_answer s x.event (Some taken))) (sent ++ ys)) (sym is.sends) (after_sent s x.event sent k.again);
  acks = after_acks s x.event k.acks;
}

list_messages : (s : Contents) (xs : List Entry) (sent : List Sent) → AreEntries s xs → KnowsMessages (office s) sent → KnowsMessages (office (after_entries s xs)) (sent ++ sends_of xs)
list_messages s [] sent are k = subst (KnowsMessages (office s)) (sym (append-nil sent)) k
list_messages s (x ∷ xs) sent are k =
    subst (KnowsMessages (office (after_entries (after_entry s x) xs))) (append_assoc sent x.sends (sends_of xs))
    (list_messages (after_entry s x) xs (sent ++ x.sends) are.1 (answer_messages s x sent x.answer are.0 k))

pub new_list : (c : Config) (s : Contents) (xs : List Entry) → IsNew c s → AreEntries s xs → KnowsMessages (office (after_entries s xs)) (sends_of xs)
new_list c s xs new are = list_messages s xs [] are (new_messages c s new)
