-- What is known of a trace stays known, event by event.
use Rattle.std.proofs.Common.{◌≡◌, ℕ, ◌+◌, List, [], ◌++◌, Option, Some, None, refl, sym, subst, inl, inr, arith}
use Rattle.std.proofs.lemmas.List.{append-nil}
use Rattle.std.proofs.lemmas.List.Elements.{All-nil}
use Rattle.configuration.specs.declared.config.Config.{Config}
use Rattle.events.specs.declared.event.Event.{Event}
use Rattle.events.specs.declared.sent.Sent.{Sent}
use Rattle.transactions.specs.declared.transaction.Transaction.{Transaction}
use Rattle.plans.specs.Effect.{Effect}
use Rattle.plans.specs.Office.{Office}
use Rattle.plans.specs.declared.taken.Taken.{Taken}
use Rattle.event_rows.specs.Rows.{after, moment_after, row}
use Rattle.event_rows.specs.State.{Contents, IsNew, after_event, office}
use Rattle.event_rows.specs.Trace.{Entry, IsEntryWith, after_answer}
use Rattle.call_trace.specs.declared.datagram.Datagram.{Datagram}
use Rattle.call_trace.specs.declared.datagram.Message.{Message as TraceMessage}
use Rattle.call_trace.specs.Events.{passed}
use Rattle.call_trace.specs.Exchanges.{At}
use Rattle.call_trace.proofs.AtLaws.{at_split}
use Rattle.call_trace.proofs.OneEvent.{Part, came, part_of, went}
use Rattle.message_laws.specs.Askers.{KnowsAskers}
use Rattle.message_laws.specs.Bodies.{KnowsDescriptions}
use Rattle.message_laws.specs.Entries.{EnterOwn}
use Rattle.message_laws.specs.Knowing.{KnowsTokens}
use Rattle.message_laws.specs.Numbers.{begun_at, begun_of}
use Rattle.message_laws.specs.Sending.{KnowsSent}
use Rattle.message_laws.specs.Sound.{KnowsDialogs}
use Rattle.message_laws.proofs.QuietEvents.Describing.{BodiesDescribe}
use Rattle.message_laws.proofs.TokenUse.Events.{row_owns}
use Rattle.message_laws.proofs.QuietEvents.Growing.{branch_more}
use Rattle.message_laws.proofs.StandingCalls.Reading.{Reading}
use Rattle.message_laws.proofs.AwaitedOffers.WaitEvents.{none_at}
use Rattle.message_laws.specs.Kinds.{IsOfKind}
use Rattle.message_laws.specs.KnownTrace.{HasBytes, HasTokens, KnowsTrace}
use Rattle.message_laws.specs.Messages.{AreMessages}
use Rattle.message_laws.specs.SoundClients.{KnowsClients}
use Rattle.message_laws.specs.Traces.{IsUnshown, IsPassed, IsShown, IsShownWith, IsTaken}
use Rattle.message_laws.proofs.Traces.Effects.{SaysEffect}
use Rattle.message_laws.proofs.AwaitedOffers.KeepingOwn.{all_kept}
use Rattle.message_laws.proofs.Traces.Places.{datagram_at, sent_more}
use Rattle.message_laws.proofs.Traces.ReadTexts.{WrittenReads}
use Rattle.message_laws.proofs.Traces.TraceRows.{row_says}
use Rattle.message_laws.proofs.Traces.SentKinds.{known}
use Rattle.message_laws.proofs.Traces.Taking.{ReplyLaw, taken_branch}
use Rattle.message_laws.proofs.Traces.TraceRequests.{answered_more, asked_more, stands_more}
use Rattle.message_laws.proofs.AwaitedOffers.TraceTokens.{kind_tokens, read_more, taken_tokens, tokens_grow, took_of}

-- the laws of the crates below
pub record Laws : Type 0 where
  pub reading : Reading
  pub describes : BodiesDescribe
  pub written : WrittenReads
  pub replies : ReplyLaw

-- what the agent knows where the event comes
pub record Knows (s : Office) (sent : List Sent) : Type 0 where
  pub tokens : KnowsTokens s
  pub was : KnowsSent s sent
  pub askers : KnowsAskers s
  pub dialogs : KnowsDialogs s
  pub media : KnowsDescriptions s
  pub values : KnowsClients s

pub new_trace : (c : Config) (s : Contents) → IsNew c s → KnowsTrace (office s) [] [] []
unfolding At
new_trace c s new = record {
  read = λ i p e. absurd (cc);
  sent = All-nil (HasBytes []);
  tokens = λ i p e. absurd (cc);
  asked = λ u among offers. absurd among;
  stands = λ id x there offers. absurd (none_at s.table.slots id x new.slots there);
  answered = λ id x there offers none. absurd (none_at s.table.slots id x new.slots there);
  served = λ id x there. absurd (none_at s.table.slots id x new.slots there);
}

module _ (laws : Laws) (s : Contents) (e : Event) (n : ℕ) (begun : List Transaction) (sent : List Sent) (t : List Datagram) (taken : Option TraceMessage) (ms : List TraceMessage) (knows : Knows (office s) sent)
    (shows : IsPassed e.what (row s e).plan.taken (row s e).plan.sends taken ms) (k : KnowsTrace (office s) begun sent t) where
  abbrev x : Effect
  x = row s e

  abbrev made : ℕ
  made = s.tokens + x.plan.made

  says : SaysEffect sent (office s) e.what x
  says = row_says laws.reading laws.describes sent s (known sent (office s) knows.tokens knows.was knows.askers knows.dialogs knows.media knows.values) e

  own : EnterOwn made x.plan.changes
  own = (row_owns s knows.tokens e).entries

  part_tokens : (i : ℕ) (p : Datagram) → Part n taken ms i p → HasTokens made p
  part_tokens i p (came m h place is) =
      let took = took_of e.what x.plan.taken taken m shows.took h in
      subst (HasTokens made) (sym is)
      (taken_tokens took.bytes n made m took.message (λ r reads. branch_more s.tokens made _ (omega arith) (taken_branch laws.replies s knows.tokens e took.source took.bytes r took.what_is reads took.answer_is)))
  part_tokens i p (went j m h place is) =
      let d = datagram_at (IsOfKind sent made x.plan.changes) x.plan.sends ms j m says.says.kinds shows.went h in
      subst (HasTokens made) (sym is) (kind_tokens laws.written sent t k.read k.sent s.tokens made n x.plan.changes d.0 m (omega arith) k.tokens own d.2 d.1)

  tokens_in : (i : ℕ) (p : Datagram) → At (t ++ passed n taken ms) i p → HasTokens made p
  tokens_in i p at_p = elim (at_split t (passed n taken ms) i p at_p) [
    | inl old ↦ tokens_grow s.tokens made t (omega arith) k.tokens i p old
    | inr new ↦ part_tokens new.0 p (part_of n taken ms new.0 p new.2)
  ]

  known_by : (now : ℕ) → KnowsTrace (office (after_event s now x)) (begun ++ begun_of x.plan.changes) (sent ++ x.plan.sends) (t ++ passed n taken ms)
  unfolding after_event
  known_by now = record {
    read = read_more e.what x.plan.taken x.plan.sends t n taken ms shows.took shows.went k.read;
    sent = sent_more t n taken ms sent x.plan.sends shows.went k.sent;
    tokens = tokens_in;
    asked = asked_more laws.written t n taken ms x.plan.sends begun x.plan.changes shows.went says.says.begun k.asked;
    stands = stands_more now s.table begun x.plan.changes k.stands;
    answered = answered_more laws.replies t n taken ms x.plan.sends begun now s.table e.what x.plan.taken x.plan.changes k.stands k.asked shows.took says.says.begun says.told k.answered;
    served = all_kept now s.table x.plan.changes k.served says.says.keeps;
  }

  pub after_trace : KnowsTrace (office (after s e)) (begun ++ begun_of x.plan.changes) (sent ++ x.plan.sends) (t ++ passed n taken ms)
  after_trace = known_by (moment_after s e)

-- ---- an entry

pub same_trace : (s : Office) (begun more : List Transaction) (sent last : List Sent) (t s_more : List Datagram) → more ≡ [] → last ≡ [] → s_more ≡ [] → KnowsTrace s begun sent t → KnowsTrace s (begun ++ more) (sent ++ last) (t ++ s_more)
same_trace s begun more sent last t s_more e f g k =
    subst (λ xs. KnowsTrace s (begun ++ xs) (sent ++ last) (t ++ s_more)) (sym e)
    (subst (λ xs. KnowsTrace s (begun ++ []) (sent ++ xs) (t ++ s_more)) (sym f)
    (subst (λ xs. KnowsTrace s (begun ++ []) (sent ++ []) (t ++ xs)) (sym g)
    (subst (λ xs. KnowsTrace s xs (sent ++ []) (t ++ [])) (sym (append-nil begun)) (subst (λ xs. KnowsTrace s begun xs (t ++ [])) (sym (append-nil sent)) (subst (λ xs. KnowsTrace s begun sent xs) (sym (append-nil t)) k)))))

none_passed : (n : ℕ) (taken : Option TraceMessage) (ms : List TraceMessage) → IsUnshown taken ms → passed n taken ms ≡ []
none_passed n taken ms h = subst (λ o. passed n o ms ≡ []) (sym h.took) (subst (λ xs. passed n None xs ≡ []) (sym h.went) refl)

answer_trace : Laws → (s : Contents) (x : Entry) (answer : Option Taken) (n : ℕ) (begun : List Transaction) (sent : List Sent) (t : List Datagram) (taken : Option TraceMessage) (ms : List TraceMessage) → Knows (office s) sent → IsEntryWith s x answer
    → IsShownWith answer x.event.what x.sends taken ms → KnowsTrace (office s) begun sent t
    → KnowsTrace (office (after_answer s x.event answer)) (begun ++ begun_at s x.event answer) (sent ++ x.sends) (t ++ passed n taken ms)
answer_trace laws s x None n begun sent t taken ms knows lost shown k = same_trace (office s) begun [] sent x.sends t (passed n taken ms) refl lost.sends (none_passed n taken ms shown) k
answer_trace laws s x (Some answer) n begun sent t taken ms knows is shown k =
    let went : AreMessages (row s x.event).plan.sends ms = subst (λ xs. AreMessages xs ms) is.sends shown.went in
    let took : IsTaken x.event.what (row s x.event).plan.taken taken = subst (λ a. IsTaken x.event.what a taken) is.answer shown.took in
    subst (λ xs. KnowsTrace (office (after s x.event)) (begun ++ begun_of (row s x.event).plan.changes) (sent ++ xs) (t ++ passed n taken ms)) (sym is.sends)
    (after_trace laws s x.event n begun sent t taken ms knows (record { took = took; went = went }) k)

pub entry_trace : Laws → (s : Contents) (x : Entry) (n : ℕ) (begun : List Transaction) (sent : List Sent) (t : List Datagram) (taken : Option TraceMessage) (ms : List TraceMessage) → Knows (office s) sent → IsEntryWith s x x.answer
    → IsShown x taken ms → KnowsTrace (office s) begun sent t → KnowsTrace (office (after_answer s x.event x.answer)) (begun ++ begun_at s x.event x.answer) (sent ++ x.sends) (t ++ passed n taken ms)
entry_trace laws s x n begun sent t taken ms knows is shown k = answer_trace laws s x x.answer n begun sent t taken ms knows is shown.shown k
