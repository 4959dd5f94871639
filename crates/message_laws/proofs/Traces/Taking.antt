-- What is taken: a response that the agent took up is one to a request of the server's own.
use Rattle.std.proofs.Common.{◌≡◌, ◌∙◌, ℕ, Bool, true, false, cond, not, ◌||◌, length, nat_le, nat_lt, List, ◌∷◌, ◌++◌, Option, Some, None, is_some, position, Result, Ok, Err, refl, sym, ap, subst}
use Rattle.std.specs.Prelude.{◌↔◌}
use Rattle.std.proofs.lemmas.Bool.{and_parts, false≢true}
use Rattle.std.proofs.lemmas.List.Quantifiers.{position-Some}
use Rattle.std.proofs.lemmas.Option.{none-some}
use Rattle.text.specs.Cut.{before}
use Rattle.text.proofs.CutLaws.{Lacks, Lacks-from_class, before_at}
use Rattle.sip_message.specs.AnswerableParts.{answerable_of, asks_answer, is_asking_line, parts_behind}
use Rattle.sip_message.specs.Grammar.{ReadsResponse}
use Rattle.sip_message.specs.Lines.{after_line_end, before_line_end}
use Rattle.sip_message.specs.Read.{max_datagram, message_of}
use Rattle.sip_message.specs.Start.{begins_sip}
use Rattle.sip_message.specs.Words.{top_branch}
use Rattle.sip_message.specs.declared.error.MessageError.{MessageError}
use Rattle.sip_message.specs.declared.error.MessageError.TheVariants as faults
use Rattle.sip_message.specs.declared.message.Message.{Message}
use Rattle.sip_message.specs.declared.message.Message.TheVariants as Kinds
use Rattle.sip_message.specs.declared.message.Parts.{Parts}
use Rattle.sip_message.specs.declared.message.Response.{Response}
use Rattle.sip_message.proofs.HeaderLineLaws.{before_again}
use Rattle.sip_message.proofs.MessageLaws.{one_message}
use Rattle.transactions.specs.Contents.{reception_of, response_reception}
use Rattle.transactions.specs.Matching.{RepliesTo, is_reply}
use Rattle.transactions.specs.Slots.{at, is_answered}
use Rattle.transactions.specs.declared.change.Entry.{Entry}
use Rattle.transactions.specs.declared.outcome.Outgoing.{Outgoing}
use Rattle.transactions.specs.declared.outcome.Verdict.TheVariants as verdicts
use Rattle.transactions.specs.declared.transaction.Transaction.{Transaction}
use Rattle.events.specs.declared.event.Event.{Event}
use Rattle.events.specs.declared.event.What.{What}
use Rattle.calls.specs.Settled.{has_settled}
use Rattle.configuration.specs.Rules.{is_user_list}
use Rattle.events.specs.declared.event.What.TheVariants as whats
use Rattle.sip_uri.specs.declared.uri.Addr.{Addr}
use Rattle.timers.specs.Queue.{first_due}
use Rattle.responses.specs.Words.{has_fit_branch}
use Rattle.plans.specs.CallRows.{of_plan}
use Rattle.plans.specs.Office.{Office}
use Rattle.plans.specs.Plan.{Plan, nothing}
use Rattle.plans.specs.declared.setting.Setting.{Setting}
use Rattle.plans.specs.declared.taken.Taken.{Taken}
use Rattle.plans.specs.declared.taken.Taken.TheVariants.{Done, Dropped, Idle, Shed}
use Rattle.plans.specs.declared.taken.Why.TheVariants.{Clock, NoBranch, Spent, Stray, Unread}
use Rattle.event_rows.specs.Rows.{by_reading, datagram_row, fit_row, is_full, is_unreachable_message, only_counts, read_row, received, response_by, row, row_by, setting, unread_by, unread_row, what_counts, what_row}
use Rattle.event_rows.specs.State.{Contents, moment_at, moments_end, max_tokens, office}
use Rattle.message_laws.specs.Knowing.{KnowsTokens}
use Rattle.message_laws.specs.Tokens.{IsMadeBranch, IsOwn, IsOwnIf}
use Rattle.message_laws.proofs.Messages.MessageViews.{begun_by}
use Rattle.message_laws.proofs.Messages.ReadMessages.{message_reads}
use Rattle.message_laws.proofs.Messages.RequestViews.{by_if}
use Rattle.message_laws.proofs.TokenUse.Rows.{answered_client}
use Rattle.message_laws.proofs.Traces.Receptions.{slot_at}

-- the law of what replies to a request
abbrev pub ReplyLaw : Type 0
ReplyLaw = (answer request : Parts) → (is_reply answer request ≡ true) ↔ RepliesTo answer request

-- ---- a response to the request of a transaction

pub answers_to : ReplyLaw → (r : Parts) (t : Transaction) → is_answered r (Some t) ≡ true → RepliesTo r t.parts
unfolding is_answered
answers_to law r t h = (law r t.parts).0 (and_parts _ _ h).1

slot_branch : ReplyLaw → (s : Office) → KnowsTokens s → (r : Response) (id : ℕ) (o : Option Transaction) → at s.table.slots id ≡ o → is_answered r.parts o ≡ true → IsMadeBranch s.tokens (top_branch r.parts.vias)
unfolding is_answered
slot_branch law s k r id None there h = absurd (false≢true h)
slot_branch law s k r id (Some t) there h =
    let own : IsOwn s.tokens t = slot_at (IsOwnIf s.tokens) s.table.slots id t k.slots there in
    subst (IsMadeBranch s.tokens) (sym (answers_to law r.parts t h).branch) (own (answered_client r.parts t h)).branch

-- ---- one that is taken up

-- it is not dropped
abbrev IsDone : Plan → Type 0
IsDone p = p.taken ≡ Done

stray_done : (s : Office) (e : Setting) (r : Response) (begun : List Entry) (send : Option Outgoing) → IsDone (response_by s e r begun verdicts.Stray send).plan → ⊥
unfolding response_by
stray_done s e r begun send done = cc

by_place : ReplyLaw → (s : Office) → KnowsTokens s → (e : Setting) (r : Response) (begun : List Entry) (send : Option Outgoing) (o : Option ℕ) → position (is_answered r.parts) s.table.slots ≡ o
    → IsDone (response_by s e r begun (response_reception s.table r o).verdict send).plan → IsMadeBranch s.tokens (top_branch r.parts.vias)
by_place law s k e r begun send None is done = absurd (stray_done s e r begun send done)
by_place law s k e r begun send (Some id) is done = slot_branch law s k r id (at s.table.slots id) refl (position-Some (is_answered r.parts) s.table.slots id None is).1

received_done : ReplyLaw → (s : Office) → KnowsTokens s → (e : Setting) (r : Response) → IsDone (received s e (Kinds.Response r)).plan → IsMadeBranch s.tokens (top_branch r.parts.vias)
unfolding received reception_of
received_done law s k e r done = by_full (is_full s e (reception_of s.table (Kinds.Response r))) done
  where
    by_full : (b : Bool) → IsDone (cond b (of_plan s (nothing Shed)) (response_by s e r (begun_by s e (Kinds.Response r)) (reception_of s.table (Kinds.Response r)).verdict (reception_of s.table (Kinds.Response r)).send)).plan
        → IsMadeBranch s.tokens (top_branch r.parts.vias)
    by_full true done = absurd (cc)
    by_full false done = by_place law s k e r _ _ (position (is_answered r.parts) s.table.slots) refl done

fit_done : ReplyLaw → (s : Office) → KnowsTokens s → (e : Setting) (r : Response) (b : Bool) → IsDone (cond b (of_plan s (nothing (Dropped Stray))) (received s e (Kinds.Response r))).plan → IsMadeBranch s.tokens (top_branch r.parts.vias)
fit_done law s k e r true done = absurd (cc)
fit_done law s k e r false done = received_done law s k e r done

read_by : ReplyLaw → (s : Office) → KnowsTokens s → (e : Setting) (r : Response) (b : Bool) → IsDone (cond b (fit_row s e (Kinds.Response r)) (of_plan s (nothing (Dropped NoBranch)))).plan → IsMadeBranch s.tokens (top_branch r.parts.vias)
read_by law s k e r true done = fit_done law s k e r (is_unreachable_message (Kinds.Response r)) done
read_by law s k e r false done = absurd (cc)

read_done : ReplyLaw → (s : Office) → KnowsTokens s → (e : Setting) (r : Response) → IsDone (read_row s e (Kinds.Response r)).plan → IsMadeBranch s.tokens (top_branch r.parts.vias)
unfolding read_row
read_done law s k e r done = read_by law s k e r (has_fit_branch r.parts.vias) done

-- ---- what can't be read within the limits, and is answered, is a request

sip_asks : (method : List ℕ) → begins_sip method ≡ true → asks_answer method ≡ true → ⊥
sip_asks method begins asks =
    let two = (and_parts _ _ asks).0 in
    let no : not (begins_sip method) ≡ true = (and_parts _ _ two).1 in
    false≢true (ap not (sym begins) ∙ no)

version_first : (line version more : List ℕ) → line ≡ version ++ 32 ∷ more → Lacks 32 version → before 32 line ≡ version
version_first line version more is lacks = ap (before 32) is ∙ before_at 32 version (Some more) lacks

line_asks : (bytes : List ℕ) (r : Response) → ReadsResponse bytes r → is_asking_line (before_line_end bytes) ≡ true → ⊥
line_asks bytes r reads asks =
    let o = reads.opens in
    let form = o.begins.form in
    let line : before_line_end bytes ≡ o.line = ap before_line_end o.whole ∙ before_again o.line o.rest o.clean in
    let first : before 32 o.line ≡ o.begins.version = version_first o.line o.begins.version _ form.whole (Lacks-from_class _ 32 refl o.begins.version form.unbroken) in
    let method : asks_answer (before 32 o.line) ≡ true = (and_parts _ _ (ap is_asking_line (sym line) ∙ asks)).0 in
    sip_asks o.begins.version form.begins (ap asks_answer (sym first) ∙ method)

none_answerable : (bytes : List ℕ) (r : Response) (parts : Parts) → ReadsResponse bytes r → answerable_of bytes ≡ Some parts → ⊥
unfolding answerable_of
none_answerable bytes r parts reads is = by_line (is_asking_line (before_line_end bytes)) refl is
  where
    by_line : (b : Bool) → is_asking_line (before_line_end bytes) ≡ b → cond b (parts_behind (after_line_end bytes)) None ≡ Some parts → ⊥
    by_line true asks e = line_asks bytes r reads asks
    by_line false asks e = none-some parts e

unread_done : (s : Office) (e : Setting) (bytes : List ℕ) (fault : MessageError) (parts : Option Parts) (r : Response) → ReadsResponse bytes r → answerable_of bytes ≡ parts → IsDone (unread_by e fault parts) → ⊥
unread_done s e bytes fault None r reads can done = cc
unread_done s e bytes fault (Some parts) r reads can done = none_answerable bytes r parts reads can

fault_done : (s : Office) (e : Setting) (bytes : List ℕ) (fault : MessageError) (r : Response) → ReadsResponse bytes r → IsDone (unread_row e bytes fault) → ⊥
unfolding unread_row
fault_done s e bytes faults.TooLong r reads done = cc
fault_done s e bytes fault r reads done = unread_done s e bytes fault (answerable_of bytes) r reads refl done

-- ---- a datagram

reading_done : ReplyLaw → (s : Office) → KnowsTokens s → (e : Setting) (bytes : List ℕ) (m : Result Message MessageError) (r : Response) → message_of bytes ≡ m → ReadsResponse bytes r → IsDone (by_reading s e bytes m).plan
    → IsMadeBranch s.tokens (top_branch r.parts.vias)
reading_done law s k e bytes (Ok m) r is reads done =
    let same : m ≡ Kinds.Response r = one_message bytes m (Kinds.Response r) (message_reads bytes m is) reads in
    read_done law s k e r (subst (λ x. IsDone (read_row s e x).plan) same done)
reading_done law s k e bytes (Err fault) r is reads done = absurd (fault_done s e bytes fault r reads done)

datagram_done : ReplyLaw → (s : Office) → KnowsTokens s → (e : Setting) (bytes : List ℕ) (r : Response) → ReadsResponse bytes r → IsDone (datagram_row s e bytes).plan → IsMadeBranch s.tokens (top_branch r.parts.vias)
unfolding datagram_row
datagram_done law s k e bytes r reads done = reading_done law s k e bytes (message_of bytes) r refl reads done

what_done : ReplyLaw → (s : Office) → KnowsTokens s → (now salt : ℕ) (source : Addr) (bytes : List ℕ) (r : Response) → ReadsResponse bytes r → IsDone (what_row s now salt (whats.Datagram source bytes)).plan → IsMadeBranch s.tokens (top_branch r.parts.vias)
unfolding what_row
what_done law s k now salt source bytes r reads done = datagram_done law s k (setting now salt source) bytes r reads done

-- an event that is only counted is not taken up
abbrev NotDone : Option Taken → Type 0
NotDone None = Unit {0}
NotDone (Some taken) = taken ≡ Done → ⊥

counts_none : (s : Contents) (now : ℕ) (what : What) → NotDone (what_counts s now what)
counts_none s now (whats.Datagram source bytes) = by_if NotDone (nat_lt max_datagram (length bytes)) (Some (Dropped (Unread faults.TooLong))) None (λ b done. cc) (λ b. tt)
counts_none s now whats.Due = by_if NotDone (is_some (first_due s.table.timers now) || is_some (first_due s.calls.timers now)) None (Some Idle) (λ b. tt) (λ b done. cc)
counts_none s now (whats.Silent number) = by_if NotDone (has_settled number s.calls.calls) None (Some Idle) (λ b. tt) (λ b done. cc)
counts_none s now (whats.Users users) = by_if NotDone (is_user_list users) None (Some Idle) (λ b. tt) (λ b done. cc)

counted_none : (s : Contents) (e : Event) → NotDone (only_counts s e)
unfolding only_counts
counted_none s e =
    by_if NotDone (nat_le moments_end e.now) (Some (Dropped Clock)) (cond (nat_le max_tokens s.tokens) (Some (Dropped Spent)) (what_counts s (moment_at s e.now) e.what)) (λ b done. cc)
    (λ b. by_if NotDone (nat_le max_tokens s.tokens) (Some (Dropped Spent)) (what_counts s (moment_at s e.now) e.what) (λ c done. cc) (λ c. counts_none s (moment_at s e.now) e.what))

counted_done : (s : Contents) (e : Event) (taken : Taken) → only_counts s e ≡ Some taken → taken ≡ Done → ⊥
counted_done s e taken is = subst NotDone is (counted_none s e)

event_done : ReplyLaw → (s : Contents) → KnowsTokens (office s) → (e : Event) (o : Option Taken) (source : Addr) (bytes : List ℕ) (r : Response) → only_counts s e ≡ o → e.what ≡ whats.Datagram source bytes → ReadsResponse bytes r
    → IsDone (row_by s e o).plan → IsMadeBranch s.tokens (top_branch r.parts.vias)
event_done law s k e (Some taken) source bytes r is what reads done = absurd (counted_done s e taken is done)
event_done law s k e None source bytes r is what reads done =
    what_done law (office s) k (moment_at s e.now) e.salt source bytes r reads (subst (λ w. IsDone (what_row (office s) (moment_at s e.now) e.salt w).plan) what done)

-- the branch of a response that was taken up is the server's own
pub taken_branch : ReplyLaw → (s : Contents) → KnowsTokens (office s) → (e : Event) (source : Addr) (bytes : List ℕ) (r : Response) → e.what ≡ whats.Datagram source bytes → ReadsResponse bytes r → (row s e).plan.taken ≡ Done
    → IsMadeBranch s.tokens (top_branch r.parts.vias)
unfolding row
taken_branch law s k e source bytes r what reads done = event_done law s k e (only_counts s e) source bytes r refl what reads done
