-- What a step of a call has the agent keep, to be sent again, it sends.
use Rattle.std.proofs.Common.{◌≡◌, ◌∙◌, ℕ, ◌+◌, Bool, true, false, cond, List, [], ◌∷◌, ◌++◌, codes, find, Option, Some, None, is_some, refl, ap, sym, subst, inl}
use Rattle.std.specs.Prelude.{slice_get, slice_set}
use Rattle.std.specs.List.{All, remove}
use Rattle.std.specs.Option.{option_copied}
use Rattle.std.proofs.lemmas.Bool.{false≢true}
use Rattle.std.proofs.lemmas.List.{append-nil}
use Rattle.std.proofs.lemmas.List.Elements.{All-append, All-drop, All-push, All-set, All-take}
use Rattle.std.proofs.lemmas.Option.{get_or_from_slice_get, slice_get_within}
use Rattle.std.proofs.Common.{suc, drop, take}
use Rattle.events.specs.declared.sent.Sent.{Sent}
use Rattle.sip_uri.specs.declared.uri.Addr.{Addr}
use Rattle.sip_uri.specs.declared.uri.Uri.{Uri}
use Rattle.sip_uri.specs.Address.{address_of}
use Rattle.sip_message.specs.declared.message.Message.TheVariants as Kinds
use Rattle.sip_message.specs.declared.message.Parts.{Parts}
use Rattle.sip_message.specs.declared.message.Request.{Request}
use Rattle.sip_message.specs.declared.message.Response.{Response}
use Rattle.sip_message.specs.Contact.{contacts_of}
use Rattle.sip_message.specs.Words.{is_method}
use Rattle.sip_writing.specs.Writing.{message_text}
use Rattle.sdp.specs.declared.description.Description.{Description}
use Rattle.dialogs.specs.declared.state.Dialog.{Dialog}
use Rattle.dialogs.specs.Making.{callers_dialog, reached_at}
use Rattle.transactions.specs.declared.change.Entry.TheVariants.{Opens, Leaves}
use Rattle.transactions.specs.declared.transaction.Transaction.{Transaction}
use Rattle.transactions.specs.Contents as transactions
use Rattle.transactions.specs.SameBranch.{cancel_of}
use Rattle.transactions.specs.Transactions.{asking, asking_timers}
use Rattle.call_media.specs.declared.end.End.TheVariants.{Callee}
use Rattle.call_core.specs.declared.action.Action.{Action}
use Rattle.call_core.specs.declared.action.Action.TheVariants.{Trying, Offer, Provisional, Ack, Answer, AnswerAgain, Refusal, Okay, Cancel, Bye, PutRows, Release, RemoveRows, Set, Stop, Abandon}
use Rattle.call_core.specs.declared.input.Input.{Input}
use Rattle.call_core.specs.CallRows.{call_row, first_call_row}
use Rattle.call_core.specs.Plans.{Step}
use Rattle.calls.specs.State.{Standing}
use Rattle.calls.specs.Carrying.{changed_at, with_dialog_at, with_step}
use Rattle.calls.specs.Changes.{beside, with_last, with_leg, with_taken_if}
use Rattle.calls.specs.declared.change.Beside.{Beside}
use Rattle.calls.specs.declared.change.LegDialog.{LegDialog}
use Rattle.calls.specs.declared.standing_call.TakenOffer.{TakenOffer}
use Rattle.calls.specs.declared.standing_call.StandingCall.{StandingCall}
use Rattle.call_messages.specs.declared.scene.Asker.{Asker}
use Rattle.call_messages.specs.declared.scene.Scene.{Scene}
use Rattle.call_messages.specs.Dressed.{Dressed, asks, asks_at}
use Rattle.call_messages.specs.Dressing.{asks_if, branch, dialog_with, dress_one, dressed, method_of, says_ack, says_again, says_answer, says_bye, says_cancel, says_offer, says_okay, says_provisional, says_refusal, says_trying}
use Rattle.call_messages.specs.Messages.{ack, bye, offer}
use Rattle.call_steps.specs.declared.messages.StepMessages.{StepMessages}
use Rattle.call_steps.specs.declared.occasion.Occasion.{Occasion}
use Rattle.call_steps.specs.Effects as steps
use Rattle.call_steps.specs.Effects.{no_effect}
use Rattle.call_steps.specs.Messages.{ack_kept, answer_kept, first_sent, given_up, is_abandon, is_answer}
use Rattle.call_steps.specs.Messages as said
use Rattle.call_steps.specs.Rows.{begins_by, counts, does, first_asker, first_leg, first_row, first_standing, fork_by, fork_row, forked, late_by, late_row, later_dialog, messages_of, offer_coming, offers_by, offers_row, put_with, takes_by, takes_row}
use Rattle.call_steps.specs.Scenes.{first_scene, fork_scene, passed_id, scene}
use Rattle.call_steps.specs.Values.{AskerValue, ComingValue, SceneValue, dressed_in, lent_scene, without_offer}
use Rattle.message_laws.specs.Sending.{AnswerWasSent, CallWasSent}
use Rattle.message_laws.proofs.Messages.KeptSends.{EntriesWereSaid, EntriesWereSent, EntryWasSaid, calls_within, entries_joined, entries_said, entries_within, sent_left, sent_right}

-- ---- dressed messages

-- what begins or is answered by it is among what it sends
abbrev pub SelfSaid : Dressed → Type 0
SelfSaid d = EntriesWereSaid d.sends d.changes

starts_said_by : (r : Request) (to : Addr) (more : List Sent) (b : Bool)
    → EntryWasSaid (record { to = to; bytes = message_text (Kinds.Request r) } ∷ more) (cond b Leaves (Opens (asking r to (message_text (Kinds.Request r))) (asking_timers r.parts)))
starts_said_by r to more true = tt
starts_said_by r to more false = inl refl

asks_at_said : (to : Option Addr) (r : Request) (made : ℕ) → SelfSaid (asks_at to r made)
asks_at_said None r made = tt
asks_at_said (Some to) r made = starts_said_by r to [] (is_method (codes "ACK") r.parts)

asks_said : (r : Request) (made : ℕ) → SelfSaid (asks r made)
asks_said r made = asks_at_said (address_of r.uri) r made

asks_if_said : (r : Option Request) (made : ℕ) → SelfSaid (asks_if r made)
asks_if_said None made = tt
asks_if_said (Some r) made = asks_said r made

offer_said : (s : Scene) (n : ℕ) (d : Option Dialog) (method : _) (description : Option Description) → SelfSaid (says_offer s n d method description)
offer_said s n None method description = tt
offer_said s n (Some d) method None = tt
offer_said s n (Some d) method (Some description) = asks_if_said (offer s.server d (method_of method) s.hops description (branch s n)) 1

ack_said : (s : Scene) (n : ℕ) (d : Option Dialog) → SelfSaid (says_ack s n d)
ack_said s n None = tt
ack_said s n (Some d) = asks_said (ack s.server d (branch s n)) 1

bye_said : (s : Scene) (n : ℕ) (d : Option Dialog) → SelfSaid (says_bye s n d)
bye_said s n None = tt
bye_said s n (Some d) = asks_if_said (bye s.server d (branch s n)) 1

cancel_said : (t : Option Transaction) → SelfSaid (says_cancel t)
cancel_said None = tt
cancel_said (Some t) = asks_if_said (cancel_of t) 0

trying_said : (a : Option Asker) → SelfSaid (says_trying a)
trying_said None = tt
trying_said (Some a) = inl refl

provisional_said : (server : Addr) (a : Option Asker) (status : ℕ) → SelfSaid (says_provisional server a status)
provisional_said server None status = tt
provisional_said server (Some a) status = inl refl

answer_said : (server : Addr) (a : Option Asker) (description : Option Description) → SelfSaid (says_answer server a description)
answer_said server None description = tt
answer_said server (Some a) None = tt
answer_said server (Some a) (Some description) = inl refl

refusal_said : (a : Option Asker) (status : ℕ) → SelfSaid (says_refusal a status)
refusal_said None status = tt
refusal_said (Some a) status = inl refl

okay_said : (server : Addr) (a : Option Asker) → SelfSaid (says_okay server a)
okay_said server None = tt
okay_said server (Some a) = inl refl

again_said : (sent : Option Sent) → SelfSaid (says_again sent)
again_said None = tt
again_said (Some sent) = tt

pub one_said : (s : Scene) (n : ℕ) (action : Action) → SelfSaid (dress_one s n action)
unfolding dress_one
one_said s n (Trying end) = trying_said s.offer
one_said s n (Offer end method) = offer_said s n (dialog_with end s) method (option_copied s.description)
one_said s n (Provisional end status) = provisional_said s.server s.offer status
one_said s n (Ack end) = ack_said s n (dialog_with end s)
one_said s n (Answer end) = answer_said s.server s.offer (option_copied s.description)
one_said s n (AnswerAgain end) = again_said (option_copied s.again)
one_said s n (Refusal end status) = refusal_said s.offer status
one_said s n (Okay end) = okay_said s.server s.request
one_said s n (Cancel end) = cancel_said (option_copied s.passed)
one_said s n (Bye end) = bye_said s n (dialog_with end s)
one_said s n PutRows = tt
one_said s n Release = tt
one_said s n RemoveRows = tt
one_said s n (Set timer after) = tt
one_said s n (Stop timer) = tt
one_said s n (Abandon end) = tt

abbrev pub SelfSent : Dressed → Type 0
SelfSent d = EntriesWereSent d.sends d.changes

dressed_sent : (s : Scene) (n : ℕ) (actions : List Action) → SelfSent (dressed s n actions)
dressed_sent s n [] = tt
dressed_sent s n (action ∷ later) =
    let one = dress_one s n action in
    let rest = dressed s (n + one.made) later in
    entries_joined (one.sends ++ rest.sends) one.changes rest.changes
    (entries_within one.sends (one.sends ++ rest.sends) one.changes (sent_left one.sends rest.sends) (entries_said one.sends one.changes (one_said s n action)))
    (entries_within rest.sends (one.sends ++ rest.sends) rest.changes (sent_right one.sends rest.sends) (dressed_sent s (n + one.made) later))

-- ---- what is kept

-- the first of these
first_within : (xs ys : List Sent) → AnswerWasSent (xs ++ ys) (first_sent xs)
first_within [] ys = tt
first_within (x ∷ xs) ys = inl refl

answer_of : (action : Action) → is_answer action ≡ true → (s : Scene) (n m : ℕ) → dress_one s n action ≡ dress_one s m action
unfolding dress_one
answer_of (Trying end) h s n m = absurd (false≢true h)
answer_of (Offer end method) h s n m = absurd (false≢true h)
answer_of (Provisional end status) h s n m = absurd (false≢true h)
answer_of (Ack end) h s n m = absurd (false≢true h)
answer_of (Answer end) h s n m = refl
answer_of (AnswerAgain end) h s n m = absurd (false≢true h)
answer_of (Refusal end status) h s n m = absurd (false≢true h)
answer_of (Okay end) h s n m = absurd (false≢true h)
answer_of (Cancel end) h s n m = absurd (false≢true h)
answer_of (Bye end) h s n m = absurd (false≢true h)
answer_of PutRows h s n m = absurd (false≢true h)
answer_of Release h s n m = absurd (false≢true h)
answer_of RemoveRows h s n m = absurd (false≢true h)
answer_of (Set timer after) h s n m = absurd (false≢true h)
answer_of (Stop timer) h s n m = absurd (false≢true h)
answer_of (Abandon end) h s n m = absurd (false≢true h)

answer_more : (xs ys : List Sent) (answer : Option Sent) → AnswerWasSent ys answer → AnswerWasSent (xs ++ ys) answer
answer_more xs ys None h = h
answer_more xs ys (Some answer) h = sent_right xs ys answer.bytes h

-- alone it is what it is at its place
alone : (s : Scene) (t n : ℕ) (action : Action) (rest : List Sent) → is_answer action ≡ true → AnswerWasSent ((dress_one s n action).sends ++ rest) (first_sent (dressed s t (action ∷ [])).sends)
alone s t n action rest h =
    let one = dress_one s n action in
    subst (λ xs. AnswerWasSent (one.sends ++ rest) (first_sent xs)) (sym (append-nil (dress_one s t action).sends ∙ ap (λ (d : Dressed). d.sends) (answer_of action h s t n)))
    (first_within one.sends rest)

abbrev KeepsFound : Scene → ℕ → List Sent → Option Action → Type 0
KeepsFound s t sends None = Unit {0}
KeepsFound s t sends (Some a) = AnswerWasSent sends (first_sent (dressed s t (a ∷ [])).sends)

found_more : (s : Scene) (t : ℕ) (xs ys : List Sent) (found : Option Action) → KeepsFound s t ys found → KeepsFound s t (xs ++ ys) found
found_more s t xs ys None h = h
found_more s t xs ys (Some a) h = answer_more xs ys _ h

found_by : (s : Scene) (t n : ℕ) (action : Action) (rest : List Sent) (found : Option Action) (b : Bool) → is_answer action ≡ b → KeepsFound s t rest found
    → KeepsFound s t ((dress_one s n action).sends ++ rest) (cond b (Some action) found)
found_by s t n action rest found true h k = alone s t n action rest h
found_by s t n action rest found false h k = found_more s t (dress_one s n action).sends rest found k

found_sent : (s : Scene) (t n : ℕ) (actions : List Action) → KeepsFound s t (dressed s n actions).sends (find is_answer actions)
found_sent s t n [] = tt
found_sent s t n (action ∷ later) =
    let one = dress_one s n action in
    found_by s t n action (dressed s (n + one.made) later).sends (find is_answer later) (is_answer action) refl (found_sent s t (n + one.made) later)

answer_kept_by : (s : SceneValue) (sends : List Sent) (found : Option Action) → KeepsFound (lent_scene s) s.tokens sends found → AnswerWasSent sends (answer_kept s found)
answer_kept_by s sends None h = tt
answer_kept_by s sends (Some a) h = h

answer_kept_sent : (s : SceneValue) (actions : List Action) → AnswerWasSent (dressed_in s actions).sends (answer_kept s (find is_answer actions))
answer_kept_sent s actions = answer_kept_by s (dressed_in s actions).sends (find is_answer actions) (found_sent (lent_scene s) s.tokens s.tokens actions)

first_alone : (xs ys : List Sent) → AnswerWasSent (xs ++ ys) (first_sent (xs ++ []))
first_alone xs ys = subst (λ zs. AnswerWasSent (xs ++ ys) (first_sent zs)) (sym (append-nil xs)) (first_within xs ys)

ack_kept_sent : (s : SceneValue) (actions : List Action) → AnswerWasSent (dressed_in s actions).sends (ack_kept s actions)
ack_kept_sent s [] = tt
ack_kept_sent s (Ack end ∷ later) = first_alone (dress_one (lent_scene s) s.tokens (Ack end)).sends _
ack_kept_sent s (Trying end ∷ later) = tt
ack_kept_sent s (Offer end method ∷ later) = tt
ack_kept_sent s (Provisional end status ∷ later) = tt
ack_kept_sent s (Answer end ∷ later) = tt
ack_kept_sent s (AnswerAgain end ∷ later) = tt
ack_kept_sent s (Refusal end status ∷ later) = tt
ack_kept_sent s (Okay end ∷ later) = tt
ack_kept_sent s (Cancel end ∷ later) = tt
ack_kept_sent s (Bye end ∷ later) = tt
ack_kept_sent s (PutRows ∷ later) = tt
ack_kept_sent s (Release ∷ later) = tt
ack_kept_sent s (RemoveRows ∷ later) = tt
ack_kept_sent s (Set timer after ∷ later) = tt
ack_kept_sent s (Stop timer ∷ later) = tt
ack_kept_sent s (Abandon end ∷ later) = tt

-- ---- the messages of a step

given_up_sent : (all : List Sent) (id : Option ℕ) (action : Option Action) → EntriesWereSent all (given_up id action)
given_up_sent all None action = tt
given_up_sent all (Some id) None = tt
given_up_sent all (Some id) (Some action) = (tt, tt)

pub record SaidSent (x : StepMessages) : Type 0 where
  pub entries : SelfSent x.dressed
  pub answer : AnswerWasSent x.dressed.sends x.answer
  pub ack : AnswerWasSent x.dressed.sends x.ack

said_sent : (s : SceneValue) (passed : Option ℕ) (actions : List Action) → SaidSent (said.messages s passed actions)
unfolding said.messages
said_sent s passed actions =
    let d = dressed_in s actions in
    record {
      entries = entries_joined d.sends d.changes (given_up passed (find is_abandon actions)) (dressed_sent (lent_scene s) s.tokens actions) (given_up_sent d.sends passed (find is_abandon actions));
      answer = answer_kept_sent s actions;
      ack = ack_kept_sent s actions;
    }

-- ---- a step, after what was sent before

pub record SentStep (before : List Sent) (x : steps.Effect) : Type 0 where
  pub entries : SelfSent x.dressed
  pub ack : AnswerWasSent x.dressed.sends x.ack
  pub calls : All (CallWasSent (before ++ x.dressed.sends)) x.outcome.standing.calls

stays : (before more : List Sent) (calls : List StandingCall) → All (CallWasSent before) calls → All (CallWasSent (before ++ more)) calls
stays before more calls each = calls_within before (before ++ more) calls (sent_left before more) each

none_sent : (before : List Sent) (calls : Standing) → All (CallWasSent before) calls.calls → SentStep before (no_effect calls)
none_sent before calls each = record { entries = tt; ack = tt; calls = stays before [] calls.calls each }

-- what is put beside a call leaves its answer, or has one that was sent
leg_answer : (all : List Sent) (c : StandingCall) (leg : Option LegDialog) → CallWasSent all c → CallWasSent all (with_leg leg c)
leg_answer all c None h = h
leg_answer all c (Some leg) h = h

taken_answer : (all : List Sent) (c : StandingCall) (taken : Option TakenOffer) → CallWasSent all c → CallWasSent all (with_taken_if taken c)
taken_answer all c None h = h
taken_answer all c (Some o) h = h

last_answer : (all : List Sent) (c : StandingCall) (answer : Option Sent) → AnswerWasSent all answer → CallWasSent all c → CallWasSent all (with_last answer c)
last_answer all c None new h = h
last_answer all c (Some answer) new h = new

beside_sent : (all : List Sent) (c : StandingCall) (kept : Beside) → AnswerWasSent all kept.answer → CallWasSent all c → CallWasSent all (beside kept c)
beside_sent all c kept new h =
    last_answer all (with_taken_if kept.taken (with_leg kept.leg c)) kept.answer new (taken_answer all (with_leg kept.leg c) kept.taken (leg_answer all c kept.leg h))

pub call_sent_at : (all : List Sent) (calls : List StandingCall) (place : ℕ) (c : StandingCall) → All (CallWasSent all) calls → slice_get calls place ≡ Some c → CallWasSent all c
call_sent_at all calls place c each there = subst (CallWasSent all) (get_or_from_slice_get calls place c c there) (each place c (slice_get_within calls place c there))

put_or_gone : (all : List Sent) (place : ℕ) (calls : List StandingCall) (c : StandingCall) (b : Bool) → CallWasSent all c → All (CallWasSent all) calls
    → All (CallWasSent all) (cond b (slice_set calls place c) (remove calls place))
put_or_gone all place calls c true h each = All-set (CallWasSent all) calls place c h each
put_or_gone all place calls c false h each =
    All-append (CallWasSent all) (take place calls) (drop (suc place) calls) (All-take (CallWasSent all) place calls each) (All-drop (CallWasSent all) (suc place) calls each)

pushed_sent : (all : List Sent) (calls : List StandingCall) (c : StandingCall) (b : Bool) → CallWasSent all c → All (CallWasSent all) calls → All (CallWasSent all) (cond b (calls ++ c ∷ []) calls)
pushed_sent all calls c true h each = All-push (CallWasSent all) calls c each h
pushed_sent all calls c false h each = each

pub changed_sent : (all : List Sent) (leg : LegDialog) (place : ℕ) (calls : List StandingCall) (c : Option StandingCall) → slice_get calls place ≡ c → All (CallWasSent all) calls
    → All (CallWasSent all) (changed_at (with_dialog_at leg.end leg.dialog) place calls c)
changed_sent all leg place calls None there each = each
changed_sent all leg place calls (Some c) there each =
    All-set (CallWasSent all) calls place (with_dialog_at leg.end leg.dialog c) (leg_answer all c (Some leg) (call_sent_at all calls place c each there)) each

answer_behind : (before sends : List Sent) (answer : Option Sent) → AnswerWasSent sends answer → AnswerWasSent (before ++ sends) answer
answer_behind before sends None h = h
answer_behind before sends (Some answer) h = sent_right before sends answer.bytes h

answer_stays : (before more : List Sent) (answer : Option Sent) → AnswerWasSent before answer → AnswerWasSent (before ++ more) answer
answer_stays before more None h = h
answer_stays before more (Some answer) h = sent_left before more answer.bytes h

does_sent : (before : List Sent) (calls : Standing) (table : transactions.Contents) (o : Occasion) (place : ℕ) (w : ComingValue) (c : StandingCall) (step : Step)
    → All (CallWasSent before) calls.calls → CallWasSent before c → SentStep before (does calls table o place w c step)
does_sent before calls table o place w c step each h =
    let x = messages_of table o w c step in
    let own = said_sent (scene table o w c step.description) (passed_id table c) step.actions in
    let all = before ++ x.dressed.sends in
    record {
      entries = own.entries;
      ack = own.ack;
      calls = put_or_gone all place calls.calls (beside (put_with w x) (with_step c step)) (is_some step.call.standing)
          (beside_sent all (with_step c step) (put_with w x) (answer_behind before x.dressed.sends x.answer own.answer) (answer_stays before x.dressed.sends c.answer h))
          (stays before x.dressed.sends calls.calls each);
    }

takes_by_sent : (before : List Sent) (calls : Standing) (table : transactions.Contents) (o : Occasion) (place : ℕ) (input : Input) (leg : Option LegDialog) (request : Option AskerValue) (c : Option StandingCall)
    → All (CallWasSent before) calls.calls → slice_get calls.calls place ≡ c → SentStep before (takes_by calls table o place input leg request c)
takes_by_sent before calls table o place input leg request None each there = none_sent before calls each
takes_by_sent before calls table o place input leg request (Some c) each there =
    does_sent before calls table o place (without_offer leg request) c (call_row c.call input calls.pool o.now) each (call_sent_at before calls.calls place c each there)

pub takes_sent : (before : List Sent) (calls : Standing) (table : transactions.Contents) (o : Occasion) (place : ℕ) (input : Input) (leg : Option LegDialog) (request : Option AskerValue)
    → All (CallWasSent before) calls.calls → SentStep before (takes_row calls table o place input leg request)
unfolding takes_row
takes_sent before calls table o place input leg request each = takes_by_sent before calls table o place input leg request (slice_get calls.calls place) each refl

offers_by_sent : (before : List Sent) (calls : Standing) (table : transactions.Contents) (o : Occasion) (place : ℕ) (input : Input) (end : _) (r : Request) (id : ℕ) (source : Addr) (leg : Option LegDialog) (c : Option StandingCall)
    → All (CallWasSent before) calls.calls → slice_get calls.calls place ≡ c → SentStep before (offers_by calls table o place input end r id source leg c)
offers_by_sent before calls table o place input end r id source leg None each there = none_sent before calls each
offers_by_sent before calls table o place input end r id source leg (Some c) each there =
    does_sent before calls table o place (offer_coming leg end r id source c) c (call_row c.call input calls.pool o.now) each (call_sent_at before calls.calls place c each there)

pub offers_sent : (before : List Sent) (calls : Standing) (table : transactions.Contents) (o : Occasion) (place : ℕ) (input : Input) (end : _) (r : Request) (id : ℕ) (source : Addr)
    → All (CallWasSent before) calls.calls → SentStep before (offers_row calls table o place input end r id source)
unfolding offers_row
offers_sent before calls table o place input end r id source each =
    offers_by_sent before calls table o place input end r id source (counts calls.calls place end r.parts.cseq.number) (slice_get calls.calls place) each refl

begins_by_sent : (before : List Sent) (calls : Standing) (o : Occasion) (r : Request) (id : ℕ) (source : Addr) (target : Uri) (offer : Description) (contact : Option Uri)
    → All (CallWasSent before) calls.calls → SentStep before (begins_by calls o r id source target offer contact)
begins_by_sent before calls o r id source target offer None each = none_sent before calls each
begins_by_sent before calls o r id source target offer (Some contact) each =
    let c = first_standing (calls.begun + 1) o r id source contact in
    let step = first_call_row c.call offer calls.pool o.now in
    let s = first_scene o (first_asker o r id source) r.max_forwards (first_leg o r target) step.description in
    let x = said.messages s None step.actions in
    let own = said_sent s None step.actions in
    record {
      entries = own.entries;
      ack = own.ack;
      calls = pushed_sent (before ++ x.dressed.sends) calls.calls (with_step c step) (is_some step.call.standing) tt (stays before x.dressed.sends calls.calls each);
    }

pub first_sends : (before : List Sent) (calls : Standing) (o : Occasion) (r : Request) (id : ℕ) (source : Addr) (target : Uri) (offer : Description)
    → All (CallWasSent before) calls.calls → SentStep before (first_row calls o r id source target offer)
unfolding first_row
first_sends before calls o r id source target offer each = begins_by_sent before calls o r id source target offer (reached_at (contacts_of r.headers)) each

alone_sends : (before : List Sent) (calls : Standing) (o : Occasion) (leg : Dialog) (actions : List Action) → All (CallWasSent before) calls.calls
    → SentStep before (forked calls (said.messages (fork_scene o leg) None actions))
alone_sends before calls o leg actions each =
    let own = said_sent (fork_scene o leg) None actions in
    record { entries = own.entries; ack = own.ack; calls = stays before (said.messages (fork_scene o leg) None actions).dressed.sends calls.calls each }

fork_by_sends : (before : List Sent) (calls : Standing) (o : Occasion) (asked : Parts) (response : Response) (contact : Option Uri) → All (CallWasSent before) calls.calls
    → SentStep before (fork_by calls o asked response contact)
fork_by_sends before calls o asked response None each = none_sent before calls each
fork_by_sends before calls o asked response (Some target) each = alone_sends before calls o (callers_dialog asked response target) (Ack Callee ∷ Bye Callee ∷ []) each

pub fork_sends : (before : List Sent) (calls : Standing) (o : Occasion) (asked : Parts) (response : Response) → All (CallWasSent before) calls.calls → SentStep before (fork_row calls o asked response)
unfolding fork_row
fork_sends before calls o asked response each = fork_by_sends before calls o asked response (reached_at (contacts_of response.headers)) each

late_by_sends : (before : List Sent) (calls : Standing) (o : Occasion) (asked : Parts) (response : Response) (contact : Option Uri) → All (CallWasSent before) calls.calls
    → SentStep before (late_by calls o asked response contact)
late_by_sends before calls o asked response None each = none_sent before calls each
late_by_sends before calls o asked response (Some target) each = alone_sends before calls o (later_dialog asked response target) (Ack Callee ∷ []) each

pub late_sends : (before : List Sent) (calls : Standing) (o : Occasion) (asked : Parts) (response : Response) → All (CallWasSent before) calls.calls → SentStep before (late_row calls o asked response)
unfolding late_row
late_sends before calls o asked response each = late_by_sends before calls o asked response (reached_at (contacts_of response.headers)) each
