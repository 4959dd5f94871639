-- The numbers of the server's own requests in one leg rise, event by event and over a list of events.
use Rattle.std.proofs.Common.{ℕ, suc, ◌+◌, List, [], ◌∷◌, ◌++◌, get_or, Option, Some, None, sym, subst, inl, inr, refl, arith}
use Rattle.std.specs.List.{All, AllPairs}
use Rattle.std.proofs.lemmas.Bool.{false≢true}
use Rattle.std.proofs.lemmas.List.{append_assoc, append-nil}
use Rattle.std.proofs.lemmas.List.Kept.{AllPairs-cons}
use Rattle.std.proofs.lemmas.List.Elements.{All-append, All-cons, All-head, All-nil, All-tail, All-weaker}
use Rattle.std.proofs.lemmas.Option.{slice_get-get_or}
use Rattle.configuration.specs.declared.config.Config.{Config}
use Rattle.events.specs.declared.event.Event.{Event}
use Rattle.events.specs.declared.sent.Sent.{Sent}
use Rattle.transaction_machines.specs.declared.other_client.OtherClient.TheVariants.{Completed}
use Rattle.transaction_machines.specs.declared.state.State.TheVariants.{OtherClient}
use Rattle.transactions.specs.declared.change.Entry.{Entry as Change}
use Rattle.transactions.specs.declared.change.Entry.TheVariants.{Opens, Tells, Answers, Leaves}
use Rattle.transactions.specs.declared.transaction.Transaction.{Transaction}
use Rattle.calls.specs.declared.standing_call.StandingCall.{StandingCall}
use Rattle.plans.specs.declared.taken.Taken.{Taken}
use Rattle.plans.specs.Effect.{Effect}
use Rattle.plans.specs.Office.{Office}
use Rattle.event_rows.specs.Rows.{after, moment_after, row}
use Rattle.event_rows.specs.State.{Contents, IsNew, after_event, office}
use Rattle.event_rows.specs.Trace.{AreEntries, Entry, after_answer, after_entries, after_entry}
use Rattle.message_laws.specs.Carried.{CarriesIfOffering, KnowsCarried}
use Rattle.message_laws.specs.Entries.{EnterOwn}
use Rattle.message_laws.specs.Knowing.{KnowsTokens}
use Rattle.message_laws.specs.Knowledge.{KnowsMessages}
use Rattle.message_laws.specs.Numbers.{EndLegsIn, EndsLegs, GoInOrder, IsBelow, IsNumberedIf, IsPast, KnowsNumbers, WasCounted, begun_at, begun_in, begun_of, own_of}
use Rattle.message_laws.specs.Tokens.{IsOwn}
use Rattle.message_laws.specs.Waiting.{FitsCall, KnowsWaiting, from_tag}
use Rattle.message_laws.proofs.AwaitedOffers.Coming.{OpensIn}
use Rattle.message_laws.proofs.TokenUse.Events.{row_owns}
use Rattle.message_laws.proofs.QuietEvents.Growing.{made_more}
use Rattle.message_laws.proofs.AwaitedOffers.Lists.{answer_messages, new_messages}
use Rattle.message_laws.proofs.AwaitedOffers.Once.{OneOffers}
use Rattle.message_laws.proofs.TokenUse.Rows.{OwnEffect}
use Rattle.message_laws.proofs.AwaitedOffers.WaitEffects.{Waits}
use Rattle.message_laws.proofs.AwaitedOffers.WaitEvents.{row_waits}

-- ---- what begins

begun_all : (P : Transaction → Type 0) (changes : List Change) → ((t : Transaction) → OpensIn t changes → P t) → All P (begun_of changes)
begun_all P [] f = All-nil P
begun_all P (Opens t starts ∷ changes) f = All-cons P t (begun_of changes) (f t (inl refl)) (begun_all P changes (λ u opens. f u (inr opens)))
begun_all P (Tells id input fresh ∷ changes) f = begun_all P changes f
begun_all P (Answers id class bytes ∷ changes) f = begun_all P changes f
begun_all P (Leaves ∷ changes) f = begun_all P changes f

own_in : (made : ℕ) (changes : List Change) (t : Transaction) → EnterOwn made changes → OpensIn t changes → IsOwn made t
own_in made [] t own opens = absurd opens
own_in made (Opens v starts ∷ changes) t own (inl same) = subst (IsOwn made) same own.0
own_in made (Opens v starts ∷ changes) t own (inr opens) = own_in made changes t own.1 opens
own_in made (Tells id input fresh ∷ changes) t own opens = own_in made changes t own.1 opens
own_in made (Answers id class bytes ∷ changes) t own opens = own_in made changes t own.1 opens
own_in made (Leaves ∷ changes) t own opens = own_in made changes t own.1 opens

pairs_nil : AllPairs IsBelow []
pairs_nil i j d lt within = absurd (omega (arith, within))

-- of the changes of an event, where one at most begins an offer
rise_one : (changes : List Change) → OneOffers changes → AllPairs IsBelow (begun_of changes)
rise_one [] one = pairs_nil
rise_one (Opens t starts ∷ changes) one =
    AllPairs-cons IsBelow t (begun_of changes) (begun_all (IsBelow t) changes (λ u opens offers_t offers_u same. absurd (one.0 offers_t u opens offers_u))) (rise_one changes one.1)
rise_one (Tells id input fresh ∷ changes) one = rise_one changes one
rise_one (Answers id class bytes ∷ changes) one = rise_one changes one
rise_one (Leaves ∷ changes) one = rise_one changes one

pub pairs_head : (t : Transaction) (xs : List Transaction) → AllPairs IsBelow (t ∷ xs) → All (IsBelow t) xs
pairs_head t xs pairs = λ k d within. pairs 0 (suc k) d (omega arith) (omega (arith, within))

pub pairs_tail : (t : Transaction) (xs : List Transaction) → AllPairs IsBelow (t ∷ xs) → AllPairs IsBelow xs
pairs_tail t xs pairs = λ i j d lt within. pairs (suc i) (suc j) d (omega (arith, lt)) (omega (arith, within))

abbrev AreBelow : List Transaction → Transaction → Type 0
AreBelow ys t = All (IsBelow t) ys

rise_then : (xs ys : List Transaction) → AllPairs IsBelow xs → AllPairs IsBelow ys → All (AreBelow ys) xs → AllPairs IsBelow (xs ++ ys)
rise_then [] ys one two each = two
rise_then (t ∷ xs) ys one two each =
    AllPairs-cons IsBelow t (xs ++ ys) (All-append (IsBelow t) xs ys (pairs_head t xs one) (All-head (AreBelow ys) t xs each)) (rise_then xs ys (pairs_tail t xs one) two (All-tail (AreBelow ys) t xs each))

-- ---- a request whose wait is over

-- the same request, once its final response came
abbrev over : Transaction → Transaction
over t = record { uri = t.uri; parts = t.parts; state = OtherClient Completed; place = t.place; last = t.last }

over_fits : (t : Transaction) (calls : List StandingCall) → All (WasCounted t) calls → All (FitsCall (over t)) calls
over_fits t calls each = All-weaker (WasCounted t) (FitsCall (over t)) (λ c h has. record { counted = h has; opens = λ w. absurd (false≢true w) }) calls each

over_counted : (t : Transaction) (calls : List StandingCall) → All (FitsCall (over t)) calls → All (WasCounted t) calls
over_counted t calls each = All-weaker (FitsCall (over t)) (WasCounted t) (λ c fits has. (fits has).counted) calls each

-- ---- an event

numbers_by : (s : Contents) (begun : List Transaction) → KnowsNumbers (office s) begun → (now : ℕ) (x : Effect) → OwnEffect (office s) x → Waits (office s) x
    → KnowsNumbers (office (after_event s now x)) (begun ++ begun_of x.plan.changes)
unfolding after_event
numbers_by s begun k now x own w =
    let before = IsNumberedIf (office s) in
    let later = IsNumberedIf (office (after_event s now x)) in
    let on : (t : Transaction) → before t → later t = λ t h offers. record {
      tag = made_more s.tokens (s.tokens + x.plan.made) (from_tag t) (omega arith) (h offers).tag;
      counted = over_counted t x.calls.standing.calls (w.counted (over t) refl (h offers).tag (over_fits t s.calls.calls (h offers).counted));
    } in
    let new : (t : Transaction) → OpensIn t x.plan.changes → later t = λ t opens offers. record {
      tag = (own_in (s.tokens + x.plan.made) x.plan.changes t own.entries opens offers.client).tag;
      counted = All-weaker (FitsCall t) (WasCounted t) (λ c fits has. (fits has).counted) x.calls.standing.calls (w.began t opens offers);
    } in
    let above : (v : Transaction) → before v → AreBelow (begun_of x.plan.changes) v = λ v h. begun_all (IsBelow v) x.plan.changes
    (λ t opens offers_v offers_t same. w.above t opens offers_t (over v) (h offers_v).tag (over_fits v s.calls.calls (h offers_v).counted) same) in
    record {
      numbered = All-append later begun (begun_of x.plan.changes) (All-weaker before later on begun k.numbered) (begun_all later x.plan.changes new);
      rise = rise_then begun (begun_of x.plan.changes) k.rise (rise_one x.plan.changes w.one) (All-weaker before (AreBelow (begun_of x.plan.changes)) above begun k.numbered);
    }

pub after_numbers : (s : Contents) (e : Event) (begun : List Transaction) → KnowsTokens (office s) → KnowsWaiting (office s) → KnowsNumbers (office s) begun
    → KnowsNumbers (office (after s e)) (begun ++ begun_of (row s e).plan.changes)
after_numbers s e begun tokens waiting k = numbers_by s begun k (moment_after s e) (row s e) (row_owns s tokens e) (row_waits s tokens waiting e)

-- a BYE in a leg of a call that was live
pub after_byes : (s : Contents) (e : Event) (begun : List Transaction) → KnowsTokens (office s) → KnowsWaiting (office s) → KnowsNumbers (office s) begun
    → All (EndsLegs s.calls.calls begun) (begun_of (row s e).plan.changes)
after_byes s e begun tokens waiting k =
    let calls = s.calls.calls in
    let w = row_waits s tokens waiting e in
    begun_all (EndsLegs calls begun) (row s e).plan.changes
    (λ t opens i d within bye. All-weaker (IsNumberedIf (office s)) (IsPast t)
    (λ v h offers same. w.byes tokens.calls t opens i (get_or calls i d) (slice_get-get_or calls i d within) bye v (h offers).tag (h offers).counted same) begun k.numbered)

-- what begins is sent
pub after_sends : (s : Contents) (e : Event) → KnowsTokens (office s) → KnowsWaiting (office s) → GoInOrder (own_of (row s e).plan.changes) (row s e).plan.sends
after_sends s e tokens waiting = (row_waits s tokens waiting e).sent

pub new_numbers : (c : Config) (s : Contents) → IsNew c s → KnowsNumbers (office s) []
new_numbers c s new = record { numbered = All-nil (IsNumberedIf (office s)); rise = pairs_nil }

-- ---- what they carry

carried_by : (s : Contents) (begun : List Transaction) → KnowsNumbers (office s) begun → KnowsCarried (office s) begun → (now : ℕ) (x : Effect) → Waits (office s) x
    → KnowsCarried (office (after_event s now x)) (begun ++ begun_of x.plan.changes)
unfolding after_event
carried_by s begun k carried now x w =
    let later = CarriesIfOffering x.calls.standing.calls in
    All-append later begun (begun_of x.plan.changes)
    (λ i d within offers. w.keeps (get_or begun i d) (k.numbered i d within offers).tag (k.numbered i d within offers).counted (carried i d within offers))
    (begun_all later x.plan.changes (λ t opens offers. w.carries t opens offers))

pub after_carried : (s : Contents) (e : Event) (begun : List Transaction) → KnowsTokens (office s) → KnowsWaiting (office s) → KnowsNumbers (office s) begun → KnowsCarried (office s) begun
    → KnowsCarried (office (after s e)) (begun ++ begun_of (row s e).plan.changes)
after_carried s e begun tokens waiting k carried = carried_by s begun k carried (moment_after s e) (row s e) (row_waits s tokens waiting e)

pub new_carried : (c : Config) (s : Contents) → IsNew c s → KnowsCarried (office s) []
new_carried c s new = All-nil (CarriesIfOffering s.calls.calls)

-- ---- a list of events

record KnowsBegun (s : Office) (begun : List Transaction) : Type 0 where
  numbers : KnowsNumbers s begun
  carried : KnowsCarried s begun

answer_begun : (s : Contents) (x : Entry) (begun : List Transaction) (taken : Option Taken) → KnowsTokens (office s) → KnowsWaiting (office s) → KnowsBegun (office s) begun
    → KnowsBegun (office (after_answer s x.event taken)) (begun ++ begun_at s x.event taken)
answer_begun s x begun None tokens waiting k = subst (KnowsBegun (office s)) (sym (append-nil begun)) k
answer_begun s x begun (Some taken) tokens waiting k = record { numbers = after_numbers s x.event begun tokens waiting k.numbers; carried = after_carried s x.event begun tokens waiting k.numbers k.carried }

list_begun : (s : Contents) (xs : List Entry) (sent : List Sent) (begun : List Transaction) → AreEntries s xs → KnowsMessages (office s) sent → KnowsBegun (office s) begun
    → KnowsBegun (office (after_entries s xs)) (begun ++ begun_in s xs)
list_begun s [] sent begun are known k = subst (KnowsBegun (office s)) (sym (append-nil begun)) k
list_begun s (x ∷ xs) sent begun are known k =
    subst (KnowsBegun (office (after_entries (after_entry s x) xs))) (append_assoc begun (begun_at s x.event x.answer) (begun_in (after_entry s x) xs))
    (list_begun (after_entry s x) xs (sent ++ x.sends) (begun ++ begun_at s x.event x.answer) are.1 (answer_messages s x sent x.answer are.0 known)
    (answer_begun s x begun x.answer known.tokens known.waiting k))

new_begun : (c : Config) (s : Contents) (xs : List Entry) → IsNew c s → AreEntries s xs → KnowsBegun (office (after_entries s xs)) (begun_in s xs)
new_begun c s xs new are = list_begun s xs [] [] are (new_messages c s new) (record { numbers = new_numbers c s new; carried = new_carried c s new })

pub new_rise : (c : Config) (s : Contents) (xs : List Entry) → IsNew c s → AreEntries s xs → AllPairs IsBelow (begun_in s xs)
new_rise c s xs new are = (new_begun c s xs new are).numbers.rise

answer_ends : (s : Contents) (x : Entry) (begun : List Transaction) (taken : Option Taken) → KnowsTokens (office s) → KnowsWaiting (office s) → KnowsNumbers (office s) begun
    → All (EndsLegs s.calls.calls begun) (begun_at s x.event taken)
answer_ends s x begun None tokens waiting k = All-nil (EndsLegs s.calls.calls begun)
answer_ends s x begun (Some taken) tokens waiting k = after_byes s x.event begun tokens waiting k

list_ends : (s : Contents) (xs : List Entry) (sent : List Sent) (begun : List Transaction) → AreEntries s xs → KnowsMessages (office s) sent → KnowsBegun (office s) begun → EndLegsIn s begun xs
list_ends s [] sent begun are known k = tt
list_ends s (x ∷ xs) sent begun are known k = (
  answer_ends s x begun x.answer known.tokens known.waiting k.numbers,
  list_ends (after_entry s x) xs (sent ++ x.sends) (begun ++ begun_at s x.event x.answer) are.1 (answer_messages s x sent x.answer are.0 known) (answer_begun s x begun x.answer known.tokens known.waiting k),
)

pub new_ends : (c : Config) (s : Contents) (xs : List Entry) → IsNew c s → AreEntries s xs → EndLegsIn s [] xs
new_ends c s xs new are = list_ends s xs [] [] are (new_messages c s new) (record { numbers = new_numbers c s new; carried = new_carried c s new })

pub list_carried : (c : Config) (s : Contents) (xs : List Entry) → IsNew c s → AreEntries s xs → KnowsCarried (office (after_entries s xs)) (begun_in s xs)
list_carried c s xs new are = (new_begun c s xs new are).carried
