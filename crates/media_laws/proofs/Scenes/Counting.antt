-- A step of a call leaves a number for a BYE in each of its dialogs, and so does what is put beside it.
use Rattle.std.proofs.Common.{◌≡◌, ℕ, ◌+◌, nat_lt, Bool, true, false, cond, List, [], ◌∷◌, ◌++◌, Option, Some, None, is_some, option_map, refl, sym, ap, subst, arith}
use Rattle.std.specs.Prelude.{slice_get}
use Rattle.std.specs.List.{All}
use Rattle.std.proofs.lemmas.Bool.{lt-ltb, ltb-true}
use Rattle.std.proofs.lemmas.List.Elements.{All-push, All-set}
use Rattle.port_pool.specs.Pool as pools
use Rattle.sip_uri.specs.declared.uri.Addr.{Addr}
use Rattle.sip_uri.specs.declared.uri.Uri.{Uri}
use Rattle.sip_message.specs.Contact.{contacts_of}
use Rattle.sip_message.specs.CSeq.{max_cseq}
use Rattle.sip_message.specs.declared.message.Parts.{Parts}
use Rattle.sip_message.specs.declared.message.Request.{Request}
use Rattle.sip_message.specs.declared.message.Response.{Response}
use Rattle.sdp.specs.declared.description.Description.{Description}
use Rattle.dialogs.specs.Counting.{following, max_for, last_number}
use Rattle.dialogs.specs.Making.{reached_at}
use Rattle.dialogs.specs.declared.method.Method.TheVariants.{Bye, Invite}
use Rattle.dialogs.specs.declared.state.Dialog.{Dialog}
use Rattle.events.specs.declared.sent.Sent.{Sent}
use Rattle.transactions.specs.Contents as transactions
use Rattle.call_media.specs.declared.end.End.{End}
use Rattle.call_media.specs.declared.end.End.TheVariants.{Callee, Caller}
use Rattle.call_media.specs.declared.state.CallMedia.{CallMedia}
use Rattle.call_media.specs.Ends.{other}
use Rattle.call_core.specs.CallRows.{at_line, call_row, first_call_row, offer_step, step_in}
use Rattle.call_core.specs.Calls.{after, dialog_of, has_number_left, number_to, numbers_to, to_target, with_number_if, with_target}
use Rattle.call_core.specs.Plans.{Step}
use Rattle.call_core.specs.Table.{row_of}
use Rattle.call_core.specs.declared.call.Call.{Call}
use Rattle.call_core.specs.declared.input.Input.{Input}
use Rattle.call_core.specs.declared.input.Input.TheVariants as inputs
use Rattle.call_core.specs.declared.row.Row.{Row}
use Rattle.call_core.specs.declared.signal.OfferMethod.{OfferMethod}
use Rattle.call_core.specs.declared.signal.Signal.TheVariants as signals
use Rattle.call_core.specs.declared.stage.Standing as stage
use Rattle.calls.specs.Carrying.{changed_at, offerer_of, reached_call, with_call, with_dialog_at, with_step}
use Rattle.calls.specs.Changes.{beside, with_last, with_leg, with_taken_if}
use Rattle.calls.specs.State.{Standing}
use Rattle.calls.specs.declared.change.Beside.{Beside}
use Rattle.calls.specs.declared.change.LegDialog.{LegDialog}
use Rattle.calls.specs.declared.standing_call.StandingCall.{StandingCall}
use Rattle.calls.specs.declared.standing_call.TakenOffer.{TakenOffer}
use Rattle.call_steps.specs.Effects as steps
use Rattle.call_steps.specs.Rows.{answers_leg, begins_by, counts, counts_by, counts_in, dialog_after, does, first_row, first_standing, fork_by, fork_row, late_by, late_row, leg_at, leg_by, messages_of, offer_coming, offers_by, offers_row, put_with, refreshes, takes_by, takes_row}
use Rattle.call_steps.specs.Values.{AskerValue, ComingValue, without_offer}
use Rattle.call_steps.specs.declared.occasion.Occasion.{Occasion}
use Rattle.plans.specs.CallRows.{puts_if}
use Rattle.message_laws.specs.Waiting.{IsCounted}
use Rattle.message_laws.proofs.AwaitedOffers.Awaiting.{all_at, put_or_gone}
use Rattle.message_laws.proofs.AwaitedOffers.Tables.{IsNoOfferInput, takes_fits}
use Rattle.media_laws.specs.Coming.{HasByeLeft, HasNumbersLeft}

-- ---- a step of a call

pub record KeepsLeft (a b : Call) : Type 0 where
  pub caller : HasByeLeft (Some a.caller) → HasByeLeft (Some b.caller)
  pub callee : HasByeLeft a.callee → HasByeLeft b.callee

-- with the same dialogs
same_left : (a b : Call) → b.caller ≡ a.caller → b.callee ≡ a.callee → KeepsLeft a b
same_left a b caller callee = record { caller = subst (λ d. HasByeLeft (Some d)) (sym caller); callee = subst HasByeLeft (sym callee) }

no_offer_left : (c : Call) (input : Input) (pool : pools.Contents) (now : ℕ) → IsNoOfferInput input → KeepsLeft c (call_row c input pool now).call
no_offer_left c input pool now n = let fits = takes_fits c input pool now n in same_left c (call_row c input pool now).call fits.caller fits.callee

-- an offer counts the next number, where one is left for it
following_left : (d : Dialog) → has_number_left (Some d) ≡ true → HasByeLeft (Some (record d { local_number = Some (following d) }))
following_left d left = lt-ltb (last_number d + 1) max_cseq (let low = ltb-true (last_number d) (max_for Invite) left in omega (arith, low))

following_if : (d : Option Dialog) → has_number_left d ≡ true → HasByeLeft (with_number_if (option_map following d) d)
following_if None left = tt
following_if (Some d) left = following_left d left

counted_left : (c : Call) (x : End) (next : Option stage.Standing) (media : CallMedia) → has_number_left (dialog_of (other x) c) ≡ true → KeepsLeft c (after c (numbers_to (other x) (number_to (other x) c)) next media)
counted_left c Caller next media left = record { caller = λ h. h; callee = λ h. following_if c.callee left }
counted_left c Callee next media left = record { caller = λ h. following_left c.caller left; callee = λ h. h }

line_left : (c : Call) (pool : pools.Contents) (now : ℕ) (x : End) (offer : Description) (row : Option Row) → has_number_left (dialog_of (other x) c) ≡ true → KeepsLeft c (at_line c pool (offer_step c pool now x offer) row).call
line_left c pool now x offer None left = same_left c c refl refl
line_left c pool now x offer (Some row) left = counted_left c x row.next _ left

offer_in_left : (c : Call) (standing : Option stage.Standing) (x : End) (method : OfferMethod) (offer : Description) (pool : pools.Contents) (now : ℕ) → has_number_left (dialog_of (other x) c) ≡ true
    → KeepsLeft c (step_in c standing (inputs.Offer x method (Some offer)) pool now).call
offer_in_left c None x method offer pool now left = same_left c c refl refl
offer_in_left c (Some s) x method offer pool now left = line_left c pool now x offer (row_of s (signals.Offer x method)) left

offer_left : (c : Call) (x : End) (method : OfferMethod) (offer : Description) (pool : pools.Contents) (now : ℕ) → has_number_left (dialog_of (other x) c) ≡ true
    → KeepsLeft c (call_row c (inputs.Offer x method (Some offer)) pool now).call
unfolding call_row
offer_left c x method offer pool now left = offer_in_left c c.standing x method offer pool now left

-- ---- what is put beside a call

abbrev pub IsLeftPut : Option LegDialog → Type 0
IsLeftPut None = Unit {0}
IsLeftPut (Some leg) = HasByeLeft (Some leg.dialog)

step_left : (c : StandingCall) (call : Call) → KeepsLeft c.call call → HasNumbersLeft c → HasNumbersLeft (with_call call c)
step_left c call keeps h = record { caller = keeps.caller h.caller; callee = keeps.callee h.callee }

put_at : (c : StandingCall) (end : End) (d : Dialog) → HasByeLeft (Some d) → HasNumbersLeft c → HasNumbersLeft (with_dialog_at end d c)
put_at c Caller d left h = record { caller = left; callee = h.callee }
put_at c Callee d left h = record { caller = h.caller; callee = left }

leg_put : (c : StandingCall) (leg : Option LegDialog) → IsLeftPut leg → HasNumbersLeft c → HasNumbersLeft (with_leg leg c)
leg_put c None left h = h
leg_put c (Some leg) left h = put_at c leg.end leg.dialog left h

taken_put : (c : StandingCall) (taken : Option TakenOffer) → HasNumbersLeft c → HasNumbersLeft (with_taken_if taken c)
taken_put c None h = h
taken_put c (Some offer) h = record { caller = h.caller; callee = h.callee }

target_leg : (target : Uri) (d : Option Dialog) → HasByeLeft d → HasByeLeft (option_map (to_target target) d)
target_leg target None h = h
target_leg target (Some d) h = h

target_left : (end : End) (target : Uri) (c : Call) → KeepsLeft c (with_target end target c)
target_left Caller target c = record { caller = λ h. h; callee = λ h. h }
target_left Callee target c = record { caller = λ h. h; callee = target_leg target c.callee }

reached_left : (target : Option Uri) (c : Call) → KeepsLeft c (reached_call target c)
reached_left None c = record { caller = λ h. h; callee = λ h. h }
reached_left (Some target) c = target_left (offerer_of c.standing) target c

last_put : (c : StandingCall) (answer : Option Sent) → HasNumbersLeft c → HasNumbersLeft (with_last answer c)
last_put c None h = h
last_put c (Some answer) h = let keeps = reached_left c.target c.call in record { caller = keeps.caller h.caller; callee = keeps.callee h.callee }

beside_left : (c : StandingCall) (kept : Beside) → IsLeftPut kept.leg → HasNumbersLeft c → HasNumbersLeft (beside kept c)
beside_left c kept left h = last_put (with_taken_if kept.taken (with_leg kept.leg c)) kept.answer (taken_put (with_leg kept.leg c) kept.taken (leg_put c kept.leg left h))

-- ---- the dialog that comes with an event

end_left : (c : StandingCall) (end : End) → HasNumbersLeft c → HasByeLeft (dialog_of end c.call)
end_left c Caller h = h.caller
end_left c Callee h = h.callee

counts_in_left : (end : End) (number : ℕ) (d : Option Dialog) → HasByeLeft d → IsLeftPut (counts_in end number d)
counts_in_left end number None h = tt
counts_in_left end number (Some d) h = h

counts_by_left : (end : End) (number : ℕ) (calls : List StandingCall) (place : ℕ) (c : Option StandingCall) → slice_get calls place ≡ c → All HasNumbersLeft calls → IsLeftPut (counts_by end number c)
counts_by_left end number calls place None there all = tt
counts_by_left end number calls place (Some c) there all = counts_in_left end number (dialog_of end c.call) (end_left c end (all_at HasNumbersLeft calls place c all there))

pub counts_left : (calls : List StandingCall) (place : ℕ) (end : End) (number : ℕ) → All HasNumbersLeft calls → IsLeftPut (counts calls place end number)
unfolding counts
counts_left calls place end number all = counts_by_left end number calls place (slice_get calls place) refl all

leg_at_left : (target : Option Uri) (leg : Option LegDialog) → IsLeftPut leg → IsLeftPut (leg_at target leg)
leg_at_left None leg h = h
leg_at_left (Some target) None h = tt
leg_at_left (Some target) (Some leg) h = h

pub refreshes_left : (calls : List StandingCall) (place : ℕ) (end : End) (r : Request) → All HasNumbersLeft calls → IsLeftPut (refreshes calls place end r)
unfolding refreshes
refreshes_left calls place end r all = leg_at_left (reached_at (contacts_of r.headers)) (counts calls place end r.parts.cseq.number) (counts_left calls place end r.parts.cseq.number all)

-- the first INVITE of a leg has number 1
made_left : (asked : Parts) (r : Response) (target : Uri) (d : Option Dialog) → IsCounted asked.cseq.number d → HasByeLeft d → HasByeLeft (Some (dialog_after asked r target d))
made_left asked r target None counted h = ap (λ n. nat_lt n (max_for Bye)) counted
made_left asked r target (Some d) counted h = h

leg_by_left : (asked : Parts) (r : Response) (target : Option Uri) (c : StandingCall) → IsCounted asked.cseq.number (dialog_of (other (offerer_of c.call.standing)) c.call) → HasNumbersLeft c → IsLeftPut (leg_by asked r target (Some c))
leg_by_left asked r None c counted h = tt
leg_by_left asked r (Some target) c counted h =
    let end = other (offerer_of c.call.standing) in
    made_left asked r target (dialog_of end c.call) counted (end_left c end h)

pub answers_left : (calls : List StandingCall) (place : ℕ) (asked : Parts) (r : Response) (c : StandingCall) → slice_get calls place ≡ Some c → IsCounted asked.cseq.number (dialog_of (other (offerer_of c.call.standing)) c.call)
    → All HasNumbersLeft calls → IsLeftPut (answers_leg calls place asked r)
unfolding answers_leg
answers_left calls place asked r c there counted all =
    subst (λ o. IsLeftPut (leg_by asked r (reached_at (contacts_of r.headers)) o)) (sym there) (leg_by_left asked r (reached_at (contacts_of r.headers)) c counted (all_at HasNumbersLeft calls place c all there))

-- ---- the list of calls

abbrev pub LeavesNumbers : steps.Effect → Type 0
LeavesNumbers x = All HasNumbersLeft x.outcome.standing.calls

does_left : (calls : Standing) (table : transactions.Contents) (o : Occasion) (place : ℕ) (w : ComingValue) (c : StandingCall) (step : Step) → All HasNumbersLeft calls.calls → slice_get calls.calls place ≡ Some c → IsLeftPut w.leg
    → KeepsLeft c.call step.call → LeavesNumbers (does calls table o place w c step)
does_left calls table o place w c step all there left keeps =
    let put = put_with w (messages_of table o w c step) in
    put_or_gone HasNumbersLeft calls.calls place (beside put (with_step c step)) (is_some step.call.standing)
    (λ stands. beside_left (with_step c step) put left (step_left c step.call keeps (all_at HasNumbersLeft calls.calls place c all there))) all

takes_by_left : (calls : Standing) (table : transactions.Contents) (o : Occasion) (place : ℕ) (input : Input) (leg : Option LegDialog) (request : Option AskerValue) (c : Option StandingCall) → IsNoOfferInput input
    → All HasNumbersLeft calls.calls → slice_get calls.calls place ≡ c → IsLeftPut leg → LeavesNumbers (takes_by calls table o place input leg request c)
takes_by_left calls table o place input leg request None n all there left = all
takes_by_left calls table o place input leg request (Some c) n all there left =
    does_left calls table o place (without_offer leg request) c (call_row c.call input calls.pool o.now) all there left (no_offer_left c.call input calls.pool o.now n)

pub takes_left : (calls : Standing) (table : transactions.Contents) (o : Occasion) (place : ℕ) (input : Input) (leg : Option LegDialog) (request : Option AskerValue) → IsNoOfferInput input → All HasNumbersLeft calls.calls
    → IsLeftPut leg → LeavesNumbers (takes_row calls table o place input leg request)
unfolding takes_row
takes_left calls table o place input leg request n all left = takes_by_left calls table o place input leg request (slice_get calls.calls place) n all refl left

pub offers_left : (calls : Standing) (table : transactions.Contents) (o : Occasion) (place : ℕ) (end : End) (method : OfferMethod) (offer : Description) (r : Request) (id : ℕ) (source : Addr) (c : StandingCall)
    → All HasNumbersLeft calls.calls → slice_get calls.calls place ≡ Some c → has_number_left (dialog_of (other end) c.call) ≡ true
    → LeavesNumbers (offers_row calls table o place (inputs.Offer end method (Some offer)) end r id source)
unfolding offers_row
offers_left calls table o place end method offer r id source c all there left =
    let input = inputs.Offer end method (Some offer) in
    let leg = counts calls.calls place end r.parts.cseq.number in
    subst (λ y. LeavesNumbers (offers_by calls table o place input end r id source leg y)) (sym there)
    (does_left calls table o place (offer_coming leg end r id source c) c (call_row c.call input calls.pool o.now) all there (counts_left calls.calls place end r.parts.cseq.number all)
    (offer_left c.call end method offer calls.pool o.now left))

-- ---- a call that begins

pushed_left : (c : StandingCall) (calls : List StandingCall) (b : Bool) → HasNumbersLeft c → All HasNumbersLeft calls → All HasNumbersLeft (cond b (calls ++ c ∷ []) calls)
pushed_left c calls true h all = All-push HasNumbersLeft calls c all h
pushed_left c calls false h all = all

new_left : (c : StandingCall) (offer : Description) (pool : pools.Contents) (now : ℕ) → HasNumbersLeft c → HasNumbersLeft (with_step c (first_call_row c.call offer pool now))
unfolding first_call_row
new_left c offer pool now h = record { caller = h.caller; callee = h.callee }

begins_by_left : (calls : Standing) (o : Occasion) (r : Request) (id : ℕ) (source : Addr) (target : Uri) (offer : Description) (contact : Option Uri) → All HasNumbersLeft calls.calls
    → LeavesNumbers (begins_by calls o r id source target offer contact)
begins_by_left calls o r id source target offer None all = all
begins_by_left calls o r id source target offer (Some contact) all =
    let c = first_standing (calls.begun + 1) o r id source contact in
    let step = first_call_row c.call offer calls.pool o.now in
    pushed_left (with_step c step) calls.calls (is_some step.call.standing) (new_left c offer calls.pool o.now (record { caller = refl; callee = tt })) all

pub first_left : (calls : Standing) (o : Occasion) (r : Request) (id : ℕ) (source : Addr) (target : Uri) (offer : Description) → All HasNumbersLeft calls.calls → LeavesNumbers (first_row calls o r id source target offer)
unfolding first_row
first_left calls o r id source target offer all = begins_by_left calls o r id source target offer (reached_at (contacts_of r.headers)) all

-- ---- a 2xx that no call takes

fork_by_left : (calls : Standing) (o : Occasion) (asked : Parts) (r : Response) (contact : Option Uri) → All HasNumbersLeft calls.calls → LeavesNumbers (fork_by calls o asked r contact)
fork_by_left calls o asked r None all = all
fork_by_left calls o asked r (Some target) all = all

pub fork_left : (calls : Standing) (o : Occasion) (asked : Parts) (r : Response) → All HasNumbersLeft calls.calls → LeavesNumbers (fork_row calls o asked r)
unfolding fork_row
fork_left calls o asked r all = fork_by_left calls o asked r (reached_at (contacts_of r.headers)) all

late_by_left : (calls : Standing) (o : Occasion) (asked : Parts) (r : Response) (contact : Option Uri) → All HasNumbersLeft calls.calls → LeavesNumbers (late_by calls o asked r contact)
late_by_left calls o asked r None all = all
late_by_left calls o asked r (Some target) all = all

pub late_left : (calls : Standing) (o : Occasion) (asked : Parts) (r : Response) → All HasNumbersLeft calls.calls → LeavesNumbers (late_row calls o asked r)
unfolding late_row
late_left calls o asked r all = late_by_left calls o asked r (reached_at (contacts_of r.headers)) all

-- ---- a dialog alone

changed_left : (leg : LegDialog) (place : ℕ) (calls : List StandingCall) (c : Option StandingCall) → slice_get calls place ≡ c → HasByeLeft (Some leg.dialog) → All HasNumbersLeft calls
    → All HasNumbersLeft (changed_at (with_dialog_at leg.end leg.dialog) place calls c)
changed_left leg place calls None there left all = all
changed_left leg place calls (Some c) there left all = All-set HasNumbersLeft calls place (with_dialog_at leg.end leg.dialog c) (put_at c leg.end leg.dialog left (all_at HasNumbersLeft calls place c all there)) all

pub puts_left : (calls : Standing) (place : ℕ) (leg : Option LegDialog) → IsLeftPut leg → All HasNumbersLeft calls.calls → All HasNumbersLeft (puts_if calls place leg).calls
puts_left calls place None left all = all
puts_left calls place (Some leg) left all = changed_left leg place calls.calls (slice_get calls.calls place) refl left all
