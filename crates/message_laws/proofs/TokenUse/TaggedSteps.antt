-- The steps of calls: what they begin is the server's own, and the tags of the calls afterwards were made.
use Rattle.std.proofs.Common.{◌≡◌, ◌∙◌, ℕ, ◌+◌, ◌<◌, ◌^◌, ◌≤◌, Bool, true, false, cond, List, [], ◌∷◌, find, Option, Some, None, option_map, position, is_some, refl, ap, sym, subst, arith}
use Rattle.std.specs.Prelude.{slice_get}
use Rattle.std.specs.List.{All}
use Rattle.std.specs.Cmp.Lexicographic.{bytes_decides}
use Rattle.std.specs.Option.{option_copied}
use Rattle.std.proofs.lemmas.Bool.{false≢true, and_parts}
use Rattle.std.proofs.lemmas.List.Quantifiers.{position-Some}
use Rattle.sip_uri.specs.declared.uri.Addr.{Addr}
use Rattle.sip_uri.specs.declared.uri.Uri.{Uri}
use Rattle.sip_message.specs.declared.message.Parts.{Parts}
use Rattle.sip_message.specs.declared.message.Request.{Request}
use Rattle.sip_message.specs.declared.message.Response.{Response}
use Rattle.sip_message.specs.Contact.{contacts_of}
use Rattle.sip_message.specs.Words.{tag_text}
use Rattle.sdp.specs.declared.description.Description.{Description}
use Rattle.dialogs.specs.declared.state.Dialog.{Dialog}
use Rattle.dialogs.specs.Making.{callers_dialog, own_tag, reached_at}
use Rattle.transaction_machines.specs.declared.state.State.{State}
use Rattle.transaction_machines.specs.declared.state.State.TheVariants as machine
use Rattle.transaction_machines.specs.Machines.{is_server}
use Rattle.transactions.specs.declared.transaction.Transaction.{Transaction}
use Rattle.transactions.specs.Contents as transactions
use Rattle.transactions.specs.Slots.{at, awaits_final, is_waiting_invite}
use Rattle.call_media.specs.declared.end.End.{End}
use Rattle.call_media.specs.declared.end.End.TheVariants.{Caller, Callee}
use Rattle.call_media.specs.Ends.{is_same, other}
use Rattle.call_core.specs.declared.action.Action.{Action}
use Rattle.call_core.specs.declared.action.Action.TheVariants.{Ack, Bye}
use Rattle.call_core.specs.declared.call.Call.{Call}
use Rattle.call_core.specs.declared.input.Input.{Input}
use Rattle.call_core.specs.declared.stage.Standing as stage
use Rattle.call_core.specs.CallRows.{call_row, first_call_row}
use Rattle.call_core.specs.Calls.{dialog_of, to_target}
use Rattle.call_core.specs.Plans.{Step}
use Rattle.calls.specs.State.{Standing}
use Rattle.calls.specs.Carrying.{with_call, offerer_of, with_dialog_at, with_step}
use Rattle.calls.specs.Changes.{beside}
use Rattle.calls.specs.Finding.{is_text}
use Rattle.calls.specs.declared.change.LegDialog.{LegDialog}
use Rattle.calls.specs.declared.standing_call.StandingCall.{StandingCall}
use Rattle.call_rules.specs.Responses.{asked_end, is_open, is_open_in}
use Rattle.call_messages.specs.Messages.{new_leg}
use Rattle.call_steps.specs.declared.occasion.Occasion.{Occasion}
use Rattle.call_steps.specs.Effects as steps
use Rattle.call_steps.specs.Effects.{no_effect}
use Rattle.call_steps.specs.Messages.{given_up, is_abandon, messages}
use Rattle.call_steps.specs.Rows.{answers_leg, begins_by, counts, counts_by, counts_in, dialog_after, does, first_asker, first_leg, first_row, first_standing, fork_by, fork_row, forked, late_by, late_row, later_dialog, leg_at, leg_by, messages_of, offer_coming, offers_by, offers_row, put_with, refreshes, takes_by, takes_row}
use Rattle.call_steps.specs.Scenes.{at_id, dialog_in, first_scene, fork_scene, fresh, passed_id, scene}
use Rattle.call_steps.specs.Values.{AskerValue, ComingValue, SceneValue, dressed_in, lent, lent_scene, without_offer}
use Rattle.message_laws.specs.Entries.{EnterOwn}
use Rattle.message_laws.specs.Knowing.{HasLegTag, HasMadeTags, KnowsCalls}
use Rattle.message_laws.proofs.TokenUse.Apartness.{HasNewTags}
use Rattle.message_laws.specs.Tokens.{IsMade, IsOwnIf}
use Rattle.message_laws.proofs.TokenUse.Calls.{FitsEnd, FitsLeg, KeepsIds, beside_tags, call_at, call_ids, first_ids, fits_kept, pushed_by, put_or_removed, same_beside, tags_kept}
use Rattle.message_laws.proofs.QuietEvents.Dressings.{HasMadeTag, IfOwnInvite, IsOwnScene, OwnMade, dressed_own}
use Rattle.message_laws.proofs.QuietEvents.Growing.{calls_more, entries_append, entries_more, tags_more}
use Rattle.message_laws.proofs.TokenUse.Slots.{own_at}

-- ---- messages

-- all that actions are dressed with, as values
pub record IsOwnValue (made : ℕ) (s : SceneValue) : Type 0 where
  pub caller : HasMadeTag made s.caller
  pub callee : HasMadeTag made s.callee
  pub passed : IfOwnInvite made s.passed

lent_tag : (made : ℕ) (d : Option Dialog) → HasMadeTag made d → HasMadeTag made (option_copied (option_map lent d))
lent_tag made None h = h
lent_tag made (Some d) h = h

lent_invite : (made : ℕ) (t : Option Transaction) → IfOwnInvite made t → IfOwnInvite made (option_copied (option_map lent t))
lent_invite made None h = h
lent_invite made (Some t) h = h

lent_own : (made : ℕ) (s : SceneValue) → IsOwnValue made s → IsOwnScene made (lent_scene s)
lent_own made s h = record { caller = lent_tag made s.caller h.caller; callee = lent_tag made s.callee h.callee; passed = lent_invite made s.passed h.passed }

given_up_own : (made : ℕ) (id : Option ℕ) (action : Option Action) → EnterOwn made (given_up id action)
given_up_own made None action = tt
given_up_own made (Some id) None = tt
given_up_own made (Some id) (Some action) = (tt, tt)

said_own : (s : SceneValue) (passed : Option ℕ) (actions : List Action) → IsOwnValue s.tokens s → OwnMade s.tokens (messages s passed actions).dressed
unfolding messages
said_own s passed actions h =
    let d = dressed_in s actions in
    let later = given_up passed (find is_abandon actions) in
    entries_append (s.tokens + d.made) d.changes later (dressed_own s.tokens (lent_scene s) actions (lent_own s.tokens s h)) (given_up_own (s.tokens + d.made) passed (find is_abandon actions))

-- ---- what a step results in, where this many tokens were made before it

pub record OwnStep (n : ℕ) (x : steps.Effect) : Type 0 where
  pub entries : OwnMade n x.dressed
  pub calls : KnowsCalls (n + x.dressed.made) x.outcome.standing.calls

pub none_own : (n : ℕ) (calls : Standing) → KnowsCalls n calls.calls → OwnStep n (no_effect calls)
none_own n calls all = record { entries = tt; calls = calls_more n (n + 0) calls.calls (omega arith) all }

-- ---- the INVITE that was passed on

pub awaits_client : (state : State) → awaits_final state ≡ true → is_server state ≡ false
awaits_client (machine.InviteClient state) h = refl
awaits_client (machine.InviteServer state) h = absurd (false≢true h)
awaits_client (machine.OtherClient state) h = refl
awaits_client (machine.OtherServer state) h = absurd (false≢true h)

waiting_own : (made : ℕ) (tag : List ℕ) (t : Option Transaction) → is_waiting_invite tag t ≡ true → IsOwnIf made t → IfOwnInvite made t
unfolding is_waiting_invite
waiting_own made tag None waits own = tt
waiting_own made tag (Some t) waits own = own (awaits_client t.state (and_parts _ _ waits).0)

at_own : (made : ℕ) (slots : List (Option Transaction)) (id : ℕ) (t : Option Transaction) → All (IsOwnIf made) slots → at slots id ≡ t → IsOwnIf made t
at_own made slots id None all there = tt
at_own made slots id (Some t) all there = own_at made slots id t all there

passed_own_at : (made : ℕ) (slots : List (Option Transaction)) (tag : List ℕ) (id : Option ℕ) → All (IsOwnIf made) slots → position (is_waiting_invite tag) slots ≡ id
    → IfOwnInvite made (at_id slots id)
passed_own_at made slots tag None all there = tt
passed_own_at made slots tag (Some id) all there =
    waiting_own made tag (at slots id) (position-Some (is_waiting_invite tag) slots id None there).1 (at_own made slots id (at slots id) all refl)

-- ---- dialogs

leg_made : (made : ℕ) (tag : List ℕ) (d : Option Dialog) → IsMade made tag → HasLegTag tag d → HasMadeTag made d
leg_made made tag None h leg = tt
leg_made made tag (Some d) h leg = record { salt = h.salt; count = h.count; early = h.early; said = leg ∙ h.said }

dialog_made : (made : ℕ) (c : StandingCall) (end : End) → HasMadeTags made c → HasMadeTag made (dialog_of end c.call)
dialog_made made c Caller h = h.caller
dialog_made made c Callee h = leg_made made c.callee_tag c.call.callee h.callee h.leg

put_tags : (made : ℕ) (c : StandingCall) (end : End) (d : Dialog) → FitsEnd made c end d → HasMadeTags made c → HasMadeTags made (with_dialog_at end d c)
put_tags made c Caller d fits h = record { caller = subst (IsMade made) (sym fits) h.caller; callee = h.callee; leg = h.leg }
put_tags made c Callee d fits h = record { caller = h.caller; callee = h.callee; leg = fits }

coming_made : (made : ℕ) (c : StandingCall) (end : End) (leg : Option LegDialog) → FitsLeg made c leg → HasMadeTags made c → HasMadeTag made (dialog_in end leg c.call)
coming_made made c end None fits h = dialog_made made c end h
coming_made made c end (Some leg) fits h = dialog_made made (with_dialog_at leg.end leg.dialog c) end (put_tags made c leg.end leg.dialog fits h)

-- ---- a live call

fits_more : (n m : ℕ) (c : StandingCall) (end : End) (d : Dialog) → n ≤ m → FitsEnd n c end d → FitsEnd m c end d
fits_more n m c Caller d le h = h
fits_more n m c Callee d le h = h

leg_more : (n m : ℕ) (c : StandingCall) (leg : Option LegDialog) → n ≤ m → FitsLeg n c leg → FitsLeg m c leg
leg_more n m c None le h = h
leg_more n m c (Some leg) le h = fits_more n m c leg.end leg.dialog le h

does_own : (calls : Standing) (table : transactions.Contents) (o : Occasion) (place : ℕ) (w : ComingValue) (c : StandingCall) (step : Step) → All (IsOwnIf o.tokens) table.slots
    → KnowsCalls o.tokens calls.calls → HasMadeTags o.tokens c → FitsLeg o.tokens c w.leg → KeepsIds c.call step.call → slice_get calls.calls place ≡ Some c → OwnStep o.tokens (does calls table o place w c step)
does_own calls table o place w c step slots all h fits keeps there =
    let said = messages_of table o w c step in
    let m = o.tokens + said.dressed.made in
    let le : o.tokens ≤ m = omega arith in
    record {
      entries = said_own (scene table o w c step.description) (passed_id table c) step.actions (
          record {
            caller = coming_made o.tokens c Caller w.leg fits h;
            callee = coming_made o.tokens c Callee w.leg fits h;
            passed = passed_own_at o.tokens table.slots _ (passed_id table c) slots refl;
          }
          );
      calls = put_or_removed m place calls.calls c (beside (put_with w said) (with_step c step)) (is_some step.call.standing) there (same_beside m c step.call (put_with w said) keeps (leg_more o.tokens m c w.leg le fits))
          (beside_tags m (with_step c step) (put_with w said) (fits_kept m c step.call w.leg keeps (leg_more o.tokens m c w.leg le fits)) (tags_kept m c step.call keeps (tags_more o.tokens m c le h)))
          (calls_more o.tokens m calls.calls le all);
    }

takes_by_own : (calls : Standing) (table : transactions.Contents) (o : Occasion) (place : ℕ) (input : Input) (leg : Option LegDialog) (request : Option AskerValue) (c : Option StandingCall)
    → All (IsOwnIf o.tokens) table.slots → KnowsCalls o.tokens calls.calls → slice_get calls.calls place ≡ c
    → ((d : StandingCall) → slice_get calls.calls place ≡ Some d → FitsLeg o.tokens d leg) → OwnStep o.tokens (takes_by calls table o place input leg request c)
takes_by_own calls table o place input leg request None slots all there fits = none_own o.tokens calls all
takes_by_own calls table o place input leg request (Some c) slots all there fits =
    does_own calls table o place (without_offer leg request) c (call_row c.call input calls.pool o.now) slots all (call_at o.tokens calls.calls place c all there) (fits c there)
    (call_ids c.call input calls.pool o.now) there

pub takes_own : (calls : Standing) (table : transactions.Contents) (o : Occasion) (place : ℕ) (input : Input) (leg : Option LegDialog) (request : Option AskerValue)
    → All (IsOwnIf o.tokens) table.slots → KnowsCalls o.tokens calls.calls → ((d : StandingCall) → slice_get calls.calls place ≡ Some d → FitsLeg o.tokens d leg)
    → OwnStep o.tokens (takes_row calls table o place input leg request)
unfolding takes_row
takes_own calls table o place input leg request slots all fits = takes_by_own calls table o place input leg request (slice_get calls.calls place) slots all refl fits

-- ---- a request in a dialog counts its number

counts_in_fits : (made : ℕ) (c : StandingCall) (end : End) (number : ℕ) → HasMadeTags made c → FitsLeg made c (counts_in end number (dialog_of end c.call))
counts_in_fits made c Caller number h = refl
counts_in_fits made c Callee number h = callee_fits made c number c.call.callee h.leg
  where
    callee_fits : (made : ℕ) (c : StandingCall) (number : ℕ) (d : Option Dialog) → HasLegTag c.callee_tag d → FitsLeg made c (counts_in Callee number d)
    callee_fits made c number None leg = tt
    callee_fits made c number (Some d) leg = leg

pub counts_fits : (made : ℕ) (calls : List StandingCall) (place : ℕ) (end : End) (number : ℕ) (c : StandingCall) → KnowsCalls made calls → slice_get calls place ≡ Some c
    → FitsLeg made c (counts calls place end number)
unfolding counts
counts_fits made calls place end number c all there =
    subst (λ x. FitsLeg made c (counts_by end number x)) (sym there) (counts_in_fits made c end number (call_at made calls place c all there))

target_fits : (made : ℕ) (c : StandingCall) (target : Uri) (end : End) (d : Dialog) → FitsEnd made c end d → FitsEnd made c end (to_target target d)
target_fits made c target Caller d h = h
target_fits made c target Callee d h = h

leg_at_fits : (made : ℕ) (c : StandingCall) (target : Option Uri) (leg : Option LegDialog) → FitsLeg made c leg → FitsLeg made c (leg_at target leg)
leg_at_fits made c None leg h = h
leg_at_fits made c (Some target) None h = tt
leg_at_fits made c (Some target) (Some leg) h = target_fits made c target leg.end leg.dialog h

pub refreshes_fits : (made : ℕ) (calls : List StandingCall) (place : ℕ) (end : End) (r : Request) (c : StandingCall) → KnowsCalls made calls → slice_get calls place ≡ Some c
    → FitsLeg made c (refreshes calls place end r)
unfolding refreshes
refreshes_fits made calls place end r c all there =
    leg_at_fits made c (reached_at (contacts_of r.headers)) (counts calls place end r.parts.cseq.number) (counts_fits made calls place end r.parts.cseq.number c all there)

-- ---- an offer inside a call

offers_by_own : (calls : Standing) (table : transactions.Contents) (o : Occasion) (place : ℕ) (input : Input) (end : End) (r : Request) (id : ℕ) (source : Addr) (leg : Option LegDialog) (c : Option StandingCall)
    → All (IsOwnIf o.tokens) table.slots → KnowsCalls o.tokens calls.calls → slice_get calls.calls place ≡ c
    → ((d : StandingCall) → slice_get calls.calls place ≡ Some d → FitsLeg o.tokens d leg) → OwnStep o.tokens (offers_by calls table o place input end r id source leg c)
offers_by_own calls table o place input end r id source leg None slots all there fits = none_own o.tokens calls all
offers_by_own calls table o place input end r id source leg (Some c) slots all there fits =
    does_own calls table o place (offer_coming leg end r id source c) c (call_row c.call input calls.pool o.now) slots all (call_at o.tokens calls.calls place c all there) (fits c there)
    (call_ids c.call input calls.pool o.now) there

pub offers_own : (calls : Standing) (table : transactions.Contents) (o : Occasion) (place : ℕ) (input : Input) (end : End) (r : Request) (id : ℕ) (source : Addr)
    → All (IsOwnIf o.tokens) table.slots → KnowsCalls o.tokens calls.calls → OwnStep o.tokens (offers_row calls table o place input end r id source)
unfolding offers_row
offers_own calls table o place input end r id source slots all =
    offers_by_own calls table o place input end r id source (counts calls.calls place end r.parts.cseq.number) (slice_get calls.calls place) slots all refl
    (λ d there. counts_fits o.tokens calls.calls place end r.parts.cseq.number d all there)

-- ---- a call that begins

fresh_made : (o : Occasion) (nth most : ℕ) → nth ≤ most → IsMade (o.tokens + most) (fresh o nth)
fresh_made o nth most le = record { salt = o.salt; count = o.tokens + nth; early = omega (arith, le); said = refl }

own_tag_by : (r : Request) (tag : List ℕ) → tag_text r.parts.to.params ≡ [] → own_tag r tag ≡ tag
own_tag_by r tag e = rw e refl

first_tags : (o : Occasion) (r : Request) (id number : ℕ) (source : Addr) (contact : Uri) → tag_text r.parts.to.params ≡ []
    → HasMadeTags (o.tokens + 3) (first_standing number o r id source contact)
first_tags o r id number source contact e = record {
  caller = subst (IsMade (o.tokens + 3)) (sym (own_tag_by r (fresh o 1) e)) (fresh_made o 1 3 (omega arith));
  callee = fresh_made o 3 3 (omega arith);
  leg = tt;
}

pub new_tags : (o : Occasion) (r : Request) (id number : ℕ) (source : Addr) (contact : Uri) (call : Call) → KeepsIds (first_standing number o r id source contact).call call → tag_text r.parts.to.params ≡ []
    → o.tokens < 2 ^ 63 → HasNewTags o.tokens (with_call call (first_standing number o r id source contact))
new_tags o r id number source contact call keeps e few = record {
  salt = o.salt;
  first = o.tokens + 1;
  second = o.tokens + 3;
  new_first = omega arith;
  new_second = omega arith;
  in_order = omega arith;
  few = omega (arith, few);
  caller = ap (λ i. i.ours) keeps.caller ∙ own_tag_by r (fresh o 1) e;
  callee = refl;
}

leg_own : (o : Occasion) (r : Request) (target : Uri) → IsMade (o.tokens + 3) (first_leg o r target).id.ours
unfolding new_leg
leg_own o r target = fresh_made o 3 3 (omega arith)

begins_by_own : (calls : Standing) (o : Occasion) (r : Request) (id : ℕ) (source : Addr) (target : Uri) (offer : Description) (contact : Option Uri) → tag_text r.parts.to.params ≡ [] → o.tokens < 2 ^ 63
    → KnowsCalls o.tokens calls.calls → OwnStep o.tokens (begins_by calls o r id source target offer contact)
begins_by_own calls o r id source target offer None e few all = none_own o.tokens calls all
begins_by_own calls o r id source target offer (Some contact) e few all =
    let c = first_standing (calls.begun + 1) o r id source contact in
    let step = first_call_row c.call offer calls.pool o.now in
    let leg = first_leg o r target in
    let s = first_scene o (first_asker o r id source) r.max_forwards leg step.description in
    let said = messages s None step.actions in
    let m = o.tokens + (3 + said.dressed.made) in
    record {
      entries = entries_more (o.tokens + 3 + said.dressed.made) m said.dressed.changes (omega arith) (
          said_own s None step.actions (record { caller = tt; callee = leg_own o r target; passed = tt })
          );
      calls = pushed_by o.tokens m calls.calls (with_step c step) (is_some step.call.standing) (omega arith) (new_tags o r id (calls.begun + 1) source contact step.call (first_ids c.call offer calls.pool o.now) e few)
          (tags_kept m c step.call (first_ids c.call offer calls.pool o.now) (tags_more (o.tokens + 3) m c (omega arith) (first_tags o r id (calls.begun + 1) source contact e)))
          all;
    }

pub first_own : (calls : Standing) (o : Occasion) (r : Request) (id : ℕ) (source : Addr) (target : Uri) (offer : Description) → tag_text r.parts.to.params ≡ [] → o.tokens < 2 ^ 63
    → KnowsCalls o.tokens calls.calls → OwnStep o.tokens (first_row calls o r id source target offer)
unfolding first_row
first_own calls o r id source target offer e few all = begins_by_own calls o r id source target offer (reached_at (contacts_of r.headers)) e few all

-- ---- a 2xx that no call takes

alone_own : (calls : Standing) (o : Occasion) (leg : Dialog) (actions : List Action) → IsMade o.tokens leg.id.ours → KnowsCalls o.tokens calls.calls
    → OwnStep o.tokens (forked calls (messages (fork_scene o leg) None actions))
alone_own calls o leg actions tag all =
    let said = messages (fork_scene o leg) None actions in
    record {
      entries = said_own (fork_scene o leg) None actions (record { caller = tt; callee = tag; passed = tt });
      calls = calls_more o.tokens (o.tokens + said.dressed.made) calls.calls (omega arith) all;
    }

fork_by_own : (calls : Standing) (o : Occasion) (asked : Parts) (response : Response) (contact : Option Uri) → IsMade o.tokens (tag_text asked.from.params)
    → KnowsCalls o.tokens calls.calls → OwnStep o.tokens (fork_by calls o asked response contact)
fork_by_own calls o asked response None tag all = none_own o.tokens calls all
fork_by_own calls o asked response (Some target) tag all = alone_own calls o (callers_dialog asked response target) (Ack Callee ∷ Bye Callee ∷ []) tag all

pub fork_own : (calls : Standing) (o : Occasion) (asked : Parts) (response : Response) → IsMade o.tokens (tag_text asked.from.params)
    → KnowsCalls o.tokens calls.calls → OwnStep o.tokens (fork_row calls o asked response)
unfolding fork_row
fork_own calls o asked response tag all = fork_by_own calls o asked response (reached_at (contacts_of response.headers)) tag all

late_by_own : (calls : Standing) (o : Occasion) (asked : Parts) (response : Response) (contact : Option Uri) → IsMade o.tokens (tag_text asked.from.params)
    → KnowsCalls o.tokens calls.calls → OwnStep o.tokens (late_by calls o asked response contact)
late_by_own calls o asked response None tag all = none_own o.tokens calls all
late_by_own calls o asked response (Some target) tag all = alone_own calls o (later_dialog asked response target) (Ack Callee ∷ []) tag all

pub late_own : (calls : Standing) (o : Occasion) (asked : Parts) (response : Response) → IsMade o.tokens (tag_text asked.from.params)
    → KnowsCalls o.tokens calls.calls → OwnStep o.tokens (late_row calls o asked response)
unfolding late_row
late_own calls o asked response tag all = late_by_own calls o asked response (reached_at (contacts_of response.headers)) tag all

-- ---- the dialog of a 2xx that a call takes

is_callee : (end : End) → is_same end Callee ≡ true → end ≡ Callee
is_callee Caller h = absurd (false≢true h)
is_callee Callee h = refl

asked_callee_by : (b : Bool) → cond b Callee Caller ≡ Callee → b ≡ true
asked_callee_by true e = refl
asked_callee_by false e = absurd (false≢true (ap (λ end. is_same end Callee) e))

pub asked_leg : (asked : Parts) (c : StandingCall) → is_same (asked_end asked c) Callee ≡ true → c.callee_tag ≡ tag_text asked.from.params
asked_leg asked c h = (bytes_decides c.callee_tag (tag_text asked.from.params)).0 (asked_callee_by (is_text c.callee_tag (tag_text asked.from.params)) (is_callee (asked_end asked c) h))

answered_fits : (made : ℕ) (asked : Parts) (response : Response) (target : Uri) (c : StandingCall) (end : End) → is_same (asked_end asked c) end ≡ true → HasMadeTags made c
    → FitsEnd made c end (dialog_after asked response target (dialog_of end c.call))
answered_fits made asked response target c Caller h tags = refl
answered_fits made asked response target c Callee h tags = callee_fits c.call.callee tags.leg
  where
    callee_fits : (d : Option Dialog) → HasLegTag c.callee_tag d → FitsEnd made c Callee (dialog_after asked response target d)
    callee_fits None leg = sym (asked_leg asked c h)
    callee_fits (Some d) leg = leg

opened_end : (asked : Parts) (c : StandingCall) (s : Option stage.Standing) → is_open_in asked c s ≡ true → is_same (asked_end asked c) (other (offerer_of s)) ≡ true
opened_end asked c None h = absurd (false≢true h)
opened_end asked c (Some s) h = (and_parts _ _ (and_parts _ _ h).0).1

leg_by_fits : (made : ℕ) (asked : Parts) (response : Response) (target : Option Uri) (c : StandingCall) → is_open asked c ≡ true → HasMadeTags made c
    → FitsLeg made c (leg_by asked response target (Some c))
leg_by_fits made asked response None c h tags = tt
leg_by_fits made asked response (Some target) c h tags =
    answered_fits made asked response target c (other (offerer_of c.call.standing)) (opened_end asked c c.call.standing h) tags

pub answers_fits : (made : ℕ) (calls : List StandingCall) (place : ℕ) (asked : Parts) (response : Response) (c : StandingCall) → KnowsCalls made calls → slice_get calls place ≡ Some c
    → is_open asked c ≡ true → FitsLeg made c (answers_leg calls place asked response)
unfolding answers_leg
answers_fits made calls place asked response c all there h =
    subst (λ x. FitsLeg made c (leg_by asked response (reached_at (contacts_of response.headers)) x)) (sym there)
    (leg_by_fits made asked response (reached_at (contacts_of response.headers)) c h (call_at made calls place c all there))
