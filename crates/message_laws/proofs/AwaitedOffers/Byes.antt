-- A BYE in a leg of a live call has a greater number than the earlier INVITEs and UPDATEs.
use Rattle.std.proofs.Common.{◌≡◌, ◌∙◌, ◌<◌, ◌≤◌, ◌^◌, ℕ, ◌+◌, Bool, true, false, cond, List, [], ◌∷◌, Option, Some, None, refl, ap, sym, subst, inl, inr, arith}
use Rattle.std.specs.Prelude.{slice_get}
use Rattle.std.specs.List.{All}
use Rattle.std.specs.Cmp.Lexicographic.{bytes_decides}
use Rattle.std.proofs.lemmas.Bool.{eqb-true, false≢true}
use Rattle.std.proofs.lemmas.Option.{same_Some}
use Rattle.sip_uri.specs.declared.uri.Uri.{Uri}
use Rattle.sip_message.specs.declared.message.Parts.{Parts}
use Rattle.sip_message.specs.declared.message.Response.{Response}
use Rattle.sip_message.specs.Words.{tag_text}
use Rattle.sdp.specs.declared.description.Description.{Description}
use Rattle.dialogs.specs.declared.state.Dialog.{Dialog}
use Rattle.dialogs.specs.Making.{callers_dialog}
use Rattle.responses.specs.Tokens.{token}
use Rattle.transactions.specs.declared.change.Entry.{Entry}
use Rattle.transactions.specs.declared.transaction.Transaction.{Transaction}
use Rattle.transactions.specs.Contents as transactions
use Rattle.call_media.specs.declared.end.End.{End}
use Rattle.call_media.specs.declared.end.End.TheVariants.{Caller, Callee}
use Rattle.call_core.specs.declared.action.Action.{Action}
use Rattle.call_core.specs.declared.action.Action.TheVariants.{Ack, Bye}
use Rattle.call_core.specs.declared.call.Call.{Call}
use Rattle.call_core.specs.Calls.{dialog_of, with_dialog}
use Rattle.call_core.specs.Plans.{Step}
use Rattle.calls.specs.State.{Standing}
use Rattle.calls.specs.Finding.{has_tag, is_text}
use Rattle.calls.specs.declared.change.LegDialog.{LegDialog}
use Rattle.calls.specs.declared.standing_call.StandingCall.{StandingCall}
use Rattle.call_rules.specs.Responses.{asked_end, asked_place, has_their_tag, is_first_to, is_of_known_dialog}
use Rattle.call_steps.specs.declared.occasion.Occasion.{Occasion}
use Rattle.call_steps.specs.Messages.{messages}
use Rattle.call_steps.specs.Rows.{messages_of}
use Rattle.call_steps.specs.Scenes.{dialog_in, first_scene, fork_scene, passed_id, scene, tag_to}
use Rattle.call_steps.specs.Values.{AskerValue, ComingValue}
use Rattle.message_laws.specs.Knowing.{HasMadeTags, KnowsCalls}
use Rattle.message_laws.specs.Numbers.{HasTheirTag, IsByeOf, WasCounted}
use Rattle.message_laws.specs.Tokens.{IsMade}
use Rattle.message_laws.specs.Waiting.{IsCounted, from_tag}
use Rattle.message_laws.proofs.TokenUse.Apartness.{old_and_new}
use Rattle.message_laws.proofs.AwaitedOffers.Awaiting.{Grows, LegGrows, all_at, counted_on, grows_kept, keeps_self}
use Rattle.message_laws.proofs.TokenUse.Calls.{FitsEnd, FitsLeg, call_at}
use Rattle.message_laws.proofs.AwaitedOffers.Coming.{OpensIn}
use Rattle.message_laws.proofs.AwaitedOffers.Leaving.{IsByeIn, IsByeTo, ack_alone_none, said_left}
use Rattle.message_laws.proofs.Messages.ResponseViews.{IsForked}
use Rattle.message_laws.proofs.AwaitedOffers.Tagged.{asked_at, differs_at, has_tag_of, leg_tag, named_place, scene_dialog, tag_of_end}

-- the same holds for changes that find these calls, where this many tokens were made
abbrev pub ByesAbove : ℕ → List StandingCall → List Entry → Type 0
ByesAbove made calls changes = (t : Transaction) → OpensIn t changes → (place : ℕ) (c : StandingCall) → slice_get calls place ≡ Some c → IsByeOf c t → (v : Transaction) → IsMade made (from_tag v)
    → All (WasCounted v) calls → from_tag v ≡ from_tag t → v.parts.cseq.number < t.parts.cseq.number

-- ---- the dialog of an end, where one may come with the event

put_tag : (made m : ℕ) (c : StandingCall) (end x : End) (d e : Dialog) → HasMadeTags made c → FitsEnd m c end d → dialog_of x (with_dialog end d c.call) ≡ Some e → e.id.ours ≡ tag_to x c
put_tag made m c Caller Caller d e tags fits is = ap (λ (y : Dialog). y.id.ours) (sym (same_Some d e is)) ∙ fits
put_tag made m c Caller Callee d e tags fits is = leg_tag made Callee c e tags is
put_tag made m c Callee Caller d e tags fits is = leg_tag made Caller c e tags is
put_tag made m c Callee Callee d e tags fits is = ap (λ (y : Dialog). y.id.ours) (sym (same_Some d e is)) ∙ fits

in_tag : (made m : ℕ) (c : StandingCall) (leg : Option LegDialog) (x : End) (e : Dialog) → HasMadeTags made c → FitsLeg m c leg → dialog_in x leg c.call ≡ Some e → e.id.ours ≡ tag_to x c
in_tag made m c None x e tags fits is = leg_tag made x c e tags is
in_tag made m c (Some leg) x e tags fits is = put_tag made m c leg.end x leg.dialog e tags fits is

put_grows : (c : Call) (end x : End) (d : Dialog) → Grows (dialog_of end c) (Some d) → Grows (dialog_of x c) (dialog_of x (with_dialog end d c))
put_grows c Caller Caller d h = h
put_grows c Caller Callee d h = grows_kept c.callee c.callee (keeps_self c.callee)
put_grows c Callee Caller d h = grows_kept (Some c.caller) (Some c.caller) refl
put_grows c Callee Callee d h = h

in_grows : (c : Call) (leg : Option LegDialog) (x : End) → LegGrows c leg → Grows (dialog_of x c) (dialog_in x leg c)
in_grows c None x h = grows_kept (dialog_of x c) (dialog_of x c) (keeps_self (dialog_of x c))
in_grows c (Some leg) x h = put_grows c leg.end x leg.dialog h

-- ---- a step of a call

left_above : (made m : ℕ) (calls : List StandingCall) (place : ℕ) (c : StandingCall) (leg : Option LegDialog) (x : End) (t v : Transaction) (o : Option Dialog) → KnowsCalls made calls → slice_get calls place ≡ Some c
    → FitsLeg m c leg → LegGrows c.call leg → dialog_in x leg c.call ≡ o → IsByeTo o t → All (WasCounted v) calls → from_tag v ≡ from_tag t → v.parts.cseq.number < t.parts.cseq.number
left_above made m calls place c leg x t v None knows there fits grows is bye each same = absurd bye
left_above made m calls place c leg x t v (Some e) knows there fits grows is bye each same =
    let n = v.parts.cseq.number in
    let tag : from_tag v ≡ tag_to x c = same ∙ bye.ours ∙ in_tag made m c leg x e (call_at made calls place c knows there) fits is in
    let has : has_tag (from_tag v) c ≡ true = has_tag_of c (from_tag v) (tag_of_end x c (from_tag v) tag) in
    let asked : asked_end v.parts c ≡ x = asked_at v.parts x c tag (differs_at calls place c knows.apart there) in
    let counted : IsCounted n (dialog_of x c.call) = subst (λ y. IsCounted n (dialog_of y c.call)) asked (all_at (WasCounted v) calls place c each there has) in
    let now : IsCounted n (Some e) = counted_on n (dialog_of x c.call) (Some e) (subst (Grows (dialog_of x c.call)) is (in_grows c.call leg x grows)) counted in
    omega (arith, now, bye.number)

pub does_byes : (made m : ℕ) (calls : Standing) (table : transactions.Contents) (o : Occasion) (place : ℕ) (w : ComingValue) (c : StandingCall) (step : Step) → KnowsCalls made calls.calls
    → slice_get calls.calls place ≡ Some c → FitsLeg m c w.leg → LegGrows c.call w.leg → ByesAbove made calls.calls (messages_of table o w c step).dressed.changes
does_byes made m calls table o place w c step knows there fits grows t opens at_place d at_d bye v tag each same =
    elim (said_left (scene table o w c step.description) (passed_id table c) step.actions t opens bye.bye) [
      | inl h ↦ left_above made m calls.calls place c w.leg Caller t v (dialog_in Caller w.leg c.call) knows there fits grows refl
          (subst (λ y. IsByeTo y t) (scene_dialog table o w c step.description Caller) h) each same
      | inr h ↦ left_above made m calls.calls place c w.leg Callee t v (dialog_in Callee w.leg c.call) knows there fits grows refl
          (subst (λ y. IsByeTo y t) (scene_dialog table o w c step.description Callee) h) each same
    ]

-- ---- a call that begins: its tag is new

pub first_byes : (o : Occasion) (asker : AskerValue) (hops : ℕ) (leg : Dialog) (description : Option Description) (calls : List StandingCall) (actions : List Action) → leg.id.ours ≡ token o.salt (o.tokens + 3)
    → o.tokens < 2 ^ 63 → ByesAbove o.tokens calls (messages (first_scene o asker hops leg description) None actions).dressed.changes
first_byes o asker hops leg description calls actions new few t opens place c there bye v tag each same =
    elim (said_left (first_scene o asker hops leg description) None actions t opens bye.bye) [
      | inl h ↦ absurd h
      | inr h ↦ let is : IsByeIn leg t = h in absurd (old_and_new o.tokens o.salt (o.tokens + 3) (from_tag v) tag (omega arith) (omega (arith, few)) (same ∙ is.ours ∙ new))
    ]

-- ---- a 2xx of another dialog than the call's own

end_by : (p q : Parts) (c : StandingCall) → tag_text p.from.params ≡ tag_text q.from.params → asked_end p c ≡ asked_end q c
end_by p q c same = ap (λ tag. cond (is_text c.callee_tag tag) Callee Caller) same

first_of : (b x : Bool) → cond b x true ≡ false → (b ≡ true) × (x ≡ false)
first_of true x h = (refl, h)
first_of false x h = absurd (false≢true (sym h))

number_one : (end : End) (n : ℕ) → is_first_to end n ≡ true → n ≡ 1
number_one Caller n h = absurd (false≢true h)
number_one Callee n h = eqb-true n 1 h

forked_counts : (asked : Parts) (r : Response) (end : End) (o : Option Dialog) (n : ℕ) (tag : List ℕ) → cond (is_first_to end asked.cseq.number) (has_their_tag r o) true ≡ false → HasTheirTag tag o
    → tag ≡ tag_text r.parts.to.params → IsCounted n o → n ≤ asked.cseq.number
forked_counts asked r end None n tag unknown theirs is counted = omega (arith, counted, number_one end asked.cseq.number (first_of _ _ unknown).0)
forked_counts asked r end (Some d) n tag unknown theirs is counted =
    absurd (false≢true (sym (first_of (is_first_to end asked.cseq.number) (has_their_tag r (Some d)) unknown).1 ∙ (bytes_decides d.id.theirs (tag_text r.parts.to.params)).1 (sym theirs ∙ is)))

forked_above : (asked : Parts) (r : Response) (target : Uri) (t v : Transaction) (c : StandingCall) → is_of_known_dialog asked r c (asked_end asked c) ≡ false → IsByeOf c t → IsByeIn (callers_dialog asked r target) t → WasCounted v c
    → from_tag v ≡ from_tag t → v.parts.cseq.number < t.parts.cseq.number
forked_above asked r target t v c unknown bye is counted same =
    let end = asked_end asked c in
    let has : has_tag (from_tag v) c ≡ true = subst (λ tag. has_tag tag c ≡ true) (sym same) bye.ours in
    let theirs : HasTheirTag (tag_text t.parts.to.params) (dialog_of end c.call) = subst (λ y. HasTheirTag (tag_text t.parts.to.params) (dialog_of y c.call)) (end_by t.parts asked c is.ours) bye.theirs in
    let before : IsCounted v.parts.cseq.number (dialog_of end c.call) = subst (λ y. IsCounted v.parts.cseq.number (dialog_of y c.call)) (end_by v.parts asked c (same ∙ is.ours)) (counted has) in
    let number : t.parts.cseq.number ≡ asked.cseq.number + 1 = is.number in
    let le : v.parts.cseq.number ≤ asked.cseq.number = forked_counts asked r end (dialog_of end c.call) v.parts.cseq.number (tag_text t.parts.to.params) unknown theirs is.theirs before in
    omega (arith, le, number)

pub fork_byes : (made : ℕ) (calls : List StandingCall) (o : Occasion) (asked : Parts) (r : Response) (target : Uri) → KnowsCalls made calls → IsForked calls asked r
    → ByesAbove made calls (messages (fork_scene o (callers_dialog asked r target)) None (Ack Callee ∷ Bye Callee ∷ [])).dressed.changes
unfolding asked_place
fork_byes made calls o asked r target knows forked t opens place c there bye v tag each same =
    elim (said_left (fork_scene o (callers_dialog asked r target)) None (Ack Callee ∷ Bye Callee ∷ []) t opens bye.bye) [
      | inl h ↦ absurd h
      | inr h ↦
          let is : IsByeIn (callers_dialog asked r target) t = h in
          let has : has_tag (tag_text asked.from.params) c ≡ true = subst (λ x. has_tag x c ≡ true) is.ours bye.ours in
          forked_above asked r target t v c (forked place c (named_place (tag_text asked.from.params) calls place c knows.apart there has) there) bye is (all_at (WasCounted v) calls place c each there) same
    ]

-- an ACK alone
pub ack_byes : (made : ℕ) (calls : List StandingCall) (o : Occasion) (leg : Dialog) → ByesAbove made calls (messages (fork_scene o leg) None (Ack Callee ∷ [])).dressed.changes
ack_byes made calls o leg t opens place c there bye = absurd (ack_alone_none (fork_scene o leg) Callee t opens bye.bye)
