-- The rule of a request that none of the earlier lines refuses.
use Rattle.std.proofs.Common.{◌≡◌, ◌∙◌, ◌||◌, ℕ, Bool, true, false, cond, codes, List, [], ◌∷◌, Option, Some, None, get_or, is_some, nat_eq, refl, sym, ap, arith}
use Rattle.std.specs.Prelude.{slice_get}
use Rattle.std.specs.List.{All, list_any}
use Rattle.std.specs.Cmp.Lexicographic.{pointwise, bytes_decides}
use Rattle.std.proofs.lemmas.Bool.{false≢true, and_from, and_parts, ne_eqb}
use Rattle.std.proofs.lemmas.List.Elements.{All-head, All-tail}
use Rattle.std.proofs.lemmas.List.Quantifiers.{position-Some}
use Rattle.std.proofs.lemmas.Map.Keys.{any_passes_from_place}
use Rattle.std.proofs.lemmas.Option.{slice_get-get_or}
use Rattle.text.proofs.Lists.{is_some-position}
use Rattle.sip_message.specs.Lookup.{value_named}
use Rattle.sip_message.specs.Words.{tag_text, tag_value}
use Rattle.sip_message.specs.declared.message.Parts.{Parts}
use Rattle.sip_message.specs.declared.message.Request.{Request}
use Rattle.sip_uri.specs.declared.uri.Uri.{Uri}
use Rattle.dialogs.specs.Counting.{IsAbove, is_above}
use Rattle.dialogs.specs.declared.state.Dialog.{Dialog}
use Rattle.call_media.specs.declared.end.End.{End}
use Rattle.call_media.specs.declared.end.End.TheVariants.{Caller, Callee}
use Rattle.call_core.specs.Calls.{dialog_of}
use Rattle.call_core.specs.declared.stage.Stage.{Stage}
use Rattle.call_core.specs.declared.stage.Stage.TheVariants as stages
use Rattle.call_core.specs.declared.stage.Standing.{Standing}
use Rattle.calls.specs.Finding.{is_of_dialog, is_of_end, place_by_end}
use Rattle.calls.specs.declared.standing_call.StandingCall.{StandingCall}
use Rattle.call_rules.specs.Content.{content_rule}
use Rattle.call_rules.specs.DialogRule as dialog
use Rattle.call_rules.specs.Requests.{counted_rule, dialog_rule, has_left, in_call, in_dialog, left_in}
use Rattle.call_rules.specs.Speaking.{is_bye, is_offer}
use Rattle.responses.specs.Words.{is_declined_method, is_method, is_offered_method}
use Rattle.transaction_machines.specs.Machines.{is_server}
use Rattle.transactions.specs.Contents.{merged}
use Rattle.transactions.specs.Matching.{is_merged_with, is_same_call}
use Rattle.transactions.specs.Slots.{is_merged}
use Rattle.transactions.specs.declared.transaction.Transaction.{Transaction}
use Rattle.plans.specs.CallRule as calls
use Rattle.plans.specs.Office.{Office}
use Rattle.event_rows.specs.Rule.{Call}
use Rattle.event_rows.specs.Rules.{invite_rule, of_dialog, offered_rule, request_rule}
use Rattle.event_rows.specs.State.{Contents, office}
use Rattle.step_laws.specs.Leaving.{IsOfDialog}
use Rattle.step_laws.specs.Rulings.{GoesOn, IsOther, IsPlainBye, IsPlainInvite}
use Rattle.step_laws.proofs.Byes.{same_itself}

-- ---- the lines before those of dialogs and of first calls

module _ (s : Office) (r : Request) (now : ℕ) (alone : merged s.table r.parts ≡ false) (requires : value_named (codes "Require") r.headers ≡ None) (records : value_named (codes "Record-Route") r.headers ≡ None) where
  past_by : is_method (codes "CANCEL") r ≡ false → is_declined_method r ≡ false → is_offered_method r ≡ true → is_method (codes "OPTIONS") r ≡ false → is_method (codes "REGISTER") r ≡ false
      → request_rule s r now ≡ invite_rule s r now
  unfolding request_rule offered_rule
  past_by cancel declined offered options registers = rw (cancel, alone, declined, offered, requires, records, options, registers) refl

  pub bye_past : r.method ≡ codes "BYE" → request_rule s r now ≡ invite_rule s r now
  bye_past is =
      past_by (ap (λ m. pointwise nat_eq m (codes "CANCEL")) is)
      (ap (λ m. pointwise nat_eq m (codes "PRACK") || pointwise nat_eq m (codes "REFER") || pointwise nat_eq m (codes "SUBSCRIBE") || pointwise nat_eq m (codes "NOTIFY") || pointwise nat_eq m (codes "INFO") || pointwise nat_eq m (codes "MESSAGE") || pointwise nat_eq m (codes "PUBLISH")) is)
      (ap (λ m. pointwise nat_eq m (codes "INVITE") || pointwise nat_eq m (codes "BYE") || pointwise nat_eq m (codes "REGISTER") || pointwise nat_eq m (codes "OPTIONS") || pointwise nat_eq m (codes "UPDATE")) is)
      (ap (λ m. pointwise nat_eq m (codes "OPTIONS")) is) (ap (λ m. pointwise nat_eq m (codes "REGISTER")) is)

  pub invite_past : r.method ≡ codes "INVITE" → request_rule s r now ≡ invite_rule s r now
  invite_past is =
      past_by (ap (λ m. pointwise nat_eq m (codes "CANCEL")) is)
      (ap (λ m. pointwise nat_eq m (codes "PRACK") || pointwise nat_eq m (codes "REFER") || pointwise nat_eq m (codes "SUBSCRIBE") || pointwise nat_eq m (codes "NOTIFY") || pointwise nat_eq m (codes "INFO") || pointwise nat_eq m (codes "MESSAGE") || pointwise nat_eq m (codes "PUBLISH")) is)
      (ap (λ m. pointwise nat_eq m (codes "INVITE") || pointwise nat_eq m (codes "BYE") || pointwise nat_eq m (codes "REGISTER") || pointwise nat_eq m (codes "OPTIONS") || pointwise nat_eq m (codes "UPDATE")) is)
      (ap (λ m. pointwise nat_eq m (codes "OPTIONS")) is) (ap (λ m. pointwise nat_eq m (codes "REGISTER")) is)

-- ---- a request that came on no other way

tagged_alone : (s : Contents) (r : Request) (tag : List ℕ) → tag_value r.parts.to.params ≡ Some tag → merged (office s).table r.parts ≡ false
tagged_alone s r tag is = rw is refl

none_merged_by : (parts : Parts) (t : Transaction) (server same : Bool) → is_server t.state ≡ server → is_same_call parts t.parts ≡ same → (server ≡ true → same ≡ false) → is_merged parts (Some t) ≡ false
unfolding is_merged is_merged_with
none_merged_by parts t false same at_server at_same other = rw at_server refl
none_merged_by parts t true true at_server at_same other = absurd (false≢true (sym (other refl)))
none_merged_by parts t true false at_server at_same other = rw (at_server, at_same) refl

one_other : (parts : Parts) (slot : Option Transaction) → IsOther parts slot → is_merged parts slot ≡ false
unfolding is_merged
one_other parts None other = refl
one_other parts (Some t) other = none_merged_by parts t (is_server t.state) (is_same_call parts t.parts) refl refl other

none_merged : (parts : Parts) (slots : List (Option Transaction)) → All (IsOther parts) slots → list_any (is_merged parts) slots ≡ false
none_merged parts [] all = refl
none_merged parts (slot ∷ slots) all =
    ap (λ b. b || list_any (is_merged parts) slots) (one_other parts slot (All-head (IsOther parts) slot slots all)) ∙ none_merged parts slots (All-tail (IsOther parts) slot slots all)

-- ---- a BYE

goes_on_there : (stage : Stage) (offerer end : End) → GoesOn stage offerer end → left_in stage offerer end ≡ false
goes_on_there (stages.Asked rung) offerer end h = refl
goes_on_there (stages.Cancelling sent) offerer end h = absurd h
goes_on_there (stages.Answered interval) offerer end h = refl
goes_on_there stages.Settled offerer end h = refl
goes_on_there (stages.Reasked rung cancelled) offerer end h = refl
goes_on_there (stages.Reanswered interval) offerer end h = refl
goes_on_there stages.Updating offerer end h = refl
goes_on_there (stages.Ending interval) offerer end h = rw (h, same_itself offerer) refl

above_is : (last : Option ℕ) (number : ℕ) → IsAbove last number → is_above last number ≡ true
above_is None number h = refl
above_is (Some last) number h = search (arith, h)

-- the dialog is named, where the request is of it
names_dialog : (parts : Parts) (c : StandingCall) (end : End) → IsOfDialog parts c end → is_of_end end parts c ≡ true
names_dialog parts c end h =
    rw h.with_it (and_from _ _ (and_from _ _ ((bytes_decides h.dialog.id.call_id parts.call_id).1 (sym h.call_id)) ((bytes_decides h.dialog.id.ours (tag_text parts.to.params)).1 (sym h.ours)))
    ((bytes_decides h.dialog.id.theirs (tag_text parts.from.params)).1 (sym h.theirs)))

dialog_named : (parts : Parts) (c : StandingCall) (end : End) (o : Option Dialog) → dialog_of end c.call ≡ o → is_of_dialog parts o ≡ true → IsOfDialog parts c end
dialog_named parts c end None is h = absurd (false≢true h)
dialog_named parts c end (Some d) is h =
    let one = and_parts _ _ h in
    let two = and_parts _ _ one.0 in
    record {
      dialog = d;
      with_it = is;
      call_id = sym ((bytes_decides d.id.call_id parts.call_id).0 two.0);
      ours = sym ((bytes_decides d.id.ours (tag_text parts.to.params)).0 two.1);
      theirs = sym ((bytes_decides d.id.theirs (tag_text parts.from.params)).0 one.1);
    }

module _ (s : Contents) (r : Request) (place : ℕ) (end : End) (h : IsPlainBye s r place end) where
  -- what is found is this end of this call
  found_it : (one : End) (p : ℕ) → place_by_end one r.parts s.calls.calls ≡ Some p → (p ≡ place) × (one ≡ end)
  found_it one p e =
      let first = position-Some (is_of_end one r.parts) s.calls.calls p h.call e in
      let c = get_or s.calls.calls p h.call in
      h.only p c one (slice_get-get_or s.calls.calls p h.call first.0) (dialog_named r.parts c one (dialog_of one c.call) refl first.1)

  found_by : (o : Option ℕ) → place_by_end end r.parts s.calls.calls ≡ o → is_some o ≡ true → place_by_end end r.parts s.calls.calls ≡ Some place
  found_by None e some = absurd (false≢true some)
  found_by (Some p) e some = e ∙ ap Some (found_it end p e).0

  found : place_by_end end r.parts s.calls.calls ≡ Some place
  found =
      found_by (place_by_end end r.parts s.calls.calls) refl
      (is_some-position (is_of_end end r.parts) s.calls.calls ∙ any_passes_from_place (is_of_end end r.parts) s.calls.calls place h.call h.there (names_dialog r.parts h.call end h.came))

  leaves : in_call r place end (slice_get s.calls.calls place) ≡ dialog.Leaves place end
  leaves =
      let bye : is_bye r.parts ≡ true = ap (λ m. pointwise nat_eq m (codes "BYE")) h.counted in
      let inside = in_dialog r place end (dialog_of end h.call.call) in
      ap (in_call r place end) h.there
      ∙ ap (λ (o : Option Standing). cond (has_left o end) dialog.NoDialog inside) h.stands
      ∙ ap (λ (b : Bool). cond b dialog.NoDialog inside) (goes_on_there h.standing.stage h.standing.offerer end h.goes_on)
      ∙ ap (in_dialog r place end) h.came.with_it
      ∙ ap (λ (b : Bool). cond b (counted_rule r place end) (dialog.OldNumber place end)) (above_is h.came.dialog.remote_number r.parts.cseq.number h.above)
      ∙ ap (λ (b : Bool). cond b (dialog.Leaves place end) (cond (is_offer r) (dialog.Offers place end) (dialog.Plain place end))) bye

none_of_caller : (s : Contents) (r : Request) (place : ℕ) → IsPlainBye s r place Callee → (o : Option ℕ) → place_by_end Caller r.parts s.calls.calls ≡ o → place_by_end Caller r.parts s.calls.calls ≡ None
none_of_caller s r place h None e = e
none_of_caller s r place h (Some p) e = absurd (callers_differ (found_it s r place Callee h Caller p e).1)
  where
    callers_differ : Caller ≡ Callee → ⊥
    callers_differ is = cc

leaves_by : (s : Contents) (r : Request) (place : ℕ) (end : End) → IsPlainBye s r place end → dialog_rule s.calls.calls r ≡ dialog.Leaves place end
unfolding dialog_rule
leaves_by s r place Caller h = rw (found s r place Caller h) (leaves s r place Caller h)
leaves_by s r place Callee h = rw (none_of_caller s r place h (place_by_end Caller r.parts s.calls.calls) refl, found s r place Callee h) (leaves s r place Callee h)

pub bye_leaves : (s : Contents) (now : ℕ) (r : Request) (place : ℕ) (end : End) → IsPlainBye s r place end → request_rule (office s) r now ≡ Call (calls.Leaves place end)
unfolding invite_rule
bye_leaves s now r place end h =
    bye_past (office s) r now (tagged_alone s r h.tag h.tagged) h.requires h.records h.method ∙ inside
  where
    not_invite : is_method (codes "INVITE") r ≡ false
    not_invite = ap (λ m. pointwise nat_eq m (codes "INVITE")) h.method

    inside : invite_rule (office s) r now ≡ Call (calls.Leaves place end)
    inside = rw not_invite (ap (of_dialog s.calls.calls) (leaves_by s r place end h))

-- ---- a first INVITE

pub invite_begins : (s : Contents) (now : ℕ) (r : Request) (to : Uri) → IsPlainInvite s now r to → request_rule (office s) r now ≡ Call (calls.Begins to)
unfolding invite_rule content_rule
invite_begins s now r to h =
    invite_past (office s) r now alone h.requires h.records h.method ∙ first
  where
    alone : merged (office s).table r.parts ≡ false
    alone = rw h.untagged (none_merged r.parts s.table.slots h.others)

    an_invite : is_method (codes "INVITE") r ≡ true
    an_invite = ap (λ m. pointwise nat_eq m (codes "INVITE")) h.method

    more_hops : nat_eq r.max_forwards 0 ≡ false
    more_hops = ne_eqb r.max_forwards 0 (λ e. omega (arith, e, h.hops))

    fit : content_rule r.headers ≡ None
    fit = rw (h.typed, h.uncoded) refl

    first : invite_rule (office s) r now ≡ Call (calls.Begins to)
    first = rw (an_invite, h.untagged, more_hops, h.reached, h.named, h.known, h.bound, fit) refl
