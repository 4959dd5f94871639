-- A call that begins: its first INVITE is its open offer, in a leg of a tag that is new.
use Rattle.std.proofs.Common.{◌≡◌, ◌∙◌, ℕ, ◌+◌, ◌<◌, ◌^◌, Bool, true, false, cond, List, [], ◌∷◌, ◌++◌, Option, Some, None, option_map, is_some, refl, ap, sym, subst, inl, inr, arith}
use Rattle.std.specs.List.{All}
use Rattle.std.specs.Option.{option_copied}
use Rattle.std.proofs.lemmas.Bool.{false≢true}
use Rattle.std.proofs.lemmas.List.Elements.{All-push, All-weaker}
use Rattle.std.proofs.lemmas.Option.{same_Some}
use Rattle.sip_uri.specs.declared.uri.Addr.{Addr}
use Rattle.sip_uri.specs.declared.uri.Uri.{Uri}
use Rattle.sip_message.specs.declared.message.Parts.{Parts}
use Rattle.sip_message.specs.declared.message.Request.{Request}
use Rattle.sip_message.specs.Contact.{contacts_of}
use Rattle.sip_message.specs.Words.{tag_text}
use Rattle.sdp.specs.declared.description.Description.{Description}
use Rattle.port_pool.specs.Pool as pools
use Rattle.dialogs.specs.declared.state.Dialog.{Dialog}
use Rattle.dialogs.specs.Making.{reached_at}
use Rattle.transactions.specs.declared.transaction.Transaction.{Transaction}
use Rattle.call_media.specs.declared.end.End.TheVariants.{Caller, Callee}
use Rattle.call_media.specs.Ends.{is_same, other}
use Rattle.call_core.specs.declared.call.Call.{Call}
use Rattle.call_core.specs.declared.stage.Stage.TheVariants as stages
use Rattle.call_core.specs.CallRows.{first_call_row}
use Rattle.call_core.specs.Calls.{dialog_of}
use Rattle.calls.specs.State.{Standing}
use Rattle.calls.specs.Carrying.{with_step}
use Rattle.calls.specs.declared.standing_call.StandingCall.{StandingCall}
use Rattle.call_rules.specs.Responses.{asked_end, is_last_in}
use Rattle.call_steps.specs.declared.occasion.Occasion.{Occasion}
use Rattle.call_steps.specs.Effects as steps
use Rattle.call_steps.specs.Effects.{no_effect}
use Rattle.call_steps.specs.Messages.{messages}
use Rattle.call_steps.specs.Rows.{begins_by, first_asker, first_leg, first_row, first_standing}
use Rattle.call_steps.specs.Scenes.{first_scene}
use Rattle.call_steps.specs.Values.{SceneValue, lent}
use Rattle.call_messages.specs.Messages.{new_leg}
use Rattle.responses.specs.Tokens.{token}
use Rattle.message_laws.specs.Carried.{CarriesIf, CarriesOpen}
use Rattle.message_laws.specs.Knowing.{HasMadeTags, IsTagOf, KnowsCalls}
use Rattle.message_laws.specs.Numbers.{WasCounted}
use Rattle.message_laws.specs.Tokens.{IsMade}
use Rattle.message_laws.specs.Waiting.{FitsCall, IsCounted, IsOffering, from_tag}
use Rattle.message_laws.proofs.TokenUse.Apartness.{HasNewTags, made_tag, old_and_new}
use Rattle.message_laws.proofs.AwaitedOffers.Awaiting.{later_all, open_from}
use Rattle.message_laws.proofs.AwaitedOffers.Byes.{ByesAbove, first_byes}
use Rattle.message_laws.proofs.TokenUse.Calls.{first_ids}
use Rattle.message_laws.proofs.AwaitedOffers.Carrying.{CarriesText, said_carries}
use Rattle.message_laws.proofs.AwaitedOffers.Coming.{IsLater, OpensIn}
use Rattle.message_laws.proofs.AwaitedOffers.InOrder.{AreSent, messages_sent}
use Rattle.message_laws.proofs.AwaitedOffers.Offering.{IsOfferIn, IsOfferTo, said_offered}
use Rattle.message_laws.proofs.AwaitedOffers.OneOffer.{HasOne, said_one}
use Rattle.message_laws.proofs.AwaitedOffers.Once.{OneOffers}
use Rattle.message_laws.proofs.TokenUse.TaggedSteps.{new_tags}
use Rattle.message_laws.proofs.AwaitedOffers.Tagged.{asked_callee, tagged}

-- ---- a step that may begin an offer, where this many tokens were made before it

pub record BeginsOffer (made : ℕ) (calls : List StandingCall) (x : steps.Effect) : Type 0 where
  pub stayed : (t u : Transaction) → IsLater t u → IsMade made (from_tag t) → All (FitsCall t) calls → All (FitsCall u) x.outcome.standing.calls
  pub began : (t : Transaction) → OpensIn t x.dressed.changes → IsOffering t → All (FitsCall t) x.outcome.standing.calls
  pub above : (t : Transaction) → OpensIn t x.dressed.changes → IsOffering t → (v : Transaction) → IsMade made (from_tag v) → All (FitsCall v) calls → from_tag v ≡ from_tag t
      → v.parts.cseq.number < t.parts.cseq.number
  pub byes : KnowsCalls made calls → ByesAbove made calls x.dressed.changes
  pub keeps : (t : Transaction) → IsMade made (from_tag t) → All (WasCounted t) calls → All (CarriesOpen t) calls → All (CarriesOpen t) x.outcome.standing.calls
  pub carries : (t : Transaction) → OpensIn t x.dressed.changes → IsOffering t → All (CarriesOpen t) x.outcome.standing.calls
  pub sent : AreSent x.dressed.changes x.dressed.sends
  pub one : OneOffers x.dressed.changes

pub nothing_begins : (made : ℕ) (calls : Standing) → BeginsOffer made calls.calls (no_effect calls)
nothing_begins made calls = record {
  stayed = λ t u later tag each. later_all t u calls.calls later each;
  began = λ t opens offers. absurd opens;
  above = λ t opens offers v tag each same. absurd opens;
  byes = λ knows t opens. absurd opens;
  keeps = λ t tag was each. each;
  carries = λ t opens offers. absurd opens;
  sent = tt;
  one = tt;
}

-- ---- tags

-- a tag that was made before is none of a call whose tags are new
new_untagged : (made : ℕ) (c : StandingCall) (tag : List ℕ) → HasNewTags made c → IsMade made tag → IsTagOf c tag → ⊥
new_untagged made c tag new old (inl is) = old_and_new made new.salt new.first tag old new.new_first (omega (arith, new.in_order, new.few)) (is ∙ new.caller)
new_untagged made c tag new old (inr is) = old_and_new made new.salt new.second tag old new.new_second new.few (is ∙ new.callee)

-- ---- the first INVITE

later_tag : (t u : Transaction) → IsLater t u → from_tag u ≡ from_tag t
later_tag t u later = ap (λ (p : Parts). tag_text p.from.params) later.parts

-- an earlier request has no tag of the new call
old_fits : (made : ℕ) (c : StandingCall) (t u : Transaction) → HasNewTags made c → IsLater t u → IsMade made (from_tag t) → FitsCall u c
old_fits made c t u new later tag = λ has. absurd (new_untagged made c (from_tag u) new (subst (IsMade made) (sym (later_tag t u later)) tag) (tagged (from_tag u) c has))

-- and the new one has none of an earlier call
new_fits : (made salt count : ℕ) (t : Transaction) (c : StandingCall) → made < count → count < 2 ^ 64 → from_tag t ≡ token salt count → HasMadeTags made c → FitsCall t c
new_fits made salt count t c new few is h = λ has. absurd (old_and_new made salt count (from_tag t) (made_tag made c (from_tag t) h (tagged (from_tag t) c has)) new few is)

-- of the call itself
pub first_fits : (o : Occasion) (r : Request) (id number : ℕ) (source : Addr) (contact target : Uri) (offer : Description) (pool : pools.Contents) (t : Transaction) → IsOfferIn (first_leg o r target) t
    → FitsCall t (with_step (first_standing number o r id source contact) (first_call_row (first_standing number o r id source contact).call offer pool o.now))
unfolding first_call_row new_leg
first_fits o r id number source contact target offer pool t is = λ has.
    let c = with_step (first_standing number o r id source contact) (first_call_row (first_standing number o r id source contact).call offer pool o.now) in
    let asked : asked_end t.parts c ≡ Callee = asked_callee t.parts c is.tag in
    record {
      counted = subst (λ x. IsCounted t.parts.cseq.number (dialog_of x c.call)) (sym asked) is.number;
      opens = λ w. open_from t.parts c (record { offerer = Caller; stage = stages.Asked false }) (
          record {
            stands = refl;
            awaits = refl;
            end = subst (λ x. is_same x (other Caller) ≡ true) (sym asked) refl;
            last = subst (λ x. is_last_in t.parts.cseq.number (dialog_of x c.call) ≡ true) (sym asked) refl;
          }
          );
    }

pub offered_first : (s : SceneValue) (leg : Dialog) (c : Call) (offer : Description) (pool : pools.Contents) (now : ℕ) (t : Transaction) → s.callee ≡ Some leg
    → OpensIn t (messages s None (first_call_row c offer pool now).actions).dressed.changes → IsOffering t → IsOfferIn leg t
unfolding first_call_row
offered_first s leg c offer pool now t is opens offers = elim (said_offered s None (first_call_row c offer pool now).actions t opens offers) [
  | inl h ↦ of_leg leg t s.callee is h
  | inr h ↦ absurd h
]
  where
    of_leg : (leg : Dialog) (t : Transaction) (d : Option Dialog) → d ≡ Some leg → IsOfferTo (option_copied (option_map lent d)) t → IsOfferIn leg t
    of_leg leg t None is h = absurd h
    of_leg leg t (Some d) is h = subst (λ x. IsOfferIn x t) (same_Some d leg is) h

first_has_one : (c : Call) (offer : Description) (pool : pools.Contents) (now : ℕ) → HasOne (first_call_row c offer pool now).actions
unfolding first_call_row
first_has_one c offer pool now = refl

pub first_stands : (c : Call) (offer : Description) (pool : pools.Contents) (now : ℕ) → is_some (first_call_row c offer pool now).call.standing ≡ true
unfolding first_call_row
first_stands c offer pool now = refl

pub pushed_all : (P : StandingCall → Type 0) (c : StandingCall) (calls : List StandingCall) (b : Bool) → b ≡ true → All P calls → P c → All P (cond b (calls ++ c ∷ []) calls)
pushed_all P c calls true is each h = All-push P calls c each h
pushed_all P c calls false is each h = absurd (false≢true is)

-- its open offer is what it says
pub first_carries : (c : Call) (offer : Description) (pool : pools.Contents) (now : ℕ) (t : Transaction) → CarriesText (first_call_row c offer pool now).description t → CarriesIf t (first_call_row c offer pool now).call.media.offer
unfolding first_call_row
first_carries c offer pool now t h = h

begins_by_offer : (calls : Standing) (o : Occasion) (r : Request) (id : ℕ) (source : Addr) (target : Uri) (offer : Description) (contact : Option Uri) → tag_text r.parts.to.params ≡ [] → o.tokens < 2 ^ 63
    → KnowsCalls o.tokens calls.calls → BeginsOffer o.tokens calls.calls (begins_by calls o r id source target offer contact)
unfolding new_leg
begins_by_offer calls o r id source target offer None e few all = nothing_begins o.tokens calls
begins_by_offer calls o r id source target offer (Some contact) e few all =
    let c = first_standing (calls.begun + 1) o r id source contact in
    let step = first_call_row c.call offer calls.pool o.now in
    let leg = first_leg o r target in
    let s = first_scene o (first_asker o r id source) r.max_forwards leg step.description in
    let new : HasNewTags o.tokens (with_step c step) = new_tags o r id (calls.begun + 1) source contact step.call (first_ids c.call offer calls.pool o.now) e few in
    let stands = first_stands c.call offer calls.pool o.now in
    let offered : (t : Transaction) → OpensIn t (messages s None step.actions).dressed.changes → IsOffering t → IsOfferIn leg t = λ t opens offers. offered_first s leg c.call offer calls.pool o.now t refl opens offers in
    record {
      stayed = λ t u later tag each. pushed_all (FitsCall u) (with_step c step) calls.calls (is_some step.call.standing) stands (later_all t u calls.calls later each) (old_fits o.tokens (with_step c step) t u new later tag);
      began = λ t opens offers.
          pushed_all (FitsCall t) (with_step c step) calls.calls (is_some step.call.standing) stands
          (All-weaker (HasMadeTags o.tokens) (FitsCall t) (λ x. new_fits o.tokens o.salt (o.tokens + 3) t x (omega arith) (omega (arith, few)) (offered t opens offers).tag) calls.calls all.tags)
          (first_fits o r id (calls.begun + 1) source contact target offer calls.pool t (offered t opens offers));
      above = λ t opens offers v tag each same. absurd (old_and_new o.tokens o.salt (o.tokens + 3) (from_tag v) tag (omega arith) (omega (arith, few)) (same ∙ (offered t opens offers).tag));
      byes = λ knows. first_byes o (first_asker o r id source) r.max_forwards leg step.description calls.calls step.actions refl few;
      keeps = λ t tag was each.
          pushed_all (CarriesOpen t) (with_step c step) calls.calls (is_some step.call.standing) stands each
          (λ has opens leg. absurd (new_untagged o.tokens (with_step c step) (from_tag t) new tag (tagged (from_tag t) (with_step c step) has)));
      carries = λ t opens offers.
          pushed_all (CarriesOpen t) (with_step c step) calls.calls (is_some step.call.standing) stands
          (All-weaker (HasMadeTags o.tokens) (CarriesOpen t)
          (λ y made has open_then leg. absurd (old_and_new o.tokens o.salt (o.tokens + 3) (from_tag t) (made_tag o.tokens y (from_tag t) made (tagged (from_tag t) y has)) (omega arith) (omega (arith, few)) (offered t opens offers).tag))
          calls.calls all.tags) (λ has open_then leg. first_carries c.call offer calls.pool o.now t (said_carries s None step.actions t opens offers));
      sent = messages_sent s None step.actions;
      one = said_one s None step.actions (first_has_one c.call offer calls.pool o.now);
    }

pub first_begins : (calls : Standing) (o : Occasion) (r : Request) (id : ℕ) (source : Addr) (target : Uri) (offer : Description) → tag_text r.parts.to.params ≡ [] → o.tokens < 2 ^ 63
    → KnowsCalls o.tokens calls.calls → BeginsOffer o.tokens calls.calls (first_row calls o r id source target offer)
unfolding first_row
first_begins calls o r id source target offer e few all = begins_by_offer calls o r id source target offer (reached_at (contacts_of r.headers)) e few all
