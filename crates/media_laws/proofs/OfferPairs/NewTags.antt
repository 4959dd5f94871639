-- The tags that a call makes as it begins are in no dialog of a call of the trace, and in none that was left there.
use Rattle.std.proofs.Common.{◌≡◌, ◌≢◌, ◌∙◌, ℕ, ◌<◌, ◌^◌, true, List, [], ◌∷◌, sym, subst, arith, inl, inr}
use Rattle.std.specs.List.{All}
use Rattle.std.proofs.lemmas.Bool.{false≢true}
use Rattle.std.proofs.lemmas.List.Elements.{All-head, All-tail}
use Rattle.text.specs.Class.{is_run_of, is_token_byte}
use Rattle.responses.specs.Tokens.{token}
use Rattle.events.specs.declared.sent.Sent.{Sent}
use Rattle.transactions.specs.declared.transaction.Transaction.{Transaction}
use Rattle.calls.specs.declared.standing_call.StandingCall.{StandingCall}
use Rattle.plans.specs.Office.{Office}
use Rattle.call_trace.specs.declared.call.Call.{Call}
use Rattle.call_trace.specs.declared.datagram.Datagram.{Datagram}
use Rattle.call_trace.specs.Events.{IsNewTag}
use Rattle.call_trace.specs.Listed.{AllOf}
use Rattle.call_trace.specs.Stands.{Apart, HasTags, IsTagOf}
use Rattle.message_laws.specs.Knowing.{HasMadeTags}
use Rattle.message_laws.specs.Tokens.{IsMade}
use Rattle.message_laws.proofs.TokenUse.Apartness.{counts_differ, made_tag, old_and_new}
use Rattle.message_laws.proofs.AwaitedOffers.Tagged.{tagged}
use Rattle.message_laws.proofs.Messages.AnyToken.{any_token_run}
use Rattle.message_laws.specs.KnownTrace.{KnowsTrace}
use Rattle.message_laws.proofs.TokenUse.UnusedTokens.{unused_tag}
use Rattle.media_laws.specs.Listing.{Listed}
use Rattle.media_laws.specs.Shows.{ShowsCall}
use Rattle.media_laws.proofs.Copies.CallTags.{shown_tag}
use Rattle.media_laws.specs.NextTags.{AreNextTagsNew}

-- ---- the tags of the trace's calls

abbrev HasOldTags : ℕ → Call → Type 0
HasOldTags made d = (tag : List ℕ) → IsTagOf d tag → IsMade made tag

old_tags : (made : ℕ) (slots : _) (begun : List Transaction) (t : List Datagram) (cs : List StandingCall) (ds : List Call) → All (HasMadeTags made) cs → Listed (ShowsCall slots begun t) cs ds → AllOf (HasOldTags made) ds
old_tags made slots begun t [] ds own h = subst (AllOf (HasOldTags made)) (sym h) tt
old_tags made slots begun t (c ∷ cs) ds own (inl h) = old_tags made slots begun t cs ds (All-tail (HasMadeTags made) c cs own) h.1
old_tags made slots begun t (c ∷ cs) ds own (inr h) =
    let mine = All-head (HasMadeTags made) c cs own in
    subst (AllOf (HasOldTags made)) (sym h.3)
    ((λ tag is. made_tag made c tag mine (tagged tag c (shown_tag made tag c h.1 mine h.4.legs is))), old_tags made slots begun t cs h.2 (All-tail (HasMadeTags made) c cs own) h.5)

-- ---- a call whose tags are made now

-- its tags are tokens, one after another
pub record MakesTags (made : ℕ) (d : Call) : Type 0 where
  pub salt : ℕ
  pub first : ℕ
  pub second : ℕ
  pub new : made < first
  pub in_order : first < second
  pub few : second < 2 ^ 64
  pub caller : d.caller.ours ≡ token salt first
  pub callee : d.callee.ours ≡ token salt second

some_token : (salt count : ℕ) (tag : List ℕ) → tag ≡ token salt count → tag ≢ []
some_token salt count tag is none = false≢true (subst (λ (text : List ℕ). is_run_of is_token_byte text ≡ true) (sym is ∙ none) (any_token_run salt count))

lower : (a b : ℕ) → a < b → b < 2 ^ 64 → a < 2 ^ 64
lower a b lt few = omega (arith, lt, few)

later : (a b c : ℕ) → a < b → b < c → a < c
later a b c one two = omega (arith, one, two)

no_same : (a b : ℕ) → a < b → a ≡ b → ⊥
no_same a b lt e = omega (arith, lt, e)

pub has_tags : (made : ℕ) (d : Call) → MakesTags made d → HasTags d
has_tags made d h = record {
  caller = some_token h.salt h.first d.caller.ours h.caller;
  callee = some_token h.salt h.second d.callee.ours h.callee;
  differ = λ e. no_same h.first h.second h.in_order (counts_differ h.salt h.salt h.first h.second (lower h.first h.second h.in_order h.few) h.few (sym h.caller ∙ (e ∙ h.callee)));
}

old_apart : (made : ℕ) (c d : Call) → MakesTags made d → HasOldTags made c → Apart c d
old_apart made c d h old tag of (inl is) = old_and_new made h.salt h.first tag (old tag of) h.new (lower h.first h.second h.in_order h.few) (is ∙ h.caller)
old_apart made c d h old tag of (inr is) = old_and_new made h.salt h.second tag (old tag of) (later made h.first h.second h.new h.in_order) h.few (is ∙ h.callee)

each_apart : (made : ℕ) (d : Call) (ds : List Call) → MakesTags made d → AllOf (HasOldTags made) ds → AllOf (λ c. Apart c d) ds
each_apart made d [] h all = tt
each_apart made d (c ∷ ds) h all = (old_apart made c d h all.0, each_apart made d ds h all.1)

pub all_apart : (made : ℕ) (slots : _) (begun : List Transaction) (t : List Datagram) (cs : List StandingCall) (ds : List Call) (d : Call) → All (HasMadeTags made) cs → Listed (ShowsCall slots begun t) cs ds → MakesTags made d
    → AllOf (λ c. Apart c d) ds
all_apart made slots begun t cs ds d own listed h = each_apart made d ds h (old_tags made slots begun t cs ds own listed)

-- ---- none was left by such a tag

new_tag : (s : Office) (begun : List Transaction) (sent : List Sent) (t : List Datagram) (salt count : ℕ) (tag : List ℕ) → KnowsTrace s begun sent t → AreNextTagsNew s t → s.tokens < count → count < 2 ^ 64 → tag ≡ token salt count
    → IsNewTag t tag
new_tag s begun sent t salt count tag k next lt few is = record {
  from = λ i p at way leaves e. unused_tag s begun sent t salt count k lt few i p at way leaves (e ∙ is);
  to = λ i p at way ok leaves e. next salt count lt few i p at way ok leaves (e ∙ is);
}

pub caller_new : (s : Office) (begun : List Transaction) (sent : List Sent) (t : List Datagram) (d : Call) → KnowsTrace s begun sent t → AreNextTagsNew s t → MakesTags s.tokens d → IsNewTag t d.caller.ours
caller_new s begun sent t d k next h = new_tag s begun sent t h.salt h.first d.caller.ours k next h.new (lower h.first h.second h.in_order h.few) h.caller

pub callee_new : (s : Office) (begun : List Transaction) (sent : List Sent) (t : List Datagram) (d : Call) → KnowsTrace s begun sent t → AreNextTagsNew s t → MakesTags s.tokens d → IsNewTag t d.callee.ours
callee_new s begun sent t d k next h = new_tag s begun sent t h.salt h.second d.callee.ours k next (later s.tokens h.first h.second h.new h.in_order) h.few h.callee
