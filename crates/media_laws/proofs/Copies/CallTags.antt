-- The tags of the calls of a trace are those of the current calls.
use Rattle.std.proofs.Common.{◌≡◌, ◌∙◌, ℕ, true, List, [], ◌∷◌, Option, Some, None, ap, sym, subst, inl, inr}
use Rattle.std.specs.Cmp.Lexicographic.{bytes_decides}
use Rattle.std.specs.List.{All}
use Rattle.std.proofs.lemmas.Bool.{false≢true, or_left, or_right}
use Rattle.std.proofs.lemmas.List.Elements.{All-head, All-tail}
use Rattle.dialogs.specs.declared.state.Dialog.{Dialog as LegDialog}
use Rattle.calls.specs.Finding.{has_tag, is_tag_in, is_text}
use Rattle.calls.specs.declared.standing_call.StandingCall.{StandingCall}
use Rattle.call_core.specs.Calls.{dialog_of}
use Rattle.call_media.specs.declared.end.End.TheVariants.{Caller}
use Rattle.call_trace.specs.declared.call.Call.{Call}
use Rattle.call_trace.specs.declared.datagram.Dialog.{Dialog}
use Rattle.call_trace.specs.Listed.{AllOf}
use Rattle.call_trace.specs.Stands.{IsTagOf}
use Rattle.message_laws.specs.Knowing.{HasLegTag, HasMadeTags}
use Rattle.media_laws.specs.Listing.{Listed}
use Rattle.media_laws.specs.Shows.{ShowsCallee, ShowsLegs}
use Rattle.media_laws.specs.Lateness.{HaveNot}

same_text : (a b : List ℕ) → a ≡ b → is_text b a ≡ true
same_text a b e = (bytes_decides b a).1 (sym e)

callee_tag : (tag : List ℕ) (leg : Option LegDialog) (d : Dialog) → HasLegTag tag leg → ShowsCallee tag leg d → d.ours ≡ tag
callee_tag tag None d own shows = shows.0
callee_tag tag (Some leg) d own shows = ap (λ (x : Dialog). x.ours) shows ∙ own

-- a tag of a call that a trace shows is one of the call
pub shown_tag : (made : ℕ) (tag : List ℕ) (c : StandingCall) (d : Call) → HasMadeTags made c → ShowsLegs c d → IsTagOf d tag → has_tag tag c ≡ true
shown_tag made tag c d own shows (inl is) =
    or_right (is_text c.callee_tag tag) (is_tag_in (dialog_of Caller c.call) tag) (same_text tag c.call.caller.id.ours (is ∙ ap (λ (x : Dialog). x.ours) shows.caller))
shown_tag made tag c d own shows (inr is) =
    or_left (is_text c.callee_tag tag) (is_tag_in (dialog_of Caller c.call) tag) (same_text tag c.callee_tag (is ∙ callee_tag c.callee_tag c.call.callee d.callee own.leg shows.callee))

-- where no current call has the tag, none of the trace has it
module _ (made : ℕ) (tag : List ℕ) (P : StandingCall → Call → Type 0) (legs : (c : StandingCall) (d : Call) → P c d → ShowsLegs c d) where
  pub none_tagged : (cs : List StandingCall) (ds : List Call) → All (HasMadeTags made) cs → AllOf (HaveNot tag) cs → Listed P cs ds → AllOf (λ d. ¬ IsTagOf d tag) ds
  none_tagged [] ds own none h = subst (AllOf (λ d. ¬ IsTagOf d tag)) (sym h) tt
  none_tagged (c ∷ cs) ds own none (inl h) = none_tagged cs ds (All-tail (HasMadeTags made) c cs own) none.1 h.1
  none_tagged (c ∷ cs) ds own none (inr h) =
      subst (AllOf (λ d. ¬ IsTagOf d tag)) (sym h.3)
      ((λ is. false≢true (sym none.0 ∙ shown_tag made tag c h.1 (All-head (HasMadeTags made) c cs own) (legs c h.1 h.4) is)), none_tagged cs h.2 (All-tail (HasMadeTags made) c cs own) none.1 h.5)
