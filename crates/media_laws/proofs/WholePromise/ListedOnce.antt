-- No call that talks is listed twice.
use Rattle.std.proofs.Common.{◌≡◌, ◌∙◌, false, List, [], ◌∷◌, Option, Some, None, option_map, ap, sym, subst, inl, inr}
use Rattle.std.proofs.lemmas.Bool.{false≢true}
use Rattle.std.proofs.lemmas.Option.{same_Some}
use Rattle.call_core.specs.Calls.{has_session, holds_in}
use Rattle.call_trace.specs.declared.call.Call.{Call}
use Rattle.call_trace.specs.declared.datagram.Datagram.{Datagram}
use Rattle.call_trace.specs.declared.datagram.Dialog.{Dialog}
use Rattle.call_trace.specs.Listed.{AllOf}
use Rattle.call_trace.specs.Stands.{AllApart, Apart}
use Rattle.calls.specs.declared.standing_call.StandingCall.{StandingCall}
use Rattle.dialogs.specs.declared.state.Dialog.{Dialog as LegDialog}
use Rattle.media_laws.specs.Listing.{Listed}
use Rattle.media_laws.specs.Shows.{ShowsCall, ShowsCallee}
use Rattle.media_laws.specs.Keeping.{dialog_with_callee}
use Rattle.media_laws.specs.Living.{EachTalksApart, TalkApart}
use Rattle.media_laws.proofs.WholePromise.Sessions.{bare}
use Rattle.trace_reading.specs.Message.{dialog_named}
use Rattle.transactions.specs.declared.transaction.Transaction.{Transaction}

-- ---- its dialogs in the trace

none_some : (b : Dialog) → option_map (λ (d : LegDialog). dialog_named d.id) None ≡ Some b → ⊥
none_some b h = cc

callee_there : (tag : _) (o : Option LegDialog) (y b : Dialog) → ShowsCallee tag o y → option_map (λ (d : LegDialog). dialog_named d.id) o ≡ Some b → y ≡ b
callee_there tag None y b shows is = absurd (none_some b is)
callee_there tag (Some d) y b shows is = shows ∙ same_Some (dialog_named d.id) b is

module _ (slots : List (Option Transaction)) (begun : List Transaction) (t : List Datagram) where
  pub callee_is : (c : StandingCall) (x : Call) (b : Dialog) → ShowsCall slots begun t c x → dialog_with_callee c ≡ Some b → x.callee ≡ b
  callee_is c x b shows is = callee_there c.callee_tag c.call.callee x.callee b shows.legs.callee is

  -- ---- two calls

  two_apart : (c d : StandingCall) (x y : Call) → ShowsCall slots begun t c x → ShowsCall slots begun t d y → Apart x y → TalkApart c d
  two_apart c d x y one other apart = λ a b v w talks speaks.
      let caller : x.caller ≡ a = one.legs.caller ∙ talks.caller in
      let callee : x.callee ≡ b = callee_is c x b one talks.callee in
      let second_caller : y.caller ≡ v = other.legs.caller ∙ speaks.caller in
      let second_callee : y.callee ≡ w = callee_is d y w other speaks.callee in
      let ours : Dialog → _ = λ (q : Dialog). q.ours in
      record {
        callers = λ same. apart a.ours (inl (ap ours (sym caller))) (inl (ap ours (same ∙ sym second_caller)));
        callees = λ same. apart b.ours (inr (ap ours (sym callee))) (inr (ap ours (same ∙ sym second_callee)));
        to_callee = λ same. apart a.ours (inl (ap ours (sym caller))) (inr (ap ours (same ∙ sym second_callee)));
        to_caller = λ same. apart b.ours (inr (ap ours (sym callee))) (inl (ap ours (same ∙ sym second_caller)));
      }

  silent : (c d : StandingCall) → holds_in has_session c.call.standing ≡ false → TalkApart c d
  silent c d bare_is = λ a b x y talks speaks. absurd (false≢true (sym bare_is ∙ talks.answered))

  other_silent : (c d : StandingCall) → holds_in has_session d.call.standing ≡ false → TalkApart c d
  other_silent c d bare_is = λ a b x y talks speaks. absurd (false≢true (sym bare_is ∙ speaks.answered))

  -- ---- a call and those after it

  none_talk : (c : StandingCall) (cs : List StandingCall) → holds_in has_session c.call.standing ≡ false → AllOf (TalkApart c) cs
  none_talk c [] h = tt
  none_talk c (d ∷ cs) h = (silent c d h, none_talk c cs h)

  behind_apart : (c : StandingCall) (x : Call) (cs : List StandingCall) (xs : List Call) → ShowsCall slots begun t c x → Listed (ShowsCall slots begun t) cs xs → AllOf (Apart x) xs → AllOf (TalkApart c) cs
  behind_apart c x [] xs one h apart = tt
  behind_apart c x (d ∷ cs) xs one (inl h) apart = (other_silent c d (bare d.call.standing h.0).0, behind_apart c x cs xs one h.1 apart)
  behind_apart c x (d ∷ cs) xs one (inr h) apart =
      let each : AllOf (Apart x) (h.1 ∷ h.2) = subst (AllOf (Apart x)) h.3 apart in
      (two_apart c d x h.1 one h.4 each.0, behind_apart c x cs h.2 one h.5 each.1)

  pub talk_apart : (cs : List StandingCall) (xs : List Call) → Listed (ShowsCall slots begun t) cs xs → AllApart xs → EachTalksApart cs
  talk_apart [] xs h apart = tt
  talk_apart (c ∷ cs) xs (inl h) apart = (none_talk c cs (bare c.call.standing h.0).0, talk_apart cs xs h.1 apart)
  talk_apart (c ∷ cs) xs (inr h) apart =
      let each : AllApart (h.1 ∷ h.2) = subst AllApart h.3 apart in
      (behind_apart c h.1 cs h.2 h.4 h.5 each.0, talk_apart cs h.2 h.5 each.1)
