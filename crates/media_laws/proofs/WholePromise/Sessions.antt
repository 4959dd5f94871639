-- The calls of a trace that show those of the agent are of the same sessions.
use Rattle.std.proofs.Common.{◌≡◌, ◌∙◌, ◌||◌, Bool, true, false, is_some, List, [], ◌∷◌, Option, Some, None, ap, refl, sym, subst, inl, inr}
use Rattle.std.proofs.lemmas.Bool.{false≢true, or_from}
use Rattle.std.proofs.lemmas.Option.{same_Some}
use Rattle.call_core.specs.Calls.{awaits_answer, has_session, holds_in}
use Rattle.call_core.specs.declared.stage.Stage.{Stage}
use Rattle.call_core.specs.declared.stage.Stage.TheVariants as stages
use Rattle.call_core.specs.declared.stage.Standing.{Standing}
use Rattle.call_media.specs.declared.session.Session.{Session}
use Rattle.call_trace.specs.declared.call.Call.{Call}
use Rattle.call_trace.specs.declared.call.Settled.{Settled}
use Rattle.call_trace.specs.declared.call.Stage.TheVariants.{Answered, Asked, Ending}
use Rattle.call_trace.specs.declared.datagram.Datagram.{Datagram}
use Rattle.call_trace.specs.Listed.{AllOf}
use Rattle.calls.specs.declared.standing_call.StandingCall.{StandingCall}
use Rattle.call_trace.proofs.Members.{all_weaker}
use Rattle.plans.specs.Office.{Office}
use Rattle.message_laws.specs.Serving.{AreStaged, IsSessionOf, IsStaged, trace_session}
use Rattle.message_laws.specs.Traced.{AreTraced, WasSettled}
use Rattle.media_laws.specs.Listing.{Listed, is_listed_stage}
use Rattle.media_laws.specs.Shows.{ShowsCall, ShowsSettled, ShowsStage, ShowsStanding, settled_of}
use Rattle.transactions.specs.declared.transaction.Transaction.{Transaction}
use Rattle.media_laws.specs.Keeping.{dialog_with_caller}

same_answered : (z w : Settled) → Answered z ≡ Answered w → z ≡ w
same_answered z w e = cc

not_asked : (z : Settled) → Asked ≡ Answered z → ⊥
not_asked z e = absurd cc

not_ending : (b : Bool) (z : Settled) → Ending b ≡ Answered z → ⊥
not_ending b z e = absurd cc

-- a call that the trace no longer lists has no media
stage_bare : (stage : Stage) → is_listed_stage stage ≡ false → (has_session stage ≡ false) × (awaits_answer stage ≡ false)
stage_bare (stages.Asked rung) h = absurd cc
stage_bare (stages.Cancelling sent) h = (refl, refl)
stage_bare (stages.Answered interval) h = absurd cc
stage_bare stages.Settled h = absurd cc
stage_bare (stages.Reasked rung cancelled) h = absurd cc
stage_bare (stages.Reanswered interval) h = absurd cc
stage_bare stages.Updating h = absurd cc
stage_bare (stages.Ending interval) h = absurd cc

pub bare : (o : Option Standing) → holds_in is_listed_stage o ≡ false → (holds_in has_session o ≡ false) × (holds_in awaits_answer o ≡ false)
bare None h = (refl, refl)
bare (Some n) h = stage_bare n.stage h

no_media : (o : Option Standing) (P : Type 0) → holds_in is_listed_stage o ≡ false → (holds_in has_session o || holds_in awaits_answer o) ≡ true → P
no_media o P h e = let b = bare o h in absurd (false≢true (sym (or_from (holds_in has_session o) (holds_in awaits_answer o) b.0 b.1) ∙ e))

none_session : (c : StandingCall) (P : Type 0) (y : Session) → IsStaged c.call → holds_in has_session c.call.standing ≡ false → IsSessionOf y c → P
none_session c P y staged none own = absurd (false≢true (sym (ap is_some (sym own) ∙ staged.session ∙ none)))

module _ (slots : List (Option Transaction)) (begun : List Transaction) (t : List Datagram) where
  -- ---- one call

  settled_by : (c : StandingCall) (o : Option Session) (x : Call) (z : Settled) → c.call.media.session ≡ o → ShowsSettled o x.stage → x.stage ≡ Answered z → (y : Session) × IsSessionOf y c × (z.session ≡ trace_session y)
  settled_by c None x z is h answered = absurd h
  settled_by c (Some y) x z is h answered = (y, is, ap (λ (v : Settled). v.session) (same_answered z _ (sym answered ∙ h)))

  stage_settled : (c : StandingCall) (n : Standing) (stage : Stage) (x : Call) (z : Settled) → ShowsStage slots begun t c n stage x → x.stage ≡ Answered z → (y : Session) × IsSessionOf y c × (z.session ≡ trace_session y)
  stage_settled c n (stages.Asked rung) x z h answered = absurd (not_asked z (sym h.0 ∙ answered))
  stage_settled c n (stages.Cancelling sent) x z h answered = absurd h
  stage_settled c n (stages.Answered interval) x z h answered = settled_by c c.call.media.session x z refl h.0 answered
  stage_settled c n stages.Settled x z h answered = settled_by c c.call.media.session x z refl h.0 answered
  stage_settled c n (stages.Reasked rung cancelled) x z h answered = settled_by c c.call.media.session x z refl h.0 answered
  stage_settled c n (stages.Reanswered interval) x z h answered = settled_by c c.call.media.session x z refl h.0 answered
  stage_settled c n stages.Updating x z h answered = settled_by c c.call.media.session x z refl h.0 answered
  stage_settled c n (stages.Ending interval) x z h answered = absurd (not_ending _ z (sym h.0 ∙ answered))

  pub standing_settled : (c : StandingCall) (o : Option Standing) (x : Call) (z : Settled) → ShowsStanding slots begun t c o x → x.stage ≡ Answered z → (y : Session) × IsSessionOf y c × (z.session ≡ trace_session y)
  standing_settled c None x z h answered = absurd h
  standing_settled c (Some n) x z h answered = stage_settled c n n.stage x z h answered

  session_by : (c : StandingCall) (o : Option Session) (x : Call) (y : Session) → c.call.media.session ≡ o → ShowsSettled o x.stage → IsSessionOf y c → WasSettled y x
  session_by c None x y is h own = absurd h
  session_by c (Some v) x y is h own = subst (λ w. WasSettled w x) (same_Some v y (sym is ∙ own)) (settled_of v, h, refl)

  stage_session : (c : StandingCall) (n : Standing) (stage : Stage) (x : Call) (y : Session) → IsStaged c.call → c.call.standing ≡ Some n → n.stage ≡ stage → ShowsStage slots begun t c n stage x → IsSessionOf y c → WasSettled y x
  stage_session c n (stages.Asked rung) x y staged stands is h own = none_session c (WasSettled y x) y staged (ap (holds_in has_session) stands ∙ ap has_session is) own
  stage_session c n (stages.Cancelling sent) x y staged stands is h own = absurd h
  stage_session c n (stages.Answered interval) x y staged stands is h own = session_by c c.call.media.session x y refl h.0 own
  stage_session c n stages.Settled x y staged stands is h own = session_by c c.call.media.session x y refl h.0 own
  stage_session c n (stages.Reasked rung cancelled) x y staged stands is h own = session_by c c.call.media.session x y refl h.0 own
  stage_session c n (stages.Reanswered interval) x y staged stands is h own = session_by c c.call.media.session x y refl h.0 own
  stage_session c n stages.Updating x y staged stands is h own = session_by c c.call.media.session x y refl h.0 own
  stage_session c n (stages.Ending interval) x y staged stands is h own = none_session c (WasSettled y x) y staged (ap (holds_in has_session) stands ∙ ap has_session is) own

  pub standing_session : (c : StandingCall) (o : Option Standing) (x : Call) (y : Session) → IsStaged c.call → c.call.standing ≡ o → ShowsStanding slots begun t c o x → IsSessionOf y c → WasSettled y x
  standing_session c None x y staged stands h own = absurd h
  standing_session c (Some n) x y staged stands h own = stage_session c n n.stage x y staged stands refl h own

  -- ---- the calls

  traced_by : (cs : List StandingCall) (xs : List Call) → AllOf (λ c. IsStaged c.call) cs → Listed (ShowsCall slots begun t) cs xs → AreTraced dialog_with_caller cs xs
  traced_by [] xs staged h = subst (AreTraced dialog_with_caller []) (sym h) (record { settled = tt; sessions = tt; callers = tt })
  traced_by (c ∷ cs) xs staged (inl h) =
      let rest = traced_by cs xs staged.1 h.1 in
      record {
        settled = all_weaker _ _ (λ x f z is. inr (f z is)) xs rest.settled;
        sessions = ((λ y own. none_session c _ y staged.0 (bare c.call.standing h.0).0 own), rest.sessions);
        callers = ((λ e. no_media c.call.standing _ h.0 e), rest.callers);
      }
  traced_by (c ∷ cs) xs staged (inr h) =
      let x : Call = h.1 in
      let shows : ShowsCall slots begun t c x = h.4 in
      let rest = traced_by cs h.2 staged.1 h.5 in
      subst (AreTraced dialog_with_caller (c ∷ cs)) (sym h.3) (record {
        settled = ((λ z is. let y = standing_settled c c.call.standing x z shows.standing is in inl (y.0, y.1, y.2, sym shows.legs.caller)), all_weaker _ _ (λ v f z is. inr (f z is)) h.2 rest.settled);
        sessions = ((λ y own. inl (standing_session c c.call.standing x y staged.0 refl shows.standing own)), all_weaker _ _ (λ v f y own. inr (f y own)) cs rest.sessions);
        callers = ((λ e. inl shows.legs.caller), all_weaker _ _ (λ v f e. inr (f e)) cs rest.callers);
      })

pub are_traced : (s : Office) (begun : List Transaction) (t : List Datagram) (xs : List Call) → AreStaged s → Listed (ShowsCall s.table.slots begun t) s.calls.calls xs → AreTraced dialog_with_caller s.calls.calls xs
are_traced s begun t xs staged h = traced_by s.table.slots begun t s.calls.calls xs staged h
