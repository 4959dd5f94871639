-- Where no offer is open in the dialogs of a call, the call awaits no answer.
use Rattle.std.proofs.Common.{◌≡◌, ◌∙◌, ℕ, Bool, true, false, not, List, [], ◌∷◌, Option, Some, None, ap, refl, sym, subst, inl, inr, if◌then◌else◌}
use Rattle.std.proofs.lemmas.Bool.{false≢true}
use Rattle.call_core.specs.Calls.{awaits_answer, holds_in}
use Rattle.call_core.specs.declared.stage.Stage.{Stage}
use Rattle.call_core.specs.declared.stage.Stage.TheVariants as stages
use Rattle.call_core.specs.declared.stage.Standing.{Standing}
use Rattle.call_media.specs.declared.end.End.{End}
use Rattle.call_media.specs.declared.session.OpenOffer.{OpenOffer}
use Rattle.call_trace.specs.declared.call.Call.{Call}
use Rattle.call_trace.specs.declared.call.Offer.{Offer}
use Rattle.call_trace.specs.declared.datagram.Datagram.{Datagram}
use Rattle.call_trace.specs.declared.datagram.Dialog.{Dialog}
use Rattle.call_trace.specs.declared.datagram.Direction.TheVariants.{Sent}
use Rattle.call_trace.specs.Calls.{Open}
use Rattle.call_trace.specs.Dialogs.{dialog_of}
use Rattle.call_trace.specs.Exchanges.{TakesFinal}
use Rattle.call_trace.specs.Listed.{AllOf}
use Rattle.call_trace.specs.Messages.{asks, is_request, offering}
use Rattle.call_trace.specs.Stands.{CallStands, Offered, leg}
use Rattle.call_trace.proofs.NewExchanges.{from_request}
use Rattle.call_trace.proofs.Words.{offer_asks, request_asks}
use Rattle.calls.specs.declared.standing_call.StandingCall.{StandingCall}
use Rattle.media_laws.specs.Keeping.{IsDialogOf, IsQuiet}
use Rattle.media_laws.specs.Listing.{Listed}
use Rattle.media_laws.specs.Shows.{ShowsCall, ShowsOpen, ShowsStage, ShowsStanding}
use Rattle.media_laws.proofs.WholePromise.BegunRequests.{same_dialog}
use Rattle.media_laws.proofs.WholePromise.Sessions.{bare}
use Rattle.transactions.specs.declared.transaction.Transaction.{Transaction}

-- ---- an offer that was passed on is open

abbrev dialog_with : List ℕ → List ℕ → List ℕ → Dialog
dialog_with call ours theirs = record { call_id = call; ours = ours; theirs = theirs }

request_sent : (p : Datagram) → p.direction ≡ Sent → is_request p.message.kind ≡ true → dialog_of p ≡ dialog_with p.message.call_id p.message.from_tag p.message.to_tag
request_sent p out asks =
    ap (λ b. dialog_with p.message.call_id (if b then p.message.from_tag else p.message.to_tag) (if b then p.message.to_tag else p.message.from_tag)) (from_request p.direction p.message.kind out asks)

pub offered_open : (t : List Datagram) (x y : Dialog) (p : Offer) → Offered offering t x y p → Open offering t y
offered_open t x y p h =
    let k = h.1 in
    let went = h.3 in
    let o = h.4 in
    let may_ask : asks offering went.message ≡ true = subst (λ m. asks offering m ≡ true) (sym o.went_is) (offer_asks offering p.went o.offer_went) in
    let names : dialog_with went.message.call_id went.message.from_tag went.message.to_tag ≡ y =
    same_dialog went.message.call_id went.message.from_tag went.message.to_tag y.call_id y.ours y.theirs (ap (λ m. m.call_id) o.went_is ∙ o.went_call) (ap (λ m. m.from_tag) o.went_is ∙ o.went_from) (ap (λ m. m.to_tag) o.went_is ∙ o.went_to) in (
      k,
      went,
      record {
        sent = record { at = o.at_went; sent = o.sent; named = request_sent went o.sent (request_asks offering went.message may_ask) ∙ names };
        asks = may_ask;
        unanswered = λ n r later at takes. o.unanswered n r at (subst (λ m. TakesFinal r m) o.went_is takes);
      },
    )

-- ---- a call that awaits an answer has one

module _ (slots : List (Option Transaction)) (begun : List Transaction) (t : List Datagram) where
  open_there : (name : List ℕ) (c : StandingCall) (e : End) (o : Option OpenOffer) (x : Call) → ShowsOpen slots begun t name c e o x → (p : Offer) × (x.offer ≡ Some p)
  open_there name c e None x h = absurd h
  open_there name c e (Some o) x h = (h.0, h.1.open_is)

  stage_open : (c : StandingCall) (n : Standing) (stage : Stage) (x : Call) → awaits_answer stage ≡ true → ShowsStage slots begun t c n stage x → (p : Offer) × (x.offer ≡ Some p)
  stage_open c n (stages.Asked rung) x e h = open_there _ c n.offerer c.call.media.offer x h.3
  stage_open c n (stages.Cancelling sent) x e h = absurd (false≢true e)
  stage_open c n (stages.Answered interval) x e h = absurd (false≢true e)
  stage_open c n stages.Settled x e h = absurd (false≢true e)
  stage_open c n (stages.Reasked rung cancelled) x e h = open_there _ c n.offerer c.call.media.offer x h.1
  stage_open c n (stages.Reanswered interval) x e h = absurd (false≢true e)
  stage_open c n stages.Updating x e h = open_there _ c n.offerer c.call.media.offer x h.1
  stage_open c n (stages.Ending interval) x e h = absurd (false≢true e)

  standing_open : (c : StandingCall) (o : Option Standing) (x : Call) → holds_in awaits_answer o ≡ true → ShowsStanding slots begun t c o x → (p : Offer) × (x.offer ≡ Some p)
  standing_open c None x e h = absurd h
  standing_open c (Some n) x e h = stage_open c n n.stage x e h

  leg_shown : (c : StandingCall) (x : Call) (b : Bool) → ShowsCall slots begun t c x → IsDialogOf (leg x b) c
  leg_shown c x true shows = inl (sym shows.legs.caller)
  leg_shown c x false shows = inr shows.legs.callee

  abbrev Settles : StandingCall → Type 0
  Settles c = IsQuiet t c → holds_in awaits_answer c.call.standing ≡ false

  settles_by : (c : StandingCall) (x : Call) (b : Bool) → holds_in awaits_answer c.call.standing ≡ b → ShowsCall slots begun t c x → CallStands offering t x → IsQuiet t c → b ≡ false
  settles_by c x false is shows stands quiet = refl
  settles_by c x true is shows stands quiet =
      let p = standing_open c c.call.standing x is shows.standing in
      absurd (quiet (leg x (not p.0.by_caller)) (leg_shown c x (not p.0.by_caller) shows) (offered_open t (leg x p.0.by_caller) (leg x (not p.0.by_caller)) p.0 (stands.offer p.0 p.1)))

  pub each_settles : (cs : List StandingCall) (xs : List Call) → Listed (ShowsCall slots begun t) cs xs → AllOf (CallStands offering t) xs → AllOf Settles cs
  each_settles [] xs h stand = tt
  each_settles (c ∷ cs) xs (inl h) stand = ((λ quiet. (bare c.call.standing h.0).1), each_settles cs xs h.1 stand)
  each_settles (c ∷ cs) xs (inr h) stand =
      let l : AllOf (CallStands offering t) (h.1 ∷ h.2) = subst (AllOf (CallStands offering t)) h.3 stand in
      ((λ quiet. settles_by c h.1 (holds_in awaits_answer c.call.standing) refl h.4 l.0 quiet), each_settles cs h.2 h.5 l.1)
