-- The lines by which a call passes on an answer, and an offer inside it, as moves of the trace's calls (RFC 3261
-- sections 13.2.2.4 and 14, RFC 3311 section 5).
use Rattle.std.proofs.Common.{◌≡◌, ℕ, ◌+◌, ◌≤◌, ◌<◌, ◌^◌, Bool, not, List, [], ◌∷◌, Some, None, sym, subst}
use Rattle.std.specs.Prelude.{IsTrue, slice_get, slice_set}
use Rattle.std.specs.Option.{option_copied}
use Rattle.sdp.specs.declared.description.Description.{Description}
use Rattle.call_media.specs.declared.end.End.{End}
use Rattle.call_media.specs.Ends.{other}
use Rattle.call_core.specs.declared.action.Action.TheVariants.{Set, Stop}
use Rattle.call_core.specs.declared.action.CallTimer.TheVariants as timers
use Rattle.call_core.specs.Rows.{first_interval, wait_time}
use Rattle.call_core.specs.declared.signal.OfferMethod.TheVariants.{Invite, Update}
use Rattle.call_core.specs.declared.signal.Signal.TheVariants as signals
use Rattle.call_core.specs.declared.stage.Cancelled.{Cancelled}
use Rattle.call_core.specs.Asked.{asked_row}
use Rattle.call_core.specs.Reasked.{reasked_row}
use Rattle.call_core.specs.Settled.{settled_row}
use Rattle.call_core.specs.Updating.{updating_row}
use Rattle.call_messages.specs.declared.scene.Scene.{Scene}
use Rattle.call_trace.specs.declared.call.Call.{Call}
use Rattle.call_trace.specs.declared.call.Offer.{Offer as TraceOffer}
use Rattle.call_trace.specs.declared.call.Session.{Session}
use Rattle.call_trace.specs.declared.call.Settled.{Settled}
use Rattle.call_trace.specs.declared.call.Stage.TheVariants.{Answered, Asked}
use Rattle.call_trace.specs.declared.datagram.Datagram.{Datagram}
use Rattle.call_trace.specs.declared.datagram.Message.{Message}
use Rattle.call_trace.specs.Messages.{invite, is_listed, offering, update}
use Rattle.call_trace.specs.Moves.{Move, reoffered, settled_first, settled_later, tagged}
use Rattle.call_trace.specs.Stands.{leg}
use Rattle.media_laws.specs.Heard.{HearsActions}
use Rattle.media_laws.specs.Said.{Accepts, Asks, OfferHeard, Offers}
use Rattle.media_laws.specs.Scenes.{AreAllRead, AreOwn, AskedLeg, AskerIn, LegIn}
use Rattle.media_laws.specs.Shows.{IsUnanswered}
use Rattle.media_laws.proofs.OfferPairs.AnswerMoves.{settles_by_invite, settles_by_update, settles_first}
use Rattle.media_laws.proofs.OfferPairs.OfferMoves.{asks_again}
use Rattle.media_laws.proofs.Scenes.Reading.{Reading}
use Rattle.media_laws.proofs.OfferPairs.Settling.{invite_answered, invite_offered, update_answered, update_offered}
use Rattle.media_laws.specs.Lines.{actions_in}
use Rattle.media_laws.proofs.OfferPairs.Taking.{sets_none, stops_none}

module _ (r : Reading) (made : ℕ) (t : List Datagram) (own : AreOwn made t) (read : AreAllRead t) (ds : List Call) (k : ℕ) (d : Call) (there : slice_get ds k ≡ Some d) (s : Scene) (tokens : ℕ) (old : made ≤ tokens) (few : tokens + 1 < 2 ^ 64) (p : TraceOffer) (open_is : d.offer ≡ Some p) (z : Session) (came : Message) (accepts : Accepts p z came) (said : option_copied s.description ≡ Some z.answer_sent) (listed : IsTrue (is_listed offering p.came.method)) (taken : p.came.description ≡ Some z.offer_taken) (sent : p.went.description ≡ Some z.offer_sent) where
  -- the first answer
  pub asked_fit : (rung : Bool) (x : End) → d.stage ≡ Asked → AskerIn s d.caller p → IsUnanswered t d.caller.ours p.came.number → LegIn s (other x) (tagged d.callee came.to_tag) → (ms : List Message)
      → HearsActions s tokens (actions_in (asked_row rung x signals.FitAnswer)) ms → Move offering t ds (Some came) ms (slice_set ds k (settled_first d came.to_tag z))
  unfolding asked_row
  asked_fit rung x stage asker none l ms h =
      let a = invite_answered r made t own read s tokens old few d.caller (tagged d.callee came.to_tag) p z asker said listed none (other x) x (Stop timers.Limit ∷ Set timers.Repeat first_interval ∷ Set timers.Wait wait_time ∷ []) ms l
      ((λ count. stops_none s count timers.Limit), ((λ count. sets_none s count timers.Repeat first_interval), ((λ count. sets_none s count timers.Wait wait_time), tt))) h in
      subst (λ l. Move offering t ds (Some came) l (slice_set ds k (settled_first d came.to_tag z))) (sym a.whole)
      (settles_first t ds k d p z came a.acked a.went there stage open_is accepts a.ack a.other a.answer taken sent)

  module _ (y : Settled) (stage : d.stage ≡ Answered y) (asker : AskerIn s (leg d p.by_caller) p) (none : IsUnanswered t (leg d p.by_caller).ours p.came.number) where
    -- a later answer to an INVITE
    pub reasked_fit : (rung : Bool) (cancelled : Cancelled) (x : End) → p.went.method ≡ invite → LegIn s (other x) (leg d (not p.by_caller)) → (ms : List Message)
        → HearsActions s tokens (actions_in (reasked_row rung cancelled x signals.FitAnswer)) ms → Move offering t ds (Some came) ms (slice_set ds k (settled_later d p.by_caller z))
    unfolding reasked_row
    reasked_fit rung cancelled x method l ms h =
        let a = invite_answered r made t own read s tokens old few (leg d p.by_caller) (leg d (not p.by_caller)) p z asker said listed none (other x) x (Stop timers.Limit ∷ Set timers.Repeat first_interval ∷ Set timers.Wait wait_time ∷ []) ms l
        ((λ count. stops_none s count timers.Limit), ((λ count. sets_none s count timers.Repeat first_interval), ((λ count. sets_none s count timers.Wait wait_time), tt))) h in
        subst (λ l. Move offering t ds (Some came) l (slice_set ds k (settled_later d p.by_caller z))) (sym a.whole)
        (settles_by_invite t ds k d y p z came a.acked a.went there stage open_is method accepts a.ack a.other a.answer taken sent)

    -- and to an UPDATE
    pub update_fit : (x : End) → p.went.method ≡ update → (ms : List Message) → HearsActions s tokens (actions_in (updating_row x signals.FitAnswer)) ms
        → Move offering t ds (Some came) ms (slice_set ds k (settled_later d p.by_caller z))
    unfolding updating_row
    update_fit x method ms h =
        let a = update_answered r made t own read s tokens old few (leg d p.by_caller) (leg d (not p.by_caller)) p z asker said listed none x [] ms tt h in
        subst (λ l. Move offering t ds (Some came) l (slice_set ds k (settled_later d p.by_caller z))) (sym a.1)
        (settles_by_update t ds k d y p z came a.0 there stage open_is method accepts a.2 taken sent)

-- ---- an offer inside a call

module _ (made : ℕ) (t : List Datagram) (own : AreOwn made t) (ds : List Call) (k : ℕ) (d : Call) (there : slice_get ds k ≡ Some d) (s : Scene) (tokens : ℕ) (old : made ≤ tokens) (few : tokens + 2 < 2 ^ 64) (y : Settled) (stage : d.stage ≡ Answered y) (none : d.offer ≡ None) (b : Bool) (taken sent : Description) (came : Message) (offers : Offers (leg d b) taken came) (tag : came.to_tag ≡ (leg d b).ours) (said : option_copied s.description ≡ Some sent) where
  -- what is heard of it, as a move
  offer_moves : (name : List ℕ) (ms : List Message) → came.method ≡ name → (h : OfferHeard t (leg d (not b)) name sent ms) → Move offering t ds (Some came) ms (slice_set ds k (reoffered d b came h.went))
  offer_moves name ms method h =
      subst (λ l. Move offering t ds (Some came) l (slice_set ds k (reoffered d b came h.went))) (sym h.whole)
      (asks_again t ds k d y b taken sent came h.before h.went there stage none offers tag (subst (λ v. Asks t (leg d (not b)) v sent h.went) (sym method) h.asks) h.plain)

  pub invite_passed : (x : End) → came.method ≡ invite → AskedLeg s (other x) Invite (leg d (not b)) → (ms : List Message) → HearsActions s tokens (actions_in (settled_row (signals.Offer x Invite))) ms
      → (h : OfferHeard t (leg d (not b)) invite sent ms) × Move offering t ds (Some came) ms (slice_set ds k (reoffered d b came h.went))
  unfolding settled_row
  invite_passed x method l ms h =
      let heard = invite_offered made t own s tokens old few (leg d (not b)) sent said x (other x) ms l h in
      (heard, offer_moves invite ms method heard)

  pub update_passed : (x : End) → came.method ≡ update → AskedLeg s (other x) Update (leg d (not b)) → (ms : List Message) → HearsActions s tokens (actions_in (settled_row (signals.Offer x Update))) ms
      → (h : OfferHeard t (leg d (not b)) update sent ms) × Move offering t ds (Some came) ms (slice_set ds k (reoffered d b came h.went))
  unfolding settled_row
  update_passed x method l ms h =
      let heard = update_offered made t own s tokens old few (leg d (not b)) sent said (other x) ms l h in
      (heard, offer_moves update ms method heard)
