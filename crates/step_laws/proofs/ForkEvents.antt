-- The event of a 2xx that no call takes: what its step sends.
use Rattle.std.proofs.Common.{◌≡◌, ◌∙◌, ℕ, Bool, true, false, cond, nat_lt, nat_le, is_some, List, [], ◌∷◌, Option, Some, None, refl, ap, sym, subst, arith}
use Rattle.std.proofs.lemmas.Bool.{and_parts, leb-true, ltb-false, ltb-true, or_left}
use Rattle.sip_uri.specs.Address.{address_of}
use Rattle.sip_uri.specs.declared.uri.Addr.{Addr}
use Rattle.sip_uri.specs.declared.uri.Uri.{Uri}
use Rattle.sip_message.specs.Contact.{contacts_of, is_success}
use Rattle.sip_message.specs.Words.{class_of}
use Rattle.sip_message.specs.declared.message.Message.TheVariants as Kinds
use Rattle.sip_message.specs.declared.message.Response.{Response}
use Rattle.sip_message.specs.declared.words.Class.TheVariants.{Failure, Provisional, Success}
use Rattle.dialogs.specs.Counting.{max_for, last_number}
use Rattle.dialogs.specs.Making.{callers_dialog, reached_at}
use Rattle.dialogs.specs.declared.method.Method.TheVariants as methods
use Rattle.dialogs.specs.declared.state.Dialog.{Dialog}
use Rattle.transaction_machines.specs.Machines.{is_server}
use Rattle.transactions.specs.Changes.{change_of}
use Rattle.transactions.specs.Contents.{reception_of}
use Rattle.transactions.specs.declared.change.Entry.{Entry}
use Rattle.transactions.specs.declared.transaction.Transaction.{Transaction}
use Rattle.events.specs.declared.event.Event.{Event}
use Rattle.call_media.specs.declared.end.End.TheVariants.{Callee}
use Rattle.call_core.specs.declared.action.Action.TheVariants.{Ack, Bye}
use Rattle.call_messages.specs.declared.scene.Scene.{Scene}
use Rattle.call_rules.specs.Speaking.{is_acknowledged, is_invite, is_update, may_offer}
use Rattle.call_rules.specs.declared.responses.ResponseRule.TheVariants as rule
use Rattle.call_steps.specs.Messages.{messages}
use Rattle.call_steps.specs.Rows.{fork_by, fork_row, late_by, late_row, later_dialog}
use Rattle.call_steps.specs.Scenes.{fork_scene}
use Rattle.call_steps.specs.Values.{lent_scene}
use Rattle.call_trace.specs.declared.datagram.Datagram.{Datagram}
use Rattle.call_trace.specs.declared.datagram.Message.{Message}
use Rattle.plans.specs.CallRows.{occasion, responds_by}
use Rattle.plans.specs.declared.setting.Setting.{Setting}
use Rattle.event_rows.specs.Rows.{row}
use Rattle.event_rows.specs.State.{Contents, office}
use Rattle.message_laws.specs.Comings.{KnowsScenes}
use Rattle.message_laws.specs.Messages.{AreMessages}
use Rattle.message_laws.specs.Sound.{IsTargetIf}
use Rattle.message_laws.specs.SoundScenes.{CanAskIn, IsSoundScene}
use Rattle.message_laws.proofs.StandingCalls.ClientSteps.{fork_scene_asks}
use Rattle.message_laws.proofs.Traces.Comings.{forked_can, later_can}
use Rattle.message_laws.proofs.QuietEvents.Describing.{BodiesDescribe}
use Rattle.message_laws.proofs.TokenUse.Events.{few_tokens}
use Rattle.message_laws.proofs.StandingCalls.Reaching.{response_may_offer, response_reached}
use Rattle.message_laws.proofs.StandingCalls.Reading.{Reading as ReadsNames, reached_target}
use Rattle.message_laws.proofs.TokenUse.Rows.{answered_client}
use Rattle.message_laws.proofs.Messages.SaidActions.{action_said}
use Rattle.media_laws.specs.Standing.{AgentStands}
use Rattle.media_laws.proofs.Scenes.HeardActions.{hears_actions}
use Rattle.media_laws.proofs.Scenes.Reading.{Reading}
use Rattle.media_laws.proofs.LateResponses.RuleReasons.{ack_reason, fork_reason}
use Rattle.media_laws.proofs.Scenes.Silence.{success_silent}
use Rattle.step_laws.specs.Answers.{acknowledges}
use Rattle.step_laws.specs.Coming.{GoesUp}
use Rattle.step_laws.specs.Forks.{IsLeftOver}
use Rattle.step_laws.specs.Leaving.{bye}
use Rattle.step_laws.specs.Sending.{AllGo, Going, Sends}
use Rattle.step_laws.proofs.ComingRows.{setting_of, up_row}
use Rattle.step_laws.proofs.GoingUp.{answered_up}
use Rattle.step_laws.proofs.Known.{scenes_known}
use Rattle.step_laws.proofs.StepSends.{row_sends}
use Rattle.step_laws.proofs.Telling.{Tells, tells_nothing, then_ack, then_bye}

-- ---- a 2xx to an INVITE

success_by : (status : ℕ) (low high : Bool) → nat_lt status 200 ≡ low → nat_lt status 300 ≡ high → is_success status ≡ true → cond low Provisional (cond high Success Failure) ≡ Success
success_by status true high l h is =
    let least = leb-true 200 status (and_parts (nat_le 200 status) (nat_le status 299) is).0 in
    let below = ltb-true status 200 l in
    absurd (omega (arith, least, below))
success_by status false true l h is = refl
success_by status false false l h is =
    let most = leb-true status 299 (and_parts (nat_le 200 status) (nat_le status 299) is).1 in
    let above = ltb-false status 300 h in
    absurd (omega (arith, most, above))

module _ (reads : Reading) (names : ReadsNames) (describes : BodiesDescribe) (s : Contents) (event : Event) (t : List Datagram) (k : ℕ) (stands : AgentStands s t k) (source : Addr) (bytes : List ℕ) (r : Response) (id : ℕ) (asked : Transaction) (up : GoesUp s event source bytes r id asked) (target : Uri) where
  scenes : KnowsScenes (office s)
  scenes = scenes_known (office s) stands.0 stands.1 t stands.2.1.known (few_tokens s event up.comes.counts)

  abbrev e : Setting
  e = setting_of s event source

  abbrev begins : List Entry
  begins = change_of s.table (Kinds.Response r) source ∷ []

  client : is_server asked.state ≡ false
  client = answered_client r.parts asked (answered_up s.table r id asked up.up up.stands)

  -- ---- what is said in a dialog that no call has

  module _ (d : Dialog) (can : CanAskIn d) where
    abbrev scene : Scene
    scene = lent_scene (fork_scene (occasion (office s) e) d)

    sound : IsSoundScene scene false
    sound = record {
      asks = fork_scene_asks (occasion (office s) e) d scenes.clients.server can;
      hops = omega arith;
      offer = λ h. tt;
      request = tt;
      reads = tt;
      short = tt;
    }

    ack_bye_sends : (what : List Going) → Tells scene (Ack Callee ∷ Bye Callee ∷ []) what → (ms : List Message) → AreMessages (messages (fork_scene (occasion (office s) e) d) None (Ack Callee ∷ Bye Callee ∷ [])).dressed.sends ms
        → AllGo what (messages (fork_scene (occasion (office s) e) d) None (Ack Callee ∷ Bye Callee ∷ [])).dressed.sends ms
    unfolding messages
    ack_bye_sends what tells ms are =
        tells.each s.tokens ms
        (hears_actions reads scene s.tokens (Ack Callee ∷ Bye Callee ∷ []) ms ((λ count. action_said describes scene count (Ack Callee) sound tt), ((λ count. action_said describes scene count (Bye Callee) sound tt), tt)) are)

    ack_sends : (what : List Going) → Tells scene (Ack Callee ∷ []) what → (ms : List Message) → AreMessages (messages (fork_scene (occasion (office s) e) d) None (Ack Callee ∷ [])).dressed.sends ms
        → AllGo what (messages (fork_scene (occasion (office s) e) d) None (Ack Callee ∷ [])).dressed.sends ms
    unfolding messages
    ack_sends what tells ms are =
        tells.each s.tokens ms (hears_actions reads scene s.tokens (Ack Callee ∷ []) ms ((λ count. action_said describes scene count (Ack Callee) sound tt), tt) are)

  -- ---- it is one to an INVITE

  module _ (accepts : is_acknowledged asked.parts r ≡ true) where
    class : class_of r.status ≡ Success
    class = success_by r.status (nat_lt r.status 200) (nat_lt r.status 300) refl refl (and_parts _ _ accepts).1

    offers : may_offer asked.parts ≡ true
    offers = or_left (is_invite asked.parts) (is_update asked.parts) (and_parts _ _ accepts).0

    leads : reached_at (contacts_of r.headers) ≡ Some target → is_some (address_of target) ≡ true
    leads is =
        (subst IsTargetIf is (reached_target names r.parts r.headers (response_may_offer r.parts asked (answered_up s.table r id asked up.up up.stands) offers) (response_reached r up.reached class))).leads

    silent : (reception_of s.table (Kinds.Response r)).send ≡ None
    silent = success_silent s.table r class

  -- ---- the 2xx of a fork, or to the first INVITE of a call that is gone

  pub fork_ends : IsLeftOver s asked r rule.Fork target → Sends (acknowledges (callers_dialog asked.parts r target) ∷ bye (callers_dialog asked.parts r target) ∷ []) (row s event)
  unfolding fork_row
  fork_ends h =
      let why = fork_reason s.calls.calls asked.parts r h.rule_is in
      let d = callers_dialog asked.parts r target in
      let can = forked_can names (office s) bytes r id asked target scenes up.comes.read up.stands client h.reached in
      let there = leads why.accepts h.reached in
      let numbered : nat_lt (last_number d) (max_for methods.Bye) ≡ true = ap (λ n. nat_lt n (max_for methods.Bye)) why.first in
      let what = acknowledges d ∷ bye d ∷ [] in
      let o = occasion (office s) e in
      row_sends (row s event) s.acks begins (reception_of s.table (Kinds.Response r)).send None (fork_row s.calls o asked.parts r) what
      (up_row s event source bytes r id asked up ∙ ap (responds_by (office s) e r begins (reception_of s.table (Kinds.Response r)).send id asked) h.rule_is) (silent why.accepts)
      (subst (λ (to : Option Uri). (ms : List Message) → AreMessages (fork_by s.calls o asked.parts r to).dressed.sends ms → AllGo what (fork_by s.calls o asked.parts r to).dressed.sends ms) (sym h.reached)
      (ack_bye_sends d can what (then_ack (scene d can) Callee d refl there (then_bye (scene d can) Callee d refl there numbered (tells_nothing (scene d can))))))

  -- ---- one to a later INVITE of a call that is gone

  pub late_ends : IsLeftOver s asked r rule.AckAlone target → Sends (acknowledges (later_dialog asked.parts r target) ∷ []) (row s event)
  unfolding late_row
  late_ends h =
      let why = ack_reason s.calls.calls asked.parts r h.rule_is in
      let d = later_dialog asked.parts r target in
      let can = later_can names (office s) bytes r id asked target scenes up.comes.read up.stands client h.reached in
      let there = leads why.accepts h.reached in
      let what = acknowledges d ∷ [] in
      let o = occasion (office s) e in
      row_sends (row s event) s.acks begins (reception_of s.table (Kinds.Response r)).send None (late_row s.calls o asked.parts r) what
      (up_row s event source bytes r id asked up ∙ ap (responds_by (office s) e r begins (reception_of s.table (Kinds.Response r)).send id asked) h.rule_is) (silent why.accepts)
      (subst (λ (to : Option Uri). (ms : List Message) → AreMessages (late_by s.calls o asked.parts r to).dressed.sends ms → AllGo what (late_by s.calls o asked.parts r to).dressed.sends ms) (sym h.reached)
      (ack_sends d can what (then_ack (scene d can) Callee d refl there (tells_nothing (scene d can)))))
