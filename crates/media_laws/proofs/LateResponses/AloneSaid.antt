-- What is said in the dialog of a 2xx that no call takes: an ACK, and a BYE after it (RFC 3261 section 13.2.2.4).
use Rattle.std.proofs.Common.{◌≡◌, ◌∙◌, ℕ, ◌+◌, nat_le, nat_lt, Bool, true, false, cond, List, [], ◌∷◌, is_some, Option, Some, None, position, refl, ap, sym, subst, le-ltb, leb-true, lt-ltb, arith}
use Rattle.std.proofs.lemmas.Bool.{and_parts, false≢true}
use Rattle.std.proofs.lemmas.List.Quantifiers.{position-Some}
use Rattle.sip_uri.specs.Address.{address_of}
use Rattle.sip_message.specs.Contact.{is_success}
use Rattle.sip_message.specs.declared.message.Message.TheVariants as Kinds
use Rattle.sip_message.specs.declared.message.Response.{Response}
use Rattle.sip_message.specs.declared.words.Class.TheVariants.{Failure, Provisional, Success}
use Rattle.sip_message.specs.Words.{class_of}
use Rattle.dialogs.specs.Counting.{max_for, last_number}
use Rattle.dialogs.specs.declared.method.Method.TheVariants as methods
use Rattle.dialogs.specs.declared.state.Dialog.{Dialog as LegDialog}
use Rattle.transaction_machines.specs.declared.input.Input.TheVariants as inputs
use Rattle.transaction_machines.specs.declared.invite_client.InviteClient.TheVariants as invites
use Rattle.transaction_machines.specs.declared.other_client.OtherClient.TheVariants as others
use Rattle.transaction_machines.specs.declared.state.State.{State}
use Rattle.transaction_machines.specs.declared.state.State.TheVariants as machine
use Rattle.transaction_machines.specs.declared.step.Sending.TheVariants.{Nothing}
use Rattle.transaction_machines.specs.declared.step.Step.{Step}
use Rattle.transaction_machines.specs.InviteClient.{invite_client_row}
use Rattle.transaction_machines.specs.Machines.{is_server, row_of}
use Rattle.transaction_machines.specs.OtherClient.{other_client_row}
use Rattle.transactions.specs.Contents.{Contents, ack_at, reception_at, reception_by, reception_of, response_input, response_reception}
use Rattle.transactions.specs.Slots.{at, is_answered}
use Rattle.transactions.specs.Transactions.{sent}
use Rattle.transactions.specs.declared.transaction.Transaction.{Transaction}
use Rattle.call_media.specs.declared.end.End.TheVariants.{Callee}
use Rattle.call_core.specs.declared.action.Action.TheVariants.{Ack, Bye}
use Rattle.call_steps.specs.Messages.{messages}
use Rattle.call_steps.specs.Scenes.{fork_scene}
use Rattle.call_steps.specs.Values.{lent_scene}
use Rattle.call_messages.specs.Dressing.{branch, dress_one}
use Rattle.call_messages.specs.declared.scene.Scene.{Scene}
use Rattle.call_trace.specs.declared.datagram.Message.{Message}
use Rattle.trace_reading.specs.Message.{dialog_named}
use Rattle.plans.specs.CallRows.{occasion}
use Rattle.plans.specs.Office.{Office}
use Rattle.plans.specs.declared.setting.Setting.{Setting}
use Rattle.message_laws.proofs.QuietEvents.Describing.{BodiesDescribe}
use Rattle.message_laws.proofs.TokenUse.Rows.{answered_client}
use Rattle.message_laws.specs.Comings.{KnowsScenes}
use Rattle.message_laws.specs.SoundScenes.{CanAskIn, IsSoundScene}
use Rattle.message_laws.proofs.Messages.SaidActions.{action_said}
use Rattle.message_laws.specs.Messages.{AreMessages}
use Rattle.media_laws.specs.Heard.{HearsActions}
use Rattle.media_laws.specs.Said.{AcksIn, Leaves}
use Rattle.media_laws.specs.Scenes.{LegIn}
use Rattle.media_laws.proofs.Scenes.HeardActions.{hears_actions}
use Rattle.media_laws.proofs.OfferPairs.SaidActions.{acks_of, leaves_of}
use Rattle.media_laws.proofs.Scenes.Reading.{Reading}
use Rattle.media_laws.proofs.OfferPairs.Taking.{ack_one, bye_one, take_one}

-- ---- for a 2xx the transaction sends nothing

abbrev SendsNone : Option Step → Type 0
SendsNone None = Unit {0}
SendsNone (Some step) = step.send ≡ Nothing

none_invite : (state : _) → SendsNone (invite_client_row state (inputs.Response Success))
unfolding invite_client_row
none_invite (invites.Calling interval abandoned) = refl
none_invite invites.Proceeding = refl
none_invite invites.Completed = tt
none_invite invites.Accepted = refl

none_other : (state : _) → SendsNone (other_client_row state (inputs.Response Success))
unfolding other_client_row
none_other (others.Trying interval) = refl
none_other others.Proceeding = refl
none_other others.Completed = tt

none_machine : (state : State) → is_server state ≡ false → SendsNone (row_of state (inputs.Response Success))
unfolding row_of
none_machine (machine.InviteClient state) client = none_invite state
none_machine (machine.InviteServer state) client = absurd (false≢true (sym client))
none_machine (machine.OtherClient state) client = none_other state
none_machine (machine.OtherServer state) client = absurd (false≢true (sym client))

none_step : (x : Transaction) (id : ℕ) (r : Response) (fresh : Option (List ℕ)) (step : Option Step) → SendsNone step → (reception_by id x (response_input r) fresh step).send ≡ None
none_step x id r fresh None h = refl
none_step x id r fresh (Some step) h = ap (sent x fresh) h

success_by : (low high : Bool) → low ≡ false → high ≡ true → cond low Provisional (cond high Success Failure) ≡ Success
success_by true high l h = absurd (false≢true (sym l))
success_by false true l h = refl
success_by false false l h = absurd (false≢true h)

pub success_class : (status : ℕ) → is_success status ≡ true → class_of status ≡ Success
success_class status e =
    let both = and_parts (nat_le 200 status) (nat_le status 299) e in
    let low = leb-true 200 status both.0 in
    let high = leb-true status 299 both.1 in
    success_by (nat_lt status 200) (nat_lt status 300) (le-ltb status 200 low) (lt-ltb status 300 (omega (arith, high)))

none_at : (r : Response) (id : ℕ) (o : Option Transaction) → is_success r.status ≡ true → is_answered r.parts o ≡ true → (reception_at id o (response_input r) (ack_at o r)).send ≡ None
none_at r id None success answers = refl
none_at r id (Some x) success answers =
    none_step x id r (ack_at (Some x) r) (row_of x.state (response_input r))
    (subst (λ class. SendsNone (row_of x.state (inputs.Response class))) (sym (success_class r.status success)) (none_machine x.state (answered_client r.parts x answers)))

none_in : (table : Contents) (r : Response) (id : Option ℕ) → is_success r.status ≡ true → position (is_answered r.parts) table.slots ≡ id → (response_reception table r id).send ≡ None
none_in table r None success found = refl
none_in table r (Some id) success found = none_at r id (at table.slots id) success (position-Some (is_answered r.parts) table.slots id None found).1

pub success_none : (table : Contents) (r : Response) → is_success r.status ≡ true → (reception_of table (Kinds.Response r)).send ≡ None
unfolding reception_of
success_none table r success = none_in table r (position (is_answered r.parts) table.slots) success refl

-- two messages, and none after them
two_whole : (ms rest more : List Message) (a b : Message) → ms ≡ a ∷ rest → rest ≡ b ∷ more → more ≡ [] → ms ≡ a ∷ b ∷ []
two_whole ms rest more a b e f g = e ∙ ap (λ l. a ∷ l) (f ∙ ap (λ l. b ∷ l) g)

-- ---- the scene

module _ (reads : Reading) (describes : BodiesDescribe) (s : Office) (e : Setting) (leg : LegDialog) (k : KnowsScenes s) (can : CanAskIn leg) (leads : is_some (address_of leg.target) ≡ true) where
  abbrev alone : Scene
  alone = lent_scene (fork_scene (occasion s e) leg)

  sound : (answers : Bool) → IsSoundScene alone answers
  sound answers = record {
    asks = record { server = k.clients.server; caller = tt; callee = can; passed = tt };
    hops = omega arith;
    offer = λ h. tt;
    request = tt;
    reads = tt;
    short = tt;
  }

  -- an ACK alone
  pub record AckSaid (ms : List Message) : Type 0 where
    pub ack : Message
    pub whole : ms ≡ ack ∷ []
    pub acks : AcksIn (dialog_named leg.id) ack

  ack_hears : (ms : List Message) → AreMessages (messages (fork_scene (occasion s e) leg) None (Ack Callee ∷ [])).dressed.sends ms → HearsActions alone s.tokens (Ack Callee ∷ []) ms
  unfolding messages
  ack_hears ms are = hears_actions reads alone s.tokens (Ack Callee ∷ []) ms ((λ n. action_said describes alone n (Ack Callee) (sound false) tt), tt) are

  pub ack_said : (ms : List Message) → AreMessages (messages (fork_scene (occasion s e) leg) None (Ack Callee ∷ [])).dressed.sends ms → AckSaid ms
  ack_said ms are =
      let one = ack_one alone s.tokens Callee leg refl leads in
      let first = take_one alone s.tokens (Ack Callee) [] ms one.0 one.1 (ack_hears ms are) in
      record { ack = first.message; whole = first.whole ∙ ap (λ l. first.message ∷ l) first.more; acks = record { leg = leg; token = branch alone s.tokens; number = last_number leg; seen = first.heard; in_leg = refl } }

  -- where a number is left for a BYE
  module _ (numbered : nat_lt (last_number leg) (max_for methods.Bye) ≡ true) where
    in_leg : LegIn alone Callee (dialog_named leg.id)
    in_leg = record { leg = leg; has = refl; is = refl; leads = leads; numbered = numbered }

    -- the ACK, and the BYE after it
    pub record ForkSaid (ms : List Message) : Type 0 where
      pub ack : Message
      pub bye : Message
      pub whole : ms ≡ ack ∷ bye ∷ []
      pub acks : AcksIn (dialog_named leg.id) ack
      pub leaves : Leaves (dialog_named leg.id) bye

    fork_hears : (ms : List Message) → AreMessages (messages (fork_scene (occasion s e) leg) None (Ack Callee ∷ Bye Callee ∷ [])).dressed.sends ms → HearsActions alone s.tokens (Ack Callee ∷ Bye Callee ∷ []) ms
    unfolding messages
    fork_hears ms are =
        hears_actions reads alone s.tokens (Ack Callee ∷ Bye Callee ∷ []) ms
        ((λ n. action_said describes alone n (Ack Callee) (sound false) tt), ((λ n. action_said describes alone n (Bye Callee) (sound false) tt), tt)) are

    pub fork_said : (ms : List Message) → AreMessages (messages (fork_scene (occasion s e) leg) None (Ack Callee ∷ Bye Callee ∷ [])).dressed.sends ms → ForkSaid ms
    fork_said ms are =
        let one = ack_one alone s.tokens Callee leg refl leads in
        let first = take_one alone s.tokens (Ack Callee) (Bye Callee ∷ []) ms one.0 one.1 (fork_hears ms are) in
        let tokens = s.tokens + (dress_one alone s.tokens (Ack Callee)).made in
        let two = bye_one alone tokens Callee leg refl numbered leads in
        let then = take_one alone tokens (Bye Callee) [] first.rest two.0 two.1 first.more in
        record {
          ack = first.message;
          bye = then.message;
          whole = two_whole ms first.rest then.rest first.message then.message first.whole then.whole then.more;
          acks = acks_of alone Callee (dialog_named leg.id) in_leg s.tokens first.message first.heard;
          leaves = leaves_of alone Callee (dialog_named leg.id) in_leg tokens then.message then.heard;
        }
