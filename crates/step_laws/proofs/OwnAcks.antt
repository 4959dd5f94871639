-- What the transaction of a request sends for its refusal: the ACK of an INVITE, and nothing of another request (RFC
-- 3261 section 17.1).
use Rattle.std.proofs.Common.{◌≡◌, ◌∙◌, ℕ, Bool, true, false, cond, codes, List, [], ◌∷◌, Option, Some, None, Result, Ok, Err, refl, ap, sym, subst}
use Rattle.std.specs.Prelude.{option_map, unwrap_or}
use Rattle.std.specs.List.{list_all}
use Rattle.std.proofs.lemmas.Bool.{false≢true}
use Rattle.std.proofs.lemmas.Option.{none-some, same_Some}
use Rattle.sip_uri.specs.NameAddr.{name_addr_of}
use Rattle.sip_uri.specs.declared.error.UriError.{UriError}
use Rattle.sip_uri.specs.declared.uri.NameAddr.{NameAddr}
use Rattle.sip_message.specs.Party.{has_fit_tag, party_from, party_of}
use Rattle.sip_message.specs.Read.{message_of}
use Rattle.sip_message.specs.Words.{class_of, tag_text, tag_value, top_branch}
use Rattle.sip_message.specs.declared.message.Message.TheVariants as Kinds
use Rattle.sip_message.specs.declared.message.Request.{Request}
use Rattle.sip_message.specs.declared.message.Response.{Response}
use Rattle.sip_message.specs.declared.via.Via.{Via}
use Rattle.sip_message.specs.declared.words.Class.TheVariants.{Failure}
use Rattle.sip_writing.specs.Requests.{IsEnd}
use Rattle.sip_writing.specs.Writing.{message_text}
use Rattle.transaction_machines.specs.declared.input.Input.TheVariants as inputs
use Rattle.transaction_machines.specs.declared.invite_client.InviteClient.{InviteClient}
use Rattle.transaction_machines.specs.declared.invite_client.InviteClient.TheVariants as invites
use Rattle.transaction_machines.specs.declared.other_client.OtherClient.{OtherClient}
use Rattle.transaction_machines.specs.declared.other_client.OtherClient.TheVariants as others
use Rattle.transaction_machines.specs.declared.state.State.{State}
use Rattle.transaction_machines.specs.declared.state.State.TheVariants as machine
use Rattle.transaction_machines.specs.declared.step.Sending.TheVariants.{Fresh, Nothing}
use Rattle.transaction_machines.specs.declared.step.Step.{Step}
use Rattle.transaction_machines.specs.declared.step.Told.{Told}
use Rattle.transaction_machines.specs.declared.step.Told.TheVariants as tellings
use Rattle.transaction_machines.specs.InviteClient.{invite_client_row}
use Rattle.transaction_machines.specs.Machines.{is_server, row_of}
use Rattle.transaction_machines.specs.OtherClient.{other_client_row}
use Rattle.transactions.specs.Contents.{Contents as Table, ack_at, ack_by, ack_for, reception_at, reception_by, reception_of, response_input, response_reception, upward}
use Rattle.transactions.specs.SameBranch.{ack_of, ack_to, ack_with}
use Rattle.transactions.specs.Slots.{at}
use Rattle.transactions.specs.Transactions.{outgoing, sent}
use Rattle.transactions.specs.declared.outcome.Outgoing.{Outgoing}
use Rattle.transactions.specs.declared.outcome.Verdict.{Verdict}
use Rattle.transactions.specs.declared.outcome.Verdict.TheVariants as verdicts
use Rattle.transactions.specs.declared.transaction.Transaction.{Transaction}
use Rattle.call_trace.specs.declared.datagram.Message.{Message}
use Rattle.plans.specs.Plan.{goes}
use Rattle.event_rows.specs.State.{Contents, office}
use Rattle.message_laws.specs.Comings.{KnowsScenes}
use Rattle.message_laws.specs.Messages.{AreMessages, IsMessage}
use Rattle.message_laws.specs.Seeing.{SeesLike}
use Rattle.message_laws.specs.Tokens.{IsOwn, IsOwnIf, IsOwnRequest}
use Rattle.message_laws.proofs.Messages.ReadParts.{IsTokenIf, IsTokenRun, party_tag}
use Rattle.message_laws.proofs.QuietEvents.SeenMessages.{refused_sees}
use Rattle.message_laws.proofs.StandingCalls.ClientSlots.{client_at}
use Rattle.message_laws.proofs.StandingCalls.Reading.{Reading as ReadsNames}
use Rattle.message_laws.proofs.StandingCalls.Texts.{all_of_run}
use Rattle.message_laws.proofs.TokenUse.Grounds.{read_repeats}
use Rattle.message_laws.proofs.TokenUse.Rows.{answered_client}
use Rattle.message_laws.proofs.TokenUse.WrittenRequests.{refusal_ack_stands}
use Rattle.message_laws.proofs.Traces.Receptions.{slot_at}
use Rattle.media_laws.proofs.Scenes.Reading.{Reading, message_is}
use Rattle.step_laws.specs.Refusals.{acks_of, own_acks}
use Rattle.step_laws.specs.Sending.{AcksRefusal, AllGo, Goes, Going, acks}
use Rattle.step_laws.proofs.GoingUp.{answered_up, place_up}

-- ---- the lines of the machines

-- what a refusal has the transaction say, where it goes up
abbrev LineAcks : State → Option Step → Type 0
LineAcks state None = Unit {0}
LineAcks (machine.InviteClient x) (Some step) = step.told ≡ tellings.Up → step.send ≡ Fresh
LineAcks (machine.InviteServer x) (Some step) = Unit {0}
LineAcks (machine.OtherClient x) (Some step) = step.send ≡ Nothing
LineAcks (machine.OtherServer x) (Some step) = Unit {0}

invite_acks : (x : InviteClient) → LineAcks (machine.InviteClient x) (invite_client_row x (inputs.Response Failure))
unfolding invite_client_row
invite_acks (invites.Calling interval abandoned) = λ up. refl
invite_acks invites.Proceeding = λ up. refl
invite_acks invites.Completed = λ up. absurd cc
invite_acks invites.Accepted = tt

other_quiet : (x : OtherClient) → LineAcks (machine.OtherClient x) (other_client_row x (inputs.Response Failure))
unfolding other_client_row
other_quiet (others.Trying interval) = refl
other_quiet others.Proceeding = refl
other_quiet others.Completed = tt

machine_acks : (state : State) → is_server state ≡ false → LineAcks state (row_of state (inputs.Response Failure))
unfolding row_of
machine_acks (machine.InviteClient x) client = invite_acks x
machine_acks (machine.InviteServer x) client = absurd (false≢true (sym client))
machine_acks (machine.OtherClient x) client = other_quiet x
machine_acks (machine.OtherServer x) client = absurd (false≢true (sym client))

-- ---- the transaction

module _ (r : Response) where
  abbrev written : Transaction → Option (List ℕ)
  written t = option_map (λ (ack : Request). message_text (Kinds.Request ack)) (ack_of t.uri t.parts r.parts)

  abbrev SendsAck : State → Transaction → Option Outgoing → Type 0
  SendsAck (machine.InviteClient x) t send = send ≡ option_map (outgoing t.place) (written t)
  SendsAck (machine.InviteServer x) t send = ⊥
  SendsAck (machine.OtherClient x) t send = send ≡ None
  SendsAck (machine.OtherServer x) t send = ⊥

  state_sends : (state : State) (t : Transaction) (step : Step) → is_server state ≡ false → step.told ≡ tellings.Up → LineAcks state (Some step) → SendsAck state t (sent t (ack_for t r step.send) step.send)
  state_sends (machine.InviteClient x) t step client up line = ap (λ k. sent t (ack_for t r k) k) (line up)
  state_sends (machine.InviteServer x) t step client up line = absurd (false≢true (sym client))
  state_sends (machine.OtherClient x) t step client up line = ap (λ k. sent t (ack_for t r k) k) line
  state_sends (machine.OtherServer x) t step client up line = absurd (false≢true (sym client))

  abbrev UpSends : Transaction → Verdict → Option Outgoing → Type 0
  UpSends t (verdicts.New id) send = Unit {0}
  UpSends t verdicts.Repeat send = Unit {0}
  UpSends t verdicts.Swallowed send = Unit {0}
  UpSends t (verdicts.Up id) send = SendsAck t.state t send
  UpSends t verdicts.Stray send = Unit {0}

  told_sends : (id : ℕ) (t : Transaction) (send : Option Outgoing) (told : Told) → (told ≡ tellings.Up → SendsAck t.state t send) → UpSends t (upward id told verdicts.Swallowed) send
  told_sends id t send tellings.Up h = h refl
  told_sends id t send tellings.Silent h = tt
  told_sends id t send tellings.TimedOut h = tt
  told_sends id t send tellings.Ended h = tt

  step_sends : (id : ℕ) (t : Transaction) (step : Option Step) → is_server t.state ≡ false → LineAcks t.state step
      → UpSends t (reception_by id t (response_input r) (ack_by t r step) step).verdict (reception_by id t (response_input r) (ack_by t r step) step).send
  step_sends id t None client line = tt
  step_sends id t (Some step) client line = told_sends id t (sent t (ack_for t r step.send) step.send) step.told (λ up. state_sends t.state t step client up line)

  at_sends : (id : ℕ) (t : Transaction) → class_of r.status ≡ Failure → is_server t.state ≡ false
      → UpSends t (reception_at id (Some t) (response_input r) (ack_at (Some t) r)).verdict (reception_at id (Some t) (response_input r) (ack_at (Some t) r)).send
  at_sends id t class client =
      step_sends id t (row_of t.state (response_input r)) client (subst (λ kind. LineAcks t.state (row_of t.state (inputs.Response kind))) (sym class) (machine_acks t.state client))

  module _ (table : Table) (id : ℕ) (t : Transaction) (there : at table.slots id ≡ Some t) (class : class_of r.status ≡ Failure) (client : is_server t.state ≡ false) where
    in_sends : UpSends t (response_reception table r (Some id)).verdict (response_reception table r (Some id)).send
    in_sends = subst (λ o. UpSends t (reception_at id o (response_input r) (ack_at o r)).verdict (reception_at id o (response_input r) (ack_at o r)).send) (sym there) (at_sends id t class client)

    up_sends : (reception_of table (Kinds.Response r)).verdict ≡ verdicts.Up id → SendsAck t.state t (reception_of table (Kinds.Response r)).send
    unfolding reception_of
    up_sends up =
        subst (λ v. UpSends t v (reception_of table (Kinds.Response r)).send) up
        (subst (λ o. UpSends t (response_reception table r o).verdict (response_reception table r o).send) (sym (place_up table r id up)) in_sends)

-- ---- the ACK is read again

name_by : (n name : NameAddr) (b : Bool) → cond b (Some n) None ≡ Some name → n ≡ name
name_by n name true e = same_Some n name e
name_by n name false e = absurd (none-some name e)

name_from : (r : Result NameAddr UriError) (name : NameAddr) → party_from r ≡ Some name → r ≡ Ok name
name_from (Err fault) name e = absurd (none-some name e)
name_from (Ok n) name e = ap Ok (name_by n name (has_fit_tag n.params) e)

name_of : (text : List ℕ) (name : NameAddr) → party_of text ≡ Some name → name_addr_of text ≡ Ok name
unfolding party_of
name_of text name e = name_from (name_addr_of text) name e

tag_all : (p : ℕ → Bool) → ((text : List ℕ) → IsTokenRun text → list_all p text ≡ true) → (tag : Option (List ℕ)) → IsTokenIf tag → list_all p (unwrap_or tag []) ≡ true
tag_all p each None h = refl
tag_all p each (Some text) h = each text h

answered_end : ReadsNames → (text : List ℕ) (r : Response) → message_of text ≡ Ok (Kinds.Response r) → IsEnd (ack_to r.parts.to)
answered_end reading text r read =
    let repeats = read_repeats text (Kinds.Response r) read in
    record {
      read = record { text = r.parts.to_text; params = r.parts.to.params; reads = reading.name r.parts.to_text r.parts.to (name_of r.parts.to_text r.parts.to repeats.to); clean = repeats.to_value.clean };
      tag = tag_text r.parts.to.params;
      token = tag_all _ (λ tag h. all_of_run _ tag h) (tag_value r.parts.to.params) (party_tag r.parts.to_text r.parts.to repeats.to);
      tagged = refl;
    }

-- ---- what goes

one_goes : (g : Going) (out : Outgoing) (ms : List Message) → ((m : Message) → IsMessage out.bytes m → Goes g out.to m) → AreMessages (goes (Some out)) ms → AllGo (g ∷ []) (goes (Some out)) ms
one_goes g out [] each are = absurd are
one_goes g out (m ∷ []) each are = (each m are.0, (refl, refl))
one_goes g out (m ∷ n ∷ ms) each are = absurd are.1

nothing_goes : (ms : List Message) → AreMessages [] ms → AllGo [] [] ms
nothing_goes [] are = (refl, refl)
nothing_goes (m ∷ ms) are = absurd are

ack_named : (t : Transaction) (r : Response) (vias : List Via) (branch : List ℕ) → top_branch vias ≡ Some branch → (ack : Request) × (ack_with t.uri t.parts r.parts vias ≡ Some ack)
ack_named t r [] branch has = absurd cc
ack_named t r (via ∷ vias) branch has = (_, refl)

module _ (reads : Reading) (names : ReadsNames) (s : Contents) (scenes : KnowsScenes (office s)) (text : List ℕ) (r : Response) (read : message_of text ≡ Ok (Kinds.Response r)) (id : ℕ) (t : Transaction) (there : at s.table.slots id ≡ Some t) where
  own : is_server t.state ≡ false → IsOwnRequest s.tokens t.parts
  own client = let is_own : IsOwn s.tokens t = slot_at (IsOwnIf s.tokens) s.table.slots id t scenes.tokens.slots there in is_own client

  ack_goes : is_server t.state ≡ false → (ack : Request) → ack_of t.uri t.parts r.parts ≡ Some ack → (m : Message) → IsMessage (message_text (Kinds.Request ack)) m → AcksRefusal t r.parts t.place m
  ack_goes client ack is m said =
      let sound = client_at s.table.slots id t scenes.clients.slots there client in
      let bytes = message_text (Kinds.Request ack) in
      record {
        address = refl;
        like = subst (SeesLike t.parts r.parts.to (codes "ACK"))
            (sym (message_is reads bytes m (Kinds.Request ack) said refl (refusal_ack_stands t.uri t.parts r.parts ack sound.values sound.via (answered_end names text r read) is)))
            (refused_sees bytes t.uri t.parts r.parts ack is);
      }

  state_goes : (state : State) → is_server t.state ≡ false → (send : Option Outgoing) → SendsAck r state t send → (ms : List Message) → AreMessages (goes send) ms → AllGo (acks_of state t r.parts) (goes send) ms
  state_goes (machine.InviteClient x) client send is ms are =
      let made = ack_named t r t.parts.vias _ (own client).branch.said in
      let out = outgoing t.place (message_text (Kinds.Request made.0)) in
      let same : send ≡ Some out = is ∙ ap (λ (o : Option Request). option_map (outgoing t.place) (option_map (λ (ack : Request). message_text (Kinds.Request ack)) o)) made.1 in
      subst (λ o. AllGo (acks_of (machine.InviteClient x) t r.parts) (goes o) ms) (sym same)
      (one_goes (acks t r.parts) out ms (ack_goes client made.0 made.1) (subst (λ o. AreMessages (goes o) ms) same are))
  state_goes (machine.InviteServer x) client send is ms are = absurd is
  state_goes (machine.OtherClient x) client send is ms are = subst (λ o. AllGo [] (goes o) ms) (sym is) (nothing_goes ms (subst (λ o. AreMessages (goes o) ms) is are))
  state_goes (machine.OtherServer x) client send is ms are = absurd is

  -- of a refusal that goes up
  pub own_acks_go : class_of r.status ≡ Failure → (reception_of s.table (Kinds.Response r)).verdict ≡ verdicts.Up id → (ms : List Message) → AreMessages (goes (reception_of s.table (Kinds.Response r)).send) ms
      → AllGo (own_acks t r) (goes (reception_of s.table (Kinds.Response r)).send) ms
  own_acks_go class up =
      let client = answered_client r.parts t (answered_up s.table r id t up there) in
      state_goes t.state client (reception_of s.table (Kinds.Response r)).send (up_sends r s.table id t there class client up)
