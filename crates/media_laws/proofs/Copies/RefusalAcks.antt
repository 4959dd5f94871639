-- The ACK to a refusal moves no call: it has the branch of an INVITE of the server's own (RFC 3261 section 17.1.1.3).
use Rattle.std.proofs.Common.{◌≡◌, ◌∙◌, ℕ, Bool, true, false, cond, ◌&&◌, List, [], Option, Some, None, Result, Ok, Err, refl, sym, subst}
use Rattle.std.specs.Prelude.{IsTrue, unwrap_or}
use Rattle.std.specs.List.{list_all}
use Rattle.std.proofs.lemmas.Bool.{or_left}
use Rattle.std.proofs.lemmas.Option.{none-some, same_Some}
use Rattle.text.specs.Class.{is_token_byte}
use Rattle.events.specs.declared.sent.Sent.{Sent}
use Rattle.sip_uri.specs.NameAddr.{name_addr_of}
use Rattle.sip_uri.specs.declared.error.UriError.{UriError}
use Rattle.sip_uri.specs.declared.uri.NameAddr.{NameAddr}
use Rattle.sip_message.specs.Party.{has_fit_tag, party_from, party_of}
use Rattle.sip_message.specs.Read.{message_of}
use Rattle.sip_message.specs.Words.{tag_text, tag_value}
use Rattle.sip_message.specs.declared.message.Message.TheVariants as Kinds
use Rattle.sip_message.specs.declared.message.Parts.{Parts}
use Rattle.sip_message.specs.declared.message.Response.{Response}
use Rattle.sip_writing.specs.Requests.{IsEnd}
use Rattle.sip_writing.specs.WritingMessage.{IsWrittenMessage}
use Rattle.transaction_machines.specs.declared.state.State.{State}
use Rattle.transaction_machines.specs.declared.state.State.TheVariants as machine
use Rattle.transactions.specs.SameBranch.{ack_to}
use Rattle.transactions.specs.declared.outcome.Outgoing.{Outgoing}
use Rattle.transactions.specs.declared.transaction.Transaction.{Transaction}
use Rattle.call_rules.specs.Speaking.{is_invite, is_update}
use Rattle.call_trace.specs.declared.datagram.Datagram.{Datagram}
use Rattle.call_trace.specs.declared.datagram.Message.{Message}
use Rattle.call_trace.specs.Events.{IsIdle, branch_acknowledged}
use Rattle.call_trace.specs.Messages.{ack, invite, is_method, is_request, is_request_of, offering}
use Rattle.plans.specs.Office.{Office}
use Rattle.message_laws.specs.Seeing.{SeesLike}
use Rattle.message_laws.specs.Waiting.{IsOffering}
use Rattle.message_laws.proofs.TokenUse.Grounds.{read_repeats}
use Rattle.message_laws.proofs.Messages.ReadParts.{IsTokenIf, party_tag}
use Rattle.message_laws.proofs.StandingCalls.Reading.{Reading as ReadsNames}
use Rattle.message_laws.proofs.QuietEvents.SeenMessages.{refused_sees}
use Rattle.message_laws.proofs.StandingCalls.Texts.{all_of_run}
use Rattle.message_laws.proofs.TokenUse.WrittenRequests.{refusal_ack_stands}
use Rattle.message_laws.specs.Comings.{KnowsScenes}
use Rattle.message_laws.proofs.StandingCalls.ClientSlots.{client_at}
use Rattle.message_laws.specs.KnownTrace.{KnowsTrace}
use Rattle.message_laws.specs.Messages.{IsMessage, IsRequestOf}
use Rattle.media_laws.proofs.Scenes.Reading.{Reading, message_is}
use Rattle.media_laws.proofs.OfferPairs.SeenWords.{request_of}
use Rattle.media_laws.specs.Machines.{FitsMachine, KnowsMachines}
use Rattle.media_laws.proofs.Scenes.MachineSlots.{machine_at}
use Rattle.media_laws.proofs.Copies.Receptions.{AckGoes, IsInviteClient}

-- ---- it reads back

name_by : (n name : NameAddr) (b : Bool) → cond b (Some n) None ≡ Some name → n ≡ name
name_by n name true e = same_Some n name e
name_by n name false e = absurd (none-some name e)

name_from : (r : Result NameAddr UriError) (name : NameAddr) → party_from r ≡ Some name → r ≡ Ok name
name_from (Err fault) name e = absurd (none-some name e)
name_from (Ok n) name e = λ i. Ok (name_by n name (has_fit_tag n.params) e i)

name_of : (text : List ℕ) (name : NameAddr) → party_of text ≡ Some name → name_addr_of text ≡ Ok name
unfolding party_of
name_of text name e = name_from (name_addr_of text) name e

tag_tokens : (tag : Option (List ℕ)) → IsTokenIf tag → list_all is_token_byte (unwrap_or tag []) ≡ true
tag_tokens None h = refl
tag_tokens (Some tag) h = all_of_run is_token_byte tag h

-- the To of a response that was read, with its tag alone
answered_end : ReadsNames → (text : List ℕ) (r : Response) → message_of text ≡ Ok (Kinds.Response r) → IsEnd (ack_to r.parts.to)
answered_end reading text r read =
    let repeats = read_repeats text (Kinds.Response r) read in
    record {
      read = record { text = r.parts.to_text; params = r.parts.to.params; reads = reading.name r.parts.to_text r.parts.to (name_of r.parts.to_text r.parts.to repeats.to); clean = repeats.to_value.clean };
      tag = tag_text r.parts.to.params;
      token = tag_tokens (tag_value r.parts.to.params) (party_tag r.parts.to_text r.parts.to repeats.to);
      tagged = refl;
    }

-- ---- the INVITE

invite_of : (state : State) (parts : Parts) → IsInviteClient state → FitsMachine state parts → is_invite parts ≡ true
invite_of (machine.InviteClient state) parts is fits = fits
invite_of (machine.InviteServer state) parts is fits = absurd is
invite_of (machine.OtherClient state) parts is fits = absurd is
invite_of (machine.OtherServer state) parts is fits = absurd is

invite_sent : (parts : Parts) (m : Message) → is_invite parts ≡ true → IsRequestOf parts m → IsTrue (is_request_of invite m)
invite_sent parts m is h =
    subst (λ k. IsTrue (is_request k && is_method invite m.method)) (sym h.kind) (subst (λ v. is_method invite v ≡ true) (sym h.method) is)

module _ (r : Reading) (names : ReadsNames) (s : Office) (begun : List Transaction) (sent : List Sent) (t : List Datagram) (known : KnowsTrace s begun sent t) (machines : KnowsMachines s) (scenes : KnowsScenes s)
    (taken : Option Message) (text : List ℕ) (q : Response) (read : message_of text ≡ Ok (Kinds.Response q)) where
  ack_written : (out : Outgoing) (h : AckGoes s.table.slots q out) → IsWrittenMessage (Kinds.Request h.ack)
  ack_written out h =
      let sound = client_at s.table.slots h.id h.transaction scenes.clients.slots h.stands h.client in
      refusal_ack_stands h.transaction.uri h.transaction.parts q.parts h.ack sound.values sound.via (answered_end names text q read) h.is

  ack_seen : (out : Outgoing) (m : Message) (h : AckGoes s.table.slots q out) → IsMessage out.bytes m → SeesLike h.transaction.parts q.parts.to ack m
  ack_seen out m h is =
      subst (SeesLike h.transaction.parts q.parts.to ack) (sym (message_is r out.bytes m (Kinds.Request h.ack) is h.said (ack_written out h)))
      (refused_sees out.bytes h.transaction.uri h.transaction.parts q.parts h.ack h.is)

  pub ack_idle : (out : Outgoing) (m : Message) → AckGoes s.table.slots q out → IsMessage out.bytes m → IsIdle offering t taken m
  ack_idle out m h is =
      let x = h.transaction in
      let invites : is_invite x.parts ≡ true = invite_of x.state x.parts h.invite (machine_at s.table.slots h.id x machines h.stands) in
      let offers : IsOffering x = record { client = h.client; offers = or_left (is_invite x.parts) (is_update x.parts) invites } in
      let u = known.stands h.id x h.stands offers in
      let f = known.asked u.0 u.1 u.2 in
      let like = ack_seen out m h is in
      let request : IsRequestOf x.parts f.1.message = subst (λ p. IsRequestOf p f.1.message) u.3 f.3 in
      branch_acknowledged f.0 f.1 (request_of ack m like.kind like.method refl) f.2.at f.2.sent (invite_sent x.parts f.1.message invites request) (request.branch ∙ sym like.branch)
