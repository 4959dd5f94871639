-- What a first INVITE that is passed on has the server send: 100 to its sender, and an INVITE with what was offered to
-- where the callee is bound.
use Rattle.std.proofs.Common.{◌≡◌, ◌∙◌, ℕ, ◌+◌, List, [], ◌∷◌, ◌++◌, map, codes, Option, Some, None, Ok, inl, refl, ap, sym}
use Rattle.events.specs.declared.sent.Sent.{Sent}
use Rattle.sip_uri.specs.Address.{address_of}
use Rattle.sip_uri.specs.declared.uri.Addr.{Addr}
use Rattle.sip_uri.specs.declared.uri.Uri.{Uri}
use Rattle.sip_message.specs.Contact.{contacts_of}
use Rattle.sip_message.specs.Read.{message_of}
use Rattle.sip_message.specs.declared.message.Message.TheVariants as Kinds
use Rattle.sip_message.specs.declared.message.Request.{Request}
use Rattle.sip_writing.specs.Reply.{response_address}
use Rattle.sip_writing.specs.Requests.{server_via}
use Rattle.sdp.specs.Writing.{description_text}
use Rattle.sdp.specs.declared.description.Description.{Description}
use Rattle.offer_answer.specs.Alike.{Alike}
use Rattle.dialogs.specs.Counting.{method_text}
use Rattle.dialogs.specs.Making.{reached_at}
use Rattle.dialogs.specs.Requests.{request_in}
use Rattle.dialogs.specs.declared.method.Method.TheVariants as methods
use Rattle.call_media.specs.Offers.{opened}
use Rattle.call_media.specs.declared.end.End.TheVariants.{Callee, Caller}
use Rattle.call_media.specs.declared.session.OpenOffer.{OpenOffer}
use Rattle.call_core.specs.CallRows.{first_call_row}
use Rattle.call_core.specs.declared.action.Action.TheVariants.{Offer, Trying}
use Rattle.call_core.specs.declared.signal.OfferMethod.TheVariants.{Invite}
use Rattle.call_steps.specs.Messages.{messages}
use Rattle.call_steps.specs.Rows.{first_asker, first_leg}
use Rattle.call_steps.specs.Values.{lent_asker, lent_scene}
use Rattle.call_steps.specs.declared.messages.StepMessages.{StepMessages}
use Rattle.call_steps.specs.declared.occasion.Occasion.{Occasion}
use Rattle.call_messages.specs.Dressed.{asks_at}
use Rattle.call_messages.specs.Dressing.{branch, dress_one}
use Rattle.call_messages.specs.Messages as words
use Rattle.call_messages.specs.Messages.{new_leg}
use Rattle.call_messages.specs.declared.scene.Asker.{Asker}
use Rattle.call_messages.specs.declared.scene.Scene.{Scene}
use Rattle.plans.specs.CallRows.{occasion}
use Rattle.plans.specs.Office.{Office}
use Rattle.plans.specs.declared.setting.Setting.{Setting}
use Rattle.transactions.specs.declared.transaction.Transaction.{Transaction}
use Rattle.call_trace.specs.declared.call.Call.{Call}
use Rattle.call_trace.specs.declared.datagram.Datagram.{Datagram}
use Rattle.call_trace.specs.declared.datagram.Message.{Message}
use Rattle.trace_reading.specs.Message.{dialog_named, trace_message}
use Rattle.message_laws.specs.Addresses.{IsSource}
use Rattle.message_laws.specs.Seeing.{SeesRequest, SeesResponse}
use Rattle.message_laws.proofs.QuietEvents.Describing.{BodiesDescribe}
use Rattle.message_laws.proofs.Messages.ReadBack.{SentIsRead}
use Rattle.message_laws.proofs.Messages.ReadParts.{method_is}
use Rattle.message_laws.proofs.StandingCalls.Reading.{Reading as ReadsNames}
use Rattle.message_laws.proofs.StandingCalls.SoundRows.{callee_target}
use Rattle.message_laws.specs.Messages.{AreMessages}
use Rattle.media_laws.specs.Heard.{HearsAction}
use Rattle.media_laws.specs.Offering.{IsFirstOffer}
use Rattle.media_laws.specs.Scenes.{AskedLeg}
use Rattle.media_laws.specs.Ties.{AreTied}
use Rattle.media_laws.proofs.OfferPairs.FirstSteps.{first_before, first_heard, first_said, first_step, first_value}
use Rattle.media_laws.proofs.Scenes.Leaving.{request_of}
use Rattle.media_laws.proofs.Scenes.Legs.{first_asked}
use Rattle.media_laws.proofs.Scenes.OfferRequests.{first_untagged}
use Rattle.media_laws.proofs.Scenes.Reading.{Reading}
use Rattle.media_laws.proofs.OfferPairs.SeenWords.{response_replies}
use Rattle.media_laws.proofs.OfferPairs.Taking.{offer_one, take_one, trying_one}
use Rattle.step_laws.specs.Offers.{AsksAlike, CallsOut}

two_whole : (ms rest more : List Message) (one other : Message) → ms ≡ one ∷ rest → rest ≡ other ∷ more → more ≡ [] → ms ≡ one ∷ other ∷ []
two_whole ms rest more one other first second last = first ∙ ap (λ l. one ∷ l) (second ∙ ap (λ l. other ∷ l) last)

module _ (names : ReadsNames) (describes : BodiesDescribe) (law : SentIsRead) (s : Office) (begun : List Transaction) (sent : List Sent) (t : List Datagram) (calls : List Call) (tied : AreTied s begun sent t calls) (e : Setting) (from : IsSource e.source) (bytes : List ℕ) (r : Request) (id : ℕ) (read : message_of bytes ≡ Ok (Kinds.Request r)) (to contact : Uri) (offer : Description) (p : IsFirstOffer s e.now r to offer) (reached : reached_at (contacts_of r.headers) ≡ Some contact) where
  abbrev o : Occasion
  o = occasion s e

  abbrev pub said : StepMessages
  said = first_said names describes law s begun sent t calls tied e from bytes r id read to contact offer p reached

  abbrev pub opens : OpenOffer
  opens = opened (first_before names describes law s begun sent t calls tied e from bytes r id read to contact offer p reached).call.media s.calls.pool Caller offer e.now

  abbrev scene : Scene
  scene = lent_scene (first_value names describes law s begun sent t calls tied e from bytes r id read to contact offer p reached)

  abbrev came : Message
  came = trace_message bytes (Kinds.Request r)

  abbrev asker : Asker
  asker = lent_asker (first_asker o r id e.source)

  leg : AskedLeg scene Callee Invite (dialog_named (first_leg o r to).id)
  leg =
      first_asked o (first_asker o r id e.source) r.max_forwards (first_step names describes law s begun sent t calls tied e from bytes r id read to contact offer p reached).description r to
      (callee_target s tied.scenes.dialogs r e.now to p.bound)

  -- ---- where they go

  pub first_goes : (callee : Addr) → address_of to ≡ Some callee → map (λ (d : Sent). d.to) said.dressed.sends ≡ response_address r.parts.vias e.source ∷ callee ∷ []
  unfolding messages first_call_row dress_one request_in new_leg
  first_goes callee leads =
      ap (λ (a : Option Addr). response_address r.parts.vias e.source ∷ map (λ (d : Sent). d.to) ((asks_at a (request_in (first_leg o r to) (server_via s.server (branch scene (s.tokens + 3 + 0))) (method_text methods.Invite) 1 (words.one_hop_less r.max_forwards) (words.description_headers s.server) (description_text opens.offer_sent)) 1).sends ++ [])) leads

  -- ---- what they say

  asks_callee : (tokens : ℕ) (m : Message) → HearsAction scene tokens (Offer Callee Invite) m → Alike offer opens.offer_sent → AsksAlike came offer m × (m.to_tag ≡ [])
  unfolding first_call_row new_leg
  asks_callee tokens m h alike =
      let seen : SeesRequest (first_leg o r to) (branch scene tokens) 1 (method_text methods.Invite) (Some opens.offer_sent) m = h in (
        record {
          request = seen.kind;
          method = seen.method ∙ sym ((request_of bytes r).method ∙ method_is bytes r (codes "INVITE") read p.invite);
          given = opens.offer_sent;
          said = seen.description;
          alike = alike;
        },
        seen.to_tag,
      )

  pub calls_out : Reading → Alike offer opens.offer_sent → (ms : List Message) → AreMessages said.dressed.sends ms → CallsOut came offer ms
  unfolding first_call_row
  calls_out reads alike ms are =
      let heard = first_heard names describes law s begun sent t calls tied e from bytes r id read to contact offer p reached reads ms are in
      let tokens = s.tokens + 3 in
      let first = trying_one scene tokens Caller asker refl in
      let tried = take_one scene tokens (Trying Caller) (Offer Callee Invite ∷ []) ms first.0 first.1 heard in
      let later = tokens + (dress_one scene tokens (Trying Caller)).made in
      let second = offer_one scene later Callee Invite leg.leg opens.offer_sent leg.has refl leg.numbered leg.leads in
      let went = take_one scene later (Offer Callee Invite) [] tried.rest second.0 second.1 tried.more in
      let seen : SeesResponse r.parts 100 asker.tag.now None tried.message = tried.heard in
      let asks = asks_callee later went.message went.heard alike in
      record {
        trying = tried.message;
        went = went.message;
        whole = two_whole ms tried.rest went.rest tried.message went.message tried.whole went.whole went.more;
        tries = seen.kind;
        replies = response_replies r.parts 100 asker.tag.now None tried.message came (request_of bytes r) seen (inl (sym (request_of bytes r).to_tag ∙ first_untagged r bytes p.no_tag));
        asks = asks.0;
        no_tag = asks.1;
      }
