-- What comes with a message that was read.
use Rattle.std.proofs.Common.{◌≡◌, ◌∙◌, ℕ, true, false, List, codes, Option, Some, None, Ok, refl, sym, subst, arith}
use Rattle.std.specs.Prelude.{nat_eq, slice_get}
use Rattle.std.specs.Cmp.Lexicographic.{pointwise}
use Rattle.std.proofs.lemmas.Bool.{false≢true}
use Rattle.std.proofs.lemmas.Slice.Eq.{bytes_eq-Decides}
use Rattle.sip_uri.specs.declared.uri.Uri.{Uri}
use Rattle.sip_message.specs.Contact.{contacts_of}
use Rattle.sip_message.specs.Read.{message_of}
use Rattle.sip_message.specs.declared.message.Message.TheVariants as Kinds
use Rattle.sip_message.specs.declared.message.Parts.{Parts}
use Rattle.sip_message.specs.declared.message.Request.{Request}
use Rattle.sip_message.specs.declared.message.Response.{Response}
use Rattle.sdp.specs.declared.description.Description.{Description}
use Rattle.dialogs.specs.Making.{callers_dialog, reached_at}
use Rattle.dialogs.specs.declared.state.Dialog.{Dialog}
use Rattle.transaction_machines.specs.Machines.{is_server}
use Rattle.transactions.specs.Slots.{at}
use Rattle.transactions.specs.declared.transaction.Transaction.{Transaction}
use Rattle.call_media.specs.Ends.{other}
use Rattle.call_media.specs.declared.end.End.{End}
use Rattle.call_core.specs.Calls.{dialog_of}
use Rattle.call_core.specs.declared.input.Input.{Input}
use Rattle.call_core.specs.declared.input.Input.TheVariants as inputs
use Rattle.call_core.specs.declared.signal.OfferMethod.{OfferMethod}
use Rattle.calls.specs.Carrying.{offerer_of}
use Rattle.calls.specs.declared.standing_call.StandingCall.{StandingCall}
use Rattle.call_rules.specs.Content.{described}
use Rattle.call_rules.specs.Speaking.{is_bye}
use Rattle.call_steps.specs.Rows.{answers_leg, counts, counts_by, counts_in, dialog_after, later_dialog, leg_by, offer_coming}
use Rattle.call_steps.specs.Values.{without_offer}
use Rattle.plans.specs.CallRows.{asker, tag_at}
use Rattle.plans.specs.Office.{Office}
use Rattle.plans.specs.declared.setting.Setting.{Setting}
use Rattle.responses.specs.Responding.{stateless}
use Rattle.message_laws.specs.Addresses.{IsSource}
use Rattle.message_laws.specs.Bodies.{WasReadIn}
use Rattle.message_laws.specs.Knowing.{HasMadeTags}
use Rattle.message_laws.proofs.Askers.AskedCalls.{at_place}
use Rattle.message_laws.proofs.QuietEvents.Describing.{BodiesDescribe}
use Rattle.message_laws.proofs.TokenUse.Grounds.{read_repeats}
use Rattle.message_laws.proofs.Messages.ReadBodies.{body_read, body_read_if}
use Rattle.message_laws.proofs.Messages.ReadParts.{IsTokenRun, same_method}
use Rattle.message_laws.proofs.StandingCalls.Reading.{Reading}
use Rattle.message_laws.proofs.Askers.SpokenSteps.{tag_run}
use Rattle.message_laws.specs.Comings.{CanAskPut, CanCome, ComesWithFitStatus, KnowsScenes, is_offer_input}
use Rattle.message_laws.specs.SoundScenes.{CanSay, CanAskIn, CanAskInIf, IsNoInvite, IsSoundRequest}
use Rattle.message_laws.proofs.StandingCalls.ClientSlots.{client_at}
use Rattle.message_laws.proofs.StandingCalls.ClientSteps.{fork_can, late_can}
use Rattle.message_laws.proofs.Traces.Scenes.{hops_low, own_can}

-- ---- nothing comes with the input

pub alone_comes : (input : Input) → ComesWithFitStatus input → is_offer_input input ≡ false → WasReadIn input → CanCome input (without_offer None None)
alone_comes input fit none read = record { leg = tt; offer = tt; request = tt; hops = omega arith; status = fit; read = read; asked = λ e. absurd (false≢true (sym none ∙ e)) }

-- ---- a request that was read

can_answer : (text : List ℕ) (e : Setting) (r : Request) (tag : List ℕ) → message_of text ≡ Ok (Kinds.Request r) → IsSource e.source → IsTokenRun tag → CanSay r.parts e.source tag
can_answer text e r tag read from token = record { repeats = read_repeats text (Kinds.Request r) read; from = from; token = token }

tag_at_run : (s : Office) (place : ℕ) (c : Option StandingCall) → KnowsScenes s → slice_get s.calls.calls place ≡ c → IsTokenRun (tag_at c)
tag_at_run s place None k there = refl
tag_at_run s place (Some c) k there = tag_run s.tokens c (offerer_of c.call.standing) k.few (at_place (HasMadeTags s.tokens) s.calls.calls place c k.tokens.calls.tags there)

no_invite : (parts : Parts) (name : List ℕ) → parts.cseq.method ≡ name → pointwise nat_eq name (codes "INVITE") ≡ false → IsNoInvite parts
no_invite parts name is e = subst (λ (m : List ℕ). pointwise nat_eq m (codes "INVITE") ≡ false) (sym is) e

pub cancel_comes : (s : Office) (e : Setting) (text : List ℕ) (r : Request) (id place : ℕ) → KnowsScenes s → IsSource e.source → message_of text ≡ Ok (Kinds.Request r) → r.method ≡ codes "CANCEL"
    → CanCome inputs.Cancel (without_offer None (Some (asker r e id (tag_at (slice_get s.calls.calls place)))))
cancel_comes s e text r id place k from read is = record {
  leg = tt;
  offer = tt;
  request = (can_answer text e r (tag_at (slice_get s.calls.calls place)) read from (tag_at_run s place (slice_get s.calls.calls place) k refl), no_invite r.parts (codes "CANCEL") (same_method text r read ∙ is) refl);
  hops = omega arith;
  status = tt;
  read = tt;
  asked = λ h. absurd (false≢true h);
}

-- it counts its number in its dialog

counts_in_can : (end : End) (number : ℕ) (d : Option Dialog) → CanAskInIf d → CanAskPut (counts_in end number d)
counts_in_can end number None h = tt
counts_in_can end number (Some d) h = record {
  sound = record {
    call_id = h.sound.call_id;
    call_id_value = h.sound.call_id_value;
    our_tag = h.sound.our_tag;
    their_tag = h.sound.their_tag;
    ours = h.sound.ours;
    theirs = h.sound.theirs;
    target = h.sound.target;
  };
  low = h.low;
}

counts_by_can : (s : Office) (place : ℕ) (end : End) (number : ℕ) (c : Option StandingCall) → KnowsScenes s → slice_get s.calls.calls place ≡ c → CanAskPut (counts_by end number c)
counts_by_can s place end number None k there = tt
counts_by_can s place end number (Some c) k there = counts_in_can end number (dialog_of end c.call) (own_can s place c k there end)

counts_can : (s : Office) (place : ℕ) (end : End) (number : ℕ) → KnowsScenes s → CanAskPut (counts s.calls.calls place end number)
unfolding counts
counts_can s place end number k = counts_by_can s place end number (slice_get s.calls.calls place) k refl

pub bye_comes : (s : Office) (e : Setting) (text : List ℕ) (r : Request) (id place : ℕ) (end : End) → KnowsScenes s → IsSource e.source → message_of text ≡ Ok (Kinds.Request r) → is_bye r.parts ≡ true
    → CanCome (inputs.Bye end) (without_offer (counts s.calls.calls place end r.parts.cseq.number) (Some (asker r e id stateless)))
bye_comes s e text r id place end k from read is = record {
  leg = counts_can s place end r.parts.cseq.number k;
  offer = tt;
  request = (can_answer text e r stateless read from refl, no_invite r.parts (codes "BYE") ((bytes_eq-Decides r.parts.cseq.method (codes "BYE")).0 is) refl);
  hops = omega arith;
  status = tt;
  read = tt;
  asked = λ h. absurd (false≢true h);
}

pub offer_comes : BodiesDescribe → Reading → (s : Office) (e : Setting) (text : List ℕ) (r : Request) (id place : ℕ) (end : End) (c : StandingCall) (method : OfferMethod) (offer : Description) → KnowsScenes s → IsSource e.source
    → message_of text ≡ Ok (Kinds.Request r) → slice_get s.calls.calls place ≡ Some c → described r.headers r.body ≡ Some offer
    → CanCome (inputs.Offer end method (Some offer)) (offer_coming (counts s.calls.calls place end r.parts.cseq.number) end r id e.source c)
offer_comes describes reading s e text r id place end c method offer k from read there said = record {
  leg = counts_can s place end r.parts.cseq.number k;
  offer = can_answer text e r _ read from (tag_run s.tokens c end k.few (at_place (HasMadeTags s.tokens) s.calls.calls place c k.tokens.calls.tags there));
  request = tt;
  hops = hops_low reading text r read;
  status = tt;
  read = body_read describes text (Kinds.Request r) offer read said;
  asked = λ h. refl;
}

-- ---- a 2xx

-- a client transaction's request
asked_is : (s : Office) (id : ℕ) (t : Transaction) → KnowsScenes s → at s.table.slots id ≡ Some t → is_server t.state ≡ false → IsSoundRequest t.uri t.parts
asked_is s id t k there client = client_at s.table.slots id t k.clients.slots there client

pub forked_can : Reading → (s : Office) (text : List ℕ) (r : Response) (id : ℕ) (t : Transaction) (to : Uri) → KnowsScenes s → message_of text ≡ Ok (Kinds.Response r) → at s.table.slots id ≡ Some t
    → is_server t.state ≡ false → reached_at (contacts_of r.headers) ≡ Some to → CanAskIn (callers_dialog t.parts r to)
forked_can reading s text r id t to k read there client at_to = fork_can reading text t.uri t.parts r to read (k.dialogs.requests id t there client) (asked_is s id t k there client) at_to

pub later_can : Reading → (s : Office) (text : List ℕ) (r : Response) (id : ℕ) (t : Transaction) (to : Uri) → KnowsScenes s → message_of text ≡ Ok (Kinds.Response r) → at s.table.slots id ≡ Some t
    → is_server t.state ≡ false → reached_at (contacts_of r.headers) ≡ Some to → CanAskIn (later_dialog t.parts r to)
later_can reading s text r id t to k read there client at_to = late_can reading text t.uri t.parts r to read (k.dialogs.requests id t there client) (asked_is s id t k there client) at_to

-- the dialog that it makes, or goes on with
after_can : Reading → (asked : Parts) (r : Response) (to : Uri) (d : Option Dialog) → CanAskIn (callers_dialog asked r to) → reached_at (contacts_of r.headers) ≡ Some to → CanAskInIf d
    → CanAskIn (dialog_after asked r to d)
after_can reading asked r to None can at_to h = can
after_can reading asked r to (Some d) can at_to h = record {
  sound = record {
    call_id = h.sound.call_id;
    call_id_value = h.sound.call_id_value;
    our_tag = h.sound.our_tag;
    their_tag = h.sound.their_tag;
    ours = h.sound.ours;
    theirs = h.sound.theirs;
    target = reading.contact r.headers to at_to;
  };
  low = h.low;
}

leg_by_can : Reading → (s : Office) (text : List ℕ) (r : Response) (id place : ℕ) (t : Transaction) (to : Option Uri) (c : Option StandingCall) → KnowsScenes s → message_of text ≡ Ok (Kinds.Response r)
    → at s.table.slots id ≡ Some t → is_server t.state ≡ false → reached_at (contacts_of r.headers) ≡ to → slice_get s.calls.calls place ≡ c → CanAskPut (leg_by t.parts r to c)
leg_by_can reading s text r id place t None c k read there client at_to at_place = tt
leg_by_can reading s text r id place t (Some to) None k read there client at_to at_place = tt
leg_by_can reading s text r id place t (Some to) (Some c) k read there client at_to at_place =
    let end = other (offerer_of c.call.standing) in
    after_can reading t.parts r to (dialog_of end c.call) (forked_can reading s text r id t to k read there client at_to) at_to (own_can s place c k at_place end)

answers_can : Reading → (s : Office) (text : List ℕ) (r : Response) (id place : ℕ) (t : Transaction) → KnowsScenes s → message_of text ≡ Ok (Kinds.Response r) → at s.table.slots id ≡ Some t
    → is_server t.state ≡ false → CanAskPut (answers_leg s.calls.calls place t.parts r)
unfolding answers_leg
answers_can reading s text r id place t k read there client = leg_by_can reading s text r id place t (reached_at (contacts_of r.headers)) (slice_get s.calls.calls place) k read there client refl refl

pub answer_comes : BodiesDescribe → Reading → (s : Office) (text : List ℕ) (r : Response) (id place : ℕ) (t : Transaction) → KnowsScenes s → message_of text ≡ Ok (Kinds.Response r) → at s.table.slots id ≡ Some t
    → is_server t.state ≡ false → CanCome (inputs.Answer (described r.headers r.body)) (without_offer (answers_leg s.calls.calls place t.parts r) None)
answer_comes describes reading s text r id place t k read there client = record {
  leg = answers_can reading s text r id place t k read there client;
  offer = tt;
  request = tt;
  hops = omega arith;
  status = tt;
  read = body_read_if describes text (Kinds.Response r) (described r.headers r.body) read refl;
  asked = λ h. absurd (false≢true h);
}
