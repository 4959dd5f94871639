-- What a call says reads back.
use Rattle.std.proofs.Common.{◌≡◌, ℕ, ◌+◌, false, List, [], ◌∷◌, Option, Some, None, Ok, option_map, refl, sym, subst}
use Rattle.std.specs.Prelude.{slice_get}
use Rattle.std.specs.List.{All}
use Rattle.std.specs.Option.{option_copied}
use Rattle.std.proofs.lemmas.List.Elements.{All-append, All-nil}
use Rattle.events.specs.declared.sent.Sent.{Sent}
use Rattle.sip_uri.specs.declared.uri.Uri.{Uri}
use Rattle.sip_message.specs.Contact.{contacts_of}
use Rattle.sip_message.specs.Read.{message_of}
use Rattle.sip_message.specs.declared.message.Message.TheVariants as Kinds
use Rattle.sip_message.specs.declared.message.Parts.{Parts}
use Rattle.sip_message.specs.declared.message.Request.{Request}
use Rattle.sip_message.specs.declared.message.Response.{Response}
use Rattle.sdp.specs.declared.description.Description.{Description}
use Rattle.dialogs.specs.Making.{callers_dialog, reached_at}
use Rattle.dialogs.specs.declared.state.Dialog.{Dialog}
use Rattle.transaction_machines.specs.Machines.{is_server}
use Rattle.transactions.specs.Slots.{at}
use Rattle.transactions.specs.declared.transaction.Transaction.{Transaction}
use Rattle.call_media.specs.declared.end.End.{End}
use Rattle.call_media.specs.declared.end.End.TheVariants.{Callee}
use Rattle.call_core.specs.declared.action.Action.{Action}
use Rattle.call_core.specs.declared.action.Action.TheVariants.{Trying, Offer, Provisional, Ack, Answer, AnswerAgain, Refusal, Okay, Cancel, Bye, PutRows, Release, RemoveRows, Set, Stop, Abandon}
use Rattle.call_core.specs.declared.input.Input.{Input}
use Rattle.call_core.specs.declared.input.Input.TheVariants as inputs
use Rattle.call_core.specs.declared.signal.OfferMethod.{OfferMethod}
use Rattle.calls.specs.declared.change.LegDialog.{LegDialog}
use Rattle.calls.specs.declared.standing_call.StandingCall.{StandingCall}
use Rattle.call_rules.specs.Content.{described}
use Rattle.call_core.specs.CallRows.{call_row, first_call_row}
use Rattle.call_steps.specs.Messages.{messages}
use Rattle.call_steps.specs.Scenes.{first_scene, fork_scene, scene}
use Rattle.call_steps.specs.Rows.{begins_by, counts, first_asker, first_leg, first_messages, first_row, first_standing, messages_of, fork_by, fork_row, late_by, late_row, later_dialog, offer_coming, offers_by, offers_row, takes_by, takes_row}
use Rattle.call_steps.specs.Values.{AskerValue, ComingValue, lent, lent_scene, without_offer}
use Rattle.call_messages.specs.declared.scene.Scene.{Scene}
use Rattle.call_messages.specs.Dressing.{dress_one}
use Rattle.plans.specs.CallRows.{occasion}
use Rattle.event_rows.specs.Rules.{target}
use Rattle.plans.specs.Office.{Office}
use Rattle.plans.specs.declared.setting.Setting.{Setting}
use Rattle.message_laws.specs.Addresses.{IsSource}
use Rattle.message_laws.specs.Saying.{OneIf, SeesAgain}
use Rattle.message_laws.proofs.Askers.AskedCalls.{at_place}
use Rattle.message_laws.proofs.QuietEvents.Describing.{BodiesDescribe}
use Rattle.message_laws.proofs.Messages.ReadBack.{SentIsRead}
use Rattle.message_laws.proofs.StandingCalls.Reading.{Reading}
use Rattle.message_laws.specs.Comings.{CanCome}
use Rattle.message_laws.specs.ReadDatagrams.{IsReadDatagram}
use Rattle.message_laws.specs.Said.{SaysAction, SaysActions}
use Rattle.message_laws.specs.SoundScenes.{CanAskIn, HaveFitStatuses}
use Rattle.message_laws.proofs.Traces.Comings.{forked_can, later_can, offer_comes}
use Rattle.message_laws.proofs.SentTexts.ReadReplies.{one_read}
use Rattle.message_laws.proofs.SentTexts.ReadSends.{AgainReads, AnswerReads, IsReady}
use Rattle.message_laws.proofs.Traces.Scenes.{alone_says, first_says, step_says}

-- ---- what actions say

again_reads : (again : Option Sent) (d : Sent) → AgainReads again → SeesAgain again d → IsReadDatagram d
again_reads None d own same = absurd same
again_reads (Some answer) d own same = subst IsReadDatagram (sym same) own

action_reads : (s : Scene) (tokens : ℕ) (action : Action) (d : Sent) → AgainReads (option_copied s.again) → SaysAction s tokens action d → IsReadDatagram d
action_reads s tokens (Trying end) d own h = (h.0, h.1, h.2)
action_reads s tokens (Offer end method) d own h = (h.0, h.1, h.2)
action_reads s tokens (Provisional end status) d own h = (h.0, h.1, h.2)
action_reads s tokens (Ack end) d own h = (h.0, h.1, h.2)
action_reads s tokens (Answer end) d own h = (h.0, h.1, h.2)
action_reads s tokens (AnswerAgain end) d own h = again_reads (option_copied s.again) d own h
action_reads s tokens (Refusal end status) d own h = (h.0, h.1, h.2)
action_reads s tokens (Okay end) d own h = (h.0, h.1, h.2)
action_reads s tokens (Cancel end) d own h = (h.0, h.1, h.2)
action_reads s tokens (Bye end) d own h = (h.0, h.1, h.2)
action_reads s tokens PutRows d own h = absurd h
action_reads s tokens Release d own h = absurd h
action_reads s tokens RemoveRows d own h = absurd h
action_reads s tokens (Set timer after) d own h = absurd h
action_reads s tokens (Stop timer) d own h = absurd h
action_reads s tokens (Abandon end) d own h = absurd h

one_reads : (is : Sent → Type 0) (sends : List Sent) → ((d : Sent) → is d → IsReadDatagram d) → OneIf is sends → All IsReadDatagram sends
one_reads is [] each h = All-nil IsReadDatagram
one_reads is (d ∷ []) each h = one_read d (each d h)
one_reads is (d ∷ e ∷ sends) each h = absurd h

actions_read : (s : Scene) (tokens : ℕ) (list : List Action) (sends : List Sent) → AgainReads (option_copied s.again) → SaysActions s tokens list sends → All IsReadDatagram sends
actions_read s tokens [] sends own h = subst (All IsReadDatagram) (sym h) (All-nil IsReadDatagram)
actions_read s tokens (action ∷ later) sends own h =
    subst (All IsReadDatagram) (sym h.2)
    (All-append IsReadDatagram h.0 h.1 (one_reads (SaysAction s tokens action) h.0 (λ d said. action_reads s tokens action d own said) h.3)
    (actions_read s (tokens + (dress_one s tokens action).made) later h.1 own h.4))

lent_again : (answer : Option Sent) → AgainReads answer → AgainReads (option_copied (option_map lent answer))
lent_again None h = h
lent_again (Some answer) h = h

-- ---- the laws below that the messages rest on

pub record Laws : Type 0 where
  pub reading : Reading
  pub describes : BodiesDescribe
  pub sent : SentIsRead

-- ---- a live call

module _ (laws : Laws) (s : Office) (e : Setting) (k : IsReady s) where
  own_again : (place : ℕ) (c : StandingCall) → slice_get s.calls.calls place ≡ Some c → AgainReads (option_copied (option_map lent c.answer))
  own_again place c there = lent_again c.answer (at_place AnswerReads s.calls.calls place c k.again there)

  call_reads : (place : ℕ) (c : StandingCall) (input : Input) (w : ComingValue) → slice_get s.calls.calls place ≡ Some c → CanCome input w
      → All IsReadDatagram (messages_of s.table (occasion s e) w c (call_row c.call input s.calls.pool e.now)).dressed.sends
  call_reads place c input w there can =
      let step = call_row c.call input s.calls.pool e.now in
      actions_read (lent_scene (scene s.table (occasion s e) w c step.description)) s.tokens step.actions (messages_of s.table (occasion s e) w c step).dressed.sends (own_again place c there)
      (step_says laws.sent s e place c input w k.scenes there can laws.describes)

  takes_by_reads : (place : ℕ) (input : Input) (leg : Option LegDialog) (request : Option AskerValue) (c : Option StandingCall) → slice_get s.calls.calls place ≡ c → CanCome input (without_offer leg request)
      → All IsReadDatagram (takes_by s.calls s.table (occasion s e) place input leg request c).dressed.sends
  takes_by_reads place input leg request None there can = All-nil IsReadDatagram
  takes_by_reads place input leg request (Some c) there can =
      call_reads place c input (without_offer leg request) there can

  pub takes_reads : (place : ℕ) (input : Input) (leg : Option LegDialog) (request : Option AskerValue) → CanCome input (without_offer leg request)
      → All IsReadDatagram (takes_row s.calls s.table (occasion s e) place input leg request).dressed.sends
  unfolding takes_row
  takes_reads place input leg request can = takes_by_reads place input leg request (slice_get s.calls.calls place) refl can

  offers_by_reads : (text : List ℕ) (r : Request) (id place : ℕ) (end : End) (method : OfferMethod) (offer : Description) (c : Option StandingCall) → IsSource e.source → message_of text ≡ Ok (Kinds.Request r)
      → described r.headers r.body ≡ Some offer → slice_get s.calls.calls place ≡ c
      → All IsReadDatagram (offers_by s.calls s.table (occasion s e) place (inputs.Offer end method (Some offer)) end r id e.source (counts s.calls.calls place end r.parts.cseq.number) c).dressed.sends
  offers_by_reads text r id place end method offer None from read said there = All-nil IsReadDatagram
  offers_by_reads text r id place end method offer (Some c) from read said there =
      call_reads place c (inputs.Offer end method (Some offer)) (offer_coming (counts s.calls.calls place end r.parts.cseq.number) end r id e.source c) there
      (offer_comes laws.describes laws.reading s e text r id place end c method offer k.scenes from read there said)

  pub offers_reads : (text : List ℕ) (r : Request) (id place : ℕ) (end : End) (method : OfferMethod) (offer : Description) → IsSource e.source → message_of text ≡ Ok (Kinds.Request r)
      → described r.headers r.body ≡ Some offer
      → All IsReadDatagram (offers_row s.calls s.table (occasion s e) place (inputs.Offer end method (Some offer)) end r id e.source).dressed.sends
  unfolding offers_row
  offers_reads text r id place end method offer from read said = offers_by_reads text r id place end method offer (slice_get s.calls.calls place) from read said refl

  -- ---- a call that begins

  begins_by_reads : (text : List ℕ) (r : Request) (id : ℕ) (to : Uri) (offer : Description) (contact : Option Uri) → IsSource e.source → message_of text ≡ Ok (Kinds.Request r)
      → target s r e.now ≡ Some to → described r.headers r.body ≡ Some offer → reached_at (contacts_of r.headers) ≡ contact
      → All IsReadDatagram (begins_by s.calls (occasion s e) r id e.source to offer contact).dressed.sends
  begins_by_reads text r id to offer None from read bound said at_contact = All-nil IsReadDatagram
  begins_by_reads text r id to offer (Some contact) from read bound said at_contact =
      let o = occasion s e in
      let step = first_call_row (first_standing (s.calls.begun + 1) o r id e.source contact).call offer s.calls.pool e.now in
      actions_read (lent_scene (first_scene o (first_asker o r id e.source) r.max_forwards (first_leg o r to) step.description)) (s.tokens + 3) step.actions (first_messages o r id e.source to step).dressed.sends tt
      (first_says laws.sent laws.describes laws.reading s e text r id contact to offer k.scenes from read at_contact bound said)

  pub first_reads : (text : List ℕ) (r : Request) (id : ℕ) (to : Uri) (offer : Description) → IsSource e.source → message_of text ≡ Ok (Kinds.Request r) → target s r e.now ≡ Some to
      → described r.headers r.body ≡ Some offer → All IsReadDatagram (first_row s.calls (occasion s e) r id e.source to offer).dressed.sends
  unfolding first_row
  first_reads text r id to offer from read bound said = begins_by_reads text r id to offer (reached_at (contacts_of r.headers)) from read bound said refl

  -- ---- a 2xx that no call takes

  leg_reads : (leg : Dialog) (list : List Action) → CanAskIn leg → HaveFitStatuses list → All IsReadDatagram (messages (fork_scene (occasion s e) leg) None list).dressed.sends
  leg_reads leg list can fit =
      actions_read (lent_scene (fork_scene (occasion s e) leg)) s.tokens list (messages (fork_scene (occasion s e) leg) None list).dressed.sends tt
      (alone_says laws.describes s e leg list k.scenes can fit)

  fork_by_reads : (asked : Parts) (r : Response) (contact : Option Uri) → ((to : Uri) → contact ≡ Some to → CanAskIn (callers_dialog asked r to))
      → All IsReadDatagram (fork_by s.calls (occasion s e) asked r contact).dressed.sends
  fork_by_reads asked r None can = All-nil IsReadDatagram
  fork_by_reads asked r (Some to) can =
      leg_reads (callers_dialog asked r to) (Ack Callee ∷ Bye Callee ∷ []) (can to refl) (tt, (tt, tt))

  pub fork_reads : (text : List ℕ) (r : Response) (id : ℕ) (t : Transaction) → message_of text ≡ Ok (Kinds.Response r) → at s.table.slots id ≡ Some t → is_server t.state ≡ false
      → All IsReadDatagram (fork_row s.calls (occasion s e) t.parts r).dressed.sends
  unfolding fork_row
  fork_reads text r id t read there client =
      fork_by_reads t.parts r (reached_at (contacts_of r.headers)) (λ to at_to. forked_can laws.reading s text r id t to k.scenes read there client at_to)

  late_by_reads : (asked : Parts) (r : Response) (contact : Option Uri) → ((to : Uri) → contact ≡ Some to → CanAskIn (later_dialog asked r to))
      → All IsReadDatagram (late_by s.calls (occasion s e) asked r contact).dressed.sends
  late_by_reads asked r None can = All-nil IsReadDatagram
  late_by_reads asked r (Some to) can = leg_reads (later_dialog asked r to) (Ack Callee ∷ []) (can to refl) (tt, tt)

  pub late_reads : (text : List ℕ) (r : Response) (id : ℕ) (t : Transaction) → message_of text ≡ Ok (Kinds.Response r) → at s.table.slots id ≡ Some t → is_server t.state ≡ false
      → All IsReadDatagram (late_row s.calls (occasion s e) t.parts r).dressed.sends
  unfolding late_row
  late_reads text r id t read there client =
      late_by_reads t.parts r (reached_at (contacts_of r.headers)) (λ to at_to. later_can laws.reading s text r id t to k.scenes read there client at_to)
