-- Each event sends a response of the server's own, what goes by itself, and the messages of one line.
use Rattle.std.proofs.Common.{◌≡◌, ◌∙◌, ◌++◌, ◌+◌, ℕ, List, [], Option, Some, None, refl}
use Rattle.std.specs.Prelude.{slice_get}
use Rattle.std.proofs.lemmas.List.{append-nil}
use Rattle.sip_uri.specs.declared.uri.Uri.{Uri}
use Rattle.sip_message.specs.Contact.{contacts_of}
use Rattle.sip_message.specs.declared.message.Request.{Request}
use Rattle.sip_message.specs.declared.message.Response.{Response}
use Rattle.sdp.specs.declared.description.Description.{Description}
use Rattle.dialogs.specs.Making.{callers_dialog, reached_at}
use Rattle.events.specs.declared.event.Event.{Event}
use Rattle.events.specs.declared.sent.Sent.{Sent}
use Rattle.call_media.specs.declared.end.End.{End}
use Rattle.call_core.specs.CallRows.{call_row, first_call_row}
use Rattle.call_core.specs.declared.input.Input.{Input}
use Rattle.call_steps.specs.Messages.{messages}
use Rattle.call_steps.specs.Rows.{first_asker, first_leg, first_row, begins_by, first_standing, fork_by, fork_row, late_by, late_row, later_dialog, offer_coming, offers_by, offers_row, takes_by, takes_row}
use Rattle.call_steps.specs.Scenes.{first_scene, fork_scene}
use Rattle.call_steps.specs.Values.{AskerValue, lent_scene, without_offer}
use Rattle.calls.specs.declared.change.LegDialog.{LegDialog}
use Rattle.calls.specs.declared.standing_call.StandingCall.{StandingCall}
use Rattle.plans.specs.CallRows.{occasion}
use Rattle.plans.specs.Effect.{Effect}
use Rattle.plans.specs.declared.setting.Setting.{Setting}
use Rattle.event_rows.specs.State.{Contents, office}
use Rattle.media_laws.specs.Coming.{scene_at}
use Rattle.step_laws.specs.Whole.{GoesByItself, HasReason, begins, by_itself, by_line, fork, late, nothing, stands}

module _ (s : Contents) (event : Event) where
  -- a step of a call, after this
  module _ (e : Setting) (x : Effect) (before : List Sent) (first : GoesByItself s event before) where
    call_by : (place : ℕ) (input : Input) (leg : Option LegDialog) (request : Option AskerValue) (o : Option StandingCall) → slice_get s.calls.calls place ≡ o
        → x.plan.sends ≡ before ++ (takes_by s.calls s.table (occasion (office s) e) place input leg request o).dressed.sends → HasReason s event x
    unfolding messages
    call_by place input leg request None there is = by_itself before first (is ∙ append-nil before)
    call_by place input leg request (Some c) there is =
        let step = call_row c.call input s.calls.pool e.now in
        by_line before step.actions (scene_at (office s) e (without_offer leg request) c step.description) s.tokens first (stands place c input e.now there refl) is

    pub call_sends : (place : ℕ) (input : Input) (leg : Option LegDialog) (request : Option AskerValue) → x.plan.sends ≡ before ++ (takes_row s.calls s.table (occasion (office s) e) place input leg request).dressed.sends → HasReason s event x
    unfolding takes_row
    call_sends place input leg request is = call_by place input leg request (slice_get s.calls.calls place) refl is

    fork_by_target : (r : Response) (parts : _) (o : Option Uri) → x.plan.sends ≡ before ++ (fork_by s.calls (occasion (office s) e) parts r o).dressed.sends → HasReason s event x
    unfolding messages
    fork_by_target r parts None is = by_itself before first (is ∙ append-nil before)
    fork_by_target r parts (Some target) is = by_line before _ (lent_scene (fork_scene (occasion (office s) e) (callers_dialog parts r target))) s.tokens first (fork refl) is

    late_by_target : (r : Response) (parts : _) (o : Option Uri) → x.plan.sends ≡ before ++ (late_by s.calls (occasion (office s) e) parts r o).dressed.sends → HasReason s event x
    unfolding messages
    late_by_target r parts None is = by_itself before first (is ∙ append-nil before)
    late_by_target r parts (Some target) is = by_line before _ (lent_scene (fork_scene (occasion (office s) e) (later_dialog parts r target))) s.tokens first (late refl) is

    pub fork_sends : (r : Response) (parts : _) → x.plan.sends ≡ before ++ (fork_row s.calls (occasion (office s) e) parts r).dressed.sends → HasReason s event x
    unfolding fork_row
    fork_sends r parts is = fork_by_target r parts (reached_at (contacts_of r.headers)) is

    pub late_sends : (r : Response) (parts : _) → x.plan.sends ≡ before ++ (late_row s.calls (occasion (office s) e) parts r).dressed.sends → HasReason s event x
    unfolding late_row
    late_sends r parts is = late_by_target r parts (reached_at (contacts_of r.headers)) is

  module _ (e : Setting) (x : Effect) where
    offer_by : (place : ℕ) (input : Input) (end : End) (r : Request) (id : ℕ) (leg : Option LegDialog) (o : Option StandingCall) → slice_get s.calls.calls place ≡ o
        → x.plan.sends ≡ (offers_by s.calls s.table (occasion (office s) e) place input end r id e.source leg o).dressed.sends → HasReason s event x
    unfolding messages
    offer_by place input end r id leg None there is = by_itself [] (nothing refl) is
    offer_by place input end r id leg (Some c) there is =
        let step = call_row c.call input s.calls.pool e.now in
        by_line [] step.actions (scene_at (office s) e (offer_coming leg end r id e.source c) c step.description) s.tokens (nothing refl) (stands place c input e.now there refl) is

    first_by : (r : Request) (id : ℕ) (to : Uri) (offer : Description) (o : Option Uri) → x.plan.sends ≡ (begins_by s.calls (occasion (office s) e) r id e.source to offer o).dressed.sends → HasReason s event x
    unfolding messages first_call_row
    first_by r id to offer None is = by_itself [] (nothing refl) is
    first_by r id to offer (Some contact) is =
        let o = occasion (office s) e in
        let step = first_call_row (first_standing (s.calls.begun + 1) o r id e.source contact).call offer s.calls.pool e.now in
        by_line [] step.actions (lent_scene (first_scene o (first_asker o r id e.source) r.max_forwards (first_leg o r to) step.description)) (s.tokens + 3) (nothing refl) (begins refl) is

    pub first_sends : (r : Request) (id : ℕ) (to : Uri) (offer : Description) → x.plan.sends ≡ (first_row s.calls (occasion (office s) e) r id e.source to offer).dressed.sends → HasReason s event x
    unfolding first_row
    first_sends r id to offer is = first_by r id to offer (reached_at (contacts_of r.headers)) is

    pub offer_sends : (place : ℕ) (input : Input) (end : End) (r : Request) (id : ℕ) → x.plan.sends ≡ (offers_row s.calls s.table (occasion (office s) e) place input end r id e.source).dressed.sends → HasReason s event x
    unfolding offers_row
    offer_sends place input end r id is = offer_by place input end r id _ (slice_get s.calls.calls place) refl is
