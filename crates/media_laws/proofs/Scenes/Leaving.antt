-- A request in a dialog of a call, and the 200 to a BYE or a CANCEL.
use Rattle.std.proofs.Common.{◌≡◌, ◌∙◌, ℕ, Bool, true, false, cond, List, codes, Option, Some, None, Ok, refl, sym, ap, subst}
use Rattle.std.specs.Prelude.{slice_get}
use Rattle.std.specs.Cmp.Lexicographic.{bytes_decides}
use Rattle.std.proofs.lemmas.Bool.{and_parts, false≢true}
use Rattle.std.proofs.lemmas.List.Quantifiers.{position-Some}
use Rattle.std.proofs.lemmas.Option.{get_or_from_slice_get}
use Rattle.sip_message.specs.Read.{message_of}
use Rattle.sip_message.specs.Words.{tag_text}
use Rattle.sip_message.specs.declared.message.Message.TheVariants as Kinds
use Rattle.sip_message.specs.declared.message.Parts.{Parts}
use Rattle.sip_message.specs.declared.message.Request.{Request}
use Rattle.sdp.specs.declared.description.Description.{Description}
use Rattle.dialogs.specs.declared.state.Dialog.{Dialog as LegDialog}
use Rattle.call_media.specs.declared.end.End.{End}
use Rattle.call_media.specs.declared.end.End.TheVariants.{Callee, Caller}
use Rattle.call_core.specs.Calls.{dialog_of}
use Rattle.calls.specs.Finding.{is_of_dialog, is_of_end, place_by_end}
use Rattle.calls.specs.declared.standing_call.StandingCall.{StandingCall}
use Rattle.call_rules.specs.Requests as requests
use Rattle.call_rules.specs.Requests.{dialog_rule}
use Rattle.call_rules.specs.Speaking.{is_bye, is_offer}
use Rattle.call_rules.specs.DialogRule.{DialogRule}
use Rattle.call_rules.specs.DialogRule as rules
use Rattle.call_steps.specs.Values.{ComingValue, lent_asker}
use Rattle.responses.specs.Words.{is_method}
use Rattle.plans.specs.CallRows.{asker}
use Rattle.plans.specs.Office.{Office}
use Rattle.plans.specs.declared.setting.Setting.{Setting}
use Rattle.call_trace.specs.declared.call.Call.{Call}
use Rattle.call_trace.specs.declared.datagram.Dialog.{Dialog}
use Rattle.call_trace.specs.Stands.{leg}
use Rattle.trace_reading.specs.Message.{trace_message}
use Rattle.message_laws.proofs.Messages.ReadParts.{method_is}
use Rattle.message_laws.specs.Messages.{IsRequestOf}
use Rattle.media_laws.specs.Scenes.{ByeIn}
use Rattle.media_laws.specs.Shows.{ShowsLegs, is_caller}
use Rattle.media_laws.specs.Asking.{CancelIn}
use Rattle.media_laws.specs.Coming.{scene_at}
use Rattle.media_laws.proofs.Scenes.Legs.{leg_shown}
use Rattle.media_laws.proofs.Scenes.Tags.{reply_tag}

-- ---- which dialog a rule names

-- the call there has this dialog, which the request names
pub record IsInDialog (parts : Parts) (c : StandingCall) (end : End) : Type 0 where
  pub dialog : LegDialog
  pub has : dialog_of end c.call ≡ Some dialog
  pub call_id : parts.call_id ≡ dialog.id.call_id
  pub ours : tag_text parts.to.params ≡ dialog.id.ours
  pub theirs : tag_text parts.from.params ≡ dialog.id.theirs

in_dialog : (parts : Parts) (c : StandingCall) (end : End) (o : Option LegDialog) → dialog_of end c.call ≡ o → is_of_dialog parts o ≡ true → IsInDialog parts c end
in_dialog parts c end None is h = absurd (false≢true h)
in_dialog parts c end (Some d) is h =
    let one = and_parts _ _ h in
    let two = and_parts _ _ one.0 in
    record {
      dialog = d;
      has = is;
      call_id = sym ((bytes_decides d.id.call_id parts.call_id).0 two.0);
      ours = sym ((bytes_decides d.id.ours (tag_text parts.to.params)).0 two.1);
      theirs = sym ((bytes_decides d.id.theirs (tag_text parts.from.params)).0 one.1);
    }

-- of any call there
abbrev IsNamedAt : List StandingCall → Request → ℕ → End → Type 0
IsNamedAt standing r place end = (c : StandingCall) → slice_get standing place ≡ Some c → IsInDialog r.parts c end

abbrev FitsRule : List StandingCall → Request → DialogRule → Type 0
FitsRule standing r rules.NoDialog = Unit {0}
FitsRule standing r (rules.OldNumber place end) = IsNamedAt standing r place end
FitsRule standing r (rules.Leaves place end) = IsNamedAt standing r place end × (is_bye r.parts ≡ true)
FitsRule standing r (rules.Offers place end) = IsNamedAt standing r place end × (is_offer r ≡ true)
FitsRule standing r (rules.Plain place end) = IsNamedAt standing r place end

named_at : (standing : List StandingCall) (r : Request) (end : End) (place : ℕ) → place_by_end end r.parts standing ≡ Some place → IsNamedAt standing r place end
named_at standing r end place found c there =
    in_dialog r.parts c end (dialog_of end c.call) refl
    (subst (λ x. is_of_end end r.parts x ≡ true) (get_or_from_slice_get standing place c c there) (position-Some (is_of_end end r.parts) standing place c found).1)

counted_by : (standing : List StandingCall) (r : Request) (place : ℕ) (end : End) (bye offers : Bool) → IsNamedAt standing r place end → is_bye r.parts ≡ bye → is_offer r ≡ offers
    → FitsRule standing r (cond bye (rules.Leaves place end) (cond offers (rules.Offers place end) (rules.Plain place end)))
counted_by standing r place end true offers named b o = (named, b)
counted_by standing r place end false true named b o = (named, o)
counted_by standing r place end false false named b o = named

unless_by : (standing : List StandingCall) (r : Request) (b : Bool) (one other : DialogRule) → FitsRule standing r one → FitsRule standing r other → FitsRule standing r (cond b one other)
unless_by standing r true one other h k = h
unless_by standing r false one other h k = k

dialog_fits : (standing : List StandingCall) (r : Request) (place : ℕ) (end : End) (d : Option LegDialog) → IsNamedAt standing r place end → FitsRule standing r (requests.in_dialog r place end d)
dialog_fits standing r place end None named = tt
dialog_fits standing r place end (Some d) named =
    unless_by standing r _ (requests.counted_rule r place end) (rules.OldNumber place end) (counted_by standing r place end (is_bye r.parts) (is_offer r) named refl refl) named

call_fits : (standing : List StandingCall) (r : Request) (place : ℕ) (end : End) (c : Option StandingCall) → IsNamedAt standing r place end → FitsRule standing r (requests.in_call r place end c)
call_fits standing r place end None named = tt
call_fits standing r place end (Some c) named = unless_by standing r _ rules.NoDialog (requests.in_dialog r place end (dialog_of end c.call)) tt (dialog_fits standing r place end (dialog_of end c.call) named)

callee_fits : (standing : List StandingCall) (r : Request) (place : Option ℕ) → place_by_end Callee r.parts standing ≡ place → FitsRule standing r (requests.of_callee standing r place)
callee_fits standing r None found = tt
callee_fits standing r (Some place) found = call_fits standing r place Callee (slice_get standing place) (named_at standing r Callee place found)

caller_fits : (standing : List StandingCall) (r : Request) (place : Option ℕ) → place_by_end Caller r.parts standing ≡ place → FitsRule standing r (requests.of_caller standing r place)
caller_fits standing r None found = callee_fits standing r (place_by_end Callee r.parts standing) refl
caller_fits standing r (Some place) found = call_fits standing r place Caller (slice_get standing place) (named_at standing r Caller place found)

pub rule_fits : (standing : List StandingCall) (r : Request) (rule : DialogRule) → dialog_rule standing r ≡ rule → FitsRule standing r rule
unfolding dialog_rule
rule_fits standing r rule is = subst (FitsRule standing r) is (caller_fits standing r (place_by_end Caller r.parts standing) refl)

-- ---- what a trace sees of it

pub request_of : (bytes : List ℕ) (r : Request) → IsRequestOf r.parts (trace_message bytes (Kinds.Request r))
unfolding trace_message
request_of bytes r = record { kind = refl; branch = refl; call_id = refl; from_tag = refl; to_tag = refl; number = refl; method = refl }

-- in a dialog of the trace
pub record IsInLeg (parts : Parts) (x : Dialog) : Type 0 where
  pub call_id : parts.call_id ≡ x.call_id
  pub ours : tag_text parts.to.params ≡ x.ours
  pub theirs : tag_text parts.from.params ≡ x.theirs

pub in_leg : (parts : Parts) (c : StandingCall) (end : End) (d : Call) → ShowsLegs c d → IsInDialog parts c end → IsInLeg parts (leg d (is_caller end))
in_leg parts c end d shows h =
    let same = sym (leg_shown c d end h.dialog shows h.has) in
    record {
      call_id = h.call_id ∙ ap (λ (x : Dialog). x.call_id) same;
      ours = h.ours ∙ ap (λ (x : Dialog). x.ours) same;
      theirs = h.theirs ∙ ap (λ (x : Dialog). x.theirs) same;
    }

-- ---- the 200

pub bye_in : (s : Office) (e : Setting) (w : ComingValue) (c : StandingCall) (description : Option Description) (d : Call) (r : Request) (id place : ℕ) (end : End) (tag bytes : List ℕ) → dialog_rule s.calls.calls r ≡ rules.Leaves place end
    → slice_get s.calls.calls place ≡ Some c → ShowsLegs c d → w.request ≡ Some (asker r e id tag) → ByeIn (scene_at s e w c description) (leg d (is_caller end)) (trace_message bytes (Kinds.Request r))
bye_in s e w c description d r id place end tag bytes rule there shows came =
    let fits = rule_fits s.calls.calls r (rules.Leaves place end) rule in
    let found = in_leg r.parts c end d shows (fits.0 c there) in
    let seen = request_of bytes r in
    record {
      asker = lent_asker (asker r e id tag);
      has = rw came refl;
      request = seen;
      method = seen.method ∙ (bytes_decides r.parts.cseq.method (codes "BYE")).0 fits.1;
      call_id = found.call_id;
      ours = found.ours;
      theirs = found.theirs;
      reply_tag = reply_tag r.parts tag;
    }

pub cancel_in : (s : Office) (e : Setting) (w : ComingValue) (c : StandingCall) (description : Option Description) (r : Request) (id : ℕ) (tag text : List ℕ) → message_of text ≡ Ok (Kinds.Request r) → is_method (codes "CANCEL") r ≡ true
    → w.request ≡ Some (asker r e id tag) → CancelIn (scene_at s e w c description)
cancel_in s e w c description r id tag text read is came = record { asker = lent_asker (asker r e id tag); has = rw came refl; method = method_is text r (codes "CANCEL") read is }
