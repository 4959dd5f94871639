-- A request that was read and offers, in a dialog of a call or as the first INVITE of one.
use Rattle.std.proofs.Common.{◌≡◌, ◌∙◌, ℕ, Bool, true, false, ◌||◌, List, [], codes, Some, None, Ok, refl, sym, ap, subst}
use Rattle.std.specs.Prelude.{IsTrue, slice_get, unwrap_or}
use Rattle.std.specs.Cmp.Lexicographic.{bytes_decides}
use Rattle.std.proofs.lemmas.Bool.{false≢true}
use Rattle.sip_uri.specs.declared.uri.Uri.{Uri}
use Rattle.sip_message.specs.Read.{message_of}
use Rattle.sip_message.specs.Words.{tag_value}
use Rattle.sip_message.specs.declared.message.Message.TheVariants as Kinds
use Rattle.sip_message.specs.declared.message.Parts.{Parts}
use Rattle.sip_message.specs.declared.message.Request.{Request}
use Rattle.sdp.specs.declared.description.Description.{Description}
use Rattle.dialogs.specs.Making.{callees_dialog}
use Rattle.call_media.specs.declared.end.End.{End}
use Rattle.calls.specs.declared.standing_call.StandingCall.{StandingCall}
use Rattle.call_rules.specs.Content.{described}
use Rattle.call_rules.specs.Requests.{dialog_rule}
use Rattle.call_rules.specs.Speaking.{is_invite, is_update, may_offer}
use Rattle.call_rules.specs.DialogRule as rules
use Rattle.responses.specs.Words.{is_method}
use Rattle.call_trace.specs.declared.call.Call.{Call}
use Rattle.call_trace.specs.Messages.{invite, is_listed, offering, update}
use Rattle.call_trace.specs.Stands.{leg}
use Rattle.trace_reading.specs.Message.{dialog_named, trace_message}
use Rattle.message_laws.proofs.StandingCalls.Reaching.{offers_may_offer}
use Rattle.message_laws.proofs.Messages.ReadBodies.{description_seen}
use Rattle.message_laws.proofs.Messages.ReadParts.{method_is}
use Rattle.media_laws.specs.Said.{Offers}
use Rattle.media_laws.specs.Shows.{ShowsLegs, is_caller}
use Rattle.media_laws.proofs.Scenes.Leaving.{in_leg, request_of, rule_fits}

-- ---- its method

listed_by : (parts : Parts) (first second : Bool) → is_invite parts ≡ first → is_update parts ≡ second → (first || second) ≡ true → IsTrue (is_listed offering parts.cseq.method)
listed_by parts true second one two h = subst (λ name. IsTrue (is_listed offering name)) (sym ((bytes_decides parts.cseq.method invite).0 one)) refl
listed_by parts false true one two h = subst (λ name. IsTrue (is_listed offering name)) (sym ((bytes_decides parts.cseq.method update).0 two)) refl
listed_by parts false false one two h = absurd (false≢true h)

listed : (parts : Parts) → may_offer parts ≡ true → IsTrue (is_listed offering parts.cseq.method)
listed parts h = listed_by parts (is_invite parts) (is_update parts) refl refl h

-- ---- its description

said_by : (bytes : List ℕ) (r : Request) (offer : Description) → described r.headers r.body ≡ Some offer → (trace_message bytes (Kinds.Request r)).description ≡ Some offer
said_by bytes r offer is = description_seen bytes (Kinds.Request r) ∙ is

-- ---- in a dialog

pub offers_in : (standing : List StandingCall) (r : Request) (place : ℕ) (end : End) (c : StandingCall) (d : Call) (offer : Description) (bytes : List ℕ) → dialog_rule standing r ≡ rules.Offers place end
    → slice_get standing place ≡ Some c → ShowsLegs c d → described r.headers r.body ≡ Some offer → Offers (leg d (is_caller end)) offer (trace_message bytes (Kinds.Request r))
offers_in standing r place end c d offer bytes rule there shows said =
    let fits = rule_fits standing r (rules.Offers place end) rule in
    let found = in_leg r.parts c end d shows (fits.0 c there) in
    let seen = request_of bytes r in
    record {
      parts = r.parts;
      request = seen;
      listed = subst (λ name. IsTrue (is_listed offering name)) (sym seen.method) (listed r.parts (offers_may_offer standing r place end rule));
      call_id = found.call_id;
      theirs = found.theirs;
      said = said_by bytes r offer said;
    }

pub offers_to : (standing : List StandingCall) (r : Request) (place : ℕ) (end : End) (c : StandingCall) (d : Call) (bytes : List ℕ) → dialog_rule standing r ≡ rules.Offers place end → slice_get standing place ≡ Some c → ShowsLegs c d
    → (trace_message bytes (Kinds.Request r)).to_tag ≡ (leg d (is_caller end)).ours
offers_to standing r place end c d bytes rule there shows =
    (request_of bytes r).to_tag ∙ (in_leg r.parts c end d shows ((rule_fits standing r (rules.Offers place end) rule).0 c there)).ours

-- ---- the first

pub first_offers : (r : Request) (tag : List ℕ) (contact : Uri) (offer : Description) (text bytes : List ℕ) → message_of text ≡ Ok (Kinds.Request r) → is_method (codes "INVITE") r ≡ true → described r.headers r.body ≡ Some offer
    → Offers (dialog_named (callees_dialog r tag contact).id) offer (trace_message bytes (Kinds.Request r))
first_offers r tag contact offer text bytes read is said =
    let seen = request_of bytes r in
    record {
      parts = r.parts;
      request = seen;
      listed = subst (λ name. IsTrue (is_listed offering name)) (sym (seen.method ∙ method_is text r (codes "INVITE") read is)) refl;
      call_id = refl;
      theirs = refl;
      said = said_by bytes r offer said;
    }

pub first_untagged : (r : Request) (bytes : List ℕ) → tag_value r.parts.to.params ≡ None → (trace_message bytes (Kinds.Request r)).to_tag ≡ []
first_untagged r bytes none = (request_of bytes r).to_tag ∙ ap (λ o. unwrap_or o []) none
