-- What messages that were read say of the dialogs that they begin or go on with, and where their senders are reached.
use Rattle.std.proofs.Common.{◌≡◌, ℕ, Bool, true, false, cond, not, ◌||◌, List, [], ◌∷◌, codes, Option, Some, None, is_some, Result, Ok, Err, refl, sym, subst}
use Rattle.std.specs.Prelude.{IsTrue, unwrap_or}
use Rattle.std.specs.List.{list_all}
use Rattle.std.proofs.lemmas.Bool.{false≢true}
use Rattle.std.proofs.lemmas.Option.{none-some, same_Some}
use Rattle.text.specs.Class.{is_run_of, is_token_byte}
use Rattle.sip_uri.specs.Address.{address_of}
use Rattle.sip_uri.specs.Binding.{param_named}
use Rattle.sip_uri.specs.NameAddr.{ReadsNameAddr, name_addr_of}
use Rattle.sip_uri.specs.declared.error.UriError.{UriError}
use Rattle.sip_uri.specs.declared.uri.NameAddr.{NameAddr}
use Rattle.sip_uri.specs.declared.uri.Param.{Param}
use Rattle.sip_uri.specs.declared.uri.Uri.{Uri}
use Rattle.sip_message.specs.Contact.{contacts_of}
use Rattle.sip_message.specs.Grammar.{ReadsMessage}
use Rattle.sip_message.specs.Party.{has_fit_tag, party_from, party_of, tag_fits, value_fits}
use Rattle.sip_message.specs.Read.{message_of}
use Rattle.sip_message.specs.Words.{tag_text, value_found}
use Rattle.sip_message.specs.declared.contact.ContactValue.{ContactValue}
use Rattle.sip_message.specs.declared.contact.ContactValue.TheVariants.{Address, Star, Unreadable}
use Rattle.sip_message.specs.declared.headers.Header.{Header}
use Rattle.sip_message.specs.declared.message.Message.{Message}
use Rattle.sip_message.specs.declared.message.Message.TheVariants as Kinds
use Rattle.sip_message.specs.declared.message.Parts.{Parts}
use Rattle.sip_message.specs.declared.message.Request.{Request}
use Rattle.sip_message.specs.declared.message.Response.{Response}
use Rattle.dialogs.specs.Making.{callees_dialog, callers_dialog, reached_at}
use Rattle.dialogs.specs.Sound.{IsReadUri, IsSound}
use Rattle.call_rules.specs.Reach.{contact_address, is_reached, leaves_unreached}
use Rattle.call_rules.specs.Speaking.{is_invite, is_update, may_offer}
use Rattle.message_laws.specs.Sound.{IsSoundLeg, IsTarget, IsTargetIf, SaysDialog}
use Rattle.message_laws.proofs.StandingCalls.Texts.{all_of_run}

-- what is known of messages and dialogs: a message, and a name and an address, that is read is one by the grammar, the
-- dialog of an INVITE that was read is sound, and the URI of a Contact was read
pub record Reading : Type 0 where
  pub message : (text : List ℕ) (m : Message) → message_of text ≡ Ok m → ReadsMessage text m
  pub name : (text : List ℕ) (name : NameAddr) → name_addr_of text ≡ Ok name → ReadsNameAddr text name
  pub callee : (text : List ℕ) (invite : Request) (tag : List ℕ) (target : Uri) → ReadsMessage text (Kinds.Request invite) → IsTrue (is_run_of is_token_byte tag)
      → reached_at (contacts_of invite.headers) ≡ Some target → IsSound (callees_dialog invite tag target)
  pub contact : (headers : List Header) (uri : Uri) → reached_at (contacts_of headers) ≡ Some uri → IsReadUri uri

-- the URI of a name and an address
pub name_read : Reading → (text : List ℕ) (name : NameAddr) → name_addr_of text ≡ Ok name → IsReadUri name.uri
name_read reading text name h =
    let reads = reading.name text name h in
    record { text = reads.raw.uri; reads = reads.uri }

-- ---- the tag of a header field that was read

value_all : (value : Option (List ℕ)) → value_fits value ≡ true → list_all is_token_byte (unwrap_or value []) ≡ true
value_all None h = absurd (false≢true h)
value_all (Some value) h = all_of_run is_token_byte value h

tag_all : (tag : Option Param) → tag_fits tag ≡ true → list_all is_token_byte (unwrap_or (value_found tag) []) ≡ true
tag_all None h = refl
tag_all (Some tag) h = value_all tag.value h

fits_by : (n name : NameAddr) (b : Bool) → has_fit_tag n.params ≡ b → cond b (Some n) None ≡ Some name → has_fit_tag name.params ≡ true
fits_by n name true fits e = subst (λ (x : NameAddr). has_fit_tag x.params ≡ true) (same_Some n name e) fits
fits_by n name false fits e = absurd (none-some name e)

party_fits : (r : Result NameAddr UriError) (name : NameAddr) → party_from r ≡ Some name → has_fit_tag name.params ≡ true
party_fits (Err e) name h = absurd (none-some name h)
party_fits (Ok n) name h = fits_by n name (has_fit_tag n.params) refl h

party_tag : (text : List ℕ) (name : NameAddr) → party_of text ≡ Some name → list_all is_token_byte (tag_text name.params) ≡ true
unfolding party_of
party_tag text name h = tag_all (param_named (codes "tag") name.params) (party_fits (name_addr_of text) name h)

-- the other side's tag, in a response
their_tag : (text : List ℕ) (r : Response) → ReadsMessage text (Kinds.Response r) → list_all is_token_byte (tag_text r.parts.to.params) ≡ true
their_tag text r reads = party_tag r.parts.to_text r.parts.to reads.says.says_parts.to

-- ---- where the sender of a message is reached

contact_leads : (values : List ContactValue) (uri : Uri) → reached_at values ≡ Some uri → is_some (contact_address values) ≡ true → is_some (address_of uri) ≡ true
unfolding contact_address
contact_leads [] uri e h = absurd (none-some uri e)
contact_leads (Star ∷ more) uri e h = absurd (none-some uri e)
contact_leads (Unreadable ∷ more) uri e h = absurd (none-some uri e)
contact_leads (Address name ∷ []) uri e h = subst (λ u. is_some (address_of u) ≡ true) (same_Some name.uri uri e) h
contact_leads (Address name ∷ other ∷ more) uri e h = absurd (none-some uri e)

is_true : (b : Bool) → not b ≡ false → b ≡ true
is_true true e = refl
is_true false e = absurd (false≢true (sym e))

reached_by : (invite update reached : Bool) → cond invite (not reached) (cond update (not reached) false) ≡ false → (invite || update) ≡ true → reached ≡ true
reached_by true update reached h offers = is_true reached h
reached_by false true reached h offers = is_true reached h
reached_by false false reached h offers = absurd (false≢true offers)

spoken_leads : (parts : Parts) (values : List ContactValue) (uri : Uri) → may_offer parts ≡ true → leaves_unreached parts values ≡ false → reached_at values ≡ Some uri → is_some (address_of uri) ≡ true
spoken_leads parts [] uri offers h e = absurd (none-some uri e)
spoken_leads parts (value ∷ more) uri offers h e = contact_leads (value ∷ more) uri e (reached_by (is_invite parts) (is_update parts) (is_reached (value ∷ more)) h offers)

target_by : (target : Option Uri) → ((uri : Uri) → target ≡ Some uri → IsTarget uri) → IsTargetIf target
target_by None h = tt
target_by (Some uri) h = h uri refl

-- the Contact of an INVITE or UPDATE, or of a 2xx to one, that leaves nobody unreached
pub reached_target : Reading → (parts : Parts) (headers : List Header) → may_offer parts ≡ true → leaves_unreached parts (contacts_of headers) ≡ false → IsTargetIf (reached_at (contacts_of headers))
reached_target reading parts headers offers reached =
    target_by (reached_at (contacts_of headers)) (λ uri e. record { read = reading.contact headers uri e; leads = spoken_leads parts (contacts_of headers) uri offers reached e })

-- ---- dialogs that begin

-- with the sender of an INVITE
pub callees_leg : Reading → (text : List ℕ) (r : Request) (tag : List ℕ) (target : Uri) → message_of text ≡ Ok (Kinds.Request r) → is_run_of is_token_byte tag ≡ true
    → is_some (contact_address (contacts_of r.headers)) ≡ true → reached_at (contacts_of r.headers) ≡ Some target → IsSoundLeg (callees_dialog r tag target)
callees_leg reading text r tag target read token reached at_target = record {
  sound = reading.callee text r tag target (reading.message text (Kinds.Request r) read) token at_target;
  leads = contact_leads (contacts_of r.headers) target at_target reached;
}

-- with the sender of a 2xx to a request of the server's own
pub callers_sound : Reading → (text : List ℕ) (asked : Parts) (r : Response) (target : Uri) → message_of text ≡ Ok (Kinds.Response r) → SaysDialog asked → IsReadUri target → IsSound (callers_dialog asked r target)
callers_sound reading text asked r target read says is_read = record {
  call_id = says.call_id;
  call_id_value = says.call_id_value;
  our_tag = says.tag;
  their_tag = their_tag text r (reading.message text (Kinds.Response r) read);
  ours = says.from;
  theirs = says.to;
  target = is_read;
}
