-- Dialogs of messages that were read are sound.
use Rattle.std.proofs.Common.{◌≡◌, ◌==◌, ℕ, Bool, true, false, cond, List, [], ◌∷◌, length, map, codes, Option, Some, None, Result, Ok, Err, refl, subst}
use Rattle.std.specs.Prelude.{filter, IsTrue, if◌then◌else◌}
use Rattle.sip_uri.specs.declared.uri.Param.{Param}
use Rattle.std.specs.List.{list_all}
use Rattle.std.proofs.lemmas.Bool.{and_parts}
use Rattle.text.specs.Class.{is_run_of, is_token_byte}
use Rattle.sip_uri.specs.declared.error.UriError.{UriError}
use Rattle.sip_uri.specs.declared.uri.NameAddr.{NameAddr}
use Rattle.sip_uri.specs.declared.uri.Uri.{Uri}
use Rattle.sip_uri.specs.Grammar.{ReadsUri}
use Rattle.sip_uri.specs.NameAddr.{ReadsNameAddr, name_addr_of}
use Rattle.sip_uri.proofs.NameLaws.{name_is_found}
use Rattle.sip_message.specs.declared.contact.ContactValue.{ContactValue}
use Rattle.sip_message.specs.declared.contact.ContactValue.TheVariants.{Star, Address, Unreadable}
use Rattle.sip_message.specs.declared.headers.Header.{Header}
use Rattle.sip_message.specs.declared.message.Message.TheVariants as Kinds
use Rattle.sip_message.specs.declared.message.Parts.{Parts}
use Rattle.sip_message.specs.declared.message.Request.{Request}
use Rattle.sip_message.specs.declared.message.Response.{Response}
use Rattle.sip_message.specs.Contact.{is_star, address_or_not, contact_of, contact_texts, contacts_of}
use Rattle.sip_message.specs.Grammar.{ReadsMessage}
use Rattle.sip_message.specs.Lookup.{named, is_named, values_named}
use Rattle.sip_message.specs.HeaderNames.{long_name}
use Rattle.sip_message.specs.Party.{has_fit_tag, party_from, party_of}
use Rattle.sip_message.specs.Repeatable.{IsValue}
use Rattle.sip_message.specs.Written.{is_written}
use Rattle.sip_writing.proofs.AnswerTrip.{written_with}
use Rattle.sip_message.proofs.WrittenLaws.{written_is}
use Rattle.sip_message.proofs.ReadWritten.{read_is_written}
use Rattle.dialogs.specs.declared.state.Dialog.{Dialog}
use Rattle.sip_message.specs.Words.{tag_text}
use Rattle.dialogs.specs.Making.{own_tag, reached_at, party_named, callees_dialog, callers_dialog}
use Rattle.dialogs.specs.Sound.{IsReadUri, IsReadParty, IsSound}
use Rattle.dialogs.proofs.TagLaws.{tag_token, tag_run}

-- ---- values of header fields

abbrev value_list : Bool → Header → List Header → List ℕ → Type 0
value_list named h hs v = map (λ (x : Header). x.value) (cond named (h ∷ hs) hs) ≡ v ∷ []

pub value_of_read : (name : List ℕ) (hs : List Header) (v : List ℕ) → list_all is_written hs ≡ true → values_named name hs ≡ v ∷ [] → IsValue v
value_of_read name [] v h e = absurd cc
value_of_read name (x ∷ hs) v h e = step (is_named name x) (value_of_read name hs v parts.1) e where
  parts : (is_written x ≡ true) × (list_all is_written hs ≡ true)
  parts = and_parts (is_written x) (list_all is_written hs) h

  is : IsValue x.value
  is = let w = written_is x parts.0 in record { clean = w.clean; ends = w.trim }

  step : (b : Bool) → (values_named name hs ≡ v ∷ [] → IsValue v) → value_list b x (filter (is_named name) hs) v → IsValue v
  step true more k = let same : x.value ≡ v = cc in subst (λ (t : List ℕ). IsValue t) same is
  step false more k = more k

-- ---- From and To

pub record IsRead (text : List ℕ) (name : NameAddr) : Type 0 where
  pub reads : ReadsNameAddr text name
  pub fits : has_fit_tag name.params ≡ true

party_is : (text : List ℕ) (name : NameAddr) → party_of text ≡ Some name → IsRead text name
unfolding party_of
party_is text name h = step (name_addr_of text) refl h where
  found : (b : Bool) (n : NameAddr) → name_addr_of text ≡ Ok n → has_fit_tag n.params ≡ b → cond b (Some n) None ≡ Some name → IsRead text name
  found true n e k m =
      let same : n ≡ name = cc in
      subst (λ (x : NameAddr). IsRead text x) same (record { reads = name_is_found text n e; fits = k })
  found false n e k m = absurd cc

  step : (r : Result NameAddr UriError) → name_addr_of text ≡ r → party_from r ≡ Some name → IsRead text name
  step (Ok n) e k = found (has_fit_tag n.params) n e refl k
  step (Err x) e k = absurd cc

-- what the header fields of a message say of a dialog
pub record SaysEnds (parts : Parts) : Type 0 where
  pub from : IsReadParty (party_named parts.from)
  pub from_tag : list_all is_token_byte (tag_text parts.from.params) ≡ true
  pub to : IsReadParty (party_named parts.to)
  pub to_tag : list_all is_token_byte (tag_text parts.to.params) ≡ true
  pub call_id : IsValue parts.call_id

ends_said : (fields : List Header) (parts : Parts) → list_all is_written fields ≡ true → values_named (codes "From") fields ≡ parts.from_text ∷ [] → party_of parts.from_text ≡ Some parts.from
    → values_named (codes "To") fields ≡ parts.to_text ∷ [] → party_of parts.to_text ≡ Some parts.to → values_named (codes "Call-ID") fields ≡ parts.call_id ∷ [] → SaysEnds parts
ends_said fields parts written one_from from_is one_to to_is one_call_id =
    let from = party_is parts.from_text parts.from from_is in
    let to = party_is parts.to_text parts.to to_is in
    record {
      from = record { text = parts.from_text; params = parts.from.params; reads = from.reads; clean = (value_of_read (codes "From") fields parts.from_text written one_from).clean };
      from_tag = tag_token parts.from.params from.fits;
      to = record { text = parts.to_text; params = parts.to.params; reads = to.reads; clean = (value_of_read (codes "To") fields parts.to_text written one_to).clean };
      to_tag = tag_token parts.to.params to.fits;
      call_id = value_of_read (codes "Call-ID") fields parts.call_id written one_call_id;
    }

request_ends : (text : List ℕ) (r : Request) → ReadsMessage text (Kinds.Request r) → SaysEnds r.parts
request_ends text r reads =
    let says = reads.says.says_parts in
    let written = read_is_written reads.opens.rest reads.fields reads.raw reads.opens.head in
    ends_said reads.fields r.parts written says.one_from says.from says.one_to says.to says.one_call_id

response_ends : (text : List ℕ) (r : Response) → ReadsMessage text (Kinds.Response r) → SaysEnds r.parts
response_ends text r reads =
    let says = reads.says.says_parts in
    let written = read_is_written reads.opens.rest reads.fields reads.raw reads.opens.head in
    ends_said reads.fields r.parts written says.one_from says.from says.one_to says.to says.one_call_id

-- ---- Contact

contact_read : (text : List ℕ) (uri : Uri) → reached_at (contact_of text ∷ []) ≡ Some uri → IsReadUri uri
unfolding contact_of
contact_read text uri h = step (is_star text) (name_addr_of text) refl h where
  step : (b : Bool) (r : Result NameAddr UriError) → name_addr_of text ≡ r → reached_at (cond b Star (address_or_not r) ∷ []) ≡ Some uri → IsReadUri uri
  step true r e k = absurd cc
  step false (Ok n) e k =
      let reads = name_is_found text n e in
      let same : n.uri ≡ uri = cc in
      record { text = reads.raw.uri; reads = subst (λ (u : Uri). ReadsUri reads.raw.uri u) same reads.uri }
  step false (Err x) e k = absurd cc

only_one : (a b : ContactValue) (more : List ContactValue) → reached_at (a ∷ b ∷ more) ≡ None
only_one Star b more = refl
only_one Unreadable b more = refl
only_one (Address n) b more = refl

some_uri : (o : Option Uri) (uri : Uri) → o ≡ None → o ≡ Some uri → ⊥
some_uri o uri h k = cc

pub target_of : (texts : List (List ℕ)) (uri : Uri) → reached_at (map contact_of texts) ≡ Some uri → IsReadUri uri
target_of [] uri h = absurd cc
target_of (t ∷ []) uri h = contact_read t uri h
target_of (t ∷ u ∷ more) uri h = absurd (some_uri (reached_at (map contact_of (t ∷ u ∷ more))) uri (only_one (contact_of t) (contact_of u) (map contact_of more)) h)

-- ---- dialogs

-- the tag of the server's answers is a token
own_is : (params : List Param) (tag : List ℕ) → list_all is_token_byte (tag_text params) ≡ true → is_run_of is_token_byte tag ≡ true
    → is_run_of is_token_byte (if length (tag_text params) == 0 then tag else tag_text params) ≡ true
own_is params tag fits token = step (length (tag_text params) == 0) refl where
  step : (b : Bool) → (length (tag_text params) == 0) ≡ b → is_run_of is_token_byte (cond b tag (tag_text params)) ≡ true
  step true e = token
  step false e = rw e fits

pub callees_is_sound : (text : List ℕ) (invite : Request) (tag : List ℕ) (target : Uri) → ReadsMessage text (Kinds.Request invite) → IsTrue (is_run_of is_token_byte tag)
    → reached_at (contacts_of invite.headers) ≡ Some target → IsSound (callees_dialog invite tag target)
callees_is_sound text invite tag target reads token reached =
    let says = reads.says.says_parts in
    let ends = request_ends text invite reads in
    let uri = target_of (contact_texts invite.headers) target reached in
    record {
      call_id = says.call_id;
      call_id_value = ends.call_id;
      our_tag = own_is invite.parts.to.params tag ends.to_tag token;
      their_tag = ends.from_tag;
      ours = ends.to;
      theirs = ends.from;
      target = uri;
    }

pub callers_is_sound : (text answer_text : List ℕ) (invite : Request) (response : Response) (target : Uri) → ReadsMessage text (Kinds.Request invite) → ReadsMessage answer_text (Kinds.Response response)
    → reached_at (contacts_of response.headers) ≡ Some target → IsSound (callers_dialog invite.parts response target)
callers_is_sound text answer_text invite response target reads answered reached =
    let says = reads.says.says_parts in
    let ends = request_ends text invite reads in
    let answer_ends = response_ends answer_text response answered in
    let uri = target_of (contact_texts response.headers) target reached in
    record {
      call_id = says.call_id;
      call_id_value = ends.call_id;
      our_tag = tag_run invite.parts.from.params (party_is invite.parts.from_text invite.parts.from says.from).fits says.from_tag;
      their_tag = answer_ends.to_tag;
      ours = ends.from;
      theirs = ends.to;
      target = uri;
    }

-- numbers are no part of it
pub counted_is_sound : (d : Dialog) (local_number remote_number : Option ℕ) → IsSound d → IsSound (record d { local_number = local_number; remote_number = remote_number })
counted_is_sound d local_number remote_number h = record {
  call_id = h.call_id;
  call_id_value = h.call_id_value;
  our_tag = h.our_tag;
  their_tag = h.their_tag;
  ours = h.ours;
  theirs = h.theirs;
  target = h.target;
}

-- another target that was read
pub refreshed_is_sound : (d : Dialog) (target : Uri) → IsSound d → IsReadUri target → IsSound (record d { target = target })
refreshed_is_sound d target h reads = record {
  call_id = h.call_id;
  call_id_value = h.call_id_value;
  our_tag = h.our_tag;
  their_tag = h.their_tag;
  ours = h.ours;
  theirs = h.theirs;
  target = reads;
}
