-- The tag of To in the responses to a request (RFC 3261 section 8.2.6.2).
use Rattle.std.proofs.Common.{◌≡◌, ◌≢◌, ◌∙◌, ℕ, Bool, true, false, cond, List, [], ◌∷◌, Option, Some, None, Result, Ok, Err, refl, sym, ap, inl, inr}
use Rattle.std.specs.Prelude.{unwrap_or}
use Rattle.std.proofs.lemmas.Bool.{false≢true}
use Rattle.std.proofs.lemmas.Option.{none-some, same_Some}
use Rattle.sip_uri.specs.NameAddr.{name_addr_of}
use Rattle.sip_uri.specs.declared.error.UriError.{UriError}
use Rattle.sip_uri.specs.declared.uri.NameAddr.{NameAddr}
use Rattle.sip_uri.specs.declared.uri.Param.{Param}
use Rattle.sip_message.specs.Party.{has_fit_tag, party_from, party_of, tag_fits, value_fits}
use Rattle.sip_message.specs.Repeatable.{CanBeRepeated}
use Rattle.sip_message.specs.Words.{tag_text, value_found}
use Rattle.sip_message.specs.declared.message.Parts.{Parts}
use Rattle.sip_writing.specs.Replies.{answered_tag, tag_of}
use Rattle.message_laws.specs.Seeing.{response_tag}
use Rattle.media_laws.specs.Said.{IsReplyTag}

abbrev text_of : Option Param → List ℕ
text_of tag = unwrap_or (value_found tag) []

abbrev answered : Option Param → List ℕ → List ℕ
answered own tag = unwrap_or (value_found (answered_tag 200 own tag)) []

reply_by : (own : Option Param) (tag : List ℕ) → IsReplyTag (text_of own) (answered own tag)
reply_by None tag = inl refl
reply_by (Some own) tag = inr refl

-- the request's own, where it has one
pub reply_tag : (parts : Parts) (tag : List ℕ) → IsReplyTag (tag_text parts.to.params) (response_tag 200 parts tag)
reply_tag parts tag = reply_by (tag_of parts.to.params) tag

kept_by : (own : Option Param) (tag : List ℕ) → text_of own ≢ [] → answered own tag ≡ text_of own
kept_by None tag some = absurd (some refl)
kept_by (Some own) tag some = refl

pub kept_tag : (parts : Parts) (tag : List ℕ) → tag_text parts.to.params ≢ [] → response_tag 200 parts tag ≡ tag_text parts.to.params
kept_tag parts tag some = kept_by (tag_of parts.to.params) tag some

-- ---- else the one that is given, where the header field was read

fits_by : (b : Bool) (n name : NameAddr) → has_fit_tag n.params ≡ b → cond b (Some n) None ≡ Some name → has_fit_tag name.params ≡ true
fits_by true n name fit is = ap (λ (x : NameAddr). has_fit_tag x.params) (sym (same_Some n name is)) ∙ fit
fits_by false n name fit is = absurd (none-some name is)

party_fits : (r : Result NameAddr UriError) (name : NameAddr) → party_from r ≡ Some name → has_fit_tag name.params ≡ true
party_fits (Ok n) name is = fits_by (has_fit_tag n.params) n name refl is
party_fits (Err e) name is = absurd (none-some name is)

read_fits : (text : List ℕ) (name : NameAddr) → party_of text ≡ Some name → has_fit_tag name.params ≡ true
unfolding party_of
read_fits text name is = party_fits (name_addr_of text) name is

-- a tag that fits has a text
value_some : (value : Option (List ℕ)) → value_fits value ≡ true → unwrap_or value [] ≢ []
value_some None fits none = absurd (false≢true fits)
value_some (Some []) fits none = absurd (false≢true fits)
value_some (Some (x ∷ xs)) fits none = absurd cc

given_by : (own : Option Param) (tag : List ℕ) → tag_fits own ≡ true → text_of own ≡ [] → answered own tag ≡ tag
given_by None tag fits none = refl
given_by (Some own) tag fits none = absurd (value_some own.value fits none)

pub given_tag : (parts : Parts) (tag : List ℕ) → CanBeRepeated parts → tag_text parts.to.params ≡ [] → response_tag 200 parts tag ≡ tag
given_tag parts tag read none = given_by (tag_of parts.to.params) tag (read_fits parts.to_text parts.to read.to) none
