-- What is read of a message, so that a response can be made for it.
use Rattle.std.proofs.Common.{◌≡◌, ◌∙◌, ℕ, ◌≤◌, Bool, true, false, ◌&&◌, cond, nat_le, List, codes, Option, Some, None, Result, Ok, Err, refl, sym, ap, arith}
use Rattle.std.specs.Prelude.{IsTrue, nat_eq, unwrap_or}
use Rattle.std.specs.Char.{is_ascii_digit}
use Rattle.std.specs.Cmp.Lexicographic.{pointwise}
use Rattle.std.specs.List.{list_all}
use Rattle.std.specs.Str.Parse.{digits_value}
use Rattle.std.proofs.lemmas.Bool.{leb-true}
use Rattle.std.proofs.lemmas.Option.{none-some, same_Some}
use Rattle.std.proofs.lemmas.Slice.Eq.{bytes_eq-Decides}
use Rattle.sip_uri.specs.declared.error.UriError.{UriError}
use Rattle.sip_uri.specs.declared.uri.NameAddr.{NameAddr}
use Rattle.sip_uri.specs.declared.uri.Param.{Param}
use Rattle.sip_uri.specs.Binding.{param_named}
use Rattle.sip_uri.specs.NameAddr.{name_addr_of}
use Rattle.sip_message.specs.declared.error.MessageError.{MessageError}
use Rattle.sip_message.specs.declared.message.Message.{Message}
use Rattle.sip_message.specs.declared.message.Message.TheVariants as Kinds
use Rattle.sip_message.specs.declared.message.Request.{Request}
use Rattle.sip_message.specs.declared.message.Response.{Response}
use Rattle.sip_message.specs.Party.{has_fit_tag, party_from, party_of, tag_fits, value_fits}
use Rattle.sip_message.specs.Read.{message_of}
use Rattle.sip_message.specs.Start.{from_100, status_read}
use Rattle.sip_message.specs.Words.{tag_value, value_found}
use Rattle.text.specs.Class.{is_run_of, is_token_byte}
use Rattle.text.specs.Number.{number_upto}
use Rattle.plans.specs.Replies.{tag_in, tag_of}
use Rattle.message_laws.proofs.TokenUse.Grounds.{read_repeats}
use Rattle.message_laws.proofs.Messages.ReadMessages.{message_reads}

-- ---- the method

-- the method of CSeq is the request's own (RFC 3261 section 8.1.1.5)
pub same_method : (bytes : List ℕ) (r : Request) → message_of bytes ≡ Ok (Kinds.Request r) → r.parts.cseq.method ≡ r.method
same_method bytes r read = (bytes_eq-Decides r.parts.cseq.method r.method).0 (message_reads bytes (Kinds.Request r) read).says.says_parts.cseq_method

pub method_is : (bytes : List ℕ) (r : Request) (method : List ℕ) → message_of bytes ≡ Ok (Kinds.Request r) → pointwise nat_eq r.method method ≡ true → r.parts.cseq.method ≡ method
method_is bytes r method read is = same_method bytes r read ∙ (bytes_eq-Decides r.method method).0 is

-- ---- the status

pub record IsStatus (status : ℕ) : Type 0 where
  pub low : 100 ≤ status
  pub high : status ≤ 699

below_by : (a b : Bool) (n limit status : ℕ) → (b ≡ true → n ≤ limit) → cond (a && b) (Some n) None ≡ Some status → status ≤ limit
below_by true true n limit status le is = omega (arith, le refl, same_Some n status is)
below_by true false n limit status le is = absurd (none-some status is)
below_by false b n limit status le is = absurd (none-some status is)

upto : (limit status : ℕ) (digits : List ℕ) → number_upto limit digits ≡ Some status → status ≤ limit
upto limit status digits is =
    below_by (list_all is_ascii_digit digits) (nat_le (digits_value 10 digits) limit) (digits_value 10 digits) limit status (λ e. leb-true (digits_value 10 digits) limit e) is

from_by : (b : Bool) (n status : ℕ) → (b ≡ true → 100 ≤ n) → n ≤ 699 → cond b (Some n) None ≡ Some status → IsStatus status
from_by true n status low high is = let same = same_Some n status is in record { low = omega (arith, low refl, same); high = omega (arith, high, same) }
from_by false n status low high is = absurd (none-some status is)

from_hundred : (o : Option ℕ) (status : ℕ) → ((n : ℕ) → o ≡ Some n → n ≤ 699) → from_100 o ≡ Some status → IsStatus status
from_hundred None status high is = absurd (none-some status is)
from_hundred (Some n) status high is = from_by (nat_le 100 n) n status (λ e. leb-true 100 n e) (high n refl) is

status_by : (b : Bool) (digits : List ℕ) (status : ℕ) → cond b (from_100 (number_upto 699 digits)) None ≡ Some status → IsStatus status
status_by true digits status is = from_hundred (number_upto 699 digits) status (λ n e. upto 699 n digits e) is
status_by false digits status is = absurd (none-some status is)

status_is : (digits : List ℕ) (status : ℕ) → status_read digits ≡ Some status → IsStatus status
unfolding status_read
status_is digits status is = status_by _ digits status is

-- the status of a response that was read
pub response_status : (bytes : List ℕ) (r : Response) → message_of bytes ≡ Ok (Kinds.Response r) → IsStatus r.status
response_status bytes r read = let reads = message_reads bytes (Kinds.Response r) read in status_is reads.opens.begins.form.digits r.status reads.opens.begins.form.reads

-- ---- tags

abbrev pub IsTokenRun : List ℕ → Type 0
IsTokenRun text = IsTrue (is_run_of is_token_byte text)

abbrev pub IsTokenIf : Option (List ℕ) → Type 0
IsTokenIf None = Unit {0}
IsTokenIf (Some tag) = IsTokenRun tag

fits_by : (tag : Option Param) → tag_fits tag ≡ true → IsTokenIf (value_found tag)
fits_by None h = tt
fits_by (Some tag) h = value_by tag.value h
  where
    value_by : (value : Option (List ℕ)) → value_fits value ≡ true → IsTokenIf value
    value_by None v = tt
    value_by (Some text) v = v

-- a name that was read as From or To has a tag that is a token, if it has one (section 19.3)
named_fits : (b : Bool) (n name : NameAddr) → has_fit_tag n.params ≡ b → cond b (Some n) None ≡ Some name → has_fit_tag name.params ≡ true
named_fits true n name fit is = ap (λ (x : NameAddr). has_fit_tag x.params) (sym (same_Some n name is)) ∙ fit
named_fits false n name fit is = absurd (none-some name is)

party_fits : (r : Result NameAddr UriError) (name : NameAddr) → party_from r ≡ Some name → has_fit_tag name.params ≡ true
party_fits (Ok n) name is = named_fits (has_fit_tag n.params) n name refl is
party_fits (Err e) name is = absurd (none-some name is)

pub party_tag : (text : List ℕ) (name : NameAddr) → party_of text ≡ Some name → IsTokenIf (tag_value name.params)
unfolding party_of
party_tag text name is = fits_by (param_named (codes "tag") name.params) (party_fits (name_addr_of text) name is)

-- ---- the tag of a response that was sent

message_tag : (bytes : List ℕ) (read : Result Message MessageError) → message_of bytes ≡ read → IsTokenIf (tag_of read)
message_tag bytes (Ok (Kinds.Request r)) is = tt
message_tag bytes (Ok (Kinds.Response r)) is = let parts = read_repeats bytes (Kinds.Response r) is in party_tag r.parts.to_text r.parts.to parts.to
message_tag bytes (Err fault) is = tt

pub sent_tag : (sent : Option (List ℕ)) → IsTokenIf (tag_in sent)
sent_tag None = tt
sent_tag (Some bytes) = message_tag bytes (message_of bytes) refl

pub token_or : (o : Option (List ℕ)) (other : List ℕ) → IsTokenIf o → IsTokenRun other → IsTokenRun (unwrap_or o other)
token_or None other h k = k
token_or (Some tag) other h k = h
