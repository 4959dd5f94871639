-- Which texts are messages, by what they are made of, to be read alongside RFC 3261. No limit is part of it: how long
-- a text may be, and how many header lines it may have, is defined separately.
use Rattle.std.specs.Prelude.{◌≡◌, ℕ, Bool, true, false, ◌≤◌, ◌<◌, IsTrue, List, [], ◌∷◌, ◌++◌, length, map, codes, Some, Err}
use Rattle.std.specs.Char.{is_ascii_digit}
use Rattle.text.specs.Class.{is_run_of, is_token_byte}
use Rattle.text.specs.Number.{number_upto}
use Rattle.sip_uri.specs.Grammar.{ReadsUri}
use Rattle.sip_message.specs.Hops.{usual_hops}
use Rattle.sip_message.specs.declared.contact.ContactValue.{ContactValue}
use Rattle.sip_message.specs.declared.error.MessageError.{MessageError}
use Rattle.sip_message.specs.declared.contact.ContactNeed.{ContactNeed}
use Rattle.sip_message.specs.declared.contact.ContactNeed.TheVariants.{One, AtMostOne, Unlooked}
use Rattle.sip_message.specs.declared.error.MessageError.TheVariants.{OutOfMemory, StartLine, Version, HeaderLine, Missing, Unreadable, Short, TooLong}
use Rattle.header_fields.specs.declared.headers.Header.{Header}
use Rattle.sip_message.specs.declared.message.Message.{Message}
use Rattle.sip_message.specs.declared.message.Message.TheVariants as Kinds
use Rattle.sip_message.specs.declared.message.Parts.{Parts}
use Rattle.sip_message.specs.declared.message.Request.{Request}
use Rattle.sip_message.specs.declared.message.Response.{Response}
use Rattle.sip_message.specs.declared.start.RequestLine.{RequestLine}
use Rattle.sip_message.specs.declared.start.Start.{Start}
use Rattle.sip_message.specs.declared.start.Start.TheVariants.{Asking, Answering}
use Rattle.sip_message.specs.declared.start.StatusLine.{StatusLine}
use Rattle.sip_message.specs.Contact.{contacts_of, contact_need, is_one_address, is_one_address_at_most}
use Rattle.sip_message.specs.CSeq.{cseq_of, is_method_for}
use Rattle.sip_message.specs.CallId.{is_call_id}
use Rattle.sip_message.specs.MediaType.{is_media_type}
use Rattle.sip_message.specs.MaxForwards.{max_forwards_of}
use Rattle.header_fields.specs.Head.{ReadsHead, line_count}
use Rattle.header_fields.specs.Lines.{before_line_end, is_clean}
use Rattle.sip_message.specs.Lookup.{values_named}
use Rattle.sip_message.specs.Party.{is_tagged_for, party_of}
use Rattle.sip_message.specs.Read.{contents_of, max_datagram, max_lines}
use Rattle.sip_message.specs.Start.{begins_sip, has_no_space, is_part, is_version, status_read}
use Rattle.sip_message.specs.Via.{via_texts, via_of}
use Rattle.sip_message.specs.ContentLength.{without_length, max_content_length}

-- ---- the start line

-- Request-Line: Method SP Request-URI SP SIP-Version (section 7.1), of any version: the method is a token, and the
-- Request-URI a URI
pub record HasRequestForm (text : List ℕ) (line : RequestLine) (version : List ℕ) : Type 0 where
  pub uri_part : List ℕ
  pub whole : text ≡ line.method ++ 32 ∷ (uri_part ++ 32 ∷ version)
  pub token : IsTrue (is_run_of is_token_byte line.method)
  pub unbroken : IsTrue (has_no_space uri_part)
  pub reads : ReadsUri uri_part line.uri
  pub some_version : IsTrue (is_part version)

-- Status-Line: SIP-Version SP Status-Code SP Reason-Phrase (section 7.2), of any version that begins with `SIP/`: the
-- number has three digits and is 100 to 699, and the reason may be empty
pub record HasStatusForm (text : List ℕ) (line : StatusLine) (version : List ℕ) : Type 0 where
  pub digits : List ℕ
  pub whole : text ≡ version ++ 32 ∷ (digits ++ 32 ∷ line.reason)
  pub begins : IsTrue (begins_sip version)
  pub unbroken : IsTrue (has_no_space version)
  pub reads : status_read digits ≡ Some line.status

abbrev pub HasForm : List ℕ → Start → List ℕ → Type 0
HasForm text (Asking line) version = HasRequestForm text line version
HasForm text (Answering line) version = HasStatusForm text line version

-- a start line (section 7): its version is SIP/2.0, ignoring case
pub record IsStartLine (text : List ℕ) (start : Start) : Type 0 where
  pub version : List ℕ
  pub form : HasForm text start version
  pub sip_2 : IsTrue (is_version version)

-- ---- start line, header fields and what is left

-- the text is a clean start line, these header fields, an empty line and these bytes (section 7)
pub record Opens (text : List ℕ) (start : Start) (fields : List Header) (raw : List ℕ) : Type 0 where
  pub line : List ℕ
  pub rest : List ℕ
  pub whole : text ≡ line ++ 13 ∷ 10 ∷ rest
  pub clean : IsTrue (is_clean line)
  pub begins : IsStartLine line start
  pub head : ReadsHead rest fields raw

-- how many header lines it has, including continuation lines
abbrev pub lines_of : {text : List ℕ} {start : Start} {fields : List Header} {raw : List ℕ} → Opens text start fields raw → ℕ
lines_of opens = line_count opens.head

-- ---- header fields

-- what a response repeats is what the header fields say (section 8.1.1)
pub record SaysParts (start : Start) (fields : List Header) (parts : Parts) : Type 0 where
  -- at least one Via, and each is read, in order (section 20.42)
  pub some_via : parts.vias ≡ [] → ⊥
  pub each_via : map via_of (via_texts fields) ≡ map (λ via. Some via) parts.vias
  -- From occurs once, and has a tag in a request (section 20.20)
  pub one_from : values_named (codes "From") fields ≡ parts.from_text ∷ []
  pub from : party_of parts.from_text ≡ Some parts.from
  pub from_tag : IsTrue (is_tagged_for start parts.from.params)
  -- To occurs once (section 20.39)
  pub one_to : values_named (codes "To") fields ≡ parts.to_text ∷ []
  pub to : party_of parts.to_text ≡ Some parts.to
  -- Call-ID occurs once (section 20.8)
  pub one_call_id : values_named (codes "Call-ID") fields ≡ parts.call_id ∷ []
  pub call_id : IsTrue (is_call_id parts.call_id)
  -- CSeq occurs once, and its method is a request's own (section 20.16)
  pub one_cseq : values_named (codes "CSeq") fields ≡ parts.cseq_text ∷ []
  pub cseq : cseq_of parts.cseq_text ≡ Some parts.cseq
  pub cseq_method : IsTrue (is_method_for start parts.cseq.method)

-- the values of Contact: one address if one is needed, at most one if one is allowed, and otherwise it isn't checked
abbrev pub SaysContact : ContactNeed → List ContactValue → Type 0
SaysContact One values = IsTrue (is_one_address values)
SaysContact AtMostOne values = IsTrue (is_one_address_at_most values)
SaysContact Unlooked values = Unit {0}

-- the values of Max-Forwards, of which there is at most one: it is 0 to 255 (section 20.22), and the usual one if
-- there is none (section 8.1.1.6)
abbrev pub SaysHops : List (List ℕ) → ℕ → Type 0
SaysHops [] hops = hops ≡ usual_hops
SaysHops (text ∷ []) hops = max_forwards_of text ≡ Some hops
SaysHops (one ∷ two ∷ more) hops = ⊥

-- the values of Content-Type, of which there is at most one: it is a media type (section 20.15)
abbrev pub SaysType : List (List ℕ) → Type 0
SaysType [] = Unit {0}
SaysType (text ∷ []) = IsTrue (is_media_type text)
SaysType (one ∷ two ∷ more) = ⊥

-- the values of Content-Length, of which there is at most one (section 20.14): the body is as many bytes as it says,
-- and others may come after them; if there is none, all bytes are the body (section 18.3)
abbrev pub SaysBody : List (List ℕ) → List ℕ → List ℕ → Type 0
SaysBody [] raw body = body ≡ raw
SaysBody (text ∷ []) raw body = IsTrue (is_run_of is_ascii_digit text) × (number_upto max_content_length text ≡ Some (length body)) × ((behind : List ℕ) × (raw ≡ body ++ behind))
SaysBody (one ∷ two ∷ more) raw body = ⊥

-- values and body are what the header fields, and the bytes after them, say
pub record Says (start : Start) (fields : List Header) (raw : List ℕ) (parts : Parts) (hops : ℕ) (body : List ℕ) : Type 0 where
  pub says_parts : SaysParts start fields parts
  pub says_contact : SaysContact (contact_need start parts.cseq.method) (contacts_of fields)
  pub says_hops : SaysHops (values_named (codes "Max-Forwards") fields) hops
  pub says_type : SaysType (values_named (codes "Content-Type") fields)
  pub says_body : SaysBody (values_named (codes "Content-Length") fields) raw body

-- ---- messages

abbrev pub start_of_request : Request → Start
start_of_request request = Asking (record { method = request.method; uri = request.uri })

abbrev pub start_of_response : Response → Start
start_of_response response = Answering (record { status = response.status; reason = response.reason })

-- the text is this request (section 7.1)
pub record ReadsRequest (text : List ℕ) (request : Request) : Type 0 where
  pub fields : List Header
  pub raw : List ℕ
  pub opens : Opens text (start_of_request request) fields raw
  pub says : Says (start_of_request request) fields raw request.parts request.max_forwards request.body
  pub headers : request.headers ≡ without_length fields

-- the text is this response (section 7.2)
pub record ReadsResponse (text : List ℕ) (response : Response) : Type 0 where
  pub fields : List Header
  pub raw : List ℕ
  pub hops : ℕ
  pub opens : Opens text (start_of_response response) fields raw
  pub says : Says (start_of_response response) fields raw response.parts hops response.body
  pub headers : response.headers ≡ without_length fields

-- the text is this message
abbrev pub ReadsMessage : List ℕ → Message → Type 0
ReadsMessage text (Kinds.Request request) = ReadsRequest text request
ReadsMessage text (Kinds.Response response) = ReadsResponse text response

-- how many header lines it has
abbrev pub header_lines : (text : List ℕ) (message : Message) → ReadsMessage text message → ℕ
header_lines text (Kinds.Request request) reads = lines_of reads.opens
header_lines text (Kinds.Response response) reads = lines_of reads.opens

-- ---- limits and refusals

abbrev pub IsShort : List ℕ → Type 0
IsShort text = length text ≤ max_datagram

abbrev pub IsWithin : (text : List ℕ) (message : Message) → ReadsMessage text message → Type 0
IsWithin text message reads = IsShort text × (header_lines text message reads ≤ max_lines)

-- start line and header fields are well formed; the first header field, in the order of `HeaderName`, that does not
-- give its value has this fault, or otherwise the body has it
pub record RefusesContents (text : List ℕ) (fault : MessageError) : Type 0 where
  pub short : IsShort text
  pub start : Start
  pub fields : List Header
  pub raw : List ℕ
  pub opens : Opens text start fields raw
  pub few : lines_of opens ≤ max_lines
  pub first : contents_of start fields raw ≡ Err fault

-- the text has this fault, and none before it
abbrev pub Refuses : List ℕ → MessageError → Type 0
Refuses text OutOfMemory = Unit {0}
Refuses text TooLong = max_datagram < length text
Refuses text StartLine = IsShort text × ((start : Start) (version : List ℕ) → HasForm (before_line_end text) start version → ⊥)
Refuses text Version = IsShort text × ((start : Start) × (version : List ℕ) × HasForm (before_line_end text) start version × ¬ (IsTrue (is_version version)))
Refuses text HeaderLine =
    IsShort text × ((start : Start) × IsStartLine (before_line_end text) start)
    × ((start : Start) (fields : List Header) (raw : List ℕ) (opens : Opens text start fields raw) → lines_of opens ≤ max_lines → ⊥)
Refuses text (Missing name) = RefusesContents text (Missing name)
Refuses text (Unreadable name) = RefusesContents text (Unreadable name)
Refuses text Short = RefusesContents text Short
