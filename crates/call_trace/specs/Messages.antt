-- What a message is to a trace, and which response replies to which request.
use Rattle.std.specs.Prelude.{◌≡◌, ℕ, Bool, true, false, not, ◌&&◌, ◌==◌, nat_eq, nat_le, nat_lt, List, [], ◌∷◌, codes, is_some, ◌⊎◌, IsTrue}
use Rattle.std.specs.List.{list_any}
use Rattle.std.specs.Cmp.Lexicographic.{pointwise}
use Rattle.call_trace.specs.declared.datagram.Kind.{Kind}
use Rattle.call_trace.specs.declared.datagram.Kind.TheVariants.{Request, Response}
use Rattle.call_trace.specs.declared.datagram.Message.{Message}

-- ---- kinds (RFC 3261 section 7)

abbrev pub is_request : Kind → Bool
is_request Request = true
is_request (Response status) = false

-- a final response (section 7.2)
abbrev pub is_final : Kind → Bool
is_final Request = false
is_final (Response status) = nat_le 200 status

-- a 2xx
abbrev pub is_success : Kind → Bool
is_success Request = false
is_success (Response status) = nat_le 200 status && nat_lt status 300

-- a 200
abbrev pub is_ok : Kind → Bool
is_ok Request = false
is_ok (Response status) = status == 200

-- ---- methods

abbrev pub is_method : List ℕ → List ℕ → Bool
is_method name method = pointwise nat_eq method name

abbrev pub invite : List ℕ
invite = codes "INVITE"

abbrev pub ack : List ℕ
ack = codes "ACK"

abbrev pub bye : List ℕ
bye = codes "BYE"

abbrev pub cancel : List ℕ
cancel = codes "CANCEL"

-- RFC 3311
abbrev pub update : List ℕ
update = codes "UPDATE"

-- the methods that may carry an offer (RFC 3261 section 13.2.1, RFC 3311 section 5.1)
abbrev pub offering : List (List ℕ)
offering = invite ∷ update ∷ []

-- the method is one of these
abbrev pub is_listed : List (List ℕ) → List ℕ → Bool
is_listed methods method = list_any (λ name. pointwise nat_eq name method) methods

-- the request is of one of these methods
abbrev pub asks : List (List ℕ) → Message → Bool
asks methods m = is_request m.kind && is_listed methods m.method

-- a request with an offer: of a method that may carry one, with a description (RFC 3261 section 13.2.1)
abbrev pub is_offer : List (List ℕ) → Message → Bool
is_offer methods m = asks methods m && is_some m.description

-- a 2xx with an answer
abbrev pub is_answer : Message → Bool
is_answer m = is_success m.kind && is_some m.description

-- a request of this method
abbrev pub is_request_of : List ℕ → Message → Bool
is_request_of name m = is_request m.kind && is_method name m.method

-- a 2xx to an INVITE
abbrev pub accepts : Message → Bool
accepts m = is_success m.kind && is_method invite m.method

-- ---- replies

-- The response replies to the request: it has the top branch, Call-ID, From tag, CSeq number and method of the request,
-- and its To tag where it has one (RFC 3261 sections 8.2.6.2 and 17.1.3).
pub record Replies (response request : Message) : Type 0 where
  pub response_kind : IsTrue (not (is_request response.kind))
  pub request_kind : IsTrue (is_request request.kind)
  pub branch : response.branch ≡ request.branch
  pub call_id : response.call_id ≡ request.call_id
  pub from_tag : response.from_tag ≡ request.from_tag
  pub number : response.number ≡ request.number
  pub method : response.method ≡ request.method
  pub to_tag : (request.to_tag ≡ []) ⊎ (response.to_tag ≡ request.to_tag)
