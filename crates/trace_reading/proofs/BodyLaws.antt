-- What a body describes.
use Rattle.std.proofs.Common.{◌≡◌, ◌↔◌, ℕ, Bool, true, false, cond, List, Some, None, Result, Ok, Err, refl, ap}
use Rattle.std.specs.Prelude.{IsTrue}
use Rattle.sdp.specs.declared.description.Description.{Description}
use Rattle.sdp.specs.declared.error.DescriptionError.{DescriptionError}
use Rattle.sdp.specs.Grammar.{ReadsDescription}
use Rattle.sdp.specs.Reading.{description_of}
use Rattle.sdp.proofs.GrammarLaws.{is_found, is_read}
use Rattle.sip_message.specs.declared.headers.Header.{Header}
use Rattle.sip_message.specs.declared.message.Message.{Message}
use Rattle.sip_message.specs.Contact.{headers_in}
use Rattle.trace_reading.specs.Body.{may_describe, if_read, description_in}
use Rattle.trace_reading.specs.Message.{body_in, trace_message}

abbrev read : Description → Result Description DescriptionError
read d = Ok d

read_if : (r : Result Description DescriptionError) (d : Description) → if_read r ≡ Some d → r ≡ Ok d
read_if (Ok e) d h = let same : e ≡ d = cc in ap read same
read_if (Err e) d h = absurd cc

describes : (headers : List Header) (body : List ℕ) (d : Description) → description_in headers body ≡ Some d → IsTrue (may_describe headers) × ReadsDescription body d
unfolding description_in
describes headers body d h = step (may_describe headers) refl h where
  step : (b : Bool) → may_describe headers ≡ b → cond b (if_read (description_of body)) None ≡ Some d → IsTrue (may_describe headers) × ReadsDescription body d
  step true e k = (e, is_found body d (read_if (description_of body) d k))
  step false e k = absurd cc

described : (headers : List Header) (body : List ℕ) (d : Description) → IsTrue (may_describe headers) × ReadsDescription body d → description_in headers body ≡ Some d
unfolding description_in
described headers body d h = rw (h.0, is_read body d h.1) refl

pub bodies_both : (bytes : List ℕ) (m : Message) (d : Description) → (trace_message bytes m).description ≡ Some d ↔ (IsTrue (may_describe (headers_in m)) × ReadsDescription (body_in m) d)
unfolding trace_message
bodies_both bytes m d = (describes (headers_in m) (body_in m) d, described (headers_in m) (body_in m) d)
