-- What a response can repeat of a request (RFC 3261 sections 8.2.6.2 and 7.3.1).
use Rattle.std.specs.Prelude.{◌≡◌, ℕ, IsTrue, List, [], map, Option, Some, None}
use Rattle.std.specs.List.{list_all}
use Rattle.text.specs.Trim.{trimmed}
use Rattle.sip_message.specs.declared.message.Message.{Message}
use Rattle.sip_message.specs.declared.message.Message.TheVariants as Kinds
use Rattle.sip_message.specs.declared.message.Parts.{Parts}
use Rattle.sip_message.specs.CSeq.{cseq_of}
use Rattle.sip_message.specs.CallId.{is_call_id}
use Rattle.header_fields.specs.Lines.{is_clean}
use Rattle.sip_message.specs.Party.{party_of}
use Rattle.sip_message.specs.Via.{via_of}

-- a header field's value: clean, and without blanks at its ends
pub record IsValue (text : List ℕ) : Type 0 where
  pub clean : IsTrue (is_clean text)
  pub ends : trimmed text ≡ text

-- each of these values is what its text says, and the text is a header field's value
pub record CanBeRepeated (parts : Parts) : Type 0 where
  pub some_via : parts.vias ≡ [] → ⊥
  pub via_texts : List (List ℕ)
  pub vias_clean : IsTrue (list_all is_clean via_texts)
  pub each_via : map via_of via_texts ≡ map (λ via. Some via) parts.vias
  pub from_value : IsValue parts.from_text
  pub from : party_of parts.from_text ≡ Some parts.from
  pub to_value : IsValue parts.to_text
  pub to : party_of parts.to_text ≡ Some parts.to
  pub call_id_value : IsValue parts.call_id
  pub call_id : IsTrue (is_call_id parts.call_id)
  pub cseq_value : IsValue parts.cseq_text
  pub cseq : cseq_of parts.cseq_text ≡ Some parts.cseq

abbrev pub IfRepeatable : Option Parts → Type 0
IfRepeatable None = Unit {0}
IfRepeatable (Some parts) = CanBeRepeated parts

abbrev pub parts_in : Message → Parts
parts_in (Kinds.Request request) = request.parts
parts_in (Kinds.Response response) = response.parts
