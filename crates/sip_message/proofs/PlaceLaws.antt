-- The header fields of a message that was read are in its text, one after the other.
use Rattle.std.proofs.Common.{◌≡◌, ℕ, ◌+◌, List, [], ◌∷◌, ◌++◌, length, Result, Ok, Err, refl, sym, ap, ◌∙◌, append_assoc, length-append}
use Rattle.std.specs.Prelude.{IfOk}
use Rattle.sip_message.specs.declared.error.MessageError.{MessageError}
use Rattle.header_fields.specs.declared.headers.Header.{Header}
use Rattle.sip_message.specs.declared.message.Message.{Message}
use Rattle.sip_message.specs.declared.message.Message.TheVariants as Kinds
use Rattle.sip_message.specs.declared.start.Start.{Start}
use Rattle.sip_message.specs.Contact.{headers_in}
use Rattle.header_fields.specs.Fields.{RawField, field_lines}
use Rattle.sip_message.specs.Grammar.{Opens, ReadsMessage, IsWithin}
use Rattle.header_fields.specs.Head.{all_lines}
use Rattle.header_fields.specs.Lines.{lines_text}
use Rattle.sip_message.specs.Places.{field_text, ArePlaced, IsPlaced}
use Rattle.sip_message.specs.ContentLength.{without_length}

lines_joined : (a b : List (List ℕ)) → lines_text (a ++ b) ≡ lines_text a ++ lines_text b
lines_joined [] b = refl
lines_joined (line ∷ a) b = ap (λ (t : List ℕ). (line ++ 13 ∷ 10 ∷ []) ++ t) (lines_joined a b) ∙ sym (append_assoc (line ++ 13 ∷ 10 ∷ []) (lines_text a) (lines_text b))

placed_from : (fields : List RawField) (text front rest : List ℕ) (place : ℕ) → text ≡ front ++ (lines_text (all_lines fields) ++ rest) → length front ≡ place → ArePlaced text place fields
placed_from [] text front rest place whole at = tt
placed_from (f ∷ fs) text front rest place whole at =
    let left : List ℕ = lines_text (all_lines fs) ++ rest in
    let here : text ≡ front ++ (field_text f ++ left) =
    whole
    ∙ ap (λ (t : List ℕ). front ++ (t ++ rest)) (lines_joined (field_lines f) (all_lines fs))
    ∙ ap (λ (t : List ℕ). front ++ t) (append_assoc (field_text f) (lines_text (all_lines fs)) rest) in (
      record { front = front; rest = left; whole = here; at = at },
      placed_from fs text (front ++ field_text f) rest (place + length (field_text f)) (here ∙ sym (append_assoc front (field_text f) left)) (length-append front (field_text f) ∙ ap (λ (n : ℕ). n + length (field_text f)) at),
    )

opened_placed : (text : List ℕ) (start : Start) (fields headers : List Header) (raw : List ℕ) → Opens text start fields raw → headers ≡ without_length fields → IsPlaced text headers
opened_placed text start fields headers raw opens kept =
    let front : List ℕ = opens.line ++ 13 ∷ 10 ∷ [] in
    let whole : text ≡ front ++ (lines_text (all_lines opens.head.fields) ++ (13 ∷ 10 ∷ raw)) =
    opens.whole
    ∙ ap (λ (t : List ℕ). opens.line ++ 13 ∷ 10 ∷ t) opens.head.whole
    ∙ sym (append_assoc opens.line (13 ∷ 10 ∷ []) (lines_text (all_lines opens.head.fields) ++ (13 ∷ 10 ∷ raw))) in
    record {
      fields = opens.head.fields;
      begin = length front;
      placed = placed_from opens.head.fields text front (13 ∷ 10 ∷ raw) (length front) whole refl;
      says = kept ∙ ap without_length opens.head.says;
    }

message_placed : (text : List ℕ) (m : Message) → ReadsMessage text m → IsPlaced text (headers_in m)
message_placed text (Kinds.Request r) reads = opened_placed text _ reads.fields r.headers reads.raw reads.opens reads.headers
message_placed text (Kinds.Response r) reads = opened_placed text _ reads.fields r.headers reads.raw reads.opens reads.headers

pub placed_at : (text : List ℕ) (r : Result Message MessageError) → IfOk r (λ m. (reads : ReadsMessage text m) × IsWithin text m reads) → IfOk r (λ m. IsPlaced text (headers_in m))
placed_at text (Ok m) h = message_placed text m h.0
placed_at text (Err e) h = tt
