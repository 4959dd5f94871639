-- The tags that a request requires, as they are reported back (RFC 3261 section 20.40): of header fields that were
-- read, a value that can be written.
use Rattle.std.proofs.Common.{◌≡◌, ◌∙◌, ℕ, Bool, true, false, cond, List, [], ◌∷◌, ◌++◌, codes, filter, flat_map, map, Ok, refl, sym, ap, subst}
use Rattle.std.specs.List.{list_all}
use Rattle.std.proofs.lemmas.Bool.{and_from, and_parts}
use Rattle.std.proofs.lemmas.List.{append-nil}
use Rattle.text.specs.Pieces.{pieces}
use Rattle.text.specs.Trim.{trimmed, without_end}
use Rattle.text.specs.declared.split.Within.TheVariants.{Nothing}
use Rattle.sip_message.specs.declared.headers.Header.{Header}
use Rattle.sip_message.specs.declared.message.Message.TheVariants as Kinds
use Rattle.sip_message.specs.declared.message.Request.{Request}
use Rattle.sip_message.specs.HeaderNames.{long_name}
use Rattle.sip_message.specs.Lines.{is_clean}
use Rattle.sip_message.specs.Lookup.{is_named, named, values_named}
use Rattle.sip_message.specs.Read.{message_of}
use Rattle.sip_message.specs.Written.{is_written}
use Rattle.sip_message.proofs.CleanLaws.{clean_pieces}
use Rattle.sip_message.proofs.ReadWritten.{read_is_written}
use Rattle.sip_message.proofs.ValueLaws.{IsTrim, clean_joined, end_behind, trim_same, trimmed_clean, trimmed_is}
use Rattle.sip_message.proofs.WrittenLaws.{is_written_from, written_is}
use Rattle.responses.specs.Tags.{behind_comma, is_some_text, joined_tags, required_tags, tags_in}
use Rattle.message_laws.proofs.Messages.ReadMessages.{message_reads}

-- ---- header fields that were read

all_kept : (p q : Header → Bool) (hs : List Header) → list_all p hs ≡ true → list_all p (filter q hs) ≡ true
all_kept p q [] h = refl
all_kept p q (x ∷ hs) h = let parts = and_parts (p x) (list_all p hs) h in kept_by (q x) parts.0 (all_kept p q hs parts.1)
  where
    kept_by : (b : Bool) → p x ≡ true → list_all p (filter q hs) ≡ true → list_all p (cond b (x ∷ filter q hs) (filter q hs)) ≡ true
    kept_by true one more = and_from _ _ one more
    kept_by false one more = more

headers_written : (bytes : List ℕ) (r : Request) → message_of bytes ≡ Ok (Kinds.Request r) → list_all is_written r.headers ≡ true
headers_written bytes r read =
    let reads = message_reads bytes (Kinds.Request r) read in
    subst (λ (hs : List Header). list_all is_written hs ≡ true) (sym reads.headers) (all_kept is_written _ reads.fields (read_is_written reads.opens.rest reads.fields reads.raw reads.opens.head))

values_clean : (name : List ℕ) (hs : List Header) → list_all is_written hs ≡ true → list_all is_clean (values_named name hs) ≡ true
values_clean name [] h = refl
values_clean name (x ∷ hs) h = let parts = and_parts (is_written x) (list_all is_written hs) h in value_by (is_named name x) (written_is x parts.0).clean (values_clean name hs parts.1)
  where
    value_by : (b : Bool) → is_clean x.value ≡ true → list_all is_clean (values_named name hs) ≡ true → list_all is_clean (map (λ (y : Header). y.value) (cond b (x ∷ filter (is_named name) hs) (filter (is_named name) hs))) ≡ true
    value_by true one more = and_from _ _ one more
    value_by false one more = more

-- ---- tags

record IsTag (tag : List ℕ) : Type 0 where
  clean : is_clean tag ≡ true
  trim : IsTrim tag
  some : is_some_text tag ≡ true

abbrev AreTags : List (List ℕ) → Type 0
AreTags [] = Unit {0}
AreTags (tag ∷ tags) = IsTag tag × AreTags tags

tags_joined : (xs ys : List (List ℕ)) → AreTags xs → AreTags ys → AreTags (xs ++ ys)
tags_joined [] ys h k = k
tags_joined (x ∷ xs) ys h k = (h.0, tags_joined xs ys h.1 k)

pieces_tags : (ps : List (List ℕ)) → list_all is_clean ps ≡ true → AreTags (filter is_some_text (map trimmed ps))
pieces_tags [] h = tt
pieces_tags (p ∷ ps) h = let parts = and_parts (is_clean p) (list_all is_clean ps) h in tag_by (is_some_text (trimmed p)) refl (trimmed_clean p parts.0) (pieces_tags ps parts.1)
  where
    tag_by : (b : Bool) → is_some_text (trimmed p) ≡ b → is_clean (trimmed p) ≡ true → AreTags (filter is_some_text (map trimmed ps))
        → AreTags (cond b (trimmed p ∷ filter is_some_text (map trimmed ps)) (filter is_some_text (map trimmed ps)))
    tag_by true some clean more = (record { clean = clean; trim = trimmed_is p; some = some }, more)
    tag_by false some clean more = more

values_tags : (values : List (List ℕ)) → list_all is_clean values ≡ true → AreTags (flat_map tags_in values)
values_tags [] h = tt
values_tags (value ∷ values) h =
    let parts = and_parts (is_clean value) (list_all is_clean values) h in
    tags_joined (tags_in value) (flat_map tags_in values) (pieces_tags (pieces 44 Nothing value) (clean_pieces 44 Nothing value parts.0)) (values_tags values parts.1)

-- ---- with a comma and a space between each two

behind_clean : (tags : List (List ℕ)) → AreTags tags → is_clean (behind_comma tags) ≡ true
behind_clean [] h = refl
behind_clean (tag ∷ tags) h = clean_joined (codes ", " ++ tag) (behind_comma tags) (clean_joined (codes ", ") tag refl h.0.clean) (behind_clean tags h.1)

none_some : is_some_text [] ≡ true → ⊥
none_some e = cc

joined_end : (tag : List ℕ) (tags : List (List ℕ)) → IsTag tag → AreTags tags → without_end (tag ++ behind_comma tags) ≡ tag ++ behind_comma tags
joined_end tag [] one more = ap without_end (append-nil tag) ∙ one.trim.back ∙ sym (append-nil tag)
joined_end tag ([] ∷ tags) one more = absurd (none_some more.0.some)
joined_end tag ((b ∷ bs) ∷ tags) one more = end_behind tag 44 (32 ∷ b ∷ (bs ++ behind_comma tags)) (end_behind (44 ∷ 32 ∷ []) b (bs ++ behind_comma tags) (joined_end (b ∷ bs) tags more.0 more.1))

joined_value : (tags : List (List ℕ)) → AreTags tags → (is_clean (joined_tags tags) ≡ true) × (trimmed (joined_tags tags) ≡ joined_tags tags)
joined_value [] h = (refl, refl)
joined_value ([] ∷ tags) h = absurd (none_some h.0.some)
joined_value ((b ∷ bs) ∷ tags) h = (
  clean_joined (b ∷ bs) (behind_comma tags) h.0.clean (behind_clean tags h.1),
  trim_same ((b ∷ bs) ++ behind_comma tags) (record { front = h.0.trim.front; back = joined_end (b ∷ bs) tags h.0 h.1 }),
)

pub unsupported_written : (bytes : List ℕ) (r : Request) → message_of bytes ≡ Ok (Kinds.Request r) → is_written (named (codes "Unsupported") (joined_tags (required_tags r.headers))) ≡ true
unfolding long_name
unsupported_written bytes r read =
    let value = joined_value (required_tags r.headers) (values_tags (values_named (codes "Require") r.headers) (values_clean (codes "Require") r.headers (headers_written bytes r read))) in
    is_written_from (named (codes "Unsupported") (joined_tags (required_tags r.headers))) (record { token = refl; long = refl; clean = value.0; trim = value.1 })
