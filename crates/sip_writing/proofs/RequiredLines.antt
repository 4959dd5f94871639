-- The header fields that each request has, line by line.
use Rattle.std.proofs.Common.{◌≡◌, ◌∙◌, ◌++◌, ◌∷◌, [], ℕ, List, codes, decimal, refl, sym, ap, append_assoc, append-nil}
use Rattle.sip_message.specs.declared.headers.Header.{Header}
use Rattle.sip_message.specs.declared.message.Parts.{Parts}
use Rattle.sip_message.specs.Lookup.{named}
use Rattle.sip_writing.specs.Reply.{via_headers}
use Rattle.sip_writing.specs.Requests.{headers_with}
use Rattle.sip_writing.specs.Writing.{header_text, headers_text}
use Rattle.sip_writing.proofs.MessageRoundTrip.{headers_joined}

pub list_is : (hops : ℕ) (p : Parts) → headers_with hops p
    ≡ ((((via_headers p.vias ++ named (codes "Max-Forwards") (decimal hops) ∷ []) ++ named (codes "From") p.from_text ∷ []) ++ named (codes "To") p.to_text ∷ [])
    ++ named (codes "Call-ID") p.call_id ∷ []) ++ named (codes "CSeq") p.cseq_text ∷ []
unfolding headers_with
list_is hops p = refl

-- one more line
pub one : (o : List ℕ) (hs : List Header) (h : Header) → (o ++ headers_text hs) ++ header_text h ≡ o ++ headers_text (hs ++ h ∷ [])
one o hs h = append_assoc o (headers_text hs) (header_text h) ∙ ap (λ t. o ++ t) (sym (headers_joined hs h))

pub lines : (o : List ℕ) (hs : List Header) (a b c d e : Header) → (((((o ++ headers_text hs) ++ header_text a) ++ header_text b) ++ header_text c) ++ header_text d) ++ header_text e
    ≡ o ++ headers_text (((((hs ++ a ∷ []) ++ b ∷ []) ++ c ∷ []) ++ d ∷ []) ++ e ∷ [])
lines o hs a b c d e =
    rw (one o hs a, one o (hs ++ a ∷ []) b, one o ((hs ++ a ∷ []) ++ b ∷ []) c, one o (((hs ++ a ∷ []) ++ b ∷ []) ++ c ∷ []) d)
    (one o ((((hs ++ a ∷ []) ++ b ∷ []) ++ c ∷ []) ++ d ∷ []) e)

-- the first one, before which there is none
pub first_line : (o : List ℕ) (h : Header) → o ++ header_text h ≡ o ++ headers_text (h ∷ [])
first_line o h = ap (λ t. t ++ header_text h) (sym (append-nil o)) ∙ one o [] h

-- ---- the end of a line and the next name at once

line_before : (label value rest : List ℕ) → (label ++ (value ++ codes "\r\n")) ++ rest ≡ label ++ (value ++ (codes "\r\n" ++ rest))
line_before label value rest = append_assoc label (value ++ codes "\r\n") rest ∙ ap (λ (t : List ℕ). label ++ t) (append_assoc value (codes "\r\n") rest)

both_texts : (hs gs : List Header) → headers_text (hs ++ gs) ≡ headers_text hs ++ headers_text gs
both_texts [] gs = refl
both_texts (h ∷ hs) gs = ap (λ (t : List ℕ). header_text h ++ t) (both_texts hs gs) ∙ sym (append_assoc (header_text h) (headers_text hs) (headers_text gs))

four_behind : (hs : List Header) (a b c d : Header) → hs ++ (a ∷ b ∷ c ∷ d ∷ []) ≡ (((hs ++ a ∷ []) ++ b ∷ []) ++ c ∷ []) ++ d ∷ []
four_behind hs a b c d = sym (append_assoc ((hs ++ a ∷ []) ++ b ∷ []) (c ∷ []) (d ∷ []) ∙ append_assoc (hs ++ a ∷ []) (b ∷ []) (c ∷ d ∷ []) ∙ append_assoc hs (a ∷ []) (b ∷ c ∷ d ∷ []))

call_lines : (call cseq : List ℕ) → List Header
call_lines call cseq = named (codes "Call-ID") call ∷ named (codes "CSeq") cseq ∷ []

call_text : (call cseq : List ℕ) → codes "\r\nCall-ID: " ++ (call ++ (codes "\r\nCSeq: " ++ (cseq ++ codes "\r\n"))) ≡ codes "\r\n" ++ headers_text (call_lines call cseq)
unfolding call_lines
call_text call cseq =
    let last : codes "CSeq: " ++ (cseq ++ codes "\r\n") ≡ headers_text (named (codes "CSeq") cseq ∷ []) = sym (append-nil (codes "CSeq: " ++ (cseq ++ codes "\r\n"))) in
    ap (λ (t : List ℕ). codes "\r\nCall-ID: " ++ (call ++ (codes "\r\n" ++ t))) last
    ∙ ap (λ (t : List ℕ). codes "\r\n" ++ t) (sym (line_before (codes "Call-ID: ") call (headers_text (named (codes "CSeq") cseq ∷ []))))

rest_text : (from to call cseq : List ℕ) → codes "From: " ++ (from ++ (codes "\r\nTo: " ++ (to ++ (codes "\r\n" ++ headers_text (call_lines call cseq)))))
    ≡ headers_text (named (codes "From") from ∷ named (codes "To") to ∷ call_lines call cseq)
rest_text from to call cseq =
    ap (λ (t : List ℕ). codes "From: " ++ (from ++ (codes "\r\n" ++ t))) (sym (line_before (codes "To: ") to (headers_text (call_lines call cseq))))
    ∙ sym (line_before (codes "From: ") from (headers_text (named (codes "To") to ∷ call_lines call cseq)))

-- after the lines that are there
pub joined_lines : (o : List ℕ) (hs : List Header) (from to call cseq : List ℕ)
    → (((((o ++ headers_text hs) ++ codes "From: ") ++ from) ++ codes "\r\nTo: ") ++ to) ++ (codes "\r\nCall-ID: " ++ (call ++ (codes "\r\nCSeq: " ++ (cseq ++ codes "\r\n"))))
    ≡ o ++ headers_text ((((hs ++ named (codes "From") from ∷ []) ++ named (codes "To") to ∷ []) ++ named (codes "Call-ID") call ∷ []) ++ named (codes "CSeq") cseq ∷ [])
unfolding call_lines
joined_lines o hs from to call cseq =
    let front : List ℕ = headers_text hs in
    let name : List ℕ = codes "From: " in
    let next : List ℕ = codes "\r\nTo: " in
    let rest : List ℕ = codes "\r\nCall-ID: " ++ (call ++ (codes "\r\nCSeq: " ++ (cseq ++ codes "\r\n"))) in
    let all : List Header = named (codes "From") from ∷ named (codes "To") to ∷ call_lines call cseq in
    append_assoc ((((o ++ front) ++ name) ++ from) ++ next) to rest ∙ append_assoc (((o ++ front) ++ name) ++ from) next (to ++ rest) ∙ append_assoc ((o ++ front) ++ name) from (next ++ (to ++ rest))
    ∙ append_assoc (o ++ front) name (from ++ (next ++ (to ++ rest))) ∙ append_assoc o front (name ++ (from ++ (next ++ (to ++ rest))))
    ∙ ap (λ (t : List ℕ). o ++ (front ++ (name ++ (from ++ (next ++ (to ++ t)))))) (call_text call cseq)
    ∙ ap (λ (t : List ℕ). o ++ (front ++ t)) (rest_text from to call cseq)
    ∙ ap (λ (t : List ℕ). o ++ t) (sym (both_texts hs all))
    ∙ ap (λ (t : List Header). o ++ headers_text t) (four_behind hs (named (codes "From") from) (named (codes "To") to) (named (codes "Call-ID") call) (named (codes "CSeq") cseq))
