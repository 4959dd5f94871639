-- What the header fields of a message say is what is read from them.
use Rattle.std.proofs.Common.{◌≡◌, ℕ, ◌+◌, ◌≤◌, Bool, true, false, cond, leb, List, [], ◌∷◌, ◌++◌, length, map, take, drop, Option, Some, None, Result, Ok, Err, refl, sym, ap, subst, ◌∙◌, codes, arith}
use Rattle.std.specs.Char.{is_ascii_digit}
use Rattle.std.proofs.lemmas.Bool.{leb-true, le-leb}
use Rattle.std.proofs.lemmas.List.{take-append-drop, take_at, length-take-le, length-append}
use Rattle.text.specs.Class.{is_run_of}
use Rattle.text.specs.Number.{number_upto}
use Rattle.sip_uri.specs.declared.uri.NameAddr.{NameAddr}
use Rattle.sip_message.specs.declared.contact.ContactValue.{ContactValue}
use Rattle.sip_message.specs.declared.cseq.CSeq.{CSeq}
use Rattle.sip_message.specs.declared.cseq.Sequence.{Sequence}
use Rattle.sip_message.specs.declared.header_names.HeaderName.{HeaderName}
use Rattle.sip_message.specs.declared.header_names.HeaderName.TheVariants as Names
use Rattle.sip_message.specs.declared.error.MessageError.{MessageError}
use Rattle.sip_message.specs.declared.error.MessageError.TheVariants.{Missing, Unreadable, Short}
use Rattle.header_fields.specs.declared.headers.Header.{Header}
use Rattle.sip_message.specs.declared.message.Parts.{Parts}
use Rattle.sip_message.specs.declared.contact.ContactNeed.{ContactNeed}
use Rattle.sip_message.specs.declared.contact.ContactNeed.TheVariants.{One, AtMostOne, Unlooked}
use Rattle.sip_message.specs.declared.party.Ends.{Ends}
use Rattle.sip_message.specs.declared.party.Party.{Party}
use Rattle.sip_message.specs.declared.read.Contents.{Contents}
use Rattle.sip_message.specs.declared.start.Start.{Start}
use Rattle.sip_message.specs.declared.values.Values.{Values}
use Rattle.sip_message.specs.declared.via.Via.{Via}
use Rattle.sip_message.specs.Contact.{contacts_of, contact_need, is_one_address, is_one_address_at_most}
use Rattle.sip_message.specs.CSeq.{cseq_of, is_method_for}
use Rattle.sip_message.specs.Faults.{and_then, readable}
use Rattle.sip_message.specs.CallId.{is_call_id}
use Rattle.sip_message.specs.MediaType.{is_media_type}
use Rattle.sip_message.specs.MaxForwards.{max_forwards_of}
use Rattle.sip_message.specs.Grammar.{SaysParts, SaysContact, SaysHops, SaysType, SaysBody, Says}
use Rattle.sip_message.specs.Lookup.{values_named, at_most_one, exactly_one}
use Rattle.sip_message.specs.Party.{is_tagged_for, party_of}
use Rattle.sip_message.specs.Read.{contents_of}
use Rattle.sip_message.specs.Via.{with_via, each_via, via_texts, some_vias, via_of}
use Rattle.sip_message.specs.Values.{if_tagged, with_text, from_for, to_of, call_id_of, of_method, with_number, cseq_for, one_address, contacts_for, contact_for, hops_by, hops_of, type_by, type_of, ends_for, parts_with, parts_of, hops_behind, values_of}
use Rattle.sip_message.specs.ContentLength.{max_content_length, long_enough, body_by, body_of}

-- ---- steps

abbrev ok : {X : Type 0} → X → Result X MessageError
ok x = Ok x

abbrev failed : {X : Type 0} → MessageError → Result X MessageError
failed e = Err e

ok_is : {X : Type 0} (x y : X) → ok x ≡ ok y → x ≡ y
ok_is x y h = cc

no_ok : {X : Type 0} (e : MessageError) (x : X) → failed {X = X} e ≡ ok x → ⊥
no_ok e x h = cc

abbrev some : {X : Type 0} → X → Option X
some x = Some x

some_is : {X : Type 0} (x y : X) → some x ≡ some y → x ≡ y
some_is x y h = cc

pub then_ok : {X Y : Type 0} (r : Result X MessageError) (next : X → Result Y MessageError) (y : Y) → and_then r next ≡ Ok y → (x : X) × (r ≡ Ok x) × (next x ≡ Ok y)
then_ok (Ok x) next y h = (x, refl, h)
then_ok (Err e) next y h = absurd (no_ok e y h)

readable_is : {X : Type 0} (name : HeaderName) (o : Option X) (x : X) → readable name o ≡ Ok x → o ≡ Some x
readable_is name None x h = absurd (no_ok (Unreadable name) x h)
readable_is name (Some y) x h = ap (λ z. some z) (ok_is y x h)

one_is : (name : HeaderName) (values : List (List ℕ)) (v : List ℕ) → exactly_one name values ≡ Ok v → values ≡ v ∷ []
one_is name [] v h = absurd (no_ok (Missing name) v h)
one_is name (w ∷ []) v h = ap (λ (t : List ℕ). t ∷ []) (ok_is w v h)
one_is name (w ∷ x ∷ more) v h = absurd (no_ok (Unreadable name) v h)

-- ---- Via

head_is : (a b : Option Via) (more rest : List (Option Via)) → a ∷ more ≡ b ∷ rest → (a ≡ b) × (more ≡ rest)
head_is a b more rest h = (cc, cc)

pub vias_are : (texts : List (List ℕ)) (vias : List Via) → each_via texts ≡ Some vias → map via_of texts ≡ map (λ via. some via) vias
vias_are [] vias h = let none : [] ≡ vias = some_is [] vias h in rw (← none) refl
vias_are (text ∷ texts) vias h = step (via_of text) (each_via texts) refl refl h (λ vs k. vias_are texts vs k) where
  step : (o : Option Via) (p : Option (List Via)) → via_of text ≡ o → each_via texts ≡ p → with_via o p ≡ Some vias → ((vs : List Via) → each_via texts ≡ Some vs → map via_of texts ≡ map (λ via. some via) vs)
      → map via_of (text ∷ texts) ≡ map (λ via. some via) vias
  step None p e k is others = absurd cc
  step (Some via) None e k is others = absurd cc
  step (Some via) (Some more) e k is others =
      let all : via ∷ more ≡ vias = some_is (via ∷ more) vias is in
      rw (← all, e) (ap (λ (os : List (Option Via)). some via ∷ os) (others more k))

vias_again : (texts : List (List ℕ)) (vias : List Via) → map via_of texts ≡ map (λ via. some via) vias → each_via texts ≡ Some vias
vias_again [] [] h = refl
vias_again [] (via ∷ vias) h = absurd cc
vias_again (text ∷ texts) [] h = absurd cc
vias_again (text ∷ texts) (via ∷ vias) h =
    let parts = head_is (via_of text) (Some via) (map via_of texts) (map (λ v. some v) vias) h in
    rw (parts.0, vias_again texts vias parts.1) refl

record SomeVias (texts : List (List ℕ)) (vias : List Via) : Type 0 where
  there : vias ≡ [] → ⊥
  each : map via_of texts ≡ map (λ via. some via) vias

some_vias_are : (texts : List (List ℕ)) (vias : List Via) → some_vias texts ≡ Ok vias → SomeVias texts vias
some_vias_are [] vias h = absurd (no_ok (Missing Names.Via) vias h)
some_vias_are (text ∷ texts) vias h =
    let each = vias_are (text ∷ texts) vias (readable_is Names.Via (each_via (text ∷ texts)) vias h) in
    record { there = λ none. no_text (each ∙ ap (map (λ via. some via)) none); each = each } where
      no_text : via_of text ∷ map via_of texts ≡ [] → ⊥
      no_text e = cc

some_vias_again : (texts : List (List ℕ)) (vias : List Via) → (vias ≡ [] → ⊥) → map via_of texts ≡ map (λ via. some via) vias → some_vias texts ≡ Ok vias
some_vias_again [] [] there each = absurd (there refl)
some_vias_again [] (via ∷ vias) there each = absurd cc
some_vias_again (text ∷ texts) vias there each = ap (readable Names.Via) (vias_again (text ∷ texts) vias each)

-- ---- From and To

record IsParty (values : List (List ℕ)) (p : Party) : Type 0 where
  one : values ≡ p.text ∷ []
  name : party_of p.text ≡ Some p.name

text_is : (text : List ℕ) (r : Result NameAddr MessageError) (p : Party) → with_text text r ≡ Ok p → (text ≡ p.text) × (r ≡ Ok p.name)
text_is text (Ok name) p h =
    let same : record { text = text; name = name } ≡ p = ok_is (record { text = text; name = name }) p h in
    (ap (λ (q : Party). q.text) same, ap (λ (q : Party). ok q.name) same)
text_is text (Err e) p h = absurd (no_ok e p h)

tagged_is : (start : Start) (o : Option NameAddr) (name : NameAddr) → if_tagged start o ≡ Some name → (o ≡ Some name) × (is_tagged_for start name.params ≡ true)
tagged_is start None name h = absurd cc
tagged_is start (Some n) name h = step (is_tagged_for start n.params) refl h where
  step : (b : Bool) → is_tagged_for start n.params ≡ b → cond b (some n) None ≡ Some name → (some n ≡ some name) × (is_tagged_for start name.params ≡ true)
  step true e k = (k, ap (λ (x : NameAddr). is_tagged_for start x.params) (sym (some_is n name k)) ∙ e)
  step false e k = absurd cc

from_is : (start : Start) (fields : List Header) (p : Party) → from_for start fields ≡ Ok p → IsParty (values_named (codes "From") fields) p × (is_tagged_for start p.name.params ≡ true)
from_is start fields p h =
    let t = then_ok (exactly_one Names.From (values_named (codes "From") fields)) (λ text. with_text text (readable Names.From (if_tagged start (party_of text)))) p h in
    let is = text_is t.0 (readable Names.From (if_tagged start (party_of t.0))) p t.2 in
    let tagged = tagged_is start (party_of t.0) p.name (readable_is Names.From (if_tagged start (party_of t.0)) p.name is.1) in
    (record { one = one_is Names.From (values_named (codes "From") fields) t.0 t.1 ∙ ap (λ (x : List ℕ). x ∷ []) is.0; name = ap party_of (sym is.0) ∙ tagged.0 }, tagged.1)

to_is : (fields : List Header) (p : Party) → to_of fields ≡ Ok p → IsParty (values_named (codes "To") fields) p
to_is fields p h =
    let t = then_ok (exactly_one Names.To (values_named (codes "To") fields)) (λ text. with_text text (readable Names.To (party_of text))) p h in
    let is = text_is t.0 (readable Names.To (party_of t.0)) p t.2 in
    record { one = one_is Names.To (values_named (codes "To") fields) t.0 t.1 ∙ ap (λ (x : List ℕ). x ∷ []) is.0; name = ap party_of (sym is.0) ∙ readable_is Names.To (party_of t.0) p.name is.1 }

-- ---- Call-ID

call_id_is : (fields : List Header) (id : List ℕ) → call_id_of fields ≡ Ok id → (values_named (codes "Call-ID") fields ≡ id ∷ []) × (is_call_id id ≡ true)
call_id_is fields id h =
    let t = then_ok (exactly_one Names.CallId (values_named (codes "Call-ID") fields)) (λ text. cond (is_call_id text) (ok text) (failed (Unreadable Names.CallId))) id h in
    let is = step t.0 (is_call_id t.0) refl t.2 in
    (one_is Names.CallId (values_named (codes "Call-ID") fields) t.0 t.1 ∙ ap (λ (x : List ℕ). x ∷ []) is.0, ap is_call_id (sym is.0) ∙ is.1) where
      step : (text : List ℕ) (b : Bool) → is_call_id text ≡ b → cond b (ok text) (failed (Unreadable Names.CallId)) ≡ Ok id → (text ≡ id) × (is_call_id text ≡ true)
      step text true e k = (ok_is text id k, e)
      step text false e k = absurd (no_ok (Unreadable Names.CallId) id k)

-- ---- CSeq

record IsSequence (start : Start) (values : List (List ℕ)) (s : Sequence) : Type 0 where
  one : values ≡ s.text ∷ []
  cseq : cseq_of s.text ≡ Some s.cseq
  fits : is_method_for start s.cseq.method ≡ true

number_is : (text : List ℕ) (r : Result CSeq MessageError) (s : Sequence) → with_number text r ≡ Ok s → (text ≡ s.text) × (r ≡ Ok s.cseq)
number_is text (Ok cseq) s h =
    let same : record { text = text; cseq = cseq } ≡ s = ok_is (record { text = text; cseq = cseq }) s h in
    (ap (λ (q : Sequence). q.text) same, ap (λ (q : Sequence). ok q.cseq) same)
number_is text (Err e) s h = absurd (no_ok e s h)

method_is : (start : Start) (o : Option CSeq) (c : CSeq) → of_method start o ≡ Some c → (o ≡ Some c) × (is_method_for start c.method ≡ true)
method_is start None c h = absurd cc
method_is start (Some d) c h = step (is_method_for start d.method) refl h where
  step : (b : Bool) → is_method_for start d.method ≡ b → cond b (some d) None ≡ Some c → (some d ≡ some c) × (is_method_for start c.method ≡ true)
  step true e k = (k, ap (λ (x : CSeq). is_method_for start x.method) (sym (some_is d c k)) ∙ e)
  step false e k = absurd cc

cseq_is : (start : Start) (fields : List Header) (s : Sequence) → cseq_for start fields ≡ Ok s → IsSequence start (values_named (codes "CSeq") fields) s
cseq_is start fields s h =
    let t = then_ok (exactly_one Names.CSeq (values_named (codes "CSeq") fields)) (λ text. with_number text (readable Names.CSeq (of_method start (cseq_of text)))) s h in
    let is = number_is t.0 (readable Names.CSeq (of_method start (cseq_of t.0))) s t.2 in
    let m = method_is start (cseq_of t.0) s.cseq (readable_is Names.CSeq (of_method start (cseq_of t.0)) s.cseq is.1) in
    record { one = one_is Names.CSeq (values_named (codes "CSeq") fields) t.0 t.1 ∙ ap (λ (x : List ℕ). x ∷ []) is.0; cseq = ap cseq_of (sym is.0) ∙ m.0; fits = m.1 }

-- ---- the parts

abbrev both_ends : Party → Party → Ends
both_ends from to = record { from = from; to = to }

parts_are : (start : Start) (fields : List Header) (parts : Parts) → parts_of start fields ≡ Ok parts → SaysParts start fields parts
unfolding parts_of
parts_are start fields parts h =
    let vias = then_ok (some_vias (via_texts fields)) _ parts h in
    let ends = then_ok (ends_for start fields) _ parts vias.2 in
    let from = then_ok (from_for start fields) _ ends.0 ends.1 in
    let to = then_ok (to_of fields) _ ends.0 from.2 in
    let both : both_ends from.0 to.0 ≡ ends.0 = ok_is (both_ends from.0 to.0) ends.0 to.2 in
    let id = then_ok (call_id_of fields) _ parts ends.2 in
    let cseq = then_ok (cseq_for start fields) _ parts id.2 in
    let v = some_vias_are (via_texts fields) vias.0 vias.1 in
    let f = from_is start fields from.0 from.1 in
    let t = to_is fields to.0 to.1 in
    let i = call_id_is fields id.0 id.1 in
    let c = cseq_is start fields cseq.0 cseq.1 in
    subst (λ (p : Parts). SaysParts start fields p) (ap (λ (e : Ends). parts_with vias.0 e.from e.to id.0 cseq.0) both ∙ ok_is (parts_with vias.0 ends.0.from ends.0.to id.0 cseq.0) parts cseq.2) (record {
      some_via = v.there;
      each_via = v.each;
      one_from = f.0.one;
      from = f.0.name;
      from_tag = f.1;
      one_to = t.one;
      to = t.name;
      one_call_id = i.0;
      call_id = i.1;
      one_cseq = c.one;
      cseq = c.cseq;
      cseq_method = c.fits;
    })

parts_again : (start : Start) (fields : List Header) (parts : Parts) → SaysParts start fields parts → parts_of start fields ≡ Ok parts
unfolding parts_of
parts_again start fields parts h =
    rw (
      some_vias_again (via_texts fields) parts.vias h.some_via h.each_via,
      h.one_from,
      h.from,
      h.from_tag,
      h.one_to,
      h.to,
      h.one_call_id,
      h.call_id,
      h.one_cseq,
      h.cseq,
      h.cseq_method,
    ) refl

-- ---- Contact

address_is : (values : List ContactValue) (u : Unit {0}) → one_address values ≡ Ok u → is_one_address values ≡ true
address_is [] u h = absurd (no_ok (Missing Names.Contact) u h)
address_is (value ∷ values) u h = step (is_one_address (value ∷ values)) refl h where
  step : (b : Bool) → is_one_address (value ∷ values) ≡ b → cond b (ok tt) (failed (Unreadable Names.Contact)) ≡ Ok u → b ≡ true
  step true e k = refl
  step false e k = absurd (no_ok (Unreadable Names.Contact) u k)

address_again : (values : List ContactValue) → is_one_address values ≡ true → one_address values ≡ Ok tt
address_again [] h = absurd cc
address_again (value ∷ values) h = rw h refl

at_most_is : (b : Bool) (u : Unit {0}) → cond b (ok tt) (failed (Unreadable Names.Contact)) ≡ Ok u → b ≡ true
at_most_is true u h = refl
at_most_is false u h = absurd (no_ok (Unreadable Names.Contact) u h)

contact_is : (start : Start) (method : List ℕ) (fields : List Header) (u : Unit {0}) → contact_for start method fields ≡ Ok u → SaysContact (contact_need start method) (contacts_of fields)
contact_is start method fields u h = step (contact_need start method) h where
  step : (need : ContactNeed) → contacts_for need (contacts_of fields) ≡ Ok u → SaysContact need (contacts_of fields)
  step One k = address_is (contacts_of fields) u k
  step AtMostOne k = at_most_is (is_one_address_at_most (contacts_of fields)) u k
  step Unlooked k = tt

contact_again : (start : Start) (method : List ℕ) (fields : List Header) → SaysContact (contact_need start method) (contacts_of fields) → contact_for start method fields ≡ Ok tt
contact_again start method fields h = step (contact_need start method) h where
  step : (need : ContactNeed) → SaysContact need (contacts_of fields) → contacts_for need (contacts_of fields) ≡ ok tt
  step One k = address_again (contacts_of fields) k
  step AtMostOne k = rw k refl
  step Unlooked k = refl

-- ---- Max-Forwards, Content-Type, Content-Length

hops_are : (values : List (List ℕ)) (hops : ℕ) → and_then (at_most_one Names.MaxForwards values) hops_by ≡ Ok hops → SaysHops values hops
hops_are [] hops h = sym (ok_is 70 hops h)
hops_are (text ∷ []) hops h = readable_is Names.MaxForwards (max_forwards_of text) hops h
hops_are (one ∷ two ∷ more) hops h = no_ok (Unreadable Names.MaxForwards) hops h

hops_again : (values : List (List ℕ)) (hops : ℕ) → SaysHops values hops → and_then (at_most_one Names.MaxForwards values) hops_by ≡ Ok hops
hops_again [] hops h = ap (λ (n : ℕ). ok n) (sym h)
hops_again (text ∷ []) hops h = ap (readable Names.MaxForwards) h
hops_again (one ∷ two ∷ more) hops h = absurd h

type_is : (values : List (List ℕ)) (t : Option (List ℕ)) → and_then (at_most_one Names.ContentType values) type_by ≡ Ok t → SaysType values
type_is [] t h = tt
type_is (text ∷ []) t h = step (is_media_type text) h where
  step : (b : Bool) → cond b (ok (some text)) (failed (Unreadable Names.ContentType)) ≡ Ok t → b ≡ true
  step true k = refl
  step false k = absurd (no_ok (Unreadable Names.ContentType) t k)
type_is (one ∷ two ∷ more) t h = no_ok (Unreadable Names.ContentType) t h

type_again : (values : List (List ℕ)) → SaysType values → (t : Option (List ℕ)) × (and_then (at_most_one Names.ContentType values) type_by ≡ Ok t)
type_again [] h = (None, refl)
type_again (text ∷ []) h = (Some text, rw h refl)
type_again (one ∷ two ∷ more) h = absurd h

long_is : (o : Option ℕ) (raw body : List ℕ) → long_enough o raw ≡ Ok body → (o ≡ Some (length body)) × ((behind : List ℕ) × (raw ≡ body ++ behind))
long_is None raw body h = absurd (no_ok Short body h)
long_is (Some n) raw body h = step (leb n (length raw)) (λ e. leb-true n (length raw) e) h where
  step : (b : Bool) → (b ≡ true → n ≤ length raw) → cond b (ok (take n raw)) (failed Short) ≡ Ok body → (some n ≡ Some (length body)) × ((behind : List ℕ) × (raw ≡ body ++ behind))
  step true le k =
      let is : take n raw ≡ body = ok_is (take n raw) body k in
      let size : n ≡ length body = sym (length-take-le n raw (le refl)) ∙ ap length is in
      (ap (λ (m : ℕ). some m) size, (drop n raw, sym (take-append-drop n raw) ∙ ap (λ (t : List ℕ). t ++ drop n raw) is))
  step false le k = absurd (no_ok Short body k)

body_is : (values : List (List ℕ)) (raw body : List ℕ) → and_then (at_most_one Names.ContentLength values) (body_by raw) ≡ Ok body → SaysBody values raw body
body_is [] raw body h = sym (ok_is raw body h)
body_is (text ∷ []) raw body h = step (is_run_of is_ascii_digit text) h where
  step : (b : Bool) → cond b (long_enough (number_upto max_content_length text) raw) (failed (Unreadable Names.ContentLength)) ≡ Ok body
      → (b ≡ true) × (number_upto max_content_length text ≡ Some (length body)) × ((behind : List ℕ) × (raw ≡ body ++ behind))
  step true k = let is = long_is (number_upto max_content_length text) raw body k in (refl, is.0, is.1)
  step false k = absurd (no_ok (Unreadable Names.ContentLength) body k)
body_is (one ∷ two ∷ more) raw body h = no_ok (Unreadable Names.ContentLength) body h

body_again : (values : List (List ℕ)) (raw body : List ℕ) → SaysBody values raw body → and_then (at_most_one Names.ContentLength values) (body_by raw) ≡ Ok body
body_again [] raw body h = ap (λ (t : List ℕ). ok t) (sym h)
body_again (text ∷ []) raw body h =
    let behind : List ℕ = h.2.0 in
    let whole : raw ≡ body ++ behind = h.2.1 in
    let size : length raw ≡ length body + length behind = ap length whole ∙ length-append body behind in
    let front : take (length body) raw ≡ body = ap (take (length body)) whole ∙ take_at body behind (length body) refl in
    rw (h.0, h.1, le-leb (length body) (length raw) (omega (arith, size))) (ap (λ (t : List ℕ). ok t) front)
body_again (one ∷ two ∷ more) raw body h = absurd h

-- ---- all

abbrev values : Parts → ℕ → Values
values parts hops = record { parts = parts; max_forwards = hops }

-- the header fields say these values
record SaysValues (start : Start) (fields : List Header) (v : Values) : Type 0 where
  says_parts : SaysParts start fields v.parts
  says_contact : SaysContact (contact_need start v.parts.cseq.method) (contacts_of fields)
  says_hops : SaysHops (values_named (codes "Max-Forwards") fields) v.max_forwards
  says_type : SaysType (values_named (codes "Content-Type") fields)

values_are : (start : Start) (fields : List Header) (v : Values) → values_of start fields ≡ Ok v → SaysValues start fields v
unfolding values_of
values_are start fields v h =
    let parts = then_ok (parts_of start fields) _ v h in
    let behind = then_ok (hops_behind start parts.0.cseq.method fields) _ v parts.2 in
    let contact = then_ok (contact_for start parts.0.cseq.method fields) _ behind.0 behind.1 in
    let hops = then_ok (hops_of fields) _ behind.0 contact.2 in
    let kind = then_ok (type_of fields) _ behind.0 hops.2 in
    let same : values parts.0 hops.0 ≡ v = ap (values parts.0) (ok_is hops.0 behind.0 kind.2) ∙ ok_is (values parts.0 behind.0) v behind.2 in
    subst (λ (x : Values). SaysValues start fields x) same (record {
      says_parts = parts_are start fields parts.0 parts.1;
      says_contact = contact_is start parts.0.cseq.method fields contact.0 contact.1;
      says_hops = hops_are (values_named (codes "Max-Forwards") fields) hops.0 hops.1;
      says_type = type_is (values_named (codes "Content-Type") fields) kind.0 kind.1;
    })

values_again : (start : Start) (fields : List Header) (v : Values) → SaysValues start fields v → values_of start fields ≡ Ok v
unfolding values_of
values_again start fields v says =
    let t = type_again (values_named (codes "Content-Type") fields) says.says_type in
    rw (parts_again start fields v.parts says.says_parts, contact_again start v.parts.cseq.method fields says.says_contact, hops_again (values_named (codes "Max-Forwards") fields) v.max_forwards says.says_hops, t.1) refl

abbrev contents : Values → List ℕ → Contents
contents v body = record { values = v; body = body }

-- what is read from the header fields is what they say
pub contents_are : (start : Start) (fields : List Header) (raw : List ℕ) (c : Contents) → contents_of start fields raw ≡ Ok c → Says start fields raw c.values.parts c.values.max_forwards c.body
unfolding contents_of body_of
contents_are start fields raw c h =
    let v = then_ok (values_of start fields) _ c h in
    let b = then_ok (body_of fields raw) _ c v.2 in
    let said = values_are start fields v.0 v.1 in
    let same : contents v.0 b.0 ≡ c = ok_is (contents v.0 b.0) c b.2 in
    subst (λ (x : Contents). Says start fields raw x.values.parts x.values.max_forwards x.body) same (record {
      says_parts = said.says_parts;
      says_contact = said.says_contact;
      says_hops = said.says_hops;
      says_type = said.says_type;
      says_body = body_is (values_named (codes "Content-Length") fields) raw b.0 b.1;
    })

-- and what they say is read
pub contents_again : (start : Start) (fields : List Header) (raw : List ℕ) (c : Contents) → Says start fields raw c.values.parts c.values.max_forwards c.body → contents_of start fields raw ≡ Ok c
unfolding contents_of body_of
contents_again start fields raw c h =
    rw (
      values_again start fields c.values (record { says_parts = h.says_parts; says_contact = h.says_contact; says_hops = h.says_hops; says_type = h.says_type }),
      body_again (values_named (codes "Content-Length") fields) raw c.body h.says_body,
    ) refl
