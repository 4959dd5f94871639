-- An INVITE that was read, and a 2xx to one, has one Contact address.
use Rattle.std.proofs.Common.{◌≡◌, ℕ, Bool, true, false, not, ◌&&◌, cond, List, [], ◌∷◌, map, codes, refl, ap}
use Rattle.std.specs.Prelude.{nat_eq, filter, IsTrue}
use Rattle.std.specs.Cmp.Lexicographic.{pointwise, bytes_decides}
use Rattle.std.specs.List.{flat_map}
use Rattle.std.specs.Str.{str_to_ascii_lowercase}
use Rattle.text.specs.Pieces.{pieces}
use Rattle.text.specs.declared.split.Within.TheVariants.{Nothing}
use Rattle.sip_message.specs.declared.headers.Header.{Header}
use Rattle.sip_message.specs.declared.message.Message.TheVariants as Kinds
use Rattle.sip_message.specs.declared.message.Request.{Request}
use Rattle.sip_message.specs.declared.message.Response.{Response}
use Rattle.sip_message.specs.declared.contact.ContactNeed.{ContactNeed}
use Rattle.sip_message.specs.declared.contact.ContactNeed.TheVariants.{One, AtMostOne, Unlooked}
use Rattle.sip_message.specs.Contact.{contact_of, contacts_of, need_by_method, is_one_address, is_success}
use Rattle.sip_message.specs.Grammar.{SaysContact, ReadsMessage}
use Rattle.sip_message.specs.Lookup.{is_named, values_named}
use Rattle.sip_message.specs.ContentLength.{without_length}
use Rattle.dialogs.specs.Making.{is_invite}

-- a Contact is no Content-Length
other_name : (h : Header) → is_named (codes "Contact") h ≡ true → not (is_named (codes "Content-Length") h) ≡ true
other_name h e = rw ((bytes_decides (str_to_ascii_lowercase h.name) (str_to_ascii_lowercase (codes "Contact"))).0 e) refl

values_kept : (hs : List Header) → values_named (codes "Contact") (without_length hs) ≡ values_named (codes "Contact") hs
values_kept [] = refl
values_kept (x ∷ hs) = step (is_named (codes "Contact") x) (not (is_named (codes "Content-Length") x)) (other_name x) (values_kept hs) refl where
  step : (a b : Bool) → (a ≡ true → b ≡ true) → values_named (codes "Contact") (without_length hs) ≡ values_named (codes "Contact") hs → is_named (codes "Contact") x ≡ a
      → values_named (codes "Contact") (cond b (x ∷ without_length hs) (without_length hs)) ≡ map (λ (h : Header). h.value) (cond a (x ∷ filter (is_named (codes "Contact")) hs) (filter (is_named (codes "Contact")) hs))
  step true b keeps more e = rw (keeps refl, e) (ap (λ (vs : List (List ℕ)). x.value ∷ vs) more)
  step false true keeps more e = rw e more
  step false false keeps more e = more

contacts_kept : (hs : List Header) → contacts_of (without_length hs) ≡ contacts_of hs
contacts_kept hs = ap (λ (vs : List (List ℕ)). map contact_of (flat_map (λ v. pieces 44 Nothing v) vs)) (values_kept hs)

said : (need : ContactNeed) (fields headers : List Header) → headers ≡ without_length fields → need ≡ One → SaysContact need (contacts_of fields) → is_one_address (contacts_of headers) ≡ true
said One fields headers kept e says = rw kept (rw (contacts_kept fields) says)
said AtMostOne fields headers kept e says = absurd cc
said Unlooked fields headers kept e says = absurd cc

pub invite_names_contact : (text : List ℕ) (invite : Request) → ReadsMessage text (Kinds.Request invite) → IsTrue (is_invite invite.parts) → IsTrue (is_one_address (contacts_of invite.headers))
invite_names_contact text invite reads is =
    said (need_by_method invite.parts.cseq.method) reads.fields invite.headers reads.headers (rw is refl) reads.says.says_contact

pub answer_names_contact : (text : List ℕ) (response : Response) → ReadsMessage text (Kinds.Response response) → IsTrue (is_invite response.parts) → IsTrue (is_success response.status)
    → IsTrue (is_one_address (contacts_of response.headers))
answer_names_contact text response reads is success =
    said (cond (is_success response.status) (need_by_method response.parts.cseq.method) Unlooked) reads.fields response.headers reads.headers (rw (is, success) refl) reads.says.says_contact
