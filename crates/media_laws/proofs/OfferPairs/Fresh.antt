-- The bytes of an answer are new to a trace without one.
use Rattle.std.proofs.Common.{◌≡◌, ◌≢◌, ◌∙◌, ℕ, List, ap, sym, subst}
use Rattle.std.specs.Prelude.{IsTrue}
use Rattle.call_trace.specs.declared.datagram.Datagram.{Datagram}
use Rattle.call_trace.specs.declared.datagram.Kind.TheVariants.{Request, Response}
use Rattle.call_trace.specs.declared.datagram.Message.{Message}
use Rattle.call_trace.specs.Events.{AreNewBytes}
use Rattle.call_trace.specs.Exchanges.{At}
use Rattle.call_trace.specs.Messages.{is_answer, is_listed, offering}
use Rattle.message_laws.specs.Messages.{IsMessage}
use Rattle.media_laws.specs.Shows.{IsUnanswered}
use Rattle.media_laws.proofs.Scenes.Reading.{Reading, by_bytes}

-- an answer to an offer that had none
pub new_answer : Reading → (t : List Datagram) → ((i : ℕ) (p : Datagram) → At t i p → IsMessage p.message.bytes p.message) → (bytes tag : List ℕ) (number : ℕ) (went : Message) → IsMessage bytes went
    → IsTrue (is_answer went) → IsTrue (is_listed offering went.method) → went.to_tag ≡ tag → went.number ≡ number → IsUnanswered t tag number → AreNewBytes t went.bytes
new_answer r t read bytes tag number went is answers listed to_tag numbered none = λ i p at sent e.
    let same : p.message ≡ went = by_bytes r p.message.bytes bytes p.message went (read i p at) is e in
    none i p at sent (subst (λ (m : Message). IsTrue (is_answer m)) (sym same) answers) (subst (λ (m : Message). IsTrue (is_listed offering m.method)) (sym same) listed)
    (ap (λ (m : Message). m.to_tag) same ∙ to_tag) (ap (λ (m : Message). m.number) same ∙ numbered)

-- a request and a response have other bytes
pub other_bytes : Reading → (one two : List ℕ) (m n : Message) (status : ℕ) → IsMessage one m → IsMessage two n → m.kind ≡ Request → n.kind ≡ Response status → m.bytes ≢ n.bytes
other_bytes r one two m n status a b request response e =
    let same : m ≡ n = by_bytes r one two m n a b e in
    let kinds : Request ≡ Response status = sym request ∙ (ap (λ (x : Message). x.kind) same ∙ response) in
    absurd (cc)
