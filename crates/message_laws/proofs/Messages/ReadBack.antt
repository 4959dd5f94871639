-- What the server sends in place of a description that was read reads back.
use Rattle.std.proofs.Common.{◌≡◌, Some, ℕ, List, sym, subst}
use Rattle.std.specs.Prelude.{IsTrue, slice_get}
use Rattle.std.proofs.lemmas.Bool.{and_parts}
use Rattle.sdp.specs.declared.description.Description.{Description}
use Rattle.sdp.specs.Addresses.{is_unicast}
use Rattle.sdp.specs.Grammar.{ReadsDescription}
use Rattle.sdp.specs.Writing.{description_text}
use Rattle.offer_answer.specs.declared.sent_description.ServerOrigin.{ServerOrigin}
use Rattle.offer_answer.specs.Readdressing.{AreOfTheirSizes, readdressed_description}
use Rattle.call_media.specs.declared.session.OpenOffer.{OpenOffer}
use Rattle.call_media.specs.declared.session.Session.{Session}
use Rattle.calls.specs.declared.standing_call.StandingCall.{StandingCall}
use Rattle.plans.specs.Office.{Office}
use Rattle.message_laws.specs.Addresses.{IsServerAddress}
use Rattle.message_laws.specs.Bodies.{IsOfRead, KnowsDescriptions, KnowsOffer, KnowsOfferIf, KnowsSession, KnowsSessionIf}
use Rattle.message_laws.proofs.Messages.BodySteps.{call_at}

-- the law of what is sent
abbrev pub SentIsRead : Type 0
SentIsRead = (text : List ℕ) (taken : Description) (origin : ServerOrigin) (ports : List ℕ) → ReadsDescription text taken → AreOfTheirSizes origin ports → IsTrue (is_unicast origin.ip)
    → ReadsDescription (description_text (readdressed_description origin ports taken)) (readdressed_description origin ports taken)

below_groups : (ip : List ℕ) → IsServerAddress ip → IsTrue (is_unicast ip)
below_groups ip h = (and_parts _ _ h.rules).1

pub reads_back : SentIsRead → (ip : List ℕ) (d : Description) → IsServerAddress ip → IsOfRead ip d → ReadsDescription (description_text d) d
reads_back law ip d server h =
    let r = h.readdressed in
    subst (λ (x : Description). ReadsDescription (description_text x) x) (sym r.whole)
    (law h.read.text h.taken r.origin r.ports h.read.reads r.sizes (subst (λ own. IsTrue (is_unicast own)) (sym r.address) (below_groups ip server)))

-- ---- what the media of a call keep

offer_of : (ip : List ℕ) (o : OpenOffer) → KnowsOffer ip o → IsOfRead ip o.offer_sent
offer_of ip o h = record { taken = o.offer_taken; read = h.taken; readdressed = h.sent }

pub offer_back : SentIsRead → (s : Office) (place : ℕ) (c : StandingCall) (o : OpenOffer) → KnowsDescriptions s → slice_get s.calls.calls place ≡ Some c → c.call.media.offer ≡ Some o
    → ReadsDescription (description_text o.offer_sent) o.offer_sent
offer_back law s place c o k there stands =
    let media = call_at s.range.ip s.calls.calls place c k.calls.calls there in
    let known : KnowsOffer s.range.ip o = subst (KnowsOfferIf s.range.ip) stands media.offer in
    reads_back law s.range.ip o.offer_sent k.address (offer_of s.range.ip o known)

pub session_back : SentIsRead → (s : Office) (place : ℕ) (c : StandingCall) (x : Session) → KnowsDescriptions s → slice_get s.calls.calls place ≡ Some c → c.call.media.session ≡ Some x
    → ReadsDescription (description_text x.offer_sent) x.offer_sent × ReadsDescription (description_text x.answer_sent) x.answer_sent
session_back law s place c x k there stands =
    let media = call_at s.range.ip s.calls.calls place c k.calls.calls there in
    let known : KnowsSession s.range.ip x = subst (KnowsSessionIf s.range.ip) stands media.session in
    let offer : IsOfRead s.range.ip x.offer_sent = record { taken = x.offer_taken; read = known.offer_taken; readdressed = known.offer_sent } in
    let answer : IsOfRead s.range.ip x.answer_sent = record { taken = x.answer_taken; read = known.answer_taken; readdressed = known.answer_sent } in
    (reads_back law s.range.ip x.offer_sent k.address offer, reads_back law s.range.ip x.answer_sent k.address answer)
