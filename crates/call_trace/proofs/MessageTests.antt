-- What the tests of one datagram or two decide.
use Rattle.std.proofs.Common.{◌≡◌, ℕ, Bool, not, List, [], ◌∷◌, refl, ap}
use Rattle.std.specs.Prelude.{IsTrue}
use Rattle.std.specs.Bool.{Decides}
use Rattle.std.specs.Cmp.Lexicographic.{bytes_decides}
use Rattle.std.proofs.lemmas.Bool.Decides.{Decides-and, Decides-or, Decides-like, Decides-eqb}
use Rattle.call_trace.specs.declared.datagram.Direction.{Direction}
use Rattle.call_trace.specs.declared.datagram.Direction.TheVariants.{Taken, Sent}
use Rattle.call_trace.specs.declared.datagram.Message.{Message}
use Rattle.call_trace.specs.declared.datagram.Datagram.{Datagram}
use Rattle.call_trace.specs.declared.datagram.Dialog.{Dialog}
use Rattle.call_trace.specs.Messages.{is_request, is_final, Replies}
use Rattle.call_trace.specs.Dialogs.{our_tag, their_tag, dialog_of}
use Rattle.call_trace.specs.Exchanges.{TakesFinal}
use Rattle.call_trace.specs.Passing.{IsHandedOn}
use Rattle.call_trace.specs.Computed.{is_absent, is_taken, replies, names, takes_final, sends_bytes, is_handed_on}

pub decides_itself : (b : Bool) → Decides b (IsTrue b)
decides_itself b = (λ h. h, λ h. h)

pub decides_absent : (tag : List ℕ) → Decides (is_absent tag) (tag ≡ [])
decides_absent [] = (λ h. refl, λ h. refl)
decides_absent (x ∷ xs) = (λ h. absurd (cc), λ h. absurd (cc))

pub decides_taken : (d : Direction) → Decides (is_taken d) (d ≡ Taken)
decides_taken Taken = (λ h. refl, λ h. refl)
decides_taken Sent = (λ h. absurd (cc), λ h. absurd (cc))

pub decides_sent : (d : Direction) → Decides (not (is_taken d)) (d ≡ Sent)
decides_sent Taken = (λ h. absurd (cc), λ h. absurd (cc))
decides_sent Sent = (λ h. refl, λ h. refl)

pub decides_replies : (r m : Message) → Decides (replies r m) (Replies r m)
unfolding replies
decides_replies r m =
    Decides-like (replies r m)
    (λ h. record { response_kind = h.0; request_kind = h.1.0; branch = h.1.1.0; call_id = h.1.1.1.0; from_tag = h.1.1.1.1.0; number = h.1.1.1.1.1.0; method = h.1.1.1.1.1.1.0; to_tag = h.1.1.1.1.1.1.1 })
    (λ h. (h.response_kind, (h.request_kind, (h.branch, (h.call_id, (h.from_tag, (h.number, (h.method, h.to_tag))))))))
    (Decides-and _ _ (decides_itself (not (is_request r.kind)))
    (Decides-and _ _ (decides_itself (is_request m.kind))
    (Decides-and _ _ (bytes_decides r.branch m.branch)
    (Decides-and _ _ (bytes_decides r.call_id m.call_id)
    (Decides-and _ _ (bytes_decides r.from_tag m.from_tag)
    (Decides-and _ _ (Decides-eqb r.number m.number)
    (Decides-and _ _ (bytes_decides r.method m.method)
    (Decides-or _ _ (decides_absent m.to_tag) (bytes_decides r.to_tag m.to_tag)))))))))

abbrev made_of : List ℕ → List ℕ → List ℕ → Dialog
made_of call_id ours theirs = record { call_id = call_id; ours = ours; theirs = theirs }

pub decides_names : (p : Datagram) (d : Dialog) → Decides (names p d) (dialog_of p ≡ d)
unfolding names
decides_names p d =
    Decides-like (names p d)
    (λ h. (let a : p.message.call_id ≡ d.call_id = h.0 in let b : our_tag p ≡ d.ours = h.1.0 in let c : their_tag p ≡ d.theirs = h.1.1 in
    let e : made_of p.message.call_id (our_tag p) (their_tag p) ≡ made_of d.call_id d.ours d.theirs = cc in e))
    (λ h. (ap (λ v. v.call_id) h, (ap (λ v. v.ours) h, ap (λ v. v.theirs) h)))
    (Decides-and _ _ (bytes_decides p.message.call_id d.call_id)
    (Decides-and _ _ (bytes_decides (our_tag p) d.ours) (bytes_decides (their_tag p) d.theirs)))

pub decides_takes_final : (m : Message) (p : Datagram) → Decides (takes_final p m) (TakesFinal p m)
unfolding takes_final
decides_takes_final m p =
    Decides-like (takes_final p m)
    (λ h. record { taken = h.0; final = h.1.0; replies = h.1.1 })
    (λ h. (h.taken, (h.final, h.replies)))
    (Decides-and _ _ (decides_taken p.direction) (Decides-and _ _ (decides_itself (is_final p.message.kind)) (decides_replies p.message m)))

pub decides_sends_bytes : (bytes : List ℕ) (p : Datagram) → Decides (sends_bytes p bytes) ((p.direction ≡ Sent) × (p.message.bytes ≡ bytes))
unfolding sends_bytes
decides_sends_bytes bytes p = Decides-and _ _ (decides_sent p.direction) (bytes_decides p.message.bytes bytes)

pub decides_handed_on : (p q : Datagram) → Decides (is_handed_on p q) (IsHandedOn p q)
unfolding is_handed_on
decides_handed_on p q =
    Decides-like (is_handed_on p q)
    (λ h. record { taken = h.0; sent = h.1.0; event = h.1.1.0; method = h.1.1.1 })
    (λ h. (h.taken, (h.sent, (h.event, h.method))))
    (Decides-and _ _ (decides_taken p.direction)
    (Decides-and _ _ (decides_sent q.direction)
    (Decides-and _ _ (Decides-eqb p.event q.event) (bytes_decides p.message.method q.message.method))))
