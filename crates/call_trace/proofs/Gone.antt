-- What the relation says about dialogs: which have ended, which have not, and that the first 2xx of a call is new.
use Rattle.std.proofs.Common.{◌≡◌, ◌≢◌, ℕ, suc, ◌<◌, List, Bool, true, false, Some, ◌⊎◌, inl, inr, refl, sym, ◌∙◌, ap, subst, arith}
use Rattle.std.specs.Prelude.{slice_get, IsTrue}
use Rattle.call_trace.specs.declared.datagram.Direction.TheVariants.{Sent}
use Rattle.call_trace.specs.declared.datagram.Datagram.{Datagram}
use Rattle.call_trace.specs.declared.datagram.Message.{Message}
use Rattle.call_trace.specs.declared.datagram.Dialog.{Dialog}
use Rattle.call_trace.specs.declared.call.Stage.TheVariants.{Asked}
use Rattle.call_trace.specs.declared.call.Call.{Call}
use Rattle.call_trace.specs.Messages.{accepts}
use Rattle.call_trace.specs.Dialogs.{dialog_of}
use Rattle.call_trace.specs.Exchanges.{At}
use Rattle.call_trace.specs.Calls.{CallOf, Ended}
use Rattle.call_trace.specs.Events.{dialog_sent, AreNewBytes}
use Rattle.call_trace.specs.Listed.{AllOf}
use Rattle.call_trace.specs.Stands.{leg, HasTags, IsTagOf, IsCallOf}
use Rattle.call_trace.specs.Lives.{IsEnding, IsLegOf, LegsStand, Stands}
use Rattle.call_trace.specs.Runs.{AreRead}
use Rattle.call_trace.proofs.Members.{all_at, any_at}
use Rattle.call_trace.proofs.Apart.{apart_same, leg_some}
use Rattle.call_trace.proofs.Growing.{called_of_call}
use Rattle.call_trace.proofs.Standing.{not_ended}

-- ---- dialogs that have ended, and that have not

-- a dialog of a call that is gone has ended
pub gone_ended : (methods : List (List ℕ)) (calls : List Call) (n : ℕ) (t : List Datagram) (d e : Dialog) → Stands methods calls n t → CallOf methods t d e → AllOf (λ c. ¬ IsTagOf c d.ours) calls → Ended t d
gone_ended methods calls n t d e h call none =
    elim (called_of_call methods t d e call) [
      | inl q ↦ elim (h.sessions.known d e q) [
        | inl l ↦ (let f = any_at (IsCallOf d e) calls l in absurd (all_at (λ c. ¬ IsTagOf c d.ours) calls f.0 f.1 none f.2 (inl (ap (λ (v : Dialog). v.ours) (sym f.3.caller)))))
        | inr r ↦ r.0
      ]
      | inr q ↦ elim (h.sessions.known e d q) [
        | inl l ↦ (let f = any_at (IsCallOf e d) calls l in absurd (all_at (λ c. ¬ IsTagOf c d.ours) calls f.0 f.1 none f.2 (inr (ap (λ (v : Dialog). v.ours) (sym f.3.callee)))))
        | inr r ↦ r.1
      ]
    ]

leg_either : (c : Call) (b : Bool) → (leg c b ≡ c.caller) ⊎ (leg c b ≡ c.callee)
leg_either c true = inl refl
leg_either c false = inr refl

-- a leg of a listed call that no end has left has not
pub leg_lasts : (methods : List (List ℕ)) (calls : List Call) (n : ℕ) (t : List Datagram) (k : ℕ) (c : Call) (b : Bool) → Stands methods calls n t → slice_get calls k ≡ Some c → ¬ IsEnding c.stage → ¬ Ended t (leg c b)
leg_lasts methods calls n t k c b h at stays =
    not_ended t c (leg c b) (all_at (LegsStand t) calls k c h.lives.legs at).quiet stays (leg_either c b) (leg_some c b (all_at HasTags calls k c h.sessions.tags at))

-- ---- the first 2xx

-- no 2xx to an INVITE was sent in the caller's dialog of a call that was not answered
pub none_accepted : (methods : List (List ℕ)) (calls : List Call) (n : ℕ) (t : List Datagram) (k : ℕ) (c : Call) → Stands methods calls n t → slice_get calls k ≡ Some c → c.stage ≡ Asked
    → (i : ℕ) (p : Datagram) → At t i p → p.direction ≡ Sent → IsTrue (accepts p.message) → dialog_of p ≢ c.caller
none_accepted methods calls n t k c h at asked i p there out ok same =
    let ours : (dialog_of p).ours ≡ c.caller.ours = ap (λ (v : Dialog). v.ours) same in
    elim (h.lives.begun (dialog_of p) (inl (i, p, record { sent = record { at = there; sent = out; named = refl }; accepts = ok }))) [
      | inl a ↦ (let r = any_at (IsLegOf (dialog_of p)) calls a in
          let d : Call = r.1 in
          let tag : IsTagOf d c.caller.ours = elim r.3.leg [ inl q ↦ inl (sym ours ∙ ap (λ (v : Dialog). v.ours) (sym q)) | inr q ↦ inr (sym ours ∙ ap (λ (v : Dialog). v.ours) (sym q)) ] in
          let one : c ≡ d = apart_same calls k r.0 c d c.caller.ours h.sessions.apart at r.2 (inl refl) tag in
          r.3.answered (ap (λ (v : Call). v.stage) (sym one) ∙ asked))
      | inr e ↦ (let P : Dialog → Type 0 = λ v. Ended t v in leg_lasts methods calls n t k c true h at (λ e. subst IsEnding asked e) (subst P same e))
    ]

-- so the bytes of the first 2xx are new, where messages are read from their bytes
pub first_bytes : (methods : List (List ℕ)) (seen : List ℕ → Message) (calls : List Call) (n : ℕ) (t : List Datagram) (k : ℕ) (c : Call) (went : Message) → Stands methods calls n t → AreRead seen t → went ≡ seen went.bytes
    → slice_get calls k ≡ Some c → c.stage ≡ Asked → IsTrue (accepts went) → dialog_sent went ≡ c.caller → AreNewBytes t went.bytes
first_bytes methods seen calls n t k c went h read is at asked ok named i p there out same =
    let one : p.message ≡ went = read i p there ∙ ap seen same ∙ sym is in
    let P : Message → Type 0 = λ v. IsTrue (accepts v) in
    let f : dialog_of p ≡ dialog_sent p.message = ap (λ v. dialog_of (record { event = 0; direction = v; message = p.message })) out in
    none_accepted methods calls n t k c h at asked i p there out (subst P (sym one) ok) (f ∙ ap dialog_sent one ∙ named)

-- ---- an event of which nothing is in the trace

pub stands_later : (methods : List (List ℕ)) (calls : List Call) (n : ℕ) (t : List Datagram) → Stands methods calls n t → Stands methods calls (suc n) t
stands_later methods calls n t h = record {
  sessions = record {
    offering = h.sessions.offering;
    events = λ i p at. (let l : p.event < n = h.sessions.events i p at in omega arith);
    one_taken = h.sessions.one_taken;
    copies = h.sessions.copies;
    one_birth = h.sessions.one_birth;
    tags = h.sessions.tags;
    apart = h.sessions.apart;
    stand = h.sessions.stand;
    known = h.sessions.known;
  };
  lives = h.lives;
}
