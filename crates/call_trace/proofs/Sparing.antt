-- A BYE in one call, and the 200 to one, leave the other calls alone.
use Rattle.std.proofs.Common.{◌≡◌, ◌≢◌, ℕ, List, [], ◌∷◌, Some, inl, inr, refl, sym, ◌∙◌, ap, subst}
use Rattle.std.specs.Prelude.{slice_get, remove, IsTrue}
use Rattle.call_trace.specs.declared.datagram.Message.{Message}
use Rattle.call_trace.specs.declared.datagram.Datagram.{Datagram}
use Rattle.call_trace.specs.declared.datagram.Dialog.{Dialog}
use Rattle.call_trace.specs.declared.call.Call.{Call}
use Rattle.call_trace.specs.Messages.{bye, is_request, is_ok, is_method, is_request_of, Replies}
use Rattle.call_trace.specs.Dialogs.{dialog_of}
use Rattle.call_trace.specs.Listed.{AllOf}
use Rattle.call_trace.specs.Stands.{IsTagOf, Apart, AllApart}
use Rattle.call_trace.specs.Lives.{IsEnding, SparesCall}
use Rattle.call_trace.specs.Events.{taken_at, sent_at, dialog_sent, EndsNow, served}
use Rattle.call_trace.proofs.Members.{all_weaker}
use Rattle.call_trace.proofs.Apart.{remove_others, others_tagless}
use Rattle.call_trace.proofs.Words.{and_right, request_of}
use Rattle.call_trace.proofs.NewExchanges.{tag_request_sent, tag_request_taken}

-- ---- a BYE that is taken

-- the 200 to a BYE has our tag of the BYE's dialog in To
pub served_tag : (came ok : Message) (d : Dialog) → IsTrue (is_request_of bye came) → dialog_of (taken_at 0 came) ≡ d → d.ours ≢ [] → Replies ok came → ok.to_tag ≡ d.ours
served_tag came ok d ends named some replies =
    let tag : came.to_tag ≡ d.ours = sym (tag_request_taken (taken_at 0 came) refl (request_of bye came ends)) ∙ ap (λ (v : Dialog). v.ours) named in
    elim replies.to_tag [ inl e ↦ absurd (some (sym tag ∙ e)) | inr e ↦ e ∙ tag ]

pub served_method : (came ok : Message) → IsTrue (is_request_of bye came) → Replies ok came → IsTrue (is_method bye ok.method)
served_method came ok ends replies = let P : List ℕ → Type 0 = λ v. IsTrue (is_method bye v) in subst P (sym replies.method) (and_right (is_request came.kind) (is_method bye came.method) ends)

-- a BYE whose 200 is sent first ends its dialog
pub serves_bye : (t : List Datagram) (d : Dialog) (came ok : Message) (rest : List Message) → IsTrue (is_request_of bye came) → dialog_of (taken_at 0 came) ≡ d → IsTrue (is_ok ok.kind) → Replies ok came → EndsNow t (Some came) (ok ∷ rest) d
serves_bye t d came ok rest ends named well replies = served 0 came ok refl ends named refl well replies

-- the 200 to a BYE in a dialog of the k-th call has no tag of the others
pub ok_spares_others : (calls : List Call) (k : ℕ) (c : Call) (came ok : Message) (d : Dialog) → AllApart calls → slice_get calls k ≡ Some c → IsTrue (is_request_of bye came) → dialog_of (taken_at 0 came) ≡ d → IsTagOf c d.ours → d.ours ≢ []
    → Replies ok came → AllOf (λ e. ¬ IsEnding e.stage → ¬ IsTagOf e ok.to_tag) (remove calls k)
ok_spares_others calls k c came ok d apart at ends named of some replies =
    let P : List ℕ → Type 0 = λ v. IsTagOf c v in
    all_weaker (λ e. ¬ IsTagOf e ok.to_tag) (λ e. ¬ IsEnding e.stage → ¬ IsTagOf e ok.to_tag) (λ e g stays. g) (remove calls k)
    (others_tagless calls k c ok.to_tag apart at (subst P (sym (served_tag came ok d ends named some replies)) of))

-- ---- a BYE that is sent

pub spares_other : (m : Message) (c d : Call) → IsTrue (is_request_of bye m) → IsTagOf c (dialog_sent m).ours → Apart d c → SparesCall (sent_at 0 m) d
spares_other m c d ends of apart = record {
  caller = λ stays e. apart (dialog_sent m).ours (inl (ap (λ (v : Dialog). v.ours) e)) of;
  callee = λ stays e. apart (dialog_sent m).ours (inr (ap (λ (v : Dialog). v.ours) e)) of;
  first = λ stage e. apart (dialog_sent m).ours (inr (tag_request_sent (sent_at 0 m) refl (request_of bye m ends) ∙ e)) of;
}

-- a BYE in a dialog of the k-th call leaves the others alone
pub spares_others : (calls : List Call) (k : ℕ) (c : Call) (m : Message) → AllApart calls → slice_get calls k ≡ Some c → IsTrue (is_request_of bye m) → IsTagOf c (dialog_sent m).ours → AllOf (SparesCall (sent_at 0 m)) (remove calls k)
spares_others calls k c m apart at ends of = remove_others (λ d. Unit {0}) (SparesCall (sent_at 0 m)) calls k c apart at (none calls) (λ d off h. spares_other m c d ends of off)
  where
    none : (calls : List Call) → AllOf (λ d. Unit {0}) calls
    none [] = tt
    none (d ∷ ds) = (tt, none ds)
