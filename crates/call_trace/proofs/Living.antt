-- Which dialogs are live after one more event.
use Rattle.std.proofs.Common.{◌≡◌, ◌≢◌, ℕ, Bool, List, ◌++◌, Option, Some, ◌⊎◌, inl, inr, sym, ◌∙◌, ap, subst}
use Rattle.std.specs.Prelude.{slice_get, IsTrue}
use Rattle.call_trace.specs.declared.datagram.Direction.{Direction}
use Rattle.call_trace.specs.declared.datagram.Direction.TheVariants.{Sent}
use Rattle.call_trace.specs.declared.datagram.Message.{Message}
use Rattle.call_trace.specs.declared.datagram.Datagram.{Datagram}
use Rattle.call_trace.specs.declared.datagram.Dialog.{Dialog}
use Rattle.call_trace.specs.declared.call.Stage.TheVariants.{Asked, Ending}
use Rattle.call_trace.specs.declared.call.Call.{Call}
use Rattle.call_trace.specs.Messages.{invite, ack, bye, is_request, is_ok, is_success, is_method, is_request_of, asks, accepts}
use Rattle.call_trace.specs.Dialogs.{dialog_of}
use Rattle.call_trace.specs.Exchanges.{At}
use Rattle.call_trace.specs.Calls.{IsOwnBranch, Begun, Ended}
use Rattle.call_trace.specs.Stands.{leg, IsTagOf, AreOffering}
use Rattle.call_trace.specs.Lives.{IsEnding, IsLegOf, SparesCall, NoBye, LegsStand, LivesAfter}
use Rattle.call_trace.specs.Events.{sent_at, passed, dialog_sent, IsIdle, plain, branch_acknowledged, again, IsParting, idle, bye_sent, bye_answered, acknowledged}
use Rattle.call_trace.specs.Listed.{AllOf, AnyOf}
use Rattle.call_trace.proofs.AtLaws.{at_left, at_split}
use Rattle.call_trace.proofs.Growing.{ended_left}
use Rattle.call_trace.proofs.Members.{all_at}
use Rattle.call_trace.proofs.Words.{and_left, and_right, request_of, request_asks, request_is_no_success, ok_is_success, invite_asks, other_asks, plain_ack, plain_bye, plain_ok, plain_accepts, invite_is_not_bye, ack_is_not_bye}
use Rattle.call_trace.proofs.OneEvent.{sent_part, used_by_request, FineAsks}
use Rattle.call_trace.proofs.Parting.{all_from_at, ends_now}

-- ---- dialogs that have begun

-- what was sent counts for what is sent in the same bytes
dialog_again : (q : Datagram) (m : Message) → q.direction ≡ Sent → q.message ≡ m → dialog_of q ≡ dialog_sent m
dialog_again q m e f =
    let P : Direction → Message → Dialog = λ d l. dialog_of (record { event = 0; direction = d; message = l }) in
    ap (λ d. P d q.message) e ∙ ap (λ l. P Sent l) f

own_left : (methods : List (List ℕ)) (n : ℕ) (t : List Datagram) (taken : Option Message) (sent : List Message) (i : ℕ) (p : Datagram) → AreOffering methods → FineAsks methods t taken sent → At t i p → p.direction ≡ Sent → IsTrue (is_request p.message.kind)
    → IsOwnBranch t p.message.branch → IsOwnBranch (t ++ passed n taken sent) p.message.branch
own_left methods n t taken sent i p off fine at out request own k q at' out' inv same =
    elim (at_split t (passed n taken sent) k q at') [
      | inl x ↦ own k q x out' inv same
      | inr x ↦ (let y = sent_part n taken sent x.0 q x.2 out' in
          let me : q.message ≡ y.1 = ap (λ v. v.message) y.4 in
          let a : IsTrue (asks methods y.1) = (let P : Message → Type 0 = λ v. IsTrue (asks methods v) in subst P me (invite_asks methods q.message off.invites inv)) in
          elim (fine.each y.0 y.1 y.2 a) [
            | inl u ↦ used_by_request t i p y.1.branch u at out request (sym same ∙ ap (λ v. v.branch) me)
            | inr u ↦ own u.0 u.1 u.2.at u.2.sent (let P : Message → Type 0 = λ v. IsTrue (is_request_of invite v) in subst P (me ∙ sym u.3) inv) (ap (λ v. v.branch) (u.3 ∙ sym me) ∙ same)
          ])
    ]

pub begun_left : (methods : List (List ℕ)) (n : ℕ) (t : List Datagram) (taken : Option Message) (sent : List Message) (d : Dialog) → AreOffering methods → FineAsks methods t taken sent → Begun t d → Begun (t ++ passed n taken sent) d
begun_left methods n t taken sent d off fine b =
    let s : List Datagram = passed n taken sent in
    elim b [
      | inl h ↦ inl (h.0, h.1, record { sent = record { at = at_left t s h.0 h.1 h.2.sent.at; sent = h.2.sent.sent; named = h.2.sent.named }; accepts = h.2.accepts })
      | inr h ↦ inr (
        h.0,
        h.1,
        record {
          sent = record { at = at_left t s h.0 h.1 h.2.sent.at; sent = h.2.sent.sent; named = h.2.sent.named };
          acknowledges = h.2.acknowledges;
          own_branch = own_left methods n t taken sent h.0 h.1 off fine h.2.sent.at h.2.sent.sent (request_of ack h.1.message h.2.acknowledges) h.2.own_branch;
        },
      )
    ]

-- the message begins its dialog: a 2xx to an INVITE, or an ACK with a branch of its own
abbrev pub Begins : List Datagram → Message → Type 0
Begins t m = IsTrue (accepts m) ⊎ (IsTrue (is_request_of ack m) × IsOwnBranch t m.branch)

-- what is sent and moves no call begins no dialog that had not begun
idle_begins : (methods : List (List ℕ)) (t s : List Datagram) (taken : Option Message) (m : Message) → AreOffering methods → IsIdle methods t taken m → Begins (t ++ s) m → Begun t (dialog_sent m)
idle_begins methods t s taken m off h b =
    elim h [
      | plain g ↦ elim b [
        | inl a ↦ absurd (plain_accepts methods m g (and_left (is_success m.kind) (is_method invite m.method) a) (and_right (is_success m.kind) (is_method invite m.method) a))
        | inr a ↦ absurd (plain_ack methods m g a.0)
      ]
      | branch_acknowledged k q g at out inv same ↦ elim b [
        | inl a ↦ absurd (request_is_no_success m.kind (request_of ack m g) (and_left (is_success m.kind) (is_method invite m.method) a))
        | inr a ↦ absurd (a.1 k q (at_left t s k q at) out inv same)
      ]
      | again k q at out same g ↦ elim b [
        | inl a ↦ inl (k, q, record { sent = record { at = at; sent = out; named = dialog_again q m out same }; accepts = (let P : Message → Type 0 = λ v. IsTrue (accepts v) in subst P (sym same) a) })
        | inr a ↦ inr (
          k,
          q,
          record {
            sent = record { at = at; sent = out; named = dialog_again q m out same };
            acknowledges = (let P : Message → Type 0 = λ v. IsTrue (is_request_of ack v) in subst P (sym same) a.0);
            own_branch = λ j r at' out' inv e. a.1 j r (at_left t s j r at') out' inv (e ∙ ap (λ v. v.branch) same);
          },
        )
      ]
    ]

-- ---- what is sent

-- What may be sent: a request that may carry an offer, what moves no call or ends one, and what begins a leg.
pub data IsFine (methods : List (List ℕ)) (t : List Datagram) (taken : Option Message) (sent : List Message) (new : List Call) (m : Message) : Type 0 where
  parting : IsParting methods t taken sent new m → IsFine methods t taken sent new m
  asking : IsTrue (asks methods m) → IsFine methods t taken sent new m
  begins : ¬ IsTrue (is_request_of bye m) → (IsTrue (is_ok m.kind) → IsTrue (is_method bye m.method) → ⊥) → AnyOf (IsLegOf (dialog_sent m)) new → IsFine methods t taken sent new m

fine_bye : (methods : List (List ℕ)) (t : List Datagram) (taken : Option Message) (sent : List Message) (new : List Call) (m : Message) (i : ℕ) (c : Call) → AreOffering methods → IsFine methods t taken sent new m → slice_get new i ≡ Some c → NoBye t c
    → IsTrue (is_request_of bye m) → SparesCall (sent_at 0 m) c
fine_bye methods t taken sent new m i c off h at none b =
    elim h [
      | parting g ↦ elim g [
        | idle f ↦ elim f [
          | plain e ↦ absurd (plain_bye methods m e b)
          | branch_acknowledged k q e at' out inv same ↦ absurd (ack_is_not_bye m.method (and_right (is_request m.kind) (is_method ack m.method) e) (and_right (is_request m.kind) (is_method bye m.method) b))
          | again k q at' out same e ↦ (let p = none.sent k q at' out (let P : Message → Type 0 = λ v. IsTrue (is_request_of bye v) in subst P (sym same) b) in record {
            caller = λ g' e'. p.caller g' (dialog_again q m out same ∙ e');
            callee = λ g' e'. p.callee g' (dialog_again q m out same ∙ e');
            first = λ g' e'. p.first g' (ap (λ v. v.from_tag) same ∙ e');
          })
        ]
        | bye_sent f e ↦ all_at (SparesCall (sent_at 0 m)) new i c e at
        | bye_answered f g' e ↦ absurd (request_is_no_success m.kind (request_of bye m b) (ok_is_success m.kind f))
        | acknowledged f e ↦ absurd (ack_is_not_bye m.method (and_right (is_request m.kind) (is_method ack m.method) f) (and_right (is_request m.kind) (is_method bye m.method) b))
      ]
      | asking g ↦ absurd (other_asks methods bye m off.byes b g)
      | begins g f e ↦ absurd (g b)
    ]

fine_ok : (methods : List (List ℕ)) (t : List Datagram) (taken : Option Message) (sent : List Message) (new : List Call) (m : Message) (i : ℕ) (c : Call) → IsFine methods t taken sent new m → slice_get new i ≡ Some c → NoBye t c → ¬ IsEnding c.stage
    → IsTrue (is_ok m.kind) → IsTrue (is_method bye m.method) → ¬ IsTagOf c m.to_tag
fine_ok methods t taken sent new m i c h at none stays k b tag =
    elim h [
      | parting g ↦ elim g [
        | idle f ↦ elim f [
          | plain e ↦ plain_ok methods m e k b
          | branch_acknowledged j q e at' out inv same ↦ request_is_no_success m.kind (request_of ack m e) (ok_is_success m.kind k)
          | again j q at' out same e ↦ none.answered stays j q at' out (let P : Message → Type 0 = λ v. IsTrue (is_ok v.kind) in subst P (sym same) k) (let P : Message → Type 0 = λ v. IsTrue (is_method bye v.method) in subst P (sym same) b)
              (let P : Message → Type 0 = λ v. IsTagOf c v.to_tag in subst P (sym same) tag)
        ]
        | bye_sent f e ↦ request_is_no_success m.kind (request_of bye m f) (ok_is_success m.kind k)
        | bye_answered f g' e ↦ all_at (λ d. ¬ IsEnding d.stage → ¬ IsTagOf d m.to_tag) new i c e at stays tag
        | acknowledged f e ↦ request_is_no_success m.kind (request_of ack m f) (ok_is_success m.kind k)
      ]
      | asking g ↦ request_is_no_success m.kind (request_asks methods m g) (ok_is_success m.kind k)
      | begins g f e ↦ f k b
    ]

fine_begins : (methods : List (List ℕ)) (n : ℕ) (t : List Datagram) (taken : Option Message) (sent : List Message) (new : List Call) (m : Message) → AreOffering methods → IsFine methods t taken sent new m → Begins (t ++ passed n taken sent) m
    → AnyOf (IsLegOf (dialog_sent m)) new ⊎ (Ended (t ++ passed n taken sent) (dialog_sent m) ⊎ Begun t (dialog_sent m))
fine_begins methods n t taken sent new m off h b =
    elim h [
      | parting g ↦ elim g [
        | idle f ↦ inr (inr (idle_begins methods t (passed n taken sent) taken m off f b))
        | bye_sent f e ↦ elim b [
          | inl a ↦ absurd (request_is_no_success m.kind (request_of bye m f) (and_left (is_success m.kind) (is_method invite m.method) a))
          | inr a ↦ absurd (ack_is_not_bye m.method (and_right (is_request m.kind) (is_method ack m.method) a.0) (and_right (is_request m.kind) (is_method bye m.method) f))
        ]
        | bye_answered f g' e ↦ elim b [
          | inl a ↦ absurd (invite_is_not_bye m.method (and_right (is_success m.kind) (is_method invite m.method) a) g')
          | inr a ↦ absurd (request_is_no_success m.kind (request_of ack m a.0) (ok_is_success m.kind f))
        ]
        | acknowledged f e ↦ inr (inl (ends_now n t taken sent (dialog_sent m) e))
      ]
      | asking g ↦ elim b [
        | inl a ↦ absurd (request_is_no_success m.kind (request_asks methods m g) (and_left (is_success m.kind) (is_method invite m.method) a))
        | inr a ↦ absurd (other_asks methods ack m off.acks a.0 g)
      ]
      | begins g f e ↦ inl e
    ]

-- ---- the calls' legs

pub record BegunLegs (t : List Datagram) (c : Call) : Type 0 where
  pub caller : c.stage ≢ Asked → Begun t c.caller
  pub callee : c.stage ≢ Asked → Begun t c.callee
  pub ending : (b : Bool) → c.stage ≡ Ending b → Ended t (leg c b)

-- no BYE is in the call before the event, and its legs have begun after it
abbrev pub Grown : List Datagram → List Datagram → Call → Type 0
Grown t s c = NoBye t c × BegunLegs (t ++ s) c

pub grown : (methods : List (List ℕ)) (n : ℕ) (t : List Datagram) (taken : Option Message) (sent : List Message) (c : Call) → AreOffering methods → FineAsks methods t taken sent → LegsStand t c → Grown t (passed n taken sent) c
grown methods n t taken sent c off fine h = (
  h.quiet,
  record {
    caller = λ e. begun_left methods n t taken sent c.caller off fine (h.caller e);
    callee = λ e. begun_left methods n t taken sent c.callee off fine (h.callee e);
    ending = λ b e. ended_left t (passed n taken sent) (leg c b) (h.ending b e);
  },
)

legs_after : (methods : List (List ℕ)) (n : ℕ) (t : List Datagram) (taken : Option Message) (sent : List Message) (new : List Call) (i : ℕ) (c : Call) → AreOffering methods → AllOf (IsFine methods t taken sent new) sent → slice_get new i ≡ Some c
    → Grown t (passed n taken sent) c → LegsStand (t ++ passed n taken sent) c
legs_after methods n t taken sent new i c off fine at g = record {
  quiet = record {
    sent = λ j p at' out b. elim (at_split t (passed n taken sent) j p at') [
      | inl x ↦ g.0.sent j p x out b
      | inr x ↦ (let y = sent_part n taken sent x.0 p x.2 out in
          let me : p.message ≡ y.1 = ap (λ v. v.message) y.4 in
          let q = fine_bye methods t taken sent new y.1 i c off (all_at (IsFine methods t taken sent new) sent y.0 y.1 fine y.2) at g.0 (let P : Message → Type 0 = λ v. IsTrue (is_request_of bye v) in subst P me b) in record {
            caller = λ f e. q.caller f (sym (dialog_again p y.1 out me) ∙ e);
            callee = λ f e. q.callee f (sym (dialog_again p y.1 out me) ∙ e);
            first = λ f e. q.first f (ap (λ v. v.from_tag) (sym me) ∙ e);
          })
    ];
    answered = λ stays j p at' out k b tag. elim (at_split t (passed n taken sent) j p at') [
      | inl x ↦ g.0.answered stays j p x out k b tag
      | inr x ↦ (let y = sent_part n taken sent x.0 p x.2 out in
          let me : p.message ≡ y.1 = ap (λ v. v.message) y.4 in
          fine_ok methods t taken sent new y.1 i c (all_at (IsFine methods t taken sent new) sent y.0 y.1 fine y.2) at g.0 stays
          (let P : Message → Type 0 = λ v. IsTrue (is_ok v.kind) in subst P me k) (let P : Message → Type 0 = λ v. IsTrue (is_method bye v.method) in subst P me b)
          (let P : Message → Type 0 = λ v. IsTagOf c v.to_tag in subst P me tag))
    ];
  };
  caller = g.1.caller;
  callee = g.1.callee;
  ending = g.1.ending;
}

-- ---- the relation after an event

-- each leg that was listed being listed then, or ended
abbrev pub KeepsLegs : List Datagram → List Call → List Call → Type 0
KeepsLegs t old new = (d : Dialog) → AnyOf (IsLegOf d) old → AnyOf (IsLegOf d) new ⊎ Ended t d

begun_split : (methods : List (List ℕ)) (n : ℕ) (t : List Datagram) (taken : Option Message) (sent : List Message) (new : List Call) (d : Dialog) → AreOffering methods → AllOf (IsFine methods t taken sent new) sent → Begun (t ++ passed n taken sent) d
    → AnyOf (IsLegOf d) new ⊎ (Ended (t ++ passed n taken sent) d ⊎ Begun t d)
begun_split methods n t taken sent new d off fine b =
    let s : List Datagram = passed n taken sent in
    elim b [
      | inl h ↦ elim (at_split t s h.0 h.1 h.2.sent.at) [
        | inl x ↦ inr (inr (inl (h.0, h.1, record { sent = record { at = x; sent = h.2.sent.sent; named = h.2.sent.named }; accepts = h.2.accepts })))
        | inr x ↦ (let y = sent_part n taken sent x.0 h.1 x.2 h.2.sent.sent in
            let me : h.1.message ≡ y.1 = ap (λ v. v.message) y.4 in
            now y.0 y.1 h.1 y.2 me h.2.sent.sent h.2.sent.named (inl (let P : Message → Type 0 = λ v. IsTrue (accepts v) in subst P me h.2.accepts)))
      ]
      | inr h ↦ elim (at_split t s h.0 h.1 h.2.sent.at) [
        | inl x ↦ inr (inr (inr (
          h.0,
          h.1,
          record { sent = record { at = x; sent = h.2.sent.sent; named = h.2.sent.named }; acknowledges = h.2.acknowledges; own_branch = λ k q at out inv. h.2.own_branch k q (at_left t s k q at) out inv },
        )))
        | inr x ↦ (let y = sent_part n taken sent x.0 h.1 x.2 h.2.sent.sent in
            let me : h.1.message ≡ y.1 = ap (λ v. v.message) y.4 in
            now y.0 y.1 h.1 y.2 me h.2.sent.sent h.2.sent.named
            (inr ((let P : Message → Type 0 = λ v. IsTrue (is_request_of ack v) in subst P me h.2.acknowledges), (let P : Message → Type 0 = λ v. IsOwnBranch (t ++ s) v.branch in subst P me h.2.own_branch))))
      ]
    ]
  where
    now : (i : ℕ) (m : Message) (p : Datagram) → slice_get sent i ≡ Some m → p.message ≡ m → p.direction ≡ Sent → dialog_of p ≡ d → Begins (t ++ passed n taken sent) m
        → AnyOf (IsLegOf d) new ⊎ (Ended (t ++ passed n taken sent) d ⊎ Begun t d)
    now i m p at me out named b =
        let P : Dialog → Type 0 = λ v. AnyOf (IsLegOf v) new ⊎ (Ended (t ++ passed n taken sent) v ⊎ Begun t v) in
        subst P (sym (dialog_again p m out me) ∙ named) (fine_begins methods n t taken sent new m off (all_at (IsFine methods t taken sent new) sent i m fine at) b)

pub lives_more : (methods : List (List ℕ)) (n : ℕ) (t : List Datagram) (taken : Option Message) (sent : List Message) (old new : List Call) → AreOffering methods → AllOf (IsFine methods t taken sent new) sent → AllOf (Grown t (passed n taken sent)) new
    → KeepsLegs (t ++ passed n taken sent) old new → LivesAfter old t → LivesAfter new (t ++ passed n taken sent)
lives_more methods n t taken sent old new off fine legs keep h = record {
  legs = all_from_at (LegsStand (t ++ passed n taken sent)) new (λ i c at. legs_after methods n t taken sent new i c off fine at (all_at (Grown t (passed n taken sent)) new i c legs at));
  begun = λ d b. elim (begun_split methods n t taken sent new d off fine b) [
    | inl x ↦ inl x
    | inr x ↦ elim x [
      | inl y ↦ inr y
      | inr y ↦ elim (h.begun d y) [
        | inl z ↦ keep d z
        | inr z ↦ inr (ended_left t (passed n taken sent) d z)
      ]
    ]
  ];
}
