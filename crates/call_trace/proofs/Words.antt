-- What kinds and methods of messages say of one another.
use Rattle.std.proofs.Common.{◌≡◌, ℕ, List, Bool, true, false, not, ◌&&◌, ◌||◌, refl, sym, subst, nat_le, nat_lt}
use Rattle.std.specs.Prelude.{IsTrue, is_some}
use Rattle.std.specs.Cmp.Lexicographic.{bytes_decides}
use Rattle.std.proofs.lemmas.Bool.Decides.{Decides-eqb}
use Rattle.call_trace.specs.declared.datagram.Kind.{Kind}
use Rattle.call_trace.specs.declared.datagram.Kind.TheVariants.{Request, Response}
use Rattle.call_trace.specs.declared.datagram.Message.{Message}
use Rattle.call_trace.specs.Messages.{invite, ack, bye, is_request, is_final, is_ok, is_success, is_method, is_listed, is_request_of, asks, is_offer, is_answer, Replies}
use Rattle.call_trace.specs.Events.{is_plain, is_calm}

pub and_left : (a b : Bool) → IsTrue (a && b) → IsTrue a
and_left true b h = refl
and_left false b h = absurd (cc)

pub and_right : (a b : Bool) → IsTrue (a && b) → IsTrue b
and_right true b h = h
and_right false b h = absurd (cc)

pub and_both : (a b : Bool) → IsTrue a → IsTrue b → IsTrue (a && b)
and_both true b h k = k
and_both false b h k = absurd (cc)

pub or_left : (a b : Bool) → IsTrue a → IsTrue (a || b)
or_left true b h = refl
or_left false b h = absurd (cc)

pub or_right : (a b : Bool) → IsTrue b → IsTrue (a || b)
or_right true b h = refl
or_right false b h = h

pub not_both : (a : Bool) → IsTrue (not a) → IsTrue a → ⊥
not_both true h k = absurd (cc)
not_both false h k = absurd (cc)

-- ---- kinds

pub request_is_no_success : (k : Kind) → IsTrue (is_request k) → IsTrue (is_success k) → ⊥
request_is_no_success Request h e = absurd (cc)
request_is_no_success (Response s) h e = absurd (cc)

pub request_is_no_final : (k : Kind) → IsTrue (is_request k) → IsTrue (is_final k) → ⊥
request_is_no_final Request h e = absurd (cc)
request_is_no_final (Response s) h e = absurd (cc)

pub success_is_final : (k : Kind) → IsTrue (is_success k) → IsTrue (is_final k)
success_is_final Request h = absurd (cc)
success_is_final (Response s) h = and_left (nat_le 200 s) (nat_lt s 300) h

pub ok_is_success : (k : Kind) → IsTrue (is_ok k) → IsTrue (is_success k)
ok_is_success Request h = absurd (cc)
ok_is_success (Response s) h = let e : s ≡ 200 = (Decides-eqb s 200).0 h in (let P : ℕ → Type 0 = λ v. IsTrue (nat_le 200 v && nat_lt v 300) in subst P (sym e) refl)

-- ---- methods

pub request_asks : (methods : List (List ℕ)) (m : Message) → IsTrue (asks methods m) → IsTrue (is_request m.kind)
request_asks methods m h = and_left (is_request m.kind) (is_listed methods m.method) h

pub listed_asks : (methods : List (List ℕ)) (m : Message) → IsTrue (asks methods m) → IsTrue (is_listed methods m.method)
listed_asks methods m h = and_right (is_request m.kind) (is_listed methods m.method) h

pub offer_asks : (methods : List (List ℕ)) (m : Message) → IsTrue (is_offer methods m) → IsTrue (asks methods m)
offer_asks methods m h = and_left (asks methods m) (is_some m.description) h

pub answer_succeeds : (m : Message) → IsTrue (is_answer m) → IsTrue (is_success m.kind)
answer_succeeds m h = and_left (is_success m.kind) (is_some m.description) h

pub request_of : (name : List ℕ) (m : Message) → IsTrue (is_request_of name m) → IsTrue (is_request m.kind)
request_of name m h = and_left (is_request m.kind) (is_method name m.method) h

pub method_is : (name m : List ℕ) → IsTrue (is_method name m) → m ≡ name
method_is name m h = (bytes_decides m name).0 h

-- INVITE may carry an offer
pub invite_is_listed : (methods : List (List ℕ)) (m : List ℕ) → IsTrue (is_listed methods invite) → IsTrue (is_method invite m) → IsTrue (is_listed methods m)
invite_is_listed methods m h e = let P : List ℕ → Type 0 = λ v. IsTrue (is_listed methods v) in subst P (sym (method_is invite m e)) h

pub invite_asks : (methods : List (List ℕ)) (m : Message) → IsTrue (is_listed methods invite) → IsTrue (is_request_of invite m) → IsTrue (asks methods m)
invite_asks methods m h e =
    and_both (is_request m.kind) (is_listed methods m.method) (request_of invite m e) (invite_is_listed methods m.method h (and_right (is_request m.kind) (is_method invite m.method) e))

pub reply_is_listed : (methods : List (List ℕ)) (r m : Message) → Replies r m → IsTrue (asks methods m) → IsTrue (is_listed methods r.method)
reply_is_listed methods r m h e = let P : List ℕ → Type 0 = λ v. IsTrue (is_listed methods v) in subst P (sym h.method) (listed_asks methods m e)

-- ---- what is plain

pub plain_asks : (methods : List (List ℕ)) (m : Message) → IsTrue (is_plain methods m) → IsTrue (asks methods m) → ⊥
plain_asks methods m h e = not_both (asks methods m) (and_left (not (asks methods m)) _ h) e

pub plain_ack : (methods : List (List ℕ)) (m : Message) → IsTrue (is_plain methods m) → IsTrue (is_request_of ack m) → ⊥
plain_ack methods m h e = not_both (is_request_of ack m) (and_left (not (is_request_of ack m)) _ (and_right (not (asks methods m)) _ h)) e

pub plain_bye : (methods : List (List ℕ)) (m : Message) → IsTrue (is_plain methods m) → IsTrue (is_request_of bye m) → ⊥
plain_bye methods m h e = not_both (is_request_of bye m) (and_left (not (is_request_of bye m)) _ (and_right (not (is_request_of ack m)) _ (and_right (not (asks methods m)) _ h))) e

plain_rest : (methods : List (List ℕ)) (m : Message) → IsTrue (is_plain methods m) → IsTrue (not (is_success m.kind && (is_method invite m.method || (is_method bye m.method || (is_listed methods m.method && is_some m.description)))))
plain_rest methods m h = and_right (not (is_request_of bye m)) _ (and_right (not (is_request_of ack m)) _ (and_right (not (asks methods m)) _ h))

plain_success : (methods : List (List ℕ)) (m : Message) → IsTrue (is_plain methods m) → IsTrue (is_success m.kind) → IsTrue (is_method invite m.method || (is_method bye m.method || (is_listed methods m.method && is_some m.description))) → ⊥
plain_success methods m h e f = not_both (is_success m.kind && _) (plain_rest methods m h) (and_both (is_success m.kind) _ e f)

pub plain_accepts : (methods : List (List ℕ)) (m : Message) → IsTrue (is_plain methods m) → IsTrue (is_success m.kind) → IsTrue (is_method invite m.method) → ⊥
plain_accepts methods m h e f = plain_success methods m h e (or_left (is_method invite m.method) _ f)

pub plain_answers : (methods : List (List ℕ)) (m : Message) → IsTrue (is_plain methods m) → IsTrue (is_answer m) → IsTrue (is_listed methods m.method) → ⊥
plain_answers methods m h e f =
    plain_success methods m h (answer_succeeds m e)
    (or_right (is_method invite m.method) _ (or_right (is_method bye m.method) _ (and_both (is_listed methods m.method) (is_some m.description) f (and_right (is_success m.kind) (is_some m.description) e))))

pub plain_ok : (methods : List (List ℕ)) (m : Message) → IsTrue (is_plain methods m) → IsTrue (is_ok m.kind) → IsTrue (is_method bye m.method) → ⊥
plain_ok methods m h e f = plain_success methods m h (ok_is_success m.kind e) (or_right (is_method invite m.method) _ (or_left (is_method bye m.method) _ f))

pub calm_final : (methods : List (List ℕ)) (m : Message) → IsTrue (is_calm methods m) → IsTrue (is_final m.kind) → IsTrue (is_listed methods m.method) → ⊥
calm_final methods m h e f = not_both (is_final m.kind && is_listed methods m.method) h (and_both (is_final m.kind) (is_listed methods m.method) e f)

-- INVITE, ACK and BYE are three
other_than : (name other m : List ℕ) → IsTrue (not (is_method other name)) → IsTrue (is_method name m) → IsTrue (is_method other m) → ⊥
other_than name other m h e f = not_both (is_method other name) h (let P : List ℕ → Type 0 = λ v. IsTrue (is_method other v) in subst P (method_is name m e) f)

pub invite_is_not_bye : (m : List ℕ) → IsTrue (is_method invite m) → IsTrue (is_method bye m) → ⊥
invite_is_not_bye m e f = other_than invite bye m refl e f

pub ack_is_not_invite : (m : List ℕ) → IsTrue (is_method ack m) → IsTrue (is_method invite m) → ⊥
ack_is_not_invite m e f = other_than ack invite m refl e f

pub ack_is_not_bye : (m : List ℕ) → IsTrue (is_method ack m) → IsTrue (is_method bye m) → ⊥
ack_is_not_bye m e f = other_than ack bye m refl e f

-- a request of a method that may carry no offer
pub other_asks : (methods : List (List ℕ)) (name : List ℕ) (m : Message) → IsTrue (not (is_listed methods name)) → IsTrue (is_request_of name m) → IsTrue (asks methods m) → ⊥
other_asks methods name m h e f =
    let is : m.method ≡ name = method_is name m.method (and_right (is_request m.kind) (is_method name m.method) e) in
    not_both (is_listed methods name) h (let P : List ℕ → Type 0 = λ v. IsTrue (is_listed methods v) in subst P is (listed_asks methods m f))
