-- An answer is passed on: the two exchanges that it makes.
use Rattle.std.proofs.Common.{◌≡◌, ◌≢◌, ℕ, suc, ◌+◌, ◌<◌, ◌≤◌, List, [], ◌∷◌, ◌++◌, length, map, not, if◌then◌else◌, Some, ◌⊎◌, inl, inr, refl, sym, ◌∙◌, ap, subst, arith, length-append}
use Rattle.std.specs.Prelude.{IsTrue}
use Rattle.call_trace.specs.declared.datagram.Direction.TheVariants.{Taken, Sent}
use Rattle.call_trace.specs.declared.datagram.Message.{Message}
use Rattle.call_trace.specs.declared.datagram.Datagram.{Datagram}
use Rattle.call_trace.specs.declared.datagram.Dialog.{Dialog}
use Rattle.call_trace.specs.declared.call.Session.{Session}
use Rattle.call_trace.specs.declared.call.Offer.{Offer}
use Rattle.call_trace.specs.Messages.{ack, is_request, is_offer, Replies}
use Rattle.call_trace.specs.Dialogs.{our_tag, dialog_of}
use Rattle.call_trace.specs.Exchanges.{TakesFinal, NoneSentBefore, Exchange, IsExchange}
use Rattle.call_trace.specs.Stands.{IsOffered, IsSettled}
use Rattle.call_trace.specs.Events.{taken_at, sent_at, passed}
use Rattle.call_trace.specs.Moves.{IsAckIn, PassesAnswer}
use Rattle.call_trace.proofs.AtLaws.{at_within, at_left, at_back, at_right, at_split}
use Rattle.call_trace.proofs.Words.{request_of}
use Rattle.call_trace.proofs.Members.{all_at}
use Rattle.call_trace.proofs.OneEvent.{came, went, part_of, taken_stands, sent_stands}
use Rattle.call_trace.proofs.NewExchanges.{tag_response_sent, from_request, from_response, to_response, exchange_tag, exchange_new}
use Rattle.call_trace.proofs.Offering.{last_or, last_of, request_no_answer}

-- ---- the dialog of a response

abbrev dialog : List ℕ → List ℕ → List ℕ → Dialog
dialog call ours theirs = record { call_id = call; ours = ours; theirs = theirs }

pub dialog_response_sent : (p : Datagram) → p.direction ≡ Sent → IsTrue (not (is_request p.message.kind)) → dialog_of p ≡ record { call_id = p.message.call_id; ours = p.message.to_tag; theirs = p.message.from_tag }
dialog_response_sent p e h =
    ap (λ b. dialog p.message.call_id (if b then p.message.from_tag else p.message.to_tag) (if b then p.message.to_tag else p.message.from_tag)) (to_response p.direction p.message.kind e h)

pub dialog_response_taken : (p : Datagram) → p.direction ≡ Taken → IsTrue (not (is_request p.message.kind)) → dialog_of p ≡ record { call_id = p.message.call_id; ours = p.message.from_tag; theirs = p.message.to_tag }
dialog_response_taken p e h =
    ap (λ b. dialog p.message.call_id (if b then p.message.from_tag else p.message.to_tag) (if b then p.message.to_tag else p.message.from_tag)) (from_response p.direction p.message.kind e h)

same_dialog : (a a' b b' c c' : List ℕ) → a ≡ a' → b ≡ b' → c ≡ c' → dialog a b c ≡ dialog a' b' c'
same_dialog a a' b b' c c' e f g = rw (e, f, g) refl

-- ---- the two exchanges

-- the 2xx that is taken first, the ACKs, and the 2xx that is sent last
abbrev pub settling : ℕ → Message → List Message → Message → List Datagram
settling n m a u = passed n (Some m) (a ++ u ∷ [])

pub settling_length : (n : ℕ) (m : Message) (a : List Message) (u : Message) → length (settling n m a u) ≡ suc (suc (length a))
settling_length n m a u = ap suc (sent_length a)
  where
    sent_length : (a : List Message) → length (map (λ v. sent_at n v) (a ++ u ∷ [])) ≡ suc (length a)
    sent_length [] = refl
    sent_length (b ∷ bs) = ap suc (sent_length bs)

abbrev pub served : List Datagram → ℕ → ℕ → Datagram → List Message → Message → Exchange
served t n i ca a u = record { asked_at = i; answered_at = length t + (1 + length a); asked = ca; answered = sent_at n u }

abbrev pub made : List Datagram → ℕ → ℕ → Datagram → Message → Exchange
made t n k we m = record { asked_at = k; answered_at = length t + 0; asked = we; answered = taken_at n m }

pub dialog_served : (t : List Datagram) (n : ℕ) (x y y' : Dialog) (p : Offer) (s : Session) (i k : ℕ) (ca we : Datagram) (m : Message) (a : List Message) (u : Message) (methods : List (List ℕ)) → IsOffered methods t x y p i k ca we → PassesAnswer t x y' p s m a u → dialog_of (sent_at n u) ≡ x
dialog_served t n x y y' p s i k ca we m a u methods o h =
    dialog_response_sent (sent_at n u) refl h.replies_went.response_kind
    ∙ same_dialog u.call_id x.call_id u.to_tag x.ours u.from_tag x.theirs (h.replies_went.call_id ∙ o.came_call) h.to_tag (h.replies_went.from_tag ∙ o.came_from)

-- the dialog of the 2xx that was taken, by its own tag
pub dialog_made : (t : List Datagram) (n : ℕ) (x y y' : Dialog) (p : Offer) (s : Session) (i k : ℕ) (ca we : Datagram) (m : Message) (a : List Message) (u : Message) (methods : List (List ℕ)) → IsOffered methods t x y p i k ca we → PassesAnswer t x y' p s m a u
    → dialog_of (taken_at n m) ≡ record { call_id = y.call_id; ours = y.ours; theirs = m.to_tag }
dialog_made t n x y y' p s i k ca we m a u methods o h =
    dialog_response_taken (taken_at n m) refl h.replies_came.response_kind
    ∙ same_dialog m.call_id y.call_id m.from_tag y.ours m.to_tag m.to_tag (h.replies_came.call_id ∙ o.went_call) (h.replies_came.from_tag ∙ o.went_from) refl

older_bytes : (t : List Datagram) (n : ℕ) (x y : Dialog) (p : Offer) (s : Session) (m : Message) (a : List Message) (u : Message) → PassesAnswer t x y p s m a u → NoneSentBefore (t ++ settling n m a u) (length t + (1 + length a)) u.bytes
older_bytes t n x y p s m a u h j q lt at out same =
    elim (at_split t (settling n m a u) j q at) [
      | inl e ↦ h.new_bytes j q e out same
      | inr e ↦ elim (part_of n (Some m) (a ++ u ∷ []) e.0 q e.2) [
        | came l tk z is ↦ (let f : q.direction ≡ Taken = ap (λ v. v.direction) is in absurd (cc))
        | went i l get z is ↦ elim (last_or a u l i get) [
          | inl r ↦ (all_at (IsAckIn t y u) a i l h.acknowledged r).other_bytes (ap (λ v. v.message.bytes) (sym is) ∙ same)
          | inr r ↦ (let j' : j ≡ length t + e.0 = e.1 in let z' : e.0 ≡ 1 + i = z in let i' : i ≡ length a = r.0 in absurd (omega arith))
        ]
      ]
    ]

pub served_exchange : (methods : List (List ℕ)) (t : List Datagram) (n : ℕ) (x y y' : Dialog) (p : Offer) (s : Session) (i k : ℕ) (ca we : Datagram) (m : Message) (a : List Message) (u : Message) → IsOffered methods t x y p i k ca we → PassesAnswer t x y' p s m a u
    → IsExchange methods (t ++ settling n m a u) x (served t n i ca a u)
served_exchange methods t n x y y' p s i k ca we m a u o h =
    let li : i < length t = at_within t i ca o.at_came in record {
      at_asked = at_left t (settling n m a u) i ca o.at_came;
      at_answered = at_right t (settling n m a u) (1 + length a) (sent_at n u) (sent_stands n (Some m) (a ++ u ∷ []) (length a) u (last_of a u));
      later = omega arith;
      offer = (let P : Message → Type 0 = λ v. IsTrue (is_offer methods v) in subst P (sym o.came_is) o.offer_came);
      answer = h.answer_went;
      replies = (let P : Message → Type 0 = λ v. Replies u v in subst P (sym o.came_is) h.replies_went);
      in_dialog = inr (dialog_served t n x y y' p s i k ca we m a u methods o h);
      crossed = inl (record { asked = o.taken; answered = refl; fresh = older_bytes t n x y' p s m a u h });
    }

-- the INVITE that was sent names y
dialog_went : (methods : List (List ℕ)) (t : List Datagram) (x y : Dialog) (p : Offer) (i k : ℕ) (ca we : Datagram) → IsOffered methods t x y p i k ca we → IsTrue (is_request we.message.kind) → dialog_of we ≡ y
dialog_went methods t x y p i k ca we o h =
    ap (λ b. dialog we.message.call_id (if b then we.message.from_tag else we.message.to_tag) (if b then we.message.to_tag else we.message.from_tag)) (from_request we.direction we.message.kind o.sent h)
    ∙ same_dialog we.message.call_id y.call_id we.message.from_tag y.ours we.message.to_tag y.theirs
    (ap (λ v. v.call_id) o.went_is ∙ o.went_call) (ap (λ v. v.from_tag) o.went_is ∙ o.went_from) (ap (λ v. v.to_tag) o.went_is ∙ o.went_to)

pub made_exchange : (methods : List (List ℕ)) (t : List Datagram) (n : ℕ) (x y y' : Dialog) (p : Offer) (s : Session) (i k : ℕ) (ca we : Datagram) (m : Message) (a : List Message) (u : Message) → IsOffered methods t x y p i k ca we → PassesAnswer t x y' p s m a u
    → (y ≡ y') ⊎ (dialog_of (taken_at n m) ≡ y') → IsExchange methods (t ++ settling n m a u) y' (made t n k we m)
made_exchange methods t n x y y' p s i k ca we m a u o h named =
    let lk : k < length t = at_within t k we o.at_went in
    let re : Replies m we.message = (let P : Message → Type 0 = λ v. Replies m v in subst P (sym o.went_is) h.replies_came) in record {
      at_asked = at_left t (settling n m a u) k we o.at_went;
      at_answered = at_right t (settling n m a u) 0 (taken_at n m) (taken_stands n (Some m) (a ++ u ∷ []) m refl);
      later = omega arith;
      offer = (let P : Message → Type 0 = λ v. IsTrue (is_offer methods v) in subst P (sym o.went_is) o.offer_went);
      answer = h.answer_came;
      replies = re;
      in_dialog = elim named [ inl e ↦ inl (dialog_went methods t x y p i k ca we o re.request_kind ∙ e) | inr e ↦ inr e ];
      crossed = inr (record {
        asked = o.sent;
        answered = refl;
        first = λ j q lt at f. (let old : j < length t = omega arith in
            o.unanswered j q (at_back t (settling n m a u) j q old at) (let P : Message → Type 0 = λ v. TakesFinal q v in subst P o.went_is f));
      });
    }

-- nothing comes after the 2xx that was sent
served_newest : (methods : List (List ℕ)) (t : List Datagram) (n : ℕ) (x : Dialog) (m : Message) (a : List Message) (u : Message) (f : Exchange) → IsExchange methods (t ++ settling n m a u) x f → f.answered_at ≤ length t + (1 + length a)
served_newest methods t n x m a u f h =
    let w : f.answered_at < length (t ++ settling n m a u) = at_within (t ++ settling n m a u) f.answered_at f.answered h.at_answered in
    let l : length (t ++ settling n m a u) ≡ length t + length (settling n m a u) = length-append t (settling n m a u) in
    let three : length (settling n m a u) ≡ suc (suc (length a)) = settling_length n m a u in
    omega arith

-- what is after the 2xx that was taken is of no exchange of its dialog
made_newest : (methods : List (List ℕ)) (t : List Datagram) (n : ℕ) (x y : Dialog) (p : Offer) (s : Session) (m : Message) (a : List Message) (u : Message) → PassesAnswer t x y p s m a u → y.ours ≢ [] → x.ours ≢ y.ours
    → (f : Exchange) → IsExchange methods (t ++ settling n m a u) y f → f.answered_at ≤ length t + 0
made_newest methods t n x y p s m a u h some differ f e =
    elim (exchange_new methods n t (Some m) (a ++ u ∷ []) y f e) [
      | inl o ↦ (let lt : f.answered_at < length t = o.0 in omega arith)
      | inr o ↦ (let place : f.answered_at ≡ length t + o.0 = o.1 in
          elim o.3 [
            | came l tk z is ↦ (let z' : o.0 ≡ 0 = z in omega arith)
            | went i l get z is ↦ elim (last_or a u l i get) [
              | inl r ↦ absurd (request_no_answer methods (t ++ settling n m a u) y f l e (ap (λ v. v.message) is) (request_of ack l (all_at (IsAckIn t y u) a i l h.acknowledged r).ack))
              | inr r ↦ (let tag : our_tag f.answered ≡ y.ours = exchange_tag methods (t ++ settling n m a u) y f e some in
                  let of : our_tag (sent_at n u) ≡ u.to_tag = tag_response_sent (sent_at n u) refl h.replies_went.response_kind in
                  let same : f.answered ≡ sent_at n u = is ∙ ap (λ v. sent_at n v) (sym r.1) in
                  absurd (differ (sym h.to_tag ∙ sym of ∙ ap our_tag (sym same) ∙ tag)))
            ]
          ])
    ]

pub settled_now : (methods : List (List ℕ)) (t : List Datagram) (n : ℕ) (x y y' : Dialog) (p : Offer) (s : Session) (i k : ℕ) (ca we : Datagram) (m : Message) (a : List Message) (u : Message) → IsOffered methods t x y p i k ca we → PassesAnswer t x y' p s m a u
    → (y ≡ y') ⊎ (dialog_of (taken_at n m) ≡ y') → y'.ours ≢ [] → x.ours ≢ y'.ours
    → IsSettled methods (t ++ settling n m a u) x y' s (served t n i ca a u) (made t n k we m)
settled_now methods t n x y y' p s i k ca we m a u o h named some differ = record {
  last_x = record { exchange = served_exchange methods t n x y y' p s i k ca we m a u o h; greatest = λ f e. served_newest methods t n x m a u f e };
  last_y = record { exchange = made_exchange methods t n x y y' p s i k ca we m a u o h named; greatest = λ f e. made_newest methods t n x y' p s m a u h some differ f e };
  passed_on = record {
    offer = record { taken = o.taken; sent = o.sent; event = o.event; method = ap (λ v. v.method) o.came_is ∙ o.method ∙ ap (λ v. v.method) (sym o.went_is) };
    answer = record { taken = refl; sent = refl; event = refl; method = h.replies_came.method ∙ sym o.method ∙ sym h.replies_went.method };
  };
  said = record {
    offer_taken = ap (λ v. v.description) o.came_is ∙ h.offer_taken;
    answer_sent = h.answer_sent;
    offer_sent = ap (λ v. v.description) o.went_is ∙ h.offer_sent;
    answer_taken = h.answer_taken;
  };
}
