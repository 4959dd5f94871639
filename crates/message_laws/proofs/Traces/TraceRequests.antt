-- What is in a longer trace: the requests of the server's own that began, and the final responses to them.
use Rattle.std.proofs.Common.{◌≡◌, ◌∙◌, ℕ, ◌+◌, Bool, true, false, cond, ◌||◌, nat_le, nat_lt, List, [], ◌∷◌, ◌++◌, length, Option, Some, None, Ok, refl, sym, ap, subst, inl, inr}
use Rattle.std.specs.Prelude.{◌⊎◌, IsSome, IsTrue, nat_eq, unwrap_or}
use Rattle.std.specs.Cmp.Lexicographic.{bytes_decides, pointwise}
use Rattle.std.proofs.lemmas.Bool.{false≢true, le-leb, ltb-false}
use Rattle.std.proofs.lemmas.Option.{same_Some}
use Rattle.events.specs.declared.event.What.{What}
use Rattle.events.specs.declared.event.What.TheVariants as whats
use Rattle.events.specs.declared.sent.Sent.{Sent}
use Rattle.sip_uri.specs.declared.uri.Addr.{Addr}
use Rattle.sip_message.specs.Read.{message_of}
use Rattle.sip_message.specs.Words.{tag_value}
use Rattle.sip_message.specs.declared.message.Message.TheVariants as Kinds
use Rattle.sip_message.specs.declared.message.Parts.{Parts}
use Rattle.sip_message.specs.declared.message.Response.{Response}
use Rattle.sip_message.specs.declared.words.Class.TheVariants.{Failure, Provisional, Success}
use Rattle.sip_writing.specs.Writing.{message_text}
use Rattle.transaction_machines.specs.declared.input.Input.TheVariants as inputs
use Rattle.transactions.specs.Changes.{entered, entered_all}
use Rattle.transactions.specs.Contents.{Contents, response_input}
use Rattle.transactions.specs.Matching.{RepliesTo}
use Rattle.transactions.specs.Slots.{at, is_answered}
use Rattle.transactions.specs.declared.change.Entry.{Entry}
use Rattle.transactions.specs.declared.change.Entry.TheVariants.{Answers, Leaves, Opens, Tells}
use Rattle.transactions.specs.declared.transaction.Transaction.{Transaction}
use Rattle.call_rules.specs.Speaking.{is_invite, is_update, may_offer}
use Rattle.plans.specs.declared.taken.Taken.{Taken}
use Rattle.plans.specs.declared.taken.Taken.TheVariants.{Done}
use Rattle.call_trace.specs.declared.datagram.Datagram.{Datagram}
use Rattle.call_trace.specs.declared.datagram.Message.{Message as TraceMessage}
use Rattle.call_trace.specs.Events.{passed, sent_at, taken_at}
use Rattle.call_trace.specs.Exchanges.{TakesFinal}
use Rattle.call_trace.specs.Listed.{AllOf}
use Rattle.call_trace.specs.Messages.{Replies, asks, invite, is_final, is_listed, is_request, offering, update}
use Rattle.call_trace.proofs.OneEvent.{offset}
use Rattle.call_trace.proofs.Words.{and_both}
use Rattle.trace_reading.specs.Message.{trace_message}
use Rattle.message_laws.specs.Numbers.{begun_of}
use Rattle.message_laws.specs.OpenRequests.{IsAmong}
use Rattle.message_laws.specs.Waiting.{IsOffering, waits}
use Rattle.message_laws.proofs.AwaitedOffers.Coming.{CameFrom, OpensIn, all_came}
use Rattle.message_laws.proofs.AwaitedOffers.Coming as coming
use Rattle.message_laws.proofs.AwaitedOffers.Once.{offering_before}
use Rattle.message_laws.proofs.Messages.ReadMessages.{message_reads}
use Rattle.message_laws.specs.Kinds.{AreBegun, IsBegun}
use Rattle.message_laws.specs.KnownTrace.{HasBegun, IsRequested, IsFinallyAnswered}
use Rattle.message_laws.specs.Messages.{AreMessages, IsRequestOf}
use Rattle.message_laws.specs.Traces.{IsTaken}
use Rattle.message_laws.proofs.Traces.Effects.{Tidings}
use Rattle.message_laws.proofs.Traces.Effects as effects
use Rattle.message_laws.proofs.Traces.Places.{answered_left, asked_left, message_at, sent_place, taken_place}
use Rattle.message_laws.proofs.Traces.ReadTexts.{WrittenReads, read_as, request_of, request_seen, written_as}
use Rattle.message_laws.proofs.Traces.Saying.{EntryIsCalm, is_final_input}
use Rattle.message_laws.proofs.Traces.Taking.{ReplyLaw, answers_to}
use Rattle.message_laws.proofs.Traces.WaitingOn.{IsSame, QuietFrom, ToldFrom, WaitsStill, all_wait, began, elsewhere, stayed, there, told_from}

-- ---- those that began

pub among_left : (us vs : List Transaction) (t : Transaction) → IsAmong us t → IsAmong (us ++ vs) t
among_left [] vs t h = absurd h
among_left (u ∷ us) vs t (inl e) = inl e
among_left (u ∷ us) vs t (inr h) = inr (among_left us vs t h)

pub among_right : (us vs : List Transaction) (t : Transaction) → IsAmong vs t → IsAmong (us ++ vs) t
among_right [] vs t h = h
among_right (u ∷ us) vs t h = inr (among_right us vs t h)

among_split : (us vs : List Transaction) (t : Transaction) → IsAmong (us ++ vs) t → IsAmong us t ⊎ IsAmong vs t
among_split [] vs t h = inr h
among_split (u ∷ us) vs t (inl e) = inl (inl e)
among_split (u ∷ us) vs t (inr h) = elim (among_split us vs t h) [ inl k ↦ inl (inr k) | inr k ↦ inr k ]

opens_among : (changes : List Entry) (t : Transaction) → OpensIn t changes → IsAmong (begun_of changes) t
opens_among [] t h = absurd h
opens_among (Opens v starts ∷ changes) t (inl e) = inl e
opens_among (Opens v starts ∷ changes) t (inr h) = inr (opens_among changes t h)
opens_among (Tells id input fresh ∷ changes) t h = opens_among changes t h
opens_among (Answers id class bytes ∷ changes) t h = opens_among changes t h
opens_among (Leaves ∷ changes) t h = opens_among changes t h

-- ---- they are in the trace

name_is : (method name : List ℕ) → pointwise nat_eq method name ≡ true → method ≡ name
name_is method name h = (bytes_decides method name).0 h

listed_by : (method : List ℕ) (a b : Bool) → (a ≡ true → method ≡ invite) → (b ≡ true → method ≡ update) → (a || b) ≡ true → IsTrue (is_listed offering method)
listed_by method true b one two h = subst (λ (name : List ℕ). IsTrue (is_listed offering name)) (sym (one refl)) refl
listed_by method false true one two h = subst (λ (name : List ℕ). IsTrue (is_listed offering name)) (sym (two refl)) refl
listed_by method false false one two h = absurd (false≢true h)

offers_listed : (parts : Parts) → may_offer parts ≡ true → IsTrue (is_listed offering parts.cseq.method)
offers_listed parts h = listed_by parts.cseq.method (is_invite parts) (is_update parts) (name_is parts.cseq.method invite) (name_is parts.cseq.method update) h

request_asks : (parts : Parts) (m : TraceMessage) → may_offer parts ≡ true → IsRequestOf parts m → IsTrue (asks offering m)
request_asks parts m offers h =
    and_both (is_request m.kind) (is_listed offering m.method) (subst (λ k. IsTrue (is_request k)) (sym h.kind) refl)
    (subst (λ (name : List ℕ). IsTrue (is_listed offering name)) (sym h.method) (offers_listed parts offers))

begun_asked : WrittenReads → (t : List Datagram) (n : ℕ) (taken : Option TraceMessage) (ms : List TraceMessage) (sends : List Sent) (u : Transaction) → AreMessages sends ms → IsOffering u → IsBegun sends u → IsRequested (t ++ passed n taken ms) u
begun_asked law t n taken ms sends u are offers h =
    let text = message_text (Kinds.Request h.request) in
    let r = message_at sends ms text are h.sent in
    let seen : IsRequestOf u.parts r.1 = request_of r.1 (trace_message text (Kinds.Request h.request)) u.parts (written_as law text r.1 (Kinds.Request h.request) r.3 refl h.written) (request_seen text h.request u.parts h.parts) in
    (length t + (offset taken + r.0), sent_at n r.1, record { at = sent_place t n taken ms r.0 r.1 r.2; sent = refl; asks = request_asks u.parts r.1 offers.offers seen }, seen)

abbrev pub AreAsked : List Transaction → List Datagram → Type 0
AreAsked begun t = (u : Transaction) → IsAmong begun u → IsOffering u → IsRequested t u

pub asked_more : WrittenReads → (t : List Datagram) (n : ℕ) (taken : Option TraceMessage) (ms : List TraceMessage) (sends : List Sent) (begun : List Transaction) (changes : List Entry) → AreMessages sends ms → AreBegun changes sends
    → AreAsked begun t → AreAsked (begun ++ begun_of changes) (t ++ passed n taken ms)
asked_more law t n taken ms sends begun changes are new k u among offers = elim (among_split begun (begun_of changes) u among) [
  | inl old ↦ asked_left t (passed n taken ms) u (k u old offers)
  | inr h ↦ begun_asked law t n taken ms sends u are offers (new u h offers.client)
]

-- ---- those that are live began

abbrev pub HaveBegun : List (Option Transaction) → List Transaction → Type 0
HaveBegun slots begun = (id : ℕ) (x : Transaction) → at slots id ≡ Some x → IsOffering x → HasBegun begun x

stands_by : (slots : List (Option Transaction)) (begun : List Transaction) (changes : List Entry) (id : ℕ) (x : Transaction) → HaveBegun slots begun → IsOffering x → CameFrom slots changes id x → HasBegun (begun ++ begun_of changes) x
stands_by slots begun changes id x k offers (coming.stayed t at_t later) =
    let h = k id t at_t (offering_before t x later offers) in (h.0, among_left begun (begun_of changes) h.0 h.1, h.2, h.3 ∙ sym later.parts)
stands_by slots begun changes id x k offers (coming.began t opens later) =
    (t, among_right begun (begun_of changes) t (opens_among changes t opens), offering_before t x later offers, sym later.parts)

pub stands_more : (now : ℕ) (table : Contents) (begun : List Transaction) (changes : List Entry) → HaveBegun table.slots begun → HaveBegun (entered_all now table changes).slots (begun ++ begun_of changes)
stands_more now table begun changes k id x e offers = stands_by table.slots begun changes id x k offers (all_came now table changes id x e)

-- ---- a final response

pub same_request : (p q : Parts) (m : TraceMessage) → p ≡ q → IsRequestOf p m → IsRequestOf q m
same_request p q m is h = subst (λ (x : Parts). IsRequestOf x m) is h

same_answered : (t : List Datagram) (x y : Transaction) → y.parts ≡ x.parts → IsFinallyAnswered t x → IsFinallyAnswered t y
same_answered t x y is h = (h.0, h.1, h.2, h.3, h.4, same_request x.parts y.parts h.1.message (sym is) h.5, h.6, h.7)

tag_replies : (answer request : Option (List ℕ)) → (IsSome request → answer ≡ request) → (unwrap_or request [] ≡ []) ⊎ (unwrap_or answer [] ≡ unwrap_or request [])
tag_replies answer None h = inl refl
tag_replies answer (Some tag) h = inr (ap (λ (x : Option (List ℕ)). unwrap_or x []) (h refl))

pub response_replies : (bytes : List ℕ) (r : Response) (parts : Parts) (q : TraceMessage) → RepliesTo r.parts parts → IsRequestOf parts q → Replies (trace_message bytes (Kinds.Response r)) q
unfolding trace_message
response_replies bytes r parts q h is = record {
  response_kind = refl;
  request_kind = subst (λ k. IsTrue (is_request k)) (sym is.kind) refl;
  branch = ap (λ (b : Option (List ℕ)). unwrap_or b []) h.branch ∙ sym is.branch;
  call_id = h.call_id ∙ sym is.call_id;
  from_tag = ap (λ (b : Option (List ℕ)). unwrap_or b []) h.from_tag ∙ sym is.from_tag;
  number = h.number ∙ sym is.number;
  method = h.method ∙ sym is.method;
  to_tag = elim (tag_replies (tag_value r.parts.to.params) (tag_value parts.to.params) h.to_tag) [ inl e ↦ inl (is.to_tag ∙ e) | inr e ↦ inr (e ∙ sym is.to_tag) ];
}

late_by : (status : ℕ) (early success : Bool) → nat_lt status 200 ≡ early → is_final_input (inputs.Response (cond early Provisional (cond success Success Failure))) ≡ true → nat_le 200 status ≡ true
late_by status true success is h = absurd (false≢true h)
late_by status false success is h = le-leb 200 status (ltb-false status 200 is)

response_final : (bytes : List ℕ) (r : Response) → is_final_input (response_input r) ≡ true → IsTrue (is_final (trace_message bytes (Kinds.Response r)).kind)
unfolding trace_message
response_final bytes r h = late_by r.status (nat_lt r.status 200) (nat_lt r.status 300) refl h

takes_final : (n : ℕ) (bytes : List ℕ) (r : Response) (parts : Parts) (q m : TraceMessage) → m ≡ trace_message bytes (Kinds.Response r) → is_final_input (response_input r) ≡ true → RepliesTo r.parts parts → IsRequestOf parts q → TakesFinal (taken_at n m) q
takes_final n bytes r parts q m is final h request = record {
  taken = refl;
  final = subst (λ (x : TraceMessage). IsTrue (is_final x.kind)) (sym is) (response_final bytes r final);
  replies = subst (λ (x : TraceMessage). Replies x q) (sym is) (response_replies bytes r parts q h request);
}

-- what was taken up is in the trace
taken_some : (source : Addr) (bytes : List ℕ) (r : Response) (taken : Option TraceMessage) → message_of bytes ≡ Ok (Kinds.Response r) → IsTaken (whats.Datagram source bytes) Done taken
    → (m : TraceMessage) × (taken ≡ Some m) × (m ≡ trace_message bytes (Kinds.Response r))
taken_some source bytes r None read none = absurd (none (trace_message bytes (Kinds.Response r)) (record { message = Kinds.Response r; reads = message_reads bytes (Kinds.Response r) read; seen = refl }))
taken_some source bytes r (Some m) read h = (m, refl, read_as bytes m (Kinds.Response r) h (message_reads bytes (Kinds.Response r) read))

-- ---- those that no longer wait had one

abbrev pub AreAnswered : List (Option Transaction) → List Datagram → Type 0
AreAnswered slots t = (id : ℕ) (x : Transaction) → at slots id ≡ Some x → IsOffering x → waits x.state ≡ false → IsFinallyAnswered t x

waited_not : (a b : Bool) → (a ≡ true → b ≡ true) → b ≡ false → a ≡ false
waited_not true b h e = absurd (false≢true (sym e ∙ h refl))
waited_not false b h e = refl

same_offers : (t x : Transaction) → IsSame t x → IsOffering x → IsOffering t
same_offers t x same offers = record { client = sym same.side ∙ offers.client; offers = subst (λ p. may_offer p ≡ true) same.parts offers.offers }

begun_waits : (sends : List Sent) (t x : Transaction) → IsBegun sends t → WaitsStill t x → waits x.state ≡ false → ⊥
begun_waits sends t x h later none = false≢true (sym none ∙ later.waited h.waits)

module _ (law : ReplyLaw) (t : List Datagram) (n : ℕ) (taken : Option TraceMessage) (ms : List TraceMessage) (sends : List Sent) (begun : List Transaction) (slots : List (Option Transaction)) (have : HaveBegun slots begun) (asked : AreAsked begun t)
    (k : AreAnswered slots t) where
  abbrev longer : List Datagram
  longer = t ++ passed n taken ms

  old_answered : (id : ℕ) (y x : Transaction) → at slots id ≡ Some y → IsSame y x → IsOffering x → waits y.state ≡ false → IsFinallyAnswered longer x
  old_answered id y x at_y same offers none = same_answered longer y x same.parts (answered_left t (passed n taken ms) y (k id y at_y (same_offers y x same offers) none))

  quiet_answered : (changes : List Entry) (id : ℕ) (x : Transaction) → AreBegun changes sends → IsOffering x → waits x.state ≡ false → QuietFrom slots changes id x → IsFinallyAnswered longer x
  quiet_answered changes id x new offers none (stayed y at_y later) = old_answered id y x at_y later.same offers (waited_not (waits y.state) (waits x.state) later.waited none)
  quiet_answered changes id x new offers none (began y opens later) = absurd (begun_waits sends y x (new y opens (same_offers y x later.same offers).client) later none)

  -- the response that came is one to this request
  new_answered : (source : Addr) (bytes : List ℕ) (r : Response) (id : ℕ) (y x : Transaction) → message_of bytes ≡ Ok (Kinds.Response r) → IsTaken (whats.Datagram source bytes) Done taken → is_final_input (response_input r) ≡ true
      → at slots id ≡ Some y → is_answered r.parts (Some y) ≡ true → IsSame y x → IsOffering x → IsFinallyAnswered longer x
  new_answered source bytes r id y x read took final at_y h same offers =
      let m = taken_some source bytes r taken read took in
      let b = have id y at_y (same_offers y x same offers) in
      let q = asked_left t (passed n taken ms) b.0 (asked b.0 b.1 b.2) in
      let request : IsRequestOf y.parts q.1.message = same_request b.0.parts y.parts q.1.message b.3 q.3 in
      (q.0, q.1, length t + 0, taken_at n m.0, q.2, same_request y.parts x.parts q.1.message (sym same.parts) request, taken_place t n taken ms m.0 m.1, takes_final n bytes r y.parts q.1.message m.0 m.2 final (answers_to law r.parts y h) request)

same_then : (t u v : Transaction) → IsSame t u → IsSame u v → IsSame t v
same_then t u v one two = record { parts = two.parts ∙ one.parts; side = two.side ∙ one.side }

module _ (law : ReplyLaw) (t : List Datagram) (n : ℕ) (taken : Option TraceMessage) (ms : List TraceMessage) (sends : List Sent) (begun : List Transaction) (now : ℕ) (table : Contents) (have : HaveBegun table.slots begun) (asked : AreAsked begun t)
    (k : AreAnswered table.slots t) (source : Addr) (bytes : List ℕ) (r : Response) (id : ℕ) (y : Transaction) (fresh : Option (List ℕ)) (rest : List Entry) (read : message_of bytes ≡ Ok (Kinds.Response r)) (took : IsTaken (whats.Datagram source bytes) Done taken)
    (at_y : at table.slots id ≡ Some y) (answers : is_answered r.parts (Some y) ≡ true) (calm : AllOf EntryIsCalm rest) (new : AreBegun rest sends) where
  told_answered : (j : ℕ) (x z : Transaction) → IsOffering x → waits x.state ≡ false → WaitsStill z x → is_final_input (response_input r) ≡ true → ToldFrom table.slots id j z → IsFinallyAnswered (t ++ passed n taken ms) x
  told_answered j x z offers none later final (elsewhere at_z) =
      old_answered law t n taken ms sends begun table.slots have asked k j z x at_z later.same offers (waited_not (waits z.state) (waits x.state) later.waited none)
  told_answered j x z offers none later final (there w at_w same) =
      let is : w ≡ y = same_Some w y (sym at_w ∙ at_y) in
      new_answered law t n taken ms sends begun table.slots have asked k source bytes r id y x read took final at_y answers (subst (λ v. IsSame v x) is (same_then w z x same later.same)) offers

  rest_answered : (j : ℕ) (x : Transaction) → IsOffering x → waits x.state ≡ false → is_final_input (response_input r) ≡ true → QuietFrom (entered now table (Tells id (response_input r) fresh)).slots rest j x → IsFinallyAnswered (t ++ passed n taken ms) x
  rest_answered j x offers none final (stayed z at_z later) = told_answered j x z offers none later final (told_from now table id (response_input r) fresh j z at_z)
  rest_answered j x offers none final (began z opens later) = absurd (begun_waits sends z x (new z opens (same_offers z x later.same offers).client) later none)

  response_answered : (j : ℕ) (x : Transaction) (b : Bool) → is_final_input (response_input r) ≡ b → IsOffering x → waits x.state ≡ false → at (entered_all now table (Tells id (response_input r) fresh ∷ rest)).slots j ≡ Some x
      → IsFinallyAnswered (t ++ passed n taken ms) x
  response_answered j x true final offers none e = rest_answered j x offers none final (all_wait now (entered now table (Tells id (response_input r) fresh)) rest j x calm e)
  response_answered j x false early offers none e =
      quiet_answered law t n taken ms sends begun table.slots have asked k (Tells id (response_input r) fresh ∷ rest) j x new offers none (all_wait now table (Tells id (response_input r) fresh ∷ rest) j x (early, calm) e)

pub answered_more : ReplyLaw → (t : List Datagram) (n : ℕ) (taken : Option TraceMessage) (ms : List TraceMessage) (sends : List Sent) (begun : List Transaction) (now : ℕ) (table : Contents) (what : What) (answer : Taken) (changes : List Entry)
    → HaveBegun table.slots begun → AreAsked begun t → IsTaken what answer taken → AreBegun changes sends → Tidings table.slots what answer changes → AreAnswered table.slots t
    → AreAnswered (entered_all now table changes).slots (t ++ passed n taken ms)
answered_more law t n taken ms sends begun now table what answer changes have asked took new (effects.none calm) k j x e offers none =
    quiet_answered law t n taken ms sends begun table.slots have asked k changes j x new offers none (all_wait now table changes j x calm e)
answered_more law t n taken ms sends begun now table what answer changes have asked took new (effects.response source bytes r id y fresh rest what_is read at_y answers answer_is whole calm) k j x e offers none =
    let took_it : IsTaken (whats.Datagram source bytes) Done taken = subst (λ w. IsTaken w Done taken) what_is (subst (λ a. IsTaken what a taken) answer_is took) in
    let news : AreBegun (Tells id (response_input r) fresh ∷ rest) sends = subst (λ xs. AreBegun xs sends) whole new in
    response_answered law t n taken ms sends begun now table have asked k source bytes r id y fresh rest read took_it at_y answers calm news j x (is_final_input (response_input r)) refl offers none
    (subst (λ xs. at (entered_all now table xs).slots j ≡ Some x) whole e)
