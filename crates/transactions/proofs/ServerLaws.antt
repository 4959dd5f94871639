-- No two server transactions have one key, and there are at most as many as the limit.
use Rattle.std.proofs.Common.{◌≡◌, ◌≢◌, ◌≤◌, ◌<◌, ◌+◌, ℕ, Bool, true, false, cond, not, ◌&&◌, nat_eq, List, [], ◌∷◌, ◌++◌, length, set, Option, Some, None, option_map, codes, nat_lt, unwrap_or, is_none, position, refl, ap, sym, subst, ◌∙◌, inl, inr, arith}
use Rattle.std.specs.List.{list_any}
use Rattle.std.specs.Cmp.Lexicographic.{pointwise, bytes_decides}
use Rattle.std.specs.Str.{str_to_ascii_lowercase}
use Rattle.std.proofs.lemmas.Bool.{false≢true, and_parts, and_from, or_parts, cases_lt, cases_eq, eqb-true, eq-eqb, leb-false, ltb-false, ltb-true}
use Rattle.std.proofs.lemmas.List.{get_or-set_other, get_or-set_same, get_or_append_left, get_or_past, length-append}
use Rattle.std.proofs.lemmas.List.Folds.{list_any_at}
use Rattle.std.proofs.lemmas.List.Sums.{sum_by-set, sum_by-append, sum_by-cons, prefix_len-le-length}
use Rattle.text.proofs.Lists.{is_some-position}
use Rattle.sip_uri.specs.declared.uri.Addr.{Addr}
use Rattle.sip_uri.specs.declared.uri.Host.{Host}
use Rattle.sip_uri.specs.declared.uri.Host.TheVariants.{Ip4, Name}
use Rattle.sip_uri.specs.Binding.{same_text, same_host}
use Rattle.sip_message.specs.declared.message.Message.{Message}
use Rattle.sip_message.specs.declared.message.Message.TheVariants as Kinds
use Rattle.sip_message.specs.declared.message.Parts.{Parts}
use Rattle.sip_message.specs.declared.message.Request.{Request}
use Rattle.sip_message.specs.declared.message.Response.{Response}
use Rattle.sip_message.specs.declared.via.Via.{Via}
use Rattle.sip_message.specs.Words.{top_branch, is_method}
use Rattle.sip_writing.specs.Writing.{message_text}
use Rattle.transaction_machines.specs.declared.input.Input.{Input}
use Rattle.transaction_machines.specs.declared.input.Input.TheVariants as inputs
use Rattle.transaction_machines.specs.declared.state.State.TheVariants as machine
use Rattle.transaction_machines.specs.declared.invite_client.InviteClient.TheVariants.{Calling}
use Rattle.transaction_machines.specs.declared.other_client.OtherClient.TheVariants as other_client
use Rattle.transaction_machines.specs.declared.step.Step.{Step}
use Rattle.transaction_machines.specs.declared.step.Starts.{Starts}
use Rattle.transaction_machines.specs.declared.step.Starts.TheVariants.{NoTimer}
use Rattle.transaction_machines.specs.Machines.{row_of, is_server}
use Rattle.transaction_machines.specs.Steps.{t1}
use Rattle.transactions.specs.declared.change.Entry.{Entry}
use Rattle.transactions.specs.declared.change.Entry.TheVariants.{Opens, Tells, Answers, Leaves}
use Rattle.transactions.specs.declared.outcome.Reception.{Reception}
use Rattle.transactions.specs.declared.outcome.Verdict.TheVariants as verdicts
use Rattle.transactions.specs.declared.transaction.Transaction.{Transaction}
use Rattle.transactions.specs.Limits.{max_served}
use Rattle.transactions.specs.Matching.{is_copy, same_top, same_sent_by}
use Rattle.sip_uri.specs.Address.{default_port}
use Rattle.transactions.specs.Shares.{has_no_room}
use Rattle.transactions.specs.Slots.{at, free_number, is_asked, is_answered, is_serving, serving}
use Rattle.transactions.specs.Transactions.{served, asking, asking_timers, went}
use Rattle.transactions.specs.Contents.{Contents, stepped_by, table_at, opened, placed, reception_of, request_reception, stray, answer_input, IsNew}
use Rattle.transactions.specs.Changes.{entered, request_change, response_change, change_of, after_message, start_of}
use Rattle.transactions.specs.Calls.{Call, Receive, Start, Answer, Abandon, Fire, Leave, after, after_all, is_end}
use Rattle.transactions.specs.Once.{IsLeftBy}
use Rattle.transactions.specs.Servers.{same_key, KeysOnce, AreServers, IsFree, MayEnter, WasDone, WereDone}
use Rattle.transactions.proofs.CountLaws.{one, one_more, told_few}
use Rattle.transactions.proofs.LastingLaws.{none_some, within, placed_own, own_left, other_left}
use Rattle.transactions.proofs.ReplyLaws.{text_is}
use Rattle.transactions.proofs.OnceLaws.{own_text}

-- ---- keys

bytes_turn : (a b : List ℕ) → pointwise nat_eq a b ≡ true → pointwise nat_eq b a ≡ true
bytes_turn a b h = (bytes_decides b a).1 (sym ((bytes_decides a b).0 h))

text_turn : (a b : Option (List ℕ)) → same_text a b ≡ true → same_text b a ≡ true
text_turn a b h = subst (λ c. same_text c a ≡ true) (text_is a b h) (own_text a)

host_turn : (a b : Host) → same_host a b ≡ true → same_host b a ≡ true
host_turn (Ip4 a) (Ip4 b) h = bytes_turn a b h
host_turn (Name a) (Name b) h = bytes_turn (str_to_ascii_lowercase a) (str_to_ascii_lowercase b) h
host_turn (Ip4 a) (Name b) h = h
host_turn (Name a) (Ip4 b) h = h

sent_by_turn : (a b : Via) → same_sent_by a b ≡ true → same_sent_by b a ≡ true
sent_by_turn a b h =
    let both = and_parts _ _ h in
    and_from _ _ (host_turn a.host b.host both.0)
    (eq-eqb (unwrap_or b.port default_port) (unwrap_or a.port default_port) (sym (eqb-true (unwrap_or a.port default_port) (unwrap_or b.port default_port) both.1)))

top_turn : (a b : List Via) → same_top a b ≡ true → same_top b a ≡ true
top_turn [] [] h = h
top_turn [] (b ∷ others) h = h
top_turn (a ∷ more) [] h = h
top_turn (a ∷ more) (b ∷ others) h =
    let both = and_parts _ _ h in
    and_from _ _ (text_turn (top_branch (a ∷ more)) (top_branch (b ∷ others)) both.0) (sent_by_turn a b both.1)

key_turn : (a b : Parts) → same_key a b ≡ true → same_key b a ≡ true
key_turn a b h =
    let both = and_parts _ _ h in
    and_from _ _ (bytes_turn a.cseq.method b.cseq.method both.0) (top_turn a.vias b.vias both.1)

turned_by : (x y : Bool) → (y ≡ true → x ≡ true) → x ≡ false → y ≡ false
turned_by x false h e = refl
turned_by x true h e = absurd (false≢true (sym e ∙ h refl))

key_apart : (a b : Parts) → same_key a b ≡ false → same_key b a ≡ false
key_apart a b e = turned_by (same_key a b) (same_key b a) (key_turn b a) e

method_by : (first own : List ℕ) (b : Bool) → b ≡ false → pointwise nat_eq first (cond b (codes "INVITE") own) ≡ pointwise nat_eq first own
method_by first own b e = rw e refl

-- a request that is not an ACK is a copy of another where it has its key
copy_is_key : (request first : Parts) → is_method (codes "ACK") request ≡ false → is_copy request first ≡ same_key first request
unfolding is_copy
copy_is_key request first h =
    ap (λ b. b && same_top first.vias request.vias) (method_by first.cseq.method request.cseq.method (pointwise nat_eq request.cseq.method (codes "ACK")) h)

none_has_by : (p : Option Transaction → Bool) (slots : List (Option Transaction)) (i : ℕ) (u : Transaction) (b : Bool) → p (Some u) ≡ b
    → list_any p slots ≡ false → at slots i ≡ Some u → b ≡ false
none_has_by p slots i u false e none there = refl
none_has_by p slots i u true e none there = absurd (false≢true (sym none ∙ list_any_at p slots i None (within slots i u there) (ap p there ∙ e)))

asked_key : (request : Parts) (u : Transaction) → is_server u.state ≡ true → is_asked request (Some u) ≡ is_copy request u.parts
unfolding is_asked
asked_key request u server = rw server refl

new_key : (slots : List (Option Transaction)) (t : Transaction) (i : ℕ) (u : Transaction) → IsFree slots t → at slots i ≡ Some u → is_server u.state ≡ true
    → same_key u.parts t.parts ≡ false
new_key slots t i u free there server =
    sym (copy_is_key t.parts u.parts free.no_ack) ∙ sym (asked_key t.parts u server)
    ∙ none_has_by (is_asked t.parts) slots i u (is_asked t.parts (Some u)) refl free.new there

-- ---- a transaction takes a line

-- one that is live afterwards was live before
record Was (slots : List (Option Transaction)) (j : ℕ) (u : Transaction) : Type 0 where
  t : Transaction
  there : at slots j ≡ Some t
  side : is_server u.state ≡ is_server t.state
  parts : u.parts ≡ t.parts

left_was : (slots : List (Option Transaction)) (j : ℕ) (t u : Transaction) (b : Bool) (o : Option Transaction) → at slots j ≡ Some t → IsLeftBy t b o → o ≡ Some u → Was slots j u
left_was slots j t u true o there left e = absurd (none_some u (sym left ∙ e))
left_was slots j t u false None there left e = absurd left
left_was slots j t u false (Some v) there left e =
    let same : v ≡ u = cc in
    record { t = t; there = there; side = subst (λ w. is_server w.state ≡ is_server t.state) same left.side; parts = subst (λ w. w.parts ≡ t.parts) same left.parts }

told_was : (table : Contents) (id j : ℕ) (u : Transaction) (o : Option Transaction) (input : Input) (fresh : Option (List ℕ)) (now : ℕ) → at table.slots id ≡ o
    → at (table_at table id o input fresh now).slots j ≡ Some u → Was table.slots j u
told_was table id j u None input fresh now at_id e = record { t = u; there = e; side = refl; parts = refl }
told_was table id j u (Some t) input fresh now at_id e = elim (cases_eq j id) [
  | inl same ↦ left_was table.slots j t u (is_end (row_of t.state input)) (at (table_at table id (Some t) input fresh now).slots j)
      (ap (at table.slots) same ∙ at_id)
      (subst (λ n. IsLeftBy t (is_end (row_of t.state input)) (at (table_at table id (Some t) input fresh now).slots n)) (sym same)
      (own_left table id t (Some t) input fresh now (is_end (row_of t.state input)) at_id refl refl))
      e
  | inr other ↦ record { t = u; there = sym (other_left table id j (Some t) input fresh now other) ∙ e; side = refl; parts = refl }
]

told_once : (table : Contents) (id : ℕ) (input : Input) (fresh : Option (List ℕ)) (now : ℕ) → KeysOnce table.slots
    → KeysOnce (table_at table id (at table.slots id) input fresh now).slots
told_once table id input fresh now once i j t u apart at_i at_j server_t server_u =
    let a = told_was table id i t (at table.slots id) input fresh now refl at_i in
    let b = told_was table id j u (at table.slots id) input fresh now refl at_j in
    rw (a.parts, b.parts) (once i j a.t b.t apart a.there b.there (sym a.side ∙ server_t) (sym b.side ∙ server_u))

nobody_serves : is_serving None ≡ false
unfolding is_serving
nobody_serves = refl

serves : (t : Transaction) → is_serving (Some t) ≡ is_server t.state
unfolding is_serving
serves t = refl

stays : (t u : Transaction) → is_server u.state ≡ is_server t.state → u.place ≡ t.place → is_serving (Some u) ≡ is_serving (Some t)
stays t u side place = serves u ∙ side ∙ sym (serves t)

at_most : (a b n : ℕ) → a ≤ b → b ≤ n → a ≤ n
at_most a b n h k = omega (arith, h, k)

told_servers : (table : Contents) (id : ℕ) (input : Input) (fresh : Option (List ℕ)) (now : ℕ) → AreServers table.slots
    → AreServers (table_at table id (at table.slots id) input fresh now).slots
told_servers table id input fresh now h = record {
  once = told_once table id input fresh now h.once;
  few = at_most (serving (table_at table id (at table.slots id) input fresh now).slots) (serving table.slots) max_served
      (told_few is_serving nobody_serves stays table id (at table.slots id) input fresh now refl) h.few;
}

-- ---- a transaction begins

past_last : (slots : List (Option Transaction)) (t u : Transaction) (place j : ℕ) → place ≡ length slots → j ≢ place → length slots ≤ j → at (slots ++ Some t ∷ []) j ≡ Some u → ⊥
past_last slots t u place j e other le h =
    let len : length (slots ++ Some t ∷ []) ≡ length slots + 1 = length-append slots (Some t ∷ []) in
    let far : length (slots ++ Some t ∷ []) ≤ j = further (length (slots ++ Some t ∷ [])) (length slots) j len le (λ same. other (same ∙ sym e)) in
    none_some u (sym (get_or_past (slots ++ Some t ∷ []) j None far) ∙ h)
  where
    further : (n m j : ℕ) → n ≡ m + 1 → m ≤ j → j ≢ m → n ≤ j
    further n m j e le other = elim (cases_lt m j) [
      | inl lt ↦ omega (arith, e, lt)
      | inr ge ↦ absurd (other (omega (arith, le, ge)))
    ]

placed_back_by : (slots : List (Option Transaction)) (place j : ℕ) (t u : Transaction) (b : Bool) → (b ≡ false → place ≡ length slots) → j ≢ place
    → at (cond b (set slots place (Some t)) (slots ++ Some t ∷ [])) j ≡ Some u → at slots j ≡ Some u
placed_back_by slots place j t u true last other h = sym (get_or-set_other slots place j (Some t) None other) ∙ h
placed_back_by slots place j t u false last other h = elim (cases_lt j (length slots)) [
  | inl lt ↦ sym (get_or_append_left slots (Some t ∷ []) None j lt) ∙ h
  | inr le ↦ absurd (past_last slots t u place j (last refl) other le h)
]

free_last : (slots : List (Option Transaction)) → nat_lt (free_number slots) (length slots) ≡ false → free_number slots ≡ length slots
free_last slots e = omega (arith, ltb-false (free_number slots) (length slots) e, prefix_len-le-length (λ o. not (is_none o)) slots)

placed_back : (slots : List (Option Transaction)) (j : ℕ) (t u : Transaction) → j ≢ free_number slots → at (placed slots (free_number slots) t) j ≡ Some u → at slots j ≡ Some u
placed_back slots j t u other h = placed_back_by slots (free_number slots) j t u (nat_lt (free_number slots) (length slots)) (free_last slots) other h

same_some : (t u : Transaction) (o : Option Transaction) → o ≡ Some t → o ≡ Some u → u ≡ t
same_some t u o e f = cc

begun_apart : (slots : List (Option Transaction)) (t u v : Transaction) (i j : ℕ) → (is_server t.state ≡ true → IsFree slots t) → i ≡ free_number slots → j ≢ free_number slots
    → at (placed slots (free_number slots) t) i ≡ Some u → at (placed slots (free_number slots) t) j ≡ Some v → is_server u.state ≡ true → is_server v.state ≡ true
    → same_key v.parts u.parts ≡ false
begun_apart slots t u v i j free is other at_i at_j server_u server_v =
    let same : u ≡ t = same_some t u (at (placed slots (free_number slots) t) (free_number slots)) (placed_own slots t)
    (subst (λ n. at (placed slots (free_number slots) t) n ≡ Some u) is at_i) in
    subst (λ w. same_key v.parts w.parts ≡ false) (sym same)
    (new_key slots t j v (free (subst (λ w. is_server w.state ≡ true) same server_u)) (placed_back slots j t v other at_j) server_v)

begun_once : (slots : List (Option Transaction)) (t : Transaction) → (is_server t.state ≡ true → IsFree slots t) → KeysOnce slots → KeysOnce (placed slots (free_number slots) t)
begun_once slots t free once i j u v apart at_i at_j server_u server_v = elim (cases_eq i (free_number slots)) [
  | inl is_i ↦ key_apart v.parts u.parts (begun_apart slots t u v i j free is_i (λ is_j. apart (is_i ∙ sym is_j)) at_i at_j server_u server_v)
  | inr other_i ↦ elim (cases_eq j (free_number slots)) [
    | inl is_j ↦ begun_apart slots t v u j i free is_j other_i at_j at_i server_v server_u
    | inr other_j ↦ once i j u v apart (placed_back slots i t u other_i at_i) (placed_back slots j t v other_j at_j) server_u server_v
  ]
]

begun_few_by : (before then more : ℕ) (server : Bool) → then ≤ before + more → more ≡ cond server 1 0 → (server ≡ true → before < max_served) → before ≤ max_served → then ≤ max_served
begun_few_by before then more true h e room few = omega (arith, h, e, room refl)
begun_few_by before then more false h e room few = omega (arith, h, e, few)

begun_servers : (table : Contents) (t : Transaction) (starts : Starts) (now : ℕ) → (is_server t.state ≡ true → IsFree table.slots t) → AreServers table.slots
    → AreServers (opened table t starts now).slots
begun_servers table t starts now free h = record {
  once = begun_once table.slots t free h.once;
  few = begun_few_by (serving table.slots) (serving (placed table.slots (free_number table.slots) t)) (one is_serving (Some t)) (is_server t.state) (one_more is_serving table.slots t)
      (ap (λ s. cond s 1 0) (serves t)) (λ server. (free server).room) h.few;
}

-- ---- changes and calls

pub entered_servers : (now : ℕ) (table : Contents) (change : Entry) → AreServers table.slots → MayEnter table.slots change → AreServers (entered now table change).slots
entered_servers now table (Opens t starts) h may = begun_servers table t starts now may h
entered_servers now table (Tells id input fresh) h may = told_servers table id input fresh now h
entered_servers now table (Answers id class bytes) h may = told_servers table id (inputs.Answer class) (Some bytes) now h
entered_servers now table Leaves h may = h

-- the reception of a request that begins a transaction
abbrev begun_new : Contents → Reception
begun_new table = record { verdict = verdicts.New (free_number table.slots); before = None; send = None }

-- where there is room for a source, there is room
room_left : (table : Contents) (source : Addr) → has_no_room table source ≡ false → serving table.slots < max_served
room_left table source h = leb-false max_served (serving table.slots) (or_parts _ _ h).0

-- what a request begins may be entered, where there is room
request_may_by : (table : Contents) (r : Request) (source : Addr) (b : Bool) → is_method (codes "ACK") r.parts ≡ b → list_any (is_asked r.parts) table.slots ≡ false
    → (IsNew (cond b stray (begun_new table)).verdict → has_no_room table source ≡ false) → MayEnter table.slots (cond b Leaves (Opens (served r source) NoTimer))
request_may_by table r source true e none room = tt
request_may_by table r source false e none room = λ server. record { no_ack = e; new = none; room = room_left table source (room tt) }

request_may : (table : Contents) (r : Request) (source : Addr) (number : Option ℕ) → position (is_asked r.parts) table.slots ≡ number
    → (IsNew (request_reception table r number).verdict → has_no_room table source ≡ false) → MayEnter table.slots (request_change r source number)
request_may table r source None e room =
    request_may_by table r source (is_method (codes "ACK") r.parts) refl (sym (is_some-position (is_asked r.parts) table.slots) ∙ rw e refl) room
request_may table r source (Some id) e room = tt

response_may : (table : Contents) (r : Response) (number : Option ℕ) → MayEnter table.slots (response_change table r number)
response_may table r None = tt
response_may table r (Some id) = tt

pub foreseen_may : (table : Contents) (message : Message) (source : Addr) → (IsNew (reception_of table message).verdict → has_no_room table source ≡ false)
    → MayEnter table.slots (change_of table message source)
unfolding reception_of change_of
foreseen_may table (Kinds.Request r) source room = request_may table r source (position (is_asked r.parts) table.slots) refl room
foreseen_may table (Kinds.Response r) source room = response_may table r (position (is_answered r.parts) table.slots)

pub asking_side : (b : Bool) → is_server (cond b (machine.InviteClient (Calling t1 false)) (machine.OtherClient (other_client.Trying t1))) ≡ false
asking_side true = refl
asking_side false = refl

start_may_by : (slots : List (Option Transaction)) (r : Request) (to : Addr) (bytes : List ℕ) (b : Bool) → MayEnter slots (cond b Leaves (Opens (asking r to bytes) (asking_timers r.parts)))
start_may_by slots r to bytes true = tt
start_may_by slots r to bytes false = λ server. absurd (false≢true (sym (asking_side (is_method (codes "INVITE") r.parts)) ∙ server))

call_servers : (table : Contents) (call : Call) → AreServers table.slots → WasDone table call → AreServers (after table call).slots
unfolding after_message
call_servers table (Receive message source now) h done = entered_servers now table (change_of table message source) h (foreseen_may table message source done)
call_servers table (Start r to now) h done =
    entered_servers now table (start_of r to) h (start_may_by table.slots r to (message_text (Kinds.Request r)) (is_method (codes "ACK") r.parts))
call_servers table (Answer id r now) h done = told_servers table id (answer_input r) (Some (message_text (Kinds.Response r))) now h
call_servers table (Abandon id now) h done = told_servers table id inputs.Abandon None now h
call_servers table (Fire timer now) h done = told_servers table timer.id (inputs.Fires timer.kind) None now h
call_servers table Leave h done = h

pub calls_servers : (table : Contents) (calls : List Call) → AreServers table.slots → WereDone table calls → AreServers (after_all table calls).slots
calls_servers table [] h done = h
calls_servers table (call ∷ calls) h done = calls_servers (after table call) calls (call_servers table call h done.0) done.1

pub no_servers : AreServers []
no_servers = record { once = λ i j t u apart at_i at_j server_t server_u. absurd (none_some t (sym (get_or_past [] i None (omega arith)) ∙ at_i)); few = omega arith }
