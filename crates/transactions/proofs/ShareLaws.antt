-- The share of one address: addresses and their numbers, and how many server transactions an address has.
use Rattle.std.proofs.Common.{◌≡◌, ◌∙◌, ◌+◌, ◌≤◌, ◌&&◌, ℕ, Bool, true, false, cond, eqb, List, [], ◌∷◌, Option, Some, None, codes, position, refl, ap, sym, subst, arith}
use Rattle.std.specs.Int.{to_be_bytes, w32}
use Rattle.std.specs.Prelude.{IfSome}
use Rattle.std.proofs.lemmas.Bool.{and_parts, eqb-true, false≢true, leb-false, or_parts}
use Rattle.std.proofs.lemmas.Nat.{be_bytes_4}
use Rattle.sip_uri.specs.declared.uri.Addr.{Addr}
use Rattle.sip_message.specs.declared.message.Message.TheVariants as Kinds
use Rattle.sip_message.specs.declared.message.Request.{Request}
use Rattle.sip_message.specs.declared.message.Response.{Response}
use Rattle.sip_message.specs.Words.{is_method}
use Rattle.sip_writing.specs.Writing.{message_text}
use Rattle.transaction_machines.specs.Machines.{is_server, row_of}
use Rattle.transaction_machines.specs.declared.input.Input.{Input}
use Rattle.transaction_machines.specs.declared.input.Input.TheVariants as inputs
use Rattle.transaction_machines.specs.declared.step.Starts.{Starts}
use Rattle.transaction_machines.specs.declared.step.Starts.TheVariants.{NoTimer}
use Rattle.transaction_machines.specs.declared.step.Step.{Step}
use Rattle.transactions.specs.Calls.{Call, Receive, Start, Answer, Abandon, Fire, Leave, after, after_all}
use Rattle.transactions.specs.Changes.{after_message, change_of, entered, request_change, response_change, start_of}
use Rattle.transactions.specs.Contents.{Contents, IsNew, ack_at, answer_input, begun, input_of, opened, placed, reception_of, request_reception, response_input, stepped_by, table_at}
use Rattle.transactions.specs.Servers.{WasDone, WereDone}
use Rattle.transactions.specs.Shares.{AreShared, IsIp, SameNumberSameIp, has_no_room, ip_number, meets, serves, serving_from}
use Rattle.transactions.specs.Limits.{max_served}
use Rattle.transactions.specs.Slots.{at, free_number, is_answered, is_asked, serving}
use Rattle.transactions.specs.Transactions.{asking, asking_timers, served}
use Rattle.transactions.specs.declared.change.Entry.TheVariants.{Leaves, Opens}
use Rattle.transactions.specs.declared.rules.TableRules.{TableRules}
use Rattle.transactions.specs.declared.transaction.Transaction.{Transaction}
use Rattle.transactions.proofs.CountLaws.{one_more, told_few}
use Rattle.transactions.proofs.PlaceLaws.{count_agree}
use Rattle.transactions.proofs.ServerLaws.{asking_side}

-- ---- addresses

-- the octets are read off the number
octets : (ip : List ℕ) → IsIp ip → to_be_bytes w32 (ip_number ip) ≡ ip
unfolding ip_number
octets ip is = be_bytes_4 ip (ip_number ip) is.four is.octets refl

pub same_number_same_ip : (a b : List ℕ) → SameNumberSameIp a b
same_number_same_ip a b is_a is_b same = sym (octets a is_a) ∙ ap (to_be_bytes w32) same ∙ octets b is_b

-- ---- who counts for an address

nobody_serves : (ip : List ℕ) → serves ip None ≡ false
unfolding serves
nobody_serves ip = refl

stays : (ip : List ℕ) (t u : Transaction) → is_server u.state ≡ is_server t.state → u.place ≡ t.place → serves ip (Some u) ≡ serves ip (Some t)
unfolding serves
stays ip t u side place =
    ap (λ b. b && eqb (ip_number u.place.ip) (ip_number ip)) side ∙ ap (λ (a : Addr). is_server t.state && eqb (ip_number a.ip) (ip_number ip)) place

same_serves : (a b : List ℕ) → ip_number a ≡ ip_number b → (slot : Option Transaction) → serves a slot ≡ serves b slot
unfolding serves
same_serves a b e None = refl
same_serves a b e (Some t) = ap (λ n. is_server t.state && eqb (ip_number t.place.ip) n) e

-- a request counts for its source
of_source : (r : Request) (source : Addr) (ip : List ℕ) → serves ip (Some (served r source)) ≡ true → ip_number source.ip ≡ ip_number ip
unfolding serves
of_source r source ip h = eqb-true (ip_number source.ip) (ip_number ip) (and_parts _ _ h).1

-- a request of the server's own counts for none
of_nobody : (r : Request) (to : Addr) (bytes : List ℕ) (ip : List ℕ) → serves ip (Some (asking r to bytes)) ≡ true → ⊥
unfolding serves
of_nobody r to bytes ip h = false≢true (sym (asking_side (is_method (codes "INVITE") r.parts)) ∙ (and_parts _ _ h).0)

-- ---- one call

told_rules : (table : Contents) (id : ℕ) (o : Option Transaction) (input : Input) (fresh : Option (List ℕ)) (now : ℕ) → (table_at table id o input fresh now).rules ≡ table.rules
told_rules table id None input fresh now = refl
told_rules table id (Some t) input fresh now = by (row_of t.state input) where
  by : (line : Option Step) → (stepped_by table id t fresh now line).rules ≡ table.rules
  by None = refl
  by (Some step) = refl

fewer : (share : Option ℕ) (before then : ℕ) → then ≤ before → IfSome share (λ most. before ≤ most) → IfSome share (λ most. then ≤ most)
fewer None before then less h = tt
fewer (Some most) before then less h = omega (arith, less, h)

told_shared : (table : Contents) (id : ℕ) (input : Input) (fresh : Option (List ℕ)) (now : ℕ) → AreShared table → AreShared (table_at table id (at table.slots id) input fresh now)
told_shared table id input fresh now h = λ ip.
    let then = table_at table id (at table.slots id) input fresh now in
    subst (λ (r : TableRules). IfSome r.share (λ most. serving_from ip then.slots ≤ most)) (sym (told_rules table id (at table.slots id) input fresh now))
    (fewer table.rules.share (serving_from ip table.slots) (serving_from ip then.slots) (told_few (serves ip) (nobody_serves ip) (stays ip) table id (at table.slots id) input fresh now refl) (h ip))

one_fits : (share : Option ℕ) (before then : ℕ) (counts : Bool) → then ≤ before + cond counts 1 0 → (counts ≡ true → meets share before ≡ false) → IfSome share (λ most. before ≤ most)
    → IfSome share (λ most. then ≤ most)
one_fits None before then counts more room h = tt
one_fits (Some most) before then true more room h = omega (arith, more, leb-false most before (room refl))
one_fits (Some most) before then false more room h = omega (arith, more, h)

begun_shared : (table : Contents) (t : Transaction) (starts : Starts) (now : ℕ) → ((ip : List ℕ) → serves ip (Some t) ≡ true → meets table.rules.share (serving_from ip table.slots) ≡ false)
    → AreShared table → AreShared (opened table t starts now)
begun_shared table t starts now room h = λ ip.
    one_fits table.rules.share (serving_from ip table.slots) (serving_from ip (placed table.slots (free_number table.slots) t)) (serves ip (Some t)) (one_more (serves ip) table.slots t) (room ip) (h ip)

served_shared : (table : Contents) (r : Request) (source : Addr) (now : ℕ) → has_no_room table source ≡ false → AreShared table → AreShared (opened table (served r source) NoTimer now)
served_shared table r source now room h =
    begun_shared table (served r source) NoTimer now
    (λ ip counts. ap (meets table.rules.share) (count_agree (serves ip) (serves source.ip) (same_serves ip source.ip (sym (of_source r source ip counts))) table.slots)
    ∙ (or_parts _ _ room).1) h

request_by : (table : Contents) (r : Request) (source : Addr) (now : ℕ) (ack : Bool) → is_method (codes "ACK") r.parts ≡ ack → (IsNew (begun table r.parts).verdict → has_no_room table source ≡ false)
    → AreShared table → AreShared (entered now table (cond ack Leaves (Opens (served r source) NoTimer)))
request_by table r source now true is room h = h
request_by table r source now false is room h = served_shared table r source now (room (rw is tt)) h

request_shared : (table : Contents) (r : Request) (source : Addr) (now : ℕ) (number : Option ℕ) → (IsNew (request_reception table r number).verdict → has_no_room table source ≡ false)
    → AreShared table → AreShared (entered now table (request_change r source number))
request_shared table r source now None room h = request_by table r source now (is_method (codes "ACK") r.parts) refl room h
request_shared table r source now (Some id) room h = told_shared table id (input_of r.parts) None now h

response_shared : (table : Contents) (r : Response) (now : ℕ) (number : Option ℕ) → AreShared table → AreShared (entered now table (response_change table r number))
response_shared table r now None h = h
response_shared table r now (Some id) h = told_shared table id (response_input r) (ack_at (at table.slots id) r) now h

start_by : (table : Contents) (r : Request) (to : Addr) (bytes : List ℕ) (now : ℕ) (ack : Bool) → AreShared table → AreShared (entered now table (cond ack Leaves (Opens (asking r to bytes) (asking_timers r.parts))))
start_by table r to bytes now true h = h
start_by table r to bytes now false h = begun_shared table (asking r to bytes) (asking_timers r.parts) now (λ ip counts. absurd (of_nobody r to bytes ip counts)) h

call_shared : (table : Contents) (call : Call) → AreShared table → WasDone table call → AreShared (after table call)
unfolding after_message reception_of change_of
call_shared table (Receive (Kinds.Request r) source now) h done = request_shared table r source now (position (is_asked r.parts) table.slots) done h
call_shared table (Receive (Kinds.Response r) source now) h done = response_shared table r now (position (is_answered r.parts) table.slots) h
call_shared table (Start r to now) h done = start_by table r to (message_text (Kinds.Request r)) now (is_method (codes "ACK") r.parts) h
call_shared table (Answer id r now) h done = told_shared table id (answer_input r) (Some (message_text (Kinds.Response r))) now h
call_shared table (Abandon id now) h done = told_shared table id inputs.Abandon None now h
call_shared table (Fire timer now) h done = told_shared table timer.id (inputs.Fires timer.kind) None now h
call_shared table Leave h done = h

-- ---- a list of calls

pub calls_shared : (table : Contents) (calls : List Call) → AreShared table → WereDone table calls → AreShared (after_all table calls)
calls_shared table [] h done = h
calls_shared table (call ∷ calls) h done = calls_shared (after table call) calls (call_shared table call h done.0) done.1

none_fits : (share : Option ℕ) (slots : List (Option Transaction)) (ip : List ℕ) → slots ≡ [] → IfSome share (λ most. serving_from ip slots ≤ most)
none_fits None slots ip e = tt
none_fits (Some most) slots ip e = rw e (omega arith)

pub empty_shared : (table : Contents) → table.slots ≡ [] → AreShared table
empty_shared table e = λ ip. none_fits table.rules.share table.slots ip e
