-- A request is new once.
use Rattle.std.proofs.Common.{◌≡◌, ℕ, ◌<◌, Bool, true, false, cond, ◌&&◌, ◌||◌, List, [], ◌∷◌, ◌++◌, length, set, Option, Some, None, codes, nat_eq, unwrap_or, nat_lt, position, is_some, refl, ap, sym, ◌∙◌, arith}
use Rattle.std.specs.List.{list_any}
use Rattle.std.specs.Str.{str_to_ascii_lowercase}
use Rattle.std.specs.Cmp.Lexicographic.{pointwise, bytes_decides}
use Rattle.std.proofs.Math.ListN.{length-set}
use Rattle.std.proofs.lemmas.Bool.{ltb-true}
use Rattle.std.proofs.lemmas.Bool.Decides.{nat_tests}
use Rattle.std.proofs.lemmas.List.{get_or-set_same}
use Rattle.std.proofs.lemmas.List.Folds.{list_any_at, list_any-append}
use Rattle.text.proofs.Lists.{is_some-position}
use Rattle.sip_uri.specs.declared.uri.Addr.{Addr}
use Rattle.sip_uri.specs.declared.uri.Host.{Host}
use Rattle.sip_uri.specs.declared.uri.Host.TheVariants.{Ip4, Name}
use Rattle.sip_uri.specs.Binding.{same_text, same_host}
use Rattle.sip_message.specs.declared.via.Via.{Via}
use Rattle.sip_message.specs.declared.message.Message.TheVariants as Kinds
use Rattle.sip_message.specs.declared.message.Parts.{Parts}
use Rattle.sip_message.specs.declared.message.Request.{Request}
use Rattle.transactions.specs.declared.change.Entry.TheVariants.{Opens, Leaves}
use Rattle.transaction_machines.specs.declared.input.Input.{Input}
use Rattle.transaction_machines.specs.declared.input.Input.TheVariants.{Repeat, Ack, Answer, Response, Abandon, Fires}
use Rattle.transactions.specs.declared.outcome.Verdict.{Verdict}
use Rattle.transactions.specs.declared.outcome.Verdict.TheVariants as verdicts
use Rattle.transaction_machines.specs.declared.invite_server.InviteServer.TheVariants as invite
use Rattle.transaction_machines.specs.declared.other_server.OtherServer.TheVariants as other
use Rattle.transaction_machines.specs.declared.state.State.TheVariants as machine
use Rattle.transaction_machines.specs.declared.step.Starts.TheVariants as starts
use Rattle.transaction_machines.specs.declared.step.Sending.{Sending}
use Rattle.transaction_machines.specs.declared.step.Sending.TheVariants.{Nothing, Again, Fresh}
use Rattle.transaction_machines.specs.declared.step.Told.{Told}
use Rattle.transaction_machines.specs.declared.step.Told.TheVariants.{Silent, Up, TimedOut, Ended}
use Rattle.transaction_machines.specs.declared.step.Step.{Step}
use Rattle.transactions.specs.declared.transaction.Transaction.{Transaction}
use Rattle.transaction_machines.specs.Machines.{row_of, is_server}
use Rattle.sip_message.specs.Words.{is_method, top_branch}
use Rattle.transactions.specs.Matching.{is_copy, served_method, same_top, same_sent_by}
use Rattle.sip_uri.specs.Address.{default_port}
use Rattle.transactions.specs.Slots.{at, is_asked, free_number}
use Rattle.transactions.specs.Transactions.{served, served_state}
use Rattle.transactions.specs.Contents.{Contents, upward, repeat_by, reception_by, reception_at, request_reception, reception_of, placed, stray, input_of, IsNew}
use Rattle.transactions.specs.Changes.{entered, request_change, change_of, after_message}
use Rattle.transactions.specs.Once.{stands}

-- ---- only New is new

repeat_old : (input : Input) (sending : Sending) → IsNew (repeat_by input sending) → ⊥
repeat_old Repeat Nothing h = h
repeat_old Repeat Again h = h
repeat_old Repeat Fresh h = h
repeat_old Ack sending h = h
repeat_old (Answer class) sending h = h
repeat_old (Response class) sending h = h
repeat_old Abandon sending h = h
repeat_old (Fires kind) sending h = h

upward_old : (id : ℕ) (told : Told) (verdict : Verdict) → (IsNew verdict → ⊥) → IsNew (upward id told verdict) → ⊥
upward_old id Up verdict old h = h
upward_old id Silent verdict old h = old h
upward_old id TimedOut verdict old h = old h
upward_old id Ended verdict old h = old h

by_step : (id : ℕ) (t : Transaction) (input : Input) (fresh : Option (List ℕ)) (step : Option Step) → IsNew (reception_by id t input fresh step).verdict → ⊥
by_step id t input fresh None h = h
by_step id t input fresh (Some step) h = upward_old id step.told (repeat_by input step.send) (repeat_old input step.send) h

pub by_transaction : (id : ℕ) (t : Option Transaction) (input : Input) (fresh : Option (List ℕ)) → IsNew (reception_at id t input fresh).verdict → ⊥
by_transaction id None input fresh h = h
by_transaction id (Some t) input fresh h = by_step id t input fresh (row_of t.state input) h

-- ---- none is live before

begun_only : (table : Contents) (r : Request) (number : Option ℕ) → IsNew (request_reception table r number).verdict → number ≡ None
begun_only table r None h = refl
begun_only table r (Some id) h = absurd (by_transaction id (at table.slots id) (input_of r.parts) None h)

pub none_asked : (table : Contents) (r : Request) → IsNew (reception_of table (Kinds.Request r)).verdict → position (is_asked r.parts) table.slots ≡ None
unfolding reception_of
none_asked table r h = begun_only table r (position (is_asked r.parts) table.slots) h

-- a request is New only where no server transaction of its key is live
pub begins : (table : Contents) (r : Request) → IsNew (reception_of table (Kinds.Request r)).verdict → stands table r.parts ≡ false
begins table r h = sym (is_some-position (is_asked r.parts) table.slots) ∙ ap is_some (none_asked table r h)

-- ---- one is live then

both : (a b : Bool) → a ≡ true → b ≡ true → (a && b) ≡ true
both a b p q = rw (p, q) refl

pub own_bytes : (a : List ℕ) → pointwise nat_eq a a ≡ true
own_bytes a = (bytes_decides a a).1 refl

own_number : (n : ℕ) → nat_eq n n ≡ true
own_number n = grind (arith, nat_tests)

pub own_text : (a : Option (List ℕ)) → same_text a a ≡ true
own_text None = refl
own_text (Some a) = own_bytes a

own_host : (h : Host) → same_host h h ≡ true
own_host (Ip4 octets) = own_bytes octets
own_host (Name name) = own_bytes (str_to_ascii_lowercase name)

own_top : (vias : List Via) → same_top vias vias ≡ true
own_top [] = refl
own_top (via ∷ vias) =
    both (same_text (top_branch (via ∷ vias)) (top_branch (via ∷ vias))) (same_sent_by via via)
    (own_text (top_branch (via ∷ vias)))
    (both (same_host via.host via.host) (nat_eq (unwrap_or via.port default_port) (unwrap_or via.port default_port)) (own_host via.host) (own_number (unwrap_or via.port default_port)))

own_method : (method : List ℕ) (b : Bool) → b ≡ false → pointwise nat_eq method (cond b (codes "INVITE") method) ≡ true
own_method method b h = rw h (own_bytes method)

own_copy : (parts : Parts) → is_method (codes "ACK") parts ≡ false → is_copy parts parts ≡ true
unfolding is_copy
own_copy parts h =
    both (is_method (served_method parts.cseq.method) parts) (same_top parts.vias parts.vias)
    (own_method parts.cseq.method (pointwise nat_eq parts.cseq.method (codes "ACK")) h) (own_top parts.vias)

pub served_side : (parts : Parts) → is_server (served_state parts) ≡ true
served_side parts = elim (is_method (codes "INVITE") parts) as (λ b. is_server (cond b (machine.InviteServer invite.Proceeding) (machine.OtherServer other.Trying)) ≡ true) [ true ↦ refl | false ↦ refl ]

own_asked : (r : Request) (source : Addr) → is_method (codes "ACK") r.parts ≡ false → is_asked r.parts (Some (served r source)) ≡ true
unfolding is_asked
own_asked r source h = both (is_server (served_state r.parts)) (is_copy r.parts r.parts) (served_side r.parts) (own_copy r.parts h)

new_is_no_ack : (table : Contents) (b : Bool) → IsNew (cond b stray (record { verdict = verdicts.New (free_number table.slots); before = None; send = None })).verdict → b ≡ false
new_is_no_ack table true h = absurd h
new_is_no_ack table false h = refl

pub no_ack : (table : Contents) (r : Request) (number : Option ℕ) → IsNew (request_reception table r number).verdict → is_method (codes "ACK") r.parts ≡ false
no_ack table r None h = new_is_no_ack table (is_method (codes "ACK") r.parts) h
no_ack table r (Some id) h = absurd (by_transaction id (at table.slots id) (input_of r.parts) None h)

or_true : (b : Bool) → (b || true) ≡ true
or_true true = refl
or_true false = refl

any_placed_by : {X : Type 0} (p : X → Bool) (xs : List X) (id : ℕ) (y : X) (b : Bool) → (b ≡ true → id < length xs) → p y ≡ true
    → list_any p (cond b (set xs id y) (xs ++ y ∷ [])) ≡ true
any_placed_by p xs id y true within h =
    list_any_at p (set xs id y) id y (rw (length-set xs id y) (within refl)) (ap p (get_or-set_same xs id y y (within refl)) ∙ h)
any_placed_by p xs id y false within h =
    list_any-append p xs (y ∷ []) ∙ rw h (or_true (list_any p xs))

any_placed : (p : Option Transaction → Bool) (slots : List (Option Transaction)) (id : ℕ) (t : Transaction) → p (Some t) ≡ true → list_any p (placed slots id t) ≡ true
any_placed p slots id t h = any_placed_by p slots id (Some t) (nat_lt id (length slots)) (λ lt. ltb-true id (length slots) lt) h

stands_begun : (table : Contents) (r : Request) (source : Addr) (now : ℕ) (b : Bool) → b ≡ false → is_method (codes "ACK") r.parts ≡ false
    → stands (entered now table (cond b Leaves (Opens (served r source) starts.NoTimer))) r.parts ≡ true
stands_begun table r source now true e h = cc
stands_begun table r source now false e h = any_placed (is_asked r.parts) table.slots (free_number table.slots) (served r source) (own_asked r source h)

stands_after : (table : Contents) (r : Request) (source : Addr) (now : ℕ) (number : Option ℕ) → number ≡ None → is_method (codes "ACK") r.parts ≡ false
    → stands (entered now table (request_change r source number)) r.parts ≡ true
stands_after table r source now None e h = stands_begun table r source now (is_method (codes "ACK") r.parts) h h
stands_after table r source now (Some id) e h = cc

pub stands_then : (table : Contents) (r : Request) (source : Addr) (now : ℕ) → IsNew (reception_of table (Kinds.Request r)).verdict
    → stands (after_message table (Kinds.Request r) source now) r.parts ≡ true
unfolding reception_of after_message change_of
stands_then table r source now h =
    let number = position (is_asked r.parts) table.slots in
    stands_after table r source now number (none_asked table r h) (no_ack table r number h)
