-- The timer at which a request of the server's own is given up.
use Rattle.std.proofs.Common.{◌≡◌, ℕ, ◌+◌, Bool, true, false, not, cond, nat_lt, List, [], ◌∷◌, codes, Some, None, eqb, refl, sym, ap, ◌∙◌, filter, find, option_map, min}
use Rattle.std.proofs.lemmas.Bool.{false≢true, and_from, eq-eqb}
use Rattle.timers.specs.declared.timers.Timer.{Timer}
use Rattle.timers.specs.Queue.{moment, put, set, without}
use Rattle.sip_uri.specs.declared.uri.Addr.{Addr}
use Rattle.sip_message.specs.declared.message.Message.TheVariants as Kinds
use Rattle.sip_message.specs.declared.message.Request.{Request}
use Rattle.sip_message.specs.Words.{is_method}
use Rattle.sip_writing.specs.Writing.{message_text}
use Rattle.transaction_machines.specs.declared.input.TimerKind.TheVariants.{A, B, E, F}
use Rattle.transaction_machines.specs.declared.step.Start.{Start}
use Rattle.transaction_machines.specs.declared.step.Starts.{Starts}
use Rattle.transaction_machines.specs.declared.step.Starts.TheVariants.{Two}
use Rattle.transaction_machines.specs.Inputs.{place_of}
use Rattle.transaction_machines.specs.Steps.{timer, t1, timeout}
use Rattle.transactions.specs.declared.change.Entry.TheVariants.{Opens, Leaves}
use Rattle.transactions.specs.declared.transaction.TimerId.{TimerId}
use Rattle.transactions.specs.Changes.{entered}
use Rattle.transactions.specs.Contents.{Contents}
use Rattle.transactions.specs.GivingUp.{GivesUp, last_timer, longest_wait}
use Rattle.transactions.specs.Slots.{free_number}
use Rattle.transactions.specs.Timing.{same_timer, started, timer_of}
use Rattle.transactions.specs.Transactions.{asking, asking_timers}
use Rattle.transactions.specs.Waiting.{begins_dialog, limited, starts_within}

-- ---- a timer that is set

same_timer_self : (key : TimerId) → same_timer key key ≡ true
same_timer_self key = and_from (eqb key.id key.id) _ (eq-eqb key.id key.id refl) (eq-eqb (place_of key.kind) (place_of key.kind) refl)

find_gone : (p : Timer TimerId → Bool) (ts : List (Timer TimerId)) → find p (filter (λ t. not (p t)) ts) ≡ None
find_gone p [] = refl
find_gone p (t ∷ ts) = by (p t) refl (find_gone p ts) where
  by : (b : Bool) → p t ≡ b → find p (filter (λ t. not (p t)) ts) ≡ None → find p (cond (not b) (t ∷ filter (λ t. not (p t)) ts) (filter (λ t. not (p t)) ts)) ≡ None
  by true e gone = gone
  by false e gone = ap (λ (c : Bool). cond c (Some t) (find p (filter (λ t. not (p t)) ts))) e ∙ gone

found_first : (p : Timer TimerId → Bool) (t : Timer TimerId) (later : List (Timer TimerId)) → p t ≡ true → find p (t ∷ later) ≡ Some t
found_first p t later e = ap (λ (c : Bool). cond c (Some t) (find p later)) e

found_put : (p : Timer TimerId → Bool) (t : Timer TimerId) (ts : List (Timer TimerId)) → p t ≡ true → find p ts ≡ None → find p (put ts t) ≡ Some t
found_put p t [] e none = found_first p t [] e
found_put p t (x ∷ xs) e none = by (nat_lt t.at x.at) (p x) refl none (found_put p t xs e) where
  by : (sooner b : Bool) → p x ≡ b → cond b (Some x) (find p xs) ≡ None → (find p xs ≡ None → find p (put xs t) ≡ Some t)
      → find p (cond sooner (t ∷ x ∷ xs) (x ∷ put xs t)) ≡ Some t
  by true b is none later = found_first p t (x ∷ xs) e
  by false true is none later = absurd cc
  by false false is none later = ap (λ (c : Bool). cond c (Some x) (find p (put xs t))) is ∙ later none

moment_set : (ts : List (Timer TimerId)) (key : TimerId) (at : ℕ) → moment same_timer (set same_timer ts key at) key ≡ Some at
moment_set ts key at =
    ap (option_map (λ t. t.at))
    (found_put (λ t. same_timer t.key key) (record { key = key; at = at }) (without same_timer ts key) (same_timer_self key) (find_gone (λ t. same_timer t.key key) ts))

-- ---- the last of two timers

last_set : (timers : List (Timer TimerId)) (id now wait : ℕ) (first last : Start) (b : Bool)
    → moment same_timer (started timers id (cond b (limited wait (Two first last)) (Two first last)) now) (timer_of id last.kind) ≡ Some (now + cond b (min wait last.after) last.after)
last_set timers id now wait first last true = moment_set _ (timer_of id last.kind) (now + min wait last.after)
last_set timers id now wait first last false = moment_set _ (timer_of id last.kind) (now + last.after)

-- the two timers of a request
abbrev both : Bool → Starts
both invite = cond invite (Two (timer A t1) (timer B timeout)) (Two (timer E t1) (timer F timeout))

method_set : (timers : List (Timer TimerId)) (id now wait : ℕ) (begins invite : Bool)
    → moment same_timer (started timers id (cond begins (limited wait (both invite)) (both invite)) now) (timer_of id (cond invite B F))
    ≡ Some (now + cond begins (min wait timeout) timeout)
method_set timers id now wait begins true = last_set timers id now wait (timer A t1) (timer B timeout) begins
method_set timers id now wait begins false = last_set timers id now wait (timer E t1) (timer F timeout) begins

begun_set : (table : Contents) (r : Request) (to : Addr) (now : ℕ) (ack : Bool) → ack ≡ false
    → moment same_timer (entered now table (cond ack Leaves (Opens (asking r to (message_text (Kinds.Request r))) (asking_timers r.parts)))).timers
    (timer_of (free_number table.slots) (last_timer r.parts)) ≡ Some (now + longest_wait table.rules.first_wait r.parts)
unfolding starts_within
begun_set table r to now true no_ack = absurd (false≢true (sym no_ack))
begun_set table r to now false no_ack =
    method_set table.timers (free_number table.slots) now table.rules.first_wait (begins_dialog r.parts) (is_method (codes "INVITE") r.parts)

pub gives_up : (table : Contents) (r : Request) (to : Addr) (now : ℕ) → GivesUp table r to now
gives_up table r to now no_ack = begun_set table r to now (is_method (codes "ACK") r.parts) no_ack
