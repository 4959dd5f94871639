-- The first event of a text: what the function finds, and what the grammar says.
use Rattle.std.proofs.Common.{◌≡◌, ℕ, ◌+◌, ◌<◌, Bool, true, false, ◌&&◌, cond, eqb, ltb, List, ◌∷◌, ◌++◌, length, take, drop, get_or, Option, Some, None, inl, inr, refl, sym, ap, subst, ◌∙◌, arith}
use Rattle.std.specs.Prelude.{codes}
use Rattle.std.specs.Char.{is_ascii_digit}
use Rattle.std.specs.List.{join_with_byte}
use Rattle.std.specs.Cmp.Lexicographic.{bytes_decides}
use Rattle.std.proofs.lemmas.Bool.{eqb-true, lt-ltb, ltb-true}
use Rattle.std.proofs.lemmas.List.Splits.{join_with_byte-slice_split}
use Rattle.std.proofs.lemmas.List.{length-append, length-take-le, drop_more, take-append-drop}
use Rattle.std.proofs.Math.Seq.{get_or-append_seam, take-append_seam, drop-append-add}
use Rattle.text.specs.Cut.{before, after, led_by}
use Rattle.text.proofs.CutLaws.{Lacks, Lacks-append, joined, before_at, after_at}
use Rattle.text.proofs.Lists.{some_then}
use Rattle.sip_uri.specs.Classes.{is_label_byte}
use Rattle.sip_uri.specs.Hosts.{ip4_of, is_host}
use Rattle.sip_uri.proofs.HostLaws.{host_lacks}
use Rattle.events.specs.declared.event.Event.{Event}
use Rattle.scripts.specs.declared.head.Head.{Head}
use Rattle.scripts.specs.Limits.{max_number, max_bytes}
use Rattle.scripts.specs.Numbers.{number_of, port_of}
use Rattle.scripts.specs.Values.{Entry, due_at, silent_at, names_of, users_at, datagram_at}
use Rattle.scripts.specs.Reading.{is_same, timer_of, silent_of, users_of, head_from, head_of, bytes_of, datagram_of, entry_of, next_of}
use Rattle.scripts.specs.Grammar.{spaced, lined, BeginsDue, BeginsSilent, BeginsUsers, BeginsDatagram, Begins}
use Rattle.scripts.proofs.NumberLaws.{number_lacks, port_lacks}
use Rattle.scripts.proofs.NameLaws.{before_lacks, after_lacks, names_lack_feed, names_again, names_some, names_formed}

abbrev pub entry : Event → List ℕ → Entry
entry e rest = record { event = e; rest = rest }

abbrev head : ℕ → ℕ → List ℕ → ℕ → ℕ → Head
head now salt ip port count = record { now = now; salt = salt; source = record { ip = ip; port = port }; count = count }

-- ---- from the grammar to the function

address_is_host : (t os : List ℕ) → ip4_of t ≡ Some os → is_host t ≡ true
unfolding is_host
address_is_host t os h = rw h refl

ip_lacks : (c : ℕ) → is_label_byte c ≡ false → is_ascii_digit c ≡ false → eqb 46 c ≡ false → (t os : List ℕ) → ip4_of t ≡ Some os → Lacks c t
ip_lacks c label out apart t os h = host_lacks c label out apart t (address_is_host t os h)

pub next_by : (text line kind fields behind : List ℕ) → before 10 text ≡ line → after 10 text ≡ Some behind → before 32 line ≡ kind → after 32 line ≡ Some fields
    → next_of text ≡ entry_of kind fields behind
unfolding next_of
next_by text line kind fields behind a b c d = rw (a, b, c, d) refl

pub timer_by : (fields now_text salt_text behind : List ℕ) (now salt : ℕ) → before 32 fields ≡ now_text → after 32 fields ≡ Some salt_text
    → number_of max_number now_text ≡ Some now → number_of max_number salt_text ≡ Some salt → timer_of fields behind ≡ Some (entry (due_at now salt) behind)
unfolding timer_of
timer_by fields now_text salt_text behind now salt a b c d = rw (a, b, c, d) refl

pub silent_by : (fields more now_text salt_text call_text behind : List ℕ) (now salt call : ℕ)
    → before 32 fields ≡ now_text → after 32 fields ≡ Some more → before 32 more ≡ salt_text → after 32 more ≡ Some call_text
    → number_of max_number now_text ≡ Some now → number_of max_number salt_text ≡ Some salt → number_of max_number call_text ≡ Some call
    → silent_of fields behind ≡ Some (entry (silent_at now salt call) behind)
unfolding silent_of
silent_by fields more now_text salt_text call_text behind now salt call a b c d e f g = rw (b, d, a, c, e, f, g) refl

pub users_by : (fields more now_text salt_text names_text behind : List ℕ) (now salt : ℕ) (users : List (List ℕ))
    → before 32 fields ≡ now_text → after 32 fields ≡ Some more → before 32 more ≡ salt_text → after 32 more ≡ Some names_text
    → number_of max_number now_text ≡ Some now → number_of max_number salt_text ≡ Some salt → names_of names_text ≡ users
    → users_of fields behind ≡ Some (entry (users_at now salt users) behind)
unfolding users_of
users_by fields more now_text salt_text names_text behind now salt users a b c d e f g = rw (b, d, a, c, e, f, g) refl

head_by : (a b c d now_text salt_text ip_text port_text length_text : List ℕ)
    → before 32 a ≡ now_text → after 32 a ≡ Some b → before 32 b ≡ salt_text → after 32 b ≡ Some c → before 32 c ≡ ip_text → after 32 c ≡ Some d
    → before 32 d ≡ port_text → after 32 d ≡ Some length_text → head_of a ≡ head_from now_text salt_text ip_text port_text length_text
unfolding head_of
head_by a b c d now_text salt_text ip_text port_text length_text e1 e2 e3 e4 e5 e6 e7 e8 = rw (e2, e4, e6, e8, e1, e3, e5, e7) refl

head_is : (now_text salt_text ip_text port_text length_text : List ℕ) (now salt : ℕ) (ip : List ℕ) (port count : ℕ)
    → number_of max_number now_text ≡ Some now → number_of max_number salt_text ≡ Some salt → ip4_of ip_text ≡ Some ip → port_of port_text ≡ Some port
    → number_of max_bytes length_text ≡ Some count
    → head_from now_text salt_text ip_text port_text length_text ≡ Some (head now salt ip port count)
unfolding head_from
head_is now_text salt_text ip_text port_text length_text now salt ip port count a b c d e = rw (a, b, c, d, e) refl

bytes_by : (now salt : ℕ) (ip : List ℕ) (port : ℕ) (bytes rest : List ℕ)
    → bytes_of (head now salt ip port (length bytes)) (bytes ++ 10 ∷ rest) ≡ Some (entry (datagram_at now salt (record { ip = ip; port = port }) bytes) rest)
unfolding bytes_of
bytes_by now salt ip port bytes rest =
    let long : ltb (length bytes) (length (bytes ++ 10 ∷ rest)) ≡ true = lt-ltb _ _ (omega (arith, length-append bytes (10 ∷ rest))) in
    let feed : get_or (bytes ++ 10 ∷ rest) (length bytes) 0 ≡ 10 = get_or-append_seam bytes 10 rest 0 in
    let front : take (length bytes) (bytes ++ 10 ∷ rest) ≡ bytes = take-append_seam bytes (10 ∷ rest) in
    let back : drop (length bytes + 1) (bytes ++ 10 ∷ rest) ≡ rest = drop-append-add bytes (10 ∷ rest) 1 in
    rw (long, feed, front, back) refl

due_again : (text : List ℕ) (e : Event) (rest : List ℕ) → BeginsDue text e rest → next_of text ≡ Some (entry e rest)
due_again text e rest h =
    let fields : List ℕ = spaced h.now_text h.salt_text in
    let line : List ℕ = spaced (codes "T") fields in
    let now_out : (c : ℕ) → is_ascii_digit c ≡ false → Lacks c h.now_text = λ c out. number_lacks c max_number h.now h.now_text out h.now_is in
    let salt_out : (c : ℕ) → is_ascii_digit c ≡ false → Lacks c h.salt_text = λ c out. number_lacks c max_number h.salt h.salt_text out h.salt_is in
    let in_fields : Lacks 10 fields = Lacks-append 10 h.now_text (32 ∷ h.salt_text) (now_out 10 refl) (refl, salt_out 10 refl) in
    let in_line : Lacks 10 line = (refl, (refl, in_fields)) in
    let front : before 10 text ≡ line = ap (before 10) h.spelled ∙ before_at 10 line (Some rest) in_line in
    let back : after 10 text ≡ Some rest = ap (after 10) h.spelled ∙ after_at 10 line (Some rest) in_line in
    next_by text line (codes "T") fields rest front back (before_at 32 (codes "T") (Some fields) (refl, tt)) (after_at 32 (codes "T") (Some fields) (refl, tt))
    ∙ timer_by fields h.now_text h.salt_text rest h.now h.salt (before_at 32 h.now_text (Some h.salt_text) (now_out 32 refl)) (after_at 32 h.now_text (Some h.salt_text) (now_out 32 refl)) h.now_is h.salt_is
    ∙ ap (λ (x : Event). Some (entry x rest)) (sym h.event)

silent_again : (text : List ℕ) (e : Event) (rest : List ℕ) → BeginsSilent text e rest → next_of text ≡ Some (entry e rest)
silent_again text e rest h =
    let more : List ℕ = spaced h.salt_text h.call_text in
    let fields : List ℕ = spaced h.now_text more in
    let line : List ℕ = spaced (codes "Q") fields in
    let now_out : (c : ℕ) → is_ascii_digit c ≡ false → Lacks c h.now_text = λ c out. number_lacks c max_number h.now h.now_text out h.now_is in
    let salt_out : (c : ℕ) → is_ascii_digit c ≡ false → Lacks c h.salt_text = λ c out. number_lacks c max_number h.salt h.salt_text out h.salt_is in
    let call_out : Lacks 10 h.call_text = number_lacks 10 max_number h.call h.call_text refl h.call_is in
    let in_more : Lacks 10 more = Lacks-append 10 h.salt_text (32 ∷ h.call_text) (salt_out 10 refl) (refl, call_out) in
    let in_fields : Lacks 10 fields = Lacks-append 10 h.now_text (32 ∷ more) (now_out 10 refl) (refl, in_more) in
    let in_line : Lacks 10 line = (refl, (refl, in_fields)) in
    let front : before 10 text ≡ line = ap (before 10) h.spelled ∙ before_at 10 line (Some rest) in_line in
    let back : after 10 text ≡ Some rest = ap (after 10) h.spelled ∙ after_at 10 line (Some rest) in_line in
    next_by text line (codes "Q") fields rest front back (before_at 32 (codes "Q") (Some fields) (refl, tt)) (after_at 32 (codes "Q") (Some fields) (refl, tt))
    ∙ silent_by fields more h.now_text h.salt_text h.call_text rest h.now h.salt h.call
    (before_at 32 h.now_text (Some more) (now_out 32 refl)) (after_at 32 h.now_text (Some more) (now_out 32 refl))
    (before_at 32 h.salt_text (Some h.call_text) (salt_out 32 refl)) (after_at 32 h.salt_text (Some h.call_text) (salt_out 32 refl))
    h.now_is h.salt_is h.call_is
    ∙ ap (λ (x : Event). Some (entry x rest)) (sym h.event)

users_again : (text : List ℕ) (e : Event) (rest : List ℕ) → BeginsUsers text e rest → next_of text ≡ Some (entry e rest)
users_again text e rest h =
    let names : List ℕ = join_with_byte 44 h.users in
    let more : List ℕ = spaced h.salt_text names in
    let fields : List ℕ = spaced h.now_text more in
    let line : List ℕ = spaced (codes "U") fields in
    let now_out : (c : ℕ) → is_ascii_digit c ≡ false → Lacks c h.now_text = λ c out. number_lacks c max_number h.now h.now_text out h.now_is in
    let salt_out : (c : ℕ) → is_ascii_digit c ≡ false → Lacks c h.salt_text = λ c out. number_lacks c max_number h.salt h.salt_text out h.salt_is in
    let in_more : Lacks 10 more = Lacks-append 10 h.salt_text (32 ∷ names) (salt_out 10 refl) (refl, names_lack_feed h.users h.names) in
    let in_fields : Lacks 10 fields = Lacks-append 10 h.now_text (32 ∷ more) (now_out 10 refl) (refl, in_more) in
    let in_line : Lacks 10 line = (refl, (refl, in_fields)) in
    let front : before 10 text ≡ line = ap (before 10) h.spelled ∙ before_at 10 line (Some rest) in_line in
    let back : after 10 text ≡ Some rest = ap (after 10) h.spelled ∙ after_at 10 line (Some rest) in_line in
    next_by text line (codes "U") fields rest front back (before_at 32 (codes "U") (Some fields) (refl, tt)) (after_at 32 (codes "U") (Some fields) (refl, tt))
    ∙ users_by fields more h.now_text h.salt_text names rest h.now h.salt h.users
    (before_at 32 h.now_text (Some more) (now_out 32 refl)) (after_at 32 h.now_text (Some more) (now_out 32 refl))
    (before_at 32 h.salt_text (Some names) (salt_out 32 refl)) (after_at 32 h.salt_text (Some names) (salt_out 32 refl))
    h.now_is h.salt_is (names_again h.users h.some h.names)
    ∙ ap (λ (x : Event). Some (entry x rest)) (sym h.event)

pub datagram_by : (fields behind : List ℕ) (x : Head) → head_of fields ≡ Some x → datagram_of fields behind ≡ bytes_of x behind
datagram_by fields behind x h = rw h refl

datagram_again : (text : List ℕ) (e : Event) (rest : List ℕ) → BeginsDatagram text e rest → next_of text ≡ Some (entry e rest)
datagram_again text e rest h =
    let d : List ℕ = spaced h.port_text h.length_text in
    let c : List ℕ = spaced h.ip_text d in
    let b : List ℕ = spaced h.salt_text c in
    let a : List ℕ = spaced h.now_text b in
    let line : List ℕ = spaced (codes "D") a in
    let behind : List ℕ = lined h.bytes rest in
    let now_out : (c : ℕ) → is_ascii_digit c ≡ false → Lacks c h.now_text = λ c out. number_lacks c max_number h.now h.now_text out h.now_is in
    let salt_out : (c : ℕ) → is_ascii_digit c ≡ false → Lacks c h.salt_text = λ c out. number_lacks c max_number h.salt h.salt_text out h.salt_is in
    let port_out : (c : ℕ) → is_ascii_digit c ≡ false → Lacks c h.port_text = λ c out. port_lacks c h.port h.port_text out h.port_is in
    let length_out : Lacks 10 h.length_text = number_lacks 10 max_bytes (length h.bytes) h.length_text refl h.length_is in
    let in_d : Lacks 10 d = Lacks-append 10 h.port_text (32 ∷ h.length_text) (port_out 10 refl) (refl, length_out) in
    let in_c : Lacks 10 c = Lacks-append 10 h.ip_text (32 ∷ d) (ip_lacks 10 refl refl refl h.ip_text h.ip h.ip_is) (refl, in_d) in
    let in_b : Lacks 10 b = Lacks-append 10 h.salt_text (32 ∷ c) (salt_out 10 refl) (refl, in_c) in
    let in_a : Lacks 10 a = Lacks-append 10 h.now_text (32 ∷ b) (now_out 10 refl) (refl, in_b) in
    let in_line : Lacks 10 line = (refl, (refl, in_a)) in
    let front : before 10 text ≡ line = ap (before 10) h.spelled ∙ before_at 10 line (Some behind) in_line in
    let back : after 10 text ≡ Some behind = ap (after 10) h.spelled ∙ after_at 10 line (Some behind) in_line in
    let ip_out : Lacks 32 h.ip_text = ip_lacks 32 refl refl refl h.ip_text h.ip h.ip_is in
    let fields = head_by a b c d h.now_text h.salt_text h.ip_text h.port_text h.length_text
    (before_at 32 h.now_text (Some b) (now_out 32 refl)) (after_at 32 h.now_text (Some b) (now_out 32 refl))
    (before_at 32 h.salt_text (Some c) (salt_out 32 refl)) (after_at 32 h.salt_text (Some c) (salt_out 32 refl))
    (before_at 32 h.ip_text (Some d) ip_out) (after_at 32 h.ip_text (Some d) ip_out)
    (before_at 32 h.port_text (Some h.length_text) (port_out 32 refl)) (after_at 32 h.port_text (Some h.length_text) (port_out 32 refl)) in
    let values = head_is h.now_text h.salt_text h.ip_text h.port_text h.length_text h.now h.salt h.ip h.port (length h.bytes) h.now_is h.salt_is h.ip_is h.port_is h.length_is in
    next_by text line (codes "D") a behind front back (before_at 32 (codes "D") (Some a) (refl, tt)) (after_at 32 (codes "D") (Some a) (refl, tt))
    ∙ datagram_by a behind (head h.now h.salt h.ip h.port (length h.bytes)) (fields ∙ values)
    ∙ bytes_by h.now h.salt h.ip h.port h.bytes rest
    ∙ ap (λ (x : Event). Some (entry x rest)) (sym h.event)

pub again : (text : List ℕ) (e : Event) (rest : List ℕ) → Begins text e rest → next_of text ≡ Some (entry e rest)
again text e rest (inl h) = due_again text e rest h
again text e rest (inr (inl h)) = silent_again text e rest h
again text e rest (inr (inr (inl h))) = users_again text e rest h
again text e rest (inr (inr (inr h))) = datagram_again text e rest h

-- ---- from the function to the grammar

pub some_is : {X : Type 0} (x y : X) → Some x ≡ Some y → x ≡ y
some_is x y h = cc

-- what was cut at a byte that is there
pub cut_is : (c : ℕ) (text rest : List ℕ) → after c text ≡ Some rest → text ≡ before c text ++ c ∷ rest
cut_is c text rest h = sym (joined c text) ∙ ap (λ (o : Option (List ℕ)). before c text ++ led_by c o) h

pub spaced_is : (text rest : List ℕ) → after 32 text ≡ Some rest → text ≡ spaced (before 32 text) rest
spaced_is text rest h = cut_is 32 text rest h

due_is : (text fields behind : List ℕ) (n : Entry) → text ≡ lined (spaced (codes "T") fields) behind → timer_of fields behind ≡ Some n → Begins text n.event n.rest
unfolding timer_of
due_is text fields behind n spelled h =
    let a = some_then (number_of max_number (before 32 fields)) _ n h in
    let b = some_then (after 32 fields) _ n a.2 in
    let c = some_then (number_of max_number b.0) (λ salt. Some (entry (due_at a.0 salt) behind)) n b.2 in
    let begins : BeginsDue text (due_at a.0 c.0) behind = record {
      now_text = before 32 fields;
      salt_text = b.0;
      now = a.0;
      salt = c.0;
      spelled = spelled ∙ ap (λ (t : List ℕ). lined (spaced (codes "T") t) behind) (spaced_is fields b.0 b.1);
      now_is = a.1;
      salt_is = c.1;
      event = refl;
    } in
    subst (λ (x : Entry). Begins text x.event x.rest) (some_is (entry (due_at a.0 c.0) behind) n c.2) (inl begins)

silent_is : (text fields behind : List ℕ) (n : Entry) → text ≡ lined (spaced (codes "Q") fields) behind → silent_of fields behind ≡ Some n → Begins text n.event n.rest
unfolding silent_of
silent_is text fields behind n spelled h =
    let more = some_then (after 32 fields) _ n h in
    let now = some_then (number_of max_number (before 32 fields)) _ n more.2 in
    let salt = some_then (number_of max_number (before 32 more.0)) _ n now.2 in
    let call_text = some_then (after 32 more.0) _ n salt.2 in
    let call = some_then (number_of max_number call_text.0) (λ call. Some (entry (silent_at now.0 salt.0 call) behind)) n call_text.2 in
    let begins : BeginsSilent text (silent_at now.0 salt.0 call.0) behind = record {
      now_text = before 32 fields;
      salt_text = before 32 more.0;
      call_text = call_text.0;
      now = now.0;
      salt = salt.0;
      call = call.0;
      spelled = spelled ∙ ap (λ (t : List ℕ). lined (spaced (codes "Q") t) behind)
          (spaced_is fields more.0 more.1 ∙ ap (λ (t : List ℕ). spaced (before 32 fields) t) (spaced_is more.0 call_text.0 call_text.1));
      now_is = now.1;
      salt_is = salt.1;
      call_is = call.1;
      event = refl;
    } in
    subst (λ (x : Entry). Begins text x.event x.rest) (some_is (entry (silent_at now.0 salt.0 call.0) behind) n call.2) (inr (inl begins))

users_is : (text fields behind : List ℕ) (n : Entry) → Lacks 10 fields → text ≡ lined (spaced (codes "U") fields) behind → users_of fields behind ≡ Some n
    → Begins text n.event n.rest
unfolding users_of
users_is text fields behind n lacks spelled h =
    let more = some_then (after 32 fields) _ n h in
    let now = some_then (number_of max_number (before 32 fields)) _ n more.2 in
    let salt = some_then (number_of max_number (before 32 more.0)) _ n now.2 in
    let names = some_then (after 32 more.0) (λ names. Some (entry (users_at now.0 salt.0 (names_of names)) behind)) n salt.2 in
    let in_more : Lacks 10 more.0 = after_lacks 10 32 fields more.0 lacks more.1 in
    let in_names : Lacks 10 names.0 = after_lacks 10 32 more.0 names.0 in_more names.1 in
    let begins : BeginsUsers text (users_at now.0 salt.0 (names_of names.0)) behind = record {
      now_text = before 32 fields;
      salt_text = before 32 more.0;
      users = names_of names.0;
      now = now.0;
      salt = salt.0;
      spelled = spelled ∙ ap (λ (t : List ℕ). lined (spaced (codes "U") t) behind)
          (spaced_is fields more.0 more.1 ∙ ap (λ (t : List ℕ). spaced (before 32 fields) t)
          (spaced_is more.0 names.0 names.1 ∙ ap (λ (t : List ℕ). spaced (before 32 more.0) t) (sym (join_with_byte-slice_split 44 names.0))));
      now_is = now.1;
      salt_is = salt.1;
      some = names_some names.0;
      names = names_formed names.0 in_names;
      event = refl;
    } in
    subst (λ (x : Entry). Begins text x.event x.rest) (some_is (entry (users_at now.0 salt.0 (names_of names.0)) behind) n names.2) (inr (inr (inl begins)))

-- the bytes of a datagram, and the line feed
pub body_is : (x : Head) (behind : List ℕ) (n : Entry) → bytes_of x behind ≡ Some n
    → (bytes : List ℕ) × (rest : List ℕ) × (behind ≡ lined bytes rest) × (x.count ≡ length bytes) × (entry (datagram_at x.now x.salt x.source bytes) rest ≡ n)
unfolding bytes_of
body_is x behind n h = step (ltb x.count (length behind)) (eqb (get_or behind x.count 0) 10) (λ e. ltb-true _ _ e) (λ e. eqb-true _ _ e) h where
  step : (p q : Bool) → (p ≡ true → x.count < length behind) → (q ≡ true → get_or behind x.count 0 ≡ 10)
      → cond (p && q) (Some (entry (datagram_at x.now x.salt x.source (take x.count behind)) (drop (x.count + 1) behind))) None ≡ Some n
      → (bytes : List ℕ) × (rest : List ℕ) × (behind ≡ lined bytes rest) × (x.count ≡ length bytes) × (entry (datagram_at x.now x.salt x.source bytes) rest ≡ n)
  step true true lt feed h =
      let back : drop x.count behind ≡ 10 ∷ drop (x.count + 1) behind = drop_more behind x.count 0 (lt refl) ∙ ap (λ (b : ℕ). b ∷ drop (x.count + 1) behind) (feed refl) in
      let whole : behind ≡ take x.count behind ++ 10 ∷ drop (x.count + 1) behind =
      sym (take-append-drop x.count behind) ∙ ap (λ (t : List ℕ). take x.count behind ++ t) back in
      let long : x.count ≡ length (take x.count behind) = sym (length-take-le x.count behind (omega (arith, lt refl))) in
      (take x.count behind, drop (x.count + 1) behind, whole, long, some_is _ _ h)
  step true false lt feed h = absurd cc
  step false q lt feed h = absurd cc

-- what the fields of a datagram's line are
pub record SaysHead (fields : List ℕ) (x : Head) : Type 0 where
  pub now_text : List ℕ
  pub salt_text : List ℕ
  pub ip_text : List ℕ
  pub port_text : List ℕ
  pub length_text : List ℕ
  pub spelled : fields ≡ spaced now_text (spaced salt_text (spaced ip_text (spaced port_text length_text)))
  pub values : head_from now_text salt_text ip_text port_text length_text ≡ Some x

pub head_says : (fields : List ℕ) (x : Head) → head_of fields ≡ Some x → SaysHead fields x
unfolding head_of
head_says fields x h =
    let b = some_then (after 32 fields) _ x h in
    let c = some_then (after 32 b.0) _ x b.2 in
    let d = some_then (after 32 c.0) _ x c.2 in
    let e = some_then (after 32 d.0) (λ e. head_from (before 32 fields) (before 32 b.0) (before 32 c.0) (before 32 d.0) e) x d.2 in
    record {
      now_text = before 32 fields;
      salt_text = before 32 b.0;
      ip_text = before 32 c.0;
      port_text = before 32 d.0;
      length_text = e.0;
      spelled = spaced_is fields b.0 b.1
          ∙ ap (λ (t : List ℕ). spaced (before 32 fields) t) (spaced_is b.0 c.0 c.1
          ∙ ap (λ (t : List ℕ). spaced (before 32 b.0) t) (spaced_is c.0 d.0 d.1
          ∙ ap (λ (t : List ℕ). spaced (before 32 c.0) t) (spaced_is d.0 e.0 e.1)));
      values = e.2;
    }

-- what the values of a datagram's line are
record HasValues (now_text salt_text ip_text port_text length_text : List ℕ) (x : Head) : Type 0 where
  now_is : number_of max_number now_text ≡ Some x.now
  salt_is : number_of max_number salt_text ≡ Some x.salt
  ip_is : ip4_of ip_text ≡ Some x.source.ip
  port_is : port_of port_text ≡ Some x.source.port
  length_is : number_of max_bytes length_text ≡ Some x.count

has_values : (now_text salt_text ip_text port_text length_text : List ℕ) (x : Head) → head_from now_text salt_text ip_text port_text length_text ≡ Some x
    → HasValues now_text salt_text ip_text port_text length_text x
unfolding head_from
has_values now_text salt_text ip_text port_text length_text x h =
    let now = some_then (number_of max_number now_text) _ x h in
    let salt = some_then (number_of max_number salt_text) _ x now.2 in
    let ip = some_then (ip4_of ip_text) _ x salt.2 in
    let port = some_then (port_of port_text) _ x ip.2 in
    let count = some_then (number_of max_bytes length_text) (λ count. Some (head now.0 salt.0 ip.0 port.0 count)) x port.2 in
    subst (λ (y : Head). HasValues now_text salt_text ip_text port_text length_text y) (some_is (head now.0 salt.0 ip.0 port.0 count.0) x count.2)
    (record { now_is = now.1; salt_is = salt.1; ip_is = ip.1; port_is = port.1; length_is = count.1 })

-- the line, and the bytes after it
pub datagram_with : (text fields behind : List ℕ) (x : Head) (bytes rest : List ℕ) (n : Entry) → text ≡ lined (spaced (codes "D") fields) behind → SaysHead fields x
    → behind ≡ lined bytes rest → x.count ≡ length bytes → entry (datagram_at x.now x.salt x.source bytes) rest ≡ n → Begins text n.event n.rest
datagram_with text fields behind x bytes rest n spelled says body long same =
    let v = has_values says.now_text says.salt_text says.ip_text says.port_text says.length_text x says.values in
    let begins : BeginsDatagram text (datagram_at x.now x.salt x.source bytes) rest = record {
      now_text = says.now_text;
      salt_text = says.salt_text;
      ip_text = says.ip_text;
      port_text = says.port_text;
      length_text = says.length_text;
      now = x.now;
      salt = x.salt;
      ip = x.source.ip;
      port = x.source.port;
      bytes = bytes;
      spelled = spelled ∙ ap (λ (t : List ℕ). lined (spaced (codes "D") t) behind) says.spelled
          ∙ ap (λ (t : List ℕ). lined (spaced (codes "D") (spaced says.now_text (spaced says.salt_text (spaced says.ip_text (spaced says.port_text says.length_text))))) t) body;
      now_is = v.now_is;
      salt_is = v.salt_is;
      ip_is = v.ip_is;
      port_is = v.port_is;
      length_is = v.length_is ∙ ap Some long;
      event = refl;
    } in
    subst (λ (y : Entry). Begins text y.event y.rest) same (inr (inr (inr begins)))

datagram_is : (text fields behind : List ℕ) (n : Entry) → text ≡ lined (spaced (codes "D") fields) behind → datagram_of fields behind ≡ Some n → Begins text n.event n.rest
datagram_is text fields behind n spelled h =
    let x = some_then (head_of fields) (λ y. bytes_of y behind) n h in
    let body = body_is x.0 behind n x.2 in
    datagram_with text fields behind x.0 body.0 body.1 n spelled (head_says fields x.0 x.1) body.2 body.3 body.4

entry_is : (text kind fields behind : List ℕ) (n : Entry) → Lacks 10 fields → text ≡ lined (spaced kind fields) behind → entry_of kind fields behind ≡ Some n
    → Begins text n.event n.rest
entry_is text kind fields behind n lacks spelled h =
    step (is_same kind (codes "T")) (is_same kind (codes "Q")) (is_same kind (codes "U")) (is_same kind (codes "D"))
    (bytes_decides kind (codes "T")).0 (bytes_decides kind (codes "Q")).0 (bytes_decides kind (codes "U")).0 (bytes_decides kind (codes "D")).0 h where
      with_kind : (k : List ℕ) → kind ≡ k → text ≡ lined (spaced k fields) behind
      with_kind k same = spelled ∙ ap (λ (x : List ℕ). lined (spaced x fields) behind) same

      step : (p q r s : Bool) → (p ≡ true → kind ≡ codes "T") → (q ≡ true → kind ≡ codes "Q") → (r ≡ true → kind ≡ codes "U") → (s ≡ true → kind ≡ codes "D")
          → cond p (timer_of fields behind) (cond q (silent_of fields behind) (cond r (users_of fields behind) (cond s (datagram_of fields behind) None))) ≡ Some n
          → Begins text n.event n.rest
      step true q r s timer silent users datagram h = due_is text fields behind n (with_kind (codes "T") (timer refl)) h
      step false true r s timer silent users datagram h = silent_is text fields behind n (with_kind (codes "Q") (silent refl)) h
      step false false true s timer silent users datagram h = users_is text fields behind n lacks (with_kind (codes "U") (users refl)) h
      step false false false true timer silent users datagram h = datagram_is text fields behind n (with_kind (codes "D") (datagram refl)) h
      step false false false false timer silent users datagram h = absurd cc

pub begins_at : (text : List ℕ) (n : Entry) → next_of text ≡ Some n → Begins text n.event n.rest
unfolding next_of
begins_at text n h =
    let fields = some_then (after 32 (before 10 text)) _ n h in
    let behind = some_then (after 10 text) _ n fields.2 in
    entry_is text (before 32 (before 10 text)) fields.0 behind.0 n (after_lacks 10 32 (before 10 text) fields.0 (before_lacks 10 text) fields.1)
    (cut_is 10 text behind.0 behind.1 ∙ ap (λ (t : List ℕ). lined t behind.0) (spaced_is (before 10 text) fields.0 fields.1)) behind.2
