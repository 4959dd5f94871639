-- Texts with more added: the events that are there, and those that more bytes make.
use Rattle.std.proofs.Common.{◌≡◌, ◌≢◌, ℕ, ◌+◌, ◌-◌, ◌<◌, ◌≤◌, Bool, true, false, ◌&&◌, cond, leb, List, [], ◌∷◌, ◌++◌, length, take, drop, get_or, replicate, Option, Some, None, inl, inr, refl, sym, ap, subst, ◌∙◌, arith, append_assoc}
use Rattle.std.specs.Prelude.{codes, ◌⊎◌}
use Rattle.std.specs.List.{join_with_byte}
use Rattle.std.specs.Cmp.Lexicographic.{bytes_decides}
use Rattle.std.proofs.lemmas.Bool.{leb-true, lt-ltb}
use Rattle.std.proofs.lemmas.Bool.Decides.{nat_tests}
use Rattle.std.proofs.lemmas.List.{length-append, get_or_append_left, length-replicate}
use Rattle.std.proofs.Math.Seq.{drop-append_seam, get_or-append_seam}
use Rattle.text.specs.Cut.{before, after, led_by}
use Rattle.text.proofs.CutLaws.{before_at, after_at}
use Rattle.text.proofs.Lists.{some_then}
use Rattle.events.specs.declared.event.Event.{Event}
use Rattle.scripts.specs.declared.head.Head.{Head}
use Rattle.scripts.specs.Limits.{max_number}
use Rattle.scripts.specs.Numbers.{number_of}
use Rattle.scripts.specs.Values.{Entry, due_at, silent_at, names_of, users_at, datagram_at}
use Rattle.scripts.specs.Reading.{is_same, timer_of, silent_of, users_of, head_of, bytes_of, datagram_of, entry_of, next_of, lacks_bytes, lacks_datagram, is_cut_behind, is_cut_off}
use Rattle.scripts.specs.Grammar.{spaced, lined, Begins, BeginsNone, NeverBegins, IsFront, NeedsMore, LeadsTo}
use Rattle.scripts.proofs.NameLaws.{before_lacks}
use Rattle.scripts.proofs.EntryLaws.{entry, again, begins_at, timer_by, silent_by, users_by, datagram_by, next_by, body_is, cut_is, spaced_is, head_says, datagram_with, some_is}

-- ---- more bytes after an event

-- a line, and what comes after it
lined_more : (text line behind more : List ℕ) → text ≡ lined line behind → text ++ more ≡ lined line (behind ++ more)
lined_more text line behind more h = ap (λ (t : List ℕ). t ++ more) h ∙ append_assoc line (10 ∷ behind) more

pub begins_more : (text : List ℕ) (e : Event) (rest more : List ℕ) → Begins text e rest → Begins (text ++ more) e (rest ++ more)
begins_more text e rest more (inl b) = inl (record {
  now_text = b.now_text;
  salt_text = b.salt_text;
  now = b.now;
  salt = b.salt;
  spelled = lined_more text (spaced (codes "T") (spaced b.now_text b.salt_text)) rest more b.spelled;
  now_is = b.now_is;
  salt_is = b.salt_is;
  event = b.event;
})
begins_more text e rest more (inr (inl b)) = inr (inl (record {
  now_text = b.now_text;
  salt_text = b.salt_text;
  call_text = b.call_text;
  now = b.now;
  salt = b.salt;
  call = b.call;
  spelled = lined_more text (spaced (codes "Q") (spaced b.now_text (spaced b.salt_text b.call_text))) rest more b.spelled;
  now_is = b.now_is;
  salt_is = b.salt_is;
  call_is = b.call_is;
  event = b.event;
}))
begins_more text e rest more (inr (inr (inl b))) = inr (inr (inl (record {
  now_text = b.now_text;
  salt_text = b.salt_text;
  users = b.users;
  now = b.now;
  salt = b.salt;
  spelled = lined_more text (spaced (codes "U") (spaced b.now_text (spaced b.salt_text (join_with_byte 44 b.users)))) rest more b.spelled;
  now_is = b.now_is;
  salt_is = b.salt_is;
  some = b.some;
  names = b.names;
  event = b.event;
})))
begins_more text e rest more (inr (inr (inr b))) = inr (inr (inr (record {
  now_text = b.now_text;
  salt_text = b.salt_text;
  ip_text = b.ip_text;
  port_text = b.port_text;
  length_text = b.length_text;
  now = b.now;
  salt = b.salt;
  ip = b.ip;
  port = b.port;
  bytes = b.bytes;
  spelled = lined_more text line (lined b.bytes rest) more b.spelled ∙ ap (λ (t : List ℕ). lined line t) (append_assoc b.bytes (10 ∷ rest) more);
  now_is = b.now_is;
  salt_is = b.salt_is;
  ip_is = b.ip_is;
  port_is = b.port_is;
  length_is = b.length_is;
  event = b.event;
}))) where
  line : List ℕ
  line = spaced (codes "D") (spaced b.now_text (spaced b.salt_text (spaced b.ip_text (spaced b.port_text b.length_text))))

front_by : (text line bytes rest : List ℕ) → text ≡ lined line (bytes ++ rest) → (front : List ℕ) × (text ≡ front ++ rest)
front_by text line bytes rest h = (lined line bytes, h ∙ sym (append_assoc line (10 ∷ bytes) rest))

-- what comes before the rest
pub front_of : (text : List ℕ) (e : Event) (rest : List ℕ) → Begins text e rest → (front : List ℕ) × (text ≡ front ++ rest)
front_of text e rest (inl b) = front_by text (spaced (codes "T") (spaced b.now_text b.salt_text)) [] rest b.spelled
front_of text e rest (inr (inl b)) = front_by text (spaced (codes "Q") (spaced b.now_text (spaced b.salt_text b.call_text))) [] rest b.spelled
front_of text e rest (inr (inr (inl b))) = front_by text (spaced (codes "U") (spaced b.now_text (spaced b.salt_text (join_with_byte 44 b.users)))) [] rest b.spelled
front_of text e rest (inr (inr (inr b))) = front_by text line (lined b.bytes []) rest (b.spelled ∙ ap (λ (t : List ℕ). lined line t) (sym (append_assoc b.bytes (10 ∷ []) rest))) where
  line : List ℕ
  line = spaced (codes "D") (spaced b.now_text (spaced b.salt_text (spaced b.ip_text (spaced b.port_text b.length_text))))

pub behind_front : (text front rest : List ℕ) → text ≡ front ++ rest → drop (length text - length rest) text ≡ rest
behind_front text front rest h =
    let before : length text - length rest ≡ length front = omega (arith, ap length h, length-append front rest) in
    ap (λ (n : ℕ). drop n text) before ∙ ap (drop (length front)) h ∙ drop-append_seam front rest

-- the rest is what comes after as many bytes as are before it
pub behind_it : (text : List ℕ) (n : Entry) → next_of text ≡ Some n → Begins text n.event (drop (length text - length n.rest) text)
behind_it text n h =
    let begins = begins_at text n h in
    let front = front_of text n.event n.rest begins in
    subst (λ (t : List ℕ). Begins text n.event t) (sym (behind_front text front.0 n.rest front.1)) begins

-- there is no other event there
pub it_alone : (text : List ℕ) (n : Entry) → next_of text ≡ Some n → (e : Event) (rest : List ℕ) → Begins text e rest → n ≡ entry e rest
it_alone text n h e rest begins = some_is n (entry e rest) (sym h ∙ again text e rest begins)

-- ---- more bytes after a line

line_more : (text behind more : List ℕ) → after 10 text ≡ Some behind → (before 10 (text ++ more) ≡ before 10 text) × (after 10 (text ++ more) ≡ Some (behind ++ more))
line_more text behind more h =
    let line = before 10 text in
    let whole : text ++ more ≡ line ++ led_by 10 (Some (behind ++ more)) = lined_more text line behind more (cut_is 10 text behind h) in
    let lacks = before_lacks 10 text in
    (ap (before 10) whole ∙ before_at 10 line (Some (behind ++ more)) lacks, ap (after 10) whole ∙ after_at 10 line (Some (behind ++ more)) lacks)

-- an event that is there with more bytes added is there without them, if it needs none of them
abbrev Stands : (List ℕ → Option Entry) → List ℕ → List ℕ → Type 0
Stands read behind more = (n : Entry) → read (behind ++ more) ≡ Some n → (m : Entry) × (read behind ≡ Some m)

timer_stands : (fields behind more : List ℕ) → Stands (timer_of fields) behind more
unfolding timer_of
timer_stands fields behind more n h =
    let a = some_then (number_of max_number (before 32 fields)) _ n h in
    let b = some_then (after 32 fields) _ n a.2 in
    let c = some_then (number_of max_number b.0) (λ salt. Some (entry (due_at a.0 salt) (behind ++ more))) n b.2 in
    (entry (due_at a.0 c.0) behind, timer_by fields (before 32 fields) b.0 behind a.0 c.0 refl b.1 a.1 c.1)

silent_stands : (fields behind more : List ℕ) → Stands (silent_of fields) behind more
unfolding silent_of
silent_stands fields behind more n h =
    let rest = some_then (after 32 fields) _ n h in
    let now = some_then (number_of max_number (before 32 fields)) _ n rest.2 in
    let salt = some_then (number_of max_number (before 32 rest.0)) _ n now.2 in
    let call_text = some_then (after 32 rest.0) _ n salt.2 in
    let call = some_then (number_of max_number call_text.0) (λ call. Some (entry (silent_at now.0 salt.0 call) (behind ++ more))) n call_text.2 in (
      entry (silent_at now.0 salt.0 call.0) behind,
      silent_by fields rest.0 (before 32 fields) (before 32 rest.0) call_text.0 behind now.0 salt.0 call.0 refl rest.1 refl call_text.1 now.1 salt.1 call.1,
    )

users_stands : (fields behind more : List ℕ) → Stands (users_of fields) behind more
unfolding users_of
users_stands fields behind more n h =
    let rest = some_then (after 32 fields) _ n h in
    let now = some_then (number_of max_number (before 32 fields)) _ n rest.2 in
    let salt = some_then (number_of max_number (before 32 rest.0)) _ n now.2 in
    let names = some_then (after 32 rest.0) (λ names. Some (entry (users_at now.0 salt.0 (names_of names)) (behind ++ more))) n salt.2 in (
      entry (users_at now.0 salt.0 (names_of names.0)) behind,
      users_by fields rest.0 (before 32 fields) (before 32 rest.0) names.0 behind now.0 salt.0 (names_of names.0) refl rest.1 refl names.1 now.1 salt.1 refl,
    )

-- the line feed after a datagram's bytes is there
bytes_stand : (x : Head) (behind more : List ℕ) → x.count < length behind → Stands (bytes_of x) behind more
unfolding bytes_of
bytes_stand x behind more long n h =
    let body = body_is x (behind ++ more) n h in
    let feed : get_or behind x.count 0 ≡ 10 =
    sym (get_or_append_left behind more 0 x.count long) ∙ ap (λ (t : List ℕ). get_or t x.count 0) body.2 ∙ ap (λ (i : ℕ). get_or (lined body.0 body.1) i 0) body.3 ∙ get_or-append_seam body.0 10 body.1 0 in
    (entry (datagram_at x.now x.salt x.source (take x.count behind)) (drop (x.count + 1) behind), rw (lt-ltb x.count (length behind) long, feed) refl)

longer : (m n : ℕ) → leb m n ≡ false → n < m
longer m n h = grind (arith, nat_tests)

datagram_stands : (fields behind more : List ℕ) → lacks_bytes (head_of fields) behind ≡ false → Stands (datagram_of fields) behind more
datagram_stands fields behind more enough n h =
    let x = some_then (head_of fields) (λ y. bytes_of y (behind ++ more)) n h in
    let long : leb (length behind) x.0.count ≡ false = sym (ap (λ (o : Option Head). lacks_bytes o behind) x.1) ∙ enough in
    let m = bytes_stand x.0 behind more (longer (length behind) x.0.count long) n x.2 in
    (m.0, datagram_by fields behind x.0 x.1 ∙ m.1)

entry_stands : (kind fields behind more : List ℕ) → lacks_datagram kind (Some fields) behind ≡ false → Stands (entry_of kind fields) behind more
entry_stands kind fields behind more enough n h = step (is_same kind (codes "T")) (is_same kind (codes "Q")) (is_same kind (codes "U")) (is_same kind (codes "D")) enough h where
  step : (p q r s : Bool) → s && lacks_bytes (head_of fields) behind ≡ false
      → cond p (timer_of fields (behind ++ more)) (cond q (silent_of fields (behind ++ more)) (cond r (users_of fields (behind ++ more)) (cond s (datagram_of fields (behind ++ more)) None))) ≡ Some n
      → (m : Entry) × (cond p (timer_of fields behind) (cond q (silent_of fields behind) (cond r (users_of fields behind) (cond s (datagram_of fields behind) None))) ≡ Some m)
  step true q r s enough h = timer_stands fields behind more n h
  step false true r s enough h = silent_stands fields behind more n h
  step false false true s enough h = users_stands fields behind more n h
  step false false false true enough h = datagram_stands fields behind more enough n h
  step false false false false enough h = absurd cc

next_stands : (text more : List ℕ) (n : Entry) → is_cut_off text ≡ false → next_of (text ++ more) ≡ Some n → (m : Entry) × (next_of text ≡ Some m)
unfolding next_of is_cut_off
next_stands text more n whole h = step (after 10 text) refl whole where
  step : (o : Option (List ℕ)) → after 10 text ≡ o → is_cut_behind (before 10 text) o ≡ false → (m : Entry) × (next_of text ≡ Some m)
  step None is whole = absurd cc
  step (Some behind) is whole =
      let line = before 10 text in
      let same = line_more text behind more is in
      let fields = some_then (after 32 (before 10 (text ++ more))) _ n h in
      let there = some_then (after 10 (text ++ more)) _ n fields.2 in
      let fields_is : after 32 line ≡ Some fields.0 = ap (after 32) (sym same.0) ∙ fields.1 in
      let behind_is : there.0 ≡ behind ++ more = some_is there.0 (behind ++ more) (sym there.1 ∙ same.1) in
      let read : entry_of (before 32 line) fields.0 (behind ++ more) ≡ Some n =
      ap (λ (l : List ℕ). entry_of (before 32 l) fields.0 (behind ++ more)) (sym same.0) ∙ ap (entry_of (before 32 (before 10 (text ++ more))) fields.0) (sym behind_is) ∙ there.2 in
      let enough = sym (ap (λ (o : Option (List ℕ)). lacks_datagram (before 32 line) o behind) fields_is) ∙ whole in
      let m = entry_stands (before 32 line) fields.0 behind more enough n read in
      (m.0, next_by text line (before 32 line) fields.0 behind refl is refl fields_is ∙ m.1)

-- ---- there is no event

pub none_begins : (text : List ℕ) → next_of text ≡ None → BeginsNone text
none_begins text none e rest begins = clash (sym (again text e rest begins) ∙ none) where
  clash : Some (entry e rest) ≡ None → ⊥
  clash h = cc

-- a text whose end is there is not empty
pub some_there : (text : List ℕ) → is_cut_off text ≡ false → text ≢ []
unfolding is_cut_off
some_there [] whole none = absurd cc
some_there (b ∷ bs) whole none = cc

-- and there never is one
pub never_begins : (text : List ℕ) → next_of text ≡ None → is_cut_off text ≡ false → NeverBegins text
never_begins text none whole more e rest begins =
    let m = next_stands text more (entry e rest) whole (again (text ++ more) e rest begins) in
    clash m.0 (sym m.1 ∙ none) where
      clash : (n : Entry) → Some n ≡ None → ⊥
      clash n h = cc

-- the bytes that a datagram lacks, and its line feed
front_is : (text fields behind : List ℕ) (x : Head) → text ≡ lined (spaced (codes "D") fields) behind → head_of fields ≡ Some x → length behind ≤ x.count → IsFront text
front_is text fields behind x spelled says few =
    let lacked : List ℕ = replicate (x.count - length behind) 0 in
    let more : List ℕ = lined lacked [] in
    let bytes : List ℕ = behind ++ lacked in
    let body : behind ++ more ≡ lined bytes [] = sym (append_assoc behind lacked (10 ∷ [])) in
    let long : x.count ≡ length bytes = omega (arith, few, length-append behind lacked, length-replicate {A = ℕ} (x.count - length behind) 0) in
    let e : Event = datagram_at x.now x.salt x.source bytes in
    (more, e, datagram_with (text ++ more) fields (behind ++ more) x bytes [] (entry e []) (lined_more text (spaced (codes "D") fields) behind more spelled) (head_says fields x says) body long refl)

-- more is needed
pub needs_more : (text : List ℕ) → next_of text ≡ None → is_cut_off text ≡ true → NeedsMore text
unfolding is_cut_off
needs_more text none cut = (none_begins text none, step (after 10 text) refl cut) where
  bytes : (fields behind : List ℕ) → text ≡ lined (spaced (codes "D") fields) behind → (o : Option Head) → head_of fields ≡ o → lacks_bytes o behind ≡ true → IsFront text
  bytes fields behind spelled None is lacks = absurd cc
  bytes fields behind spelled (Some x) is lacks = front_is text fields behind x spelled is (leb-true (length behind) x.count lacks)

  datagram : (behind : List ℕ) → after 10 text ≡ Some behind → (o : Option (List ℕ)) → after 32 (before 10 text) ≡ o → lacks_datagram (before 32 (before 10 text)) o behind ≡ true → IsFront text
  datagram behind is None there lacks = absurd cc
  datagram behind is (Some fields) there lacks = kind (is_same (before 32 (before 10 text)) (codes "D")) (bytes_decides (before 32 (before 10 text)) (codes "D")).0 lacks where
    kind : (s : Bool) → (s ≡ true → before 32 (before 10 text) ≡ codes "D") → s && lacks_bytes (head_of fields) behind ≡ true → IsFront text
    kind false same lacks = absurd cc
    kind true same lacks =
        bytes fields behind (cut_is 10 text behind is ∙ ap (λ (t : List ℕ). lined t behind) (spaced_is (before 10 text) fields there ∙ ap (λ (k : List ℕ). spaced k fields) (same refl))) (head_of fields) refl lacks

  step : (o : Option (List ℕ)) → after 10 text ≡ o → is_cut_behind (before 10 text) o ≡ true → (after 10 text ≡ None) ⊎ IsFront text
  step None is cut = inl is
  step (Some behind) is cut = inr (datagram behind is (after 32 (before 10 text)) refl cut)

-- ---- events, and more bytes after them

pub leads_more : (text : List ℕ) (es : List Event) (rest more : List ℕ) → LeadsTo text es rest → LeadsTo (text ++ more) es (rest ++ more)
leads_more text [] rest more h = ap (λ (t : List ℕ). t ++ more) h
leads_more text (e ∷ es) rest more (behind, begins, leads) = (behind ++ more, begins_more text e behind more begins, leads_more behind es rest more leads)
