-- What a start line is cut into is what it is made of.
use Rattle.std.proofs.Common.{◌≡◌, ℕ, Bool, true, false, not, ◌&&◌, cond, eqb, List, [], ◌∷◌, ◌++◌, length, Option, Some, None, Result, Ok, Err, refl, sym, ap, ◌∙◌}
use Rattle.std.specs.Prelude.{codes}
use Rattle.std.specs.Char.{is_ascii_digit}
use Rattle.std.specs.Str.{str_eq_ignore_ascii_case}
use Rattle.std.specs.List.{list_all}
use Rattle.std.proofs.lemmas.Bool.{and_parts, and_from}
use Rattle.text.specs.Class.{is_run_of, is_token_byte}
use Rattle.text.specs.Cut.{before, after, led_by}
use Rattle.text.specs.Number.{number_upto}
use Rattle.text.proofs.CutLaws.{Lacks, Lacks-from_class, joined, before_at, after_at, after_none}
use Rattle.sip_uri.specs.declared.error.UriError.{UriError}
use Rattle.sip_uri.specs.declared.uri.Uri.{Uri}
use Rattle.sip_uri.specs.Reading.{uri_of}
use Rattle.sip_uri.proofs.GrammarLaws.{is_found, is_read}
use Rattle.sip_message.specs.declared.error.MessageError.{MessageError}
use Rattle.sip_message.specs.declared.error.MessageError.TheVariants.{OutOfMemory, StartLine, Version, HeaderLine, Missing, Unreadable, Short, TooLong}
use Rattle.sip_message.specs.declared.start.Start.{Start}
use Rattle.sip_message.specs.declared.start.Start.TheVariants.{Asking, Answering}
use Rattle.sip_message.specs.Grammar.{HasForm, IsStartLine}
use Rattle.sip_message.specs.Start.{has_no_space, is_part, is_version, begins_sip, from_100, status_read, with_status, status_at, with_uri, request_at, start_at, behind_second, behind_first, start_of}

abbrev by_version : Start → List ℕ → Result Start MessageError
by_version start version = cond (is_version version) (Ok start) (Err Version)

space_lacks : (text : List ℕ) → has_no_space text ≡ true → Lacks 32 text
space_lacks text h = Lacks-from_class (λ b. not (eqb b 32)) 32 refl text h

-- ---- a line of the form is read, except for its version

-- a line that is cut at its first two spaces
record Cut (text first second third : List ℕ) : Type 0 where
  rest : List ℕ
  at_first : before 32 text ≡ first
  behind_first : after 32 text ≡ Some rest
  at_second : before 32 rest ≡ second
  behind_second : after 32 rest ≡ Some third

cut_again : (text first second third : List ℕ) → text ≡ first ++ 32 ∷ (second ++ 32 ∷ third) → Lacks 32 first → Lacks 32 second → Cut text first second third
cut_again text first second third whole f s =
    let behind : List ℕ = second ++ 32 ∷ third in
    record {
      rest = behind;
      at_first = ap (before 32) whole ∙ before_at 32 first (Some behind) f;
      behind_first = ap (after 32) whole ∙ after_at 32 first (Some behind) f;
      at_second = before_at 32 second (Some third) s;
      behind_second = after_at 32 second (Some third) s;
    }

by_cut : (text first second third : List ℕ) → Cut text first second third → start_of text ≡ start_at first second third
unfolding start_of
by_cut text first second third cut = rw (cut.at_first, cut.behind_first, cut.at_second, cut.behind_second) refl

and_false : (b : Bool) → b && false ≡ false
and_false true = refl
and_false false = refl

-- a token has no slash
no_slash : (text : List ℕ) → list_all is_token_byte text ≡ true → begins_sip text ≡ false
no_slash text h = rw (after_none 47 text (Lacks-from_class is_token_byte 47 refl text h)) (and_false (str_eq_ignore_ascii_case (before 47 text) (codes "SIP")))

-- the digits of a number have no space
digits_lack : (text : List ℕ) (n : ℕ) → status_read text ≡ Some n → Lacks 32 text
unfolding status_read
digits_lack text n h = step (eqb (length text) 3 && is_run_of is_ascii_digit text) refl h where
  some_none : None ≡ Some n → ⊥
  some_none e = cc

  step : (b : Bool) → (eqb (length text) 3 && is_run_of is_ascii_digit text) ≡ b → cond b (from_100 (number_upto 699 text)) None ≡ Some n → Lacks 32 text
  step true e k =
      let run = and_parts (eqb (length text) 3) (is_run_of is_ascii_digit text) e in
      let digits = and_parts (not (eqb (length text) 0)) (list_all is_ascii_digit text) run.1 in
      Lacks-from_class is_ascii_digit 32 refl text digits.1
  step false e k = absurd (some_none k)

pub form_again : (text : List ℕ) (start : Start) (version : List ℕ) → HasForm text start version → start_of text ≡ by_version start version
form_again text (Asking line) version h =
    let token = and_parts (not (eqb (length line.method) 0)) (list_all is_token_byte line.method) h.token in
    let lacks : Lacks 32 line.method = Lacks-from_class is_token_byte 32 refl line.method token.1 in
    by_cut text line.method h.uri_part version (cut_again text line.method h.uri_part version h.whole lacks (space_lacks h.uri_part h.unbroken))
    ∙ rw (no_slash line.method token.1, h.token, h.some_version, is_read h.uri_part line.uri h.reads) refl
form_again text (Answering line) version h =
    by_cut text version h.digits line.reason (cut_again text version h.digits line.reason h.whole (space_lacks version h.unbroken) (digits_lack h.digits line.status h.reads))
    ∙ rw (h.begins, h.reads) refl

-- a start line is read
pub line_again : (text : List ℕ) (start : Start) → IsStartLine text start → start_of text ≡ Ok start
line_again text start h = form_again text start h.version h.form ∙ rw h.sip_2 refl

-- ---- a line that is read is of the form

pub record OtherVersion (text : List ℕ) : Type 0 where
  pub start : Start
  pub version : List ℕ
  pub form : HasForm text start version
  pub other : is_version version ≡ false

-- what a start line is, by what reading it gives
abbrev pub StartIs : List ℕ → Result Start MessageError → Type 0
StartIs text (Ok start) = IsStartLine text start
StartIs text (Err OutOfMemory) = ⊥
StartIs text (Err StartLine) = (start : Start) (version : List ℕ) → HasForm text start version → ⊥
StartIs text (Err Version) = OtherVersion text
StartIs text (Err HeaderLine) = ⊥
StartIs text (Err (Missing name)) = ⊥
StartIs text (Err (Unreadable name)) = ⊥
StartIs text (Err Short) = ⊥
StartIs text (Err TooLong) = ⊥

abbrev ok : Start → Result Start MessageError
ok s = Ok s

abbrev failed : MessageError → Result Start MessageError
failed e = Err e

no_form : (text : List ℕ) → start_of text ≡ Err StartLine → (start : Start) (version : List ℕ) → HasForm text start version → ⊥
no_form text fault start version form = step (is_version version) (sym fault ∙ form_again text start version form) where
  step : (b : Bool) → failed StartLine ≡ cond b (ok start) (failed Version) → ⊥
  step true e = cc
  step false e = cc

no_space_before : (text : List ℕ) → has_no_space (before 32 text) ≡ true
no_space_before [] = refl
no_space_before (b ∷ bs) = step (eqb b 32) refl (no_space_before bs) where
  step : (e : Bool) → eqb b 32 ≡ e → has_no_space (before 32 bs) ≡ true → has_no_space (cond e [] (b ∷ before 32 bs)) ≡ true
  step true h more = refl
  step false h more = and_from (not (eqb b 32)) (has_no_space (before 32 bs)) (ap not h) more

-- a form of this version is a start line, or has another version
by_test : (text : List ℕ) (start : Start) (version : List ℕ) → HasForm text start version → (b : Bool) → is_version version ≡ b → StartIs text (cond b (ok start) (failed Version))
by_test text start version form true e = record { version = version; form = form; sip_2 = e }
by_test text start version form false e = record { start = start; version = version; form = form; other = e }

-- parts of a request line that were cut from a line are its parts
request_parts : (text method part version : List ℕ) → text ≡ method ++ 32 ∷ (part ++ 32 ∷ version) → has_no_space part ≡ true → start_of text ≡ request_at method part version → StartIs text (request_at method part version)
request_parts text method part version whole unbroken gives = step (is_run_of is_token_byte method && is_part version) refl (λ e. gives ∙ e) where
  of_uri : (r : Result Uri UriError) → (is_run_of is_token_byte method && is_part version) ≡ true → uri_of part ≡ r → start_of text ≡ with_uri method version r → StartIs text (with_uri method version r)
  of_uri (Ok uri) tested reads k =
      let tests = and_parts (is_run_of is_token_byte method) (is_part version) tested in
      let form : HasForm text (Asking (record { method = method; uri = uri })) version =
      record { uri_part = part; whole = whole; token = tests.0; unbroken = unbroken; reads = is_found part uri reads; some_version = tests.1 } in
      by_test text (Asking (record { method = method; uri = uri })) version form (is_version version) refl
  of_uri (Err e) tested reads k = no_form text k

  step : (b : Bool) → (is_run_of is_token_byte method && is_part version) ≡ b
      → (request_at method part version ≡ cond b (with_uri method version (uri_of part)) (failed StartLine) → start_of text ≡ cond b (with_uri method version (uri_of part)) (failed StartLine))
      → StartIs text (cond b (with_uri method version (uri_of part)) (failed StartLine))
  step true tested k = of_uri (uri_of part) tested refl (k (rw tested refl))
  step false tested k = no_form text (k (rw tested refl))

-- and so are those of a status line
status_parts : (text version digits reason : List ℕ) → text ≡ version ++ 32 ∷ (digits ++ 32 ∷ reason) → begins_sip version ≡ true → has_no_space version ≡ true → start_of text ≡ status_at version digits reason
    → StartIs text (status_at version digits reason)
status_parts text version digits reason whole begins unbroken gives = step (status_read digits) refl gives where
  step : (o : Option ℕ) → status_read digits ≡ o → start_of text ≡ with_status version reason o → StartIs text (with_status version reason o)
  step None e k = no_form text k
  step (Some status) e k =
      let form : HasForm text (Answering (record { status = status; reason = reason })) version = record { digits = digits; whole = whole; begins = begins; unbroken = unbroken; reads = e } in
      by_test text (Answering (record { status = status; reason = reason })) version form (is_version version) refl

at_parts : (text first second third : List ℕ) → text ≡ first ++ 32 ∷ (second ++ 32 ∷ third) → has_no_space first ≡ true → has_no_space second ≡ true → start_of text ≡ start_at first second third
    → StartIs text (start_at first second third)
at_parts text first second third whole f s gives = step (begins_sip first) refl gives where
  step : (b : Bool) → begins_sip first ≡ b → start_of text ≡ cond b (status_at first second third) (request_at first second third) → StartIs text (cond b (status_at first second third) (request_at first second third))
  step true e k = status_parts text first second third whole e f k
  step false e k = request_parts text first second third whole s k

pub start_is : (text : List ℕ) → StartIs text (start_of text)
unfolding start_of
start_is text = first (after 32 text) refl where
  cut_at : (t rest : List ℕ) → after 32 t ≡ Some rest → t ≡ before 32 t ++ 32 ∷ rest
  cut_at t rest e = sym (joined 32 t) ∙ ap (λ (o : Option (List ℕ)). before 32 t ++ led_by 32 o) e

  second : (rest : List ℕ) (o : Option (List ℕ)) → after 32 text ≡ Some rest → after 32 rest ≡ o → StartIs text (behind_second (before 32 text) (before 32 rest) o)
  second rest None e k = no_form text (rw (e, k) refl)
  second rest (Some third) e k =
      at_parts text (before 32 text) (before 32 rest) third (cut_at text rest e ∙ ap (λ (t : List ℕ). before 32 text ++ 32 ∷ t) (cut_at rest third k)) (no_space_before text) (no_space_before rest) (rw (e, k) refl)

  first : (o : Option (List ℕ)) → after 32 text ≡ o → StartIs text (behind_first (before 32 text) o)
  first None e = no_form text (rw e refl)
  first (Some rest) e = second rest (after 32 rest) e refl
