-- What a run of a script writes, event by event, and what its faults leave.
use Rattle.std.proofs.Common.{◌≡◌, ◌≢◌, ◌∙◌, ℕ, Bool, true, false, ◌+◌, ◌<◌, List, [], ◌∷◌, ◌++◌, length, take, drop, fold, Option, Some, None, Result, Ok, Err, OnOk, IfErr, IsErrAnd, inl, inr, refl, sym, ap, ap₂, subst, append_assoc, arith}
use Rattle.std.specs.List.{flat_map, slice_index_or}
use Rattle.std.proofs.lemmas.List.{append-nil, take-append-drop}
use Rattle.std.proofs.lemmas.List.Concat.{flat_map-append}
use Rattle.std.specs.Io.KnownBytes.{Appends, Keeps}
use Rattle.std.specs.declared.alloc.AllocError.{AllocError}
use Rattle.configuration.specs.declared.config.Config.{Config}
use Rattle.configuration.specs.declared.error.ConfigError.{ConfigError}
use Rattle.configuration.specs.declared.error.ConfigError.TheVariants as refusals
use Rattle.configuration.specs.Example.{example}
use Rattle.configuration.specs.Rules.{first_broken, has_address, has_domain, has_lifetime, has_length_limit, has_longest_lifetime, has_relay_ports, has_share, has_silence_limit, has_users, is_user_list}
use Rattle.sip_uri.specs.Hosts.{ip4_of, is_host, is_hostname}
use Rattle.events.specs.declared.event.Event.{Event}
use Rattle.events.specs.declared.sent.Sent.{Sent}
use Rattle.scripts.specs.Writing.{sent_text}
use Rattle.event_rows.specs.Rows.{after, row}
use Rattle.event_rows.specs.State.{Contents, RefusesConfig}
use Rattle.server.specs.declared.fault.Fault.{Fault}
use Rattle.server.specs.declared.fault.Fault.TheVariants.{Input, Script, Config as Wrong, Output, Socket, OutOfMemory}
use Rattle.server.specs.Faults.{config_fault}
use Rattle.server.specs.Leaves.{Leaves, IsOfConfig, IsOfOffice, IsOfReading, IsOfScript}
use Rattle.server.specs.Replay.{after_all, run_text, sends_of, text_of, Day, EventLeaves, IsNote, IsNotedRun, IsOffice, IsRun, IsScript, Replays, ReplayLeaves, RunLeaves, TellsIf, WritesDay, WritesEvent, WritesRun}
use Rattle.note_lines.specs.Lines.{IsSaid, Tells}
use Rattle.events.specs.declared.event.What.{What}
use Rattle.note_lines.specs.declared.ledger.Entry.{Entry}
use Rattle.note_lines.specs.Lines.{said}
use Rattle.note_lines.specs.NoteLines.{Noted, note_line}
use Rattle.server.specs.State.{state_text}
use Rattle.server.specs.Told.{note_text, noted_of}
use Rattle.server.proofs.InputLaws.{appends_kept, appends_more, appends_nothing, keeps_same}

-- ---- offices

-- the example office breaks no rule
pub example_keeps : first_broken example ≡ None
unfolding first_broken has_relay_ports has_address has_users is_user_list has_lifetime has_longest_lifetime has_domain has_silence_limit has_length_limit has_share is_host ip4_of is_hostname
example_keeps = refl

-- an office that breaks no rule is refused only because memory ran out
pub only_memory : (c : Config) (e : ConfigError) → first_broken c ≡ None → RefusesConfig c e → config_fault e ≡ OutOfMemory
only_memory c refusals.OutOfMemory kept h = refl
only_memory c refusals.RelayPorts kept h = let bad = sym kept ∙ h in cc
only_memory c refusals.Address kept h = let bad = sym kept ∙ h in cc
only_memory c refusals.Users kept h = let bad = sym kept ∙ h in cc
only_memory c refusals.MinExpires kept h = let bad = sym kept ∙ h in cc
only_memory c refusals.Domain kept h = let bad = sym kept ∙ h in cc
only_memory c refusals.CallDuration kept h = let bad = sym kept ∙ h in cc
only_memory c refusals.SourceShare kept h = let bad = sym kept ∙ h in cc
only_memory c refusals.File kept h = absurd h

pub of_office : (file : Option (List ℕ)) (e : Fault) → IsOfConfig file e → IsOfOffice (Some file) e
of_office file Input h = absurd h
of_office file (Script at) h = absurd h
of_office file (Wrong fault) h = (there, h) where
  there : Some file ≢ None
  there none = cc
of_office file Output h = absurd h
of_office file Socket h = absurd h
of_office file OutOfMemory h = tt

-- ---- a run, and one event more

pub text_more : (agent : Contents) (es : List Event) (e : Event) → run_text agent (es ++ e ∷ []) ≡ run_text agent es ++ text_of (row (after_all agent es) e).plan.sends
text_more agent [] e = ap text_of (append-nil (row agent e).plan.sends)
text_more agent (x ∷ es) e =
    flat_map-append sent_text (row agent x).plan.sends (sends_of (after agent x) (es ++ e ∷ []))
    ∙ ap (λ (t : List ℕ). text_of (row agent x).plan.sends ++ t) (text_more (after agent x) es e)
    ∙ sym (append_assoc (text_of (row agent x).plan.sends) (run_text (after agent x) es) (text_of (row (after_all (after agent x) es) e).plan.sends))
    ∙ ap (λ (t : List ℕ). t ++ text_of (row (after_all (after agent x) es) e).plan.sends) (sym (flat_map-append sent_text (row agent x).plan.sends (sends_of (after agent x) es)))

pub after_more : (agent : Contents) (es : List Event) (e : Event) → after_all agent (es ++ e ∷ []) ≡ after (after_all agent es) e
after_more agent [] e = refl
after_more agent (x ∷ es) e = after_more (after agent x) es e

-- ---- what is logged

pub not_noted : (notes : Bool) (text : List ℕ) (ledger : List Entry) (agent : Contents) (what : What) → notes ≡ false
    → text ≡ text ++ note_text notes ledger agent what
not_noted true text ledger agent what h = absurd cc
not_noted false text ledger agent what h = sym (append-nil text)

pub noted_so : (r : Result (Unit {0}) AllocError) (notes : Bool) (before behind : List ℕ) (ledger : List Entry) (agent : Contents) (what : What) (e : Noted)
    → notes ≡ true → e ≡ noted_of agent what → OnOk r (behind ≡ before ++ said (note_line ledger e))
    → OnOk r (behind ≡ before ++ note_text notes ledger agent what)
noted_so (Err e) notes before behind ledger agent what noted h k is = tt
noted_so (Ok done) true before behind ledger agent what noted h k is = is ∙ ap (λ n. before ++ said (note_line ledger n)) k
noted_so (Ok done) false before behind ledger agent what noted h k is = absurd cc

pub not_told : (notes : Bool) (text : List ℕ) → notes ≡ false → TellsIf notes text text
not_told true text h = absurd cc
not_told false text h = ([], refl, sym (append-nil text))

pub told : (r : Result (Unit {0}) AllocError) (notes : Bool) (before behind : List ℕ) → notes ≡ true → OnOk r (Tells before behind) → OnOk r (TellsIf notes before behind)
told (Err e) notes before behind h k = tt
told (Ok done) true before behind h k = k
told (Ok done) false before behind h k = absurd cc

pub event_told : (r : Result (Unit {0}) Fault) (notes : Bool) (agent : Contents) (e : Event) (held held_after : Option (List ℕ)) (before text : List ℕ)
    → before ≡ text_of (row agent e).plan.sends → TellsIf notes before text → OnOk r (Appends held held_after text) → OnOk r (WritesEvent notes agent e held held_after)
event_told (Err x) notes agent e held held_after before text sends tells h = tt
event_told (Ok done) notes agent e held held_after before text sends (note, is, same) h =
    (note, is, subst (λ (t : List ℕ). Appends held held_after t) (same ∙ ap (λ (t : List ℕ). t ++ note) sends) h)

-- ---- a run with what is logged, and one event more

run_begins : (notes : Bool) (agent : Contents) → IsRun notes agent [] []
run_begins true agent = refl
run_begins false agent = refl

noted_more : (agent : Contents) (es : List Event) (e : Event) (text note : List ℕ) → IsNotedRun agent es text → IsSaid note
    → IsNotedRun agent (es ++ e ∷ []) (text ++ (text_of (row (after_all agent es) e).plan.sends ++ note))
noted_more agent [] e text note run said =
    (note, [], said, refl, ap (λ (t : List ℕ). t ++ (text_of (row agent e).plan.sends ++ note)) run ∙ sym (append-nil (text_of (row agent e).plan.sends ++ note)))
noted_more agent (x ∷ es) e text note (first, rest, first_said, run, is) said =
    let more = text_of (row (after_all (after agent x) es) e).plan.sends ++ note in (
      first,
      rest ++ more,
      first_said,
      noted_more (after agent x) es e rest note run said,
      ap (λ (t : List ℕ). t ++ more) is ∙ append_assoc (text_of (row agent x).plan.sends ++ first) rest more,
    )

run_more : (notes : Bool) (agent : Contents) (es : List Event) (e : Event) (text note : List ℕ) → IsRun notes agent es text → IsNote notes note
    → IsRun notes agent (es ++ e ∷ []) (text ++ (text_of (row (after_all agent es) e).plan.sends ++ note))
run_more true agent es e text note run said = noted_more agent es e text note run said
run_more false agent es e text note run said =
    let sends = text_of (row (after_all agent es) e).plan.sends in
    ap₂ (λ (t n : List ℕ). t ++ (sends ++ n)) run said ∙ ap (λ (t : List ℕ). run_text agent es ++ t) (append-nil sends) ∙ sym (text_more agent es e)

pub writes_nothing : (notes : Bool) (agent : Contents) (held : Option (List ℕ)) → WritesRun notes agent [] held held
writes_nothing notes agent held = ([], run_begins notes agent, appends_nothing held)

pub writes_more : (notes : Bool) (agent here : Contents) (es : List Event) (e : Event) (held now held_after : Option (List ℕ)) → here ≡ after_all agent es
    → WritesRun notes agent es held now → WritesEvent notes here e now held_after → WritesRun notes agent (es ++ e ∷ []) held held_after
writes_more notes agent here es e held now held_after is (text, run, h) (note, said, k) =
    let sends = text_of (row (after_all agent es) e).plan.sends in
    let there = subst (λ (a : Contents). Appends now held_after (text_of (row a e).plan.sends ++ note)) is k in
    (text ++ (sends ++ note), run_more notes agent es e text note run said, appends_more held now held_after text (sends ++ note) h there)

-- what one event that was not taken leaves of the run
stopped : (notes : Bool) (agent : Contents) (done rest : List Event) (e : Fault) (held now held_after : Option (List ℕ))
    → WritesRun notes agent done held now → EventLeaves e now held_after → RunLeaves notes agent (done ++ rest) e held held_after
stopped notes agent done rest Input held now held_after h k = absurd k
stopped notes agent done rest (Script at) held now held_after h k = absurd k
stopped notes agent done rest (Wrong fault) held now held_after h k = absurd k
stopped notes agent done rest Output held now held_after h k = tt
stopped notes agent done rest Socket held now held_after h k = absurd k
stopped notes agent done rest OutOfMemory held now held_after (text, run, h) k = (done, rest, refl, (text, run, appends_kept held now held_after _ h k))

pub stopped_at : (r : Result (Unit {0}) Fault) (notes : Bool) (agent : Contents) (events : List Event) (i : ℕ) (e : Fault) (held now held_after : Option (List ℕ)) → IsErrAnd r (λ y. y ≡ e)
    → WritesRun notes agent (take i events) held now → EventLeaves e now held_after → IfErr r (λ x. RunLeaves notes agent events x held held_after)
stopped_at (Ok done) notes agent events i e held now held_after is h k = absurd is
stopped_at (Err x) notes agent events i e held now held_after is h k =
    subst (λ (es : List Event). RunLeaves notes agent es x held held_after) (take-append-drop i events)
    (stopped notes agent (take i events) (drop i events) x held now held_after h (subst (λ (y : Fault). EventLeaves y now held_after) (sym is) k))

-- ---- the whole

-- after all that was sent comes the state at the end
pub day_told : (r : Result (Unit {0}) Fault) (notes : Bool) (agent at_end : Contents) (events : List Event) (held now held_after : Option (List ℕ))
    → at_end ≡ after_all agent events → WritesRun notes agent events held now → OnOk r (Appends now held_after (state_text at_end))
    → OnOk r (WritesDay notes agent events held held_after)
day_told (Ok done) notes agent at_end events held now held_after is (text, run, h) k = (
  text,
  run,
  appends_more held now held_after text (state_text (after_all agent events)) h
      (subst (λ (s : Contents). Appends now held_after (state_text s)) is k),
)
day_told (Err e) notes agent at_end events held now held_after is h k = tt

day_stopped : (notes : Bool) (agent : Contents) (events : List Event) (e : Fault) (held now held_after : Option (List ℕ))
    → WritesRun notes agent events held now → EventLeaves e now held_after → RunLeaves notes agent events e held held_after
day_stopped notes agent events e held now held_after h k =
    subst (λ (es : List Event). RunLeaves notes agent es e held held_after) (append-nil events) (stopped notes agent events [] e held now held_after h k)

-- the state at the end could not be written
pub day_not_told : (r : Result (Unit {0}) Fault) (notes : Bool) (agent : Contents) (events : List Event) (held now held_after : Option (List ℕ))
    → WritesRun notes agent events held now → IfErr r (λ e. EventLeaves e now held_after)
    → IfErr r (λ e. RunLeaves notes agent events e held held_after)
day_not_told (Ok done) notes agent events held now held_after h k = tt
day_not_told (Err e) notes agent events held now held_after h k = day_stopped notes agent events e held now held_after h k

pub replayed : (r : Result (Unit {0}) Fault) (notes : Bool) (config : Option (Option (List ℕ))) (script held held_after : Option (List ℕ)) (day : Day config script)
    → OnOk r (WritesDay notes day.agent day.events held held_after) → OnOk r (Replays notes config script held held_after)
replayed (Ok done) notes config script held held_after day h = (day, h)
replayed (Err e) notes config script held held_after day h = tt

-- of the same files
pub replayed_as : (r : Result (Unit {0}) Fault) (notes : Bool) (config files : Option (Option (List ℕ))) (script file held held_after : Option (List ℕ)) → config ≡ files → script ≡ file
    → OnOk r (Replays notes config script held held_after) → OnOk r (Replays notes files file held held_after)
replayed_as r notes config files script file held held_after config_is script_is h =
    subst (λ (o : Option (Option (List ℕ))). OnOk r (Replays notes o file held held_after)) config_is
    (subst (λ (s : Option (List ℕ)). OnOk r (Replays notes config s held held_after)) script_is h)

run_leaves : (notes : Bool) (config : Option (Option (List ℕ))) (script held held_after : Option (List ℕ)) (day : Day config script) (e : Fault)
    → RunLeaves notes day.agent day.events e held held_after → ReplayLeaves notes config script e held held_after
run_leaves notes config script held held_after day Input h = absurd h
run_leaves notes config script held held_after day (Script at) h = absurd h
run_leaves notes config script held held_after day (Wrong fault) h = absurd h
run_leaves notes config script held held_after day Output h = day
run_leaves notes config script held held_after day Socket h = absurd h
run_leaves notes config script held held_after day OutOfMemory h = inr (day, h)

pub not_replayed : (r : Result (Unit {0}) Fault) (notes : Bool) (config : Option (Option (List ℕ))) (script held held_after : Option (List ℕ)) (day : Day config script)
    → IfErr r (λ e. RunLeaves notes day.agent day.events e held held_after) → IfErr r (λ e. ReplayLeaves notes config script e held held_after)
not_replayed (Ok done) notes config script held held_after day h = tt
not_replayed (Err e) notes config script held held_after day h = run_leaves notes config script held held_after day e h

-- a fault of the office, before anything was written
pub office_leaves : (notes : Bool) (config : Option (Option (List ℕ))) (script held : Option (List ℕ)) (e : Fault) → IsOfOffice config e → ReplayLeaves notes config script e held held
office_leaves notes config script held Input h = absurd h
office_leaves notes config script held (Script at) h = absurd h
office_leaves notes config script held (Wrong fault) h = (h.0, h.1, keeps_same held)
office_leaves notes config script held Output h = absurd h
office_leaves notes config script held Socket h = absurd h
office_leaves notes config script held OutOfMemory h = inl (keeps_same held)

-- a fault of the script, after an office was read
pub script_leaves : (notes : Bool) (config : Option (Option (List ℕ))) (script held : Option (List ℕ)) (office : Config) (e : Fault)
    → IsOffice config office → IsOfScript script e → ReplayLeaves notes config script e held held
script_leaves notes config script held office Input is h = (office, is, keeps_same held)
script_leaves notes config script held office (Script at) is h = (office, is, h, keeps_same held)
script_leaves notes config script held office (Wrong fault) is h = absurd h
script_leaves notes config script held office Output is h = absurd h
script_leaves notes config script held office Socket is h = absurd h
script_leaves notes config script held office OutOfMemory is h = inl (keeps_same held)

pub memory_leaves : (notes : Bool) (config : Option (Option (List ℕ))) (script held : Option (List ℕ)) (e : Fault) → e ≡ OutOfMemory → ReplayLeaves notes config script e held held
memory_leaves notes config script held e is = subst (λ (x : Fault). ReplayLeaves notes config script x held held) (sym is) (inl (keeps_same held))

-- of `once`
reading_leaves : (held : Option (List ℕ)) (e : Fault) → IsOfReading e → Leaves e held held
reading_leaves held Input h = keeps_same held
reading_leaves held (Script at) h = absurd h
reading_leaves held (Wrong fault) h = absurd h
reading_leaves held Output h = absurd h
reading_leaves held Socket h = absurd h
reading_leaves held OutOfMemory h = keeps_same held

pub unread_leaves : {T : Type 0} (r : Result T Fault) (held : Option (List ℕ)) (e : Fault) → IsErrAnd r (λ y. y ≡ e) → IsOfReading e → IfErr r (λ x. Leaves x held held)
unread_leaves (Ok x) held e is h = absurd is
unread_leaves (Err x) held e is h = reading_leaves held x (subst IsOfReading (sym is) h)
