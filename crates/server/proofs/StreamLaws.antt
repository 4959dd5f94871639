-- A script that comes bit by bit: what is read of it, what is written, and what its faults leave.
use Rattle.std.proofs.Common.{◌≡◌, ◌≢◌, ◌∙◌, ◌++◌, ◌∷◌, ◌+◌, ◌≤◌, ℕ, Bool, [], List, length, drop, Option, Some, None, Result, Ok, Err, OnOk, IfErr, IsErrAnd, refl, sym, ap, subst, inl, inr, arith}
use Rattle.std.proofs.lemmas.List.{append-nil, length-append, length-drop}
use Rattle.std.specs.Io.KnownBytes.{Appends, Consumes, IsAtEnd}
use Rattle.events.specs.declared.event.Event.{Event}
use Rattle.scripts.specs.declared.error.ScriptError.{ScriptError}
use Rattle.scripts.specs.declared.error.ScriptError.TheVariants as scripts
use Rattle.scripts.specs.Grammar.{Begins, BeginsNone, IsMalformedAt, LeadsTo, NeedsMore, ReadsScript, RefusesFirst}
use Rattle.scripts.proofs.MoreLaws.{leads_more}
use Rattle.scripts.proofs.PlaceLaws.{one_more, whole_read}
use Rattle.event_rows.specs.Rows.{after}
use Rattle.event_rows.specs.State.{Contents}
use Rattle.server.specs.declared.fault.Fault.{Fault}
use Rattle.server.specs.declared.fault.Fault.TheVariants.{Input, Script, Config as Wrong, Output, Socket, OutOfMemory}
use Rattle.server.specs.Faults.{event_fault}
use Rattle.server.specs.Leaves.{IsOfOffice, IsOfReading}
use Rattle.server.specs.Texts.{HasText}
use Rattle.server.specs.Replay.{after_all, Day, EventLeaves, IsScript, WritesEvent, WritesRun}
use Rattle.server.specs.State.{state_text}
use Rattle.server.specs.Stream.{FollowLeaves, Follows, FollowsDay, FollowsRun, Front, Grows, InputLeaves, IsLeftOver, IsOfEvent, Start, WritesFront}
use Rattle.server.proofs.InputLaws.{appends_kept, consumes_more, has_text, keeps_same}
use Rattle.server.proofs.ReplayLaws.{after_more, day_told, writes_more, writes_nothing}

-- the event of a text
pub of_event : (text : List ℕ) (at : ℕ) (e : ScriptError) → RefusesFirst text e → IsOfEvent text at (event_fault e at)
of_event text at scripts.Malformed h = (refl, h.0, h.1)
of_event text at scripts.OutOfMemory h = tt

-- ---- an input, as far as it was read

-- what was taken, the events in it, and the bytes after them; the agent is the one after these events, and their text
-- is written
pub record Followed (notes : Bool) (agent here : Contents) (left now held wrote : Option (List ℕ)) (tail : List ℕ) (at : ℕ) : Type 0 where
  pub text : List ℕ
  pub events : List Event
  pub consumed : Consumes left now text
  pub leads : LeadsTo text events tail
  pub place : at + length tail ≡ length text
  pub agent_is : here ≡ after_all agent events
  pub written : WritesRun notes agent events held wrote

consumes_none : (left : Option (List ℕ)) → Consumes left left []
consumes_none None = tt
consumes_none (Some xs) = refl

pub nothing_followed : (notes : Bool) (agent : Contents) (left held : Option (List ℕ)) (tail : List ℕ) (at : ℕ) → tail ≡ [] → at ≡ 0 → Followed notes agent agent left left held held tail at
nothing_followed notes agent left held tail at none zero = record {
  text = [];
  events = [];
  consumed = consumes_none left;
  leads = sym none;
  place = omega (arith, zero, ap length none);
  agent_is = refl;
  written = writes_nothing notes agent held;
}

-- one event more
pub event_followed : (notes : Bool) (agent here here_after : Contents) (left now held wrote wrote_after : Option (List ℕ)) (tail tail_after : List ℕ) (at at_after count : ℕ) (e : Event)
    → Followed notes agent here left now held wrote tail at → Begins tail e (drop count tail) → count ≤ length tail
    → here_after ≡ after here e → WritesEvent notes here e wrote wrote_after → tail_after ≡ drop count tail → at_after ≡ at + count
    → Followed notes agent here_after left now held wrote_after tail_after at_after
event_followed notes agent here here_after left now held wrote wrote_after tail tail_after at at_after count e f begins fits here_is writes tail_is at_is = record {
  text = f.text;
  events = f.events ++ e ∷ [];
  consumed = f.consumed;
  leads = subst (λ (t : List ℕ). LeadsTo f.text (f.events ++ e ∷ []) t) (sym tail_is) (one_more f.text f.events tail e (drop count tail) f.leads begins);
  place = omega (arith, f.place, fits, ap length tail_is, length-drop count tail, at_is);
  agent_is = here_is ∙ ap (λ (a : Contents). after a e) f.agent_is ∙ sym (after_more agent f.events e);
  written = writes_more notes agent here f.events e held wrote wrote_after f.agent_is f.written writes;
}

-- of the same values
pub same_followed : (notes : Bool) (agent here here_after : Contents) (left now now_after held wrote wrote_after : Option (List ℕ)) (tail tail_after : List ℕ) (at at_after : ℕ)
    → here_after ≡ here → now_after ≡ now → wrote_after ≡ wrote → tail_after ≡ tail → at_after ≡ at
    → Followed notes agent here left now held wrote tail at → Followed notes agent here_after left now_after held wrote_after tail_after at_after
same_followed notes agent here here_after left now now_after held wrote wrote_after tail tail_after at at_after here_is now_is wrote_is tail_is at_is f = record {
  text = f.text;
  events = f.events;
  consumed = subst (λ (o : Option (List ℕ)). Consumes left o f.text) (sym now_is) f.consumed;
  leads = subst (λ (t : List ℕ). LeadsTo f.text f.events t) (sym tail_is) f.leads;
  place = omega (arith, f.place, ap length tail_is, at_is);
  agent_is = here_is ∙ f.agent_is;
  written = subst (λ (o : Option (List ℕ)). WritesRun notes agent f.events held o) (sym wrote_is) f.written;
}

-- more bytes
pub bytes_followed : (notes : Bool) (agent here : Contents) (left now now_after held wrote : Option (List ℕ)) (tail tail_after : List ℕ) (at at_after count : ℕ)
    → Followed notes agent here left now held wrote tail at → Grows tail tail_after now now_after count → at_after ≡ at
    → Followed notes agent here left now_after held wrote tail_after at_after
bytes_followed notes agent here left now now_after held wrote tail tail_after at at_after count f (bytes, taken, kept, long, end) at_is = record {
  text = f.text ++ bytes;
  events = f.events;
  consumed = consumes_more left now now_after f.text bytes f.consumed taken;
  leads = subst (λ (t : List ℕ). LeadsTo (f.text ++ bytes) f.events t) (sym kept) (leads_more f.text f.events tail bytes f.leads);
  place = omega (arith, f.place, ap length kept, length-append tail bytes, length-append f.text bytes, at_is);
  agent_is = f.agent_is;
  written = f.written;
}

-- ---- the whole input

-- what was taken, and what is left
all_of : (left now : Option (List ℕ)) (text : List ℕ) → Consumes left now text → (more : List ℕ) × HasText left (text ++ more)
all_of None now text h = ([], tt)
all_of (Some xs) None text h = absurd h
all_of (Some xs) (Some ys) text h = (ys, h)

writes_front : (notes : Bool) (agent here : Contents) (left now held wrote : Option (List ℕ)) (tail : List ℕ) (at : ℕ)
    → Followed notes agent here left now held wrote tail at → WritesFront notes agent left held wrote
writes_front notes agent here left now held wrote tail at f =
    let all = all_of left now f.text f.consumed in
    let front : Front left = record {
      text = f.text ++ all.0;
      events = f.events;
      rest = tail ++ all.0;
      there = all.1;
      leads = leads_more f.text f.events tail all.0 f.leads;
    } in
    (front, f.written)

some_still : (xs ys : List ℕ) → xs ≢ [] → xs ++ ys ≢ []
some_still [] ys some none = some refl
some_still (x ∷ xs) ys some none = cc

-- ---- faults

-- of reading
pub reading_stops : (notes : Bool) (agent here : Contents) (left now held wrote : Option (List ℕ)) (tail : List ℕ) (at : ℕ) (e : Fault)
    → Followed notes agent here left now held wrote tail at → IsOfReading e → InputLeaves notes agent left e held wrote
reading_stops notes agent here left now held wrote tail at Input f h = writes_front notes agent here left now held wrote tail at f
reading_stops notes agent here left now held wrote tail at (Script place) f h = absurd h
reading_stops notes agent here left now held wrote tail at (Wrong fault) f h = absurd h
reading_stops notes agent here left now held wrote tail at Output f h = absurd h
reading_stops notes agent here left now held wrote tail at Socket f h = absurd h
reading_stops notes agent here left now held wrote tail at OutOfMemory f h = writes_front notes agent here left now held wrote tail at f

-- of forgetting an event that was taken
pub forgetting_stops : (notes : Bool) (agent here here_after : Contents) (left now held wrote wrote_after : Option (List ℕ)) (tail : List ℕ) (at count : ℕ) (event : Event) (e : Fault)
    → Followed notes agent here left now held wrote tail at → Begins tail event (drop count tail) → count ≤ length tail
    → here_after ≡ after here event → WritesEvent notes here event wrote wrote_after → IsOfReading e → InputLeaves notes agent left e held wrote_after
forgetting_stops notes agent here here_after left now held wrote wrote_after tail at count event e f begins fits here_is writes h =
    reading_stops notes agent here_after left now held wrote_after (drop count tail) (at + count) e
    (event_followed notes agent here here_after left now held wrote wrote_after tail (drop count tail) at (at + count) count event f begins fits here_is writes refl refl) h

-- of the event that comes next
pub event_stops : (notes : Bool) (agent here : Contents) (left now held wrote : Option (List ℕ)) (tail : List ℕ) (at : ℕ) (e : Fault)
    → Followed notes agent here left now held wrote tail at → IsOfEvent tail at e → InputLeaves notes agent left e held wrote
event_stops notes agent here left now held wrote tail at Input f h = absurd h
event_stops notes agent here left now held wrote tail at (Script place) f (same, some, never) =
    let all = all_of left now f.text f.consumed in
    let malformed : IsMalformedAt (f.text ++ all.0) place = record {
      events = f.events;
      rest = tail ++ all.0;
      leads = leads_more f.text f.events tail all.0 f.leads;
      place = omega (arith, f.place, same, length-append f.text all.0, length-append tail all.0);
      more = some_still tail all.0 some;
      none = never all.0;
    } in
    (f.text ++ all.0, all.1, malformed, f.written)
event_stops notes agent here left now held wrote tail at (Wrong fault) f h = absurd h
event_stops notes agent here left now held wrote tail at Output f h = absurd h
event_stops notes agent here left now held wrote tail at Socket f h = absurd h
event_stops notes agent here left now held wrote tail at OutOfMemory f h = writes_front notes agent here left now held wrote tail at f

-- of what is left at the end
end_stops : (notes : Bool) (agent here : Contents) (left now held wrote : Option (List ℕ)) (tail : List ℕ) (at : ℕ) (e : Fault)
    → Followed notes agent here left now held wrote tail at → IsAtEnd now → BeginsNone tail → IsLeftOver tail at e → InputLeaves notes agent left e held wrote
end_stops notes agent here left now held wrote tail at Input f end none h = absurd h
end_stops notes agent here left now held wrote tail at (Script place) f end none (same, some) =
    let malformed : IsMalformedAt f.text place = record {
      events = f.events;
      rest = tail;
      leads = f.leads;
      place = omega (arith, f.place, same);
      more = some;
      none = none;
    } in
    (f.text, has_text left now f.text f.consumed end, malformed, f.written)
end_stops notes agent here left now held wrote tail at (Wrong fault) f end none h = absurd h
end_stops notes agent here left now held wrote tail at Output f end none h = absurd h
end_stops notes agent here left now held wrote tail at Socket f end none h = absurd h
end_stops notes agent here left now held wrote tail at OutOfMemory f end none h = absurd h

-- of an event that was not taken, or whose text was not written
pub taking_stops : (notes : Bool) (agent here : Contents) (left now held wrote wrote_after : Option (List ℕ)) (tail : List ℕ) (at : ℕ) (e : Fault)
    → Followed notes agent here left now held wrote tail at → EventLeaves e wrote wrote_after → InputLeaves notes agent left e held wrote_after
taking_stops notes agent here left now held wrote wrote_after tail at Input f h = absurd h
taking_stops notes agent here left now held wrote wrote_after tail at (Script place) f h = absurd h
taking_stops notes agent here left now held wrote wrote_after tail at (Wrong fault) f h = absurd h
taking_stops notes agent here left now held wrote wrote_after tail at Output f h = tt
taking_stops notes agent here left now held wrote wrote_after tail at Socket f h = absurd h
taking_stops notes agent here left now held wrote wrote_after tail at OutOfMemory f h = go (writes_front notes agent here left now held wrote tail at f) where
  go : WritesFront notes agent left held wrote → WritesFront notes agent left held wrote_after
  go (front, (text, run, is)) = (front, (text, run, appends_kept held wrote wrote_after text is h))

-- ---- the end

all_followed : (notes : Bool) (agent here : Contents) (left now held wrote : Option (List ℕ)) (tail : List ℕ) (at : ℕ)
    → Followed notes agent here left now held wrote tail at → IsAtEnd now → tail ≡ [] → FollowsRun notes agent here left now held wrote
all_followed notes agent here left now held wrote tail at f end none =
    (f.text, f.events, (f.consumed, end), whole_read f.text f.events tail f.leads none, f.agent_is, f.written)

-- no byte came
no_more : (tail tail_after : List ℕ) (now now_after : Option (List ℕ)) (count : ℕ) → Grows tail tail_after now now_after count → count ≡ 0 → (tail_after ≡ tail) × IsAtEnd now_after
no_more tail tail_after now now_after count ([], taken, kept, long, end) none = (kept ∙ append-nil tail, end none)
no_more tail tail_after now now_after count (b ∷ bs, taken, kept, long, end) none = absurd (omega (arith, long, none))

pub end_followed : (r : Result (Unit {0}) Fault) (notes : Bool) (agent here : Contents) (left now now_after held wrote : Option (List ℕ)) (tail tail_after : List ℕ) (at at_after count : ℕ)
    → Followed notes agent here left now held wrote tail at → Grows tail tail_after now now_after count → at_after ≡ at → count ≡ 0
    → OnOk r (tail_after ≡ []) → OnOk r (FollowsRun notes agent here left now_after held wrote)
end_followed (Err e) notes agent here left now now_after held wrote tail tail_after at at_after count f grows same none h = tt
end_followed (Ok done) notes agent here left now now_after held wrote tail tail_after at at_after count f grows same none h =
    all_followed notes agent here left now_after held wrote tail_after at_after
    (bytes_followed notes agent here left now now_after held wrote tail tail_after at at_after count f grows same) (no_more tail tail_after now now_after count grows none).1 h

pub end_not_followed : (r : Result (Unit {0}) Fault) (notes : Bool) (agent here : Contents) (left now now_after held wrote : Option (List ℕ)) (tail tail_after : List ℕ) (at at_after count : ℕ)
    → Followed notes agent here left now held wrote tail at → Grows tail tail_after now now_after count → at_after ≡ at → count ≡ 0 → NeedsMore tail
    → IfErr r (IsLeftOver tail_after at_after) → IfErr r (λ e. InputLeaves notes agent left e held wrote)
end_not_followed (Ok done) notes agent here left now now_after held wrote tail tail_after at at_after count f grows same none needs h = tt
end_not_followed (Err e) notes agent here left now now_after held wrote tail tail_after at at_after count f grows same none needs h =
    let end = no_more tail tail_after now now_after count grows none in
    end_stops notes agent here left now_after held wrote tail_after at_after e
    (bytes_followed notes agent here left now now_after held wrote tail tail_after at at_after count f grows same) end.1
    (subst BeginsNone (sym end.0) needs.0) h

-- a fault that is passed on
pub stops_as : (r : Result (Unit {0}) Fault) (leaves : Fault → Type 0) (e : Fault) → IsErrAnd r (λ y. y ≡ e) → leaves e → IfErr r leaves
stops_as (Ok done) leaves e is h = absurd is
stops_as (Err x) leaves e is h = subst leaves (sym is) h

-- after all that was sent comes the state at the end
pub day_followed : (r : Result (Unit {0}) Fault) (notes : Bool) (agent here : Contents) (left now held wrote wrote_after : Option (List ℕ))
    → FollowsRun notes agent here left now held wrote → OnOk r (Appends wrote wrote_after (state_text here)) → OnOk r (FollowsDay notes agent left now held wrote_after)
day_followed (Ok done) notes agent here left now held wrote wrote_after (text, events, reads, is, here_is, writes) h =
    (text, events, reads, is, day_told (Ok done) notes agent here events held wrote wrote_after here_is writes h)
day_followed (Err e) notes agent here left now held wrote wrote_after f h = tt

-- the state could not be written
state_stops : (notes : Bool) (agent here : Contents) (left now held wrote wrote_after : Option (List ℕ)) (e : Fault)
    → FollowsRun notes agent here left now held wrote → EventLeaves e wrote wrote_after → InputLeaves notes agent left e held wrote_after
state_stops notes agent here left now held wrote wrote_after e (text, events, (consumed, end), is, here_is, writes) h =
    let f : Followed notes agent here left now held wrote [] (length text) = record {
      text = text;
      events = events;
      consumed = consumed;
      leads = leads_all text events is;
      place = omega arith;
      agent_is = here_is;
      written = writes;
    } in
    taking_stops notes agent here left now held wrote wrote_after [] (length text) e f h
  where
    leads_all : (t : List ℕ) (es : List Event) → ReadsScript t es → LeadsTo t es []
    leads_all t [] h = h
    leads_all t (e ∷ es) (rest, begins, more) = (rest, begins, leads_all rest es more)

pub day_not_followed : (r : Result (Unit {0}) Fault) (notes : Bool) (agent here : Contents) (left now held wrote wrote_after : Option (List ℕ))
    → FollowsRun notes agent here left now held wrote → IfErr r (λ e. EventLeaves e wrote wrote_after) → IfErr r (λ e. InputLeaves notes agent left e held wrote_after)
day_not_followed (Ok done) notes agent here left now held wrote wrote_after f h = tt
day_not_followed (Err e) notes agent here left now held wrote wrote_after f h = state_stops notes agent here left now held wrote wrote_after e f h

-- ---- an office

pub followed : (r : Result (Unit {0}) Fault) (notes : Bool) (config : Option (Option (List ℕ))) (left now held wrote : Option (List ℕ)) (start : Start config)
    → OnOk r (FollowsDay notes start.agent left now held wrote) → OnOk r (Follows notes config left now held wrote)
followed (Err e) notes config left now held wrote start h = tt
followed (Ok done) notes config left now held wrote start (text, events, reads, is, writes) =
    let told : IsScript (Some text) events = (text, refl, is) in
    let day : Day config (Some text) = record {
      office = start.office;
      agent = start.agent;
      events = events;
      configured = start.configured;
      new = start.new;
      told = told;
    } in
    (text, reads, (day, writes))

input_leaves : (notes : Bool) (config : Option (Option (List ℕ))) (input held wrote : Option (List ℕ)) (start : Start config) (e : Fault)
    → InputLeaves notes start.agent input e held wrote → FollowLeaves notes config input e held wrote
input_leaves notes config input held wrote start Input h = (start, h)
input_leaves notes config input held wrote start (Script at) h = (start, h)
input_leaves notes config input held wrote start (Wrong fault) h = absurd h
input_leaves notes config input held wrote start Output h = start
input_leaves notes config input held wrote start Socket h = absurd h
input_leaves notes config input held wrote start OutOfMemory h = inr (start, h)

pub not_followed : (r : Result (Unit {0}) Fault) (notes : Bool) (config : Option (Option (List ℕ))) (input held wrote : Option (List ℕ)) (start : Start config)
    → IfErr r (λ e. InputLeaves notes start.agent input e held wrote) → IfErr r (λ e. FollowLeaves notes config input e held wrote)
not_followed (Ok done) notes config input held wrote start h = tt
not_followed (Err e) notes config input held wrote start h = input_leaves notes config input held wrote start e h

-- a fault of the office, before anything was written
pub office_stops : (notes : Bool) (config : Option (Option (List ℕ))) (input held : Option (List ℕ)) (e : Fault) → IsOfOffice config e → FollowLeaves notes config input e held held
office_stops notes config input held Input h = absurd h
office_stops notes config input held (Script at) h = absurd h
office_stops notes config input held (Wrong fault) h = (h.0, h.1, keeps_same held)
office_stops notes config input held Output h = absurd h
office_stops notes config input held Socket h = absurd h
office_stops notes config input held OutOfMemory h = inl (keeps_same held)

pub memory_stops : (notes : Bool) (config : Option (Option (List ℕ))) (input held : Option (List ℕ)) (e : Fault) → e ≡ OutOfMemory → FollowLeaves notes config input e held held
memory_stops notes config input held e is = subst (λ (x : Fault). FollowLeaves notes config input x held held) (sym is) (inl (keeps_same held))

-- of the same file
pub followed_as : (r : Result (Unit {0}) Fault) (notes : Bool) (config files : Option (Option (List ℕ))) (left now held wrote : Option (List ℕ)) → config ≡ files
    → OnOk r (Follows notes config left now held wrote) → OnOk r (Follows notes files left now held wrote)
followed_as r notes config files left now held wrote is h = subst (λ (o : Option (Option (List ℕ))). OnOk r (Follows notes o left now held wrote)) is h
