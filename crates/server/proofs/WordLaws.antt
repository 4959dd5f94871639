-- What the matches of a parse ask.
use Rattle.std.proofs.Common.{◌≡◌, ◌∙◌, ℕ, Bool, true, false, cond, List, [], ◌∷◌, map, codes, Option, Some, None, Result, Ok, Err, IfSome, IfNone, IfErr, OnOk, option_map, refl, sym, ap, ap₂, subst, inl, inr, arith, slice_index}
use Rattle.std.specs.Prelude.{option_and_then, unwrap_or, slice_get, find}
use Rattle.std.specs.Option.{ok_or}
use Rattle.std.specs.Str.{bytes_eq}
use Rattle.std.specs.Borrow.{Bor}
use Rattle.clap.specs.Words.{Row, first_of, first_value, rows_of, is_simple}
use Rattle.clap.specs.Walk.{row_of, texts}
use Rattle.clap.specs.Facts.{Entry}
use Rattle.clap.specs.Faults.{is_simple_and_free}
use Rattle.clap.specs.declared.parser.matches.Found.{Found}
use Rattle.clap.specs.declared.parser.matches.MatchedArg.{MatchedArg}
use Rattle.clap.proofs.OnLiterals.{clap_on_literals}
use Rattle.server.specs.declared.words.Asked.{Asked}
use Rattle.server.specs.declared.words.Asked.TheVariants.{Once, Replay, Follow, Serve}
use Rattle.server.specs.declared.words.CommandError.{CommandError}
use Rattle.server.specs.declared.words.CommandError.TheVariants.{Words}
use Rattle.server.specs.Words.{office_app, name_in, value_in, is_set, turns_in, IsFollow, IsReplay, IsServe, LacksServe, AsksIn, RefusesWords, entered_by}

pub office_is_simple : is_simple office_app ≡ true
unfolding clap_on_literals
office_is_simple = refl

pub office_is_free : is_simple_and_free office_app ≡ true
unfolding clap_on_literals
office_is_free = refl

-- ---- the value of an argument

head_is : (vs : List (Bor (List ℕ))) → option_map (λ s. s.now) (slice_get vs 0) ≡ slice_get (texts vs) 0
head_is [] = refl
head_is (v ∷ vs) = refl

abbrev first_entry : List ℕ → List Entry → Option (List ℕ)
first_entry id es = option_and_then (λ (a : MatchedArg). option_map (λ s. s.now) (slice_get a.vals.items 0)) (option_map (λ (e : Entry). e.1) (find (λ (e : Entry). bytes_eq e.0.now id) es))

first_in : (id : List ℕ) (es : List Entry) → first_entry id es ≡ first_of id (map row_of es)
first_in id [] = refl
first_in id (e ∷ es) = go (first_in id es) (bytes_eq e.0.now id)
  where
    go : first_entry id es ≡ first_of id (map row_of es) → (b : Bool)
        → option_and_then (λ (a : MatchedArg). option_map (λ s. s.now) (slice_get a.vals.items 0)) (option_map (λ (x : Entry). x.1) (cond b (Some e) (find (λ (x : Entry). bytes_eq x.0.now id) es)))
        ≡ option_and_then (λ (r : Row). slice_get r.values 0) (cond b (Some (row_of e)) (find (λ (r : Row). bytes_eq r.id id) (map row_of es)))
    go rest true = head_is e.1.vals.items
    go rest false = rest

pub first_is : (f : Found) (id : List ℕ) → first_value f id ≡ first_of id (rows_of f)
first_is f id = first_in id f.entries.items

-- ---- the subcommand

abbrev both : {X : Type 0} → (X → List ℕ) → (X → List Row) → X → List ℕ × List Row
both f g x = (f x, g x)

pub entered_is : {X : Type 0} (f : X → List ℕ) (g : X → List Row) (o : Option X) (name : List ℕ) (rows : List Row)
    → Some name ≡ option_map f o → Some rows ≡ option_map (λ (p : List ℕ × List Row). p.1) (option_map (both f g) o)
    → option_map (both f g) o ≡ Some (name, rows)
entered_is f g None name rows n r = cc
entered_is f g (Some x) name rows n r = ap₂ (λ a b. Some (a, b)) (sym (ap (λ (o : Option (List ℕ)). unwrap_or o name) n)) (sym (ap (λ (o : Option (List Row)). unwrap_or o rows) r))

abbrev first_code : Option (List ℕ) → ℕ
first_code None = 0
first_code (Some []) = 0
first_code (Some (x ∷ xs)) = x

replay_is_not_once : Some (codes "replay") ≡ Some (codes "once") → ⊥
replay_is_not_once e =
    let bad : ◌≡◌ {A = ℕ} 114 111 = ap first_code e in
    absurd (omega arith)

replay_is_not_serve : Some (codes "replay") ≡ Some (codes "serve") → ⊥
replay_is_not_serve e =
    let bad : ◌≡◌ {A = ℕ} 114 115 = ap first_code e in
    absurd (omega arith)

serve_is_not_once : Some (codes "serve") ≡ Some (codes "once") → ⊥
serve_is_not_once e =
    let bad : ◌≡◌ {A = ℕ} 115 111 = ap first_code e in
    absurd (omega arith)

replay_is_not_follow : Some (codes "replay") ≡ Some (codes "follow") → ⊥
replay_is_not_follow e =
    let bad : ◌≡◌ {A = ℕ} 114 102 = ap first_code e in
    absurd (omega arith)

serve_is_not_follow : Some (codes "serve") ≡ Some (codes "follow") → ⊥
serve_is_not_follow e =
    let bad : ◌≡◌ {A = ℕ} 115 102 = ap first_code e in
    absurd (omega arith)

pub asks_replay : (entered : Option (List ℕ × List Row)) (f : Found) (asked : Option Asked) → entered ≡ Some (codes "replay", rows_of f)
    → IfSome asked (λ a. IsReplay (first_value f (codes "config")) (first_value f (codes "script")) (first_value f (codes "notes")) a) → IfSome asked (λ a. AsksIn entered a)
asks_replay entered f None e h = tt
asks_replay entered f (Some Once) e h = absurd h
asks_replay entered f (Some (Follow config notes)) e h = absurd h
asks_replay entered f (Some (Serve config turns)) e h = absurd h
asks_replay entered f (Some (Replay config script notes)) e h = (
  ap name_in e,
  (
    h.0 ∙ first_is f (codes "config") ∙ sym (ap (value_in (codes "config")) e),
    h.1 ∙ first_is f (codes "script") ∙ sym (ap (value_in (codes "script")) e),
    h.2 ∙ ap is_set (first_is f (codes "notes") ∙ sym (ap (value_in (codes "notes")) e)),
  ),
)

pub asks_nothing : (entered : Option (List ℕ × List Row)) (f : Found) (asked : Option Asked) → entered ≡ Some (codes "replay", rows_of f)
    → IfNone asked (first_value f (codes "script") ≡ None) → IfNone asked ((a : Asked) → AsksIn entered a → ⊥)
asks_nothing entered f (Some x) e h = tt
asks_nothing entered f None e h = go
  where
    go : (a : Asked) → AsksIn entered a → ⊥
    go Once k = replay_is_not_once (sym (ap name_in e) ∙ k)
    go (Follow config notes) k = replay_is_not_follow (sym (ap name_in e) ∙ k.0)
    go (Serve config turns) k = replay_is_not_serve (sym (ap name_in e) ∙ k.0)
    go (Replay config script notes) k =
        let none = k.1.1 ∙ ap (value_in (codes "script")) e ∙ sym (first_is f (codes "script")) ∙ h in
        cc

-- the value of an argument
value_is : (entered : Option (List ℕ × List Row)) (f : Found) (name id : List ℕ) → entered ≡ Some (name, rows_of f) → first_value f id ≡ value_in id entered
value_is entered f name id e = first_is f id ∙ sym (ap (value_in id) e)

pub asks_serve : (entered : Option (List ℕ × List Row)) (f : Found) (asked : Option Asked) → entered ≡ Some (codes "serve", rows_of f)
    → IfSome asked (λ a. IsServe (first_value f (codes "config")) (first_value f (codes "turns")) a) → IfSome asked (λ a. AsksIn entered a)
asks_serve entered f None e h = tt
asks_serve entered f (Some Once) e h = absurd h
asks_serve entered f (Some (Follow config notes)) e h = absurd h
asks_serve entered f (Some (Replay config script notes)) e h = absurd h
asks_serve entered f (Some (Serve config turns)) e h =
    (ap name_in e, (h.0 ∙ value_is entered f (codes "serve") (codes "config") e, h.1 ∙ ap turns_in (value_is entered f (codes "serve") (codes "turns") e)))

pub asks_follow : (entered : Option (List ℕ × List Row)) (f : Found) (asked : Asked) → entered ≡ Some (codes "follow", rows_of f)
    → IsFollow (first_value f (codes "config")) (first_value f (codes "notes")) asked → AsksIn entered asked
asks_follow entered f Once e h = absurd h
asks_follow entered f (Replay config script notes) e h = absurd h
asks_follow entered f (Serve config turns) e h = absurd h
asks_follow entered f (Follow config notes) e h =
    (ap name_in e, (h.0 ∙ value_is entered f (codes "follow") (codes "config") e, h.1 ∙ ap is_set (value_is entered f (codes "follow") (codes "notes") e)))

pub serves_nothing : (entered : Option (List ℕ × List Row)) (f : Found) (asked : Option Asked) → entered ≡ Some (codes "serve", rows_of f)
    → IfNone asked (LacksServe (first_value f (codes "config")) (first_value f (codes "turns"))) → IfNone asked ((a : Asked) → AsksIn entered a → ⊥)
serves_nothing entered f (Some x) e h = tt
serves_nothing entered f None e h = go
  where
    go : (a : Asked) → AsksIn entered a → ⊥
    go Once k = serve_is_not_once (sym (ap name_in e) ∙ k)
    go (Follow config notes) k = serve_is_not_follow (sym (ap name_in e) ∙ k.0)
    go (Replay config script notes) k = replay_is_not_serve (sym k.0 ∙ ap name_in e)
    go (Serve config turns) k = lacks config turns k.1 h where
      lacks : (path : Bor (List ℕ)) (n : Option ℕ) → IsServe (value_in (codes "config") entered) (value_in (codes "turns") entered) (Serve path n)
          → LacksServe (first_value f (codes "config")) (first_value f (codes "turns")) → ⊥
      lacks path n is (inl no_path) =
          let none = is.0 ∙ sym (value_is entered f (codes "serve") (codes "config") e) ∙ no_path in
          cc
      lacks path n is (inr no_turns) =
          let none = is.1 ∙ sym (ap turns_in (value_is entered f (codes "serve") (codes "turns") e)) ∙ no_turns in
          cc

-- ---- what is refused

pub refused_by : (asked : Option Asked) (r : Result Asked CommandError) (words : List (List ℕ)) (entered : Option (List ℕ × List Row)) → r ≡ ok_or asked Words
    → entered ≡ entered_by words → IfNone asked ((a : Asked) → AsksIn entered a → ⊥) → IfErr r (λ e. RefusesWords words e)
refused_by asked r words entered is same none = subst (λ x. IfErr x (RefusesWords words)) (sym is) (go asked none)
  where
    go : (o : Option Asked) → IfNone o ((a : Asked) → AsksIn entered a → ⊥) → IfErr (ok_or o Words) (λ e. RefusesWords words e)
    go None h = inr (λ a k. h a (subst (λ s. AsksIn s a) (sym same) k))
    go (Some x) h = tt

pub on_ok : {X E : Type 0} (r : Result X E) (P : Type 0) → P → OnOk r P
on_ok (Ok x) P p = p
on_ok (Err e) P p = tt
