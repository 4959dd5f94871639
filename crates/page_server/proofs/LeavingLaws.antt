-- What is left of connections.
use Rattle.std.proofs.Common.{◌≡◌, ℕ, List, [], ◌∷◌, ◌++◌, map, inl, inr, subst, sym, Result, Ok, Err, OnOk, OnErr}
use Rattle.page_server.specs.declared.connection.Connection.{Connection}
use Rattle.page_server.specs.Connections.{held_of}
use Rattle.page_server.specs.Held.{AreLeft, GoesOn}

-- one more is gone
pub gone : (now : ℕ) (before after : List Connection) (b : Connection) → AreLeft now (map held_of before) (map held_of after) → AreLeft now (map held_of (before ++ b ∷ [])) (map held_of after)
gone now [] [] b h = tt
gone now [] (a ∷ after) b h = absurd h
gone now (x ∷ before) [] b h = tt
gone now (x ∷ before) (a ∷ after) b (inl h) = inl (h.0, gone now before after b h.1)
gone now (x ∷ before) (a ∷ after) b (inr h) = inr (gone now before (a ∷ after) b h)

none_left : (now : ℕ) (before : List Connection) → AreLeft now (map held_of before) []
none_left now [] = tt
none_left now (b ∷ before) = tt

-- one more goes on
pub left : (now : ℕ) (before after : List Connection) (b a : Connection) → GoesOn now (held_of b) (held_of a) → AreLeft now (map held_of before) (map held_of after)
    → AreLeft now (map held_of (before ++ b ∷ [])) (map held_of (after ++ a ∷ []))
left now [] [] b a g h = inl (g, tt)
left now [] (y ∷ after) b a g h = absurd h
left now (x ∷ before) [] b a g h = inr (left now before [] b a g (none_left now before))
left now (x ∷ before) (y ∷ after) b a g (inl h) = inl (h.0, left now before after b a g h.1)
left now (x ∷ before) (y ∷ after) b a g (inr h) = inr (left now before (y ∷ after) b a g h)

-- one more goes on, if there is memory to keep it
pub left_or_gone : {X Y : Type 0} (now : ℕ) (before old new : List Connection) (b a : Connection) (kept : Result X Y) → OnOk kept (new ≡ old ++ a ∷ []) → OnErr kept (new ≡ old)
    → GoesOn now (held_of b) (held_of a) → AreLeft now (map held_of before) (map held_of old) → AreLeft now (map held_of (before ++ b ∷ [])) (map held_of new)
left_or_gone now before old new b a (Ok x) ok err g h = subst (λ (n : List Connection). AreLeft now (map held_of (before ++ b ∷ [])) (map held_of n)) (sym ok) (left now before old b a g h)
left_or_gone now before old new b a (Err e) ok err g h = subst (λ (n : List Connection). AreLeft now (map held_of (before ++ b ∷ [])) (map held_of n)) (sym err) (gone now before old b h)
