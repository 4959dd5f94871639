-- Connections that come after others.
use Rattle.std.proofs.Common.{◌≡◌, ◌∙◌, ap, sym, ℕ, ◌+◌, ◌<◌, ◌≤◌, List, [], ◌∷◌, ◌++◌, inl, inr, length, replicate, length-append, append_assoc, append-nil, arith}
use Rattle.std.proofs.lemmas.List.{length-replicate, replicate_more}
use Rattle.page_server.specs.Held.{Held, Join, OneMayJoin, accepted_at, max_connections}

-- none came
pub none_yet : (now : ℕ) (before : List Held) → Join now before before
none_yet now before = (0, sym (append-nil before), λ few. omega (arith, few))

-- one more may have come
pub one_more : (now : ℕ) (before so_far after : List Held) → Join now before so_far → OneMayJoin now so_far after → Join now before after
one_more now before so_far after h (inl e) = (h.0, e ∙ h.1, h.2)
one_more now before so_far after h (inr j) =
    let one : List Held = accepted_at now ∷ [] in
    let many : List Held = replicate h.0 (accepted_at now) in
    let same : so_far ++ one ≡ before ++ many ++ one = ap (λ (xs : List Held). xs ++ one) h.1 in
    let counted : length so_far ≡ length before + h.0 =
    ap length h.1 ∙ length-append before many ∙ ap (λ (n : ℕ). length before + n) (length-replicate h.0 (accepted_at now)) in (
      h.0 + 1,
      j.0 ∙ same ∙ append_assoc before many one ∙ ap (λ (xs : List Held). before ++ xs) (replicate_more h.0 (accepted_at now)),
      λ few. omega (arith, counted, j.1),
    )
