-- The ports of an end, once it has a further one.
use Rattle.std.proofs.Common.{◌≡◌, ℕ, ◌+◌, ◌<◌, true, false, cond, List, [], ◌∷◌, ◌++◌, ◌||◌, All, length, take, get_or, refl, sym, ap, ◌∙◌, subst}
use Rattle.std.proofs.Math.Dec.{eqb}
use Rattle.std.proofs.lemmas.Bool.{eq-eqb}
use Rattle.std.proofs.lemmas.List.{take_more}
use Rattle.std.proofs.lemmas.List.Elements.{All-more, All-push, All-weaker}
use Rattle.std.proofs.lemmas.List.Folds.{list_any-append, list_any_at}
use Rattle.std.proofs.Math.Bool.{or-true}
use Rattle.call_traffic.specs.declared.relay_port.RelayPort.{RelayPort}
use Rattle.call_traffic.specs.EndTraffic.{is_among, begun, with_port, with_ports}

abbrev Among : List RelayPort → RelayPort → Type 0
Among ports port = is_among ports port ≡ true

in_place : (ports : List RelayPort) (i : ℕ) (d : RelayPort) → i < length ports → Among ports (get_or ports i d)
in_place ports i d less = list_any_at (λ other. eqb other.number (get_or ports i d).number) ports i d less (eq-eqb _ _ refl)

goes_on : (ports : List RelayPort) (port p : RelayPort) → Among ports p → Among (with_port ports port) p
goes_on ports port p is =
    elim (is_among ports port) as (λ b. Among (cond b ports (ports ++ begun port ∷ [])) p) [
      | true ↦ is
      | false ↦ list_any-append (λ other. eqb other.number p.number) ports (begun port ∷ []) ∙ ap (λ b. b || is_among (begun port ∷ []) p) is
    ]

added : (ports : List RelayPort) (port : RelayPort) → Among (with_port ports port) port
added ports port =
    elim (is_among ports port) as (λ b. is_among ports port ≡ b → Among (cond b ports (ports ++ begun port ∷ [])) port) [
      | true ↦ λ is. is
      | false ↦ λ none.
          list_any-append (λ other. eqb other.number port.number) ports (begun port ∷ [])
          ∙ ap (λ b. is_among ports port || (b || false)) (eq-eqb port.number port.number refl)
          ∙ or-true (is_among ports port)
    ] refl

pub next_faces : (fresh ports after : List RelayPort) (i : ℕ) (d : RelayPort) → i < length fresh → after ≡ with_port ports (get_or fresh i d) →
    All (λ p. is_among ports p ≡ true) (take i fresh) → All (λ p. is_among after p ≡ true) (take (i + 1) fresh)
next_faces fresh ports after i d less is all =
    subst (λ ps. All (Among ps) (take (i + 1) fresh)) (sym is)
    (All-more (Among (with_port ports (get_or fresh i d))) fresh i d less
    (All-weaker (Among ports) (Among (with_port ports (get_or fresh i d))) (goes_on ports (get_or fresh i d)) (take i fresh) all)
    (added ports (get_or fresh i d)))

pub next_only : (fresh ports after : List RelayPort) (i : ℕ) (d : RelayPort) → i < length fresh → after ≡ with_port ports (get_or fresh i d) →
    All (λ p. is_among fresh p ≡ true) ports → All (λ p. is_among fresh p ≡ true) after
next_only fresh ports after i d less is all =
    let port = get_or fresh i d in
    subst (All (Among fresh)) (sym is)
    (elim (is_among ports port) as (λ b. All (Among fresh) (cond b ports (ports ++ begun port ∷ []))) [
      | true ↦ all
      | false ↦ All-push (Among fresh) ports (begun port) all (in_place fresh i d less)
    ])

with_more : (ports these : List RelayPort) (port : RelayPort) → with_ports ports (these ++ port ∷ []) ≡ with_port (with_ports ports these) port
with_more ports [] port = refl
with_more ports (first ∷ these) port = with_more (with_port ports first) these port

pub next_taken : (kept fresh ports after : List RelayPort) (i : ℕ) (d : RelayPort) → i < length fresh → after ≡ with_port ports (get_or fresh i d) →
    ports ≡ with_ports kept (take i fresh) → after ≡ with_ports kept (take (i + 1) fresh)
next_taken kept fresh ports after i d less is taken =
    is ∙ ap (λ ps. with_port ps (get_or fresh i d)) taken
    ∙ sym (with_more kept (take i fresh) (get_or fresh i d))
    ∙ ap (with_ports kept) (sym (take_more fresh i d less))
