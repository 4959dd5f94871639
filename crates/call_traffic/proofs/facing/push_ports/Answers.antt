use Rattle.std.proofs.Common.{◌≡◌, ℕ, ◌+◌, ◌<◌, List, [], ◌∷◌, ◌++◌, Option, ap, sym, ◌∙◌, append_assoc, get_or, length, take, option_map}
use Rattle.std.specs.List.{filter_map}
use Rattle.std.proofs.lemmas.List.{take_more}
use Rattle.std.proofs.lemmas.List.Elements.{filter_map-append}
use Rattle.call_traffic.specs.Facing.{port_facing}
use Rattle.call_traffic.proofs.facing.push_ports.Goals as goal

pushed : {X : Type 0} (h : X → Option ℕ) (xs : List X) (i : ℕ) (d : X) (before now after : List ℕ) → i < length xs →
    now ≡ before ++ filter_map h (take i xs) → after ≡ now ++ filter_map h (get_or xs i d ∷ []) → after ≡ before ++ filter_map h (take (i + 1) xs)
pushed h xs i d before now after less was is =
    is ∙ ap (λ ps. ps ++ filter_map h (get_or xs i d ∷ [])) was
    ∙ append_assoc before (filter_map h (take i xs)) (filter_map h (get_or xs i d ∷ []))
    ∙ ap (λ ps. before ++ ps) (sym (filter_map-append h (take i xs) (get_or xs i d ∷ [])))
    ∙ ap (λ ys. before ++ filter_map h ys) (sym (take_more xs i d less))

pub loop-seat-preserved : goal.loop-seat-preserved
loop-seat-preserved c = pushed (option_map (port_facing c.args.end c.args.offerer)) c.args.seats.now c.loop-seat.seat-index _ c.args.ports.now.items c.loop-seat.ports.items c.push_port.new.ports.items c.loop-seat-test.true c.loop-seat.invariant c.in_ok-push_port.ensures
