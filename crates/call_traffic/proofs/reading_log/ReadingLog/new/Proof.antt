use Rattle.call_traffic.proofs.Walks.{[], ◌∷◌, refl, proved, ftrue, ‵, ◌⊛◌, ◌$◌, ◌∵◌, !, qed, keep, suffices, enter, no_more, returns, alloc_all, pass_all, free_all, look_at, sets, nothing, done, Stays, walk_of, says, ends_at}
use mir.Val.{vstruct, vnil}
use types.Kit.{use0}
use types.Part.{agg}
use base.Fml.{Fml}
use denote.Shadow.{makes_shadow}
use Rattle.call_traffic.specs.contracts.reading_log.ReadingLog.new as f
use Rattle.call_traffic.proofs.reading_log.ReadingLog.new.Statement.{statement}
use Rattle.call_traffic.proofs.reading_log.ReadingLog.new.Code as code
use Rattle.call_traffic.specs.contracts.reading_log.ReadingLog.{the_row as R}

abbrev stayed : Stays f.ended.signature.params f.ended.kept
stayed = tt

pub new_spec : {M : Type 1} → statement M
new_spec 𝓤 𝓛 𝓜 𝓡 wired =
    let c = f.clauses 𝓛 𝓜.mem 𝓡.returns in let W = walk_of 𝓛 f.ended stayed c in
    proved 𝓛 f.ended stayed c 𝓜 𝓡 tt
    f.Key.name code.function (code.unfolded 𝓤 𝓛.H 𝓜 𝓡 wired)
    (λ κs. tt) (λ κs. tt) (λ κs qs bounds a _ are.
    let y : W.Ghost = ((κs, qs, bounds, a, tt), tt) in
    let r : R.Denot = record { entries = [] } in
    let O : Fml = R.own_val r (vstruct vnil ∷ []) in
    qed 𝓛 ((‵ ftrue ⊛ ‵ ftrue) ∷ ‵ ftrue ∷ []) ∵ keep ! [] $
    enter ! _ _ _ _ _ $ alloc_all ! (λ l. pass_all ! refl tt $
    sets ! (agg ! (no_more !)) refl (tt, tt) $
    returns ! (look_at ! 0 refl) $ free_all ! refl $
    use0 𝓛 (‵ O) (makes_shadow 𝓛 O ((λ vss. (tt, tt)), tt) ((tt, (refl, tt)), tt)) $
    suffices ! _ (ends_at 𝓛 f.ended stayed c y (vstruct vnil) r tt tt) $ says ! refl $
    nothing ! $ nothing ! $ done !))
