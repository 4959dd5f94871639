-- A note changes nothing except what clauses see.
use Rattle.call_traffic.proofs.Walks.{[], ◌∷◌, ◌++◌, refl, proved, ftrue, flft, named, vunit, w16, w64, ‵, ◌⊛◌, ◌$◌, ◌∵◌, !, qed, done, move, keep, split, join, fsplit3, feq_i, suffices, frame, group, enter, of_opd, unit_lit, returns, alloc_all, pass_all, free_all, look_at, sets, MutRef, mut_vals, mut_Tells, plain, nothing, opens, closes, Stays, walk_of, says, stay_ref, Goes-ref, ends_at, stay_dropped, Goes-dropped, uint_vals, uint_Tells, yes}
use denote.Builtin.{u16, u64}
use Rattle.call_traffic.specs.contracts.reading_log.ReadingLog.note as f
use Rattle.call_traffic.proofs.reading_log.ReadingLog.note.Statement.{statement}
use Rattle.call_traffic.proofs.reading_log.ReadingLog.note.Code as code
use Rattle.call_traffic.specs.contracts.reading_log.ReadingLog.{the_row as R}

abbrev stayed : Stays f.ended.signature.params f.ended.kept
stayed = (stay_ref (0 ∷ []) tt (plain (λ _. R)), (stay_dropped _ yes, (stay_dropped _ yes, tt)))

pub note_spec : {M : Type 1} → statement M
note_spec 𝓤 𝓛 𝓜 𝓡 wired =
    let c = f.clauses 𝓛 𝓜.mem 𝓡.returns in let W = walk_of 𝓛 f.ended stayed c in
    proved 𝓛 f.ended stayed c 𝓜 𝓡 (Goes-ref 𝓛 1 0 tt (plain (λ _. R)), (Goes-dropped 𝓛 1 (plain (λ _. u16)) yes (λ κs x w. refl), (Goes-dropped 𝓛 1 (plain (λ _. u64)) yes (λ κs x w. refl), tt)))
    f.Key.name code.function (code.unfolded 𝓤 𝓛.H 𝓜 𝓡 wired)
    (λ κs. (mut_vals, (uint_vals w16, (uint_vals w64, tt))))
    (λ κs. (mut_Tells (named 0) κs.0 R, (uint_Tells w16, (uint_Tells w64, tt))))
    (λ κs qs bounds a _ are.
    let b = a.0.ref_ptr.0 in let o = a.0.ref_ptr.1 in let h = a.0.now in let vs = mut_vals a.0 in
    let port = a.1.0 in let count = a.1.1.0 in
    let h' = record h { entries = h.entries ++ record { port = port; count = count } ∷ [] } in
    let y : W.Ghost = ((κs, qs, bounds, a, (vs, (uint_vals w16 port, (uint_vals w64 count, tt)))), tt) in
    qed 𝓛 (((‵ (flft κs.0 qs.0) ⊛ ‵ ftrue) ⊛ ‵ ((MutRef (named 0) κs.0 R).own_val a.0 vs) ⊛ ‵ (u16.own_val port (uint_vals w16 port)) ⊛ ‵ (u64.own_val count (uint_vals w64 count)) ⊛ ‵ ftrue) ∷ ‵ ftrue ∷ []) ∵
    split ! $ move ! (1 ∷ []) $ split ! $ move ! (2 ∷ []) $ split ! $ keep ! (2 ∷ 0 ∷ []) $
    -- [self; the token]
    enter ! _ _ _ _ _ $ alloc_all ! (λ l. pass_all ! refl ((tt, tt), ((tt, record { fits = are.1.0.1 }), ((tt, record { fits = are.1.1.0.1 }), tt))) $
    fsplit3 ! $ move ! (1 ∷ 2 ∷ 3 ∷ []) $ opens ! tt R b o (λ us.
    sets ! (of_opd ! (unit_lit !)) refl (tt, tt) $
    closes ! tt R h' us b o $
    returns ! (look_at ! 0 refl) $ free_all ! refl $ move ! (3 ∷ []) $
    -- [self, in three; the token]
    suffices ! _ (ends_at 𝓛 f.ended stayed c y vunit tt (h', (tt, (tt, tt))) (tt, (tt, (tt, tt)))) $ says ! refl $
    group ! 3 $ nothing ! $ nothing ! $ join ! $ nothing ! $ join ! $ move ! (1 ∷ 0 ∷ []) $ join ! $
    nothing ! $ move ! (2 ∷ 0 ∷ []) $ join ! $ frame ! $ frame ! $
    feq_i ! _ (vunit ∷ []) _ refl $ done !)))
