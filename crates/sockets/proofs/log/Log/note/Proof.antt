-- A note changes nothing except what clauses see.
use Rattle.sockets.proofs.Walks.{[], ◌∷◌, refl, proved, ftrue, flft, named, vunit, ‵, ◌⊛◌, ◌$◌, ◌∵◌, !, qed, done, move, keep, split, join, fsplit3, feq_i, suffices, frame, group, enter, of_opd, unit_lit, returns, alloc_all, pass_all, free_all, look_at, sets, u8, MutRef, mut_vals, mut_Tells, plain, nothing, opens, closes, Stays, walk_of, says, stay_ref, Goes-ref, ends_at, stay_dropped, Goes-dropped, uint_vals, uint_Tells, yes}
use Rattle.std.proofs.Common.{◌++◌, w16}
use denote.Builtin.{u16, SliceRefOf}
use denote.Slice.{ShrSlice, shr_slice_vals, shr_slice_Tells}
use Rattle.sockets.specs.contracts.log.Log.note as f
use Rattle.sockets.proofs.log.Log.note.Statement.{statement}
use Rattle.sockets.proofs.log.Log.note.Code as code
use Rattle.sockets.specs.contracts.log.Log.{the_row as R}

abbrev stayed : Stays f.ended.signature.params f.ended.kept
stayed = (stay_ref (0 ∷ []) tt (plain (λ _. R)), (stay_dropped _ yes, (stay_dropped _ yes, (stay_dropped _ yes, (stay_dropped _ yes, tt)))))

pub note_spec : {M : Type 1} → statement M
note_spec 𝓤 𝓛 𝓜 𝓡 wired =
    let c = f.clauses 𝓛 𝓜.mem 𝓡.returns in let W = walk_of 𝓛 f.ended stayed c in
    let number = Goes-dropped 𝓛 3 (plain (λ _. u16)) yes (λ κs x w. refl) in
    proved 𝓛 f.ended stayed c 𝓜 𝓡 (
      Goes-ref 𝓛 3 0 tt (plain (λ _. R)),
      (
        number,
        (
          Goes-dropped 𝓛 3 (SliceRefOf (1 ∷ []) tt (plain (λ _. u8)) (λ _. tt)) yes (λ κs x w. refl),
          (number, (Goes-dropped 𝓛 3 (SliceRefOf (2 ∷ []) tt (plain (λ _. u8)) (λ _. tt)) yes (λ κs x w. refl), tt)),
        ),
      ),
    )
    f.Key.name code.function (code.unfolded 𝓤 𝓛.H 𝓜 𝓡 wired)
    (λ κs. (mut_vals, (uint_vals w16, (shr_slice_vals, (uint_vals w16, (shr_slice_vals, tt))))))
    (λ κs. (mut_Tells (named 0) κs.0 R, (uint_Tells w16, (shr_slice_Tells (named 1) κs.1.0 u8, (uint_Tells w16, (shr_slice_Tells (named 2) κs.1.1.0 u8, tt))))))
    (λ κs qs bounds a _ are.
    let b = a.0.ref_ptr.0 in let o = a.0.ref_ptr.1 in let h = a.0.now in let vs = mut_vals a.0 in
    let own = a.1.0 in let ip = a.1.1.0 in let port = a.1.1.1.0 in let bytes = a.1.1.1.1.0 in
    let h' = record h { entries = h.entries ++ record { own = own; ip = ip.now; port = port; bytes = bytes.now } ∷ [] } in
    let y : W.Ghost = ((κs, qs, bounds, a, (vs, (uint_vals w16 own, (shr_slice_vals ip, (uint_vals w16 port, (shr_slice_vals bytes, tt)))))), tt) in
    qed 𝓛 (((‵ (flft κs.0 qs.0) ⊛ ‵ (flft κs.1.0 qs.1.0) ⊛ ‵ (flft κs.1.1.0 qs.1.1.0) ⊛ ‵ ftrue)
    ⊛ ‵ ((MutRef (named 0) κs.0 R).own_val a.0 vs) ⊛ ‵ (u16.own_val own (uint_vals w16 own)) ⊛ ‵ ((ShrSlice (named 1) κs.1.0 u8).own_val ip (shr_slice_vals ip))
    ⊛ ‵ (u16.own_val port (uint_vals w16 port)) ⊛ ‵ ((ShrSlice (named 2) κs.1.1.0 u8).own_val bytes (shr_slice_vals bytes)) ⊛ ‵ ftrue) ∷ ‵ ftrue ∷ []) ∵
    split ! $ split ! $ move ! (1 ∷ []) $ split ! $ move ! (1 ∷ []) $ split ! $ move ! (4 ∷ []) $ split ! $ keep ! (0 ∷ 5 ∷ 4 ∷ 2 ∷ []) $
    -- [self; the three tokens]
    enter ! _ _ _ _ _ $ alloc_all ! (λ l. pass_all ! refl (
      (tt, tt),
      (
        (tt, record { fits = are.1.0.1 }),
        (
          (tt, (tt, (record { fits = are.1.1.0.0.1.0 }, tt))),
          ((tt, record { fits = are.1.1.1.0.1 }), ((tt, (tt, (record { fits = are.1.1.1.1.0.0.1.0 }, tt))), tt)),
        ),
      ),
    ) $
    fsplit3 ! $ move ! (1 ∷ 2 ∷ 3 ∷ []) $ opens ! tt R b o (λ us.
    sets ! (of_opd ! (unit_lit !)) refl (tt, tt) $
    closes ! tt R h' us b o $
    returns ! (look_at ! 0 refl) $ free_all ! refl $ move ! (3 ∷ []) $
    -- [self, in three; the three tokens]
    suffices ! _ (ends_at 𝓛 f.ended stayed c y vunit tt (h', (tt, (tt, (tt, (tt, tt))))) (tt, (tt, (tt, (tt, (tt, tt)))))) $ says ! refl $
    group ! 3 $ nothing ! $ nothing ! $ join ! $ nothing ! $ join ! $ nothing ! $ join ! $ nothing ! $ join ! $ move ! (1 ∷ 0 ∷ []) $ join ! $
    nothing ! $ move ! (4 ∷ 0 ∷ []) $ join ! $ move ! (3 ∷ 0 ∷ []) $ join ! $ move ! (2 ∷ 0 ∷ []) $ join ! $ frame ! $ frame ! $
    feq_i ! _ (vunit ∷ []) _ refl $ done !)))
