-- The silent ends that are reported, with those of a further call.
use Rattle.std.proofs.Common.{◌≡◌, ℕ, ◌+◌, ◌<◌, List, [], ◌∷◌, ◌++◌, length, take, drop, get_or, set, map, sym, ap, ◌∙◌, subst}
use Rattle.std.specs.List.{AllZip, flat_map}
use Rattle.std.proofs.lemmas.List.{append-nil, map-append, take_more, take_more_set}
use Rattle.std.proofs.lemmas.List.Concat.{flat_map-append}
use Rattle.call_traffic.specs.declared.call_traffic.CallTraffic.{CallTraffic}
use Rattle.call_traffic.specs.declared.silent_way.SilentWay.{SilentWay}
use Rattle.call_traffic.specs.SilentWays.{TellsAll, TellsCall, Told}
use Rattle.call_traffic.proofs.EachLaws.{next_is, within, zip_push}

pub tells_more : (now : ℕ) (befores nows : List CallTraffic) (i : ℕ) (d is : CallTraffic) (ways told after : List SilentWay) → i < length nows → drop i nows ≡ drop i befores →
    TellsAll now (take i befores) (take i nows) ways → TellsCall now (get_or nows i d) is told → after ≡ ways ++ told → TellsAll now (take (i + 1) befores) (take (i + 1) (set nows i is)) after
tells_more now befores nows i d is ways told after less rest all here more =
    let next : Told = record { call = is; ways = told } in
    let Tells : CallTraffic → Told → Type 0 = λ call t. TellsCall now call t.call t.ways in
    record {
      each = all.each ++ next ∷ [];
      tells = subst (λ xs. AllZip Tells xs (all.each ++ next ∷ [])) (sym (take_more befores i d (within befores nows i less rest)))
          (zip_push Tells (take i befores) all.each (get_or befores i d) next all.tells (subst (λ x. TellsCall now x is told) (next_is befores nows i d rest) here));
      calls = take_more_set nows i is less ∙ ap (λ cs. cs ++ is ∷ []) all.calls ∙ sym (map-append (λ t. t.call) all.each (next ∷ []));
      told = more ∙ ap (λ ws. ws ++ told) all.told ∙ ap (λ ws. flat_map (λ t. t.ways) all.each ++ ws) (sym (append-nil told)) ∙ sym (flat_map-append (λ t. t.ways) all.each (next ∷ []));
    }
