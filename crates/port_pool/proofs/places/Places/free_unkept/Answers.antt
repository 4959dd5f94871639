use Rattle.std.proofs.Common.{◌≡◌, ◌+◌, ◌<◌, ◌∙◌, false, true, length, get_or, refl, sym, ap, arith}
use Prim.Native.Nat.{suc}
use Rattle.index.specs.declared.index.Entry.{Entry}
use Rattle.port_pool.specs.Holdings.{is_among, freed_at}
use Rattle.port_pool.specs.Places.{no_holding, kept_from}
use Rattle.port_pool.proofs.CallLaws.{entry_within, entries_many, kth_held, places_fewer, kept_here, kept_behind, other_is, freed_same}
use Rattle.port_pool.proofs.places.Places.free_unkept.Goals as goal

abbrev no_entry : Entry
no_entry = record { print = 0; number = 0 }

pub even_at-even-requires : goal.even_at-even-requires
even_at-even-requires c =
    let place = (get_or c.of_call.result.now c.args.k no_entry).number in
    let less : c.args.k < length c.of_call.result.now = (let many = entries_many c.args.self.now c.args.call c.of_call.result.now c.of_call.ensures in omega (arith, many, c.requires)) in
    let kth = entry_within c.args.self.now c.args.call c.of_call.result.now c.args.k no_entry c.of_call.ensures less in
    (kth_held c.args.call c.args.self.now 0 c.args.k place no_holding kth).0

pub free-requires : goal.free-requires
free-requires c =
    let place = (get_or c.of_call.result.now c.args.k no_entry).number in
    let less : c.args.k < length c.of_call.result.now = (let many = entries_many c.args.self.now c.args.call c.of_call.result.now c.of_call.ensures in omega (arith, many, c.requires)) in
    let kth = entry_within c.args.self.now c.args.call c.of_call.result.now c.args.k no_entry c.of_call.ensures less in
    (kth_held c.args.call c.args.self.now 0 c.args.k place no_holding kth).0

pub returns-then-not-is_among-clause-same : goal.returns-then-not-is_among-clause-same
returns-then-not-is_among-clause-same c =
    let place = (get_or c.of_call.result.now c.args.k no_entry).number in
    let less : c.args.k < length c.of_call.result.now = (let many = entries_many c.args.self.now c.args.call c.of_call.result.now c.of_call.ensures in omega (arith, many, c.requires)) in
    let kth = entry_within c.args.self.now c.args.call c.of_call.result.now c.args.k no_entry c.of_call.ensures less in
    let held = kth_held c.args.call c.args.self.now 0 c.args.k place no_holding kth in
    let out : is_among c.args.kept.now (get_or c.args.self.now place no_holding).even ≡ false = ap (is_among c.args.kept.now) (sym c.even_at-even.ensures.even) ∙ sym c.is_among.ensures ∙ c.if-not-is_among.true in
    rw c.free.ensures (freed_same c.args.call c.args.kept.now c.args.now c.args.self.now place no_holding held.0 (other_is c.args.call c.args.kept.now (get_or c.args.self.now place no_holding) held.1 out))

pub returns-then-not-is_among-clause-before : goal.returns-then-not-is_among-clause-before
returns-then-not-is_among-clause-before c =
    let place = (get_or c.of_call.result.now c.args.k no_entry).number in
    let less : c.args.k < length c.of_call.result.now = (let many = entries_many c.args.self.now c.args.call c.of_call.result.now c.of_call.ensures in omega (arith, many, c.requires)) in
    let kth = entry_within c.args.self.now c.args.call c.of_call.result.now c.args.k no_entry c.of_call.ensures less in
    let held = kth_held c.args.call c.args.self.now 0 c.args.k place no_holding kth in
    let fewer = places_fewer c.args.call (freed_at c.args.now) no_holding c.args.self.now place held.0 held.1 refl in
    rw c.free.ensures (omega (arith, fewer, c.requires))

pub returns-then-not-is_among-clause-behind : goal.returns-then-not-is_among-clause-behind
returns-then-not-is_among-clause-behind c =
    let place = (get_or c.of_call.result.now c.args.k no_entry).number in
    let less : c.args.k < length c.of_call.result.now = (let many = entries_many c.args.self.now c.args.call c.of_call.result.now c.of_call.ensures in omega (arith, many, c.requires)) in
    let kth = entry_within c.args.self.now c.args.call c.of_call.result.now c.args.k no_entry c.of_call.ensures less in
    let next : suc c.args.k ≡ c.args.k + 1 = omega arith in
    λ behind. rw c.free.ensures (kept_behind c.args.call c.args.kept.now c.args.now c.args.self.now 0 c.args.k place kth (ap (λ m. kept_from c.args.call c.args.kept.now m c.args.self.now) next ∙ behind))

pub returns-else-not-is_among-clause-behind : goal.returns-else-not-is_among-clause-behind
returns-else-not-is_among-clause-behind c =
    let place = (get_or c.of_call.result.now c.args.k no_entry).number in
    let less : c.args.k < length c.of_call.result.now = (let many = entries_many c.args.self.now c.args.call c.of_call.result.now c.of_call.ensures in omega (arith, many, c.requires)) in
    let kth = entry_within c.args.self.now c.args.call c.of_call.result.now c.args.k no_entry c.of_call.ensures less in
    let next : suc c.args.k ≡ c.args.k + 1 = omega arith in
    let here : is_among c.args.kept.now (get_or c.args.self.now place no_holding).even ≡ true = ap (is_among c.args.kept.now) (sym c.even_at-even.ensures.even) ∙ sym c.is_among.ensures ∙ c.if-not-is_among.false in
    λ behind. kept_here c.args.call c.args.kept.now c.args.self.now 0 c.args.k place no_holding kth here (ap (λ m. kept_from c.args.call c.args.kept.now m c.args.self.now) next ∙ behind)
