use Rattle.std.proofs.Common.{rules, ◌≡◌, ◌∙◌, ap}
use Rattle.std.specs.Map.{keys_of}
use Rattle.configuration.proofs.FlawLaws.{unknown_among, unknown_keys}
use Rattle.configuration.proofs.key_flaws.unknown_key.Goals as goal

pub loop-key-init : goal.loop-key-init
loop-key-init c =
    let all : c.into_iter-key-iterator.result ≡ keys_of c.args.table.now.entries = search rules in
    record { can_next = tt; is_finite = tt; left = ap unknown_among all ∙ unknown_keys c.args.table.now.entries }
