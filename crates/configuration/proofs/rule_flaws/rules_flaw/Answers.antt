use Rattle.std.proofs.Common.{◌∙◌, ap₂}
use Rattle.std.specs.Option.{option_or}
use Rattle.configuration.specs.Flaws.{relay_flaw, address_flaw, users_flaw, lifetime_flaw, domain_flaw, duration_flaw, share_flaw, rules_flaw}
use Rattle.configuration.proofs.FlawLaws.{grouped_rules}
use Rattle.configuration.proofs.rule_flaws.rules_flaw.Goals as goal

pub returns : goal.returns
unfolding rules_flaw
returns c =
    let config = c.args.config.now in
    let a = c.or.ensures ∙ ap₂ option_or c.relay_flaw.ensures c.address_flaw.ensures in
    let b = c.or-2.ensures ∙ ap₂ option_or a c.users_flaw.ensures in
    let d = c.or-3.ensures ∙ ap₂ option_or b c.lifetime_flaw.ensures in
    let e = c.or-4.ensures ∙ ap₂ option_or d c.domain_flaw.ensures in
    let f = c.or-5.ensures ∙ ap₂ option_or e c.duration_flaw.ensures in
    c.or-6.ensures ∙ ap₂ option_or f c.share_flaw.ensures ∙ grouped_rules
    (relay_flaw config) (address_flaw config) (users_flaw config) (lifetime_flaw config) (domain_flaw config) (duration_flaw config) (share_flaw config)
