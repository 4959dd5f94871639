use Rattle.std.proofs.Common.{[], sym, subst}
use Rattle.registrar.specs.Registrar.{ListingContents, StandsAfter, rules_given}
use Rattle.registrar.proofs.Standing.{stands_new}
use Rattle.registrar.proofs.registrar.Registrar.new.Goals as goal

pub returns-clause-stands : goal.returns-clause-stands
returns-clause-stands c =
    subst (λ (l : ListingContents). StandsAfter (record { entries = l.entries; ip = c.args.ip; sip_port = c.args.sip_port; domain = c.args.domain; binding_rules = c.args.binding_rules; key = l.key }) (rules_given c.args.users c.args.ip c.args.sip_port c.args.domain c.args.binding_rules) [])
    (sym c.in_ok-entries.ensures)
    (stands_new c.args.users c.args.ip c.args.sip_port c.args.domain c.args.binding_rules c.args.key)
