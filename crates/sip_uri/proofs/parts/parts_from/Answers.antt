use Rattle.std.proofs.Common.{sym}
use Rattle.std.specs.Option.{option_copied}
use Rattle.sip_uri.proofs.HostAlone.{host_alone}
use Rattle.sip_uri.proofs.parts.parts_from.Goals as goal

pub returns-then-has_no_mark : goal.returns-then-has_no_mark
returns-then-has_no_mark c = sym (host_alone (option_copied c.args.user) c.args.rest.now (sym c.if-has_no_mark.ensures))
