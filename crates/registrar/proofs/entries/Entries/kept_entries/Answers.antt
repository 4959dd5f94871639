use Rattle.std.proofs.Common.{arith, add-one}
use Rattle.registrar.specs.Changes.{kept_entry}
use Rattle.registrar.proofs.PresentLaws.{map_more}
use Rattle.registrar.proofs.entries.Entries.kept_entries.Goals as goal

pub loop-user-preserved : goal.loop-user-preserved
loop-user-preserved c =
    let more = map_more (kept_entry c.args.self.now.entries) c.args.users.now c.loop-user.user-index c.user-item.result (omega arith) c.user-item.is in
    rw add-one (cc (more, c.in_ok-kept_entry.ensures, c.in_ok-push.ensures.items))
