use Rattle.std.proofs.lemmas.Result.{err_from_is_err_and}
use Rattle.transactions.proofs.table.Table.enter_alone.Goals as goal

pub returns-in_err-make_room_for-clause-needed : goal.returns-in_err-make_room_for-clause-needed
returns-in_err-make_room_for-clause-needed c =
    let p = err_from_is_err_and c.from_residual.result c.from_residual.ensures.1 in
    rw (p.1, ← c.self.view_is) c.in_err-make_room_for.ensures.needed
