use Rattle.std.proofs.Common.{◌∙◌, sym, ap, is_some}
use Rattle.text.proofs.Lists.{is_some-position}
use Rattle.registrar.specs.Registrar.{is_for}
use Rattle.registrar.proofs.EntryLaws.{none_changed}
use Rattle.registrar.proofs.entries.Entries.put_bindings.Goals as goal

pub returns-in_default-clause-entries : goal.returns-in_default-clause-entries
returns-in_default-clause-entries c =
    let none = sym (is_some-position (is_for c.args.user.now) c.args.self.now.entries) ∙ ap is_some (sym c.place_of.ensures.place ∙ c.in_default.is) in
    sym (none_changed c.args.self.now.entries c.args.user.now c.args.bindings none)
