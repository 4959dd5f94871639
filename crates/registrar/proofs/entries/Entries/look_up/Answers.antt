use Rattle.std.proofs.Common.{◌∙◌, position, is_some, sym, ap}
use Rattle.registrar.specs.declared.user_bindings.UserBindings.{UserBindings}
use Rattle.registrar.specs.Registrar.{ListingContents, is_for, bindings_of}
use Rattle.registrar.proofs.EntryLaws.{one_of_entries}
use Rattle.registrar.proofs.PlaceLaws.{bindings_at_place, no_bindings}
use Rattle.registrar.proofs.entries.Entries.look_up.Goals as goal

pub returns-in-Some-clause-known : goal.returns-in-Some-clause-known
returns-in-Some-clause-known c = ap is_some c.in-Some.ensures.place ∙ sym (one_of_entries c.args.self.now.entries c.args.user.now)

pub returns-in-Some-clause-bindings : goal.returns-in-Some-clause-bindings
returns-in-Some-clause-bindings c =
    let user = c.args.user.now in
    c.as_slice.ensures ∙ ap (λ (e : UserBindings). e.bindings) c.index.ensures
    ∙ bindings_at_place user c.self.inside.users.items c.in-Some.place c.index.result.now (ap (λ (l : ListingContents). position (is_for user) l.entries) c.self.view_is ∙ sym c.in-Some.ensures.place)
    ∙ ap (λ (l : ListingContents). bindings_of l.entries user) c.self.view_is

pub returns-in-None-clause-known : goal.returns-in-None-clause-known
returns-in-None-clause-known c = ap is_some c.in-None.ensures.place ∙ sym (one_of_entries c.args.self.now.entries c.args.user.now)

pub returns-in-None-clause-bindings : goal.returns-in-None-clause-bindings
returns-in-None-clause-bindings c = no_bindings c.args.user.now c.args.self.now.entries (sym c.in-None.ensures.place)
