use Rattle.std.proofs.Common.{◌∙◌, set, position, sym, ap, subst}
use Rattle.registrar.specs.declared.user_bindings.UserBindings.{UserBindings}
use Rattle.registrar.specs.Registrar.{ListingContents, is_for, entries_with, with_bindings}
use Rattle.registrar.specs.Entries.{IsIndexed}
use Rattle.registrar.proofs.EntryLaws.{set_at_position}
use Rattle.registrar.proofs.PlaceLaws.{still_indexed}
use Rattle.registrar.proofs.entries.Entries.put_at.Goals as goal

pub returns-clause-entries : goal.returns-clause-entries
returns-clause-entries c =
    let es = c.self.inside.users.items in
    let user = c.args.user.now in
    let bs = c.args.bindings in
    ap (λ (e : UserBindings). set es c.args.place (with_bindings bs e)) c.index_mut.ensures.value
    ∙ set_at_position user bs es c.args.place c.index_mut.result.now (ap (λ (l : ListingContents). position (is_for user) l.entries) c.self.view_is ∙ c.requires)
    ∙ ap (λ (l : ListingContents). entries_with user bs l.entries) c.self.view_is

pub invariant_of-self : goal.invariant_of-self
invariant_of-self c =
    let es = c.self.inside.users.items in
    let names = c.self.inside.names.entries in
    let key = c.self.inside.key in
    let bs = c.args.bindings in
    subst (λ (e : UserBindings). IsIndexed key (set es c.args.place (with_bindings bs e)) names) (sym c.index_mut.ensures.value)
    (still_indexed key es names c.args.place bs c.index_mut.result.now c.self.invariant)
