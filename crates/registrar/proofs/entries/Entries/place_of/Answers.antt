use Rattle.std.proofs.Common.{◌∙◌, List, find, position, slice_get, option_map, ap}
use Rattle.index.specs.declared.index.Entry.{Entry}
use Rattle.registrar.specs.declared.user_bindings.UserBindings.{UserBindings}
use Rattle.registrar.specs.Registrar.{ListingContents, is_for}
use Rattle.index.specs.PrintKeys.{print_of}
use Rattle.registrar.specs.Entries.{places_of, is_at}
use Rattle.registrar.proofs.PlaceLaws.{first_found, place_within}
use Rattle.registrar.proofs.entries.Entries.place_of.Goals as goal

pub returns-clause-place : goal.returns-clause-place
returns-clause-place c =
    let es = c.self.inside.users.items in
    let key = c.self.inside.key in
    let user = c.args.user.now in
    let named = c.numbers.result.now in
    let print = c.print_of.ensures ∙ ap (print_of key) c.as_bytes.ensures in
    c.first_of.ensures
    ∙ ap (λ (l : List UserBindings). option_map (λ (n : Entry). n.number) (find (λ n. is_at user (slice_get l n.number)) named)) c.deref.ensures.value
    ∙ first_found key user es named (c.numbers.ensures.numbers ∙ c.self.invariant c.print_of.result ∙ ap (λ n. places_of key n 0 es) print)
    ∙ ap (λ (l : ListingContents). position (is_for user) l.entries) c.self.view_is

pub returns-clause-bound : goal.returns-clause-bound
returns-clause-bound c = place_within c.args.user.now c.args.self.now.entries c.first_of.result (returns-clause-place c)
