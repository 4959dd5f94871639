use Rattle.std.proofs.Common.{◌∙◌, ◌<◌, length, ap, sym}
use Rattle.std.specs.List.{position}
use Rattle.std.proofs.lemmas.Bool.{ltb-true}
use Rattle.index.specs.PrintKeys.{print_of}
use Rattle.calls.specs.Finding.{has_tag}
use Rattle.calls.specs.Tags.{has_print, prints_of}
use Rattle.calls.proofs.KeptLaws.{read_at}
use Rattle.calls.proofs.TagLaws.{none_passes, first_passes, tag_passes}
use Rattle.calls.proofs.lookup.first_of_tag.Goals as goal

pub returns-in_err-place : goal.returns-in_err-place
returns-in_err-place c =
    let tag = c.args.tag.now in
    let key = c.args.key in
    let found = c.place_of.ensures ∙ ap (λ n. position (has_print n) c.args.tags.now) c.print_of.ensures in
    c.from_residual.ensures
    ∙ sym (none_passes (prints_of key) (has_tag tag) (has_print (print_of key tag)) (tag_passes key tag) c.args.calls.now c.args.tags.now c.requires (sym found ∙ c.in_err-place.was))

pub returns-in-Some : goal.returns-in-Some
returns-in-Some c =
    let tag = c.args.tag.now in
    let key = c.args.key in
    let calls = c.args.calls.now in
    let place = c.in_ok-place.place in
    let within : place < length calls = ltb-true place (length calls) (sym c.in-Some.ensures.lookup.0) in
    let read = read_at calls place c.in-Some.call.now within c.in-Some.ensures.lookup.1 in
    let passed = sym c.has_tag.ensures ∙ c.if-has_tag.true in
    let found = c.place_of.ensures ∙ ap (λ n. position (has_print n) c.args.tags.now) c.print_of.ensures in
    sym (first_passes (prints_of key) (has_tag tag) (has_print (print_of key tag)) (tag_passes key tag) calls c.args.tags.now place c.in-Some.call.now c.requires (sym found ∙ c.in_ok-place.was) read passed)
