use Rattle.std.proofs.Common.{◌∙◌, ◌<◌, length, ap, sym}
use Rattle.std.specs.List.{position}
use Rattle.std.proofs.lemmas.Bool.{ltb-true}
use Rattle.index.specs.PrintKeys.{print_of}
use Rattle.sip_message.specs.Words.{tag_text}
use Rattle.calls.specs.Finding.{is_of_end}
use Rattle.calls.specs.Tags.{has_print_at, prints_of}
use Rattle.calls.proofs.KeptLaws.{read_at}
use Rattle.calls.proofs.TagLaws.{none_passes, first_passes, end_passes}
use Rattle.calls.proofs.lookup.first_of_end.Goals as goal

pub returns-in_err-place : goal.returns-in_err-place
returns-in_err-place c =
    let parts = c.args.request.now.parts in
    let end = c.args.end in
    let key = c.args.key in
    let print = c.print_of-print.ensures ∙ ap (print_of key) (c.tag_text.ensures.tag ∙ ap tag_text c.as_slice.ensures) in
    let found = c.place_at.ensures ∙ ap (λ n. position (has_print_at end n) c.args.tags.now) print in
    c.from_residual.ensures
    ∙ sym (none_passes (prints_of key) (is_of_end end parts) (has_print_at end (print_of key (tag_text parts.to.params))) (end_passes key end parts) c.args.calls.now c.args.tags.now c.requires
    (sym found ∙ c.in_err-place.was))

pub returns-in-Some : goal.returns-in-Some
returns-in-Some c =
    let parts = c.args.request.now.parts in
    let end = c.args.end in
    let key = c.args.key in
    let calls = c.args.calls.now in
    let place = c.in_ok-place.place in
    let within : place < length calls = ltb-true place (length calls) (sym c.in-Some.ensures.lookup.0) in
    let read = read_at calls place c.in-Some.call.now within c.in-Some.ensures.lookup.1 in
    let passed = sym c.is_of_end.ensures ∙ c.if-is_of_end.true in
    let print = c.print_of-print.ensures ∙ ap (print_of key) (c.tag_text.ensures.tag ∙ ap tag_text c.as_slice.ensures) in
    let found = c.place_at.ensures ∙ ap (λ n. position (has_print_at end n) c.args.tags.now) print in
    sym (first_passes (prints_of key) (is_of_end end parts) (has_print_at end (print_of key (tag_text parts.to.params))) (end_passes key end parts) calls c.args.tags.now place c.in-Some.call.now
    c.requires (sym found ∙ c.in_ok-place.was) read passed)
