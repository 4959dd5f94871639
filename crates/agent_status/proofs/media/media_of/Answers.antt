use Rattle.std.proofs.Common.{◌∙◌, ◌++◌, ap, sym}
use Rattle.std.proofs.lemmas.List.{append-nil}
use Rattle.std.proofs.lemmas.Slice.Zip.{either_empty_from_Zip}
use Rattle.agent_status.specs.Sessions.{medium_status}
use Rattle.agent_status.proofs.ZipLaws.{nothing_left}
use Rattle.agent_status.proofs.media.media_of.Goals as goal

pub returns : goal.returns
returns c =
    let s = c.args.session.now in
    let none = nothing_left (λ p. medium_status s.offerer s.offer_taken p.0 s.answer_taken p.1) _ _ (either_empty_from_Zip c.loop-offered.offered-iterator c.next.new.self c.next.result c.in-None.is c.next.ensures.steps) in
    sym (append-nil c.loop-offered.media.items) ∙ ap (λ l. c.loop-offered.media.items ++ l) (sym none) ∙ c.loop-offered.invariant
