use Rattle.std.proofs.Common.{◌≡◌, ◌++◌, map}
use Rattle.std.specs.List.{zip}
use Rattle.agent_status.specs.Sessions.{media_of, medium_status}
use Rattle.agent_status.proofs.media.media_of.Given as goal

-- the media so far and those of what is left are all
abbrev pub invariant-loop-offered : goal.invariant-loop-offered
invariant-loop-offered l = l.media.items ++ map (λ p. medium_status l.session.offerer l.session.offer_taken p.0 l.session.answer_taken p.1) (zip l.offered-iterator.a.rest.now l.offered-iterator.b.rest.now) ≡ media_of l.session
