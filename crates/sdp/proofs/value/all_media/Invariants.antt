use Rattle.std.proofs.Common.{◌≡◌, ◌++◌, map, length}
use Rattle.sdp.specs.Lines.{texts}
use Rattle.sdp.specs.Order.{groups}
use Rattle.sdp.specs.Reading.{media_of}
use Rattle.sdp.proofs.value.all_media.Given as goal

-- the media so far, and those of what is left
abbrev pub invariant-loop-rest : goal.invariant-loop-rest
invariant-loop-rest l = l.media.items ++ map media_of (groups (texts l.rest)) ≡ map media_of (groups (texts l.lines))

abbrev pub decreases-loop-rest : goal.decreases-loop-rest
decreases-loop-rest l = length l.rest
