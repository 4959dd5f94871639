use Rattle.std.proofs.Common.{◌≡◌, ◌++◌, drop}
use Rattle.offer_answer.specs.Readdressing.{readdressed_media}
use Rattle.offer_answer.proofs.sent_description.readdressed_media.Given as goal

-- the media so far and those of what is left are all
abbrev pub invariant-loop-i : goal.invariant-loop-i
invariant-loop-i l = l.told.items ++ readdressed_media l.ip (drop l.i l.ports) (drop l.i l.media) ≡ readdressed_media l.ip l.ports l.media
