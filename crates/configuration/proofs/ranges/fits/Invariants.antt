use Rattle.std.proofs.Common.{◌≡◌, drop}
use Rattle.configuration.specs.Ranges.{fits}
use Rattle.configuration.proofs.ranges.fits.Given as goal

-- the texts that are left fit into the room that is left exactly if all fit
abbrev pub invariant-loop-text : goal.invariant-loop-text
invariant-loop-text l = fits l.left (drop l.text-index l.texts) ≡ fits l.room l.texts
