use Rattle.std.proofs.Common.{ap, ◌∙◌, refl, Some, None}
use Rattle.port_pool.specs.Limits.{ports}
use Rattle.port_pool.proofs.SlotLaws.{rows_of, rows_of-none}
use Rattle.port_pool.proofs.relay_table.RelayTable.new.Goals as goal

pub returns : goal.returns
returns c = ap rows_of (c.in_ok-vec.ensures.items_if_clones_equal (elim [ None ↦ λ h. refl | Some x ↦ λ h. absurd h ])) ∙ rows_of-none ports
