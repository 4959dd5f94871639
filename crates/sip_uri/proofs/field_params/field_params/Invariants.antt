use Rattle.std.proofs.Common.{◌≡◌, Some}
use Rattle.std.specs.Option.{option_copied}
use Rattle.sip_uri.specs.FieldParams.{field_params_read}
use Rattle.sip_uri.proofs.FieldLaws.{left_length, read_behind}
use Rattle.sip_uri.proofs.field_params.field_params.Given as goal

-- the parameters so far, and those of what is left
abbrev pub invariant-loop-left : goal.invariant-loop-left
invariant-loop-left l = read_behind l.params.items (option_copied l.left) ≡ field_params_read (Some l.text)

abbrev pub decreases-loop-left : goal.decreases-loop-left
decreases-loop-left l = left_length (option_copied l.left)
