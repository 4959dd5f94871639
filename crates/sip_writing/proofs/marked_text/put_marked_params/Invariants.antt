use Rattle.std.proofs.Common.{◌≡◌, ◌++◌, drop}
use Rattle.sip_writing.specs.MarkedText.{marked_params_text}
use Rattle.sip_writing.proofs.marked_text.put_marked_params.Given as goal

-- what is written, and what is left to write, is the whole
abbrev pub invariant-loop-param : goal.invariant-loop-param
invariant-loop-param l = l.out.items ++ marked_params_text l.empty l.port (drop l.param-index l.params) ≡ l.fn.out.items ++ marked_params_text l.asked l.port l.params
