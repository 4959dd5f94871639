-- A print of a branch that is known from the look-up, so that a transaction that begins is placed without making it
-- again.
use Rattle.std.specs.Prelude.{◌≡◌, List, Option, Some, None}
use Rattle.sip_message.specs.declared.via.Via.{Via}
use Rattle.transactions.specs.declared.change.Entry.{Entry}
use Rattle.transactions.specs.declared.change.Entry.TheVariants.{Opens, Tells, Answers, Leaves}
use Rattle.transactions.specs.declared.print.BranchPrint.{BranchPrint}
use Rattle.transactions.specs.Prints.{branch_print}

-- if one is known, it is that of the top Via's branch
abbrev pub IsPrintOf : Option BranchPrint → List Via → Type 0
IsPrintOf None vias = Unit {0}
IsPrintOf (Some p) vias = p.print ≡ branch_print p.key vias

-- the same, of the transaction that a change begins
abbrev pub IsKnown : Option BranchPrint → Entry → Type 0
IsKnown known (Opens t starts) = IsPrintOf known t.parts.vias
IsKnown known (Tells id input fresh) = Unit {0}
IsKnown known (Answers id class bytes) = Unit {0}
IsKnown known Leaves = Unit {0}
