-- Numbers for what a transaction is looked up by. Equal texts have equal prints, so one with another print is passed by
-- without a look at its parts. No result depends on them, nor on their key.
use Rattle.std.specs.Prelude.{ℕ, ◌+◌, List, Option, Some, None, if◌then◌else◌}
use Rattle.index.specs.declared.print.PrintKey.{PrintKey}
use Rattle.index.specs.PrintKeys.{print_of}
use Rattle.sip_uri.specs.declared.uri.Param.{Param}
use Rattle.sip_message.specs.declared.via.Via.{Via}
use Rattle.sip_message.specs.Words.{top_branch, tag_value}
use Rattle.transaction_machines.specs.Machines.{is_server}
use Rattle.transactions.specs.Shares.{ip_number}
use Rattle.transactions.specs.declared.print.Prints.{Prints}
use Rattle.transactions.specs.declared.transaction.Transaction.{Transaction}

abbrev pub print_by : PrintKey → Option (List ℕ) → ℕ
print_by key None = 0
print_by key (Some bytes) = print_of key bytes

-- of the branch of the top Via
abbrev pub branch_print : PrintKey → List Via → ℕ
branch_print key vias = print_by key (top_branch vias)

-- of the tag of From
abbrev pub tag_print : PrintKey → List Param → ℕ
tag_print key params = print_by key (tag_value params)

-- of an address: its number, and one more, so that it is not 0
abbrev pub ip_print : List ℕ → ℕ
ip_print ip = 1 + ip_number ip

-- of the address that a server transaction's request came from; 0 of a request of the server's own
abbrev pub source_print : Transaction → ℕ
source_print t = if is_server t.state then ip_print t.place.ip else 0

-- of a place of the table: a place without a transaction has no prints
abbrev pub prints_at : PrintKey → Option Transaction → Prints
prints_at key None = record { branch = 0; call = 0; tag = 0; source = 0 }
prints_at key (Some t) = record {
  branch = branch_print key t.parts.vias;
  call = print_of key t.parts.call_id;
  tag = tag_print key t.parts.from.params;
  source = source_print t;
}
