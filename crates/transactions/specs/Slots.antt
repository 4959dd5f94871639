-- Transactions by their numbers: place i has the transaction with the number i, or none.
use Rattle.std.specs.Prelude.{ℕ, Bool, true, false, not, ◌&&◌, List, codes, Option, Some, None, position, is_none, count_by}
use Rattle.std.specs.List.{position_or_len, slice_index_or}
use Rattle.sip_uri.specs.Binding.{same_text}
use Rattle.sip_message.specs.declared.message.Parts.{Parts}
use Rattle.transaction_machines.specs.declared.invite_client.InviteClient.TheVariants.{Calling, Proceeding, Completed, Accepted}
use Rattle.transaction_machines.specs.declared.state.State.{State}
use Rattle.transaction_machines.specs.declared.state.State.TheVariants.{InviteClient, InviteServer, OtherClient, OtherServer}
use Rattle.transactions.specs.declared.transaction.Transaction.{Transaction}
use Rattle.transaction_machines.specs.Machines.{is_server}
use Rattle.sip_message.specs.Words.{is_method, tag_value}
use Rattle.transactions.specs.Matching.{is_copy, is_reply, is_merged_with, same_top}

-- the transaction of a number
abbrev pub at : List (Option Transaction) → ℕ → Option Transaction
at slots id = slice_index_or slots id None

-- the least number that no transaction has
abbrev pub free_number : List (Option Transaction) → ℕ
free_number slots = position_or_len is_none slots

-- a server transaction that the request belongs to
unfoldable pub is_asked : Parts → Option Transaction → Bool
is_asked parts None = false
is_asked parts (Some t) = is_server t.state && is_copy parts t.parts

-- a client transaction whose request the response is one to
unfoldable pub is_answered : Parts → Option Transaction → Bool
is_answered parts None = false
is_answered parts (Some t) = not (is_server t.state) && is_reply parts t.parts

abbrev pub is_invite_server : State → Bool
is_invite_server (InviteServer state) = true
is_invite_server (InviteClient state) = false
is_invite_server (OtherClient state) = false
is_invite_server (OtherServer state) = false

-- the server transaction of an INVITE with the branch and sent-by of a CANCEL (section 9.2)
unfoldable pub is_named_invite : Parts → Option Transaction → Bool
is_named_invite parts None = false
is_named_invite parts (Some t) = is_invite_server t.state && same_top t.parts.vias parts.vias

-- a server transaction with the branch and sent-by of a CANCEL, which is none of a CANCEL
unfoldable pub is_named : Parts → Option Transaction → Bool
is_named parts None = false
is_named parts (Some t) = is_server t.state && not (is_method (codes "CANCEL") t.parts) && same_top t.parts.vias parts.vias

abbrev pub first_of : Option ℕ → Option ℕ → Option ℕ
first_of (Some id) other = Some id
first_of None other = other

-- the transaction that a CANCEL names: the INVITE's, else the one with the least number
abbrev pub named : List (Option Transaction) → Parts → Option ℕ
named slots parts = first_of (position (is_named_invite parts) slots) (position (is_named parts) slots)

-- a server transaction of the same request, which came on another way
unfoldable pub is_merged : Parts → Option Transaction → Bool
is_merged parts None = false
is_merged parts (Some t) = is_server t.state && is_merged_with parts t.parts

unfoldable pub is_serving : Option Transaction → Bool
is_serving None = false
is_serving (Some t) = is_server t.state

-- how many server transactions there are
abbrev pub serving : List (Option Transaction) → ℕ
serving slots = count_by is_serving slots

-- an INVITE of the server's own that has no final response
abbrev pub awaits_final : State → Bool
awaits_final (InviteClient (Calling interval abandoned)) = true
awaits_final (InviteClient Proceeding) = true
awaits_final (InviteClient Completed) = false
awaits_final (InviteClient Accepted) = false
awaits_final (InviteServer state) = false
awaits_final (OtherClient state) = false
awaits_final (OtherServer state) = false

unfoldable pub is_waiting_invite : List ℕ → Option Transaction → Bool
is_waiting_invite tag None = false
is_waiting_invite tag (Some t) = awaits_final t.state && same_text (tag_value t.parts.from.params) (Some tag)

-- the INVITE of the server's own with this tag in From that has no final response
abbrev pub waiting_invite : List (Option Transaction) → List ℕ → Option ℕ
waiting_invite slots tag = position (is_waiting_invite tag) slots
