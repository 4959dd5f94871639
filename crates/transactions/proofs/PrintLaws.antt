-- What a look-up looks for has its print: so the print decides nothing.
use Rattle.std.proofs.Common.{◌≡◌, ℕ, true, not, List, [], ◌∷◌, Option, Some, None, eqb, refl, ap, sym}
use Rattle.std.specs.Cmp.Lexicographic.{bytes_decides}
use Rattle.std.proofs.lemmas.Bool.{false≢true, and_parts, eq-eqb}
use Rattle.sip_message.specs.declared.message.Parts.{Parts}
use Rattle.sip_message.specs.declared.via.Via.{Via}
use Rattle.sip_message.specs.Words.{top_branch, tag_value}
use Rattle.transaction_machines.specs.Machines.{is_server}
use Rattle.transactions.specs.declared.transaction.Transaction.{Transaction}
use Rattle.transactions.specs.Matching.{is_copy, is_reply, is_merged_with, same_top}
use Rattle.index.specs.declared.print.PrintKey.{PrintKey}
use Rattle.index.specs.PrintKeys.{print_of}
use Rattle.transactions.specs.Prints.{print_by, branch_print, tag_print}
use Rattle.transactions.specs.Places.{has_branch, has_call, has_tag}
use Rattle.transactions.specs.Slots.{is_asked, is_answered, is_invite_server, is_named_invite, is_named, is_merged, is_waiting_invite, awaits_final}
use Rattle.transactions.proofs.ReplyLaws.{text_is}

-- ---- equal texts

top_prints : (key : PrintKey) (a b : List Via) → same_top a b ≡ true → branch_print key a ≡ branch_print key b
top_prints key [] [] h = refl
top_prints key [] (via ∷ more) h = absurd (false≢true h)
top_prints key (via ∷ more) [] h = absurd (false≢true h)
top_prints key (a ∷ more) (b ∷ others) h =
    ap (print_by key) (text_is (top_branch (a ∷ more)) (top_branch (b ∷ others)) (and_parts _ _ h).0)

same_print : (a b : ℕ) → a ≡ b → eqb a b ≡ true
same_print a b e = eq-eqb a b e

same_top_has : (key : PrintKey) (t : Transaction) (vias : List Via) → same_top t.parts.vias vias ≡ true → has_branch key (branch_print key vias) (Some t) ≡ true
same_top_has key t vias top =
    same_print (branch_print key t.parts.vias) (branch_print key vias) (top_prints key t.parts.vias vias top)

-- ---- what is looked for is under its print

pub asked_has : (key : PrintKey) (parts : Parts) (slot : Option Transaction) → is_asked parts slot ≡ true → has_branch key (branch_print key parts.vias) slot ≡ true
unfolding is_asked is_copy
asked_has key parts None h = absurd (false≢true h)
asked_has key parts (Some t) h =
    let both = and_parts (is_server t.state) _ h in
    same_top_has key t parts.vias (and_parts _ (same_top t.parts.vias parts.vias) both.1).1

pub answered_has : (key : PrintKey) (parts : Parts) (slot : Option Transaction) → is_answered parts slot ≡ true → has_branch key (branch_print key parts.vias) slot ≡ true
unfolding is_answered is_reply
answered_has key parts None h = absurd (false≢true h)
answered_has key parts (Some t) h =
    let both = and_parts (not (is_server t.state)) _ h in
    let branch = (and_parts _ _ (and_parts _ _ both.1).0).0 in
    same_print (branch_print key t.parts.vias) (branch_print key parts.vias) (ap (print_by key) (sym (text_is (top_branch parts.vias) (top_branch t.parts.vias) branch)))

pub named_invite_has : (key : PrintKey) (parts : Parts) (slot : Option Transaction) → is_named_invite parts slot ≡ true → has_branch key (branch_print key parts.vias) slot ≡ true
unfolding is_named_invite
named_invite_has key parts None h = absurd (false≢true h)
named_invite_has key parts (Some t) h = same_top_has key t parts.vias (and_parts (is_invite_server t.state) _ h).1

pub named_has : (key : PrintKey) (parts : Parts) (slot : Option Transaction) → is_named parts slot ≡ true → has_branch key (branch_print key parts.vias) slot ≡ true
unfolding is_named
named_has key parts None h = absurd (false≢true h)
named_has key parts (Some t) h = same_top_has key t parts.vias (and_parts _ (same_top t.parts.vias parts.vias) h).1

pub merged_has : (key : PrintKey) (parts : Parts) (slot : Option Transaction) → is_merged parts slot ≡ true → has_call key (print_of key parts.call_id) slot ≡ true
unfolding is_merged is_merged_with
merged_has key parts None h = absurd (false≢true h)
merged_has key parts (Some t) h =
    let both = and_parts (is_server t.state) _ h in
    let ids = (and_parts _ _ (and_parts _ _ (and_parts _ _ (and_parts _ _ both.1).0).0).0).0 in
    same_print (print_of key t.parts.call_id) (print_of key parts.call_id) (ap (print_of key) (sym ((bytes_decides parts.call_id t.parts.call_id).0 ids)))

pub waiting_has : (key : PrintKey) (tag : List ℕ) (slot : Option Transaction) → is_waiting_invite tag slot ≡ true → has_tag key (print_of key tag) slot ≡ true
unfolding is_waiting_invite
waiting_has key tag None h = absurd (false≢true h)
waiting_has key tag (Some t) h =
    same_print (tag_print key t.parts.from.params) (print_of key tag) (ap (print_by key) (text_is (tag_value t.parts.from.params) (Some tag) (and_parts (awaits_final t.state) _ h).1))
