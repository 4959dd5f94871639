-- The transaction that a new request begins is of that request after the event.
use Rattle.std.proofs.Common.{◌≡◌, ◌∙◌, ℕ, Bool, false, cond, List, [], ◌∷◌, ◌++◌, Option, Some, None, position, ap, sym, inl, inr}
use Rattle.sip_message.specs.Words.{is_method}
use Rattle.std.specs.Prelude.{codes, true}
use Rattle.sip_message.specs.declared.message.Message.TheVariants as Kinds
use Rattle.sip_message.specs.declared.message.Request.{Request}
use Rattle.sip_uri.specs.declared.uri.Addr.{Addr}
use Rattle.transaction_machines.specs.Machines.{is_server}
use Rattle.transaction_machines.specs.declared.step.Starts.TheVariants.{NoTimer}
use Rattle.transactions.specs.Changes.{change_of, entered_all, request_change}
use Rattle.transactions.specs.Contents.{reception_of}
use Rattle.transactions.specs.Slots.{is_asked}
use Rattle.transactions.specs.Transactions.{served}
use Rattle.transactions.specs.declared.change.Entry.{Entry}
use Rattle.transactions.specs.declared.change.Entry.TheVariants.{Leaves, Opens}
use Rattle.transactions.specs.declared.outcome.Verdict.TheVariants as verdicts
use Rattle.transactions.specs.declared.transaction.Transaction.{Transaction}
use Rattle.plans.specs.Office.{Office}
use Rattle.plans.specs.declared.setting.Setting.{Setting}
use Rattle.message_laws.specs.Askers.{IsUnanswered}
use Rattle.message_laws.specs.Numbers.{begun_of}
use Rattle.message_laws.specs.OpenRequests.{IsAmong}
use Rattle.message_laws.proofs.Askers.AskerEvents.{new_begun}
use Rattle.message_laws.proofs.AwaitedOffers.Coming.{OpensIn}
use Rattle.message_laws.proofs.StandingCalls.OpenRequests.{opens_among}
use Rattle.message_laws.proofs.Askers.ServedRequests.{unanswered_server}
use Rattle.message_laws.proofs.AwaitedOffers.OwnOpens.{new_server}
use Rattle.media_laws.specs.Beginning.{StandsFor, entries_of}

served_parts : (r : Request) (source : Addr) (b : Bool) (t : Transaction) → OpensIn t (cond b Leaves (Opens (served r source) NoTimer) ∷ []) → t.parts ≡ r.parts
served_parts r source true t opens = absurd opens
served_parts r source false t (inl e) = ap (λ (x : Transaction). x.parts) (sym e)
served_parts r source false t (inr opens) = absurd opens

change_parts : (r : Request) (source : Addr) (id : Option ℕ) (t : Transaction) → OpensIn t (request_change r source id ∷ []) → t.parts ≡ r.parts
change_parts r source None t opens = served_parts r source (is_method (codes "ACK") r.parts) t opens
change_parts r source (Some id) t opens = absurd opens

-- it alone begins there
entry_parts : (s : Office) (e : Setting) (r : Request) (t : Transaction) → OpensIn t (entries_of s e r) → t.parts ≡ r.parts
unfolding change_of
entry_parts s e r t opens = change_parts r e.source (position (is_asked r.parts) s.table.slots) t opens

pub request_stands : (s : Office) (e : Setting) (r : Request) (id : ℕ) (rest : List Entry) (now : ℕ) → (reception_of s.table (Kinds.Request r)).verdict ≡ verdicts.New id
    → ((t : Transaction) → IsAmong (begun_of rest) t → is_server t.state ≡ false) → IsUnanswered (entered_all now s.table (entries_of s e r ++ rest)).slots id
    → StandsFor (entered_all now s.table (entries_of s e r ++ rest)).slots id r.parts
request_stands s e r id rest now new own a =
    let begun = new_begun s e r id new in
    let found = new_server now s.table (entries_of s e r) rest a.transaction id (λ t opens. own t (opens_among rest t opens)) begun.free a.stands (unanswered_server a.transaction.state a.unanswered) in
    record { transaction = a.transaction; stands = a.stands; same = found.2 ∙ entry_parts s e r found.0 found.1 }
