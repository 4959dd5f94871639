-- What is known of the later INVITEs that were begun is known of those whose transactions are live.
use Rattle.std.proofs.Common.{◌≡◌, ℕ, true, false, List, Some, sym, subst}
use Rattle.std.proofs.lemmas.Bool.{or_left}
use Rattle.events.specs.declared.sent.Sent.{Sent}
use Rattle.transactions.specs.Slots.{at}
use Rattle.transactions.specs.declared.transaction.Transaction.{Transaction}
use Rattle.call_rules.specs.Responses.{is_first}
use Rattle.call_rules.specs.Speaking.{is_invite, is_update}
use Rattle.call_trace.specs.declared.call.Call.{Call}
use Rattle.call_trace.specs.declared.datagram.Datagram.{Datagram}
use Rattle.plans.specs.Office.{Office}
use Rattle.message_laws.specs.OpenRequests.{IsAmong}
use Rattle.message_laws.specs.KnownTrace.{KnowsTrace}
use Rattle.media_laws.specs.Late.{IsAnsweredOrEnded, IsLater, KnowsLate, dialog_asked}

module _ (s : Office) (begun : List Transaction) (sent : List Sent) (t : List Datagram) (ds : List Call) (known : KnowsTrace s begun sent t)
    (asked : (u : Transaction) → IsAmong begun u → IsLater u → IsAnsweredOrEnded t ds (dialog_asked u.parts)) where
  stands_later : (id : ℕ) (x : Transaction) → at s.table.slots id ≡ Some x → IsLater x → IsAnsweredOrEnded t ds (dialog_asked x.parts)
  stands_later id x there later =
      let u = known.stands id x there (record { client = later.client; offers = or_left (is_invite x.parts) (is_update x.parts) later.invite }) in
      subst (λ p. IsAnsweredOrEnded t ds (dialog_asked p)) u.3
      (asked u.0 u.1 (record { client = u.2.client; invite = subst (λ p. is_invite p ≡ true) (sym u.3) later.invite; later = subst (λ p. is_first p ≡ false) (sym u.3) later.later }))

  pub later_known : KnowsLate s begun t ds
  later_known = record { stands = stands_later; asked = asked }
