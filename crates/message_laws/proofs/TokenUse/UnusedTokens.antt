-- A token that is made next is in no earlier trace.
use Rattle.std.proofs.Common.{◌≡◌, ◌≢◌, ◌∙◌, ℕ, ◌<◌, ◌^◌, List, drop, Some, refl, sym, ap}
use Rattle.std.specs.Prelude.{IsTrue}
use Rattle.std.proofs.lemmas.Option.{same_Some}
use Rattle.events.specs.declared.sent.Sent.{Sent}
use Rattle.sip_writing.specs.Requests.{branch_text}
use Rattle.responses.specs.Tokens.{token}
use Rattle.transactions.specs.declared.transaction.Transaction.{Transaction}
use Rattle.plans.specs.Office.{Office}
use Rattle.call_trace.specs.declared.datagram.Datagram.{Datagram}
use Rattle.call_trace.specs.declared.datagram.Direction.TheVariants as directions
use Rattle.call_trace.specs.Events.{IsUnused}
use Rattle.call_trace.specs.Exchanges.{At}
use Rattle.call_trace.specs.Messages.{bye, is_request_of}
use Rattle.message_laws.specs.Tokens.{IsMade, IsMadeBranch}
use Rattle.message_laws.proofs.TokenUse.Apartness.{old_and_new}
use Rattle.message_laws.specs.KnownTrace.{HasTokens, KnowsTrace}

cookie_same : (x y : List ℕ) → branch_text x ≡ branch_text y → x ≡ y
cookie_same x y e = ap (λ (text : List ℕ). drop 7 text) e

old_branch : (made salt count : ℕ) (branch : List ℕ) → IsMadeBranch made (Some branch) → made < count → count < 2 ^ 64 → branch ≡ branch_text (token salt count) → IsMade made (token salt count)
old_branch made salt count branch h lt few e = record {
  salt = h.salt;
  count = h.count;
  early = h.early;
  said = cookie_same (token salt count) (token h.salt h.count) (sym e ∙ same_Some branch (branch_text (token h.salt h.count)) h.said);
}

-- of a trace whose tokens were made before
pub new_branch : (made salt count : ℕ) (t : List Datagram) → ((i : ℕ) (p : Datagram) → At t i p → HasTokens made p) → made < count → count < 2 ^ 64 → IsUnused t (branch_text (token salt count))
new_branch made salt count t has lt few i p at_p ours e =
    old_and_new made salt count (token salt count) (old_branch made salt count p.message.branch ((has i p at_p).branch ours) lt few e) lt few refl

pub unused_branch : (s : Office) (begun : List Transaction) (sent : List Sent) (t : List Datagram) (salt count : ℕ) → KnowsTrace s begun sent t → s.tokens < count → count < 2 ^ 64 → IsUnused t (branch_text (token salt count))
unused_branch s begun sent t salt count k lt few = new_branch s.tokens salt count t k.tokens lt few

pub unused_tag : (s : Office) (begun : List Transaction) (sent : List Sent) (t : List Datagram) (salt count : ℕ) → KnowsTrace s begun sent t → s.tokens < count → count < 2 ^ 64
    → (i : ℕ) (p : Datagram) → At t i p → p.direction ≡ directions.Sent → IsTrue (is_request_of bye p.message) → p.message.from_tag ≢ token salt count
unused_tag s begun sent t salt count k lt few i p at_p way leaves e = old_and_new s.tokens salt count p.message.from_tag ((k.tokens i p at_p).bye_sent way leaves) lt few e
