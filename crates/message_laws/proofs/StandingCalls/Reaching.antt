-- What the rules say of where the sender of a message is reached, that a call takes.
use Rattle.std.proofs.Common.{◌≡◌, ℕ, ◌==◌, Bool, true, false, cond, not, ◌&&◌, ◌||◌, nat_eq, nat_le, nat_lt, List, codes, length, Option, Some, None, option_map, refl, sym, subst, arith}
use Rattle.std.specs.Prelude.{slice_get}
use Rattle.std.specs.Cmp.Lexicographic.{bytes_decides, pointwise}
use Rattle.std.proofs.lemmas.Bool.{and_from, and_parts, false≢true, le-leb, ltb-false, ltb-true}
use Rattle.std.proofs.lemmas.Option.{none-some}
use Rattle.sip_message.specs.Contact.{contacts_of, is_success}
use Rattle.sip_message.specs.Grammar.{ReadsMessage}
use Rattle.sip_message.specs.Words.{class_of}
use Rattle.sip_message.specs.declared.message.Message.TheVariants as Kinds
use Rattle.sip_message.specs.declared.message.Parts.{Parts}
use Rattle.sip_message.specs.declared.message.Request.{Request}
use Rattle.sip_message.specs.declared.message.Response.{Response}
use Rattle.sip_message.specs.declared.words.Class.TheVariants.{Failure, Provisional, Success}
use Rattle.transaction_machines.specs.Machines.{is_server}
use Rattle.transactions.specs.Matching.{is_reply, is_same_call, keeps_to_tag}
use Rattle.transactions.specs.Slots.{is_answered}
use Rattle.transactions.specs.declared.transaction.Transaction.{Transaction}
use Rattle.call_media.specs.declared.end.End.{End}
use Rattle.call_media.specs.declared.end.End.TheVariants.{Callee, Caller}
use Rattle.call_core.specs.Calls.{clash_in, clash_without_offer_in, dialog_of, holds_in}
use Rattle.call_core.specs.declared.call.Call.{Call}
use Rattle.call_core.specs.declared.clash.Clash.{Clash}
use Rattle.calls.specs.Finding.{place_by_end}
use Rattle.calls.specs.declared.standing_call.StandingCall.{StandingCall}
use Rattle.call_rules.specs.Content.{content_rule}
use Rattle.call_rules.specs.Offers as rules
use Rattle.call_rules.specs.Offers.{offer_rule, plain_rule}
use Rattle.call_rules.specs.Reach.{is_unreachable, leaves_unreached}
use Rattle.call_rules.specs.Requests as requests
use Rattle.call_rules.specs.Requests.{dialog_rule}
use Rattle.call_rules.specs.Speaking.{is_bye, is_invite, is_offer, is_update, may_offer}
use Rattle.call_rules.specs.declared.content.ContentRule.{ContentRule}
use Rattle.call_rules.specs.declared.offers.OfferRule.{OfferRule}
use Rattle.call_rules.specs.declared.offers.OfferRule.TheVariants as asked
use Rattle.call_rules.specs.DialogRule.{DialogRule}
use Rattle.call_rules.specs.DialogRule as dialogrules
use Rattle.plans.specs.CallRows.{reason_of_rule}
use Rattle.message_laws.proofs.Messages.RequestViews.{IsInside}

-- ---- the method of a request in a dialog

abbrev FitsRule : Request → DialogRule → Type 0
FitsRule r dialogrules.NoDialog = Unit {0}
FitsRule r (dialogrules.OldNumber place end) = Unit {0}
FitsRule r (dialogrules.Leaves place end) = Unit {0}
FitsRule r (dialogrules.Offers place end) = is_offer r ≡ true
FitsRule r (dialogrules.Plain place end) = (is_bye r.parts ≡ false) × (is_offer r ≡ false)

counted_by : (r : Request) (place : ℕ) (end : End) (bye offers : Bool) → is_bye r.parts ≡ bye → is_offer r ≡ offers
    → FitsRule r (cond bye (dialogrules.Leaves place end) (cond offers (dialogrules.Offers place end) (dialogrules.Plain place end)))
counted_by r place end true offers b o = tt
counted_by r place end false true b o = o
counted_by r place end false false b o = (b, o)

unless_by : (r : Request) (b : Bool) (one other : DialogRule) → FitsRule r one → FitsRule r other → FitsRule r (cond b one other)
unless_by r true one other h k = h
unless_by r false one other h k = k

dialog_fits : (r : Request) (place : ℕ) (end : End) (d : Option _) → FitsRule r (requests.in_dialog r place end d)
dialog_fits r place end None = tt
dialog_fits r place end (Some d) =
    unless_by r _ (requests.counted_rule r place end) (dialogrules.OldNumber place end) (counted_by r place end (is_bye r.parts) (is_offer r) refl refl) tt

call_fits : (r : Request) (place : ℕ) (end : End) (c : Option StandingCall) → FitsRule r (requests.in_call r place end c)
call_fits r place end None = tt
call_fits r place end (Some c) = unless_by r _ dialogrules.NoDialog (requests.in_dialog r place end (dialog_of end c.call)) tt (dialog_fits r place end (dialog_of end c.call))

callee_fits : (standing : List StandingCall) (r : Request) (place : Option ℕ) → FitsRule r (requests.of_callee standing r place)
callee_fits standing r None = tt
callee_fits standing r (Some place) = call_fits r place Callee (slice_get standing place)

caller_fits : (standing : List StandingCall) (r : Request) (place : Option ℕ) → FitsRule r (requests.of_caller standing r place)
caller_fits standing r None = callee_fits standing r (place_by_end Callee r.parts standing)
caller_fits standing r (Some place) = call_fits r place Caller (slice_get standing place)

rule_fits : (standing : List StandingCall) (r : Request) → FitsRule r (dialog_rule standing r)
unfolding dialog_rule
rule_fits standing r = caller_fits standing r (place_by_end Caller r.parts standing)

either_offers : (a b c : Bool) → (a || b && c) ≡ true → (a || b) ≡ true
either_offers true b c h = refl
either_offers false true c h = refl
either_offers false false c h = absurd (false≢true h)

pub offers_may_offer : (standing : List StandingCall) (r : Request) (place : ℕ) (end : End) → dialog_rule standing r ≡ dialogrules.Offers place end → may_offer r.parts ≡ true
offers_may_offer standing r place end is = either_offers (is_invite r.parts) (is_update r.parts) (not (length r.body == 0)) (subst (FitsRule r) is (rule_fits standing r))

-- the methods of a dialog that are left
left_update : (invite bye register options update : Bool) → (invite || bye || register || options || update) ≡ true → invite ≡ false → bye ≡ false → register ≡ false → options ≡ false → update ≡ true
left_update true bye register options update h i b r o = absurd (false≢true (sym i))
left_update false true register options update h i b r o = absurd (false≢true (sym b))
left_update false false true options update h i b r o = absurd (false≢true (sym r))
left_update false false false true update h i b r o = absurd (false≢true (sym o))
left_update false false false false update h i b r o = h

no_first : (a b : Bool) → (a || b) ≡ false → a ≡ false
no_first true b h = absurd (false≢true (sym h))
no_first false b h = refl

or_second : (a b : Bool) → b ≡ true → (a || b) ≡ true
or_second true b h = refl
or_second false b h = h

-- the method of its CSeq is its own
same_method : (text : List ℕ) (r : Request) → ReadsMessage text (Kinds.Request r) → r.parts.cseq.method ≡ r.method
same_method text r reads = (bytes_decides r.parts.cseq.method r.method).0 reads.says.says_parts.cseq_method

abbrev names : List ℕ → List ℕ → Bool
names method name = pointwise nat_eq method name

pub plain_may_offer : (text : List ℕ) (standing : List StandingCall) (r : Request) (place : ℕ) (end : End) → ReadsMessage text (Kinds.Request r) → dialog_rule standing r ≡ dialogrules.Plain place end → IsInside r
    → may_offer r.parts ≡ true
plain_may_offer text standing r place end reads is inside =
    let same = same_method text r reads in
    let fits = subst (FitsRule r) is (rule_fits standing r) in
    let own : (name : List ℕ) (b : Bool) → names r.parts.cseq.method name ≡ b → names r.method name ≡ b = λ name b h. subst (λ m. names m name ≡ b) same h in
    let update : names r.method (codes "UPDATE") ≡ true =
    left_update (names r.method (codes "INVITE")) (names r.method (codes "BYE")) (names r.method (codes "REGISTER")) (names r.method (codes "OPTIONS")) (names r.method (codes "UPDATE")) inside.offered
    (own (codes "INVITE") false (no_first (is_invite r.parts) _ fits.1)) (own (codes "BYE") false fits.0) inside.no_register inside.no_options in
    or_second (is_invite r.parts) (is_update r.parts) (subst (λ m. names m (codes "UPDATE") ≡ true) (sym same) update)

-- ---- requests that a call takes

-- where it passes, its sender is reached
abbrev Reaches : Request → OfferRule → Type 0
Reaches r asked.NoDialog = Unit {0}
Reaches r (asked.Crosses clash) = Unit {0}
Reaches r asked.NoHops = Unit {0}
Reaches r asked.Unreached = Unit {0}
Reaches r (asked.Content rule) = Unit {0}
Reaches r asked.Passes = leaves_unreached r.parts (contacts_of r.headers) ≡ false

abbrev ReachesIf : Request → Option OfferRule → Type 0
ReachesIf r None = Unit {0}
ReachesIf r (Some rule) = Reaches r rule

line_reaches : (r : Request) (line : Option OfferRule) (next : OfferRule) → ReachesIf r line → Reaches r next → Reaches r (rules.otherwise line next)
line_reaches r None next h k = k
line_reaches r (Some rule) next h k = h

when_reaches : (r : Request) (b : Bool) (rule : OfferRule) → Reaches r rule → ReachesIf r (rules.when b rule)
when_reaches r true rule h = h
when_reaches r false rule h = tt

content_reaches : (r : Request) (rule : Option ContentRule) → ReachesIf r (option_map asked.Content rule)
content_reaches r None = tt
content_reaches r (Some rule) = tt

crosses_reaches : (r : Request) (clash : Option Clash) → ReachesIf r (option_map asked.Crosses clash)
crosses_reaches r None = tt
crosses_reaches r (Some clash) = tt

clash_reaches : (r : Request) (c : Call) (clash : Option Clash) → ReachesIf r (rules.clash_by c clash)
clash_reaches r c (Some clash) = tt
clash_reaches r c None = settled (holds_in rules.is_settled c.standing)
  where
    settled : (b : Bool) → ReachesIf r (cond b None (Some asked.NoDialog))
    settled true = tt
    settled false = tt

reach_line : (r : Request) (next : OfferRule) → (leaves_unreached r.parts (contacts_of r.headers) ≡ false → Reaches r next) → Reaches r (rules.otherwise (rules.reach_line r) next)
reach_line r next h = by_reach (leaves_unreached r.parts (contacts_of r.headers)) refl
  where
    by_reach : (b : Bool) → leaves_unreached r.parts (contacts_of r.headers) ≡ b → Reaches r (rules.otherwise (rules.when b asked.Unreached) next)
    by_reach true e = tt
    by_reach false e = h e

offer_reaches : (r : Request) (end : End) (c : Call) → Reaches r (offer_rule r end c)
unfolding offer_rule
offer_reaches r end c =
    line_reaches r (rules.clash_line c end) _ (clash_reaches r c (clash_in c.standing end))
    (line_reaches r (rules.hops_line r) _ (when_reaches r (r.max_forwards == 0) asked.NoHops tt)
    (reach_line r (rules.otherwise (rules.content_line r) asked.Passes)
    (λ reached. line_reaches r (rules.content_line r) asked.Passes (content_reaches r (content_rule r.headers)) reached)))

plain_reaches : (r : Request) (end : End) (c : Call) → Reaches r (plain_rule r end c)
unfolding plain_rule
plain_reaches r end c =
    line_reaches r (rules.plain_clash_line c end) _ (crosses_reaches r (clash_without_offer_in c.standing end))
    (line_reaches r (rules.hops_line r) _ (when_reaches r (r.max_forwards == 0) asked.NoHops tt) (reach_line r asked.Passes (λ reached. reached)))

passes_reached : (r : Request) (rule : OfferRule) → Reaches r rule → reason_of_rule rule ≡ None → leaves_unreached r.parts (contacts_of r.headers) ≡ false
passes_reached r asked.NoDialog h e = absurd (none-some _ (sym e))
passes_reached r (asked.Crosses clash) h e = absurd (none-some _ (sym e))
passes_reached r asked.NoHops h e = absurd (none-some _ (sym e))
passes_reached r asked.Unreached h e = absurd (none-some _ (sym e))
passes_reached r (asked.Content rule) h e = absurd (none-some _ (sym e))
passes_reached r asked.Passes h e = h

pub offer_reached : (r : Request) (end : End) (c : Call) → reason_of_rule (offer_rule r end c) ≡ None → leaves_unreached r.parts (contacts_of r.headers) ≡ false
offer_reached r end c passes = passes_reached r _ (offer_reaches r end c) passes

pub plain_reached : (r : Request) (end : End) (c : Call) → reason_of_rule (plain_rule r end c) ≡ None → leaves_unreached r.parts (contacts_of r.headers) ≡ false
plain_reached r end c passes = passes_reached r _ (plain_reaches r end c) passes

-- ---- 2xx that a call takes

-- a response has the method of its request (RFC 3261 section 17.1.3)
pub response_method : (parts : Parts) (t : Transaction) → is_answered parts (Some t) ≡ true → parts.cseq.method ≡ t.parts.cseq.method
unfolding is_answered is_reply
response_method parts t h =
    let reply = (and_parts (not (is_server t.state)) _ h).1 in
    let same = (and_parts _ (is_same_call parts t.parts) (and_parts _ (keeps_to_tag parts t.parts) reply).0).1 in
    (bytes_decides parts.cseq.method t.parts.cseq.method).0 (and_parts _ (pointwise nat_eq parts.cseq.method t.parts.cseq.method) same).1

pub response_may_offer : (parts : Parts) (t : Transaction) → is_answered parts (Some t) ≡ true → may_offer t.parts ≡ true → may_offer parts ≡ true
response_may_offer parts t answers offers =
    subst (λ m. (pointwise nat_eq m (codes "INVITE") || pointwise nat_eq m (codes "UPDATE")) ≡ true) (sym (response_method parts t answers)) offers

success_by : (status : ℕ) (low high : Bool) → nat_lt status 200 ≡ low → nat_lt status 300 ≡ high → cond low Provisional (cond high Success Failure) ≡ Success → is_success status ≡ true
success_by status true high l h is = absurd cc
success_by status false true l h is =
    let least = ltb-false status 200 l in
    let most = ltb-true status 300 h in
    and_from (nat_le 200 status) (nat_le status 299) (le-leb 200 status least) (le-leb status 299 (omega (arith, most)))
success_by status false false l h is = absurd cc

pub success_is : (status : ℕ) → class_of status ≡ Success → is_success status ≡ true
success_is status is = success_by status (nat_lt status 200) (nat_lt status 300) refl refl is

and_second : (a b : Bool) → (a && b) ≡ false → a ≡ true → b ≡ false
and_second true b h e = h
and_second false b h e = absurd (false≢true e)

pub response_reached : (r : Response) → is_unreachable r ≡ false → class_of r.status ≡ Success → leaves_unreached r.parts (contacts_of r.headers) ≡ false
unfolding is_unreachable
response_reached r reached success = and_second (is_success r.status) _ reached (success_is r.status success)
