-- Which response a first offer gets, by why it is refused or that it may pass.
use Rattle.std.proofs.Common.{◌≡◌, ◌∙◌, ℕ, ◌+◌, ◌<◌, ◌≤◌, Bool, cond, is_some, length, List, [], Option, Some, None, ap}
use Rattle.std.proofs.lemmas.Bool.{lt-leb, le-leb}
use Rattle.port_pool.specs.Holdings.{free_pairs}
use Rattle.sip_uri.specs.declared.uri.Uri.{Uri}
use Rattle.sip_message.specs.declared.message.Request.{Request}
use Rattle.sdp.specs.declared.description.Description.{Description}
use Rattle.offer_answer.specs.declared.fault.OfferFault.{OfferFault}
use Rattle.offer_answer.specs.Checks.{offer_fault}
use Rattle.transactions.specs.declared.change.Entry.{Entry}
use Rattle.call_media.specs.declared.end.End.TheVariants.{Caller}
use Rattle.call_media.specs.Offers.{fresh_needed}
use Rattle.call_core.specs.Calls.{new_media}
use Rattle.call_steps.specs.Rows.{first_row}
use Rattle.plans.specs.declared.setting.Setting.{Setting}
use Rattle.plans.specs.CallRows.{first_by, has_pairs, occasion, refuses_first, unless_full}
use Rattle.plans.specs.declared.reason.Reason.TheVariants.{NoPorts, UnfitOffer}
use Rattle.plans.specs.Effect.{Effect}
use Rattle.plans.specs.Office.{Office}

-- by what is said of the offer, and whether there are pairs
abbrev by : Option OfferFault → Bool → Effect → Effect → Effect → Effect
by fault pairs unfit passes full = cond (is_some fault) unfit (cond pairs passes full)

abbrev needed : Office → Description → ℕ
needed s offer = fresh_needed (new_media (s.calls.begun + 1) s.range) Caller offer

abbrev free : Office → ℕ → ℕ
free s now = length (free_pairs now s.calls.pool.holdings)

abbrev passing : Office → Setting → Request → List Entry → ℕ → Uri → Description → Effect
passing s e r begun id target offer = unless_full s e r begun id (first_row s.calls (occasion s e) r id e.source target offer)

pub unfit : (s : Office) (e : Setting) (r : Request) (begun : List Entry) (id : ℕ) (target : Uri) (offer : Description) (fault : OfferFault)
    → offer_fault s.range offer None ≡ Some fault → first_by s e r begun id target offer ≡ refuses_first s e r begun id UnfitOffer
unfit s e r begun id target offer fault h =
    ap (λ (f : Option OfferFault). by f (has_pairs s e.now offer) (refuses_first s e r begun id UnfitOffer) (passing s e r begun id target offer) (refuses_first s e r begun id NoPorts)) h

pub lacking : (s : Office) (e : Setting) (r : Request) (begun : List Entry) (id : ℕ) (target : Uri) (offer : Description)
    → offer_fault s.range offer None ≡ None → length (free_pairs e.now s.calls.pool.holdings) < fresh_needed (new_media (s.calls.begun + 1) s.range) Caller offer
    → first_by s e r begun id target offer ≡ refuses_first s e r begun id NoPorts
lacking s e r begun id target offer h few =
    ap (λ (f : Option OfferFault). by f (has_pairs s e.now offer) (refuses_first s e r begun id UnfitOffer) (passing s e r begun id target offer) (refuses_first s e r begun id NoPorts)) h
    ∙ ap (λ (b : Bool). cond b (passing s e r begun id target offer) (refuses_first s e r begun id NoPorts)) (lt-leb (needed s offer) (free s e.now) few)

pub may_pass : (s : Office) (e : Setting) (r : Request) (begun : List Entry) (id : ℕ) (target : Uri) (offer : Description)
    → offer_fault s.range offer None ≡ None → fresh_needed (new_media (s.calls.begun + 1) s.range) Caller offer ≤ length (free_pairs e.now s.calls.pool.holdings)
    → first_by s e r begun id target offer ≡ unless_full s e r begun id (first_row s.calls (occasion s e) r id e.source target offer)
may_pass s e r begun id target offer h enough =
    ap (λ (f : Option OfferFault). by f (has_pairs s e.now offer) (refuses_first s e r begun id UnfitOffer) (passing s e r begun id target offer) (refuses_first s e r begun id NoPorts)) h
    ∙ ap (λ (b : Bool). cond b (passing s e r begun id target offer) (refuses_first s e r begun id NoPorts)) (le-leb (needed s offer) (free s e.now) enough)
