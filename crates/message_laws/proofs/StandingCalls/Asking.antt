-- Each call that waits for an answer asked for it: what is known of its dialogs and of its requests, together.
use Rattle.std.proofs.Common.{◌≡◌, ◌∙◌, Bool, true, false, ◌||◌, List, [], ◌∷◌, Option, Some, None, is_some, refl, ap, subst}
use Rattle.std.proofs.lemmas.List.Elements.{All-cons, All-nil}
use Rattle.port_pool.specs.Pool as pools
use Rattle.std.specs.List.{All}
use Rattle.std.proofs.lemmas.Bool.{false≢true}
use Rattle.configuration.specs.declared.config.Config.{Config}
use Rattle.dialogs.specs.declared.state.Dialog.{Dialog}
use Rattle.transactions.specs.declared.transaction.Transaction.{Transaction}
use Rattle.call_media.specs.Ends.{other}
use Rattle.call_media.specs.declared.end.End.{End}
use Rattle.call_media.specs.declared.end.End.TheVariants.{Callee, Caller}
use Rattle.call_media.specs.declared.session.OpenOffer.{OpenOffer}
use Rattle.call_core.specs.Calls.{IsServed, awaits_answer, dialog_of, holds_in}
use Rattle.call_core.specs.declared.stage.Stage.{Stage}
use Rattle.call_core.specs.declared.stage.Stage.TheVariants.{Answered, Asked, Cancelling, Ending, Reanswered, Reasked, Settled, Updating}
use Rattle.call_core.specs.declared.stage.Standing.{Standing}
use Rattle.calls.specs.State.{AreServed}
use Rattle.calls.specs.declared.standing_call.StandingCall.{StandingCall}
use Rattle.call_rules.specs.Responses.{awaits_final, is_cancelling}
use Rattle.event_rows.specs.State.{Contents, IsNew, office}
use Rattle.event_rows.specs.Trace.{AreEntries, Entry, after_entries}
use Rattle.message_laws.specs.Addresses.{HasOctets}
use Rattle.message_laws.specs.CalleeDialogs.{FitsStage, HasCallee, KnowsCallees, is_unanswered}
use Rattle.message_laws.specs.Carried.{CarriesIf, awaits_callee, has_leg}
use Rattle.message_laws.specs.Numbers.{begun_in}
use Rattle.message_laws.specs.OpenRequests.{CarriesOffer, HasAsked, HasOffered, HasRequest, IsAmong, IsOpenRequest, KnowsRequests}
use Rattle.message_laws.proofs.StandingCalls.CalleeRows.{NamesContact, known_callees}
use Rattle.message_laws.proofs.StandingCalls.OpenRows.{known_requests}
use Rattle.message_laws.proofs.StandingCalls.Reading.{Reading}

final_from : (stage : Stage) → awaits_answer stage ≡ true → awaits_final stage ≡ true
final_from stage h = or_left (awaits_answer stage) (is_cancelling stage) h
  where
    or_left : (a b : Bool) → a ≡ true → (a || b) ≡ true
    or_left true b e = refl
    or_left false b e = absurd (false≢true e)

asked_first : (stage : Stage) → is_unanswered stage ≡ true → awaits_answer stage ≡ true → awaits_callee stage ≡ true
asked_first (Asked rung) u w = refl
asked_first (Cancelling sent) u w = w
asked_first (Answered interval) u w = absurd (false≢true u)
asked_first Settled u w = absurd (false≢true u)
asked_first (Reasked rung cancelled) u w = absurd (false≢true u)
asked_first (Reanswered interval) u w = absurd (false≢true u)
asked_first Updating u w = absurd (false≢true u)
asked_first (Ending interval) u w = absurd (false≢true u)

callee_leg : (callee : Option Dialog) (n : Standing) → FitsStage callee n → awaits_answer n.stage ≡ true → has_leg callee (Some n) ≡ true
callee_leg None n fits w = asked_first n.stage fits.stage w
callee_leg (Some d) n fits w = refl

asked_leg : (c : StandingCall) (n : Standing) (x : End) → FitsStage c.call.callee n → awaits_answer n.stage ≡ true → has_leg (dialog_of (other x) c.call) (Some n) ≡ true
asked_leg c n Caller fits w = callee_leg c.call.callee n fits w
asked_leg c n Callee fits w = refl

has_asked : (begun : List Transaction) (c : StandingCall) → HasCallee c → HasRequest begun c → HasAsked begun c
has_asked begun c callee request n stands w = request n stands (final_from n.stage w) (asked_leg c n n.offerer (callee n stands) w)

pub all_asked : (s : Contents) (begun : List Transaction) → KnowsCallees (office s) → KnowsRequests (office s) begun → All (HasAsked begun) s.calls.calls
all_asked s begun callees requests i c within = has_asked begun _ (callees.calls i c within) (requests i c within)

-- ---- with the offer that the call keeps

served_all : (pool : pools.Contents) (calls : List StandingCall) → AreServed pool calls → All (λ (c : StandingCall). IsServed c.call pool) calls
served_all pool [] served = All-nil _
served_all pool (c ∷ calls) served = All-cons (λ (x : StandingCall). IsServed x.call pool) c calls served.0 (served_all pool calls served.1)

kept_offer : (begun : List Transaction) (c : StandingCall) (offer : Option OpenOffer) (t : Transaction) → c.call.media.offer ≡ offer → is_some offer ≡ true → IsAmong begun t → IsOpenRequest c t → CarriesOffer begun c
kept_offer begun c None t is some among opens = absurd (false≢true some)
kept_offer begun c (Some offer) t is some among opens =
    record { request = t; offer = offer; began = among; opens = opens; kept = is; carries = subst (CarriesIf t) is opens.carries }

has_offered : (begun : List Transaction) (c : StandingCall) (pool : pools.Contents) → IsServed c.call pool → HasAsked begun c → HasOffered begun c
has_offered begun c pool served asked n stands w =
    let found = asked n stands w in
    let some : is_some c.call.media.offer ≡ true = served.offer ∙ ap (holds_in awaits_answer) stands ∙ w in
    kept_offer begun c c.call.media.offer found.0 refl some found.1 found.2

pub all_offered : (s : Contents) (begun : List Transaction) → AreServed s.calls.pool s.calls.calls → KnowsCallees (office s) → KnowsRequests (office s) begun → All (HasOffered begun) s.calls.calls
all_offered s begun served callees requests i c within =
    has_offered begun _ s.calls.pool (served_all s.calls.pool s.calls.calls served i c within) (all_asked s begun callees requests i c within)

pub known_asked : Reading → NamesContact → (c : Config) (s : Contents) (xs : List Entry) → IsNew c s → HasOctets c.ip → AreEntries s xs → All (HasAsked (begun_in s xs)) (after_entries s xs).calls.calls
known_asked reading names c s xs new octets are = all_asked (after_entries s xs) (begun_in s xs) (known_callees names c s xs new) (known_requests reading c s xs new octets are)
