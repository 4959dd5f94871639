-- The descriptions that the calls keep after a step of one of them.
use Rattle.std.proofs.Common.{◌≡◌, ℕ, suc, ◌+◌, Bool, true, false, cond, List, [], ◌∷◌, ◌++◌, drop, take, Option, Some, None, is_some, refl, sym, subst}
use Rattle.std.specs.Prelude.{slice_get, slice_set}
use Rattle.std.specs.List.{All, remove}
use Rattle.std.proofs.lemmas.List.Elements.{All-append, All-drop, All-push, All-set, All-take}
use Rattle.std.proofs.lemmas.Option.{get_or_from_slice_get, slice_get_within}
use Rattle.sip_uri.specs.declared.uri.Addr.{Addr}
use Rattle.sip_uri.specs.declared.uri.Uri.{Uri}
use Rattle.sip_message.specs.declared.message.Parts.{Parts}
use Rattle.sip_message.specs.declared.message.Request.{Request}
use Rattle.sip_message.specs.declared.message.Response.{Response}
use Rattle.sip_message.specs.Contact.{contacts_of}
use Rattle.sdp.specs.declared.description.Description.{Description}
use Rattle.dialogs.specs.declared.state.Dialog.{Dialog}
use Rattle.dialogs.specs.Making.{reached_at}
use Rattle.transactions.specs.Contents as transactions
use Rattle.call_media.specs.declared.end.End.{End}
use Rattle.call_media.specs.declared.end.End.TheVariants.{Caller, Callee}
use Rattle.call_core.specs.declared.call.Call.{Call}
use Rattle.call_core.specs.declared.input.Input.{Input}
use Rattle.call_core.specs.CallRows.{call_row, first_call_row}
use Rattle.call_core.specs.Calls.{with_dialog, with_target}
use Rattle.call_core.specs.Plans.{Step}
use Rattle.calls.specs.Carrying.{changed_at, with_dialog_at, with_step}
use Rattle.calls.specs.Changes.{beside}
use Rattle.calls.specs.State.{Standing}
use Rattle.calls.specs.declared.change.Beside.{Beside}
use Rattle.calls.specs.declared.change.LegDialog.{LegDialog}
use Rattle.calls.specs.declared.standing_call.StandingCall.{StandingCall}
use Rattle.call_steps.specs.declared.occasion.Occasion.{Occasion}
use Rattle.call_steps.specs.Effects as steps
use Rattle.call_steps.specs.Rows.{begins_by, counts, does, first_row, first_standing, fork_by, fork_row, late_by, late_row, messages_of, offer_coming, offers_by, offers_row, put_with, takes_by, takes_row}
use Rattle.call_steps.specs.Values.{AskerValue, ComingValue, without_offer}
use Rattle.message_laws.specs.Addresses.{IsServerAddress}
use Rattle.message_laws.specs.Bodies.{KnowsCall, KnowsMedia, KnowsStanding, KnowsStep, WasRead, WasReadIn}
use Rattle.message_laws.proofs.Messages.Besides.{beside_same}
use Rattle.message_laws.proofs.Messages.BodyCalls.{call_known, first_known}

-- ---- what is put beside a call leaves its media

dialog_media : (end : End) (d : Dialog) (c : Call) → (with_dialog end d c).media ≡ c.media
dialog_media Caller d c = refl
dialog_media Callee d c = refl

target_media : (end : End) (target : Uri) (c : Call) → (with_target end target c).media ≡ c.media
target_media Caller target c = refl
target_media Callee target c = refl

beside_media : (c : StandingCall) (kept : Beside) → (beside kept c).call.media ≡ c.call.media
beside_media c kept = beside_same (λ (c : Call). c.media) dialog_media target_media c kept

beside_knows : (ip : List ℕ) (c : StandingCall) (kept : Beside) → KnowsCall ip c → KnowsCall ip (beside kept c)
beside_knows ip c kept h = subst (KnowsMedia ip) (sym (beside_media c kept)) h

-- ---- a live call

pub call_at : (ip : List ℕ) (calls : List StandingCall) (place : ℕ) (c : StandingCall) → All (KnowsCall ip) calls → slice_get calls place ≡ Some c → KnowsCall ip c
call_at ip calls place c each there = subst (KnowsCall ip) (get_or_from_slice_get calls place c c there) (each place c (slice_get_within calls place c there))

put_or_removed : (ip : List ℕ) (place : ℕ) (calls : List StandingCall) (c : StandingCall) (b : Bool) → KnowsCall ip c → All (KnowsCall ip) calls
    → All (KnowsCall ip) (cond b (slice_set calls place c) (remove calls place))
put_or_removed ip place calls c true h each = All-set (KnowsCall ip) calls place c h each
put_or_removed ip place calls c false h each =
    All-append (KnowsCall ip) (take place calls) (drop (suc place) calls) (All-take (KnowsCall ip) place calls each) (All-drop (KnowsCall ip) (suc place) calls each)

pushed_knows : (ip : List ℕ) (calls : List StandingCall) (c : StandingCall) (b : Bool) → KnowsCall ip c → All (KnowsCall ip) calls → All (KnowsCall ip) (cond b (calls ++ c ∷ []) calls)
pushed_knows ip calls c true h each = All-push (KnowsCall ip) calls c each h
pushed_knows ip calls c false h each = each

-- a dialog alone is put
pub changed_knows : (ip : List ℕ) (leg : LegDialog) (place : ℕ) (calls : List StandingCall) (c : Option StandingCall) → slice_get calls place ≡ c → All (KnowsCall ip) calls
    → All (KnowsCall ip) (changed_at (with_dialog_at leg.end leg.dialog) place calls c)
changed_knows ip leg place calls None there each = each
changed_knows ip leg place calls (Some c) there each =
    All-set (KnowsCall ip) calls place (with_dialog_at leg.end leg.dialog c) (subst (KnowsMedia ip) (sym (dialog_media leg.end leg.dialog c.call)) (call_at ip calls place c each there)) each

-- ---- steps

-- what they leave
abbrev pub KnowsAfter : List ℕ → steps.Effect → Type 0
KnowsAfter ip x = KnowsStanding ip x.outcome.standing

does_knows : (ip : List ℕ) (calls : Standing) (table : transactions.Contents) (o : Occasion) (place : ℕ) (w : ComingValue) (c : StandingCall) (step : Step) → KnowsStanding ip calls → KnowsStep ip step
    → KnowsAfter ip (does calls table o place w c step)
does_knows ip calls table o place w c step k h =
    let kept = put_with w (messages_of table o w c step) in
    record { pairs = h.pairs; calls = put_or_removed ip place calls.calls (beside kept (with_step c step)) (is_some step.call.standing) (beside_knows ip (with_step c step) kept h.media) k.calls }

takes_by_knows : (ip : List ℕ) (calls : Standing) (table : transactions.Contents) (o : Occasion) (place : ℕ) (input : Input) (leg : Option LegDialog) (request : Option AskerValue) (c : Option StandingCall)
    → IsServerAddress ip → KnowsStanding ip calls → WasReadIn input → slice_get calls.calls place ≡ c → KnowsAfter ip (takes_by calls table o place input leg request c)
takes_by_knows ip calls table o place input leg request None server k read there = k
takes_by_knows ip calls table o place input leg request (Some c) server k read there =
    does_knows ip calls table o place (without_offer leg request) c (call_row c.call input calls.pool o.now) k
    (call_known ip server c.call (call_at ip calls.calls place c k.calls there) calls.pool k.pairs o.now input read)

pub takes_knows : (ip : List ℕ) (calls : Standing) (table : transactions.Contents) (o : Occasion) (place : ℕ) (input : Input) (leg : Option LegDialog) (request : Option AskerValue)
    → IsServerAddress ip → KnowsStanding ip calls → WasReadIn input → KnowsAfter ip (takes_row calls table o place input leg request)
unfolding takes_row
takes_knows ip calls table o place input leg request server k read = takes_by_knows ip calls table o place input leg request (slice_get calls.calls place) server k read refl

offers_by_knows : (ip : List ℕ) (calls : Standing) (table : transactions.Contents) (o : Occasion) (place : ℕ) (input : Input) (end : End) (r : Request) (id : ℕ) (source : Addr) (leg : Option LegDialog)
    (c : Option StandingCall) → IsServerAddress ip → KnowsStanding ip calls → WasReadIn input → slice_get calls.calls place ≡ c → KnowsAfter ip (offers_by calls table o place input end r id source leg c)
offers_by_knows ip calls table o place input end r id source leg None server k read there = k
offers_by_knows ip calls table o place input end r id source leg (Some c) server k read there =
    does_knows ip calls table o place (offer_coming leg end r id source c) c (call_row c.call input calls.pool o.now) k
    (call_known ip server c.call (call_at ip calls.calls place c k.calls there) calls.pool k.pairs o.now input read)

pub offers_knows : (ip : List ℕ) (calls : Standing) (table : transactions.Contents) (o : Occasion) (place : ℕ) (input : Input) (end : End) (r : Request) (id : ℕ) (source : Addr)
    → IsServerAddress ip → KnowsStanding ip calls → WasReadIn input → KnowsAfter ip (offers_row calls table o place input end r id source)
unfolding offers_row
offers_knows ip calls table o place input end r id source server k read =
    offers_by_knows ip calls table o place input end r id source (counts calls.calls place end r.parts.cseq.number) (slice_get calls.calls place) server k read refl

-- ---- a call that begins, in the range of these ports

begins_by_knows : (ip : List ℕ) (calls : Standing) (o : Occasion) (r : Request) (id : ℕ) (source : Addr) (target : Uri) (offer : Description) (contact : Option Uri)
    → IsServerAddress ip → o.range.ip ≡ ip → KnowsStanding ip calls → WasRead offer → KnowsAfter ip (begins_by calls o r id source target offer contact)
begins_by_knows ip calls o r id source target offer None server own k read = k
begins_by_knows ip calls o r id source target offer (Some contact) server own k read =
    let c = first_standing (calls.begun + 1) o r id source contact in
    let new : KnowsMedia ip c.call.media = record { address = own; offer = tt; session = tt } in
    let h = first_known ip server c.call new calls.pool k.pairs o.now offer read in
    let step = first_call_row c.call offer calls.pool o.now in
    record { pairs = h.pairs; calls = pushed_knows ip calls.calls (with_step c step) (is_some step.call.standing) h.media k.calls }

pub first_knows : (ip : List ℕ) (calls : Standing) (o : Occasion) (r : Request) (id : ℕ) (source : Addr) (target : Uri) (offer : Description)
    → IsServerAddress ip → o.range.ip ≡ ip → KnowsStanding ip calls → WasRead offer → KnowsAfter ip (first_row calls o r id source target offer)
unfolding first_row
first_knows ip calls o r id source target offer server own k read = begins_by_knows ip calls o r id source target offer (reached_at (contacts_of r.headers)) server own k read

-- ---- a 2xx that no call takes

fork_by_knows : (ip : List ℕ) (calls : Standing) (o : Occasion) (asked : Parts) (response : Response) (contact : Option Uri) → KnowsStanding ip calls → KnowsAfter ip (fork_by calls o asked response contact)
fork_by_knows ip calls o asked response None k = k
fork_by_knows ip calls o asked response (Some target) k = k

pub fork_knows : (ip : List ℕ) (calls : Standing) (o : Occasion) (asked : Parts) (response : Response) → KnowsStanding ip calls → KnowsAfter ip (fork_row calls o asked response)
unfolding fork_row
fork_knows ip calls o asked response k = fork_by_knows ip calls o asked response (reached_at (contacts_of response.headers)) k

late_by_knows : (ip : List ℕ) (calls : Standing) (o : Occasion) (asked : Parts) (response : Response) (contact : Option Uri) → KnowsStanding ip calls → KnowsAfter ip (late_by calls o asked response contact)
late_by_knows ip calls o asked response None k = k
late_by_knows ip calls o asked response (Some target) k = k

pub late_knows : (ip : List ℕ) (calls : Standing) (o : Occasion) (asked : Parts) (response : Response) → KnowsStanding ip calls → KnowsAfter ip (late_row calls o asked response)
unfolding late_row
late_knows ip calls o asked response k = late_by_knows ip calls o asked response (reached_at (contacts_of response.headers)) k
