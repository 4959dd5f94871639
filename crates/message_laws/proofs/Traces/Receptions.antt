-- What the transactions do with what came, and when a timer fires: what they send, what they keep, and what they are
-- given.
use Rattle.std.proofs.Common.{◌≡◌, ◌∙◌, ℕ, Bool, true, false, cond, List, [], ◌∷◌, ◌++◌, codes, Option, Some, None, option_map, position, Result, Ok, Err, refl, sym, ap, subst, inl, inr}
use Rattle.std.proofs.lemmas.Bool.{false≢true}
use Rattle.std.proofs.lemmas.List.Quantifiers.{position-Some}
use Rattle.std.proofs.lemmas.Option.{none-some, same_Some}
use Rattle.events.specs.declared.sent.Sent.{Sent}
use Rattle.sip_uri.specs.NameAddr.{ReadsNameAddr, name_addr_of}
use Rattle.sip_uri.specs.declared.error.UriError.{UriError}
use Rattle.sip_uri.specs.declared.uri.Addr.{Addr}
use Rattle.sip_uri.specs.declared.uri.NameAddr.{NameAddr}
use Rattle.sip_message.specs.Party.{has_fit_tag, party_from, party_of}
use Rattle.sip_message.specs.Read.{message_of}
use Rattle.sip_message.specs.Words.{is_method, tag_text, top_branch}
use Rattle.sip_message.specs.declared.message.Message.{Message}
use Rattle.sip_message.specs.declared.message.Message.TheVariants as Kinds
use Rattle.sip_message.specs.declared.message.Parts.{Parts}
use Rattle.sip_message.specs.declared.message.Request.{Request}
use Rattle.sip_message.specs.declared.message.Response.{Response}
use Rattle.sip_message.specs.declared.via.Via.{Via}
use Rattle.sip_writing.specs.Requests.{IsEnd}
use Rattle.sip_writing.specs.Writing.{message_text}
use Rattle.transaction_machines.specs.declared.input.Input.{Input}
use Rattle.transaction_machines.specs.declared.input.Input.TheVariants as inputs
use Rattle.transaction_machines.specs.declared.step.Sending.{Sending}
use Rattle.transaction_machines.specs.declared.step.Sending.TheVariants.{Nothing, Again, Fresh}
use Rattle.transaction_machines.specs.declared.step.Starts.TheVariants.{NoTimer}
use Rattle.transaction_machines.specs.declared.step.Step.{Step}
use Rattle.transaction_machines.specs.declared.step.Told.{Told}
use Rattle.transaction_machines.specs.declared.step.Told.TheVariants as tells
use Rattle.transaction_machines.specs.Machines.{is_server, row_of}
use Rattle.transactions.specs.Changes.{change_of, request_change, response_change}
use Rattle.transactions.specs.Contents as transactions
use Rattle.transactions.specs.Contents.{ack_at, ack_by, ack_for, fired_by, fired_of, fired_step, input_of, reception_at, reception_by, reception_of, request_reception, response_input, response_reception}
use Rattle.transactions.specs.SameBranch.{ack_of, ack_to, ack_with, parts_like, request_like}
use Rattle.transactions.specs.Slots.{at, free_number, is_answered, is_asked}
use Rattle.transactions.specs.Transactions.{outgoing, sent, served}
use Rattle.transactions.specs.declared.change.Entry.{Entry}
use Rattle.transactions.specs.declared.change.Entry.TheVariants.{Opens, Tells, Answers, Leaves}
use Rattle.transactions.specs.declared.outcome.Fired.TheVariants as fires
use Rattle.transactions.specs.declared.outcome.Outgoing.{Outgoing}
use Rattle.transactions.specs.declared.outcome.Verdict.TheVariants as verdicts
use Rattle.transactions.specs.declared.transaction.TimerId.{TimerId}
use Rattle.transactions.specs.declared.transaction.Transaction.{Transaction}
use Rattle.plans.specs.Office.{Office}
use Rattle.plans.specs.declared.setting.Setting.{Setting}
use Rattle.plans.specs.Plan.{goes}
use Rattle.call_trace.specs.Listed.{AllOf}
use Rattle.message_laws.specs.Knowing.{KnowsTokens}
use Rattle.message_laws.specs.Numbers.{begun_of}
use Rattle.message_laws.specs.OpenRequests.{IsAmong}
use Rattle.message_laws.specs.Sending.{KnowsSent, LastWasSent, WasSentIf}
use Rattle.message_laws.specs.Sound.{KnowsDialogs, SaysDialog}
use Rattle.message_laws.specs.Tokens.{IsMadeBranch, IsOwn, IsOwnIf}
use Rattle.message_laws.proofs.AwaitedOffers.Coming.{OpensIn}
use Rattle.message_laws.proofs.TokenUse.Grounds.{read_repeats}
use Rattle.message_laws.proofs.Messages.MessageViews.{begun_by}
use Rattle.message_laws.proofs.StandingCalls.Reading.{Reading, callers_sound}
use Rattle.message_laws.proofs.TokenUse.Rows.{answered_client}
use Rattle.message_laws.proofs.AwaitedOffers.WaitRows.{change_none}
use Rattle.message_laws.proofs.TokenUse.WrittenRequests.{refusal_ack_stands}
use Rattle.message_laws.specs.Kinds.{IsOfKind, acknowledges, again}
use Rattle.message_laws.specs.KnownTrace.{KeepsOwnKind}
use Rattle.message_laws.specs.SoundClients.{KnowsClients}
use Rattle.message_laws.specs.SoundScenes.{IsSoundRequest}
use Rattle.message_laws.proofs.Traces.Legs.{clients_read}
use Rattle.message_laws.proofs.Traces.Saying.{EntryIsCalm, EntryKeeps, KeepsFresh, is_final_input, is_of_response}
use Rattle.std.specs.List.{All}
use Rattle.std.proofs.lemmas.Bool.{cases_lt}
use Rattle.std.proofs.Common.{length}
use Rattle.std.proofs.lemmas.List.{get_or_past}

-- a live transaction
pub slot_at : (P : Option Transaction → Type 0) (slots : List (Option Transaction)) (id : ℕ) (t : Transaction) → All P slots → at slots id ≡ Some t → P (Some t)
slot_at P slots id t each there = elim (cases_lt id (length slots)) [
  | inl lt ↦ subst P there (each id None lt)
  | inr le ↦ absurd (none-some t (sym (get_or_past slots id None le) ∙ there))
]

-- ---- the ACK of a refusal

party_by : Reading → (text : List ℕ) (n name : NameAddr) (b : Bool) → name_addr_of text ≡ Ok n → cond b (Some n) None ≡ Some name → ReadsNameAddr text name
party_by reading text n name true is e = subst (ReadsNameAddr text) (same_Some n name e) (reading.name text n is)
party_by reading text n name false is e = absurd (none-some name e)

party_reads : Reading → (text : List ℕ) (r : Result NameAddr UriError) (name : NameAddr) → name_addr_of text ≡ r → party_from r ≡ Some name → ReadsNameAddr text name
party_reads reading text (Err e) name is h = absurd (none-some name h)
party_reads reading text (Ok n) name is h = party_by reading text n name (has_fit_tag n.params) is h

party_read : Reading → (text : List ℕ) (name : NameAddr) → party_of text ≡ Some name → ReadsNameAddr text name
unfolding party_of
party_read reading text name h = party_reads reading text (name_addr_of text) name refl h

-- its To is that of the refusal
refused_end : Reading → (text : List ℕ) (t : Transaction) (r : Response) → message_of text ≡ Ok (Kinds.Response r) → SaysDialog t.parts → IsSoundRequest t.uri t.parts → IsEnd (ack_to r.parts.to)
refused_end reading text t r read says values =
    let repeats = read_repeats text (Kinds.Response r) read in
    record {
      read = record { text = r.parts.to_text; params = r.parts.to.params; reads = party_read reading r.parts.to_text r.parts.to repeats.to; clean = repeats.to_value.clean };
      tag = tag_text r.parts.to.params;
      token = (callers_sound reading text t.parts r t.uri read says (record { text = values.values.uri_text; reads = values.values.reads })).their_tag;
      tagged = refl;
    }

-- it is an ACK, with the branch of the INVITE
pub record IsAckOf (t : Transaction) (ack : Request) : Type 0 where
  pub method : is_method (codes "ACK") ack.parts ≡ true
  pub branch : top_branch ack.parts.vias ≡ top_branch t.parts.vias

like_branch : (t : Transaction) (via : Via) (vias : List Via) → t.parts.vias ≡ via ∷ vias → (to : NameAddr) → IsAckOf t (request_like t.uri via t.parts to (codes "ACK"))
unfolding request_like parts_like
like_branch t via vias is to = record { method = refl; branch = ap top_branch (sym is) }

ack_like : (t : Transaction) (r : Response) (vias : List Via) (ack : Request) → t.parts.vias ≡ vias → ack_with t.uri t.parts r.parts vias ≡ Some ack → IsAckOf t ack
ack_like t r [] ack is e = absurd (none-some ack e)
ack_like t r (via ∷ vias) ack is e = subst (IsAckOf t) (same_Some _ ack e) (like_branch t via vias is (ack_to r.parts.to))

-- ---- what goes

-- before it, where this many tokens were made
abbrev pub GoesWell : List Sent → ℕ → Option Outgoing → Type 0
GoesWell before tokens send = AllOf (IsOfKind before tokens []) (goes send)

abbrev FreshFits : List Sent → ℕ → Option (List ℕ) → Type 0
FreshFits before tokens None = Unit {0}
FreshFits before tokens (Some bytes) = (to : Addr) → IsOfKind before tokens [] (record { to = to; bytes = bytes })

again_goes : (before : List Sent) (tokens : ℕ) (to : Addr) (last : Option (List ℕ)) → WasSentIf before last → GoesWell before tokens (option_map (outgoing to) last)
again_goes before tokens to None h = tt
again_goes before tokens to (Some bytes) h = (again h, tt)

fresh_goes : (before : List Sent) (tokens : ℕ) (to : Addr) (fresh : Option (List ℕ)) → FreshFits before tokens fresh → GoesWell before tokens (option_map (outgoing to) fresh)
fresh_goes before tokens to None h = tt
fresh_goes before tokens to (Some bytes) h = (h to, tt)

sent_goes : (before : List Sent) (tokens : ℕ) (t : Transaction) (fresh : Option (List ℕ)) (send : Sending) → WasSentIf before t.last → FreshFits before tokens fresh → GoesWell before tokens (sent t fresh send)
sent_goes before tokens t fresh Nothing last h = tt
sent_goes before tokens t fresh Again last h = again_goes before tokens t.place t.last last
sent_goes before tokens t fresh Fresh last h = fresh_goes before tokens t.place fresh h

by_line : (before : List Sent) (tokens id : ℕ) (t : Transaction) (input : Input) (fresh : Option (List ℕ)) (line : Option Step) → WasSentIf before t.last → FreshFits before tokens fresh
    → GoesWell before tokens (reception_by id t input fresh line).send
by_line before tokens id t input fresh None last h = tt
by_line before tokens id t input fresh (Some step) last h = sent_goes before tokens t fresh step.send last h

by_slot : (before : List Sent) (tokens : ℕ) (slots : List (Option Transaction)) (id : ℕ) (o : Option Transaction) (input : Input) (fresh : Option (List ℕ)) → All (LastWasSent before) slots → at slots id ≡ o → FreshFits before tokens fresh
    → GoesWell before tokens (reception_at id o input fresh).send
by_slot before tokens slots id None input fresh was there h = tt
by_slot before tokens slots id (Some t) input fresh was there h = by_line before tokens id t input fresh (row_of t.state input) (slot_at (LastWasSent before) slots id t was there) h

begun_goes : (before : List Sent) (tokens : ℕ) (table : transactions.Contents) (parts : Parts) (b : Bool)
    → GoesWell before tokens (cond b transactions.stray (record { verdict = verdicts.New (free_number table.slots); before = None; send = None })).send
begun_goes before tokens table parts true = tt
begun_goes before tokens table parts false = tt

request_goes : (before : List Sent) (tokens : ℕ) (table : transactions.Contents) (r : Request) (id : Option ℕ) → All (LastWasSent before) table.slots → GoesWell before tokens (request_reception table r id).send
request_goes before tokens table r None was = begun_goes before tokens table r.parts (is_method (codes "ACK") r.parts)
request_goes before tokens table r (Some id) was = by_slot before tokens table.slots id (at table.slots id) (input_of r.parts) None was refl tt

-- ---- a response to a request of the server's own

module _ (reading : Reading) (before : List Sent) (s : Office) (tokens : KnowsTokens s) (dialogs : KnowsDialogs s) (values : KnowsClients s) (was : KnowsSent s before) where
  ack_fits : (text : List ℕ) (t : Transaction) (r : Response) (o : Option Request) → message_of text ≡ Ok (Kinds.Response r) → (id : ℕ) → at s.table.slots id ≡ Some t → is_server t.state ≡ false → ack_of t.uri t.parts r.parts ≡ o
      → FreshFits before s.tokens (option_map (λ ack. message_text (Kinds.Request ack)) o)
  ack_fits text t r None read id there client is = tt
  ack_fits text t r (Some ack) read id there client is =
      let like = ack_like t r t.parts.vias ack refl is in
      let own : IsOwn s.tokens t = slot_at (IsOwnIf s.tokens) s.table.slots id t tokens.slots there in
      let kept = clients_read s values id t there client in
      λ to. acknowledges ack like.method (subst (IsMadeBranch s.tokens) (sym like.branch) (own client).branch) refl
      (refusal_ack_stands t.uri t.parts r.parts ack kept.values kept.via (refused_end reading text t r read (dialogs.requests id t there client) kept) is)

  ack_sent_fits : (text : List ℕ) (t : Transaction) (r : Response) (send : Sending) → message_of text ≡ Ok (Kinds.Response r) → (id : ℕ) → at s.table.slots id ≡ Some t → is_server t.state ≡ false → FreshFits before s.tokens (ack_for t r send)
  ack_sent_fits text t r Nothing read id there client = tt
  ack_sent_fits text t r Again read id there client = tt
  ack_sent_fits text t r Fresh read id there client = ack_fits text t r (ack_of t.uri t.parts r.parts) read id there client refl

  ack_line_fits : (text : List ℕ) (t : Transaction) (r : Response) (line : Option Step) → message_of text ≡ Ok (Kinds.Response r) → (id : ℕ) → at s.table.slots id ≡ Some t → is_server t.state ≡ false → FreshFits before s.tokens (ack_by t r line)
  ack_line_fits text t r None read id there client = tt
  ack_line_fits text t r (Some step) read id there client = ack_sent_fits text t r step.send read id there client

  ack_slot_fits : (text : List ℕ) (r : Response) (id : ℕ) (o : Option Transaction) → message_of text ≡ Ok (Kinds.Response r) → at s.table.slots id ≡ o → is_answered r.parts o ≡ true → FreshFits before s.tokens (ack_at o r)
  ack_slot_fits text r id None read there h = tt
  ack_slot_fits text r id (Some t) read there h = ack_line_fits text t r (row_of t.state (response_input r)) read id there (answered_client r.parts t h)

  response_goes : (text : List ℕ) (r : Response) (id : Option ℕ) → message_of text ≡ Ok (Kinds.Response r) → position (is_answered r.parts) s.table.slots ≡ id → GoesWell before s.tokens (response_reception s.table r id).send
  response_goes text r None read is = tt
  response_goes text r (Some id) read is =
      by_slot before s.tokens s.table.slots id (at s.table.slots id) (response_input r) (ack_at (at s.table.slots id) r) was.slots refl
      (ack_slot_fits text r id (at s.table.slots id) read refl (position-Some (is_answered r.parts) s.table.slots id None is).1)

  pub message_goes : (text : List ℕ) (m : Message) → message_of text ≡ Ok m → GoesWell before s.tokens (reception_of s.table m).send
  unfolding reception_of
  message_goes text (Kinds.Request r) read = request_goes before s.tokens s.table r (position (is_asked r.parts) s.table.slots) was.slots
  message_goes text (Kinds.Response r) read = response_goes text r (position (is_answered r.parts) s.table.slots) read refl

-- ---- a timer

by_told : (before : List Sent) (tokens : ℕ) (told : Told) (send : Option Outgoing) (out : Outgoing) → GoesWell before tokens send → fired_by told send ≡ Some (fires.Send out) → GoesWell before tokens (Some out)
by_told before tokens tells.TimedOut send out own e = absurd cc
by_told before tokens tells.Ended send out own e = absurd cc
by_told before tokens tells.Silent None out own e = absurd cc
by_told before tokens tells.Silent (Some x) out own e = let same : x ≡ out = cc in subst (λ y. GoesWell before tokens (Some y)) same own
by_told before tokens tells.Up None out own e = absurd cc
by_told before tokens tells.Up (Some x) out own e = let same : x ≡ out = cc in subst (λ y. GoesWell before tokens (Some y)) same own

by_fired : (before : List Sent) (tokens : ℕ) (t : Transaction) (line : Option Step) (out : Outgoing) → WasSentIf before t.last → fired_step t line ≡ Some (fires.Send out) → GoesWell before tokens (Some out)
by_fired before tokens t None out last e = absurd cc
by_fired before tokens t (Some step) out last e = by_told before tokens step.told (sent t None step.send) out (sent_goes before tokens t None step.send last tt) e

fired_at : (before : List Sent) (tokens : ℕ) (slots : List (Option Transaction)) (timer : TimerId) (o : Option Transaction) (out : Outgoing) → All (LastWasSent before) slots → at slots timer.id ≡ o → fired_of o timer.kind ≡ Some (fires.Send out)
    → GoesWell before tokens (Some out)
fired_at before tokens slots timer None out was there e = absurd cc
fired_at before tokens slots timer (Some t) out was there e = by_fired before tokens t (row_of t.state (inputs.Fires timer.kind)) out (slot_at (LastWasSent before) slots timer.id t was there) e

pub timer_goes : (before : List Sent) (s : Office) → KnowsSent s before → (timer : TimerId) (out : Outgoing) → fired_of (at s.table.slots timer.id) timer.kind ≡ Some (fires.Send out) → GoesWell before s.tokens (Some out)
timer_goes before s was timer out e = fired_at before s.tokens s.table.slots timer (at s.table.slots timer.id) out was.slots refl e

-- ---- what is kept of a message

served_keeps : (r : Request) (source : Addr) → KeepsOwnKind (served r source)
served_keeps r source = record { server = λ bytes server last. absurd (none-some bytes last); client = λ bytes client last. absurd (none-some bytes last) }

begins_keeps : (r : Request) (source : Addr) (b : Bool) → EntryKeeps (cond b Leaves (Opens (served r source) NoTimer))
begins_keeps r source true = tt
begins_keeps r source false = served_keeps r source

request_keeps : (r : Request) (source : Addr) (id : Option ℕ) → EntryKeeps (request_change r source id)
request_keeps r source None = begins_keeps r source (is_method (codes "ACK") r.parts)
request_keeps r source (Some id) = tt

fresh_keeps : (input : Input) (o : Option Request) → is_of_response input ≡ true → KeepsFresh input (option_map (λ ack. message_text (Kinds.Request ack)) o)
fresh_keeps input None e = tt
fresh_keeps input (Some ack) e = (e, record { request = ack; said = refl })

ack_sent_keeps : (t : Transaction) (r : Response) (send : Sending) → KeepsFresh (response_input r) (ack_for t r send)
ack_sent_keeps t r Nothing = tt
ack_sent_keeps t r Again = tt
ack_sent_keeps t r Fresh = fresh_keeps (response_input r) (ack_of t.uri t.parts r.parts) refl

ack_line_keeps : (t : Transaction) (r : Response) (line : Option Step) → KeepsFresh (response_input r) (ack_by t r line)
ack_line_keeps t r None = tt
ack_line_keeps t r (Some step) = ack_sent_keeps t r step.send

ack_keeps : (o : Option Transaction) (r : Response) → KeepsFresh (response_input r) (ack_at o r)
ack_keeps None r = tt
ack_keeps (Some t) r = ack_line_keeps t r (row_of t.state (response_input r))

response_keeps : (table : transactions.Contents) (r : Response) (id : Option ℕ) → EntryKeeps (response_change table r id)
response_keeps table r None = tt
response_keeps table r (Some id) = ack_keeps (at table.slots id) r

change_keeps : (table : transactions.Contents) (m : Message) (source : Addr) → EntryKeeps (change_of table m source)
unfolding change_of
change_keeps table (Kinds.Request r) source = request_keeps r source (position (is_asked r.parts) table.slots)
change_keeps table (Kinds.Response r) source = response_keeps table r (position (is_answered r.parts) table.slots)

pub message_keeps : (s : Office) (e : Setting) (m : Message) → AllOf EntryKeeps (begun_by s e m)
message_keeps s e m = (change_keeps s.table m e.source, tt)

-- ---- none of the server's own begins

pub opens_of : (changes : List Entry) (t : Transaction) → IsAmong (begun_of changes) t → OpensIn t changes
opens_of [] t h = absurd h
opens_of (Opens v starts ∷ changes) t (inl e) = inl e
opens_of (Opens v starts ∷ changes) t (inr h) = inr (opens_of changes t h)
opens_of (Tells id input fresh ∷ changes) t h = opens_of changes t h
opens_of (Answers id class bytes ∷ changes) t h = opens_of changes t h
opens_of (Leaves ∷ changes) t h = opens_of changes t h

pub message_begins_none : (s : Office) (e : Setting) (m : Message) (t : Transaction) → IsAmong (begun_of (begun_by s e m)) t → is_server t.state ≡ false → ⊥
message_begins_none s e m t h client = change_none s m e.source t (opens_of (begun_by s e m) t h) client

-- ---- what is reported

-- changes that report no final response, or such ones after a response to the request of a transaction
pub data IsTold (s : Office) (m : Message) (changes : List Entry) : Type 0 where
  calm : AllOf EntryIsCalm changes → IsTold s m changes
  answers : (r : Response) (id : ℕ) (t : Transaction) (fresh : Option (List ℕ)) (rest : List Entry) → m ≡ Kinds.Response r → at s.table.slots id ≡ Some t → is_answered r.parts (Some t) ≡ true
      → changes ≡ Tells id (response_input r) fresh ∷ rest → AllOf EntryIsCalm rest → IsTold s m changes

input_calm : (b : Bool) → is_final_input (cond b inputs.Ack inputs.Repeat) ≡ false
input_calm true = refl
input_calm false = refl

begins_calm : (r : Request) (source : Addr) (b : Bool) → EntryIsCalm (cond b Leaves (Opens (served r source) NoTimer))
begins_calm r source true = tt
begins_calm r source false = tt

request_calm : (r : Request) (source : Addr) (id : Option ℕ) → EntryIsCalm (request_change r source id)
request_calm r source None = begins_calm r source (is_method (codes "ACK") r.parts)
request_calm r source (Some id) = input_calm (is_method (codes "ACK") r.parts)

none_answered : (parts : Parts) → is_answered parts None ≡ false
unfolding is_answered
none_answered parts = refl

response_slot_told : (s : Office) (r : Response) (id : ℕ) (o : Option Transaction) (rest : List Entry) → at s.table.slots id ≡ o → is_answered r.parts o ≡ true → AllOf EntryIsCalm rest
    → IsTold s (Kinds.Response r) (Tells id (response_input r) (ack_at (at s.table.slots id) r) ∷ rest)
response_slot_told s r id None rest there h calm_rest = absurd (false≢true (sym (none_answered r.parts) ∙ h))
response_slot_told s r id (Some t) rest there h calm_rest = answers r id t (ack_at (at s.table.slots id) r) rest refl there h refl calm_rest

response_told : (s : Office) (r : Response) (id : Option ℕ) (rest : List Entry) → position (is_answered r.parts) s.table.slots ≡ id → AllOf EntryIsCalm rest → IsTold s (Kinds.Response r) (response_change s.table r id ∷ rest)
response_told s r None rest is calm_rest = calm (tt, calm_rest)
response_told s r (Some id) rest is calm_rest = response_slot_told s r id (at s.table.slots id) rest refl (position-Some (is_answered r.parts) s.table.slots id None is).1 calm_rest

pub request_is_calm : (s : Office) (e : Setting) (r : Request) → AllOf EntryIsCalm (begun_by s e (Kinds.Request r))
unfolding change_of
request_is_calm s e r = (request_calm r e.source (position (is_asked r.parts) s.table.slots), tt)

pub message_told : (s : Office) (e : Setting) (m : Message) (rest : List Entry) → AllOf EntryIsCalm rest → IsTold s m (begun_by s e m ++ rest)
unfolding change_of
message_told s e (Kinds.Request r) rest calm_rest = calm (request_calm r e.source (position (is_asked r.parts) s.table.slots), calm_rest)
message_told s e (Kinds.Response r) rest calm_rest = response_told s r (position (is_answered r.parts) s.table.slots) rest refl calm_rest
