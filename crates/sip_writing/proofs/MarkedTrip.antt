-- A Via that got the source, and a To with a tag after it, can be written as well.
use Rattle.std.proofs.Common.{◌≡◌, ℕ, zero, suc, ◌<◌, ◌≤◌, ◌^◌, Bool, true, false, not, ◌&&◌, ◌||◌, cond, eqb, List, [], ◌∷◌, ◌++◌, length, get_or, set, Option, Some, None, Result, Ok, Err, is_some, refl, sym, ap, subst, ◌∙◌, append_assoc, codes, arith}
use Rattle.std.specs.Prelude.{decimal, filter, position, slice_index}
use Rattle.std.specs.List.{list_all, AllByRecursion}
use Rattle.std.proofs.lemmas.Bool.{and_parts, and_from, ne_eqb}
use Rattle.std.proofs.lemmas.List.Folds.{list_all-append}
use Rattle.std.proofs.lemmas.List.Quantifiers.{position-Some}
use Rattle.text.specs.Class.{is_token_byte, is_run_of}
use Rattle.text.specs.Trim.{trimmed}
use Rattle.text.proofs.Numbers.{decimal_run}
use Rattle.sip_uri.specs.declared.error.UriError.{UriError}
use Rattle.sip_uri.specs.declared.uri.Addr.{Addr}
use Rattle.sip_uri.specs.declared.uri.NameAddr.{NameAddr}
use Rattle.sip_uri.specs.declared.uri.Param.{Param}
use Rattle.sip_uri.specs.Binding.{param_named}
use Rattle.sip_uri.specs.NameAddr.{name_addr_of, ReadsNameAddr}
use Rattle.sip_uri.specs.Writing.{ip4_text, param_text}
use Rattle.sip_uri.proofs.NameLaws.{name_is_found, name_is_read}
use Rattle.sip_uri.proofs.ParamBehind.{with_param, name_with_param}
use Rattle.sip_message.specs.declared.via.Via.{Via}
use Rattle.sip_message.specs.Fields.{begins_blank}
use Rattle.sip_message.specs.Party.{tag_fits, has_fit_tag, has_tag, party_from, party_of}
use Rattle.sip_message.specs.Repeatable.{IsValue}
use Rattle.sip_writing.specs.Reply.{is_param, asks_port, is_address, value_put, without, received, filled, with_received, marked, marked_top, tag_param, tagged_params, tagged_to, tagged_text}
use Rattle.sip_message.proofs.CleanLaws.{Ends, ends_behind}
use Rattle.sip_writing.proofs.MessageRoundTrip.{digits_token}
use Rattle.sip_writing.proofs.ParamTrip.{IsParam, token_param}
use Rattle.sip_writing.proofs.RepliesLaws.{find_last}
use Rattle.sip_message.proofs.ValueLaws.{trimmed_is, trim_same, token_end, clean_joined}
use Rattle.sip_writing.proofs.ViaTrip.{IsVia}

-- ---- lists each of whose items passes

abbrev Each : List Param → Type 0
Each ps = AllByRecursion IsParam ps

each_push : (ps : List Param) (p : Param) → Each ps → IsParam p → Each (ps ++ p ∷ [])
each_push [] p h k = (k, tt)
each_push (x ∷ ps) p h k = (h.0, each_push ps p h.1 k)

each_kept : (p : Param → Bool) (ps : List Param) → Each ps → Each (filter p ps)
each_kept p [] h = tt
each_kept p (x ∷ ps) h = step (p x) (each_kept p ps h.1) where
  step : (e : Bool) → Each (filter p ps) → Each (cond e (x ∷ filter p ps) (filter p ps))
  step true more = (h.0, more)
  step false more = more

each_set : (ps : List Param) (i : ℕ) (p : Param) → Each ps → IsParam p → Each (set ps i p)
each_set [] i p h k = tt
each_set (x ∷ ps) zero p h k = (k, h.1)
each_set (x ∷ ps) (suc i) p h k = (h.0, each_set ps i p h.1 k)

each_at : (ps : List Param) (i : ℕ) (d : Param) → i < length ps → Each ps → IsParam (get_or ps i d)
each_at [] i d lt h = absurd (omega arith)
each_at (x ∷ ps) zero d lt h = h.0
each_at (x ∷ ps) (suc i) d lt h = each_at ps i d (omega arith) h.1

-- ---- numbers

pub number_token : (n : ℕ) → n < 2 ^ 64 → is_run_of is_token_byte (decimal n) ≡ true
number_token n small =
    let run = and_parts (not (eqb (length (decimal n)) 0)) (list_all _ (decimal n)) (decimal_run n small) in
    and_from _ _ run.0 (digits_token (decimal n) run.1)

pub run_append : (xs ys : List ℕ) → is_run_of is_token_byte xs ≡ true → list_all is_token_byte ys ≡ true → is_run_of is_token_byte (xs ++ ys) ≡ true
run_append [] ys h k = absurd cc
run_append (x ∷ xs) ys h k =
    let all = (and_parts (not (eqb (length (x ∷ xs)) 0)) (list_all is_token_byte (x ∷ xs)) h).1 in
    and_from _ _ (rw (ne_eqb (suc (length (xs ++ ys))) 0 (λ e. cc)) refl) (list_all-append is_token_byte (x ∷ xs) ys ∙ and_from _ _ all k)

all_of_run : (xs : List ℕ) → is_run_of is_token_byte xs ≡ true → list_all is_token_byte xs ≡ true
all_of_run xs h = (and_parts (not (eqb (length xs) 0)) (list_all is_token_byte xs) h).1

-- an address of bytes, and a port of 16 bits
pub record IsNumbered (source : Addr) : Type 0 where
  pub octets : (i : ℕ) → slice_index source.ip i ≤ 255
  pub port : source.port ≤ 65535

-- a number, a dot and a token
dotted : (front : List ℕ) (octet : ℕ) → is_run_of is_token_byte front ≡ true → octet ≤ 255 → is_run_of is_token_byte (front ++ 46 ∷ [] ++ decimal octet) ≡ true
dotted front octet h le =
    run_append (front ++ 46 ∷ []) (decimal octet) (run_append front (46 ∷ []) h refl) (all_of_run (decimal octet) (number_token octet (omega arith)))

pub address_token : (source : Addr) → IsNumbered source → is_run_of is_token_byte (ip4_text source.ip) ≡ true
address_token source n =
    let a = slice_index source.ip 0 in
    let b = slice_index source.ip 1 in
    let c = slice_index source.ip 2 in
    let d = slice_index source.ip 3 in
    let first = number_token a (omega (arith, n.octets 0)) in
    let second = dotted (decimal a) b first (n.octets 1) in
    let third = dotted (decimal a ++ 46 ∷ [] ++ decimal b) c second (n.octets 2) in
    dotted (decimal a ++ 46 ∷ [] ++ decimal b ++ 46 ∷ [] ++ decimal c) d third (n.octets 3)

-- ---- the top Via

received_param : (source : Addr) → IsNumbered source → IsParam (received source)
unfolding received
received_param source n = token_param (codes "received") (ip4_text source.ip) refl (address_token source n)

value_put_each : (ps : List Param) (value : List ℕ) (o : Option ℕ) → position (is_param (codes "rport")) ps ≡ o → is_run_of is_token_byte value ≡ true → Each ps → Each (value_put ps value o)
value_put_each ps value None e token h = h
value_put_each ps value (Some place) e token h =
    let d : Param = record { name = []; value = None } in
    let at = position-Some (is_param (codes "rport")) ps place d e in
    let name = (each_at ps place d at.0 h).field.name in
    each_set ps place (record { name = (get_or ps place d).name; value = Some value }) h (token_param (get_or ps place d).name value name token)

filled_each : (asked : Bool) (port : ℕ) (ps : List Param) → port ≤ 65535 → Each ps → Each (filled asked port ps)
filled_each true port ps le h = value_put_each ps (decimal port) (position (is_param (codes "rport")) ps) refl (number_token port (omega arith)) h
filled_each false port ps le h = h

with_received_each : (needed : Bool) (source : Addr) (ps : List Param) → IsNumbered source → Each ps → Each (with_received needed source ps)
with_received_each true source ps n h = each_push ps (received source) h (received_param source n)
with_received_each false source ps n h = h

marked_is : (source : Addr) (via : Via) → IsNumbered source → IsVia via → IsVia (marked source via)
unfolding marked
marked_is source via n h =
    let asked : Bool = asks_port via.params in
    let needed : Bool = asked || not (is_address via.host source.ip) in
    record {
      host = h.host;
      port = h.port;
      sent_by = h.sent_by;
      reads = h.reads;
      host_ends = h.host_ends;
      port_form = h.port_form;
      port_ends = h.port_ends;
      value = h.value;
      params = with_received_each needed source (without (codes "received") (filled asked source.port via.params)) n (each_kept (λ p. not (is_param (codes "received") p)) (filled asked source.port via.params) (filled_each asked source.port via.params n.port h.params));
    }

pub marked_vias : (source : Addr) (vias : List Via) → IsNumbered source → AllByRecursion IsVia vias → AllByRecursion IsVia (marked_top source vias)
marked_vias source [] n h = tt
marked_vias source (via ∷ vias) n h = (marked_is source via n h.0, h.1)

pub marked_some : (source : Addr) (vias : List Via) → (vias ≡ [] → ⊥) → marked_top source vias ≡ [] → ⊥
marked_some source [] some h = some refl
marked_some source (via ∷ vias) some h = cc

-- ---- To

abbrev ok_name : NameAddr → Result NameAddr UriError
ok_name n = Ok n

fit_name : (e : Bool) (n name : NameAddr) → cond e (Some n) None ≡ Some name → ok_name n ≡ ok_name name
fit_name true n name k = let same : n ≡ name = cc in ap ok_name same
fit_name false n name k = absurd cc

found_at : (text : List ℕ) (name : NameAddr) → party_of text ≡ Some name → ReadsNameAddr text name
unfolding party_of
found_at text name h = name_is_found text name (step (name_addr_of text) h) where
  step : (r : Result NameAddr UriError) → party_from r ≡ Some name → r ≡ Ok name
  step (Err e) k = absurd cc
  step (Ok n) k = fit_name (has_fit_tag n.params) n name k

party_at : (text : List ℕ) (name : NameAddr) → ReadsNameAddr text name → has_fit_tag name.params ≡ true → party_of text ≡ Some name
unfolding party_of
party_at text name h fit = rw (name_is_read text name h, fit) refl

no_tag : (params : List Param) → has_tag params ≡ false → param_named (codes "tag") params ≡ None
no_tag params h = step (param_named (codes "tag") params) h where
  step : (o : Option Param) → is_some o ≡ false → o ≡ None
  step None k = refl
  step (Some p) k = absurd cc

with_tag : (text tag : List ℕ) (to : NameAddr) → party_of text ≡ Some to → has_tag to.params ≡ false → is_run_of is_token_byte tag ≡ true
    → party_of (text ++ 59 ∷ param_text (tag_param tag)) ≡ Some (with_param to (tag_param tag))
with_tag text tag to h none token =
    let read = name_with_param text to (tag_param tag) (found_at text to h) (token_param (codes "tag") tag refl token).field in
    let last = find_last (is_param (codes "tag")) to.params (tag_param tag) (no_tag to.params none) refl in
    party_at (text ++ 59 ∷ param_text (tag_param tag)) (with_param to (tag_param tag)) read (ap tag_fits last ∙ token)

-- one more text after a value
value_behind : (text tag : List ℕ) → IsValue text → is_run_of is_token_byte tag ≡ true → IsValue (text ++ 59 ∷ param_text (tag_param tag))
value_behind text tag h token =
    let all = all_of_run tag token in
    let param : Ends (codes "tag" ++ 61 ∷ tag) = ends_behind (codes "tag") 61 tag refl (token_end tag all) in
    record {
      clean = clean_joined text (59 ∷ param_text (tag_param tag)) h.clean (token_param (codes "tag") tag refl token).clean;
      ends = trim_same (text ++ 59 ∷ param_text (tag_param tag)) (record { front = front text h.ends; back = ends_behind text 59 (param_text (tag_param tag)) refl param });
    } where
      front : (t : List ℕ) → trimmed t ≡ t → begins_blank (t ++ 59 ∷ param_text (tag_param tag)) ≡ false
      front [] e = refl
      front (b ∷ bs) e = ap begins_blank (sym e) ∙ (trimmed_is (b ∷ bs)).front

tag_joined : (text tag : List ℕ) → text ++ codes ";tag=" ++ tag ≡ text ++ 59 ∷ param_text (tag_param tag)
tag_joined text tag = append_assoc text (codes ";tag=") tag

-- To of a response
pub record IsTo (to : NameAddr) (text : List ℕ) : Type 0 where
  pub value : IsValue text
  pub party : party_of text ≡ Some to

pub tagged_is : (status : ℕ) (to : NameAddr) (text tag : List ℕ) → IsTo to text → is_run_of is_token_byte tag ≡ true → IsTo (tagged_to status to tag) (tagged_text status to text tag)
tagged_is status to text tag h token = step (has_tag to.params) (eqb status 100) refl where
  step : (e f : Bool) → has_tag to.params ≡ e → IsTo (record to { params = tagged_params (not e && not f) to.params tag }) (cond (not e && not f) (text ++ codes ";tag=" ++ tag) text)
  step true f k = h
  step false true k = h
  step false false k =
      let value = value_behind text tag h.value token in
      let party = with_tag text tag to h.party k token in
      subst (λ (t : List ℕ). IsTo (with_param to (tag_param tag)) t) (sym (tag_joined text tag)) (record { value = value; party = party })
