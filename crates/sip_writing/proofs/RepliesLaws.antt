-- A response belongs to its request.
use Rattle.std.proofs.Common.{◌≡◌, ℕ, zero, suc, ◌<◌, Bool, true, false, not, ◌&&◌, ◌||◌, cond, eqb, List, [], ◌∷◌, ◌++◌, length, get_or, set, Option, Some, None, is_some, Result, Ok, Err, refl, sym, ap, subst, ◌∙◌, codes, arith}
use Rattle.std.specs.Prelude.{filter, find, position, decimal, nat_eq, IfOk}
use Rattle.std.specs.Cmp.Lexicographic.{pointwise, bytes_decides}
use Rattle.std.specs.Str.{str_to_ascii_lowercase}
use Rattle.std.proofs.lemmas.List.Quantifiers.{position-Some}
use Rattle.sip_uri.specs.declared.uri.Addr.{Addr}
use Rattle.sip_uri.specs.declared.uri.NameAddr.{NameAddr}
use Rattle.sip_uri.specs.declared.uri.Param.{Param}
use Rattle.sip_uri.specs.Binding.{param_named}
use Rattle.sip_message.specs.declared.message.Parts.{Parts}
use Rattle.sip_message.specs.declared.message.Response.{Response}
use Rattle.sip_message.specs.declared.via.Via.{Via}
use Rattle.sip_writing.specs.Replies.{top_branch, tag_of, answered_tag, Replies}
use Rattle.sip_writing.specs.Reply.{asks_port, is_address, is_param, value_put, without, received, filled, with_received, marked, marked_top, tag_param, tagged_params, tagged_to, replied, reply_of}

-- ---- what is found in a list that was changed elsewhere

find_set : (p : Param → Bool) (xs : List Param) (i : ℕ) (y d : Param) → i < length xs → p (get_or xs i d) ≡ false → p y ≡ false → find p (set xs i y) ≡ find p xs
find_set p [] i y d lt old new = absurd (omega arith)
find_set p (x ∷ xs) zero y d lt old new = rw (old, new) refl
find_set p (x ∷ xs) (suc i) y d lt old new = ap (λ (o : Option Param). cond (p x) (Some x) o) (find_set p xs i y d (omega arith) old new)

find_filter : (p q : Param → Bool) (xs : List Param) → ((x : Param) → p x ≡ true → q x ≡ true) → find p (filter q xs) ≡ find p xs
find_filter p q [] kept = refl
find_filter p q (x ∷ xs) kept = step (p x) (q x) (kept x) (find_filter p q xs kept) refl where
  step : (a b : Bool) → (a ≡ true → b ≡ true) → find p (filter q xs) ≡ find p xs → p x ≡ a → find p (cond b (x ∷ filter q xs) (filter q xs)) ≡ cond a (Some x) (find p xs)
  step true b is more e = rw (is refl, e) refl
  step false true is more e = rw e more
  step false false is more e = more

find_push : (p : Param → Bool) (xs : List Param) (y : Param) → p y ≡ false → find p (xs ++ y ∷ []) ≡ find p xs
find_push p [] y h = rw h refl
find_push p (x ∷ xs) y h = ap (λ (o : Option Param). cond (p x) (Some x) o) (find_push p xs y h)

pub find_last : (p : Param → Bool) (xs : List Param) (y : Param) → find p xs ≡ None → p y ≡ true → find p (xs ++ y ∷ []) ≡ Some y
find_last p [] y none h = rw h refl
find_last p (x ∷ xs) y none h = step (p x) none (λ e. find_last p xs y e h) where
  step : (b : Bool) → cond b (Some x) (find p xs) ≡ None → (find p xs ≡ None → find p (xs ++ y ∷ []) ≡ Some y) → cond b (Some x) (find p (xs ++ y ∷ [])) ≡ Some y
  step true e more = absurd cc
  step false e more = more e

-- a parameter of one name has no other
pub other_name : (a b : List ℕ) (p : Param) → is_param a p ≡ true → pointwise nat_eq (str_to_ascii_lowercase a) (str_to_ascii_lowercase b) ≡ false → is_param b p ≡ false
other_name a b p h other = rw ((bytes_decides (str_to_ascii_lowercase p.name) (str_to_ascii_lowercase a)).0 h) other

-- ---- the branch

abbrev is_branch : Param → Bool
is_branch = is_param (codes "branch")

put_branch : (params : List Param) (value : List ℕ) (o : Option ℕ) → position (is_param (codes "rport")) params ≡ o → find is_branch (value_put params value o) ≡ find is_branch params
put_branch params value None e = refl
put_branch params value (Some place) e =
    let d : Param = record { name = []; value = None } in
    let at = position-Some (is_param (codes "rport")) params place d e in
    let here : is_branch (get_or params place d) ≡ false = other_name (codes "rport") (codes "branch") (get_or params place d) at.1 refl in
    find_set is_branch params place (record { name = (get_or params place d).name; value = Some value }) d at.0 here here

filled_branch : (asked : Bool) (port : ℕ) (params : List Param) → find is_branch (filled asked port params) ≡ find is_branch params
filled_branch true port params = put_branch params (decimal port) (position (is_param (codes "rport")) params) refl
filled_branch false port params = refl

without_branch : (params : List Param) → find is_branch (without (codes "received") params) ≡ find is_branch params
without_branch params = find_filter is_branch (λ p. not (is_param (codes "received") p)) params (λ p h. ap not (other_name (codes "branch") (codes "received") p h refl))

received_branch : (needed : Bool) (source : Addr) (params : List Param) → find is_branch (with_received needed source params) ≡ find is_branch params
unfolding received
received_branch true source params = find_push is_branch params (received source) refl
received_branch false source params = refl

marked_branch : (source : Addr) (via : Via) → param_named (codes "branch") (marked source via).params ≡ param_named (codes "branch") via.params
unfolding marked
marked_branch source via =
    let asked : Bool = asks_port via.params in
    let needed : Bool = asked || not (is_address via.host source.ip) in
    received_branch needed source (without (codes "received") (filled asked source.port via.params)) ∙ without_branch (filled asked source.port via.params) ∙ filled_branch asked source.port via.params

top_kept : (source : Addr) (vias : List Via) → top_branch (marked_top source vias) ≡ top_branch vias
top_kept source [] = refl
top_kept source (via ∷ vias) = marked_branch source via

-- ---- the tag of To

to_kept : (status : ℕ) (to : NameAddr) (tag : List ℕ) → tag_of (tagged_to status to tag).params ≡ answered_tag status (tag_of to.params) tag
to_kept status to tag = step (tag_of to.params) refl where
  put : (b : Bool) → tag_of to.params ≡ None → tag_of (tagged_params (not b) to.params tag) ≡ cond b None (Some (tag_param tag))
  put true e = e
  put false e = find_last (is_param (codes "tag")) to.params (tag_param tag) e refl

  step : (o : Option Param) → tag_of to.params ≡ o → tag_of (tagged_params (not (is_some o) && not (eqb status 100)) to.params tag) ≡ answered_tag status o tag
  step (Some own) e = e
  step None e = put (eqb status 100) e

-- ---- all

pub replies_by : (parts : Parts) (source : Addr) (status : ℕ) (tag : List ℕ) → Replies (reply_of parts source status tag).parts parts status tag
unfolding reply_of replied
replies_by parts source status tag = record {
  branch = top_kept source parts.vias;
  call_id = refl;
  from_tag = refl;
  to_tag = to_kept status parts.to tag;
  cseq = refl;
}

pub replies_at : {E : Type 0} (r : Result Response E) (parts : Parts) (source : Addr) (status : ℕ) (tag : List ℕ) → IfOk r (λ a. a ≡ reply_of parts source status tag) → IfOk r (λ a. Replies a.parts parts status tag)
replies_at (Ok a) parts source status tag h = subst (λ (x : Response). Replies x.parts parts status tag) (sym h) (replies_by parts source status tag)
replies_at (Err e) parts source status tag h = tt
