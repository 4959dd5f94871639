-- What is written parameter by parameter is the text of the marked ones.
use Rattle.std.proofs.Common.{◌≡◌, ◌∙◌, ◌+◌, ℕ, suc, Bool, true, false, not, cond, List, [], ◌∷◌, ◌++◌, length, Option, Some, None, refl, sym, ap, codes, append_assoc, append-nil, arith}
use Rattle.std.proofs.lemmas.Grind.{common_steps}
use Rattle.std.specs.Prelude.{decimal, position, nat_lt, option_map}
use Rattle.std.specs.List.{position_or_len}
use Rattle.sip_uri.specs.declared.uri.Addr.{Addr}
use Rattle.sip_uri.specs.declared.uri.Param.{Param}
use Rattle.sip_uri.specs.Writing.{param_text, params_text}
use Rattle.sip_writing.specs.MarkedText.{filled_text, kept_text, marked_param_text, marked_params_text, received_text}
use Rattle.sip_message.specs.declared.via.Via.{Via}
use Rattle.sip_message.specs.Lookup.{named}
use Rattle.sip_writing.specs.Reply.{is_param, asks_port, needs_received, marked, via_text, value_put, with_value, without, received, filled, with_received, marked_params}
use Rattle.sip_writing.specs.Writing.{header_text}
use Rattle.sip_writing.proofs.RepliesLaws.{other_name}

abbrev is_rport : Param → Bool
is_rport = is_param (codes "rport")

-- ---- the value that the first `rport` gets

place_here : (p : Param) (ps : List Param) → is_rport p ≡ true → position is_rport (p ∷ ps) ≡ Some 0
place_here p ps h = step (is_rport p) (position_or_len is_rport ps) (length ps) h where
  step : (b : Bool) (k n : ℕ) → b ≡ true → cond (nat_lt (cond (not b) (1 + k) 0) (suc n)) (Some (cond (not b) (1 + k) 0)) None ≡ Some 0
  step true k n e = grind (arith, common_steps)
  step false k n e = absurd cc

place_next : (p : Param) (ps : List Param) → is_rport p ≡ false → position is_rport (p ∷ ps) ≡ option_map suc (position is_rport ps)
place_next p ps h = step (is_rport p) (position_or_len is_rport ps) (length ps) h where
  step : (b : Bool) (k n : ℕ) → b ≡ false → cond (nat_lt (cond (not b) (1 + k) 0) (suc n)) (Some (cond (not b) (1 + k) 0)) None ≡ option_map suc (cond (nat_lt k n) (Some k) None)
  step true k n e = absurd cc
  step false k n e = grind (arith, common_steps)

put_here : (value : List ℕ) (p : Param) (ps : List Param) → is_rport p ≡ true
    → with_value (codes "rport") value (p ∷ ps) ≡ record { name = p.name; value = Some value } ∷ ps
put_here value p ps h = ap (value_put (p ∷ ps) value) (place_here p ps h)

put_next : (value : List ℕ) (p : Param) (ps : List Param) → is_rport p ≡ false
    → with_value (codes "rport") value (p ∷ ps) ≡ p ∷ with_value (codes "rport") value ps
put_next value p ps h = ap (value_put (p ∷ ps) value) (place_next p ps h) ∙ step (position is_rport ps) where
  step : (o : Option ℕ) → value_put (p ∷ ps) value (option_map suc o) ≡ p ∷ value_put ps value o
  step None = refl
  step (Some i) = refl

-- ---- one by one

abbrev text_of : List Param → List ℕ
text_of ps = params_text 59 59 (without (codes "received") ps)

first_kept : (p : Param) (ps : List Param) → text_of (p ∷ ps) ≡ kept_text p ++ text_of ps
first_kept p ps = step (is_param (codes "received") p) where
  step : (b : Bool) → params_text 59 59 (cond (not b) (p ∷ without (codes "received") ps) (without (codes "received") ps)) ≡ cond b [] (59 ∷ param_text p) ++ text_of ps
  step true = refl
  step false = refl

none_filled : (port : ℕ) (ps : List Param) → text_of ps ≡ marked_params_text false port ps
none_filled port [] = refl
none_filled port (p ∷ ps) = first_kept p ps ∙ ap (λ (t : List ℕ). kept_text p ++ t) (none_filled port ps)

first_filled : (port : ℕ) (ps : List Param) → text_of (with_value (codes "rport") (decimal port) ps) ≡ marked_params_text true port ps
first_filled port [] = refl
first_filled port (p ∷ ps) = step (is_rport p) refl (first_filled port ps) where
  step : (b : Bool) → is_rport p ≡ b → text_of (with_value (codes "rport") (decimal port) ps) ≡ marked_params_text true port ps
      → text_of (with_value (codes "rport") (decimal port) (p ∷ ps)) ≡ marked_param_text b port p ++ marked_params_text (not b) port ps
  step true e more =
      let q : Param = record { name = p.name; value = Some (decimal port) } in
      rw (put_here (decimal port) p ps e, other_name (codes "rport") (codes "received") q e refl) (ap (λ (t : List ℕ). filled_text port p ++ t) (none_filled port ps))
  step false e more = ap text_of (put_next (decimal port) p ps e) ∙ first_kept p (with_value (codes "rport") (decimal port) ps) ∙ ap (λ (t : List ℕ). kept_text p ++ t) more

filled_text_is : (asked : Bool) (port : ℕ) (ps : List Param) → text_of (filled asked port ps) ≡ marked_params_text asked port ps
filled_text_is true port ps = first_filled port ps
filled_text_is false port ps = none_filled port ps

-- ---- what comes after them

joined : (a b c d e f : List ℕ) → ((((a ++ b) ++ c) ++ d) ++ e) ++ f ≡ a ++ (b ++ ((c ++ (d ++ e)) ++ f))
joined a b c d e f =
    ap (λ (t : List ℕ). t ++ f) (append_assoc ((a ++ b) ++ c) d e ∙ append_assoc (a ++ b) c (d ++ e) ∙ append_assoc a b (c ++ (d ++ e)))
    ∙ append_assoc a (b ++ (c ++ (d ++ e))) f ∙ ap (λ (t : List ℕ). a ++ t) (append_assoc b (c ++ (d ++ e)) f)

text_push : (ps : List Param) (p : Param) → params_text 59 59 (ps ++ p ∷ []) ≡ params_text 59 59 ps ++ 59 ∷ param_text p
text_push [] p = append-nil (59 ∷ param_text p)
text_push (x ∷ xs) p = ap (λ (t : List ℕ). (59 ∷ param_text x) ++ t) (text_push xs p) ∙ sym (append_assoc (59 ∷ param_text x) (params_text 59 59 xs) (59 ∷ param_text p))

received_behind : (needed : Bool) (source : Addr) (ps : List Param) → params_text 59 59 (with_received needed source ps) ≡ params_text 59 59 ps ++ received_text needed source
unfolding received
received_behind true source ps = text_push ps (received source)
received_behind false source ps = sym (append-nil (params_text 59 59 ps))

pub marked_text_is : (asked needed : Bool) (source : Addr) (ps : List Param)
    → params_text 59 59 (marked_params asked needed source ps) ≡ marked_params_text asked source.port ps ++ received_text needed source
marked_text_is asked needed source ps =
    received_behind needed source (without (codes "received") (filled asked source.port ps)) ∙ ap (λ (t : List ℕ). t ++ received_text needed source) (filled_text_is asked source.port ps)

pub via_written : (front : List ℕ) (source : Addr) (via : Via) (asked needed : Bool) → asked ≡ asks_port via.params → needed ≡ needs_received asked via.host source.ip
    → ((((front ++ codes "Via: SIP/2.0/UDP ") ++ via.sent_by) ++ marked_params_text asked source.port via.params) ++ received_text needed source) ++ codes "\r\n"
    ≡ front ++ header_text (named (codes "Via") (via_text (marked source via)))
unfolding marked
via_written front source via asked needed a n =
    let params : List ℕ = marked_params_text asked source.port via.params in
    let behind : List ℕ = received_text needed source in
    let line : List ℕ → List ℕ = λ t. front ++ (codes "Via: SIP/2.0/UDP " ++ ((via.sent_by ++ t) ++ codes "\r\n")) in
    joined front (codes "Via: SIP/2.0/UDP ") via.sent_by params behind (codes "\r\n")
    ∙ ap line (sym (marked_text_is asked needed source via.params))
    ∙ rw (n, a) refl
