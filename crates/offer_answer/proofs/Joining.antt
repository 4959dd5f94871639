-- Two legs that a relay table joins mean what the two ends mean directly.
use Rattle.std.proofs.Common.{◌≡◌, ◌∙◌, ◌||◌, ℕ, Bool, true, false, cond, eqb, List, [], ◌∷◌, ◌++◌, map, Option, Some, None, refl, ap, subst, arith}
use Rattle.std.specs.Prelude.{option_map, All}
use Rattle.std.specs.Option.{option_or}
use Prim.Native.Nat.{suc}
use Rattle.std.specs.List.{list_all}
use Rattle.std.proofs.lemmas.Bool.{and_parts}
use Rattle.sip_uri.specs.declared.uri.Addr.{Addr}
use Rattle.sdp.specs.declared.address.Address.{Address}
use Rattle.sdp.specs.declared.description.Media.{Media}
use Rattle.sdp.specs.declared.description.Description.{Description}
use Rattle.offer_answer.specs.Direct.{is_hold, destination, stream_of, streams_of, direct}
use Rattle.offer_answer.specs.Joined.{is_own_or_hold, is_at_server, joined, joined_media}
use Rattle.offer_answer.specs.Rows.{Named, LeadsAll, HasRows, medium_named, media_named, pair_named}
use Rattle.offer_answer.specs.Alike.{Alike, Bare, bare_media, kept_lines}
use Rattle.offer_answer.proofs.Streams.{stream_joined}

own_address : (server : List ℕ) (a b : Option Address) → is_own_or_hold server a ≡ true → is_own_or_hold server b ≡ true → is_own_or_hold server (option_or a b) ≡ true
own_address server None b h k = k
own_address server (Some x) b h k = h

-- ---- what the table has

first_of : {X : Type 0} (P : X → Type 0) (x : X) (xs : List X) → All P (x ∷ xs) → P x
first_of P x xs all = all 0 x (omega arith)

rest_of : {X : Type 0} (P : X → Type 0) (x : X) (xs : List X) → All P (x ∷ xs) → All P xs
rest_of P x xs all = λ k d below. all (suc k) d (omega arith)

behind : {X : Type 0} (P : X → Type 0) (xs ys : List X) → All P (xs ++ ys) → All P ys
behind P [] ys all = all
behind P (x ∷ xs) ys all = behind P xs ys (rest_of P x (xs ++ ys) all)

-- the two ports of a medium that is not rejected
record LeadsBoth (table : ℕ → Option Addr) (OX : Description) (ox : Media) (told_offerer told_answerer : ℕ) (SY : Description) (sy : Media) : Type 0 where
  offerer : eqb ox.port 0 ≡ false → eqb sy.port 0 ≡ false → table told_offerer ≡ destination SY sy
  answerer : eqb ox.port 0 ≡ false → eqb sy.port 0 ≡ false → table told_answerer ≡ destination OX ox

abbrev Asked : (ℕ → Option Addr) → Named → Type 0
Asked table n = table n.port ≡ n.to

leads_both : (table : ℕ → Option Addr) (OX : Description) (ox : Media) (p q : ℕ) (SY : Description) (sy : Media) (rest : List Named) → LeadsAll table (medium_named OX ox p q SY sy ++ rest) → LeadsBoth table OX ox p q SY sy
leads_both table OX ox p q SY sy rest rows = record { offerer = λ e f. (both e f).0; answerer = λ e f. (both e f).1 } where
  four : eqb ox.port 0 ≡ false → eqb sy.port 0 ≡ false → LeadsAll table ((pair_named p (destination SY sy) q ++ pair_named q (destination OX ox) p) ++ rest)
  four e f = let P : Bool → Type 0 = λ b. LeadsAll table (cond b [] (pair_named p (destination SY sy) q ++ pair_named q (destination OX ox) p) ++ rest) in let used : (eqb ox.port 0 || eqb sy.port 0) ≡ false = rw (e, f) refl in subst P used rows

  both : eqb ox.port 0 ≡ false → eqb sy.port 0 ≡ false → (table p ≡ destination SY sy) × (table q ≡ destination OX ox)
  both e f = (four e f 0 (record { port = p; to = destination SY sy; from = q }) (omega arith), four e f 2 (record { port = q; to = destination OX ox; from = p }) (omega arith))

-- ---- medium by medium

pub media_joined : (server : List ℕ) (table : ℕ → Option Addr) (OX SX OY SY : Description) (oxs sxs oys sys : List Media)
    → option_map is_hold OX.connection ≡ option_map is_hold OY.connection → kept_lines OX.after ≡ kept_lines OY.after → option_map is_hold SY.connection ≡ option_map is_hold SX.connection → kept_lines SY.after ≡ kept_lines SX.after
    → is_own_or_hold server SX.connection ≡ true → is_own_or_hold server OY.connection ≡ true
    → map bare_media oxs ≡ map bare_media oys → map bare_media sys ≡ map bare_media sxs
    → list_all (λ (m : Media). is_own_or_hold server m.connection) sxs ≡ true → list_all (λ (m : Media). is_own_or_hold server m.connection) oys ≡ true
    → LeadsAll table (media_named OX oxs sxs oys SY sys)
    → joined_media server table OX oxs SX sxs OY oys SY sys ≡ streams_of OX oxs SY sys
media_joined server table OX SX OY SY [] sxs oys sys oc oa sc sa os oo offers answers own_s own_o rows = refl
media_joined server table OX SX OY SY (ox ∷ oxs) sxs [] sys oc oa sc sa os oo offers answers own_s own_o rows = absurd cc
media_joined server table OX SX OY SY (ox ∷ oxs) [] (oy ∷ oys) [] oc oa sc sa os oo offers answers own_s own_o rows = refl
media_joined server table OX SX OY SY (ox ∷ oxs) [] (oy ∷ oys) (sy ∷ sys) oc oa sc sa os oo offers answers own_s own_o rows = absurd cc
media_joined server table OX SX OY SY (ox ∷ oxs) (sx ∷ sxs) (oy ∷ oys) [] oc oa sc sa os oo offers answers own_s own_o rows = absurd cc
media_joined server table OX SX OY SY (ox ∷ oxs) (sx ∷ sxs) (oy ∷ oys) (sy ∷ sys) oc oa sc sa os oo offers answers own_s own_o rows =
    let here_o : bare_media ox ≡ bare_media oy = cc in
    let here_s : bare_media sy ≡ bare_media sx = cc in
    let rest_o : map bare_media oxs ≡ map bare_media oys = cc in
    let rest_s : map bare_media sys ≡ map bare_media sxs = cc in
    let s = and_parts (is_own_or_hold server sx.connection) (list_all (λ (m : Media). is_own_or_hold server m.connection) sxs) own_s in
    let o = and_parts (is_own_or_hold server oy.connection) (list_all (λ (m : Media). is_own_or_hold server m.connection) oys) own_o in
    let both = leads_both table OX ox sx.port oy.port SY sy (media_named OX oxs sxs oys SY sys) rows in
    let here = stream_joined server table OX ox SX sx OY oy SY sy (record { medium = here_o; connection = oc; after = oa }) (record { medium = here_s; connection = sc; after = sa })
    (own_address server sx.connection SX.connection s.0 os) (own_address server oy.connection OY.connection o.0 oo) both.offerer both.answerer in
    ap (λ v. v ∷ joined_media server table OX oxs SX sxs OY oys SY sys) here
    ∙ ap (λ v. stream_of OX ox SY sy ∷ v) (media_joined server table OX SX OY SY oxs sxs oys sys oc oa sc sa os oo rest_o rest_s s.1 o.1 (behind (Asked table) (medium_named OX ox sx.port oy.port SY sy) (media_named OX oxs sxs oys SY sys) rows))

pub joined_is_direct : (server : List ℕ) (table : ℕ → Option Addr) (OX SX OY SY : Description) → Alike OX OY → Alike SY SX → is_at_server server SX ≡ true → is_at_server server OY ≡ true
    → HasRows table OX SX OY SY → joined server table OX SX OY SY ≡ direct OX SY
joined_is_direct server table OX SX OY SY offers answers own_s own_o rows =
    let s = and_parts (is_own_or_hold server SX.connection) (list_all (λ (m : Media). is_own_or_hold server m.connection) SX.media) own_s in
    let o = and_parts (is_own_or_hold server OY.connection) (list_all (λ (m : Media). is_own_or_hold server m.connection) OY.media) own_o in
    media_joined server table OX SX OY SY OX.media SX.media OY.media SY.media
    (ap (λ (b : Bare). b.connection) offers) (ap (λ (b : Bare). b.after) offers) (ap (λ (b : Bare). b.connection) answers) (ap (λ (b : Bare). b.after) answers)
    s.0 o.0 (ap (λ (b : Bare). b.media) offers) (ap (λ (b : Bare). b.media) answers) s.1 o.1 rows
