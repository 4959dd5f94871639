-- One medium: what its two legs mean together is what the two ends mean directly.
use Rattle.std.proofs.Common.{◌≡◌, ◌∙◌, ◌||◌, ◌&&◌, ℕ, Bool, true, false, eqb, List, [], ◌∷◌, Option, Some, None, refl, sym, ap}
use Rattle.std.specs.Prelude.{option_map, is_some, filter, nat_eq}
use Rattle.std.specs.List.{list_any}
use Rattle.std.specs.Cmp.Lexicographic.{pointwise, bytes_decides}
use Rattle.sip_uri.specs.declared.uri.Addr.{Addr}
use Rattle.sdp.specs.declared.address.Address.{Address}
use Rattle.sdp.specs.declared.address.Address.TheVariants.{Ip4, Multicast, Ip6, Name}
use Rattle.sdp.specs.declared.description.Media.{Media}
use Rattle.sdp.specs.declared.description.Description.{Description}
use Rattle.sdp.specs.Place.{Place}
use Rattle.sdp.specs.PlaceOf.{address_of_medium, place_of}
use Rattle.sdp.specs.WayOf.{way_of, sends, receives}
use Rattle.sdp.specs.declared.way.Way.{Way}
use Rattle.offer_answer.specs.declared.stream.Stream.TheVariants.{Used}
use Rattle.offer_answer.specs.Direct.{is_hold, sent_to, destination_at, destination, side, matching_formats, stream_of}
use Rattle.offer_answer.specs.Joined.{is_server, through, joined_side, joined_stream, is_own_or_hold}
use Rattle.offer_answer.proofs.AlikeMedia.{AlikeMedia, same_way, same_matching, same_hold, same_refusal, same_formats}

-- ---- where the table leads

hold_nowhere : (a : Address) (port : ℕ) → is_hold a ≡ true → sent_to a port ≡ None
hold_nowhere (Ip4 octets) port h = rw h refl
hold_nowhere (Multicast text) port h = refl
hold_nowhere (Ip6 text) port h = refl
hold_nowhere (Name text) port h = refl

server_somewhere : (server : List ℕ) (a : Address) (port : ℕ) → is_server server a ≡ true → is_hold a ≡ false → is_some (sent_to a port) ≡ true
server_somewhere server (Ip4 octets) port s h = rw h refl
server_somewhere server (Multicast text) port s h = absurd cc
server_somewhere server (Ip6 text) port s h = absurd cc
server_somewhere server (Name text) port s h = absurd cc

abbrev place_at : Option Address → ℕ → Option Place
place_at a port = option_map (λ x. record { address = x; port = port }) a

-- the place that was sent leads to the place at which media are wanted, and is a destination where that is one
record Leads (server : List ℕ) (table : ℕ → Option Addr) (wanted told : Option Place) : Type 0 where
  through_table : through server table told ≡ destination_at wanted
  also_some : is_some (destination_at wanted) ≡ true → is_some (destination_at told) ≡ true

leads_at : (server : List ℕ) (table : ℕ → Option Addr) (a b : Option Address) (p q : ℕ) → option_map is_hold a ≡ option_map is_hold b → is_own_or_hold server b ≡ true
    → table q ≡ destination_at (place_at a p) → Leads server table (place_at a p) (place_at b q)
leads_at server table None None p q same own row = record { through_table = refl; also_some = λ e. e }
leads_at server table None (Some y) p q same own row = absurd cc
leads_at server table (Some x) None p q same own row = absurd cc
leads_at server table (Some x) (Some y) p q same own row = step (is_server server y) (is_hold y) refl refl where
  hold : is_hold x ≡ is_hold y
  hold = cc

  step : (s h : Bool) → is_server server y ≡ s → is_hold y ≡ h → Leads server table (place_at (Some x) p) (place_at (Some y) q)
  step true true is is_held = record {
    through_table = rw is row;
    also_some = λ e. let none = hold_nowhere x p (hold ∙ is_held) in let wrong : true ≡ false = sym e ∙ ap (λ d. is_some d) none in absurd cc;
  }
  step true false is is_held = record { through_table = rw is row; also_some = λ e. server_somewhere server y q is is_held }
  step false true is is_held = record {
    through_table = rw is (sym (hold_nowhere x p (hold ∙ is_held)));
    also_some = λ e. let none = hold_nowhere x p (hold ∙ is_held) in let wrong : true ≡ false = sym e ∙ ap (λ d. is_some d) none in absurd cc;
  }
  step false false is is_held = let wrong : false ≡ true = sym (rw (is, is_held) refl) ∙ own in absurd cc

leads : (server : List ℕ) (table : ℕ → Option Addr) (D : Description) (d : Media) (E : Description) (e : Media) → AlikeMedia D d E e → is_own_or_hold server (address_of_medium E e) ≡ true
    → table e.port ≡ destination D d → Leads server table (place_of D d) (place_of E e)
leads server table D d E e alike own row = leads_at server table (address_of_medium D d) (address_of_medium E e) d.port e.port (same_hold D d E e alike) own row

-- ---- formats that both legs list

abbrev Within : List (List ℕ) → List (List ℕ) → Type 0
Within [] ys = Unit {0}
Within (x ∷ xs) ys = (list_any (λ g. pointwise nat_eq g x) ys ≡ true) × Within xs ys

or_right : (a : Bool) → (a || true) ≡ true
or_right true = refl
or_right false = refl

within_more : (xs ys : List (List ℕ)) (y : List ℕ) → Within xs ys → Within xs (y ∷ ys)
within_more [] ys y w = tt
within_more (x ∷ xs) ys y w = (rw w.0 (or_right (pointwise nat_eq y x)), within_more xs ys y w.1)

within_itself : (xs : List (List ℕ)) → Within xs xs
within_itself [] = tt
within_itself (x ∷ xs) = (rw ((bytes_decides x x).1 refl) refl, within_more xs xs x (within_itself xs))

filter_within : (xs ys : List (List ℕ)) → Within xs ys → filter (λ f. list_any (λ g. pointwise nat_eq g f) ys) xs ≡ xs
filter_within [] ys w = refl
filter_within (x ∷ xs) ys w = rw w.0 (ap (λ v. x ∷ v) (filter_within xs ys w.1))

listed_twice : (xs ys zs : List (List ℕ)) → xs ≡ zs → ys ≡ zs → filter (λ f. list_any (λ g. pointwise nat_eq g f) ys) xs ≡ zs
listed_twice xs ys zs e f = ap (λ v. filter (λ x. list_any (λ g. pointwise nat_eq g x) ys) v) e ∙ ap (λ v. filter (λ x. list_any (λ g. pointwise nat_eq g x) v) zs) f ∙ filter_within zs zs (within_itself zs)

-- ---- one side

on_twice : (a b c d w : Bool) → (c && d) ≡ w → ((a && b && c) && (a && b && d)) ≡ (a && b && w)
on_twice true true true d w h = h
on_twice true true false d w h = h
on_twice true false c d w h = refl
on_twice false b c d w h = refl

both_first : (c d : Bool) → (c ≡ true → d ≡ true) → (c && d) ≡ c
both_first true d h = h refl
both_first false d h = refl

both_second : (c d : Bool) → (d ≡ true → c ≡ true) → (c && d) ≡ d
both_second true d h = refl
both_second false true h = h refl
both_second false false h = refl

-- a side of the offerer's leg, joined with the same side of the other leg, is the direct one
side_joined : (from from' to to' : Way) (fs gs hs : List (List ℕ)) (x y wanted reached : Option Addr) (way_from way_to : Way) → from ≡ way_from → from' ≡ way_from → to ≡ way_to → to' ≡ way_to
    → fs ≡ hs → gs ≡ hs → (is_some x && is_some y) ≡ is_some wanted → reached ≡ wanted
    → joined_side (side from to fs x) (side from' to' gs y) reached ≡ side way_from way_to hs wanted
side_joined from from' to to' fs gs hs x y wanted reached way_from way_to from_x from_y to_x to_y same_fs same_gs both reach =
    rw (from_x, from_y, to_x, to_y, reach, listed_twice fs gs hs same_fs same_gs, on_twice (sends way_from) (receives way_to) (is_some x) (is_some y) (is_some wanted) both) refl

-- ---- one medium

pub stream_joined : (server : List ℕ) (table : ℕ → Option Addr) (OX : Description) (ox : Media) (SX : Description) (sx : Media) (OY : Description) (oy : Media) (SY : Description) (sy : Media)
    → AlikeMedia OX ox OY oy → AlikeMedia SY sy SX sx → is_own_or_hold server (address_of_medium SX sx) ≡ true → is_own_or_hold server (address_of_medium OY oy) ≡ true
    → (eqb ox.port 0 ≡ false → eqb sy.port 0 ≡ false → table sx.port ≡ destination SY sy) → (eqb ox.port 0 ≡ false → eqb sy.port 0 ≡ false → table oy.port ≡ destination OX ox)
    → joined_stream (stream_of OX ox SX sx) (stream_of OY oy SY sy) (through server table (place_of SX sx)) (through server table (place_of OY oy)) ≡ stream_of OX ox SY sy
unfolding stream_of
stream_joined server table OX ox SX sx OY oy SY sy offers answers own_s own_o row_s row_o = step (eqb ox.port 0) (eqb sy.port 0) refl refl where
  step : (a b : Bool) → eqb ox.port 0 ≡ a → eqb sy.port 0 ≡ b
      → joined_stream (stream_of OX ox SX sx) (stream_of OY oy SY sy) (through server table (place_of SX sx)) (through server table (place_of OY oy)) ≡ stream_of OX ox SY sy
  step true b e f = rw e refl
  step false true e f = rw (e, sym (same_refusal sy sx answers.medium), f) refl
  step false false e f =
      let to_a = leads server table SY sy SX sx answers own_s (row_s e f) in
      let to_o = leads server table OX ox OY oy offers own_o (row_o e f) in
      let g : eqb sx.port 0 ≡ false = sym (same_refusal sy sx answers.medium) ∙ f in
      let i : eqb oy.port 0 ≡ false = sym (same_refusal ox oy offers.medium) ∙ e in
      let offer_way = same_way OX ox OY oy offers in
      let answer_way = same_way SY sy SX sx answers in
      let same_x : matching_formats ox sx ≡ matching_formats ox sy = same_matching ox ox sx sy refl (sym answers.medium) in
      let same_y : matching_formats oy sy ≡ matching_formats ox sy = same_matching oy ox sy sy (sym offers.medium) refl in
      let a = side_joined (way_of OX ox) (way_of OY oy) (way_of SX sx) (way_of SY sy) sx.formats sy.formats sy.formats (destination SX sx) (destination SY sy) (destination SY sy) (through server table (place_of SX sx)) (way_of OX ox) (way_of SY sy)
      refl (sym offer_way) (sym answer_way) refl (sym (same_formats sy sx answers.medium)) refl (both_second (is_some (destination SX sx)) (is_some (destination SY sy)) to_a.also_some) to_a.through_table in
      let o = side_joined (way_of SX sx) (way_of SY sy) (way_of OX ox) (way_of OY oy) (matching_formats ox sx) (matching_formats oy sy) (matching_formats ox sy) (destination OX ox) (destination OY oy) (destination OX ox) (through server table (place_of OY oy)) (way_of SY sy) (way_of OX ox)
      (sym answer_way) refl refl (sym offer_way) same_x same_y (both_first (is_some (destination OX ox)) (is_some (destination OY oy)) to_o.also_some) to_o.through_table in
      rw (e, f, g, i) (ap (λ v. Used ox.kind ox.proto v (joined_side (side (way_of SX sx) (way_of OX ox) (matching_formats ox sx) (destination OX ox)) (side (way_of SY sy) (way_of OY oy) (matching_formats oy sy) (destination OY oy)) (through server table (place_of OY oy)))) a
      ∙ ap (λ v. Used ox.kind ox.proto (side (way_of OX ox) (way_of SY sy) sy.formats (destination SY sy)) v) o)
