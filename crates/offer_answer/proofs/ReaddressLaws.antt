-- What is sent on is alike to what was taken, is at the server, and has the ports and the origin asked for.
use Rattle.std.proofs.Common.{◌≡◌, ◌≢◌, ◌∙◌, ◌||◌, not, ℕ, Bool, true, false, cond, eqb, List, [], ◌∷◌, length, map, Option, Some, None, refl, sym, ap, arith}
use Rattle.std.proofs.lemmas.Bool.{and_parts}
use Rattle.std.specs.Prelude.{option_map, nat_eq}
use Rattle.std.specs.List.{list_all}
use Rattle.std.specs.Cmp.Lexicographic.{pointwise, bytes_decides}
use Rattle.sdp.specs.declared.address.Address.{Address}
use Rattle.sdp.specs.declared.address.Address.TheVariants.{Ip4}
use Rattle.sdp.specs.declared.line.Line.{Line}
use Rattle.sdp.specs.declared.description.Media.{Media}
use Rattle.sdp.specs.declared.description.Description.{Description}
use Rattle.offer_answer.specs.declared.sent_description.ServerOrigin.{ServerOrigin}
use Rattle.offer_answer.specs.Direct.{hold_address, is_hold}
use Rattle.offer_answer.specs.Joined.{is_server, is_own_or_hold, is_at_server}
use Rattle.offer_answer.specs.Alike.{Alike, bare_media, is_kept, kept_lines}
use Rattle.offer_answer.specs.Readdressing.{origin_of, readdressed_address, told_port, readdressed_medium, readdressed_media, told_ports, readdressed_description, has_ports}

pub not_hold : (ip : List ℕ) → ip ≢ hold_address → pointwise nat_eq ip hold_address ≡ false
not_hold ip other = step (pointwise nat_eq ip hold_address) refl where
  step : (b : Bool) → pointwise nat_eq ip hold_address ≡ b → b ≡ false
  step true e = absurd (other ((bytes_decides ip hold_address).0 e))
  step false e = refl

hold_stays : (ip : List ℕ) (c : Option Address) → ip ≢ hold_address → option_map is_hold (option_map (readdressed_address ip) c) ≡ option_map is_hold c
hold_stays ip None other = refl
hold_stays ip (Some a) other = step (is_hold a) refl where
  step : (b : Bool) → is_hold a ≡ b → Some (is_hold (cond (is_hold a) (Ip4 hold_address) (Ip4 ip))) ≡ Some (is_hold a)
  step true e = rw e refl
  step false e = rw (e, not_hold ip other) refl

kept_twice : (ls : List Line) → kept_lines (kept_lines ls) ≡ kept_lines ls
kept_twice [] = refl
kept_twice (l ∷ ls) = step (is_kept l) refl (kept_twice ls) where
  step : (b : Bool) → is_kept l ≡ b → kept_lines (kept_lines ls) ≡ kept_lines ls → kept_lines (cond b (l ∷ kept_lines ls) (kept_lines ls)) ≡ cond b (l ∷ kept_lines ls) (kept_lines ls)
  step true e rest = rw (e, rest) refl
  step false e rest = rest

same_refusal : (port : ℕ) (m : Media) → (eqb m.port 0 || not (eqb port 0)) ≡ true → eqb (told_port port m) 0 ≡ eqb m.port 0
same_refusal port m has = step (eqb m.port 0) (eqb port 0) refl refl where
  step : (a b : Bool) → eqb m.port 0 ≡ a → eqb port 0 ≡ b → eqb (told_port port m) 0 ≡ eqb m.port 0
  step true b e f = rw e refl
  step false true e f = let wrong : false ≡ true = sym (rw (e, f) refl) ∙ has in absurd cc
  step false false e f = rw (e, f) refl

bare_again : (ip : List ℕ) (port : ℕ) (m : Media) → ip ≢ hold_address → (eqb m.port 0 || not (eqb port 0)) ≡ true → bare_media m ≡ bare_media (readdressed_medium ip port m)
unfolding readdressed_medium
bare_again ip port m other has = sym (rw (same_refusal port m has, hold_stays ip m.connection other, kept_twice m.after) refl)

media_again : (ip : List ℕ) (ports : List ℕ) (ms : List Media) → ip ≢ hold_address → length ports ≡ length ms → has_ports ports ms ≡ true → map bare_media ms ≡ map bare_media (readdressed_media ip ports ms)
media_again ip [] [] other long has = refl
media_again ip [] (m ∷ ms) other long has = absurd (omega arith)
media_again ip (port ∷ ports) [] other long has = absurd (omega arith)
media_again ip (port ∷ ports) (m ∷ ms) other long has =
    let both = and_parts (eqb m.port 0 || not (eqb port 0)) (has_ports ports ms) has in
    ap (λ b. b ∷ map bare_media ms) (bare_again ip port m other both.0)
    ∙ ap (λ bs. bare_media (readdressed_medium ip port m) ∷ bs) (media_again ip ports ms other (omega arith) both.1)

pub readdressed_alike : (origin : ServerOrigin) (ports : List ℕ) (d : Description) → length ports ≡ length d.media → has_ports ports d.media ≡ true → origin.ip ≢ hold_address → Alike d (readdressed_description origin ports d)
unfolding readdressed_description
readdressed_alike origin ports d long has other = sym (rw (hold_stays origin.ip d.connection other, kept_twice d.after, sym (media_again origin.ip ports d.media other long has)) refl)

own_again : (ip : List ℕ) (c : Option Address) → is_own_or_hold ip (option_map (readdressed_address ip) c) ≡ true
own_again ip None = refl
own_again ip (Some a) = step (is_hold a) where
  either : (a : Bool) → (a || true) ≡ true
  either true = refl
  either false = refl

  step : (b : Bool) → (is_server ip (cond b (Ip4 hold_address) (Ip4 ip)) || is_hold (cond b (Ip4 hold_address) (Ip4 ip))) ≡ true
  step true = either (pointwise nat_eq hold_address ip)
  step false = rw ((bytes_decides ip ip).1 refl) refl

all_own : (ip : List ℕ) (ports : List ℕ) (ms : List Media) → list_all (λ (m : Media). is_own_or_hold ip m.connection) (readdressed_media ip ports ms) ≡ true
unfolding readdressed_medium
all_own ip [] ms = refl
all_own ip (port ∷ ports) [] = refl
all_own ip (port ∷ ports) (m ∷ ms) = rw (own_again ip m.connection, all_own ip ports ms) refl

pub readdressed_at_server : (origin : ServerOrigin) (ports : List ℕ) (d : Description) → is_at_server origin.ip (readdressed_description origin ports d) ≡ true
unfolding readdressed_description
readdressed_at_server origin ports d = rw (own_again origin.ip d.connection, all_own origin.ip ports d.media) refl

ports_again : (ip : List ℕ) (ports : List ℕ) (ms : List Media) → map (λ (m : Media). m.port) (readdressed_media ip ports ms) ≡ told_ports ports ms
unfolding readdressed_medium
ports_again ip [] ms = refl
ports_again ip (port ∷ ports) [] = refl
ports_again ip (port ∷ ports) (m ∷ ms) = ap (λ ps. told_port port m ∷ ps) (ports_again ip ports ms)

pub readdressed_ports : (origin : ServerOrigin) (ports : List ℕ) (d : Description) → map (λ (m : Media). m.port) (readdressed_description origin ports d).media ≡ told_ports ports d.media
unfolding readdressed_description
readdressed_ports origin ports d = ports_again origin.ip ports d.media

pub readdressed_origin : (origin : ServerOrigin) (ports : List ℕ) (d : Description) → (readdressed_description origin ports d).origin ≡ origin_of origin
unfolding readdressed_description
readdressed_origin origin ports d = refl
