-- What alike media of two alike descriptions have in common.
use Rattle.std.proofs.Common.{◌≡◌, ◌∙◌, ◌||◌, ℕ, Bool, eqb, List, [], ◌∷◌, Option, Some, None, refl, sym, ap}
use Rattle.std.specs.Prelude.{option_map, unwrap_or, filter}
use Rattle.std.specs.Option.{option_or}
use Rattle.std.specs.List.{list_any}
use Rattle.std.proofs.lemmas.List.Elements.{filter_agree}
use Rattle.std.specs.Cmp.Lexicographic.{pointwise}
use Rattle.std.specs.Prelude.{nat_eq}
use Rattle.sdp.specs.declared.address.Address.{Address}
use Rattle.sdp.specs.declared.line.Line.{Line}
use Rattle.sdp.specs.declared.description.Media.{Media}
use Rattle.sdp.specs.declared.description.Description.{Description}
use Rattle.sdp.specs.declared.way.Way.TheVariants.{SendReceive}
use Rattle.sdp.specs.PlaceOf.{address_of_medium}
use Rattle.sdp.specs.WayOf.{first_way, way_of}
use Rattle.offer_answer.specs.Formats.{first_rtpmap, rtpmap_of, maps_match, formats_match}
use Rattle.offer_answer.specs.Direct.{is_hold, is_answered, matching_formats}
use Rattle.offer_answer.specs.Alike.{kept_lines, bare_media, BareMedia}
use Rattle.offer_answer.proofs.KeptLines.{first_way-kept, first_rtpmap-kept}

-- a medium of one description, and a medium of another that is alike
pub record AlikeMedia (D : Description) (d : Media) (E : Description) (e : Media) : Type 0 where
  pub medium : bare_media d ≡ bare_media e
  pub connection : option_map is_hold D.connection ≡ option_map is_hold E.connection
  pub after : kept_lines D.after ≡ kept_lines E.after

pub alike_back : (D : Description) (d : Media) (E : Description) (e : Media) → AlikeMedia D d E e → AlikeMedia E e D d
alike_back D d E e h = record { medium = sym h.medium; connection = sym h.connection; after = sym h.after }

pub alike_itself : (D : Description) (d : Media) → AlikeMedia D d D d
alike_itself D d = record { medium = refl; connection = refl; after = refl }

same_first_way : (ls ms : List Line) → kept_lines ls ≡ kept_lines ms → first_way ls ≡ first_way ms
same_first_way ls ms e = sym (first_way-kept ls) ∙ ap first_way e ∙ first_way-kept ms

same_lines : (d e : Media) → bare_media d ≡ bare_media e → kept_lines d.after ≡ kept_lines e.after
same_lines d e h = ap (λ (b : BareMedia). b.after) h

pub same_way : (D : Description) (d : Media) (E : Description) (e : Media) → AlikeMedia D d E e → way_of D d ≡ way_of E e
unfolding way_of
same_way D d E e h =
    ap (λ w. unwrap_or (option_or w (first_way D.after)) SendReceive) (same_first_way d.after e.after (same_lines d e h.medium))
    ∙ ap (λ w. unwrap_or (option_or (first_way e.after) w) SendReceive) (same_first_way D.after E.after h.after)

pub same_rtpmap : (d e : Media) (format : List ℕ) → bare_media d ≡ bare_media e → rtpmap_of d format ≡ rtpmap_of e format
same_rtpmap d e format h =
    sym (first_rtpmap-kept format d.after) ∙ ap (first_rtpmap format) (same_lines d e h) ∙ first_rtpmap-kept format e.after

pub same_match : (d d' e e' : Media) (f g : List ℕ) → bare_media d ≡ bare_media d' → bare_media e ≡ bare_media e' → formats_match d f e g ≡ formats_match d' f e' g
unfolding formats_match
same_match d d' e e' f g h k =
    ap (λ v. maps_match v (rtpmap_of e g) (pointwise nat_eq f g)) (same_rtpmap d d' f h) ∙ ap (λ v. maps_match (rtpmap_of d' f) v (pointwise nat_eq f g)) (same_rtpmap e e' g k)

any_agree : (p q : List ℕ → Bool) (gs : List (List ℕ)) → ((g : List ℕ) → p g ≡ q g) → list_any p gs ≡ list_any q gs
any_agree p q [] h = refl
any_agree p q (g ∷ gs) h = rw (h g) (ap (λ v. q g || v) (any_agree p q gs h))

same_answered : (o o' s s' : Media) (f : List ℕ) → bare_media o ≡ bare_media o' → bare_media s ≡ bare_media s' → is_answered o s f ≡ is_answered o' s' f
unfolding is_answered
same_answered o o' s s' f h k =
    ap (λ gs. list_any (λ g. formats_match o f s g) gs) (ap (λ (b : BareMedia). b.formats) k)
    ∙ any_agree (λ g. formats_match o f s g) (λ g. formats_match o' f s' g) s'.formats (λ g. same_match o o' s s' f g h k)

pub same_matching : (o o' s s' : Media) → bare_media o ≡ bare_media o' → bare_media s ≡ bare_media s' → matching_formats o s ≡ matching_formats o' s'
same_matching o o' s s' h k =
    ap (λ v. filter (is_answered o s) v) (ap (λ (b : BareMedia). b.formats) h)
    ∙ filter_agree (is_answered o s) (is_answered o' s') (λ f. same_answered o o' s s' f h k) o'.formats

-- of the addresses of the two media, both are there or none, and both are 0.0.0.0 or none
pub same_hold : (D : Description) (d : Media) (E : Description) (e : Media) → AlikeMedia D d E e → option_map is_hold (address_of_medium D d) ≡ option_map is_hold (address_of_medium E e)
same_hold D d E e h = own d.connection D.connection ∙ ap (λ v. option_or v (option_map is_hold D.connection)) (ap (λ (b : BareMedia). b.connection) h.medium) ∙ ap (λ v. option_or (option_map is_hold e.connection) v) h.connection ∙ sym (own e.connection E.connection) where
  own : (a b : Option Address) → option_map is_hold (option_or a b) ≡ option_or (option_map is_hold a) (option_map is_hold b)
  own None b = refl
  own (Some x) b = refl

pub same_refusal : (d e : Media) → bare_media d ≡ bare_media e → eqb d.port 0 ≡ eqb e.port 0
same_refusal d e h = ap (λ (b : BareMedia). b.is_refused) h

pub same_formats : (d e : Media) → bare_media d ≡ bare_media e → d.formats ≡ e.formats
same_formats d e h = ap (λ (b : BareMedia). b.formats) h
