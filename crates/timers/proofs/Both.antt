-- What calls leave of timers in both orders.
use Rattle.std.proofs.Common.{◌≡◌, ℕ, Bool, true, false, not, cond, ltb, List, [], ◌∷◌, Option, Some, None, option_map, refl, sym, ap, ◌∙◌}
use Rattle.std.specs.Cmp.{IsEquivalence, IsTotalOrder}
use Rattle.std.specs.Ordering.{is_eq}
use Rattle.std.specs.declared.cmp.Ordering.{Ordering}
use Rattle.std.specs.List.{find, slice_get}
use Rattle.std.specs.Prelude.{is_some}
use Rattle.std.proofs.lemmas.Bool.{or_parts}
use Rattle.timers.specs.declared.timers.Timer.{Timer}
use Rattle.timers.specs.Queue.{put, set, stands, moment, without}
use Rattle.timers.specs.ByKey.{AreInBoth, place_by_key, moment_of, put_key}
use Rattle.timers.proofs.ByKey.{moment_is, rise_filter, rise_put, find_put_key}
use Rattle.timers.proofs.Keys.{cond_swap, one_key, gone, moment_stands}
use Rattle.timers.proofs.Standing.{queue_without, queue_set}

none_twice : {X : Type 0} (b : Bool) (x y : Option X) → cond b None y ≡ cond b None (cond b x y)
none_twice true x y = refl
none_twice false x y = refl

none_under : {X : Type 0} (b : Bool) (x y : Option X) → cond b x (cond b None y) ≡ cond b x y
none_under true x y = refl
none_under false x y = refl

either_way : {X : Type 0} (b : Bool) (x : X) → x ≡ cond b x x
either_way true x = refl
either_way false x = refl

module _ {K : Type 0} where
  abbrev at_of : Option (Timer K) → Option ℕ
  at_of o = option_map (λ t. t.at) o

  alike_under : (b : Bool) (x o p : Option (Timer K)) → at_of o ≡ at_of p → at_of (cond b x o) ≡ at_of (cond b x p)
  alike_under true x o p e = refl
  alike_under false x o p e = e

module _ {K : Type 0} (eq : K → K → Bool) (laws : IsEquivalence eq) where
  -- ---- the timer of a key

  find_without : (ts : List (Timer K)) (key k : K) → find (λ s. eq s.key k) (without eq ts key) ≡ cond (eq key k) None (find (λ s. eq s.key k) ts)
  find_without [] key k = either_way (eq key k) None
  find_without (t ∷ ts) key k =
      let here : Timer K → Bool = λ s. eq s.key k in
      elim (eq t.key key) as (λ b. eq t.key key ≡ b → find here (cond (not b) (t ∷ without eq ts key) (without eq ts key)) ≡ cond (eq key k) None (cond (eq t.key k) (Some t) (find here ts))) [
        | true ↦ λ same. find_without ts key k ∙ rw (laws.congr t.key key k same) (none_twice (eq key k) (Some t) (find here ts))
        | false ↦ λ other.
            ap (λ o. cond (eq t.key k) (Some t) o) (find_without ts key k)
            ∙ cond_swap (eq t.key k) (eq key k) (Some t) None (find here ts) (λ it. laws.symm key k ∙ sym (laws.congr t.key k key it) ∙ other)
      ] refl

  find_put : (ts : List (Timer K)) (t : Timer K) (k : K) → stands eq ts t.key ≡ false
      → find (λ s. eq s.key k) (put ts t) ≡ cond (eq t.key k) (Some t) (find (λ s. eq s.key k) ts)
  find_put [] t k none = refl
  find_put (d ∷ ds) t k none =
      let parts = or_parts (eq d.key t.key) (stands eq ds t.key) none in
      let here : Timer K → Bool = λ s. eq s.key k in
      elim (ltb t.at d.at) as (λ b. find here (cond b (t ∷ d ∷ ds) (d ∷ put ds t)) ≡ cond (eq t.key k) (Some t) (cond (eq d.key k) (Some d) (find here ds))) [
        | true ↦ refl
        | false ↦
            ap (λ o. cond (eq d.key k) (Some d) o) (find_put ds t k parts.1)
            ∙ cond_swap (eq d.key k) (eq t.key k) (Some d) (Some t) (find here ds) (one_key eq laws d t k parts.0)
      ]

  find_set : (ts : List (Timer K)) (t : Timer K) (k : K) → find (λ s. eq s.key k) (set eq ts t.key t.at) ≡ cond (eq t.key k) (Some t) (find (λ s. eq s.key k) ts)
  find_set ts t k =
      find_put (without eq ts t.key) t k (gone eq laws ts t.key)
      ∙ ap (λ o. cond (eq t.key k) (Some t) o) (find_without ts t.key k)
      ∙ none_under (eq t.key k) (Some t) (find (λ s. eq s.key k) ts)

  moments_without : (ks ts : List (Timer K)) (key k : K) → moment eq ks k ≡ moment eq ts k → moment eq (without eq ks key) k ≡ moment eq (without eq ts key) k
  moments_without ks ts key k e =
      ap at_of (find_without ks key k)
      ∙ alike_under (eq key k) None (find (λ s. eq s.key k) ks) (find (λ s. eq s.key k) ts) e
      ∙ sym (ap at_of (find_without ts key k))

  module _ (cmp : K → K → Ordering) (order : IsTotalOrder cmp) (alike : (x y : K) → eq x y ≡ is_eq (cmp x y)) where
    moments_set : (ks ts : List (Timer K)) (t : Timer K) (k : K) → moment eq ks k ≡ moment eq ts k → moment eq (put_key cmp ks t) k ≡ moment eq (set eq ts t.key t.at) k
    moments_set ks ts t k e =
        ap at_of (find_put_key eq cmp order alike laws ks t k)
        ∙ alike_under (eq t.key k) (Some t) (find (λ s. eq s.key k) ks) (find (λ s. eq s.key k) ts) e
        ∙ sym (ap at_of (find_set ts t k))

    -- ---- both orders

    pub stood_both : (ts ks : List (Timer K)) (key : K) (o : Option ℕ) → AreInBoth eq cmp ts ks → o ≡ moment eq ks key → stands eq ts key ≡ is_some o
    stood_both ts ks key o both e = sym (moment_stands eq ts key) ∙ ap is_some (sym (both.by_key.moments key) ∙ sym e)

    -- as what was found at the place of its key says
    pub moment_found : (ts ks : List (Timer K)) (key : K) (o : Option ℕ) → AreInBoth eq cmp ts ks → o ≡ moment_of eq (slice_get ks (place_by_key cmp ks key)) key → moment eq ts key ≡ o
    moment_found ts ks key o both e = sym (both.by_key.moments key) ∙ sym (moment_is eq cmp order alike ks key both.by_key.rise) ∙ sym e

    pub stands_found : (ts ks : List (Timer K)) (key : K) (o : Option ℕ) → AreInBoth eq cmp ts ks → o ≡ moment_of eq (slice_get ks (place_by_key cmp ks key)) key → stands eq ts key ≡ is_some o
    stands_found ts ks key o both e = sym (moment_stands eq ts key) ∙ ap is_some (moment_found ts ks key o both e)

    pub stands_both : (ts ks : List (Timer K)) (key : K) → AreInBoth eq cmp ts ks → stands eq ks key ≡ stands eq ts key
    stands_both ts ks key both = sym (moment_stands eq ks key) ∙ ap is_some (both.by_key.moments key) ∙ moment_stands eq ts key

    pub both_without : (ts ks : List (Timer K)) (key : K) → AreInBoth eq cmp ts ks → AreInBoth eq cmp (without eq ts key) (without eq ks key)
    both_without ts ks key both = record {
      queue = queue_without eq laws ts key both.queue;
      by_key = record {
        rise = rise_filter eq cmp order alike (λ t. not (eq t.key key)) ks both.by_key.rise;
        moments = λ k. moments_without ks ts key k (both.by_key.moments k);
      };
    }

    pub both_set : (ts ks : List (Timer K)) (t : Timer K) → AreInBoth eq cmp ts ks → AreInBoth eq cmp (set eq ts t.key t.at) (put_key cmp ks t)
    both_set ts ks t both = record {
      queue = queue_set eq laws ts t.key t.at both.queue;
      by_key = record {
        rise = rise_put eq cmp order alike ks t both.by_key.rise;
        moments = λ k. moments_set ks ts t k (both.by_key.moments k);
      };
    }
