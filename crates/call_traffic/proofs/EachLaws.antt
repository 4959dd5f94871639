-- A list of which each element in turn becomes another.
use Rattle.std.proofs.Common.{◌≡◌, ℕ, ◌+◌, ◌-◌, ◌<◌, List, [], ◌∷◌, ◌++◌, length, take, drop, get_or, set, sym, ap, ◌∙◌, subst, arith, append_assoc, length-drop}
use Rattle.std.specs.List.{AllZip, flat_map}
use Rattle.std.proofs.lemmas.List.{append-nil, drop-drop, drop-set-lt, get_or-drop, take_more, take_more_set}
use Rattle.std.proofs.lemmas.List.Concat.{flat_map-append}
use Rattle.std.proofs.lemmas.List.Elements.{AllZip-push}

pub zip_push : {A B : Type 0} (R : A → B → Type 0) (gs : List A) (bs : List B) (a : A) (b : B) → AllZip R gs bs → R a b → AllZip R (gs ++ a ∷ []) (bs ++ b ∷ [])
zip_push R [] [] a b zip here = (here, tt)
zip_push R [] (y ∷ bs) a b zip here = absurd zip
zip_push R (x ∷ gs) [] a b zip here = absurd zip
zip_push R (x ∷ gs) (y ∷ bs) a b zip here = (zip.0, zip_push R gs bs a b zip.1 here)

-- the rest of the list is as it was
pub rest_more : {X : Type 0} (befores nows : List X) (i : ℕ) (is : X) → drop i nows ≡ drop i befores → drop (i + 1) (set nows i is) ≡ drop (i + 1) befores
rest_more befores nows i is rest =
    drop-set-lt (i + 1) nows i is (omega arith) ∙ sym (drop-drop 1 i nows) ∙ ap (drop 1) rest ∙ drop-drop 1 i befores

pub within : {X : Type 0} (befores nows : List X) (i : ℕ) → i < length nows → drop i nows ≡ drop i befores → i < length befores
within befores nows i less rest = omega (arith, ap length rest, length-drop i nows, length-drop i befores)

-- the next element is as it was
pub next_is : {X : Type 0} (befores nows : List X) (i : ℕ) (d : X) → drop i nows ≡ drop i befores → get_or nows i d ≡ get_or befores i d
next_is befores nows i d rest =
    ap (λ n. get_or nows n d) (omega arith) ∙ sym (get_or-drop i nows 0 d) ∙ ap (λ xs. get_or xs 0 d) rest ∙ get_or-drop i befores 0 d ∙ ap (λ n. get_or befores n d) (omega arith)

pub zip_more : {X : Type 0} (R : X → X → Type 0) (befores nows : List X) (i : ℕ) (d is : X) → i < length nows → drop i nows ≡ drop i befores →
    AllZip R (take i befores) (take i nows) → R (get_or nows i d) is → AllZip R (take (i + 1) befores) (take (i + 1) (set nows i is))
zip_more R befores nows i d is less rest zip here =
    subst (λ xs. AllZip R xs (take (i + 1) (set nows i is))) (sym (take_more befores i d (within befores nows i less rest)))
    (subst (AllZip R (take i befores ++ get_or befores i d ∷ [])) (sym (take_more_set nows i is less))
    (AllZip-push R (take i befores) (take i nows) (get_or befores i d) is zip (subst (λ x. R x is) (next_is befores nows i d rest) here)))

-- what one more element gives, behind all others
pub gives_push : {X A : Type 0} (f : X → List A) (start now after : List A) (xs : List X) (x : X) →
    now ≡ start ++ flat_map f xs → after ≡ now ++ f x → after ≡ start ++ flat_map f (xs ++ x ∷ [])
gives_push f start now after xs x was more =
    more ∙ ap (λ gs. gs ++ f x) was ∙ append_assoc start (flat_map f xs) (f x)
    ∙ ap (λ gs. start ++ (flat_map f xs ++ gs)) (sym (append-nil (f x)))
    ∙ ap (λ gs. start ++ gs) (sym (flat_map-append f xs (x ∷ [])))

pub gives_more : {X A : Type 0} (f : X → List A) (start now after : List A) (nows : List X) (i : ℕ) (is : X) → i < length nows →
    now ≡ start ++ flat_map f (take i nows) → after ≡ now ++ f is → after ≡ start ++ flat_map f (take (i + 1) (set nows i is))
gives_more f start now after nows i is less was more =
    gives_push f start now after (take i nows) is was more ∙ ap (λ xs. start ++ flat_map f xs) (sym (take_more_set nows i is less))
