-- What is read is a description, a description is read, and a refusal has its reason.
use Rattle.std.proofs.Common.{◌≡◌, ℕ, Bool, true, false, cond, List, Result, Ok, Err, refl, sym, subst, ◌∙◌}
use Rattle.std.specs.Prelude.{IfOk, IfErr}
use Rattle.std.specs.List.{list_all}
use Rattle.std.proofs.lemmas.Bool.{true≢false}
use Rattle.sdp.specs.declared.description.Description.{Description}
use Rattle.sdp.specs.declared.error.DescriptionError.{DescriptionError}
use Rattle.sdp.specs.declared.error.DescriptionError.TheVariants.{OutOfMemory, Order, LineForm, Version, Origin, Connection, Medium, NoConnection, TooManyMedia, TooManyFormats}
use Rattle.sdp.specs.Faults.{Gives}
use Rattle.sdp.specs.Grammar.{SaysDescription, ReadsDescription, Refuses}
use Rattle.sdp.specs.Lines.{IsLines, lines_of, is_formed}
use Rattle.sdp.specs.Order.{is_ordered}
use Rattle.sdp.specs.Reading.{is_version, has_origin, is_good_connection, is_good_medium, value_of, has_places, has_few_media, has_few_formats, judgment, said_by, description_of}
use Rattle.sdp.proofs.LineLaws.{are_lines, lines_are}
use Rattle.sdp.proofs.SessionLaws.{lines_say, lines_read}

abbrev ok : Description → Result Description DescriptionError
ok d = Ok d

abbrev failed : DescriptionError → Result Description DescriptionError
failed e = Err e

error_is : (d e : DescriptionError) → failed d ≡ failed e → d ≡ e
error_is d e h = cc

read_is : (a b : Description) → ok a ≡ ok b → a ≡ b
read_is a b h = cc

-- the order of the faults
abbrev verdict : Bool → Bool → Bool → Bool → Bool → Bool → Bool → Bool → Bool → Description → Result Description DescriptionError
verdict a b c f g i j k l x = cond a (cond b (cond c (cond f (cond g (cond i (cond j (cond k (cond l (Ok x) (Err TooManyFormats)) (Err TooManyMedia)) (Err NoConnection)) (Err Medium)) (Err Connection)) (Err Origin)) (Err Version)) (Err LineForm)) (Err Order)

-- ---- what is read is a description

found_by : (text : List ℕ) (ls : List (List ℕ)) (d : Description) (a b c f g i j k l : Bool) → lines_of text ≡ ls → is_ordered ls ≡ a → list_all is_formed ls ≡ b → is_version ls ≡ c → has_origin ls ≡ f → list_all is_good_connection ls ≡ g → list_all is_good_medium ls ≡ i → has_places (value_of ls) ≡ j → has_few_media (value_of ls) ≡ k → has_few_formats (value_of ls) ≡ l
    → verdict a b c f g i j k l (value_of ls) ≡ Ok d → ReadsDescription text d
found_by text ls d true true true true true true true true true are h0 h1 h2 h3 h4 h5 h6 h7 h8 h =
    let says : SaysDescription ls (value_of ls) = lines_say ls (record { ordered = h0; version = h2; origin = h3; connections = h4; media = h5 }) h1 in
    subst (λ (x : Description). ReadsDescription text x) (read_is (value_of ls) d h) (record {
      lines = ls;
      are_lines = subst (λ (x : List (List ℕ)). IsLines x text) are (are_lines text);
      formed = h1;
      says = says;
      places = h6;
      few_media = h7;
      few_formats = h8;
    })
found_by text ls d true true true true true true true true false are h0 h1 h2 h3 h4 h5 h6 h7 h8 h = absurd cc
found_by text ls d true true true true true true true false l are h0 h1 h2 h3 h4 h5 h6 h7 h8 h = absurd cc
found_by text ls d true true true true true true false k l are h0 h1 h2 h3 h4 h5 h6 h7 h8 h = absurd cc
found_by text ls d true true true true true false j k l are h0 h1 h2 h3 h4 h5 h6 h7 h8 h = absurd cc
found_by text ls d true true true true false i j k l are h0 h1 h2 h3 h4 h5 h6 h7 h8 h = absurd cc
found_by text ls d true true true false g i j k l are h0 h1 h2 h3 h4 h5 h6 h7 h8 h = absurd cc
found_by text ls d true true false f g i j k l are h0 h1 h2 h3 h4 h5 h6 h7 h8 h = absurd cc
found_by text ls d true false c f g i j k l are h0 h1 h2 h3 h4 h5 h6 h7 h8 h = absurd cc
found_by text ls d false b c f g i j k l are h0 h1 h2 h3 h4 h5 h6 h7 h8 h = absurd cc

pub is_found : (text : List ℕ) (d : Description) → description_of text ≡ Ok d → ReadsDescription text d
unfolding description_of said_by judgment
is_found text d h =
    let ls = lines_of text in
    found_by text ls d (is_ordered ls) (list_all is_formed ls) (is_version ls) (has_origin ls) (list_all is_good_connection ls) (list_all is_good_medium ls) (has_places (value_of ls)) (has_few_media (value_of ls)) (has_few_formats (value_of ls)) refl refl refl refl refl refl refl refl refl refl h

-- ---- a description is read

pub is_read : (text : List ℕ) (d : Description) → ReadsDescription text d → description_of text ≡ Ok d
unfolding description_of said_by judgment
is_read text d h =
    let are : lines_of text ≡ h.lines = lines_are h.lines text h.formed h.are_lines in
    let reads = lines_read h.lines d h.says in
    let t = reads.0 in
    rw (are, t.ordered, h.formed, t.version, t.origin, t.connections, t.media, reads.1, h.places, h.few_media, h.few_formats) refl

-- ---- a refusal has its reason

refused_by : (text : List ℕ) (e : DescriptionError) (a b c f g i j k l : Bool) → is_ordered (lines_of text) ≡ a → list_all is_formed (lines_of text) ≡ b → is_version (lines_of text) ≡ c → has_origin (lines_of text) ≡ f → list_all is_good_connection (lines_of text) ≡ g → list_all is_good_medium (lines_of text) ≡ i → has_places (value_of (lines_of text)) ≡ j → has_few_media (value_of (lines_of text)) ≡ k → has_few_formats (value_of (lines_of text)) ≡ l
    → verdict a b c f g i j k l (value_of (lines_of text)) ≡ Err e → Refuses text e
refused_by text e true true true true true true true true true h0 h1 h2 h3 h4 h5 h6 h7 h8 h = absurd cc
refused_by text e true true true true true true true true false h0 h1 h2 h3 h4 h5 h6 h7 h8 h = subst (λ (x : DescriptionError). Refuses text x) (error_is TooManyFormats e h) (record { head = record { form = record { ordered = h0; formed = h1 }; version = h2; origin = h3 }; connections = h4; media = h5 }, h6, h7, λ good. true≢false (sym good ∙ h8))
refused_by text e true true true true true true true false l h0 h1 h2 h3 h4 h5 h6 h7 h8 h = subst (λ (x : DescriptionError). Refuses text x) (error_is TooManyMedia e h) (record { head = record { form = record { ordered = h0; formed = h1 }; version = h2; origin = h3 }; connections = h4; media = h5 }, h6, λ good. true≢false (sym good ∙ h7))
refused_by text e true true true true true true false k l h0 h1 h2 h3 h4 h5 h6 h7 h8 h = subst (λ (x : DescriptionError). Refuses text x) (error_is NoConnection e h) (record { head = record { form = record { ordered = h0; formed = h1 }; version = h2; origin = h3 }; connections = h4; media = h5 }, λ good. true≢false (sym good ∙ h6))
refused_by text e true true true true true false j k l h0 h1 h2 h3 h4 h5 h6 h7 h8 h = subst (λ (x : DescriptionError). Refuses text x) (error_is Medium e h) (record { form = record { ordered = h0; formed = h1 }; version = h2; origin = h3 }, h4, λ good. true≢false (sym good ∙ h5))
refused_by text e true true true true false i j k l h0 h1 h2 h3 h4 h5 h6 h7 h8 h = subst (λ (x : DescriptionError). Refuses text x) (error_is Connection e h) (record { form = record { ordered = h0; formed = h1 }; version = h2; origin = h3 }, λ good. true≢false (sym good ∙ h4))
refused_by text e true true true false g i j k l h0 h1 h2 h3 h4 h5 h6 h7 h8 h = subst (λ (x : DescriptionError). Refuses text x) (error_is Origin e h) (record { ordered = h0; formed = h1 }, h2, λ good. true≢false (sym good ∙ h3))
refused_by text e true true false f g i j k l h0 h1 h2 h3 h4 h5 h6 h7 h8 h = subst (λ (x : DescriptionError). Refuses text x) (error_is Version e h) (record { ordered = h0; formed = h1 }, λ good. true≢false (sym good ∙ h2))
refused_by text e true false c f g i j k l h0 h1 h2 h3 h4 h5 h6 h7 h8 h = subst (λ (x : DescriptionError). Refuses text x) (error_is LineForm e h) (h0, λ good. true≢false (sym good ∙ h1))
refused_by text e false b c f g i j k l h0 h1 h2 h3 h4 h5 h6 h7 h8 h = subst (λ (x : DescriptionError). Refuses text x) (error_is Order e h) (λ good. true≢false (sym good ∙ h0))

pub is_refused : (text : List ℕ) (e : DescriptionError) → description_of text ≡ Err e → Refuses text e
unfolding description_of said_by judgment
is_refused text e h =
    let ls = lines_of text in
    refused_by text e (is_ordered ls) (list_all is_formed ls) (is_version ls) (has_origin ls) (list_all is_good_connection ls) (list_all is_good_medium ls) (has_places (value_of ls)) (has_few_media (value_of ls)) (has_few_formats (value_of ls)) refl refl refl refl refl refl refl refl refl h

-- ---- at a call that gives what reading gives

pub found_at : (text : List ℕ) (r : Result Description DescriptionError) → Gives r (description_of text) → IfOk r (λ d. ReadsDescription text d)
found_at text (Ok d) gives = is_found text d gives
found_at text (Err e) gives = tt

pub read_at : (text : List ℕ) (r : Result Description DescriptionError) (d : Description) → Gives r (description_of text) → ReadsDescription text d → Gives r (Ok d)
read_at text r d gives h = subst (λ (f : Result Description DescriptionError). Gives r f) (is_read text d h) gives

pub refused_at : (text : List ℕ) (r : Result Description DescriptionError) → Gives r (description_of text) → IfErr r (λ e. Refuses text e)
refused_at text (Ok d) gives = tt
refused_at text (Err OutOfMemory) gives = tt
refused_at text (Err Order) gives = is_refused text Order gives
refused_at text (Err LineForm) gives = is_refused text LineForm gives
refused_at text (Err Version) gives = is_refused text Version gives
refused_at text (Err Origin) gives = is_refused text Origin gives
refused_at text (Err Connection) gives = is_refused text Connection gives
refused_at text (Err Medium) gives = is_refused text Medium gives
refused_at text (Err NoConnection) gives = is_refused text NoConnection gives
refused_at text (Err TooManyMedia) gives = is_refused text TooManyMedia gives
refused_at text (Err TooManyFormats) gives = is_refused text TooManyFormats gives

-- ---- at most one value

pub one_description : (text : List ℕ) (a b : Description) → ReadsDescription text a → ReadsDescription text b → a ≡ b
one_description text a b h k = read_is a b (sym (is_read text a h) ∙ is_read text b k)
