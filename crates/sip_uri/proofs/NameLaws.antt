-- A name and an address that is read is in the grammar, what is in the grammar is read, and a refusal has its reason.
use Rattle.std.proofs.Common.{◌≡◌, ℕ, Bool, true, false, cond, List, Option, Some, None, Result, Ok, Err, refl, sym, ap, subst, ◌∙◌}
use Rattle.std.specs.Prelude.{IsTrue, IfOk, IfErr}
use Rattle.text.specs.Class.{passes_if_there}
use Rattle.sip_uri.specs.declared.error.UriError.{UriError}
use Rattle.sip_uri.specs.declared.error.UriError.TheVariants.{OutOfMemory, Scheme, Malformed, BadEscape, Port}
use Rattle.sip_uri.specs.declared.uri.Uri.{Uri}
use Rattle.sip_uri.specs.declared.uri.Param.{Param}
use Rattle.sip_uri.specs.declared.uri.NameAddr.{NameAddr}
use Rattle.sip_uri.specs.FieldParams.{is_field_params, field_params_of, field_params_read}
use Rattle.sip_uri.specs.Grammar.{Refuses}
use Rattle.sip_uri.specs.NameParts.{RawName, name_of, stands_well}
use Rattle.sip_uri.specs.RawUri.{raw_text}
use Rattle.sip_uri.specs.NameAddr.{name_params, judged, name_addr_from, name_addr_of, SpellsName, FitsName, ReadsNameAddr, RefusesName}
use Rattle.sip_uri.specs.Reading.{Gives, uri_of}
use Rattle.sip_uri.proofs.GrammarLaws.{is_found, is_read, is_refused}
use Rattle.sip_uri.proofs.NameCuts.{name_is}
use Rattle.sip_uri.proofs.NameSpelling.{name_again}

abbrev none : Option (List Param)
none = None

abbrev some : List Param → Option (List Param)
some ps = Some ps

some_is : (a b : List Param) → some a ≡ some b → a ≡ b
some_is a b h = cc

abbrev ok : NameAddr → Result NameAddr UriError
ok n = Ok n

abbrev failed : UriError → Result NameAddr UriError
failed e = Err e

ok_is : (a b : NameAddr) → ok a ≡ ok b → a ≡ b
ok_is a b h = cc

error_is : (d e : UriError) → failed d ≡ failed e → d ≡ e
error_is d e h = cc

-- ---- the form of the whole

field_params_are : (o : Option (List ℕ)) (ps : List Param) → field_params_read o ≡ Some ps → (passes_if_there is_field_params o ≡ true) × (ps ≡ field_params_of o)
unfolding field_params_read field_params_of
field_params_are None ps h = (refl, sym (some_is _ ps h))
field_params_are (Some t) ps h = step (is_field_params t) h where
  step : (e : Bool) → cond e (Some (field_params_of (Some t))) None ≡ Some ps → (e ≡ true) × (ps ≡ field_params_of (Some t))
  step true k = (refl, sym (some_is _ ps k))
  step false k = absurd cc

pub field_params_again : (o : Option (List ℕ)) → passes_if_there is_field_params o ≡ true → field_params_read o ≡ Some (field_params_of o)
unfolding field_params_read field_params_of
field_params_again None h = refl
field_params_again (Some t) h = rw h refl

params_are : (r : RawName) (ps : List Param) → name_params r ≡ Some ps → (IsTrue (stands_well r)) × (IsTrue (passes_if_there is_field_params r.params)) × (ps ≡ field_params_of r.params)
unfolding name_params
params_are r ps h = step (stands_well r) h where
  step : (e : Bool) → cond e (field_params_read r.params) None ≡ Some ps → (IsTrue e) × (IsTrue (passes_if_there is_field_params r.params)) × (ps ≡ field_params_of r.params)
  step true k = let f = field_params_are r.params ps k in (refl, f.0, f.1)
  step false k = absurd cc

params_again : (text : List ℕ) (r : RawName) → FitsName text r → name_params r ≡ Some (field_params_of r.params)
unfolding name_params
params_again text r h = rw h.stands (field_params_again r.params h.form)

fits_at : (text : List ℕ) (r : RawName) (ps : List Param) → SpellsName text r → name_params r ≡ Some ps → FitsName text r
fits_at text r ps spelled h = let p = params_are r ps h in record { spelled = spelled; stands = p.0; form = p.1 }

-- ---- what is read

abbrev named : RawName → Uri → List Param → NameAddr
named r uri ps = record { display = r.display; uri = uri; params = ps }

reads_at : (text : List ℕ) (r : RawName) (ps : List Param) (u : Uri) → SpellsName text r → name_params r ≡ Some ps → uri_of r.uri ≡ Ok u → ReadsNameAddr text (named r u ps)
reads_at text r ps u spelled params uri = record { raw = r; fits = fits_at text r ps spelled params; uri = is_found r.uri u uri; display = refl; params = (params_are r ps params).2 }

found_by : (text : List ℕ) (n : NameAddr) (r : RawName) (o : Option (List Param)) (u : Result Uri UriError) → SpellsName text r → name_params r ≡ o → uri_of r.uri ≡ u → judged r o u ≡ Ok n → ReadsNameAddr text n
found_by text n r (Some ps) (Ok u) spelled params uri h = subst (λ (x : NameAddr). ReadsNameAddr text x) (ok_is (named r u ps) n h) (reads_at text r ps u spelled params uri)
found_by text n r None (Ok u) spelled params uri h = absurd cc
found_by text n r o (Err Scheme) spelled params uri h = absurd cc
found_by text n r o (Err OutOfMemory) spelled params uri h = absurd cc
found_by text n r o (Err Malformed) spelled params uri h = absurd cc
found_by text n r None (Err BadEscape) spelled params uri h = absurd cc
found_by text n r (Some ps) (Err BadEscape) spelled params uri h = absurd cc
found_by text n r None (Err Port) spelled params uri h = absurd cc
found_by text n r (Some ps) (Err Port) spelled params uri h = absurd cc

pub name_is_found : (text : List ℕ) (n : NameAddr) → name_addr_of text ≡ Ok n → ReadsNameAddr text n
unfolding name_addr_of
name_is_found text n h = step (name_of text) (λ r e. name_is text r e) h where
  step : (o : Option RawName) → ((r : RawName) → o ≡ Some r → SpellsName text r) → name_addr_from o ≡ Ok n → ReadsNameAddr text n
  step None is k = absurd cc
  step (Some r) is k = found_by text n r (name_params r) (uri_of r.uri) (is r refl) refl refl k

pub name_is_read : (text : List ℕ) (n : NameAddr) → ReadsNameAddr text n → name_addr_of text ≡ Ok n
unfolding name_addr_of
name_is_read text n h =
    let r : RawName = h.raw in
    rw (name_again text r h.uri.raw h.fits.spelled h.fits.stands h.uri.spelled, params_again text r h.fits, is_read r.uri n.uri h.uri) (
    ap (λ (x : NameAddr). Ok x) (same n h.display h.params)
    ) where
      same : (n : NameAddr) → n.display ≡ h.raw.display → n.params ≡ field_params_of h.raw.params → named h.raw n.uri (field_params_of h.raw.params) ≡ n
      same n d p = rw (sym d, sym p) refl

-- ---- refusals

not_ok : (text : List ℕ) (e : UriError) → name_addr_of text ≡ Err e → (n : NameAddr) → ReadsNameAddr text n → ⊥
not_ok text e h n reads = clash n e (sym (name_is_read text n reads) ∙ h) where
  clash : (n : NameAddr) (e : UriError) → ok n ≡ failed e → ⊥
  clash n e h = absurd cc

-- why the whole is not well formed
abbrev MayBeMalformed : List ℕ → RawName → Type 0
MayBeMalformed text r = (Refuses r.uri Scheme → ⊥) × (FitsName text r → Refuses r.uri Malformed)

some_name : (a b : RawName) → Some a ≡ Some b → a ≡ b
some_name a b e = cc

malformed : (text : List ℕ) (e : UriError) → name_addr_of text ≡ Err e → failed Malformed ≡ failed e → ((r : RawName) → name_of text ≡ Some r → MayBeMalformed text r) → RefusesName text e
malformed text e whole h why = subst (λ (x : UriError). RefusesName text x) (error_is Malformed e h) (not_ok text e whole, why)

at_cut : (text : List ℕ) (r : RawName) → name_of text ≡ Some r → MayBeMalformed text r → (raw : RawName) → name_of text ≡ Some raw → MayBeMalformed text raw
at_cut text r cut h raw e = subst (λ (x : RawName). MayBeMalformed text x) (some_name r raw (sym cut ∙ e)) h

no_params : (text : List ℕ) (r : RawName) → name_params r ≡ None → FitsName text r → Refuses r.uri Malformed
no_params text r params fits = clash (field_params_of r.params) (sym params ∙ params_again text r fits) where
  clash : (ps : List Param) → none ≡ some ps → Refuses r.uri Malformed
  clash ps e = absurd cc

refused_by : (text : List ℕ) (e : UriError) (r : RawName) (o : Option (List Param)) (u : Result Uri UriError) → name_addr_of text ≡ Err e → name_of text ≡ Some r → SpellsName text r → name_params r ≡ o → uri_of r.uri ≡ u → judged r o u ≡ Err e → RefusesName text e
refused_by text e r (Some ps) (Ok u) whole cut spelled params uri h = absurd cc
refused_by text e r None (Ok u) whole cut spelled params uri h =
    let reads = is_found r.uri u uri in
    malformed text e whole h (at_cut text r cut (λ other. other (raw_text reads.raw) reads.spelled.begins, no_params text r params))
refused_by text e r o (Err Scheme) whole cut spelled params uri h = subst (λ (x : UriError). RefusesName text x) (error_is Scheme e h) (r, cut, spelled, is_refused r.uri Scheme uri)
refused_by text e r o (Err OutOfMemory) whole cut spelled params uri h = subst (λ (x : UriError). RefusesName text x) (error_is OutOfMemory e h) tt
refused_by text e r o (Err Malformed) whole cut spelled params uri h =
    let no = is_refused r.uri Malformed uri in
    malformed text e whole h (at_cut text r cut (λ other. other no.0.0 no.0.1, λ fits. no))
refused_by text e r None (Err BadEscape) whole cut spelled params uri h =
    let no = is_refused r.uri BadEscape uri in
    malformed text e whole h (at_cut text r cut (λ other. other (raw_text no.0) no.1.begins, no_params text r params))
refused_by text e r (Some ps) (Err BadEscape) whole cut spelled params uri h =
    subst (λ (x : UriError). RefusesName text x) (error_is BadEscape e h) (r, cut, fits_at text r ps spelled params, is_refused r.uri BadEscape uri)
refused_by text e r None (Err Port) whole cut spelled params uri h =
    let no = is_refused r.uri Port uri in
    malformed text e whole h (at_cut text r cut (λ other. other (raw_text no.0) no.1.begins, no_params text r params))
refused_by text e r (Some ps) (Err Port) whole cut spelled params uri h =
    subst (λ (x : UriError). RefusesName text x) (error_is Port e h) (r, cut, fits_at text r ps spelled params, is_refused r.uri Port uri)

given : (text : List ℕ) (e : UriError) → name_addr_of text ≡ Err e → name_addr_from (name_of text) ≡ Err e
unfolding name_addr_of
given text e h = h

pub name_is_refused : (text : List ℕ) (e : UriError) → name_addr_of text ≡ Err e → RefusesName text e
name_is_refused text e h = step (name_of text) refl (λ r k. name_is text r k) (given text e h) where
  step : (o : Option RawName) → name_of text ≡ o → ((r : RawName) → o ≡ Some r → SpellsName text r) → name_addr_from o ≡ Err e → RefusesName text e
  step None cut is k = malformed text e h k (λ raw found. no_cut raw (sym cut ∙ found)) where
    no_cut : (raw : RawName) → None ≡ Some raw → MayBeMalformed text raw
    no_cut raw e = absurd cc
  step (Some r) cut is k = refused_by text e r (name_params r) (uri_of r.uri) h cut (is r refl) refl refl k

-- ---- at a call that gives what reading gives

pub name_found_at : (text : List ℕ) (r : Result NameAddr UriError) → Gives r (name_addr_of text) → IfOk r (λ n. ReadsNameAddr text n)
name_found_at text (Ok n) gives = name_is_found text n gives
name_found_at text (Err e) gives = tt

pub name_refused_at : (text : List ℕ) (r : Result NameAddr UriError) → Gives r (name_addr_of text) → IfErr r (λ e. RefusesName text e)
name_refused_at text (Ok n) gives = tt
name_refused_at text (Err OutOfMemory) gives = tt
name_refused_at text (Err Scheme) gives = name_is_refused text Scheme gives
name_refused_at text (Err Malformed) gives = name_is_refused text Malformed gives
name_refused_at text (Err BadEscape) gives = name_is_refused text BadEscape gives
name_refused_at text (Err Port) gives = name_is_refused text Port gives

pub name_read_at : (text : List ℕ) (r : Result NameAddr UriError) (n : NameAddr) → Gives r (name_addr_of text) → ReadsNameAddr text n → Gives r (Ok n)
name_read_at text r n gives h = subst (λ (f : Result NameAddr UriError). Gives r f) (name_is_read text n h) gives

-- ---- at most one value

pub one_name : (text : List ℕ) (a b : NameAddr) → ReadsNameAddr text a → ReadsNameAddr text b → a ≡ b
one_name text a b h k = ok_is a b (sym (name_is_read text a h) ∙ name_is_read text b k)
