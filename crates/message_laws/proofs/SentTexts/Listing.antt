-- The 200 to a REGISTER, which lists the bindings of its user, is of the form that is written and read again (RFC 3261
-- section 10.3).
use Rattle.std.proofs.Common.{◌≡◌, ◌∙◌, ℕ, ◌-◌, Bool, true, not, List, [], ◌∷◌, ◌++◌, codes, decimal, map, refl, ap, sym, subst, append_assoc}
use Rattle.std.specs.Int.{div_ceil}
use Rattle.std.specs.List.{All, list_all}
use Rattle.std.proofs.lemmas.Bool.{and_from}
use Rattle.std.proofs.lemmas.List.Elements.{All-head, All-tail}
use Rattle.std.proofs.lemmas.List.Folds.{list_all-append}
use Rattle.text.specs.Class.{is_blank}
use Rattle.text.specs.Trim.{trimmed}
use Rattle.sip_uri.specs.Writing.{uri_text}
use Rattle.sip_uri.specs.declared.uri.Uri.{Uri}
use Rattle.sip_uri.proofs.RoundTrip.{written_again}
use Rattle.sip_message.specs.declared.headers.Header.{Header}
use Rattle.sip_message.specs.HeaderNames.{long_name}
use Rattle.sip_message.specs.Lines.{is_clean, is_text_byte}
use Rattle.sip_message.specs.Lookup.{values_named}
use Rattle.sip_message.specs.Written.{is_written}
use Rattle.sip_message.proofs.ValueLaws.{end_behind}
use Rattle.sip_writing.specs.Further.{repeats_nothing}
use Rattle.sip_writing.specs.WritingMessage.{tells_no_length}
use Rattle.sip_writing.proofs.StartTexts.{uri_clean}
use Rattle.dialogs.specs.Sound.{IsReadUri}
use Rattle.registrar.specs.declared.binding.Binding.{Binding}
use Rattle.responses.specs.Responding.{contact_header, contact_text}
use Rattle.message_laws.specs.Sound.{IsBound}
use Rattle.message_laws.proofs.TokenUse.ContactField.{bytes_same, solid_trimmed}
use Rattle.message_laws.proofs.TokenUse.Further.{FollowsIn}
use Rattle.message_laws.proofs.Messages.AnyToken.{any_decimal_passes}

-- ---- one binding

abbrev is_solid : ℕ → Bool
is_solid b = not (is_blank b)

-- what comes after the URI
abbrev life_text : ℕ → List ℕ
life_text seconds = codes ">;expires=" ++ decimal seconds

life_passes : (p : ℕ → Bool) → list_all p (codes ">;expires=") ≡ true → (seconds : ℕ) → list_all p (decimal seconds) ≡ true → list_all p (life_text seconds) ≡ true
life_passes p front seconds digits = rw (list_all-append p (codes ">;expires=") (decimal seconds)) (and_from _ _ front digits)

uri_is_clean : (uri : Uri) → IsReadUri uri → is_clean (uri_text uri) ≡ true
uri_is_clean uri h = uri_clean (uri_text uri) uri (written_again h.text uri h.reads)

text_clean : (uri : Uri) (seconds : ℕ) → IsReadUri uri → is_clean (60 ∷ (uri_text uri ++ life_text seconds)) ≡ true
text_clean uri seconds h =
    and_from _ _ refl (rw (list_all-append is_text_byte (uri_text uri) (life_text seconds)) (and_from _ _ (uri_is_clean uri h) (life_passes is_text_byte refl seconds (any_decimal_passes is_text_byte refl seconds))))

text_trimmed : (uri : Uri) (seconds : ℕ) → trimmed (60 ∷ (uri_text uri ++ life_text seconds)) ≡ 60 ∷ (uri_text uri ++ life_text seconds)
text_trimmed uri seconds =
    end_behind (60 ∷ uri_text uri) 62 (codes ";expires=" ++ decimal seconds) (solid_trimmed (life_text seconds) (life_passes is_solid refl seconds (any_decimal_passes is_solid refl seconds)))

-- the whole value
value_is : (now : ℕ) (b : Binding) → contact_text now b ≡ 60 ∷ (uri_text b.uri ++ life_text (div_ceil (b.expires_at - now) 1000))
value_is now b = simp append_assoc

value_clean : (now : ℕ) (b : Binding) → IsBound b → is_clean (contact_text now b) ≡ true
value_clean now b h = ap is_clean (value_is now b) ∙ text_clean b.uri (div_ceil (b.expires_at - now) 1000) h.read

value_trimmed : (now : ℕ) (b : Binding) → trimmed (contact_text now b) ≡ contact_text now b
value_trimmed now b = subst (λ (text : List ℕ). trimmed text ≡ text) (sym (value_is now b)) (text_trimmed b.uri (div_ceil (b.expires_at - now) 1000))

header_written : (now : ℕ) (b : Binding) → IsBound b → is_written (contact_header now b) ≡ true
unfolding is_written long_name
header_written now b h = and_from _ _ (and_from _ _ refl (value_clean now b h)) (bytes_same (value_trimmed now b))

-- ---- all

listed_written : (now : ℕ) (bindings : List Binding) → All IsBound bindings → list_all is_written (map (contact_header now) bindings) ≡ true
listed_written now [] all = refl
listed_written now (b ∷ bs) all = and_from _ _ (header_written now b (All-head IsBound b bs all)) (listed_written now bs (All-tail IsBound b bs all))

listed_pass : (p : Header → Bool) → ((now : ℕ) (b : Binding) → p (contact_header now b) ≡ true) → (now : ℕ) (bindings : List Binding) → list_all p (map (contact_header now) bindings) ≡ true
listed_pass p each now [] = refl
listed_pass p each now (b ∷ bs) = and_from _ _ (each now b) (listed_pass p each now bs)

no_hops : (now : ℕ) (bindings : List Binding) → values_named (codes "Max-Forwards") (map (contact_header now) bindings) ≡ []
no_hops now [] = refl
no_hops now (b ∷ bs) = no_hops now bs

no_type : (now : ℕ) (bindings : List Binding) → values_named (codes "Content-Type") (map (contact_header now) bindings) ≡ []
no_type now [] = refl
no_type now (b ∷ bs) = no_type now bs

-- they may follow in a 200 to a REGISTER
pub listing_follows : (now : ℕ) (bindings : List Binding) → All IsBound bindings → FollowsIn 200 (codes "REGISTER") (map (contact_header now) bindings)
listing_follows now bindings all = record {
  written = listed_written now bindings all;
  repeat_nothing = listed_pass repeats_nothing (λ n b. refl) now bindings;
  no_length = listed_pass tells_no_length (λ n b. refl) now bindings;
  says_contact = tt;
  hops = 70;
  says_hops = rw (no_hops now bindings) refl;
  says_type = rw (no_type now bindings) tt;
}
