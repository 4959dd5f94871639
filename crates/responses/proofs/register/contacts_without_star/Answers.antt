use Rattle.std.proofs.Common.{◌≡◌, ◌∙◌, ◌++◌, ◌∷◌, [], List, ap, refl, sym}
use Rattle.std.specs.Option.{option_to_list}
use Rattle.std.proofs.lemmas.List.Elements.{filter_map-append}
use Rattle.registrar.specs.declared.register.Contact.{Contact}
use Rattle.sip_message.specs.declared.contact.ContactValue.{ContactValue}
use Rattle.sip_message.specs.declared.contact.ContactValue.TheVariants.{Star, Address, Unreadable}
use Rattle.responses.specs.Registering.{contact_from, contacts_without_star}
use Rattle.responses.proofs.register.contacts_without_star.Goals as goal

one : (value : ContactValue) → option_to_list (contact_from value) ≡ contacts_without_star (value ∷ [])
one Star = refl
one (Address name) = refl
one Unreadable = refl

pub loop-value-preserved : goal.loop-value-preserved
loop-value-preserved c =
    c.in_ok-push_contact.ensures
    ∙ ap (λ (l : List Contact). l ++ option_to_list (contact_from c.in-Some.value)) c.loop-value.invariant
    ∙ ap (λ (l : List Contact). contacts_without_star c.loop-value.yielded ++ l) (one c.in-Some.value)
    ∙ sym (filter_map-append contact_from c.loop-value.yielded (c.in-Some.value ∷ []))
