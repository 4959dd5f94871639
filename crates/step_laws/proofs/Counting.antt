-- The registrar is as left by the REGISTERs and the lists of users that the entries bring, each of them counted.
use Rattle.std.proofs.Common.{◌≡◌, ◌∙◌, ◌++◌, List, [], ◌∷◌, Option, Some, None, ap, inl, inr, refl, subst, sym}
use Rattle.std.proofs.lemmas.List.{append-nil, append_assoc}
use Rattle.configuration.specs.declared.config.Config.{Config}
use Rattle.registrar.specs.Bound.{Event as RegistrarEvent}
use Rattle.registrar.specs.Registering.{Rules}
use Rattle.registrar.specs.Registrar.{StandsAfter}
use Rattle.events.specs.declared.event.Event.{Event}
use Rattle.plans.specs.Effect.{Effect}
use Rattle.plans.specs.declared.taken.Taken.{Taken}
use Rattle.event_rows.specs.Rows.{after, row}
use Rattle.event_rows.specs.State.{Contents, IsNew, registered_by, rules_by}
use Rattle.event_rows.specs.Trace.{AreEntries, Entry, after_answer, after_entries, after_entry}
use Rattle.step_laws.specs.Registering.{AreRegistrations, BringsNone, IsBrought, IsNoList, IsNoRegister}
use Rattle.step_laws.proofs.EventCases.{EventCase, event_case, ignored, listed, registered, unfired, went}
use Rattle.step_laws.proofs.Registers.{registrar_after, stands_after, takes_users}

-- ---- an entry that brings neither

none_registered : (s : Contents) (event : Event) (x : Effect) → IsNoRegister s event → IsNoList s event → EventCase s event x → x.plan.registration ≡ None
none_registered s event x none other (ignored taken why is) = ap (λ (y : Effect). y.plan.registration) is
none_registered s event x none other (unfired timer due silent is) = ap (λ (y : Effect). y.plan.registration) is
none_registered s event x none other (went is) = is.registration
none_registered s event x none other (registered source r id registers is) = absurd (none source r id registers)
none_registered s event x none other (listed users brings is) = absurd (other users brings)

stays : (s : Contents) (event : Event) → IsNoRegister s event → IsNoList s event → (after s event).registrar ≡ s.registrar
stays s event none other = registrar_after s event ∙ ap (registered_by s.registrar) (none_registered s event (row s event) none other (event_case s event))

answer_stays : (s : Contents) (event : Event) (answer : Option Taken) → IsNoRegister s event → IsNoList s event → (after_answer s event answer).registrar ≡ s.registrar
answer_stays s event None none other = refl
answer_stays s event (Some taken) none other = stays s event none other

entry_stays : (s : Contents) (x : Entry) → BringsNone s x → (after_entry s x).registrar ≡ s.registrar
entry_stays s x (inl lost) = ap (λ answer. (after_answer s x.event answer).registrar) lost
entry_stays s x (inr none) = answer_stays s x.event x.answer none.0 none.1

-- ---- an entry that brings either

answer_stands : (rules : Rules) (s : Contents) (x : Entry) (h : RegistrarEvent) (past : List RegistrarEvent) → StandsAfter s.registrar rules past → IsBrought rules s x h → (answer : Option Taken) → x.answer ≡ answer
    → StandsAfter (after_answer s x.event answer).registrar rules (past ++ h ∷ [])
answer_stands rules s x h past stands (inl is) None lost = absurd (is.not_lost lost)
answer_stands rules s x h past stands (inr is) None lost = absurd (is.not_lost lost)
answer_stands rules s x h past stands (inr is) (Some taken) told =
    subst (λ g. StandsAfter (after s x.event).registrar rules (past ++ g ∷ [])) (sym is.is) (takes_users s x.event is.users is.brings rules past stands).stands
answer_stands rules s x h past stands (inl is) (Some taken) told =
    subst (λ g. StandsAfter (after s x.event).registrar rules (past ++ g ∷ [])) (sym is.is) (stands_after s x.event is.source is.request is.id is.registers rules past stands)

-- ---- all of them

entries_stand : (rules : Rules) (xs : List Entry) (s : Contents) (past hs : List RegistrarEvent) → StandsAfter s.registrar rules past → AreRegistrations rules s xs hs
    → StandsAfter (after_entries s xs).registrar rules (past ++ hs)
entries_stand rules [] s past hs stands are = subst (StandsAfter s.registrar rules) (sym (ap (λ more. past ++ more) are ∙ append-nil past)) stands
entries_stand rules (x ∷ xs) s past hs stands (inl none) =
    entries_stand rules xs (after_entry s x) past hs (subst (λ y. StandsAfter y rules past) (sym (entry_stays s x none.0)) stands) none.1
entries_stand rules (x ∷ xs) s past hs stands (inr (h, rest, is, one, more)) =
    subst (StandsAfter (after_entries s (x ∷ xs)).registrar rules) (append_assoc past (h ∷ []) rest ∙ ap (λ all. past ++ all) (sym is))
    (entries_stand rules xs (after_entry s x) (past ++ h ∷ []) rest (answer_stands rules s x h past stands one x.answer refl) more)

pub registers_stand : (config : Config) (s : Contents) (entries : List Entry) (history : List RegistrarEvent) → IsNew config s → AreEntries s entries → AreRegistrations (rules_by config) s entries history
    → StandsAfter (after_entries s entries).registrar (rules_by config) history
registers_stand config s entries history new are registrations = entries_stand (rules_by config) entries s [] history new.registers registrations
