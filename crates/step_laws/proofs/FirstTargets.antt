-- Where a first INVITE goes: what its callee is bound to, by the REGISTERs that came.
use Rattle.std.proofs.Common.{◌≡◌, ◌∙◌, ℕ, List, Option, Some, None, ap, refl, subst, sym}
use Rattle.std.proofs.lemmas.Option.{none-some}
use Rattle.sip_uri.specs.declared.uri.Uri.{Uri}
use Rattle.sip_message.specs.declared.message.Request.{Request}
use Rattle.sdp.specs.declared.description.Description.{Description}
use Rattle.configuration.specs.declared.config.Config.{Config}
use Rattle.events.specs.declared.event.Event.{Event}
use Rattle.event_rows.specs.State.{Contents, IsNew, moment_at, office, rules_by}
use Rattle.event_rows.specs.Trace.{AreEntries, Entry, after_entries}
use Rattle.event_rows.specs.Rules.{target, target_by}
use Rattle.event_rows.proofs.RuleLaws.{WasFound, request_found}
use Rattle.registrar.specs.Bound.{Event as RegistrarEvent, bound, target_of}
use Rattle.registrar.specs.Registering.{Rules, present, user_of}
use Rattle.registrar.specs.Registrar.{StandsAfter, bindings_at}
use Rattle.registrar.proofs.FoldLaws.{same_user}
use Rattle.step_laws.specs.Offers.{IsBoundTo, IsFirstCall}
use Rattle.step_laws.specs.Registering.{AreRegistrations}
use Rattle.step_laws.proofs.Counting.{registers_stand}

-- the rule by which its call begins says where the callee is bound
pub first_found : (s : Contents) (now : ℕ) (r : Request) (to : Uri) (offer : Description) → IsFirstCall s now r to offer → target (office s) r now ≡ Some to
first_found s now r to offer h = (subst (WasFound (office s) r now) h.rule (request_found (office s) r now)).0

module _ (s : Contents) (rules : Rules) (history : List RegistrarEvent) (stands : StandsAfter s.registrar rules history) where
  same_bindings : (user : List ℕ) (now : ℕ) → bindings_at s.registrar user now ≡ bound rules user history now
  unfolding bindings_at bound
  same_bindings user now = ap (present now) (stands.each user)

  bound_by : (r : Request) (now : ℕ) (to : Uri) (named : Option (List ℕ)) → user_of rules r.uri ≡ named → target_by (office s) now named ≡ Some to → IsBoundTo rules history r now to
  bound_by r now to None named is = absurd (none-some to is)
  bound_by r now to (Some user) named is = record { user = user; named = named; last = sym (ap target_of (same_bindings user now)) ∙ is }

  pub first_bound : (event : Event) (r : Request) (to : Uri) (offer : Description) → IsFirstCall s (moment_at s event.now) r to offer → IsBoundTo rules history r (moment_at s event.now) to
  first_bound event r to offer h =
      bound_by r (moment_at s event.now) to (user_of rules r.uri) refl (ap (target_by (office s) (moment_at s event.now)) (sym (ap (λ rs. user_of rs r.uri) stands.rules_are ∙ same_user rules history r.uri)) ∙ first_found s (moment_at s event.now) r to offer h)

pub agents_bound : (config : Config) (s : Contents) (entries : List Entry) (history : List RegistrarEvent) → IsNew config s → AreEntries s entries → AreRegistrations (rules_by config) s entries history → (event : Event) (r : Request) (to : Uri) (offer : Description)
    → IsFirstCall (after_entries s entries) (moment_at (after_entries s entries) event.now) r to offer → IsBoundTo (rules_by config) history r (moment_at (after_entries s entries) event.now) to
agents_bound config s entries history new are registrations = first_bound (after_entries s entries) (rules_by config) history (registers_stand config s entries history new are registrations)
