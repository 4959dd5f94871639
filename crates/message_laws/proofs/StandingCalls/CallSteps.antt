-- What each input of a call leaves served: its own media and pool, and the pairs and rows of all others.
use Rattle.std.proofs.Common.{◌≡◌, ◌∙◌, ℕ, true, false, cond, Option, Some, None, is_some, is_none, refl, sym, ap}
use Rattle.std.proofs.lemmas.Bool.{false≢true}
use Rattle.port_pool.specs.Pool.{Contents, IsPool}
use Rattle.sdp.specs.declared.description.Description.{Description}
use Rattle.offer_answer.specs.declared.range.OwnRange.{OwnRange}
use Rattle.offer_answer.specs.declared.fault.AnswerFault.{AnswerFault}
use Rattle.offer_answer.specs.Checks.{answer_fault}
use Rattle.call_media.specs.declared.end.End.{End}
use Rattle.call_media.specs.declared.end.End.TheVariants.{Caller}
use Rattle.call_media.specs.declared.session.OpenOffer.{OpenOffer}
use Rattle.call_media.specs.Offers.{HasPairs}
use Rattle.call_media.specs.Serving.{Serves}
use Rattle.call_core.specs.declared.call.Call.{Call}
use Rattle.call_core.specs.declared.input.Input.{Input}
use Rattle.call_core.specs.declared.input.Input.TheVariants as inputs
use Rattle.call_core.specs.declared.row.Row.{Row}
use Rattle.call_core.specs.declared.signal.OfferMethod.{OfferMethod}
use Rattle.call_core.specs.declared.signal.Signal.{Signal}
use Rattle.call_core.specs.declared.signal.Signal.TheVariants as signals
use Rattle.call_core.specs.declared.stage.Standing.{Standing}
use Rattle.call_core.specs.CallRows.{answer_at, answer_step, at_line, call_row, end_step, first_call_row, fit_at, is_fit, kept_step, offer_at, offer_step, release_step, signal_at, signal_step, step_at, step_in, unchanged}
use Rattle.call_core.specs.Calls.{IsServed, awaits_answer, has_session, holds_in}
use Rattle.call_core.specs.Plans.{AnswersOn, IfLine, IsLine, LeadsOn, OffersOn, Step, ends_media, is_plain, releases}
use Rattle.call_core.specs.Table.{row_of}
use Rattle.message_laws.proofs.Messages.RequestViews.{by_if}
use Rattle.message_laws.specs.Serving.{IsServedAsAsked, IsStaged}
use Rattle.call_core.proofs.TableLaws.{answer_leads, offer_leads, plain_leads}
use Rattle.message_laws.proofs.StandingCalls.MediaSteps.{Goes, HaveRows, Once, answered, kept, offered, over, released}
use Rattle.call_media.proofs.ServeLaws.{Owns}

-- ---- what is known of a call before a step, and after it

pub record IsAsked (server : OwnRange) (c : Call) (pool : Contents) : Type 0 where
  pub served : IsServed c pool
  pub asked : IsServedAsAsked server pool c.media

pub record GoesOn (server : OwnRange) (c : Call) (before : Contents) (x : Step) : Type 0 where
  pub number : x.call.number ≡ c.number
  pub media_number : x.call.media.number ≡ c.media.number
  pub goes : Goes server c.media before x.call.media x.pool
  pub staged : IsStaged x.call

-- enough pairs are free for an offer
abbrev pub HasPairsFor : Call → Contents → ℕ → Input → Type 0
HasPairsFor c pool now (inputs.Offer x method None) = Unit {0}
HasPairsFor c pool now (inputs.Offer x method (Some offer)) = HasPairs c.media pool x offer now
HasPairsFor c pool now (inputs.Provisional status) = Unit {0}
HasPairsFor c pool now (inputs.Answer answer) = Unit {0}
HasPairsFor c pool now (inputs.Refusal status) = Unit {0}
HasPairsFor c pool now inputs.TimedOut = Unit {0}
HasPairsFor c pool now inputs.Ack = Unit {0}
HasPairsFor c pool now inputs.Cancel = Unit {0}
HasPairsFor c pool now (inputs.Bye end) = Unit {0}
HasPairsFor c pool now inputs.Limit = Unit {0}
HasPairsFor c pool now inputs.Repeat = Unit {0}
HasPairsFor c pool now inputs.Wait = Unit {0}
HasPairsFor c pool now inputs.Lifetime = Unit {0}

pub none_there : {X : Type 0} (o : Option X) → is_some o ≡ false → o ≡ None
none_there None e = refl
none_there (Some x) e = absurd (false≢true (sym e))

no_fault : (fault : Option AnswerFault) → is_none fault ≡ true → fault ≡ None
no_fault None e = refl
no_fault (Some fault) e = absurd (false≢true e)

module _ (own : Owns) (once : Once) (have : HaveRows) (server : OwnRange) (c : Call) (pool : Contents) (is : IsPool pool) (known : IsAsked server c pool) (now : ℕ) where
  abbrev serves : Serves c.media pool
  serves = known.served.media

  unchanged_goes : GoesOn server c pool (unchanged c pool)
  unchanged_goes = record {
    number = refl;
    media_number = refl;
    goes = kept own once have server c.media pool is known.served.media known.asked;
    staged = record { session = known.served.session; offer = known.served.offer };
  }

  -- ---- where the call has a standing

  module _ (s : Standing) (stands : c.standing ≡ Some s) where
    offer_staged : is_some c.media.offer ≡ awaits_answer s.stage
    offer_staged = known.served.offer ∙ ap (holds_in awaits_answer) stands

    session_staged : is_some c.media.session ≡ has_session s.stage
    session_staged = known.served.session ∙ ap (holds_in has_session) stands

    kept_goes : (row : Row) → LeadsOn s.stage row → ends_media row ≡ false → releases row ≡ false → GoesOn server c pool (kept_step c pool row)
    kept_goes row leads b d = record {
      number = refl;
      media_number = refl;
      goes = kept own once have server c.media pool is known.served.media known.asked;
      staged = record { session = session_staged ∙ sym (rw b at leads.session); offer = offer_staged ∙ sym (rw (b, d) at leads.offer) };
    }

    release_goes : (row : Row) → LeadsOn s.stage row → ends_media row ≡ false → releases row ≡ true → GoesOn server c pool (release_step c pool now row)
    release_goes row leads b d = record {
      number = refl;
      media_number = refl;
      goes = released own once have server c.media pool is known.served.media known.asked now;
      staged = record { session = session_staged ∙ sym (rw b at leads.session); offer = sym (rw (b, d) at leads.offer) };
    }

    end_goes : (row : Row) → LeadsOn s.stage row → ends_media row ≡ true → GoesOn server c pool (end_step c pool now row)
    end_goes row leads b = record {
      number = refl;
      media_number = refl;
      goes = over own once have server c.media pool is known.served.media known.asked now;
      staged = record { session = sym (rw b at leads.session); offer = sym (rw b at leads.offer) };
    }

    signal_goes : (row : Row) → LeadsOn s.stage row → GoesOn server c pool (signal_step c pool now row)
    signal_goes row leads =
        by_if (GoesOn server c pool) (ends_media row) (end_step c pool now row) (cond (releases row) (release_step c pool now row) (kept_step c pool row)) (λ b. end_goes row leads b)
        (λ b. by_if (GoesOn server c pool) (releases row) (release_step c pool now row) (kept_step c pool row) (λ d. release_goes row leads b d) (λ d. kept_goes row leads b d))

    offer_goes : (x : End) (offer : Description) (row : Row) → HasPairs c.media pool x offer now → OffersOn s.stage row → GoesOn server c pool (offer_step c pool now x offer row)
    offer_goes x offer row enough leads = record {
      number = refl;
      media_number = refl;
      goes = offered own once have server c.media pool is known.served.media known.asked x offer now (none_there c.media.offer (offer_staged ∙ leads.settled)) enough;
      staged = record { session = session_staged ∙ sym leads.session; offer = sym leads.offer };
    }

    answer_goes : (o : OpenOffer) (answer : Description) (row : Row) → c.media.offer ≡ Some o → answer_fault c.media.range o.offer_sent answer ≡ None → AnswersOn row
        → GoesOn server c pool (answer_step c pool now o answer row)
    answer_goes o answer row there fits leads = record {
      number = refl;
      media_number = refl;
      goes = answered own once have server c.media pool is known.served.media known.asked o answer now there fits;
      staged = record { session = sym leads.session; offer = sym leads.offer };
    }

    if_line : (P : Row → Type 0) (step : Row → Step) (row : Option Row) → IfLine P row → ((r : Row) → P r → GoesOn server c pool (step r)) → GoesOn server c pool (at_line c pool step row)
    if_line P step None leads each = unchanged_goes
    if_line P step (Some row) leads each = each row leads

    is_line : (P : Row → Type 0) (step : Row → Step) (row : Option Row) → IsLine P row → ((r : Row) → P r → GoesOn server c pool (step r)) → GoesOn server c pool (at_line c pool step row)
    is_line P step None leads each = absurd leads
    is_line P step (Some row) leads each = each row leads

    at_signal : (signal : Signal) → is_plain signal ≡ true → GoesOn server c pool (signal_at c s signal pool now)
    at_signal signal plain = if_line (LeadsOn s.stage) (signal_step c pool now) (row_of s signal) (plain_leads s signal plain) signal_goes

    at_offer : (x : End) (method : OfferMethod) (offer : Option Description) → HasPairsFor c pool now (inputs.Offer x method offer)
        → GoesOn server c pool (offer_at c s (signals.Offer x method) x offer pool now)
    at_offer x method None enough = unchanged_goes
    at_offer x method (Some offer) enough =
        if_line (OffersOn s.stage) (offer_step c pool now x offer) (row_of s (signals.Offer x method)) (offer_leads s x method) (λ row leads. offer_goes x offer row enough leads)

    at_fit : (o : Option OpenOffer) (answer : Option Description) → c.media.offer ≡ o → is_fit c o answer ≡ true → GoesOn server c pool (fit_at c s o answer pool now)
    at_fit None answer there fit = unchanged_goes
    at_fit (Some o) None there fit = unchanged_goes
    at_fit (Some o) (Some answer) there fit =
        let open_staged : awaits_answer s.stage ≡ true = sym offer_staged ∙ ap is_some there in
        is_line AnswersOn (answer_step c pool now o answer) (row_of s signals.FitAnswer) (answer_leads s open_staged)
        (λ row leads. answer_goes o answer row there (no_fault (answer_fault c.media.range o.offer_sent answer) fit) leads)

    at_answer : (answer : Option Description) → GoesOn server c pool (answer_at c s answer pool now)
    at_answer answer =
        by_if (GoesOn server c pool) (is_fit c c.media.offer answer) (fit_at c s c.media.offer answer pool now) (signal_at c s signals.UnfitAnswer pool now) (λ b. at_fit c.media.offer answer refl b)
        (λ b. at_signal signals.UnfitAnswer refl)

    at_input : (input : Input) → HasPairsFor c pool now input → GoesOn server c pool (step_at c s input pool now)
    at_input (inputs.Offer x method offer) enough = at_offer x method offer enough
    at_input (inputs.Provisional status) enough = at_signal (signals.Provisional status) refl
    at_input (inputs.Answer answer) enough = at_answer answer
    at_input (inputs.Refusal status) enough = at_signal (signals.Refusal status) refl
    at_input inputs.TimedOut enough = at_signal signals.TimedOut refl
    at_input inputs.Ack enough = at_signal signals.Ack refl
    at_input inputs.Cancel enough = at_signal signals.Cancel refl
    at_input (inputs.Bye end) enough = at_signal (signals.Bye end) refl
    at_input inputs.Limit enough = at_signal signals.Limit refl
    at_input inputs.Repeat enough = at_signal signals.Repeat refl
    at_input inputs.Wait enough = at_signal signals.Wait refl
    at_input inputs.Lifetime enough = at_signal signals.Lifetime refl

  in_input : (s : Option Standing) (input : Input) → c.standing ≡ s → HasPairsFor c pool now input → GoesOn server c pool (step_in c s input pool now)
  in_input None input stands enough = unchanged_goes
  in_input (Some s) input stands enough = at_input s stands input enough

  pub call_goes : (input : Input) → HasPairsFor c pool now input → GoesOn server c pool (call_row c input pool now)
  unfolding call_row
  call_goes input enough = in_input c.standing input refl enough

  pub first_goes : (offer : Description) → c.media.offer ≡ None → c.media.session ≡ None → HasPairs c.media pool Caller offer now → GoesOn server c pool (first_call_row c offer pool now)
  unfolding first_call_row
  first_goes offer settled bare enough = record {
    number = refl;
    media_number = refl;
    goes = offered own once have server c.media pool is known.served.media known.asked Caller offer now settled enough;
    staged = record { session = ap is_some bare; offer = refl };
  }

-- ---- a call is served after its step

pub served_after : (server : OwnRange) (c : Call) (pool : Contents) (x : Step) → IsAsked server c pool → GoesOn server c pool x → IsAsked server x.call x.pool
served_after server c pool x known h = record {
  served = record { number = h.media_number ∙ known.served.number ∙ sym h.number; media = h.goes.serves; offer = h.staged.offer; session = h.staged.session };
  asked = h.goes.asked;
}
