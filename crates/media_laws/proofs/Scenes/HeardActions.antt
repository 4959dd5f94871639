-- From what actions say, and the messages that their datagrams are, to what a trace hears.
use Rattle.std.proofs.Common.{◌≡◌, ℕ, ◌+◌, List, [], ◌∷◌, ◌++◌, Option, Some, None, refl, ap, sym, subst}
use Rattle.std.specs.Option.{option_copied}
use Rattle.events.specs.declared.sent.Sent.{Sent}
use Rattle.call_core.specs.declared.action.Action.{Action}
use Rattle.call_core.specs.declared.action.Action.TheVariants.{Trying, Offer, Provisional, Ack, Answer, AnswerAgain, Refusal, Okay, Cancel, Bye, PutRows, Release, RemoveRows, Set, Stop, Abandon}
use Rattle.call_messages.specs.declared.scene.Scene.{Scene}
use Rattle.call_messages.specs.Dressing.{dress_one, dressed}
use Rattle.call_trace.specs.declared.datagram.Message.{Message}
use Rattle.call_trace.specs.Listed.{AllOf}
use Rattle.message_laws.specs.Saying.{OneIf, SeesAgain}
use Rattle.message_laws.specs.Said.{IsSaid, SaysAction}
use Rattle.message_laws.specs.Messages.{AreMessages, IsMessage}
use Rattle.media_laws.specs.Heard.{HearsAction, HearsActions, HearsAgain, HearsOne}
use Rattle.media_laws.proofs.Scenes.Reading.{Reading, message_is}

heard : Reading → (sees : Message → Type 0) (d : Sent) (m : Message) → IsMessage d.bytes m → IsSaid sees d → sees m
heard r sees d m is said = subst sees (sym (message_is r d.bytes m said.0 is said.1 said.2)) said.3

heard_again : (again : Option Sent) (d : Sent) (m : Message) → IsMessage d.bytes m → SeesAgain again d → HearsAgain again m
heard_again None d m is h = absurd h
heard_again (Some again) d m is h = subst (λ (x : Sent). IsMessage x.bytes m) h is

hears_action : Reading → (s : Scene) (tokens : ℕ) (action : Action) (d : Sent) (m : Message) → IsMessage d.bytes m → SaysAction s tokens action d → HearsAction s tokens action m
hears_action r s tokens (Trying end) d m is h = heard r (HearsAction s tokens (Trying end)) d m is h
hears_action r s tokens (Offer end method) d m is h = heard r (HearsAction s tokens (Offer end method)) d m is h
hears_action r s tokens (Provisional end status) d m is h = heard r (HearsAction s tokens (Provisional end status)) d m is h
hears_action r s tokens (Ack end) d m is h = heard r (HearsAction s tokens (Ack end)) d m is h
hears_action r s tokens (Answer end) d m is h = heard r (HearsAction s tokens (Answer end)) d m is h
hears_action r s tokens (AnswerAgain end) d m is h = heard_again (option_copied s.again) d m is h
hears_action r s tokens (Refusal end status) d m is h = heard r (HearsAction s tokens (Refusal end status)) d m is h
hears_action r s tokens (Okay end) d m is h = heard r (HearsAction s tokens (Okay end)) d m is h
hears_action r s tokens (Cancel end) d m is h = heard r (HearsAction s tokens (Cancel end)) d m is h
hears_action r s tokens (Bye end) d m is h = heard r (HearsAction s tokens (Bye end)) d m is h
hears_action r s tokens PutRows d m is h = absurd h
hears_action r s tokens Release d m is h = absurd h
hears_action r s tokens RemoveRows d m is h = absurd h
hears_action r s tokens (Set timer after) d m is h = absurd h
hears_action r s tokens (Stop timer) d m is h = absurd h
hears_action r s tokens (Abandon end) d m is h = absurd h

hears_one : Reading → (s : Scene) (tokens : ℕ) (action : Action) (sends : List Sent) (ms : List Message) → AreMessages sends ms → OneIf (SaysAction s tokens action) sends → HearsOne (HearsAction s tokens action) sends ms
hears_one r s tokens action [] [] are h = refl
hears_one r s tokens action [] (m ∷ ms) are h = absurd are
hears_one r s tokens action (d ∷ []) [] are h = absurd are
hears_one r s tokens action (d ∷ []) (m ∷ []) are h = (m, refl, are.0, hears_action r s tokens action d m are.0 h)
hears_one r s tokens action (d ∷ []) (m ∷ n ∷ ms) are h = absurd are.1
hears_one r s tokens action (d ∷ e ∷ sends) ms are h = absurd h

-- ---- messages in a row

pub record Split (xs ys : List Sent) (ms : List Message) : Type 0 where
  pub first : List Message
  pub rest : List Message
  pub whole : ms ≡ first ++ rest
  pub of_first : AreMessages xs first
  pub of_rest : AreMessages ys rest

pub split : (xs ys : List Sent) (ms : List Message) → AreMessages (xs ++ ys) ms → Split xs ys ms
split [] ys ms are = record { first = []; rest = ms; whole = refl; of_first = tt; of_rest = are }
split (d ∷ xs) ys [] are = absurd are
split (d ∷ xs) ys (m ∷ ms) are =
    let s = split xs ys ms are.1 in
    record { first = m ∷ s.first; rest = s.rest; whole = ap (λ l. m ∷ l) s.whole; of_first = (are.0, s.of_first); of_rest = s.of_rest }

-- each of the actions says one message at most
abbrev pub Speak : Scene → List Action → Type 0
Speak s actions = AllOf (λ action. (tokens : ℕ) → OneIf (SaysAction s tokens action) (dress_one s tokens action).sends) actions

pub hears_actions : Reading → (s : Scene) (tokens : ℕ) (actions : List Action) (ms : List Message) → Speak s actions → AreMessages (dressed s tokens actions).sends ms → HearsActions s tokens actions ms
hears_actions r s tokens [] [] speak are = refl
hears_actions r s tokens [] (m ∷ ms) speak are = absurd are
hears_actions r s tokens (action ∷ later) ms speak are =
    let made = tokens + (dress_one s tokens action).made in
    let x = split (dress_one s tokens action).sends (dressed s made later).sends ms are in
    (x.first, x.rest, x.whole, hears_one r s tokens action (dress_one s tokens action).sends x.first x.of_first (speak.0 tokens), hears_actions r s made later x.rest speak.1 x.of_rest)
