-- The requests of the server's own that begin in a step are sent in it, in their order.
use Rattle.std.proofs.Common.{◌≡◌, ◌∙◌, ℕ, ◌+◌, Bool, true, false, not, cond, List, [], ◌∷◌, ◌++◌, find, Option, Some, None, refl, ap, sym, subst, inl, inr}
use Rattle.std.proofs.lemmas.List.{append-nil}
use Rattle.events.specs.declared.sent.Sent.{Sent}
use Rattle.transaction_machines.specs.Machines.{is_server}
use Rattle.transactions.specs.declared.change.Entry.{Entry}
use Rattle.transactions.specs.declared.change.Entry.TheVariants.{Opens, Tells, Answers, Leaves}
use Rattle.transactions.specs.declared.transaction.Transaction.{Transaction}
use Rattle.call_core.specs.declared.action.Action.{Action}
use Rattle.call_messages.specs.declared.scene.Scene.{Scene}
use Rattle.call_messages.specs.Dressing.{dress_one, dressed}
use Rattle.call_steps.specs.Messages.{given_up, is_abandon, messages}
use Rattle.call_steps.specs.Values.{SceneValue, lent_scene}
use Rattle.message_laws.specs.Numbers.{GoInOrder, is_own, own_of}
use Rattle.message_laws.specs.Sending.{WasSent}
use Rattle.message_laws.proofs.AwaitedOffers.Once.{NoneOwn}
use Rattle.message_laws.proofs.Messages.KeptSends.{BytesWereSaid, EntriesWereSaid}
use Rattle.message_laws.proofs.Messages.SendSteps.{one_said}

-- changes, and what is sent with them
abbrev pub AreSent : List Entry → List Sent → Type 0
AreSent changes sends = GoInOrder (own_of changes) sends

-- ---- lists

go_later : (own : List Transaction) (xs ys : List Sent) → GoInOrder own ys → GoInOrder own (xs ++ ys)
go_later own [] ys h = h
go_later [] (d ∷ xs) ys h = tt
go_later (t ∷ own) (d ∷ xs) ys h = inr (go_later (t ∷ own) xs ys h)

go_then : (own more : List Transaction) (xs ys : List Sent) → GoInOrder own xs → GoInOrder more ys → GoInOrder (own ++ more) (xs ++ ys)
go_then [] more xs ys h k = go_later more xs ys k
go_then (t ∷ own) more [] ys h k = absurd h
go_then (t ∷ own) more (d ∷ xs) ys (inl h) k = inl (h.0, go_then own more xs ys h.1 k)
go_then (t ∷ own) more (d ∷ xs) ys (inr h) k = inr (go_then (t ∷ own) more xs ys h k)

own_if : (b : Bool) (t : Transaction) (all xs ys : List Transaction) → all ≡ xs ++ ys → cond b (t ∷ all) all ≡ cond b (t ∷ xs) xs ++ ys
own_if true t all xs ys e = ap (λ zs. t ∷ zs) e
own_if false t all xs ys e = e

own_append : (xs ys : List Entry) → own_of (xs ++ ys) ≡ own_of xs ++ own_of ys
own_append [] ys = refl
own_append (Opens t starts ∷ xs) ys = own_if (is_own t) t (own_of (xs ++ ys)) (own_of xs) (own_of ys) (own_append xs ys)
own_append (Tells id input fresh ∷ xs) ys = own_append xs ys
own_append (Answers id class bytes ∷ xs) ys = own_append xs ys
own_append (Leaves ∷ xs) ys = own_append xs ys

sent_then : (xs ys : List Entry) (sends later : List Sent) → AreSent xs sends → AreSent ys later → AreSent (xs ++ ys) (sends ++ later)
sent_then xs ys sends later h k = subst (λ own. GoInOrder own (sends ++ later)) (sym (own_append xs ys)) (go_then (own_of xs) (own_of ys) sends later h k)

-- changes that begin none of the server's own
none_if : (b : Bool) (t : Transaction) (own : List Transaction) (sends : List Sent) → (b ≡ true → ⊥) → GoInOrder own sends → GoInOrder (cond b (t ∷ own) own) sends
none_if true t own sends none h = absurd (none refl)
none_if false t own sends none h = h

own_client : (b : Bool) → not b ≡ true → b ≡ false
own_client true e = sym e
own_client false e = refl

pub none_sent : (changes : List Entry) (sends : List Sent) → NoneOwn changes → AreSent changes sends
none_sent [] sends none = tt
none_sent (Opens t starts ∷ changes) sends none =
    none_if (is_own t) t (own_of changes) sends (λ own. none t (inl refl) (own_client (is_server t.state) own)) (none_sent changes sends (λ u opens. none u (inr opens)))
none_sent (Tells id input fresh ∷ changes) sends none = none_sent changes sends none
none_sent (Answers id class bytes ∷ changes) sends none = none_sent changes sends none
none_sent (Leaves ∷ changes) sends none = none_sent changes sends none

pub behind_none : (begun changes : List Entry) (first sends : List Sent) → NoneOwn begun → AreSent changes sends → AreSent (begun ++ changes) (first ++ sends)
behind_none begun changes first sends none h = sent_then begun changes first sends (none_sent begun first none) h

-- ---- the messages of a step

goes_at : (t : Transaction) (sends : List Sent) (bytes : List ℕ) → t.last ≡ Some bytes → WasSent sends bytes → GoInOrder (t ∷ []) sends
goes_at t [] bytes is h = absurd h
goes_at t (d ∷ sends) bytes is (inl e) = inl (is ∙ ap Some (sym e), tt)
goes_at t (d ∷ sends) bytes is (inr h) = inr (goes_at t sends bytes is h)

goes_with : (t : Transaction) (sends : List Sent) (last : Option (List ℕ)) → t.last ≡ last → BytesWereSaid sends last → GoInOrder (t ∷ []) sends
goes_with t sends None is h = absurd h
goes_with t sends (Some bytes) is h = goes_at t sends bytes is h

goes_if : (t : Transaction) (sends : List Sent) (b : Bool) → BytesWereSaid sends t.last → GoInOrder (cond b (t ∷ []) []) sends
goes_if t sends true h = goes_with t sends t.last refl h
goes_if t sends false h = tt

said_sent : (changes : List Entry) (sends : List Sent) → EntriesWereSaid sends changes → AreSent changes sends
said_sent [] sends h = tt
said_sent (Opens t starts ∷ []) sends h = goes_if t sends (is_own t) h
said_sent (Tells id input fresh ∷ []) sends h = tt
said_sent (Answers id class bytes ∷ []) sends h = tt
said_sent (Leaves ∷ []) sends h = tt
said_sent (change ∷ other ∷ changes) sends h = absurd h

dressed_sent : (s : Scene) (n : ℕ) (actions : List Action) → AreSent (dressed s n actions).changes (dressed s n actions).sends
dressed_sent s n [] = tt
dressed_sent s n (action ∷ later) =
    let one = dress_one s n action in
    let rest = dressed s (n + one.made) later in
    sent_then one.changes rest.changes one.sends rest.sends (said_sent one.changes one.sends (one_said s n action)) (dressed_sent s (n + one.made) later)

given_up_sent : (id : Option ℕ) (action : Option Action) → AreSent (given_up id action) []
given_up_sent None action = tt
given_up_sent (Some id) None = tt
given_up_sent (Some id) (Some action) = tt

pub messages_sent : (s : SceneValue) (passed : Option ℕ) (actions : List Action) → AreSent (messages s passed actions).dressed.changes (messages s passed actions).dressed.sends
unfolding messages
messages_sent s passed actions =
    let d = dressed (lent_scene s) s.tokens actions in
    let last = given_up passed (find is_abandon actions) in
    subst (AreSent (d.changes ++ last)) (append-nil d.sends) (sent_then d.changes last d.sends [] (dressed_sent (lent_scene s) s.tokens actions) (given_up_sent passed (find is_abandon actions)))
