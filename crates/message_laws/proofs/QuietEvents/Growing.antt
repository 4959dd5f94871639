-- What was made stays made.
use Rattle.std.proofs.Common.{ℕ, ◌≤◌, List, [], ◌∷◌, ◌++◌, Option, Some, None, arith}
use Rattle.std.specs.List.{All}
use Rattle.std.proofs.lemmas.List.Elements.{All-weaker}
use Rattle.sip_message.specs.declared.message.Parts.{Parts}
use Rattle.transactions.specs.declared.change.Entry.{Entry}
use Rattle.transactions.specs.declared.change.Entry.TheVariants.{Opens, Tells, Answers, Leaves}
use Rattle.transactions.specs.declared.transaction.Transaction.{Transaction}
use Rattle.calls.specs.declared.standing_call.StandingCall.{StandingCall}
use Rattle.message_laws.specs.Entries.{EnterOwn, EntersOwn}
use Rattle.message_laws.specs.Knowing.{HasMadeTags, KnowsCalls}
use Rattle.message_laws.specs.Tokens.{IsMade, IsMadeBranch, IsOwn, IsOwnIf, IsOwnRequest}

pub made_more : (n m : ℕ) (text : List ℕ) → n ≤ m → IsMade n text → IsMade m text
made_more n m text le h = record { salt = h.salt; count = h.count; early = omega (arith, le, h.early); said = h.said }

pub branch_more : (n m : ℕ) (branch : Option (List ℕ)) → n ≤ m → IsMadeBranch n branch → IsMadeBranch m branch
branch_more n m branch le h = record { salt = h.salt; count = h.count; early = omega (arith, le, h.early); said = h.said }

pub request_more : (n m : ℕ) (parts : Parts) → n ≤ m → IsOwnRequest n parts → IsOwnRequest m parts
request_more n m parts le h = record { branch = branch_more n m _ le h.branch; tag = made_more n m _ le h.tag }

pub own_more : (n m : ℕ) (t : Transaction) → n ≤ m → IsOwn n t → IsOwn m t
own_more n m t le h = λ client. request_more n m t.parts le (h client)

pub own_if_more : (n m : ℕ) (t : Option Transaction) → n ≤ m → IsOwnIf n t → IsOwnIf m t
own_if_more n m None le h = h
own_if_more n m (Some t) le h = own_more n m t le h

pub slots_more : (n m : ℕ) (slots : List (Option Transaction)) → n ≤ m → All (IsOwnIf n) slots → All (IsOwnIf m) slots
slots_more n m slots le all = All-weaker (IsOwnIf n) (IsOwnIf m) (λ t. own_if_more n m t le) slots all

pub tags_more : (n m : ℕ) (c : StandingCall) → n ≤ m → HasMadeTags n c → HasMadeTags m c
tags_more n m c le h = record { caller = made_more n m _ le h.caller; callee = made_more n m _ le h.callee; leg = h.leg }

tags_of_more : (n m : ℕ) (calls : List StandingCall) → n ≤ m → All (HasMadeTags n) calls → All (HasMadeTags m) calls
tags_of_more n m calls le all = All-weaker (HasMadeTags n) (HasMadeTags m) (λ c. tags_more n m c le) calls all

pub calls_more : (n m : ℕ) (calls : List StandingCall) → n ≤ m → KnowsCalls n calls → KnowsCalls m calls
calls_more n m calls le k = record { tags = tags_of_more n m calls le k.tags; apart = k.apart }

-- ---- entries

pub entry_more : (n m : ℕ) (change : Entry) → n ≤ m → EntersOwn n change → EntersOwn m change
entry_more n m (Opens t starts) le h = own_more n m t le h
entry_more n m (Tells id input fresh) le h = h
entry_more n m (Answers id class bytes) le h = h
entry_more n m Leaves le h = h

pub entries_more : (n m : ℕ) (changes : List Entry) → n ≤ m → EnterOwn n changes → EnterOwn m changes
entries_more n m [] le h = h
entries_more n m (change ∷ changes) le h = (entry_more n m change le h.0, entries_more n m changes le h.1)

pub entries_append : (n : ℕ) (xs ys : List Entry) → EnterOwn n xs → EnterOwn n ys → EnterOwn n (xs ++ ys)
entries_append n [] ys h k = k
entries_append n (x ∷ xs) ys h k = (h.0, entries_append n xs ys h.1 k)
