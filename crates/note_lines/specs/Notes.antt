-- The word that begins the line of a note, as docs/OPERATORS.md lists them.
use Rattle.std.specs.Prelude.{◌≡◌, ◌⊎◌, ◌++◌, ℕ, List, [], codes}
use Rattle.call_core.specs.declared.note.CallNote.{CallNote}
use Rattle.call_core.specs.declared.note.CallNote.TheVariants as calls
use Rattle.plans.specs.declared.note.Note.{Note}
use Rattle.plans.specs.declared.note.Note.TheVariants.{Quiet, Call, Refused, Registered, Dropped, Shed}
use Rattle.note_lines.specs.Lines.{Field, line_text, IsLine}

-- for what happened to a call; the descriptions say which of three words an answer inside it has
abbrev pub IsWordOfCall : CallNote → List ℕ → Type 0
IsWordOfCall calls.Begun word = word ≡ codes "call-begun"
IsWordOfCall (calls.Ringing status) word = word ≡ codes "call-ringing"
IsWordOfCall calls.Answered word = word ≡ codes "call-answered"
IsWordOfCall (calls.Refused status) word = word ≡ codes "call-refused"
IsWordOfCall calls.GivenUp word = word ≡ codes "call-cancelled"
IsWordOfCall (calls.Offered end method) word = word ≡ codes "call-offered"
IsWordOfCall calls.Reanswered word = (word ≡ codes "call-held") ⊎ (word ≡ codes "call-resumed") ⊎ (word ≡ codes "call-changed")
IsWordOfCall (calls.OfferRefused status) word = word ≡ codes "call-offer-refused"
IsWordOfCall calls.OfferGivenUp word = word ≡ codes "call-offer-cancelled"
IsWordOfCall (calls.Left end) word = word ≡ codes "call-ended"
IsWordOfCall (calls.Failed status) word = word ≡ codes "call-ended"
IsWordOfCall calls.Unacknowledged word = word ≡ codes "call-ended"
IsWordOfCall calls.Expired word = word ≡ codes "call-ended"

-- for an event
abbrev pub IsWordOf : Note → List ℕ → Type 0
IsWordOf Quiet word = ⊥
IsWordOf (Call note) word = IsWordOfCall note.note word
IsWordOf (Refused reason) word = word ≡ codes "refused"
IsWordOf Registered word = (word ≡ codes "registered") ⊎ (word ≡ codes "unregistered")
IsWordOf (Dropped why) word = word ≡ codes "dropped"
IsWordOf Shed word = word ≡ codes "shed"

-- a line that such a word begins
pub record IsLineOf (IsWord : List ℕ → Type 0) (text : List ℕ) : Type 0 where
  pub word : List ℕ
  pub fields : List Field
  pub named : IsWord word
  pub written : text ≡ line_text word fields
  pub line : IsLine text

-- nothing, or such a line, was appended to what was there
abbrev pub Says : (List ℕ → Type 0) → List ℕ → List ℕ → Type 0
Says IsWord before behind = (text : List ℕ) × ((text ≡ []) ⊎ IsLineOf IsWord text) × (behind ≡ before ++ text)
