-- What a request asks for, by its head (RFC 9112 sections 2 and 3).
use Rattle.std.specs.Prelude.{◌≡◌, ◌⊎◌, ◌<◌, ◌≤◌, ℕ, nat_eq, nat_le, Bool, List, length, codes, Option, Some, None, if◌then◌else◌}
use Rattle.std.specs.Cmp.Lexicographic.{pointwise}
use Rattle.text.specs.Cut.{before}
use Rattle.httparse.specs.Grammar.{HasNoRequest, MayBecomeRequest, NeverHasRequest, ReadsRequest, RequestHead, print_request}
use Rattle.httparse.specs.Spans.{RequestExceeds}
use Rattle.page_server.specs.declared.head.Head.{Head}
use Rattle.page_server.specs.declared.head.Head.TheVariants.{Incomplete, Asked, Refused}
use Rattle.page_server.specs.declared.path.Path.{Path}
use Rattle.page_server.specs.declared.path.Path.TheVariants.{Page, Json, Metrics}
use Rattle.page_server.specs.declared.refusal.Refusal.TheVariants.{BadRequest, NotFound, MethodNotAllowed, RequestTimeout, HeadTooLarge, ServiceUnavailable}

-- the maximum length of a head in bytes, and below it, the maximum number of header fields
abbrev pub max_head : ℕ
max_head = 8192

abbrev pub max_fields : ℕ
max_fields = 64

abbrev pub path_named : List ℕ → Option Path
path_named text =
    if pointwise nat_eq text (codes "/") then Some Page
    else if pointwise nat_eq text (codes "/status.json") then Some Json
    else if pointwise nat_eq text (codes "/metrics") then Some Metrics
    else None

-- a target's query, after the first `?`, is ignored
abbrev pub path_of : List ℕ → Option Path
path_of target = path_named (before 63 target)

abbrev pub asked_for : Bool → Option Path → Head
asked_for is_get None = Refused NotFound
asked_for is_get (Some path) = if is_get then Asked path else Refused MethodNotAllowed

-- a path that is served, with GET only
abbrev pub asked_by : List ℕ → List ℕ → Head
asked_by method target = asked_for (pointwise nat_eq method (codes "GET")) (path_of target)

-- what a whole head asks for, if it is not too long
abbrev pub answer_to : RequestHead → Head
answer_to h = if nat_le (length (print_request h)) max_head then asked_by h.method h.target else Refused HeadTooLarge

-- the bytes begin with a head that asks for this
abbrev pub IsAnsweredBy : List ℕ → Head → Type 0
IsAnsweredBy bytes found = (h : RequestHead) × (rest : List ℕ) × ReadsRequest bytes h rest × (found ≡ answer_to h)

-- no head has come whole, but one may, within the maximum length
pub record IsUnfinished (bytes : List ℕ) : Type 0 where
  pub none : HasNoRequest bytes
  pub may_become : MayBecomeRequest bytes
  pub within : length bytes < max_head

-- a head is too long, or has too many fields, or the maximum length has come and no head is whole
abbrev pub IsTooLarge : List ℕ → Type 0
IsTooLarge bytes =
    ((h : RequestHead) × (rest : List ℕ) × ReadsRequest bytes h rest × (max_head < length (print_request h)))
    ⊎ (RequestExceeds max_fields bytes ⊎ (HasNoRequest bytes × (max_head ≤ length bytes)))

-- why this is known of a request
abbrev pub Says : List ℕ → Head → Type 0
Says bytes Incomplete = IsUnfinished bytes
Says bytes (Asked path) = IsAnsweredBy bytes (Asked path)
Says bytes (Refused BadRequest) = NeverHasRequest bytes
Says bytes (Refused NotFound) = IsAnsweredBy bytes (Refused NotFound)
Says bytes (Refused MethodNotAllowed) = IsAnsweredBy bytes (Refused MethodNotAllowed)
Says bytes (Refused HeadTooLarge) = IsTooLarge bytes
Says bytes (Refused RequestTimeout) = ⊥
Says bytes (Refused ServiceUnavailable) = ⊥

-- of a whole head with at most as many fields as are read, what it asks for is known
pub record IsHeadOf (bytes : List ℕ) (found : Head) : Type 0 where
  pub whole : (h : RequestHead) (rest : List ℕ) → ReadsRequest bytes h rest → length h.fields ≤ max_fields → found ≡ answer_to h
  pub says : Says bytes found
