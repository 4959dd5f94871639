-- The reason text of each status (RFC 3261 section 21).
use Rattle.std.specs.Prelude.{ℕ, ◌==◌, List, [], ◌∷◌, codes, if◌then◌else◌}

pub record Reason : Type 0 where
  pub status : ℕ
  pub text : List ℕ

-- the texts that the server writes
abbrev pub reasons : List Reason
reasons =
    record { status = 100; text = codes "Trying" } ∷
    record { status = 180; text = codes "Ringing" } ∷
    record { status = 181; text = codes "Call Is Being Forwarded" } ∷
    record { status = 182; text = codes "Queued" } ∷
    record { status = 183; text = codes "Session Progress" } ∷
    record { status = 200; text = codes "OK" } ∷
    record { status = 400; text = codes "Bad Request" } ∷
    record { status = 403; text = codes "Forbidden" } ∷
    record { status = 404; text = codes "Not Found" } ∷
    record { status = 405; text = codes "Method Not Allowed" } ∷
    record { status = 408; text = codes "Request Timeout" } ∷
    record { status = 415; text = codes "Unsupported Media Type" } ∷
    record { status = 420; text = codes "Bad Extension" } ∷
    record { status = 423; text = codes "Interval Too Brief" } ∷
    record { status = 480; text = codes "Temporarily Unavailable" } ∷
    record { status = 481; text = codes "Call/Transaction Does Not Exist" } ∷
    record { status = 482; text = codes "Loop Detected" } ∷
    record { status = 483; text = codes "Too Many Hops" } ∷
    record { status = 486; text = codes "Busy Here" } ∷
    record { status = 487; text = codes "Request Terminated" } ∷
    record { status = 488; text = codes "Not Acceptable Here" } ∷
    record { status = 491; text = codes "Request Pending" } ∷
    record { status = 500; text = codes "Server Internal Error" } ∷
    record { status = 501; text = codes "Not Implemented" } ∷
    record { status = 503; text = codes "Service Unavailable" } ∷
    record { status = 505; text = codes "Version Not Supported" } ∷
    record { status = 600; text = codes "Busy Everywhere" } ∷
    record { status = 603; text = codes "Decline" } ∷
    record { status = 606; text = codes "Not Acceptable" } ∷ []

abbrev pub reason_in : List Reason → ℕ → List ℕ
reason_in [] status = codes "Other"
reason_in (reason ∷ rest) status = if status == reason.status then reason.text else reason_in rest status

-- any other number has the text "Other"
unfoldable pub reason_of : ℕ → List ℕ
reason_of status = reason_in reasons status
