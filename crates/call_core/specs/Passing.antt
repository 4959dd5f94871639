-- Refusals that are passed on.
use Rattle.std.specs.Prelude.{ℕ, ◌||◌, ◌&&◌, ◌==◌, nat_lt, if◌then◌else◌}

-- A redirection is not followed: the user can't be reached now. A demand for credentials is one to the server, which
-- has none (RFC 3261 sections 8.1.3.4 and 22).
abbrev pub status_passed_on : ℕ → ℕ
status_passed_on status =
    if nat_lt 299 status && nat_lt status 400 then 480
    else if status == 401 || status == 407 then 500
    else status
