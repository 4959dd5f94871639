-- What the server sends on, with the rows of the session, means what the two ends said.
use Rattle.std.proofs.Common.{◌≡◌, ◌∙◌, ℕ, true, List, sym, ap, subst}
use Rattle.offer_answer.specs.Alike.{Alike}
use Rattle.std.specs.List.{list_all}
use Rattle.sdp.specs.declared.description.Description.{Description}
use Rattle.offer_answer.specs.declared.sent_description.ServerOrigin.{ServerOrigin}
use Rattle.offer_answer.specs.Direct.{direct}
use Rattle.offer_answer.specs.Joined.{is_at_server, joined}
use Rattle.offer_answer.specs.Readdressing.{readdressed_description}
use Rattle.offer_answer.specs.Rows.{are_distinct, is_even, pairs_named, rows_of, table_of}
use Rattle.offer_answer.specs.Relayed.{SentBy}
use Rattle.offer_answer.proofs.Joining.{joined_is_direct}
use Rattle.offer_answer.proofs.PairLaws.{rows_lead}
use Rattle.offer_answer.proofs.ReaddressLaws.{readdressed_alike, readdressed_at_server}

at_server : (server : List ℕ) (origin : ServerOrigin) (ports : List ℕ) (d : Description) → origin.ip ≡ server → is_at_server server (readdressed_description origin ports d) ≡ true
at_server server origin ports d same = ap (λ ip. is_at_server ip (readdressed_description origin ports d)) (sym same) ∙ readdressed_at_server origin ports d

pub relayed_is_direct : (server : List ℕ) (offer answer offer_sent answer_sent : Description) → SentBy server offer offer_sent → SentBy server answer answer_sent
    → list_all is_even (pairs_named offer answer_sent offer_sent answer) ≡ true → are_distinct (pairs_named offer answer_sent offer_sent answer) ≡ true
    → joined server (table_of (rows_of offer answer_sent offer_sent answer)) offer answer_sent offer_sent answer ≡ direct offer answer
relayed_is_direct server offer answer offer_sent answer_sent out back evens distinct =
    joined_is_direct server (table_of (rows_of offer answer_sent offer_sent answer)) offer answer_sent offer_sent answer
    (alike offer offer_sent out) (alike answer answer_sent back) (own answer answer_sent back) (own offer offer_sent out)
    (rows_lead offer answer_sent offer_sent answer evens distinct)
  where
    alike : (d e : Description) → SentBy server d e → Alike d e
    alike d e s = subst (λ (sent : Description). Alike d sent) (sym s.sent) (readdressed_alike s.origin s.ports d s.one_each s.not_zero (λ h. s.server_address (sym s.at_server ∙ h)))

    own : (d e : Description) → SentBy server d e → is_at_server server e ≡ true
    own d e s = ap (λ sent. is_at_server server sent) s.sent ∙ at_server server s.origin s.ports d s.at_server
