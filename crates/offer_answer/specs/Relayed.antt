-- That a description was sent by a server in place of another.
use Rattle.std.specs.Prelude.{◌≡◌, ◌≢◌, ℕ, List, length, IsTrue}
use Rattle.sdp.specs.declared.description.Description.{Description}
use Rattle.offer_answer.specs.declared.sent_description.ServerOrigin.{ServerOrigin}
use Rattle.offer_answer.specs.Direct.{hold_address}
use Rattle.offer_answer.specs.Readdressing.{readdressed_description, has_ports}

-- with some origin at the server's address and some ports, as `readdress` asks for them
pub record SentBy (server : List ℕ) (taken sent_on : Description) : Type 0 where
  pub origin : ServerOrigin
  pub ports : List ℕ
  pub at_server : origin.ip ≡ server
  pub server_address : server ≢ hold_address
  pub one_each : length ports ≡ length taken.media
  pub not_zero : IsTrue (has_ports ports taken.media)
  pub sent : sent_on ≡ readdressed_description origin ports taken
