-- What holds of the media of a call with the pool that serves it.
use Rattle.std.specs.Prelude.{◌≡◌, ◌≢◌, ◌&&◌, ℕ, Bool, true, List, length, Option, Some, None, IsTrue}
use Rattle.std.specs.List.{list_all}
use Rattle.std.specs.FinMap.{get}
use Rattle.port_pool.specs.Pool.{Contents, AreBareBut, is_port_of}
use Rattle.offer_answer.specs.Alike.{Alike}
use Rattle.offer_answer.specs.Direct.{hold_address}
use Rattle.offer_answer.specs.Joined.{is_at_server}
use Rattle.offer_answer.specs.Rows.{HasRows, are_distinct, is_even}
use Rattle.offer_answer.specs.Session.{leads_by}
use Rattle.call_media.specs.declared.session.Session.{Session}
use Rattle.call_media.specs.declared.session.OpenOffer.{OpenOffer}
use Rattle.call_media.specs.declared.state.CallMedia.{CallMedia}
use Rattle.call_media.specs.Seats.{pairs_of, evens}
use Rattle.call_media.specs.Sessions.{pairs_listed, pairs_of_session}
use Rattle.call_media.specs.Offers.{IsPassedOn}

-- the even port of a pair that the call holds
abbrev pub is_held : ℕ → Contents → ℕ → Bool
is_held number pool even = is_even even && is_port_of pool number even

abbrev pub are_held : ℕ → Contents → List ℕ → Bool
are_held number pool pairs = list_all (is_held number pool) pairs

-- Each end was sent what the other said, except for addresses and ports, which are the server's; the answer has as
-- many media as the offer (RFC 3264 section 6); the pool has the session's rows, over pairs of the call of which each
-- serves one medium and one end.
pub record Stands (ip : List ℕ) (number : ℕ) (pool : Contents) (s : Session) : Type 0 where
  pub held : IsTrue (are_held number pool (pairs_of_session s))
  pub distinct : IsTrue (are_distinct (pairs_of_session s))
  pub listed : evens s.pairs ≡ pairs_of_session s
  pub media : length s.answer_taken.media ≡ length s.offer_sent.media
  pub offers : Alike s.offer_taken s.offer_sent
  pub answers : Alike s.answer_taken s.answer_sent
  pub offer_sent : IsTrue (is_at_server ip s.offer_sent)
  pub answer_sent : IsTrue (is_at_server ip s.answer_sent)
  pub rows : HasRows (leads_by pool.rows) s.offer_taken s.answer_sent s.offer_sent s.answer_taken

abbrev pub StandsIfAny : List ℕ → ℕ → Contents → Option Session → Type 0
StandsIfAny ip number pool None = Unit {0}
StandsIfAny ip number pool (Some s) = Stands ip number pool s

-- an offer that was passed on has pairs of the call
pub record IsOpen (ip : List ℕ) (number : ℕ) (pool : Contents) (o : OpenOffer) : Type 0 where
  pub offer : IsPassedOn ip o
  pub held : IsTrue (are_held number pool (pairs_of o.seats))

abbrev pub OpenIfAny : List ℕ → ℕ → Contents → Option OpenOffer → Type 0
OpenIfAny ip number pool None = Unit {0}
OpenIfAny ip number pool (Some o) = IsOpen ip number pool o

-- the session, if any, holds; an open offer has its pairs, and no other port of the call has a row
pub record Serves (m : CallMedia) (pool : Contents) : Type 0 where
  pub server : m.range.ip ≢ hold_address
  pub session : StandsIfAny m.range.ip m.number pool m.session
  pub offer : OpenIfAny m.range.ip m.number pool m.offer
  pub bare : AreBareBut pool m.number (pairs_listed m.session)

-- The two pools are the same for a call: it has the same pairs, and the same rows at their ports.
pub record SameFor (number : ℕ) (pool after : Contents) : Type 0 where
  pub ports : (port : ℕ) → is_port_of after number port ≡ is_port_of pool number port
  pub rows : (port : ℕ) → is_port_of pool number port ≡ true → get after.rows port ≡ get pool.rows port

-- all calls but this one are spared
abbrev pub SparesOthers : ℕ → Contents → Contents → Type 0
SparesOthers number pool after = (call : ℕ) → call ≢ number → SameFor call pool after
