-- The descriptions that a call keeps after an input, and the one that it sends.
use Rattle.std.proofs.Common.{◌≡◌, ℕ, ◌<◌, ◌^◌, ◌≤◌, cond, List, map, Option, Some, None, refl, sym, subst, arith}
use Rattle.std.specs.Prelude.{slice_index}
use Rattle.port_pool.specs.Pool.{Contents, with_changes}
use Rattle.sdp.specs.declared.description.Description.{Description}
use Rattle.offer_answer.specs.Readdressing.{AreOfTheirSizes}
use Rattle.call_media.specs.declared.end.End.{End}
use Rattle.call_media.specs.declared.end.End.TheVariants.{Caller, Callee}
use Rattle.call_media.specs.declared.session.OpenOffer.{OpenOffer}
use Rattle.call_media.specs.declared.state.CallMedia.{CallMedia}
use Rattle.call_media.specs.declared.versions.Versions.{Versions}
use Rattle.call_media.specs.Answers.{answer_sent, changes_to, session_over}
use Rattle.call_media.specs.Ends.{is_same, other}
use Rattle.call_media.specs.Offers.{fresh_needed, opened, seats_offered}
use Rattle.call_media.specs.Seats.{port_to_answerer, port_to_offerer}
use Rattle.call_media.specs.Versions.{leg_id, one_more, origin, sent_to}
use Rattle.call_core.specs.declared.call.Call.{Call}
use Rattle.call_core.specs.declared.input.Input.{Input}
use Rattle.call_core.specs.declared.input.Input.TheVariants as inputs
use Rattle.call_core.specs.declared.row.Row.{Row}
use Rattle.call_core.specs.declared.signal.Signal.{Signal}
use Rattle.call_core.specs.declared.signal.Signal.TheVariants as signals
use Rattle.call_core.specs.declared.stage.Standing.{Standing}
use Rattle.call_core.specs.CallRows.{answer_at, answer_step, at_line, call_row, end_step, first_call_row, fit_at, is_fit, kept_step, offer_at, offer_step, release_step, signal_at, signal_step, step_at, step_in, unchanged}
use Rattle.call_core.specs.Plans.{Step, ends_media, releases}
use Rattle.call_core.specs.Table.{row_of}
use Rattle.message_laws.specs.Addresses.{HasFourOctets, IsServerAddress}
use Rattle.message_laws.specs.Bodies.{HavePorts, KnowsMedia, KnowsOffer, KnowsOfferIf, KnowsSession, KnowsStep, WasRead, WasReadIf, WasReadIn}
use Rattle.message_laws.proofs.Messages.Ports.{offered_ports, pairs_dropped, pairs_left_to, pairs_taken, to_answerer, to_offerer}
use Rattle.message_laws.proofs.Messages.RequestViews.{by_if}

-- ---- an origin of the server's

id_fits : (number : ℕ) (end : End) → leg_id number end < 2 ^ 64
id_fits number Caller = omega arith
id_fits number Callee = omega arith

version_fits : (n : ℕ) → one_more n < 2 ^ 64
version_fits n = omega arith

sizes : (number : ℕ) (ip : List ℕ) (e : End) (v : Versions) (ports : List ℕ) → HasFourOctets ip → ((i : ℕ) → slice_index ports i ≤ 65535) → AreOfTheirSizes (origin number ip e v) ports
sizes number ip e v ports h each = record { id = id_fits number e; version = version_fits (sent_to e v); four = h.four; octets = h.octets; each_port = each }

own_sizes : (ip : List ℕ) (m : CallMedia) (e : End) (ports : List ℕ) → IsServerAddress ip → m.range.ip ≡ ip → ((i : ℕ) → slice_index ports i ≤ 65535)
    → AreOfTheirSizes (origin m.number m.range.ip e m.versions) ports
own_sizes ip m e ports h is each = sizes m.number m.range.ip e m.versions ports (subst HasFourOctets (sym is) h.sizes) each

-- ---- an offer, and an answer

opened_known : (ip : List ℕ) (m : CallMedia) (pool : Contents) (x : End) (offer : Description) (now : ℕ) → IsServerAddress ip → KnowsMedia ip m → HavePorts pool → WasRead offer
    → KnowsOffer ip (opened m pool x offer now)
opened_known ip m pool x offer now server h pairs read =
    let seats = seats_offered m pool x offer now in
    let ports = offered_ports ip (is_same x Caller) offer.media x m.session pool now (fresh_needed m x offer) h.session pairs in
    record {
      taken = read;
      sent = record {
        origin = origin m.number m.range.ip (other x) m.versions;
        ports = map port_to_answerer seats;
        sizes = own_sizes ip m (other x) (map port_to_answerer seats) server h.address (to_answerer seats ports);
        address = h.address;
        whole = refl;
      };
      seats = ports;
    }

answered_known : (ip : List ℕ) (m : CallMedia) (o : OpenOffer) (answer : Description) → IsServerAddress ip → KnowsMedia ip m → KnowsOffer ip o → WasRead answer
    → KnowsSession ip (session_over o (answer_sent m o answer) answer)
answered_known ip m o answer server h offer read = record {
  offer_taken = offer.taken;
  offer_sent = offer.sent;
  answer_taken = read;
  answer_sent = record {
    origin = origin m.number m.range.ip o.offerer m.versions;
    ports = map port_to_offerer o.seats;
    sizes = own_sizes ip m o.offerer (map port_to_offerer o.seats) server h.address (to_offerer o.seats offer.seats);
    address = h.address;
    whole = refl;
  };
}

-- ---- lines of the table

module _ (ip : List ℕ) (server : IsServerAddress ip) (c : Call) (known : KnowsMedia ip c.media) (pool : Contents) (pairs : HavePorts pool) (now : ℕ) where
  unchanged_known : KnowsStep ip (unchanged c pool)
  unchanged_known = record { media = known; pairs = pairs; sent = tt }

  kept_known : (row : Row) → KnowsStep ip (kept_step c pool row)
  kept_known row = record { media = known; pairs = pairs; sent = tt }

  release_known : (row : Row) → KnowsStep ip (release_step c pool now row)
  release_known row = record {
    media = record { address = known.address; offer = tt; session = known.session };
    pairs = pairs_left_to pool c.media.number _ now pairs;
    sent = tt;
  }

  end_known : (row : Row) → KnowsStep ip (end_step c pool now row)
  end_known row = record {
    media = record { address = known.address; offer = tt; session = tt };
    pairs = pairs_dropped pool c.media.number now pairs;
    sent = tt;
  }

  signal_known : (row : Row) → KnowsStep ip (signal_step c pool now row)
  signal_known row =
      by_if (KnowsStep ip) (ends_media row) (end_step c pool now row) (cond (releases row) (release_step c pool now row) (kept_step c pool row)) (λ b. end_known row)
      (λ b. by_if (KnowsStep ip) (releases row) (release_step c pool now row) (kept_step c pool row) (λ d. release_known row) (λ d. kept_known row))

  offer_known : (x : End) (offer : Description) (row : Row) → WasRead offer → KnowsStep ip (offer_step c pool now x offer row)
  offer_known x offer row read =
      let o = opened_known ip c.media pool x offer now server known pairs read in
      record {
        media = record { address = known.address; offer = o; session = known.session };
        pairs = pairs_taken pool c.media.number _ pairs;
        sent = record { taken = offer; read = read; readdressed = o.sent };
      }

  answer_known : (o : OpenOffer) (answer : Description) (row : Row) → KnowsOffer ip o → WasRead answer → KnowsStep ip (answer_step c pool now o answer row)
  answer_known o answer row open_known read =
      let s = answered_known ip c.media o answer server known open_known read in
      record {
        media = record { address = known.address; offer = tt; session = s };
        pairs = pairs_left_to (with_changes pool (changes_to c.media.number pool (session_over o (answer_sent c.media o answer) answer))) c.media.number _ now pairs;
        sent = record { taken = answer; read = read; readdressed = s.answer_sent };
      }

  line_known : (step : Row → Step) (row : Option Row) → ((r : Row) → KnowsStep ip (step r)) → KnowsStep ip (at_line c pool step row)
  line_known step None each = unchanged_known
  line_known step (Some row) each = each row

  at_signal : (s : Standing) (signal : Signal) → KnowsStep ip (signal_at c s signal pool now)
  at_signal s signal = line_known (signal_step c pool now) (row_of s signal) signal_known

  at_offer : (s : Standing) (signal : Signal) (x : End) (offer : Option Description) → WasReadIf offer → KnowsStep ip (offer_at c s signal x offer pool now)
  at_offer s signal x None read = unchanged_known
  at_offer s signal x (Some offer) read = line_known (offer_step c pool now x offer) (row_of s signal) (λ row. offer_known x offer row read)

  at_fit : (s : Standing) (o : Option OpenOffer) (answer : Option Description) → KnowsOfferIf ip o → WasReadIf answer → KnowsStep ip (fit_at c s o answer pool now)
  at_fit s None answer open_known read = unchanged_known
  at_fit s (Some o) None open_known read = unchanged_known
  at_fit s (Some o) (Some answer) open_known read = line_known (answer_step c pool now o answer) (row_of s signals.FitAnswer) (λ row. answer_known o answer row open_known read)

  at_answer : (s : Standing) (answer : Option Description) → WasReadIf answer → KnowsStep ip (answer_at c s answer pool now)
  at_answer s answer read =
      by_if (KnowsStep ip) (is_fit c c.media.offer answer) (fit_at c s c.media.offer answer pool now) (signal_at c s signals.UnfitAnswer pool now) (λ b. at_fit s c.media.offer answer known.offer read)
      (λ b. at_signal s signals.UnfitAnswer)

  at_input : (s : Standing) (input : Input) → WasReadIn input → KnowsStep ip (step_at c s input pool now)
  at_input s (inputs.Offer x method offer) read = at_offer s (signals.Offer x method) x offer read
  at_input s (inputs.Provisional status) read = at_signal s (signals.Provisional status)
  at_input s (inputs.Answer answer) read = at_answer s answer read
  at_input s (inputs.Refusal status) read = at_signal s (signals.Refusal status)
  at_input s inputs.TimedOut read = at_signal s signals.TimedOut
  at_input s inputs.Ack read = at_signal s signals.Ack
  at_input s inputs.Cancel read = at_signal s signals.Cancel
  at_input s (inputs.Bye end) read = at_signal s (signals.Bye end)
  at_input s inputs.Limit read = at_signal s signals.Limit
  at_input s inputs.Repeat read = at_signal s signals.Repeat
  at_input s inputs.Wait read = at_signal s signals.Wait
  at_input s inputs.Lifetime read = at_signal s signals.Lifetime

  in_input : (s : Option Standing) (input : Input) → WasReadIn input → KnowsStep ip (step_in c s input pool now)
  in_input None input read = unchanged_known
  in_input (Some s) input read = at_input s input read

  pub call_known : (input : Input) → WasReadIn input → KnowsStep ip (call_row c input pool now)
  unfolding call_row
  call_known input read = in_input c.standing input read

  pub first_known : (offer : Description) → WasRead offer → KnowsStep ip (first_call_row c offer pool now)
  unfolding first_call_row
  first_known offer read =
      let o = opened_known ip c.media pool Caller offer now server known pairs read in
      record {
        media = record { address = known.address; offer = o; session = known.session };
        pairs = pairs_taken pool c.media.number _ pairs;
        sent = record { taken = offer; read = read; readdressed = o.sent };
      }
