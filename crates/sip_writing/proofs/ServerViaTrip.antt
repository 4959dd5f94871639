-- The Via of the server's own requests is one that can be read.
use Rattle.std.proofs.Common.{◌≡◌, ℕ, ◌≤◌, ◌<◌, ◌^◌, true, List, [], ◌∷◌, ◌++◌, length, codes, Some, Result, Ok, Err, refl, sym, ap, subst, arith}
use Rattle.std.specs.Prelude.{decimal, slice_index, IsTrue, IfOk}
use Rattle.std.proofs.lemmas.Bool.{lt-ltb}
use Rattle.text.specs.Class.{is_run_of, is_token_byte}
use Rattle.text.proofs.Numbers.{decimal_run, number_again}
use Rattle.sip_uri.specs.declared.uri.Addr.{Addr}
use Rattle.sip_uri.specs.declared.uri.Host.TheVariants.{Ip4}
use Rattle.sip_uri.specs.Hosts.{ip4_of, is_host}
use Rattle.sip_uri.specs.Reading.{host_read}
use Rattle.sip_uri.specs.Writing.{ip4_text}
use Rattle.sip_uri.proofs.HostLaws.{ip4_again}
use Rattle.sip_message.specs.declared.via.Via.{Via}
use Rattle.sip_message.specs.Via.{is_port}
use Rattle.sip_writing.specs.Requests.{branch_text, server_via, IsReadVia}
use Rattle.sip_writing.specs.Reply.{via_text}
use Rattle.sip_writing.proofs.MarkedTrip.{IsNumbered, number_token, run_append, address_token}
use Rattle.sip_writing.proofs.ParamTrip.{token_param}
use Rattle.sip_writing.proofs.TagTrip.{run_is}
use Rattle.sip_message.proofs.ValueLaws.{token_trimmed}
use Rattle.sip_writing.proofs.ViaTrip.{IsVia, via_is_value, via_again}

-- an address of four bytes, and a port that is not 0
pub record IsPlace (server : Addr) : Type 0 where
  pub numbered : IsNumbered server
  pub four : length server.ip ≡ 4
  pub port : 1 ≤ server.port

address_again : (ip : List ℕ) → length ip ≡ 4 → ((i : ℕ) → slice_index ip i ≤ 255) → ip4_of (ip4_text ip) ≡ Some ip
address_again [] h k = absurd cc
address_again (a ∷ []) h k = absurd cc
address_again (a ∷ b ∷ []) h k = absurd cc
address_again (a ∷ b ∷ c ∷ []) h k = absurd cc
address_again (a ∷ b ∷ c ∷ d ∷ []) h k = ip4_again a b c d (k 0) (k 1) (k 2) (k 3)
address_again (a ∷ b ∷ c ∷ d ∷ e ∷ more) h k = absurd (omega (arith, h))

host_again : (ip : List ℕ) → length ip ≡ 4 → ((i : ℕ) → slice_index ip i ≤ 255) → host_read (ip4_text ip) ≡ Some (Ip4 ip)
unfolding host_read is_host
host_again ip h k = rw (address_again ip h k) refl

port_stands : (n : ℕ) → 1 ≤ n → n ≤ 65535 → is_port (decimal n) ≡ true
port_stands n low high =
    let small : n < 2 ^ 64 = omega (arith, high) in
    rw (decimal_run n small, number_again 65535 n high small, lt-ltb 0 n low) refl

branch_token : (token : List ℕ) → is_run_of is_token_byte token ≡ true → is_run_of is_token_byte (branch_text token) ≡ true
branch_token token h = run_append (codes "z9hG4bK") token refl (run_is token h)

via_is_server : (server : Addr) (token : List ℕ) → IsPlace server → is_run_of is_token_byte token ≡ true → IsVia (server_via server token)
unfolding server_via
via_is_server server token place h =
    let address = address_token server place.numbered in
    let small : server.port < 2 ^ 64 = omega (arith, place.numbered.port) in
    record {
      host = ip4_text server.ip;
      port = Some (decimal server.port);
      sent_by = refl;
      reads = host_again server.ip place.four place.numbered.octets;
      host_ends = token_trimmed (ip4_text server.ip) (run_is (ip4_text server.ip) address);
      port_form = port_stands server.port place.port place.numbered.port;
      port_ends = ap (λ (t : List ℕ). Some t) (token_trimmed (decimal server.port) (run_is (decimal server.port) (number_token server.port small)));
      value = sym (number_again 65535 server.port place.numbered.port small);
      params = (token_param (codes "branch") (branch_text token) refl (branch_token token h), tt);
    }

server_via_read : (server : Addr) (token : List ℕ) → IsPlace server → is_run_of is_token_byte token ≡ true → IsReadVia (server_via server token)
server_via_read server token place h =
    let is = via_is_server server token place h in
    record { text = via_text (server_via server token); clean = (via_is_value (server_via server token) is).clean; reads = via_again (server_via server token) is }

pub read_at : {E : Type 0} (r : Result Via E) (server : Addr) (token : List ℕ) → IsNumbered server → length server.ip ≡ 4 → IfOk r (λ via. via ≡ server_via server token)
    → IfOk r (λ via. IsTrue (is_run_of is_token_byte token) → 1 ≤ server.port → IsReadVia via)
read_at (Ok v) server token n four h = λ run some. subst (λ (x : Via). IsReadVia x) (sym h) (server_via_read server token (record { numbered = n; four = four; port = some }) run)
read_at (Err e) server token n four h = tt
