-- What is written for the parameters of a Via that gets the source, one by one.
use Rattle.std.specs.Prelude.{ℕ, Bool, not, ◌&&◌, List, [], ◌∷◌, ◌++◌, codes, decimal, if◌then◌else◌}
use Rattle.sip_uri.specs.declared.uri.Addr.{Addr}
use Rattle.sip_uri.specs.declared.uri.Param.{Param}
use Rattle.sip_uri.specs.Writing.{ip4_text, param_text}
use Rattle.sip_writing.specs.Reply.{is_param}

-- an empty `rport` with the port
abbrev pub filled_text : ℕ → Param → List ℕ
filled_text port p = 59 ∷ p.name ++ 61 ∷ decimal port

-- a `received` is left out, any other stays as it is
abbrev pub kept_text : Param → List ℕ
kept_text p = if is_param (codes "received") p then [] else 59 ∷ param_text p

abbrev pub marked_param_text : Bool → ℕ → Param → List ℕ
marked_param_text fills port p = if fills then filled_text port p else kept_text p

-- the first `rport` is filled if it is empty
abbrev pub marked_params_text : Bool → ℕ → List Param → List ℕ
marked_params_text empty port [] = []
marked_params_text empty port (p ∷ ps) =
    let fills = empty && is_param (codes "rport") p in
    marked_param_text fills port p ++ marked_params_text (empty && not fills) port ps

abbrev pub received_text : Bool → Addr → List ℕ
received_text needed source = if needed then codes ";received=" ++ ip4_text source.ip else []
