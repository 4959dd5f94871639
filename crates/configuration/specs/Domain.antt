-- The office's domain.
use Rattle.std.specs.Prelude.{ℕ, List, unwrap_or}
use Rattle.sip_uri.specs.Writing.{ip4_text}
use Rattle.configuration.specs.declared.config.Config.{Config}

-- the name that is configured, or the server's address in plain decimals
abbrev pub domain_text : Config → List ℕ
domain_text c = unwrap_or c.domain (ip4_text c.ip)
