-- The example office.
use Rattle.std.specs.Prelude.{[], ◌∷◌, codes, Some, None, false, replicate}
use Rattle.configuration.specs.declared.config.Config.{Config}
use Rattle.configuration.specs.declared.level.LogLevel.TheVariants as levels

-- users 100, 101 and 102 of office.example, at 192.0.2.1:5060, bound for a minute at least, with eight pairs of ports
-- from 40000 on
abbrev pub example : Config
example = record {
  relay_first = 40000;
  relay_pairs = 8;
  ip = 192 ∷ 0 ∷ 2 ∷ 1 ∷ [];
  sip_port = 5060;
  users = codes "100" ∷ codes "101" ∷ codes "102" ∷ [];
  min_expires = 60;
  max_expires = None;
  oldest_leaves = false;
  silent_minutes = None;
  longest_call_hours = None;
  source_share = None;
  domain = Some (codes "office.example");
  workers = 2;
  answer_within = 32;
  random_key = replicate 32 0;
  log = levels.Calls;
  status = None;
}
