use Rattle.call_trace.specs.Serving.{places_of}
use Rattle.call_trace.proofs.Standing.{all_relayed, each_meets, all_meet, lives_exactly}
use Rattle.call_trace.proofs.Served.{served_relayed, table_promised, ports_promised}
use Rattle.call_trace.proofs.move_laws.standing_is_promised.Goals as goal

pub returns : goal.returns
returns c = record {
  promised = λ methods server table holder calls n t h served. record {
    media = c.relayed_is_promised.ensures methods server (places_of table) t (all_relayed methods server (places_of table) calls n t h (served_relayed server table calls served.told served.rows));
    each = each_meets c.joined_is_direct.ensures methods server (places_of table) calls n t h (served_relayed server table calls served.told served.rows);
    rows = table_promised methods table calls n t h served.rows;
    ports = ports_promised methods holder calls n t h served.held;
    holders = served.held.holders;
    lives = lives_exactly methods calls n t h;
  };
  calls = all_meet c.joined_is_direct.ensures;
  lives = lives_exactly;
}
