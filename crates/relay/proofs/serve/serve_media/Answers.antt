use Rattle.relay.proofs.Rounds.{if_ok}
use Rattle.relay.proofs.serve.serve_media.Goals as goal

pub returns : goal.returns
returns g c = record {
  len = c.map_vec.ensures.len;
  each = if_ok c.map_vec.result _ _ (λ v each i d below. let job = (each i d below).1 in rw (job.job_is d) (job.call.met)) c.map_vec.ensures.each;
}
