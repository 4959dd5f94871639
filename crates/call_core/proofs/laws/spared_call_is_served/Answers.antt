use Rattle.std.proofs.Common.{subst, sym}
use Rattle.call_media.specs.Serving.{SameFor}
use Rattle.call_core.proofs.laws.spared_call_is_served.Goals as goal

pub returns : goal.returns
returns c = λ call pool after serves same. record {
  number = serves.number;
  media = c.spared_call_serves.ensures call.media pool after serves.media (subst (λ n. SameFor n pool after) (sym serves.number) same);
  offer = serves.offer;
  session = serves.session;
}
