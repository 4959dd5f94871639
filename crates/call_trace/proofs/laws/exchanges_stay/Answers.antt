use Rattle.call_trace.proofs.Growing.{exchange_left, exchange_back}
use Rattle.call_trace.proofs.laws.exchanges_stay.Goals as goal

pub returns : goal.returns
returns c = record { longer = exchange_left; shorter = exchange_back }
