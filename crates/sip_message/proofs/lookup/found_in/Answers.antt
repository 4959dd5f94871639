use Rattle.std.proofs.Common.{codes, List, ℕ, arith}
use Rattle.sip_message.specs.Seen.{Standing}
use Rattle.sip_message.proofs.SeenLaws.{seen_before_next, seen_at_end}
use Rattle.sip_message.proofs.lookup.found_in.Goals as goal

pub loop-header-preserved : goal.loop-header-preserved
loop-header-preserved c =
    let next = λ (name : List ℕ) (before after : Standing). seen_before_next c.args.headers.now c.loop-header.header-index c.header-item.result name before after (omega arith) c.header-item.is in
    let so_far = c.loop-header.invariant in (
      so_far.0,
      next (codes "From") _ _ c.and_header-found.ensures so_far.1,
      next (codes "To") _ _ c.and_header-found-in-loop-header.ensures so_far.2,
      next (codes "Call-ID") _ _ c.and_header-found-in-loop-header-2.ensures so_far.3,
      next (codes "CSeq") _ _ c.and_header-found-in-loop-header-3.ensures so_far.4,
      next (codes "Max-Forwards") _ _ c.and_header-found-in-loop-header-4.ensures so_far.5,
      next (codes "Content-Type") _ _ c.and_header-found-in-loop-header-5.ensures so_far.6,
      next (codes "Content-Length") _ _ c.and_header-found-in-loop-header-6.ensures so_far.7,
    )

pub returns-clause-found : goal.returns-clause-found
returns-clause-found c =
    let so_far = c.loop-header.invariant in
    let whole = λ (name : List ℕ) (standing : Standing). seen_at_end c.args.headers.now c.loop-header.found.headers.now so_far.0 c.loop-header.header-index name standing (omega arith) in
    record {
      from = whole (codes "From") _ so_far.1;
      to = whole (codes "To") _ so_far.2;
      call_id = whole (codes "Call-ID") _ so_far.3;
      cseq = whole (codes "CSeq") _ so_far.4;
      max_forwards = whole (codes "Max-Forwards") _ so_far.5;
      content_type = whole (codes "Content-Type") _ so_far.6;
      content_length = whole (codes "Content-Length") _ so_far.7;
    }
