use Rattle.page_server.specs.Held.{Join}
use Rattle.page_server.proofs.server.accept.Given as goal

-- this many were accepted so far, if each found room and memory
abbrev pub invariant-loop : goal.invariant-loop
invariant-loop l = Join l.now l.initial.connections l.connections
