use Rattle.cdcl_prove.proofs.incremental.ask_searcher.Given as goal

abbrev pub invariant-loop : goal.invariant-loop
invariant-loop g l = g.P.Poll.goes l.initial.poll l.poll
