use Rattle.std.proofs.Common.{◌≡◌, map, take, get_or}
use Rattle.pack_defs.specs.Book.{domain_of}
use Rattle.cnf_encode.specs.Formula.{variable_of}
use Rattle.cnf_encode.proofs.encode.station_variables.Given as goal

abbrev pub invariant-loop-j : goal.invariant-loop-j
invariant-loop-j l =
    l.variables.items ≡ map (λ c. variable_of l.book l.set (get_or l.set l.i 0, c)) (take l.j (domain_of l.book (get_or l.set l.i 0)))
