use Rattle.std.proofs.Common.{◌≡◌, drop, find, get_or}
use Rattle.cnf_encode.specs.Decode.{listed_model}
use Rattle.cnf_encode.proofs.Decoding.{is_on}
use Rattle.cnf_encode.proofs.decode.chosen.Given as goal

abbrev pub invariant-loop-j : goal.invariant-loop-j
invariant-loop-j l =
    find (is_on l.book l.set (listed_model l.model) (get_or l.set l.i 0)) (drop l.j l.c-items)
    ≡ find (is_on l.book l.set (listed_model l.model) (get_or l.set l.i 0)) l.c-items
