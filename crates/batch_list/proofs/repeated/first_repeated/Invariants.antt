use Rattle.std.proofs.Common.{◌≡◌, drop, map}
use Rattle.std.specs.List.{find}
use Rattle.batch_list.specs.Repeated.{is_given_twice, repeated_result}
use Rattle.batch_list.proofs.repeated.first_repeated.Given as goal

abbrev pub invariant-loop-line : goal.invariant-loop-line
invariant-loop-line l =
    find (λ name. is_given_twice name (map (λ w. w.now) l.fn.words) l.fn.lines) (map (λ l. l.result) (drop l.line-index l.lines))
    ≡ repeated_result (map (λ w. w.now) l.fn.words) l.fn.lines
