use Rattle.std.proofs.Common.{ℕ, List, ◌≡◌, ◌++◌, decimal, length, map}
use Rattle.lrat_text.specs.Write.{spaced}
use Rattle.lrat_text.proofs.write.push_hints.Given as goal

abbrev pub invariant-loop-hint : goal.invariant-loop-hint
invariant-loop-hint l = record {
  left : l.text.items ++ spaced (map decimal l.left) ≡ l.initial.text.items ++ spaced (map decimal l.fn.hints);
  begins : (more : List ℕ) × (l.text.items ≡ l.initial.text.items ++ more);
}

abbrev pub decreases-loop-hint : goal.decreases-loop-hint
decreases-loop-hint l = length l.left
