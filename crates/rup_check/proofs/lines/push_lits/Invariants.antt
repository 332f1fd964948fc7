use Rattle.std.proofs.Common.{◌≡◌, ℕ, List, ◌++◌, map, take}
use Rattle.rup_check.specs.Packed.{Spells, number_of_lit}
use Rattle.rup_check.proofs.lines.push_lits.Given as goal

abbrev pub invariant-loop-lit : goal.invariant-loop-lit
invariant-loop-lit l = (more : List ℕ) × (l.bytes.items ≡ l.fn.bytes.items ++ more) × Spells more (map number_of_lit (take l.lit-index l.lits))
