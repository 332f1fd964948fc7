-- Of a negative literal, the sign alone may have been appended.
use Rattle.std.proofs.Common.{◌∷◌, [], ℕ, List, decimal, subst}
use Rattle.lrat_text.proofs.CutLemmas.{Begins, minus, then-begins, tried-begins}
use Rattle.lrat_text.proofs.write.push_lit.Goals as goal

pub returns-clause-begins : goal.returns-clause-begins
returns-clause-begins c =
    let old : List ℕ = c.args.text.now.items in
    let mid : List ℕ = c.extend_from_slice.new.self.items in
    let new : List ℕ = c.push_number-2.new.text.items in
    let number = c.push_number-2.ensures in
    subst (λ (whole : List ℕ). Begins old new whole) (minus c.args.lit c.if-lit.false)
    (then-begins old mid new (45 ∷ []) (decimal c.args.lit.var) c.in_ok-extend_from_slice.ensures.items
    (tried-begins c.push_number-2.result mid new (decimal c.args.lit.var) number.written number.kept))
