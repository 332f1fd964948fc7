use Rattle.std.proofs.Common.{◌≡◌, ℕ, List, ◌++◌, sym, subst, take, get_or}
use Rattle.std.proofs.lemmas.List.{take_more}
use Rattle.rup_check.specs.Packed.{Spells}
use Rattle.rup_check.proofs.Packing.{spells-more}
use Rattle.rup_check.proofs.lines.push_hints.Goals as goal

pub loop-hint-preserved : goal.loop-hint-preserved
loop-hint-preserved c =
    let old = c.args.bytes.now.items in
    let hints = c.args.hints.now in
    let i = c.loop-hint.hint-index in
    let before = c.loop-hint.invariant in
    let one = c.in_ok-push_number.ensures in
    subst (λ (z : List ℕ). (more : List ℕ) × (c.push_number.new.bytes.items ≡ old ++ more) × Spells more z) (sym (take_more hints i 0 c.loop-hint-test.true))
    (spells-more old c.loop-hint.bytes.items c.push_number.new.bytes.items before.0 one.0 (take i hints) (get_or hints i 0) before.1 one.1 before.2 one.2)
