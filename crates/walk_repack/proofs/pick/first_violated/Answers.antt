use Rattle.std.proofs.Common.{◌≡◌, ◌∙◌, ◌==◌, ℕ, List, None, length, get_or, find, filter, sym, ap, subst, arith}
use Rattle.assign_check.specs.Fault.{is_violated}
use Rattle.assign_check.proofs.Faultless.{found-none}
use Rattle.assign_check.proofs.Violations.{none-more, none-violated}
use Rattle.walk_repack.proofs.PickLemmas.{first-violated}
use Rattle.walk_repack.proofs.pick.first_violated.Goals as goal

pub returns-in-Some-clause-some : goal.returns-in-Some-clause-some
returns-in-Some-clause-some c =
    let x = get_or c.entries-x-items.result.now c.loop-x.x-index (0, 0) in
    first-violated c.args.walk_state.now.book c.args.walk_state.now.entries (λ p. p.f == x.0) c.in-Some.pair (sym c.violated_from.ensures ∙ c.in-Some.is)

pub loop-x-preserved : goal.loop-x-preserved
loop-x-preserved c =
    let map = c.args.walk_state.now.entries in
    let pairs = c.args.walk_state.now.book.pairs in
    let size = ap length c.entries-x-items.ensures in
    let none : find (is_violated map) (filter (λ p. p.f == (get_or map c.loop-x.x-index (0, 0)).0) pairs) ≡ None =
    subst (λ (es : List (ℕ × ℕ)). find (is_violated map) (filter (λ p. p.f == (get_or es c.loop-x.x-index (0, 0)).0) pairs) ≡ None) c.entries-x-items.ensures (sym c.violated_from.ensures ∙ c.in_default.is) in
    none-more map pairs c.loop-x.x-index (omega (arith, size, c.loop-x-test.true)) c.loop-x.invariant none

pub returns-clause-none : goal.returns-clause-none
returns-clause-none c =
    let map = c.args.walk_state.now.entries in
    let pairs = c.args.walk_state.now.book.pairs in
    let size = ap length c.entries-x-items.ensures in
    found-none (is_violated map) pairs (none-violated map pairs c.loop-x.x-index (omega (arith, size, c.loop-x-test.false)) c.loop-x.invariant)
