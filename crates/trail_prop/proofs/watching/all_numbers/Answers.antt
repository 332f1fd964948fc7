use Rattle.std.proofs.Common.{◌≡◌, ◌+◌, List, ℕ, sym, subst, arith}
use Rattle.trail_prop.specs.Watching.{AllPending}
use Rattle.trail_prop.proofs.Settling.{all-wait-more}
use Rattle.trail_prop.proofs.watching.all_numbers.Goals as goal

pub loop-at-preserved : goal.loop-at-preserved
loop-at-preserved c = subst (λ (z : List ℕ). AllPending (c.loop-at.at + 1) z) (sym c.in_ok-push.ensures.items) (all-wait-more c.loop-at.at c.loop-at.numbers.items c.loop-at.invariant)

pub returns : goal.returns
returns c =
    let over = c.loop-at-test.false in
    let most = c.loop-at.auto.at-end in
    let all : c.loop-at.at ≡ c.args.count = omega arith in
    subst (λ (n : ℕ). AllPending n c.loop-at.numbers.items) all c.loop-at.invariant
