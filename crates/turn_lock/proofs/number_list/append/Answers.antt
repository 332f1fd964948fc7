use Rattle.std.proofs.Common.{rules, ◌≡◌, ◌∙◌, ◌++◌, ◌∷◌, [], ℕ, ap}
use Rattle.turn_lock.specs.Passes.{pass_number, seen_of}
use Rattle.turn_lock.specs.Turns.{last}
use Rattle.turn_lock.proofs.Lists.{last_of, starts_more}
use Rattle.turn_lock.proofs.number_list.append.Goals as goal

pub returns-clause-seen : goal.returns-clause-seen
returns-clause-seen g c =
    let e : ℕ × ℕ = (pass_number c.args.pass.now, c.args.number) in
    starts_more (seen_of c.args.pass.now) (seen_of c.enter-turn.new.pass) (seen_of c.leave-2.new.pass) e c.enter-turn.ensures.seen (search rules)

pub returns-clause-last : goal.returns-clause-last
returns-clause-last g c =
    let e : ℕ × ℕ = (pass_number c.args.pass.now, c.args.number) in
    let is : seen_of c.leave-2.new.pass ≡ seen_of c.enter-turn.new.pass ++ e ∷ [] = search rules in
    ap last is ∙ last_of (seen_of c.enter-turn.new.pass) e
