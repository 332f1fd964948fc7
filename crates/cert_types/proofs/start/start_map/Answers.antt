use Rattle.std.proofs.Common.{◌≡◌, ◌∙◌, true, sym, ap, subst, take_all}
use Rattle.pack_defs.specs.ChannelMap.{IsAscending}
use Rattle.pack_defs.specs.Lists.{is_ascending}
use Rattle.cert_types.specs.Moves.{start_map}
use Rattle.cert_types.proofs.WalkLemmas.{start-ascends}
use Rattle.cert_types.proofs.start.start_map.Goals as goal

pub returns-clause-ascending : goal.returns-clause-ascending
returns-clause-ascending c =
    let book = c.args.book.now in
    let last = c.args.task.now.last in
    let set = c.as_slice-set.result.now in
    let up : is_ascending set ≡ true = subst (λ xs. is_ascending xs ≡ true) (sym c.as_slice-set.ensures) c.requires.rises in
    let all : c.loop-s.entries.items ≡ start_map book last set = c.loop-s.invariant ∙ ap (start_map book last) (take_all c.loop-s.s-index set c.loop-s-test.false) in
    subst IsAscending (sym all) (start-ascends book last set up)
