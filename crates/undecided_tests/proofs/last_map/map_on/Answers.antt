-- The entries of an ascending set's stations are the map on the set.
use Rattle.std.proofs.Common.{◌∙◌, sym, subst}
use Rattle.std.proofs.lemmas.Result.{IfOk-weaker}
use Rattle.pack_defs.specs.ChannelMap.{IsAscending}
use Rattle.undecided_tests.proofs.TaskSets.{on-set, on-set-ascends}
use Rattle.undecided_tests.proofs.last_map.map_on.Goals as goal

pub of-requires : goal.of-requires
of-requires c =
    subst IsAscending (sym (c.deref.ensures.value ∙ c.in_ok-entries.ensures)) (on-set-ascends c.args.map.now.entries c.args.set.now c.requires.rises c.requires.ascends)

pub returns : goal.returns
returns c =
    IfOk-weaker c.of.result _ _ (λ m is. is ∙ (c.deref.ensures.value ∙ (c.in_ok-entries.ensures ∙ on-set c.args.map.now.entries c.args.set.now c.requires.rises c.requires.ascends))) c.of.ensures
