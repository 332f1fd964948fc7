use Rattle.std.proofs.Common.{List}
use Rattle.std.specs.Prelude.{swap_remove}
use Rattle.trail_prop.specs.declared.watches.Watch.{Watch}
use Rattle.clause_db.proofs.ChangedLists.{lists-changed}
use Rattle.trail_prop.proofs.watches.Watches.remove.Goals as goal

pub returns-clause-left : goal.returns-clause-left
returns-clause-left c = lists-changed _ (λ (ws : List Watch). swap_remove ws c.args.at c.swap_remove.result) c.self.inside.lists.items c.args.code c.swap_remove.new.self c.index_mut.result.now c.args.self.now c.self.view_is c.requires.list c.index_mut.ensures.value c.swap_remove.ensures.items
