use Rattle.std.proofs.Common.{List, refl}
use Rattle.std.specs.Prelude.{slice_set}
use Rattle.trail_prop.specs.declared.watches.Watch.{Watch}
use Rattle.clause_db.proofs.ChangedLists.{lists-changed}
use Rattle.trail_prop.proofs.watches.Watches.set.Goals as goal

pub returns : goal.returns
returns c = lists-changed _ (λ (ws : List Watch). slice_set ws c.args.at c.args.watch) c.self.inside.lists.items c.args.code _ c.index_mut.result.now c.args.self.now c.self.view_is c.requires.list c.index_mut.ensures.value refl
