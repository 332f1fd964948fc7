use Rattle.std.proofs.Common.{◌≡◌, ◌-◌, List}
use Rattle.pack_defs.specs.declared.domain.Domain.{Domain}
use Rattle.constraint_files.specs.PairTable.{pairs_fed}
use Rattle.commands.proofs.FeedLemmas.{IsFeeding}
use Rattle.commands.proofs.inputs.constraints.feed_pairs.Given as goal

abbrev pub invariant-loop-piece : goal.invariant-loop-piece
invariant-loop-piece g l = record {
  modelled : (domains : List Domain) → IsFeeding (λ bytes. pairs_fed bytes domains) (g.F.Folder.left l.fn.folder) (g.F.Folder.left l.folder) l.fn.reader l.reader;
  files : (g.F.Folder.modelled l.folder).files ≡ (g.F.Folder.modelled l.fn.folder).files;
  steady : (g.F.Folder.modelled l.folder).steady ≡ (g.F.Folder.modelled l.fn.folder).steady;
  faults_unchanged : (g.F.Folder.modelled l.folder).faults ≡ (g.F.Folder.modelled l.fn.folder).faults;
  calls : (g.F.Folder.modelled l.folder).calls ≡ (g.F.Folder.modelled l.fn.folder).calls;
}

abbrev pub decreases-loop-piece : goal.decreases-loop-piece
decreases-loop-piece g l = g.F.Folder.most l.folder - g.F.Folder.come l.folder
