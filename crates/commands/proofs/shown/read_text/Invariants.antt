use Rattle.std.proofs.Common.{◌≡◌, ◌≤◌, ◌-◌}
use Rattle.commands.specs.Inputs.{transcript_limit}
use Rattle.commands.proofs.TextReading.{IsReading}
use Rattle.commands.proofs.shown.read_text.Given as goal

abbrev pub invariant-loop-piece : goal.invariant-loop-piece
invariant-loop-piece g l = record {
  so_far : IsReading l.fn.inputs (g.F.Folder.modelled l.fn.folder).files l.fn.name (g.F.Folder.left l.folder) (g.F.Folder.come l.folder) l.reader;
  files : (g.F.Folder.modelled l.folder).files ≡ (g.F.Folder.modelled l.fn.folder).files;
  steady : (g.F.Folder.modelled l.folder).steady ≡ (g.F.Folder.modelled l.fn.folder).steady;
  most : g.F.Folder.most l.folder ≡ transcript_limit;
  kept : (g.F.Folder.modelled l.fn.folder).faults ≤ (g.F.Folder.modelled l.folder).faults;
  faults_unchanged : (g.F.Folder.modelled l.folder).faults ≡ (g.F.Folder.modelled l.fn.folder).faults;
}

abbrev pub decreases-loop-piece : goal.decreases-loop-piece
decreases-loop-piece g l = g.F.Folder.most l.folder - g.F.Folder.come l.folder
