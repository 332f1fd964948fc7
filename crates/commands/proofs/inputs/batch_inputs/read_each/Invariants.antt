-- The inputs so far, and those of the lines that are left, are those of all lines; nothing outside changes.
use Rattle.std.proofs.Common.{◌≡◌, ◌≤◌, All, List, Some, drop, length, vec_capacity}
use Rattle.outside_io.specs.Files.{StoredFile}
use Rattle.auction_core.specs.Setup.{IsOfAuction}
use Rattle.commands.specs.Batch.{each_inputs}
use Rattle.command_words.specs.Words.{batch_view}
use Rattle.commands.proofs.BatchEndLemmas.{behind}
use Rattle.commands.proofs.inputs.batch_inputs.read_each.Given as goal

abbrev pub invariant-loop-line : goal.invariant-loop-line
invariant-loop-line g l = record {
  modelled : (held : List StoredFile) → (g.F.Folder.modelled l.initial.folder).files ≡ Some held →
      behind held (batch_view l.files) l.fn.listed.constraints l.inputs.items (drop l.line-index l.line-items) ≡ each_inputs held (batch_view l.files) l.fn.listed.constraints l.line-items;
  many : length l.inputs.items ≡ l.line-index;
  room : length l.line-items ≤ vec_capacity l.inputs;
  auctions : All (λ i. IsOfAuction i.scenario i.book) l.inputs.items;
  files : (g.F.Folder.modelled l.folder).files ≡ (g.F.Folder.modelled l.initial.folder).files;
  faults : (g.F.Folder.modelled l.folder).faults ≡ (g.F.Folder.modelled l.initial.folder).faults;
  steady : (g.F.Folder.modelled l.folder).steady ≡ (g.F.Folder.modelled l.initial.folder).steady;
  held : (g.K.Sink.modelled l.out).held ≡ (g.K.Sink.modelled l.initial.out).held;
  sink_faults : (g.K.Sink.modelled l.out).faults ≡ (g.K.Sink.modelled l.initial.out).faults;
  sure : (g.K.Sink.modelled l.out).sure ≡ (g.K.Sink.modelled l.initial.out).sure;
}
