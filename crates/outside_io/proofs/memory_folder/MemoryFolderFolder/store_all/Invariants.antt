-- The files up to here are stored, in order, and the open file is unchanged.
use Rattle.std.proofs.Common.{◌≡◌, Some, map, take}
use Rattle.outside_io.specs.StoreAll.{AreAllStored, stored_file}
use Rattle.outside_io.proofs.GroupLaws.{memory_told}
use Rattle.outside_io.proofs.memory_folder.MemoryFolderFolder.store_all.Given as goal

abbrev pub invariant-loop-at : goal.invariant-loop-at
invariant-loop-at l = record {
  stored : AreAllStored (take l.at (map stored_file l.files)) (memory_told l.fn.self) (memory_told l.self);
  left : Some l.self.begun.left ≡ Some l.fn.self.begun.left;
  come : l.self.begun.come ≡ l.fn.self.begun.come;
  most : l.self.begun.most ≡ l.fn.self.begun.most;
}
