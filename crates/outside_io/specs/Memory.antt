-- A folder and a sink in memory, as contracts see them.
use Rattle.std.specs.Prelude.{ℕ, Bool, List, Option}
use Rattle.outside_io.specs.Diary.{FolderCall}
use Rattle.outside_io.specs.Files.{StoredFile}

-- The file that is open for pieces: its bytes that are left, how many were read, and its limit.
pub record PieceFileView : Type 0 where
  pub left : List ℕ
  pub come : ℕ
  pub most : ℕ

-- A folder in memory: its files, the open file, the count of faults, whether no call is to fail, and the diary if it keeps one.
pub record FolderView : Type 0 where
  pub files : List StoredFile
  pub begun : PieceFileView
  pub faults : ℕ
  pub steady : Bool
  pub calls : Option (List FolderCall)

-- A sink in memory: its bytes, room for how many more, the count of faults, and whether no call is to fail.
pub record SinkView : Type 0 where
  pub held : List ℕ
  pub room : ℕ
  pub faults : ℕ
  pub steady : Bool
