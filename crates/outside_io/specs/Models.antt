-- What contracts know of any folder and any sink.
use Rattle.std.specs.Prelude.{ℕ, Bool, List, Option}
use Rattle.outside_io.specs.Diary.{FolderCall}
use Rattle.outside_io.specs.Files.{StoredFile}

-- What is known of a folder.
pub record FolderModel : Type 0 where
  -- The files, if the folder is modelled.
  pub files : Option (List StoredFile)
  -- The count of faults. A call that does not return `Failed` leaves it unchanged.
  pub faults : ℕ
  -- Whether the outside never fails. Then stores and pieces do not return `Failed`, and loads and `begin` do so only for a name
  -- without a file.
  pub steady : Bool
  -- The diary, if the folder keeps one: the calls made so far, the latest first.
  pub calls : Option (List FolderCall)

-- What is known of a sink.
pub record SinkModel : Type 0 where
  -- The bytes written so far, if the sink is modelled.
  pub held : Option (List ℕ)
  -- The count of faults. A write that succeeds leaves it unchanged.
  pub faults : ℕ
  -- The number of further bytes that are certain to be written.
  pub sure : ℕ
