use Rattle.std.proofs.Common.{◌≡◌, take, None}
use Rattle.outside_io.specs.Files.{bytes_of}
use Rattle.outside_io.proofs.memory_folder.place.Given as goal

-- no file so far has the name
abbrev pub invariant-loop-i : goal.invariant-loop-i
invariant-loop-i l = bytes_of (take l.i l.files) l.name ≡ None
