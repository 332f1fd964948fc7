-- The state of a reader of a file that comes in pieces.
use Rattle.std.specs.Prelude.{ℕ, Bool, List, [], ◌∷◌, ◌++◌, Result, Ok, Err, length, ◌+◌, ◌==◌, if◌then◌else◌}
use Rattle.std.specs.List.{list_any}
use Rattle.constraint_files.specs.Records.{after_lines, lines_of}
use Rattle.constraint_files.specs.declared.error.ReadErr.{ReadErr}
use Rattle.constraint_files.specs.declared.error.RowWhy.{RowWhy}

-- Whether some bytes end a line, that is, contain the byte 0A.
abbrev pub has_end : List ℕ → Bool
has_end bytes = list_any (λ c. c == 10) bytes

-- The lines with one more byte at the start of the first line, if there is a line.
abbrev pub prepend_to_whole : ℕ → List (List ℕ) → List (List ℕ)
prepend_to_whole c [] = []
prepend_to_whole c (line ∷ lines) = (c ∷ line) ∷ lines

-- The lines of some bytes that the byte 0A ends.
unfoldable pub whole_lines : List ℕ → List (List ℕ)
whole_lines [] = []
whole_lines (c ∷ rest) = if c == 10 then [] ∷ whole_lines rest else prepend_to_whole c (whole_lines rest)

-- The bytes after the last 0A, which begin a line without an end yet.
unfoldable pub begun_line : List ℕ → List ℕ
begun_line [] = []
begun_line (c ∷ rest) = if has_end (c ∷ rest) then begun_line rest else c ∷ rest

-- The state of a reader after some bytes of a file: the result of the complete lines, the bytes of the unfinished line, and the number
-- of that line, counted from 1.
pub record FeedState (S : Type 0) : Type 0 where
  pub made : S
  pub begun : List ℕ
  pub line : ℕ

-- The state of a reader with this result, or the error instead of the result.
abbrev pub fed_unless_rejected : {S : Type 0} → Result S ReadErr → List ℕ → ℕ → Result (FeedState S) ReadErr
fed_unless_rejected (Ok made) begun line = Ok (record { made = made; begun = begun; line = line })
fed_unless_rejected (Err e) begun line = Err e

-- The state of a reader after these additional bytes, or the first error in a line that is complete by then.
unfoldable pub fed_on : {S : Type 0} → (S → List (List ℕ) → Result S RowWhy) → FeedState S → List ℕ → Result (FeedState S) ReadErr
fed_on add had bytes =
    fed_unless_rejected (after_lines add had.made had.line (whole_lines (had.begun ++ bytes))) (begun_line (had.begun ++ bytes)) (had.line + length (whole_lines (had.begun ++ bytes)))

-- The result of a file that ends here. The unfinished line is its last line, if it has a byte.
unfoldable pub finished : {S : Type 0} → (S → List (List ℕ) → Result S RowWhy) → FeedState S → Result S ReadErr
finished add had = after_lines add had.made had.line (lines_of had.begun)
