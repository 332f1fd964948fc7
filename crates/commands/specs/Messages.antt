-- What the program says at its end, and how much of it the sink holds.
use Rattle.std.specs.Prelude.{◌≡◌, ◌⊎◌, ℕ, List, ◌++◌, take, codes, Option, Some, None, ⊤}
use Rattle.outside_io.specs.Faults.{HasRisen}

-- The sink's bytes, where they are part of the model, grew by the text. If the sink's fault count rose, they grew by the text or
-- by its first bytes, maybe none. Of a sink that is not modelled nothing is said.
abbrev pub PrintsText : Option (List ℕ) → Option (List ℕ) → ℕ → ℕ → List ℕ → Type 0
PrintsText None None before now text = ⊤
PrintsText None (Some new) before now text = ⊥
PrintsText (Some old) None before now text = ⊥
PrintsText (Some old) (Some new) before now text =
    (new ≡ old ++ text) ⊎ (HasRisen before now × (n : ℕ) × (new ≡ old ++ take n text))

-- The line for a file that can't be read.
abbrev pub unread_line : List ℕ → List ℕ
unread_line name = codes "cannot read " ++ name ++ codes "\n"

-- The line for a file that can't be written.
abbrev pub unwritten_line : List ℕ → List ℕ
unwritten_line name = codes "cannot write " ++ name ++ codes "\n"

-- The line for a repeated output name.
abbrev pub twice_line : List ℕ → List ℕ
twice_line name = name ++ codes ": given twice\n"

-- The line for a file that is too long.
abbrev pub long_line : List ℕ → List ℕ
long_line name = name ++ codes ": too long\n"

-- The line for a start set that doesn't fit.
abbrev pub unfit_line : List ℕ
unfit_line = codes "the start set does not fit\n"

-- The line for a start set whose test is undecided.
abbrev pub open_line : List ℕ
open_line = codes "the start set is undecided\n"

-- The line for running out of memory.
abbrev pub memory_line : List ℕ
memory_line = codes "out of memory\n"
