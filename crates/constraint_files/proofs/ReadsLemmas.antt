-- Errors and lack of memory propagate.
use Rattle.std.proofs.Common.{◌≡◌, ◌∙◌, ◌<◌, ◌+◌, ◌∷◌, ℕ, List, Result, Err, ap, refl, length, get_or, drop}
use Rattle.constraint_files.specs.Records.{after_lines, after_records, line_records, lines_of, after_read_line}
use Rattle.constraint_files.proofs.LineLemmas.{after-next, line-next}
use Rattle.constraint_files.specs.Reads.{Changes, Takes}
use Rattle.pack_defs.specs.Steps.{◌>>=◌}
use Rattle.constraint_files.specs.declared.error.ReadErr.TheVariants.{Row}
use Rattle.constraint_files.specs.declared.error.RowErr.{RowErr}
use Rattle.constraint_files.specs.declared.error.RowErr.TheVariants.{NoMemory, Refused}
use Rattle.constraint_files.specs.declared.error.RowWhy.{RowWhy}

pub takes-on : {A B : Type 0} (f : A → Result B RowWhy) (o : Result A RowWhy) (e : RowErr) → Takes o (Err e) → Takes (o >>= f) (Err e)
takes-on f o (Refused why) h = rw h refl
takes-on f o NoMemory h = tt

-- A call that may fail, then one that changes the state.
pub changes-on : {A S : Type 0} (f : A → Result S RowWhy) (o : Result A RowWhy) (new : S) (e : RowErr) → Takes o (Err e) → Changes (o >>= f) new (Err e)
changes-on f o new (Refused why) h = rw h refl
changes-on f o new NoMemory h = tt

-- An error of a record is the error of all records from it on.
pub stops : {S : Type 0} (add : S → List (List ℕ) → Result S RowWhy) (state new : S) (rs : List (List (List ℕ))) (i : ℕ) (r : List (List ℕ)) (e : RowErr) → i < length rs → r ≡ get_or rs i r
    → Changes (add state r) new (Err e) → Changes (after_records add state (drop i rs)) new (Err e)
stops add state new rs i r (Refused why) h is refused =
    after-next add state rs i r h is ∙ ap (λ o. o >>= (λ next. after_records add next (drop (i + 1) rs))) refused
stops add state new rs i r NoMemory h is refused = tt

-- An error of a line is the error of all lines from it on.
pub stops-all : {S : Type 0} (add : S → List (List ℕ) → Result S RowWhy) (state : S) (number : ℕ) (bytes line rest : List ℕ) (why : RowWhy) → lines_of bytes ≡ line ∷ lines_of rest
    → after_records add state (line_records line) ≡ Err why → after_lines add state number (lines_of bytes) ≡ Err (Row number why)
stops-all add state number bytes line rest why first refused =
    line-next add state number bytes line rest first ∙ ap (λ o. after_read_line number o (λ next. after_lines add next (number + 1) (lines_of rest))) refused
