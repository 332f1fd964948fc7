-- How records and lines extend the earlier lines, one after another, and that an error propagates.
use Rattle.std.proofs.Common.{◌≡◌, ◌∙◌, ◌<◌, ◌≤◌, ◌+◌, ◌∷◌, [], ℕ, List, Ok, Err, refl, sym, ap, subst, length, map, drop, get_or}
use Rattle.std.proofs.lemmas.List.{drop_all, drop_more, length-map}
use Rattle.std.proofs.Math.ListN.{get_or-map}
use Rattle.constraint_files.specs.Records.{line_records, lines_of}
use Rattle.pack_defs.specs.declared.owners.OwnerLine.{OwnerLine}
use Rattle.owner_line.specs.OwnersOf.{after_owner_line, with_file_lines, with_record, with_records}
use Rattle.owner_line.specs.Read.{OwnerChanges}
use Rattle.pack_defs.specs.Steps.{◌>>=◌}
use Rattle.owner_line.specs.declared.error.OwnerAddErr.{OwnerAddErr}
use Rattle.owner_line.specs.declared.error.OwnerAddErr.TheVariants.{NoMemory, Refused}
use Rattle.owner_line.specs.declared.error.OwnerErr.TheVariants.{Row}
use Rattle.owner_line.specs.declared.error.OwnerWhy.{OwnerWhy}

-- The lines of some records, by the first of them.
with-first : (R : ℕ) (ids : List ℕ) (said : List OwnerLine) (rs : List (List (List ℕ))) (i : ℕ) (r : List (List ℕ)) → i < length rs → r ≡ get_or rs i r
    → with_records R ids said (drop i rs) ≡ (with_record R ids said r >>= (λ next. with_records R ids next (drop (i + 1) rs)))
unfolding with_records
with-first R ids said rs i r h e = rw (drop_more rs i r h, ← e) refl

-- An error of a record is the error of all records from it on.
stops : (R : ℕ) (ids : List ℕ) (said new : List OwnerLine) (rs : List (List (List ℕ))) (i : ℕ) (r : List (List ℕ)) (e : OwnerAddErr) → i < length rs → r ≡ get_or rs i r
    → OwnerChanges (with_record R ids said r) new (Err e) → OwnerChanges (with_records R ids said (drop i rs)) new (Err e)
stops R ids said new rs i r (Refused why) h is refused =
    with-first R ids said rs i r h is ∙ ap (λ o. o >>= (λ next. with_records R ids next (drop (i + 1) rs))) refused
stops R ids said new rs i r NoMemory h is refused = tt

-- The same for records that are each made from an item of a list.
module _ {X : Type 0} (own : X → List (List ℕ)) (R : ℕ) (ids : List ℕ) (xs : List X) where
  within : (i : ℕ) → i < length xs → i < length (map own xs)
  within i h = subst (λ n. i < n) (sym (length-map xs own)) h

  at : (i : ℕ) (x : X) → x ≡ get_or xs i x → own x ≡ get_or (map own xs) i (own x)
  at i x is = ap own is ∙ sym (get_or-map own xs i x)

  pub stops-own : (said new : List OwnerLine) (i : ℕ) (x : X) (r : List (List ℕ)) (e : OwnerAddErr) → i < length xs → x ≡ get_or xs i x → r ≡ own x → OwnerChanges (with_record R ids said r) new (Err e) → OwnerChanges (with_records R ids said (drop i (map own xs))) new (Err e)
  stops-own said new i x r e h is same refused =
      stops R ids said new (map own xs) i (own x) e (within i h) (at i x is) (subst (λ z. OwnerChanges (with_record R ids said z) new (Err e)) same refused)

  pub next-own : (said new : List OwnerLine) (i : ℕ) (x : X) (r : List (List ℕ)) → i < length xs → x ≡ get_or xs i x → r ≡ own x → with_record R ids said r ≡ Ok new → with_records R ids said (drop i (map own xs)) ≡ with_records R ids new (drop (i + 1) (map own xs))
  next-own said new i x r h is same taken =
      with-first R ids said (map own xs) i (own x) (within i h) (at i x is)
      ∙ ap (λ o. o >>= (λ next. with_records R ids next (drop (i + 1) (map own xs)))) (ap (with_record R ids said) (sym same) ∙ taken)

  -- No record is left.
  pub none-own : (said : List OwnerLine) (i : ℕ) → length xs ≤ i → with_records R ids said (drop i (map own xs)) ≡ Ok said
  unfolding with_records
  none-own said i h = rw (drop_all i (map own xs) (subst (λ n. n ≤ i) (sym (length-map xs own)) h)) refl

-- The lines of some bytes, by the first of them.
pub line-next : (R : ℕ) (ids : List ℕ) (said : List OwnerLine) (number : ℕ) (bytes line rest : List ℕ) → lines_of bytes ≡ line ∷ lines_of rest
    → with_file_lines R ids said number (lines_of bytes) ≡ after_owner_line number (with_records R ids said (line_records line)) (λ next. with_file_lines R ids next (number + 1) (lines_of rest))
unfolding with_file_lines
line-next R ids said number bytes line rest e = rw e refl

-- An error of a line is the error of all lines from it on.
pub line-stops : (R : ℕ) (ids : List ℕ) (said : List OwnerLine) (number : ℕ) (bytes line rest : List ℕ) (why : OwnerWhy) → lines_of bytes ≡ line ∷ lines_of rest
    → with_records R ids said (line_records line) ≡ Err why → with_file_lines R ids said number (lines_of bytes) ≡ Err (Row number why)
line-stops R ids said number bytes line rest why first refused =
    line-next R ids said number bytes line rest first ∙ ap (λ o. after_owner_line number o (λ next. with_file_lines R ids next (number + 1) (lines_of rest))) refused

-- No bytes have no lines.
pub lines-none : (R : ℕ) (ids : List ℕ) (said : List OwnerLine) (number : ℕ) → with_file_lines R ids said number (lines_of []) ≡ Ok said
unfolding with_file_lines lines_of
lines-none R ids said number = refl
