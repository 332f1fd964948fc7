-- The row of a record, by its first fields.
use Rattle.std.proofs.Common.{◌≡◌, ◌∷◌, [], ℕ, List, Option, Some, None, Result, Err, refl, drop}
use Rattle.std.specs.Option.{ok_or, option_and_then}
use Rattle.csv.specs.Records.{field_at}
use Rattle.constraint_files.specs.declared.error.RowWhy.{RowWhy}
use Rattle.constraint_files.specs.declared.error.RowWhy.TheVariants.{ShortRow, BadKey, BadNumber}
use Rattle.constraint_files.specs.declared.interference_row.Offset.{Offset}
use Rattle.constraint_files.specs.declared.interference_row.Row.{Row}
use Rattle.constraint_files.specs.Field.{number, numbers}
use Rattle.constraint_files.specs.PairTable.{interference_row, offset_of, row_on}
use Rattle.pack_defs.specs.Steps.{◌>>=◌}

-- The row of these numbers, if each exists.
abbrev pub row_by : Offset → Option ℕ → Option ℕ → Option ℕ → Option (List ℕ) → Result Row RowWhy
row_by offset a b s others =
    ok_or a BadNumber >>= (λ m. ok_or b BadNumber >>= (λ n. ok_or s BadNumber >>= (λ f. ok_or others BadNumber >>= row_on offset m n f)))

pub without-first : (fields : List (List ℕ)) → field_at fields 0 ≡ None → interference_row fields ≡ Err ShortRow
unfolding interference_row field_at
without-first [] e = refl
without-first (key ∷ fields) e = cc

pub without-fourth : (fields : List (List ℕ)) → field_at fields 3 ≡ None → interference_row fields ≡ Err ShortRow
unfolding interference_row field_at
without-fourth [] e = refl
without-fourth (key ∷ []) e = refl
without-fourth (key ∷ a ∷ []) e = refl
without-fourth (key ∷ a ∷ b ∷ []) e = refl
without-fourth (key ∷ a ∷ b ∷ s ∷ others) e = cc

some-key : (x y : List ℕ) → Some x ≡ Some y → x ≡ y
some-key x y e = cc

pub interference_row-is : (fields : List (List ℕ)) (key fourth : List ℕ) → field_at fields 0 ≡ Some key → field_at fields 3 ≡ Some fourth → interference_row fields
    ≡ (ok_or (offset_of key) BadKey >>= (λ offset.
    row_by offset (option_and_then number (field_at fields 1)) (option_and_then number (field_at fields 2)) (option_and_then number (field_at fields 3)) (numbers (drop 4 fields))))
unfolding interference_row field_at
interference_row-is [] key fourth e h = cc
interference_row-is (k ∷ []) key fourth e h = cc
interference_row-is (k ∷ a ∷ []) key fourth e h = cc
interference_row-is (k ∷ a ∷ b ∷ []) key fourth e h = cc
interference_row-is (k ∷ a ∷ b ∷ s ∷ others) key fourth e h = rw (some-key k key e) refl
