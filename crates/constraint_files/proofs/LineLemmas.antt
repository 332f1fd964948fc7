-- The first line of some bytes, and the effect of some records on a state.
use Rattle.std.proofs.Common.{◌≡◌, ◌<◌, ◌≤◌, ◌+◌, ◌∷◌, [], ℕ, List, Result, Ok, zero, suc, refl, arith, length, take, drop, get_or, eq-eqb, ne_eqb}
use Rattle.std.proofs.lemmas.List.{drop_all, drop_more}
use Rattle.constraint_files.specs.Records.{after_lines, after_records, line_records, lines_of, after_read_line}
use Rattle.pack_defs.specs.Steps.{◌>>=◌}
use Rattle.constraint_files.specs.declared.error.RowWhy.{RowWhy}

-- The first line ends at the first 0A.
pub first_line : (bytes : List ℕ) (i : ℕ) → i < length bytes → get_or bytes i 0 ≡ 10 → ((k : ℕ) → k < i → get_or bytes k 0 ≡ 10 → ⊥)
    → lines_of bytes ≡ take i bytes ∷ lines_of (drop (suc i) bytes)
unfolding lines_of
first_line [] i h e none = absurd (omega arith)
first_line (c ∷ rest) zero h e none = rw (eq-eqb c 10 e) refl
first_line (c ∷ rest) (suc i) h e none =
    rw (ne_eqb c 10 (none 0 (omega arith)), first_line rest i (omega arith) e (λ k l. none (suc k) (omega arith))) refl

-- Bytes without 0A are one line.
pub last_line : (bytes : List ℕ) → 0 < length bytes → ((k : ℕ) → k < length bytes → get_or bytes k 0 ≡ 10 → ⊥) → lines_of bytes ≡ bytes ∷ []
unfolding lines_of
last_line [] h none = absurd (omega arith)
last_line (c ∷ []) h none = rw (ne_eqb c 10 (none 0 (omega arith))) refl
last_line (c ∷ d ∷ rest) h none =
    rw (ne_eqb c 10 (none 0 (omega arith)), last_line (d ∷ rest) (omega arith) (λ k l. none (suc k) (omega arith))) refl

-- The effect of some records, by the first of them.
pub after-next : {S : Type 0} (add : S → List (List ℕ) → Result S RowWhy) (state : S) (rs : List (List (List ℕ))) (i : ℕ) (r : List (List ℕ)) → i < length rs → r ≡ get_or rs i r
    → after_records add state (drop i rs) ≡ (add state r >>= (λ next. after_records add next (drop (i + 1) rs)))
unfolding after_records
after-next add state rs i r h e = rw (drop_more rs i r h, ← e) refl

-- No record is left.
pub after-none : {S : Type 0} (add : S → List (List ℕ) → Result S RowWhy) (state : S) (rs : List (List (List ℕ))) (i : ℕ) → length rs ≤ i
    → after_records add state (drop i rs) ≡ Ok state
unfolding after_records
after-none add state rs i h = rw (drop_all i rs h) refl

-- The effect of the lines of some bytes, by the first line.
pub line-next : {S : Type 0} (add : S → List (List ℕ) → Result S RowWhy) (state : S) (number : ℕ) (bytes line rest : List ℕ) → lines_of bytes ≡ line ∷ lines_of rest
    → after_lines add state number (lines_of bytes) ≡ after_read_line number (after_records add state (line_records line)) (λ next. after_lines add next (number + 1) (lines_of rest))
unfolding after_lines
line-next add state number bytes line rest e = rw e refl

-- No bytes have no lines.
pub lines-none : {S : Type 0} (add : S → List (List ℕ) → Result S RowWhy) (state : S) (number : ℕ) → after_lines add state number (lines_of []) ≡ Ok state
unfolding after_lines lines_of
lines-none add state number = refl
