-- How the numbers of a log's lines are stored in bytes: seven bits a byte, the least first, and 128 added to each byte except a
-- number's last (LEB128).
use Rattle.std.specs.Prelude.{ℕ, ◌+◌, ◌-◌, ◌*◌, ◌/◌, ◌%◌, ◌^◌, ◌==◌, ◌≡◌, ◌≤◌, nat_lt, true, false, if◌then◌else◌, Option, Some, None, List, [], ◌∷◌, ◌++◌, map, slice_index_or, slice_range}
use Rattle.clause_db.specs.declared.lit.Lit.{Lit}
use Rattle.rup_check.specs.declared.line.Line.{Line}
use Rattle.rup_check.specs.declared.digits.Digits.{Digits}
use Rattle.rup_check.specs.declared.lines.Span.{Span}

-- The state in which nothing of a number is read.
abbrev pub no_digits : Digits
no_digits = record { part = 0; weight = 1 }

-- The value of a number after one more digit.
abbrev pub with_digit : Digits → ℕ → ℕ
with_digit d digit = (d.part + (digit * d.weight) % 2 ^ 64) % 2 ^ 64

-- The state after one more digit that is not the last.
abbrev pub digits_with : Digits → ℕ → Digits
digits_with d digit = record { part = with_digit d digit; weight = (d.weight * 128) % 2 ^ 64 }

-- What one more byte leads to: the number if the byte is its last, or else the next state.
abbrev pub TakesByte : Digits → Digits → ℕ → Option ℕ → Type 0
TakesByte old new b None = (nat_lt b 128 ≡ false) × (new ≡ digits_with old (b - 128))
TakesByte old new b (Some n) = (nat_lt b 128 ≡ true) × (n ≡ with_digit old b)

-- The numbers that the bytes encode, if the first is partly read.
abbrev pub numbers_from : Digits → List ℕ → List ℕ
numbers_from d [] = []
numbers_from d (b ∷ bs) =
    if nat_lt b 128 then with_digit d b ∷ numbers_from no_digits bs else numbers_from (digits_with d (b - 128)) bs

-- The numbers that the bytes encode.
abbrev pub numbers_of : List ℕ → List ℕ
numbers_of bytes = numbers_from no_digits bytes

-- Whether the bytes encode these numbers, whatever bytes follow.
abbrev pub Spells : List ℕ → List ℕ → Type 0
Spells bytes numbers = (behind : List ℕ) → numbers_of (bytes ++ behind) ≡ numbers ++ numbers_of behind

-- The number that encodes a literal: twice its variable, plus 1 if it is positive.
abbrev pub number_of_lit : Lit → ℕ
number_of_lit l = if l.positive then 2 * l.var + 1 else 2 * l.var

-- The literal that a number encodes.
abbrev pub lit_of_number : ℕ → Lit
lit_of_number n = record { var = n / 2; positive = n % 2 == 1 }

-- The literals that the bytes encode.
abbrev pub lits_spelled : List ℕ → List Lit
lits_spelled bytes = map lit_of_number (numbers_of bytes)

-- The line whose literals and hints these bytes encode.
abbrev pub line_in : List ℕ → Span → Line
line_in bytes s = record { lits = lits_spelled (slice_range bytes s.lits s.hints); hints = numbers_of (slice_range bytes s.hints s.end) }

-- Whether the places are in order and within the bytes.
abbrev pub IsWithin : ℕ → Span → Type 0
IsWithin length s = (s.lits ≤ s.hints) × (s.hints ≤ s.end) × (s.end ≤ length)

-- A line without literals and hints.
abbrev pub no_line : Line
no_line = record { lits = []; hints = [] }

-- The line at a place, from 0, or one without literals and hints if the place is after the last.
abbrev pub line_at : List Line → ℕ → Line
line_at lines i = slice_index_or lines i no_line
