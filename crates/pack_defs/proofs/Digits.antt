-- Numbers that are read digit by digit, for every reader of this project.
use Rattle.std.proofs.Common.{◌≡◌, ◌<◌, ◌≤◌, ◌+◌, ◌-◌, ◌*◌, ◌∷◌, [], ℕ, List, true, zero, suc, refl, arith, length, take, get_or}
use Rattle.std.specs.Char.{digit_value, is_ascii_digit}
use Rattle.std.specs.Str.{all_ascii_digits}
use Rattle.std.specs.Str.Parse.{digits_value, digits_value_after}
use Rattle.std.proofs.lemmas.Bool.{and_parts, leb-true, le-ltb, lt-ltb}
use Rattle.std.proofs.lemmas.List.{take_more}
use Rattle.std.proofs.lemmas.List.Recursion.{and_push}
use Rattle.std.proofs.lemmas.Int.Digits.{digits_value_more}
use Rattle.std.proofs.lemmas.Str.Parse.{IsNumeralModel, numerals_by_value, tells_all_ascii_digits}

-- The value of a digit.
pub digit-value : (c : ℕ) → is_ascii_digit c ≡ true → (48 ≤ c) × (c ≤ 57) × (digit_value c ≡ c - 48)
digit-value c h =
    let parts = and_parts _ _ h in
    let low = leb-true 48 c parts.0 in
    let high = leb-true c 57 parts.1 in
    (low, high, rw (le-ltb c 48 low, lt-ltb c 58 (omega arith)) refl)

-- One more digit never lowers a value.
value-ge : (n : ℕ) (ds : List ℕ) → n ≤ digits_value_after 10 n ds
value-ge n [] = omega arith
value-ge n (c ∷ cs) = omega (arith, value-ge (n * 10 + digit_value c) cs)

pub value-take : (n k : ℕ) (ds : List ℕ) → digits_value_after 10 n (take k ds) ≤ digits_value_after 10 n ds
value-take n zero ds = value-ge n ds
value-take n (suc k) [] = omega arith
value-take n (suc k) (c ∷ cs) = value-take (n * 10 + digit_value c) k cs

-- One more digit.
pub more-digits : (field : List ℕ) (i : ℕ) → i < length field → is_ascii_digit (get_or field i 0) ≡ true → all_ascii_digits (take i field) ≡ true
    → all_ascii_digits (take (i + 1) field) ≡ true
more-digits field i h d before =
    rw (take_more field i 0 h, and_push all_ascii_digits is_ascii_digit refl (λ x xs. refl) (take i field) (get_or field i 0), before, d) refl

pub more-value : (field : List ℕ) (i : ℕ) → i < length field → is_ascii_digit (get_or field i 0) ≡ true
    → digits_value 10 (take (i + 1) field) ≡ 10 * digits_value 10 (take i field) + (get_or field i 0 - 48)
more-value field i h d =
    let step = digits_value_more 10 field i h in
    let worth = digit-value (get_or field i 0) d in
    omega (arith, step, worth.2)

-- The value of a numeral determines its digits.
pub own-numerals : IsNumeralModel (λ ds. all_ascii_digits ds ≡ true) (digits_value 10)
own-numerals = numerals_by_value _ tells_all_ascii_digits
