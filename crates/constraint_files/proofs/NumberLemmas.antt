-- When a field is a number, digit by digit.
use Rattle.std.proofs.Common.{◌≡◌, ◌<◌, ◌≤◌, ◌+◌, ◌∷◌, ◌++◌, [], ℕ, List, Option, Some, None, true, false, zero, suc, refl, ap, add-one, arith, append_assoc, length, take, drop, get_or}
use Rattle.std.specs.Char.{is_ascii_digit}
use Rattle.std.specs.Option.{option_and_then, option_map}
use Rattle.std.specs.Str.{all_ascii_digits}
use Rattle.std.specs.Str.Parse.{digits_value}
use Rattle.std.proofs.lemmas.Bool.{and_right, lt-leb, le-leb}
use Rattle.std.proofs.lemmas.List.{drop_all}
use Rattle.std.proofs.lemmas.List.Recursion.{and_fails_at}
use Rattle.csv.specs.Records.{field_at}
use Rattle.pack_defs.proofs.Digits.{value-take}
use Rattle.constraint_files.specs.Field.{number, numbers}

-- A byte that is no digit.
pub bad-digit : (field : List ℕ) (i : ℕ) → i < length field → is_ascii_digit (get_or field i 0) ≡ false → number field ≡ None
unfolding number
bad-digit [] i h e = refl
bad-digit (c ∷ cs) i h e =
    rw (and_fails_at all_ascii_digits is_ascii_digit refl (λ x xs. refl) (c ∷ cs) i 0 h e) refl

-- The first digits are too large already.
pub too-large : (field : List ℕ) (k : ℕ) → 4294967295 < digits_value 10 (take k field) → number field ≡ None
unfolding number
too-large [] k h = refl
too-large (c ∷ cs) k h =
    let le = value-take 0 k (c ∷ cs) in
    let no = lt-leb (digits_value 10 (c ∷ cs)) 4294967295 (omega arith) in
    rw (no, and_right (all_ascii_digits (c ∷ cs)) false refl) refl

-- All digits, and no more than the greatest number.
pub all-digits : (field : List ℕ) → 0 < length field → all_ascii_digits field ≡ true → digits_value 10 field ≤ 4294967295
    → number field ≡ Some (digits_value 10 field)
unfolding number
all-digits [] h d le = absurd (omega arith)
all-digits (c ∷ cs) h d le = rw (d, le-leb (digits_value 10 (c ∷ cs)) 4294967295 le) refl

-- The numbers of the fields from a place on, by the first of them.
numbers-step : (fields : List (List ℕ)) (i : ℕ) → i < length fields
    → numbers (drop i fields) ≡ option_and_then (λ n. option_and_then (λ ns. Some (n ∷ ns)) (numbers (drop (suc i) fields))) (option_and_then number (field_at fields i))
unfolding numbers field_at
numbers-step [] i h = absurd (omega arith)
numbers-step (f ∷ fs) zero h = refl
numbers-step (f ∷ fs) (suc i) h = numbers-step fs i (omega arith)

-- The first of these fields is no number.
pub numbers-refused : (fields : List (List ℕ)) (i : ℕ) → i < length fields → option_and_then number (field_at fields i) ≡ None
    → numbers (drop i fields) ≡ None
numbers-refused fields i h e = rw (numbers-step fields i h, e) refl

-- One more number.
pub numbers-more : (fields : List (List ℕ)) (i n : ℕ) (before : List ℕ) → i < length fields → option_and_then number (field_at fields i) ≡ Some n
    → option_map (λ ns. (before ++ (n ∷ [])) ++ ns) (numbers (drop (i + 1) fields)) ≡ option_map (λ ns. before ++ ns) (numbers (drop i fields))
numbers-more fields i n before h e = rw (numbers-step fields i h, e, add-one) (go (numbers (drop (suc i) fields)))
  where
    go : (rest : Option (List ℕ)) → option_map (λ ns. (before ++ (n ∷ [])) ++ ns) rest ≡ option_map (λ ns. before ++ ns) (option_and_then (λ ns. Some (n ∷ ns)) rest)
    go None = refl
    go (Some ns) = ap Some (append_assoc before (n ∷ []) ns)

-- No field is left.
pub numbers-none : (fields : List (List ℕ)) (i : ℕ) → length fields ≤ i → numbers (drop i fields) ≡ Some []
unfolding numbers
numbers-none fields i h = rw (drop_all i fields h) refl
