-- When a field is a number, digit by digit.
use Rattle.std.proofs.Common.{◌≡◌, ◌<◌, ◌≤◌, ◌∷◌, [], ℕ, List, Some, None, true, false, refl, arith, length, take, get_or}
use Rattle.std.specs.Char.{is_ascii_digit}
use Rattle.std.specs.Str.{all_ascii_digits}
use Rattle.std.specs.Str.Parse.{digits_value}
use Rattle.std.proofs.lemmas.Bool.{and_right, lt-leb, le-leb}
use Rattle.std.proofs.lemmas.List.Recursion.{and_fails_at}
use Rattle.pack_defs.proofs.Digits.{value-take}
use Rattle.lrat_text.specs.Read.{natural}

-- A byte that is no digit.
pub bad-digit : (most : ℕ) (field : List ℕ) (i : ℕ) → i < length field → is_ascii_digit (get_or field i 0) ≡ false → natural most field ≡ None
unfolding natural
bad-digit most [] i h e = refl
bad-digit most (c ∷ cs) i h e =
    rw (and_fails_at all_ascii_digits is_ascii_digit refl (λ x xs. refl) (c ∷ cs) i 0 h e) refl

-- The first digits already exceed the bound.
pub too-large : (most : ℕ) (field : List ℕ) (k : ℕ) → most < digits_value 10 (take k field) → natural most field ≡ None
unfolding natural
too-large most [] k h = refl
too-large most (c ∷ cs) k h =
    let le = value-take 0 k (c ∷ cs) in
    let no = lt-leb (digits_value 10 (c ∷ cs)) most (omega arith) in
    rw (no, and_right (all_ascii_digits (c ∷ cs)) false refl) refl

-- All bytes are digits, and their value is within the bound.
pub all-within : (most : ℕ) (field : List ℕ) → 0 < length field → all_ascii_digits field ≡ true → digits_value 10 field ≤ most
    → natural most field ≡ Some (digits_value 10 field)
unfolding natural
all-within most [] h d le = absurd (omega arith)
all-within most (c ∷ cs) h d le = rw (d, le-leb (digits_value 10 (c ∷ cs)) most le) refl
