-- The first field of a line, read as a number digit by digit; for the contracts of `log_field`.
use Rattle.std.proofs.Common.{◌≡◌, ◌<◌, ◌≤◌, add-one, ◌+◌, ◌-◌, ◌∙◌, ◌∷◌, [], ℕ, List, true, false, zero, suc, Some, refl, sym, subst, arith, length, take, drop, get_or, ne_eqb, eq-eqb}
use Rattle.std.specs.Char.{is_ascii_digit}
use Rattle.std.specs.Str.{all_ascii_digits}
use Rattle.std.specs.Str.Parse.{digits_value}
use Rattle.std.proofs.lemmas.Bool.{and_parts, leb-true}
use Rattle.std.proofs.lemmas.List.{take_all}
use Rattle.std.specs.List.{slice_get}
use Rattle.lrat_text.specs.declared.field.Field.TheVariants.{Number}
use Rattle.lrat_text.specs.Lines.{fields_of, pieces, is_space}
use Rattle.lrat_text.specs.Read.{field_of}
use Rattle.lrat_text.specs.Write.{greatest}
use Rattle.lrat_text.proofs.DigitLemmas.{all-within}
use Rattle.lrat_text.proofs.SplitLemmas.{piece-at, one-piece}
use Rattle.transcript_text.specs.Fields.{IsNumeral, is_plainly_spelled, plain_field}
use Rattle.transcript_text.proofs.FieldReads.{plain}

-- A digit's byte is at most that of 9.
pub digit-most : (c : ℕ) → is_ascii_digit c ≡ true → c ≤ 57
digit-most c h = leb-true c 57 (and_parts _ _ h).1

digit-no-space : (c : ℕ) → is_ascii_digit c ≡ true → is_space c ≡ false
digit-no-space c h =
    let low = leb-true 48 c (and_parts _ _ h).0 in
    ne_eqb c 32 (λ e. absurd (omega (arith, low, e)))

-- No digit at the start of a text is a space.
pub no-space : (text : List ℕ) (i : ℕ) → all_ascii_digits (take i text) ≡ true → (k : ℕ) → k < i → k < length text → is_space (get_or text k 0) ≡ false
no-space [] i h k l m = absurd (omega (arith, m))
no-space (c ∷ text) zero h k l m = absurd (omega (arith, l))
no-space (c ∷ text) (suc i) h zero l m = digit-no-space c (and_parts _ _ h).0
no-space (c ∷ text) (suc i) h (suc k) l m = no-space text i (and_parts _ _ h).1 k (omega (arith, l)) (omega (arith, m))

-- Digits before a space are the first field.
pub digits-space : (text : List ℕ) (i : ℕ) → i < length text → get_or text i 0 ≡ 32 → all_ascii_digits (take i text) ≡ true
    → fields_of text ≡ take i text ∷ fields_of (drop (suc i) text)
digits-space text i h e d = piece-at is_space text i h (eq-eqb (get_or text i 0) 32 e) (λ k l. no-space text i d k l (omega (arith, l, h)))

-- Digits up to the end are the only field.
pub digits-end : (text : List ℕ) (i : ℕ) → length text ≤ i → all_ascii_digits (take i text) ≡ true → fields_of text ≡ take i text ∷ []
digits-end text i h d =
    let all : take i text ≡ text = take_all i text h in
    rw all (one-piece is_space text (λ k l. no-space text i d k (omega (arith, l, h)) l))

same-byte : (c x : ℕ) → Some c ≡ Some x → c ≡ x
same-byte c x e = cc

pub first-byte : (text : List ℕ) (x : ℕ) → slice_get text 0 ≡ Some x → (x ≡ 48 → ⊥) → get_or text 0 0 ≡ 48 → ⊥
first-byte [] x e ne q = absurd cc
first-byte (c ∷ text) x e ne q = ne (sym (same-byte c x e) ∙ q)

first-digit : (text : List ℕ) (i : ℕ) → 0 < length (take i text) → all_ascii_digits (take i text) ≡ true → (get_or text 0 0 ≡ 48 → ⊥)
    → 48 < get_or (take i text) 0 0
first-digit [] zero some d ne = absurd (omega (arith, some))
first-digit [] (suc i) some d ne = absurd (omega (arith, some))
first-digit (c ∷ text) zero some d ne = absurd (omega (arith, some))
first-digit (c ∷ text) (suc i) some d ne =
    let low = leb-true 48 c (and_parts _ _ (and_parts _ _ d).0).0 in
    omega (arith, low, ne)

-- A value above 0 has digits.
pub some-digits : (ds : List ℕ) → 0 < digits_value 10 ds → 0 < length ds
some-digits [] h = absurd (omega (arith, h))
some-digits (c ∷ ds) h = omega arith

pub numeral : (text : List ℕ) (i n : ℕ) → all_ascii_digits (take i text) ≡ true → n ≡ digits_value 10 (take i text) → n ≤ greatest → (n ≡ 0 → ⊥) → (get_or text 0 0 ≡ 48 → ⊥)
    → IsNumeral (take i text) n
numeral text i n d v le ne first =
    let some : 0 < length (take i text) = some-digits (take i text) (omega (arith, v, ne)) in
    (some, first-digit text i some d first, d, rw v (all-within greatest (take i text) some d (omega (arith, v, le))), omega (arith, ne))

-- ---- with and without a sign

pub unsigned : (ds : List ℕ) (n : ℕ) → IsNumeral ds n → plain_field ds ≡ Some (Number (record { var = n; positive = true }))
unfolding plain_field field_of
unsigned [] n h = absurd (omega (arith, h.0))
unsigned (c ∷ ds) n h =
    rw (plain (c ∷ ds) h.0 h.1, ne_eqb c 45 (λ e. absurd (omega (arith, e, h.1))), h.3, ne_eqb n 0 (λ e. absurd (omega (arith, e, h.4)))) refl

minus-plain : (ds : List ℕ) → 0 < length ds → 48 < get_or ds 0 0 → is_plainly_spelled (45 ∷ ds) ≡ true
minus-plain [] some big = absurd (omega (arith, some))
minus-plain (d ∷ ds) some big = rw (ne_eqb d 48 (λ e. absurd (omega (arith, e, big)))) refl

negative : (ds : List ℕ) (n : ℕ) → IsNumeral ds n → plain_field (45 ∷ ds) ≡ Some (Number (record { var = n; positive = false }))
unfolding plain_field field_of
negative ds n h = rw (minus-plain ds h.0 h.1, h.3, ne_eqb n 0 (λ e. absurd (omega (arith, e, h.4)))) refl

-- A minus sign before the first field belongs to the field.
behind-minus : (text field : List ℕ) (fields : List (List ℕ)) → fields_of text ≡ field ∷ fields → fields_of (45 ∷ text) ≡ (45 ∷ field) ∷ fields
unfolding pieces
behind-minus text field fields e = rw e refl

-- A text without its first byte.
abbrev pub behind_first : List ℕ → List ℕ
behind_first text = take (length text - 1) (drop 1 text)

behind-is : (c : ℕ) (text : List ℕ) → behind_first (c ∷ text) ≡ text
behind-is c text = take_all (length (c ∷ text) - 1) text (omega arith)

pub minus-fields : (text : List ℕ) (i x : ℕ) (fields : List (List ℕ)) → slice_get text 0 ≡ Some x → x ≡ 45 → fields_of (behind_first text) ≡ take i (behind_first text) ∷ fields
    → fields_of text ≡ take (i + 1) text ∷ fields
minus-fields [] i x fields e q h = absurd cc
minus-fields (c ∷ text) i x fields e q h =
    let same : c ≡ 45 = same-byte c x e ∙ q in
    let h' = rw (behind-is c text) at h in
    rw (add-one, same) (behind-minus text (take i text) fields h')

pub minus-said : (text : List ℕ) (i x n : ℕ) → slice_get text 0 ≡ Some x → x ≡ 45 → IsNumeral (take i (behind_first text)) n
    → plain_field (take (i + 1) text) ≡ Some (Number (record { var = n; positive = false }))
minus-said [] i x n e q h = absurd cc
minus-said (c ∷ text) i x n e q h =
    let same : c ≡ 45 = same-byte c x e ∙ q in
    let h' = subst (λ rest. IsNumeral (take i rest) n) (behind-is c text) h in
    rw (add-one, same) (negative (take i text) n h')
