-- For `digits`: numbers written to bytes are read back.
use Rattle.std.proofs.Common.{◌≡◌, ℕ, ◌+◌, ◌-◌, ◌*◌, ◌/◌, ◌%◌, ◌^◌, ◌<◌, ◌≤◌, nat_lt, Bool, true, false, if◌then◌else◌, List, [], ◌∷◌, ◌++◌, length, refl, sym, ap, ◌∙◌, subst, arith, append_assoc, append-nil}
use Rattle.std.proofs.Math.Nat.{mod-eq_of_lt}
use Rattle.std.proofs.lemmas.Bool.{le-ltb, lt-ltb}
use Rattle.std.proofs.lemmas.Nat.{div-add-mod', mul-le}
use Rattle.rup_check.specs.declared.digits.Digits.{Digits}
use Rattle.rup_check.specs.Packed.{Spells, digits_with, no_digits, numbers_from, numbers_of, with_digit}

-- one piece and then another
pub spells-both : (a b xs ys : List ℕ) → Spells a xs → Spells b ys → Spells (a ++ b) (xs ++ ys)
spells-both a b xs ys f g behind =
    ap numbers_of (append_assoc a b behind) ∙ f (b ++ behind) ∙ ap (λ (z : List ℕ). xs ++ z) (g behind) ∙ sym (append_assoc xs ys (numbers_of behind))

-- with no bytes after it
pub spells-alone : (a xs : List ℕ) → Spells a xs → numbers_of a ≡ xs
spells-alone a xs f = ap numbers_of (sym (append-nil a)) ∙ f [] ∙ append-nil xs

pub last-digit : (d : Digits) (b : ℕ) (bs : List ℕ) → nat_lt b 128 ≡ true → numbers_from d (b ∷ bs) ≡ with_digit d b ∷ numbers_from no_digits bs
last-digit d b bs e = ap (λ (t : Bool). if t then with_digit d b ∷ numbers_from no_digits bs else numbers_from (digits_with d (b - 128)) bs) e

pub more-digit : (d : Digits) (b : ℕ) (bs : List ℕ) → nat_lt b 128 ≡ false → numbers_from d (b ∷ bs) ≡ numbers_from (digits_with d (b - 128)) bs
more-digit d b bs e = ap (λ (t : Bool). if t then with_digit d b ∷ numbers_from no_digits bs else numbers_from (digits_with d (b - 128)) bs) e

-- a number that is partly written, with this rest
pub record Begun (old now : List ℕ) (rest number : ℕ) : Type 0 where
  pub more : List ℕ
  pub digits : Digits
  pub bytes : now ≡ old ++ more
  pub reads : (behind : List ℕ) → numbers_of (more ++ behind) ≡ numbers_from digits behind
  pub adds : digits.part + rest * digits.weight ≡ number
  pub weighs : 1 ≤ digits.weight

pub begun-first : (old : List ℕ) (number : ℕ) → Begun old old number number
begun-first old number = record {
  more = [];
  digits = no_digits;
  bytes = sym (append-nil old);
  reads = λ behind. refl;
  adds = omega arith;
  weighs = omega arith;
}

-- the parts of a sum below 2^64 are below it too
part_is : (part rest weight digit number : ℕ) → part + rest * weight ≡ number → number < 2 ^ 64 → digit ≤ rest → (part + (digit * weight) % 2 ^ 64) % 2 ^ 64 ≡ part + digit * weight
part_is part rest weight digit number e h d =
    let less : digit * weight ≤ rest * weight = mul-le digit weight rest weight d (omega arith) in
    ap (λ z. (part + z) % 2 ^ 64) (mod-eq_of_lt (omega (arith, less, e, h))) ∙ mod-eq_of_lt (omega (arith, less, e, h))

weight_is : (part rest weight number : ℕ) → part + rest * weight ≡ number → number < 2 ^ 64 → 128 ≤ rest → (weight * 128) % 2 ^ 64 ≡ weight * 128
weight_is part rest weight number e h d =
    let less : 128 * weight ≤ rest * weight = mul-le 128 weight rest weight d (omega arith) in
    mod-eq_of_lt (omega (arith, less, e, h))

sum_is : (part rest weight : ℕ) → part + (rest % 128) * weight + (rest / 128) * (weight * 128) ≡ part + rest * weight
sum_is part rest weight =
    let r = rest % 128 in
    let q = rest / 128 in
    let whole : q * 128 + r ≡ rest = div-add-mod' rest 128 in
    ring_is part q r weight ∙ ap (λ z. part + z * weight) whole
  where
    ring_is : (part q r weight : ℕ) → part + r * weight + q * (weight * 128) ≡ part + (q * 128 + r) * weight
    ring_is part q r weight = omega arith

is_digit : (rest : ℕ) → nat_lt (128 + rest % 128) 128 ≡ false
is_digit rest = le-ltb (128 + rest % 128) 128 (omega arith)

pub begun-more : (old now : List ℕ) (rest number : ℕ) → number < 2 ^ 64 → 128 ≤ rest → Begun old now rest number → Begun old (now ++ (128 + rest % 128) ∷ []) (rest / 128) number
begun-more old now rest number small many b =
    let d = b.digits in
    let byte = 128 + rest % 128 in
    let less : rest % 128 ≤ rest = omega arith in
    let digit : byte - 128 ≡ rest % 128 = omega arith in
    let weight : (d.weight * 128) % 2 ^ 64 ≡ d.weight * 128 = weight_is d.part rest d.weight number b.adds small many in
    record {
      more = b.more ++ byte ∷ [];
      digits = digits_with d (byte - 128);
      bytes = ap (λ (z : List ℕ). z ++ byte ∷ []) b.bytes ∙ append_assoc old b.more (byte ∷ []);
      reads = λ behind. ap numbers_of (append_assoc b.more (byte ∷ []) behind) ∙ b.reads (byte ∷ behind) ∙ more-digit d byte behind (is_digit rest);
      adds =
          ap (λ z. with_digit d z + (rest / 128) * ((d.weight * 128) % 2 ^ 64)) digit
          ∙ ap (λ z. z + (rest / 128) * ((d.weight * 128) % 2 ^ 64)) (part_is d.part rest d.weight (rest % 128) number b.adds small less)
          ∙ ap (λ z. d.part + (rest % 128) * d.weight + (rest / 128) * z) weight
          ∙ sum_is d.part rest d.weight
          ∙ b.adds;
      weighs = subst (λ z. 1 ≤ z) (sym weight) (omega (arith, b.weighs));
    }

pub begun-last : (old now : List ℕ) (rest number : ℕ) → number < 2 ^ 64 → rest < 128 → Begun old now rest number → (more : List ℕ) × (now ++ rest ∷ [] ≡ old ++ more) × Spells more (number ∷ [])
begun-last old now rest number small few b =
    let d = b.digits in
    let whole : with_digit d rest ≡ number = part_is d.part rest d.weight rest number b.adds small (omega arith) ∙ b.adds in (
      b.more ++ rest ∷ [],
      ap (λ (z : List ℕ). z ++ rest ∷ []) b.bytes ∙ append_assoc old b.more (rest ∷ []),
      λ behind. ap numbers_of (append_assoc b.more (rest ∷ []) behind) ∙ b.reads (rest ∷ behind) ∙ last-digit d rest behind (lt-ltb rest 128 few) ∙ ap (λ z. z ∷ numbers_of behind) whole,
    )

-- one more number after those that are written
pub spells-more : (old now new : List ℕ) (more one : List ℕ) (xs : List ℕ) (x : ℕ) → now ≡ old ++ more → new ≡ now ++ one → Spells more xs → Spells one (x ∷ []) → (all : List ℕ) × (new ≡ old ++ all) × Spells all (xs ++ x ∷ [])
spells-more old now new more one xs x e f s t =
    (more ++ one, f ∙ ap (λ (z : List ℕ). z ++ one) e ∙ append_assoc old more one, spells-both more one xs (x ∷ []) s t)

pub spells-none : Spells [] []
spells-none behind = refl

-- each number takes at least one byte
pub numbers-few : (d : Digits) (bytes : List ℕ) → length (numbers_from d bytes) ≤ length bytes
numbers-few d [] = omega arith
numbers-few d (b ∷ bs) = step (nat_lt b 128) (numbers-few no_digits bs) (numbers-few (digits_with d (b - 128)) bs)
  where
    step : (t : Bool) → length (numbers_from no_digits bs) ≤ length bs → length (numbers_from (digits_with d (b - 128)) bs) ≤ length bs → length (if t then with_digit d b ∷ numbers_from no_digits bs else numbers_from (digits_with d (b - 128)) bs) ≤ length (b ∷ bs)
    step true h k = omega (arith, h)
    step false h k = omega (arith, k)
