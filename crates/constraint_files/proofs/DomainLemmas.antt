-- The channels of a domain, and domains in order.
use Rattle.std.proofs.Common.{◌≡◌, ◌<◌, ◌≤◌, ◌+◌, ◌-◌, ◌∷◌, ◌++◌, [], ℕ, List, Bool, Some, None, Err, cond, codes, zero, suc, refl, arith, filter, drop}
use Rattle.std.specs.List.{range_with_len}
use Rattle.std.specs.Option.{ok_or, option_and_then}
use Rattle.std.specs.Str.{bytes_eq}
use Rattle.std.proofs.lemmas.List.{map-id}
use Rattle.std.proofs.lemmas.List.FromFn.{filter_of_map_range_with_len_more}
use Rattle.csv.specs.Records.{field_at}
use Rattle.constraint_files.specs.Domains.{channels_to_keep, domain_with_channels, domain_row}
use Rattle.constraint_files.specs.Field.{number, numbers}
use Rattle.pack_defs.specs.Steps.{◌>>=◌}
use Rattle.constraint_files.specs.declared.error.RowWhy.TheVariants.{ShortRow, BadKey, BadNumber}

-- A filter of a range depends only on the test's values in the range.
filter-range : (p q : ℕ → Bool) (a n : ℕ) → ((c : ℕ) → a ≤ c → c < a + n → p c ≡ q c) → filter p (range_with_len a n) ≡ filter q (range_with_len a n)
filter-range p q a zero same = refl
filter-range p q a (suc n) same =
    rw (same a (omega arith) (omega arith), filter-range p q (a + 1) n (λ c low high. same c (omega arith) (omega arith))) refl

pub same-kept : (p q : ℕ → Bool) → ((c : ℕ) → c < 52 → p c ≡ q c) → filter p channels_to_keep ≡ filter q channels_to_keep
unfolding channels_to_keep
same-kept p q same = filter-range p q 14 38 (λ c low high. same c (omega arith))

-- The kept channels below j.
abbrev pub kept_below : (ℕ → Bool) → ℕ → List ℕ
kept_below p j = filter p (range_with_len 14 (j - 14))

pub kept-more : (p : ℕ → Bool) (j : ℕ) → 14 ≤ j → kept_below p (j + 1) ≡ kept_below p j ++ cond (p j) (j ∷ []) []
kept-more p j h =
    let e : j + 1 - 14 ≡ j - 14 + 1 = omega arith in
    let step = filter_of_map_range_with_len_more p (λ (x : ℕ). x) 14 (j - 14) j (omega arith) in
    rw e (simp map-id at step)

pub kept-all : (p : ℕ → Bool) (j : ℕ) → j ≡ 52 → kept_below p j ≡ filter p channels_to_keep
unfolding channels_to_keep
kept-all p j e = rw e refl

-- The domain of a record, by its first fields.
pub without-first : (fields : List (List ℕ)) → field_at fields 0 ≡ None → domain_row fields ≡ Err ShortRow
unfolding domain_row field_at
without-first [] e = refl
without-first (key ∷ fields) e = cc

pub without-second : (fields : List (List ℕ)) → field_at fields 1 ≡ None → domain_row fields ≡ Err ShortRow
unfolding domain_row field_at
without-second [] e = refl
without-second (key ∷ []) e = refl
without-second (key ∷ facility ∷ channels) e = cc

some-key : (x y : List ℕ) → Some x ≡ Some y → x ≡ y
some-key x y e = cc

pub domain_row-is : (fields : List (List ℕ)) (key second : List ℕ) → field_at fields 0 ≡ Some key → field_at fields 1 ≡ Some second → domain_row fields
    ≡ cond (bytes_eq key (codes "DOMAIN"))
    (ok_or (option_and_then number (field_at fields 1)) BadNumber >>= (λ station. ok_or (numbers (drop 2 fields)) BadNumber >>= domain_with_channels station))
    (Err BadKey)
unfolding domain_row field_at
domain_row-is [] key second e h = cc
domain_row-is (k ∷ []) key second e h = cc
domain_row-is (k ∷ facility ∷ channels) key second e h = rw (some-key k key e) refl
