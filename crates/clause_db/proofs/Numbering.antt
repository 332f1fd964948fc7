-- The clause of a number, in two lists that are appended.
use Rattle.std.proofs.Common.{◌≡◌, ℕ, ◌-◌, ◌<◌, ◌≤◌, List, [], ◌∷◌, ◌++◌, length, None, zero, suc, refl, ap, arith}
use Rattle.clause_db.specs.declared.lit.Lit.{Lit}
use Rattle.clause_db.specs.Clause.{clause_at}

pub clause_at-zero : (clauses : List (List Lit)) → clause_at clauses 0 ≡ None
clause_at-zero [] = refl
clause_at-zero (c ∷ cs) = clause_at-zero cs

-- a number above the length of the first list counts on in the second
pub clause_at-after : (xs ys : List (List Lit)) (n : ℕ) → length xs < n → clause_at (xs ++ ys) n ≡ clause_at ys (n - length xs)
clause_at-after [] ys n h =
    let none : n ≡ n - length {A = List Lit} [] = omega arith in
    ap (clause_at ys) none
clause_at-after (x ∷ xs) ys zero h = absurd (omega arith)
clause_at-after (x ∷ xs) ys (suc zero) h = absurd (omega arith)
clause_at-after (x ∷ xs) ys (suc (suc n)) h =
    let r = clause_at-after xs ys (suc n) (omega arith) in
    let e : suc (suc n) - 1 ≡ suc n = omega arith in
    let f : suc (suc n) - length (x ∷ xs) ≡ suc n - length xs = omega arith in
    grind (arith, r, e, f)

-- a number within the first list is its own
pub clause_at-before : (xs ys : List (List Lit)) (n : ℕ) → 1 ≤ n → n ≤ length xs → clause_at (xs ++ ys) n ≡ clause_at xs n
clause_at-before [] ys n l h = absurd (omega arith)
clause_at-before (x ∷ xs) ys zero l h = absurd (omega arith)
clause_at-before (x ∷ xs) ys (suc zero) l h = refl
clause_at-before (x ∷ xs) ys (suc (suc n)) l h =
    let r = clause_at-before xs ys (suc n) (omega arith) (omega arith) in
    let e : suc (suc n) - 1 ≡ suc n = omega arith in
    grind (arith, r, e)

pub clause_at-past : (xs : List (List Lit)) (n : ℕ) → length xs < n → clause_at xs n ≡ None
clause_at-past [] n h = refl
clause_at-past (x ∷ xs) zero h = absurd (omega arith)
clause_at-past (x ∷ xs) (suc zero) h = absurd (omega arith)
clause_at-past (x ∷ xs) (suc (suc n)) h =
    let r = clause_at-past xs (suc n) (omega arith) in
    let e : suc (suc n) - 1 ≡ suc n = omega arith in
    grind (arith, r, e)
