-- The order of pairs in a tree is the order of the definitions.
use Rattle.std.proofs.Common.{◌≡◌, ◌<◌, ◌≤◌, ◌+◌, ◌&&◌, ◌||◌, ◌∷◌, [], ℕ, List, Bool, true, false, Ordering, refl, sym, arith, cond, fold, length, nat_cmp, eqb, ltb}
use Rattle.std.specs.declared.cmp.Ordering.TheVariants.{Less, Equal, Greater}
use Rattle.std.specs.Ordering.{ordering_then}
use Rattle.std.specs.BTreeSet.{insert_key}
use Rattle.std.proofs.lemmas.Bool.{eq-eqb, le-ltb, lt-ltb, ne_eqb}
use Rattle.std.proofs.lemmas.Cmp.{by_ranked, ranked}
use Rattle.pack_defs.specs.Book.{comes_before}
use Rattle.pack_defs.specs.declared.pair.Pair.{Pair}
use Rattle.pack_defs.proofs.Searches.{pair_cmp}
use Rattle.constraint_files.specs.PairTable.{with_pair}

-- What the result of a comparison says about "the second before the first" and "the first before the second".
abbrev Ranks : Bool → Bool → Ordering → Type 0
Ranks after before Less = (after ≡ false) × (before ≡ true)
Ranks after before Equal = (after ≡ false) × (before ≡ false)
Ranks after before Greater = after ≡ true

by-numbers : (x y : ℕ) → Ranks (ltb y x) (ltb x y) (nat_cmp x y)
by-numbers x y = by_ranked (x < y) (x ≡ y) (y < x) (nat_cmp x y) (ranked x y (nat_cmp x y) refl)
    (λ is less. rw is (le-ltb y x (omega arith), lt-ltb x y less))
    (λ is same. rw is (le-ltb y x (omega arith), le-ltb x y (omega arith)))
    (λ is more. rw is (lt-ltb y x more))

by-first : (x y : ℕ) (after before : Bool) (o : Ordering) → Ranks after before o
    → Ranks (ltb y x || (eqb y x && after)) (ltb x y || (eqb x y && before)) (ordering_then (nat_cmp x y) o)
by-first x y after before o rest = by_ranked (x < y) (x ≡ y) (y < x) (nat_cmp x y) (ranked x y (nat_cmp x y) refl)
    (λ is less. rw (is, le-ltb y x (omega arith), ne_eqb y x (λ e. absurd (omega arith)), lt-ltb x y less) (refl, refl))
    (λ is same. rw (is, le-ltb y x (omega arith), eq-eqb y x (sym same), le-ltb x y (omega arith), eq-eqb x y same) rest)
    (λ is more. rw (is, lt-ltb y x more) refl)

ranks : (p q : Pair) → Ranks (comes_before q p) (comes_before p q) (pair_cmp p q)
ranks p q =
    by-first p.f q.f _ _ (ordering_then (nat_cmp p.a q.a) (ordering_then (nat_cmp p.g q.g) (nat_cmp p.b q.b)))
    (by-first p.a q.a _ _ (ordering_then (nat_cmp p.g q.g) (nat_cmp p.b q.b))
    (by-first p.g q.g _ _ (nat_cmp p.b q.b) (by-numbers p.b q.b)))

-- The tree inserts a pair where `with_pair` does.
pub insert-pair : (ps : List Pair) (p : Pair) → insert_key pair_cmp ps p ≡ with_pair ps p
insert-pair [] p = refl
insert-pair (q ∷ qs) p = go (pair_cmp p q) refl (ranks p q) (insert-pair qs p)
  where
    go : (o : Ordering) → pair_cmp p q ≡ o → Ranks (comes_before q p) (comes_before p q) o → insert_key pair_cmp qs p ≡ with_pair qs p
        → insert_key pair_cmp (q ∷ qs) p ≡ with_pair (q ∷ qs) p
    go Less is r later = rw (is, r.0, r.1) refl
    go Equal is r later = rw (is, r.0, r.1) refl
    go Greater is r later = rw (is, r, later) refl

-- The same for several pairs.
pub insert-pairs : (ks ps : List Pair) → fold (insert_key pair_cmp) ks ps ≡ fold with_pair ks ps
insert-pairs ks [] = refl
insert-pairs ks (p ∷ ps) = rw (insert-pair ks p) (insert-pairs (with_pair ks p) ps)

-- One more pair.
pub with-few : (ks : List Pair) (p : Pair) → length (with_pair ks p) ≤ length ks + 1
with-few [] p = omega arith
with-few (q ∷ qs) p = go (comes_before q p) (comes_before p q) (with-few qs p)
  where
    go : (after before : Bool) → length (with_pair qs p) ≤ length qs + 1 → length (cond after (q ∷ with_pair qs p) (cond before (p ∷ q ∷ qs) (q ∷ qs))) ≤ length (q ∷ qs) + 1
    go true before later = omega (arith, later)
    go false true later = omega arith
    go false false later = omega arith

-- The pairs are at most as many as were inserted.
pub puts-few : (ks ps : List Pair) → length (fold with_pair ks ps) ≤ length ks + length ps
puts-few ks [] = omega arith
puts-few ks (p ∷ ps) = omega (arith, puts-few (with_pair ks p) ps, with-few ks p)

pub none-left : (ks : List Pair) → length ks ≡ 0 → ks ≡ []
none-left [] e = refl
none-left (k ∷ ks) e = absurd (omega (arith, e))
