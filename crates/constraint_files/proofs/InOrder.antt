-- A sorted list without duplicates has what a tree has after the list's insertion.
use Rattle.std.proofs.Common.{◌≡◌, ◌||◌, ◌∙◌, ◌∷◌, [], List, Bool, true, false, Ordering, cond, refl, sym, ap, fold}
use Rattle.std.specs.declared.cmp.Ordering.TheVariants.{Less, Equal, Greater}
use Rattle.std.specs.Ordering.{eq_by_cmp, is_eq, match_ordering, ordering_reverse}
use Rattle.std.specs.Cmp.{IsTotalOrder}
use Rattle.std.specs.BTreeMap.{is_at}
use Rattle.std.specs.BTreeSet.{insert_key}
use Rattle.std.specs.List.{AllByRecursion, dedup, dedup_from, list_any}
use Rattle.std.specs.List.Sorted.{IsPermutation, IsSorted, IsStrictlySortedBy}
use Rattle.std.proofs.lemmas.List.Kept.{IsStrictlySortedBy-dedup}
use Rattle.std.proofs.lemmas.List.Sorted.{list_any-IsPermutation}
use Rattle.std.proofs.lemmas.Map.Lookups.{CmpEqualImpliesEq, btree_set_from_contains}
use Rattle.std.proofs.lemmas.Map.Views.{tells_apart}
use Rattle.std.proofs.Math.Bool.{or-false}
use Rattle.pack_defs.proofs.Words.{swap_or, or_turned}

or-twice : (a b : Bool) → (a || b) ≡ (a || (a || b))
or-twice true b = refl
or-twice false b = refl

module _ {K : Type 0} {R : K → K → Ordering} (o : IsTotalOrder R) (exact : CmpEqualImpliesEq R) where
  abbrev has : List K → K → Bool
  has ks q = list_any (is_at (R q)) ks

  has-insert : (ks : List K) (k q : K) → has (insert_key R ks k) q ≡ (is_eq (R q k) || has ks q)
  has-insert [] k q = refl
  has-insert (x ∷ xs) k q = go (R k x) refl (has-insert xs k q)
    where
      go : (r : Ordering) → R k x ≡ r → has (insert_key R xs k) q ≡ (is_eq (R q k) || has xs q) → has (match_ordering r (k ∷ x ∷ xs) (x ∷ xs) (x ∷ insert_key R xs k)) q ≡ (is_eq (R q k) || has (x ∷ xs) q)
      go Less is later = refl
      go Equal is later =
          let same : k ≡ x = exact k x is in
          rw same (or-twice (is_eq (R q x)) (has xs q))
      go Greater is later = ap (λ b. is_eq (R q x) || b) later ∙ swap_or (is_eq (R q x)) (is_eq (R q k)) (has xs q)

  has-all : (ks ps : List K) (q : K) → has (fold (insert_key R) ks ps) q ≡ (has ps q || has ks q)
  has-all ks [] q = refl
  has-all ks (p ∷ ps) q =
      has-all (insert_key R ks p) ps q ∙ ap (λ b. has ps q || b) (has-insert ks p q) ∙ or_turned (has ps q) (is_eq (R q p)) (has ks q)

  weaker : (k x : K) → R k x ≡ Less → (xs : List K) → AllByRecursion (λ y. R x y ≡ Less) xs → AllByRecursion (λ y. R k y ≡ Less) xs
  weaker k x below [] all = tt
  weaker k x below (y ∷ ys) all = (o.trans k x y below all.0, weaker k x below ys all.1)

  insert-all : (P : K → Type 0) (ks : List K) (k : K) → AllByRecursion P ks → P k → AllByRecursion P (insert_key R ks k)
  insert-all P [] k all one = (one, tt)
  insert-all P (x ∷ xs) k all one = go (R k x) (insert-all P xs k all.1 one)
    where
      go : (r : Ordering) → AllByRecursion P (insert_key R xs k) → AllByRecursion P (match_ordering r (k ∷ x ∷ xs) (x ∷ xs) (x ∷ insert_key R xs k))
      go Less later = (one, all)
      go Equal later = all
      go Greater later = (all.0, later)

  insert-sorted : (ks : List K) (k : K) → IsStrictlySortedBy R ks → IsStrictlySortedBy R (insert_key R ks k)
  unfolding IsStrictlySortedBy
  insert-sorted [] k up = (tt, tt)
  insert-sorted (x ∷ xs) k up = go (R k x) refl (insert-sorted xs k up.1)
    where
      go : (r : Ordering) → R k x ≡ r → IsStrictlySortedBy R (insert_key R xs k) → IsStrictlySortedBy R (match_ordering r (k ∷ x ∷ xs) (x ∷ xs) (x ∷ insert_key R xs k))
      go Less is later = ((is, weaker k x is xs up.0), up)
      go Equal is later = up
      go Greater is later = (insert-all (λ y. R x y ≡ Less) xs k up.0 (o.antisymm x k ∙ ap ordering_reverse is), later)

  none-sorted : IsStrictlySortedBy R []
  unfolding IsStrictlySortedBy
  none-sorted = tt

  all-sorted : (ks ps : List K) → IsStrictlySortedBy R ks → IsStrictlySortedBy R (fold (insert_key R) ks ps)
  all-sorted ks [] up = up
  all-sorted ks (p ∷ ps) up = all-sorted (insert_key R ks p) ps (insert-sorted ks p up)

  module _ {E : K → K → Bool} (ties : (x y : K) → E x y ≡ eq_by_cmp R x y) where
    has-from : (k : K) (xs : List K) (q : K) → has (dedup_from E k xs) q ≡ (is_eq (R q k) || has xs q)
    has-from k [] q = refl
    has-from k (x ∷ xs) q = go (E x k) refl (has-from k xs q) (has-from x xs q)
      where
        go : (b : Bool) → E x k ≡ b → has (dedup_from E k xs) q ≡ (is_eq (R q k) || has xs q) → has (dedup_from E x xs) q ≡ (is_eq (R q x) || has xs q) → has (cond b (dedup_from E k xs) (k ∷ dedup_from E x xs)) q ≡ (is_eq (R q k) || has (x ∷ xs) q)
        go true is here later =
            let same : x ≡ k = tells_apart exact x k (sym (ties x k) ∙ is) in
            rw same (here ∙ or-twice (is_eq (R q k)) (has xs q))
        go false is here later = ap (λ b. is_eq (R q k) || b) later

    has-dedup : (xs : List K) (q : K) → has (dedup E xs) q ≡ has xs q
    has-dedup [] q = refl
    has-dedup (x ∷ xs) q = has-from x xs q

    pub put-in-order : (xs ys zs : List K) → IsPermutation xs ys → IsSorted R ys → zs ≡ dedup E ys → zs ≡ fold (insert_key R) [] xs
    put-in-order xs ys zs moved sorted is =
        btree_set_from_contains o (record { keys = zs }) (record { keys = fold (insert_key R) [] xs })
        (rw is (IsStrictlySortedBy-dedup o ties ys sorted))
        (all-sorted [] xs none-sorted)
        (λ q. rw is (has-dedup ys q) ∙ sym (list_any-IsPermutation (is_at (R q)) xs ys moved) ∙ sym (or-false (has xs q)) ∙ sym (has-all [] xs q))
        exact
