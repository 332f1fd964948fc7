-- Blanks at the start and at the end of a field, and empty fields at the end of a record.
use Rattle.std.proofs.Common.{◌≡◌, ◌∙◌, ◌<◌, ◌≤◌, ◌+◌, ◌-◌, add-one, ◌++◌, ◌∷◌, [], ℕ, List, Bool, Some, None, true, false, zero, suc, refl, sym, ap, arith, length, take, drop, get_or, map, reverse, cond}
use Rattle.std.specs.Option.{option_map, option_map_or}
use Rattle.std.proofs.lemmas.List.{drop_all, drop_more, reverse-append, reverse-reverse, take_more}
use Rattle.pack_defs.specs.Lists.{is_empty}
use Rattle.csv.specs.Records.{field_at}
use Rattle.constraint_files.specs.Records.{trimmed, without_leading, without_trailing}

-- One more item at the end: it is dropped, or all stay.
pub trailing-more : {A : Type 0} (p : A → Bool) (xs : List A) (x : A) → without_trailing p (xs ++ (x ∷ [])) ≡ cond (p x) (without_trailing p xs) (xs ++ (x ∷ []))
unfolding without_trailing
trailing-more p xs x = rw (reverse-append xs (x ∷ [])) (go (p x))
  where
    go : (b : Bool) → reverse (cond b (without_leading p (reverse xs)) (x ∷ reverse xs)) ≡ cond b (reverse (without_leading p (reverse xs))) (xs ++ (x ∷ []))
    go true = refl
    go false = ap reverse (sym (reverse-append xs (x ∷ []))) ∙ reverse-reverse (xs ++ (x ∷ []))

-- The first items pass.
pub leading-next : {A : Type 0} (p : A → Bool) (xs : List A) (i : ℕ) (d : A) → i < length xs → p (get_or xs i d) ≡ true → without_leading p (drop i xs) ≡ without_leading p (drop (i + 1) xs)
leading-next p xs i d h e = rw (drop_more xs i d h, e) refl

-- An item doesn't pass.
pub leading-stop : {A : Type 0} (p : A → Bool) (xs : List A) (i : ℕ) (d : A) → i < length xs → p (get_or xs i d) ≡ false → without_leading p (drop i xs) ≡ drop i xs
leading-stop p xs i d h e = rw (drop_more xs i d h, e) refl

pub leading-none : {A : Type 0} (p : A → Bool) (xs : List A) (i : ℕ) → length xs ≤ i → without_leading p (drop i xs) ≡ []
leading-none p xs i h = rw (drop_all i xs h) refl

-- The last item passes.
pub trailing-next : {A : Type 0} (p : A → Bool) (xs : List A) (end : ℕ) (d : A) → 0 < end → end ≤ length xs → p (get_or xs (end - 1) d) ≡ true
    → without_trailing p (take end xs) ≡ without_trailing p (take (end - 1) xs)
trailing-next p xs zero d some h e = absurd (omega arith)
trailing-next p xs (suc n) d some h e =
    let less : suc n - 1 ≡ n = omega arith in
    let step = take_more xs n d (omega arith) in
    rw (less, rw add-one at step, trailing-more p (take n xs) (get_or xs n d), rw less at e) refl

-- The last item doesn't pass.
pub trailing-stop : {A : Type 0} (p : A → Bool) (xs : List A) (end : ℕ) (d : A) → 0 < end → end ≤ length xs → p (get_or xs (end - 1) d) ≡ false
    → without_trailing p (take end xs) ≡ take end xs
trailing-stop p xs zero d some h e = absurd (omega arith)
trailing-stop p xs (suc n) d some h e =
    let less : suc n - 1 ≡ n = omega arith in
    let step = take_more xs n d (omega arith) in
    rw (rw add-one at step, trailing-more p (take n xs) (get_or xs n d), rw less at e) refl

pub trailing-none : {A : Type 0} (p : A → Bool) (xs : List A) (end : ℕ) → end ≤ 0 → without_trailing p (take end xs) ≡ take end xs
unfolding without_trailing
trailing-none p xs zero h = refl
trailing-none p xs (suc n) h = absurd (omega arith)

-- The field at a place.
pub field-at : (fs : List (List ℕ)) (i : ℕ) (d : List ℕ) → i < length fs → field_at fs i ≡ Some (get_or fs i d)
unfolding field_at
field-at [] i d h = absurd (omega arith)
field-at (f ∷ fs) zero d h = refl
field-at (f ∷ fs) (suc i) d h = field-at fs i d (omega arith)

-- The field at a place of the trimmed fields up to k, and none from k on.
pub kept-at : (fs : List (List ℕ)) (k i : ℕ) → i < k → field_at (take k (map trimmed fs)) i ≡ option_map trimmed (field_at fs i)
unfolding field_at
kept-at fs zero i h = absurd (omega arith)
kept-at [] (suc k) i h = refl
kept-at (f ∷ fs) (suc k) zero h = refl
kept-at (f ∷ fs) (suc k) (suc i) h = kept-at fs k i (omega arith)

pub none-at : (fs : List (List ℕ)) (k i : ℕ) → k ≤ i → field_at (take k fs) i ≡ None
unfolding field_at
none-at fs zero i h = refl
none-at [] (suc k) i h = refl
none-at (f ∷ fs) (suc k) zero h = absurd (omega arith)
none-at (f ∷ fs) (suc k) (suc i) h = none-at fs k i (omega arith)

-- Whether the trimmed field at a place is empty.
pub empty-at : (fs : List (List ℕ)) (i : ℕ) → i < length fs → option_map_or is_empty (option_map trimmed (field_at fs i)) true ≡ is_empty (get_or (map trimmed fs) i [])
unfolding field_at
empty-at [] i h = absurd (omega arith)
empty-at (f ∷ fs) zero h = refl
empty-at (f ∷ fs) (suc i) h = empty-at fs i (omega arith)
