-- The slots of the workers, and the list of pending receipts. For `pending_receipts`.
use Rattle.std.proofs.Common.{◌≡◌, ℕ, zero, suc, ◌+◌, ◌<◌, ◌≤◌, false, true, ◌==◌, ◌||◌, if◌then◌else◌, List, [], ◌∷◌, ◌++◌, length, Option, Some, None, is_some, get_or, drop, refl, sym, ap, subst, ◌∙◌, arith, eq-eqb, ne_eqb, lt-ltb, le-ltb}
use Rattle.std.specs.Prelude.{slice_set}
use Rattle.std.proofs.lemmas.Bool.{or_left}
use Rattle.cert_types.specs.declared.answer.Receipt.{Receipt}
use Rattle.auction_core.specs.State.{NotedSpent}
use Rattle.auction_core.specs.Take.{is_noted, noted_with}
use Rattle.auction_core.specs.PendingReceipts.{receipts_from, receipts_of}
use Rattle.auction_core.proofs.Cases.{noted_as}

-- no receipt is of a worker before the first slot
not-before : (w i : ℕ) (xs : List (Option Receipt)) → i < w → is_noted (receipts_from w xs) i ≡ false
not-before w i [] h = refl
not-before w i (None ∷ xs) h = not-before (w + 1) i xs (omega arith)
not-before w i (Some r ∷ xs) h =
    ap (λ b. b || is_noted (receipts_from (w + 1) xs) i) (ne_eqb w i (λ e. omega arith)) ∙ not-before (w + 1) i xs (omega arith)

-- a worker's receipt is pending if and only if its slot is full
noted-from : (w i : ℕ) (xs : List (Option Receipt)) (d : Option Receipt) → i < length xs → is_noted (receipts_from w xs) (w + i) ≡ is_some (get_or xs i d)
noted-from w i [] d h = absurd (omega arith)
noted-from w zero (None ∷ xs) d h = not-before (w + 1) (w + 0) xs (omega arith)
noted-from w zero (Some r ∷ xs) d h = or_left (w == w + 0) (is_noted (receipts_from (w + 1) xs) (w + 0)) (eq-eqb w (w + 0) (omega arith))
noted-from w (suc i) (None ∷ xs) d h =
    let next : w + suc i ≡ w + 1 + i = omega arith in
    ap (is_noted (receipts_from (w + 1) xs)) next ∙ noted-from (w + 1) i xs d (omega arith)
noted-from w (suc i) (Some r ∷ xs) d h =
    let next : w + suc i ≡ w + 1 + i = omega arith in
    ap (λ b. b || is_noted (receipts_from (w + 1) xs) (w + suc i)) (ne_eqb w (w + suc i) (λ e. omega arith))
    ∙ ap (is_noted (receipts_from (w + 1) xs)) next ∙ noted-from (w + 1) i xs d (omega arith)

pub noted-at : (i : ℕ) (xs : List (Option Receipt)) (d : Option Receipt) → i < length xs → is_noted (receipts_of xs) i ≡ is_some (get_or xs i d)
noted-at i xs d h =
    let here : i ≡ 0 + i = omega arith in
    ap (is_noted (receipts_of xs)) here ∙ noted-from 0 i xs d h

-- a receipt of a worker before the first slot comes first
comes-first : (x : NotedSpent) (w : ℕ) (xs : List (Option Receipt)) → x.worker < w → noted_with x (receipts_from w xs) ≡ x ∷ receipts_from w xs
comes-first x w [] h = refl
comes-first x w (None ∷ xs) h = comes-first x (w + 1) xs (omega arith)
comes-first x w (Some r ∷ xs) h =
    ap (λ b. if b then x ∷ noted_as w r ∷ receipts_from (w + 1) xs else noted_as w r ∷ noted_with x (receipts_from (w + 1) xs)) (lt-ltb x.worker w h)

-- a receipt put into a worker's empty slot becomes pending
with-from : (w i : ℕ) (xs : List (Option Receipt)) (r : Receipt) → i < length xs → get_or xs i None ≡ None → noted_with (noted_as (w + i) r) (receipts_from w xs) ≡ receipts_from w (slice_set xs i (Some r))
with-from w i [] r h e = absurd (omega arith)
with-from w zero (None ∷ xs) r h e =
    let here : w + 0 ≡ w = omega arith in
    ap (λ (v : ℕ). noted_with (noted_as v r) (receipts_from (w + 1) xs)) here ∙ comes-first (noted_as w r) (w + 1) xs (omega arith)
with-from w zero (Some y ∷ xs) r h e = cc
with-from w (suc i) (None ∷ xs) r h e =
    let next : w + suc i ≡ w + 1 + i = omega arith in
    ap (λ (v : ℕ). noted_with (noted_as v r) (receipts_from (w + 1) xs)) next ∙ with-from (w + 1) i xs r (omega arith) e
with-from w (suc i) (Some y ∷ xs) r h e =
    let next : w + suc i ≡ w + 1 + i = omega arith in
    ap (λ b. if b then noted_as (w + suc i) r ∷ noted_as w y ∷ receipts_from (w + 1) xs else noted_as w y ∷ noted_with (noted_as (w + suc i) r) (receipts_from (w + 1) xs)) (le-ltb (w + suc i) w (omega arith))
    ∙ ap (λ ns. noted_as w y ∷ ns) (ap (λ (v : ℕ). noted_with (noted_as v r) (receipts_from (w + 1) xs)) next ∙ with-from (w + 1) i xs r (omega arith) e)

pub with-at : (i : ℕ) (xs : List (Option Receipt)) (r : Receipt) → i < length xs → is_noted (receipts_of xs) i ≡ false → receipts_of (slice_set xs i (Some r)) ≡ noted_with (noted_as i r) (receipts_of xs)
with-at i xs r h e =
    let here : i ≡ 0 + i = omega arith in
    sym (ap (λ (v : ℕ). noted_with (noted_as v r) (receipts_of xs)) here ∙ with-from 0 i xs r h (empty (get_or xs i None) (sym (noted-at i xs None h) ∙ e)))
  where
    empty : (o : Option Receipt) → is_some o ≡ false → o ≡ None
    empty None k = refl
    empty (Some x) k = cc

-- one more slot, empty
pub place-more : (w : ℕ) (xs : List (Option Receipt)) → receipts_from w (xs ++ None ∷ []) ≡ receipts_from w xs
place-more w [] = refl
place-more w (None ∷ xs) = place-more (w + 1) xs
place-more w (Some r ∷ xs) = ap (λ ns. noted_as w r ∷ ns) (place-more (w + 1) xs)

-- no worker after the last slot has a pending receipt
pub not-past : (w i : ℕ) (xs : List (Option Receipt)) → w + length xs ≤ i → is_noted (receipts_from w xs) i ≡ false
not-past w i [] h = refl
not-past w i (None ∷ xs) h = not-past (w + 1) i xs (omega arith)
not-past w i (Some r ∷ xs) h =
    ap (λ b. b || is_noted (receipts_from (w + 1) xs) i) (ne_eqb w i (λ e. omega arith)) ∙ not-past (w + 1) i xs (omega arith)

-- the number of full slots
abbrev pub how_many : List (Option Receipt) → ℕ
how_many [] = 0
how_many (None ∷ xs) = how_many xs
how_many (Some r ∷ xs) = how_many xs + 1

pub many-noted : (w : ℕ) (xs : List (Option Receipt)) → length (receipts_from w xs) ≡ how_many xs
many-noted w [] = refl
many-noted w (None ∷ xs) = many-noted (w + 1) xs
many-noted w (Some r ∷ xs) = let rest = many-noted (w + 1) xs in omega arith

pub many-bound : (xs : List (Option Receipt)) → how_many xs ≤ length xs
many-bound [] = omega arith
many-bound (None ∷ xs) = let rest = many-bound xs in omega arith
many-bound (Some r ∷ xs) = let rest = many-bound xs in omega arith

-- one more slot, full or empty
pub one-more : (i : ℕ) (xs : List (Option Receipt)) (d : Option Receipt) → i < length xs → is_some (get_or xs i d) ≡ true → how_many (drop i xs) ≡ how_many (drop (i + 1) xs) + 1
one-more i xs d h e = let next : i + 1 ≡ suc i = omega arith in subst (λ k. how_many (drop i xs) ≡ how_many (drop k xs) + 1) (sym next) (go i xs h e)
  where
    go : (i : ℕ) (xs : List (Option Receipt)) → i < length xs → is_some (get_or xs i d) ≡ true → how_many (drop i xs) ≡ how_many (drop (suc i) xs) + 1
    go i [] h e = absurd (omega arith)
    go zero (None ∷ xs) h e = cc
    go zero (Some r ∷ xs) h e = refl
    go (suc i) (x ∷ xs) h e = go i xs (omega arith) e

pub no-more : (i : ℕ) (xs : List (Option Receipt)) (d : Option Receipt) → i < length xs → is_some (get_or xs i d) ≡ false → how_many (drop i xs) ≡ how_many (drop (i + 1) xs)
no-more i xs d h e = let next : i + 1 ≡ suc i = omega arith in subst (λ k. how_many (drop i xs) ≡ how_many (drop k xs)) (sym next) (go i xs h e)
  where
    go : (i : ℕ) (xs : List (Option Receipt)) → i < length xs → is_some (get_or xs i d) ≡ false → how_many (drop i xs) ≡ how_many (drop (suc i) xs)
    go i [] h e = absurd (omega arith)
    go zero (None ∷ xs) h e = refl
    go zero (Some r ∷ xs) h e = cc
    go (suc i) (x ∷ xs) h e = go i xs (omega arith) e

-- at the end all are counted
pub all-counted : (i count : ℕ) (xs : List (Option Receipt)) → i ≡ length xs → count + how_many (drop i xs) ≡ how_many xs → count ≡ length (receipts_of xs)
all-counted i count xs e h =
    let none : how_many (drop i xs) ≡ 0 = ap (λ (k : ℕ). how_many (drop k xs)) e ∙ none-left xs in
    let sum : count + 0 ≡ how_many xs = ap (λ k. count + k) (sym none) ∙ h in
    let all : count ≡ how_many xs = omega arith in
    all ∙ sym (many-noted 0 xs)
  where
    none-left : (xs : List (Option Receipt)) → how_many (drop (length xs) xs) ≡ 0
    none-left [] = refl
    none-left (x ∷ xs) = none-left xs
