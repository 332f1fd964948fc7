-- For the loops of `subset`: the rest of a list decides as the complete list does.
use Rattle.std.proofs.Common.{◌≡◌, ℕ, ◌+◌, ◌-◌, ◌<◌, ◌≤◌, Bool, true, false, ◌&&◌, List, [], ◌∷◌, length, drop, get_or, refl, sym, ap, ◌∙◌, arith, length-drop, lt-ltb, le-ltb}
use Rattle.std.specs.List.{list_all}
use Rattle.clause_db.proofs.Literals.{drop-from}
use Rattle.pack_defs.specs.Lists.{is_ascending}

-- two neighbours and the numbers after them
neighbours : (xs : List ℕ) (i : ℕ) → 1 ≤ i → i < length xs → drop (i - 1) xs ≡ get_or xs (i - 1) 0 ∷ get_or xs i 0 ∷ drop (i + 1) xs
neighbours xs i one h =
    let here : i - 1 + 1 ≡ i = omega arith in
    drop-from xs (i - 1) 0 (omega arith)
    ∙ ap (λ (k : ℕ). get_or xs (i - 1) 0 ∷ drop k xs) here
    ∙ ap (λ (ys : List ℕ). get_or xs (i - 1) 0 ∷ ys) (drop-from xs i 0 h)

-- if they ascend, the numbers from the second on decide; otherwise the list does not ascend
pub ascending-passed : (xs : List ℕ) (i : ℕ) (whole : Bool) → 1 ≤ i → i < length xs → get_or xs (i - 1) 0 < get_or xs i 0 → is_ascending (drop (i - 1) xs) ≡ whole → is_ascending (drop (i + 1 - 1) xs) ≡ whole
ascending-passed xs i whole one h less w =
    let here : i + 1 - 1 ≡ i = omega arith in
    ap (λ (k : ℕ). is_ascending (drop k xs)) here
    ∙ ap is_ascending (drop-from xs i 0 h)
    ∙ sym (ap (λ (b : Bool). b && is_ascending (get_or xs i 0 ∷ drop (i + 1) xs)) (lt-ltb (get_or xs (i - 1) 0) (get_or xs i 0) less))
    ∙ sym (ap is_ascending (neighbours xs i one h))
    ∙ w

pub ascending-stopped : (xs : List ℕ) (i : ℕ) (whole : Bool) → 1 ≤ i → i < length xs → get_or xs i 0 ≤ get_or xs (i - 1) 0 → is_ascending (drop (i - 1) xs) ≡ whole → false ≡ whole
ascending-stopped xs i whole one h more w =
    sym (ap (λ (b : Bool). b && is_ascending (get_or xs i 0 ∷ drop (i + 1) xs)) (le-ltb (get_or xs (i - 1) 0) (get_or xs i 0) more))
    ∙ sym (ap is_ascending (neighbours xs i one h))
    ∙ w

-- a list of at most one number ascends
short-ascends : (xs : List ℕ) → length xs ≤ 1 → is_ascending xs ≡ true
short-ascends [] h = refl
short-ascends (x ∷ []) h = refl
short-ascends (x ∷ y ∷ ys) h = absurd (omega arith)

pub ascending-end : (xs : List ℕ) (i : ℕ) (whole : Bool) → 1 ≤ i → length xs ≤ i → is_ascending (drop (i - 1) xs) ≡ whole → true ≡ whole
ascending-end xs i whole one h w =
    let short : length (drop (i - 1) xs) ≤ 1 = simp length-drop (omega arith) in
    sym (short-ascends (drop (i - 1) xs) short) ∙ w

-- if the test holds of the next number, the numbers after it decide; otherwise it does not hold of all
pub all-passed : (p : ℕ → Bool) (xs : List ℕ) (i : ℕ) (whole : Bool) → i < length xs → p (get_or xs i 0) ≡ true → list_all p (drop i xs) ≡ whole → list_all p (drop (i + 1) xs) ≡ whole
all-passed p xs i whole h e w =
    sym (ap (λ (b : Bool). b && list_all p (drop (i + 1) xs)) e) ∙ sym (ap (list_all p) (drop-from xs i 0 h)) ∙ w

pub all-stopped : (p : ℕ → Bool) (xs : List ℕ) (i : ℕ) (whole : Bool) → i < length xs → p (get_or xs i 0) ≡ false → list_all p (drop i xs) ≡ whole → false ≡ whole
all-stopped p xs i whole h e w =
    sym (ap (λ (b : Bool). b && list_all p (drop (i + 1) xs)) e) ∙ sym (ap (list_all p) (drop-from xs i 0 h)) ∙ w
