-- Slots that are emptied one after another. For `pending_receipts`.
use Rattle.std.proofs.Common.{◌≡◌, ℕ, zero, suc, ◌+◌, ◌<◌, List, [], ◌∷◌, ◌++◌, map, length, take, Option, Some, None, get_or, refl, sym, ap, ◌∙◌, arith}
use Rattle.std.specs.Prelude.{slice_set}
use Rattle.cert_types.specs.declared.answer.Receipt.{Receipt}
use Rattle.auction_core.specs.PendingReceipts.{receipts_from}

-- the slots, with the first n of them emptied
abbrev pub emptied : ℕ → List (Option Receipt) → List (Option Receipt)
emptied zero xs = xs
emptied (suc i) [] = []
emptied (suc i) (x ∷ xs) = None ∷ emptied i xs

-- the receipts of the first n slots
abbrev pub first_receipts : ℕ → List (Option Receipt) → List Receipt
first_receipts i xs = map (λ n. n.receipt) (receipts_from 0 (take i xs))

pub emptied-length : (i : ℕ) (xs : List (Option Receipt)) → length (emptied i xs) ≡ length xs
emptied-length zero xs = refl
emptied-length (suc i) [] = refl
emptied-length (suc i) (x ∷ xs) = let rest = emptied-length i xs in omega arith

pub emptied-at : (i : ℕ) (xs : List (Option Receipt)) (d : Option Receipt) → get_or (emptied i xs) i d ≡ get_or xs i d
emptied-at zero xs d = refl
emptied-at (suc i) [] d = refl
emptied-at (suc i) (x ∷ xs) d = emptied-at i xs d

set-suc : (i : ℕ) (xs : List (Option Receipt)) → i < length xs → slice_set (emptied i xs) i None ≡ emptied (suc i) xs
set-suc zero [] h = refl
set-suc zero (x ∷ xs) h = refl
set-suc (suc i) [] h = refl
set-suc (suc i) (x ∷ xs) h = ap (λ ys. None ∷ ys) (set-suc i xs (omega arith))

pub emptied-set : (i : ℕ) (xs : List (Option Receipt)) → i < length xs → slice_set (emptied i xs) i None ≡ emptied (i + 1) xs
emptied-set i xs h =
    let next : i + 1 ≡ suc i = omega arith in
    set-suc i xs h ∙ sym (ap (λ (k : ℕ). emptied k xs) next)

pub none-left : (w : ℕ) (xs : List (Option Receipt)) → receipts_from w (emptied (length xs) xs) ≡ []
none-left w [] = refl
none-left w (x ∷ xs) = none-left (w + 1) xs

taken-suc : (w i : ℕ) (xs : List (Option Receipt)) (d : Option Receipt) (r : Receipt) → i < length xs → get_or xs i d ≡ Some r → map (λ n. n.receipt) (receipts_from w (take (suc i) xs)) ≡ map (λ n. n.receipt) (receipts_from w (take i xs)) ++ r ∷ []
taken-suc w i [] d r h e = absurd (omega arith)
taken-suc w zero (None ∷ xs) d r h e = cc
taken-suc w zero (Some y ∷ xs) d r h e = let same : y ≡ r = cc in ap (λ z. z ∷ []) same
taken-suc w (suc i) (None ∷ xs) d r h e = taken-suc (w + 1) i xs d r (omega arith) e
taken-suc w (suc i) (Some y ∷ xs) d r h e = ap (λ ys. y ∷ ys) (taken-suc (w + 1) i xs d r (omega arith) e)

pub taken-one : (i : ℕ) (xs : List (Option Receipt)) (d : Option Receipt) (r : Receipt) → i < length xs → get_or xs i d ≡ Some r → first_receipts (i + 1) xs ≡ first_receipts i xs ++ r ∷ []
taken-one i xs d r h e =
    let next : i + 1 ≡ suc i = omega arith in
    ap (λ (k : ℕ). first_receipts k xs) next ∙ taken-suc 0 i xs d r h e

passed-suc : (w i : ℕ) (xs : List (Option Receipt)) (d : Option Receipt) → get_or xs i d ≡ None → receipts_from w (take (suc i) xs) ≡ receipts_from w (take i xs)
passed-suc w zero [] d e = refl
passed-suc w (suc i) [] d e = refl
passed-suc w zero (None ∷ xs) d e = refl
passed-suc w zero (Some y ∷ xs) d e = cc
passed-suc w (suc i) (None ∷ xs) d e = passed-suc (w + 1) i xs d e
passed-suc w (suc i) (Some y ∷ xs) d e = ap (λ ns. record { worker = w; receipt = y } ∷ ns) (passed-suc (w + 1) i xs d e)

pub passed-one : (i : ℕ) (xs : List (Option Receipt)) (d : Option Receipt) → get_or xs i d ≡ None → first_receipts (i + 1) xs ≡ first_receipts i xs
passed-one i xs d e =
    let next : i + 1 ≡ suc i = omega arith in
    ap (λ (k : ℕ). first_receipts k xs) next ∙ ap (map (λ n. n.receipt)) (passed-suc 0 i xs d e)

-- the next slot is emptied
pub emptied-next : (i : ℕ) (xs now : List (Option Receipt)) (after : Option Receipt) → i < length xs → now ≡ emptied i xs → after ≡ None → slice_set now i after ≡ emptied (i + 1) xs
emptied-next i xs now after h e n =
    ap (λ ys. slice_set ys i after) e ∙ (ap (λ (o : Option Receipt). slice_set (emptied i xs) i o) n ∙ emptied-set i xs h)

pub place-is : (i : ℕ) (xs now : List (Option Receipt)) (seen taken : Option Receipt) → now ≡ emptied i xs → seen ≡ get_or now i seen → taken ≡ seen → get_or xs i seen ≡ taken
place-is i xs now seen taken e g t =
    sym (emptied-at i xs seen) ∙ (ap (λ ys. get_or ys i seen) (sym e) ∙ (sym g ∙ sym t))

pub all-emptied : (i : ℕ) (xs now : List (Option Receipt)) → i ≡ length xs → now ≡ emptied i xs → receipts_from 0 now ≡ []
all-emptied i xs now e h = ap (receipts_from 0) (h ∙ ap (λ (k : ℕ). emptied k xs) e) ∙ none-left 0 xs
