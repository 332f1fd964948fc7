-- What frozen stations are paid, as a list of entries, each a station and its price in cents.
use Rattle.std.specs.Prelude.{ℕ, ◌==◌, nat_lt, if◌then◌else◌, List, [], ◌∷◌, Option, Some, None, sum_by}

-- A ledger: its entries, ascending by station, and room for how many more.
pub record LedgerView : Type 0 where
  pub paid : List (ℕ × ℕ)
  pub spare : ℕ

-- The price of a station; `None` if the list does not have it.
abbrev pub price_of : ℕ → List (ℕ × ℕ) → Option ℕ
price_of s [] = None
price_of s (e ∷ es) = if e.0 == s then Some e.1 else price_of s es

-- The sum of the prices.
abbrev pub sum_paid : List (ℕ × ℕ) → ℕ
sum_paid entries = sum_by (λ e. e.1) entries

-- The list with one more entry, inserted before the first station that is not below its own.
abbrev pub with_price : ℕ → ℕ → List (ℕ × ℕ) → List (ℕ × ℕ)
with_price s price [] = (s, price) ∷ []
with_price s price (e ∷ es) = if nat_lt e.0 s then e ∷ with_price s price es else (s, price) ∷ e ∷ es
