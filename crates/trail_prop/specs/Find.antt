-- The result of a search for another place to watch.
use Rattle.std.specs.Prelude.{ℕ, ◌≡◌, ◌≢◌, ◌<◌, true, false, List, length, Option, Some, None}
use Rattle.clause_db.specs.declared.lit.Lit.{Lit}
use Rattle.clause_db.specs.Clause.{opposite, has_lit}
use Rattle.trail_prop.specs.Watching.{lit_at}

-- Whether the result is a third place whose literal is not false, or `None` and the literal at every third place is false.
abbrev pub FindIs : List Lit → List Lit → ℕ → ℕ → Option ℕ → Type 0
FindIs known clause a b (Some k) = (k < length clause) × (k ≢ a) × (k ≢ b) × (has_lit known (opposite (lit_at clause k)) ≡ false)
FindIs known clause a b None = (k : ℕ) → k < length clause → k ≢ a → k ≢ b → has_lit known (opposite (lit_at clause k)) ≡ true
