-- What is picked for the next decision.
use Rattle.std.specs.Prelude.{ℕ, ◌≡◌, ◌≤◌, true, List, Option, Some, None, is_some}
use Rattle.clause_db.specs.declared.lit.Lit.{Lit}
use Rattle.clause_db.specs.Clauses.{LitWithin}
use Rattle.trail_prop.specs.Open.{value_known}

-- Whether every variable has a value.
abbrev pub IsTotal : ℕ → List Lit → Type 0
IsTotal vars known = (v : ℕ) → 1 ≤ v → v ≤ vars → is_some (value_known known v) ≡ true

-- A variable of the formula that has no value yet.
pub record IsOpenVariable (vars : ℕ) (known : List Lit) (v : ℕ) : Type 0 where
  pub from_one : 1 ≤ v
  pub within : v ≤ vars
  pub valueless : value_known known v ≡ None

-- Whether this is a variable without a value, or there is none.
abbrev pub VariableIs : ℕ → List Lit → Option ℕ → Type 0
VariableIs vars known (Some v) = IsOpenVariable vars known v
VariableIs vars known None = IsTotal vars known

-- Whether this is a literal of a variable without a value, or there is none.
abbrev pub PickIs : ℕ → List Lit → Option Lit → Type 0
PickIs vars known (Some l) = LitWithin vars l × (value_known known l.var ≡ None)
PickIs vars known None = IsTotal vars known
