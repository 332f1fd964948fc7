-- How often the lines of a receipt have each literal.
use Rattle.std.specs.Prelude.{ℕ, ◌≡◌, ◌+◌, ◌-◌, ◌^◌, Bool, true, nat_lt, if◌then◌else◌, List, min, slice_index_or}
use Rattle.std.specs.List.{count_by, list_all, sum_by}
use Rattle.clause_db.specs.declared.lit.Lit.{Lit}
use Rattle.clause_db.specs.Clause.{same_lit, code_of}
use Rattle.rup_check.specs.KnownLiterals.{is_lit_within}
use Rattle.rup_check.specs.declared.line.Line.{Line}

-- The number of variables, and a count for each literal (by its code).
pub record UsesView : Type 0 where
  pub vars : ℕ
  pub counts : List ℕ

-- How often the list of literals has this one.
abbrev pub times_in : List Lit → Lit → ℕ
times_in lits l = count_by (same_lit l) lits

-- How often the lines have the literal.
abbrev pub times_of : List Line → Lit → ℕ
times_of lines l = sum_by (λ line. times_in line.lits l) lines

-- The count of a literal, or the greatest count if its variable is not one of these.
abbrev pub count_of : UsesView → Lit → ℕ
count_of uses l = if is_lit_within uses.vars l then slice_index_or uses.counts (code_of l) 0 else 2 ^ 32 - 1

-- The count of `l` after `x` is counted once more, up to the greatest count.
abbrev pub one_more : UsesView → Lit → Lit → ℕ
one_more uses x l = if same_lit l x then min (count_of uses l + 1) (2 ^ 32 - 1) else count_of uses l

-- Whether each literal of the variables is counted as often as the lines have it, up to the greatest count.
pub record AreCounted (vars : ℕ) (lines : List Line) (uses : UsesView) : Type 0 where
  pub of_vars : uses.vars ≡ vars
  pub each : (l : Lit) → is_lit_within vars l ≡ true → count_of uses l ≡ min (times_of lines l) (2 ^ 32 - 1)

-- Whether some line may have the literal.
abbrev pub is_used : UsesView → Lit → Bool
is_used uses l = nat_lt 0 (count_of uses l)

-- Whether each of the literals is used.
abbrev pub are_used : UsesView → List Lit → Bool
are_used uses lits = list_all (is_used uses) lits
