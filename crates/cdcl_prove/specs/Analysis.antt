-- How a line and its hints are taken from a conflict. Each variable that the analysis meets is either kept or resolved away. If it
-- is kept, the line has the opposite of its literal; if it is resolved away, its reason is a hint.
use Rattle.std.specs.Prelude.{ℕ, ◌-◌, ◌≡◌, ◌||◌, Bool, true, false, List, [], ◌∷◌, ◌++◌, map, filter, Option, Some, None, unwrap_or, slice_index_or, length}
use Rattle.std.specs.List.{All}
use Rattle.clause_db.specs.declared.lit.Lit.{Lit}
use Rattle.clause_db.specs.Clause.{opposite, clause_at}
use Rattle.trail_prop.specs.declared.entry.TrailEntry.{TrailEntry}
use Rattle.cdcl_prove.specs.declared.mark.VariableMark.{VariableMark}
use Rattle.cdcl_prove.specs.declared.mark.VariableMark.TheVariants.{Unseen, Kept, Resolved}

-- Whether the mark is `CheckedSuggestion`.
abbrev pub is_kept : VariableMark → Bool
is_kept Unseen = false
is_kept Kept = true
is_kept Resolved = false

-- Whether the mark is `Resolved`.
abbrev pub is_resolved : VariableMark → Bool
is_resolved Unseen = false
is_resolved Kept = false
is_resolved Resolved = true

-- The mark of a variable. The first mark is of variable 1.
abbrev pub mark_of : List VariableMark → ℕ → VariableMark
mark_of marks v = slice_index_or marks (v - 1) Unseen

-- Whether the variable is kept.
abbrev pub keeps : List VariableMark → ℕ → Bool
keeps marks v = is_kept (mark_of marks v)

-- Whether the variable is resolved away.
abbrev pub resolves : List VariableMark → ℕ → Bool
resolves marks v = is_resolved (mark_of marks v)

-- Whether the variable was met.
abbrev pub has_seen : List VariableMark → ℕ → Bool
has_seen marks v = keeps marks v || resolves marks v

-- The entries whose variables pass the test.
abbrev pub entries_passing : (ℕ → Bool) → List TrailEntry → List TrailEntry
entries_passing test entries = filter (λ e. test e.lit.var) entries

-- The number of the clause that forced an entry.
abbrev pub reason_of : TrailEntry → ℕ
reason_of e = unwrap_or e.reason 0

-- The literals of the line: the opposites of those that are kept.
abbrev pub learnt_line_of : (ℕ → Bool) → List TrailEntry → List Lit
learnt_line_of kept entries = map (λ e. opposite e.lit) (entries_passing kept entries)

-- The hints of the line: the reasons of the entries that are resolved away, in the order of the trail, and then the false clause.
abbrev pub hints_of : (ℕ → Bool) → List TrailEntry → ℕ → List ℕ
hints_of resolved entries conflict = map reason_of (entries_passing resolved entries) ++ conflict ∷ []

-- Whether there is a clause, and each of its variables was met.
abbrev pub AreVariablesSeen : (ℕ → Bool) → Option (List Lit) → Type 0
AreVariablesSeen met None = ⊥
AreVariablesSeen met (Some clause) = All (λ l. met l.var ≡ true) clause

-- Whether there is a reason, and each of its variables was met.
abbrev pub IsReasonSeen : (ℕ → Bool) → List (List Lit) → Option ℕ → Type 0
IsReasonSeen met clauses None = ⊥
IsReasonSeen met clauses (Some n) = AreVariablesSeen met (clause_at clauses n)

-- Whether for each entry that is resolved away, the variables of its reason were met.
abbrev pub AreClosed : (ℕ → Bool) → (ℕ → Bool) → List (List Lit) → List TrailEntry → Type 0
AreClosed resolved met clauses entries = All (λ e. resolved e.lit.var ≡ true → IsReasonSeen met clauses e.reason) entries

-- Whether the later marks have met at least as many variables, and resolve the same ones away.
pub record SeesMore (earlier later : List VariableMark) : Type 0 where
  pub size : length later ≡ length earlier
  pub still : (v : ℕ) → has_seen earlier v ≡ true → has_seen later v ≡ true
  pub same : (v : ℕ) → resolves later v ≡ resolves earlier v

-- Whether each variable has a mark, and for each entry that is resolved away, the variables of its reason were met.
pub record IsClosed (vars : ℕ) (clauses : List (List Lit)) (entries : List TrailEntry) (marks : List VariableMark) : Type 0 where
  pub size : length marks ≡ vars
  pub closed : AreClosed (resolves marks) (has_seen marks) clauses entries

-- Whether a conflict is analysed: the marks are closed, and the variables of the false clause were met.
pub record IsAnalysed (vars : ℕ) (clauses : List (List Lit)) (entries : List TrailEntry) (conflict : ℕ) (marks : List VariableMark) : Type 0 where
  pub closed : IsClosed vars clauses entries marks
  pub met : AreVariablesSeen (has_seen marks) (clause_at clauses conflict)
