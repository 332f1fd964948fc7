-- What the checker returns, compared with the definition of the first fault.
use Rattle.std.specs.Prelude.{◌≡◌, ◌++◌, ◌∷◌, [], ⊤, ℕ, Bool, true, false, List, map, Option, Some, None, Result, Ok, Err}
use Rattle.clause_db.specs.declared.lit.Lit.{Lit}
use Rattle.clause_db.specs.Clause.{opposite}
use Rattle.rup_check.specs.Follows.{has_bad_lits}
use Rattle.rup_check.specs.declared.error.LineErr.{LineErr}
use Rattle.rup_check.specs.declared.error.LineErr.TheVariants.{BadLits, NoSuchClause, NotUnit, NotFalsified, NoMemory}
use Rattle.rup_check.specs.declared.error.LogErr.{LogErr}
use Rattle.rup_check.specs.declared.error.LogErr.TheVariants as log

-- What a result says of the first fault: `Ok` that there is none, a fault that it is this one, and `NoMemory` nothing.
abbrev pub LineAnswer : Option LineErr → Result (Unit {0}) LineErr → Type 0
LineAnswer fault (Ok u) = fault ≡ None
LineAnswer fault (Err BadLits) = fault ≡ Some BadLits
LineAnswer fault (Err (NoSuchClause hint)) = fault ≡ Some (NoSuchClause hint)
LineAnswer fault (Err (NotUnit hint)) = fault ≡ Some (NotUnit hint)
LineAnswer fault (Err NotFalsified) = fault ≡ Some NotFalsified
LineAnswer fault (Err NoMemory) = ⊤

-- What the test of literals says: they are bad; or they are not, and the opposite of each is known afterwards.
abbrev pub Denies : ℕ → List Lit → List Lit → Bool → Type 0
Denies vars lits after true = (has_bad_lits vars lits ≡ false) × (after ≡ map opposite lits)
Denies vars lits after false = has_bad_lits vars lits ≡ true

-- What the step for a hint says: the literal that is known afterwards, or the hint's fault.
abbrev pub IsForced : List Lit → Result (List Lit) LineErr → Result Lit LineErr → Type 0
IsForced known after (Ok l) = after ≡ Ok (known ++ l ∷ [])
IsForced known after (Err why) = after ≡ Err why

-- What a result says of the first fault of a log.
abbrev pub LogAnswer : Option LogErr → Result (Unit {0}) LogErr → Type 0
LogAnswer fault (Ok u) = fault ≡ None
LogAnswer fault (Err (log.BadLine line why)) = fault ≡ Some (log.BadLine line why)
LogAnswer fault (Err log.NoMemory) = ⊤
