-- A log cut after its first empty line, which ends a refutation; checkers of LRAT ignore what follows it.
use Rattle.std.specs.Prelude.{if◌then◌else◌, List, [], ◌∷◌}
use Rattle.clause_db.specs.Clause.{is_empty_clause}
use Rattle.rup_check.specs.declared.line.Line.{Line}

-- The lines up to the first empty one; all lines if none is empty.
abbrev pub up_to_empty : List Line → List Line
up_to_empty [] = []
up_to_empty (line ∷ lines) = if is_empty_clause line.lits then line ∷ [] else line ∷ up_to_empty lines
