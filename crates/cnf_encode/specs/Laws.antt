-- A law of the packing formula. It is proved in `src/laws`. Shorter laws are stated there directly.
use Rattle.std.specs.Prelude.{ℕ, List, IsTrue}
use Rattle.clause_db.specs.Clause.{Satisfies}
use Rattle.pack_defs.specs.Book.{BookView, IsInOrder}
use Rattle.pack_defs.specs.Lists.{is_ascending}
use Rattle.pack_defs.specs.Packing.{IsPacking}
use Rattle.cnf_encode.specs.Decode.{model_of}
use Rattle.cnf_encode.specs.Formula.{packing_formula}

-- The law that, in a book in order, a clean map of exactly an ascending set describes a model of the formula.
abbrev pub MapGivesModel : Type 0
MapGivesModel =
    (book : BookView) (set : List ℕ) (entries : List (ℕ × ℕ)) →
    IsInOrder book → IsTrue (is_ascending set) → IsPacking book set entries →
    Satisfies (model_of book set entries) (packing_formula book set)
