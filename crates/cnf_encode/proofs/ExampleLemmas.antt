-- The example's book, and a model of the formula of two of its stations.
use Rattle.std.proofs.Common.{◌≡◌, ℕ, true, false, List, [], ◌∷◌, refl, sym, subst}
use Rattle.clause_db.specs.Clause.{Satisfies}
use Rattle.pack_defs.specs.declared.domain.Domain.{Domain}
use Rattle.pack_defs.specs.declared.pair.Pair.{Pair}
use Rattle.pack_defs.specs.Book.{BookView, cut_book}
use Rattle.pack_defs.specs.Examples.{pair, three_stations}
use Rattle.cnf_encode.specs.Decode.{listed_model}
use Rattle.cnf_encode.specs.Formula.{packing_formula}

-- a station that may use channels 14 and 15
abbrev pub example_domain : ℕ → Domain
example_domain s = record { station = s; channels = 14 ∷ 15 ∷ [] }

two_stations_model : Satisfies (listed_model (true ∷ false ∷ false ∷ true ∷ [])) (packing_formula three_stations (1 ∷ 2 ∷ []))
unfolding packing_formula three_stations
two_stations_model = refl

short_model : Satisfies (listed_model (false ∷ true ∷ true ∷ [])) (packing_formula three_stations (1 ∷ 2 ∷ []))
unfolding packing_formula three_stations
short_model = refl

-- the first station on the first channel and the second on the other, and then the reverse, without the last variable
pub two_stations_hold : (book : BookView) → book ≡ three_stations → Satisfies (listed_model (true ∷ false ∷ false ∷ true ∷ [])) (packing_formula book (1 ∷ 2 ∷ []))
two_stations_hold book e =
    subst (λ b. Satisfies (listed_model (true ∷ false ∷ false ∷ true ∷ [])) (packing_formula b (1 ∷ 2 ∷ []))) (sym e) two_stations_model

pub short_model_holds : (book : BookView) → book ≡ three_stations → Satisfies (listed_model (false ∷ true ∷ true ∷ [])) (packing_formula book (1 ∷ 2 ∷ []))
short_model_holds book e =
    subst (λ b. Satisfies (listed_model (false ∷ true ∷ true ∷ [])) (packing_formula b (1 ∷ 2 ∷ []))) (sym e) short_model

-- the book that the tests build is the example's
pub built-three : (domains : List Domain) (pairs : List Pair) →
    domains ≡ example_domain 1 ∷ example_domain 2 ∷ example_domain 3 ∷ [] →
    pairs ≡ pair 1 2 14 ∷ pair 1 3 14 ∷ pair 1 2 15 ∷ pair 1 3 15 ∷ pair 2 3 14 ∷ pair 2 3 15 ∷ [] →
    cut_book 15 (1 ∷ 2 ∷ 3 ∷ []) domains pairs ≡ three_stations
unfolding three_stations
built-three domains pairs e f = rw (e, f) refl
