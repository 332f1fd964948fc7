-- The packing formula of a set of stations, which has a model exactly if the set fits. The clauses are those of SATFC (Newman,
-- Fréchette, Leyton-Brown 2017); their order is this project's own.
use Rattle.std.specs.Prelude.{ℕ, Bool, ◌&&◌, ◌+◌, if◌then◌else◌, List, [], ◌∷◌, ◌++◌, map, filter, length}
use Rattle.std.specs.List.{flat_map}
use Rattle.clause_db.specs.declared.lit.Lit.{Lit}
use Rattle.clause_db.specs.Clause.{pos_lit, neg_lit}
use Rattle.pack_defs.specs.declared.pair.Pair.{Pair}
use Rattle.pack_defs.specs.Book.{BookView, domain_of}
use Rattle.pack_defs.specs.Lists.{is_in, same_entry}

-- Every station and channel that the set may use, by station and then by channel.
abbrev pub choices : BookView → List ℕ → List (ℕ × ℕ)
choices book set = flat_map (λ s. map (λ c. (s, c)) (domain_of book s)) set

-- The number of an entry in a list, from 1, or one after the end if the list does not have the entry.
abbrev pub number_of : List (ℕ × ℕ) → ℕ × ℕ → ℕ
number_of [] x = 1
number_of (y ∷ ys) x = if same_entry y x then 1 else number_of ys x + 1

-- The variable that is true if the station is on the channel: the number of this choice, from 1 as in DIMACS CNF.
abbrev pub variable_of : BookView → List ℕ → ℕ × ℕ → ℕ
variable_of book set x = number_of (choices book set) x

-- The number of variables, one for each choice.
abbrev pub variables_in : BookView → List ℕ → ℕ
variables_in book set = length (choices book set)

-- The variables of a station of the set, one for each channel of its domain.
abbrev pub station_variables : BookView → List ℕ → ℕ → List ℕ
station_variables book set s = map (λ c. variable_of book set (s, c)) (domain_of book s)

-- The clause that one of the variables is true.
abbrev pub at_least_one : List ℕ → List Lit
at_least_one vars = map pos_lit vars

-- The clause that the two variables are not both true.
abbrev pub not_both : ℕ → ℕ → List Lit
not_both v w = neg_lit v ∷ neg_lit w ∷ []

-- The clauses that no two of the variables are true, by the first and then by the second variable.
abbrev pub at_most_one : List ℕ → List (List Lit)
at_most_one [] = []
at_most_one (v ∷ vs) = map (not_both v) vs ++ at_most_one vs

-- Whether both stations of the pair are in the set.
abbrev pub is_inside : List ℕ → Pair → Bool
is_inside set p = is_in set p.f && is_in set p.g

-- The clause that the pair's two stations are not both on the pair's channels.
abbrev pub pair_clause : BookView → List ℕ → Pair → List Lit
pair_clause book set p = not_both (variable_of book set (p.f, p.a)) (variable_of book set (p.g, p.b))

-- The formula: each station of the set is on some channel, none is on two, and no pair of the book between two of them is violated.
unfoldable pub packing_formula : BookView → List ℕ → List (List Lit)
packing_formula book set =
    map (λ s. at_least_one (station_variables book set s)) set
    ++ flat_map (λ s. at_most_one (station_variables book set s)) set
    ++ map (pair_clause book set) (filter (is_inside set) book.pairs)
