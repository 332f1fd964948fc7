-- The certificates that a set of stations does not fit.
use Rattle.std.specs.Prelude.{ℕ, Bool, ◌&&◌, ◌==◌, ◌≡◌, IsTrue, List, []}
use Rattle.std.specs.List.{list_all, list_any}
use Rattle.clause_db.specs.declared.lit.Lit.{Lit}
use Rattle.pack_defs.specs.declared.pair.Pair.{Pair}
use Rattle.pack_defs.specs.Book.{BookView, domain_of}
use Rattle.pack_defs.specs.Lists.{is_in, is_ascending, is_only}
use Rattle.cnf_encode.specs.Formula.{packing_formula, variables_in}
use Rattle.rup_check.specs.declared.line.Line.{Line}
use Rattle.rup_check.specs.Follows.{Follows, ends_empty}
use Rattle.cert_types.specs.FirstLine.{line_follows, is_empty_iff_last, meets_both}

-- Whether the list ascends and has only stations of the set.
abbrev pub is_subset : List ℕ → List ℕ → Bool
is_subset subset set = is_ascending subset && list_all (is_in set) subset

-- Whether two pairs are equal.
abbrev pub same_pair : Pair → Pair → Bool
same_pair p q = ((p.f == q.f) && (p.a == q.a)) && ((p.g == q.g) && (p.b == q.b))

-- Whether the pair is one of the book, between two stations of the set that each have only the pair's channel.
abbrev pub is_dead : BookView → List ℕ → Pair → Bool
is_dead book set p =
    list_any (λ q. same_pair q p) book.pairs
    && ((is_in set p.f && is_in set p.g) && (is_only (domain_of book p.f) p.a && is_only (domain_of book p.g) p.b))

-- Whether a line of a proof follows, and is empty exactly if it is the last.
abbrev pub is_proof_line : ℕ → List (List Lit) → Line → List Line → Bool
is_proof_line vars = meets_both (line_follows vars) is_empty_iff_last

-- A certificate that a set does not fit: a log over the clauses of a subset (a refutation as in LRAT, whose last line alone is
-- empty), a dead pair, or a station without a channel.
pub data Refutes (book : BookView) (set : List ℕ) : Type 0 where
  ByLog : (subset : List ℕ) (lines : List Line) → IsTrue (is_subset subset set) → Follows (variables_in book subset) (packing_formula book subset) lines → IsTrue (ends_empty lines) → Refutes book set
  ByPair : (p : Pair) → IsTrue (is_dead book set p) → Refutes book set
  ByStation : (s : ℕ) → IsTrue (is_in set s) → domain_of book s ≡ [] → Refutes book set
