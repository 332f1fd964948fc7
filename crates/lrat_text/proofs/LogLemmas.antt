-- The line of a log that is written is read back.
use Rattle.std.proofs.Common.{◌≡◌, ◌<◌, ◌≤◌, ◌+◌, ◌^◌, ◌∷◌, ◌++◌, [], ℕ, zero, suc, List, Bool, true, false, Some, None, Ok, refl, ap, arith, map, ne_eqb, eq-eqb, decimal, inl, inr}
use Rattle.std.specs.List.{AllByRecursion, list_all}
use Rattle.std.specs.Prelude.{nat_le, nat_lt}
use Rattle.std.specs.Char.{is_ascii_digit}
use Rattle.std.specs.Str.{all_ascii_digits, bytes_eq}
use Rattle.std.proofs.lemmas.Bool.{and_parts, leb-true, le-leb, lt-leb, lt-ltb, cases_lt, cases_eq}
use Rattle.pack_defs.specs.Lists.{is_empty}
use Rattle.clause_db.specs.declared.lit.Lit.{Lit}
use Rattle.rup_check.specs.declared.line.Line.{Line}
use Rattle.lrat_text.specs.Write.{greatest, lit_text, zero_field, log_fields, IsLitSpelled, IsBefore}
use Rattle.lrat_text.specs.Read.{log_lits_at, place_in, hint_place, log_hints_at, is_next, with_line, after_deletion_mark, after_words}
use Rattle.lrat_text.proofs.LineLemmas.{AreFields, fields-append}
use Rattle.lrat_text.proofs.NumberLemmas.{all-digits, decimal-field, decimal-not-empty, number-again, zero-again, lit-again, lit-field}

-- ---- the fields of a line

pub lits-fields : (lits : List Lit) → AllByRecursion IsLitSpelled lits → AreFields (map lit_text lits)
lits-fields [] h = tt
lits-fields (l ∷ lits) h = (lit-field l h.0, lits-fields lits h.1)

pub hints-fields : (number : ℕ) (hints : List ℕ) → number ≤ greatest → AllByRecursion (IsBefore number) hints → AreFields (map decimal hints)
hints-fields number [] le h = tt
hints-fields number (n ∷ hints) le h = (decimal-field n (omega (arith, h.0.1)), hints-fields number hints le h.1)

pub zero-fields : AreFields (zero_field ∷ [])
zero-fields = (((omega arith, tt), refl), tt)

pub line-fields : (number : ℕ) (line : Line) → number ≤ greatest → AllByRecursion IsLitSpelled line.lits → AllByRecursion (IsBefore number) line.hints
    → AreFields (log_fields number line)
line-fields number line le lits hints = (
  decimal-field number (omega arith),
  fields-append (map lit_text line.lits) (zero_field ∷ (map decimal line.hints ++ zero_field ∷ [])) (lits-fields line.lits lits)
      (zero-fields.0, fields-append (map decimal line.hints) (zero_field ∷ []) (hints-fields number line.hints le hints) zero-fields),
)

-- ---- literals and hints

pub lits-again : (n : ℕ) (lits : List Lit) (rest : List (List ℕ)) → AllByRecursion IsLitSpelled lits
    → log_lits_at n (map lit_text lits ++ zero_field ∷ rest) ≡ Ok (lits, rest)
unfolding log_lits_at
lits-again n [] rest h = rw zero-again refl
lits-again n (l ∷ lits) rest h = rw (lit-again l h.0, lits-again n lits rest h.1) refl

-- This many numbers, from this one on.
abbrev pub run : ℕ → ℕ → List ℕ
run from zero = []
run from (suc k) = from ∷ run (from + 1) k

pub run-more : (from k : ℕ) → run from k ++ (from + k) ∷ [] ≡ run from (suc k)
run-more from zero = let e : from + 0 ≡ from = omega arith in rw e refl
run-more from (suc k) =
    let e : from + suc k ≡ (from + 1) + k = omega arith in
    rw e (ap (λ (ns : List ℕ). from ∷ ns) (run-more (from + 1) k))

in-run : (next k h : ℕ) → next ≤ h → h < next + k → place_in next (run next k) h ≡ Some h
in-run next zero h low high = absurd (omega arith)
in-run next (suc k) h low high = elim (cases_eq next h) [
  | inl e ↦ rw (eq-eqb next h e, e) refl
  | inr ne ↦ rw (ne_eqb next h ne) (in-run (next + 1) k h (omega (arith, ne)) (omega arith))
]

pub hint-again : (clauses k h : ℕ) → IsBefore (clauses + 1 + k) h → hint_place clauses (run (clauses + 1) k) h ≡ Some h
unfolding hint_place
hint-again clauses k h before = elim (cases_lt clauses h) [
  | inl above ↦ rw (lt-leb h clauses above) (in-run (clauses + 1) k h (omega arith) (omega (arith, before.1)))
  | inr le ↦ rw (le-leb h clauses le) refl
]

pub hints-again : (n clauses k : ℕ) (hints : List ℕ) → clauses + 1 + k ≤ greatest → AllByRecursion (IsBefore (clauses + 1 + k)) hints
    → log_hints_at n clauses (run (clauses + 1) k) (map decimal hints ++ zero_field ∷ []) ≡ Ok hints
unfolding log_hints_at
hints-again n clauses k [] le h = rw zero-again refl
hints-again n clauses k (m ∷ hints) le h =
    rw (number-again m h.0.0 (omega (arith, h.0.1)), hint-again clauses k m h.0, hints-again n clauses k hints le h.1) refl

-- ---- a line

below-next : (from k number : ℕ) → from + k ≤ number → list_all (λ m. nat_lt m number) (run from k) ≡ true
below-next from zero number h = refl
below-next from (suc k) number h = rw (lt-ltb from number (omega arith), below-next (from + 1) k number (omega arith)) refl

pub is-next : (clauses k : ℕ) → is_next clauses (run (clauses + 1) k) (clauses + 1 + k) ≡ true
is-next clauses k = rw (lt-ltb clauses (clauses + 1 + k) (omega arith), below-next (clauses + 1) k (clauses + 1 + k) (omega arith)) refl

-- A word that begins with a digit or a minus sign is none of the letters.
pub not-letter : (letter : ℕ) (word : List ℕ) → 57 < letter → all_ascii_digits word ≡ true → is_empty word ≡ false → bytes_eq word (letter ∷ []) ≡ false
not-letter letter [] big h e = absurd cc
not-letter letter (c ∷ word) big h e =
    let digit : is_ascii_digit c ≡ true = (and_parts (is_ascii_digit c) (all_ascii_digits word) h).0 in
    let high : c ≤ 57 = leb-true c 57 (and_parts (nat_le 48 c) (nat_le c 57) digit).1 in
    rw (ne_eqb c letter (λ q. absurd (omega (arith, big, q)))) refl

pub number-is-no-letter : (letter n : ℕ) → 57 < letter → n < 2 ^ 64 → bytes_eq (decimal n) (letter ∷ []) ≡ false
number-is-no-letter letter n big h = not-letter letter (decimal n) big (all-digits n h) (decimal-not-empty n h)

lit-is-no-d : (l : Lit) → IsLitSpelled l → bytes_eq (lit_text l) (100 ∷ []) ≡ false
lit-is-no-d l h = go l.positive refl
  where
    go : (b : Bool) → l.positive ≡ b → bytes_eq (lit_text l) (100 ∷ []) ≡ false
    go true e = rw e (number-is-no-letter 100 l.var (omega arith) (omega (arith, h.1)))
    go false e = rw e refl

no-deletion : (lits : List Lit) (rest : List (List ℕ)) → AllByRecursion IsLitSpelled lits → after_deletion_mark (map lit_text lits ++ zero_field ∷ rest) ≡ None
no-deletion [] rest h = refl
no-deletion (l ∷ lits) rest h = rw (lit-is-no-d l h.0) refl

-- The log with another line.
pub line-again : (n clauses k : ℕ) (lines : List Line) (line : Line) → clauses + 1 + k ≤ greatest
    → AllByRecursion IsLitSpelled line.lits → AllByRecursion (IsBefore (clauses + 1 + k)) line.hints
    → after_words n clauses (record { numbers = run (clauses + 1) k; lines = lines }) (log_fields (clauses + 1 + k) line)
    ≡ Ok (record { numbers = run (clauses + 1) (suc k); lines = lines ++ line ∷ [] })
unfolding after_words with_line
line-again n clauses k lines line le lits hints =
    let c = number-is-no-letter 99 (clauses + 1 + k) (omega arith) (omega arith) in
    let d = no-deletion line.lits (map decimal line.hints ++ zero_field ∷ []) lits in
    let number = number-again (clauses + 1 + k) (omega arith) le in
    rw (c, d, number, is-next clauses k, lits-again n line.lits (map decimal line.hints ++ zero_field ∷ []) lits, hints-again n clauses k line.hints le hints, run-more (clauses + 1) k) refl
