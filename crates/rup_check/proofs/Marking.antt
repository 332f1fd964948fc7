-- For `known_literals`: the marks, and what they record after a literal's is cleared.
use Rattle.std.proofs.Common.{◌≡◌, ℕ, ◌*◌, ◌<◌, Bool, true, false, not, ◌&&◌, ◌||◌, ◌==◌, if◌then◌else◌, nat_le, List, [], ◌∷◌, ◌++◌, length, refl, sym, ap, ◌∙◌, subst, arith, get_or}
use Rattle.std.proofs.Math.Bool.{beq}
use Rattle.std.specs.Prelude.{slice_set}
use Rattle.std.proofs.lemmas.Bool.{and_parts, and_from, or_left, false_from_ne_true, false≢true, leb-true, le-leb}
use Rattle.std.proofs.lemmas.List.{get_or-set_same, get_or-set_other}
use Rattle.clause_db.specs.declared.lit.Lit.{Lit}
use Rattle.clause_db.specs.Clause.{same_lit, has_lit, code_of}
use Rattle.clause_db.specs.Clauses.{LitWithin}
use Rattle.clause_db.proofs.Literals.{lit_cases, same_lit-apart, has-push_new, has-push_other, code-is, code-below}
use Rattle.rup_check.specs.KnownLiterals.{is_lit_within, Marks}
use Rattle.pack_defs.proofs.Words.{eq_swap}

-- each marked literal is in the list
abbrev pub MarkedIn : ℕ → List Bool → List Lit → Type 0
MarkedIn vars marks known = (k : Lit) → LitWithin vars k → get_or marks (code_of k) false ≡ true → has_lit known k ≡ true

pub within-from : (vars : ℕ) (l : Lit) → is_lit_within vars l ≡ true → LitWithin vars l
within-from vars l e = let parts = and_parts (nat_le 1 l.var) (nat_le l.var vars) e in (leb-true 1 l.var parts.0, leb-true l.var vars parts.1)

pub within-to : (vars : ℕ) (l : Lit) → LitWithin vars l → is_lit_within vars l ≡ true
within-to vars l w = and_from (nat_le 1 l.var) (nat_le l.var vars) (le-leb 1 l.var w.0) (le-leb l.var vars w.1)

pub marks-push : (vars : ℕ) (marks : List Bool) (known : List Lit) (x : Lit) → Marks vars marks known → length marks ≡ 2 * vars → LitWithin vars x → Marks vars (slice_set marks (code_of x) true) (known ++ x ∷ [])
marks-push vars marks known x m size p = λ l q.
    let below = code-below vars x p in
    let within : code_of x < length marks = omega arith in
    lit_cases l x (get_or (slice_set marks (code_of x) true) (code_of l) false ≡ has_lit (known ++ x ∷ []) l)
    (λ e. subst (λ (z : Lit). get_or (slice_set marks (code_of x) true) (code_of z) false ≡ has_lit (known ++ x ∷ []) z) (sym e) (get_or-set_same marks (code_of x) true false within ∙ sym (has-push_new known x)))
    (λ n. get_or-set_other marks (code_of x) (code_of l) true false (λ e. n (code-is vars l x q p e)) ∙ (m l q ∙ sym (has-push_other known x l n)))

pub marks-stray : (vars : ℕ) (marks : List Bool) (known : List Lit) (x : Lit) → Marks vars marks known → is_lit_within vars x ≡ false → Marks vars marks (known ++ x ∷ [])
marks-stray vars marks known x m out = λ l q.
    m l q ∙ sym (has-push_other known x l (λ e. false≢true (sym out ∙ within-to vars x (subst (λ (z : Lit). LitWithin vars z) e q))))

pub marked-first : (vars : ℕ) (marks : List Bool) (known : List Lit) → Marks vars marks known → MarkedIn vars marks known
marked-first vars marks known m = λ k w e. sym (m k w) ∙ e

rest-of : (a b : Bool) → a ≡ false → (a || b) ≡ true → b ≡ true
rest-of true b e h = cc
rest-of false b e h = h

pub marked-cleared : (vars : ℕ) (marks : List Bool) (x : Lit) (rest : List Lit) → length marks ≡ 2 * vars → LitWithin vars x → MarkedIn vars marks (x ∷ rest) → MarkedIn vars (slice_set marks (code_of x) false) rest
marked-cleared vars marks x rest size p m = λ k w e.
    let below = code-below vars x p in
    let within : code_of x < length marks = omega arith in
    lit_cases k x (has_lit rest k ≡ true)
    (λ same. absurd (false≢true (sym (get_or-set_same marks (code_of x) false false within) ∙ subst (λ (z : Lit). get_or (slice_set marks (code_of x) false) (code_of z) false ≡ true) same e)))
    (λ n. rest-of (same_lit k x) (has_lit rest k) (same_lit-apart k x n) (m k w (sym (get_or-set_other marks (code_of x) (code_of k) false false (λ i. n (code-is vars k x w p i))) ∙ e)))

pub marked-skipped : (vars : ℕ) (marks : List Bool) (x : Lit) (rest : List Lit) → is_lit_within vars x ≡ false → MarkedIn vars marks (x ∷ rest) → MarkedIn vars marks rest
marked-skipped vars marks x rest out m = λ k w e.
    rest-of (same_lit k x) (has_lit rest k) (same_lit-apart k x (λ same. false≢true (sym out ∙ within-to vars x (subst (λ (z : Lit). LitWithin vars z) same w)))) (m k w e)

pub marked-none : (vars : ℕ) (marks : List Bool) → MarkedIn vars marks [] → Marks vars marks []
marked-none vars marks m = λ k w. false_from_ne_true (get_or marks (code_of k) false) (λ e. false≢true (m k w e))

-- the derived test of two literals is the definition's
pub eq-same : (k l : Lit) → ((k.var == l.var) && beq k.positive l.positive) ≡ same_lit l k
eq-same k l = λ i. eq_swap k.var l.var i && signs k.positive l.positive i
  where
    signs : (a b : Bool) → beq a b ≡ (if b then a else not a)
    signs true true = refl
    signs true false = refl
    signs false true = refl
    signs false false = refl

pub has-here : (x : Lit) (rest : List Lit) (l : Lit) → same_lit l x ≡ true → has_lit (x ∷ rest) l ≡ true
has-here x rest l e = or_left (same_lit l x) (has_lit rest l) e

pub has-later : (x : Lit) (rest : List Lit) (l : Lit) → same_lit l x ≡ false → has_lit (x ∷ rest) l ≡ has_lit rest l
has-later x rest l e = ap (λ (z : Bool). z || has_lit rest l) e
