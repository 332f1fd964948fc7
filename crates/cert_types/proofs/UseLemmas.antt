-- For `uses`: what is counted, and that a clause with a literal that no line has is a subset of no line.
use Rattle.std.proofs.Common.{◌≡◌, ℕ, ◌<◌, ◌≤◌, ◌*◌, ◌-◌, ◌^◌, Bool, true, false, cond, min, nat_lt, ◌&&◌, List, [], ◌∷◌, ◌+◌, take, length, get_or, replicate, arith, refl, sym, ap, ◌∙◌}
use Rattle.std.specs.List.{list_all, sum_by}
use Rattle.std.proofs.lemmas.Bool.{and_parts, and_from, cond-true, cond-false, lt-ltb}
use Rattle.std.proofs.lemmas.List.{get_or-replicate}
use Rattle.std.proofs.lemmas.List.Sums.{fold_more, sum_by-append}
use Rattle.clause_db.specs.declared.lit.Lit.{Lit}
use Rattle.clause_db.specs.Clause.{has_lit, same_lit, code_of}
use Rattle.clause_db.proofs.Literals.{same_lit-refl, code-below}
use Rattle.cnf_encode.proofs.PairLemmas.{list_all-get}
use Rattle.rup_check.specs.declared.line.Line.{Line}
use Rattle.rup_check.specs.KnownLiterals.{is_lit_within}
use Rattle.rup_check.proofs.Marking.{within-from}
use Rattle.cert_types.specs.Fresh.{is_subclause}
use Rattle.cert_types.specs.Uses.{AreCounted, UsesView, are_used, count_of, is_used, one_more, times_in, times_of}
use Rattle.cert_types.proofs.SignatureLemmas.{has-parts}

-- if all literals pass a test, each of them does
used-of : (used : Lit → Bool) (lits : List Lit) (l : Lit) → has_lit lits l ≡ true → list_all used lits ≡ true → used l ≡ true
used-of used [] l h u = cc
used-of used (m ∷ ms) l h u =
    let parts = and_parts (used m) (list_all used ms) u in
    has-parts m ms l (used l ≡ true) h (λ e. ap used e ∙ parts.0) (λ r. used-of used ms l r parts.1)

-- a clause with a literal that fails the test is no subset of literals that all pass
pub unused : (used : Lit → Bool) (lits clause : List Lit) → list_all used clause ≡ false → list_all used lits ≡ true → is_subclause lits clause ≡ false
unused used lits [] e u = cc
unused used lits (l ∷ ls) e u = step (has_lit lits l) (used l) (λ h. used-of used lits l h u) e (λ f. unused used lits ls f u)
  where
    step : (b w : Bool) → (b ≡ true → w ≡ true) → (w && list_all used ls) ≡ false → (list_all used ls ≡ false → is_subclause lits ls ≡ false) → (b && is_subclause lits ls) ≡ false
    step false w f e rest = refl
    step true true f e rest = rest e
    step true false f e rest = absurd (clash (f refl))
      where
        clash : false ≡ true → ⊥
        clash c = cc

-- ---- counting lines

sum-cons : {X : Type 0} (f : X → ℕ) (x : X) (xs : List X) → sum_by f (x ∷ xs) ≡ f x + sum_by f xs
sum-cons f x xs =
    let both : sum_by f (x ∷ xs) ≡ (0 + f x) + sum_by f xs = sum_by-append f (x ∷ []) xs in
    omega (arith, both)

-- a literal is counted in those literals of a line that the loop has visited
pub CountedSoFar : UsesView → List Lit → List Lit → Lit → ℕ → Type 0
CountedSoFar uses left lits l t = (k : ℕ) × (count_of uses l ≡ min k (2 ^ 32 - 1)) × (k + times_in left l ≡ t + times_in lits l)

more-or-same : (b : Bool) (n k r : ℕ) (M w : ℕ) → n ≡ min k M → k + (cond b 1 0 + r) ≡ w → (j : ℕ) × (cond b (min (n + 1) M) n ≡ min j M) × (j + r ≡ w)
more-or-same true n k r M w e s = (k + 1, grind (arith, e), omega (arith, s))
more-or-same false n k r M w e s = (k, e, omega (arith, s))

pub counted-step : (old new : UsesView) (left rest lits : List Lit) (x l : Lit) (t : ℕ) → left ≡ x ∷ rest → count_of new l ≡ one_more old x l → CountedSoFar old left lits l t → CountedSoFar new rest lits l t
unfolding CountedSoFar
counted-step old new left rest lits x l t is e h =
    let sum : times_in left l ≡ cond (same_lit l x) 1 0 + times_in rest l = ap (λ (z : List Lit). times_in z l) is ∙ sum-cons (λ m. cond (same_lit l m) 1 0) x rest in
    let next = more-or-same (same_lit l x) (count_of old l) h.0 (times_in rest l) (2 ^ 32 - 1) (t + times_in lits l) h.1 (ap (λ n. h.0 + n) (sym sum) ∙ h.2) in
    (next.0, e ∙ next.1, next.2)

pub counted-start : (uses : UsesView) (lits : List Lit) (l : Lit) (t : ℕ) → count_of uses l ≡ min t (2 ^ 32 - 1) → CountedSoFar uses lits lits l t
unfolding CountedSoFar
counted-start uses lits l t e = (t, e, refl)

pub counted-end : (uses : UsesView) (left lits : List Lit) (l : Lit) (t : ℕ) → left ≡ [] → CountedSoFar uses left lits l t → count_of uses l ≡ min (t + times_in lits l) (2 ^ 32 - 1)
unfolding CountedSoFar
counted-end uses left lits l t is h =
    let none : times_in left l ≡ 0 = ap (λ (z : List Lit). times_in z l) is in
    let same : h.0 ≡ t + times_in lits l = omega (arith, none, h.2) in
    h.1 ∙ ap (λ n. min n (2 ^ 32 - 1)) same

-- one more line
pub counted-line : (vars : ℕ) (old new : UsesView) (lines : List Line) (i : ℕ) (line : Line) (lits : List Lit) → i < length lines → line ≡ get_or lines i line → lits ≡ line.lits → AreCounted vars (take i lines) old → new.vars ≡ old.vars → ((l : Lit) (t : ℕ) → is_lit_within old.vars l ≡ true → count_of old l ≡ min t (2 ^ 32 - 1) → count_of new l ≡ min (t + times_in lits l) (2 ^ 32 - 1)) → AreCounted vars (take (i + 1) lines) new
counted-line vars old new lines i line lits below is read h same more = record {
  of_vars = same ∙ h.of_vars;
  each = λ l w.
      let whole : times_of (take (i + 1) lines) l ≡ times_of (take i lines) l + times_in line.lits l = fold_more (λ a (x : Line). a + times_in x.lits l) 0 lines i line below ∙ ap (λ (x : Line). times_of (take i lines) l + times_in x.lits l) (sym is) in
      more l (times_of (take i lines) l) (ap (λ v. is_lit_within v l) h.of_vars ∙ w) (h.each l w)
      ∙ ap (λ n. min n (2 ^ 32 - 1)) (ap (λ (z : List Lit). times_of (take i lines) l + times_in z l) read ∙ sym whole);
}

-- no line
pub counted-none : (vars : ℕ) (counts : List ℕ) (lines : List Line) → counts ≡ replicate (2 * vars) 0 → AreCounted vars (take 0 lines) (record { vars = vars; counts = counts })
counted-none vars counts lines e = record {
  of_vars = refl;
  each = λ l w.
      cond-true (is_lit_within vars l) (get_or counts (code_of l) 0) (2 ^ 32 - 1) w
      ∙ ap (λ (z : List ℕ). get_or z (code_of l) 0) e
      ∙ get_or-replicate (2 * vars) (code_of l) 0 0 (code-below vars l (within-from vars l w));
}

-- ---- the literals of the lines are used

positive : (n : ℕ) → 1 ≤ n → nat_lt 0 (min n (2 ^ 32 - 1)) ≡ true
positive n l = lt-ltb 0 (min n (2 ^ 32 - 1)) (min-ge_one n l)
  where
    min-ge_one : (n : ℕ) → 1 ≤ n → 0 < min n (2 ^ 32 - 1)
    min-ge_one n l = grind (arith, l)

used-by : (vars : ℕ) (uses : UsesView) (lines : List Line) (l : Lit) → AreCounted vars lines uses → 1 ≤ times_of lines l → is_used uses l ≡ true
used-by vars uses lines l h some = go (is_lit_within uses.vars l) refl
  where
    go : (b : Bool) → is_lit_within uses.vars l ≡ b → is_used uses l ≡ true
    go true w = ap (nat_lt 0) (h.each l (ap (λ v. is_lit_within v l) (sym h.of_vars) ∙ w)) ∙ positive (times_of lines l) some
    go false w = ap (nat_lt 0) (cond-false (is_lit_within uses.vars l) (get_or uses.counts (code_of l) 0) (2 ^ 32 - 1) w)

used-lits : (uses : UsesView) (lits : List Lit) → ((l : Lit) → 1 ≤ times_in lits l → is_used uses l ≡ true) → are_used uses lits ≡ true
used-lits uses [] h = refl
used-lits uses (m ∷ ms) h =
    let own : times_in (m ∷ ms) m ≡ 1 + times_in ms m = sum-cons (λ x. cond (same_lit m x) 1 0) m ms ∙ ap (λ b. cond b 1 0 + times_in ms m) (same_lit-refl m) in
    and_from (is_used uses m) (are_used uses ms) (h m (omega (arith, own)))
    (used-lits uses ms (λ l k. let sum : times_in (m ∷ ms) l ≡ cond (same_lit l m) 1 0 + times_in ms l = sum-cons (λ x. cond (same_lit l x) 1 0) m ms in h l (omega (arith, sum, k))))

used-lines : (uses : UsesView) (lines : List Line) → ((l : Lit) → 1 ≤ times_of lines l → is_used uses l ≡ true) → list_all (λ line. are_used uses line.lits) lines ≡ true
used-lines uses [] h = refl
used-lines uses (line ∷ rest) h =
    let sum : (l : Lit) → times_of (line ∷ rest) l ≡ times_in line.lits l + times_of rest l = λ l. sum-cons (λ (x : Line). times_in x.lits l) line rest in
    and_from (are_used uses line.lits) (list_all (λ (x : Line). are_used uses x.lits) rest)
    (used-lits uses line.lits (λ l k. h l (omega (arith, sum l, k))))
    (used-lines uses rest (λ l k. h l (omega (arith, sum l, k))))

-- the literals of a line are among them
pub line-used : (vars : ℕ) (uses : UsesView) (lines : List Line) (i : ℕ) (line : Line) (lits : List Lit) → i < length lines → line ≡ get_or lines i line → lits ≡ line.lits → AreCounted vars lines uses → are_used uses lits ≡ true
line-used vars uses lines i line lits l is same h =
    ap (λ (z : List Lit). are_used uses z) same
    ∙ (ap (λ (z : Line). are_used uses z.lits) is ∙ list_all-get (λ (z : Line). are_used uses z.lits) lines i line (used-lines uses lines (λ m some. used-by vars uses lines m h some)) l)
