-- For `assignment`: entries by their places, and the place of each variable's entry.
use Rattle.std.proofs.Common.{◌≡◌, ◌≢◌, ℕ, zero, suc, ◌+◌, ◌-◌, ◌<◌, ◌≤◌, true, List, [], ◌∷◌, ◌++◌, length, get_or, refl, sym, ap, ◌∙◌, subst, inl, inr, ◌⊎◌, arith, length-append, add-one}
use Rattle.std.specs.Prelude.{slice_set}
use Rattle.std.proofs.lemmas.Bool.{or_cases, or_left, or_right, false≢true}
use Rattle.std.proofs.lemmas.List.{get_or_append_left, get_or_default, get_or-set_same, get_or-set_other}
use Rattle.clause_db.specs.declared.lit.Lit.{Lit}
use Rattle.clause_db.specs.Clause.{has_lit, same_lit}
use Rattle.clause_db.specs.Clauses.{LitWithin}
use Rattle.clause_db.proofs.Literals.{same_lit-is, same_lit-refl}
use Rattle.trail_prop.specs.declared.entry.TrailEntry.{TrailEntry}
use Rattle.trail_prop.specs.Entries.{lits_of, EachOpens, IsTrailEntry, AreIndexed}
use Rattle.trail_prop.specs.Open.{is_open}
use Rattle.trail_prop.proofs.Known.{open-apart}
use Rattle.trail_prop.proofs.Opening.{known-within}

-- entries and the literals that they make true
pub entry-here : (e : TrailEntry) (es : List TrailEntry) → IsTrailEntry (e ∷ es) 0 e
entry-here e es = (omega arith, refl)

pub entry-there : (x e : TrailEntry) (es : List TrailEntry) (k : ℕ) → IsTrailEntry es k e → IsTrailEntry (x ∷ es) (k + 1) e
entry-there x e es k (l, r) = rw add-one (omega arith, r)

pub known-entry : (es : List TrailEntry) (l : Lit) → has_lit (lits_of es) l ≡ true → (k : ℕ) × (e : TrailEntry) × IsTrailEntry es k e × (e.lit ≡ l)
known-entry [] l h = absurd (false≢true h)
known-entry (x ∷ xs) l h =
    elim (or_cases (same_lit l x.lit) (has_lit (lits_of xs) l) h) [
      | inl s ↦ (0, x, entry-here x xs, sym (same_lit-is l x.lit s))
      | inr r ↦ let q = known-entry xs l r in (q.0 + 1, q.1, entry-there x q.1 xs q.0 q.2, q.3)
    ]

pub entry-known : (es : List TrailEntry) (k : ℕ) (e : TrailEntry) → IsTrailEntry es k e → has_lit (lits_of es) e.lit ≡ true
entry-known [] k e (l, r) = absurd (omega arith)
entry-known (x ∷ xs) zero e (l, r) = or_left (same_lit e.lit x.lit) (has_lit (lits_of xs) e.lit) (ap (λ (z : TrailEntry). same_lit e.lit z.lit) r ∙ same_lit-refl e.lit)
entry-known (x ∷ xs) (suc k) e (l, r) = or_right (same_lit e.lit x.lit) (has_lit (lits_of xs) e.lit) (entry-known xs k e (omega arith, r))

-- entries of the first part are entries of the list, and entries of the list at places of the first part are entries of that part
pub entry-left : (xs ys : List TrailEntry) (k : ℕ) (e : TrailEntry) → IsTrailEntry xs k e → IsTrailEntry (xs ++ ys) k e
entry-left xs ys k e (l, r) = (omega (arith, length-append xs ys), get_or_append_left xs ys e k l ∙ r)

pub entry-of-left : (xs ys : List TrailEntry) (k : ℕ) (e : TrailEntry) → k < length xs → IsTrailEntry (xs ++ ys) k e → IsTrailEntry xs k e
entry-of-left xs ys k e l (m, r) = (l, sym (get_or_append_left xs ys e k l) ∙ r)

pub entry-right : (xs ys : List TrailEntry) (k : ℕ) (e : TrailEntry) → length xs ≤ k → IsTrailEntry (xs ++ ys) k e → IsTrailEntry ys (k - length xs) e
entry-right [] ys k e l i = let q : k ≡ k - 0 = omega arith in subst (λ (n : ℕ). IsTrailEntry ys n e) q i
entry-right (x ∷ xs) ys zero e l i = absurd (omega arith)
entry-right (x ∷ xs) ys (suc k) e l (m, r) =
    let i : IsTrailEntry (xs ++ ys) k e = (omega arith, r) in
    let q : suc k - suc (length xs) ≡ k - length xs = omega arith in
    rw q (entry-right xs ys k e (omega arith) i)

pub entry-same : (es : List TrailEntry) (k : ℕ) (e x : TrailEntry) → IsTrailEntry es k e → IsTrailEntry es k x → x ≡ e
entry-same es k e x (l, r) (m, s) = sym s ∙ (get_or_default es k x e l ∙ r)

-- the new entry's place, and the places of the others
pub indexed-push : (vars : ℕ) (index : List ℕ) (es : List TrailEntry) (e : TrailEntry) → EachOpens vars [] es → AreIndexed index es → length index ≡ vars → LitWithin vars e.lit → is_open (lits_of es) e.lit ≡ true → AreIndexed (slice_set index (e.lit.var - 1) (length es)) (es ++ e ∷ [])
indexed-push vars index es e o a s w f = λ k x i.
    elim (split k (length es)) [
      | inl below ↦
          let j : IsTrailEntry es k x = entry-of-left es (e ∷ []) k x below i in
          let h = entry-known es k x j in
          let v : LitWithin vars x.lit = known-within vars [] es x.lit o h in
          let n = open-apart (lits_of es) e.lit x.lit f h in
          let one = w.0 in
          let two = v.0 in
          let apart : x.lit.var - 1 ≢ e.lit.var - 1 = λ q. n (omega arith) in
          get_or-set_other index (e.lit.var - 1) (x.lit.var - 1) (length es) 0 apart ∙ a k x j
      | inr at ↦
          let r = entry-right es (e ∷ []) k x (omega arith) i in
          let last : k ≡ length es = omega (arith, r.0) in
          let same : x ≡ e = entry-same (e ∷ []) 0 e x (entry-here e []) (subst (λ (n : ℕ). IsTrailEntry (e ∷ []) n x) (omega arith) r) in
          let one = w.0 in
          let two = w.1 in
          let within : e.lit.var - 1 < length index = omega arith in
          subst (λ (z : TrailEntry). get_or (slice_set index (e.lit.var - 1) (length es)) (z.lit.var - 1) 0 ≡ k) (sym same) (get_or-set_same index (e.lit.var - 1) (length es) 0 within ∙ sym last)
    ]
  where
    split : (j n : ℕ) → (j < n) ⊎ (n ≤ j)
    split j n = grind arith

pub indexed-pop : (index : List ℕ) (es : List TrailEntry) (e : TrailEntry) → AreIndexed index (es ++ e ∷ []) → AreIndexed index es
indexed-pop index es e a = λ k x i. a k x (entry-left es (e ∷ []) k x i)
