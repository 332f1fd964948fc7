-- A watched literal stays safe while the trail grows and is cut and while entries are propagated. A clause that watches two
-- literals is settled once all entries are propagated.
use Rattle.std.proofs.Common.{◌≡◌, ◌≢◌, ℕ, ◌+◌, ◌-◌, ◌<◌, ◌≤◌, Bool, true, false, not, List, [], ◌∷◌, ◌++◌, None, length, get_or, take, drop, refl, sym, ap, ◌∙◌, subst, inl, inr, ◌⊎◌, arith, length-drop, get_or-drop, append_assoc}
use Rattle.std.specs.List.{All}
use Rattle.std.proofs.lemmas.Bool.{or_cases, false≢true, false_from_ne_true}
use Rattle.std.proofs.lemmas.List.Elements.{filter-append}
use Rattle.clause_db.specs.declared.lit.Lit.{Lit}
use Rattle.clause_db.specs.Clause.{opposite, has_lit, same_lit, neg_lit}
use Rattle.trail_prop.specs.declared.entry.TrailEntry.{TrailEntry}
use Rattle.trail_prop.specs.Entries.{lits_of, EachOpens, IsTrailEntry}
use Rattle.trail_prop.specs.Watchable.{IsLateFalse, IsWatchable}
use Rattle.trail_prop.specs.Open.{is_open, IsClauseSettled}
use Rattle.trail_prop.specs.Watching.{lit_at, HasTrue, IsSafe, IsFixed}
use Rattle.clause_db.specs.Forced.{not_false, only_open}
use Rattle.clause_db.proofs.Literals.{same_lit-is, has-push, lit-parts, open-kept, split-at}
use Rattle.trail_prop.proofs.Known.{open-parts}
use Rattle.trail_prop.proofs.Opening.{lits-push}
use Rattle.trail_prop.proofs.Forcing.{not-false-part, only_open-true}
use Rattle.trail_prop.proofs.Places.{known-entry, entry-known, entry-left, entry-of-left, entry-right, entry-same}

-- the trail grows
pub safe-grows : (es more : List TrailEntry) (head : ℕ) (clause : List Lit) (l : Lit) → head ≤ length es → IsSafe es head clause l → IsSafe (es ++ more) head clause l
safe-grows es more head clause l h s = λ k e b i f.
    let r = s k e b (entry-of-left es more k e (omega arith) i) f in
    (r.0, r.1, entry-left es more r.0 r.1 r.2, r.3, r.4)

pub fixed-grows : (es more : List TrailEntry) (clause : List Lit) → IsFixed es clause → IsFixed (es ++ more) clause
fixed-grows es more clause r = (r.0, r.1, entry-left es more r.0 r.1 r.2, r.3, r.4)

-- the trail is cut above a level
split : (j n : ℕ) → (j < n) ⊎ (n ≤ j)
split j n = grind arith

pub safe-cut : (later gone : List TrailEntry) (level head now : ℕ) (clause : List Lit) (l : Lit) → All (λ (e : TrailEntry). e.level ≤ level) later → All (λ (e : TrailEntry). level < e.level) gone → now ≤ head → now ≤ length later → IsSafe (later ++ gone) head clause l → IsSafe later now clause l
safe-cut later gone level head now clause l low high n m s = λ k e b i f.
    let r = s k e (omega arith) (entry-left later gone k e i) f in
    let up : e.level ≤ level = subst (λ (z : TrailEntry). z.level ≤ level) i.1 (low k e i.0) in
    elim (split r.0 (length later)) [
      | inl in' ↦ (r.0, r.1, entry-of-left later gone r.0 r.1 in' r.2, r.3, r.4)
      | inr out ↦
          let g = entry-right later gone r.0 r.1 out r.2 in
          let above : level < r.1.level = subst (λ (z : TrailEntry). level < z.level) g.1 (high (r.0 - length later) r.1 g.0) in
          let t = r.4 in
          absurd (omega arith)
    ]

pub fixed-cut : (later gone : List TrailEntry) (level : ℕ) (clause : List Lit) → All (λ (e : TrailEntry). level < e.level) gone → IsFixed (later ++ gone) clause → IsFixed later clause
fixed-cut later gone level clause high r =
    elim (split r.0 (length later)) [
      | inl in' ↦ (r.0, r.1, entry-of-left later gone r.0 r.1 in' r.2, r.3, r.4)
      | inr out ↦
          let g = entry-right later gone r.0 r.1 out r.2 in
          let above : level < r.1.level = subst (λ (z : TrailEntry). level < z.level) g.1 (high (r.0 - length later) r.1 g.0) in
          let t = r.4 in
          absurd (omega arith)
    ]

-- a literal and its opposite are not both true
not_not : (b : Bool) → b ≡ not (not b)
not_not true = refl
not_not false = refl

not_same : (b : Bool) → not b ≡ b → ⊥
not_same true e = false≢true e
not_same false e = false≢true (sym e)

pub opposite-twice : (l : Lit) → l ≡ opposite (opposite l)
opposite-twice l = lit-parts l (opposite (opposite l)) refl (not_not l.positive)

abbrev IsConsistent : List Lit → Type 0
IsConsistent known = (l : Lit) → has_lit known l ≡ true → has_lit known (opposite l) ≡ false

consistent-push : (known : List Lit) (x : Lit) → IsConsistent known → is_open known x ≡ true → IsConsistent (known ++ x ∷ [])
consistent-push known x c o = λ l h.
    let parts = open-parts known x o in
    let both : has_lit (known ++ x ∷ []) (opposite l) ≡ true → ⊥ = λ g.
    elim (or_cases (has_lit known l) (same_lit l x) (sym (has-push known x l) ∙ h)) [
      | inl p ↦ elim (or_cases (has_lit known (opposite l)) (same_lit (opposite l) x) (sym (has-push known x (opposite l)) ∙ g)) [
        | inl q ↦ false≢true (sym (c l p) ∙ q)
        | inr q ↦
            let e : opposite l ≡ x = same_lit-is (opposite l) x q in
            let f : l ≡ opposite x = lit-parts l (opposite x) (ap (λ (z : Lit). z.var) e) (not_not l.positive ∙ ap (λ (z : Lit). not z.positive) e) in
            false≢true (sym parts.1 ∙ (ap (λ (z : Lit). has_lit known z) (sym f) ∙ p))
      ]
      | inr p ↦
          let e : l ≡ x = same_lit-is l x p in
          elim (or_cases (has_lit known (opposite l)) (same_lit (opposite l) x) (sym (has-push known x (opposite l)) ∙ g)) [
            | inl q ↦ false≢true (sym parts.1 ∙ (ap (λ (z : Lit). has_lit known (opposite z)) (sym e) ∙ q))
            | inr q ↦ not_same l.positive (ap (λ (z : Lit). z.positive) (same_lit-is (opposite l) x q ∙ sym e))
          ]
    ] in
    false_from_ne_true (has_lit (known ++ x ∷ []) (opposite l)) both

append-nil : (xs : List TrailEntry) → xs ++ [] ≡ xs
append-nil [] = refl
append-nil (x ∷ xs) = ap (λ (z : List TrailEntry). x ∷ z) (append-nil xs)

consistent-from : (vars : ℕ) (before es : List TrailEntry) → EachOpens vars before es → IsConsistent (lits_of before) → IsConsistent (lits_of (before ++ es))
consistent-from vars before [] o c = subst (λ (z : List TrailEntry). IsConsistent (lits_of z)) (sym (append-nil before)) c
consistent-from vars before (x ∷ xs) o c =
    let d : IsConsistent (lits_of (before ++ x ∷ [])) = subst (λ (z : List Lit). IsConsistent z) (sym (lits-push before x)) (consistent-push (lits_of before) x.lit c o.1) in
    subst (λ (z : List TrailEntry). IsConsistent (lits_of z)) (append_assoc before (x ∷ []) xs) (consistent-from vars (before ++ x ∷ []) xs o.2 d)

pub consistent : (vars : ℕ) (es : List TrailEntry) (l : Lit) → EachOpens vars [] es → has_lit (lits_of es) l ≡ true → has_lit (lits_of es) (opposite l) ≡ false
consistent vars es l o h =
    let none : IsConsistent (lits_of []) = λ m n. absurd (false≢true n) in
    consistent-from vars [] es o none l h

-- a clause with a true literal is settled
only_true : (known ps qs : List Lit) (t : Lit) → has_lit known t ≡ true → only_open known (ps ++ t ∷ qs) ≡ None
only_true known [] qs t h = only_open-true known qs t h
only_true known (p ∷ []) qs t h = refl
only_true known (p ∷ q ∷ ps) qs t h = refl

only_two : (known ps qs rs : List Lit) (l m : Lit) → only_open known (ps ++ l ∷ (qs ++ m ∷ rs)) ≡ None
only_two known [] [] rs l m = refl
only_two known [] (q ∷ qs) rs l m = refl
only_two known (p ∷ []) qs rs l m = refl
only_two known (p ∷ q ∷ ps) qs rs l m = refl

kept-at : (known xs zs : List Lit) (l : Lit) → has_lit known (opposite l) ≡ false → not_false known (xs ++ l ∷ zs) ≡ not_false known xs ++ l ∷ not_false known zs
kept-at known xs zs l e = filter-append (λ (m : Lit). not (has_lit known (opposite m))) xs (l ∷ zs) ∙ ap (λ (z : List Lit). not_false known xs ++ z) (open-kept known zs l e)

settled-true : (known xs zs : List Lit) (t : Lit) → has_lit known t ≡ true → has_lit known (opposite t) ≡ false → IsClauseSettled known (xs ++ t ∷ zs)
settled-true known xs zs t h e =
    (not-false-part known xs zs t e, ap (λ (z : List Lit). only_open known z) (kept-at known xs zs t e) ∙ only_true known (not_false known xs) (not_false known zs) t h)

settled-two : (known xs ys zs : List Lit) (l m : Lit) → has_lit known (opposite l) ≡ false → has_lit known (opposite m) ≡ false → IsClauseSettled known (xs ++ l ∷ (ys ++ m ∷ zs))
settled-two known xs ys zs l m e f = (
  not-false-part known xs (ys ++ m ∷ zs) l e,
  ap (λ (z : List Lit). only_open known z) (kept-at known xs (ys ++ m ∷ zs) l e ∙ ap (λ (z : List Lit). not_false known xs ++ l ∷ z) (kept-at known ys zs m f)) ∙ only_two known (not_false known xs) (not_false known ys) (not_false known zs) l m,
)

has-split : (clause : List Lit) (l : Lit) → has_lit clause l ≡ true → (xs : List Lit) × (zs : List Lit) × (clause ≡ xs ++ l ∷ zs)
has-split [] l h = absurd (false≢true h)
has-split (x ∷ xs) l h =
    elim (or_cases (same_lit l x) (has_lit xs l) h) [
      | inl s ↦ ([], xs, ap (λ (z : Lit). z ∷ xs) (sym (same_lit-is l x s)))
      | inr r ↦ let q = has-split xs l r in (x ∷ q.0, q.1, ap (λ (z : List Lit). x ∷ z) q.2)
    ]

pub true-settled : (vars : ℕ) (es : List TrailEntry) (clause : List Lit) → EachOpens vars [] es → HasTrue (lits_of es) clause → IsClauseSettled (lits_of es) clause
true-settled vars es clause o t =
    let n = consistent vars es t.0 o t.2 in
    let p = has-split clause t.0 t.1 in
    subst (λ (z : List Lit). IsClauseSettled (lits_of es) z) (sym p.2) (settled-true (lits_of es) p.0 p.1 t.0 t.2 n)

pub fixed-true : (es : List TrailEntry) (clause : List Lit) → IsFixed es clause → HasTrue (lits_of es) clause
fixed-true es clause f = (f.1.lit, f.3, entry-known es f.0 f.1 f.2)

one-false : (vars : ℕ) (es : List TrailEntry) (clause : List Lit) (l : Lit) → EachOpens vars [] es → IsSafe es (length es) clause l → has_lit (lits_of es) (opposite l) ≡ true → IsClauseSettled (lits_of es) clause
one-false vars es clause l o s h =
    let k = known-entry es (opposite l) h in
    let r = s k.0 k.1 k.2.0 k.2 k.3 in
    true-settled vars es clause o (r.1.lit, r.3, entry-known es r.0 r.1 r.2)

two-places : (known clause : List Lit) (a b : ℕ) (d : Lit) → a < b → b < length clause → has_lit known (opposite (get_or clause a d)) ≡ false → has_lit known (opposite (get_or clause b d)) ≡ false → IsClauseSettled known clause
two-places known clause a b d l m e f =
    let rest = drop (a + 1) clause in
    let n : b - (a + 1) < length rest = omega (arith, length-drop (a + 1) clause) in
    let same : get_or rest (b - (a + 1)) d ≡ get_or clause b d = get_or-drop (a + 1) clause (b - (a + 1)) d ∙ ap (λ (j : ℕ). get_or clause j d) (omega arith) in
    let cut : clause ≡ take a clause ++ get_or clause a d ∷ (take (b - (a + 1)) rest ++ get_or rest (b - (a + 1)) d ∷ drop (b - (a + 1) + 1) rest) =
    split-at clause a d (omega arith) ∙ ap (λ (z : List Lit). take a clause ++ get_or clause a d ∷ z) (split-at rest (b - (a + 1)) d n) in
    subst (λ (z : List Lit). IsClauseSettled known z) (sym cut) (settled-two known (take a clause) (take (b - (a + 1)) rest) (drop (b - (a + 1) + 1) rest) (get_or clause a d) (get_or rest (b - (a + 1)) d) e (ap (λ (z : Lit). has_lit known (opposite z)) same ∙ f))

-- a clause that watches two different literals is settled once every entry is propagated
pub watched-settled : (vars : ℕ) (es : List TrailEntry) (clause : List Lit) (a b : ℕ) → EachOpens vars [] es → a < length clause → b < length clause → lit_at clause a ≢ lit_at clause b → IsSafe es (length es) clause (lit_at clause a) → IsSafe es (length es) clause (lit_at clause b) → IsClauseSettled (lits_of es) clause
watched-settled vars es clause a b o within-a within-b n s t =
    (elim (has_lit (lits_of es) (opposite (lit_at clause a))) as (λ x. has_lit (lits_of es) (opposite (lit_at clause a)) ≡ x → IsClauseSettled (lits_of es) clause) [
      | true ↦ λ h. one-false vars es clause (lit_at clause a) o s h
      | false ↦ λ e.
          (elim (has_lit (lits_of es) (opposite (lit_at clause b))) as (λ x. has_lit (lits_of es) (opposite (lit_at clause b)) ≡ x → IsClauseSettled (lits_of es) clause) [
            | true ↦ λ h. one-false vars es clause (lit_at clause b) o t h
            | false ↦ λ f. elim (either a b (λ q. n (ap (λ (i : ℕ). lit_at clause i) q))) [
              | inl l ↦ two-places (lits_of es) clause a b (neg_lit 0) l within-b e f
              | inr l ↦ two-places (lits_of es) clause b a (neg_lit 0) l within-a f e
            ]
          ]) refl
    ]) refl
  where
    either : (m n : ℕ) → m ≢ n → (m < n) ⊎ (n < m)
    either m n h = grind arith

-- a literal that is not false is safe
pub safe-open : (es : List TrailEntry) (head : ℕ) (clause : List Lit) (l : Lit) → has_lit (lits_of es) (opposite l) ≡ false → IsSafe es head clause l
safe-open es head clause l h = λ k e b i f.
    absurd (false≢true (sym h ∙ (ap (λ (z : Lit). has_lit (lits_of es) z) (sym f) ∙ entry-known es k e i)))

-- a literal that became false at the last level is safe in a clause with a true literal
pub safe-late : (es : List TrailEntry) (head : ℕ) (clause : List Lit) (l : Lit) → HasTrue (lits_of es) clause → IsLateFalse es l → IsSafe es head clause l
safe-late es head clause l t late = λ k e b i f.
    let q = known-entry es t.0 t.2 in
    let has : has_lit clause q.1.lit ≡ true = ap (λ (z : Lit). has_lit clause z) q.3 ∙ t.1 in
    (q.0, q.1, q.2, has, late k e i f q.0 q.1 q.2)

pub safe-good : (es : List TrailEntry) (holds : Bool) (clause : List Lit) (l : Lit) → (holds ≡ true → HasTrue (lits_of es) clause) → IsWatchable es holds l → (head : ℕ) → IsSafe es head clause l
safe-good es holds clause l t g head = elim g [
  | inl n ↦ safe-open es head clause l n
  | inr p ↦ safe-late es head clause l (t p.0) p.1
]

last-or-before : (k n : ℕ) → k < n + 1 → (k < n) ⊎ (k ≡ n)
last-or-before k n h = grind arith

at-head : (es : List TrailEntry) (head k : ℕ) (e x : TrailEntry) → IsTrailEntry es head e → k ≡ head → IsTrailEntry es k x → x ≡ e
at-head es head k e x h q i = entry-same es head e x h (subst (λ (n : ℕ). IsTrailEntry es n x) q i)

-- one more entry is propagated, for a clause with a true literal, if no entry has a higher level
pub safe-step : (es : List TrailEntry) (head : ℕ) (clause : List Lit) (l : Lit) (e : TrailEntry) → IsSafe es head clause l → IsTrailEntry es head e → HasTrue (lits_of es) clause → ((j : ℕ) (t : TrailEntry) → IsTrailEntry es j t → t.level ≤ e.level) → IsSafe es (head + 1) clause l
safe-step es head clause l e s h t top = λ k x b g f.
    elim (last-or-before k head b) [
      | inl lt ↦ s k x lt g f
      | inr same ↦
          let w = at-head es head k e x h same g in
          let q = known-entry es t.0 t.2 in
          let has : has_lit clause q.1.lit ≡ true = ap (λ (z : Lit). has_lit clause z) q.3 ∙ t.1 in
          let low : q.1.level ≤ x.level = subst (λ (z : TrailEntry). q.1.level ≤ z.level) (sym w) (top q.0 q.1 q.2) in
          (q.0, q.1, q.2, has, low)
    ]

-- one more entry is propagated, for a literal that the entry does not make false
pub safe-other : (es : List TrailEntry) (head : ℕ) (clause : List Lit) (l : Lit) (e : TrailEntry) → IsSafe es head clause l → IsTrailEntry es head e → e.lit ≢ opposite l → IsSafe es (head + 1) clause l
safe-other es head clause l e s h n = λ k x b g f.
    elim (last-or-before k head b) [
      | inl lt ↦ s k x lt g f
      | inr same ↦ absurd (n (ap (λ (z : TrailEntry). z.lit) (sym (at-head es head k e x h same g)) ∙ f))
    ]
