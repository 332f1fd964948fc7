-- Trails with one more entry, fewer entries or one more clause, and trails that grow.
use Rattle.std.proofs.Common.{◌≡◌, ℕ, ◌+◌, ◌-◌, ◌<◌, ◌≤◌, Bool, true, false, cond, if◌then◌else◌, ◌==◌, List, [], ◌∷◌, ◌++◌, Option, Some, None, length, refl, sym, ap, ◌∙◌, subst, arith, append_assoc, filter, inl, inr, ◌⊎◌, ◌^◌}
use Rattle.std.specs.List.{All}
use Rattle.std.proofs.lemmas.Grind.{common_steps}
use Rattle.std.proofs.lemmas.List.Elements.{All-nil, All-cons, All-head, All-tail, All-append, All-weaker, filter-append}
use Rattle.clause_db.specs.declared.lit.Lit.{Lit}
use Rattle.clause_db.specs.Clause.{clause_at}
use Rattle.clause_db.specs.Clauses.{Clauses, LitWithin, ClausesWithin}
use Rattle.clause_db.specs.Forced.{forced_by}
use Rattle.trail_prop.specs.declared.entry.TrailEntry.{TrailEntry}
use Rattle.trail_prop.specs.Entries.{lits_of, level_of, is_decision, EachOpens}
use Rattle.trail_prop.specs.Trails.{EntryFits, EachFits, IsTrail, HasReason, forced_at, Grows, IsCut, is_up_to, TrailHolds, TrailView}
use Rattle.trail_prop.proofs.Opening.{no-more-than-vars, room-for-one}
use Rattle.trail_prop.proofs.Forcing.{forced-open, forced-within}
use Rattle.std.proofs.lemmas.List.Sums.{count_by-le-length}
use Rattle.trail_prop.specs.Open.{LitsWithin, is_open}

pub count-append : (xs ys : List TrailEntry) → level_of (xs ++ ys) ≡ level_of xs + level_of ys
count-append [] ys = omega arith
count-append (x ∷ xs) ys = let r = count-append xs ys in grind (arith, common_steps)

append-nil : (xs : List TrailEntry) → xs ++ [] ≡ xs
append-nil [] = refl
append-nil (x ∷ xs) = ap (λ (z : List TrailEntry). x ∷ z) (append-nil xs)

pub fits-push : (c : Clauses) (before es : List TrailEntry) (e : TrailEntry) → EachFits c before es → EntryFits c (before ++ es) e → EachFits c before (es ++ e ∷ [])
fits-push c before [] e f g = (subst (λ (z : List TrailEntry). EntryFits c z e) (append-nil before) g, tt)
fits-push c before (x ∷ xs) e f g = (f.0, fits-push c (before ++ x ∷ []) xs e f.1 (subst (λ (z : List TrailEntry). EntryFits c z e) (sym (append_assoc before (x ∷ []) xs)) g))

pub fits-part : (c : Clauses) (before xs ys : List TrailEntry) → EachFits c before (xs ++ ys) → EachFits c before xs
fits-part c before [] ys f = tt
fits-part c before (x ∷ xs) ys f = (f.0, fits-part c (before ++ x ∷ []) xs ys f.1)

pub fits-next : (c : Clauses) (before xs ys : List TrailEntry) (e : TrailEntry) → EachFits c before (xs ++ e ∷ ys) → EntryFits c (before ++ xs) e
fits-next c before [] ys e f = subst (λ (z : List TrailEntry). EntryFits c z e) (sym (append-nil before)) f.0
fits-next c before (x ∷ xs) ys e f = subst (λ (z : List TrailEntry). EntryFits c z e) (append_assoc before (x ∷ []) xs) (fits-next c (before ++ x ∷ []) xs ys e f.1)

pub fits-opens : (c : Clauses) (before es : List TrailEntry) → EachFits c before es → EachOpens c.vars before es
fits-opens c before [] f = tt
fits-opens c before (x ∷ xs) f = (f.0.within, f.0.opens, fits-opens c (before ++ x ∷ []) xs f.1)

pub no-more-entries : (c : Clauses) (es : List TrailEntry) → IsTrail c es → length es ≤ c.vars
no-more-entries c es f = no-more-than-vars c.vars es (fits-opens c [] es f)

-- one more clause keeps each reason
at-more : (known : List Lit) (clauses more : List (List Lit)) (n : ℕ) (l : Lit) → forced_at known (clause_at clauses n) ≡ Some l → forced_at known (clause_at (clauses ++ more) n) ≡ Some l
at-more known [] more n l e = cc
at-more known (d ∷ ds) more n l e = step (n == 1) (at-more known ds more (n - 1) l) e
  where
    step : (b : Bool) → (forced_at known (clause_at ds (n - 1)) ≡ Some l → forced_at known (clause_at (ds ++ more) (n - 1)) ≡ Some l) → forced_at known (if b then Some d else clause_at ds (n - 1)) ≡ Some l → forced_at known (if b then Some d else clause_at (ds ++ more) (n - 1)) ≡ Some l
    step true f e = e
    step false f e = f e

reason-more : (clauses more : List (List Lit)) (known : List Lit) (l : Lit) (o : Option ℕ) → HasReason clauses known l o → HasReason (clauses ++ more) known l o
reason-more clauses more known l None h = h
reason-more clauses more known l (Some n) h = at-more known clauses more n l h

pub fits-add : (c d : Clauses) (more : List (List Lit)) (before es : List TrailEntry) → d.vars ≡ c.vars → d.list ≡ c.list ++ more → EachFits c before es → EachFits d before es
fits-add c d more before [] v l f = tt
fits-add c d more before (x ∷ xs) v l f =
    let r : EntryFits d before x = record {
      within = subst (λ (n : ℕ). LitWithin n x.lit) (sym v) f.0.within;
      opens = f.0.opens;
      levels = f.0.levels;
      reasons = subst (λ (z : List (List Lit)). HasReason z (lits_of before) x.lit x.reason) (sym l) (reason-more c.list more (lits_of before) x.lit x.reason f.0.reasons);
    } in
    (r, fits-add c d more (before ++ x ∷ []) xs v l f.1)

one-more : (b : Bool) → cond {A = ℕ} b 1 0 ≤ 1
one-more true = omega arith
one-more false = omega arith

pub level-push : (es : List TrailEntry) (e : TrailEntry) → level_of (es ++ e ∷ []) ≡ level_of es + cond {A = ℕ} (is_decision e) 1 0
level-push es e = count-append es (e ∷ []) ∙ grind (arith, common_steps)

pub level-part : (xs ys : List TrailEntry) → level_of xs ≤ level_of (xs ++ ys)
level-part xs ys = let e = count-append xs ys in omega arith

-- each entry's level is at most the number of all decisions
pub levels-up : (c : Clauses) (before es : List TrailEntry) → EachFits c before es → All (λ (e : TrailEntry). e.level ≤ level_of (before ++ es)) es
levels-up c before [] f = All-nil (λ (e : TrailEntry). e.level ≤ level_of (before ++ []))
levels-up c before (x ∷ xs) f =
    let a = append_assoc before (x ∷ []) xs in
    let p = level-part (before ++ x ∷ []) xs in
    let q = f.0.levels in
    let here : x.level ≤ level_of (before ++ x ∷ xs) = subst (λ (z : List TrailEntry). x.level ≤ level_of z) a (omega arith) in
    let rest : All (λ (e : TrailEntry). e.level ≤ level_of (before ++ x ∷ xs)) xs = subst (λ (z : List TrailEntry). All (λ (e : TrailEntry). e.level ≤ level_of z) xs) a (levels-up c (before ++ x ∷ []) xs f.1) in
    All-cons (λ (e : TrailEntry). e.level ≤ level_of (before ++ x ∷ xs)) x xs here rest

no-decisions : (level : ℕ) (es : List TrailEntry) → All (λ (e : TrailEntry). (is_decision e ≡ false) × (e.level ≡ level)) es → level_of es ≡ 0
no-decisions level [] a = refl
no-decisions level (x ∷ xs) a =
    let h = All-head (λ (e : TrailEntry). (is_decision e ≡ false) × (e.level ≡ level)) x xs a in
    let t = no-decisions level xs (All-tail (λ (e : TrailEntry). (is_decision e ≡ false) × (e.level ≡ level)) x xs a) in
    let d = h.0 in
    grind (arith, common_steps)

pub grows-level : (earlier later : List TrailEntry) → Grows earlier later → level_of later ≡ level_of earlier
grows-level earlier later g =
    let n = no-decisions (level_of earlier) g.more g.forced in
    let s = ap level_of g.follows in
    let a = count-append earlier g.more in
    omega arith

pub grows-trans : (a b c : List TrailEntry) → Grows a b → Grows b c → Grows a c
grows-trans a b c g h =
    let l = grows-level a b g in
    record {
      more = g.more ++ h.more;
      follows = h.follows ∙ (ap (λ (z : List TrailEntry). z ++ h.more) g.follows ∙ append_assoc a g.more h.more);
      forced = All-append (λ (e : TrailEntry). (is_decision e ≡ false) × (e.level ≡ level_of a)) g.more h.more g.forced (All-weaker (λ (e : TrailEntry). (is_decision e ≡ false) × (e.level ≡ level_of b)) (λ (e : TrailEntry). (is_decision e ≡ false) × (e.level ≡ level_of a)) (λ x p. (p.0, p.1 ∙ l)) h.more h.forced);
    }

pub grows-push : (es : List TrailEntry) (e : TrailEntry) → is_decision e ≡ false → e.level ≡ level_of es → Grows es (es ++ e ∷ [])
grows-push es e d l =
    record { more = e ∷ []; follows = refl; forced = All-cons (λ (x : TrailEntry). (is_decision x ≡ false) × (x.level ≡ level_of es)) e [] (d, l) (All-nil (λ (x : TrailEntry). (is_decision x ≡ false) × (x.level ≡ level_of es))) }

-- an entry is kept by its level, or not
pub keeps : (level : ℕ) (e : TrailEntry) → e.level ≤ level → is_up_to level e ≡ true
keeps level e h = grind (arith, common_steps)

drops : (level : ℕ) (e : TrailEntry) → level < e.level → is_up_to level e ≡ false
drops level e h = grind (arith, common_steps)

pub keeps-all : (level : ℕ) (es : List TrailEntry) → All (λ (e : TrailEntry). e.level ≤ level) es → filter (is_up_to level) es ≡ es
keeps-all level [] a = refl
keeps-all level (x ∷ xs) a =
    let h = keeps level x (All-head (λ (e : TrailEntry). e.level ≤ level) x xs a) in
    let t = keeps-all level xs (All-tail (λ (e : TrailEntry). e.level ≤ level) x xs a) in
    rw (h, t) refl

pub drops-all : (level : ℕ) (es : List TrailEntry) → All (λ (e : TrailEntry). level < e.level) es → filter (is_up_to level) es ≡ []
drops-all level [] a = refl
drops-all level (x ∷ xs) a =
    let h = drops level x (All-head (λ (e : TrailEntry). level < e.level) x xs a) in
    let t = drops-all level xs (All-tail (λ (e : TrailEntry). level < e.level) x xs a) in
    rw (h, t) refl

pub holds-after : (clauses : Clauses) (vars : ℕ) (entries : List TrailEntry) (level after : ℕ) (e : TrailEntry) → TrailHolds clauses vars entries level → EntryFits clauses entries e → after ≡ level_of (entries ++ e ∷ []) → TrailHolds clauses vars (entries ++ e ∷ []) after
holds-after clauses vars entries level after e h f l =
    record { same_vars = h.same_vars; within = h.within; trail = fits-push clauses [] entries e h.trail f; levels = l; small = h.small }

pub decision-fits : (clauses : Clauses) (entries : List TrailEntry) (lit : Lit) (level : ℕ) → level ≡ level_of entries → LitWithin clauses.vars lit → is_open (lits_of entries) lit ≡ true → EntryFits clauses entries (record { lit = lit; level = level + 1; reason = None })
decision-fits clauses entries lit level l w o =
    let p = level-push entries (record { lit = lit; level = level + 1; reason = None }) in
    record { within = w; opens = o; levels = omega (arith, p); reasons = tt }

at-open : (known : List Lit) (l : Lit) (o : Option (List Lit)) → forced_at known o ≡ Some l → is_open known l ≡ true
at-open known l None e = cc
at-open known l (Some clause) e = forced-open known clause l e

at-within : (vars : ℕ) (known : List Lit) (clauses : List (List Lit)) (n : ℕ) (l : Lit) → ClausesWithin vars clauses → forced_at known (clause_at clauses n) ≡ Some l → LitWithin vars l
at-within vars known [] n l w e = cc
at-within vars known (d ∷ ds) n l w e =
    step (n == 1) (forced-within vars known d l (All-head (LitsWithin vars) d ds w)) (at-within vars known ds (n - 1) l (All-tail (LitsWithin vars) d ds w)) e
  where
    step : (b : Bool) → (forced_by known d ≡ Some l → LitWithin vars l) → (forced_at known (clause_at ds (n - 1)) ≡ Some l → LitWithin vars l) → forced_at known (if b then Some d else clause_at ds (n - 1)) ≡ Some l → LitWithin vars l
    step true f g e = f e
    step false f g e = g e

pub forced-fits : (clauses : Clauses) (entries : List TrailEntry) (lit : Lit) (level n : ℕ) → level ≡ level_of entries → ClausesWithin clauses.vars clauses.list → forced_at (lits_of entries) (clause_at clauses.list n) ≡ Some lit → EntryFits clauses entries (record { lit = lit; level = level; reason = Some n })
forced-fits clauses entries lit level n l w f =
    let p = level-push entries (record { lit = lit; level = level; reason = Some n }) in
    record { within = at-within clauses.vars (lits_of entries) clauses.list n lit w f; opens = at-open (lits_of entries) lit (clause_at clauses.list n) f; levels = omega (arith, p); reasons = f }

pub few-levels : (clauses : Clauses) (vars : ℕ) (entries : List TrailEntry) (level : ℕ) (lit : Lit) → TrailHolds clauses vars entries level → LitWithin clauses.vars lit → is_open (lits_of entries) lit ≡ true → level + 1 < 2 ^ 32
few-levels clauses vars entries level lit h w o =
    let room = room-for-one clauses.vars entries (record { lit = lit; level = 0; reason = None }) (fits-opens clauses [] entries h.trail) w o in
    let count = count_by-le-length is_decision entries in
    let a = h.same_vars in
    let b = h.levels in
    let c = h.small in
    omega arith

-- a trail cut above a level is the trail up to that level
pub cut-levels : (clauses : Clauses) (level : ℕ) (earlier later : List TrailEntry) → IsTrail clauses earlier → level ≤ level_of earlier → IsCut level earlier later → (level_of later ≡ level) × (later ≡ filter (is_up_to level) earlier) × IsTrail clauses later
cut-levels clauses level earlier later t l k =
    let whole : IsTrail clauses (later ++ k.gone) = subst (λ (z : List TrailEntry). IsTrail clauses z) k.splits t in
    let part : IsTrail clauses later = fits-part clauses [] later k.gone whole in
    let low : level ≤ level_of later = least k.gone whole k.above (subst (λ (z : List TrailEntry). level ≤ level_of z) k.splits l) in
    let high : level_of later ≤ level = most later part k.ends in
    let same : level_of later ≡ level = omega arith in
    let up : All (λ (e : TrailEntry). e.level ≤ level) later = subst (λ (n : ℕ). All (λ (e : TrailEntry). e.level ≤ n) later) same (levels-up clauses [] later part) in
    let kept : filter (is_up_to level) earlier ≡ later =
    ap (λ (z : List TrailEntry). filter (is_up_to level) z) k.splits ∙ (filter-append (is_up_to level) later k.gone ∙ rw (keeps-all level later up, drops-all level k.gone k.above) (append-nil later)) in
    (same, sym kept, part)
  where
    least : (gone : List TrailEntry) → IsTrail clauses (later ++ gone) → All (λ (e : TrailEntry). level < e.level) gone → level ≤ level_of (later ++ gone) → level ≤ level_of later
    least [] w a l = subst (λ (z : List TrailEntry). level ≤ level_of z) (append-nil later) l
    least (g ∷ gs) w a l =
        let f = (fits-next clauses [] later gs g w).levels in
        let h = All-head (λ (e : TrailEntry). level < e.level) g gs a in
        let p = level-push later g in
        let o = one-more (is_decision g) in
        omega arith

    last-is : (es : List TrailEntry) → (es ≡ []) ⊎ ((xs : List TrailEntry) × (e : TrailEntry) × (es ≡ xs ++ e ∷ []))
    last-is [] = inl refl
    last-is (x ∷ xs) = elim (last-is xs) [ inl e ↦ inr ([], x, ap (λ (z : List TrailEntry). x ∷ z) e) | inr r ↦ inr (x ∷ r.0, r.1, ap (λ (z : List TrailEntry). x ∷ z) r.2) ]

    most : (es : List TrailEntry) → IsTrail clauses es → ((xs : List TrailEntry) (e : TrailEntry) → es ≡ xs ++ e ∷ [] → e.level ≤ level) → level_of es ≤ level
    most es w f = elim (last-is es) [
      | inl e ↦ let z : level_of es ≡ 0 = ap level_of e in omega arith
      | inr r ↦
          let g = (fits-next clauses [] r.0 [] r.1 (subst (λ (z : List TrailEntry). IsTrail clauses z) r.2 w)).levels in
          let s = ap level_of r.2 in
          let b = f r.0 r.1 r.2 in
          omega arith
    ]

-- two trails with the same clauses and entries are equal
pub same-trail : (t : TrailView) (c : Clauses) (es : List TrailEntry) → t.clauses ≡ c → t.entries ≡ es → t ≡ record { clauses = c; entries = es }
same-trail t c es p q = λ i. record { clauses = p i; entries = q i }
