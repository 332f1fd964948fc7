-- For `analysis`: the line that an analysis takes from a conflict follows by its hints.
use Rattle.std.proofs.Common.{◌≡◌, ℕ, ◌+◌, ◌≤◌, Bool, true, false, not, cond, ◌||◌, ◌&&◌, ◌==◌, List, [], ◌∷◌, ◌++◌, map, Option, Some, None, Result, Ok, refl, sym, ap, ◌∙◌, subst, arith, append_assoc, nat_lt}
use Rattle.std.specs.List.{All, list_any}
use Rattle.std.proofs.lemmas.Bool.{and_parts, and_from, or_left, or_from, cond-false, ne_eqb, le-ltb}
use Rattle.std.proofs.lemmas.List.{map-append}
use Rattle.std.proofs.lemmas.List.Elements.{All-nil, All-cons, All-head, All-tail, filter-append}
use Rattle.clause_db.specs.declared.lit.Lit.{Lit}
use Rattle.clause_db.specs.Clause.{opposite, same_lit, has_lit, clause_at}
use Rattle.clause_db.specs.Clauses.{Clauses}
use Rattle.clause_db.specs.Forced.{is_false_clause, not_false, only_open, forced_by}
use Rattle.clause_db.proofs.Literals.{same_lit-is, lit-parts, has-push_new, open-kept}
use Rattle.rup_check.specs.declared.error.LineErr.{LineErr}
use Rattle.rup_check.specs.Follows.{line_fault, hints_fault, last_hint_fault, with_forced, after_hint, fault_or, has_bad_lits, has_repeat}
use Rattle.trail_prop.specs.declared.entry.TrailEntry.{TrailEntry}
use Rattle.trail_prop.specs.Entries.{lits_of}
use Rattle.trail_prop.specs.Trails.{EachFits, IsTrail, HasReason, forced_at, IsFalseAt}
use Rattle.trail_prop.proofs.Known.{open-apart}
use Rattle.trail_prop.proofs.Forcing.{only_open-is}
use Rattle.trail_prop.proofs.Opening.{lits-push}
use Rattle.cdcl_prove.specs.Analysis.{entries_passing, reason_of, learnt_line_of, hints_of, AreVariablesSeen, IsReasonSeen, AreClosed}
use Rattle.trail_prop.proofs.Meeting.{known-more}

pub append-nil : {A : Type 0} (xs : List A) → xs ++ [] ≡ xs
append-nil [] = refl
append-nil {A} (x ∷ xs) = ap (λ (z : List A). x ∷ z) (append-nil xs)

has-append : (xs ys : List Lit) (l : Lit) → has_lit (xs ++ ys) l ≡ (has_lit xs l || has_lit ys l)
has-append [] ys l = refl
has-append (x ∷ xs) ys l = step (same_lit l x) (has-append xs ys l)
  where
    step : (a : Bool) → has_lit (xs ++ ys) l ≡ (has_lit xs l || has_lit ys l) → (a || has_lit (xs ++ ys) l) ≡ ((a || has_lit xs l) || has_lit ys l)
    step true e = refl
    step false e = e

-- the literals that the entries of some variables have
pub has-some : (test : ℕ → Bool) (es : List TrailEntry) (l : Lit) → has_lit (lits_of (entries_passing test es)) l ≡ (has_lit (lits_of es) l && test l.var)
has-some test [] l = refl
has-some test (x ∷ xs) l = step (has-some test xs l) (same_lit l x.lit) refl (test x.lit.var) refl
  where
    and-false : (a : Bool) → (a && false) ≡ false
    and-false true = refl
    and-false false = refl

    step : has_lit (lits_of (entries_passing test xs)) l ≡ (has_lit (lits_of xs) l && test l.var) → (s : Bool) → same_lit l x.lit ≡ s → (b : Bool) → test x.lit.var ≡ b → has_lit (lits_of (cond b (x ∷ entries_passing test xs) (entries_passing test xs))) l ≡ ((s || has_lit (lits_of xs) l) && test l.var)
    step ih true e true f = or_left (same_lit l x.lit) (has_lit (lits_of (entries_passing test xs)) l) e ∙ (sym f ∙ ap (λ (z : Lit). test z.var) (sym (same_lit-is l x.lit e)))
    step ih true e false f =
        let g : test l.var ≡ false = ap (λ (z : Lit). test z.var) (same_lit-is l x.lit e) ∙ f in
        ih ∙ (ap (λ (b : Bool). has_lit (lits_of xs) l && b) g ∙ (and-false (has_lit (lits_of xs) l) ∙ sym g))
    step ih false e true f = ap (λ (b : Bool). b || has_lit (lits_of (entries_passing test xs)) l) e ∙ ih
    step ih false e false f = ih

-- what is known before the entries after these: the kept literals, and the literals of these entries that are resolved away
abbrev known_at : (ℕ → Bool) → (ℕ → Bool) → List TrailEntry → List TrailEntry → List Lit
known_at kept resolved entries before = lits_of (entries_passing kept entries) ++ lits_of (entries_passing resolved before)

known-is : (kept resolved : ℕ → Bool) (entries before : List TrailEntry) (l : Lit) → has_lit (known_at kept resolved entries before) l ≡ ((has_lit (lits_of entries) l && kept l.var) || (has_lit (lits_of before) l && resolved l.var))
known-is kept resolved entries before l =
    has-append (lits_of (entries_passing kept entries)) (lits_of (entries_passing resolved before)) l ∙ (λ i. has-some kept entries l i || has-some resolved before l i)

-- a met literal that is true by these is known
known-where : (kept resolved : ℕ → Bool) (entries before : List TrailEntry) (l : Lit) → has_lit (lits_of entries) l ≡ true → has_lit (lits_of before) l ≡ true → (kept l.var || resolved l.var) ≡ true → has_lit (known_at kept resolved entries before) l ≡ true
known-where kept resolved entries before l a b m = known-is kept resolved entries before l ∙ (rw (a, b) m)

-- a literal that is not kept, and not true by these, is not known
unknown-where : (kept resolved : ℕ → Bool) (entries before : List TrailEntry) (l : Lit) → kept l.var ≡ false → has_lit (lits_of before) l ≡ false → has_lit (known_at kept resolved entries before) l ≡ false
unknown-where kept resolved entries before l k b = known-is kept resolved entries before l ∙ (rw (k, b) (none (has_lit (lits_of entries) l)))
  where
    none : (a : Bool) → ((a && false) || false) ≡ false
    none true = refl
    none false = refl

-- the same literals of a reason are not false
same-open : (kept resolved : ℕ → Bool) (entries before : List TrailEntry) (clause : List Lit) → ((l : Lit) → has_lit (lits_of before) l ≡ true → has_lit (lits_of entries) l ≡ true) → All (λ (l : Lit). (kept l.var || resolved l.var) ≡ true) clause → All (λ (l : Lit). kept l.var ≡ false) (not_false (lits_of before) clause) → not_false (known_at kept resolved entries before) clause ≡ not_false (lits_of before) clause
same-open kept resolved entries before [] sub met unkept = refl
same-open kept resolved entries before (l ∷ ls) sub met unkept = step (λ o. same-open kept resolved entries before ls sub (All-tail (λ (m : Lit). (kept m.var || resolved m.var) ≡ true) l ls met) o) (has_lit (lits_of before) (opposite l)) refl unkept
  where
    step : (All (λ (m : Lit). kept m.var ≡ false) (not_false (lits_of before) ls) → not_false (known_at kept resolved entries before) ls ≡ not_false (lits_of before) ls) → (b : Bool) → has_lit (lits_of before) (opposite l) ≡ b → All (λ (m : Lit). kept m.var ≡ false) (cond (not b) (l ∷ not_false (lits_of before) ls) (not_false (lits_of before) ls)) → not_false (known_at kept resolved entries before) (l ∷ ls) ≡ cond (not b) (l ∷ not_false (lits_of before) ls) (not_false (lits_of before) ls)
    step ih true e o =
        let k = known-where kept resolved entries before (opposite l) (sub (opposite l) e) e (All-head (λ (m : Lit). (kept m.var || resolved m.var) ≡ true) l ls met) in
        cond-false (not (has_lit (known_at kept resolved entries before) (opposite l))) (l ∷ not_false (known_at kept resolved entries before) ls) (not_false (known_at kept resolved entries before) ls) (ap not k)
        ∙ ih o
    step ih false e o =
        let k = unknown-where kept resolved entries before (opposite l) (All-head (λ (m : Lit). kept m.var ≡ false) l (not_false (lits_of before) ls) o) e in
        open-kept (known_at kept resolved entries before) ls l k
        ∙ ap (λ (z : List Lit). l ∷ z) (ih (All-tail (λ (m : Lit). kept m.var ≡ false) l (not_false (lits_of before) ls) o))

-- hence the reason of an entry that is resolved away forces it
still-forced : (kept resolved : ℕ → Bool) (entries before : List TrailEntry) (clause : List Lit) (l : Lit) → ((m : Lit) → has_lit (lits_of before) m ≡ true → has_lit (lits_of entries) m ≡ true) → All (λ (m : Lit). (kept m.var || resolved m.var) ≡ true) clause → kept l.var ≡ false → forced_by (lits_of before) clause ≡ Some l → forced_by (known_at kept resolved entries before) clause ≡ Some l
still-forced kept resolved entries before clause l sub met k f =
    let r = only_open-is (lits_of before) (not_false (lits_of before) clause) l f in
    let unkept : All (λ (m : Lit). kept m.var ≡ false) (not_false (lits_of before) clause) = subst (λ (z : List Lit). All (λ (m : Lit). kept m.var ≡ false) z) (sym r.0) (All-cons (λ (m : Lit). kept m.var ≡ false) l [] k (All-nil (λ (m : Lit). kept m.var ≡ false))) in
    let same = same-open kept resolved entries before clause sub met unkept ∙ r.0 in
    ap (λ (z : List Lit). only_open (known_at kept resolved entries before) z) same
    ∙ cond-false (has_lit (known_at kept resolved entries before) l) None (Some l) (unknown-where kept resolved entries before l k r.1)

-- and the false clause stays false
still-false : (kept resolved : ℕ → Bool) (entries : List TrailEntry) (clause : List Lit) → is_false_clause (lits_of entries) clause ≡ true → All (λ (l : Lit). (kept l.var || resolved l.var) ≡ true) clause → is_false_clause (known_at kept resolved entries entries) clause ≡ true
still-false kept resolved entries [] f met = refl
still-false kept resolved entries (l ∷ ls) f met =
    let parts = and_parts (has_lit (lits_of entries) (opposite l)) (is_false_clause (lits_of entries) ls) f in
    and_from (has_lit (known_at kept resolved entries entries) (opposite l)) (is_false_clause (known_at kept resolved entries entries) ls)
    (known-where kept resolved entries entries (opposite l) parts.0 parts.0 (All-head (λ (m : Lit). (kept m.var || resolved m.var) ≡ true) l ls met))
    (still-false kept resolved entries ls parts.1 (All-tail (λ (m : Lit). (kept m.var || resolved m.var) ≡ true) l ls met))

ends : (kept resolved : ℕ → Bool) (entries : List TrailEntry) (place : ℕ) (o : Option (List Lit)) → IsFalseAt (lits_of entries) o → AreVariablesSeen (λ v. kept v || resolved v) o → last_hint_fault (known_at kept resolved entries entries) place o ≡ None
ends kept resolved entries place None f met = absurd f
ends kept resolved entries place (Some clause) f met = rw (still-false kept resolved entries clause f met) refl

forces : (kept resolved : ℕ → Bool) (entries before : List TrailEntry) (place : ℕ) (l : Lit) (o : Option (List Lit)) → ((m : Lit) → has_lit (lits_of before) m ≡ true → has_lit (lits_of entries) m ≡ true) → forced_at (lits_of before) o ≡ Some l → AreVariablesSeen (λ v. kept v || resolved v) o → kept l.var ≡ false → after_hint (known_at kept resolved entries before) place o ≡ Ok (known_at kept resolved entries before ++ l ∷ [])
forces kept resolved entries before place l None sub f met k = absurd met
forces kept resolved entries before place l (Some clause) sub f met k =
    ap (λ (z : Option Lit). with_forced (known_at kept resolved entries before) place z) (still-forced kept resolved entries before clause l sub met k f)

-- a hint before the others
hint-before : (clauses : List (List Lit)) (known : List Lit) (place h n : ℕ) (hs : List ℕ) → hints_fault clauses known place (h ∷ (hs ++ n ∷ [])) ≡ fault_or (after_hint known place (clause_at clauses h)) (λ more. hints_fault clauses more (place + 1) (hs ++ n ∷ []))
hint-before clauses known place h n [] = refl
hint-before clauses known place h n (g ∷ gs) = refl

-- the hints from an entry on
from-here : (c : Clauses) (kept resolved : ℕ → Bool) (entries : List TrailEntry) (n : ℕ) (before es : List TrailEntry) (place : ℕ) → entries ≡ before ++ es → EachFits c before es → ((v : ℕ) → resolved v ≡ true → kept v ≡ false) → AreClosed resolved (λ v. kept v || resolved v) c.list es → IsFalseAt (lits_of entries) (clause_at c.list n) → AreVariablesSeen (λ v. kept v || resolved v) (clause_at c.list n) → hints_fault c.list (known_at kept resolved entries before) place (hints_of resolved es n) ≡ None
from-here c kept resolved entries n before [] place e f apart closed false' met =
    let whole : entries ≡ before = e ∙ append-nil before in
    subst (λ (z : List TrailEntry). last_hint_fault (known_at kept resolved entries z) place (clause_at c.list n) ≡ None) whole (ends kept resolved entries place (clause_at c.list n) false' met)
from-here c kept resolved entries n before (x ∷ xs) place e f apart closed false' met =
    let later : entries ≡ (before ++ x ∷ []) ++ xs = e ∙ sym (append_assoc before (x ∷ []) xs) in
    step (λ p. from-here c kept resolved entries n (before ++ x ∷ []) xs p later f.1 apart (All-tail (λ (y : TrailEntry). resolved y.lit.var ≡ true → IsReasonSeen (λ v. kept v || resolved v) c.list y.reason) x xs closed) false' met) (resolved x.lit.var) refl
  where
    grown : (b : Bool) → resolved x.lit.var ≡ b → known_at kept resolved entries (before ++ x ∷ []) ≡ known_at kept resolved entries before ++ lits_of (cond b (x ∷ []) [])
    grown b r =
        ap (λ (z : List TrailEntry). lits_of (entries_passing kept entries) ++ lits_of z) (filter-append (λ (y : TrailEntry). resolved y.lit.var) before (x ∷ []) ∙ ap (λ (t : Bool). entries_passing resolved before ++ cond t (x ∷ []) []) r)
        ∙ (ap (λ (z : List Lit). lits_of (entries_passing kept entries) ++ z) (map-append (λ (y : TrailEntry). y.lit) (entries_passing resolved before) (cond b (x ∷ []) []))
        ∙ sym (append_assoc (lits_of (entries_passing kept entries)) (lits_of (entries_passing resolved before)) (lits_of (cond b (x ∷ []) []))))

    sub : (m : Lit) → has_lit (lits_of before) m ≡ true → has_lit (lits_of entries) m ≡ true
    sub m h = subst (λ (z : List TrailEntry). has_lit (lits_of z) m ≡ true) (sym e) (known-more before (x ∷ xs) m h)

    hint : ((p : ℕ) → hints_fault c.list (known_at kept resolved entries (before ++ x ∷ [])) p (hints_of resolved xs n) ≡ None) → (o : Option ℕ) → HasReason c.list (lits_of before) x.lit o → IsReasonSeen (λ v. kept v || resolved v) c.list o → resolved x.lit.var ≡ true → x.reason ≡ o → hints_fault c.list (known_at kept resolved entries before) place (reason_of x ∷ hints_of resolved xs n) ≡ None
    hint rest None h m r w = absurd m
    hint rest (Some k) h m r w =
        let a = forces kept resolved entries before place x.lit (clause_at c.list k) sub h m (apart x.lit.var r) in
        ap (λ (o : Option ℕ). hints_fault c.list (known_at kept resolved entries before) place (reason_of (record x { reason = o }) ∷ hints_of resolved xs n)) w
        ∙ (hint-before c.list (known_at kept resolved entries before) place k n (map reason_of (entries_passing resolved xs))
        ∙ (ap (λ (z : Result (List Lit) LineErr). fault_or z (λ more. hints_fault c.list more (place + 1) (hints_of resolved xs n))) a
        ∙ subst (λ (z : List Lit). hints_fault c.list z (place + 1) (hints_of resolved xs n) ≡ None) (grown true r) (rest (place + 1))))

    step : ((p : ℕ) → hints_fault c.list (known_at kept resolved entries (before ++ x ∷ [])) p (hints_of resolved xs n) ≡ None) → (b : Bool) → resolved x.lit.var ≡ b → hints_fault c.list (known_at kept resolved entries before) place (map reason_of (cond b (x ∷ entries_passing resolved xs) (entries_passing resolved xs)) ++ n ∷ []) ≡ None
    step rest true r = hint rest x.reason f.0.reasons (All-head (λ (y : TrailEntry). resolved y.lit.var ≡ true → IsReasonSeen (λ v. kept v || resolved v) c.list y.reason) x xs closed r) r refl
    step rest false r = subst (λ (z : List Lit). hints_fault c.list z place (hints_of resolved xs n) ≡ None) (grown false r ∙ append-nil (known_at kept resolved entries before)) (rest place)

-- ---- the line's literals

no-bad_var : (c : Clauses) (kept : ℕ → Bool) (before es : List TrailEntry) → EachFits c before es → list_any (λ (l : Lit). (l.var == 0) || nat_lt c.vars l.var) (learnt_line_of kept es) ≡ false
no-bad_var c kept before [] f = refl
no-bad_var c kept before (x ∷ xs) f = step (no-bad_var c kept (before ++ x ∷ []) xs f.1) (kept x.lit.var)
  where
    here : ((x.lit.var == 0) || nat_lt c.vars x.lit.var) ≡ false
    here =
        let w = f.0.within in
        or_from (x.lit.var == 0) (nat_lt c.vars x.lit.var) (ne_eqb x.lit.var 0 (λ e. let z : 1 ≤ x.lit.var = w.0 in omega arith)) (le-ltb c.vars x.lit.var w.1)

    step : list_any (λ (l : Lit). (l.var == 0) || nat_lt c.vars l.var) (learnt_line_of kept xs) ≡ false → (b : Bool) → list_any (λ (l : Lit). (l.var == 0) || nat_lt c.vars l.var) (map (λ (e : TrailEntry). opposite e.lit) (cond b (x ∷ entries_passing kept xs) (entries_passing kept xs))) ≡ false
    step rest true = or_from ((x.lit.var == 0) || nat_lt c.vars x.lit.var) (list_any (λ (l : Lit). (l.var == 0) || nat_lt c.vars l.var) (learnt_line_of kept xs)) here rest
    step rest false = rest

-- a variable of an earlier entry is not that of a later one
none-later : (c : Clauses) (kept : ℕ → Bool) (before es : List TrailEntry) (k : Lit) → has_lit (lits_of before) k ≡ true → EachFits c before es → list_any (λ w. w == k.var) (map (λ (l : Lit). l.var) (learnt_line_of kept es)) ≡ false
none-later c kept before [] k h f = refl
none-later c kept before (x ∷ xs) k h f = step (none-later c kept (before ++ x ∷ []) xs k (known-more before (x ∷ []) k h) f.1) (kept x.lit.var)
  where
    step : list_any (λ w. w == k.var) (map (λ (l : Lit). l.var) (learnt_line_of kept xs)) ≡ false → (b : Bool) → list_any (λ w. w == k.var) (map (λ (l : Lit). l.var) (map (λ (e : TrailEntry). opposite e.lit) (cond b (x ∷ entries_passing kept xs) (entries_passing kept xs)))) ≡ false
    step rest true = or_from (x.lit.var == k.var) (list_any (λ w. w == k.var) (map (λ (l : Lit). l.var) (learnt_line_of kept xs))) (ne_eqb x.lit.var k.var (λ e. open-apart (lits_of before) x.lit k f.0.opens h (sym e))) rest
    step rest false = rest

no-repeat : (c : Clauses) (kept : ℕ → Bool) (before es : List TrailEntry) → EachFits c before es → has_repeat (map (λ (l : Lit). l.var) (learnt_line_of kept es)) ≡ false
no-repeat c kept before [] f = refl
no-repeat c kept before (x ∷ xs) f = step (no-repeat c kept (before ++ x ∷ []) xs f.1) (kept x.lit.var)
  where
    known : has_lit (lits_of (before ++ x ∷ [])) x.lit ≡ true
    known = ap (λ (z : List Lit). has_lit z x.lit) (lits-push before x) ∙ has-push_new (lits_of before) x.lit

    step : has_repeat (map (λ (l : Lit). l.var) (learnt_line_of kept xs)) ≡ false → (b : Bool) → has_repeat (map (λ (l : Lit). l.var) (map (λ (e : TrailEntry). opposite e.lit) (cond b (x ∷ entries_passing kept xs) (entries_passing kept xs)))) ≡ false
    step rest true = or_from (list_any (λ w. w == x.lit.var) (map (λ (l : Lit). l.var) (learnt_line_of kept xs))) (has_repeat (map (λ (l : Lit). l.var) (learnt_line_of kept xs))) (none-later c kept (before ++ x ∷ []) xs x.lit known f.1) rest
    step rest false = rest

not-not : (b : Bool) → not (not b) ≡ b
not-not true = refl
not-not false = refl

opposites : (es : List TrailEntry) → map opposite (map (λ (e : TrailEntry). opposite e.lit) es) ≡ lits_of es
opposites [] = refl
opposites (x ∷ xs) = λ i. lit-parts (opposite (opposite x.lit)) x.lit refl (not-not x.lit.positive) i ∷ opposites xs i

-- the line follows
pub line-follows : (c : Clauses) (kept resolved : ℕ → Bool) (entries : List TrailEntry) (n : ℕ) → IsTrail c entries → ((v : ℕ) → resolved v ≡ true → kept v ≡ false) → AreClosed resolved (λ v. kept v || resolved v) c.list entries → IsFalseAt (lits_of entries) (clause_at c.list n) → AreVariablesSeen (λ v. kept v || resolved v) (clause_at c.list n) → line_fault c.vars c.list (record { lits = learnt_line_of kept entries; hints = hints_of resolved entries n }) ≡ None
unfolding line_fault
line-follows c kept resolved entries n t apart closed false' met =
    let good : has_bad_lits c.vars (learnt_line_of kept entries) ≡ false = or_from (list_any (λ (l : Lit). (l.var == 0) || nat_lt c.vars l.var) (learnt_line_of kept entries)) (has_repeat (map (λ (l : Lit). l.var) (learnt_line_of kept entries))) (no-bad_var c kept [] entries t) (no-repeat c kept [] entries t) in
    let hints = from-here c kept resolved entries n [] entries 1 refl t apart closed false' met in
    rw good
    (subst (λ (z : List Lit). hints_fault c.list z 1 (hints_of resolved entries n) ≡ None) (append-nil (lits_of (entries_passing kept entries)) ∙ sym (opposites (entries_passing kept entries))) hints)
