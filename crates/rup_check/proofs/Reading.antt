-- For the loops: what is left of a list of hints or lines decides as the complete list does.
use Rattle.std.proofs.Common.{◌≡◌, ℕ, ◌+◌, ◌-◌, ◌<◌, ◌≤◌, Bool, true, false, ◌==◌, if◌then◌else◌, List, [], ◌∷◌, ◌++◌, map, length, take, drop, get_or, Option, Some, None, Result, Ok, Err, refl, sym, ap, ◌∙◌, subst, arith, eqb-true, append_assoc}
use Rattle.std.proofs.lemmas.Bool.{eq-eqb, false_from_ne_true}
use Rattle.std.proofs.lemmas.List.{length-drop, length-map, get_or-map, take_more}
use Rattle.clause_db.proofs.Cutting.{clause_at-get}
use Rattle.clause_db.proofs.Literals.{drop-from}
use Rattle.clause_db.proofs.Numbering.{clause_at-after}
use Rattle.clause_db.specs.declared.lit.Lit.{Lit}
use Rattle.clause_db.specs.Clause.{opposite, has_lit, is_empty_clause, clause_at}
use Rattle.clause_db.specs.Forced.{only_open}
use Rattle.rup_check.specs.declared.line.Line.{Line}
use Rattle.rup_check.specs.declared.error.LineErr.{LineErr}
use Rattle.rup_check.specs.declared.error.LineErr.TheVariants.{BadLits, NoSuchClause, NotUnit, NotFalsified, NoMemory}
use Rattle.rup_check.specs.declared.error.LogErr.{LogErr}
use Rattle.rup_check.specs.declared.error.LogErr.TheVariants.{BadLine}
use Rattle.rup_check.specs.Answers.{LineAnswer}
use Rattle.rup_check.specs.Packed.{line_at, no_line}
use Rattle.rup_check.specs.Follows.{has_bad_lits, after_hint, clauses_before, fault_or, hints_fault, line_fault, line_or, lines_fault, ends_empty}
use Rattle.pack_defs.proofs.Words.{same-truth}

if_true : {A : Type 0} (b : Bool) (x y : A) → b ≡ true → (if b then x else y) ≡ x
if_true true x y e = refl
if_true false x y e = cc

if_false : {A : Type 0} (b : Bool) (x y : A) → b ≡ false → (if b then x else y) ≡ y
if_false true x y e = cc
if_false false x y e = refl

-- none is left after a place exactly if it is the last
none-behind : (i n : ℕ) → i < n → (n - (i + 1) == 0) ≡ (i + 1 == n)
none-behind i n h =
    same-truth (n - (i + 1) == 0) (i + 1 == n)
    (λ e. let z : n - (i + 1) ≡ 0 = eqb-true (n - (i + 1)) 0 e in eq-eqb (i + 1) n (omega (arith, h, z)))
    (λ e. let z : i + 1 ≡ n = eqb-true (i + 1) n e in eq-eqb (n - (i + 1)) 0 (omega (arith, z)))

ends-first : (line : Line) (rest : List Line) → is_empty_clause line.lits ≡ true → ends_empty (line ∷ rest) ≡ (length rest == 0)
ends-first line [] e = e
ends-first line (x ∷ xs) e = if_true (is_empty_clause line.lits) false (ends_empty (x ∷ xs)) e ∙ sym (false_from_ne_true (length (x ∷ xs) == 0) (λ h. let z = eqb-true (length (x ∷ xs)) 0 h in absurd (omega arith)))

ends-rest : (line : Line) (rest : List Line) → is_empty_clause line.lits ≡ false → ends_empty (line ∷ rest) ≡ ends_empty rest
ends-rest line [] e = e
ends-rest line (x ∷ xs) e = if_false (is_empty_clause line.lits) false (ends_empty (x ∷ xs)) e

-- the first line without a literal decides, by its place
pub ends-early : (lines : List Line) (i : ℕ) → i < length lines → is_empty_clause (line_at lines i).lits ≡ true → ends_empty (drop i lines) ≡ (i + 1 == length lines)
ends-early lines i h e =
    ap ends_empty (drop-from lines i no_line h)
    ∙ ends-first (line_at lines i) (drop (i + 1) lines) e
    ∙ ap (λ (n : ℕ). n == 0) (length-drop (i + 1) lines)
    ∙ none-behind i (length lines) h

pub ends-later : (lines : List Line) (i : ℕ) → i < length lines → is_empty_clause (line_at lines i).lits ≡ false → ends_empty (drop i lines) ≡ ends_empty (drop (i + 1) lines)
ends-later lines i h e = ap ends_empty (drop-from lines i no_line h) ∙ ends-rest (line_at lines i) (drop (i + 1) lines) e

pub hints-more : (clauses : List (List Lit)) (known : List Lit) (place h : ℕ) (xs : List ℕ) (last : ℕ) → hints_fault clauses known place (h ∷ (xs ++ last ∷ [])) ≡ fault_or (after_hint known place (clause_at clauses h)) (λ more. hints_fault clauses more (place + 1) (xs ++ last ∷ []))
hints-more clauses known place h [] last = refl
hints-more clauses known place h (x ∷ xs) last = refl

pub hints-forced : (clauses : List (List Lit)) (known more : List Lit) (place h : ℕ) (xs : List ℕ) (last : ℕ) → after_hint known place (clause_at clauses h) ≡ Ok more → hints_fault clauses known place (h ∷ (xs ++ last ∷ [])) ≡ hints_fault clauses more (place + 1) (xs ++ last ∷ [])
hints-forced clauses known more place h xs last e =
    hints-more clauses known place h xs last ∙ ap (λ (r : Result (List Lit) LineErr). fault_or r (λ more. hints_fault clauses more (place + 1) (xs ++ last ∷ []))) e

pub hints-stopped : (clauses : List (List Lit)) (known : List Lit) (why : LineErr) (place h : ℕ) (xs : List ℕ) (last : ℕ) → after_hint known place (clause_at clauses h) ≡ Err why → hints_fault clauses known place (h ∷ (xs ++ last ∷ [])) ≡ Some why
hints-stopped clauses known why place h xs last e =
    hints-more clauses known place h xs last ∙ ap (λ (r : Result (List Lit) LineErr). fault_or r (λ more. hints_fault clauses more (place + 1) (xs ++ last ∷ []))) e

pub answer-fault : (fault : Option LineErr) (why : LineErr) → fault ≡ Some why → LineAnswer fault (Err why)
answer-fault fault BadLits e = e
answer-fault fault (NoSuchClause hint) e = e
answer-fault fault (NotUnit hint) e = e
answer-fault fault NotFalsified e = e
answer-fault fault NoMemory e = tt

pub only-one : (known : List Lit) (l : Lit) (b : Bool) → has_lit known l ≡ b → only_open known (l ∷ []) ≡ (if b then None else Some l)
only-one known l b e = ap (λ (x : Bool). (if x then None else Some l)) e

-- the lines so far, and one more
pub clauses-more : (clauses : List (List Lit)) (lines : List Line) (line : Line) → clauses_before clauses (lines ++ line ∷ []) ≡ clauses_before clauses lines ++ line.lits ∷ []
clauses-more clauses lines line = ap (λ (z : List (List Lit)). clauses ++ z) (map-push lines) ∙ sym (append_assoc clauses (map (λ (l : Line). l.lits) lines) (line.lits ∷ []))
  where
    map-push : (xs : List Line) → map (λ (l : Line). l.lits) (xs ++ line ∷ []) ≡ map (λ (l : Line). l.lits) xs ++ line.lits ∷ []
    map-push [] = refl
    map-push (x ∷ xs) = ap (λ (z : List (List Lit)). x.lits ∷ z) (map-push xs)

pub line-passed : (vars place : ℕ) (clauses : List (List Lit)) (line : Line) (lines : List Line) → line_fault vars clauses line ≡ None → lines_fault vars clauses place (line ∷ lines) ≡ lines_fault vars (clauses ++ line.lits ∷ []) (place + 1) lines
unfolding lines_fault
line-passed vars place clauses line lines e = ap (λ (o : Option LineErr). line_or place o (lines_fault vars (clauses ++ line.lits ∷ []) (place + 1) lines)) e

pub line-stopped : (vars place : ℕ) (clauses : List (List Lit)) (line : Line) (lines : List Line) (why : LineErr) → line_fault vars clauses line ≡ Some why → lines_fault vars clauses place (line ∷ lines) ≡ Some (BadLine place why)
unfolding lines_fault
line-stopped vars place clauses line lines why e = ap (λ (o : Option LineErr). line_or place o (lines_fault vars (clauses ++ line.lits ∷ []) (place + 1) lines)) e

pub no-lines : (vars place : ℕ) (clauses : List (List Lit)) → lines_fault vars clauses place [] ≡ None
unfolding lines_fault
no-lines vars place clauses = refl

-- a number above the clauses' names an earlier line
pub line-read : (clauses : List (List Lit)) (earlier : List Line) (number count : ℕ) (line : Line) (lits : List Lit) → count ≡ length clauses → count < number → number - count ≤ length earlier → line ≡ get_or earlier (number - count - 1) line → lits ≡ line.lits → clause_at (clauses_before clauses earlier) number ≡ Some lits
line-read clauses earlier number count line lits e h k r s =
    let f : Line → List Lit = λ (l : Line). l.lits in
    let past : number - length clauses ≡ number - count = omega (arith, e) in
    clause_at-after clauses (map f earlier) number (omega (arith, e))
    ∙ ap (clause_at (map f earlier)) past
    ∙ clause_at-get (map f earlier) (number - count) [] (omega arith) (omega (arith, length-map earlier f))
    ∙ ap (λ (z : List Lit). Some z) (get_or-map f earlier (number - count - 1) line [] (omega arith) ∙ ap f (sym r) ∙ sym s)

pub bad-fault : (vars : ℕ) (clauses : List (List Lit)) (line : Line) → has_bad_lits vars line.lits ≡ true → line_fault vars clauses line ≡ Some BadLits
unfolding line_fault
bad-fault vars clauses line e = if_true (has_bad_lits vars line.lits) (Some BadLits) (hints_fault clauses (map opposite line.lits) 1 line.hints) e

pub good-fault : (vars : ℕ) (clauses : List (List Lit)) (line : Line) → has_bad_lits vars line.lits ≡ false → line_fault vars clauses line ≡ hints_fault clauses (map opposite line.lits) 1 line.hints
unfolding line_fault
good-fault vars clauses line e = if_false (has_bad_lits vars line.lits) (Some BadLits) (hints_fault clauses (map opposite line.lits) 1 line.hints) e

-- the result for the hints is the line's, if its literals are valid
pub line-answer : (vars vars2 : ℕ) (clauses : List (List Lit)) (line : Line) (lits known : List Lit) (hints : List ℕ) (r : Result (Unit {0}) LineErr) → vars ≡ vars2 → lits ≡ line.lits → known ≡ map opposite lits → hints ≡ line.hints → has_bad_lits vars lits ≡ false → LineAnswer (hints_fault clauses known 1 hints) r → LineAnswer (line_fault vars2 clauses line) r
line-answer vars vars2 clauses line lits known hints r v l k h good a =
    let fault : hints_fault clauses known 1 hints ≡ line_fault vars2 clauses line =
    (λ i. hints_fault clauses ((k ∙ ap (map opposite) l) i) 1 (h i))
    ∙ sym (good-fault vars2 clauses line (sym (λ i. has_bad_lits (v i) (l i)) ∙ good)) in
    subst (λ (o : Option LineErr). LineAnswer o r) fault a

pub line-bad : (vars vars2 : ℕ) (clauses : List (List Lit)) (line : Line) (lits : List Lit) → vars ≡ vars2 → lits ≡ line.lits → has_bad_lits vars lits ≡ true → line_fault vars2 clauses line ≡ Some BadLits
line-bad vars vars2 clauses line lits v l bad = bad-fault vars2 clauses line (sym (λ i. has_bad_lits (v i) (l i)) ∙ bad)

-- one more line of a log that follows so far, and the first that does not
pub log-passed : (vars : ℕ) (clauses : List (List Lit)) (lines : List Line) (i : ℕ) (line : Line) (whole : Option LogErr) → i < length lines → line ≡ get_or lines i line → line_fault vars (clauses_before clauses (take i lines)) line ≡ None → lines_fault vars (clauses_before clauses (take i lines)) (i + 1) (drop i lines) ≡ whole → lines_fault vars (clauses_before clauses (take (i + 1) lines)) (i + 1 + 1) (drop (i + 1) lines) ≡ whole
log-passed vars clauses lines i line whole h r e w =
    let split : drop i lines ≡ line ∷ drop (i + 1) lines = drop-from lines i line h ∙ ap (λ (z : Line). z ∷ drop (i + 1) lines) (sym r) in
    let more : take (i + 1) lines ≡ take i lines ++ line ∷ [] = take_more lines i line h ∙ ap (λ (z : Line). take i lines ++ z ∷ []) (sym r) in
    ap (λ (z : List Line). lines_fault vars (clauses_before clauses z) (i + 1 + 1) (drop (i + 1) lines)) more
    ∙ ap (λ (z : List (List Lit)). lines_fault vars z (i + 1 + 1) (drop (i + 1) lines)) (clauses-more clauses (take i lines) line)
    ∙ sym (line-passed vars (i + 1) (clauses_before clauses (take i lines)) line (drop (i + 1) lines) e)
    ∙ sym (ap (lines_fault vars (clauses_before clauses (take i lines)) (i + 1)) split)
    ∙ w

pub log-stopped : (vars : ℕ) (clauses : List (List Lit)) (lines : List Line) (i : ℕ) (line : Line) (why : LineErr) (whole : Option LogErr) → i < length lines → line ≡ get_or lines i line → line_fault vars (clauses_before clauses (take i lines)) line ≡ Some why → lines_fault vars (clauses_before clauses (take i lines)) (i + 1) (drop i lines) ≡ whole → whole ≡ Some (BadLine (i + 1) why)
log-stopped vars clauses lines i line why whole h r e w =
    let split : drop i lines ≡ line ∷ drop (i + 1) lines = drop-from lines i line h ∙ ap (λ (z : Line). z ∷ drop (i + 1) lines) (sym r) in
    sym w ∙ ap (lines_fault vars (clauses_before clauses (take i lines)) (i + 1)) split ∙ line-stopped vars (i + 1) (clauses_before clauses (take i lines)) line (drop (i + 1) lines) why e

-- a fault other than running out of memory is the first fault
pub fault-answered : (fault : Option LineErr) (why : LineErr) → LineAnswer fault (Err why) → (why ≡ NoMemory → ⊥) → fault ≡ Some why
fault-answered fault BadLits a n = a
fault-answered fault (NoSuchClause hint) a n = a
fault-answered fault (NotUnit hint) a n = a
fault-answered fault NotFalsified a n = a
fault-answered fault NoMemory a n = absurd (n refl)

-- what a cursor takes from the items, from a place on
pub taken : {X : Type 0} (xs left : List X) (i : ℕ) (x d : X) → drop i xs ≡ x ∷ left → (i < length xs) × (get_or xs i d ≡ x) × (left ≡ drop (i + 1) xs)
taken {X = X} xs left i x d e =
    let there : i < length xs = omega (arith, ap length e, length-drop i xs) in
    let both : x ∷ left ≡ get_or xs i d ∷ drop (i + 1) xs = sym e ∙ drop-from xs i d there in
    (there, sym (ap (λ (z : List X). get_or z 0 d) both), ap (drop 1) both)
