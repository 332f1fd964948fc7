-- For `first_line`: the first line of a log that fails a test.
use Rattle.std.proofs.Common.{◌≡◌, ℕ, ◌+◌, ◌≤◌, Bool, true, false, ◌&&◌, if◌then◌else◌, List, [], ◌∷◌, ◌++◌, Option, Some, None, option_map, is_none, refl, sym, ap, ◌∙◌, arith, ◌<◌, length, take, drop, get_or}
use Rattle.std.proofs.Math.Nat.{min-eq_left, min-eq_right}
use Rattle.std.proofs.lemmas.List.{get_or_default, take_more}
use Rattle.clause_db.proofs.Literals.{drop-from}
use Rattle.clause_db.specs.declared.lit.Lit.{Lit}
use Rattle.rup_check.specs.declared.line.Line.{Line}
use Rattle.rup_check.specs.declared.error.LineErr.{LineErr}
use Rattle.rup_check.specs.declared.error.LogErr.{LogErr}
use Rattle.rup_check.specs.declared.error.LogErr.TheVariants.{BadLine, NoMemory}
use Rattle.rup_check.specs.Follows.{clauses_before, line_fault, line_or, lines_fault}
use Rattle.rup_check.specs.Packed.{line_at, no_line}
use Rattle.rup_check.proofs.Reading.{clauses-more}
use Rattle.cert_types.specs.FirstLine.{first_line, line_follows, meets_both, lesser}

-- the first line that fails is at the first place or after it
pub first-from : (test : List (List Lit) → Line → List Line → Bool) (clauses : List (List Lit)) (place : ℕ) (lines : List Line) (n : ℕ) → first_line test clauses place lines ≡ Some n → place ≤ n
first-from test clauses place [] n e = cc
first-from test clauses place (line ∷ lines) n e =
    let go : (b : Bool) → (if b then first_line test (clauses ++ line.lits ∷ []) (place + 1) lines else Some place) ≡ Some n → place ≤ n = λ b. elim b as (λ b. (if b then first_line test (clauses ++ line.lits ∷ []) (place + 1) lines else Some place) ≡ Some n → place ≤ n) [
      | true ↦ λ f. let later : place + 1 ≤ n = first-from test (clauses ++ line.lits ∷ []) (place + 1) lines n f in omega arith
      | false ↦ λ f. let same : place ≡ n = cc in omega arith
    ] in
    go (test clauses line lines) e

-- a place and a later one, if any
lesser-first : (place : ℕ) (later : Option ℕ) → ((n : ℕ) → later ≡ Some n → place ≤ n) → lesser (Some place) later ≡ Some place
lesser-first place None h = refl
lesser-first place (Some n) h = ap Some (min-eq_left (h n refl))

lesser-second : (place : ℕ) (later : Option ℕ) → ((n : ℕ) → later ≡ Some n → place ≤ n) → lesser later (Some place) ≡ Some place
lesser-second place None h = refl
lesser-second place (Some n) h = ap Some (min-eq_right (h n refl))

-- the first line that fails one of two tests is the lesser of the first that fails the one and the first that fails the other
pub first-both : (one other : List (List Lit) → Line → List Line → Bool) (clauses : List (List Lit)) (place : ℕ) (lines : List Line) → first_line (meets_both one other) clauses place lines ≡ lesser (first_line one clauses place lines) (first_line other clauses place lines)
first-both one other clauses place [] = refl
first-both one other clauses place (line ∷ lines) =
    let more : List (List Lit) = clauses ++ line.lits ∷ [] in
    let rest : (List (List Lit) → Line → List Line → Bool) → Option ℕ = λ test. first_line test more (place + 1) lines in
    let behind : (test : List (List Lit) → Line → List Line → Bool) (n : ℕ) → rest test ≡ Some n → place ≤ n = λ test n e. let later : place + 1 ≤ n = first-from test more (place + 1) lines n e in omega arith in
    let go : (b c : Bool) → (if b && c then rest (meets_both one other) else Some place) ≡ lesser (if b then rest one else Some place) (if c then rest other else Some place) = λ b c. elim b as (λ b. (if b && c then rest (meets_both one other) else Some place) ≡ lesser (if b then rest one else Some place) (if c then rest other else Some place)) [
      | true ↦ elim c as (λ c. (if c then rest (meets_both one other) else Some place) ≡ lesser (rest one) (if c then rest other else Some place)) [
        | true ↦ first-both one other more (place + 1) lines
        | false ↦ sym (lesser-second place (rest one) (behind one))
      ]
      | false ↦ elim c as (λ c. Some place ≡ lesser (Some place) (if c then rest other else Some place)) [
        | true ↦ sym (lesser-first place (rest other) (behind other))
        | false ↦ sym (lesser-first place (Some place) (λ n e. let same : place ≡ n = cc in omega arith))
      ]
    ] in
    go (one clauses line lines) (other clauses line lines)

-- the line at a place, as these lemmas read it
pub line-here : (lines : List Line) (i : ℕ) → i < length lines → line_at lines i ≡ get_or lines i (line_at lines i)
line-here lines i h = get_or_default lines i no_line (line_at lines i) h

-- one more line of a log whose lines pass so far, and the first line that does not pass
pub first-passed : (test : List (List Lit) → Line → List Line → Bool) (clauses : List (List Lit)) (lines : List Line) (i : ℕ) (line : Line) (whole : Option ℕ) → i < length lines → line ≡ get_or lines i line → test (clauses_before clauses (take i lines)) line (drop (i + 1) lines) ≡ true → first_line test (clauses_before clauses (take i lines)) (i + 1) (drop i lines) ≡ whole → first_line test (clauses_before clauses (take (i + 1) lines)) (i + 1 + 1) (drop (i + 1) lines) ≡ whole
first-passed test clauses lines i line whole h r e w =
    let before : List (List Lit) = clauses_before clauses (take i lines) in
    let rest : List Line = drop (i + 1) lines in
    let split : drop i lines ≡ line ∷ rest = drop-from lines i line h ∙ ap (λ (z : Line). z ∷ rest) (sym r) in
    let more : take (i + 1) lines ≡ take i lines ++ line ∷ [] = take_more lines i line h ∙ ap (λ (z : Line). take i lines ++ z ∷ []) (sym r) in
    ap (λ (z : List Line). first_line test (clauses_before clauses z) (i + 1 + 1) rest) more
    ∙ ap (λ (z : List (List Lit)). first_line test z (i + 1 + 1) rest) (clauses-more clauses (take i lines) line)
    ∙ sym (ap (λ (b : Bool). if b then first_line test (before ++ line.lits ∷ []) (i + 1 + 1) rest else Some (i + 1)) e)
    ∙ sym (ap (first_line test before (i + 1)) split)
    ∙ w

pub first-stopped : (test : List (List Lit) → Line → List Line → Bool) (clauses : List (List Lit)) (lines : List Line) (i : ℕ) (line : Line) (whole : Option ℕ) → i < length lines → line ≡ get_or lines i line → test (clauses_before clauses (take i lines)) line (drop (i + 1) lines) ≡ false → first_line test (clauses_before clauses (take i lines)) (i + 1) (drop i lines) ≡ whole → Some (i + 1) ≡ whole
first-stopped test clauses lines i line whole h r e w =
    let before : List (List Lit) = clauses_before clauses (take i lines) in
    let rest : List Line = drop (i + 1) lines in
    let split : drop i lines ≡ line ∷ rest = drop-from lines i line h ∙ ap (λ (z : Line). z ∷ rest) (sym r) in
    sym (ap (λ (b : Bool). if b then first_line test (before ++ line.lits ∷ []) (i + 1 + 1) rest else Some (i + 1)) e)
    ∙ sym (ap (first_line test before (i + 1)) split)
    ∙ w

-- the line of a log's fault
abbrev pub line_of : LogErr → ℕ
line_of (BadLine n why) = n
line_of NoMemory = 0

following-or : (place : ℕ) (o : Option LineErr) (rest : Option LogErr) → (if is_none o then option_map line_of rest else Some place) ≡ option_map line_of (line_or place o rest)
following-or place None rest = refl
following-or place (Some why) rest = refl

-- the first line that does not follow is the one that a log's fault names
pub first-following : (vars : ℕ) (clauses : List (List Lit)) (place : ℕ) (lines : List Line) → first_line (line_follows vars) clauses place lines ≡ option_map line_of (lines_fault vars clauses place lines)
unfolding lines_fault
first-following vars clauses place [] = refl
first-following vars clauses place (line ∷ lines) =
    ap (λ o. if is_none (line_fault vars clauses line) then o else Some place) (first-following vars (clauses ++ line.lits ∷ []) (place + 1) lines)
    ∙ following-or place (line_fault vars clauses line) (lines_fault vars (clauses ++ line.lits ∷ []) (place + 1) lines)
