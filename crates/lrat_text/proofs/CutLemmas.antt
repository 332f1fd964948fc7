-- Texts of which only a first part was written, because memory ran out.
use Rattle.std.proofs.Common.{◌≡◌, ◌∙◌, ◌∷◌, ◌++◌, [], ℕ, List, false, Result, Ok, Err, refl, sym, subst, ap, append_assoc, append-nil, decimal, drop, length, map, take, take-append-drop}
use Rattle.std.specs.Prelude.{OnErr, OnOk}
use Rattle.std.proofs.lemmas.Bool.{cond-false}
use Rattle.std.proofs.lemmas.List.{drop_at, map-append, take_at}
use Rattle.clause_db.specs.declared.lit.Lit.{Lit}
use Rattle.rup_check.specs.declared.line.Line.{Line}
use Rattle.lrat_text.specs.Lines.{line_of}
use Rattle.lrat_text.specs.Write.{lit_text, log_fields, spaced}
use Rattle.lrat_text.proofs.WriteLemmas.{log-line-parts, spaced-append}

-- Whether the new text is the old one with a first part of `whole` after it.
abbrev pub Begins : List ℕ → List ℕ → List ℕ → Type 0
Begins old new whole = (n : ℕ) × (new ≡ old ++ take n whole)

pub front-begins : (old new front rest whole : List ℕ) → new ≡ old ++ front → front ++ rest ≡ whole → Begins old new whole
front-begins old new front rest whole e f =
    (length front, e ∙ ap (λ (z : List ℕ). old ++ z) (sym (take_at front rest (length front) refl) ∙ ap (λ (z : List ℕ). take (length front) z) f))

-- Nothing was written.
pub none-begins : (old new whole : List ℕ) → new ≡ old → Begins old new whole
none-begins old new whole e = front-begins old new [] whole whole (e ∙ sym (append-nil old)) refl

-- All was written.
pub all-begins : (old new whole : List ℕ) → new ≡ old ++ whole → Begins old new whole
all-begins old new whole e = front-begins old new whole [] whole e (append-nil whole)

-- A write that appends all or nothing.
pub tried-begins : {A E : Type 0} (r : Result A E) (old new whole : List ℕ) → OnOk r (new ≡ old ++ whole) → OnErr r (new ≡ old) → Begins old new whole
tried-begins (Ok x) old new whole e f = all-begins old new whole e
tried-begins (Err x) old new whole e f = none-begins old new whole f

-- What was written, and then a first part of the next part.
pub part-begins : (old mid new front part rest whole : List ℕ) → mid ≡ old ++ front → Begins mid new part → front ++ (part ++ rest) ≡ whole → Begins old new whole
part-begins old mid new front part rest whole e b f =
    let some : List ℕ = take b.0 part in
    let left : List ℕ = drop b.0 part in
    let next : some ++ (left ++ rest) ≡ part ++ rest = sym (append_assoc some left rest) ∙ ap (λ (z : List ℕ). z ++ rest) (take-append-drop b.0 part) in
    front-begins old new (front ++ some) (left ++ rest) whole
    (b.1 ∙ (ap (λ (z : List ℕ). z ++ some) e ∙ append_assoc old front some))
    (append_assoc front some (left ++ rest) ∙ (ap (λ (z : List ℕ). front ++ z) next ∙ f))

-- A first part of the first of two parts.
pub first-begins : (old new first second : List ℕ) → Begins old new first → Begins old new (first ++ second)
first-begins old new first second b = part-begins old old new [] first second (first ++ second) (sym (append-nil old)) b refl

-- The first of two parts, and a first part of the second.
pub then-begins : (old mid new first second : List ℕ) → mid ≡ old ++ first → Begins mid new second → Begins old new (first ++ second)
then-begins old mid new first second e b = part-begins old mid new first second [] (first ++ second) e b (ap (λ (z : List ℕ). first ++ z) (append-nil second))

-- What was written and what is left are the complete text.
left-is : (old text more left whole : List ℕ) → text ≡ old ++ more → text ++ left ≡ old ++ whole → more ++ left ≡ whole
left-is old text more left whole e f =
    let same : old ++ (more ++ left) ≡ old ++ whole = sym (append_assoc old more left) ∙ (ap (λ (z : List ℕ). z ++ left) (sym e) ∙ f) in
    sym (drop_at old (more ++ left) (length old) refl) ∙ (ap (λ (z : List ℕ). drop (length old) z) same ∙ drop_at old whole (length old) refl)

-- A loop's step stops within what is left.
pub step-begins : (old text new part rest left whole : List ℕ) → (more : List ℕ) × (text ≡ old ++ more) → text ++ left ≡ old ++ whole → part ++ rest ≡ left → Begins text new part → Begins old new whole
step-begins old text new part rest left whole m f g b =
    part-begins old text new m.0 part rest whole m.1 b (ap (λ (z : List ℕ). m.0 ++ z) g ∙ left-is old text m.0 left whole m.1 f)

-- What a loop has written grows by a part.
pub grown : (old text new part : List ℕ) → (more : List ℕ) × (text ≡ old ++ more) → new ≡ text ++ part → (more : List ℕ) × (new ≡ old ++ more)
grown old text new part m e = (m.0 ++ part, e ∙ (ap (λ (z : List ℕ). z ++ part) m.1 ∙ append_assoc old m.0 part))

-- A negative literal.
pub minus : (l : Lit) → l.positive ≡ false → 45 ∷ decimal l.var ≡ lit_text l
minus l e = sym (cond-false l.positive (decimal l.var) (45 ∷ decimal l.var) e)

-- A line of a log, part by part.
line-parts : (number : ℕ) (line : Line)
    → decimal number ++ (spaced (map lit_text line.lits) ++ ((32 ∷ 48 ∷ []) ++ (spaced (map decimal line.hints) ++ 32 ∷ 48 ∷ 10 ∷ [])))
    ≡ line_of (log_fields number line)
line-parts number line =
    let n : List ℕ = decimal number in
    let lits : List ℕ = spaced (map lit_text line.lits) in
    let zero : List ℕ = 32 ∷ 48 ∷ [] in
    let hints : List ℕ = spaced (map decimal line.hints) in
    let end : List ℕ = 32 ∷ 48 ∷ 10 ∷ [] in
    sym (append_assoc n lits (zero ++ (hints ++ end)))
    ∙ (sym (append_assoc (n ++ lits) zero (hints ++ end))
    ∙ (sym (append_assoc ((n ++ lits) ++ zero) hints end)
    ∙ log-line-parts [] number line))

-- A line that stops after its number.
pub in-line : (number : ℕ) (line : Line) (old mid new : List ℕ) → mid ≡ old ++ decimal number
    → Begins mid new (spaced (map lit_text line.lits) ++ ((32 ∷ 48 ∷ []) ++ (spaced (map decimal line.hints) ++ 32 ∷ 48 ∷ 10 ∷ [])))
    → Begins old new (line_of (log_fields number line))
in-line number line old mid new e b =
    subst (λ (whole : List ℕ). Begins old new whole) (line-parts number line)
    (then-begins old mid new (decimal number) (spaced (map lit_text line.lits) ++ ((32 ∷ 48 ∷ []) ++ (spaced (map decimal line.hints) ++ 32 ∷ 48 ∷ 10 ∷ []))) e b)

-- The numbers before a place, and those from it on.
pub numbers-cut : (ns : List ℕ) (i : ℕ) → spaced (map decimal (take i ns)) ++ spaced (map decimal (drop i ns)) ≡ spaced (map decimal ns)
numbers-cut ns i =
    sym (spaced-append (map decimal (take i ns)) (map decimal (drop i ns)))
    ∙ (ap (λ (xs : List (List ℕ)). spaced xs) (sym (map-append decimal (take i ns) (drop i ns)))
    ∙ ap (λ (xs : List ℕ). spaced (map decimal xs)) (take-append-drop i ns))
