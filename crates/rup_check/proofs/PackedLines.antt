-- For `lines`: an appended line is read back, and the others stay.
use Rattle.std.proofs.Common.{◌≡◌, ℕ, ◌+◌, ◌-◌, ◌*◌, ◌/◌, ◌%◌, ◌==◌, ◌<◌, ◌≤◌, Bool, true, false, List, [], ◌∷◌, ◌++◌, All, map, length, take, drop, get_or, refl, sym, ap, ◌∙◌, arith, append_assoc, append-nil}
use Rattle.std.specs.List.{slice_range}
use Rattle.std.proofs.lemmas.List.{take-append-le, drop-append-le, map_push, length-append, length-drop, get_or-map}
use Rattle.std.proofs.lemmas.List.Elements.{All-head, All-push, All-tail}
use Rattle.std.proofs.Math.Seq.{take-append_seam, drop-append_seam}
use Rattle.clause_db.specs.declared.lit.Lit.{Lit}
use Rattle.rup_check.specs.declared.lines.Span.{Span}
use Rattle.rup_check.specs.Packed.{IsWithin, Spells, line_at, line_in, no_line, lit_of_number, lits_spelled, number_of_lit, numbers_of}
use Rattle.rup_check.proofs.Packing.{spells-alone}

-- what is stored within the bytes stays if more bytes are appended
range-kept : (bytes more : List ℕ) (start end : ℕ) → start ≤ end → end ≤ length bytes → slice_range (bytes ++ more) start end ≡ slice_range bytes start end
range-kept bytes more start end h k =
    ap (take (end - start)) (drop-append-le start bytes more (omega (arith, h, k)))
    ∙ take-append-le (end - start) (drop start bytes) more (omega (arith, h, k, length-drop start bytes))

line-kept : (bytes more : List ℕ) (s : Span) → IsWithin (length bytes) s → line_in (bytes ++ more) s ≡ line_in bytes s
line-kept bytes more s w =
    let lits = range-kept bytes more s.lits s.hints w.0 (omega (arith, w.1, w.2)) in
    let hints = range-kept bytes more s.hints s.end w.1 w.2 in
    λ i. record { lits = lits_spelled (lits i); hints = numbers_of (hints i) }

pub lines-kept : (bytes more : List ℕ) (spans : List Span) → All (IsWithin (length bytes)) spans → map (line_in (bytes ++ more)) spans ≡ map (line_in bytes) spans
lines-kept bytes more [] w = refl
lines-kept bytes more (s ∷ spans) w =
    let P = IsWithin (length bytes) in
    λ i. line-kept bytes more s (All-head P s spans w) i ∷ lines-kept bytes more spans (All-tail P s spans w) i

pub within-more : (n m : ℕ) (spans : List Span) → n ≤ m → All (IsWithin n) spans → All (IsWithin m) spans
within-more n m spans h w k d there = let before = w k d there in (before.0, before.1, omega (arith, h, before.2))

-- a literal is read back
lit-back : (l : Lit) → lit_of_number (number_of_lit l) ≡ l
lit-back l = by-sign l.var l.positive
  where
    odd-half : (v : ℕ) → (2 * v + 1) / 2 ≡ v
    odd-half v = omega arith

    odd-rest : (v : ℕ) → (2 * v + 1) % 2 ≡ 1
    odd-rest v = omega arith

    even-half : (v : ℕ) → 2 * v / 2 ≡ v
    even-half v = omega arith

    even-rest : (v : ℕ) → 2 * v % 2 ≡ 0
    even-rest v = omega arith

    by-sign : (v : ℕ) (b : Bool) → lit_of_number (number_of_lit (record { var = v; positive = b })) ≡ record { var = v; positive = b }
    by-sign v true = λ i. record { var = odd-half v i; positive = (odd-rest v i) == 1 }
    by-sign v false = λ i. record { var = even-half v i; positive = (even-rest v i) == 1 }

lits-back : (lits : List Lit) → map lit_of_number (map number_of_lit lits) ≡ lits
lits-back [] = refl
lits-back (l ∷ lits) = λ i. lit-back l i ∷ lits-back lits i

range-first : (bytes a more : List ℕ) → slice_range (bytes ++ (a ++ more)) (length bytes) (length (bytes ++ a)) ≡ a
range-first bytes a more =
    let n : length (bytes ++ a) - length bytes ≡ length a = omega (arith, length-append bytes a) in
    ap (λ (z : ℕ). take z (drop (length bytes) (bytes ++ (a ++ more)))) n
    ∙ ap (take (length a)) (drop-append_seam bytes (a ++ more))
    ∙ take-append_seam a more

range-last : (bytes a : List ℕ) → slice_range (bytes ++ a) (length bytes) (length (bytes ++ a)) ≡ a
range-last bytes a = range-more
  where
    n : length (bytes ++ a) - length bytes ≡ length a
    n = omega (arith, length-append bytes a)

    all : take (length a) a ≡ a
    all = ap (take (length a)) (sym (append-nil a)) ∙ take-append_seam a []

    range-more : slice_range (bytes ++ a) (length bytes) (length (bytes ++ a)) ≡ a
    range-more =
        ap (λ (z : ℕ). take z (drop (length bytes) (bytes ++ a))) n
        ∙ ap (take (length a)) (drop-append_seam bytes a)
        ∙ all

-- two pieces, one appended after the other
pub twice : (old middle new a b : List ℕ) → middle ≡ old ++ a → new ≡ middle ++ b → new ≡ old ++ (a ++ b)
twice old middle new a b m n = n ∙ ap (λ (z : List ℕ). z ++ b) m ∙ append_assoc old a b

-- the lines with one more appended
pub lines-pushed : (old middle new a b : List ℕ) (spans : List Span) (s : Span) (lits : List Lit) (hints : List ℕ)
    → All (IsWithin (length old)) spans → middle ≡ old ++ a → new ≡ middle ++ b → Spells a (map number_of_lit lits) → Spells b hints
    → s.lits ≡ length old → s.hints ≡ length middle → s.end ≡ length new
    → map (line_in new) (spans ++ s ∷ []) ≡ map (line_in old) spans ++ record { lits = lits; hints = hints } ∷ []
lines-pushed old middle new a b spans s lits hints w m n f g l h e =
    let whole : new ≡ old ++ (a ++ b) = twice old middle new a b m n in
    let first : slice_range new s.lits s.hints ≡ a =
    (λ i. slice_range (whole i) (l i) ((h ∙ ap length m) i)) ∙ range-first old a b in
    let last : slice_range new s.hints s.end ≡ b =
    (λ i. slice_range (n i) (h i) ((e ∙ ap length n) i)) ∙ range-last middle b in
    let line : line_in new s ≡ record { lits = lits; hints = hints } =
    λ i. record {
      lits = (ap lits_spelled first ∙ ap (map lit_of_number) (spells-alone a (map number_of_lit lits) f) ∙ lits-back lits) i;
      hints = (ap numbers_of last ∙ spells-alone b hints g) i;
    } in
    map_push (line_in new) spans s
    ∙ (λ i. (ap (λ (z : List ℕ). map (line_in z) spans) whole ∙ lines-kept old (a ++ b) spans w) i ++ line i ∷ [])

pub within-pushed : (old middle new a b : List ℕ) (spans : List Span) (s : Span)
    → All (IsWithin (length old)) spans → middle ≡ old ++ a → new ≡ middle ++ b
    → s.lits ≡ length old → s.hints ≡ length middle → s.end ≡ length new → All (IsWithin (length new)) (spans ++ s ∷ [])
within-pushed old middle new a b spans s w m n l h e =
    let one : length middle ≡ length old + length a = ap length m ∙ length-append old a in
    let two : length new ≡ length middle + length b = ap length n ∙ length-append middle b in
    All-push (IsWithin (length new)) spans s (within-more (length old) (length new) spans (omega (arith, one, two)) w)
    (omega (arith, l, h, one), omega (arith, h, e, two), omega (arith, e))

-- a line at a place, by its span
pub line-there : (bytes : List ℕ) (spans : List Span) (i : ℕ) (s : Span) → i < length spans → s ≡ get_or spans i s → line_at (map (line_in bytes) spans) i ≡ line_in bytes s
line-there bytes spans i s h e = get_or-map (line_in bytes) spans i s no_line h ∙ ap (line_in bytes) (sym e)
