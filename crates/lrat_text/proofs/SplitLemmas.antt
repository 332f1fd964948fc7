-- The first line, field and word, found by their places.
use Rattle.std.proofs.Common.{◌≡◌, ◌<◌, ◌+◌, ◌-◌, ◌∙◌, ◌∷◌, [], ℕ, List, Bool, true, false, zero, suc, Some, None, refl, sym, ap, subst, arith, length, take, drop, get_or, filter, not, eq-eqb, ne_eqb, ◌==◌, if◌then◌else◌}
use Rattle.std.specs.List.{slice_get}
use Rattle.std.proofs.lemmas.List.{drop_more}
use Rattle.pack_defs.specs.Lists.{is_empty}
use Rattle.lrat_text.specs.Lines.{ended_lines, is_whole, pieces, is_space_or_tab, is_space, fields_of, words_of, without_return}

-- The first line ends at the first 0A.
pub first-line : (bytes : List ℕ) (i : ℕ) → i < length bytes → get_or bytes i 0 ≡ 10 → ((k : ℕ) → k < i → get_or bytes k 0 ≡ 10 → ⊥)
    → ended_lines bytes ≡ take i bytes ∷ ended_lines (drop (suc i) bytes)
unfolding ended_lines
first-line [] i h e none = absurd (omega arith)
first-line (c ∷ rest) zero h e none = rw (eq-eqb c 10 e) refl
first-line (c ∷ rest) (suc i) h e none =
    rw (ne_eqb c 10 (none 0 (omega arith)), first-line rest i (omega arith) e (λ k l. none (suc k) (omega arith))) refl

-- Bytes without 0A have no complete line.
pub no-line : (bytes : List ℕ) → ((k : ℕ) → k < length bytes → get_or bytes k 0 ≡ 10 → ⊥) → ended_lines bytes ≡ []
unfolding ended_lines
no-line [] none = refl
no-line (c ∷ rest) none = rw (ne_eqb c 10 (none 0 (omega arith)), no-line rest (λ k l. none (suc k) (omega arith))) refl

same-byte : (c x : ℕ) → Some c ≡ Some x → c ≡ x
same-byte c x e = cc

whole-last : (c : ℕ) (rest : List ℕ) (x : ℕ) → slice_get (c ∷ rest) (length rest) ≡ Some x → is_whole (c ∷ rest) ≡ (x == 10)
unfolding is_whole
whole-last c [] x e = ap (λ (b : ℕ). b == 10) (same-byte c x e)
whole-last c (d ∷ rest) x e = whole-last d rest x e

-- The last byte decides whether a text is complete.
pub whole-by-last : (bytes : List ℕ) (x : ℕ) → slice_get bytes (length bytes - 1) ≡ Some x → is_whole bytes ≡ (x == 10)
whole-by-last [] x e = absurd cc
whole-by-last (c ∷ rest) x e =
    let n : length (c ∷ rest) - 1 ≡ length rest = omega arith in
    whole-last c rest x (subst (λ m. slice_get (c ∷ rest) m ≡ Some x) n e)

none-last : (c : ℕ) (rest : List ℕ) → slice_get (c ∷ rest) (length rest) ≡ None → ⊥
none-last c [] e = cc
none-last c (d ∷ rest) e = none-last d rest e

-- Only the empty text has no last byte.
pub nil-by-last : (bytes : List ℕ) → slice_get bytes (length bytes - 1) ≡ None → bytes ≡ []
nil-by-last [] e = refl
nil-by-last (c ∷ rest) e =
    let n : length (c ∷ rest) - 1 ≡ length rest = omega arith in
    absurd (none-last c rest (subst (λ m. slice_get (c ∷ rest) m ≡ None) n e))

pub whole-none : is_whole [] ≡ true
unfolding is_whole
whole-none = refl

pub return-none : without_return [] ≡ []
unfolding without_return
return-none = refl

return-last : (c : ℕ) (rest : List ℕ) (x : ℕ) → slice_get (c ∷ rest) (length rest) ≡ Some x
    → without_return (c ∷ rest) ≡ (if x == 13 then take (length rest) (c ∷ rest) else c ∷ rest)
unfolding without_return
return-last c [] x e = let same = same-byte c x e in rw same refl
return-last c (d ∷ rest) x e = ap (λ (r : List ℕ). c ∷ r) (return-last d rest x e) ∙ go (x == 13)
  where
    go : (b : Bool) → c ∷ (if b then take (length rest) (d ∷ rest) else d ∷ rest) ≡ (if b then c ∷ take (length rest) (d ∷ rest) else c ∷ d ∷ rest)
    go true = refl
    go false = refl

-- The last byte decides what is left without a carriage return.
pub return-by-last : (bytes : List ℕ) (x : ℕ) → slice_get bytes (length bytes - 1) ≡ Some x
    → without_return bytes ≡ (if x == 13 then take (length bytes - 1) bytes else bytes)
return-by-last [] x e = absurd cc
return-by-last (c ∷ rest) x e =
    let n : length (c ∷ rest) - 1 ≡ length rest = omega arith in
    subst (λ m. without_return (c ∷ rest) ≡ (if x == 13 then take m (c ∷ rest) else c ∷ rest)) (sym n)
    (return-last c rest x (subst (λ m. slice_get (c ∷ rest) m ≡ Some x) n e))

-- The first piece ends at the first byte that passes.
pub piece-at : (p : ℕ → Bool) (bytes : List ℕ) (i : ℕ) → i < length bytes → p (get_or bytes i 0) ≡ true → ((k : ℕ) → k < i → p (get_or bytes k 0) ≡ false)
    → pieces p bytes ≡ take i bytes ∷ pieces p (drop (suc i) bytes)
unfolding pieces
piece-at p [] i h e none = absurd (omega arith)
piece-at p (c ∷ rest) zero h e none = rw e refl
piece-at p (c ∷ rest) (suc i) h e none =
    rw (none 0 (omega arith), piece-at p rest i (omega arith) e (λ k l. none (suc k) (omega arith))) refl

-- Bytes of which none passes are one piece.
pub one-piece : (p : ℕ → Bool) (bytes : List ℕ) → ((k : ℕ) → k < length bytes → p (get_or bytes k 0) ≡ false) → pieces p bytes ≡ bytes ∷ []
unfolding pieces
one-piece p [] none = refl
one-piece p (c ∷ rest) none = rw (none 0 (omega arith), one-piece p rest (λ k l. none (suc k) (omega arith))) refl

-- The bytes before a place are one field if none is a space.
pub part-alone : (bytes : List ℕ) (i : ℕ) → ((k : ℕ) → k < i → is_space (get_or bytes k 0) ≡ false) → fields_of (take i bytes) ≡ take i bytes ∷ []
unfolding pieces
part-alone [] zero none = refl
part-alone [] (suc i) none = refl
part-alone (c ∷ rest) zero none = refl
part-alone (c ∷ rest) (suc i) none = rw (none 0 (omega arith), part-alone rest i (λ k l. none (suc k) (omega arith))) refl

-- The first word of a line that begins with one.
pub word-at : (bytes : List ℕ) (i : ℕ) → i < length bytes → 0 < i → is_space_or_tab (get_or bytes i 0) ≡ true → ((k : ℕ) → k < i → is_space_or_tab (get_or bytes k 0) ≡ false)
    → words_of bytes ≡ take i bytes ∷ words_of (drop (suc i) bytes)
word-at [] i h some e none = absurd (omega arith)
word-at (c ∷ rest) zero h some e none = absurd (omega arith)
word-at (c ∷ rest) (suc i) h some e none = ap (filter (λ word. not (is_empty word))) (piece-at is_space_or_tab (c ∷ rest) (suc i) h e none)

pub one-word : (bytes : List ℕ) → 0 < length bytes → ((k : ℕ) → k < length bytes → is_space_or_tab (get_or bytes k 0) ≡ false) → words_of bytes ≡ bytes ∷ []
one-word [] some none = absurd (omega arith)
one-word (c ∷ rest) some none = ap (filter (λ word. not (is_empty word))) (one-piece is_space_or_tab (c ∷ rest) none)

-- Blanks before words are dropped.
pub past-blank : (bytes : List ℕ) (i : ℕ) → i < length bytes → is_space_or_tab (get_or bytes i 0) ≡ true → words_of (drop (i + 1) bytes) ≡ words_of (drop i bytes)
unfolding pieces
past-blank bytes i h e = rw (drop_more bytes i 0 h, e) refl

pub no-words : words_of [] ≡ []
unfolding pieces
no-words = refl
