-- Lines and fields that are written are read back.
use Rattle.std.proofs.Common.{◌≡◌, ◌<◌, ◌∙◌, ◌∷◌, ◌++◌, [], ℕ, List, Bool, true, false, refl, ap, arith, filter, not, ne_eqb, append_assoc}
use Rattle.std.specs.List.{AllByRecursion}
use Rattle.pack_defs.specs.Lists.{is_empty}
use Rattle.lrat_text.specs.Lines.{ended_lines, is_whole, pieces, is_space, is_space_or_tab, fields_of, words_of, without_return, with_spaces, line_of}

-- Whether each byte is above the space, so that the bytes are a word.
abbrev pub IsWord : List ℕ → Type 0
IsWord = AllByRecursion (λ c. 32 < c)

-- Whether each byte is above the carriage return, so that the bytes are a line.
abbrev pub IsPlainLine : List ℕ → Type 0
IsPlainLine = AllByRecursion (λ c. 13 < c)

-- Whether this is a word that is not empty.
abbrev pub IsField : List ℕ → Type 0
IsField word = IsWord word × (is_empty word ≡ false)

abbrev pub AreFields : List (List ℕ) → Type 0
AreFields = AllByRecursion IsField

pub words-append : (xs ys : List ℕ) → IsPlainLine xs → IsPlainLine ys → IsPlainLine (xs ++ ys)
words-append [] ys hx hy = hy
words-append (c ∷ xs) ys hx hy = (hx.0, words-append xs ys hx.1 hy)

word-is-plain : (xs : List ℕ) → IsWord xs → IsPlainLine xs
word-is-plain [] h = tt
word-is-plain (c ∷ xs) h = (omega (arith, h.0), word-is-plain xs h.1)

pub joined-plain : (fields : List (List ℕ)) → AreFields fields → IsPlainLine (with_spaces fields)
unfolding with_spaces
joined-plain [] h = tt
joined-plain (f ∷ []) h = word-is-plain f h.0.0
joined-plain (f ∷ g ∷ fields) h =
    words-append f (32 ∷ with_spaces (g ∷ fields)) (word-is-plain f h.0.0) (omega arith, joined-plain (g ∷ fields) h.1)

-- ---- lines

-- The first line of a text.
pub whole-line : (line rest : List ℕ) → IsPlainLine line → ended_lines (line ++ 10 ∷ rest) ≡ line ∷ ended_lines rest
unfolding ended_lines
whole-line [] rest h = refl
whole-line (c ∷ line) rest h =
    rw (ne_eqb c 10 (λ e. absurd (omega (arith, h.0, e))), whole-line line rest h.1) refl

pub is-whole-line : (line rest : List ℕ) → is_whole (line ++ 10 ∷ rest) ≡ is_whole rest
unfolding is_whole
is-whole-line [] [] = refl
is-whole-line [] (d ∷ rest) = refl
is-whole-line (c ∷ []) [] = refl
is-whole-line (c ∷ []) (d ∷ rest) = refl
is-whole-line (c ∷ d ∷ line) rest = is-whole-line (d ∷ line) rest

-- A line of fields before a text.
pub fields-line : (fields : List (List ℕ)) (rest : List ℕ) → AreFields fields
    → ended_lines (line_of fields ++ rest) ≡ with_spaces fields ∷ ended_lines rest
fields-line fields rest h =
    ap ended_lines (append_assoc (with_spaces fields) (10 ∷ []) rest) ∙ whole-line (with_spaces fields) rest (joined-plain fields h)

pub is-whole-fields : (fields : List (List ℕ)) (rest : List ℕ) → is_whole (line_of fields ++ rest) ≡ is_whole rest
is-whole-fields fields rest =
    ap is_whole (append_assoc (with_spaces fields) (10 ∷ []) rest) ∙ is-whole-line (with_spaces fields) rest

pub no-return : (line : List ℕ) → IsPlainLine line → without_return line ≡ line
unfolding without_return
no-return [] h = refl
no-return (c ∷ []) h = rw (ne_eqb c 13 (λ e. absurd (omega (arith, h.0, e)))) refl
no-return (c ∷ d ∷ line) h = ap (λ (r : List ℕ). c ∷ r) (no-return (d ∷ line) h.1)

-- ---- fields

-- Whether a space passes this test, and no byte of a word does.
pub record Parts (p : ℕ → Bool) : Type 0 where
  pub none : (c : ℕ) → 32 < c → p c ≡ false
  pub space : p 32 ≡ true

pub space-parts : Parts is_space
space-parts = record { none = λ c h. ne_eqb c 32 (λ e. absurd (omega (arith, h, e))); space = refl }

pub blank-parts : Parts is_space_or_tab
blank-parts = record {
  none = λ c h. rw (ne_eqb c 32 (λ e. absurd (omega (arith, h, e))), ne_eqb c 9 (λ e. absurd (omega (arith, h, e)))) refl;
  space = refl;
}

pub last-piece : (p : ℕ → Bool) → Parts p → (word : List ℕ) → IsWord word → pieces p word ≡ word ∷ []
unfolding pieces
last-piece p parts [] h = refl
last-piece p parts (c ∷ word) h = rw (parts.none c h.0, last-piece p parts word h.1) refl

pub first-piece : (p : ℕ → Bool) → Parts p → (word rest : List ℕ) → IsWord word → pieces p (word ++ 32 ∷ rest) ≡ word ∷ pieces p rest
unfolding pieces
first-piece p parts [] rest h = rw parts.space refl
first-piece p parts (c ∷ word) rest h = rw (parts.none c h.0, first-piece p parts word rest h.1) refl

-- The pieces of joined fields are the fields.
pub joined-pieces : (p : ℕ → Bool) → Parts p → (field : List ℕ) (fields : List (List ℕ)) → AreFields (field ∷ fields) → pieces p (with_spaces (field ∷ fields)) ≡ field ∷ fields
unfolding with_spaces
joined-pieces p parts field [] h = last-piece p parts field h.0.0
joined-pieces p parts field (g ∷ fields) h =
    first-piece p parts field (with_spaces (g ∷ fields)) h.0.0 ∙ ap (λ (r : List (List ℕ)). field ∷ r) (joined-pieces p parts g fields h.1)

all-kept : (fields : List (List ℕ)) → AreFields fields → filter (λ word. not (is_empty word)) fields ≡ fields
all-kept [] h = refl
all-kept (f ∷ fields) h = rw (h.0.1) (ap (λ (r : List (List ℕ)). f ∷ r) (all-kept fields h.1))

pub fields-again : (field : List ℕ) (fields : List (List ℕ)) → AreFields (field ∷ fields) → fields_of (with_spaces (field ∷ fields)) ≡ field ∷ fields
fields-again field fields h = joined-pieces is_space space-parts field fields h

pub words-again : (field : List ℕ) (fields : List (List ℕ)) → AreFields (field ∷ fields) → words_of (without_return (with_spaces (field ∷ fields))) ≡ field ∷ fields
words-again field fields h =
    ap words_of (no-return (with_spaces (field ∷ fields)) (joined-plain (field ∷ fields) h))
    ∙ ap (filter (λ word. not (is_empty word))) (joined-pieces is_space_or_tab blank-parts field fields h)
    ∙ all-kept (field ∷ fields) h

pub fields-append : (xs ys : List (List ℕ)) → AreFields xs → AreFields ys → AreFields (xs ++ ys)
fields-append [] ys hx hy = hy
fields-append (x ∷ xs) ys hx hy = (hx.0, fields-append xs ys hx.1 hy)
