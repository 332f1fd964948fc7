-- What was read before a loop's turn, joined with what is still read; for the loops of `read`.
use Rattle.std.proofs.Common.{◌≡◌, ◌<◌, ◌≤◌, ◌-◌, ◌&&◌, Bool, subst, inl, inr, ◌+◌, ◌==◌, ◌∙◌, ℕ, zero, suc, true, false, List, [], ◌∷◌, ◌++◌, Some, None, Result, Ok, Err, refl, sym, ap, arith, length, get_or, append_assoc, append-nil, eq-eqb, ne_eqb}
use Rattle.std.proofs.lemmas.Bool.{and_parts, and_right, or_parts, ltb-true, lt-ltb, le-ltb, cases_lt}
use Rattle.std.proofs.lemmas.Option.{same_Some}
use Rattle.std.specs.Prelude.{nat_lt}
use Rattle.std.specs.List.{list_all, slice_get}
use Rattle.lrat_text.proofs.SplitLemmas.{nil-by-last}
use Rattle.pack_defs.specs.Lists.{is_ascending, is_empty, is_in}
use Rattle.pack_defs.proofs.Words.{ascending-rest, after-first}
use Rattle.lrat_text.specs.declared.error.LratErr.TheVariants.{Truncated, BadLine, RatStep, NoMemory}
use Rattle.lrat_text.specs.declared.field.Field.TheVariants.{End, Number}
use Rattle.lrat_text.specs.Read.{LogRead, after_words, after_log_lines, log_of, log_read, empty_log_read, field_of, log_lits_at, hint_at, log_hints_at, log_hints_or, is_next, place_in, deleted_at, deleted_or}
use Rattle.clause_db.specs.declared.lit.Lit.{Lit}
use Rattle.lrat_text.specs.declared.error.LratErr.{LratErr}
use Rattle.pack_defs.specs.Steps.{◌>>=◌}
use Rattle.lrat_text.specs.Steps.{LogFails}
use Rattle.lrat_text.specs.Lines.{is_whole, ended_lines, words_of, without_return}

abbrev pub with_front : List Lit → Result (List Lit × List (List ℕ)) LratErr → Result (List Lit × List (List ℕ)) LratErr
with_front front read = read >>= λ x. Ok (front ++ x.0, x.1)

abbrev pub with_hints : List ℕ → Result (List ℕ) LratErr → Result (List ℕ) LratErr
with_hints front read = read >>= λ x. Ok (front ++ x)

-- An error of a step is the error of what follows it.
pub fails-on : {A B : Type 0} (f : A → Result B LratErr) (e : LratErr) (read : Result A LratErr) (whole : Result B LratErr) → whole ≡ (read >>= f) → LogFails e read → LogFails e whole
fails-on f Truncated read whole w h = rw (w, h) refl
fails-on f (BadLine n) read whole w h = rw (w, h) refl
fails-on f (RatStep n) read whole w h = rw (w, h) refl
fails-on f NoMemory read whole w h = tt

-- ---- literals

pub lits-more : (front : List Lit) (n : ℕ) (word : List ℕ) (words more : List (List ℕ)) (l : Lit) (total : Result (List Lit × List (List ℕ)) LratErr) → words ≡ word ∷ more → field_of word ≡ Some (Number l)
    → with_front front (log_lits_at n words) ≡ total → with_front (front ++ l ∷ []) (log_lits_at n more) ≡ total
unfolding log_lits_at
lits-more front n word words more l total e f so = go (log_lits_at n more) ∙ (sym (rw (e, f) refl) ∙ so)
  where
    go : (r : Result (List Lit × List (List ℕ)) LratErr) → with_front (front ++ l ∷ []) r ≡ with_front front (r >>= λ x. Ok (l ∷ x.0, x.1))
    go (Ok x) = ap (λ (ls : List Lit). Ok (ls, x.1)) (append_assoc front (l ∷ []) x.0)
    go (Err why) = refl

pub lits-end : (front : List Lit) (n : ℕ) (word : List ℕ) (words more : List (List ℕ)) (total : Result (List Lit × List (List ℕ)) LratErr) → words ≡ word ∷ more → field_of word ≡ Some End
    → with_front front (log_lits_at n words) ≡ total → total ≡ Ok (front, more)
unfolding log_lits_at
lits-end front n word words more total e f so = sym so ∙ (rw (e, f) (ap (λ (ls : List Lit). Ok (ls, more)) (append-nil front)))

pub lits-bad : (front : List Lit) (n : ℕ) (word : List ℕ) (words more : List (List ℕ)) (total : Result (List Lit × List (List ℕ)) LratErr) → words ≡ word ∷ more → field_of word ≡ None
    → with_front front (log_lits_at n words) ≡ total → total ≡ Err (BadLine n)
unfolding log_lits_at
lits-bad front n word words more total e f so = sym so ∙ rw (e, f) refl

pub lits-none : (front : List Lit) (n : ℕ) (words : List (List ℕ)) (total : Result (List Lit × List (List ℕ)) LratErr) → words ≡ [] → with_front front (log_lits_at n words) ≡ total → total ≡ Err (BadLine n)
unfolding log_lits_at
lits-none front n words total e so = sym so ∙ rw e refl

-- ---- the place of a line's number

pub placed : (next : ℕ) (ms : List ℕ) (i h : ℕ) → is_ascending ms ≡ true → i < length ms → get_or ms i 0 ≡ h → place_in next ms h ≡ Some (next + i)
placed next [] i h up lt e = absurd (omega arith)
placed next (m ∷ ms) zero h up lt e = let z : next + 0 ≡ next = omega arith in rw (eq-eqb m h e, z) refl
placed next (m ∷ ms) (suc i) h up lt e =
    let below = after-first m ms i up (omega arith) in
    let z : next + suc i ≡ next + 1 + i = omega arith in
    rw (ne_eqb m h (λ q. absurd (omega (arith, below, q, e))), z) (placed (next + 1) ms i h (ascending-rest m ms up) (omega arith) e)

-- The number at a place is above the clauses by at least the place and one.
pub room : (m : ℕ) (ms : List ℕ) (i h : ℕ) → is_ascending (m ∷ ms) ≡ true → i < length ms → get_or ms i 0 ≡ h → m + 1 + i ≤ h
room m [] i h up lt e = absurd (omega arith)
room m (k ∷ ms) zero h up lt e = let low = ltb-true m k (and_parts _ _ up).0 in omega (arith, low, e)
room m (k ∷ ms) (suc i) h up lt e =
    let parts = and_parts _ _ up in
    let low = ltb-true m k parts.0 in
    let more = room k ms i h parts.1 (omega arith) e in
    omega (arith, low, more)

-- The numbers ascend with the next one.
pub next-rises : (clauses : ℕ) (ms : List ℕ) (number : ℕ) → is_ascending (clauses ∷ ms) ≡ true → is_next clauses ms number ≡ true → is_ascending (clauses ∷ ms ++ number ∷ []) ≡ true
next-rises clauses [] number up e = let parts = and_parts (nat_lt clauses number) true e in rw parts.0 refl
next-rises clauses (m ∷ ms) number up e =
    let first = and_parts (nat_lt clauses m) (is_ascending (m ∷ ms)) up in
    let all = and_parts (nat_lt clauses number) (list_all (λ k. nat_lt k number) (m ∷ ms)) e in
    rw first.0 (next-rises m ms number first.1 all.1)

pub nowhere : (next : ℕ) (ms : List ℕ) (h : ℕ) → is_in ms h ≡ false → place_in next ms h ≡ None
nowhere next [] h e = refl
nowhere next (m ∷ ms) h e = let parts = or_parts (m == h) (is_in ms h) e in rw parts.0 (nowhere (next + 1) ms h parts.1)

-- ---- hints

hint-step : (n clauses : ℕ) (numbers : List ℕ) (word : List ℕ) (words more : List (List ℕ)) → words ≡ word ∷ more
    → log_hints_at n clauses numbers words ≡ log_hints_or n clauses numbers (field_of word) more (log_hints_at n clauses numbers more)
unfolding log_hints_at
hint-step n clauses numbers word words more e = rw e refl

pub hints-more : (front : List ℕ) (n clauses : ℕ) (numbers : List ℕ) (word : List ℕ) (words more : List (List ℕ)) (hint : Lit) (place : ℕ) (total : Result (List ℕ) LratErr) → words ≡ word ∷ more → field_of word ≡ Some (Number hint)
    → hint_at n clauses numbers hint ≡ Ok place → with_hints front (log_hints_at n clauses numbers words) ≡ total → with_hints (front ++ place ∷ []) (log_hints_at n clauses numbers more) ≡ total
hints-more front n clauses numbers word words more hint place total e f h so =
    let step : log_hints_at n clauses numbers words ≡ (log_hints_at n clauses numbers more >>= λ hints. Ok (place ∷ hints)) = hint-step n clauses numbers word words more e ∙ rw (f, h) refl in
    go (log_hints_at n clauses numbers more) ∙ (sym (ap (with_hints front) step) ∙ so)
  where
    go : (r : Result (List ℕ) LratErr) → with_hints (front ++ place ∷ []) r ≡ with_hints front (r >>= λ hints. Ok (place ∷ hints))
    go (Ok x) = ap (λ (hs : List ℕ). Ok hs) (append_assoc front (place ∷ []) x)
    go (Err why) = refl

pub hints-stop : (front : List ℕ) (n clauses : ℕ) (numbers : List ℕ) (word : List ℕ) (words more : List (List ℕ)) (hint : Lit) (why : LratErr) (total : Result (List ℕ) LratErr) → words ≡ word ∷ more → field_of word ≡ Some (Number hint)
    → LogFails why (hint_at n clauses numbers hint) → with_hints front (log_hints_at n clauses numbers words) ≡ total → LogFails why total
hints-stop front n clauses numbers word words more hint why total e f h so =
    let step : log_hints_at n clauses numbers words ≡ (hint_at n clauses numbers hint >>= λ place. log_hints_at n clauses numbers more >>= λ hints. Ok (place ∷ hints)) = hint-step n clauses numbers word words more e ∙ rw f refl in
    let here = fails-on (λ place. log_hints_at n clauses numbers more >>= λ hints. Ok (place ∷ hints)) why (hint_at n clauses numbers hint) (log_hints_at n clauses numbers words) step h in
    fails-on (λ x. Ok (front ++ x)) why (log_hints_at n clauses numbers words) total (sym so) here

pub hints-end : (front : List ℕ) (n clauses : ℕ) (numbers : List ℕ) (word : List ℕ) (words more : List (List ℕ)) (total : Result (List ℕ) LratErr) → words ≡ word ∷ more → field_of word ≡ Some End
    → is_empty more ≡ true → with_hints front (log_hints_at n clauses numbers words) ≡ total → total ≡ Ok front
hints-end front n clauses numbers word words more total e f p so =
    let step : log_hints_at n clauses numbers words ≡ Ok [] = hint-step n clauses numbers word words more e ∙ rw (f, p) refl in
    sym so ∙ (ap (with_hints front) step ∙ ap (λ (hs : List ℕ). Ok hs) (append-nil front))

pub hints-behind : (front : List ℕ) (n clauses : ℕ) (numbers : List ℕ) (word : List ℕ) (words more : List (List ℕ)) (total : Result (List ℕ) LratErr) → words ≡ word ∷ more → field_of word ≡ Some End
    → is_empty more ≡ false → with_hints front (log_hints_at n clauses numbers words) ≡ total → total ≡ Err (BadLine n)
hints-behind front n clauses numbers word words more total e f p so =
    let step : log_hints_at n clauses numbers words ≡ Err (BadLine n) = hint-step n clauses numbers word words more e ∙ rw (f, p) refl in
    sym so ∙ ap (with_hints front) step

pub hints-bad : (front : List ℕ) (n clauses : ℕ) (numbers : List ℕ) (word : List ℕ) (words more : List (List ℕ)) (total : Result (List ℕ) LratErr) → words ≡ word ∷ more → field_of word ≡ None
    → with_hints front (log_hints_at n clauses numbers words) ≡ total → total ≡ Err (BadLine n)
hints-bad front n clauses numbers word words more total e f so =
    let step : log_hints_at n clauses numbers words ≡ Err (BadLine n) = hint-step n clauses numbers word words more e ∙ rw f refl in
    sym so ∙ ap (with_hints front) step

pub hints-none : (front : List ℕ) (n clauses : ℕ) (numbers : List ℕ) (words : List (List ℕ)) (total : Result (List ℕ) LratErr) → words ≡ [] → with_hints front (log_hints_at n clauses numbers words) ≡ total → total ≡ Err (BadLine n)
unfolding log_hints_at
hints-none front n clauses numbers words total e so = sym so ∙ rw e refl

-- ---- deletions

deleted-step : (n : ℕ) (word : List ℕ) (words more : List (List ℕ)) → words ≡ word ∷ more → deleted_at n words ≡ deleted_or n (field_of word) more (deleted_at n more)
unfolding deleted_at
deleted-step n word words more e = rw e refl

pub deleted-more : (n : ℕ) (word : List ℕ) (words more : List (List ℕ)) (l : Lit) → words ≡ word ∷ more → field_of word ≡ Some (Number l) → l.positive ≡ true → deleted_at n words ≡ deleted_at n more
deleted-more n word words more l e f p = deleted-step n word words more e ∙ rw (f, p) refl

pub deleted-negative : (n : ℕ) (word : List ℕ) (words more : List (List ℕ)) (l : Lit) → words ≡ word ∷ more → field_of word ≡ Some (Number l) → l.positive ≡ false → deleted_at n words ≡ Err (BadLine n)
deleted-negative n word words more l e f p = deleted-step n word words more e ∙ rw (f, p) refl

pub deleted-end : (n : ℕ) (word : List ℕ) (words more : List (List ℕ)) → words ≡ word ∷ more → field_of word ≡ Some End → is_empty more ≡ true → deleted_at n words ≡ Ok tt
deleted-end n word words more e f p = deleted-step n word words more e ∙ rw (f, p) refl

pub deleted-behind : (n : ℕ) (word : List ℕ) (words more : List (List ℕ)) → words ≡ word ∷ more → field_of word ≡ Some End → is_empty more ≡ false → deleted_at n words ≡ Err (BadLine n)
deleted-behind n word words more e f p = deleted-step n word words more e ∙ rw (f, p) refl

pub deleted-bad : (n : ℕ) (word : List ℕ) (words more : List (List ℕ)) → words ≡ word ∷ more → field_of word ≡ None → deleted_at n words ≡ Err (BadLine n)
deleted-bad n word words more e f = deleted-step n word words more e ∙ rw f refl

pub deleted-none : (n : ℕ) (words : List (List ℕ)) → words ≡ [] → deleted_at n words ≡ Err (BadLine n)
unfolding deleted_at
deleted-none n words e = rw e refl

-- ---- the number of a line

last-above : (m : ℕ) (ms : List ℕ) (x : ℕ) → is_ascending (m ∷ ms) ≡ true → slice_get (m ∷ ms) (length ms) ≡ Some x → m ≤ x
last-above m [] x up e = let same : m ≡ x = same_Some m x e in omega (arith, same)
last-above m (k ∷ ms) x up e =
    let parts = and_parts (nat_lt m k) (is_ascending (k ∷ ms)) up in
    let a = ltb-true m k parts.0 in
    let b = last-above k ms x parts.1 e in
    omega (arith, a, b)

absorbed : (m x number : ℕ) → m ≤ x → (nat_lt m number && nat_lt x number) ≡ nat_lt x number
absorbed m x number h = elim (cases_lt x number) [
  | inl lt ↦ rw (lt-ltb m number (omega (arith, h, lt)), lt-ltb x number lt) refl
  | inr le ↦ rw (le-ltb x number le) (and_right (nat_lt m number) false refl)
]

and-true : (b : Bool) → (b && true) ≡ b
and-true true = refl
and-true false = refl

below-last : (m : ℕ) (ms : List ℕ) (x number : ℕ) → is_ascending (m ∷ ms) ≡ true → slice_get (m ∷ ms) (length ms) ≡ Some x → list_all (λ k. nat_lt k number) (m ∷ ms) ≡ nat_lt x number
below-last m [] x number up e = let same : m ≡ x = same_Some m x e in and-true (nat_lt m number) ∙ ap (λ (y : ℕ). nat_lt y number) same
below-last m (k ∷ ms) x number up e =
    let parts = and_parts (nat_lt m k) (is_ascending (k ∷ ms)) up in
    ap (λ (b : Bool). nat_lt m number && b) (below-last k ms x number parts.1 e) ∙ absorbed m x number (last-above m (k ∷ ms) x up e)

-- A number may be next exactly if it is above the last so far.
pub next-by-last : (clauses : ℕ) (ms : List ℕ) (x number : ℕ) → clauses < number → is_ascending ms ≡ true → slice_get ms (length ms - 1) ≡ Some x → nat_lt x number ≡ is_next clauses ms number
next-by-last clauses [] x number lt up e = absurd cc
next-by-last clauses (m ∷ ms) x number lt up e =
    let n : length (m ∷ ms) - 1 ≡ length ms = omega arith in
    rw (lt-ltb clauses number lt) (sym (below-last m ms x number up (subst (λ k. slice_get (m ∷ ms) k ≡ Some x) n e)))

pub next-of-none : (clauses : ℕ) (ms : List ℕ) (number : ℕ) → clauses < number → slice_get ms (length ms - 1) ≡ None → is_next clauses ms number ≡ true
next-of-none clauses ms number lt e = let nil = nil-by-last ms e in rw (nil, lt-ltb clauses number lt) refl

pub not-next : (clauses : ℕ) (ms : List ℕ) (number : ℕ) → number ≤ clauses → is_next clauses ms number ≡ false
not-next clauses ms number le = rw (le-ltb clauses number le) refl

-- ---- lines

-- A text that ends within a line.
pub log-cut : (text : List ℕ) (clauses : ℕ) → is_whole text ≡ false → log_of text clauses ≡ Err Truncated
unfolding log_of
log-cut text clauses h = rw h refl

-- A text of complete lines.
pub log-whole : (text : List ℕ) (clauses : ℕ) → is_whole text ≡ true → log_of text clauses ≡ (after_log_lines 1 clauses empty_log_read (ended_lines text) >>= log_read)
unfolding log_of
log-whole text clauses h = rw h refl

-- A line, and the lines after it.
pub lines-step : (n clauses : ℕ) (state : LogRead) (line : List ℕ) (lines more : List (List ℕ)) → lines ≡ line ∷ more
    → after_log_lines n clauses state lines ≡ (after_words n clauses state (words_of (without_return line)) >>= λ next. after_log_lines (n + 1) clauses next more)
unfolding after_log_lines
lines-step n clauses state line lines more e = rw e refl

pub lines-none : (n clauses : ℕ) (state : LogRead) (lines : List (List ℕ)) → lines ≡ [] → after_log_lines n clauses state lines ≡ Ok state
unfolding after_log_lines
lines-none n clauses state lines e = rw e refl

-- The complete reading, from a state on the way: at its end, and at an error of its next line.
pub log-end : (text : List ℕ) (clauses n : ℕ) (state : LogRead) (lines : List (List ℕ)) → is_whole text ≡ true → lines ≡ []
    → after_log_lines n clauses state lines ≡ after_log_lines 1 clauses empty_log_read (ended_lines text) → log_of text clauses ≡ log_read state
log-end text clauses n state lines w e h = log-whole text clauses w ∙ ap (λ r. r >>= log_read) (sym h ∙ lines-none n clauses state lines e)

pub log-stops : (text : List ℕ) (clauses n : ℕ) (state : LogRead) (line : List ℕ) (lines more : List (List ℕ)) (e : LratErr) → is_whole text ≡ true → lines ≡ line ∷ more
    → after_log_lines n clauses state lines ≡ after_log_lines 1 clauses empty_log_read (ended_lines text)
    → LogFails e (after_words n clauses state (words_of (without_return line))) → LogFails e (log_of text clauses)
log-stops text clauses n state line lines more e w step h fails =
    let here = fails-on (λ next. after_log_lines (n + 1) clauses next more) e (after_words n clauses state (words_of (without_return line))) (after_log_lines n clauses state lines) (lines-step n clauses state line lines more step) fails in
    fails-on log_read e (after_log_lines n clauses state lines) (log_of text clauses) (log-whole text clauses w ∙ ap (λ r. r >>= log_read) (sym h)) here

pub log-goes-on : (text : List ℕ) (clauses n : ℕ) (state next : LogRead) (line : List ℕ) (lines more : List (List ℕ)) → lines ≡ line ∷ more
    → after_log_lines n clauses state lines ≡ after_log_lines 1 clauses empty_log_read (ended_lines text)
    → after_words n clauses state (words_of (without_return line)) ≡ Ok next
    → after_log_lines (n + 1) clauses next more ≡ after_log_lines 1 clauses empty_log_read (ended_lines text)
log-goes-on text clauses n state next line lines more step h read =
    sym (lines-step n clauses state line lines more step ∙ ap (λ r. r >>= λ next. after_log_lines (n + 1) clauses next more) read) ∙ h
