-- A file that comes in pieces: the lines of two parts, and their effects one after the other.
use Rattle.std.proofs.Common.{◌≡◌, ◌∙◌, ◌<◌, ◌≤◌, ◌+◌, ◌-◌, ◌∷◌, ◌++◌, [], ℕ, List, Result, Ok, Err, true, false, zero, suc, refl, ap, add-one, arith, append_assoc, length, take, drop, get_or, eqb, ne_eqb, inl, inr}
use Rattle.std.proofs.lemmas.Bool.{cases_Bool}
use Rattle.std.proofs.lemmas.List.{append-nil, drop_more, length-append, take_more}
use Rattle.std.proofs.lemmas.List.Folds.{list_any-append}
use Rattle.constraint_files.specs.LineReader.{FeedState, begun_line, fed_unless_rejected, fed_on, finished, has_end, whole_lines}
use Rattle.constraint_files.specs.Records.{after_lines, after_records, line_records, lines_of, after_read_line}
use Rattle.constraint_files.specs.Reads.{Reads}
use Rattle.constraint_files.specs.declared.error.ReadErr.{ReadErr}
use Rattle.constraint_files.specs.declared.error.ReadErr.TheVariants.{Row, NoMemory}
use Rattle.constraint_files.specs.declared.error.RowWhy.{RowWhy}

-- Bytes without an end have no complete line; all of them belong to the unfinished line.
pub no-whole : (xs : List ℕ) → has_end xs ≡ false → whole_lines xs ≡ []
unfolding whole_lines
no-whole [] none = refl
no-whole (c ∷ xs) none = elim (cases_Bool (eqb c 10)) [
  | inl t ↦ cc (rw t at none)
  | inr f ↦ rw (f, no-whole xs (rw f at none)) refl
]

pub all-begun : (xs : List ℕ) → has_end xs ≡ false → begun_line xs ≡ xs
unfolding begun_line
all-begun [] none = refl
all-begun (c ∷ xs) none = rw none refl

-- Bytes with an end have a complete line.
some-whole : (xs : List ℕ) → has_end xs ≡ true → (l : List ℕ) × (ls : List (List ℕ)) × (whole_lines xs ≡ l ∷ ls)
unfolding whole_lines
some-whole [] some = cc
some-whole (c ∷ xs) some = elim (cases_Bool (eqb c 10)) [
  | inl t ↦ ([], whole_lines xs, rw t refl)
  | inr f ↦ let r = some-whole xs (rw f at some) in (c ∷ r.0, r.1, rw (f, r.2) refl)
]

-- The complete lines of two parts: those of the first, and those of its unfinished line and the second.
pub whole-append : (xs ys : List ℕ) → whole_lines (xs ++ ys) ≡ whole_lines xs ++ whole_lines (begun_line xs ++ ys)
unfolding whole_lines begun_line
whole-append [] ys = refl
whole-append (c ∷ xs) ys = elim (cases_Bool (eqb c 10)) [
  | inl t ↦ rw (t, whole-append xs ys) refl
  | inr f ↦ elim (cases_Bool (has_end xs)) [
    | inl some ↦ let r = some-whole xs some in rw (f, some, whole-append xs ys, r.2) refl
    | inr none ↦ rw (f, none, no-whole xs none, f) refl
  ]
]

pub begun-append : (xs ys : List ℕ) → begun_line (xs ++ ys) ≡ begun_line (begun_line xs ++ ys)
unfolding begun_line
begun-append [] ys = refl
begun-append (c ∷ xs) ys = elim (cases_Bool (has_end (c ∷ xs))) [
  | inl some ↦ rw (list_any-append (λ b. eqb b 10) (c ∷ xs) ys, some, begun-append xs ys) refl
  | inr none ↦ rw none refl
]

-- All lines: the complete ones, and the unfinished one.
pub lines-whole : (xs : List ℕ) → lines_of xs ≡ whole_lines xs ++ lines_of (begun_line xs)
unfolding lines_of whole_lines begun_line
lines-whole [] = refl
lines-whole (c ∷ xs) = elim (cases_Bool (eqb c 10)) [
  | inl t ↦ rw (t, lines-whole xs) refl
  | inr f ↦ elim (cases_Bool (has_end xs)) [
    | inl some ↦ let r = some-whole xs some in rw (f, some, lines-whole xs, r.2) refl
    | inr none ↦ rw (f, none, no-whole xs none, f) refl
  ]
]

-- The effects of two runs of lines, one after the other.
pub after-append : {S : Type 0} (add : S → List (List ℕ) → Result S RowWhy) (s m : S) (n : ℕ) (xs ys : List (List ℕ))
    → after_lines add s n xs ≡ Ok m → after_lines add s n (xs ++ ys) ≡ after_lines add m (n + length xs) ys
unfolding after_lines
after-append add s m n [] ys e =
    let same : s ≡ m = cc in
    let z : n + 0 ≡ n = omega arith in
    rw (z, same) refl
after-append {S = S} add s m n (x ∷ xs) ys e =
    let z : n + suc (length xs) ≡ n + 1 + length xs = omega arith in
    rw z (go (after_records add s (line_records x)) (λ next h. after-append add next m (n + 1) xs ys h) e)
  where
    go : (o : Result S RowWhy) → ((next : S) → after_lines add next (n + 1) xs ≡ Ok m → after_lines add next (n + 1) (xs ++ ys) ≡ after_lines add m (n + 1 + length xs) ys)
        → after_read_line n o (λ next. after_lines add next (n + 1) xs) ≡ Ok m → after_read_line n o (λ next. after_lines add next (n + 1) (xs ++ ys)) ≡ after_lines add m (n + 1 + length xs) ys
    go (Err why) later h = cc
    go (Ok next) later h = later next h

-- The first error stays.
pub after-refused : {S : Type 0} (add : S → List (List ℕ) → Result S RowWhy) (s : S) (n : ℕ) (xs ys : List (List ℕ)) (why : ReadErr)
    → after_lines add s n xs ≡ Err why → after_lines add s n (xs ++ ys) ≡ Err why
unfolding after_lines
after-refused add s n [] ys why e = cc
after-refused {S = S} add s n (x ∷ xs) ys why e = go (after_records add s (line_records x)) (λ next h. after-refused add next (n + 1) xs ys why h) e
  where
    go : (o : Result S RowWhy) → ((next : S) → after_lines add next (n + 1) xs ≡ Err why → after_lines add next (n + 1) (xs ++ ys) ≡ Err why)
        → after_read_line n o (λ next. after_lines add next (n + 1) xs) ≡ Err why → after_read_line n o (λ next. after_lines add next (n + 1) (xs ++ ys)) ≡ Err why
    go (Err w) later h = h
    go (Ok next) later h = later next h

-- A file fed in two pieces is as fed in one.
pub fed-append : {S : Type 0} (add : S → List (List ℕ) → Result S RowWhy) (had has : FeedState S) (xs ys : List ℕ)
    → fed_on add had xs ≡ Ok has → fed_on add had (xs ++ ys) ≡ fed_on add has ys
unfolding fed_on
fed-append {S = S} add had has xs ys e = go (after_lines add had.made had.line (whole_lines (had.begun ++ xs))) refl e
  where
    go : (o : Result S ReadErr) → after_lines add had.made had.line (whole_lines (had.begun ++ xs)) ≡ o
        → fed_unless_rejected o (begun_line (had.begun ++ xs)) (had.line + length (whole_lines (had.begun ++ xs))) ≡ Ok has
        → fed_on add had (xs ++ ys) ≡ fed_on add has ys
    go (Err why) is h = cc
    go (Ok m) is h =
        let all = had.begun ++ xs in
        let same : record { made = m; begun = begun_line all; line = had.line + length (whole_lines all) } ≡ has = cc in
        let z : had.line + (length (whole_lines all) + length (whole_lines (begun_line all ++ ys))) ≡ had.line + length (whole_lines all) + length (whole_lines (begun_line all ++ ys)) = omega arith in
        rw (← same, ← append_assoc had.begun xs ys, whole-append all ys, begun-append all ys, length-append (whole_lines all) (whole_lines (begun_line all ++ ys)), after-append add had.made m had.line (whole_lines all) (whole_lines (begun_line all ++ ys)) is, z) refl

-- The result of the bytes so far as a complete file.
pub fed-end : {S : Type 0} (add : S → List (List ℕ) → Result S RowWhy) (had has : FeedState S) (xs : List ℕ)
    → fed_on add had xs ≡ Ok has → after_lines add had.made had.line (lines_of (had.begun ++ xs)) ≡ finished add has
unfolding fed_on finished
fed-end {S = S} add had has xs e = go (after_lines add had.made had.line (whole_lines (had.begun ++ xs))) refl e
  where
    go : (o : Result S ReadErr) → after_lines add had.made had.line (whole_lines (had.begun ++ xs)) ≡ o
        → fed_unless_rejected o (begun_line (had.begun ++ xs)) (had.line + length (whole_lines (had.begun ++ xs))) ≡ Ok has
        → after_lines add had.made had.line (lines_of (had.begun ++ xs)) ≡ finished add has
    go (Err why) is h = cc
    go (Ok m) is h =
        let all = had.begun ++ xs in
        let same : record { made = m; begun = begun_line all; line = had.line + length (whole_lines all) } ≡ has = cc in
        rw (← same, lines-whole all) (after-append add had.made m had.line (whole_lines all) (lines_of (begun_line all)) is)

-- An error in the bytes so far is an error of the complete file, whatever follows.
pub fed-refused : {S : Type 0} (add : S → List (List ℕ) → Result S RowWhy) (had : FeedState S) (xs ys : List ℕ) (why : ReadErr)
    → fed_on add had xs ≡ Err why → after_lines add had.made had.line (lines_of (had.begun ++ (xs ++ ys))) ≡ Err why
unfolding fed_on
fed-refused {S = S} add had xs ys why e = go (after_lines add had.made had.line (whole_lines (had.begun ++ xs))) refl e
  where
    go : (o : Result S ReadErr) → after_lines add had.made had.line (whole_lines (had.begun ++ xs)) ≡ o
        → fed_unless_rejected o (begun_line (had.begun ++ xs)) (had.line + length (whole_lines (had.begun ++ xs))) ≡ Err why
        → after_lines add had.made had.line (lines_of (had.begun ++ (xs ++ ys))) ≡ Err why
    go (Ok m) is h = cc
    go (Err w) is h =
        let all = had.begun ++ xs in
        let same : w ≡ why = cc in
        rw (← append_assoc had.begun xs ys, lines-whole (all ++ ys), whole-append all ys, append_assoc (whole_lines all) (whole_lines (begun_line all ++ ys)) (lines_of (begun_line (all ++ ys))))
        (after-refused add had.made had.line (whole_lines all) (whole_lines (begun_line all ++ ys) ++ lines_of (begun_line (all ++ ys))) why (is ∙ ap Err same))

-- Bytes without an end join the unfinished line.
pub fed-begun : {S : Type 0} (add : S → List (List ℕ) → Result S RowWhy) (had : FeedState S) (xs : List ℕ) → has_end had.begun ≡ false → has_end xs ≡ false
    → fed_on add had xs ≡ Ok (record { made = had.made; begun = had.begun ++ xs; line = had.line })
unfolding fed_on after_lines
fed-begun add had xs before none =
    let all : has_end (had.begun ++ xs) ≡ false = rw (list_any-append (λ b. eqb b 10) had.begun xs, before, none) refl in
    let z : had.line + 0 ≡ had.line = omega arith in
    rw (no-whole (had.begun ++ xs) all, all-begun (had.begun ++ xs) all, z) refl

-- The last byte of complete lines is an end.
ends-behind : (xs ys : List ℕ) → has_end ys ≡ true → begun_line (xs ++ ys) ≡ begun_line ys
unfolding begun_line
ends-behind [] ys some = refl
ends-behind (c ∷ xs) ys some = elim (cases_Bool (has_end (c ∷ xs))) [
  | inl t ↦ rw (list_any-append (λ b. eqb b 10) (c ∷ xs) ys, t, ends-behind xs ys some) refl
  | inr f ↦ rw (list_any-append (λ b. eqb b 10) (c ∷ xs) ys, f, some, ends-behind xs ys some) refl
]

whole-ends : (ys : List ℕ) → 0 < length ys → begun_line ys ≡ [] → has_end ys ≡ true
unfolding begun_line
whole-ends [] some e = absurd (omega arith)
whole-ends (c ∷ ys) some e = elim (cases_Bool (has_end (c ∷ ys))) [
  | inl t ↦ t
  | inr f ↦ cc (rw f at e)
]

-- Complete lines behind the unfinished line.
pub fed-whole : {S : Type 0} (add : S → List (List ℕ) → Result S RowWhy) (had : FeedState S) (xs : List ℕ) → 0 < length xs → begun_line xs ≡ []
    → fed_on add had xs ≡ fed_unless_rejected (after_lines add had.made had.line (lines_of (had.begun ++ xs))) [] (had.line + length (lines_of (had.begun ++ xs)))
unfolding fed_on lines_of
fed-whole add had xs some whole =
    let behind : begun_line (had.begun ++ xs) ≡ [] = ends-behind had.begun xs (whole-ends xs some whole) ∙ whole in
    let none : lines_of (begun_line (had.begun ++ xs)) ≡ [] = rw behind refl in
    let all : lines_of (had.begun ++ xs) ≡ whole_lines (had.begun ++ xs) = lines-whole (had.begun ++ xs) ∙ rw none (append-nil (whole_lines (had.begun ++ xs))) in
    rw (behind, all) refl

-- Bytes without an end join the first line.
pub joined : (xs ys line rest : List ℕ) → has_end xs ≡ false → lines_of ys ≡ line ∷ lines_of rest → lines_of (xs ++ ys) ≡ (xs ++ line) ∷ lines_of rest
unfolding lines_of
joined [] ys line rest none e = e
joined (c ∷ xs) ys line rest none e = elim (cases_Bool (eqb c 10)) [
  | inl t ↦ cc (rw t at none)
  | inr f ↦ rw (f, joined xs ys line rest (rw f at none) e) refl
]

-- Bytes without an end are one line.
pub one-line : (xs : List ℕ) → 0 < length xs → has_end xs ≡ false → lines_of xs ≡ xs ∷ []
unfolding lines_of
one-line [] some none = absurd (omega arith)
one-line (c ∷ []) some none = elim (cases_Bool (eqb c 10)) [
  | inl t ↦ cc (rw t at none)
  | inr f ↦ rw f refl
]
one-line (c ∷ d ∷ xs) some none = elim (cases_Bool (eqb c 10)) [
  | inl t ↦ cc (rw t at none)
  | inr f ↦ rw (f, one-line (d ∷ xs) (omega arith) (rw f at none)) refl
]

-- The unfinished line, completed by the first of these lines, and then the others.
pub whole-next : {S : Type 0} (add : S → List (List ℕ) → Result S RowWhy) (had mid : FeedState S) (bytes line after : List ℕ)
    → has_end had.begun ≡ false → 0 < length bytes → begun_line bytes ≡ [] → lines_of bytes ≡ line ∷ lines_of after
    → fed_unless_rejected (after_lines add had.made had.line ((had.begun ++ line) ∷ [])) [] (had.line + 1) ≡ Ok mid
    → fed_on add had bytes ≡ fed_unless_rejected (after_lines add mid.made mid.line (lines_of after)) mid.begun (mid.line + length (lines_of after))
whole-next {S = S} add had mid bytes line after none some whole first e =
    rw (fed-whole add had bytes some whole, joined had.begun bytes line after none first) (go (after_lines add had.made had.line ((had.begun ++ line) ∷ [])) refl e)
  where
    go : (o : Result S ReadErr) → after_lines add had.made had.line ((had.begun ++ line) ∷ []) ≡ o → fed_unless_rejected o [] (had.line + 1) ≡ Ok mid
        → fed_unless_rejected (after_lines add had.made had.line ((had.begun ++ line) ∷ lines_of after)) [] (had.line + length ((had.begun ++ line) ∷ lines_of after))
        ≡ fed_unless_rejected (after_lines add mid.made mid.line (lines_of after)) mid.begun (mid.line + length (lines_of after))
    go (Err why) is h = cc
    go (Ok m) is h =
        let same : record { made = m; begun = []; line = had.line + 1 } ≡ mid = cc in
        let z : had.line + suc (length (lines_of after)) ≡ had.line + 1 + length (lines_of after) = omega arith in
        rw (← same, after-append add had.made m had.line ((had.begun ++ line) ∷ []) (lines_of after) is, z) refl

fed-err : {S : Type 0} (o : Result S ReadErr) (begun : List ℕ) (line : ℕ) (why : ReadErr) → fed_unless_rejected o begun line ≡ Err why → o ≡ Err why
fed-err (Ok m) begun line why e = cc
fed-err (Err w) begun line why e = cc

-- An error in the first line is an error of all.
pub line-stops : {S : Type 0} (add : S → List (List ℕ) → Result S RowWhy) (had : FeedState S) (bytes line after : List ℕ) (e : ReadErr)
    → has_end had.begun ≡ false → 0 < length bytes → begun_line bytes ≡ [] → lines_of bytes ≡ line ∷ lines_of after
    → Reads (fed_unless_rejected (after_lines add had.made had.line ((had.begun ++ line) ∷ [])) [] (had.line + 1)) (Err e) → Reads (fed_on add had bytes) (Err e)
line-stops add had bytes line after (Row l why) none some whole first h =
    let refused = fed-err (after_lines add had.made had.line ((had.begun ++ line) ∷ [])) [] (had.line + 1) (Row l why) h in
    rw (fed-whole add had bytes some whole, joined had.begun bytes line after none first, after-refused add had.made had.line ((had.begun ++ line) ∷ []) (lines_of after) (Row l why) refused) refl
line-stops add had bytes line after NoMemory none some whole first h = tt

-- An error in the first bytes is an error of all.
pub bytes-stop : {S : Type 0} (add : S → List (List ℕ) → Result S RowWhy) (had : FeedState S) (xs ys : List ℕ) (e : ReadErr)
    → Reads (fed_on add had xs) (Err e) → Reads (fed_on add had (xs ++ ys)) (Err e)
unfolding fed_on
bytes-stop add had xs ys (Row l why) h =
    let all = had.begun ++ xs in
    let refused = fed-err (after_lines add had.made had.line (whole_lines all)) (begun_line all) (had.line + length (whole_lines all)) (Row l why) h in
    rw (← append_assoc had.begun xs ys, whole-append all ys, after-refused add had.made had.line (whole_lines all) (whole_lines (begun_line all ++ ys)) (Row l why) refused) refl
bytes-stop add had xs ys NoMemory h = tt

-- An end is the last byte that is taken.
pub take-ends : (xs : List ℕ) (end : ℕ) → 0 < end → end ≤ length xs → get_or xs (end - 1) 0 ≡ 10 → begun_line (take end xs) ≡ []
unfolding begun_line
take-ends xs zero some h e = absurd (omega arith)
take-ends xs (suc n) some h e =
    let less : suc n - 1 ≡ n = omega arith in
    let step = take_more xs n 0 (omega arith) in
    rw (rw add-one at step, rw less at e, ends-behind (take n xs) (10 ∷ []) refl) refl

pub none-taken : (xs : List ℕ) (end : ℕ) → end ≤ 0 → begun_line (take end xs) ≡ []
unfolding begun_line
none-taken xs zero h = refl
none-taken xs (suc n) h = absurd (omega arith)

-- One more byte that is no end.
pub drop-before : (xs : List ℕ) (end : ℕ) → 0 < end → end ≤ length xs → (get_or xs (end - 1) 0 ≡ 10 → ⊥) → has_end (drop end xs) ≡ false → has_end (drop (end - 1) xs) ≡ false
drop-before xs zero some h e none = absurd (omega arith)
drop-before xs (suc n) some h e none =
    let less : suc n - 1 ≡ n = omega arith in
    rw (less, drop_more xs n 0 (omega arith), add-one, ne_eqb (get_or xs n 0) 10 (rw less at e), none) refl

pub none-before : (xs : List ℕ) (i : ℕ) → ((k : ℕ) → k < i → get_or xs k 0 ≡ 10 → ⊥) → has_end (take i xs) ≡ false
none-before [] zero none = refl
none-before [] (suc i) none = refl
none-before (x ∷ xs) zero none = refl
none-before (x ∷ xs) (suc i) none = rw (ne_eqb x 10 (none 0 (omega arith)), none-before xs i (λ k l. none (suc k) (omega arith))) refl

-- The line number after some lines, by the first of them.
pub counts-next : (number : ℕ) (bytes line rest : List ℕ) → lines_of bytes ≡ line ∷ lines_of rest → number + 1 + length (lines_of rest) ≡ number + length (lines_of bytes)
counts-next number bytes line rest e =
    let z : number + suc (length (lines_of rest)) ≡ number + 1 + length (lines_of rest) = omega arith in
    rw (e, z) refl

pub counts-none : (number : ℕ) → number + length (lines_of []) ≡ number
unfolding lines_of
counts-none number = omega arith

-- The effect of the last line, read as lines.
pub end-is : {S : Type 0} (add : S → List (List ℕ) → Result S RowWhy) (s : S) (xs : List ℕ) (n : ℕ) (begun : List ℕ) (m : ℕ) (has : FeedState S)
    → fed_unless_rejected (after_lines add s n (lines_of xs)) begun m ≡ Ok has → finished add (record { made = s; begun = xs; line = n }) ≡ Ok has.made
unfolding finished
end-is {S = S} add s xs n begun m has e = go (after_lines add s n (lines_of xs)) e
  where
    go : (o : Result S ReadErr) → fed_unless_rejected o begun m ≡ Ok has → o ≡ Ok has.made
    go (Err why) h = cc
    go (Ok made) h =
        let same : record { made = made; begun = begun; line = m } ≡ has = cc in
        rw (← same) refl

pub end-stops : {S : Type 0} (add : S → List (List ℕ) → Result S RowWhy) (s : S) (xs : List ℕ) (n : ℕ) (begun : List ℕ) (m : ℕ) (e : ReadErr)
    → Reads (fed_unless_rejected (after_lines add s n (lines_of xs)) begun m) (Err e) → Reads (finished add (record { made = s; begun = xs; line = n })) (Err e)
unfolding finished
end-stops add s xs n begun m (Row l why) h = fed-err (after_lines add s n (lines_of xs)) begun m (Row l why) h
end-stops add s xs n begun m NoMemory h = tt
