-- Lines and fields that are written are read back.
use Rattle.std.proofs.Common.{◌≡◌, ◌<◌, ◌≤◌, ◌+◌, ◌^◌, ◌∷◌, ◌++◌, [], ℕ, List, Bool, true, false, not, ◌&&◌, ◌==◌, if◌then◌else◌, Option, Some, Ok, refl, arith, length, get_or, ne_eqb, eq-eqb, decimal, inl, inr}
use Rattle.std.specs.Prelude.{nat_lt}
use Rattle.std.specs.List.{list_all}
use Rattle.std.specs.Str.{bytes_eq}
use Rattle.std.proofs.lemmas.Bool.{and_parts, cases_eq, ltb-true, lt-ltb, le-leb, not-true}
use Rattle.std.proofs.lemmas.Fmt.{first_decimal}
use Rattle.std.proofs.lemmas.Slice.Eq.{bytes_eq-Decides}
use Rattle.pack_defs.specs.declared.scenario.Scenario.{Scenario}
use Rattle.pack_defs.specs.Lists.{is_empty}
use Rattle.std.specs.Fmt.{digits}
use Rattle.lrat_text.specs.Lines.{ended_lines, line_of, prepend_to_first_line}
use Rattle.lrat_text.proofs.LineLemmas.{IsWord, IsField, AreFields, fields-line, fields-again}
use Rattle.lrat_text.proofs.NumberLemmas.{decimal-field, natural-again}
use Rattle.transcript_text.specs.Fields.{RemainingLines, RemainingFields, next_line, is_plainly_spelled, plain_number, number_at, station_at, channel_at, worker_at, exact_number_at, station_above, word_at, line_end, is_above, greatest_u32}
use Rattle.transcript_text.specs.Spelled.{IsStation, IsChannel, IsWorker}
use Rattle.pack_defs.proofs.Words.{some-length}

-- The complete lines of a text, the first with number `n`.
abbrev pub lines_at : ℕ → List ℕ → RemainingLines
lines_at n text = record { number = n; left = ended_lines text }

-- These fields of line `n`.
abbrev pub fields_at : ℕ → List (List ℕ) → RemainingFields
fields_at n fields = record { number = n; fields = fields }

-- ---- lines

pub line-again : (n : ℕ) (field : List ℕ) (fields : List (List ℕ)) (rest : List ℕ) → AreFields (field ∷ fields)
    → next_line (lines_at n (line_of (field ∷ fields) ++ rest)) ≡ Ok (fields_at n (field ∷ fields), lines_at (n + 1) rest)
line-again n field fields rest h = rw (fields-line (field ∷ fields) rest h, fields-again field fields h) refl

-- A text has no fewer complete lines with more text before it.
pub no-fewer : (xs ys : List ℕ) → length (ended_lines ys) ≤ length (ended_lines (xs ++ ys))
unfolding ended_lines
no-fewer [] ys = omega arith
no-fewer (c ∷ xs) ys = go (c == 10) (ended_lines (xs ++ ys)) (no-fewer xs ys)
  where
    go : (b : Bool) (lines : List (List ℕ)) → length (ended_lines ys) ≤ length lines → length (ended_lines ys) ≤ length (if b then [] ∷ lines else prepend_to_first_line c lines)
    go true lines h = omega (arith, h)
    go false [] h = h
    go false (line ∷ lines) h = h

-- A text has fewer lines without its first.
pub fewer : (field : List ℕ) (fields : List (List ℕ)) (xs ys : List ℕ) → AreFields (field ∷ fields)
    → length (ended_lines ys) < length (ended_lines (line_of (field ∷ fields) ++ (xs ++ ys)))
fewer field fields xs ys h = rw (fields-line (field ∷ fields) (xs ++ ys) h) (omega (arith, no-fewer xs ys))

-- ---- words

field-from : (word : List ℕ) → (not (is_empty word) && list_all (λ c. nat_lt 32 c) word) ≡ true → IsField word
field-from word e =
    let parts = and_parts (not (is_empty word)) (list_all (λ c. nat_lt 32 c) word) e in
    (go word parts.1, not-true (is_empty word) parts.0)
  where
    go : (xs : List ℕ) → list_all (λ c. nat_lt 32 c) xs ≡ true → IsWord xs
    go [] h = tt
    go (c ∷ xs) h = let p = and_parts (nat_lt 32 c) (list_all (λ c. nat_lt 32 c) xs) h in (ltb-true 32 c p.0, go xs p.1)

-- A word given as a literal is a field, by `refl`.
pub literal : (word : List ℕ) → (not (is_empty word) && list_all (λ c. nat_lt 32 c) word) ≡ true → IsField word
literal = field-from

pub same-bytes : (word : List ℕ) → bytes_eq word word ≡ true
same-bytes word = (bytes_eq-Decides word word).1 refl

pub word-again : (n : ℕ) (word : List ℕ) (fields : List (List ℕ)) → word_at word (fields_at n (word ∷ fields)) ≡ Ok (fields_at n fields)
unfolding word_at
word-again n word fields = rw (same-bytes word) refl

pub end-again : (n : ℕ) → line_end (fields_at n []) ≡ Ok tt
unfolding line_end
end-again n = refl

-- ---- numbers

pub plain : (field : List ℕ) → 0 < length field → (48 < get_or field 0 0) → is_plainly_spelled field ≡ true
plain [] h big = absurd (omega arith)
plain (c ∷ []) h big = refl
plain (c ∷ d ∷ rest) h big = rw (ne_eqb c 45 (λ e. absurd (omega (arith, big, e))), ne_eqb c 48 (λ e. absurd (omega (arith, big, e)))) refl

zero-plain : is_plainly_spelled (decimal 0) ≡ true
unfolding digits
zero-plain = refl

pub decimal-plain : (k : ℕ) → k < 2 ^ 64 → is_plainly_spelled (decimal k) ≡ true
decimal-plain k small = elim (cases_eq k 0) [
  | inl e ↦ rw e zero-plain
  | inr ne ↦ plain (decimal k) (some-length (decimal k) (decimal-field k small).1) (first_decimal k (omega (arith, ne)) small)
]

minus : (field : List ℕ) → 0 < length field → (48 < get_or field 0 0) → is_plainly_spelled (45 ∷ field) ≡ true
minus [] h big = absurd (omega arith)
minus (d ∷ rest) h big = rw (ne_eqb d 48 (λ e. absurd (omega (arith, big, e)))) refl

-- A number from 1 after a minus sign.
pub minus-plain : (k : ℕ) → 1 ≤ k → k < 2 ^ 64 → is_plainly_spelled (45 ∷ decimal k) ≡ true
minus-plain k low small = minus (decimal k) (some-length (decimal k) (decimal-field k small).1) (first_decimal k low small)

pub plain-again : (most k : ℕ) → k ≤ most → k < 2 ^ 64 → plain_number most (decimal k) ≡ Some k
unfolding plain_number
plain-again most k le small = rw (decimal-plain k small, natural-again most k le small) refl

pub number-again : (most n k : ℕ) (fields : List (List ℕ)) → k ≤ most → k < 2 ^ 64
    → number_at most (fields_at n (decimal k ∷ fields)) ≡ Ok (k, fields_at n fields)
unfolding number_at
number-again most n k fields le small = rw (plain-again most k le small) refl

pub exactly-again : (n k : ℕ) (fields : List (List ℕ)) → k < 2 ^ 64 → exact_number_at k (fields_at n (decimal k ∷ fields)) ≡ Ok (fields_at n fields)
unfolding exact_number_at
exactly-again n k fields small = rw (number-again k n k fields (omega arith) small, eq-eqb k k refl) refl

pub station-again : (sc : Scenario) (n s : ℕ) (fields : List (List ℕ)) → IsStation sc s → station_at sc (fields_at n (decimal s ∷ fields)) ≡ Ok (s, fields_at n fields)
unfolding station_at
station-again sc n s fields h = rw (number-again greatest_u32 n s fields h.1 (omega (arith, h.1)), h.0) refl

pub above-again : (sc : Scenario) (above : Option ℕ) (n s : ℕ) (fields : List (List ℕ)) → IsStation sc s → is_above above s ≡ true
    → station_above sc above (fields_at n (decimal s ∷ fields)) ≡ Ok (s, fields_at n fields)
unfolding station_above
above-again sc above n s fields h a = rw (station-again sc n s fields h, a) refl

pub channel-again : (n c : ℕ) (fields : List (List ℕ)) → IsChannel c → channel_at (fields_at n (decimal c ∷ fields)) ≡ Ok (c, fields_at n fields)
unfolding channel_at
channel-again n c fields h = rw (number-again 51 n c fields h.1 (omega (arith, h.1)), le-leb 14 c h.0) refl

pub worker-again : (sc : Scenario) (n w : ℕ) (fields : List (List ℕ)) → IsWorker sc w → worker_at sc (fields_at n (decimal w ∷ fields)) ≡ Ok (w, fields_at n fields)
unfolding worker_at
worker-again sc n w fields h = rw (number-again greatest_u32 n w fields h.1 (omega (arith, h.1)), lt-ltb w (length sc.workers) h.0) refl
