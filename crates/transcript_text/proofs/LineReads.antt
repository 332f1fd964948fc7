-- The lines of maps, logs and receipts that are written are read back.
use Rattle.std.proofs.Common.{◌≡◌, ◌≤◌, ◌+◌, ◌∙◌, ◌∷◌, ◌++◌, [], ℕ, suc, List, Bool, true, false, Option, Some, None, Result, Ok, refl, ap, arith, length, map, decimal, append_assoc, eq-eqb}
use Rattle.std.specs.Prelude.{codes}
use Rattle.std.specs.List.{flat_map, AllByRecursion}
use Rattle.pack_defs.specs.declared.scenario.Scenario.{Scenario}
use Rattle.clause_db.specs.declared.lit.Lit.{Lit}
use Rattle.rup_check.specs.declared.line.Line.{Line}
use Rattle.lrat_text.specs.declared.field.Field.TheVariants.{End, Number}
use Rattle.lrat_text.specs.Lines.{line_of}
use Rattle.lrat_text.specs.Write.{greatest, lit_text, zero_field, log_fields, log_text, IsLitSpelled}
use Rattle.lrat_text.proofs.LineLemmas.{IsField, AreFields, fields-append}
use Rattle.lrat_text.proofs.NumberLemmas.{decimal-field, lit-again, number-again as field-number, zero-again}
use Rattle.lrat_text.proofs.LogLemmas.{lits-fields, zero-fields}
use Rattle.transcript_text.specs.declared.error.TextErr.{TextErr}
use Rattle.transcript_text.specs.Spelling.{entry_text, at_lines}
use Rattle.transcript_text.specs.Fields.{RemainingLines, plain_field, is_plainly_spelled, is_above, next_line}
use Rattle.transcript_text.specs.LogLines.{lits_at, hints_at, log_line, log_at, entry_at, entries_at, moves_at, stations_at}
use Rattle.transcript_text.specs.Spelled.{IsEntry, AreEntries, AreStations, IsHint, AreLines}
use Rattle.transcript_text.proofs.FieldReads.{lines_at, fields_at, line-again, literal, word-again, end-again, decimal-plain, minus-plain, number-again, above-again, channel-again}

-- Whether reading returns this value and leaves the lines of the rest.
abbrev pub Reads : {A : Type 0} → Result (A × RemainingLines) TextErr → A → List ℕ → Type 0
Reads result value rest = (m : ℕ) × (result ≡ Ok (value, lines_at m rest))

-- ---- entries

entry-fields : (sc : Scenario) (word : List ℕ) (x : ℕ × ℕ) → IsField word → IsEntry sc x → AreFields (word ∷ decimal x.0 ∷ decimal x.1 ∷ [])
entry-fields sc word x w h = (w, (decimal-field x.0 (omega (arith, h.0.1)), (decimal-field x.1 (omega (arith, h.1.1)), tt)))

entry-again : (sc : Scenario) (word : List ℕ) (above : Option ℕ) (n : ℕ) (x : ℕ × ℕ) → IsEntry sc x → is_above above x.0 ≡ true
    → entry_at sc word above (fields_at n (word ∷ decimal x.0 ∷ decimal x.1 ∷ [])) ≡ Ok x
unfolding entry_at
entry-again sc word above n x h a =
    rw (word-again n word (decimal x.0 ∷ decimal x.1 ∷ []), above-again sc above n x.0 (decimal x.1 ∷ []) h.0 a, channel-again n x.1 [] h.1, end-again n) refl

at-field : IsField (codes "at")
at-field = literal (codes "at") refl

move-field : IsField (codes "move")
move-field = literal (codes "move") refl

pub entries-again : (sc : Scenario) (above : Option ℕ) (n : ℕ) (xs : List (ℕ × ℕ)) (rest : List ℕ) → AreEntries sc above xs
    → Reads (entries_at sc above (length xs) (lines_at n (at_lines xs ++ rest))) xs rest
unfolding entries_at
entries-again sc above n [] rest h = (n, refl)
entries-again sc above n (x ∷ xs) rest h =
    let more = entries-again sc (Some x.0) (n + 1) xs rest h.1 in
    let line = line-again n (codes "at") (decimal x.0 ∷ decimal x.1 ∷ []) (at_lines xs ++ rest) (entry-fields sc (codes "at") x at-field h.0.0) in (
      more.0,
      ap (λ text. entries_at sc above (suc (length xs)) (lines_at n text)) (append_assoc (entry_text (codes "at") x) (at_lines xs) rest)
          ∙ rw (line, entry-again sc (codes "at") above n x h.0.0 h.0.1, more.1) refl,
    )

pub moves-again : (sc : Scenario) (n : ℕ) (xs : List (ℕ × ℕ)) (rest : List ℕ) → AllByRecursion (IsEntry sc) xs
    → Reads (moves_at sc (length xs) (lines_at n (flat_map (entry_text (codes "move")) xs ++ rest))) xs rest
unfolding moves_at
moves-again sc n [] rest h = (n, refl)
moves-again sc n (x ∷ xs) rest h =
    let more = moves-again sc (n + 1) xs rest h.1 in
    let line = line-again n (codes "move") (decimal x.0 ∷ decimal x.1 ∷ []) (flat_map (entry_text (codes "move")) xs ++ rest) (entry-fields sc (codes "move") x move-field h.0) in (
      more.0,
      ap (λ text. moves_at sc (suc (length xs)) (lines_at n text)) (append_assoc (entry_text (codes "move") x) (flat_map (entry_text (codes "move")) xs) rest)
          ∙ rw (line, entry-again sc (codes "move") None n x h.0 refl, more.1) refl,
    )

pub stations-again : (sc : Scenario) (n : ℕ) (above : Option ℕ) (ss : List ℕ) → AreStations sc above ss → stations_at sc n above (map decimal ss) ≡ Ok ss
unfolding stations_at
stations-again sc n above [] h = refl
stations-again sc n above (s ∷ ss) h = rw (above-again sc above n s [] h.0.0 h.0.1, stations-again sc n (Some s) ss h.1) refl

pub stations-fields : (sc : Scenario) (above : Option ℕ) (ss : List ℕ) → AreStations sc above ss → AreFields (map decimal ss)
stations-fields sc above [] h = tt
stations-fields sc above (s ∷ ss) h = (decimal-field s (omega (arith, h.0.0.1)), stations-fields sc (Some s) ss h.1)

-- ---- logs

lit-plain : (l : Lit) → IsLitSpelled l → is_plainly_spelled (lit_text l) ≡ true
lit-plain l h = go l.positive refl
  where
    go : (b : Bool) → l.positive ≡ b → is_plainly_spelled (lit_text l) ≡ true
    go true e = rw e (decimal-plain l.var (omega (arith, h.1)))
    go false e = rw e (minus-plain l.var h.0 (omega (arith, h.1)))

plain-lit : (l : Lit) → IsLitSpelled l → plain_field (lit_text l) ≡ Some (Number l)
unfolding plain_field
plain-lit l h = rw (lit-plain l h, lit-again l h) refl

plain-zero : plain_field zero_field ≡ Some End
unfolding plain_field
plain-zero = zero-again

plain-number : (k : ℕ) → IsHint k → plain_field (decimal k) ≡ Some (Number (record { var = k; positive = true }))
unfolding plain_field
plain-number k h = rw (decimal-plain k (omega (arith, h.1)), field-number k h.0 h.1) refl

lits-again : (n : ℕ) (lits : List Lit) (rest : List (List ℕ)) → AllByRecursion IsLitSpelled lits → lits_at n (map lit_text lits ++ zero_field ∷ rest) ≡ Ok (lits, rest)
unfolding lits_at
lits-again n [] rest h = rw plain-zero refl
lits-again n (l ∷ lits) rest h = rw (plain-lit l h.0, lits-again n lits rest h.1) refl

hints-again : (n : ℕ) (hints : List ℕ) → AllByRecursion IsHint hints → hints_at n (map decimal hints ++ zero_field ∷ []) ≡ Ok hints
unfolding hints_at
hints-again n [] h = rw plain-zero refl
hints-again n (k ∷ hints) h = rw (plain-number k h.0, hints-again n hints h.1) refl

hints-fields : (hints : List ℕ) → AllByRecursion IsHint hints → AreFields (map decimal hints)
hints-fields [] h = tt
hints-fields (k ∷ hints) h = (decimal-field k (omega (arith, h.0.1)), hints-fields hints h.1)

line-fields : (number : ℕ) (line : Line) → number ≤ greatest → AllByRecursion IsLitSpelled line.lits → AllByRecursion IsHint line.hints → AreFields (log_fields number line)
line-fields number line le lits hints = (
  decimal-field number (omega arith),
  fields-append (map lit_text line.lits) (zero_field ∷ (map decimal line.hints ++ zero_field ∷ [])) (lits-fields line.lits lits)
      (zero-fields.0, fields-append (map decimal line.hints) (zero_field ∷ []) (hints-fields line.hints hints) zero-fields),
)

log-line-again : (n number : ℕ) (line : Line) → number ≤ greatest → AllByRecursion IsLitSpelled line.lits → AllByRecursion IsHint line.hints
    → log_line number (fields_at n (log_fields number line)) ≡ Ok line
unfolding log_line
log-line-again n number line le lits hints =
    rw (
      number-again greatest n number (map lit_text line.lits ++ zero_field ∷ (map decimal line.hints ++ zero_field ∷ [])) le (omega arith),
      eq-eqb number number refl,
      lits-again n line.lits (map decimal line.hints ++ zero_field ∷ []) lits,
      hints-again n line.hints hints,
    ) refl

pub log-again : (n number : ℕ) (lines : List Line) (rest : List ℕ) → AreLines number lines
    → Reads (log_at number (length lines) (lines_at n (log_text number lines ++ rest))) lines rest
unfolding log_at log_text
log-again n number [] rest h = (n, refl)
log-again n number (line ∷ lines) rest h =
    let more = log-again (n + 1) (number + 1) lines rest h.1 in
    let next = line-again n (decimal number) (map lit_text line.lits ++ zero_field ∷ (map decimal line.hints ++ zero_field ∷ [])) (log_text (number + 1) lines ++ rest) (line-fields number line h.0.0 h.0.1 h.0.2) in (
      more.0,
      ap (λ text. log_at number (suc (length lines)) (lines_at n text)) (append_assoc (line_of (log_fields number line)) (log_text (number + 1) lines) rest)
          ∙ rw (next, log-line-again n number line h.0.0 h.0.1 h.0.2, more.1) refl,
    )

-- The number of a log's first line.
pub first-again : (n number : ℕ) (line : Line) (lines : List Line) (rest : List ℕ) → AreLines number (line ∷ lines)
    → next_line (lines_at n (log_text number (line ∷ lines) ++ rest)) ≡ Ok (fields_at n (log_fields number line), lines_at (n + 1) (log_text (number + 1) lines ++ rest))
unfolding log_text
first-again n number line lines rest h =
    ap (λ text. next_line (lines_at n text)) (append_assoc (line_of (log_fields number line)) (log_text (number + 1) lines) rest)
    ∙ line-again n (decimal number) (map lit_text line.lits ++ zero_field ∷ (map decimal line.hints ++ zero_field ∷ [])) (log_text (number + 1) lines ++ rest) (line-fields number line h.0.0 h.0.1 h.0.2)
