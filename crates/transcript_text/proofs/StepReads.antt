-- The text of a step is read back as the step.
use Rattle.std.proofs.Common.{◌≡◌, ◌<◌, ◌≤◌, ◌+◌, ◌^◌, ◌∙◌, ◌∷◌, ◌++◌, [], ℕ, suc, List, false, Some, Ok, refl, sym, ap, subst, arith, length, map, decimal, append_assoc, ne_eqb, ◌==◌}
use Rattle.std.specs.Prelude.{codes}
use Rattle.std.specs.List.{flat_map}
use Rattle.pack_defs.specs.declared.pair.Pair.{Pair}
use Rattle.pack_defs.specs.declared.scenario.Scenario.{Scenario}
use Rattle.pack_defs.specs.Book.{BookView}
use Rattle.rup_check.specs.declared.line.Line.{Line}
use Rattle.cert_types.specs.declared.answer.Receipt.{Receipt}
use Rattle.cert_types.specs.declared.answer.Receipt.TheVariants.{Lines, Moves}
use Rattle.cert_types.specs.declared.answer.Refutation.TheVariants.{Dead as DeadPair}
use Rattle.lrat_text.specs.Lines.{ended_lines, line_of}
use Rattle.lrat_text.specs.Write.{greatest, log_text, lit_text, zero_field}
use Rattle.lrat_text.proofs.LineLemmas.{IsField, AreFields}
use Rattle.lrat_text.proofs.NumberLemmas.{decimal-field}
use Rattle.transcript_text.specs.declared.head.StepTest.{StepTest}
use Rattle.transcript_text.specs.declared.head.Head.{Head}
use Rattle.transcript_text.specs.declared.head.Head.TheVariants.{Fit, Same, NoChannel, Log as LogHead, Dead, Outside, Undecided, End}
use Rattle.auction_core.specs.declared.transcript.TranscriptStep.{TranscriptStep}
use Rattle.transcript_text.specs.Spelling.{entry_text, receipt_text, receipts_text}
use Rattle.transcript_text.specs.Fields.{greatest_u32, most_counted}
use Rattle.transcript_text.specs.LogLines.{moves_at}
use Rattle.transcript_text.specs.Reading.{found_log, numbered_log, some_log, lines_receipt, moves_receipt, receipt_count, receipt_at, receipts_at, step_test_at, fit_head, same_head, none_head, log_head, dead_head, outside_head, undecided_head, end_head, head_at, step_at, next_step}
use Rattle.transcript_text.specs.Spelled.{IsStation, IsWorker, IsLog, IsReceipt, AreReceiptsSpelled, IsRefutation}
use Rattle.transcript_text.proofs.FieldReads.{lines_at, fields_at, line-again, fewer, literal, word-again, end-again, number-again, exactly-again, station-again, channel-again, worker-again}
use Rattle.transcript_text.proofs.LineReads.{Reads, moves-again, log-again, first-again}

-- ---- receipts

three-fields : (word : List ℕ) (a b : ℕ) → IsField word → a < 2 ^ 64 → b < 2 ^ 64 → AreFields (word ∷ decimal a ∷ decimal b ∷ [])
three-fields word a b w ha hb = (w, (decimal-field a ha, (decimal-field b hb, tt)))

count-again : (n worker k : ℕ) → worker < 2 ^ 64 → k ≤ most_counted → receipt_count worker (fields_at n (decimal worker ∷ decimal k ∷ [])) ≡ Ok k
unfolding receipt_count
count-again n worker k h le =
    rw (exactly-again n worker (decimal k ∷ []) h, number-again most_counted n k [] le (omega (arith, le)), end-again n) refl

pub numbered-again : (n first : ℕ) (lines : List Line) (rest : List ℕ) → IsLog first lines
    → Reads (numbered_log (length lines) (lines_at n (log_text first lines ++ rest))) (found_log first lines) rest
unfolding numbered_log some_log log_text
numbered-again n first [] rest h = (n, rw h refl)
numbered-again n first (line ∷ lines) rest h =
    let log = log-again n first (line ∷ lines) rest h in
    let some : (length (line ∷ lines) == 0) ≡ false = ne_eqb (length (line ∷ lines)) 0 (λ e. absurd (omega (arith, e))) in (
      log.0,
      rw (
        some,
        first-again n first line lines rest h,
        number-again greatest n first (map lit_text line.lits ++ zero_field ∷ (map decimal line.hints ++ zero_field ∷ [])) h.0.0 (omega (arith, h.0.0)),
        log.1,
      ) refl,
    )

lines-again : (n first : ℕ) (lines : List Line) (rest : List ℕ) → IsLog first lines
    → Reads (lines_receipt (length lines) (lines_at n (log_text first lines ++ rest))) (record { receipt = Lines (record { lines = lines }); first = first }) rest
unfolding lines_receipt
lines-again n first lines rest h = let found = numbered-again n first lines rest h in (found.0, rw found.1 refl)

moves-read : (sc : Scenario) (n : ℕ) (moves : List (ℕ × ℕ)) (rest : List ℕ) (more : Reads (moves_at sc (length moves) (lines_at n (flat_map (entry_text (codes "move")) moves ++ rest))) moves rest)
    → moves_receipt sc (length moves) (lines_at n (flat_map (entry_text (codes "move")) moves ++ rest)) ≡ Ok (record { receipt = Moves moves; first = 0 }, lines_at more.0 rest)
unfolding moves_receipt
moves-read sc n moves rest more = rw more.1 refl

receipt-again : (sc : Scenario) (worker n : ℕ) (x : Receipt) (first : ℕ) (rest : List ℕ) → worker < 2 ^ 64 → IsReceipt sc x first
    → Reads (receipt_at sc worker (lines_at n (receipt_text worker x first ++ rest))) (record { receipt = x; first = first }) rest
unfolding receipt_at receipt_text
receipt-again sc worker n (Lines log) first rest small h =
    let k = length log.lines in
    let fields = three-fields (codes "lines") worker k (literal (codes "lines") refl) small (omega (arith, h.0)) in
    let more = lines-again (n + 1) first log.lines rest h.1 in
    let line = line-again n (codes "lines") (decimal worker ∷ decimal k ∷ []) (log_text first log.lines ++ rest) fields in (
      more.0,
      ap (λ text. receipt_at sc worker (lines_at n text)) (append_assoc (line_of (codes "lines" ∷ decimal worker ∷ decimal k ∷ [])) (log_text first log.lines) rest)
          ∙ rw (line, count-again n worker k small h.0, more.1) refl,
    )
receipt-again sc worker n (Moves moves) first rest small h =
    let k = length moves in
    let fields = three-fields (codes "moves") worker k (literal (codes "moves") refl) small (omega (arith, h.0)) in
    let more = moves-again sc (n + 1) moves rest h.1 in
    let line = line-again n (codes "moves") (decimal worker ∷ decimal k ∷ []) (flat_map (entry_text (codes "move")) moves ++ rest) fields in (
      more.0,
      ap (λ text. receipt_at sc worker (lines_at n text)) (append_assoc (line_of (codes "moves" ∷ decimal worker ∷ decimal k ∷ [])) (flat_map (entry_text (codes "move")) moves) rest)
          ∙ rw (line, count-again n worker k small h.0, moves-read sc (n + 1) moves rest more, h.2) refl,
    )

pub receipts-again : (sc : Scenario) (worker n : ℕ) (xs : List Receipt) (firsts : List ℕ) (rest : List ℕ) → worker + length xs < 2 ^ 64 → AreReceiptsSpelled sc xs firsts
    → Reads (receipts_at sc worker (length xs) (lines_at n (receipts_text worker xs firsts ++ rest))) (xs, firsts) rest
unfolding receipts_at receipts_text
receipts-again sc worker n [] [] rest small h = (n, refl)
receipts-again sc worker n [] (f ∷ firsts) rest small h = absurd h
receipts-again sc worker n (x ∷ xs) [] rest small h = absurd h
receipts-again sc worker n (x ∷ xs) (f ∷ firsts) rest small h =
    let this = receipt-again sc worker n x f (receipts_text (worker + 1) xs firsts ++ rest) (omega (arith, small)) h.0 in
    let more = receipts-again sc (worker + 1) this.0 xs firsts rest (omega (arith, small)) h.1 in (
      more.0,
      ap (λ text. receipts_at sc worker (suc (length xs)) (lines_at n text)) (append_assoc (receipt_text worker x f) (receipts_text (worker + 1) xs firsts) rest)
          ∙ rw (this.1, more.1) refl,
    )

-- ---- the first line of a step

test-again : (sc : Scenario) (n : ℕ) (t : StepTest) (fields : List (List ℕ)) → t.round ≤ greatest_u32 → IsStation sc t.station
    → step_test_at sc (fields_at n (decimal t.round ∷ decimal t.station ∷ fields)) ≡ Ok (t, fields_at n fields)
unfolding step_test_at
test-again sc n t fields le h =
    rw (number-again greatest_u32 n t.round (decimal t.station ∷ fields) le (omega (arith, le)), station-again sc n t.station fields h) refl

pub fit-head : (sc : Scenario) (steps n : ℕ) (t : StepTest) (k : ℕ) → t.round ≤ greatest_u32 → IsStation sc t.station → k ≤ most_counted
    → head_at sc steps (fields_at n (codes "fit" ∷ decimal t.round ∷ decimal t.station ∷ decimal k ∷ [])) ≡ Ok (Fit t k)
unfolding head_at fit_head
fit-head sc steps n t k le h small =
    rw (test-again sc n t (decimal k ∷ []) le h, number-again most_counted n k [] small (omega (arith, small)), end-again n) refl

pub same-head : (sc : Scenario) (steps n : ℕ) (t : StepTest) → t.round ≤ greatest_u32 → IsStation sc t.station
    → head_at sc steps (fields_at n (codes "same" ∷ decimal t.round ∷ decimal t.station ∷ [])) ≡ Ok (Same t)
unfolding head_at same_head
same-head sc steps n t le h = rw (test-again sc n t [] le h, end-again n) refl

pub none-head : (sc : Scenario) (steps n : ℕ) (t : StepTest) → t.round ≤ greatest_u32 → IsStation sc t.station
    → head_at sc steps (fields_at n (codes "none" ∷ decimal t.round ∷ decimal t.station ∷ [])) ≡ Ok (NoChannel t)
unfolding head_at none_head
none-head sc steps n t le h = rw (test-again sc n t [] le h, end-again n) refl

pub log-head : (sc : Scenario) (steps n : ℕ) (t : StepTest) (w k : ℕ) → t.round ≤ greatest_u32 → IsStation sc t.station → IsWorker sc w → k ≤ most_counted
    → head_at sc steps (fields_at n (codes "log" ∷ decimal t.round ∷ decimal t.station ∷ decimal w ∷ decimal k ∷ [])) ≡ Ok (LogHead t w k)
unfolding head_at log_head
log-head sc steps n t w k le h worker small =
    rw (test-again sc n t (decimal w ∷ decimal k ∷ []) le h, worker-again sc n w (decimal k ∷ []) worker, number-again most_counted n k [] small (omega (arith, small)), end-again n) refl

pub dead-head : (sc : Scenario) (book : BookView) (steps n : ℕ) (t : StepTest) (w : ℕ) (p : Pair) → t.round ≤ greatest_u32 → IsStation sc t.station → IsWorker sc w → IsRefutation sc book (DeadPair p)
    → head_at sc steps (fields_at n (codes "dead" ∷ decimal t.round ∷ decimal t.station ∷ decimal w ∷ decimal p.f ∷ decimal p.a ∷ decimal p.g ∷ decimal p.b ∷ [])) ≡ Ok (Dead t w p)
unfolding head_at dead_head
dead-head sc book steps n t w p le h worker r =
    rw (
      test-again sc n t (decimal w ∷ decimal p.f ∷ decimal p.a ∷ decimal p.g ∷ decimal p.b ∷ []) le h,
      worker-again sc n w (decimal p.f ∷ decimal p.a ∷ decimal p.g ∷ decimal p.b ∷ []) worker,
      station-again sc n p.f (decimal p.a ∷ decimal p.g ∷ decimal p.b ∷ []) r.0.0,
      channel-again n p.a (decimal p.g ∷ decimal p.b ∷ []) r.0.1,
      station-again sc n p.g (decimal p.b ∷ []) r.1.0,
      channel-again n p.b [] r.1.1,
      end-again n,
    ) refl

pub outside-head : (sc : Scenario) (steps n : ℕ) (t : StepTest) (k : ℕ) → t.round ≤ greatest_u32 → IsStation sc t.station → k ≤ most_counted
    → head_at sc steps (fields_at n (codes "outside" ∷ decimal t.round ∷ decimal t.station ∷ decimal k ∷ [])) ≡ Ok (Outside t k)
unfolding head_at outside_head
outside-head sc steps n t k le h small =
    rw (test-again sc n t (decimal k ∷ []) le h, number-again most_counted n k [] small (omega (arith, small)), end-again n) refl

pub undecided-head : (sc : Scenario) (steps n : ℕ) (t : StepTest) → t.round ≤ greatest_u32 → IsStation sc t.station → length sc.workers < 2 ^ 64
    → head_at sc steps (fields_at n (codes "undecided" ∷ decimal t.round ∷ decimal t.station ∷ decimal (length sc.workers) ∷ [])) ≡ Ok (Undecided t)
unfolding head_at undecided_head
undecided-head sc steps n t le h small =
    rw (test-again sc n t (decimal (length sc.workers) ∷ []) le h, exactly-again n (length sc.workers) [] small, end-again n) refl

pub end-head : (sc : Scenario) (steps n : ℕ) → head_at sc steps (fields_at n (codes "end" ∷ decimal steps ∷ [])) ≡ Ok End
unfolding head_at end_head
end-head sc steps n = rw (word-again n (decimal steps) [], end-again n) refl

-- ---- a step

-- Whether reading returns this step and leaves fewer lines.
pub record IsRead (sc : Scenario) (book : BookView) (steps n : ℕ) (text rest : List ℕ) (x : TranscriptStep) : Type 0 where
  pub number : ℕ
  pub read : next_step sc book steps (lines_at n (text ++ rest)) ≡ Ok (Some x, lines_at number rest)
  pub less : length (ended_lines rest) < length (ended_lines (text ++ rest))

pub two : (round station : ℕ) (more : List (List ℕ)) → round ≤ greatest_u32 → station ≤ greatest_u32 → AreFields more → AreFields (decimal round ∷ decimal station ∷ more)
two round station more hr hs h = (decimal-field round (omega (arith, hr)), (decimal-field station (omega (arith, hs)), h))

pub one : (k : ℕ) → k < 2 ^ 64 → AreFields (decimal k ∷ [])
one k h = (decimal-field k h, tt)

-- A step is read from the parts of its text.
pub from-parts : (sc : Scenario) (book : BookView) (steps n : ℕ) (field : List ℕ) (fields : List (List ℕ)) (more rest : List ℕ) (head : Head) (x : TranscriptStep) → AreFields (field ∷ fields)
    → head_at sc steps (fields_at n (field ∷ fields)) ≡ Ok head
    → Reads (step_at sc book head (lines_at (n + 1) (more ++ rest))) (Some x) rest
    → IsRead sc book steps n (line_of (field ∷ fields) ++ more) rest x
unfolding next_step
from-parts sc book steps n field fields more rest head x h head-is step =
    let regroup = append_assoc (line_of (field ∷ fields)) more rest in
    record {
      number = step.0;
      read = ap (λ text. next_step sc book steps (lines_at n text)) regroup ∙ rw (line-again n field fields (more ++ rest) h, head-is, step.1) refl;
      less = subst (λ (text : List ℕ). length (ended_lines rest) < length (ended_lines text)) (sym regroup) (fewer field fields more rest h);
    }
