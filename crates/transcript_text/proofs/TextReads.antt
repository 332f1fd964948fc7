-- A transcript that can be written is read back as itself.
use Rattle.std.proofs.Common.{◌≡◌, ◌<◌, ◌≤◌, ◌+◌, ◌^◌, ◌∙◌, ◌∷◌, ◌++◌, [], ℕ, zero, suc, List, true, Some, None, Ok, refl, sym, ap, subst, arith, length, map, decimal, append_assoc, append-nil}
use Rattle.std.specs.Prelude.{codes}
use Rattle.std.specs.List.{flat_map, AllByRecursion}
use Rattle.pack_defs.specs.declared.order.Order.{Order}
use Rattle.pack_defs.specs.declared.order.Order.TheVariants.{ByFacility, ByVolume}
use Rattle.pack_defs.specs.declared.pair.Pair.{Pair}
use Rattle.pack_defs.specs.declared.scenario.Scenario.{Scenario}
use Rattle.pack_defs.specs.Book.{BookView}
use Rattle.rup_check.specs.declared.line.Line.{Line}
use Rattle.cert_types.specs.declared.answer.Receipt.{Receipt}
use Rattle.cert_types.specs.declared.answer.Refutation.{Refutation}
use Rattle.cert_types.specs.declared.answer.Refutation.TheVariants.{Proof, Dead as DeadPair}
use Rattle.cert_types.specs.declared.outside.OutsideProof.{OutsideProof}
use Rattle.auction_core.specs.declared.record.Shown.{Shown}
use Rattle.auction_core.specs.declared.record.Shown.TheVariants.{Empty, Fits, Same as SameSet, NoChannel as WithoutChannel, Refuted, Outside as ByOutside, Undecided as LeftOpen}
use Rattle.lrat_text.specs.Lines.{ended_lines, is_whole, line_of, with_spaces}
use Rattle.lrat_text.specs.Write.{log_text}
use Rattle.lrat_text.proofs.LineLemmas.{IsField, AreFields}
use Rattle.lrat_text.proofs.NumberLemmas.{decimal-field}
use Rattle.transcript_text.specs.declared.head.StepTest.{StepTest}
use Rattle.transcript_text.specs.declared.head.Head.TheVariants.{Fit, Same, NoChannel, Log as LogHead, Dead, Outside, Undecided}
use Rattle.auction_core.specs.declared.transcript.Transcript.{Transcript}
use Rattle.auction_core.specs.declared.transcript.TranscriptStep.{TranscriptStep}
use Rattle.pack_defs.specs.Steps.{◌>>=◌}
use Rattle.auction_core.specs.LogNumbers.{clauses_in}
use Rattle.transcript_text.specs.Spelling.{at_lines, head_line, outside_text, receipts_text, refuted_text, shown_text, step_text, start_text, version_text, end_text, spelling}
use Rattle.transcript_text.specs.Fields.{greatest_u32, most_counted}
use Rattle.transcript_text.specs.Reading.{receipts_at, fit_step, log_step, outside_step, undecided_step, step_of, step_at, next_step, steps_at, order_of, version_at, fit_start, empty_start, start_at, text_end, transcript_of}
use Rattle.transcript_text.specs.Spelled.{IsLog, IsOneLog, IsStation, IsWorker, AreEntries, AreStations, AreLines, IsRefutation, IsShownSpelled, IsStepSpelled, IsStartSpelled, IsSpelled}
use Rattle.transcript_text.proofs.FieldReads.{lines_at, line-again, fewer, literal, word-again, end-again, number-again}
use Rattle.transcript_text.proofs.LineReads.{Reads, entries-again, stations-again, stations-fields, log-again}
use Rattle.transcript_text.proofs.StepReads.{IsRead, from-parts, two, one, numbered-again, receipts-again, fit-head, same-head, none-head, log-head, dead-head, outside-head, undecided-head, end-head}

-- ---- a step

-- The case of a step that has only a first line.
bare-parts : (sc : Scenario) (book : BookView) (steps n : ℕ) (field : List ℕ) (fields : List (List ℕ)) (rest : List ℕ) (x : TranscriptStep)
    → IsRead sc book steps n (line_of (field ∷ fields) ++ []) rest x → IsRead sc book steps n (line_of (field ∷ fields)) rest x
bare-parts sc book steps n field fields rest x h = subst (λ (text : List ℕ). IsRead sc book steps n text rest x) (append-nil (line_of (field ∷ fields))) h

fit-read : (sc : Scenario) (book : BookView) (n : ℕ) (t : StepTest) (delta : List (ℕ × ℕ)) (rest : List ℕ) → AreEntries sc None delta
    → Reads (step_at sc book (Fit t (length delta)) (lines_at n (at_lines delta ++ rest))) (Some (step_of t (Fits delta) [])) rest
unfolding step_at fit_step
fit-read sc book n t delta rest h =
    let more = entries-again sc None n delta rest h in (more.0, rw more.1 refl)

log-read : (sc : Scenario) (book : BookView) (n : ℕ) (t : StepTest) (w : ℕ) (subset : List ℕ) (lines : List Line) (rest : List ℕ) → AreStations sc None subset → AreLines (clauses_in book subset + 1) lines
    → Reads (step_at sc book (LogHead t w (length lines)) (lines_at n ((line_of (codes "on" ∷ map decimal subset) ++ log_text (clauses_in book subset + 1) lines) ++ rest)))
    (Some (step_of t (Refuted w (Proof subset (record { lines = lines }))) [])) rest
unfolding step_at log_step
log-read sc book n t w subset lines rest h l =
    let log = log-again (n + 1) (clauses_in book subset + 1) lines rest l in
    let line = line-again n (codes "on") (map decimal subset) (log_text (clauses_in book subset + 1) lines ++ rest) (literal (codes "on") refl, stations-fields sc None subset h) in (
      log.0,
      ap (λ text. step_at sc book (LogHead t w (length lines)) (lines_at n text)) (append_assoc (line_of (codes "on" ∷ map decimal subset)) (log_text (clauses_in book subset + 1) lines) rest)
          ∙ rw (line, word-again n (codes "on") (map decimal subset), stations-again sc n None subset h, log.1) refl,
    )

outside-read : (sc : Scenario) (book : BookView) (n : ℕ) (t : StepTest) (proof : OutsideProof) (first : ℕ) (rest : List ℕ) → IsLog first proof.log.lines
    → Reads (step_at sc book (Outside t (length proof.log.lines)) (lines_at n (log_text first proof.log.lines ++ rest))) (Some (step_of t (ByOutside proof) (first ∷ []))) rest
unfolding step_at outside_step
outside-read sc book n t proof first rest h =
    let found = numbered-again n first proof.log.lines rest h in (found.0, rw found.1 refl)

undecided-read : (sc : Scenario) (book : BookView) (n : ℕ) (t : StepTest) (xs : List Receipt) (firsts : List ℕ) (rest : List ℕ) → length sc.workers < 2 ^ 32 → length xs ≡ length sc.workers
    → IsShownSpelled sc book t.station (LeftOpen xs) firsts
    → Reads (step_at sc book (Undecided t) (lines_at n (receipts_text 0 xs firsts ++ rest))) (Some (step_of t (LeftOpen xs) firsts)) rest
unfolding step_at undecided_step
undecided-read sc book n t xs firsts rest small count h =
    let more = receipts-again sc 0 n xs firsts rest (omega (arith, small, count)) h.1 in
    let all = subst (λ (k : ℕ). receipts_at sc 0 k (lines_at n (receipts_text 0 xs firsts ++ rest)) ≡ Ok ((xs, firsts), lines_at more.0 rest)) count more.1 in
    (more.0, rw all refl)

dead-step : (sc : Scenario) (book : BookView) (n : ℕ) (t : StepTest) (w : ℕ) (p : Pair) (rest : List ℕ)
    → Reads (step_at sc book (Dead t w p) (lines_at n ([] ++ rest))) (Some (step_of t (Refuted w (DeadPair p)) [])) rest
unfolding step_at
dead-step sc book n t w p rest = (n, refl)

same-step : (sc : Scenario) (book : BookView) (n : ℕ) (t : StepTest) (rest : List ℕ)
    → Reads (step_at sc book (Same t) (lines_at n ([] ++ rest))) (Some (step_of t SameSet [])) rest
unfolding step_at
same-step sc book n t rest = (n, refl)

none-step : (sc : Scenario) (book : BookView) (n : ℕ) (t : StepTest) (rest : List ℕ)
    → Reads (step_at sc book (NoChannel t) (lines_at n ([] ++ rest))) (Some (step_of t (WithoutChannel t.station) [])) rest
unfolding step_at
none-step sc book n t rest = (n, refl)

-- The words that begin a step are fields.
fit-word : IsField (codes "fit")
fit-word = literal (codes "fit") refl

same-word : IsField (codes "same")
same-word = literal (codes "same") refl

none-word : IsField (codes "none")
none-word = literal (codes "none") refl

log-word : IsField (codes "log")
log-word = literal (codes "log") refl

dead-word : IsField (codes "dead")
dead-word = literal (codes "dead") refl

outside-word : IsField (codes "outside")
outside-word = literal (codes "outside") refl

undecided-word : IsField (codes "undecided")
undecided-word = literal (codes "undecided") refl

refuted-read : (sc : Scenario) (book : BookView) (steps n : ℕ) (t : StepTest) (w : ℕ) (how : Refutation) (rest : List ℕ) → t.round ≤ greatest_u32 → IsStation sc t.station → IsWorker sc w → IsRefutation sc book how
    → IsRead sc book steps n (refuted_text book t.round t.station w how) rest (step_of t (Refuted w how) [])
unfolding refuted_text
refuted-read sc book steps n t w (Proof subset log) rest le s worker h =
    let k = length log.lines in
    from-parts sc book steps n (codes "log") (decimal t.round ∷ decimal t.station ∷ decimal w ∷ decimal k ∷ [])
    (line_of (codes "on" ∷ map decimal subset) ++ log_text (clauses_in book subset + 1) log.lines) rest (LogHead t w k)
    (step_of t (Refuted w (Proof subset log)) [])
    (log-word, two t.round t.station (decimal w ∷ decimal k ∷ []) le s.1 (decimal-field w (omega (arith, worker.1)), one k (omega (arith, h.0))))
    (log-head sc steps n t w k le s worker h.0)
    (log-read sc book (n + 1) t w subset log.lines rest h.1 h.2)
refuted-read sc book steps n t w (DeadPair p) rest le s worker h =
    bare-parts sc book steps n (codes "dead") (decimal t.round ∷ decimal t.station ∷ decimal w ∷ decimal p.f ∷ decimal p.a ∷ decimal p.g ∷ decimal p.b ∷ []) rest (step_of t (Refuted w (DeadPair p)) [])
    (from-parts sc book steps n (codes "dead") (decimal t.round ∷ decimal t.station ∷ decimal w ∷ decimal p.f ∷ decimal p.a ∷ decimal p.g ∷ decimal p.b ∷ []) [] rest (Dead t w p)
    (step_of t (Refuted w (DeadPair p)) []) (
      dead-word,
      two t.round t.station (decimal w ∷ decimal p.f ∷ decimal p.a ∷ decimal p.g ∷ decimal p.b ∷ []) le s.1
          (decimal-field w (omega (arith, worker.1)), (decimal-field p.f (omega (arith, h.0.0.1)), (decimal-field p.a (omega (arith, h.0.1.1)), (decimal-field p.g (omega (arith, h.1.0.1)), one p.b (omega (arith, h.1.1.1)))))),
    )
    (dead-head sc book steps n t w p le s worker h)
    (dead-step sc book (n + 1) t w p rest))

outside-shown : (sc : Scenario) (book : BookView) (steps n : ℕ) (t : StepTest) (proof : OutsideProof) (firsts rest : List ℕ) → t.round ≤ greatest_u32 → IsStation sc t.station → length proof.log.lines ≤ most_counted → IsOneLog firsts proof.log.lines
    → IsRead sc book steps n (outside_text t.round t.station proof.log.lines firsts) rest (step_of t (ByOutside proof) firsts)
unfolding outside_text
outside-shown sc book steps n t proof [] rest le s few h = absurd h
outside-shown sc book steps n t proof (first ∷ second ∷ more) rest le s few h = absurd h
outside-shown sc book steps n t proof (first ∷ []) rest le s few h =
    let k = length proof.log.lines in
    from-parts sc book steps n (codes "outside") (decimal t.round ∷ decimal t.station ∷ decimal k ∷ []) (log_text first proof.log.lines) rest (Outside t k) (step_of t (ByOutside proof) (first ∷ []))
    (outside-word, two t.round t.station (decimal k ∷ []) le s.1 (one k (omega (arith, few))))
    (outside-head sc steps n t k le s few)
    (outside-read sc book (n + 1) t proof first rest h)

pub shown-read : (sc : Scenario) (book : BookView) (steps n : ℕ) (t : StepTest) (shown : Shown) (firsts : List ℕ) (rest : List ℕ) → length sc.workers < 2 ^ 32 → t.round ≤ greatest_u32 → IsStation sc t.station → IsShownSpelled sc book t.station shown firsts
    → IsRead sc book steps n (shown_text book t.round t.station shown firsts) rest (step_of t shown firsts)
unfolding shown_text
shown-read sc book steps n t Empty firsts rest small le s h = absurd h
shown-read sc book steps n t (Fits delta) firsts rest small le s h =
    subst (λ (ns : List ℕ). IsRead sc book steps n (head_line (codes "fit") t.round t.station (decimal (length delta) ∷ []) ++ at_lines delta) rest (step_of t (Fits delta) ns)) (sym h.2)
    (from-parts sc book steps n (codes "fit") (decimal t.round ∷ decimal t.station ∷ decimal (length delta) ∷ []) (at_lines delta) rest (Fit t (length delta)) (step_of t (Fits delta) [])
    (fit-word, two t.round t.station (decimal (length delta) ∷ []) le s.1 (one (length delta) (omega (arith, h.0))))
    (fit-head sc steps n t (length delta) le s h.0)
    (fit-read sc book (n + 1) t delta rest h.1))
shown-read sc book steps n t SameSet firsts rest small le s h =
    subst (λ (ns : List ℕ). IsRead sc book steps n (head_line (codes "same") t.round t.station []) rest (step_of t SameSet ns)) (sym h)
    (bare-parts sc book steps n (codes "same") (decimal t.round ∷ decimal t.station ∷ []) rest (step_of t SameSet [])
    (from-parts sc book steps n (codes "same") (decimal t.round ∷ decimal t.station ∷ []) [] rest (Same t) (step_of t SameSet [])
    (same-word, two t.round t.station [] le s.1 tt)
    (same-head sc steps n t le s)
    (same-step sc book (n + 1) t rest)))
shown-read sc book steps n t (WithoutChannel z) firsts rest small le s h =
    subst (λ (ns : List ℕ). IsRead sc book steps n (head_line (codes "none") t.round t.station []) rest (step_of t (WithoutChannel z) ns)) (sym h.1)
    (subst (λ (u : ℕ). IsRead sc book steps n (head_line (codes "none") t.round t.station []) rest (step_of t (WithoutChannel u) [])) (sym h.0)
    (bare-parts sc book steps n (codes "none") (decimal t.round ∷ decimal t.station ∷ []) rest (step_of t (WithoutChannel t.station) [])
    (from-parts sc book steps n (codes "none") (decimal t.round ∷ decimal t.station ∷ []) [] rest (NoChannel t) (step_of t (WithoutChannel t.station) [])
    (none-word, two t.round t.station [] le s.1 tt)
    (none-head sc steps n t le s)
    (none-step sc book (n + 1) t rest))))
shown-read sc book steps n t (Refuted w how) firsts rest small le s h =
    subst (λ (ns : List ℕ). IsRead sc book steps n (refuted_text book t.round t.station w how) rest (step_of t (Refuted w how) ns)) (sym h.2)
    (refuted-read sc book steps n t w how rest le s h.0 h.1)
shown-read sc book steps n t (ByOutside proof) firsts rest small le s h = outside-shown sc book steps n t proof firsts rest le s h.0 h.1
shown-read sc book steps n t (LeftOpen xs) firsts rest small le s h =
    subst (λ (k : ℕ). IsRead sc book steps n (head_line (codes "undecided") t.round t.station (decimal k ∷ []) ++ receipts_text 0 xs firsts) rest (step_of t (LeftOpen xs) firsts)) (sym h.0)
    (from-parts sc book steps n (codes "undecided") (decimal t.round ∷ decimal t.station ∷ decimal (length sc.workers) ∷ []) (receipts_text 0 xs firsts) rest (Undecided t) (step_of t (LeftOpen xs) firsts)
    (undecided-word, two t.round t.station (decimal (length sc.workers) ∷ []) le s.1 (one (length sc.workers) (omega (arith, small))))
    (undecided-head sc steps n t le s (omega (arith, small)))
    (undecided-read sc book (n + 1) t xs firsts rest small h.0 h))

-- The test of a step.
abbrev pub test_in : TranscriptStep → StepTest
test_in x = record { round = x.step.round; station = x.step.station }

-- ---- all steps

end-fields : (k : ℕ) → k < 2 ^ 64 → AreFields (codes "end" ∷ decimal k ∷ [])
end-fields k h = (literal (codes "end") refl, one k h)

last-read : (sc : Scenario) (book : BookView) (k n : ℕ) → k < 2 ^ 64 → next_step sc book k (lines_at n (line_of (codes "end" ∷ decimal k ∷ []) ++ [])) ≡ Ok (None, lines_at (n + 1) [])
unfolding next_step step_at
last-read sc book k n h = rw (line-again n (codes "end") (decimal k ∷ []) [] (end-fields k h), end-head sc k n) refl

-- The text of these steps and of the last line, after `k` steps.
abbrev steps-text : BookView → ℕ → List TranscriptStep → List ℕ
steps-text book k [] = line_of (codes "end" ∷ decimal k ∷ []) ++ []
steps-text book k (x ∷ xs) = step_text book x ++ steps-text book (k + 1) xs

steps-read : (sc : Scenario) (book : BookView) (most k n : ℕ) (xs : List TranscriptStep) → length sc.workers < 2 ^ 32 → k + length xs < 2 ^ 64 → AllByRecursion (IsStepSpelled sc book) xs
    → length (ended_lines (steps-text book k xs)) ≤ most
    → Reads (steps_at sc book most k (lines_at n (steps-text book k xs))) xs []
unfolding steps_at
steps-read sc book zero k n [] workers small h le =
    let less = fewer (codes "end") (decimal k ∷ []) [] [] (end-fields k (omega (arith, small))) in absurd (omega (arith, less, le))
steps-read sc book zero k n (x ∷ xs) workers small h le =
    let this = shown-read sc book k n (test_in x) x.step.shown x.firsts (steps-text book (k + 1) xs) workers h.0.round h.0.station h.0.shown in
    absurd (omega (arith, this.less, le))
steps-read sc book (suc most) k n [] workers small h le = (n + 1, rw (last-read sc book k n (omega (arith, small))) refl)
steps-read sc book (suc most) k n (x ∷ xs) workers small h le =
    let this = shown-read sc book k n (test_in x) x.step.shown x.firsts (steps-text book (k + 1) xs) workers h.0.round h.0.station h.0.shown in
    let more = steps-read sc book most (k + 1) this.number xs workers (omega (arith, small)) h.1 (omega (arith, this.less, le)) in
    (more.0, rw (this.read, more.1) refl)

-- The text after the start, regrouped.
regrouped : (book : BookView) (k : ℕ) (xs : List TranscriptStep) → flat_map (step_text book) xs ++ line_of (codes "end" ∷ decimal (k + length xs) ∷ []) ≡ steps-text book k xs
regrouped book k [] =
    let e : k + 0 ≡ k = omega arith in
    ap (λ (m : ℕ). line_of (codes "end" ∷ decimal m ∷ [])) e ∙ sym (append-nil (line_of (codes "end" ∷ decimal k ∷ [])))
regrouped book k (x ∷ xs) =
    let e : k + suc (length xs) ≡ (k + 1) + length xs = omega arith in
    append_assoc (step_text book x) (flat_map (step_text book) xs) (line_of (codes "end" ∷ decimal (k + suc (length xs)) ∷ []))
    ∙ ap (λ (t : List ℕ). step_text book x ++ t) (ap (λ (m : ℕ). flat_map (step_text book) xs ++ line_of (codes "end" ∷ decimal m ∷ [])) e ∙ regrouped book (k + 1) xs)

-- ---- the start

start-word : IsField (codes "start")
start-word = literal (codes "start") refl

pub start-read : (sc : Scenario) (n : ℕ) (start : Shown) (rest : List ℕ) → IsStartSpelled sc start → Reads (start_at sc (lines_at n (start_text start ++ rest))) start rest
unfolding start_at start_text fit_start empty_start
start-read sc n Empty rest h =
    (n + 1, rw (line-again n (codes "start") (codes "empty" ∷ []) rest (start-word, (literal (codes "empty") refl, tt)), word-again n (codes "start") (codes "empty" ∷ []), end-again n) refl)
start-read sc n (Fits delta) rest h =
    let more = entries-again sc None (n + 1) delta rest h.1 in
    let k = length delta in
    let line = line-again n (codes "start") (codes "fit" ∷ decimal k ∷ []) (at_lines delta ++ rest) (start-word, (fit-word, one k (omega (arith, h.0)))) in (
      more.0,
      ap (λ text. start_at sc (lines_at n text)) (append_assoc (line_of (codes "start" ∷ codes "fit" ∷ decimal k ∷ [])) (at_lines delta) rest)
          ∙ rw (line, word-again n (codes "start") (codes "fit" ∷ decimal k ∷ []), number-again most_counted n k [] h.0 (omega (arith, h.0)), end-again n, more.1) refl,
    )
start-read sc n SameSet rest h = absurd h
start-read sc n (WithoutChannel s) rest h = absurd h
start-read sc n (Refuted w how) rest h = absurd h
start-read sc n (ByOutside proof) rest h = absurd h
start-read sc n (LeftOpen xs) rest h = absurd h

-- ---- the complete text

-- Whether a text has at least one byte and ends with a line end.
abbrev EndsWhole : List ℕ → Type 0
EndsWhole text = (is_whole text ≡ true) × (0 < length text)

whole-behind : (xs ys : List ℕ) → EndsWhole ys → EndsWhole (xs ++ ys)
unfolding is_whole
whole-behind [] ys h = h
whole-behind (c ∷ []) [] h = absurd (omega (arith, h.1))
whole-behind (c ∷ []) (d ∷ ys) h = (h.0, omega arith)
whole-behind (c ∷ d ∷ xs) ys h = ((whole-behind (d ∷ xs) ys h).0, omega arith)

line-whole : (fields : List (List ℕ)) → EndsWhole (line_of fields)
unfolding is_whole
line-whole fields = whole-behind (with_spaces fields) (10 ∷ []) (refl, omega arith)

pub version-again : (order : Order) (rest : List ℕ) → version_at (ended_lines (version_text order ++ rest)) ≡ Ok (order, lines_at 2 rest)
unfolding ended_lines with_spaces version_text order_of
version-again ByFacility rest = refl
version-again ByVolume rest = refl

nothing-left : (t : Transcript) (m : ℕ) → (text_end true (lines_at m []) >>= λ u. Ok (record { order = t.order; start = t.start; steps = t.steps })) ≡ Ok t
unfolding ended_lines
nothing-left t m = refl

-- A transcript that can be written is read back as itself.
pub transcript-again : (sc : Scenario) (book : BookView) (t : Transcript) → IsSpelled sc book t → transcript_of sc book (spelling book t) ≡ Ok t
unfolding transcript_of spelling end_text
transcript-again sc book t h =
    let k = length t.steps in
    let last = line_of (codes "end" ∷ decimal k ∷ []) in
    let zero-k : k ≡ 0 + k = omega arith in
    let steps-is : flat_map (step_text book) t.steps ++ last ≡ steps-text book 0 t.steps =
    ap (λ (m : ℕ). flat_map (step_text book) t.steps ++ line_of (codes "end" ∷ decimal m ∷ [])) zero-k ∙ regrouped book 0 t.steps in
    let start = start-read sc 2 t.start (flat_map (step_text book) t.steps ++ last) h.start in
    let count = h.count in
    let steps = steps-read sc book (length (ended_lines (steps-text book 0 t.steps))) 0 start.0 t.steps h.workers (omega (arith, count)) h.steps (omega arith) in
    let steps' : steps_at sc book (length (ended_lines (flat_map (step_text book) t.steps ++ last))) 0 (lines_at start.0 (flat_map (step_text book) t.steps ++ last)) ≡ Ok (t.steps, lines_at steps.0 []) =
    subst (λ (text : List ℕ). steps_at sc book (length (ended_lines text)) 0 (lines_at start.0 text) ≡ Ok (t.steps, lines_at steps.0 [])) (sym steps-is) steps.1 in
    let whole = whole-behind (version_text t.order) (start_text t.start ++ (flat_map (step_text book) t.steps ++ last))
    (whole-behind (start_text t.start) (flat_map (step_text book) t.steps ++ last) (whole-behind (flat_map (step_text book) t.steps) last (line-whole (codes "end" ∷ decimal k ∷ [])))) in
    rw (version-again t.order (start_text t.start ++ (flat_map (step_text book) t.steps ++ last)), start.1, steps', whole.0) (nothing-left t steps.0)
