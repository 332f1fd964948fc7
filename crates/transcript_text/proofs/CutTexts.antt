-- A text that is cut lacks lines, and an error other than that stays whatever follows.
use Rattle.std.proofs.Common.{◌≡◌, ◌≢◌, ◌≤◌, ◌<◌, ◌+◌, ◌∙◌, ◌==◌, ◌&&◌, ℕ, zero, suc, Bool, true, false, List, [], ◌∷◌, ◌++◌, Option, Some, None, Result, Ok, Err, if◌then◌else◌, refl, sym, ap, length, take, drop, arith, append-nil}
use Rattle.std.proofs.lemmas.List.{length-drop, length-append, take-append-drop}
use Rattle.std.proofs.lemmas.Bool.{and_parts}
use Rattle.pack_defs.specs.Lists.{is_empty}
use Rattle.pack_defs.specs.declared.scenario.Scenario.{Scenario}
use Rattle.pack_defs.specs.declared.order.Order.{Order}
use Rattle.pack_defs.specs.Book.{BookView}
use Rattle.auction_core.specs.declared.record.Shown.{Shown}
use Rattle.auction_core.specs.declared.transcript.Transcript.{Transcript}
use Rattle.auction_core.specs.declared.transcript.TranscriptStep.{TranscriptStep}
use Rattle.lrat_text.specs.Lines.{is_whole, prepend_to_first_line, ended_lines}
use Rattle.transcript_text.specs.declared.error.TextErr.{TextErr}
use Rattle.transcript_text.specs.declared.error.TextErr.TheVariants.{Version, BadLine, Truncated, NoMemory}
use Rattle.transcript_text.specs.Fields.{RemainingLines}
use Rattle.transcript_text.specs.Pieces.{with_lines}
use Rattle.transcript_text.specs.Reading.{next_step, start_at, step_or, steps_at, text_end, transcript_of, version_at}
use Rattle.pack_defs.specs.Steps.{◌>>=◌}
use Rattle.transcript_text.proofs.Cuts.{some-line}
use Rattle.transcript_text.proofs.FieldReadLemmas.{err-ok, if-ok}
use Rattle.transcript_text.proofs.PrefixLaws.{lines_behind, lines-apart}
use Rattle.transcript_text.proofs.Rising.{after-ok}
use Rattle.transcript_text.proofs.Stays.{Stays, next-step-stays, start-stays, stays-then, version-stays}

-- ---- a text that ends with a line end has a line after its first bytes

whole-tail : (c : ℕ) (before : List ℕ) (d : ℕ) (after : List ℕ) → is_whole (c ∷ (before ++ d ∷ after)) ≡ is_whole (before ++ d ∷ after)
unfolding is_whole
whole-tail c [] d after = refl
whole-tail c (b ∷ before) d after = refl

some-behind : (before : List ℕ) (d : ℕ) (after : List ℕ) → is_whole (before ++ d ∷ after) ≡ true → is_empty (lines_behind before (d ∷ after)) ≡ false
unfolding lines_behind
some-behind [] d after w = some-line d after w
some-behind (c ∷ before) d after w =
    go (c == 10) (is_empty (ended_lines before)) (lines_behind before (d ∷ after)) (some-behind before d after (sym (whole-tail c before d after) ∙ w))
  where
    go : (b e : Bool) (ls : List (List ℕ)) → is_empty ls ≡ false → is_empty (if b then ls else (if e then prepend_to_first_line c ls else ls)) ≡ false
    go true e ls h = h
    go false true [] h = h
    go false true (l ∷ ls) h = refl
    go false false ls h = h

-- ---- the complete text with lines after it

steps-stay : (more : List (List ℕ)) (sc : Scenario) (book : BookView) (a c n : ℕ) (lines : RemainingLines) → a ≤ c → Stays more (steps_at sc book a n lines) (steps_at sc book c n (with_lines lines more))
unfolding steps_at
steps-stay more sc book zero c n lines h = tt
steps-stay more sc book (suc a) zero n lines h = absurd (omega (arith, h))
steps-stay more sc book (suc a) (suc c) n lines h =
    stays-then more (next_step sc book n lines) (next_step sc book n (with_lines lines more)) _ _ (next-step-stays more sc book n lines)
    (λ next. go next.0 next.1 (steps-stay more sc book a c (n + 1) next.1 (omega (arith, h))))
  where
    go : (o : Option TranscriptStep) (rest : RemainingLines) → Stays more (steps_at sc book a (n + 1) rest) (steps_at sc book c (n + 1) (with_lines rest more))
        → Stays more (step_or o rest (λ rest. steps_at sc book a (n + 1) rest)) (step_or o (with_lines rest more) (λ rest. steps_at sc book c (n + 1) rest))
    go None rest k = refl
    go (Some x) rest k = stays-then more (steps_at sc book a (n + 1) rest) (steps_at sc book c (n + 1) (with_lines rest more)) _ _ k (λ found. refl)

-- The transcript that these lines spell up to its last line, and the lines after that one.
read_lines : Scenario → BookView → List (List ℕ) → Result (Transcript × RemainingLines) TextErr
read_lines sc book lines =
    version_at lines >>= λ version. start_at sc version.1 >>= λ start. steps_at sc book (length start.1.left) 0 start.1
    >>= λ steps. Ok (record { order = version.0; start = start.0; steps = steps.0 }, steps.1)

-- The transcript, if nothing follows its last line.
abbrev if_ended : Bool → Transcript × RemainingLines → Result Transcript TextErr
if_ended whole x = text_end whole x.1 >>= λ u. Ok x.0

read-text : (sc : Scenario) (book : BookView) (text : List ℕ) → transcript_of sc book text ≡ (read_lines sc book (ended_lines text) >>= if_ended (is_whole text))
unfolding transcript_of read_lines
read-text sc book text = named (version_at (ended_lines text))
  where
    whole : Bool
    whole = is_whole text

    stepped : (order : Order) (start : Shown) (r : Result (List TranscriptStep × RemainingLines) TextErr)
        → (r >>= λ steps. text_end whole steps.1 >>= λ u. Ok (record { order = order; start = start; steps = steps.0 })) ≡ ((r >>= λ steps. Ok (record { order = order; start = start; steps = steps.0 }, steps.1)) >>= if_ended whole)
    stepped order start (Ok steps) = refl
    stepped order start (Err e) = refl

    started : (order : Order) (r : Result (Shown × RemainingLines) TextErr)
        → (r >>= λ start. steps_at sc book (length start.1.left) 0 start.1 >>= λ steps. text_end whole steps.1 >>= λ u. Ok (record { order = order; start = start.0; steps = steps.0 }))
        ≡ ((r >>= λ start. steps_at sc book (length start.1.left) 0 start.1 >>= λ steps. Ok (record { order = order; start = start.0; steps = steps.0 }, steps.1)) >>= if_ended whole)
    started order (Ok start) = stepped order start.0 (steps_at sc book (length start.1.left) 0 start.1)
    started order (Err e) = refl

    named : (r : Result (Order × RemainingLines) TextErr)
        → (r >>= λ version. start_at sc version.1 >>= λ start. steps_at sc book (length start.1.left) 0 start.1 >>= λ steps. text_end whole steps.1 >>= λ u. Ok (record { order = version.0; start = start.0; steps = steps.0 }))
        ≡ ((r >>= λ version. start_at sc version.1 >>= λ start. steps_at sc book (length start.1.left) 0 start.1 >>= λ steps. Ok (record { order = version.0; start = start.0; steps = steps.0 }, steps.1)) >>= if_ended whole)
    named (Ok version) = started version.0 (start_at sc version.1)
    named (Err e) = refl

fewer : (left more : List (List ℕ)) → length left ≤ length (left ++ more)
fewer left more = omega (arith, length-append left more)

read-stays : (more : List (List ℕ)) (sc : Scenario) (book : BookView) (lines : List (List ℕ)) → Stays more (read_lines sc book lines) (read_lines sc book (lines ++ more))
unfolding read_lines
read-stays more sc book lines =
    stays-then more (version_at lines) (version_at (lines ++ more)) _ _ (version-stays more lines)
    (λ version. stays-then more (start_at sc version.1) (start_at sc (with_lines version.1 more)) _ _ (start-stays more sc version.1)
    (λ start. stays-then more (steps_at sc book (length start.1.left) 0 start.1) (steps_at sc book (length (start.1.left ++ more)) 0 (with_lines start.1 more)) _ _
    (steps-stay more sc book (length start.1.left) (length (start.1.left ++ more)) 0 start.1 (fewer start.1.left more)) (λ steps. refl)))

-- The text of two parts, read over the lines of the first.
read-parts : (sc : Scenario) (book : BookView) (before after : List ℕ)
    → transcript_of sc book (before ++ after) ≡ (read_lines sc book (ended_lines before ++ lines_behind before after) >>= if_ended (is_whole (before ++ after)))
read-parts sc book before after =
    read-text sc book (before ++ after) ∙ ap (λ (ls : List (List ℕ)). read_lines sc book ls >>= if_ended (is_whole (before ++ after))) (lines-apart before after)

-- ---- a cut text

no-lines : (left more : List (List ℕ)) → is_empty (left ++ more) ≡ true → is_empty more ≡ true
no-lines [] more h = h
no-lines (l ∷ left) more h = absurd cc h

both-ways : (b : Bool) → b ≡ true → b ≡ false → ⊥
both-ways b t f = absurd cc (sym t ∙ f)

-- If the complete text is read, nothing is left of its lines.
nothing-left : (whole : Bool) (x : Transcript × RemainingLines) (t : Transcript) → if_ended whole x ≡ Ok t → (is_empty x.1.left ≡ true) × (whole ≡ true)
nothing-left whole x t e =
    let u = after-ok (text_end whole x.1) (λ u. Ok x.0) t e in
    and_parts (is_empty x.1.left) whole (if-ok (is_empty x.1.left && whole) tt u.0 (BadLine x.1.number) u.1).0

cut-short : (sc : Scenario) (book : BookView) (before : List ℕ) (d : ℕ) (after : List ℕ) (t : Transcript) → transcript_of sc book (before ++ d ∷ after) ≡ Ok t → transcript_of sc book before ≡ Err Truncated
cut-short sc book before d after t e =
    read-text sc book before
    ∙ go (read_lines sc book (ended_lines before)) (read_lines sc book (ended_lines before ++ more)) (read-stays more sc book (ended_lines before)) (sym (read-parts sc book before (d ∷ after)) ∙ e)
  where
    more : List (List ℕ)
    more = lines_behind before (d ∷ after)

    whole : Bool
    whole = is_whole (before ++ d ∷ after)

    go : (r s : Result (Transcript × RemainingLines) TextErr) → Stays more r s → (s >>= if_ended whole) ≡ Ok t → (r >>= if_ended (is_whole before)) ≡ Err Truncated
    go (Ok x) s stays h =
        let last = nothing-left whole (x.0, with_lines x.1 more) t (sym (ap (λ r. r >>= if_ended whole) stays) ∙ h) in
        absurd (both-ways (is_empty more) (no-lines x.1.left more last.0) (some-behind before d after last.1))
    go (Err Version) s stays h = absurd (err-ok Version t (sym (ap (λ r. r >>= if_ended whole) stays) ∙ h))
    go (Err (BadLine m)) s stays h = absurd (err-ok (BadLine m) t (sym (ap (λ r. r >>= if_ended whole) stays) ∙ h))
    go (Err Truncated) s stays h = refl
    go (Err NoMemory) s stays h = absurd (err-ok NoMemory t (sym (ap (λ r. r >>= if_ended whole) stays) ∙ h))

pub cut-truncated : (sc : Scenario) (book : BookView) (text : List ℕ) (t : Transcript) (n : ℕ) → transcript_of sc book text ≡ Ok t → n < length text → transcript_of sc book (take n text) ≡ Err Truncated
cut-truncated sc book text t n e h = go (drop n text) (take-append-drop n text) (omega (arith, length-drop n text, h))
  where
    go : (after : List ℕ) → take n text ++ after ≡ text → 1 ≤ length after → transcript_of sc book (take n text) ≡ Err Truncated
    go [] same some = absurd (omega (arith, some))
    go (d ∷ after) same some = cut-short sc book (take n text) d after t (ap (transcript_of sc book) same ∙ e)

-- ---- an error stays

not-both : (before after : List ℕ) → (is_empty (lines_behind before after) && is_whole (before ++ after)) ≡ true → is_whole before ≡ true
not-both before [] h = ap is_whole (sym (append-nil before)) ∙ (and_parts (is_empty (lines_behind before [])) (is_whole (before ++ [])) h).1
not-both before (d ∷ after) h =
    let parts = and_parts (is_empty (lines_behind before (d ∷ after))) (is_whole (before ++ d ∷ after)) h in
    absurd (both-ways (is_empty (lines_behind before (d ∷ after))) parts.0 (some-behind before d after parts.1))

abbrev nothing_or : Bool → ℕ → Result (Unit {0}) TextErr
nothing_or b n = if b then Ok tt else Err (BadLine n)

-- Bytes after the last line stay an error.
end-stays : (w v : Bool) (n : ℕ) (left more : List (List ℕ)) (t : Transcript) (why : TextErr) → ((is_empty more && v) ≡ true → w ≡ true)
    → if_ended w (t, record { number = n; left = left }) ≡ Err why → if_ended v (t, record { number = n; left = left ++ more }) ≡ Err why
end-stays w v n (l ∷ left) more t why h e = e
end-stays true v n [] more t why h e = absurd cc e
end-stays false v n [] more t why h e = go (is_empty more && v) h
  where
    go : (b : Bool) → (b ≡ true → false ≡ true) → (nothing_or b n >>= λ u. Ok t) ≡ Err why
    go true f = absurd cc (f refl)
    go false f = e

same-error : (r : Result Transcript TextErr) (e why : TextErr) → r ≡ Err e → r ≡ Err why → e ≡ why
same-error r e why h k = cc

pub error-stays : (sc : Scenario) (book : BookView) (before after : List ℕ) (why : TextErr) → transcript_of sc book before ≡ Err why → why ≢ Truncated → transcript_of sc book (before ++ after) ≡ Err why
error-stays sc book before after why e other =
    read-parts sc book before after
    ∙ go (read_lines sc book (ended_lines before)) (read_lines sc book (ended_lines before ++ more)) (read-stays more sc book (ended_lines before)) (sym (read-text sc book before) ∙ e)
  where
    more : List (List ℕ)
    more = lines_behind before after

    whole : Bool
    whole = is_whole (before ++ after)

    go : (r s : Result (Transcript × RemainingLines) TextErr) → Stays more r s → (r >>= if_ended (is_whole before)) ≡ Err why → (s >>= if_ended whole) ≡ Err why
    go (Ok x) s stays h =
        ap (λ r. r >>= if_ended whole) stays ∙ end-stays (is_whole before) whole x.1.number x.1.left more x.0 why (not-both before after) h
    go (Err Version) s stays h = ap (λ r. r >>= if_ended whole) stays ∙ h
    go (Err (BadLine m)) s stays h = ap (λ r. r >>= if_ended whole) stays ∙ h
    go (Err Truncated) s stays h = absurd (other (sym (same-error (Err Truncated) Truncated why refl h)))
    go (Err NoMemory) s stays h = ap (λ r. r >>= if_ended whole) stays ∙ h
