-- Reading step by step, as far as lines are complete, agrees with reading all lines at once.
use Rattle.std.proofs.Common.{◌≡◌, ◌≤◌, ◌+◌, ◌∙◌, ℕ, zero, suc, Bool, true, false, List, [], ◌∷◌, ◌++◌, Option, Some, None, Result, Ok, Err, IfOk, if◌then◌else◌, refl, sym, ap, subst, arith, length, length-append, append_assoc, append-nil}
use Rattle.pack_defs.specs.declared.scenario.Scenario.{Scenario}
use Rattle.pack_defs.specs.declared.order.Order.{Order}
use Rattle.auction_core.specs.declared.record.Shown.{Shown}
use Rattle.lrat_text.specs.Lines.{is_whole, ended_lines}
use Rattle.pack_defs.specs.Book.{BookView}
use Rattle.transcript_text.specs.declared.error.TextErr.{TextErr}
use Rattle.transcript_text.specs.declared.error.TextErr.TheVariants.{Version, BadLine, Truncated, NoMemory}
use Rattle.auction_core.specs.declared.transcript.Transcript.{Transcript}
use Rattle.auction_core.specs.declared.transcript.TranscriptStep.{TranscriptStep}
use Rattle.pack_defs.specs.Steps.{◌>>=◌}
use Rattle.transcript_text.specs.Steps.{Fails, Gives}
use Rattle.transcript_text.specs.Fields.{RemainingLines}
use Rattle.transcript_text.specs.Reading.{next_step, start_at, step_or, steps_at, text_end, transcript_of, version_at}
use Rattle.transcript_text.specs.Pieces.{IsAtEnd, ReadsOn, StepsSoFar, begins, ended_on_error, ends_or_continues, continue_reading, opened_at, stopped, with_lines}
use Rattle.transcript_text.proofs.Fronts.{stops}
use Rattle.transcript_text.proofs.StepLoop.{Fewer, next-truncated, step-fewer}
use Rattle.transcript_text.proofs.Stays.{Stays, next-step-stays, opened-stays}

-- ---- any bound on the steps that is at least the number of lines gives the same result

pub same-steps : (sc : Scenario) (book : BookView) (a b n : ℕ) (lines : RemainingLines) → length lines.left ≤ a → length lines.left ≤ b → steps_at sc book a n lines ≡ steps_at sc book b n lines
unfolding steps_at
same-steps sc book zero zero n lines p q = refl
same-steps sc book zero (suc b) n lines p q = rw (next-truncated sc book n lines.number lines.left p) refl
same-steps sc book (suc a) zero n lines p q = rw (next-truncated sc book n lines.number lines.left q) refl
same-steps sc book (suc a) (suc b) n lines p q = go (next_step sc book n lines) (step-fewer sc book n lines) (λ rest. same-steps sc book a b (n + 1) rest)
  where
    go : (r : Result (Option TranscriptStep × RemainingLines) TextErr) → Fewer lines r
        → ((rest : RemainingLines) → length rest.left ≤ a → length rest.left ≤ b → steps_at sc book a (n + 1) rest ≡ steps_at sc book b (n + 1) rest)
        → (r >>= λ next. step_or next.0 next.1 (λ rest. steps_at sc book a (n + 1) rest)) ≡ (r >>= λ next. step_or next.0 next.1 (λ rest. steps_at sc book b (n + 1) rest))
    go (Ok (Some x, rest)) less same = ap (λ (r : Result (List TranscriptStep × RemainingLines) TextErr). r >>= λ more. Ok (x ∷ more.0, more.1)) (same rest (omega (arith, p, less)) (omega (arith, q, less)))
    go (Ok (None, rest)) less same = refl
    go (Err e) less same = refl

-- The steps, with the next one taken first.
steps-unrolled : (sc : Scenario) (book : BookView) (n : ℕ) (lines : RemainingLines)
    → steps_at sc book (length lines.left) n lines ≡ (next_step sc book n lines >>= λ next. step_or next.0 next.1 (λ rest. steps_at sc book (length rest.left) (n + 1) rest))
unfolding steps_at
steps-unrolled sc book n lines = go lines.number lines.left
  where
    go : (m : ℕ) (left : List (List ℕ)) → steps_at sc book (length left) n (record { number = m; left = left })
        ≡ (next_step sc book n (record { number = m; left = left }) >>= λ next. step_or next.0 next.1 (λ rest. steps_at sc book (length rest.left) (n + 1) rest))
    go m [] = rw (next-truncated sc book n m [] (omega arith)) refl
    go m (line ∷ left) = step (next_step sc book n (record { number = m; left = line ∷ left })) (step-fewer sc book n (record { number = m; left = line ∷ left }))
      where
        step : (r : Result (Option TranscriptStep × RemainingLines) TextErr) → Fewer (record { number = m; left = line ∷ left }) r
            → (r >>= λ next. step_or next.0 next.1 (λ rest. steps_at sc book (length left) (n + 1) rest)) ≡ (r >>= λ next. step_or next.0 next.1 (λ rest. steps_at sc book (length rest.left) (n + 1) rest))
        step (Ok (Some x, rest)) less = ap (λ (r : Result (List TranscriptStep × RemainingLines) TextErr). r >>= λ more. Ok (x ∷ more.0, more.1)) (same-steps sc book (length left) (length rest.left) (n + 1) rest (omega (arith, less)) (omega arith))
        step (Ok (None, rest)) less = refl
        step (Err e) less = refl

-- ---- a transcript continues with its next step

-- The transcript with another step.
abbrev pub with_step : Transcript → TranscriptStep → Transcript
with_step begun x = record { order = begun.order; start = begun.start; steps = begun.steps ++ x ∷ [] }

abbrev pub turned : Scenario → BookView → Transcript → Bool → Option TranscriptStep × RemainingLines → Result Transcript TextErr
turned sc book begun whole (None, rest) = text_end whole rest >>= λ u. Ok begun
turned sc book begun whole (Some x, rest) = continue_reading sc book (with_step begun x) whole rest

pub with-none : (begun : Transcript) → record { order = begun.order; start = begun.start; steps = begun.steps ++ [] } ≡ begun
with-none begun = ap (λ (steps : List TranscriptStep). record { order = begun.order; start = begun.start; steps = steps }) (append-nil begun.steps)

pub goes-by-step : (sc : Scenario) (book : BookView) (begun : Transcript) (whole : Bool) (lines : RemainingLines)
    → continue_reading sc book begun whole lines ≡ (next_step sc book (length begun.steps) lines >>= turned sc book begun whole)
unfolding continue_reading
goes-by-step sc book begun whole lines =
    ap (λ (r : Result (List TranscriptStep × RemainingLines) TextErr). r >>= ended) (steps-unrolled sc book (length begun.steps) lines) ∙ go (next_step sc book (length begun.steps) lines)
  where
    ended : List TranscriptStep × RemainingLines → Result Transcript TextErr
    ended steps = text_end whole steps.1 >>= λ u. Ok (record { order = begun.order; start = begun.start; steps = begun.steps ++ steps.0 })

    more : (x : TranscriptStep) (r : Result (List TranscriptStep × RemainingLines) TextErr)
        → ((r >>= λ more. Ok (x ∷ more.0, more.1)) >>= ended)
        ≡ (r >>= λ steps. text_end whole steps.1 >>= λ u. Ok (record { order = begun.order; start = begun.start; steps = (begun.steps ++ x ∷ []) ++ steps.0 }))
    more x (Ok s) = ap (λ (xs : List TranscriptStep). text_end whole s.1 >>= λ u. Ok (record { order = begun.order; start = begun.start; steps = xs })) (sym (append_assoc begun.steps (x ∷ []) s.0))
    more x (Err e) = refl

    go : (r : Result (Option TranscriptStep × RemainingLines) TextErr)
        → ((r >>= λ next. step_or next.0 next.1 (λ rest. steps_at sc book (length rest.left) (length begun.steps + 1) rest)) >>= ended) ≡ (r >>= turned sc book begun whole)
    go (Ok (Some x, rest)) =
        more x (steps_at sc book (length rest.left) (length begun.steps + 1) rest)
        ∙ ap (λ (n : ℕ). steps_at sc book (length rest.left) n rest >>= λ steps. text_end whole steps.1 >>= λ u. Ok (record { order = begun.order; start = begun.start; steps = (begun.steps ++ x ∷ []) ++ steps.0 })) (sym (length-append begun.steps (x ∷ [])))
    go (Ok (None, rest)) = ap (λ (t : Transcript). text_end whole rest >>= λ u. Ok t) (with-none begun)
    go (Err e) = refl

-- ---- steps that were read, whatever lines follow

-- Whether these steps and lines come to the same as the first, whatever lines follow.
abbrev pub AreRead : Scenario → BookView → Transcript → RemainingLines → Transcript → RemainingLines → Type 0
AreRead sc book begun lines now rest = (whole : Bool) (more : List (List ℕ)) → continue_reading sc book begun whole (with_lines lines more) ≡ continue_reading sc book now whole (with_lines rest more)

pub stays-ok : {A : Type 0} (more : List (List ℕ)) (r s : Result (A × RemainingLines) TextErr) (x : A) (rest : RemainingLines) → Stays more r s → r ≡ Ok (x, rest) → s ≡ Ok (x, with_lines rest more)
stays-ok more r s x rest h e = subst (λ r. Stays more r s) e h

pub stays-fails : {A : Type 0} (more : List (List ℕ)) (r s : Result (A × RemainingLines) TextErr) (e : TextErr) → Stays more r s → r ≡ Err e → Stays more (Err e) s
stays-fails more r s e h is = subst (λ r. Stays more r s) is h

-- The same for equal counts and equal lines.
pub asked-same : (P : Result (Option TranscriptStep × RemainingLines) TextErr → Type 0) (sc : Scenario) (book : BookView) (n m : ℕ) (asked rest : RemainingLines) → n ≡ m → asked ≡ rest → P (next_step sc book n asked) → P (next_step sc book m rest)
asked-same P sc book n m asked rest p q h = subst (λ (r : RemainingLines). P (next_step sc book m r)) q (subst (λ (n : ℕ). P (next_step sc book n asked)) p h)

pub none-read : (sc : Scenario) (book : BookView) (begun : Transcript) (lines : RemainingLines) → AreRead sc book begun lines begun lines
none-read sc book begun lines = λ whole more. refl

goes-with-more : (sc : Scenario) (book : BookView) (begun now : Transcript) (lines rest : RemainingLines) (r : Result (Option TranscriptStep × RemainingLines) TextErr) (whole : Bool) (more : List (List ℕ)) → AreRead sc book begun lines now rest
    → next_step sc book (length now.steps) (with_lines rest more) ≡ r → continue_reading sc book begun whole (with_lines lines more) ≡ (r >>= turned sc book now whole)
goes-with-more sc book begun now lines rest r whole more h e =
    h whole more ∙ goes-by-step sc book now whole (with_lines rest more) ∙ ap (λ r. r >>= turned sc book now whole) e

step-read : (sc : Scenario) (book : BookView) (begun now : Transcript) (lines rest after : RemainingLines) (x : TranscriptStep) → AreRead sc book begun lines now rest
    → next_step sc book (length now.steps) rest ≡ Ok (Some x, after) → AreRead sc book begun lines (with_step now x) after
step-read sc book begun now lines rest after x h e = λ whole more.
    goes-with-more sc book begun now lines rest (Ok (Some x, with_lines after more)) whole more h (stays-ok more _ _ (Some x) after (next-step-stays more sc book (length now.steps) rest) e)

pub step-read-as : (sc : Scenario) (book : BookView) (begun now : Transcript) (lines rest after : RemainingLines) (x : TranscriptStep) (steps : List TranscriptStep) → AreRead sc book begun lines now rest
    → next_step sc book (length now.steps) rest ≡ Ok (Some x, after) → steps ≡ now.steps ++ x ∷ [] → AreRead sc book begun lines (record { order = now.order; start = now.start; steps = steps }) after
step-read-as sc book begun now lines rest after x steps h e is =
    subst (λ (xs : List TranscriptStep). AreRead sc book begun lines (record { order = now.order; start = now.start; steps = xs }) after) (sym is) (step-read sc book begun now lines rest after x h e)

pub end-read : (sc : Scenario) (book : BookView) (begun now : Transcript) (lines rest after : RemainingLines) → AreRead sc book begun lines now rest
    → next_step sc book (length now.steps) rest ≡ Ok (None, after) → ReadsOn sc book begun lines (Ok (record { begun = now; rest = after; ended = true }))
end-read sc book begun now lines rest after h e = λ whole more.
    goes-with-more sc book begun now lines rest (Ok (None, with_lines after more)) whole more h (stays-ok more _ _ None after (next-step-stays more sc book (length now.steps) rest) e)

pub stop-read : (sc : Scenario) (book : BookView) (begun now : Transcript) (lines rest : RemainingLines) (why : TextErr) → AreRead sc book begun lines now rest
    → Fails why (next_step sc book (length now.steps) rest) → ReadsOn sc book begun lines (stopped why (record { begun = now; rest = rest; ended = false }))
stop-read sc book begun now lines rest Version h e = λ whole more.
    goes-with-more sc book begun now lines rest (Err Version) whole more h (stays-fails more _ _ Version (next-step-stays more sc book (length now.steps) rest) e)
stop-read sc book begun now lines rest (BadLine n) h e = λ whole more.
    goes-with-more sc book begun now lines rest (Err (BadLine n)) whole more h (stays-fails more _ _ (BadLine n) (next-step-stays more sc book (length now.steps) rest) e)
stop-read sc book begun now lines rest Truncated h e = h
stop-read sc book begun now lines rest NoMemory h e = λ whole more. tt

pub stop-at-end : (sc : Scenario) (book : BookView) (now : Transcript) (rest : RemainingLines) (why : TextErr)
    → Fails why (next_step sc book (length now.steps) rest) → IfOk (stopped why (record { begun = now; rest = rest; ended = false })) (λ x. IsAtEnd sc book x)
stop-at-end sc book now rest Version e = tt
stop-at-end sc book now rest (BadLine n) e = tt
stop-at-end sc book now rest Truncated e = λ u. e
stop-at-end sc book now rest NoMemory e = tt

-- ---- no line follows

pub with-nothing : (lines : RemainingLines) → with_lines lines [] ≡ lines
with-nothing lines = ap (λ (left : List (List ℕ)). record { number = lines.number; left = left }) (append-nil lines.left)

goes-with-nothing : (sc : Scenario) (book : BookView) (begun : Transcript) (whole : Bool) (lines : RemainingLines) → continue_reading sc book begun whole lines ≡ continue_reading sc book begun whole (with_lines lines [])
goes-with-nothing sc book begun whole lines = sym (ap (λ (ls : RemainingLines). continue_reading sc book begun whole ls) (with-nothing lines))

cut-short : (sc : Scenario) (book : BookView) (begun : Transcript) (lines : RemainingLines) (whole : Bool) (x : StepsSoFar) → ReadsOn sc book begun lines (Ok x) → IsAtEnd sc book x → x.ended ≡ false
    → continue_reading sc book begun whole lines ≡ Err Truncated
cut-short sc book begun lines whole x read waits e =
    goes-with-nothing sc book begun whole lines ∙ read whole [] ∙ ap (λ (ended : Bool). ends_or_continues sc book ended x.begun whole (with_lines x.rest [])) e
    ∙ sym (goes-with-nothing sc book x.begun whole x.rest) ∙ goes-by-step sc book x.begun whole x.rest ∙ ap (λ r. r >>= turned sc book x.begun whole) (waits e)

last-read : (sc : Scenario) (book : BookView) (begun : Transcript) (lines : RemainingLines) (whole : Bool) (x : StepsSoFar) → ReadsOn sc book begun lines (Ok x) → x.ended ≡ true
    → continue_reading sc book begun whole lines ≡ (text_end whole x.rest >>= λ u. Ok x.begun)
last-read sc book begun lines whole x read e =
    goes-with-nothing sc book begun whole lines ∙ read whole [] ∙ ap (λ (ended : Bool). ends_or_continues sc book ended x.begun whole (with_lines x.rest [])) e
    ∙ ap (λ (ls : RemainingLines). text_end whole ls >>= λ u. Ok x.begun) (with-nothing x.rest)

pub all-read : (sc : Scenario) (book : BookView) (begun : Transcript) (lines : RemainingLines) (whole : Bool) (x : StepsSoFar) → ReadsOn sc book begun lines (Ok x) → IsAtEnd sc book x
    → continue_reading sc book begun whole lines ≡ ended_on_error whole x
unfolding ended_on_error
all-read sc book begun lines whole x read waits = go x.ended refl
  where
    go : (ended : Bool) → x.ended ≡ ended → continue_reading sc book begun whole lines ≡ (if ended then (text_end whole x.rest >>= λ u. Ok x.begun) else Err Truncated)
    go true e = last-read sc book begun lines whole x read e
    go false e = cut-short sc book begun lines whole x read waits e

pub fault-read : (sc : Scenario) (book : BookView) (begun : Transcript) (lines : RemainingLines) (whole : Bool) (why : TextErr) → ReadsOn sc book begun lines (Err why) → Fails why (continue_reading sc book begun whole lines)
fault-read sc book begun lines whole why read = subst (λ (ls : RemainingLines). Fails why (continue_reading sc book begun whole ls)) (with-nothing lines) (read whole [])

-- ---- the complete text

abbrev begun-with : Order → Shown × RemainingLines → Result (Transcript × RemainingLines) TextErr
begun-with order start = Ok (record { order = order; start = start.0; steps = [] }, start.1)

transcript-opened : (sc : Scenario) (book : BookView) (text : List ℕ) → transcript_of sc book text ≡ (opened_at sc (ended_lines text) >>= λ o. continue_reading sc book o.0 (is_whole text) o.1)
unfolding transcript_of opened_at continue_reading
transcript-opened sc book text = go (version_at (ended_lines text))
  where
    from : (order : Order) (r : Result (Shown × RemainingLines) TextErr)
        → (r >>= λ start. steps_at sc book (length start.1.left) 0 start.1 >>= λ steps. text_end (is_whole text) steps.1 >>= λ u. Ok (record { order = order; start = start.0; steps = steps.0 }))
        ≡ ((r >>= begun-with order) >>= λ o. continue_reading sc book o.0 (is_whole text) o.1)
    from order (Ok s) = refl
    from order (Err e) = refl

    go : (r : Result (Order × RemainingLines) TextErr)
        → (r >>= λ version. start_at sc version.1 >>= λ start. steps_at sc book (length start.1.left) 0 start.1 >>= λ steps. text_end (is_whole text) steps.1 >>= λ u. Ok (record { order = version.0; start = start.0; steps = steps.0 }))
        ≡ ((r >>= λ version. start_at sc version.1 >>= begun-with version.0) >>= λ o. continue_reading sc book o.0 (is_whole text) o.1)
    go (Ok v) = from v.0 (start_at sc v.1)
    go (Err e) = refl

pub begins-opened : (sc : Scenario) (book : BookView) (whole : Bool) (lines : List (List ℕ)) → begins sc book whole lines ≡ (opened_at sc lines >>= λ o. continue_reading sc book o.0 whole o.1)
unfolding begins opened_at
begins-opened sc book whole lines = go (version_at lines)
  where
    from : (order : Order) (r : Result (Shown × RemainingLines) TextErr)
        → (r >>= λ start. continue_reading sc book (record { order = order; start = start.0; steps = [] }) whole start.1)
        ≡ ((r >>= begun-with order) >>= λ o. continue_reading sc book o.0 whole o.1)
    from order (Ok s) = refl
    from order (Err e) = refl

    go : (r : Result (Order × RemainingLines) TextErr)
        → (r >>= λ version. start_at sc version.1 >>= λ start. continue_reading sc book (record { order = version.0; start = start.0; steps = [] }) whole start.1)
        ≡ ((r >>= λ version. start_at sc version.1 >>= begun-with version.0) >>= λ o. continue_reading sc book o.0 whole o.1)
    go (Ok v) = from v.0 (start_at sc v.1)
    go (Err e) = refl

pub opened-gives : (sc : Scenario) (book : BookView) (text : List ℕ) (begun : Transcript) (lines : RemainingLines) (whole : Bool) (result : Result Transcript TextErr)
    → opened_at sc (ended_lines text) ≡ Ok (begun, lines) → whole ≡ is_whole text → Gives (λ (t : Transcript). t) (continue_reading sc book begun whole lines) result → Gives (λ (t : Transcript). t) (transcript_of sc book text) result
opened-gives sc book text begun lines whole result e w h =
    let all : transcript_of sc book text ≡ continue_reading sc book begun whole lines =
    transcript-opened sc book text ∙ ap (λ (r : Result (Transcript × RemainingLines) TextErr). r >>= λ o. continue_reading sc book o.0 (is_whole text) o.1) e ∙ ap (λ (b : Bool). continue_reading sc book begun b lines) (sym w) in
    subst (λ (r : Result Transcript TextErr). Gives (λ (t : Transcript). t) r result) (sym all) h

pub opened-fails : (sc : Scenario) (book : BookView) (text : List ℕ) (why : TextErr) → Fails why (opened_at sc (ended_lines text)) → Fails why (transcript_of sc book text)
opened-fails sc book text why h = stops (λ o. continue_reading sc book o.0 (is_whole text) o.1) why (opened_at sc (ended_lines text)) (transcript_of sc book text) (transcript-opened sc book text) h

pub transcript-begins : (sc : Scenario) (book : BookView) (text : List ℕ) → transcript_of sc book text ≡ begins sc book (is_whole text) (ended_lines text)
transcript-begins sc book text = transcript-opened sc book text ∙ sym (begins-opened sc book (is_whole text) (ended_lines text))

-- The complete text is read from where the first lines end, or fails with their error.
pub begins-from : (sc : Scenario) (book : BookView) (lines : List (List ℕ)) (begun : Transcript) (rest : RemainingLines) (whole : Bool) (more : List (List ℕ))
    → opened_at sc lines ≡ Ok (begun, rest) → begins sc book whole (lines ++ more) ≡ continue_reading sc book begun whole (with_lines rest more)
begins-from sc book lines begun rest whole more e =
    begins-opened sc book whole (lines ++ more) ∙ ap (λ (r : Result (Transcript × RemainingLines) TextErr). r >>= λ o. continue_reading sc book o.0 whole o.1) (stays-ok more _ _ begun rest (opened-stays more sc lines) e)

pub begins-not : (sc : Scenario) (book : BookView) (lines : List (List ℕ)) (why : TextErr) (whole : Bool) (more : List (List ℕ)) → opened_at sc (lines ++ more) ≡ Err why → begins sc book whole (lines ++ more) ≡ Err why
begins-not sc book lines why whole more e =
    begins-opened sc book whole (lines ++ more) ∙ ap (λ (r : Result (Transcript × RemainingLines) TextErr). r >>= λ o. continue_reading sc book o.0 whole o.1) e
