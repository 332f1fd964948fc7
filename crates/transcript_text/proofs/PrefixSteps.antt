-- The complete steps of a beginning, one after the other.
use Rattle.std.proofs.Common.{◌≡◌, ◌≤◌, ◌+◌, ◌∙◌, ℕ, zero, suc, Bool, true, false, if◌then◌else◌, List, [], ◌∷◌, ◌++◌, Option, Some, None, Result, Ok, Err, refl, sym, ap, subst, arith, length, length-append, append_assoc}
use Rattle.pack_defs.specs.declared.scenario.Scenario.{Scenario}
use Rattle.pack_defs.specs.declared.order.Order.{Order}
use Rattle.pack_defs.specs.Book.{BookView}
use Rattle.auction_core.specs.declared.record.Shown.{Shown}
use Rattle.lrat_text.specs.Lines.{ended_lines}
use Rattle.transcript_text.specs.declared.error.TextErr.{TextErr}
use Rattle.transcript_text.specs.declared.error.TextErr.TheVariants.{Version, BadLine, Truncated, NoMemory}
use Rattle.auction_core.specs.declared.prefix.Prefix.{Prefix}
use Rattle.auction_core.specs.declared.transcript.Transcript.{Transcript}
use Rattle.auction_core.specs.declared.transcript.TranscriptStep.{TranscriptStep}
use Rattle.transcript_text.specs.Fields.{RemainingLines}
use Rattle.transcript_text.specs.Pieces.{ArePrefixSteps, IsAtEnd, StepsSoFar, begins_there, prefix_ends_or_continues, opened_at, stopped, prefix_on_error, with_lines}
use Rattle.transcript_text.specs.PrefixReading.{StepsOfPrefix, goes_on_there, if_complete, kept_on_error, only_these_steps, empty_prefix, order_prefix, prefix_of, prefix_start, prefix_steps, prefix_step_or, transcript_prefix}
use Rattle.transcript_text.specs.Reading.{next_step, start_at, text_end, version_at}
use Rattle.pack_defs.specs.Steps.{◌>>=◌}
use Rattle.transcript_text.specs.Steps.{Fails, Gives}
use Rattle.transcript_text.proofs.Ahead.{stays-fails, stays-ok, with-none, with-nothing, with_step}
use Rattle.transcript_text.proofs.Stays.{next-step-stays, opened-stays}
use Rattle.transcript_text.proofs.StepLoop.{Fewer, next-truncated, step-fewer}

-- ---- any bound on the steps that is at least the number of lines gives the same result

same-there : (sc : Scenario) (book : BookView) (a b n : ℕ) (lines : RemainingLines) → length lines.left ≤ a → length lines.left ≤ b → prefix_steps sc book a n lines ≡ prefix_steps sc book b n lines
unfolding prefix_steps
same-there sc book zero zero n lines p q = refl
same-there sc book zero (suc b) n lines p q = rw (next-truncated sc book n lines.number lines.left p) refl
same-there sc book (suc a) zero n lines p q = rw (next-truncated sc book n lines.number lines.left q) refl
same-there sc book (suc a) (suc b) n lines p q = go (next_step sc book n lines) (step-fewer sc book n lines) (λ rest. same-there sc book a b (n + 1) rest)
  where
    go : (r : Result (Option TranscriptStep × RemainingLines) TextErr) → Fewer lines r
        → ((rest : RemainingLines) → length rest.left ≤ a → length rest.left ≤ b → prefix_steps sc book a (n + 1) rest ≡ prefix_steps sc book b (n + 1) rest)
        → if_complete only_these_steps r (λ next. prefix_step_or next.0 next.1 (λ rest. prefix_steps sc book a (n + 1) rest)) ≡ if_complete only_these_steps r (λ next. prefix_step_or next.0 next.1 (λ rest. prefix_steps sc book b (n + 1) rest))
    go (Ok (Some x, rest)) less same = ap (λ (r : Result StepsOfPrefix TextErr). r >>= λ more. Ok (record { steps = x ∷ more.steps; ended = more.ended })) (same rest (omega (arith, p, less)) (omega (arith, q, less)))
    go (Ok (None, rest)) less same = refl
    go (Err e) less same = refl

-- The steps, with the next one taken first.
there-unrolled : (sc : Scenario) (book : BookView) (n : ℕ) (lines : RemainingLines)
    → prefix_steps sc book (length lines.left) n lines ≡ if_complete only_these_steps (next_step sc book n lines) (λ next. prefix_step_or next.0 next.1 (λ rest. prefix_steps sc book (length rest.left) (n + 1) rest))
unfolding prefix_steps
there-unrolled sc book n lines = go lines.number lines.left
  where
    go : (m : ℕ) (left : List (List ℕ)) → prefix_steps sc book (length left) n (record { number = m; left = left })
        ≡ if_complete only_these_steps (next_step sc book n (record { number = m; left = left })) (λ next. prefix_step_or next.0 next.1 (λ rest. prefix_steps sc book (length rest.left) (n + 1) rest))
    go m [] = rw (next-truncated sc book n m [] (omega arith)) refl
    go m (line ∷ left) = step (next_step sc book n (record { number = m; left = line ∷ left })) (step-fewer sc book n (record { number = m; left = line ∷ left }))
      where
        step : (r : Result (Option TranscriptStep × RemainingLines) TextErr) → Fewer (record { number = m; left = line ∷ left }) r
            → if_complete only_these_steps r (λ next. prefix_step_or next.0 next.1 (λ rest. prefix_steps sc book (length left) (n + 1) rest)) ≡ if_complete only_these_steps r (λ next. prefix_step_or next.0 next.1 (λ rest. prefix_steps sc book (length rest.left) (n + 1) rest))
        step (Ok (Some x, rest)) less = ap (λ (r : Result StepsOfPrefix TextErr). r >>= λ more. Ok (record { steps = x ∷ more.steps; ended = more.ended })) (same-there sc book (length left) (length rest.left) (n + 1) rest (omega (arith, less)) (omega arith))
        step (Ok (None, rest)) less = refl
        step (Err e) less = refl

-- ---- a beginning continues with its next step

abbrev turned_there : Scenario → BookView → Transcript → Option TranscriptStep × RemainingLines → Result Prefix TextErr
turned_there sc book begun (None, rest) = text_end true rest >>= λ u. Ok (transcript_prefix begun true)
turned_there sc book begun (Some x, rest) = goes_on_there sc book (with_step begun x) rest

there-by-step : (sc : Scenario) (book : BookView) (begun : Transcript) (lines : RemainingLines)
    → goes_on_there sc book begun lines ≡ if_complete (transcript_prefix begun false) (next_step sc book (length begun.steps) lines) (turned_there sc book begun)
unfolding goes_on_there
there-by-step sc book begun lines =
    ap (λ (r : Result StepsOfPrefix TextErr). r >>= put) (there-unrolled sc book (length begun.steps) lines) ∙ go (next_step sc book (length begun.steps) lines)
  where
    put : StepsOfPrefix → Result Prefix TextErr
    put more = Ok (transcript_prefix (record { order = begun.order; start = begun.start; steps = begun.steps ++ more.steps }) more.ended)

    more : (x : TranscriptStep) (r : Result StepsOfPrefix TextErr)
        → ((r >>= λ more. Ok (record { steps = x ∷ more.steps; ended = more.ended })) >>= put)
        ≡ (r >>= λ more. Ok (transcript_prefix (record { order = begun.order; start = begun.start; steps = (begun.steps ++ x ∷ []) ++ more.steps }) more.ended))
    more x (Ok s) = ap (λ (xs : List TranscriptStep). Ok (transcript_prefix (record { order = begun.order; start = begun.start; steps = xs }) s.ended)) (sym (append_assoc begun.steps (x ∷ []) s.steps))
    more x (Err e) = refl

    last : (r : Result (Unit {0}) TextErr) → ((r >>= λ u. Ok (record { steps = []; ended = true })) >>= put) ≡ (r >>= λ u. Ok (transcript_prefix begun true))
    last (Ok u) = ap (λ (t : Transcript). Ok (transcript_prefix t true)) (with-none begun)
    last (Err e) = refl

    go : (r : Result (Option TranscriptStep × RemainingLines) TextErr)
        → (if_complete only_these_steps r (λ next. prefix_step_or next.0 next.1 (λ rest. prefix_steps sc book (length rest.left) (length begun.steps + 1) rest)) >>= put)
        ≡ if_complete (transcript_prefix begun false) r (turned_there sc book begun)
    go (Ok (Some x, rest)) =
        more x (prefix_steps sc book (length rest.left) (length begun.steps + 1) rest)
        ∙ ap (λ (n : ℕ). prefix_steps sc book (length rest.left) n rest >>= λ more. Ok (transcript_prefix (record { order = begun.order; start = begun.start; steps = (begun.steps ++ x ∷ []) ++ more.steps }) more.ended)) (sym (length-append begun.steps (x ∷ [])))
    go (Ok (None, rest)) = last (text_end true rest)
    go (Err Version) = refl
    go (Err (BadLine n)) = refl
    go (Err Truncated) = ap (λ (t : Transcript). Ok (transcript_prefix t false)) (with-none begun)
    go (Err NoMemory) = refl

-- ---- the loop over steps

-- Whether these steps and lines have the same complete steps as the first, whatever lines follow.
abbrev pub AreThere : Scenario → BookView → Transcript → RemainingLines → Transcript → RemainingLines → Type 0
AreThere sc book begun lines now rest = (more : List (List ℕ)) → goes_on_there sc book begun (with_lines lines more) ≡ goes_on_there sc book now (with_lines rest more)

there-with : (sc : Scenario) (book : BookView) (begun now : Transcript) (lines rest : RemainingLines) (r : Result (Option TranscriptStep × RemainingLines) TextErr) (more : List (List ℕ)) → AreThere sc book begun lines now rest
    → next_step sc book (length now.steps) (with_lines rest more) ≡ r → goes_on_there sc book begun (with_lines lines more) ≡ if_complete (transcript_prefix now false) r (turned_there sc book now)
there-with sc book begun now lines rest r more h e = h more ∙ there-by-step sc book now (with_lines rest more) ∙ ap (λ r. if_complete (transcript_prefix now false) r (turned_there sc book now)) e

pub step-there : (sc : Scenario) (book : BookView) (begun now : Transcript) (lines rest after : RemainingLines) (x : TranscriptStep) (steps : List TranscriptStep) → AreThere sc book begun lines now rest
    → next_step sc book (length now.steps) rest ≡ Ok (Some x, after) → steps ≡ now.steps ++ x ∷ [] → AreThere sc book begun lines (record { order = now.order; start = now.start; steps = steps }) after
step-there sc book begun now lines rest after x steps h e is = λ more.
    there-with sc book begun now lines rest (Ok (Some x, with_lines after more)) more h (stays-ok more _ _ (Some x) after (next-step-stays more sc book (length now.steps) rest) e)
    ∙ sym (ap (λ (xs : List TranscriptStep). goes_on_there sc book (record { order = now.order; start = now.start; steps = xs }) (with_lines after more)) is)

pub end-there : (sc : Scenario) (book : BookView) (begun now : Transcript) (lines rest after : RemainingLines) → AreThere sc book begun lines now rest
    → next_step sc book (length now.steps) rest ≡ Ok (None, after) → ArePrefixSteps sc book begun lines (Ok (record { begun = now; rest = after; ended = true }))
end-there sc book begun now lines rest after h e = λ more.
    there-with sc book begun now lines rest (Ok (None, with_lines after more)) more h (stays-ok more _ _ None after (next-step-stays more sc book (length now.steps) rest) e)

pub stop-there : (sc : Scenario) (book : BookView) (begun now : Transcript) (lines rest : RemainingLines) (why : TextErr) → AreThere sc book begun lines now rest
    → Fails why (next_step sc book (length now.steps) rest) → ArePrefixSteps sc book begun lines (stopped why (record { begun = now; rest = rest; ended = false }))
stop-there sc book begun now lines rest Version h e = λ more.
    there-with sc book begun now lines rest (Err Version) more h (stays-fails more _ _ Version (next-step-stays more sc book (length now.steps) rest) e)
stop-there sc book begun now lines rest (BadLine n) h e = λ more.
    there-with sc book begun now lines rest (Err (BadLine n)) more h (stays-fails more _ _ (BadLine n) (next-step-stays more sc book (length now.steps) rest) e)
stop-there sc book begun now lines rest Truncated h e = h
stop-there sc book begun now lines rest NoMemory h e = λ more. tt

-- ---- no line follows

there-with-nothing : (sc : Scenario) (book : BookView) (begun : Transcript) (lines : RemainingLines) → goes_on_there sc book begun lines ≡ goes_on_there sc book begun (with_lines lines [])
there-with-nothing sc book begun lines = sym (ap (λ (ls : RemainingLines). goes_on_there sc book begun ls) (with-nothing lines))

ends-there : (sc : Scenario) (book : BookView) (begun : Transcript) (lines : RemainingLines) (x : StepsSoFar) (ended : Bool) → ArePrefixSteps sc book begun lines (Ok x) → x.ended ≡ ended
    → goes_on_there sc book begun lines ≡ prefix_ends_or_continues sc book ended x.begun (with_lines x.rest [])
ends-there sc book begun lines x ended there e =
    there-with-nothing sc book begun lines ∙ there [] ∙ ap (λ (b : Bool). prefix_ends_or_continues sc book b x.begun (with_lines x.rest [])) e

pub all-there : (sc : Scenario) (book : BookView) (begun : Transcript) (lines : RemainingLines) (x : StepsSoFar) → ArePrefixSteps sc book begun lines (Ok x) → IsAtEnd sc book x → goes_on_there sc book begun lines ≡ prefix_on_error x
unfolding prefix_on_error
all-there sc book begun lines x there waits = go x.ended refl
  where
    go : (ended : Bool) → x.ended ≡ ended → goes_on_there sc book begun lines ≡ (if ended then (text_end true x.rest >>= λ u. Ok (transcript_prefix x.begun true)) else Ok (transcript_prefix x.begun false))
    go true e = ends-there sc book begun lines x true there e ∙ ap (λ (ls : RemainingLines). text_end true ls >>= λ u. Ok (transcript_prefix x.begun true)) (with-nothing x.rest)
    go false e =
        ends-there sc book begun lines x false there e ∙ sym (there-with-nothing sc book x.begun x.rest)
        ∙ there-by-step sc book x.begun x.rest ∙ ap (λ r. if_complete (transcript_prefix x.begun false) r (turned_there sc book x.begun)) (waits e)

pub fault-there : (sc : Scenario) (book : BookView) (begun : Transcript) (lines : RemainingLines) (why : TextErr) → ArePrefixSteps sc book begun lines (Err why) → Fails why (goes_on_there sc book begun lines)
fault-there sc book begun lines why there = subst (λ (ls : RemainingLines). Fails why (goes_on_there sc book begun ls)) (with-nothing lines) (there [])

-- ---- a part that is complete, and one that is not

there-gives : {A B : Type 0} (kept : B) (r : Result A TextErr) (f : A → Result B TextErr) (x : A) (result : Result B TextErr) → r ≡ Ok x → Gives (λ p. p) (f x) result → Gives (λ p. p) (if_complete kept r f) result
there-gives kept r f x result e h = subst (λ r. Gives (λ p. p) (if_complete kept r f) result) (sym e) h

kept-gives : {A B : Type 0} (kept : B) (r : Result A TextErr) (f : A → Result B TextErr) (why : TextErr) → Fails why r → Gives (λ p. p) (if_complete kept r f) (kept_on_error kept why)
kept-gives kept r f Version h = ap (λ r. if_complete kept r f) h
kept-gives kept r f (BadLine n) h = ap (λ r. if_complete kept r f) h
kept-gives kept r f Truncated h = ap (λ r. if_complete kept r f) h
kept-gives kept r f NoMemory h = tt

pub start-gives : (sc : Scenario) (book : BookView) (order : Order) (start : Shown) (lines rest : RemainingLines) (begun : Transcript) (result : Result Prefix TextErr) → start_at sc lines ≡ Ok (start, rest)
    → begun ≡ record { order = order; start = start; steps = [] } → Gives (λ (p : Prefix). p) (goes_on_there sc book begun rest) result → Gives (λ (p : Prefix). p) (prefix_start sc book order lines) result
unfolding prefix_start
start-gives sc book order start lines rest begun result e is h =
    there-gives (order_prefix order) (start_at sc lines) _ (start, rest) result e (subst (λ (t : Transcript). Gives (λ (p : Prefix). p) (goes_on_there sc book t rest) result) is h)

pub start-kept : (sc : Scenario) (book : BookView) (order : Order) (lines : RemainingLines) (why : TextErr) (kept : Prefix) (result : Result Prefix TextErr) → Fails why (start_at sc lines)
    → kept ≡ order_prefix order → result ≡ kept_on_error kept why → Gives (λ (p : Prefix). p) (prefix_start sc book order lines) result
unfolding prefix_start
start-kept sc book order lines why kept result h k e =
    subst (Gives (λ (p : Prefix). p) (prefix_start sc book order lines)) (sym (e ∙ ap (λ (p : Prefix). kept_on_error p why) k)) (kept-gives (order_prefix order) (start_at sc lines) _ why h)

pub prefix-gives : (sc : Scenario) (book : BookView) (text : List ℕ) (order : Order) (lines : RemainingLines) (result : Result Prefix TextErr) → version_at (ended_lines text) ≡ Ok (order, lines)
    → Gives (λ (p : Prefix). p) (prefix_start sc book order lines) result → Gives (λ (p : Prefix). p) (prefix_of sc book text) result
unfolding prefix_of
prefix-gives sc book text order lines result e h = there-gives empty_prefix (version_at (ended_lines text)) _ (order, lines) result e h

pub prefix-kept : (sc : Scenario) (book : BookView) (text : List ℕ) (why : TextErr) (kept : Prefix) (result : Result Prefix TextErr) → Fails why (version_at (ended_lines text))
    → kept ≡ empty_prefix → result ≡ kept_on_error kept why → Gives (λ (p : Prefix). p) (prefix_of sc book text) result
unfolding prefix_of
prefix-kept sc book text why kept result h k e =
    subst (Gives (λ (p : Prefix). p) (prefix_of sc book text)) (sym (e ∙ ap (λ (p : Prefix). kept_on_error p why) k)) (kept-gives empty_prefix (version_at (ended_lines text)) _ why h)

-- ---- the complete text, from where its first lines end

-- The beginning, read from the result of its first line and its start.
abbrev Opens : Scenario → BookView → Result (Transcript × RemainingLines) TextErr → Result Prefix TextErr → Type 0
Opens sc book (Ok o) there = there ≡ goes_on_there sc book o.0 o.1
Opens sc book (Err Version) there = there ≡ Err Version
Opens sc book (Err (BadLine n)) there = there ≡ Err (BadLine n)
Opens sc book (Err Truncated) there = Unit {0}
Opens sc book (Err NoMemory) there = Unit {0}

there-opened : (sc : Scenario) (book : BookView) (lines : List (List ℕ)) (r : Result (Transcript × RemainingLines) TextErr) → opened_at sc lines ≡ r → Opens sc book r (begins_there sc book lines)
unfolding begins_there opened_at prefix_start
there-opened sc book lines r e = subst (λ (r : Result (Transcript × RemainingLines) TextErr). Opens sc book r (begins_there sc book lines)) e (go (version_at lines))
  where
    from : (order : Order) (s : Result (Shown × RemainingLines) TextErr)
        → Opens sc book (s >>= λ start. Ok (record { order = order; start = start.0; steps = [] }, start.1)) (if_complete (order_prefix order) s (λ start. goes_on_there sc book (record { order = order; start = start.0; steps = [] }) start.1))
    from order (Ok start) = refl
    from order (Err Version) = refl
    from order (Err (BadLine n)) = refl
    from order (Err Truncated) = tt
    from order (Err NoMemory) = tt

    go : (v : Result (Order × RemainingLines) TextErr)
        → Opens sc book (v >>= λ version. start_at sc version.1 >>= λ start. Ok (record { order = version.0; start = start.0; steps = [] }, start.1)) (if_complete empty_prefix v (λ version. prefix_start sc book version.0 version.1))
    go (Ok version) = from version.0 (start_at sc version.1)
    go (Err Version) = refl
    go (Err (BadLine n)) = refl
    go (Err Truncated) = tt
    go (Err NoMemory) = tt

pub there-from : (sc : Scenario) (book : BookView) (lines : List (List ℕ)) (begun : Transcript) (rest : RemainingLines) (more : List (List ℕ))
    → opened_at sc lines ≡ Ok (begun, rest) → begins_there sc book (lines ++ more) ≡ goes_on_there sc book begun (with_lines rest more)
there-from sc book lines begun rest more e = there-opened sc book (lines ++ more) (Ok (begun, with_lines rest more)) (stays-ok more _ _ begun rest (opened-stays more sc lines) e)

pub version-not-there : (sc : Scenario) (book : BookView) (lines : List (List ℕ)) (more : List (List ℕ)) → opened_at sc (lines ++ more) ≡ Err Version → begins_there sc book (lines ++ more) ≡ Err Version
version-not-there sc book lines more e = there-opened sc book (lines ++ more) (Err Version) e

pub line-not-there : (sc : Scenario) (book : BookView) (lines : List (List ℕ)) (n : ℕ) (more : List (List ℕ)) → opened_at sc (lines ++ more) ≡ Err (BadLine n) → begins_there sc book (lines ++ more) ≡ Err (BadLine n)
line-not-there sc book lines n more e = there-opened sc book (lines ++ more) (Err (BadLine n)) e

pub prefix-begins : (sc : Scenario) (book : BookView) (text : List ℕ) → prefix_of sc book text ≡ begins_there sc book (ended_lines text)
unfolding prefix_of begins_there
prefix-begins sc book text = refl
