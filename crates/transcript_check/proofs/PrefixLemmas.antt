-- Any first bytes of a sound transcript's text are a beginning whose steps are valid.
use Rattle.std.proofs.Common.{◌≡◌, ◌∙◌, ℕ, zero, suc, ◌+◌, Bool, true, false, if◌then◌else◌, List, [], ◌∷◌, ◌++◌, length, take, Option, None, Result, Ok, Err, refl, ap, subst, arith}
use Rattle.std.specs.Prelude.{MatchResult}
use Rattle.pack_defs.specs.declared.scenario.Scenario.{Scenario}
use Rattle.pack_defs.specs.declared.order.Order.{Order}
use Rattle.pack_defs.specs.Book.{BookView}
use Rattle.pack_defs.specs.ClockRule.{ClockTest, clock_tests}
use Rattle.cert_types.specs.declared.answer.Place.{Place}
use Rattle.lrat_text.specs.Lines.{ended_lines}
use Rattle.auction_core.specs.declared.record.Shown.{Shown}
use Rattle.auction_core.specs.declared.prefix.Prefix.{Prefix}
use Rattle.auction_core.specs.declared.prefix.ShownWhy.TheVariants.{Order as WrongTest}
use Rattle.auction_core.specs.declared.transcript.Transcript.{Transcript}
use Rattle.auction_core.specs.declared.transcript.TranscriptStep.{TranscriptStep}
use Rattle.auction_core.specs.State.{CoreState, settled, test_of}
use Rattle.auction_core.specs.Backed.{after_start}
use Rattle.auction_core.specs.NotShown.{NotShown, at_test, fault_at_end, is_test, next_asked, not_kept, not_shown, not_shown_at, start_fault, step_fault, step_fault_or, steps_fault, within_steps}
use Rattle.auction_core.proofs.KeptLemmas.{within-behind}
use Rattle.auction_core.proofs.WalkLemmas.{step_or-parts, absurd-fault}
use Rattle.transcript_text.specs.declared.error.TextErr.{TextErr}
use Rattle.transcript_text.specs.declared.error.TextErr.TheVariants.{Version, BadLine, Truncated, NoMemory}
use Rattle.transcript_text.specs.PrefixReading.{IsPrefixOf, StepsOfPrefix, goes_on_there, if_complete, empty_prefix, order_prefix, prefix_of, prefix_start, prefix_steps, transcript_prefix}
use Rattle.transcript_text.specs.Reading.{start_at, transcript_of, version_at}
use Rattle.pack_defs.specs.Steps.{◌>>=◌}
use Rattle.transcript_text.proofs.PrefixLaws.{prefix-first}

-- ---- the first steps of valid steps

-- A test other than the one that is asked is an error.
pub no-test : (step : ℕ) → not_shown_at step WrongTest ≡ None → ⊥
no-test step e = absurd-fault (record { step = step; why = WrongTest }) e

pub if-none : (b : Bool) (step : ℕ) (o : Option NotShown) → (if b then o else not_shown_at step WrongTest) ≡ None → (b ≡ true) × (o ≡ None)
if-none true step o e = (refl, e)
if-none false step o e = absurd (no-test step e)

-- A step that is missing after these steps is no error within them.
end-behind : (k : ℕ) (ts : List ClockTest) → within_steps k (fault_at_end (k + 1) ts) ≡ None
end-behind k [] = refl
end-behind k (t ∷ ts) = within-behind k WrongTest

and-none : (k : ℕ) → k ≡ k + 0
and-none k = omega arith

-- The same, right after the last of them.
end-there : (k : ℕ) (ts : List ClockTest) → within_steps (k + 0) (fault_at_end (k + 1) ts) ≡ None
end-there k ts = subst (λ m. within_steps m (fault_at_end (k + 1) ts) ≡ None) (and-none k) (end-behind k ts)

shift : (k l : ℕ) → (k + 1) + l ≡ k + suc l
shift k l = omega arith

none-before : (n : ℕ) → 0 + n ≡ n
none-before n = omega arith

-- The first steps of valid steps are valid.
first-steps : (sc : Scenario) (book : BookView) (n k : ℕ) (state : CoreState) (ts : List ClockTest) (xs : List TranscriptStep)
    → steps_fault sc book (k + 1) state ts xs ≡ None
    → within_steps (k + length (take n xs)) (steps_fault sc book (k + 1) state ts (take n xs)) ≡ None
unfolding steps_fault
first-steps sc book zero k state ts xs e = end-there k (next_asked state.clock ts)
first-steps sc book (suc n) k state ts [] e = end-there k (next_asked state.clock ts)
first-steps sc book (suc n) k state ts (x ∷ xs) e =
    go (next_asked state.clock ts) e (λ us f. first-steps sc book n (k + 1) (settled sc state (test_of x.step) x.step.shown) us xs f)
  where
    next : CoreState
    next = settled sc state (test_of x.step) x.step.shown

    first : List TranscriptStep
    first = take n xs

    go : (left : List ClockTest) → at_test sc book (k + 1) state x left (λ rest. steps_fault sc book (k + 1 + 1) next rest xs) ≡ None
        → ((us : List ClockTest) → steps_fault sc book (k + 1 + 1) next us xs ≡ None → within_steps (k + 1 + length first) (steps_fault sc book (k + 1 + 1) next us first) ≡ None)
        → within_steps (k + suc (length first)) (at_test sc book (k + 1) state x left (λ rest. steps_fault sc book (k + 1 + 1) next rest first)) ≡ None
    go [] f more = absurd (no-test (k + 1) f)
    go (t ∷ us) f more =
        let test = if-none (is_test t x) (k + 1) (step_fault_or (k + 1) (step_fault sc book state x) (steps_fault sc book (k + 1 + 1) next us xs)) f in
        let both = step_or-parts (k + 1) (step_fault sc book state x) (steps_fault sc book (k + 1 + 1) next us xs) test.1 in
        let found : Option NotShown = steps_fault sc book (k + 1 + 1) next us first in
        ap (λ (b : Bool). within_steps (k + suc (length first)) (if b then step_fault_or (k + 1) (step_fault sc book state x) found else not_shown_at (k + 1) WrongTest)) test.0
        ∙ (ap (λ (o : Option Place). within_steps (k + suc (length first)) (step_fault_or (k + 1) o found)) both.0
        ∙ subst (λ m. within_steps m found ≡ None) (shift k (length first)) (more us both.1))

-- The same with the start before them.
first-part : (sc : Scenario) (book : BookView) (n : ℕ) (t : Transcript) → not_shown sc book t ≡ None
    → within_steps (length (take n t.steps)) (not_shown sc book (record { order = t.order; start = t.start; steps = take n t.steps })) ≡ None
unfolding not_shown
first-part sc book n t e =
    let first : CoreState = after_start sc t.order t.start in
    let tests : List ClockTest = clock_tests sc t.order in
    let parts = step_or-parts 0 (start_fault sc book t.start) (steps_fault sc book 1 first tests t.steps) e in
    let found : Option NotShown = steps_fault sc book 1 first tests (take n t.steps) in
    ap (λ (o : Option Place). within_steps (length (take n t.steps)) (step_fault_or 0 o found)) parts.0
    ∙ subst (λ m. within_steps m found ≡ None) (none-before (length (take n t.steps))) (first-steps sc book n 0 first tests t.steps parts.1)

-- ---- what is kept

-- Two transcripts are equal if their parts are.
pub same-transcript : (a b : Transcript) → a.order ≡ b.order → a.start ≡ b.start → a.steps ≡ b.steps → a ≡ b
same-transcript a b p q r = λ i. record { order = p i; start = q i; steps = r i }

there-clean : (sc : Scenario) (book : BookView) (t own : Transcript) (ended : Bool) → not_shown sc book t ≡ None → IsPrefixOf (transcript_prefix own ended) t → not_kept sc book (transcript_prefix own ended) ≡ None
unfolding not_kept
there-clean sc book t own true e h =
    ap (not_shown sc book) (same-transcript own t h.order h.start (ap (λ (p : Prefix). p.steps) (h.all refl))) ∙ e
there-clean sc book t own false e h =
    let part : Transcript = record { order = t.order; start = t.start; steps = take (length own.steps) t.steps } in
    ap (λ (x : Transcript). within_steps (length x.steps) (not_shown sc book x)) (same-transcript own part h.order h.start h.steps)
    ∙ first-part sc book (length own.steps) t e

pub nothing-clean : (sc : Scenario) (book : BookView) → not_kept sc book empty_prefix ≡ None
unfolding not_kept
nothing-clean sc book = refl

pub order-clean : (sc : Scenario) (book : BookView) (order : Order) → not_kept sc book (order_prefix order) ≡ None
unfolding not_kept
order-clean sc book order = refl

-- ---- what reading a beginning comes to

-- Whether the result, if there is one, satisfies the predicate.
abbrev pub So : (Prefix → Type 0) → Result Prefix TextErr → Type 0
So P r = MatchResult r P (λ why. Unit {0})

if-so : {A : Type 0} (P : Prefix → Type 0) (kept : Prefix) (r : Result A TextErr) (f : A → Result Prefix TextErr) → P kept → ((x : A) → So P (f x)) → So P (if_complete kept r f)
if-so P kept (Ok x) f h g = g x
if-so P kept (Err Version) f h g = tt
if-so P kept (Err (BadLine n)) f h g = tt
if-so P kept (Err Truncated) f h g = h
if-so P kept (Err NoMemory) f h g = tt

steps-so : (P : Prefix → Type 0) (order : Order) (start : Shown) (r : Result StepsOfPrefix TextErr) → ((t : Transcript) (ended : Bool) → P (transcript_prefix t ended))
    → So P (r >>= λ more. Ok (transcript_prefix (record { order = order; start = start; steps = more.steps }) more.ended))
steps-so P order start (Ok more) h = h (record { order = order; start = start; steps = more.steps }) more.ended
steps-so P order start (Err e) h = tt

-- A prefix is nothing, an order alone, or the first part of a transcript.
pub prefix-cases : (P : Prefix → Type 0) (sc : Scenario) (book : BookView) (text : List ℕ) → P empty_prefix → ((order : Order) → P (order_prefix order)) → ((t : Transcript) (ended : Bool) → P (transcript_prefix t ended))
    → So P (prefix_of sc book text)
unfolding prefix_of prefix_start goes_on_there
prefix-cases P sc book text none ordered there =
    if-so P empty_prefix (version_at (ended_lines text)) _ none
    (λ version. if-so P (order_prefix version.0) (start_at sc version.1) _ (ordered version.0)
    (λ start. steps-so P version.0 start.0 (prefix_steps sc book (length start.1.left) 0 start.1) there))

-- ---- the complete text

both : (sc : Scenario) (book : BookView) (t : Transcript) (r : Result Prefix TextErr) → MatchResult r (λ kept. IsPrefixOf kept t) (λ why. ⊥) → So (λ kept. IsPrefixOf kept t → not_kept sc book kept ≡ None) r
    → MatchResult r (λ kept. not_kept sc book kept ≡ None) (λ why. ⊥)
both sc book t (Ok kept) h clean = clean h
both sc book t (Err e) h clean = h

pub any-beginning : (sc : Scenario) (book : BookView) (before after : List ℕ) (t : Transcript) → transcript_of sc book (before ++ after) ≡ Ok t → not_shown sc book t ≡ None → MatchResult (prefix_of sc book before) (λ kept. not_kept sc book kept ≡ None) (λ why. ⊥)
any-beginning sc book before after t e none =
    both sc book t (prefix_of sc book before) (prefix-first sc book before after t e)
    (prefix-cases (λ kept. IsPrefixOf kept t → not_kept sc book kept ≡ None) sc book before (λ h. nothing-clean sc book) (λ order h. order-clean sc book order) (λ own ended h. there-clean sc book t own ended none h))
