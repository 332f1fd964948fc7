-- Writing the steps of a backed record in order.
use Rattle.std.proofs.Common.{◌≡◌, ◌∙◌, ◌≤◌, ◌<◌, ◌+◌, ℕ, zero, suc, List, [], ◌∷◌, ◌++◌, Option, Some, None, MatchOption, inl, inr, refl, sym, ap, subst, arith, append_assoc, append-nil, drop, take, get_or, length}
use Rattle.std.specs.Prelude.{slice_get}
use Rattle.std.specs.List.{All, flat_map}
use Rattle.std.proofs.lemmas.Bool.{and_parts}
use Rattle.std.proofs.lemmas.List.{drop_all, drop_more}
use Rattle.std.proofs.lemmas.List.Elements.{All-cons, All-tail}
use Rattle.pack_defs.specs.Book.{BookView}
use Rattle.pack_defs.specs.ClockRule.{ClockState, after_answer, opening_state}
use Rattle.pack_defs.specs.Scenario.{IsWithinLimits, IsWorkerWithinLimits, most_budget}
use Rattle.pack_defs.specs.declared.scenario.Scenario.{Scenario}
use Rattle.pack_defs.specs.declared.worker.Kind.{Kind}
use Rattle.pack_defs.specs.declared.worker.Kind.TheVariants.{Cdcl, Walk}
use Rattle.pack_defs.specs.declared.worker.Worker.{Worker}
use Rattle.cert_types.specs.declared.answer.Receipt.{Receipt}
use Rattle.cert_types.specs.declared.answer.Receipt.TheVariants.{Lines, Moves}
use Rattle.cert_types.specs.declared.answer.Refutation.{Refutation}
use Rattle.cert_types.specs.declared.answer.Refutation.TheVariants.{Proof, Dead}
use Rattle.cert_types.specs.declared.outside.OutsideProof.{OutsideProof}
use Rattle.cert_types.specs.declared.task.Task.{Task}
use Rattle.cert_types.specs.Outside.{IsOutsideProof}
use Rattle.auction_core.specs.declared.record.Shown.{Shown}
use Rattle.auction_core.specs.declared.record.Shown.TheVariants.{Empty, Fits, Same, NoChannel, Refuted, Outside, Undecided}
use Rattle.auction_core.specs.declared.record.Record.{Record}
use Rattle.auction_core.specs.declared.record.Step.{Step}
use Rattle.auction_core.specs.Backed.{AreReceipts, AreShown, IsRefutedBy, IsSettledBy, IsSpentBy, IsStepShown, after_steps}
use Rattle.auction_core.specs.State.{CoreState, settled, settled_unasked, shows_room, test_of, test_task}
use Rattle.auction_core.proofs.Sets.{unasked-cases}
use Rattle.transcript_text.specs.Fields.{most_counted}
use Rattle.transcript_text.specs.Spelling.{end_text, spelling, start_text, step_text, transcript_for, transcript_step, transcript_steps, transcript_text, version_text}
use Rattle.transcript_text.specs.Writable.{IsShownWritable, IsWritable, lines_in}

-- ---- every step of a backed record can be written

pub head-of : {X : Type 0} (P : X → Type 0) (x : X) (xs : List X) → All P (x ∷ xs) → P x
head-of P x xs h = h 0 x (omega arith)

kind-most : (kind : Kind) → most_budget kind ≤ most_counted
kind-most Cdcl = omega arith
kind-most Walk = omega arith

pub budget-most : (w : Worker) → IsWorkerWithinLimits w → w.budget ≤ most_counted
budget-most w h = let most = kind-most w.kind in omega (arith, most, h.budget)

-- A worker of the scenario is within the limits.
pub of-worker : (ws : List Worker) (w : ℕ) (P : Worker → Type 0) → All IsWorkerWithinLimits ws → MatchOption (slice_get ws w) ⊥ P → (worker : Worker) × (worker.budget ≤ most_counted) × P worker
of-worker [] w P l h = absurd h
of-worker (x ∷ xs) zero P l h = (x, budget-most x (head-of IsWorkerWithinLimits x xs l), h)
of-worker (x ∷ xs) (suc w) P l h = of-worker xs w P (All-tail IsWorkerWithinLimits x xs l) h

refutation-writable : (book : BookView) (task : Task) (worker : Worker) (how : Refutation) → worker.budget ≤ most_counted → IsRefutedBy book task worker how → IsWritable how
refutation-writable book task worker (Proof subset log) most p =
    ((and_parts _ _ p.of_subset).0, omega (arith, p.within_budget, most))
refutation-writable book task worker (Dead p) most dead = tt

receipt-counted : (book : BookView) (task : Task) (worker : Worker) (x : Receipt) → worker.budget ≤ most_counted → IsSpentBy book task worker x → lines_in x ≤ most_counted
receipt-counted book task worker (Lines log) most p = omega (arith, p.whole_budget, most)
receipt-counted book task worker (Moves moves) most p = omega arith

receipts-counted : (book : BookView) (task : Task) (ws : List Worker) (xs : List Receipt) → All IsWorkerWithinLimits ws → AreReceipts book task ws xs → All (λ x. lines_in x ≤ most_counted) xs
receipts-counted book task [] [] l h = λ k d below. omega (arith, below)
receipts-counted book task [] (x ∷ xs) l h = absurd h
receipts-counted book task (w ∷ ws) [] l h = absurd h
receipts-counted book task (w ∷ ws) (x ∷ xs) l h =
    All-cons (λ x. lines_in x ≤ most_counted) x xs
    (receipt-counted book task w x (budget-most w (head-of IsWorkerWithinLimits w ws l)) h.0)
    (receipts-counted book task ws xs (All-tail IsWorkerWithinLimits w ws l) h.1)

outside-counted : (book : BookView) (set : List ℕ) (proof : OutsideProof) (o : Option ℕ) → MatchOption o ⊥ (λ station. IsOutsideProof book set proof) → length proof.log.lines ≤ most_counted
outside-counted book set proof None h = absurd h
outside-counted book set proof (Some s) h = h.within

settled-writable : (sc : Scenario) (book : BookView) (task : Task) (shown : Shown) → IsWithinLimits sc → IsSettledBy sc book task shown → IsShownWritable shown
settled-writable sc book task Empty l h = tt
settled-writable sc book task (Fits delta) l h = tt
settled-writable sc book task Same l h = tt
settled-writable sc book task (NoChannel s) l h = tt
settled-writable sc book task (Refuted w how) l h =
    let worker = of-worker sc.workers w (λ worker. IsRefutedBy book task worker how) l.each_worker h in
    refutation-writable book task worker.0 how worker.1 worker.2
settled-writable sc book task (Outside proof) l h = outside-counted book task.set proof task.station h
settled-writable sc book task (Undecided receipts) l h = receipts-counted book task sc.workers receipts l.each_worker h

unasked-writable : (sc : Scenario) (book : BookView) (state : CoreState) (x : Step) (unasked : Shown) → settled_unasked sc book state (test_of x) ≡ Some unasked → x.shown ≡ unasked → IsShownWritable x.shown
unasked-writable sc book state x unasked e same =
    elim (unasked-cases sc book state (test_of x) unasked e) [
      | inl bare ↦ subst IsShownWritable (sym (same ∙ bare.1)) tt
      | inr like ↦ subst IsShownWritable (sym (same ∙ like.1)) tt
    ]

step-writable : (sc : Scenario) (book : BookView) (state : CoreState) (x : Step) → IsWithinLimits sc → IsStepShown sc book state x → IsShownWritable x.shown
step-writable sc book state x l h = go (settled_unasked sc book state (test_of x)) refl h
  where
    go : (o : Option Shown) → settled_unasked sc book state (test_of x) ≡ o → MatchOption o (IsSettledBy sc book (test_task sc book state (test_of x)) x.shown) (λ unasked. x.shown ≡ unasked) → IsShownWritable x.shown
    go None e k = settled-writable sc book (test_task sc book state (test_of x)) x.shown l k
    go (Some unasked) e k = unasked-writable sc book state x unasked e k

-- Each step is settled correctly in the state that the steps before it leave.
pub shown-at : (sc : Scenario) (book : BookView) (state : CoreState) (xs : List Step) (k : ℕ) (d : Step) → AreShown sc book state xs → k < length xs → IsStepShown sc book (after_steps sc state (take k xs)) (get_or xs k d)
shown-at sc book state [] k d h below = absurd (omega arith)
shown-at sc book state (x ∷ xs) zero d h below = h.0
shown-at sc book state (x ∷ xs) (suc k) d h below = shown-at sc book (settled sc state (test_of x) x.shown) xs k d h.1 (omega arith)

pub writable-at : (sc : Scenario) (book : BookView) (state : CoreState) (xs ys : List Step) (k : ℕ) (x : Step) → IsWithinLimits sc → AreShown sc book state xs → ys ≡ xs → k < length ys → x ≡ get_or ys k x → IsShownWritable x.shown
writable-at sc book state xs ys k x l h same below is =
    let within : k < length xs = subst (λ zs. k < length zs) same below in
    let at : x ≡ get_or xs k x = is ∙ ap (λ zs. get_or zs k x) same in
    subst (λ (z : Step). IsShownWritable z.shown) (sym at) (step-writable sc book (after_steps sc state (take k xs)) (get_or xs k x) l (shown-at sc book state xs k x h within))

-- ---- the text so far

-- The text of these steps, from this state of the clock on.
abbrev pub steps_text : Scenario → BookView → ClockState → List Step → List ℕ
steps_text sc book clock xs = flat_map (step_text book) (transcript_steps sc book clock xs)

-- The text with another step appended.
pub steps-more : (sc : Scenario) (book : BookView) (text : List ℕ) (clock next : ClockState) (k : ℕ) (x : Step) (xs : List Step) (total : List ℕ) → k < length xs → x ≡ get_or xs k x → next ≡ after_answer sc clock (test_of x) (shows_room x.shown)
    → text ++ steps_text sc book clock (drop k xs) ≡ total → (text ++ step_text book (transcript_step sc book clock x)) ++ steps_text sc book next (drop (k + 1) xs) ≡ total
steps-more sc book text clock next k x xs total below is moved so =
    append_assoc text (step_text book (transcript_step sc book clock x)) (steps_text sc book next (drop (k + 1) xs))
    ∙ ap (λ c. text ++ (step_text book (transcript_step sc book clock x) ++ steps_text sc book c (drop (k + 1) xs))) moved
    ∙ ap (λ ys. text ++ steps_text sc book clock ys) (sym (drop_more xs k x below ∙ ap (λ y. y ∷ drop (k + 1) xs) (sym is)))
    ∙ so

pub steps-all : (sc : Scenario) (book : BookView) (text : List ℕ) (clock : ClockState) (k : ℕ) (xs : List Step) (total : List ℕ) → length xs ≤ k → text ++ steps_text sc book clock (drop k xs) ≡ total → text ≡ total
steps-all sc book text clock k xs total past so =
    sym (append-nil text) ∙ sym (ap (λ ys. text ++ steps_text sc book clock ys) (drop_all k xs past)) ∙ so

pub steps-count : (sc : Scenario) (book : BookView) (clock : ClockState) (xs : List Step) → length (transcript_steps sc book clock xs) ≡ length xs
steps-count sc book clock [] = refl
steps-count sc book clock (x ∷ xs) = ap suc (steps-count sc book (after_answer sc clock (test_of x) (shows_room x.shown)) xs)

-- A transcript's text, taken into its parts.
pub whole-text : (sc : Scenario) (book : BookView) (rec : Record) (k : ℕ) → k ≡ length rec.steps
    → ((version_text rec.order ++ start_text rec.start) ++ steps_text sc book (opening_state sc) rec.steps) ++ end_text k ≡ transcript_text sc book rec
unfolding spelling transcript_for
whole-text sc book rec k e =
    let count : length (transcript_steps sc book (opening_state sc) rec.steps) ≡ k = steps-count sc book (opening_state sc) rec.steps ∙ sym e in
    ap (λ t. t ++ end_text k) (append_assoc (version_text rec.order) (start_text rec.start) (steps_text sc book (opening_state sc) rec.steps))
    ∙ append_assoc (version_text rec.order) (start_text rec.start ++ steps_text sc book (opening_state sc) rec.steps) (end_text k)
    ∙ ap (λ t. version_text rec.order ++ t) (append_assoc (start_text rec.start) (steps_text sc book (opening_state sc) rec.steps) (end_text k))
    ∙ ap (λ n. version_text rec.order ++ (start_text rec.start ++ (steps_text sc book (opening_state sc) rec.steps ++ end_text n))) (sym count)
