-- A step without a fault is properly settled with rightly numbered logs, and the converse. For `WalkLemmas` and `step_check`.
use Rattle.std.proofs.Common.{◌≡◌, ℕ, Bool, true, false, ◌&&◌, ◌==◌, if◌then◌else◌, List, [], ◌∷◌, map, length, Option, Some, None, option_map, refl, sym, ap, ap₂, subst, ◌∙◌, suc, arith, MatchOption, eqb-true, eq-eqb, inl, inr}
use Rattle.std.specs.Prelude.{slice_get}
use Rattle.std.specs.Option.{option_map_or}
use Rattle.std.proofs.lemmas.Bool.{and_parts, and_from}
use Rattle.assign_check.specs.Fault.{IsCleanOn}
use Rattle.assign_check.proofs.Faultless.{faultless}
use Rattle.pack_defs.specs.declared.scenario.Scenario.{Scenario}
use Rattle.pack_defs.specs.declared.worker.Worker.{Worker}
use Rattle.pack_defs.specs.Book.{BookView}
use Rattle.pack_defs.specs.ClockRule.{ClockTest}
use Rattle.pack_defs.specs.ChannelMap.{overlaid}
use Rattle.pack_defs.specs.Lists.{is_empty}
use Rattle.cert_types.specs.declared.task.Task.{Task}
use Rattle.cert_types.specs.declared.answer.Answer.TheVariants.{Refuted as Refutes, Spent}
use Rattle.cert_types.specs.declared.answer.Receipt.{Receipt}
use Rattle.cert_types.specs.declared.answer.Refutation.{Refutation}
use Rattle.cert_types.specs.declared.answer.Place.{Place}
use Rattle.cert_types.specs.declared.answer.Place.TheVariants.{Kind, Count, Subset, Station, PairOf, LineAt, MoveAt}
use Rattle.cert_types.specs.Valid.{answer_fault, fit_fault, place_of, IsValid}
use Rattle.cert_types.specs.Outside.{IsOutsideProof, outside_fault}
use Rattle.cert_types.specs.declared.outside.OutsideProof.{OutsideProof}
use Rattle.cert_types.proofs.Outsiders.{outside-means, means-outside}
use Rattle.cert_types.proofs.Validity.{unless-parts, fit-clean}
use Rattle.cert_types.proofs.Meaning.{unless-from}
use Rattle.auction_core.specs.declared.record.Shown.{Shown}
use Rattle.auction_core.specs.declared.record.Shown.TheVariants.{Empty, Fits, Same, NoChannel, Refuted, Outside, Undecided}
use Rattle.auction_core.specs.State.{CoreState, settled_unasked, test_of, test_task}
use Rattle.auction_core.specs.Backed.{AreReceipts, IsRefutedBy, IsSettledBy, IsSpentBy, IsStepShown}
use Rattle.auction_core.proofs.CertifiedBy.{means-receipt, means-refutation, receipt-means, refutation-means}
use Rattle.auction_core.proofs.Sets.{unasked-cases}
use Rattle.auction_core.specs.declared.transcript.TranscriptStep.{TranscriptStep}
use Rattle.auction_core.specs.LogNumbers.{clauses_in, first_number, first_of, firsts_of}
use Rattle.auction_core.specs.NotShown.{or_first_line, receipt_fault, first_place_or, each_fault, refuted_fault, one_log_fault, query_fault, is_channelless, is_same_set, is_shown_unasked, unasked_fault, step_fault}
use Rattle.auction_core.specs.LogNumbers.{IsNumbered}

pub absurd-place : (place : Place) → Some place ≡ None → ⊥
absurd-place place e = cc

pub nil-is : {A : Type 0} (xs : List A) → is_empty xs ≡ true → xs ≡ []
nil-is [] e = refl
nil-is (x ∷ xs) e = absurd cc

pub clean-fit : (book : BookView) (task : Task) (delta : List (ℕ × ℕ)) → IsCleanOn book task.set (overlaid task.last delta) → fit_fault book task delta ≡ None
clean-fit book task delta h = ap (option_map place_of) (faultless book task.set (overlaid task.last delta) h)

-- ---- receipts

fault-parts : (a b : Option Place) → first_place_or a b ≡ None → (a ≡ None) × (b ≡ None)
fault-parts None b e = (refl, e)
fault-parts (Some place) b e = absurd (absurd-place place e)

some-line : (o : Option Place) → or_first_line o ≡ None → ⊥
some-line None e = cc
some-line (Some Kind) e = cc
some-line (Some Count) e = cc
some-line (Some Subset) e = cc
some-line (Some (Station s)) e = cc
some-line (Some (PairOf p)) e = cc
some-line (Some (LineAt n)) e = cc
some-line (Some (MoveAt n)) e = cc

numbered-parts : (b : Bool) (o : Option Place) → (if b then o else or_first_line o) ≡ None → (b ≡ true) × (o ≡ None)
numbered-parts true o e = (refl, e)
numbered-parts false o e = absurd (some-line o e)

receipt-shown : (book : BookView) (task : Task) (w : Worker) (x : Receipt) (n : ℕ) → receipt_fault book task w x n ≡ None → IsSpentBy book task w x × (n ≡ first_of (clauses_in book task.set) x)
receipt-shown book task w x n e =
    let parts = numbered-parts (n == first_of (clauses_in book task.set) x) (answer_fault book task w (Spent x)) e in
    (receipt-means book task w x parts.1, eqb-true n (first_of (clauses_in book task.set) x) parts.0)

receipt-none : (book : BookView) (task : Task) (w : Worker) (x : Receipt) (n : ℕ) → IsSpentBy book task w x → n ≡ first_of (clauses_in book task.set) x → receipt_fault book task w x n ≡ None
receipt-none book task w x n valid first = rw (eq-eqb n (first_of (clauses_in book task.set) x) first) (means-receipt book task w x valid)

less : (m n : ℕ) → suc m ≡ suc n → m ≡ n
less m n e = omega (arith, e)

each-shown : (book : BookView) (task : Task) (ws : List Worker) (xs : List Receipt) (ns : List ℕ) → length xs ≡ length ws → length ns ≡ length ws → each_fault book task ws xs ns ≡ None
    → AreReceipts book task ws xs × (ns ≡ map (first_of (clauses_in book task.set)) xs)
each-shown book task [] [] [] l m e = (tt, refl)
each-shown book task [] [] (n ∷ ns) l m e = absurd (omega (arith, m))
each-shown book task [] (x ∷ xs) ns l m e = absurd (omega (arith, l))
each-shown book task (w ∷ ws) [] ns l m e = absurd (omega (arith, l))
each-shown book task (w ∷ ws) (x ∷ xs) [] l m e = absurd (omega (arith, m))
each-shown book task (w ∷ ws) (x ∷ xs) (n ∷ ns) l m e =
    let parts = fault-parts (receipt_fault book task w x n) (each_fault book task ws xs ns) e in
    let this = receipt-shown book task w x n parts.0 in
    let rest = each-shown book task ws xs ns (less (length xs) (length ws) l) (less (length ns) (length ws) m) parts.1 in
    ((this.0, rest.0), ap₂ (λ (k : ℕ) (ks : List ℕ). k ∷ ks) this.1 rest.1)

each-none : (book : BookView) (task : Task) (ws : List Worker) (xs : List Receipt) → AreReceipts book task ws xs → each_fault book task ws xs (map (first_of (clauses_in book task.set)) xs) ≡ None
each-none book task [] [] h = refl
each-none book task [] (x ∷ xs) h = absurd h
each-none book task (w ∷ ws) [] h = absurd h
each-none book task (w ∷ ws) (x ∷ xs) h =
    rw (receipt-none book task w x (first_of (clauses_in book task.set) x) h.0 refl) (each-none book task ws xs h.1)

receipts-count : (book : BookView) (task : Task) (ws : List Worker) (xs : List Receipt) → AreReceipts book task ws xs
    → (length xs ≡ length ws) × (length (map (first_of (clauses_in book task.set)) xs) ≡ length ws)
receipts-count book task [] [] h = (refl, refl)
receipts-count book task [] (x ∷ xs) h = absurd h
receipts-count book task (w ∷ ws) [] h = absurd h
receipts-count book task (w ∷ ws) (x ∷ xs) h = let rest = receipts-count book task ws xs h.1 in (ap suc rest.0, ap suc rest.1)

-- ---- what settles a query

refuted-shown : (book : BookView) (task : Task) (o : Option Worker) (how : Refutation) → refuted_fault book task o how ≡ None → MatchOption o ⊥ (λ worker. IsRefutedBy book task worker how)
refuted-shown book task None how e = absurd (absurd-place Kind e)
refuted-shown book task (Some worker) how e = refutation-means book task worker how e

refuted-none : (book : BookView) (task : Task) (o : Option Worker) (how : Refutation) → MatchOption o ⊥ (λ worker. IsRefutedBy book task worker how) → refuted_fault book task o how ≡ None
refuted-none book task None how h = absurd h
refuted-none book task (Some worker) how h = means-refutation book task worker how h

outside-shown : (book : BookView) (task : Task) (proof : OutsideProof) (firsts : List ℕ) → one_log_fault book task proof.log.lines firsts ≡ None
    → IsOutsideProof book task.set proof × (firsts ≡ first_number (clauses_in book task.set) proof.log.lines ∷ [])
outside-shown book task proof [] e = absurd (absurd-place Kind e)
outside-shown book task proof (first ∷ []) e =
    let right = first_number (clauses_in book task.set) proof.log.lines in
    let parts = numbered-parts (first == right) (outside_fault book task.set proof.log.lines) e in
    (outside-means book task.set proof parts.1, ap (λ (n : ℕ). n ∷ []) (eqb-true first right parts.0))
outside-shown book task proof (first ∷ second ∷ more) e = absurd (absurd-place Kind e)

outside-none : (book : BookView) (task : Task) (proof : OutsideProof) → IsOutsideProof book task.set proof → one_log_fault book task proof.log.lines (first_number (clauses_in book task.set) proof.log.lines ∷ []) ≡ None
outside-none book task proof h =
    rw (eq-eqb (first_number (clauses_in book task.set) proof.log.lines) (first_number (clauses_in book task.set) proof.log.lines) refl) (means-outside book task.set proof h)

-- a query about a station, as that of each test is
pub query-shown : (sc : Scenario) (book : BookView) (task : Task) (s : ℕ) (shown : Shown) (firsts : List ℕ) → task.station ≡ Some s → query_fault sc book task shown firsts ≡ None
    → IsSettledBy sc book task shown × (firsts ≡ firsts_of (clauses_in book task.set) shown)
query-shown sc book task s Empty firsts a e = absurd (absurd-place Kind e)
query-shown sc book task s (Fits delta) firsts a e =
    let parts = unless-parts (is_empty firsts) Kind (fit_fault book task delta) e in
    (fit-clean book task delta parts.1, nil-is firsts parts.0)
query-shown sc book task s Same firsts a e = absurd (absurd-place Kind e)
query-shown sc book task s (NoChannel f) firsts a e = absurd (absurd-place Kind e)
query-shown sc book task s (Refuted w how) firsts a e =
    let parts = unless-parts (is_empty firsts) Kind (refuted_fault book task (slice_get sc.workers w) how) e in
    (refuted-shown book task (slice_get sc.workers w) how parts.1, nil-is firsts parts.0)
query-shown sc book task s (Outside proof) firsts a e =
    let parts = outside-shown book task proof firsts e in
    (subst (λ (o : Option ℕ). MatchOption o ⊥ (λ station. IsOutsideProof book task.set proof)) (sym a) parts.0, parts.1)
query-shown sc book task s (Undecided xs) firsts a e =
    let parts = unless-parts (length xs == length sc.workers && length firsts == length sc.workers) Kind (each_fault book task sc.workers xs firsts) e in
    let counts = and_parts (length xs == length sc.workers) (length firsts == length sc.workers) parts.0 in
    each-shown book task sc.workers xs firsts (eqb-true (length xs) (length sc.workers) counts.0) (eqb-true (length firsts) (length sc.workers) counts.1) parts.1

pub query-none : (sc : Scenario) (book : BookView) (task : Task) (s : ℕ) (shown : Shown) → task.station ≡ Some s → IsSettledBy sc book task shown
    → query_fault sc book task shown (firsts_of (clauses_in book task.set) shown) ≡ None
query-none sc book task s Empty a h = absurd h
query-none sc book task s (Fits delta) a h = clean-fit book task delta h
query-none sc book task s Same a h = absurd h
query-none sc book task s (NoChannel f) a h = absurd h
query-none sc book task s (Refuted w how) a h = refuted-none book task (slice_get sc.workers w) how h
query-none sc book task s (Outside proof) a h = outside-none book task proof (subst (λ (o : Option ℕ). MatchOption o ⊥ (λ station. IsOutsideProof book task.set proof)) a h)
query-none sc book task s (Undecided xs) a h =
    let counts = receipts-count book task sc.workers xs h in
    rw (eq-eqb (length xs) (length sc.workers) counts.0, eq-eqb (length (map (first_of (clauses_in book task.set)) xs)) (length sc.workers) counts.1) (each-none book task sc.workers xs h)

-- ---- a step

bare-shown : (s : ℕ) (shown : Shown) → is_channelless s shown ≡ true → shown ≡ NoChannel s
bare-shown s Empty e = absurd cc
bare-shown s (Fits delta) e = absurd cc
bare-shown s Same e = absurd cc
bare-shown s (NoChannel t) e = ap NoChannel (eqb-true t s e)
bare-shown s (Refuted w how) e = absurd cc
bare-shown s (Outside proof) e = absurd cc
bare-shown s (Undecided xs) e = absurd cc

like-shown : (shown : Shown) → is_same_set shown ≡ true → shown ≡ Same
like-shown Empty e = absurd cc
like-shown (Fits delta) e = absurd cc
like-shown Same e = refl
like-shown (NoChannel t) e = absurd cc
like-shown (Refuted w how) e = absurd cc
like-shown (Outside proof) e = absurd cc
like-shown (Undecided xs) e = absurd cc

-- what the transcript says of a test settled without a query is what the rule says
pub so-shown : (own shown : Shown) → is_shown_unasked own shown ≡ true → shown ≡ own
so-shown Empty shown e = absurd cc
so-shown (Fits delta) shown e = absurd cc
so-shown Same shown e = like-shown shown e
so-shown (NoChannel s) shown e = bare-shown s shown e
so-shown (Refuted w how) shown e = absurd cc
so-shown (Outside proof) shown e = absurd cc
so-shown (Undecided xs) shown e = absurd cc

-- and the converse
so-itself : (sc : Scenario) (book : BookView) (state : CoreState) (t : ClockTest) (own : Shown) → settled_unasked sc book state t ≡ Some own → is_shown_unasked own own ≡ true
so-itself sc book state t own e = elim (unasked-cases sc book state t own e) as (λ _. is_shown_unasked own own ≡ true) [
  | inl bare ↦ ap₂ is_shown_unasked bare.1 bare.1 ∙ eq-eqb t.station t.station refl
  | inr same ↦ ap₂ is_shown_unasked same.1 same.1
]

-- a test settled without a query has no log
no-logs : (sc : Scenario) (book : BookView) (state : CoreState) (t : ClockTest) (own : Shown) (clauses : ℕ) → settled_unasked sc book state t ≡ Some own → firsts_of clauses own ≡ []
no-logs sc book state t own clauses e = elim (unasked-cases sc book state t own e) as (λ _. firsts_of clauses own ≡ []) [
  | inl bare ↦ ap (firsts_of clauses) bare.1
  | inr same ↦ ap (firsts_of clauses) same.1
]

pub unasked-shown : (x : TranscriptStep) (own : Shown) → unasked_fault x own ≡ None → (x.step.shown ≡ own) × (x.firsts ≡ [])
unasked-shown x own e =
    let parts = unless-parts (is_shown_unasked own x.step.shown && is_empty x.firsts) Kind None e in
    let both = and_parts (is_shown_unasked own x.step.shown) (is_empty x.firsts) parts.0 in
    (so-shown own x.step.shown both.0, nil-is x.firsts both.1)

-- the number of clauses of a step's test
abbrev clauses_at : Scenario → BookView → CoreState → TranscriptStep → ℕ
clauses_at sc book state x = clauses_in book (test_task sc book state (test_of x.step)).set

pub step-shown : (sc : Scenario) (book : BookView) (state : CoreState) (x : TranscriptStep) → step_fault sc book state x ≡ None
    → IsStepShown sc book state x.step × IsNumbered sc book state x
step-shown sc book state x e = go (settled_unasked sc book state (test_of x.step)) refl e
  where
    task : Task
    task = test_task sc book state (test_of x.step)

    go : (o : Option Shown) → settled_unasked sc book state (test_of x.step) ≡ o → option_map_or (unasked_fault x) o (query_fault sc book task x.step.shown x.firsts) ≡ None
        → MatchOption o (IsSettledBy sc book task x.step.shown) (λ own. x.step.shown ≡ own) × (x.firsts ≡ firsts_of (clauses_at sc book state x) x.step.shown)
    go (Some own) is f =
        let parts = unasked-shown x own f in
        (parts.0, parts.1 ∙ sym (ap (firsts_of (clauses_at sc book state x)) parts.0 ∙ no-logs sc book state (test_of x.step) own (clauses_at sc book state x) is))
    go None is f = query-shown sc book task x.step.station x.step.shown x.firsts refl f

pub step-none : (sc : Scenario) (book : BookView) (state : CoreState) (x : TranscriptStep) → IsStepShown sc book state x.step → IsNumbered sc book state x
    → step_fault sc book state x ≡ None
step-none sc book state x h n = go (settled_unasked sc book state (test_of x.step)) refl h
  where
    task : Task
    task = test_task sc book state (test_of x.step)

    go : (o : Option Shown) → settled_unasked sc book state (test_of x.step) ≡ o → MatchOption o (IsSettledBy sc book task x.step.shown) (λ own. x.step.shown ≡ own)
        → option_map_or (unasked_fault x) o (query_fault sc book task x.step.shown x.firsts) ≡ None
    go (Some own) is so =
        let none : x.firsts ≡ [] = n ∙ (ap (firsts_of (clauses_at sc book state x)) so ∙ no-logs sc book state (test_of x.step) own (clauses_at sc book state x) is) in
        unless-from (is_shown_unasked own x.step.shown && is_empty x.firsts) Kind None
        (and_from (is_shown_unasked own x.step.shown) (is_empty x.firsts) (ap (is_shown_unasked own) so ∙ so-itself sc book state (test_of x.step) own is) (ap is_empty none)) refl
    go None is settled = ap (query_fault sc book task x.step.shown) n ∙ query-none sc book task x.step.station x.step.shown refl settled
