-- The transcript of a backed record of a finished auction is read back as itself.
use Rattle.std.proofs.Common.{◌≡◌, ◌≤◌, ◌∙◌, ◌∷◌, [], ℕ, List, Bool, true, false, ◌||◌, ◌==◌, if◌then◌else◌, Option, Some, None, MatchOption, Ok, find, option_map, inl, inr, refl, sym, subst, arith, get_or}
use Rattle.std.specs.List.{All, AllByRecursion}
use Rattle.std.proofs.lemmas.List.{get_or_default}
use Rattle.std.proofs.lemmas.List.Elements.{All-tail}
use Rattle.pack_defs.specs.Book.{BookView, domain_of}
use Rattle.pack_defs.specs.Lists.{is_empty, is_in}
use Rattle.pack_defs.specs.ClockRule.{ClockState, asked_set, is_on_air, opening_state}
use Rattle.pack_defs.specs.Prices.{declines, start_set}
use Rattle.pack_defs.specs.Scenario.{IsWithinLimits, facilities}
use Rattle.pack_defs.specs.declared.scenario.Scenario.{Scenario}
use Rattle.pack_defs.proofs.Falls.{rounds-within}
use Rattle.pack_defs.proofs.Members.{is_in-from}
use Rattle.pack_defs.proofs.Words.{ascending-from}
use Rattle.pack_defs.proofs.Chains.{ascending-filter}
use Rattle.auction_core.specs.declared.record.Ending.TheVariants.{Done}
use Rattle.auction_core.specs.declared.record.Record.{Record}
use Rattle.auction_core.specs.declared.record.Shown.{Shown}
use Rattle.auction_core.specs.declared.record.Shown.TheVariants.{Empty, Fits, Same, NoChannel, Refuted, Outside, Undecided}
use Rattle.auction_core.specs.declared.record.Step.{Step}
use Rattle.auction_core.specs.Backed.{AreShown, IsBacked, IsSettledBy, IsStartShown, IsStepShown, after_start, ending_of}
use Rattle.auction_core.specs.Rule.{IsAuction}
use Rattle.auction_core.specs.State.{CoreState, settled, settled_unasked, start_task, test_of, test_task, tested_set}
use Rattle.auction_core.proofs.Answers.{filter-in}
use Rattle.auction_core.proofs.Merged.{in-component}
use Rattle.auction_core.proofs.Sets.{tested-rises, unasked-cases}
use Rattle.result_text.proofs.ReplayLemmas.{auction-of}
use Rattle.result_text.proofs.StepLemmas.{backed-next, carried-through}
use Rattle.transcript_text.specs.Fields.{greatest_u32}
use Rattle.transcript_text.specs.RoundTrip.{IsFitAscending, IsHeld, IsNamed}
use Rattle.transcript_text.specs.Reading.{transcript_of}
use Rattle.transcript_text.specs.Spelled.{IsShownSpelled, IsSpelled, IsStartSpelled, IsStepSpelled}
use Rattle.auction_core.specs.LogNumbers.{clauses_in, firsts_of}
use Rattle.transcript_text.specs.Spelling.{transcript_for, transcript_steps, transcript_text}
use Rattle.transcript_text.proofs.RecordSpelled.{IsKnown, fit-spelled, settled-spelled, station-of}
use Rattle.transcript_text.proofs.TextReads.{transcript-again}
use Rattle.transcript_text.proofs.Writes.{head-of, steps-count}

test-known : (sc : Scenario) (book : BookView) (clock : ClockState) (s : ℕ) → IsAuction sc book → IsKnown sc (tested_set sc book clock s)
test-known sc book clock s a = record {
  rises = tested-rises sc book clock s a;
  known = λ z m. (filter-in (λ f. is_on_air clock f || (f == s)) (facilities sc) z (in-component book (asked_set sc clock s) s z m)).0;
}

start-set-known : (sc : Scenario) (book : BookView) → IsAuction sc book → IsKnown sc (start_set sc)
start-set-known sc book a = record {
  rises = ascending-filter (λ s. declines sc s 0) (facilities sc) (ascending-from (facilities sc) a.stations);
  known = λ z m. (filter-in (λ s. declines sc s 0) (facilities sc) z m).0;
}

-- ---- steps

shown-spelled : (sc : Scenario) (book : BookView) (state : CoreState) (x : Step) → IsWithinLimits sc → IsNamed sc book → IsAuction sc book → IsFitAscending x.shown → IsStepShown sc book state x
    → IsShownSpelled sc book x.station x.shown (firsts_of (clauses_in book (tested_set sc book state.clock x.station)) x.shown)
shown-spelled sc book state x l n a ascends h = go (settled_unasked sc book state (test_of x)) refl h
  where
    clauses : ℕ
    clauses = clauses_in book (tested_set sc book state.clock x.station)

    go : (o : Option Shown) → settled_unasked sc book state (test_of x) ≡ o → MatchOption o (IsSettledBy sc book (test_task sc book state (test_of x)) x.shown) (λ unasked. x.shown ≡ unasked) → IsShownSpelled sc book x.station x.shown (firsts_of clauses x.shown)
    go None e k = settled-spelled sc book (test_task sc book state (test_of x)) x.station x.shown l n (test-known sc book state.clock x.station a) ascends k
    go (Some unasked) e k = elim (unasked-cases sc book state (test_of x) unasked e) [
      | inl bare ↦ subst (λ (s : Shown). IsShownSpelled sc book x.station s (firsts_of clauses s)) (sym (k ∙ bare.1)) (refl, refl)
      | inr like ↦ subst (λ (s : Shown). IsShownSpelled sc book x.station s (firsts_of clauses s)) (sym (k ∙ like.1)) refl
    ]

-- Whether a step's test is of a station of the scenario, in a round that a line can name.
abbrev IsOfTest : Scenario → Step → Type 0
IsOfTest sc x = (is_in (facilities sc) x.station ≡ true) × (x.round ≤ greatest_u32)

steps-spelled : (sc : Scenario) (book : BookView) (state : CoreState) (xs : List Step) → IsWithinLimits sc → IsNamed sc book → IsAuction sc book → AllByRecursion (λ x. IsFitAscending x.shown) xs → AllByRecursion (IsOfTest sc) xs → AreShown sc book state xs
    → AllByRecursion (IsStepSpelled sc book) (transcript_steps sc book state.clock xs)
steps-spelled sc book state [] l n a ascends tests h = tt
steps-spelled sc book state (x ∷ xs) l n a ascends tests h = (
  record { round = tests.0.1; station = station-of sc book x.station n tests.0.0; shown = shown-spelled sc book state x l n a ascends.0 h.0 },
  steps-spelled sc book (settled sc state (test_of x) x.shown) xs l n a ascends.1 tests.1 h.1,
)

by-recursion : {X : Type 0} (P : X → Type 0) (xs : List X) → All P xs → AllByRecursion P xs
by-recursion P [] h = tt
by-recursion P (x ∷ xs) h = (head-of P x xs h, by-recursion P xs (All-tail P x xs h))

tests-named : (sc : Scenario) (book : BookView) (rec : Record) → IsWithinLimits sc → IsAuction sc book → IsBacked sc book rec.order rec → rec.ending ≡ Done → AllByRecursion (IsOfTest sc) rec.steps
tests-named sc book rec l a backed done =
    by-recursion (IsOfTest sc) rec.steps (λ k d below.
    let x = get_or rec.steps k d in
    let next = backed-next sc book rec rec.steps k x a backed done refl below (get_or_default rec.steps k d x below) in
    let rounds = rounds-within sc l in
    (is_in-from (facilities sc) x.station next.station, omega (arith, next.round, rounds)))

-- ---- the start

start-spelled : (sc : Scenario) (book : BookView) (start : Shown) → IsWithinLimits sc → IsNamed sc book → IsAuction sc book → IsFitAscending start → IsStartShown sc book start → ending_of start ≡ Done → IsStartSpelled sc start
start-spelled sc book Empty l n a ascends h done = tt
start-spelled sc book (Fits delta) l n a ascends h done = go (is_empty (start_set sc)) (find (λ s. is_empty (domain_of book s)) (start_set sc)) h
  where
    go : (b : Bool) (o : Option ℕ) → MatchOption (if b then Some Empty else option_map NoChannel o) (IsSettledBy sc book (start_task sc 1) (Fits delta)) (λ unasked. Fits delta ≡ unasked) → IsStartSpelled sc (Fits delta)
    go true o k = absurd cc
    go false None k = fit-spelled sc book (start_set sc) [] delta l n (start-set-known sc book a) k ascends
    go false (Some s) k = absurd cc
start-spelled sc book Same l n a ascends h done = go (is_empty (start_set sc)) (find (λ s. is_empty (domain_of book s)) (start_set sc)) h
  where
    go : (b : Bool) (o : Option ℕ) → MatchOption (if b then Some Empty else option_map NoChannel o) (IsSettledBy sc book (start_task sc 1) Same) (λ unasked. Same ≡ unasked) → IsStartSpelled sc Same
    go true o k = absurd cc
    go false None k = k
    go false (Some s) k = absurd cc
start-spelled sc book (NoChannel s) l n a ascends h done = absurd cc
start-spelled sc book (Refuted w how) l n a ascends h done = absurd cc
start-spelled sc book (Outside proof) l n a ascends h done = absurd cc
start-spelled sc book (Undecided receipts) l n a ascends h done = absurd cc

-- ---- the complete transcript

record-spelled : (sc : Scenario) (book : BookView) (rec : Record) → IsBacked sc book rec.order rec → rec.ending ≡ Done → IsWithinLimits sc → IsNamed sc book → IsHeld rec → IsSpelled sc book (transcript_for sc book rec)
unfolding transcript_for
record-spelled sc book rec backed done l n held =
    let a = auction-of sc book l n.in_order in
    let carried = carried-through sc book rec backed done in
    let count = steps-count sc book (opening_state sc) rec.steps in
    record {
      start = start-spelled sc book rec.start l n a held.start backed.start (sym backed.ending ∙ done);
      steps = steps-spelled sc book (after_start sc rec.order rec.start) rec.steps l n a (by-recursion (λ x. IsFitAscending x.shown) rec.steps held.steps) (tests-named sc book rec l a backed done) carried.shown;
      count = omega (arith, count, held.count);
      workers = omega (arith, l.workers);
    }

-- The transcript of a backed record is read back as itself.
pub record-again : (sc : Scenario) (book : BookView) (rec : Record) → IsBacked sc book rec.order rec → rec.ending ≡ Done → IsWithinLimits sc → IsNamed sc book → IsHeld rec → transcript_of sc book (transcript_text sc book rec) ≡ Ok (transcript_for sc book rec)
record-again sc book rec backed done l n held = transcript-again sc book (transcript_for sc book rec) (record-spelled sc book rec backed done l n held)
