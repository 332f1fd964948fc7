-- An undecided step that is replaced by a proof from outside.
use Rattle.std.proofs.Common.{◌≡◌, ℕ, zero, suc, ◌-◌, Bool, true, false, ◌==◌, if◌then◌else◌, List, [], ◌∷◌, ◌++◌, map, take, get_or, set, Option, Some, None, option_map, MatchOption, refl, sym, ap, subst, ◌∙◌, arith, eq-eqb}
use Rattle.std.specs.Prelude.{⊤, slice_get}
use Rattle.std.specs.List.{cons_option}
use Rattle.std.proofs.lemmas.Bool.{and_from, both_ways, false_from_ne_true, or_parts}
use Rattle.pack_defs.specs.declared.scenario.Scenario.{Scenario}
use Rattle.pack_defs.specs.Book.{BookView}
use Rattle.pack_defs.specs.ClockRule.{ClockTest, is_listed}
use Rattle.pack_defs.proofs.TestOrder.{TestsApart}
use Rattle.cert_types.specs.Outside.{IsOutsideProof}
use Rattle.cert_types.specs.declared.outside.OutsideProof.{OutsideProof}
use Rattle.auction_core.specs.declared.record.Shown.{Shown}
use Rattle.auction_core.specs.declared.record.Shown.TheVariants.{Empty, Fits, Same, NoChannel, Refuted, Outside, Undecided}
use Rattle.auction_core.specs.declared.record.Step.{Step}
use Rattle.auction_core.specs.State.{CoreState, settled, test_of, test_task, tested_set}
use Rattle.auction_core.specs.Backed.{after_steps, is_undecided, undecided_of}
use Rattle.auction_core.proofs.Steps.{listed-undecided, same-back}
use Rattle.undecided_tests.specs.Queries.{step_numbered}
use Rattle.undecided_tests.specs.Settled.{is_same_test, shown_outside, without_test}
use Rattle.undecided_tests.proofs.AlikeLemmas.{HaveMoved, alike-push, alike-same, same-moves}

-- ---- which step

-- Whether the step at this place (from 0) is undecided.
abbrev pub IsOpenAt : List Step → ℕ → Type 0
IsOpenAt [] i = ⊥
IsOpenAt (x ∷ xs) zero = is_undecided x.shown ≡ true
IsOpenAt (x ∷ xs) (suc i) = IsOpenAt xs i

-- Whether the proof refutes what that step's test asks about, from this state on.
abbrev pub RefutesAt : Scenario → BookView → CoreState → List Step → ℕ → OutsideProof → Type 0
RefutesAt sc book state [] i proof = ⊥
RefutesAt sc book state (x ∷ xs) zero proof = IsOutsideProof book (tested_set sc book state.clock x.station) proof
RefutesAt sc book state (x ∷ xs) (suc i) proof = RefutesAt sc book (settled sc state (test_of x) x.shown) xs i proof

one-less : (i : ℕ) → suc i - 1 ≡ i
one-less i = omega arith

open-get : (xs : List Step) (i : ℕ) → MatchOption (slice_get xs i) ⊥ (λ x. is_undecided x.shown ≡ true) → IsOpenAt xs i
open-get [] i h = h
open-get (x ∷ xs) zero h = h
open-get (x ∷ xs) (suc i) h = open-get xs i h

pub open-at : (xs : List Step) (step : ℕ) → MatchOption (step_numbered xs step) ⊥ (λ x. is_undecided x.shown ≡ true) → IsOpenAt xs (step - 1)
open-at xs zero h = absurd h
open-at xs (suc i) h = subst (IsOpenAt xs) (sym (one-less i)) (open-get xs i h)

refutes-get : (sc : Scenario) (book : BookView) (state q : CoreState) (xs : List Step) (i : ℕ) (proof : OutsideProof) → q.clock ≡ (after_steps sc state (take i xs)).clock
    → MatchOption (option_map (λ x. test_task sc book q (test_of x)) (slice_get xs i)) ⊥ (λ task. IsOutsideProof book task.set proof) → RefutesAt sc book state xs i proof
refutes-get sc book state q [] i proof e h = h
refutes-get sc book state q (x ∷ xs) zero proof e h = subst (λ clock. IsOutsideProof book (tested_set sc book clock x.station) proof) e h
refutes-get sc book state q (x ∷ xs) (suc i) proof e h = refutes-get sc book (settled sc state (test_of x) x.shown) q xs i proof e h

pub refutes-at : (sc : Scenario) (book : BookView) (state q : CoreState) (xs : List Step) (step : ℕ) (proof : OutsideProof) → q.clock ≡ (after_steps sc state (take (step - 1) xs)).clock
    → MatchOption (option_map (λ x. test_task sc book q (test_of x)) (step_numbered xs step)) ⊥ (λ task. IsOutsideProof book task.set proof) → RefutesAt sc book state xs (step - 1) proof
refutes-at sc book state q xs zero proof e h = absurd h
refutes-at sc book state q xs (suc i) proof e h =
    let same = one-less i in
    subst (λ (j : ℕ). RefutesAt sc book state xs j proof) (sym same)
    (refutes-get sc book state q xs i proof (e ∙ ap (λ (j : ℕ). (after_steps sc state (take j xs)).clock) same) h)

pub some-step : (xs : List Step) (i : ℕ) → IsOpenAt xs i → xs ≡ [] → ⊥
some-step [] i h e = h
some-step (x ∷ xs) i h e = cc

-- ---- the state after it

moved-here : (sc : Scenario) (state : CoreState) (r s : ℕ) (shown : Shown) (xs : List Step) (proof : OutsideProof) → is_undecided shown ≡ true
    → HaveMoved (after_steps sc (settled sc state (record { round = r; station = s }) shown) xs) (after_steps sc (settled sc state (record { round = r; station = s }) (Outside proof)) xs)
moved-here sc state r s Empty xs proof e = absurd cc
moved-here sc state r s (Fits delta) xs proof e = absurd cc
moved-here sc state r s Same xs proof e = absurd cc
moved-here sc state r s (NoChannel f) xs proof e = absurd cc
moved-here sc state r s (Refuted w how) xs proof e = absurd cc
moved-here sc state r s (Outside other) xs proof e = absurd cc
moved-here sc state r s (Undecided receipts) xs proof e =
    let x : Step = record { round = r; station = s; shown = Undecided receipts } in
    let y : Step = record { round = r; station = s; shown = Outside proof } in
    same-moves sc (settled sc state (test_of x) x.shown) (state.steps ++ y ∷ []) xs (alike-push state.steps state.steps x y (alike-same state.steps) (refl, refl, refl, tt))

-- The clock and the map stay.
pub moved-outside : (sc : Scenario) (state : CoreState) (xs : List Step) (i : ℕ) (proof : OutsideProof) → IsOpenAt xs i → HaveMoved (after_steps sc state xs) (after_steps sc state (shown_outside xs i proof))
moved-outside sc state [] i proof h = absurd h
moved-outside sc state (x ∷ xs) zero proof h = moved-here sc state x.round x.station x.shown xs proof h
moved-outside sc state (x ∷ xs) (suc i) proof h = moved-outside sc (settled sc state (test_of x) x.shown) xs i proof h

-- The list with the step replaced is the list in which it was set.
set-outside : (xs : List Step) (i : ℕ) (x : Step) (proof : OutsideProof) → IsOpenAt xs i → x ≡ get_or xs i x → set xs i (record { round = x.round; station = x.station; shown = Outside proof }) ≡ shown_outside xs i proof
set-outside [] i x proof h e = absurd h
set-outside (y ∷ ys) zero x proof h e = ap (λ (z : Step). record z { shown = Outside proof } ∷ ys) e
set-outside (y ∷ ys) (suc i) x proof h e = ap (λ (zs : List Step). y ∷ zs) (set-outside ys i x proof h e)

pub set-is : (items steps new : List Step) (i : ℕ) (x : Step) (proof : OutsideProof) → IsOpenAt steps i → items ≡ steps → x ≡ get_or items i x → new ≡ set items i (record { round = x.round; station = x.station; shown = Outside proof }) → new ≡ shown_outside steps i proof
set-is items steps new i x proof h same is e =
    e ∙ set-outside items i x proof (subst (λ (ys : List Step). IsOpenAt ys i) (sym same) h) is ∙ ap (λ (ys : List Step). shown_outside ys i proof) same

-- ---- which tests stay undecided

itself : (t : ClockTest) → is_same_test t t ≡ true
itself t = and_from (t.round == t.round) (t.station == t.station) (eq-eqb t.round t.round refl) (eq-eqb t.station t.station refl)

not-back : (t u : ClockTest) → is_same_test t u ≡ false → is_same_test u t ≡ false
not-back t u e = false_from_ne_true (is_same_test u t) (λ yes. both_ways (is_same_test t u) e (same-back t u yes))

without-first : (t u : ClockTest) (us : List ClockTest) → is_same_test t u ≡ true → without_test t (u ∷ us) ≡ without_test t us
without-first t u us e = rw e refl

without-later : (t u : ClockTest) (us : List ClockTest) → is_same_test t u ≡ false → without_test t (u ∷ us) ≡ u ∷ without_test t us
without-later t u us e = rw e refl

-- A test that is not in a list removes nothing from it.
without-none : (t : ClockTest) (us : List ClockTest) → is_listed us t ≡ false → without_test t us ≡ us
without-none t [] e = refl
without-none t (u ∷ us) e =
    let parts = or_parts (is_same_test t u) (is_listed us t) e in
    without-later t u us parts.0 ∙ ap (λ (vs : List ClockTest). u ∷ vs) (without-none t us parts.1)

-- A step of the list has another test than one that is not in it.
not-listed-get : (xs : List Step) (i : ℕ) (y : Step) (t : ClockTest) → slice_get xs i ≡ Some y → is_listed (map test_of xs) t ≡ false → is_same_test t (test_of y) ≡ false
not-listed-get [] i y t is e = absurd cc
not-listed-get (x ∷ xs) zero y t is e =
    let same : x ≡ y = cc in
    subst (λ (z : Step). is_same_test t (test_of z) ≡ false) same (or_parts (is_same_test t (test_of x)) (is_listed (map test_of xs) t) e).0
not-listed-get (x ∷ xs) (suc i) y t is e =
    not-listed-get xs i y t is (or_parts (is_same_test t (test_of x)) (is_listed (map test_of xs) t) e).1

-- The first of the tests is kept if it is another one.
option-later : (b : Bool) (t u : ClockTest) (us vs : List ClockTest) → is_same_test t u ≡ false → vs ≡ without_test t us → cons_option (if b then Some u else None) vs ≡ without_test t (cons_option (if b then Some u else None) us)
option-later true t u us vs e same = ap (λ (ws : List ClockTest). u ∷ ws) same ∙ sym (without-later t u us e)
option-later false t u us vs e same = same

option-first : (b : Bool) (t : ClockTest) (us : List ClockTest) → b ≡ true → us ≡ without_test t (us) → us ≡ without_test t (cons_option (if b then Some t else None) us)
option-first true t us e same = same ∙ sym (without-first t t us (itself t))
option-first false t us e same = absurd cc

pub left-one : (xs : List Step) (i : ℕ) (proof : OutsideProof) → TestsApart (map test_of xs) → IsOpenAt xs i
    → MatchOption (slice_get xs i) ⊤ (λ x. undecided_of (shown_outside xs i proof) ≡ without_test (test_of x) (undecided_of xs))
left-one [] i proof apart h = absurd h
left-one (x ∷ xs) zero proof apart h =
    let none : is_listed (undecided_of xs) (test_of x) ≡ false =
    false_from_ne_true (is_listed (undecided_of xs) (test_of x)) (λ yes. both_ways (is_listed (map test_of xs) (test_of x)) apart.0 (listed-undecided xs (test_of x) yes)) in
    option-first (is_undecided x.shown) (test_of x) (undecided_of xs) h (sym (without-none (test_of x) (undecided_of xs) none))
left-one (x ∷ xs) (suc i) proof apart h = go (slice_get xs i) refl (left-one xs i proof apart.1 h)
  where
    go : (o : Option Step) → slice_get xs i ≡ o → MatchOption o ⊤ (λ y. undecided_of (shown_outside xs i proof) ≡ without_test (test_of y) (undecided_of xs))
        → MatchOption o ⊤ (λ y. undecided_of (x ∷ shown_outside xs i proof) ≡ without_test (test_of y) (undecided_of (x ∷ xs)))
    go None is rest = rest
    go (Some y) is rest =
        option-later (is_undecided x.shown) (test_of y) (test_of x) (undecided_of xs) (undecided_of (shown_outside xs i proof))
        (not-back (test_of x) (test_of y) (not-listed-get xs i y (test_of x) is apart.0)) rest

pub left-at : (xs : List Step) (step : ℕ) (proof : OutsideProof) → TestsApart (map test_of xs) → IsOpenAt xs (step - 1)
    → MatchOption (step_numbered xs step) ⊤ (λ x. undecided_of (shown_outside xs (step - 1) proof) ≡ without_test (test_of x) (undecided_of xs))
left-at xs zero proof apart h = tt
left-at xs (suc i) proof apart h =
    let same = one-less i in
    subst (λ (j : ℕ). MatchOption (slice_get xs i) ⊤ (λ x. undecided_of (shown_outside xs j proof) ≡ without_test (test_of x) (undecided_of xs))) (sym same)
    (left-one xs i proof apart (subst (IsOpenAt xs) same h))
