-- The rows of a result with one undecided test fewer.
use Rattle.std.proofs.Common.{◌≡◌, ℕ, Bool, true, false, not, ◌==◌, ◌&&◌, if◌then◌else◌, List, [], ◌∷◌, map, find, Option, Some, None, option_map, refl, sym, ap, ap₂, ◌∙◌, eqb-true}
use Rattle.std.specs.List.{cons_option, filter_map}
use Rattle.std.proofs.lemmas.Bool.{and_parts}
use Rattle.std.proofs.lemmas.Map.Views.{any-filter_same}
use Rattle.pack_defs.specs.declared.scenario.Scenario.{Scenario}
use Rattle.pack_defs.specs.Scenario.{facilities}
use Rattle.pack_defs.specs.ClockRule.{ClockState, ClockTest, FrozenAt, OnAirSince, is_listed}
use Rattle.pack_defs.specs.ResultRows.{Exit, Frozen, Outcome, ResultRow, Start, Undecided, frozen_row, on_air_row, result_rows, row_from, row_of}
use Rattle.undecided_tests.specs.Settled.{decided, decided_row, is_same_test, without_test}

-- Two tests that count as the same are equal.
same-is : (t u : ClockTest) → is_same_test t u ≡ true → u ≡ t
same-is t u e =
    let parts = and_parts (u.round == t.round) (u.station == t.station) e in
    ap₂ (λ (r s : ℕ). let v : ClockTest = record { round = r; station = s } in v) (eqb-true u.round t.round parts.0) (eqb-true u.station t.station parts.1)

-- A test is in the list without `t` exactly if it is in the list and is not `t`.
pub listed-without : (t u : ClockTest) (tests : List ClockTest) → is_listed (without_test t tests) u ≡ (not (is_same_test t u) && is_listed tests u)
listed-without t u tests =
    any-filter_same (λ (v : ClockTest). is_same_test u v) (λ (v : ClockTest). not (is_same_test t v)) (not (is_same_test t u))
    (λ v e. ap (λ (w : ClockTest). not (is_same_test t w)) (same-is u v e)) tests

-- ---- one row

outcome-is : (b l : Bool) → (if (not b && l) then Undecided else Frozen) ≡ (if b then decided (if l then Undecided else Frozen) else (if l then Undecided else Frozen))
outcome-is true true = refl
outcome-is true false = refl
outcome-is false true = refl
outcome-is false false = refl

-- A row of which only the outcome is chosen.
chosen-row : (b : Bool) (row : ResultRow) (o : Outcome) → (if b then record row { outcome = o } else row) ≡ record row { outcome = if b then o else row.outcome }
chosen-row true row o = refl
chosen-row false row o = refl

frozen-is : (t : ClockTest) (tests : List ClockTest) (x : FrozenAt) → frozen_row (without_test t tests) x ≡ decided_row t (frozen_row tests x)
frozen-is t tests x =
    let u : ClockTest = record { round = x.round; station = x.station } in
    let o : (if is_listed (without_test t tests) u then Undecided else Frozen) ≡ (if is_same_test t u then decided (if is_listed tests u then Undecided else Frozen) else (if is_listed tests u then Undecided else Frozen)) =
    ap (λ (b : Bool). if b then Undecided else Frozen) (listed-without t u tests) ∙ outcome-is (is_same_test t u) (is_listed tests u) in
    ap (λ (p : Outcome). let row : ResultRow = record { facility = x.station; outcome = p; round = x.round; price = x.price } in row) o
    ∙ sym (chosen-row (is_same_test t u) (frozen_row tests x) (decided (frozen_row tests x).outcome))

same-row : (b : Bool) (row : ResultRow) → decided row.outcome ≡ row.outcome → (if b then record row { outcome = decided row.outcome } else row) ≡ row
same-row true row e = ap (λ (p : Outcome). record row { outcome = p }) e
same-row false row e = refl

kept-outcome : (b : Bool) → decided (if b then Start else Exit) ≡ (if b then Start else Exit)
kept-outcome true = refl
kept-outcome false = refl

on-air-is : (t : ClockTest) (x : OnAirSince) → on_air_row x ≡ decided_row t (on_air_row x)
on-air-is t x = sym (same-row ((x.round == t.round) && (x.station == t.station)) (on_air_row x) (kept-outcome (x.round == 0)))

from-is : (t : ClockTest) (tests : List ClockTest) (x : Option FrozenAt) (y : Option OnAirSince) → row_from (without_test t tests) x y ≡ option_map (decided_row t) (row_from tests x y)
from-is t tests (Some x) y = ap Some (frozen-is t tests x)
from-is t tests None (Some y) = ap Some (on-air-is t y)
from-is t tests None None = refl

-- ---- all rows

mapped-option : {A B : Type 0} (f : A → B) (o : Option A) (xs : List A) → map f (cons_option o xs) ≡ cons_option (option_map f o) (map f xs)
mapped-option f None xs = refl
mapped-option f (Some x) xs = refl

rows-mapped : {A B : Type 0} (f : A → B) (g : ℕ → Option A) (h : ℕ → Option B) → ((s : ℕ) → h s ≡ option_map f (g s)) → (ss : List ℕ) → filter_map h ss ≡ map f (filter_map g ss)
rows-mapped f g h each [] = refl
rows-mapped f g h each (s ∷ ss) =
    ap₂ cons_option (each s) (rows-mapped f g h each ss) ∙ sym (mapped-option f (g s) (filter_map g ss))

pub rows-decided : (sc : Scenario) (state : ClockState) (tests : List ClockTest) (t : ClockTest) → result_rows sc state (without_test t tests) ≡ map (decided_row t) (result_rows sc state tests)
unfolding result_rows
rows-decided sc state tests t =
    rows-mapped (decided_row t) (row_of tests state) (row_of (without_test t tests) state)
    (λ s. from-is t tests (find (λ (x : FrozenAt). x.station == s) state.frozen) (find (λ (x : OnAirSince). x.station == s) state.on_air)) (facilities sc)
