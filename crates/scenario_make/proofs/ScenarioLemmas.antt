-- For `laws`: the generated scenario is one that a file can hold, and no station of it is on air at the start.
use Rattle.std.proofs.Common.{◌≡◌, ◌∙◌, ◌≤◌, ◌+◌, ◌-◌, ◌*◌, ◌%◌, ◌==◌, ◌∷◌, [], ℕ, zero, suc, Bool, List, Some, true, false, nat_lt, map, filter, replicate, All, inl, inr, refl, ap, arith, eqb-true}
use Rattle.std.specs.Prelude.{Ok}
use Rattle.std.specs.List.{range_with_len}
use Rattle.std.proofs.Math.Nat.{mod-lt}
use Rattle.std.proofs.lemmas.Bool.{and_from, cases_Bool, eq-eqb, le-ltb, lt-ltb, or_right}
use Rattle.std.proofs.lemmas.List.Elements.{All-cons, All-nil, All-replicate}
use Rattle.std.proofs.lemmas.List.FromFn.{length-map-range_with_len}
use Rattle.rand_pcg.specs.Lcg.{Lcg}
use Rattle.pack_defs.specs.declared.station.Station.{Station}
use Rattle.pack_defs.specs.declared.worker.Kind.TheVariants.{Cdcl, Walk}
use Rattle.pack_defs.specs.declared.worker.Worker.{Worker}
use Rattle.pack_defs.specs.Lists.{is_ascending, is_in}
use Rattle.pack_defs.specs.Prices.{declines, start_set}
use Rattle.pack_defs.specs.Scenario.{AreDecrementsWithinLimits, IsStationWithinLimits, IsWithinLimits, IsWorkerWithinLimits, value_in, volume_in}
use Rattle.scenario_json.specs.ScenarioOf.{scenario_of}
use Rattle.scenario_json.specs.Write.{IsFileNumber, IsFileSeed, IsWritableScenario}
use Rattle.scenario_json.proofs.StationsAscend.{increasing-from_ascending}
use Rattle.scenario_json.proofs.WrittenText.{written-reads}
use Rattle.scenario_make.specs.Draws.{generator_of, draw_word_at}
use Rattle.scenario_make.specs.GeneratedFiles.{generated_facilities, generated_scenario, generated_scenario_text, generated_station, generated_value, generated_volume, generated_workers, scenario_with}

-- ---- within the limits

pub range-ascends : (a n : ℕ) → is_ascending (range_with_len a n) ≡ true
range-ascends a zero = refl
range-ascends a (suc zero) = refl
range-ascends a (suc (suc n)) =
    let less : nat_lt a (a + 1) ≡ true = lt-ltb a (a + 1) (omega arith) in
    let rest = range-ascends (a + 1) (suc n) in
    and_from (nat_lt a (a + 1)) (is_ascending (range_with_len (a + 1) (suc n))) less rest

pub ids-made : (g : Lcg) (xs : List ℕ) → map (λ (x : Station). x.id) (map (generated_station g) xs) ≡ xs
ids-made g [] = refl
ids-made g (x ∷ xs) = ap (λ ys. x ∷ ys) (ids-made g xs)

station-within : (s x y : ℕ) → IsStationWithinLimits (record { id = s; volume = 1 + x % 1000; value = Some (y % (100 * (1 + x % 1000) + 1)) })
station-within s x y =
    let v = mod-lt x {m = 1000} (omega arith) in
    let w = mod-lt y {m = 100 * (1 + x % 1000) + 1} (omega arith) in
    record { some_volume = omega arith; volume = omega (arith, v); value = omega (arith, v, w) }

stations-within : (g : Lcg) (xs : List ℕ) → All IsStationWithinLimits (map (generated_station g) xs)
stations-within g [] = All-nil IsStationWithinLimits
stations-within g (x ∷ xs) =
    All-cons IsStationWithinLimits (generated_station g x) (map (generated_station g) xs)
    (station-within x (draw_word_at g (2 * (x - 1))) (draw_word_at g (2 * (x - 1) + 1))) (stations-within g xs)

file-numbers : (g : Lcg) (a n : ℕ) → a + n ≤ 4294967296 → All IsFileNumber (map (generated_station g) (range_with_len a n))
file-numbers g a zero h = All-nil IsFileNumber
file-numbers g a (suc n) h =
    let here : IsFileNumber (generated_station g a) = omega (arith, h) in
    All-cons IsFileNumber (generated_station g a) (map (generated_station g) (range_with_len (a + 1) n)) here (file-numbers g (a + 1) n (omega (arith, h)))

abbrev learner : Worker
learner = record { kind = Cdcl; budget = 100000; seed = 0 }

abbrev walk : ℕ → Worker
walk seed = record { kind = Walk; budget = 1000; seed = seed }

both-workers : (P : Worker → Type 0) (seed : ℕ) → P learner → P (walk seed) → All P (generated_workers seed)
both-workers P seed one other = All-cons P learner (walk seed ∷ []) one (All-cons P (walk seed) [] other (All-nil P))

learner-within : IsWorkerWithinLimits learner
learner-within = record { some_budget = omega arith; budget = omega arith }

walk-within : (seed : ℕ) → IsWorkerWithinLimits (walk seed)
walk-within seed = record { some_budget = omega arith; budget = omega arith }

workers-within : (seed : ℕ) → All IsWorkerWithinLimits (generated_workers seed)
workers-within seed = both-workers IsWorkerWithinLimits seed learner-within (walk-within seed)

file-seeds : (seed : ℕ) → seed ≤ 18446744073709551615 → All IsFileSeed (generated_workers seed)
file-seeds seed h = both-workers IsFileSeed seed (omega arith) h

decrements-within : AreDecrementsWithinLimits 100 (replicate 10 10)
decrements-within = record {
  rounds = omega arith;
  each = All-replicate (λ d. (1 ≤ d) × (d ≤ 1000000)) 10 10 (omega arith, omega arith);
  falls = omega arith;
}

pub made-within : (seed size : ℕ) → size ≤ 4096 → IsWithinLimits (generated_scenario seed size)
unfolding scenario_with
made-within seed size h =
    let g = generator_of seed in
    let many = length-map-range_with_len (generated_station g) 1 size in
    record {
      least_top = omega arith;
      top = omega arith;
      some_opening = omega arith;
      opening = omega arith;
      version = refl;
      fall = decrements-within;
      stations = omega (arith, many, h);
      ascend = rw (ids-made g (generated_facilities size)) (increasing-from_ascending (generated_facilities size) (range-ascends 1 size));
      each_station = stations-within g (generated_facilities size);
      some_worker = omega arith;
      workers = omega arith;
      each_worker = workers-within seed;
      prover = refl;
    }

made-of-a-file : (seed size : ℕ) → seed ≤ 18446744073709551615 → size ≤ 4096 → IsWritableScenario (generated_scenario seed size)
unfolding scenario_with
made-of-a-file seed size few h = record {
  limits = made-within seed size h;
  numbers = file-numbers (generator_of seed) 1 size (omega (arith, h));
  seeds = file-seeds seed few;
  by_value = refl;
}

pub made-reads : (seed size : ℕ) → seed ≤ 18446744073709551615 → size ≤ 4096 → scenario_of (generated_scenario_text seed size) ≡ Ok (generated_scenario seed size)
made-reads seed size few h = written-reads (generated_scenario seed size) (made-of-a-file seed size few h)

-- ---- no station starts

value-at : (g : Lcg) (xs : List ℕ) (s : ℕ) → is_in xs s ≡ true → value_in (map (generated_station g) xs) s ≡ Some (generated_value g s)
value-at g [] s h = cc h
value-at g (x ∷ xs) s h = elim (cases_Bool (x == s)) [
  | inl t ↦ rw t (ap (λ k. Some (generated_value g k)) (eqb-true x s t))
  | inr f ↦ rw f (value-at g xs s (rw f at h))
]

volume-at : (g : Lcg) (xs : List ℕ) (s : ℕ) → is_in xs s ≡ true → volume_in (map (generated_station g) xs) s ≡ generated_volume g s
volume-at g [] s h = cc h
volume-at g (x ∷ xs) s h = elim (cases_Bool (x == s)) [
  | inl t ↦ rw t (ap (generated_volume g) (eqb-true x s t))
  | inr f ↦ rw f (volume-at g xs s (rw f at h))
]

-- a drawn value is at most the opening offer
value-low : (x v : ℕ) → nat_lt (100 * v) (x % (100 * v + 1)) ≡ false
value-low x v =
    let w = mod-lt x {m = 100 * v + 1} (omega arith) in
    le-ltb (100 * v) (x % (100 * v + 1)) (omega (arith, w))

takes-part : (seed : ℕ) (g : Lcg) (xs : List ℕ) (s : ℕ) → is_in xs s ≡ true → declines (scenario_with seed (map (generated_station g) xs)) s 0 ≡ false
unfolding scenario_with
takes-part seed g xs s h = rw (value-at g xs s h, volume-at g xs s h) (value-low (draw_word_at g (2 * (s - 1) + 1)) (generated_volume g s))

none-passes : (p : ℕ → Bool) (xs : List ℕ) → ((s : ℕ) → is_in xs s ≡ true → p s ≡ false) → filter p xs ≡ []
none-passes p [] h = refl
none-passes p (x ∷ xs) h =
    let same : (x == x) ≡ true = eq-eqb x x refl in
    let here : is_in (x ∷ xs) x ≡ true = rw same refl in
    rw (h x here) (none-passes p xs (λ s i. h s (or_right (x == s) (is_in xs s) i)))

pub made-ids : (seed size : ℕ) → map (λ (x : Station). x.id) (generated_scenario seed size).stations ≡ generated_facilities size
unfolding scenario_with
made-ids seed size = ids-made (generator_of seed) (generated_facilities size)

pub none-starts : (seed size : ℕ) → start_set (generated_scenario seed size) ≡ []
none-starts seed size =
    let sc = generated_scenario seed size in
    ap (filter (λ s. declines sc s 0)) (made-ids seed size)
    ∙ none-passes (λ s. declines sc s 0) (generated_facilities size) (λ s i. takes-part seed (generator_of seed) (generated_facilities size) s i)
