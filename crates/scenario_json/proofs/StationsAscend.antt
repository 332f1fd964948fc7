-- Stations that ascend by id still do with one more in its place.
use Rattle.std.proofs.Common.{◌≡◌, ℕ, suc, zero, ◌<◌, ◌≤◌, Bool, true, false, cond, ◌==◌, nat_lt, List, [], ◌∷◌, length, get_or, map, All, inl, inr, refl, ap, add-one, arith}
use Rattle.std.specs.List.Sorted.{IsStrictlyIncreasing}
use Rattle.std.proofs.lemmas.Bool.{and_from, and_parts, cases_Bool, eqb-false, ltb-false, ltb-true, lt-ltb, or_parts}
use Rattle.std.proofs.lemmas.List.Elements.{All-cons, All-head, All-tail}
use Rattle.pack_defs.specs.declared.station.Station.{Station}
use Rattle.pack_defs.specs.Lists.{is_ascending}
use Rattle.pack_defs.proofs.Words.{ascending-rest}
use Rattle.scenario_json.specs.ScenarioOf.{has_id, placed}

abbrev pub ids : List Station → List ℕ
ids xs = map (λ x. x.id) xs

pub length-placed : (x : Station) (xs : List Station) → length (placed x xs) ≡ suc (length xs)
length-placed x [] = refl
length-placed x (y ∷ ys) =
    elim (cases_Bool (nat_lt x.id y.id)) [
      | inl t ↦ rw t refl
      | inr f ↦ rw f (ap suc (length-placed x ys))
    ]

pub All-placed : (P : Station → Type 0) (x : Station) (xs : List Station) → P x → All P xs → All P (placed x xs)
All-placed P x [] one all = All-cons P x [] one all
All-placed P x (y ∷ ys) one all =
    elim (cases_Bool (nat_lt x.id y.id)) [
      | inl t ↦ rw t (All-cons P x (y ∷ ys) one all)
      | inr f ↦ rw f (All-cons P y (placed x ys) (All-head P y ys all) (All-placed P x ys one (All-tail P y ys all)))
    ]

-- the first station stays below one that is placed after it
before_placed : (y x : Station) (ys : List Station) → y.id < x.id → is_ascending (y.id ∷ ids ys) ≡ true → is_ascending (ids (placed x ys)) ≡ true → is_ascending (y.id ∷ ids (placed x ys)) ≡ true
before_placed y x [] less up rest = and_from (nat_lt y.id x.id) true (lt-ltb y.id x.id less) refl
before_placed y x (z ∷ zs) less up rest =
    let go : (b : Bool) → is_ascending (ids (cond b (x ∷ z ∷ zs) (z ∷ placed x zs))) ≡ true → is_ascending (y.id ∷ ids (cond b (x ∷ z ∷ zs) (z ∷ placed x zs))) ≡ true = λ b. elim b as (λ b. is_ascending (ids (cond b (x ∷ z ∷ zs) (z ∷ placed x zs))) ≡ true → is_ascending (y.id ∷ ids (cond b (x ∷ z ∷ zs) (z ∷ placed x zs))) ≡ true) [
      | true ↦ λ later. and_from (nat_lt y.id x.id) (is_ascending (ids (x ∷ z ∷ zs))) (lt-ltb y.id x.id less) later
      | false ↦ λ later. and_from (nat_lt y.id z.id) (is_ascending (ids (z ∷ placed x zs))) (and_parts (nat_lt y.id z.id) (is_ascending (ids (z ∷ zs))) up).0 later
    ] in
    go (nat_lt x.id z.id) rest

pub placed-ascends : (x : Station) (xs : List Station) → has_id xs x.id ≡ false → is_ascending (ids xs) ≡ true → is_ascending (ids (placed x xs)) ≡ true
placed-ascends x [] new up = refl
placed-ascends x (y ∷ ys) new up =
    let parts = or_parts (y.id == x.id) (has_id ys x.id) new in
    elim (cases_Bool (nat_lt x.id y.id)) [
      | inl t ↦ rw t (and_from (nat_lt x.id y.id) (is_ascending (ids (y ∷ ys))) t up)
      | inr f ↦
          let other : y.id ≡ x.id → ⊥ = eqb-false y.id x.id parts.0 in
          let above : y.id ≤ x.id = ltb-false x.id y.id f in
          let less : y.id < x.id = omega arith in
          rw f (before_placed y x ys less up (placed-ascends x ys parts.1 (ascending-rest y.id (ids ys) up)))
    ]

rises : (xs : List ℕ) → is_ascending xs ≡ true → (k : ℕ) → suc k < length xs → get_or xs k 0 < get_or xs (suc k) 0
rises [] up k h = absurd (omega arith)
rises (x ∷ []) up k h = absurd (omega arith)
rises (x ∷ y ∷ ys) up zero h = ltb-true x y (and_parts _ _ up).0
rises (x ∷ y ∷ ys) up (suc k) h = rises (y ∷ ys) (and_parts (nat_lt x y) (is_ascending (y ∷ ys)) up).1 k (omega arith)

pub increasing-from_ascending : (xs : List ℕ) → is_ascending xs ≡ true → IsStrictlyIncreasing xs
increasing-from_ascending xs up = λ k h. rw add-one (rises xs up k (omega arith))
