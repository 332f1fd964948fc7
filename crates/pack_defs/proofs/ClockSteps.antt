-- What one test of the clock does, and what any tests preserve.
use Rattle.std.proofs.Common.{◌≡◌, ℕ, true, false, not, cond, eqb, inl, inr, List, [], ◌∷◌, refl, sym, ap, ◌∙◌, subst, Contains}
use Rattle.std.proofs.lemmas.Bool.{false≢true, true≢false, eq-eqb, ne_eqb, cond-true, cond-false, false_from_ne_true}
use Rattle.std.proofs.lemmas.List.Elements.{Contains-append_left, Contains-push_cases}
use Rattle.pack_defs.specs.Lists.{is_in, without}
use Rattle.pack_defs.specs.Book.{BookView}
use Rattle.pack_defs.specs.declared.scenario.Scenario.{Scenario}
use Rattle.pack_defs.specs.ClockRule.{ClockTest, FrozenAt, ClockState, is_active, freezes, goes_on_air, exits, after_answer, has_room, after_test, after_tests}
use Rattle.pack_defs.proofs.Members.{is_in-from, is_in-gives, Contains-filter, Contains-from_filter}

-- A number that is removed from a list isn't in the rest.
pub is_in-without : (xs : List ℕ) (x : ℕ) → is_in (without xs x) x ≡ false
is_in-without xs x = false_from_ne_true _ (λ h.
    let (within, kept) = Contains-from_filter (λ y. not (eqb y x)) xs x (is_in-gives _ x h) in
    false≢true (subst (λ b. not b ≡ true) (eq-eqb x x refl) kept))

-- A number that isn't in a list isn't in the list without another number.
pub is_in-without_absent : (xs : List ℕ) (x y : ℕ) → is_in xs x ≡ false → is_in (without xs y) x ≡ false
is_in-without_absent xs x y absent = false_from_ne_true _ (λ h.
    let (within, kept) = Contains-from_filter (λ z. not (eqb z y)) xs x (is_in-gives _ x h) in
    true≢false (sym (is_in-from xs x within) ∙ absent))

-- A number of a list is still in the list without another number.
pub is_in-without_other : (xs : List ℕ) (x y : ℕ) → (y ≡ x → ⊥) → is_in xs x ≡ true → is_in (without xs y) x ≡ true
is_in-without_other xs x y other h =
    is_in-from _ x (Contains-filter (λ z. not (eqb z y)) xs x (is_in-gives xs x h) (ap not (ne_eqb x y (λ e. other (sym e)))))

module _ (book : BookView) (undecided : List ClockTest) where
  -- A test of an active station freezes it, puts it on air, or leaves it; any other test does nothing.
  pub test_cases : (P : ClockState → Type 0) (sc : Scenario) (st : ClockState) (t : ClockTest) →
      (is_active st t.station ≡ false → P st) →
      (is_active st t.station ≡ true → has_room sc book undecided st t ≡ false → P (freezes sc st t)) →
      (is_active st t.station ≡ true → has_room sc book undecided st t ≡ true → exits sc t ≡ true → P (goes_on_air st t)) →
      (is_active st t.station ≡ true → has_room sc book undecided st t ≡ true → exits sc t ≡ false → P st) →
      P (after_test sc book undecided st t)
  test_cases P sc st t idle froze went stays =
      (elim (is_active st t.station) as (λ b. is_active st t.station ≡ b → P (cond b (after_answer sc st t (has_room sc book undecided st t)) st)) [
        | true ↦ λ active. (elim (has_room sc book undecided st t) as (λ b. has_room sc book undecided st t ≡ b → P (after_answer sc st t b)) [
          | true ↦ λ room. (elim (exits sc t) as (λ b. exits sc t ≡ b → P (cond b (goes_on_air st t) st)) [
            | true ↦ λ out. went active room out
            | false ↦ λ out. stays active room out
          ]) refl
          | false ↦ λ room. froze active room
        ]) refl
        | false ↦ λ active. idle active
      ]) refl

  -- The four cases, one at a time.
  pub test_idle : (sc : Scenario) (st : ClockState) (t : ClockTest) → is_active st t.station ≡ false → after_test sc book undecided st t ≡ st
  test_idle sc st t idle = cond-false (is_active st t.station) _ _ idle

  pub test_freezes : (sc : Scenario) (st : ClockState) (t : ClockTest) → is_active st t.station ≡ true → has_room sc book undecided st t ≡ false → after_test sc book undecided st t ≡ freezes sc st t
  test_freezes sc st t active room = cond-true (is_active st t.station) _ _ active ∙ ap (after_answer sc st t) room

  pub test_exits : (sc : Scenario) (st : ClockState) (t : ClockTest) → is_active st t.station ≡ true → has_room sc book undecided st t ≡ true → exits sc t ≡ true → after_test sc book undecided st t ≡ goes_on_air st t
  test_exits sc st t active room out = (cond-true (is_active st t.station) _ _ active ∙ ap (after_answer sc st t) room) ∙ cond-true (exits sc t) _ _ out

  pub test_stays : (sc : Scenario) (st : ClockState) (t : ClockTest) → is_active st t.station ≡ true → has_room sc book undecided st t ≡ true → exits sc t ≡ false → after_test sc book undecided st t ≡ st
  test_stays sc st t active room out = (cond-true (is_active st t.station) _ _ active ∙ ap (after_answer sc st t) room) ∙ cond-false (exits sc t) _ _ out

  -- A station that isn't active never becomes active.
  pub stays_inactive : (sc : Scenario) (st : ClockState) (t : ClockTest) (s : ℕ) → is_active st s ≡ false → is_active (after_test sc book undecided st t) s ≡ false
  stays_inactive sc st t s h =
      test_cases (λ z. is_active z s ≡ false) sc st t
      (λ _. h)
      (λ _ _. is_in-without_absent st.active s t.station h)
      (λ _ _ _. is_in-without_absent st.active s t.station h)
      (λ _ _ _. h)

  -- A test of another station leaves a station active.
  pub stays_active : (sc : Scenario) (st : ClockState) (t : ClockTest) (s : ℕ) → (t.station ≡ s → ⊥) → is_active st s ≡ true → is_active (after_test sc book undecided st t) s ≡ true
  stays_active sc st t s other h =
      test_cases (λ z. is_active z s ≡ true) sc st t
      (λ _. h)
      (λ _ _. is_in-without_other st.active s t.station other h)
      (λ _ _ _. is_in-without_other st.active s t.station other h)
      (λ _ _ _. h)

  -- A frozen station stays frozen.
  pub stays_frozen : (sc : Scenario) (st : ClockState) (t : ClockTest) (f : FrozenAt) → Contains st.frozen f → Contains (after_test sc book undecided st t).frozen f
  stays_frozen sc st t f h =
      test_cases (λ z. Contains z.frozen f) sc st t
      (λ _. h)
      (λ _ _. Contains-append_left st.frozen _ f h)
      (λ _ _ _. h)
      (λ _ _ _. h)

  -- A frozen station that wasn't just tested while active was frozen before.
  pub was_frozen : (sc : Scenario) (st : ClockState) (t : ClockTest) (f : FrozenAt) → (t.station ≡ f.station → is_active st f.station ≡ false) → Contains (after_test sc book undecided st t).frozen f → Contains st.frozen f
  was_frozen sc st t f idle =
      test_cases (λ z. Contains z.frozen f → Contains st.frozen f) sc st t
      (λ _ h. h)
      (λ active _ h. elim (Contains-push_cases st.frozen _ f h) [
        | inl old ↦ old
        | inr new ↦
            let same : t.station ≡ f.station = ap (λ (x : FrozenAt). x.station) new in
            absurd (true≢false (sym active ∙ (ap (is_active st) same ∙ idle same)))
      ])
      (λ _ _ _ h. h)
      (λ _ _ _ h. h)

  -- ---- after any tests

  pub run_inactive : (sc : Scenario) (ts : List ClockTest) (st : ClockState) (s : ℕ) → is_active st s ≡ false → is_active (after_tests sc book undecided ts st) s ≡ false
  run_inactive sc [] st s h = h
  run_inactive sc (t ∷ ts) st s h = run_inactive sc ts _ s (stays_inactive sc st t s h)

  pub run_frozen : (sc : Scenario) (ts : List ClockTest) (st : ClockState) (f : FrozenAt) → Contains st.frozen f → Contains (after_tests sc book undecided ts st).frozen f
  run_frozen sc [] st f h = h
  run_frozen sc (t ∷ ts) st f h = run_frozen sc ts _ f (stays_frozen sc st t f h)

  -- A station that isn't active is frozen later only if it is already.
  pub run_was_frozen : (sc : Scenario) (ts : List ClockTest) (st : ClockState) (f : FrozenAt) → is_active st f.station ≡ false → Contains (after_tests sc book undecided ts st).frozen f → Contains st.frozen f
  run_was_frozen sc [] st f idle h = h
  run_was_frozen sc (t ∷ ts) st f idle h =
      was_frozen sc st t f (λ _. idle) (run_was_frozen sc ts _ f (stays_inactive sc st t f.station idle) h)
