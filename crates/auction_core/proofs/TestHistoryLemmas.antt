-- The test history once one more test is settled. For `test_history::note`.
use Rattle.std.proofs.Common.{◌≡◌, ℕ, zero, suc, ◌<◌, true, false, ◌==◌, if◌then◌else◌, List, [], ◌∷◌, ◌++◌, length, set, get_or, Option, Some, None, is_some, unwrap_or, refl, sym, ap, ◌∙◌, ⊎_elim, eq-eqb, ne_eqb, arith}
use Rattle.std.proofs.lemmas.Bool.{cases_eq, cond-true, cond-false}
use Rattle.std.proofs.lemmas.List.{length-set, get_or-set_same, get_or-set_other}
use Rattle.pack_defs.specs.Lists.{is_ascending}
use Rattle.pack_defs.proofs.Words.{ascending-rest, after-first}
use Rattle.auction_core.specs.declared.record.Shown.{Shown}
use Rattle.auction_core.specs.declared.record.Step.{Step}
use Rattle.auction_core.specs.TestHistory.{AreLastFits, AreSeen}
use Rattle.auction_core.specs.State.{fit_of, last_fit}
use Rattle.auction_core.specs.StepList.{fit_at, verdicts_with}
use Rattle.auction_core.proofs.Sets.{last_fit-push}
use Rattle.auction_core.proofs.StepLines.{fit-still, fit-told, told-grows}

-- ---- how many were on air

-- the test at this place has seen them all
pub now-seen : (stations : List ℕ) (on_air : ℕ) (seen : List ℕ) (place : ℕ) → place < length stations → AreSeen stations on_air seen → AreSeen stations on_air (set seen place on_air)
now-seen stations on_air seen place inside h = record {
  long = length-set seen place on_air ∙ h.long;
  few = h.few;
  each = λ i.
      let few = h.few in
      let before = h.each i in
      let long = h.long in
      ⊎_elim
      (λ (same : i ≡ place).
      let is : get_or (set seen place on_air) i 0 ≡ on_air = ap (λ (k : ℕ). get_or (set seen place on_air) k 0) same ∙ get_or-set_same seen place on_air 0 (omega (arith, long, inside)) in
      omega (arith, is, few))
      (λ (other : i ≡ place → ⊥). let is = get_or-set_other seen place i on_air 0 other in omega (arith, is, before))
      (cases_eq i place);
}

-- ---- where the last fits are

-- no number is at two places of an ascending list
one-place : (xs : List ℕ) (i k : ℕ) → is_ascending xs ≡ true → i < length xs → k < length xs → get_or xs i 0 ≡ get_or xs k 0 → i ≡ k
one-place [] i k up a b e = absurd (omega arith)
one-place (x ∷ xs) zero zero up a b e = refl
one-place (x ∷ xs) zero (suc k) up a b e = let less = after-first x xs k up (omega arith) in absurd (omega (arith, less, e))
one-place (x ∷ xs) (suc i) zero up a b e = let less = after-first x xs i up (omega arith) in absurd (omega (arith, less, e))
one-place (x ∷ xs) (suc i) (suc k) up a b e = ap suc (one-place xs i k (ascending-rest x xs up) (omega arith) (omega arith) e)

-- a test that is not settled by a fit
unfit-push : (steps : List Step) (x : Step) (s : ℕ) → fit_of x.shown ≡ None → last_fit (steps ++ x ∷ []) s [] ≡ last_fit steps s []
unfit-push steps x s none =
    last_fit-push steps x s []
    ∙ elim (x.station == s) as (λ b. (if b then unwrap_or (fit_of x.shown) (last_fit steps s []) else last_fit steps s []) ≡ last_fit steps s []) [
      | true ↦ ap (λ o. unwrap_or o (last_fit steps s [])) none
      | false ↦ refl
    ]

pub no-fit-more : (stations : List ℕ) (steps : List Step) (told : List Shown) (fits : List ℕ) (x : Step) → is_some (fit_of x.shown) ≡ false → AreLastFits stations steps told fits → AreLastFits stations (steps ++ x ∷ []) (verdicts_with told x.shown) fits
no-fit-more stations steps told fits x unfit h = record {
  long = h.long;
  stands = λ i inside. let before = h.stands i inside in let grows = told-grows told x.shown in omega (arith, before, grows);
  each = λ i inside.
      fit-still told x.shown (get_or fits i 0) (h.stands i inside)
      ∙ (h.each i inside ∙ sym (unfit-push steps x (get_or stations i 0) (none-is (fit_of x.shown) unfit)));
}
  where
    none-is : (o : Option (List (ℕ × ℕ))) → is_some o ≡ false → o ≡ None
    none-is None e = refl
    none-is (Some m) e = cc

-- a test that is settled by a fit
fit-push : (steps : List Step) (x : Step) (s : ℕ) → is_some (fit_of x.shown) ≡ true → x.station ≡ s → last_fit (steps ++ x ∷ []) s [] ≡ unwrap_or (fit_of x.shown) []
fit-push steps x s fit own =
    last_fit-push steps x s []
    ∙ (cond-true (x.station == s) (unwrap_or (fit_of x.shown) (last_fit steps s [])) (last_fit steps s []) (eq-eqb x.station s own)
    ∙ whatever (fit_of x.shown) (last_fit steps s []) fit)
  where
    whatever : (o : Option (List (ℕ × ℕ))) (m : List (ℕ × ℕ)) → is_some o ≡ true → unwrap_or o m ≡ unwrap_or o []
    whatever None m e = cc
    whatever (Some y) m e = refl

other-push : (steps : List Step) (x : Step) (s : ℕ) → (x.station ≡ s → ⊥) → last_fit (steps ++ x ∷ []) s [] ≡ last_fit steps s []
other-push steps x s other =
    last_fit-push steps x s []
    ∙ cond-false (x.station == s) (unwrap_or (fit_of x.shown) (last_fit steps s [])) (last_fit steps s []) (ne_eqb x.station s other)

pub fit-more : (stations : List ℕ) (steps : List Step) (told : List Shown) (fits : List ℕ) (place : ℕ) (x : Step) → is_ascending stations ≡ true → place < length stations → get_or stations place 0 ≡ x.station → is_some (fit_of x.shown) ≡ true → AreLastFits stations steps told fits →
    AreLastFits stations (steps ++ x ∷ []) (verdicts_with told x.shown) (set fits place (length (verdicts_with told x.shown)))
fit-more stations steps told fits place x up inside own fit h =
    let n = length (verdicts_with told x.shown) in
    let long = h.long in
    let here : get_or (set fits place n) place 0 ≡ n = get_or-set_same fits place n 0 (omega (arith, long, inside)) in
    record {
      long = length-set fits place n ∙ h.long;
      stands = λ i within.
          let before = h.stands i within in
          let grows = told-grows told x.shown in
          ⊎_elim
          (λ (same : i ≡ place). let is = ap (λ (k : ℕ). get_or (set fits place n) k 0) same ∙ here in omega (arith, is))
          (λ (other : i ≡ place → ⊥). let is = get_or-set_other fits place i n 0 other in omega (arith, is, before, grows))
          (cases_eq i place);
      each = λ i within.
          ⊎_elim
          (λ (same : i ≡ place).
          ap (fit_at (verdicts_with told x.shown)) (ap (λ (k : ℕ). get_or (set fits place n) k 0) same ∙ here)
          ∙ (fit-told told x.shown fit ∙ sym (fit-push steps x (get_or stations i 0) fit (sym (ap (λ (k : ℕ). get_or stations k 0) same ∙ own)))))
          (λ (other : i ≡ place → ⊥).
          ap (fit_at (verdicts_with told x.shown)) (get_or-set_other fits place i n 0 other)
          ∙ (fit-still told x.shown (get_or fits i 0) (h.stands i within)
          ∙ (h.each i within
          ∙ sym (other-push steps x (get_or stations i 0) (λ e. other (one-place stations i place up within inside (sym (own ∙ e))))))))
          (cases_eq i place);
    }
