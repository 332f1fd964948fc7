-- There is no answer exactly if no entry is valid, and every answer is valid.
use Rattle.std.proofs.Common.{◌≡◌, ℕ, Bool, true, false, ◌&&◌, ◌==◌, inl, inr, List, [], ◌∷◌, Option, Some, None, refl, sym, ap, ◌∙◌, subst, find, Contains, eq-eqb, eqb-true}
use Rattle.std.specs.Prelude.{is_none}
use Rattle.std.specs.List.{list_all}
use Rattle.std.proofs.lemmas.Bool.{and_parts, and_from, true≢false}
use Rattle.lru.proofs.Splits.{Contains-cons, Contains-head, Contains-nil, Contains-tail}
use Rattle.pack_defs.specs.Book.{BookView}
use Rattle.pack_defs.specs.Lists.{is_in}
use Rattle.pack_defs.specs.declared.worker.Worker.{Worker}
use Rattle.cert_types.specs.declared.answer.Answer.TheVariants.{Fit, Refuted}
use Rattle.cert_types.specs.declared.answer.Place.{Place}
use Rattle.cert_types.specs.declared.answer.Refutation.{Refutation}
use Rattle.cert_types.specs.declared.task.Task.{Task}
use Rattle.cert_types.specs.Valid.{IsValid, answer_fault}
use Rattle.batch_cache.specs.declared.key.Key.{Key}
use Rattle.batch_cache.specs.Cache.{CacheView}
use Rattle.batch_cache.specs.Answering.{found_answer, fitting_map, gives_fit, gives_refutation, is_valid, cached_answer, restrict_to, valid_refutation}
use Rattle.batch_cache.specs.Laws.{IsNoneKept}

module _ {A : Type 0} (p : A → Bool) where
  pub found-passes : (es : List A) (e : A) → find p es ≡ Some e → p e ≡ true
  found-passes [] e h = cc
  found-passes (f ∷ es) e h = (elim (p f) as (λ b. p f ≡ b → p e ≡ true) [
    | true ↦ λ t. let h' = rw t at h in let same : f ≡ e = cc in subst (λ (x : A). p x ≡ true) same t
    | false ↦ λ t. found-passes es e (rw t at h)
  ]) refl

  none-passes : (es : List A) (e : A) → find p es ≡ None → Contains es e → p e ≡ true → ⊥
  none-passes [] e h there passes = Contains-nil e there
  none-passes (f ∷ es) e h there passes = (elim (p f) as (λ b. p f ≡ b → ⊥) [
    | true ↦ λ t. let h' = rw t at h in cc
    | false ↦ λ t. elim (Contains-cons f es e there) [
      | inl same ↦ true≢false (sym passes ∙ (ap p (sym same) ∙ t))
      | inr later ↦ none-passes es e (rw t at h) later passes
    ]
  ]) refl

  none-found : (es : List A) → ((e : A) → Contains es e → p e ≡ true → ⊥) → find p es ≡ None
  none-found [] h = refl
  none-found (f ∷ es) h = (elim (p f) as (λ b. p f ≡ b → find p (f ∷ es) ≡ None) [
    | true ↦ λ t. absurd (h f (Contains-head f es) t)
    | false ↦ λ t. rw t (none-found es (λ e there. h e (Contains-tail f es e there)))
  ]) refl

valid-passes : (o : Option Place) → o ≡ None → is_none o ≡ true
valid-passes o h = ap is_none h

pub passes-valid : (o : Option Place) → is_none o ≡ true → o ≡ None
passes-valid None h = refl
passes-valid (Some place) h = cc

-- No answer: neither entry was found.
neither : (task : Task) (m : Option (Key × List (ℕ × ℕ))) (r : Option (Key × Refutation)) → found_answer task m r ≡ None → (m ≡ None) × (r ≡ None)
neither task None None h = (refl, refl)
neither task None (Some e) h = cc
neither task (Some e) r h = cc

module _ (top : ℕ) (book : BookView) (task : Task) (worker : Worker) where
  pub none-kept : (view : CacheView) → cached_answer view top book task worker ≡ None → IsNoneKept view top book task worker
  none-kept view h =
      let both = neither task (fitting_map view top book task worker) (valid_refutation view top book task worker) h in
      record {
        maps = λ e there same held valid. none-passes (gives_fit top book task worker) view.maps e both.0 there
            (and_from ((e.0.top == top) && list_all (is_in e.0.set) task.set) (is_valid book task worker (Fit (restrict_to task.set e.1)))
            (and_from (e.0.top == top) (list_all (is_in e.0.set) task.set) (eq-eqb e.0.top top same) held)
            (valid-passes (answer_fault book task worker (Fit (restrict_to task.set e.1))) valid));
        refutations = λ e there same valid. none-passes (gives_refutation top book task worker) view.refutations e both.1 there
            (and_from (e.0.top == top) (is_valid book task worker (Refuted e.1)) (eq-eqb e.0.top top same)
            (valid-passes (answer_fault book task worker (Refuted e.1)) valid));
      }

  fit-parts : (e : Key × List (ℕ × ℕ)) → gives_fit top book task worker e ≡ true → (e.0.top ≡ top) × (list_all (is_in e.0.set) task.set ≡ true) × IsValid book task worker (Fit (restrict_to task.set e.1))
  fit-parts e h =
      let parts = and_parts ((e.0.top == top) && list_all (is_in e.0.set) task.set) (is_valid book task worker (Fit (restrict_to task.set e.1))) h in
      let key = and_parts (e.0.top == top) (list_all (is_in e.0.set) task.set) parts.0 in
      (eqb-true e.0.top top key.0, key.1, passes-valid (answer_fault book task worker (Fit (restrict_to task.set e.1))) parts.1)

  refutation-parts : (e : Key × Refutation) → gives_refutation top book task worker e ≡ true → (e.0.top ≡ top) × IsValid book task worker (Refuted e.1)
  refutation-parts e h =
      let parts = and_parts (e.0.top == top) (is_valid book task worker (Refuted e.1)) h in
      (eqb-true e.0.top top parts.0, passes-valid (answer_fault book task worker (Refuted e.1)) parts.1)

  pub none-answered : (view : CacheView) → IsNoneKept view top book task worker → cached_answer view top book task worker ≡ None
  none-answered view none =
      let m : fitting_map view top book task worker ≡ None = none-found (gives_fit top book task worker) view.maps
      (λ e there passes. let parts = fit-parts e passes in none.maps e there parts.0 parts.1 parts.2) in
      let r : valid_refutation view top book task worker ≡ None = none-found (gives_refutation top book task worker) view.refutations
      (λ e there passes. let parts = refutation-parts e passes in none.refutations e there parts.0 parts.1) in
      rw (m, r) refl

  -- The entry that is found is valid.
  pub fit-valid : (es : List (Key × List (ℕ × ℕ))) (e : Key × List (ℕ × ℕ)) → find (gives_fit top book task worker) es ≡ Some e → IsValid book task worker (Fit (restrict_to task.set e.1))
  fit-valid es e h = (fit-parts e (found-passes (gives_fit top book task worker) es e h)).2

  pub refutation-valid : (es : List (Key × Refutation)) (e : Key × Refutation) → find (gives_refutation top book task worker) es ≡ Some e → IsValid book task worker (Refuted e.1)
  refutation-valid es e h = (refutation-parts e (found-passes (gives_refutation top book task worker) es e h)).1
