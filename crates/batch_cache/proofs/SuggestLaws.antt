-- An entry that answers is suggested: without a suggestion there is no answer.
use Rattle.std.proofs.Common.{◌≡◌, ℕ, Bool, true, false, ◌==◌, List, [], ◌∷◌, Option, Some, None, refl, find}
use Rattle.std.proofs.lemmas.Bool.{and_parts, and_from}
use Rattle.pack_defs.specs.Book.{BookView}
use Rattle.pack_defs.specs.declared.worker.Worker.{Worker}
use Rattle.cert_types.specs.declared.answer.Answer.TheVariants.{Fit, Refuted}
use Rattle.cert_types.specs.declared.answer.Refutation.{Refutation}
use Rattle.cert_types.specs.declared.task.Task.{Task}
use Rattle.batch_cache.specs.declared.key.Key.{Key}
use Rattle.batch_cache.specs.Answering.{cached_answer, fitting_map, gives_fit, gives_refutation, is_valid, restrict_to, valid_refutation}
use Rattle.batch_cache.specs.Cache.{CacheView}
use Rattle.batch_cache.specs.KeptRefutation.{may_answer}
use Rattle.batch_cache.specs.Suggesting.{found_suggestion, holding_map, holds_task, likely_refutation, may_refute, suggested_answer}
use Rattle.batch_cache.proofs.KeptRefutationLemmas.{valid-may}

-- If a test finds nothing, a stricter test finds nothing.
fewer-found : {A : Type 0} (p q : A → Bool) (es : List A) → ((e : A) → q e ≡ true → p e ≡ true) → find p es ≡ None → find q es ≡ None
fewer-found p q [] fewer h = refl
fewer-found p q (e ∷ es) fewer h = (elim (q e) as (λ b. q e ≡ b → find q (e ∷ es) ≡ None) [
  | true ↦ λ t. let h' = rw (fewer e t) at h in cc
  | false ↦ λ t. (elim (p e) as (λ b. p e ≡ b → find q (e ∷ es) ≡ None) [
    | true ↦ λ s. let h' = rw s at h in cc
    | false ↦ λ s. rw t (fewer-found p q es fewer (rw s at h))
  ]) refl
]) refl

-- No suggestion: neither entry was found.
neither : (task : Task) (m : Option (Key × List (ℕ × ℕ))) (r : Option (Key × Refutation)) → found_suggestion task m r ≡ None → (m ≡ None) × (r ≡ None)
neither task None None h = (refl, refl)
neither task None (Some e) h = cc
neither task (Some e) r h = cc

fit-held : (top : ℕ) (book : BookView) (task : Task) (worker : Worker) (e : Key × List (ℕ × ℕ)) → gives_fit top book task worker e ≡ true → holds_task top task e ≡ true
fit-held top book task worker e h = (and_parts (holds_task top task e) (is_valid book task worker (Fit (restrict_to task.set e.1))) h).0

refutation-likely : (top : ℕ) (book : BookView) (task : Task) (worker : Worker) (e : Key × Refutation) → gives_refutation top book task worker e ≡ true → may_refute top task worker e ≡ true
refutation-likely top book task worker e h =
    let parts = and_parts (e.0.top == top) (is_valid book task worker (Refuted e.1)) h in
    and_from (e.0.top == top) (may_answer task.set worker e.1) parts.0 (valid-may book task worker e.1 parts.1)

pub none-to-answer : (view : CacheView) (top : ℕ) (task : Task) (worker : Worker) → suggested_answer view top task worker ≡ None → (book : BookView) → cached_answer view top book task worker ≡ None
none-to-answer view top task worker none book =
    let both = neither task (holding_map view top task) (likely_refutation view top task worker) none in
    let m : fitting_map view top book task worker ≡ None =
    fewer-found (holds_task top task) (gives_fit top book task worker) view.maps (fit-held top book task worker) both.0 in
    let r : valid_refutation view top book task worker ≡ None =
    fewer-found (may_refute top task worker) (gives_refutation top book task worker) view.refutations (refutation-likely top book task worker) both.1 in
    rw (m, r) refl
