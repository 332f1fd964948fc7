-- An entry that the search skips leads to no answer.
use Rattle.std.proofs.Common.{◌≡◌, ℕ, Bool, true, false, ◌&&◌, ◌==◌, List, [], ◌∷◌, length, filter, take, ◌≤◌, nat_le, nat_lt, Option, Some, refl, sym, ap, ◌∙◌, subst, cond, find}
use Rattle.std.specs.Prelude.{is_none}
use Rattle.std.specs.List.{list_all}
use Rattle.std.proofs.lemmas.Bool.{and_parts, and_from, true≢false}
use Rattle.std.proofs.lemmas.List.{take_all}
use Rattle.std.proofs.Math.Bool.{and-false}
use Rattle.pack_defs.specs.Book.{BookView}
use Rattle.pack_defs.specs.ChannelMap.{IsAscending}
use Rattle.pack_defs.specs.Lists.{is_ascending, is_in}
use Rattle.pack_defs.specs.declared.worker.Worker.{Worker}
use Rattle.cert_types.specs.declared.answer.Answer.TheVariants.{Refuted}
use Rattle.cert_types.specs.declared.answer.Place.{Place}
use Rattle.cert_types.specs.declared.answer.Refutation.{Refutation}
use Rattle.cert_types.specs.declared.answer.Refutation.TheVariants.{Proof, Dead}
use Rattle.cert_types.specs.declared.task.Task.{Task}
use Rattle.cert_types.specs.Refutes.{is_dead, is_subset}
use Rattle.cert_types.specs.Valid.{answer_fault, unless}
use Rattle.pack_defs.specs.Scenario.{learns}
use Rattle.cert_types.proofs.DeltaLemmas.{kept-ascends}
use Rattle.batch_cache.specs.declared.key.Key.{Key}
use Rattle.batch_cache.specs.Answering.{gives_refutation, is_valid}
use Rattle.batch_cache.specs.KeptRefutation.{learns_within, may_answer}

-- An answer without an error passes the first test, and the other tests find no error.
passed : (b : Bool) (place : Place) (rest : Option Place) → is_none (unless b place rest) ≡ true → (b ≡ true) × (is_none rest ≡ true)
passed true place rest h = (refl, h)
passed false place rest h = cc

pub valid-may : (book : BookView) (task : Task) (worker : Worker) (refutation : Refutation) → is_valid book task worker (Refuted refutation) ≡ true → may_answer task.set worker refutation ≡ true
unfolding answer_fault
valid-may book task worker (Proof subset log) h =
    let by = passed (learns worker.kind) _ _ h in
    let count = passed (nat_lt 0 (length log.lines) && nat_le (length log.lines) worker.budget) _ _ by.1 in
    let within = passed (is_subset subset task.set) _ _ count.1 in
    and_from (learns_within worker log.lines) (list_all (is_in task.set) subset)
    (and_from (learns worker.kind) (nat_lt 0 (length log.lines) && nat_le (length log.lines) worker.budget) by.0 count.0)
    (and_parts (is_ascending subset) (list_all (is_in task.set) subset) within.0).1
valid-may book task worker (Dead p) h =
    let dead = passed (is_dead book task.set p) _ _ h in
    let stations = and_parts (is_in task.set p.f && is_in task.set p.g) _ (and_parts _ _ dead.0).1 in
    let both = and_parts (is_in task.set p.f) (is_in task.set p.g) stations.0 in
    and_from (is_in task.set p.f) (list_all (is_in task.set) (p.g ∷ [])) both.0 (and_from (is_in task.set p.g) true both.1 refl)

-- A refutation that the fast test rejects is not valid.
may-not : (book : BookView) (task : Task) (worker : Worker) (refutation : Refutation) → may_answer task.set worker refutation ≡ false → is_valid book task worker (Refuted refutation) ≡ false
may-not book task worker refutation none =
    (elim (is_valid book task worker (Refuted refutation)) as (λ b. is_valid book task worker (Refuted refutation) ≡ b → is_valid book task worker (Refuted refutation) ≡ false) [
      | true ↦ λ e. absurd (true≢false (sym (valid-may book task worker refutation e) ∙ none))
      | false ↦ λ e. e
    ]) refl

-- ---- a restricted map

-- What a test keeps of a map ascends, as the map does.
pub taken-ascends : (p : ℕ × ℕ → Bool) (whole xs entries ys : List (ℕ × ℕ)) (i : ℕ) → xs ≡ whole → length xs ≤ i → IsAscending whole → entries ≡ filter p (take i whole) → ys ≡ entries → IsAscending ys
taken-ascends p whole xs entries ys i same all up taken is =
    let here : ys ≡ filter p whole = is ∙ (taken ∙ ap (filter p) (take_all i whole (subst (λ (zs : List (ℕ × ℕ)). length zs ≤ i) same all))) in
    subst IsAscending (sym here) (kept-ascends p whole up)

-- ---- a refutation that is skipped

-- The entries after it decide as all did.
pub passed-over : (top : ℕ) (book : BookView) (task : Task) (worker : Worker) (asked : List ℕ) (key : Key) (refutation : Refutation) (all now rest : List (Key × Refutation)) →
    asked ≡ task.set → may_answer asked worker refutation ≡ false → find (gives_refutation top book task worker) all ≡ find (gives_refutation top book task worker) now → now ≡ (key, refutation) ∷ rest →
    find (gives_refutation top book task worker) all ≡ find (gives_refutation top book task worker) rest
passed-over top book task worker asked key refutation all now rest same none left is =
    let not_valid = may-not book task worker refutation (ap (λ (set : List ℕ). may_answer set worker refutation) (sym same) ∙ none) in
    let gives_none : gives_refutation top book task worker (key, refutation) ≡ false = ap (λ (b : Bool). (key.top == top) && b) not_valid ∙ and-false (key.top == top) in
    left ∙ (ap (find (gives_refutation top book task worker)) is
    ∙ ap (λ (b : Bool). cond b (Some (key, refutation)) (find (gives_refutation top book task worker) rest)) gives_none)
