-- The answer of a cache to a task, and the order of its entries afterwards. This is the project's own: a map of more
-- stations contains one of fewer, and what refutes fewer stations refutes more. Whether the answer is valid is
-- checked again.
use Rattle.std.specs.Prelude.{ℕ, Bool, ◌&&◌, ◌==◌, List, filter, find, is_none, Option, Some, None, option_map}
use Rattle.std.specs.List.{list_all}
use Rattle.pack_defs.specs.Book.{BookView}
use Rattle.pack_defs.specs.Lists.{is_in}
use Rattle.pack_defs.specs.declared.worker.Worker.{Worker}
use Rattle.cert_types.specs.declared.answer.Answer.{Answer}
use Rattle.cert_types.specs.declared.answer.Answer.TheVariants.{Fit, Refuted}
use Rattle.cert_types.specs.declared.answer.Refutation.{Refutation}
use Rattle.cert_types.specs.declared.task.Task.{Task}
use Rattle.cert_types.specs.Valid.{answer_fault}
use Rattle.batch_cache.specs.declared.key.Key.{Key}
use Rattle.batch_cache.specs.Cache.{CacheView, to_front}

-- The map restricted to a set.
abbrev pub restrict_to : List ℕ → List (ℕ × ℕ) → List (ℕ × ℕ)
restrict_to set entries = filter (λ x. is_in set x.0) entries

-- Whether the answer is valid.
abbrev pub is_valid : BookView → Task → Worker → Answer → Bool
is_valid book task worker answer = is_none (answer_fault book task worker answer)

-- Whether a map leads to a fit: it is of this top channel, its set contains the task's, and its restriction to the
-- task's set is a valid fit.
abbrev pub gives_fit : ℕ → BookView → Task → Worker → Key × List (ℕ × ℕ) → Bool
gives_fit top book task worker e =
    ((e.0.top == top) && list_all (is_in e.0.set) task.set) && is_valid book task worker (Fit (restrict_to task.set e.1))

-- Whether a refutation is of this top channel, and valid.
abbrev pub gives_refutation : ℕ → BookView → Task → Worker → Key × Refutation → Bool
gives_refutation top book task worker e = (e.0.top == top) && is_valid book task worker (Refuted e.1)

-- The most recently used map that leads to a fit.
abbrev pub fitting_map : CacheView → ℕ → BookView → Task → Worker → Option (Key × List (ℕ × ℕ))
fitting_map view top book task worker = find (gives_fit top book task worker) view.maps

-- The most recently used refutation that is valid.
abbrev pub valid_refutation : CacheView → ℕ → BookView → Task → Worker → Option (Key × Refutation)
valid_refutation view top book task worker = find (gives_refutation top book task worker) view.refutations

-- The answer, given these two entries: a fit, or else a refutation.
abbrev pub found_answer : Task → Option (Key × List (ℕ × ℕ)) → Option (Key × Refutation) → Option Answer
found_answer task (Some e) refutation = Some (Fit (restrict_to task.set e.1))
found_answer task None refutation = option_map (λ e. Refuted e.1) refutation

-- The answer of the cache.
abbrev pub cached_answer : CacheView → ℕ → BookView → Task → Worker → Option Answer
cached_answer view top book task worker = found_answer task (fitting_map view top book task worker) (valid_refutation view top book task worker)

-- The cache after these two entries were found: the one that answers becomes the first of its kind.
abbrev pub moved_to_front : CacheView → Option (Key × List (ℕ × ℕ)) → Option (Key × Refutation) → CacheView
moved_to_front view (Some e) refutation = record view { maps = to_front e view.maps }
moved_to_front view None (Some e) = record view { refutations = to_front e view.refutations }
moved_to_front view None None = view

-- The cache after its answer.
abbrev pub after_cached_answer : CacheView → ℕ → BookView → Task → Worker → CacheView
after_cached_answer view top book task worker = moved_to_front view (fitting_map view top book task worker) (valid_refutation view top book task worker)
