-- The suggestion of a cache for a task, and the order of its entries afterwards. This is the project's own: only
-- containment is tested, and the caller checks the suggestion. If there is none, no entry is valid.
use Rattle.std.specs.Prelude.{ℕ, Bool, not, ◌&&◌, ◌==◌, List, filter, find, Option, Some, None, option_map}
use Rattle.std.specs.List.{list_all}
use Rattle.pack_defs.specs.Lists.{has_entry, is_in}
use Rattle.pack_defs.specs.declared.worker.Worker.{Worker}
use Rattle.cert_types.specs.declared.answer.Answer.{Answer}
use Rattle.cert_types.specs.declared.answer.Answer.TheVariants.{Fit, Refuted}
use Rattle.cert_types.specs.declared.answer.Refutation.{Refutation}
use Rattle.cert_types.specs.declared.task.Task.{Task}
use Rattle.batch_cache.specs.declared.key.Key.{Key}
use Rattle.batch_cache.specs.declared.search.FoundAnswer.{FoundAnswer}
use Rattle.batch_cache.specs.Answering.{moved_to_front}
use Rattle.batch_cache.specs.Cache.{CacheView}
use Rattle.batch_cache.specs.KeptRefutation.{may_answer}

-- Whether the entry's station is in the set and the last map lacks the entry.
abbrev pub is_change : List ℕ → List (ℕ × ℕ) → ℕ × ℕ → Bool
is_change set last x = not (has_entry last x) && is_in set x.0

-- The channels in which a map differs from the last map on the stations of a set.
abbrev pub changes_on : List ℕ → List (ℕ × ℕ) → List (ℕ × ℕ) → List (ℕ × ℕ)
changes_on set last entries = filter (is_change set last) entries

-- Whether a map is of this top channel and its set contains the task's.
abbrev pub holds_task : ℕ → Task → Key × List (ℕ × ℕ) → Bool
holds_task top task e = (e.0.top == top) && list_all (is_in e.0.set) task.set

-- Whether a refutation is of this top channel and may be valid, by its stations, its number of lines and the worker.
abbrev pub may_refute : ℕ → Task → Worker → Key × Refutation → Bool
may_refute top task worker e = (e.0.top == top) && may_answer task.set worker e.1

-- The most recently used map whose set contains the task's.
abbrev pub holding_map : CacheView → ℕ → Task → Option (Key × List (ℕ × ℕ))
holding_map view top task = find (holds_task top task) view.maps

-- The most recently used refutation that may be valid.
abbrev pub likely_refutation : CacheView → ℕ → Task → Worker → Option (Key × Refutation)
likely_refutation view top task worker = find (may_refute top task worker) view.refutations

-- The suggestion, given these two entries: the changes of the map, or else the refutation.
abbrev pub found_suggestion : Task → Option (Key × List (ℕ × ℕ)) → Option (Key × Refutation) → Option Answer
found_suggestion task (Some e) refutation = Some (Fit (changes_on task.set task.last e.1))
found_suggestion task None refutation = option_map (λ e. Refuted e.1) refutation

-- The suggestion of the cache.
abbrev pub suggested_answer : CacheView → ℕ → Task → Worker → Option Answer
suggested_answer view top task worker = found_suggestion task (holding_map view top task) (likely_refutation view top task worker)

-- The cache after its suggestion: the entry becomes the first of its kind.
abbrev pub after_suggested : CacheView → ℕ → Task → Worker → CacheView
after_suggested view top task worker = moved_to_front view (holding_map view top task) (likely_refutation view top task worker)

-- The result of a search, if this map is suggested.
abbrev pub changes_found : Task → Key × List (ℕ × ℕ) → FoundAnswer
changes_found task e = record { key = e.0; answer = Fit (changes_on task.set task.last e.1) }
