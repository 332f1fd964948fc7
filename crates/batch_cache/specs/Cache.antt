-- The entries of a cache, and how an answer is stored. This is the project's own; SATFC keeps such maps in a
-- containment cache (Newman, Fréchette, Leyton-Brown 2017).
use Rattle.std.specs.Prelude.{ℕ, Bool, not, ◌&&◌, ◌==◌, List, ◌∷◌, filter, take}
use Rattle.pack_defs.specs.Lists.{same_list}
use Rattle.pack_defs.specs.ChannelMap.{overlaid}
use Rattle.cert_types.specs.declared.answer.Answer.{Answer}
use Rattle.cert_types.specs.declared.answer.Answer.TheVariants.{Fit, Refuted, Spent}
use Rattle.cert_types.specs.declared.answer.Refutation.{Refutation}
use Rattle.cert_types.specs.declared.task.Task.{Task}
use Rattle.batch_cache.specs.declared.key.Key.{Key}

-- Channel maps and refutations, each under the top channel and the set for which it was found, the most recently used
-- first, and how many of each there is room for.
pub record CacheView : Type 0 where
  pub room : ℕ
  pub maps : List (Key × List (ℕ × ℕ))
  pub refutations : List (Key × Refutation)

-- Whether two keys have the same top channel and the same set.
abbrev pub same_key : Key → Key → Bool
same_key k l = (k.top == l.top) && same_list k.set l.set

-- The key of a task's answer.
abbrev pub key_of : ℕ → Task → Key
key_of top task = record { top = top; set = task.set }

module _ {V : Type 0} where
  -- The entries without the one with this key.
  abbrev pub without_key : Key → List (Key × V) → List (Key × V)
  without_key key entries = filter (λ e. not (same_key key e.0)) entries

  -- The entry first, and no other with its key.
  abbrev pub to_front : Key × V → List (Key × V) → List (Key × V)
  to_front entry entries = entry ∷ without_key entry.0 entries

  -- The entry first, and as many of the others as there is room for.
  abbrev pub first_kept : ℕ → Key × V → List (Key × V) → List (Key × V)
  first_kept room entry entries = take room (to_front entry entries)

-- The cache after an answer to a task was stored: for a fit the map that it leads to.
abbrev pub with_answer_put : CacheView → ℕ → Task → Answer → CacheView
with_answer_put view top task (Fit delta) = record view { maps = first_kept view.room (key_of top task, overlaid task.last delta) view.maps }
with_answer_put view top task (Refuted refutation) = record view { refutations = first_kept view.room (key_of top task, refutation) view.refutations }
with_answer_put view top task (Spent receipt) = view
