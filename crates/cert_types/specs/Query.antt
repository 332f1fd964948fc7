-- When a task is a query under a book, and what a solver's attempt at a query says.
use Rattle.std.specs.Prelude.{ℕ, Bool, false, true, not, ◌≡◌, ◌≢◌, ◌&&◌, ◌||◌, ◌==◌, List, Option, Some, None, is_none}
use Rattle.std.specs.List.{list_all}
use Rattle.pack_defs.specs.Book.{BookView, domain_of}
use Rattle.pack_defs.specs.Lists.{has_station, is_ascending, is_empty, is_in}
use Rattle.pack_defs.specs.declared.worker.Worker.{Worker}
use Rattle.assign_check.specs.Fault.{violation}
use Rattle.cert_types.specs.declared.poll.Attempt.{Attempt}
use Rattle.cert_types.specs.declared.poll.Attempt.TheVariants.{Said, Moved}
use Rattle.cert_types.specs.declared.task.Task.{Task}
use Rattle.cert_types.specs.Valid.{IsValid}

-- Whether each station of the set has some channel.
abbrev pub has_channels : BookView → List ℕ → Bool
has_channels book set = list_all (λ s. not (is_empty (domain_of book s))) set

-- Whether each entry is of a station of the set, on a channel of its domain.
abbrev pub is_on_domains : BookView → List ℕ → List (ℕ × ℕ) → Bool
is_on_domains book set entries = list_all (λ x. is_in set x.0 && is_in (domain_of book x.0) x.1) entries

-- Whether each station of the set except the tested one is in the map. The test of the start, which tests no single station,
-- passes.
abbrev pub places_others : Option ℕ → List ℕ → List (ℕ × ℕ) → Bool
places_others None set entries = true
places_others (Some s) set entries = list_all (λ t. (t == s) || has_station entries t) set

-- Whether the last map has stations of the set alone, on their domains, violates no pair, and has all of the set except the tested
-- station.
abbrev pub is_last_map : BookView → Task → Bool
is_last_map book task =
    is_on_domains book task.set task.last && (is_none (violation book task.last) && places_others task.station task.set task.last)

-- Whether the set ascends, each of its stations has a channel, and the last map is right for the set.
unfoldable pub is_query : BookView → Task → Bool
is_query book task = is_ascending task.set && (has_channels book task.set && is_last_map book task)

-- A task that a solver may be asked.
pub record IsQuery (book : BookView) (task : Task) : Type 0 where
  pub holds : is_query book task ≡ true

-- What the outcome of an attempt says: an answer is valid, and a number of another query is the latest answer of the poll.
abbrev pub AttemptIs : BookView → Task → Worker → ℕ → Attempt → Type 0
AttemptIs book task worker last (Said answer) = IsValid book task worker answer
AttemptIs book task worker last (Moved now) = (last ≡ now) × (now ≢ task.number)

-- Whether the map has the tested station.
abbrev pub is_named : Option ℕ → List (ℕ × ℕ) → Bool
is_named None entries = false
is_named (Some s) entries = has_station entries s
