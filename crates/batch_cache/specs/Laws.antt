-- That no entry leads to a valid answer, in plain statements.
use Rattle.std.specs.Prelude.{ℕ, ◌≡◌, List, Contains, true}
use Rattle.std.specs.List.{list_all}
use Rattle.pack_defs.specs.Book.{BookView}
use Rattle.pack_defs.specs.Lists.{is_in}
use Rattle.pack_defs.specs.declared.worker.Worker.{Worker}
use Rattle.cert_types.specs.declared.answer.Answer.TheVariants.{Fit, Refuted}
use Rattle.cert_types.specs.declared.answer.Refutation.{Refutation}
use Rattle.cert_types.specs.declared.task.Task.{Task}
use Rattle.cert_types.specs.Valid.{IsValid}
use Rattle.batch_cache.specs.declared.key.Key.{Key}
use Rattle.batch_cache.specs.Answering.{restrict_to}
use Rattle.batch_cache.specs.Cache.{CacheView}

-- Whether no map of the top channel whose set contains the task's leads to a valid fit, and no refutation of the top
-- channel is valid.
pub record IsNoneKept (view : CacheView) (top : ℕ) (book : BookView) (task : Task) (worker : Worker) : Type 0 where
  pub maps : (e : Key × List (ℕ × ℕ)) → Contains view.maps e → e.0.top ≡ top → list_all (is_in e.0.set) task.set ≡ true →
      IsValid book task worker (Fit (restrict_to task.set e.1)) → ⊥
  pub refutations : (e : Key × Refutation) → Contains view.refutations e → e.0.top ≡ top → IsValid book task worker (Refuted e.1) → ⊥
