-- What the check of an answer requires and returns.
use Rattle.std.specs.Prelude.{◌≡◌, ⊤, IsTrue, Option, Some}
use Rattle.pack_defs.specs.declared.worker.Worker.{Worker}
use Rattle.pack_defs.specs.Book.{BookView}
use Rattle.pack_defs.specs.Lists.{is_ascending}
use Rattle.cert_types.specs.declared.task.Task.{Task}
use Rattle.cert_types.specs.declared.answer.Answer.{Answer}
use Rattle.cert_types.specs.declared.answer.Place.{Place}
use Rattle.cert_types.specs.declared.answer.CertifyWhy.{CertifyWhy}
use Rattle.cert_types.specs.declared.answer.CertifyWhy.TheVariants.{Rejected, NoMemory}

-- An answer, and the book, the task and the worker that it is valid for.
pub record Certificate : Type 0 where
  pub book : BookView
  pub task : Task
  pub worker : Worker
  pub answer : Answer

-- What the check of an answer requires of a task under a book: its set ascends.
pub record IsTaskOf (book : BookView) (task : Task) : Type 0 where
  pub rises : IsTrue (is_ascending task.set)

-- What a rejection says about the first fault of an answer. `Rejected` names the first fault, and `NoMemory` says nothing.
abbrev pub ReportsPlace : CertifyWhy → Option Place → Type 0
ReportsPlace (Rejected place) fault = fault ≡ Some place
ReportsPlace NoMemory fault = ⊤
