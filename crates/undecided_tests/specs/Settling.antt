-- The packing formula of a step's test, and the record that the text of a log from outside leads to. The formula is
-- the clause form of SATFC (Newman, Fréchette, Leyton-Brown 2017) as DIMACS CNF, and the log is one of LRAT
-- (Cruz-Filipe et al. 2017). The cut at the first empty line and the limit of 1,000,000 lines are this project's own.
use Rattle.std.specs.Prelude.{ℕ, ◌≡◌, if◌then◌else◌, List, [], is_none, Result, Ok, Err}
use Rattle.std.specs.Option.{option_map_or}
use Rattle.pack_defs.specs.Book.{BookView}
use Rattle.cnf_encode.specs.Formula.{packing_formula, variables_in}
use Rattle.rup_check.specs.declared.line.Log.{Log}
use Rattle.cert_types.specs.Outside.{outside_fault}
use Rattle.cert_types.specs.declared.outside.OutsideProof.{OutsideProof}
use Rattle.cert_types.specs.declared.answer.CertifyWhy.{CertifyWhy}
use Rattle.cert_types.specs.declared.answer.CertifyWhy.TheVariants.{Rejected}
use Rattle.cert_types.specs.declared.answer.CertifyWhy.TheVariants as certify
use Rattle.auction_core.specs.declared.record.Record.{Record}
use Rattle.lrat_text.specs.Read.{log_of}
use Rattle.lrat_text.specs.Write.{dimacs_text}
use Rattle.lrat_text.specs.declared.error.LratErr.{LratErr}
use Rattle.lrat_text.specs.declared.error.LratErr.TheVariants as lrat
use Rattle.auction_core.specs.LogNumbers.{clauses_in}
use Rattle.undecided_tests.specs.Cut.{up_to_empty}
use Rattle.undecided_tests.specs.Queries.{task_at}
use Rattle.undecided_tests.specs.Settled.{settled_by}
use Rattle.undecided_tests.specs.declared.settle.SettleErr.{SettleErr}
use Rattle.undecided_tests.specs.declared.settle.SettleErr.TheVariants.{Unread, NoRefutation, NoMemory}

-- The stations that the step with this number asked about.
abbrev pub set_of_step : BookView → Record → ℕ → List ℕ
set_of_step book rec step = option_map_or (λ task. task.set) (task_at book rec step) []

-- The text of their packing formula.
abbrev pub formula_text : BookView → Record → ℕ → List ℕ
formula_text book rec step =
    let set = set_of_step book rec step in
    dimacs_text (record { vars = variables_in book set; list = packing_formula book set })

-- A log up to its first empty line, as a proof from outside.
abbrev pub cut_proof : Log → OutsideProof
cut_proof log = record { log = record { lines = up_to_empty log.lines } }

-- The record with the step with this number settled by this proof, if the proof refutes the step's set.
abbrev pub settled_or : BookView → Record → ℕ → OutsideProof → Result Record SettleErr
settled_or book rec step proof =
    if is_none (outside_fault book (set_of_step book rec step) proof.log.lines) then Ok (settled_by rec step proof) else Err NoRefutation

-- The record with the step with this number settled by a log that was read, cut at its first empty line; or why the
-- log was not read.
abbrev pub settled_log : BookView → Record → ℕ → Result Log LratErr → Result Record SettleErr
settled_log book rec step (Err why) = Err (Unread why)
settled_log book rec step (Ok log) = settled_or book rec step (cut_proof log)

-- The record with the step with this number settled by the log that this text spells over the clauses of the step's
-- set. Otherwise why the text does not settle the step: it is not a log, or the log does not refute the set.
unfoldable pub settled_text : BookView → Record → ℕ → List ℕ → Result Record SettleErr
settled_text book rec step text = settled_log book rec step (log_of text (clauses_in book (set_of_step book rec step)))

-- The error for a text that could not be read as a log.
abbrev pub unread_error : LratErr → SettleErr
unread_error lrat.Truncated = Unread lrat.Truncated
unread_error (lrat.BadLine n) = Unread (lrat.BadLine n)
unread_error (lrat.RatStep n) = Unread (lrat.RatStep n)
unread_error lrat.NoMemory = NoMemory

-- The error for a log that was rejected.
abbrev pub rejected_error : CertifyWhy → SettleErr
rejected_error (Rejected place) = NoRefutation
rejected_error certify.NoMemory = NoMemory

-- Whether settling fails with this error; true for `NoMemory`, which the definitions do not speak of.
abbrev pub SettleFails : SettleErr → Result Record SettleErr → Type 0
SettleFails (Unread why) wanted = wanted ≡ Err (Unread why)
SettleFails NoRefutation wanted = wanted ≡ Err NoRefutation
SettleFails NoMemory wanted = Unit {0}
