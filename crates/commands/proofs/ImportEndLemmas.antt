-- An import that was completed: the new record, its result, and the files.
use Rattle.std.proofs.Common.{◌≡◌, ◌≢◌, ◌∙◌, ℕ, Bool, true, false, List, [], ◌∷◌, map, refl, sym, ap, subst, Option, Some, None}
use Rattle.std.specs.Prelude.{IfErr, IfOk, Ok, Err, MatchOption, Result, if◌then◌else◌, ⊤}
use Rattle.std.proofs.lemmas.Bool.{true≢false}
use Rattle.outside_io.specs.declared.folder.LoadErr.{LoadErr}
use Rattle.outside_io.specs.declared.folder.LoadErr.TheVariants.{Failed, TooLong, NoMemory as NoLoad}
use Rattle.pack_defs.specs.ClockRule.{clock_rule}
use Rattle.pack_defs.specs.ResultRows.{result_rows}
use Rattle.auction_core.specs.Backed.{IsBacked, is_undecided, undecided_of}
use Rattle.auction_core.specs.Rule.{IsAuction}
use Rattle.auction_core.specs.State.{test_of}
use Rattle.auction_core.specs.declared.record.Ending.TheVariants.{Done}
use Rattle.auction_core.specs.declared.record.Record.{Record}
use Rattle.auction_core.specs.declared.record.Step.{Step}
use Rattle.cert_types.specs.declared.outside.OutsideProof.{OutsideProof}
use Rattle.transcript_text.specs.RoundTrip.{IsHeld}
use Rattle.undecided_tests.specs.Queries.{step_numbered}
use Rattle.undecided_tests.specs.Settled.{IsLeftOpen, RefutesStep, decided_row, settled_by, without_test}
use Rattle.undecided_tests.specs.Settling.{SettleFails, cut_proof, settled_text}
use Rattle.undecided_tests.specs.declared.settle.SettleErr.{SettleErr}
use Rattle.undecided_tests.specs.declared.settle.SettleErr.TheVariants.{Unread, NoRefutation, NoMemory as NoRoom}
use Rattle.undecided_tests.proofs.SettleLemmas.{said-refutes, settled-said}
use Rattle.undecided_tests.proofs.RecordLemmas.{settled-clock, settled-left}
use Rattle.undecided_tests.proofs.RowLemmas.{rows-decided}
use Rattle.commands.specs.declared.inputs.Inputs.{Inputs}
use Rattle.commands.specs.declared.settling.StepFault.{StepFault}
use Rattle.commands.specs.declared.settling.StepFault.TheVariants.{NotUndecided}
use Rattle.commands.specs.Delivery.{Delivers}
use Rattle.commands.specs.Records.{IsRecordIn, done_status, outcome, summary_in}
use Rattle.commands.specs.Settling.{open_fault, step_line}
use Rattle.commands.specs.Ends.{ImportEnds, IsFileHeld, IsShown, import_texts}
use Rattle.commands.specs.Ends.ImportEnds.{ImportOutOfMemory, NoLog, NoOpenStep, NotSettled, Settled}
use Rattle.commands.specs.Ends.IsNotLoaded.{Unloaded, LongText}
use Rattle.commands.specs.Faults.{AreFaultsCounted}
use Rattle.commands.specs.Outside.{IsLinePrinted, Outside}
use Rattle.commands.specs.Shown.{ExplainsLoad, ExplainsLog, IsFileRead, IsSettling}
use Rattle.command_words.specs.Words.{ImportNames}
use Rattle.commands.proofs.DeliveryLemmas.{IsSince, delivers-since}
use Rattle.commands.proofs.Statuses.{off, one-of}
use Rattle.commands.proofs.RecordLemmas.{record-in}

-- ---- the step

-- A step that can be settled exists and is undecided.
pub undecided-some : (o : Option Step) → open_fault o ≡ None → (x : Step) × (o ≡ Some x) × (is_undecided x.shown ≡ true)
undecided-some None e = cc
undecided-some (Some x) e = (x, refl, go (is_undecided x.shown) refl e)
  where
    go : (b : Bool) → is_undecided x.shown ≡ b → (if b then None else Some NotUndecided) ≡ None → is_undecided x.shown ≡ true
    go true is f = is
    go false is f = cc

pub left-undecided : (rec : Record) (step : ℕ) (x : Step) → step_numbered rec.steps step ≡ Some x → is_undecided x.shown ≡ true → IsLeftOpen rec step
left-undecided rec step x there undecided = subst (λ o. MatchOption o ⊥ (λ y. is_undecided y.shown ≡ true)) (sym there) undecided

-- A step with an error is not free of errors.
pub two-faults : {X : Type 0} (o : Option Step) (fault : StepFault) → open_fault o ≡ Some fault → open_fault o ≡ None → X
two-faults o fault some none = cc (sym some ∙ none)

-- ---- what it changes

-- What an import changes of the undecided tests, and of the rows of the result.
pub record IsChanged (inputs : Inputs) (rec new : Record) (x : Step) : Type 0 where
  pub left : undecided_of new.steps ≡ without_test (test_of x) (undecided_of rec.steps)
  pub rows : result_rows inputs.scenario (outcome new.order inputs (undecided_of new.steps)) (undecided_of new.steps)
      ≡ map (decided_row (test_of x)) (result_rows inputs.scenario (outcome rec.order inputs (undecided_of rec.steps)) (undecided_of rec.steps))

pub changed : (inputs : Inputs) (rec new : Record) (step : ℕ) (text : List ℕ) (x : Step) → IsAuction inputs.scenario inputs.book → IsRecordIn rec.order inputs rec → step_numbered rec.steps step ≡ Some x → is_undecided x.shown ≡ true
    → settled_text inputs.book rec step text ≡ Ok new → IsChanged inputs rec new x
changed inputs rec new step text x a own there undecided settled =
    let said = settled-said inputs.book rec new step text settled in
    let proof : OutsideProof = cut_proof said.log in
    let sc = inputs.scenario in
    let book = inputs.book in
    let U = undecided_of rec.steps in
    let left = left-undecided rec step x there undecided in
    let refutes : RefutesStep book rec step proof = said-refutes book rec step proof x there said.refutes in
    let clock : clock_rule sc book rec.order (undecided_of (settled_by rec step proof).steps) ≡ clock_rule sc book rec.order U = settled-clock sc book rec step proof a own.backed left refutes in
    let left_now : undecided_of (settled_by rec step proof).steps ≡ without_test (test_of x) U =
    subst (λ o. MatchOption o ⊤ (λ y. undecided_of (settled_by rec step proof).steps ≡ without_test (test_of y) U)) there (settled-left sc book rec step proof a own.backed left) in
    let rows : result_rows sc (clock_rule sc book rec.order (undecided_of (settled_by rec step proof).steps)) (undecided_of (settled_by rec step proof).steps) ≡ map (decided_row (test_of x)) (result_rows sc (clock_rule sc book rec.order U) U) =
    ap (λ st. result_rows sc st (undecided_of (settled_by rec step proof).steps)) clock
    ∙ ap (result_rows sc (clock_rule sc book rec.order U)) left_now
    ∙ rows-decided sc (clock_rule sc book rec.order U) U (test_of x) in
    subst (λ (r : Record). IsChanged inputs rec r x) (sym said.same) (record { left = left_now; rows = rows })

-- ---- the result of an import

-- The record with a settled step is one of the inputs' auction.
pub settling : (inputs : Inputs) (rec : Record) (step : ℕ) (text : List ℕ) (r : Result Record SettleErr) → IsAuction inputs.scenario inputs.book → IsRecordIn rec.order inputs rec
    → IfOk r (λ new. settled_text inputs.book rec step text ≡ Ok new) → IfOk r (IsBacked rec.scenario inputs.book rec.order) → IfErr r (λ e. SettleFails e (settled_text inputs.book rec step text))
    → IsSettling inputs (settled_text inputs.book rec step text) r
settling inputs rec step text (Ok new) a own settled backed why =
    let said = settled-said inputs.book rec new step text settled in
    let done : new.ending ≡ Done = ap (λ (r : Record). r.ending) said.same ∙ own.ending in
    let of : IsBacked inputs.scenario inputs.book rec.order new = let b = own.backed in subst (λ sc. IsBacked sc inputs.book rec.order new) b.scenario backed in
    (settled, record-in new.order inputs new a (subst (λ o. IsBacked inputs.scenario inputs.book o new) (sym of.order_is) of) done)
settling inputs rec step text (Err why) a own settled backed is = is

-- ---- how an import ends

-- The log was not loaded.
pub no-log : (names : ImportNames) (before after : Outside) (status : ℕ) (found : Option Record) (inputs : Inputs) (rec : Record) (why : LoadErr) → IsShown names.shown before inputs rec → open_fault (step_numbered rec.steps names.step) ≡ None
    → IsFileRead before.files before.steady before.faults after.faults names.proof (Err why) → ExplainsLoad names.proof why before.held after.held before.sink_faults after.sink_faults status
    → found ≡ None → after.files ≡ before.files → ImportEnds names before after status found
no-log names before after status found inputs rec Failed s is h e none files = NoLog inputs rec s is (Unloaded e.0 h.0 h.1 e.1) none files
no-log names before after status found inputs rec TooLong s is h e none files = NoLog inputs rec s is (LongText e.0 h e.1) none files
no-log names before after status found inputs rec NoLoad s is h e none files = ImportOutOfMemory (record { status_is = e.0; found_is = none; line = e.1; files = files })

-- The folder's fault count rose only at status 3.
pub no-log-counted : (name : List ℕ) (before after : Outside) (status : ℕ) (why : LoadErr) → ExplainsLoad name why before.held after.held before.sink_faults after.sink_faults status → (why ≢ Failed → after.faults ≡ before.faults) → AreFaultsCounted before after status
no-log-counted name before after status Failed e stands = record {
  folder = λ h. absurd (true≢false (sym (one-of (3 ∷ 4 ∷ []) status 3 e.0 refl) ∙ h));
  sink = λ h. absurd (off (0 ∷ 1 ∷ 11 ∷ []) status 3 h e.0 refl);
}
no-log-counted name before after status TooLong e stands = record { folder = λ h. stands (λ x. cc); sink = λ h. absurd (off (0 ∷ 1 ∷ 11 ∷ []) status 5 h e.0 refl) }
no-log-counted name before after status NoLoad e stands = record { folder = λ h. stands (λ x. cc); sink = λ h. absurd (off (0 ∷ 1 ∷ 11 ∷ []) status 8 h e.0 refl) }

-- The log settled nothing.
pub not-settled : (names : ImportNames) (before after : Outside) (status : ℕ) (found : Option Record) (inputs : Inputs) (rec : Record) (log : List ℕ) (why : SettleErr) → IsShown names.shown before inputs rec → open_fault (step_numbered rec.steps names.step) ≡ None
    → IsFileHeld names.proof before log → SettleFails why (settled_text inputs.book rec names.step log) → ExplainsLog names.proof why before.held after.held before.sink_faults after.sink_faults status
    → found ≡ None → after.files ≡ before.files → ImportEnds names before after status found
not-settled names before after status found inputs rec log (Unread why) s is held h e none files = NotSettled inputs rec log (Unread why) s is held h e.0 none e.1 files
not-settled names before after status found inputs rec log NoRefutation s is held h e none files = NotSettled inputs rec log NoRefutation s is held h e.0 none e.1 files
not-settled names before after status found inputs rec log NoRoom s is held h e none files = ImportOutOfMemory (record { status_is = e.0; found_is = none; line = e.1; files = files })

-- ---- the state before

-- What is settled, from the state before the transcript was read.
pub import-since : (names : ImportNames) (before between after : Outside) (status : ℕ) (found : Option Record) → between ≡ before → ImportEnds names between after status found → ImportEnds names before after status found
import-since names before between after status found same ends = subst (λ (b : Outside). ImportEnds names b after status found) same ends

-- There is no such step to settle, and a line says so.
pub no-open-step : (names : ImportNames) (before between after : Outside) (status : ℕ) (found : Option Record) (inputs : Inputs) (rec : Record) (fault : StepFault) → IsShown names.shown before inputs rec → open_fault (step_numbered rec.steps names.step) ≡ Some fault
    → status ≡ 10 → found ≡ None → between ≡ before → IsLinePrinted between after (step_line names.step fault) → after.files ≡ between.files → ImportEnds names before after status found
no-open-step names before between after status found inputs rec fault s is ten none same said files =
    NoOpenStep inputs rec fault s is ten none (subst (λ (b : Outside). IsLinePrinted b after (step_line names.step fault)) same said) (files ∙ ap (λ (o : Outside). o.files) same)

pub no-log-since : (names : ImportNames) (before between after : Outside) (status said : ℕ) (found : Option Record) (inputs : Inputs) (rec : Record) (why : LoadErr) → IsShown names.shown before inputs rec → open_fault (step_numbered rec.steps names.step) ≡ None
    → between ≡ before → IsFileRead between.files between.steady between.faults after.faults names.proof (Err why) → ExplainsLoad names.proof why between.held after.held between.sink_faults after.sink_faults said
    → status ≡ said → found ≡ None → after.files ≡ between.files → ImportEnds names before after status found
no-log-since names before between after status said found inputs rec why s is same h e status_is none files =
    no-log names before after status found inputs rec why s is
    (subst (λ (b : Outside). IsFileRead b.files b.steady b.faults after.faults names.proof (Err why)) same h)
    (subst (λ (b : Outside). ExplainsLoad names.proof why b.held after.held b.sink_faults after.sink_faults status) same (subst (ExplainsLoad names.proof why between.held after.held between.sink_faults after.sink_faults) (sym status_is) e))
    none (files ∙ ap (λ (o : Outside). o.files) same)

pub no-log-counted-since : (name : List ℕ) (before between after : Outside) (status said : ℕ) (why : LoadErr) → between ≡ before → ExplainsLoad name why between.held after.held between.sink_faults after.sink_faults said → status ≡ said
    → (why ≢ Failed → after.faults ≡ between.faults) → AreFaultsCounted before after status
no-log-counted-since name before between after status said why same e status_is stands =
    no-log-counted name before after status why
    (subst (λ (b : Outside). ExplainsLoad name why b.held after.held b.sink_faults after.sink_faults status) same (subst (ExplainsLoad name why between.held after.held between.sink_faults after.sink_faults) (sym status_is) e))
    (λ not. stands not ∙ ap (λ (o : Outside). o.faults) same)

pub not-settled-since : (names : ImportNames) (before between after : Outside) (status said : ℕ) (found : Option Record) (inputs : Inputs) (rec : Record) (log : List ℕ) (why : SettleErr) → IsShown names.shown before inputs rec → open_fault (step_numbered rec.steps names.step) ≡ None
    → between ≡ before → IsFileHeld names.proof between log → SettleFails why (settled_text inputs.book rec names.step log) → ExplainsLog names.proof why between.held after.held between.sink_faults after.sink_faults said
    → status ≡ said → found ≡ None → after.files ≡ between.files → ImportEnds names before after status found
not-settled-since names before between after status said found inputs rec log why s is same held h e status_is none files =
    not-settled names before after status found inputs rec log why s is
    (subst (λ (b : Outside). IsFileHeld names.proof b log) same held) h
    (subst (λ (b : Outside). ExplainsLog names.proof why b.held after.held b.sink_faults after.sink_faults status) same (subst (ExplainsLog names.proof why between.held after.held between.sink_faults after.sink_faults) (sym status_is) e))
    none (files ∙ ap (λ (o : Outside). o.files) same)

-- The log settled the step, and the new record was delivered.
pub settled-since : (names : ImportNames) (before between later after : Outside) (status : ℕ) (found : Option Record) (inputs : Inputs) (rec : Record) (log : List ℕ) (new : Record) → IsShown names.shown before inputs rec → open_fault (step_numbered rec.steps names.step) ≡ None
    → between ≡ before → IsFileHeld names.proof between log → settled_text inputs.book rec names.step log ≡ Ok new → IsRecordIn new.order inputs new → IsHeld new → found ≡ Some new → IsSince between later
    → Delivers (import_texts names inputs new) (summary_in new.order inputs (undecided_of new.steps)) (done_status (undecided_of new.steps)) later after status → ImportEnds names before after status found
settled-since names before between later after status found inputs rec log new s is same held ok own kept some since d =
    Settled inputs rec log new s is (subst (λ (b : Outside). IsFileHeld names.proof b log) same held) ok own kept some
    (subst (λ (b : Outside). Delivers (import_texts names inputs new) (summary_in new.order inputs (undecided_of new.steps)) (done_status (undecided_of new.steps)) b after status) same
    (delivers-since (import_texts names inputs new) (summary_in new.order inputs (undecided_of new.steps)) (done_status (undecided_of new.steps)) between later after status d since))
