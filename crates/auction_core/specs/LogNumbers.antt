-- The numbers with which the logs of a transcript's steps begin. As in LRAT (Cruz-Filipe et al. 2017), the lines of a log are
-- numbered on from the clauses of its formula. Which steps have a log is this project's own rule.
use Rattle.std.specs.Prelude.{ℕ, ◌+◌, ◌≡◌, List, [], ◌∷◌, map, length}
use Rattle.pack_defs.specs.Book.{BookView}
use Rattle.pack_defs.specs.declared.scenario.Scenario.{Scenario}
use Rattle.cnf_encode.specs.Formula.{packing_formula}
use Rattle.rup_check.specs.declared.line.Line.{Line}
use Rattle.cert_types.specs.declared.answer.Receipt.{Receipt}
use Rattle.cert_types.specs.declared.answer.Receipt.TheVariants.{Lines, Moves}
use Rattle.auction_core.specs.declared.record.Shown.{Shown}
use Rattle.auction_core.specs.declared.record.Shown.TheVariants.{Empty, Fits, Same, NoChannel, Refuted, Outside, Undecided}
use Rattle.auction_core.specs.declared.record.Step.{Step}
use Rattle.auction_core.specs.declared.transcript.TranscriptStep.{TranscriptStep}
use Rattle.auction_core.specs.State.{CoreState, settled, test_of, tested_set}

-- The number of clauses in the packing formula of a set of stations.
abbrev pub clauses_in : BookView → List ℕ → ℕ
clauses_in book set = length (packing_formula book set)

-- The number of the first line of a log over this many clauses; 0 if the log has no line.
abbrev pub first_number : ℕ → List Line → ℕ
first_number clauses [] = 0
first_number clauses (x ∷ xs) = clauses + 1

-- The number of the first line of a receipt's log; 0 if the receipt has no log or the log has no line.
abbrev pub first_of : ℕ → Receipt → ℕ
first_of clauses (Lines log) = first_number clauses log.lines
first_of clauses (Moves moves) = 0

-- The number of the first line of each log of a step that extends the clauses of its test's set.
abbrev pub firsts_of : ℕ → Shown → List ℕ
firsts_of clauses Empty = []
firsts_of clauses (Fits delta) = []
firsts_of clauses Same = []
firsts_of clauses (NoChannel s) = []
firsts_of clauses (Refuted worker how) = []
firsts_of clauses (Outside proof) = first_number clauses proof.log.lines ∷ []
firsts_of clauses (Undecided receipts) = map (first_of clauses) receipts

-- The steps of a transcript, without the line numbers of their logs.
abbrev pub steps_in : List TranscriptStep → List Step
steps_in xs = map (λ x. x.step) xs

-- Whether the step's logs begin with the right numbers in this state.
abbrev pub IsNumbered : Scenario → BookView → CoreState → TranscriptStep → Type 0
IsNumbered sc book state x =
    x.firsts ≡ firsts_of (clauses_in book (tested_set sc book state.clock x.step.station)) x.step.shown

-- Whether the logs of each of these steps begin with the right numbers, from this state on.
abbrev pub AreNumbered : Scenario → BookView → CoreState → List TranscriptStep → Type 0
AreNumbered sc book state [] = Unit {0}
AreNumbered sc book state (x ∷ xs) =
    IsNumbered sc book state x × AreNumbered sc book (settled sc state (test_of x.step) x.step.shown) xs
