-- The top channels up to which the stations that start on air fit, and the results that a search for the least may
-- have. The US incentive auction had a clearing target at which the stations staying on air fit. The binary search
-- for the least top is this project's own.
use Rattle.std.specs.Prelude.{ℕ, ◌≡◌, ◌≤◌, ◌<◌, ◌⊎◌, ◌-◌, Bool, List, Contains, IsFalse, IsTrue, ⊤}
use Rattle.pack_defs.specs.declared.domain.Domain.{Domain}
use Rattle.pack_defs.specs.declared.pair.Pair.{Pair}
use Rattle.pack_defs.specs.declared.scenario.Scenario.{Scenario}
use Rattle.pack_defs.specs.Book.{BookView, cut_book}
use Rattle.pack_defs.specs.Packing.{fits}
use Rattle.pack_defs.specs.Prices.{start_set}
use Rattle.target_seek.specs.declared.sought.Sought.{Sought}
use Rattle.target_seek.specs.declared.sought.Sought.TheVariants.{NoneFits, LastOpen, Least, AboveOpen}
use Rattle.target_seek.specs.declared.top_test.TopAnswer.{TopAnswer}
use Rattle.target_seek.specs.declared.top_test.TopAnswer.TheVariants.{Fits, Unfit, Open}

-- All that the start set and its fitting depend on, except the top channel: the scenario, and the domains and pairs
-- of the constraint files before a top cuts them.
pub record SeekBase : Type 0 where
  pub scenario : Scenario
  pub domains : List Domain
  pub pairs : List Pair

-- The book of the start set up to this top channel.
abbrev pub book_at : SeekBase → ℕ → BookView
book_at base top = cut_book top (start_set base.scenario) base.domains base.pairs

-- Whether the start set fits up to this top channel.
abbrev pub fits_at : SeekBase → ℕ → Bool
fits_at base top = fits (book_at base top) (start_set base.scenario)

-- A top channel that was tested, and the answer.
pub record AskedTop : Type 0 where
  pub top : ℕ
  pub answer : TopAnswer

-- Whether the answer is true; an open one claims nothing.
abbrev pub IsTrueAt : SeekBase → ℕ → TopAnswer → Type 0
IsTrueAt base top Fits = IsTrue (fits_at base top)
IsTrueAt base top Unfit = IsFalse (fits_at base top)
IsTrueAt base top Open = ⊤

-- Whether each answer is true.
abbrev pub AreTrue : SeekBase → List AskedTop → Type 0
AreTrue base asked = (x : AskedTop) → Contains asked x → IsTrueAt base x.top x.answer

-- Whether this top was tested with this answer.
abbrev pub WasAnswered : List AskedTop → ℕ → TopAnswer → Type 0
WasAnswered asked top answer = Contains asked (record { top = top; answer = answer })

-- Whether the answers justify this result of a search from the first to the last of these tops. NoneFits: the last is
-- unfit. LastOpen: the last is open. Least: the top fits, and is the first or has an unfit one just below. AboveOpen:
-- the top fits and has an open one just below.
abbrev pub IsSought : ℕ → ℕ → List AskedTop → Sought → Type 0
IsSought first last asked NoneFits = WasAnswered asked last Unfit
IsSought first last asked LastOpen = WasAnswered asked last Open
IsSought first last asked (Least top) =
    (first ≤ top) × (top ≤ last) × WasAnswered asked top Fits × ((top ≡ first) ⊎ WasAnswered asked (top - 1) Unfit)
IsSought first last asked (AboveOpen top) =
    (first < top) × (top ≤ last) × WasAnswered asked top Fits × WasAnswered asked (top - 1) Open

-- Whether the result is true of the start set. NoneFits: it fits at no top up to the last. LastOpen: nothing is
-- claimed. Least: it fits at this top and at no lesser one from the first on. AboveOpen: it fits at this top.
abbrev pub IsTruth : SeekBase → ℕ → ℕ → Sought → Type 0
IsTruth base first last NoneFits = (top : ℕ) → top ≤ last → IsFalse (fits_at base top)
IsTruth base first last LastOpen = ⊤
IsTruth base first last (Least top) = IsTrue (fits_at base top) × ((lesser : ℕ) → lesser < top → first ≤ lesser → IsFalse (fits_at base lesser))
IsTruth base first last (AboveOpen top) = IsTrue (fits_at base top)
