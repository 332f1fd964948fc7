-- A start without a fault is properly settled, and the converse. For `check_sequence`.
use Rattle.std.proofs.Common.{◌≡◌, ℕ, Bool, true, false, if◌then◌else◌, List, [], ◌∷◌, find, Option, Some, None, option_map, is_none, MatchOption, refl, sym, subst}
use Rattle.pack_defs.specs.declared.scenario.Scenario.{Scenario}
use Rattle.pack_defs.specs.Book.{BookView, domain_of}
use Rattle.pack_defs.specs.Lists.{is_empty}
use Rattle.pack_defs.specs.Prices.{start_set}
use Rattle.pack_defs.specs.declared.order.Order.{Order}
use Rattle.cert_types.specs.declared.answer.Place.TheVariants.{Kind}
use Rattle.cert_types.specs.Valid.{fit_fault, unless}
use Rattle.cert_types.proofs.Validity.{unless-parts, fit-clean}
use Rattle.auction_core.specs.declared.record.Shown.{Shown}
use Rattle.auction_core.specs.declared.record.Shown.TheVariants.{Empty, Fits, Same, NoChannel, Refuted, Outside, Undecided}
use Rattle.auction_core.specs.declared.record.Step.{Step}
use Rattle.auction_core.specs.declared.record.Ending.TheVariants.{Done}
use Rattle.auction_core.specs.State.{CoreState, before_start, settled, shows_room, start_task, start_unasked, test_of}
use Rattle.auction_core.specs.Backed.{IsSettledBy, IsStartShown, after_start, after_steps, ending_of}
use Rattle.auction_core.specs.Rule.{IsAuction}
use Rattle.auction_core.specs.ClockProgress.{IsClockProgress}
use Rattle.auction_core.proofs.Keeps.{first-walk}
use Rattle.auction_core.specs.NotShown.{start_fault}
use Rattle.auction_core.proofs.StepLemmas.{absurd-place, clean-fit}

-- ---- the start

none-is : (o : Option Shown) → is_none o ≡ true → o ≡ None
none-is None e = refl
none-is (Some x) e = absurd cc

pub start-shown : (sc : Scenario) (book : BookView) (start : Shown) → start_fault sc book start ≡ None → IsStartShown sc book start × (ending_of start ≡ Done)
start-shown sc book Empty e =
    let parts = unless-parts (is_empty (start_set sc)) Kind None e in
    (rw parts.0 refl, refl)
start-shown sc book (Fits delta) e =
    let parts = unless-parts (is_none (start_unasked sc book)) Kind (fit_fault book (start_task sc 1) delta) e in
    let none = none-is (start_unasked sc book) parts.0 in
    (subst (λ o. MatchOption o (IsSettledBy sc book (start_task sc 1) (Fits delta)) (λ unasked. Fits delta ≡ unasked)) (sym none) (fit-clean book (start_task sc 1) delta parts.1), refl)
start-shown sc book Same e = absurd (absurd-place Kind e)
start-shown sc book (NoChannel s) e = absurd (absurd-place Kind e)
start-shown sc book (Refuted w how) e = absurd (absurd-place Kind e)
start-shown sc book (Outside proof) e = absurd (absurd-place Kind e)
start-shown sc book (Undecided xs) e = absurd (absurd-place Kind e)

pub start-none : (sc : Scenario) (book : BookView) (start : Shown) → IsStartShown sc book start → ending_of start ≡ Done → start_fault sc book start ≡ None
start-none sc book Empty h d =
    go (is_empty (start_set sc)) (find (λ s. is_empty (domain_of book s)) (start_set sc)) h
  where
    go : (b : Bool) (o : Option ℕ) → MatchOption (if b then Some Empty else option_map NoChannel o) ⊥ (λ unasked. Empty ≡ unasked) → unless b Kind None ≡ None
    go true o h = refl
    go false None h = absurd h
    go false (Some s) h = absurd cc
start-none sc book (Fits delta) h d =
    go (is_empty (start_set sc)) (find (λ s. is_empty (domain_of book s)) (start_set sc)) h
  where
    go : (b : Bool) (o : Option ℕ) → MatchOption (if b then Some Empty else option_map NoChannel o) (IsSettledBy sc book (start_task sc 1) (Fits delta)) (λ unasked. Fits delta ≡ unasked)
        → unless (is_none (if b then Some Empty else option_map NoChannel o)) Kind (fit_fault book (start_task sc 1) delta) ≡ None
    go true o h = absurd cc
    go false None h = clean-fit book (start_task sc 1) delta h
    go false (Some s) h = absurd cc
start-none sc book Same h d =
    go (is_empty (start_set sc)) (find (λ s. is_empty (domain_of book s)) (start_set sc)) h
  where
    go : (b : Bool) (o : Option ℕ) → MatchOption (if b then Some Empty else option_map NoChannel o) ⊥ (λ unasked. Same ≡ unasked) → Some Kind ≡ None
    go true o h = absurd cc
    go false None h = absurd h
    go false (Some s) h = absurd cc
start-none sc book (NoChannel s) h d = absurd cc
start-none sc book (Refuted w how) h d = absurd cc
start-none sc book (Outside proof) h d = absurd cc
start-none sc book (Undecided xs) h d = absurd cc

pub start-walk : (sc : Scenario) (book : BookView) (order : Order) (start : Shown) → IsAuction sc book → IsStartShown sc book start → shows_room start ≡ true → IsClockProgress sc book start (after_start sc order start) []
start-walk sc book order start a h r = first-walk sc book start (before_start sc order) a (record { clock = refl; left = refl; map = refl; steps = refl }) h r

pub after_steps-order : (sc : Scenario) (state : CoreState) (xs : List Step) → (after_steps sc state xs).order ≡ state.order
after_steps-order sc state [] = refl
after_steps-order sc state (x ∷ xs) = after_steps-order sc (settled sc state (test_of x) x.shown) xs
