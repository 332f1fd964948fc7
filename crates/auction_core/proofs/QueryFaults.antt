-- The current query, and what settles it. For `step_check`.
use Rattle.std.proofs.Common.{◌≡◌, ◌==◌, ◌&&◌, ℕ, Bool, true, false, List, [], ◌∷◌, Option, Some, None, is_none, if◌then◌else◌, MatchOption, refl, sym, ap, subst, eqb-true}
use Rattle.std.proofs.lemmas.Bool.{and_parts}
use Rattle.std.proofs.lemmas.Option.{none-some}
use Rattle.pack_defs.specs.declared.scenario.Scenario.{Scenario}
use Rattle.pack_defs.specs.Book.{BookView}
use Rattle.pack_defs.specs.Lists.{is_empty}
use Rattle.pack_defs.specs.ClockRule.{ClockTest}
use Rattle.cert_types.specs.declared.task.Task.{Task}
use Rattle.auction_core.specs.declared.record.Shown.{Shown}
use Rattle.auction_core.specs.State.{CoreState, first_task, has_ended, start_task, task_of}
use Rattle.auction_core.specs.Backed.{IsSettledBy}
use Rattle.auction_core.specs.Rule.{SettlesQuery}
use Rattle.auction_core.specs.Checked.{is_about}
use Rattle.auction_core.specs.NotShown.{query_fault}
use Rattle.auction_core.proofs.StepLemmas.{query-shown}

-- if there is a current query, the auction has not ended
pub standing : (sc : Scenario) (book : BookView) (state : CoreState) (task : Task) → task_of sc book state ≡ Some task → has_ended state ≡ false
unfolding task_of
standing sc book state task e = go (is_none state.start) state.left e
  where
    go : (b : Bool) (left : List ClockTest) → (if b then Some (start_task sc state.number) else first_task sc book state left) ≡ Some task → (if b then false else is_empty left) ≡ false
    go true left f = refl
    go false [] f = absurd (none-some task f)
    go false (t ∷ ts) f = refl

pub settles : (sc sc' : Scenario) (book book' : BookView) (state state' : CoreState) (task : Task) (shown shown' : Shown) → sc' ≡ sc → book' ≡ book → state' ≡ state
    → task_of sc book state ≡ Some task → shown' ≡ shown → IsSettledBy sc book task shown → SettlesQuery sc' book' state' shown'
settles sc sc' book book' state state' task shown shown' es eb et is same settled =
    let here : SettlesQuery sc book state shown' = subst (λ (o : Option Task). MatchOption o ⊥ (λ task. IsSettledBy sc book task shown')) (sym is) (subst (IsSettledBy sc book task) (sym same) settled) in
    subst (λ s. SettlesQuery s book' state' shown') (sym es) (subst (λ b. SettlesQuery sc b state' shown') (sym eb) (subst (λ st. SettlesQuery sc book st shown') (sym et) here))

-- a query about a station
about-is : (o : Option ℕ) (s : ℕ) → is_about o s ≡ true → o ≡ Some s
about-is None s e = absurd cc
about-is (Some t) s e = ap Some (eqb-true t s e)

-- what settles a query about the step's test
pub about-settled : (sc : Scenario) (book : BookView) (task : Task) (round s : ℕ) (shown : Shown) (firsts : List ℕ) → (task.round == round && is_about task.station s) ≡ true → query_fault sc book task shown firsts ≡ None → IsSettledBy sc book task shown
about-settled sc book task round s shown firsts about none =
    (query-shown sc book task s shown firsts (about-is task.station s (and_parts (task.round == round) (is_about task.station s) about).1) none).0
