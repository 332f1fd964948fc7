-- Going through a clock's tests with steps: one more step, and how many queries the steps took.
use Rattle.std.proofs.Common.{◌≡◌, ℕ, ◌+◌, Bool, true, false, cond, if◌then◌else◌, List, [], ◌∷◌, ◌++◌, Option, Some, None, option_map, refl, sym, ap, ap₂, ◌∙◌, arith, inl, inr, append-nil}
use Rattle.std.specs.Option.{option_map_or}
use Rattle.std.proofs.lemmas.List.Sums.{sum_by-append}
use Rattle.pack_defs.specs.declared.scenario.Scenario.{Scenario}
use Rattle.pack_defs.specs.Book.{BookView}
use Rattle.pack_defs.specs.declared.order.Order.{Order}
use Rattle.pack_defs.specs.ClockRule.{ClockTest, clock_tests, is_active}
use Rattle.cert_types.specs.declared.task.Task.{Task}
use Rattle.auction_core.specs.declared.record.Shown.{Shown}
use Rattle.auction_core.specs.declared.record.Shown.TheVariants.{Empty, Fits, Same, NoChannel, Refuted, Outside, Undecided}
use Rattle.auction_core.specs.declared.record.Step.{Step}
use Rattle.auction_core.specs.declared.transcript.TranscriptStep.{TranscriptStep}
use Rattle.auction_core.specs.State.{CoreState, before_start, advance_to_query, settled, settled_unasked, shows_room}
use Rattle.auction_core.specs.Backed.{after_start}
use Rattle.auction_core.specs.Checked.{IsAt}
use Rattle.auction_core.specs.NotShown.{NotShown, next_asked, query_fault}
use Rattle.auction_core.specs.Prefix.{replay_tests, queries_taken, resumed, took_query}
use Rattle.auction_core.proofs.Sets.{unasked-cases}

-- ---- the tests left in the state play no part

go-on-left : (sc : Scenario) (book : BookView) (ts : List ClockTest) (state : CoreState) (l : List ClockTest) → advance_to_query sc book ts (record state { left = l }) ≡ advance_to_query sc book ts state
go-on-left sc book [] state l = refl
go-on-left sc book (t ∷ ts) state l =
    elim (is_active state.clock t.station) as (λ b. option_map_or (advance_to_query sc book ts) (if b then option_map (settled sc (record state { left = l }) t) (settled_unasked sc book state t) else Some (record state { left = l })) (record state { left = t ∷ ts })
    ≡ option_map_or (advance_to_query sc book ts) (if b then option_map (settled sc state t) (settled_unasked sc book state t) else Some state) (record state { left = t ∷ ts })) [
      | true ↦ elim (settled_unasked sc book state t) as (λ o. option_map_or (advance_to_query sc book ts) (option_map (settled sc (record state { left = l }) t) o) (record state { left = t ∷ ts }) ≡ option_map_or (advance_to_query sc book ts) (option_map (settled sc state t) o) (record state { left = t ∷ ts })) [
        | None ↦ refl
        | Some shown ↦ go-on-left sc book ts (settled sc state t shown) l
      ]
      | false ↦ go-on-left sc book ts state l
    ]

pub through-left : (sc : Scenario) (book : BookView) (ts : List ClockTest) (xs : List Step) (state : CoreState) (l : List ClockTest) → replay_tests sc book ts xs (record state { left = l }) ≡ replay_tests sc book ts xs state
through-left sc book ts [] state l = go-on-left sc book ts state l
through-left sc book [] (x ∷ xs) state l = refl
through-left sc book (t ∷ ts) (x ∷ xs) state l =
    elim (is_active state.clock t.station) as (λ b. (if b then replay_tests sc book ts xs (settled sc (record state { left = l }) t x.shown) else replay_tests sc book ts (x ∷ xs) (record state { left = l }))
    ≡ (if b then replay_tests sc book ts xs (settled sc state t x.shown) else replay_tests sc book ts (x ∷ xs) state)) [
      | true ↦ through-left sc book ts xs (settled sc state t x.shown) l
      | false ↦ through-left sc book ts (x ∷ xs) state l
    ]

-- ---- one more step

no-tests : (t : ClockTest) (ts : List ClockTest) → [] ≡ t ∷ ts → ⊥
no-tests t ts e = cc

-- a step settles the next test that is asked
pub through-next : (sc : Scenario) (book : BookView) (ts : List ClockTest) (t : ClockTest) (rest : List ClockTest) (x : Step) (xs : List Step) (state : CoreState) → next_asked state.clock ts ≡ t ∷ rest
    → replay_tests sc book ts (x ∷ xs) state ≡ replay_tests sc book rest xs (settled sc state t x.shown)
through-next sc book [] t rest x xs state e = absurd (no-tests t rest e)
through-next sc book (u ∷ us) t rest x xs state e = go (is_active state.clock u.station) e (λ f. through-next sc book us t rest x xs state f)
  where
    go : (b : Bool) → (if b then u ∷ us else next_asked state.clock us) ≡ t ∷ rest
        → (next_asked state.clock us ≡ t ∷ rest → replay_tests sc book us (x ∷ xs) state ≡ replay_tests sc book rest xs (settled sc state t x.shown))
        → (if b then replay_tests sc book us xs (settled sc state u x.shown) else replay_tests sc book us (x ∷ xs) state) ≡ replay_tests sc book rest xs (settled sc state t x.shown)
    go true f later =
        let same : u ≡ t = cc in
        let more : us ≡ rest = cc in
        ap₂ (λ (v : ClockTest) (vs : List ClockTest). replay_tests sc book vs xs (settled sc state v x.shown)) same more
    go false f later = later f

-- ---- queries

abbrev one-if : Bool → ℕ
one-if b = if b then 1 else 0

pub taken-more : (start : Shown) (done : List Step) (x : Step) (b : Bool) → took_query x.shown ≡ b → queries_taken start (done ++ x ∷ []) ≡ queries_taken start done + (if b then 1 else 0)
taken-more start done x b e =
    let more = sum_by-append (λ (y : Step). cond (took_query y.shown) 1 0) done (x ∷ []) in
    let one = ap (λ (c : Bool). one-if c) e in
    omega (arith, more, one)

no-place : {A : Type 0} (x : A) → Some x ≡ None → ⊥
no-place x e = cc

-- what settles a query took a query
pub took-query : (sc : Scenario) (book : BookView) (task : Task) (shown : Shown) (firsts : List ℕ) → query_fault sc book task shown firsts ≡ None → took_query shown ≡ true
took-query sc book task Empty firsts e = absurd cc
took-query sc book task (Fits delta) firsts e = refl
took-query sc book task Same firsts e = absurd cc
took-query sc book task (NoChannel s) firsts e = absurd cc
took-query sc book task (Refuted w how) firsts e = refl
took-query sc book task (Outside proof) firsts e = refl
took-query sc book task (Undecided xs) firsts e = refl

-- what is settled without a query took none
pub took-none : (sc : Scenario) (book : BookView) (state : CoreState) (t : ClockTest) (own : Shown) → settled_unasked sc book state t ≡ Some own → took_query own ≡ false
took-none sc book state t own e = elim (unasked-cases sc book state t own e) as (λ _. took_query own ≡ false) [
  | inl bare ↦ ap took_query bare.1
  | inr same ↦ ap took_query same.1
]

-- ---- the end

-- the state after the steps is the one with which an auction continues
pub resumed-is : (sc : Scenario) (book : BookView) (order : Order) (start : Shown) (done : List Step) (xs : List TranscriptStep) (found : Option NotShown) (state : CoreState) → shows_room start ≡ true → IsAt sc book order start done xs found state
    → state ≡ resumed sc book order (Some start) done
unfolding resumed
resumed-is sc book order start done xs found state room a =
    let n : ℕ = 1 + queries_taken start done in
    let first : CoreState = record (after_start sc order start) { number = n } in
    let off : CoreState = record (before_start sc order) { start = Some start; number = n } in
    let back : record a.at { noted = []; number = n } ≡ a.at = λ i. record a.at { noted = sym a.quiet i; number = sym a.counted i } in
    a.goes ∙ (ap (advance_to_query sc book a.left) (sym back) ∙ (sym (a.through [] n a.at.left) ∙ (ap (λ (ys : List Step). replay_tests sc book (clock_tests sc order) ys first) (append-nil done)
    ∙ ap (λ (b : Bool). if b then replay_tests sc book (clock_tests sc order) done first else off) (sym room))))
