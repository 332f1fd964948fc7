-- Every list of postings keeps the clock rule.
use Rattle.std.proofs.Common.{◌≡◌, ℕ, zero, suc, ◌+◌, ◌<◌, Bool, true, false, not, ◌==◌, nat_le, if◌then◌else◌, List, [], ◌∷◌, ◌++◌, map, length, Option, Some, None, option_map, option_and_then, is_none, refl, sym, ap, ap₂, ◌∙◌, subst, ⊎_elim, arith, MatchBool, MatchOption, append_assoc}
use Rattle.std.specs.Prelude.{slice_get}
use Rattle.std.specs.Option.{option_map_or}
use Rattle.std.proofs.lemmas.Bool.{both_ways, leb-false, cases_Bool}
use Rattle.pack_defs.specs.Book.{BookView}
use Rattle.pack_defs.specs.ChannelMap.{overlaid}
use Rattle.pack_defs.specs.Lists.{is_empty, is_ascending}
use Rattle.pack_defs.specs.Packing.{IsClean}
use Rattle.pack_defs.specs.declared.order.Order.{Order}
use Rattle.pack_defs.specs.declared.scenario.Scenario.{Scenario}
use Rattle.pack_defs.specs.ClockRule.{ClockTest, clock_tests, opening_state, is_active, on_air_set}
use Rattle.cert_types.specs.declared.task.Task.{Task}
use Rattle.cert_types.specs.declared.answer.Answer.{Answer}
use Rattle.cert_types.specs.declared.answer.Answer.TheVariants.{Fit, Refuted as Refutes', Spent}
use Rattle.pack_defs.specs.declared.worker.Worker.{Worker}
use Rattle.cert_types.specs.Valid.{answer_fault, IsValid}
use Rattle.cert_types.proofs.Meaning.{fit-means}
use Rattle.auction_core.specs.declared.record.Shown.{Shown}
use Rattle.auction_core.specs.declared.record.Shown.TheVariants.{Fits, Refuted, Undecided}
use Rattle.auction_core.specs.declared.posting.Reply.TheVariants.{Ended, WrongQuery, Stranger}
use Rattle.auction_core.specs.State.{CoreState, NotedSpent, test_of, shows_room, start_delta, settled, settled_unasked, advance_to_query, started, before_start, start_unasked, opening, has_ended, test_task, start_task, first_task, task_of, after_first_test, answered}
use Rattle.auction_core.specs.Take.{PostingView, fault_of, unjudged_reply, take, after_postings}
use Rattle.auction_core.proofs.CertifiedBy.{refutation-settles}
use Rattle.auction_core.specs.Backed.{IsSettledBy, IsStartShown, IsStepShown, after_steps, AreShown, after_start}
use Rattle.auction_core.specs.Rule.{Answers, IsValidOf, SettlesQuery, AreValid, AreNoted, IsQueryNext, IsStartKept, IsAuction}
use Rattle.auction_core.specs.ClockProgress.{IsClockProgress}
use Rattle.auction_core.proofs.Kept.{IsAtStart, IsUnderWay, Stands, IsKept, in-case, match-true, match-false}
use Rattle.auction_core.proofs.Cases.{take-cases, with_noted, all_spent, noted_as}
use Rattle.auction_core.proofs.Sets.{step_of, fits-stand-first, fits-stand-same}
use Rattle.auction_core.proofs.Starts.{start-map}
use Rattle.auction_core.proofs.Done.{under-way-fits}
use Rattle.auction_core.proofs.Noted.{noted-more, noted-last}
use Rattle.auction_core.proofs.Walk.{shown-number, IsStepShown-same, walk-step, go-on-keeps}

-- ---- parts of a state

-- going on keeps the start and the pending receipts
pub go-on-start : (sc : Scenario) (book : BookView) (ts : List ClockTest) (state : CoreState) → ((advance_to_query sc book ts state).start ≡ state.start) × ((advance_to_query sc book ts state).noted ≡ state.noted)
go-on-start sc book [] state = (refl, refl)
go-on-start sc book (t ∷ ts) state =
    let at : CoreState = record state { left = t ∷ ts } in
    let inner : (o : Option Shown) → ((option_map_or (advance_to_query sc book ts) (option_map (settled sc state t) o) at).start ≡ state.start) × ((option_map_or (advance_to_query sc book ts) (option_map (settled sc state t) o) at).noted ≡ state.noted) = λ o. elim o as (λ o. ((option_map_or (advance_to_query sc book ts) (option_map (settled sc state t) o) at).start ≡ state.start) × ((option_map_or (advance_to_query sc book ts) (option_map (settled sc state t) o) at).noted ≡ state.noted)) [
      | None ↦ (refl, refl)
      | Some shown ↦ go-on-start sc book ts (settled sc state t shown)
    ] in
    let outer : (b : Bool) → ((option_map_or (advance_to_query sc book ts) (if b then option_map (settled sc state t) (settled_unasked sc book state t) else Some state) at).start ≡ state.start) × ((option_map_or (advance_to_query sc book ts) (if b then option_map (settled sc state t) (settled_unasked sc book state t) else Some state) at).noted ≡ state.noted) = λ b. elim b as (λ b. ((option_map_or (advance_to_query sc book ts) (if b then option_map (settled sc state t) (settled_unasked sc book state t) else Some state) at).start ≡ state.start) × ((option_map_or (advance_to_query sc book ts) (if b then option_map (settled sc state t) (settled_unasked sc book state t) else Some state) at).noted ≡ state.noted)) [
      | true ↦ inner (settled_unasked sc book state t)
      | false ↦ go-on-start sc book ts state
    ] in
    outer (is_active state.clock t.station)

pub none-noted : (sc : Scenario) (book : BookView) (state : CoreState) → IsAuction sc book → state.noted ≡ [] → AreNoted sc book state
none-noted sc book state a e = record {
  distinct = subst (λ ns. is_ascending (map (λ n. n.worker) ns) ≡ true) (sym e) refl;
  fewer = subst (λ ns. length ns < length sc.workers) (sym e) a.workers;
  valid = subst (λ ns. AreValid sc book state ns) (sym e) tt;
}

pub from-parts : (sc : Scenario) (book : BookView) (state : CoreState) (o : Option Shown) → state.start ≡ o → IsStartKept sc book o → Stands sc book state o → AreNoted sc book state → IsKept sc book state
from-parts sc book state o e k s n = record {
  start = subst (IsStartKept sc book) (sym e) k;
  stands = subst (Stands sc book state) (sym e) s;
  noted = n;
}

-- ---- the start

-- the clock has not moved
pub record IsBare (sc : Scenario) (state : CoreState) : Type 0 where
  pub clock : state.clock ≡ opening_state sc
  pub left : state.left ≡ []
  pub map : state.map ≡ []
  pub steps : state.steps ≡ []

-- the state at the first test, once the start set was shown to fit
pub first-walk : (sc : Scenario) (book : BookView) (shown : Shown) (state : CoreState) → IsAuction sc book → IsBare sc state → IsStartShown sc book shown → shows_room shown ≡ true → IsClockProgress sc book shown (record state { start = Some shown; map = overlaid state.map (start_delta shown) }) []
first-walk sc book shown state a h k r =
    let of = start-map sc book shown a k r in
    record {
      clock = h.clock;
      tests = ap (map test_of) h.steps;
      shown = subst (λ xs. AreShown sc book (after_start sc state.order shown) xs) (sym h.steps) tt;
      same_clock = ap (λ xs. (after_steps sc (after_start sc state.order shown) xs).clock) h.steps ∙ sym h.clock;
      same_map = ap (λ xs. (after_steps sc (after_start sc state.order shown) xs).map) h.steps ∙ ap (λ m. overlaid m (start_delta shown)) (sym h.map);
      clean = subst (λ m. IsClean book (overlaid m (start_delta shown))) (sym h.map) of.0;
      stations = ap (λ m. map (λ x. x.0) (overlaid m (start_delta shown))) h.map ∙ (of.1 ∙ ap (on_air_set sc) (sym h.clock));
      fits = fits-stand-first sc book (record state { start = Some shown; map = overlaid state.map (start_delta shown) }) h.clock h.steps;
    }

-- a properly settled start keeps the rule
started-keeps : (sc : Scenario) (book : BookView) (shown : Shown) (state : CoreState) → IsAuction sc book → IsBare sc state → state.noted ≡ [] → IsStartShown sc book shown → IsKept sc book (started sc book state shown)
started-keeps sc book shown state a h n k =
    let on : CoreState = record state { start = Some shown; map = overlaid state.map (start_delta shown) } in
    let off : CoreState = record state { start = Some shown } in
    let go : (b : Bool) → shows_room shown ≡ b → IsKept sc book (if b then advance_to_query sc book (clock_tests sc state.order) on else off) = λ b. elim b as (λ b. shows_room shown ≡ b → IsKept sc book (if b then advance_to_query sc book (clock_tests sc state.order) on else off)) [
      | true ↦ λ r.
          let s = go-on-start sc book (clock_tests sc state.order) on in
          from-parts sc book (advance_to_query sc book (clock_tests sc state.order) on) (Some shown) s.0 k
          (in-case (IsUnderWay sc book shown (advance_to_query sc book (clock_tests sc state.order) on)) (IsAtStart sc book (advance_to_query sc book (clock_tests sc state.order) on)) (shows_room shown)
          (λ _. go-on-keeps sc book shown (clock_tests sc state.order) on [] a (first-walk sc book shown state a h k r) refl)
          (λ no. absurd (both_ways (shows_room shown) no r)))
          (none-noted sc book (advance_to_query sc book (clock_tests sc state.order) on) a (s.1 ∙ n))
      | false ↦ λ r.
          from-parts sc book off (Some shown) refl k
          (in-case (IsUnderWay sc book shown off) (IsAtStart sc book off) (shows_room shown)
          (λ yes. absurd (both_ways (shows_room shown) r yes))
          (λ _. record { clock = h.clock; left = h.left; map = h.map; steps = h.steps; query = λ (e : Some shown ≡ None). cc }))
          (none-noted sc book off a n)
    ] in
    go (shows_room shown) refl

at-start : (sc : Scenario) (book : BookView) (order : Order) → start_unasked sc book ≡ None → IsAtStart sc book (before_start sc order)
at-start sc book order e = record { clock = refl; left = refl; map = refl; steps = refl; query = λ _. e }

-- the opening state keeps the rule
pub opening-keeps : (sc : Scenario) (book : BookView) (order : Order) → IsAuction sc book → IsKept sc book (opening sc book order)
unfolding opening
opening-keeps sc book order a =
    let go : (o : Option Shown) → start_unasked sc book ≡ o → IsKept sc book (option_map_or (started sc book (before_start sc order)) o (before_start sc order)) = λ o. elim o as (λ o. start_unasked sc book ≡ o → IsKept sc book (option_map_or (started sc book (before_start sc order)) o (before_start sc order))) [
      | None ↦ λ e. from-parts sc book (before_start sc order) None refl tt (at-start sc book order e) (none-noted sc book (before_start sc order) a refl)
      | Some shown ↦ λ e. started-keeps sc book shown (before_start sc order) a (record { clock = refl; left = refl; map = refl; steps = refl }) refl
          (subst (λ o. MatchOption o (IsSettledBy sc book (start_task sc 1) shown) (λ unasked. shown ≡ unasked)) (sym e) refl)
    ] in
    go (start_unasked sc book) refl

-- ---- a query that is settled

open-of : (a b c : Bool) (n : ℕ) → (if a then Some Ended else (if not b then Some (WrongQuery n) else (if c then Some Stranger else None))) ≡ None → (a ≡ false) × (c ≡ false)
open-of true b c n e = cc
open-of false false c n e = cc
open-of false true true n e = cc
open-of false true false n e = (refl, refl)

-- for a posting that is not turned away there is a query, and its worker exists
pub not-ended : (sc : Scenario) (state : CoreState) (w number : ℕ) → unjudged_reply sc state w number ≡ None → (has_ended state ≡ false) × (w < length sc.workers)
not-ended sc state w number e =
    let h = open-of (has_ended state) (number == state.number) (nat_le (length sc.workers) w) state.number e in
    (h.0, leb-false (length sc.workers) w h.1)

pub task-is : (sc : Scenario) (book : BookView) (state : CoreState) (o : Option Shown) (l : List ClockTest) → state.start ≡ o → state.left ≡ l → task_of sc book state ≡ (if is_none o then Some (start_task sc state.number) else first_task sc book state l)
unfolding task_of
task-is sc book state o l e f = ap₂ (λ o l. if is_none o then Some (start_task sc state.number) else first_task sc book state l) e f

-- a settled start
settled-start : (sc : Scenario) (book : BookView) (state : CoreState) (shown : Shown) → IsAuction sc book → IsAtStart sc book state → state.start ≡ None → SettlesQuery sc book state shown → IsKept sc book (started sc book (record state { noted = []; number = state.number + 1 }) shown)
settled-start sc book state shown a h e s =
    let task : task_of sc book state ≡ Some (start_task sc state.number) = task-is sc book state None state.left e refl in
    let k : IsSettledBy sc book (start_task sc state.number) shown = subst (λ o. MatchOption o ⊥ (λ task. IsSettledBy sc book task shown)) task s in
    let k' : IsSettledBy sc book (start_task sc 1) shown = shown-number sc book (start_task sc state.number) 1 shown k in
    started-keeps sc book shown (record state { noted = []; number = state.number + 1 }) a (record { clock = h.clock; left = h.left; map = h.map; steps = h.steps }) refl
    (subst (λ o. MatchOption o (IsSettledBy sc book (start_task sc 1) shown) (λ unasked. shown ≡ unasked)) (sym (h.query e)) k')

-- a settled test
settled-test : (sc : Scenario) (book : BookView) (start : Shown) (state : CoreState) (t : ClockTest) (ts : List ClockTest) (shown : Shown) → IsAuction sc book → IsUnderWay sc book start state → shows_room start ≡ true → IsStartShown sc book start → state.start ≡ Some start → state.left ≡ t ∷ ts → SettlesQuery sc book state shown → IsKept sc book (advance_to_query sc book ts (settled sc (record state { noted = []; number = state.number + 1 }) t shown))
settled-test sc book start state t ts shown a u r k e f s =
    let next : CoreState = record state { noted = []; number = state.number + 1 } in
    let task : task_of sc book state ≡ Some (test_task sc book state t) = task-is sc book state (Some start) (t ∷ ts) e f in
    let valid : IsSettledBy sc book (test_task sc book state t) shown = subst (λ o. MatchOption o ⊥ (λ task. IsSettledBy sc book task shown)) task s in
    let query : IsQueryNext sc book state (t ∷ ts) = subst (IsQueryNext sc book state) f u.query in
    let parts : clock_tests sc state.order ≡ u.before ++ t ∷ ts = sym u.all_tests ∙ ap (λ l. u.before ++ l) f in
    let w : IsClockProgress sc book start next u.before = record { clock = u.clock; tests = u.tests; shown = u.shown; same_clock = u.same_clock; same_map = u.same_map; clean = u.clean; stations = u.stations; fits = fits-stand-same sc book state next refl refl refl (under-way-fits sc book start state a k r u) } in
    let step : IsStepShown sc book state (step_of t shown) = subst (λ o. MatchOption o (IsSettledBy sc book (test_task sc book state t) shown) (λ unasked. shown ≡ unasked)) (sym query.1) valid in
    let after : CoreState = settled sc next t shown in
    let w' : IsClockProgress sc book start after (u.before ++ t ∷ []) = walk-step sc book start next u.before ts t shown a w parts query.0 (IsStepShown-same sc book next state (step_of t shown) refl refl refl step) in
    let g = go-on-start sc book ts after in
    from-parts sc book (advance_to_query sc book ts after) (Some start) (g.0 ∙ e) k
    (in-case (IsUnderWay sc book start (advance_to_query sc book ts after)) (IsAtStart sc book (advance_to_query sc book ts after)) (shows_room start)
    (λ _. go-on-keeps sc book start ts after (u.before ++ t ∷ []) a w' (parts ∙ sym (append_assoc u.before (t ∷ []) ts)))
    (λ no. absurd (both_ways (shows_room start) no r)))
    (none-noted sc book (advance_to_query sc book ts after) a g.1)

-- settling the current query properly keeps the rule
pub answered-keeps : (sc : Scenario) (book : BookView) (state : CoreState) (shown : Shown) → IsAuction sc book → IsKept sc book state → has_ended state ≡ false → SettlesQuery sc book state shown → IsKept sc book (answered sc book state shown)
answered-keeps sc book state shown a h on s =
    let next : CoreState = record state { noted = []; number = state.number + 1 } in
    let go : (o : Option Shown) (l : List ClockTest) → state.start ≡ o → state.left ≡ l → IsKept sc book (if is_none o then started sc book next shown else after_first_test sc book next shown l) = λ o l. elim o as (λ o. state.start ≡ o → state.left ≡ l → IsKept sc book (if is_none o then started sc book next shown else after_first_test sc book next shown l)) [
      | None ↦ λ e f. settled-start sc book state shown a (subst (Stands sc book state) e h.stands) e s
      | Some start ↦ elim l as (λ l. state.start ≡ Some start → state.left ≡ l → IsKept sc book (after_first_test sc book next shown l)) [
        | [] ↦ λ e f.
            let ended : has_ended state ≡ true = ap₂ (λ (o : Option Shown) (l : List ClockTest). if is_none o then false else is_empty l) e f in
            absurd (both_ways (has_ended state) on ended)
        | t ∷ ts ↦ λ e f.
            let stands : MatchBool (shows_room start) (IsUnderWay sc book start state) (IsAtStart sc book state) = subst (Stands sc book state) e h.stands in
            let kept : IsStartShown sc book start = subst (IsStartKept sc book) e h.start in
            ⊎_elim
            (λ r. settled-test sc book start state t ts shown a (match-true (IsUnderWay sc book start state) (IsAtStart sc book state) (shows_room start) r stands) r kept e f s)
            (λ no.
            let at = match-false (IsUnderWay sc book start state) (IsAtStart sc book state) (shows_room start) no stands in
            let none : t ∷ ts ≡ [] = sym f ∙ at.left in
            cc)
            (cases_Bool (shows_room start))
      ]
    ] in
    go state.start state.left refl refl

-- ---- the eight outcomes

-- a list has an element at each place within it
within-list : (xs : List Worker) (i : ℕ) → i < length xs → slice_get xs i ≡ None → ⊥
within-list [] i h e = omega arith
within-list (x ∷ xs) zero h e = cc
within-list (x ∷ xs) (suc i) h e = within-list xs i (omega arith) e

-- if an auction has not ended, there is a current query
some-query : (sc : Scenario) (book : BookView) (state : CoreState) → has_ended state ≡ false → task_of sc book state ≡ None → ⊥
some-query sc book state on e =
    let go : (o : Option Shown) (l : List ClockTest) → (if is_none o then false else is_empty l) ≡ false → (if is_none o then Some (start_task sc state.number) else first_task sc book state l) ≡ None → ⊥ = λ o l. elim o as (λ o. (if is_none o then false else is_empty l) ≡ false → (if is_none o then Some (start_task sc state.number) else first_task sc book state l) ≡ None → ⊥) [
      | None ↦ λ h k. cc
      | Some shown ↦ elim l as (λ l. is_empty l ≡ false → first_task sc book state l ≡ None → ⊥) [
        | [] ↦ λ h k. cc
        | t ∷ ts ↦ λ h k. cc
      ]
    ] in
    go state.start state.left on (sym (task-is sc book state state.start state.left refl refl) ∙ e)

no-fault : (book : BookView) (answer : Answer) (o : Option Task) (p : Option Worker) → (o ≡ None → ⊥) → (p ≡ None → ⊥) → option_and_then (λ task. option_and_then (λ worker. answer_fault book task worker answer) p) o ≡ None → MatchOption o ⊥ (λ task. MatchOption p ⊥ (λ worker. IsValid book task worker answer))
no-fault book answer None p f g e = absurd (f refl)
no-fault book answer (Some task) None f g e = absurd (g refl)
no-fault book answer (Some task) (Some worker) f g e = e

-- a posting that is not turned away and whose answer has no fault answers the current query
answers : (sc : Scenario) (book : BookView) (state : CoreState) (p : PostingView) (answer : Answer) → unjudged_reply sc state p.worker p.number ≡ None → fault_of sc book state p ≡ None → p.answer ≡ answer → Answers sc book state p.worker answer
answers sc book state p answer t f e =
    let parts = not-ended sc state p.worker p.number t in
    subst (Answers sc book state p.worker) e
    (no-fault book p.answer (task_of sc book state) (slice_get sc.workers p.worker) (some-query sc book state parts.0) (within-list sc.workers p.worker parts.1) f)

fit-valid : (sc : Scenario) (book : BookView) (w : ℕ) (delta : List (ℕ × ℕ)) (task : Task) → IsValidOf sc book task w (Fit delta) → IsSettledBy sc book task (Fits delta)
fit-valid sc book w delta task h =
    let go : (o : Option Worker) → MatchOption o ⊥ (λ worker. IsValid book task worker (Fit delta)) → IsSettledBy sc book task (Fits delta) = λ o. elim o as (λ o. MatchOption o ⊥ (λ worker. IsValid book task worker (Fit delta)) → IsSettledBy sc book task (Fits delta)) [
      | None ↦ λ v. absurd v
      | Some worker ↦ λ v. fit-means book task worker delta v
    ] in
    go (slice_get sc.workers w) h

pub fit-settles : (sc : Scenario) (book : BookView) (state : CoreState) (w : ℕ) (delta : List (ℕ × ℕ)) → Answers sc book state w (Fit delta) → SettlesQuery sc book state (Fits delta)
fit-settles sc book state w delta h =
    let go : (o : Option Task) → MatchOption o ⊥ (λ task. IsValidOf sc book task w (Fit delta)) → MatchOption o ⊥ (λ task. IsSettledBy sc book task (Fits delta)) = λ o. elim o as (λ o. MatchOption o ⊥ (λ task. IsValidOf sc book task w (Fit delta)) → MatchOption o ⊥ (λ task. IsSettledBy sc book task (Fits delta))) [
      | None ↦ λ v. v
      | Some task ↦ λ v. fit-valid sc book w delta task v
    ] in
    go (task_of sc book state) h

-- the query does not depend on the pending receipts, so the rest of the state stays
more-stands : (sc : Scenario) (book : BookView) (state : CoreState) (x : NotedSpent) → IsKept sc book state → AreNoted sc book (with_noted state x) → IsKept sc book (with_noted state x)
more-stands sc book state x h n =
    let go : (o : Option Shown) → state.start ≡ o → Stands sc book state o → Stands sc book (with_noted state x) o = λ o. elim o as (λ o. state.start ≡ o → Stands sc book state o → Stands sc book (with_noted state x) o) [
      | None ↦ λ e s. record { clock = s.clock; left = s.left; map = s.map; steps = s.steps; query = s.query }
      | Some start ↦ λ e s. in-case (IsUnderWay sc book start (with_noted state x)) (IsAtStart sc book (with_noted state x)) (shows_room start)
          (λ r.
          let u = match-true (IsUnderWay sc book start state) (IsAtStart sc book state) (shows_room start) r s in
          record { before = u.before; all_tests = u.all_tests; clock = u.clock; tests = u.tests; shown = u.shown; same_clock = u.same_clock; same_map = u.same_map; clean = u.clean; stations = u.stations; query = query-same state.left u.query })
          (λ no.
          let t = match-false (IsUnderWay sc book start state) (IsAtStart sc book state) (shows_room start) no s in
          record { clock = t.clock; left = t.left; map = t.map; steps = t.steps; query = t.query })
    ] in
    record { start = h.start; stands = go state.start refl h.stands; noted = n }
  where
    query-same : (l : List ClockTest) → IsQueryNext sc book state l → IsQueryNext sc book (with_noted state x) l
    query-same [] q = tt
    query-same (t ∷ ts) q = q

-- each posting keeps the rule
pub take-keeps : (sc : Scenario) (book : BookView) (state : CoreState) (p : PostingView) → IsAuction sc book → IsKept sc book state → IsKept sc book (take sc book state p).1
take-keeps sc book state p a h =
    take-cases sc book state p (λ out. IsKept sc book out.1) (record {
      turned = λ reply t. h;
      rejected = λ place t f. h;
      fit = λ delta t f e. answered-keeps sc book state (Fits delta) a h (not-ended sc state p.worker p.number t).0 (fit-settles sc book state p.worker delta (answers sc book state p (Fit delta) t f e));
      refuted = λ how t f e. answered-keeps sc book state (Refuted p.worker how) a h (not-ended sc state p.worker p.number t).0 (refutation-settles sc book state p.worker how (answers sc book state p (Refutes' how) t f e));
      already = λ receipt t f e n. h;
      last = λ receipt t f e n k. answered-keeps sc book state (Undecided (all_spent state (noted_as p.worker receipt))) a h (not-ended sc state p.worker p.number t).0
          (noted-last sc book state (noted_as p.worker receipt) h.noted ((not-ended sc state p.worker p.number t).1, answers sc book state p (Spent receipt) t f e) n k);
      more = λ receipt t f e n k. more-stands sc book state (noted_as p.worker receipt) h
          (noted-more sc book state (noted_as p.worker receipt) h.noted ((not-ended sc state p.worker p.number t).1, answers sc book state p (Spent receipt) t f e) n k);
    })

pub postings-keep : (sc : Scenario) (book : BookView) (postings : List PostingView) (state : CoreState) → IsAuction sc book → IsKept sc book state → IsKept sc book (after_postings sc book postings state)
postings-keep sc book [] state a h = h
postings-keep sc book (p ∷ ps) state a h = postings-keep sc book ps (take sc book state p).1 a (take-keeps sc book state p a h)
