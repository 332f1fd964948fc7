-- A query does not depend on the pending receipts, and a settled query leaves none pending. For `taking`.
use Rattle.std.proofs.Common.{◌≡◌, ℕ, ◌+◌, Bool, true, false, if◌then◌else◌, List, [], ◌∷◌, Option, Some, None, is_none, refl, sym, ap, ◌∙◌, subst, MatchOption}
use Rattle.std.specs.Option.{option_map_or}
use Rattle.pack_defs.specs.Book.{BookView}
use Rattle.pack_defs.specs.declared.scenario.Scenario.{Scenario}
use Rattle.pack_defs.specs.ClockRule.{ClockTest, clock_tests}
use Rattle.pack_defs.specs.ChannelMap.{overlaid}
use Rattle.auction_core.specs.declared.posting.Posting.{Posting}
use Rattle.auction_core.specs.declared.posting.Reply.{Reply}
use Rattle.auction_core.specs.declared.posting.Reply.TheVariants.{Advanced}
use Rattle.auction_core.specs.declared.posting.Said.{Said}
use Rattle.auction_core.specs.declared.record.Shown.{Shown}
use Rattle.auction_core.specs.Backed.{IsSettledBy}
use Rattle.auction_core.specs.Rule.{SettlesQuery}
use Rattle.auction_core.specs.Said.{taken, reply_to_judged}
use Rattle.auction_core.specs.State.{CoreState, NotedSpent, answered, advance_to_query, has_ended, after_first_test, settled, shows_room, start_delta, started, task_of}
use Rattle.auction_core.specs.Take.{advanced, unjudged_reply}
use Rattle.auction_core.proofs.Keeps.{go-on-start}

pub task-noted : (sc : Scenario) (book : BookView) (state : CoreState) (noted : List NotedSpent) → task_of sc book (record state { noted = noted }) ≡ task_of sc book state
unfolding task_of
task-noted sc book state noted = refl

pub settles-noted : (sc : Scenario) (book : BookView) (state : CoreState) (noted : List NotedSpent) (shown : Shown) → SettlesQuery sc book (record state { noted = noted }) shown → SettlesQuery sc book state shown
settles-noted sc book state noted shown h = subst (λ o. MatchOption o ⊥ (λ task. IsSettledBy sc book task shown)) (task-noted sc book state noted) h

pub noted-settles : (sc : Scenario) (book : BookView) (state : CoreState) (noted : List NotedSpent) (shown : Shown) → SettlesQuery sc book state shown → SettlesQuery sc book (record state { noted = noted }) shown
noted-settles sc book state noted shown h = subst (λ o. MatchOption o ⊥ (λ task. IsSettledBy sc book task shown)) (sym (task-noted sc book state noted)) h

started-none : (sc : Scenario) (book : BookView) (state : CoreState) (shown : Shown) → state.noted ≡ [] → (started sc book state shown).noted ≡ []
started-none sc book state shown e =
    let on : CoreState = record state { start = Some shown; map = overlaid state.map (start_delta shown) } in
    let off : CoreState = record state { start = Some shown } in
    let go : (b : Bool) → (if b then advance_to_query sc book (clock_tests sc state.order) on else off).noted ≡ [] = λ b. elim b as (λ b. (if b then advance_to_query sc book (clock_tests sc state.order) on else off).noted ≡ []) [
      | true ↦ (go-on-start sc book (clock_tests sc state.order) on).1 ∙ e
      | false ↦ e
    ] in
    go (shows_room shown)

past-none : (sc : Scenario) (book : BookView) (state : CoreState) (shown : Shown) (ts : List ClockTest) → state.noted ≡ [] → (after_first_test sc book state shown ts).noted ≡ []
past-none sc book state shown [] e = e
past-none sc book state shown (t ∷ ts) e = (go-on-start sc book ts (settled sc state t shown)).1 ∙ e

-- a settled query leaves no pending receipt
pub answered-none : (sc : Scenario) (book : BookView) (state : CoreState) (shown : Shown) → (answered sc book state shown).noted ≡ []
answered-none sc book state shown =
    let next : CoreState = record state { noted = []; number = state.number + 1 } in
    let go : (b : Bool) → (if b then started sc book next shown else after_first_test sc book next shown state.left).noted ≡ [] = λ b. elim b as (λ b. (if b then started sc book next shown else after_first_test sc book next shown state.left).noted ≡ []) [
      | true ↦ started-none sc book next shown refl
      | false ↦ past-none sc book next shown state.left refl
    ] in
    go (is_none state.start)

-- the reply to a settled query and the state after it, whatever receipts were pending
pub advanced-is : (sc : Scenario) (book : BookView) (state after : CoreState) (noted : List NotedSpent) (shown : Shown) (next : Option ℕ) → after ≡ answered sc book state shown → noted ≡ [] → next ≡ (if has_ended after then None else Some after.number) → (Advanced next, record after { noted = noted }) ≡ advanced sc book state shown
advanced-is sc book state after noted shown next a n e =
    let same : record after { noted = noted } ≡ after = ap (λ ns. record after { noted = ns }) (n ∙ sym (ap (λ s. s.noted) a ∙ answered-none sc book state shown)) in
    ap (λ o. (Advanced o, record after { noted = noted })) e
    ∙ (ap (λ s. (Advanced (if has_ended after then None else Some after.number), s)) same
    ∙ ap (λ s. (Advanced (if has_ended s then None else Some s.number), s)) a)

-- a posting that is turned away
pub taken-turned : (sc : Scenario) (book : BookView) (state : CoreState) (posting : Posting) (reply : Reply) → unjudged_reply sc state posting.worker posting.number ≡ Some reply → (reply, state) ≡ taken sc book state posting
unfolding taken
taken-turned sc book state posting reply e =
    sym (ap (λ o. option_map_or (λ reply. (reply, state)) o (reply_to_judged sc book state posting.worker posting.said)) e)

-- a posting that is not turned away
pub taken-told : (sc : Scenario) (book : BookView) (state : CoreState) (posting : Posting) (said : Said) → unjudged_reply sc state posting.worker posting.number ≡ None → posting.said ≡ said → reply_to_judged sc book state posting.worker said ≡ taken sc book state posting
unfolding taken
taken-told sc book state posting said e s =
    ap (reply_to_judged sc book state posting.worker) (sym s)
    ∙ sym (ap (λ o. option_map_or (λ reply. (reply, state)) o (reply_to_judged sc book state posting.worker posting.said)) e)
