-- A later state continues an earlier one. For `laws` and `auction`.
use Rattle.std.proofs.Common.{◌≡◌, ◌+◌, Bool, true, false, if◌then◌else◌, List, [], ◌∷◌, ◌++◌, Option, Some, None, option_map, option_and_then, is_none, refl, sym, ap, ◌∙◌, subst, inl, inr, append_assoc, append-nil}
use Rattle.std.specs.List.{list_any}
use Rattle.std.specs.Option.{option_map_or}
use Rattle.std.proofs.lemmas.List.Folds.{list_any-append}
use Rattle.std.proofs.lemmas.Bool.{or_from}
use Rattle.pack_defs.specs.Book.{BookView}
use Rattle.pack_defs.specs.ChannelMap.{overlaid}
use Rattle.pack_defs.specs.declared.scenario.Scenario.{Scenario}
use Rattle.pack_defs.specs.ClockRule.{ClockTest, clock_tests, is_active}
use Rattle.cert_types.specs.declared.answer.Answer.{Answer}
use Rattle.auction_core.specs.declared.record.Record.{Record}
use Rattle.auction_core.specs.declared.record.Shown.{Shown}
use Rattle.auction_core.specs.declared.record.Shown.TheVariants.{Fits, Refuted, Undecided}
use Rattle.auction_core.specs.declared.record.Step.{Step}
use Rattle.auction_core.specs.State.{CoreState, shows_room, start_delta, settled, settled_unasked, advance_to_query, started, after_first_test, answered}
use Rattle.auction_core.specs.Take.{PostingView, unjudged_reply, is_noted, take, after_postings}
use Rattle.auction_core.specs.Replay.{EntryView, agrees, stands, after_entry, replay_from}
use Rattle.auction_core.specs.Backed.{is_outside, record_of, shown_start}
use Rattle.auction_core.specs.Postings.{Continues, ContinuesIn}
use Rattle.auction_core.proofs.Cases.{take-cases, all_spent, noted_as}
use Rattle.auction_core.proofs.Replays.{if-some}
use Rattle.auction_core.proofs.Sets.{step_of, unasked-cases}

abbrev outside_step : Step → Bool
outside_step x = is_outside x.shown

pub goes-self : (state : CoreState) → Continues state state
goes-self state = record { order = refl; start = λ shown e. e; more = []; steps = sym (append-nil state.steps); own = refl }

-- a state with the same order, start and steps
pub goes-same : (early late : CoreState) → late.order ≡ early.order → late.start ≡ early.start → late.steps ≡ early.steps → Continues early late
goes-same early late o s t = record { order = o; start = λ shown e. s ∙ e; more = []; steps = t ∙ sym (append-nil early.steps); own = refl }

pub goes-then : (a b c : CoreState) → Continues a b → Continues b c → Continues a c
goes-then a b c g h = record {
  order = h.order ∙ g.order;
  start = λ shown e. h.start shown (g.start shown e);
  more = g.more ++ h.more;
  steps = h.steps ∙ (ap (λ xs. xs ++ h.more) g.steps ∙ append_assoc a.steps g.more h.more);
  own = list_any-append outside_step g.more h.more ∙ or_from (list_any outside_step g.more) (list_any outside_step h.more) g.own h.own;
}

-- a settled test adds its step
pub goes-settled : (sc : Scenario) (state : CoreState) (t : ClockTest) (shown : Shown) → is_outside shown ≡ false → Continues state (settled sc state t shown)
goes-settled sc state t shown own = record { order = refl; start = λ s e. e; more = step_of t shown ∷ []; steps = refl; own = or_from (is_outside shown) false own refl }

unasked-own : (sc : Scenario) (book : BookView) (state : CoreState) (t : ClockTest) (u : Shown) → settled_unasked sc book state t ≡ Some u → is_outside u ≡ false
unasked-own sc book state t u e =
    elim (unasked-cases sc book state t u e) [
      | inl bare ↦ ap is_outside bare.1
      | inr same ↦ ap is_outside same.1
    ]

pub go-on-goes : (sc : Scenario) (book : BookView) (ts : List ClockTest) (state : CoreState) → Continues state (advance_to_query sc book ts state)
go-on-goes sc book [] state = goes-same state (record state { left = [] }) refl refl refl
go-on-goes sc book (t ∷ ts) state =
    let at : CoreState = record state { left = t ∷ ts } in
    let inner : (o : Option Shown) → settled_unasked sc book state t ≡ o → Continues state (option_map_or (advance_to_query sc book ts) (option_map (settled sc state t) o) at) = λ o. elim o as (λ o. settled_unasked sc book state t ≡ o → Continues state (option_map_or (advance_to_query sc book ts) (option_map (settled sc state t) o) at)) [
      | None ↦ λ e. goes-same state at refl refl refl
      | Some shown ↦ λ e. goes-then state (settled sc state t shown) (advance_to_query sc book ts (settled sc state t shown)) (goes-settled sc state t shown (unasked-own sc book state t shown e)) (go-on-goes sc book ts (settled sc state t shown))
    ] in
    elim (is_active state.clock t.station) as (λ b. Continues state (option_map_or (advance_to_query sc book ts) (if b then option_map (settled sc state t) (settled_unasked sc book state t) else Some state) at)) [
      | true ↦ inner (settled_unasked sc book state t) refl
      | false ↦ go-on-goes sc book ts state
    ]

-- a start that is settled only now
shows-start : (early late : CoreState) (shown : Shown) → early.start ≡ None → late.start ≡ Some shown → late.order ≡ early.order → late.steps ≡ early.steps → Continues early late
shows-start early late shown none is o t = record {
  order = o;
  start = λ s e. (let clash : None ≡ Some s = sym none ∙ e in cc);
  more = [];
  steps = t ∙ sym (append-nil early.steps);
  own = refl;
}

pub started-goes : (sc : Scenario) (book : BookView) (state : CoreState) (shown : Shown) → state.start ≡ None → Continues state (started sc book state shown)
started-goes sc book state shown none =
    let on : CoreState = record state { start = Some shown; map = overlaid state.map (start_delta shown) } in
    let off : CoreState = record state { start = Some shown } in
    elim (shows_room shown) as (λ b. Continues state (if b then advance_to_query sc book (clock_tests sc state.order) on else off)) [
      | true ↦ goes-then state on (advance_to_query sc book (clock_tests sc state.order) on) (shows-start state on shown none refl refl refl) (go-on-goes sc book (clock_tests sc state.order) on)
      | false ↦ shows-start state off shown none refl refl refl
    ]

answered-goes : (sc : Scenario) (book : BookView) (state : CoreState) (shown : Shown) → is_outside shown ≡ false → Continues state (answered sc book state shown)
answered-goes sc book state shown own =
    let at : CoreState = record state { noted = []; number = state.number + 1 } in
    let here : Continues state at = goes-same state at refl refl refl in
    let first : (l : List ClockTest) → Continues state (after_first_test sc book at shown l) = λ l. elim l as (λ l. Continues state (after_first_test sc book at shown l)) [
      | [] ↦ here
      | t ∷ ts ↦ goes-then state at (advance_to_query sc book ts (settled sc at t shown)) here (goes-then at (settled sc at t shown) (advance_to_query sc book ts (settled sc at t shown)) (goes-settled sc at t shown own) (go-on-goes sc book ts (settled sc at t shown)))
    ] in
    let go : (o : Option Shown) → state.start ≡ o → Continues state (if is_none o then started sc book at shown else after_first_test sc book at shown state.left) = λ o. elim o as (λ o. state.start ≡ o → Continues state (if is_none o then started sc book at shown else after_first_test sc book at shown state.left)) [
      | None ↦ λ e. goes-then state at (started sc book at shown) here (started-goes sc book at shown e)
      | Some start ↦ λ e. first state.left
    ] in
    go state.start refl

pub take-goes : (sc : Scenario) (book : BookView) (state : CoreState) (p : PostingView) → Continues state (take sc book state p).1
take-goes sc book state p =
    take-cases sc book state p (λ out. Continues state out.1) (record {
      turned = λ reply t. goes-self state;
      rejected = λ place t f. goes-self state;
      fit = λ delta t f e. answered-goes sc book state (Fits delta) refl;
      refuted = λ how t f e. answered-goes sc book state (Refuted p.worker how) refl;
      already = λ receipt t f e n. goes-self state;
      last = λ receipt t f e n k. answered-goes sc book state (Undecided (all_spent state (noted_as p.worker receipt))) refl;
      more = λ receipt t f e n k. goes-same state _ refl refl refl;
    })

pub postings-go : (sc : Scenario) (book : BookView) (postings : List PostingView) (state : CoreState) → Continues state (after_postings sc book postings state)
postings-go sc book [] state = goes-self state
postings-go sc book (p ∷ ps) state = goes-then state (take sc book state p).1 (after_postings sc book ps (take sc book state p).1) (take-goes sc book state p) (postings-go sc book ps (take sc book state p).1)

entry-goes : (sc : Scenario) (book : BookView) (state new : CoreState) (e : EntryView) (o : Option Answer) → after_entry sc book state e o ≡ Some new → Continues state new
entry-goes sc book state new e (Some answer) s =
    let p : PostingView = record { worker = e.worker; number = e.number; answer = answer } in
    subst (Continues state) (if-some (agrees e.reply (take sc book state p).0) (take sc book state p).1 new s) (take-goes sc book state p)
entry-goes sc book state new e None s =
    subst (Continues state) (if-some (stands (unjudged_reply sc state e.worker e.number) (is_noted state.noted e.worker) e.reply) state new s) (goes-self state)

pub replay-goes : (sc : Scenario) (book : BookView) (es : List EntryView) (state new : CoreState) → replay_from sc book es state ≡ Some new → Continues state new
replay-goes sc book [] state new s = let same : state ≡ new = cc in subst (Continues state) same (goes-self state)
replay-goes sc book (e ∷ es) state new s =
    let go : (o : Option CoreState) → after_entry sc book state e e.answer ≡ o → option_and_then (replay_from sc book es) o ≡ Some new → Continues state new = λ o. elim o as (λ o. after_entry sc book state e e.answer ≡ o → option_and_then (replay_from sc book es) o ≡ Some new → Continues state new) [
      | None ↦ λ k r. cc
      | Some next ↦ λ k r. goes-then state next new (entry-goes sc book state next e e.answer k) (replay-goes sc book es next new r)
    ] in
    go (after_entry sc book state e e.answer) refl s

-- ---- the record of an auction that continued

-- the record of a later state continues an earlier one
pub goes-in : (sc : Scenario) (early late : CoreState) (rec : Record) → Continues early late → rec ≡ record_of sc late → ContinuesIn early rec
goes-in sc early late rec h is = record {
  order = ap (λ (r : Record). r.order) is ∙ h.order;
  start = λ shown e. ap (λ (r : Record). r.start) is ∙ ap shown_start (h.start shown e);
  more = h.more;
  steps = ap (λ (r : Record). r.steps) is ∙ h.steps;
  own = h.own;
}
