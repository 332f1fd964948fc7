-- An undecided query keeps the receipts that were pending on it.
use Rattle.std.proofs.Common.{◌≡◌, ◌∙◌, ℕ, zero, suc, ◌+◌, ◌<◌, ◌≤◌, ◌==◌, Bool, true, false, not, nat_lt, nat_le, if◌then◌else◌, List, [], ◌∷◌, ◌++◌, length, map, append_assoc, Option, Some, None, is_none, option_map, option_and_then, refl, sym, ap, subst, arith, eq-eqb, eqb-true, ◌≢◌}
use Rattle.std.specs.Prelude.{slice_get}
use Rattle.std.proofs.lemmas.Bool.{both_ways, leb-false, ltb-false, ltb-true, or_left, or_parts, true≢false}
use Rattle.std.proofs.lemmas.Option.{slice_get_past}
use Rattle.pack_defs.specs.Book.{BookView}
use Rattle.pack_defs.specs.Lists.{is_ascending, is_empty, is_in}
use Rattle.pack_defs.specs.declared.scenario.Scenario.{Scenario}
use Rattle.pack_defs.specs.ClockRule.{ClockTest}
use Rattle.pack_defs.proofs.Words.{ascending-rest, below-later}
use Rattle.cert_types.specs.declared.answer.Answer.{Answer}
use Rattle.cert_types.specs.declared.answer.Receipt.{Receipt}
use Rattle.auction_core.specs.declared.posting.Reply.{Reply}
use Rattle.auction_core.specs.declared.posting.Reply.TheVariants.{Ended, WrongQuery, Stranger}
use Rattle.auction_core.specs.declared.record.Record.{Record}
use Rattle.auction_core.specs.declared.record.Shown.{Shown}
use Rattle.auction_core.specs.declared.record.Shown.TheVariants.{Fits, Refuted, Undecided}
use Rattle.auction_core.specs.declared.record.Step.{Step}
use Rattle.auction_core.specs.Auction.{AuctionView}
use Rattle.auction_core.specs.Backed.{record_of, shown_start}
use Rattle.auction_core.specs.Postings.{Continues}
use Rattle.auction_core.specs.Replay.{EntryView, after_entry, agrees, replay_from, stands}
use Rattle.auction_core.specs.Rule.{AreNoted, AreValid}
use Rattle.auction_core.specs.State.{CoreState, NotedSpent, advance_to_query, after_first_test, answered, has_ended, settled, started}
use Rattle.auction_core.specs.Take.{PostingView, is_noted, noted_with, take, unjudged_reply}
use Rattle.auction_core.proofs.Cases.{all_spent, noted_as, take-cases, with_noted}
use Rattle.auction_core.proofs.Continues.{go-on-goes, goes-then, replay-goes as state-goes}
use Rattle.auction_core.proofs.QuerySessionLemmas.{started-start}
use Rattle.auction_core.proofs.Replays.{if-some}
use Rattle.auction_core.proofs.Sets.{step_of}
use Rattle.answer_board.specs.Boards.{beginning_of}
use Rattle.answer_board.proofs.PostLemmas.{Replays}
use Rattle.turn_lock.specs.Turns.{AllOf, StartsWith}
use Rattle.turn_lock.proofs.Lists.{all_map}
use Rattle.race_wave.specs.Run.{KeepsReceipts}
use Rattle.race_wave.proofs.MeasureLemmas.{on, rest-replays}

-- ---- the places of the receipts

-- Whether the workers ascend from lo on, below count.
abbrev IsPlaced : ℕ → ℕ → List NotedSpent → Type 0
IsPlaced count lo [] = Unit {0}
IsPlaced count lo (n ∷ ns) = (lo ≤ n.worker) × (n.worker < count) × IsPlaced count (n.worker + 1) ns

placed-long : (count lo : ℕ) (ns : List NotedSpent) → lo ≤ count → IsPlaced count lo ns → lo + length ns ≤ count
placed-long count lo [] le h = omega (arith, le)
placed-long count lo (n ∷ ns) le h =
    let from : lo ≤ n.worker = h.0 in
    let below : n.worker < count = h.1 in
    let rest : n.worker + 1 + length ns ≤ count = placed-long count (n.worker + 1) ns (omega (arith, below)) h.2 in
    omega (arith, from, rest)

placed-with : (count lo : ℕ) (x : NotedSpent) (ns : List NotedSpent) → lo ≤ x.worker → x.worker < count → is_noted ns x.worker ≡ false → IsPlaced count lo ns → IsPlaced count lo (noted_with x ns)
placed-with count lo x [] from below new h = (from, below, tt)
placed-with count lo x (n ∷ ns) from below new h =
    let parts = or_parts (n.worker == x.worker) (is_noted ns x.worker) new in
    let go : (b : Bool) → nat_lt x.worker n.worker ≡ b → IsPlaced count lo (if b then x ∷ n ∷ ns else n ∷ noted_with x ns) = λ b. elim b as (λ b. nat_lt x.worker n.worker ≡ b → IsPlaced count lo (if b then x ∷ n ∷ ns else n ∷ noted_with x ns)) [
      | true ↦ λ e. (from, below, (under x.worker n.worker e, h.1, h.2))
      | false ↦ λ e. (h.0, h.1, placed-with count (n.worker + 1) x ns (past x.worker n.worker e parts.0) below parts.1 h.2)
    ] in
    go (nat_lt x.worker n.worker) refl
  where
    under : (a b : ℕ) → nat_lt a b ≡ true → a + 1 ≤ b
    under a b e = let lt : a < b = ltb-true a b e in omega (arith, lt)

    past : (a b : ℕ) → nat_lt a b ≡ false → (b == a) ≡ false → b + 1 ≤ a
    past a b e f =
        let le : b ≤ a = ltb-false a b e in
        let ne : b ≢ a = λ same. both_ways (b == a) f (eq-eqb b a same) in
        omega (arith, le, ne)

-- A receipt and what is known of its place in a list from lo on.
abbrev IsAt : ℕ → List Receipt → NotedSpent → Type 0
IsAt lo receipts n = (lo ≤ n.worker) × ((i : ℕ) → lo + i ≡ n.worker → slice_get receipts i ≡ Some n.receipt)

later : (lo w : ℕ) (first : Receipt) (receipts : List Receipt) (n : NotedSpent) → w ≡ lo → IsAt (w + 1) receipts n → (i : ℕ) → lo + i ≡ n.worker → slice_get (first ∷ receipts) i ≡ Some n.receipt
later lo w first receipts n same h zero e = let from : w + 1 ≤ n.worker = h.0 in absurd (omega (arith, from, e, same))
later lo w first receipts n same h (suc i) e = h.1 i (omega (arith, e, same))

first-at : (lo : ℕ) (n : NotedSpent) (receipts : List Receipt) → n.worker ≡ lo → (i : ℕ) → lo + i ≡ n.worker → slice_get (n.receipt ∷ receipts) i ≡ Some n.receipt
first-at lo n receipts same zero e = refl
first-at lo n receipts same (suc i) e = absurd (omega (arith, same, e))

-- With as many receipts as workers from lo on, each is at its worker's place.
placed-at : (count lo : ℕ) (ns : List NotedSpent) → IsPlaced count lo ns → lo + length ns ≡ count → AllOf (IsAt lo (map (λ n. n.receipt) ns)) ns
placed-at count lo [] h long = tt
placed-at count lo (n ∷ ns) h long =
    let from : lo ≤ n.worker = h.0 in
    let below : n.worker < count = h.1 in
    let bound : n.worker + 1 + length ns ≤ count = placed-long count (n.worker + 1) ns (omega (arith, below)) h.2 in
    let same : n.worker ≡ lo = omega (arith, from, bound, long) in
    let rest : AllOf (IsAt (n.worker + 1) (map (λ n. n.receipt) ns)) ns = placed-at count (n.worker + 1) ns h.2 (omega (arith, same, long)) in
    let receipts : List Receipt = map (λ n. n.receipt) ns in (
      (from, first-at lo n receipts same),
      all_map (λ m k. ((let above : n.worker + 1 ≤ m.worker = k.0 in omega (arith, from, above)), later lo n.worker n.receipt receipts m same k)) ns rest,
    )

-- Whether each receipt is in its worker's place.
abbrev AreIn : List Receipt → List NotedSpent → Type 0
AreIn receipts ns = AllOf (λ n. slice_get receipts n.worker ≡ Some n.receipt) ns

all-in : (count : ℕ) (ns : List NotedSpent) → IsPlaced count 0 ns → length ns ≡ count → AreIn (map (λ n. n.receipt) ns) ns
all-in count ns h long = all_map (λ n k. k.1 n.worker (omega arith)) ns (placed-at count 0 ns h (omega (arith, long)))

-- What holds of all receipts holds of those before one came.
all-before : (P : NotedSpent → Type 0) (x : NotedSpent) (ns : List NotedSpent) → AllOf P (noted_with x ns) → AllOf P ns
all-before P x [] h = tt
all-before P x (n ∷ ns) h =
    (elim (nat_lt x.worker n.worker) as (λ b. AllOf P (if b then x ∷ n ∷ ns else n ∷ noted_with x ns) → AllOf P (n ∷ ns)) [
      | true ↦ λ k. k.1
      | false ↦ λ k. (k.0, all-before P x ns k.1)
    ]) h

one-longer : (x : NotedSpent) (ns : List NotedSpent) → length (noted_with x ns) ≡ length ns + 1
one-longer x [] = refl
one-longer x (n ∷ ns) =
    elim (nat_lt x.worker n.worker) as (λ b. length (if b then x ∷ n ∷ ns else n ∷ noted_with x ns) ≡ length (n ∷ ns) + 1) [
      | true ↦ omega arith
      | false ↦ let rest = one-longer x ns in omega (arith, rest)
    ]

placed-from : (sc : Scenario) (book : BookView) (state : CoreState) (lo : ℕ) (ns : List NotedSpent) → is_ascending (map (λ n. n.worker) ns) ≡ true → ((z : ℕ) → is_in (map (λ n. n.worker) ns) z ≡ true → lo ≤ z) → AreValid sc book state ns → IsPlaced (length sc.workers) lo ns
placed-from sc book state lo [] a f v = tt
placed-from sc book state lo (n ∷ ns) a f v =
    let workers : List ℕ = map (λ n. n.worker) ns in (
      f n.worker (or_left (n.worker == n.worker) (is_in workers n.worker) (eq-eqb n.worker n.worker refl)),
      v.0.0,
      placed-from sc book state (n.worker + 1) ns (ascending-rest n.worker workers a) (λ z h. let less : n.worker < z = below-later n.worker workers z a h in omega (arith, less)) v.1,
    )

-- ---- how the query was settled

-- How a later state settled the query of an earlier one.
abbrev settled-in : CoreState → CoreState → Option Shown
settled-in early late = if is_none early.start then late.start else option_map (λ x. x.shown) (slice_get late.steps (length early.steps))

at-end : (xs : List Step) (y : Step) (zs : List Step) → slice_get (xs ++ y ∷ zs) (length xs) ≡ Some y
at-end [] y zs = refl
at-end (x ∷ xs) y zs = at-end xs y zs

-- A current query is settled as its answer says.
settled-by : (sc : Scenario) (book : BookView) (state late : CoreState) (shown : Shown) → has_ended state ≡ false → Continues (answered sc book state shown) late → settled-in state late ≡ Some shown
settled-by sc book state late shown runs goes =
    let at : CoreState = record state { noted = []; number = state.number + 1 } in
    let read : List Step → Option Shown = λ l. option_map (λ x. x.shown) (slice_get l (length state.steps)) in
    let first : (l : List ClockTest) → is_empty l ≡ false → Continues (after_first_test sc book at shown l) late → read late.steps ≡ Some shown = λ l. elim l as (λ l. is_empty l ≡ false → Continues (after_first_test sc book at shown l) late → read late.steps ≡ Some shown) [
      | [] ↦ λ e g. absurd (true≢false e)
      | t ∷ ts ↦ λ e g.
          let one : CoreState = settled sc at t shown in
          let from : Continues one late = goes-then one (advance_to_query sc book ts one) late (go-on-goes sc book ts one) g in
          ap read (from.steps ∙ append_assoc state.steps (step_of t shown ∷ []) from.more) ∙ ap (option_map (λ (x : Step). x.shown)) (at-end state.steps (step_of t shown) from.more)
    ] in
    let go : (o : Option Shown) → (if is_none o then false else is_empty state.left) ≡ false → Continues (if is_none o then started sc book at shown else after_first_test sc book at shown state.left) late → (if is_none o then late.start else read late.steps) ≡ Some shown = λ o. elim o as (λ o. (if is_none o then false else is_empty state.left) ≡ false → Continues (if is_none o then started sc book at shown else after_first_test sc book at shown state.left) late → (if is_none o then late.start else read late.steps) ≡ Some shown) [
      | None ↦ λ e g. g.start shown (started-start sc book at shown)
      | Some s ↦ λ e g. first state.left e g
    ] in
    go state.start runs goes

-- The query of a state is not settled in it.
not-yet : (state : CoreState) → settled-in state state ≡ None
not-yet state =
    let none : option_map (λ (x : Step). x.shown) (slice_get state.steps (length state.steps)) ≡ None = ap (option_map (λ (x : Step). x.shown)) (slice_get_past state.steps (length state.steps) (omega arith)) in
    let go : (o : Option Shown) → (if is_none o then o else option_map (λ (x : Step). x.shown) (slice_get state.steps (length state.steps))) ≡ None = λ o. elim o as (λ o. (if is_none o then o else option_map (λ (x : Step). x.shown) (slice_get state.steps (length state.steps))) ≡ None) [
      | None ↦ refl
      | Some s ↦ none
    ] in
    go state.start

-- ---- receipts from state to state

-- Whether a query that ends undecided in the later state has the receipts that are pending in the earlier one.
abbrev Keeps : CoreState → CoreState → Type 0
Keeps early late = (receipts : List Receipt) → settled-in early late ≡ Some (Undecided receipts) → AreIn receipts early.noted

-- What a step from one state to the next keeps, if what follows keeps its receipts.
abbrev KeepsBy : ℕ → CoreState → CoreState → Type 0
KeepsBy count state next = (late : CoreState) → Continues next late → (IsPlaced count 0 next.noted → Keeps next late) → Keeps state late

-- A posting that is not turned away is of a worker of the scenario.
within : (a b c : Bool) (n : ℕ) → (if a then Some Ended else (if not b then Some (WrongQuery n) else (if c then Some Stranger else None))) ≡ None → c ≡ false
within true b c n e = cc
within false true true n e = cc
within false true false n e = refl
within false false c n e = cc

known : (sc : Scenario) (state : CoreState) (w number : ℕ) → unjudged_reply sc state w number ≡ None → w < length sc.workers
known sc state w number t =
    let no : nat_le (length sc.workers) w ≡ false = within (has_ended state) (number == state.number) (nat_le (length sc.workers) w) state.number t in
    leb-false (length sc.workers) w no

take-keeps : (sc : Scenario) (book : BookView) (state : CoreState) (p : PostingView) → IsPlaced (length sc.workers) 0 state.noted → KeepsBy (length sc.workers) state (take sc book state p).1
take-keeps sc book state p placed =
    let count : ℕ = length sc.workers in
    take-cases sc book state p (λ (out : Reply × CoreState). KeepsBy count state out.1) (record {
      turned = λ reply t late g k. k placed;
      rejected = λ place t f late g k. k placed;
      fit = λ delta t f a late g k receipts e.
          let clash : Some (Fits delta) ≡ Some (Undecided receipts) = sym (settled-by sc book state late (Fits delta) (on sc state p.worker p.number t) g) ∙ e in cc;
      refuted = λ how t f a late g k receipts e.
          let clash : Some (Refuted p.worker how) ≡ Some (Undecided receipts) = sym (settled-by sc book state late (Refuted p.worker how) (on sc state p.worker p.number t) g) ∙ e in cc;
      already = λ receipt t f a n late g k. k placed;
      last = λ receipt t f a n l late g k receipts e.
          let x : NotedSpent = noted_as p.worker receipt in
          let all : List Receipt = all_spent state x in
          let is : Some (Undecided all) ≡ Some (Undecided receipts) = sym (settled-by sc book state late (Undecided all) (on sc state p.worker p.number t) g) ∙ e in
          let same : all ≡ receipts = cc in
          let more : IsPlaced count 0 (noted_with x state.noted) = placed-with count 0 x state.noted (omega arith) (known sc state p.worker p.number t) n placed in
          let long : length (noted_with x state.noted) ≡ count = one-longer x state.noted ∙ eqb-true (length state.noted + 1) count l in
          subst (λ r. AreIn r state.noted) same (all-before (λ m. slice_get all m.worker ≡ Some m.receipt) x state.noted (all-in count (noted_with x state.noted) more long));
      more = λ receipt t f a n l late g k receipts e.
          let x : NotedSpent = noted_as p.worker receipt in
          all-before (λ m. slice_get receipts m.worker ≡ Some m.receipt) x state.noted (k (placed-with count 0 x state.noted (omega arith) (known sc state p.worker p.number t) n placed) receipts e);
    })

entry-keeps : (sc : Scenario) (book : BookView) (state new : CoreState) (e : EntryView) (o : Option Answer) → IsPlaced (length sc.workers) 0 state.noted → after_entry sc book state e o ≡ Some new → KeepsBy (length sc.workers) state new
entry-keeps sc book state new e (Some answer) placed s =
    let p : PostingView = record { worker = e.worker; number = e.number; answer = answer } in
    subst (KeepsBy (length sc.workers) state) (if-some (agrees e.reply (take sc book state p).0) (take sc book state p).1 new s) (take-keeps sc book state p placed)
entry-keeps sc book state new e None placed s =
    subst (KeepsBy (length sc.workers) state) (if-some (stands (unjudged_reply sc state e.worker e.number) (is_noted state.noted e.worker) e.reply) state new s) (λ late g k. k placed)

replay-keeps : (sc : Scenario) (book : BookView) (es : List EntryView) (state new : CoreState) → IsPlaced (length sc.workers) 0 state.noted → replay_from sc book es state ≡ Some new → Keeps state new
replay-keeps sc book [] state new placed s =
    let same : state ≡ new = cc in
    subst (Keeps state) same (λ receipts e. (let clash : None ≡ Some (Undecided receipts) = sym (not-yet state) ∙ e in cc))
replay-keeps sc book (e ∷ es) state new placed s =
    let go : (o : Option CoreState) → after_entry sc book state e e.answer ≡ o → option_and_then (replay_from sc book es) o ≡ Some new → Keeps state new = λ o. elim o as (λ o. after_entry sc book state e e.answer ≡ o → option_and_then (replay_from sc book es) o ≡ Some new → Keeps state new) [
      | None ↦ λ k r. cc
      | Some next ↦ λ k r. entry-keeps sc book state next e e.answer placed k new (state-goes sc book es next new r) (λ p. replay-keeps sc book es next new p r)
    ] in
    go (after_entry sc book state e e.answer) refl s

-- ---- the record

start-of : (o : Option Shown) (receipts : List Receipt) → Some (shown_start o) ≡ Some (Undecided receipts) → o ≡ Some (Undecided receipts)
start-of None receipts e = cc
start-of (Some shown) receipts e = e

record-in : (early late : CoreState) (receipts : List Receipt)
    → (if is_none early.start then Some (shown_start late.start) else option_map (λ (x : Step). x.shown) (slice_get late.steps (length early.steps))) ≡ Some (Undecided receipts)
    → settled-in early late ≡ Some (Undecided receipts)
record-in early late receipts e =
    (elim early.start as (λ o. (if is_none o then Some (shown_start late.start) else option_map (λ (x : Step). x.shown) (slice_get late.steps (length early.steps))) ≡ Some (Undecided receipts)
    → (if is_none o then late.start else option_map (λ (x : Step). x.shown) (slice_get late.steps (length early.steps))) ≡ Some (Undecided receipts)) [
      | None ↦ λ k. start-of late.start receipts k
      | Some s ↦ λ k. k
    ]) e

keeps-in : (sc : Scenario) (early late : CoreState) → Keeps early late → KeepsReceipts early (record_of sc late)
keeps-in sc early late h = record { kept = λ receipts e. h receipts (record-in early late receipts e) }

-- The record of an auction that began as another one and continues its history keeps that one's pending receipts.
pub later-keeps : (old new : AuctionView) (sc : Scenario) (rec : Record) → beginning_of new ≡ beginning_of old → StartsWith new.history old.history → Replays old → Replays new → AreNoted old.scenario old.book old.state → rec ≡ record_of sc new.state → KeepsReceipts old.state rec
later-keeps old new sc rec begins starts h k noted is =
    let placed : IsPlaced (length old.scenario.workers) 0 old.state.noted = placed-from old.scenario old.book old.state 0 old.state.noted noted.distinct (λ z m. omega arith) noted.valid in
    let keeps : Keeps old.state new.state = replay-keeps old.scenario old.book starts.0 old.state new.state placed (rest-replays old new starts.0 begins starts.1 h k) in
    subst (KeepsReceipts old.state) (sym is) (keeps-in sc old.state new.state keeps)
