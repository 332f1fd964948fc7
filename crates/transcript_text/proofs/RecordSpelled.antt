-- The transcript of a backed record of a finished auction can be written.
use Rattle.std.proofs.Common.{◌≡◌, ◌<◌, ◌≤◌, ◌+◌, ◌∷◌, ◌++◌, [], ℕ, zero, suc, List, Bool, true, false, ◌==◌, if◌then◌else◌, Option, Some, None, MatchOption, inl, inr, ◌⊎◌, refl, ap, subst, arith, length, map, eqb-true, eq-eqb}
use Rattle.std.specs.Prelude.{nat_lt, slice_get}
use Rattle.std.specs.List.{All, AllByRecursion, list_all}
use Rattle.std.proofs.lemmas.Bool.{and_parts, or_cases, or_left, or_right}
use Rattle.std.proofs.lemmas.List.{length-map}
use Rattle.std.proofs.lemmas.List.Elements.{All-tail}
use Rattle.clause_db.specs.declared.lit.Lit.{Lit}
use Rattle.pack_defs.specs.Book.{BookView, domain_of}
use Rattle.pack_defs.specs.ChannelMap.{IsAscending, overlaid, put}
use Rattle.pack_defs.specs.Lists.{has_entry, has_station, is_ascending, is_in, is_only, same_entry}
use Rattle.pack_defs.specs.Scenario.{IsWithinLimits, IsWorkerWithinLimits, facilities}
use Rattle.pack_defs.specs.declared.scenario.Scenario.{Scenario}
use Rattle.pack_defs.specs.declared.station.Station.{Station}
use Rattle.pack_defs.specs.declared.worker.Worker.{Worker}
use Rattle.pack_defs.proofs.BookLemmas.{channels_in-ascend}
use Rattle.pack_defs.proofs.Members.{is_in-from}
use Rattle.pack_defs.proofs.Words.{ascending-rest, same_entry-itself, Contains-from_has_entry, list_all-at, its-entry}
use Rattle.assign_check.specs.Fault.{IsCleanOn}
use Rattle.assign_check.proofs.Overlays.{change-stands}
use Rattle.cnf_encode.specs.Formula.{packing_formula, variables_in}
use Rattle.rup_check.specs.declared.line.Line.{Line}
use Rattle.rup_check.specs.Follows.{Follows, lines_fault}
use Rattle.cert_types.specs.declared.answer.Receipt.{Receipt}
use Rattle.cert_types.specs.declared.answer.Receipt.TheVariants.{Lines, Moves}
use Rattle.cert_types.specs.declared.answer.Refutation.{Refutation}
use Rattle.cert_types.specs.declared.answer.Refutation.TheVariants.{Proof, Dead}
use Rattle.cert_types.specs.declared.outside.OutsideProof.{OutsideProof}
use Rattle.cert_types.specs.declared.task.Task.{Task}
use Rattle.cert_types.specs.Outside.{IsOutsideProof}
use Rattle.cert_types.specs.Spent.{AreSpentLines}
use Rattle.cert_types.specs.Moves.{AreSpentMoves, start_map}
use Rattle.cert_types.proofs.WalkLemmas.{troubled-there}
use Rattle.auction_core.specs.declared.record.Shown.{Shown}
use Rattle.auction_core.specs.declared.record.Shown.TheVariants.{Empty, Fits, Same, NoChannel, Refuted, Outside, Undecided}
use Rattle.auction_core.specs.Backed.{AreReceipts, IsRefutedBy, IsSettledBy, IsSpentBy}
use Rattle.lrat_text.specs.Write.{AreSpelled, IsBefore}
use Rattle.lrat_text.proofs.Named.{follows-spelled}
use Rattle.transcript_text.specs.Fields.{greatest_u32, is_above, most_counted}
use Rattle.transcript_text.specs.RoundTrip.{IsFitAscending, IsNamed}
use Rattle.transcript_text.specs.Spelled.{AreEntries, AreLines, AreReceiptsSpelled, AreStations, IsEntry, IsHint, IsLog, IsOneLog, IsReceipt, IsRefutation, IsShownSpelled, IsStation}
use Rattle.auction_core.specs.LogNumbers.{clauses_in, first_number, first_of, firsts_of}
use Rattle.transcript_text.proofs.Sizes.{clauses-most, few-channels, no-longer, variables-most}
use Rattle.transcript_text.proofs.Writes.{budget-most, head-of, of-worker}

-- Whether the set has stations of the scenario only, and ascends.
pub record IsKnown (sc : Scenario) (set : List ℕ) : Type 0 where
  pub rises : is_ascending set ≡ true
  pub known : (z : ℕ) → is_in set z ≡ true → is_in (facilities sc) z ≡ true

-- ---- stations, channels and sizes

number-of : (xs : List Station) (z : ℕ) → All (λ x. x.id ≤ greatest_u32) xs → is_in (map (λ x. x.id) xs) z ≡ true → z ≤ greatest_u32
number-of [] z h m = absurd cc
number-of (x ∷ xs) z h m = elim (or_cases (x.id == z) (is_in (map (λ y. y.id) xs) z) m) [
  | inl here ↦ subst (λ (y : ℕ). y ≤ greatest_u32) (eqb-true x.id z here) (head-of (λ y. y.id ≤ greatest_u32) x xs h)
  | inr there ↦ number-of xs z (All-tail (λ y. y.id ≤ greatest_u32) x xs h) there
]

pub station-of : (sc : Scenario) (book : BookView) (s : ℕ) → IsNamed sc book → is_in (facilities sc) s ≡ true → IsStation sc s
station-of sc book s n m = (m, number-of sc.stations s n.numbers m)

domain-short : (sc : Scenario) (book : BookView) → IsNamed sc book → (s : ℕ) → length (domain_of book s) ≤ 52
domain-short sc book n s = few-channels (domain_of book s) (channels_in-ascend book.domains s n.in_order.domains.channels) (λ c m. (n.channels s c m).1)

set-few : (sc : Scenario) (set : List ℕ) → IsWithinLimits sc → IsKnown sc set → length set ≤ 8192
set-few sc set l k =
    let most = no-longer (facilities sc) set k.rises k.known in
    let all = length-map sc.stations (λ x. x.id) in
    omega (arith, most, all, l.stations)

-- The numbers, literals and hints of a log over a set fit a text.
log-lines : (number : ℕ) (lines : List Line) → AreSpelled number lines → AreLines number lines
log-lines number [] h = tt
log-lines number (line ∷ lines) h = ((h.0.0, h.0.1, hints line.hints h.0.2), log-lines (number + 1) lines h.1)
  where
    hints : (hs : List ℕ) → AllByRecursion (IsBefore number) hs → AllByRecursion IsHint hs
    hints [] b = tt
    hints (x ∷ xs) b = ((b.0.0, omega (arith, b.0.1, h.0.0)), hints xs b.1)

follows-lines : (sc : Scenario) (book : BookView) (set : List ℕ) (lines : List Line) → IsWithinLimits sc → IsNamed sc book → IsKnown sc set → Follows (variables_in book set) (packing_formula book set) lines → length lines ≤ most_counted
    → AreLines (clauses_in book set + 1) lines
follows-lines sc book set lines l n k follows few =
    let size = set-few sc set l k in
    let vars = variables-most book set (domain-short sc book n) in
    let clauses = clauses-most book set (domain-short sc book n) in
    log-lines (clauses_in book set + 1) lines
    (follows-spelled (variables_in book set) (packing_formula book set) lines follows (omega (arith, size, vars)) (omega (arith, size, clauses, n.pairs, few)))

follows-log : (sc : Scenario) (book : BookView) (set : List ℕ) (lines : List Line) → IsWithinLimits sc → IsNamed sc book → IsKnown sc set → Follows (variables_in book set) (packing_formula book set) lines → length lines ≤ most_counted
    → IsLog (first_number (clauses_in book set) lines) lines
follows-log sc book set [] l n k follows few = refl
follows-log sc book set (line ∷ lines) l n k follows few = follows-lines sc book set (line ∷ lines) l n k follows few

-- ---- entries of a map

-- Whether the first of these stations, if there is one, is above this one.
abbrev FirstAbove : Option ℕ → List (ℕ × ℕ) → Type 0
FirstAbove above [] = Unit {0}
FirstAbove above (x ∷ xs) = is_above above x.0 ≡ true

next-above : (x : ℕ × ℕ) (xs : List (ℕ × ℕ)) → IsAscending (x ∷ xs) → FirstAbove (Some x.0) xs
next-above x [] a = tt
next-above x (y ∷ ys) a = (and_parts (nat_lt x.0 y.0) (is_ascending (map (λ z. z.0) (y ∷ ys))) a).0

entries-from : (sc : Scenario) (above : Option ℕ) (xs : List (ℕ × ℕ)) → IsAscending xs → ((x : ℕ × ℕ) → has_entry xs x ≡ true → IsEntry sc x) → FirstAbove above xs → AreEntries sc above xs
entries-from sc above [] a each first = tt
entries-from sc above (x ∷ xs) a each first =
    let here = each x (or_left (same_entry x x) (has_entry xs x) (same_entry-itself x)) in
    ((here, first), entries-from sc (Some x.0) xs (ascending-rest x.0 (map (λ z. z.0) xs) a) (λ y m. each y (or_right (same_entry x y) (has_entry xs y) m)) (next-above x xs a))

first-of-all : (xs : List (ℕ × ℕ)) → FirstAbove None xs
first-of-all [] = tt
first-of-all (x ∷ xs) = refl

fit-entry : (sc : Scenario) (book : BookView) (set : List ℕ) (last delta : List (ℕ × ℕ)) → IsNamed sc book → IsKnown sc set → IsCleanOn book set (overlaid last delta) → IsAscending delta → (x : ℕ × ℕ) → has_entry delta x ≡ true → IsEntry sc x
fit-entry sc book set last delta n k clean a x m =
    let there = change-stands last delta x a m in
    let station = k.known x.0 (clean.only x there) in
    let channel = is_in-from (domain_of book x.0) x.1 (clean.clean.on_domain x (Contains-from_has_entry (overlaid last delta) x there)) in
    (station-of sc book x.0 n station, n.channels x.0 x.1 channel)

pub fit-spelled : (sc : Scenario) (book : BookView) (set : List ℕ) (last delta : List (ℕ × ℕ)) → IsWithinLimits sc → IsNamed sc book → IsKnown sc set → IsCleanOn book set (overlaid last delta) → IsAscending delta
    → (length delta ≤ most_counted) × AreEntries sc None delta
fit-spelled sc book set last delta l n k clean a =
    let each = fit-entry sc book set last delta n k clean a in
    let few = no-longer (facilities sc) (map (λ x. x.0) delta) a (λ z m. let e = its-entry delta z m in (each (z, e.0) e.1).0.0) in
    let all = length-map sc.stations (λ x. x.id) in
    let own = length-map delta (λ x. x.0) in
    (omega (arith, few, all, own, l.stations), entries-from sc None delta a each (first-of-all delta))

-- ---- refutations

abbrev Above : Option ℕ → List ℕ → Type 0
Above above [] = Unit {0}
Above above (x ∷ xs) = is_above above x ≡ true

above-rest : (x : ℕ) (xs : List ℕ) → is_ascending (x ∷ xs) ≡ true → Above (Some x) xs
above-rest x [] a = tt
above-rest x (y ∷ ys) a = (and_parts (nat_lt x y) (is_ascending (y ∷ ys)) a).0

above-none : (xs : List ℕ) → Above None xs
above-none [] = tt
above-none (x ∷ xs) = refl

stations-from : (sc : Scenario) (above : Option ℕ) (xs : List ℕ) → is_ascending xs ≡ true → ((z : ℕ) → is_in xs z ≡ true → IsStation sc z) → Above above xs → AreStations sc above xs
stations-from sc above [] a each first = tt
stations-from sc above (x ∷ xs) a each first =
    let here = each x (or_left (x == x) (is_in xs x) (eq-eqb x x refl)) in
    ((here, first), stations-from sc (Some x) xs (ascending-rest x xs a) (λ z m. each z (or_right (x == z) (is_in xs z) m)) (above-rest x xs a))

dead-channel : (book : BookView) (s c : ℕ) → is_only (domain_of book s) c ≡ true → is_in (domain_of book s) c ≡ true
dead-channel book s c h = go (domain_of book s) h
  where
    go : (xs : List ℕ) → is_only xs c ≡ true → is_in xs c ≡ true
    go [] e = absurd cc
    go (x ∷ []) e = or_left (x == c) false e
    go (x ∷ y ∷ xs) e = absurd cc

refutation-spelled : (sc : Scenario) (book : BookView) (task : Task) (worker : Worker) (how : Refutation) → IsWithinLimits sc → IsNamed sc book → IsKnown sc task.set → worker.budget ≤ most_counted → IsRefutedBy book task worker how → IsRefutation sc book how
refutation-spelled sc book task worker (Proof subset log) l n k most p =
    let few : length log.lines ≤ most_counted = omega (arith, p.within_budget, most) in
    let parts = and_parts (is_ascending subset) (list_all (is_in task.set) subset) p.of_subset in
    let known : (z : ℕ) → is_in subset z ≡ true → is_in (facilities sc) z ≡ true = λ z m. k.known z (list_all-at (is_in task.set) subset z parts.1 m) in
    (few, stations-from sc None subset parts.0 (λ z m. station-of sc book z n (known z m)) (above-none subset), follows-lines sc book subset log.lines l n (record { rises = parts.0; known = known }) p.follows few)
refutation-spelled sc book task worker (Dead p) l n k most dead =
    let parts = and_parts _ _ (and_parts _ _ dead).1 in
    let both = and_parts (is_in task.set p.f) (is_in task.set p.g) parts.0 in
    let only = and_parts (is_only (domain_of book p.f) p.a) (is_only (domain_of book p.g) p.b) parts.1 in (
      (station-of sc book p.f n (k.known p.f both.0), n.channels p.f p.a (dead-channel book p.f p.a only.0)),
      (station-of sc book p.g n (k.known p.g both.1), n.channels p.g p.b (dead-channel book p.g p.b only.1)),
    )

worker-within : (ws : List Worker) (w : ℕ) (P : Worker → Type 0) → MatchOption (slice_get ws w) ⊥ P → w < length ws
worker-within [] w P h = absurd h
worker-within (x ∷ xs) zero P h = omega arith
worker-within (x ∷ xs) (suc w) P h = let rest = worker-within xs w P h in omega (arith, rest)

-- ---- receipts

spent-follows : (vars : ℕ) (clauses : List (List Lit)) (place : ℕ) (lines : List Line) → AreSpentLines vars clauses lines → lines_fault vars clauses place lines ≡ None
unfolding lines_fault
spent-follows vars clauses place [] h = refl
spent-follows vars clauses place (line ∷ lines) h = rw (h.0.follows) (spent-follows vars (clauses ++ line.lits ∷ []) (place + 1) lines h.1)

put-in : (x : ℕ × ℕ) (m : List (ℕ × ℕ)) (z : ℕ) → has_station (put x m) z ≡ true → (x.0 ≡ z) ⊎ (has_station m z ≡ true)
put-in x [] z h = elim (or_cases (x.0 == z) false h) [ inl here ↦ inl (eqb-true x.0 z here) | inr none ↦ absurd cc ]
put-in x (y ∷ ys) z h = go (nat_lt x.0 y.0) (x.0 == y.0) refl (put-in x ys z) h
  where
    from : (rest : List (ℕ × ℕ)) → has_station (x ∷ rest) z ≡ true → (has_station rest z ≡ true → has_station (y ∷ ys) z ≡ true) → (x.0 ≡ z) ⊎ (has_station (y ∷ ys) z ≡ true)
    from rest m f = elim (or_cases (x.0 == z) (has_station rest z) m) [ inl here ↦ inl (eqb-true x.0 z here) | inr there ↦ inr (f there) ]

    go : (a b : Bool) → (x.0 == y.0) ≡ b → (has_station (put x ys) z ≡ true → (x.0 ≡ z) ⊎ (has_station ys z ≡ true)) → has_station (if a then x ∷ y ∷ ys else (if b then x ∷ ys else y ∷ put x ys)) z ≡ true → (x.0 ≡ z) ⊎ (has_station (y ∷ ys) z ≡ true)
    go true b p rec m = from (y ∷ ys) m (λ k. k)
    go false true p rec m = from ys m (λ k. or_right (y.0 == z) (has_station ys z) k)
    go false false p rec m = elim (or_cases (y.0 == z) (has_station (put x ys) z) m) [
      | inl here ↦ inr (or_left (y.0 == z) (has_station ys z) here)
      | inr there ↦ elim (rec there) [ inl own ↦ inl own | inr old ↦ inr (or_right (y.0 == z) (has_station ys z) old) ]
    ]

moves-spelled : (sc : Scenario) (book : BookView) (entries moves : List (ℕ × ℕ)) → IsNamed sc book → ((z : ℕ) → has_station entries z ≡ true → is_in (facilities sc) z ≡ true) → AreSpentMoves book entries moves → AllByRecursion (IsEntry sc) moves
moves-spelled sc book entries [] n known h = tt
moves-spelled sc book entries (x ∷ xs) n known h =
    let station = known x.0 (troubled-there book entries x.0 h.0.violating) in (
      (station-of sc book x.0 n station, n.channels x.0 x.1 h.0.on_domain),
      moves-spelled sc book (put x entries) xs n (λ z m. elim (put-in x entries z m) [ inl own ↦ subst (λ (y : ℕ). is_in (facilities sc) y ≡ true) own station | inr old ↦ known z old ]) h.1,
    )

start-known : (book : BookView) (last : List (ℕ × ℕ)) (set : List ℕ) (z : ℕ) → has_station (start_map book last set) z ≡ true → is_in set z ≡ true
start-known book last [] z m = absurd cc
start-known book last (s ∷ set) z m = elim (or_cases (s == z) (has_station (start_map book last set) z) m) [
  | inl here ↦ or_left (s == z) (is_in set z) here
  | inr there ↦ or_right (s == z) (is_in set z) (start-known book last set z there)
]

receipt-spelled : (sc : Scenario) (book : BookView) (task : Task) (worker : Worker) (x : Receipt) → IsWithinLimits sc → IsNamed sc book → IsKnown sc task.set → worker.budget ≤ most_counted → IsSpentBy book task worker x → IsReceipt sc x (first_of (clauses_in book task.set) x)
receipt-spelled sc book task worker (Lines log) l n k most p =
    let few : length log.lines ≤ most_counted = omega (arith, p.whole_budget, most) in
    (few, follows-log sc book task.set log.lines l n k (spent-follows (variables_in book task.set) (packing_formula book task.set) 1 log.lines p.spent) few)
receipt-spelled sc book task worker (Moves moves) l n k most p =
    (omega (arith, p.whole_budget, most), moves-spelled sc book (start_map book task.last task.set) moves n (λ z m. k.known z (start-known book task.last task.set z m)) p.spent, refl)

receipts-spelled : (sc : Scenario) (book : BookView) (task : Task) (ws : List Worker) (xs : List Receipt) → IsWithinLimits sc → IsNamed sc book → IsKnown sc task.set → All IsWorkerWithinLimits ws → AreReceipts book task ws xs
    → (length xs ≡ length ws) × AreReceiptsSpelled sc xs (map (first_of (clauses_in book task.set)) xs)
receipts-spelled sc book task [] [] l n k limits h = (refl, tt)
receipts-spelled sc book task [] (x ∷ xs) l n k limits h = absurd h
receipts-spelled sc book task (w ∷ ws) [] l n k limits h = absurd h
receipts-spelled sc book task (w ∷ ws) (x ∷ xs) l n k limits h =
    let rest = receipts-spelled sc book task ws xs l n k (All-tail IsWorkerWithinLimits w ws limits) h.1 in
    (ap suc rest.0, (receipt-spelled sc book task w x l n k (budget-most w (head-of IsWorkerWithinLimits w ws limits)) h.0, rest.1))

-- ---- how a query is settled

outside-spelled : (sc : Scenario) (book : BookView) (set : List ℕ) (proof : OutsideProof) (o : Option ℕ) → IsWithinLimits sc → IsNamed sc book → IsKnown sc set → MatchOption o ⊥ (λ station. IsOutsideProof book set proof)
    → (length proof.log.lines ≤ most_counted) × IsOneLog (first_number (clauses_in book set) proof.log.lines ∷ []) proof.log.lines
outside-spelled sc book set proof None l n k h = absurd h
outside-spelled sc book set proof (Some s) l n k h = (h.within, follows-log sc book set proof.log.lines l n k h.follows h.within)

pub settled-spelled : (sc : Scenario) (book : BookView) (task : Task) (station : ℕ) (shown : Shown) → IsWithinLimits sc → IsNamed sc book → IsKnown sc task.set → IsFitAscending shown → IsSettledBy sc book task shown
    → IsShownSpelled sc book station shown (firsts_of (clauses_in book task.set) shown)
settled-spelled sc book task station Empty l n k a h = absurd h
settled-spelled sc book task station (Fits delta) l n k a h =
    let fit = fit-spelled sc book task.set task.last delta l n k h a in (fit.0, fit.1, refl)
settled-spelled sc book task station Same l n k a h = absurd h
settled-spelled sc book task station (NoChannel s) l n k a h = absurd h
settled-spelled sc book task station (Refuted w how) l n k a h =
    let worker = of-worker sc.workers w (λ worker. IsRefutedBy book task worker how) l.each_worker h in
    let within = worker-within sc.workers w (λ worker. IsRefutedBy book task worker how) h in
    ((within, omega (arith, within, l.workers)), refutation-spelled sc book task worker.0 how l n k worker.1 worker.2, refl)
settled-spelled sc book task station (Outside proof) l n k a h = outside-spelled sc book task.set proof task.station l n k h
settled-spelled sc book task station (Undecided receipts) l n k a h = receipts-spelled sc book task sc.workers receipts l n k l.each_worker h
