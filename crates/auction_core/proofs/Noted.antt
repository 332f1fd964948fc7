-- Pending receipts: one more keeps them valid, and the last one settles the test.
use Rattle.std.proofs.Common.{◌≡◌, ℕ, ◌+◌, ◌<◌, ◌≤◌, Bool, true, false, ◌==◌, nat_lt, if◌then◌else◌, List, [], ◌∷◌, map, length, Option, Some, None, MatchOption, drop, refl, sym, ap, ◌∙◌, subst, ⊎_elim, inl, inr, eqb-true, eq-eqb, arith, zero, suc, length-drop, ◌⊎◌}
use Rattle.std.specs.Prelude.{slice_get}
use Rattle.std.proofs.lemmas.Bool.{and_from, or_cases, or_left, or_right, or_parts, both_ways, ltb-false, false≢true, cases_order}
use Rattle.pack_defs.specs.Book.{BookView}
use Rattle.pack_defs.specs.Lists.{is_in, is_ascending}
use Rattle.pack_defs.specs.declared.scenario.Scenario.{Scenario}
use Rattle.pack_defs.proofs.Words.{below-later, ascending-rest}
use Rattle.cert_types.specs.declared.task.Task.{Task}
use Rattle.cert_types.specs.Valid.{IsValid}
use Rattle.cert_types.specs.declared.answer.Receipt.{Receipt}
use Rattle.pack_defs.specs.declared.worker.Worker.{Worker}
use Rattle.cert_types.specs.declared.answer.Answer.TheVariants.{Spent}
use Rattle.auction_core.specs.declared.record.Shown.TheVariants.{Undecided}
use Rattle.auction_core.specs.State.{CoreState, NotedSpent, task_of}
use Rattle.auction_core.specs.Take.{is_noted, noted_with}
use Rattle.auction_core.proofs.CertifiedBy.{receipt-means}
use Rattle.auction_core.specs.Backed.{AreReceipts, IsSettledBy}
use Rattle.auction_core.specs.Rule.{Answers, IsValidOf, AreValid, AreNoted}
use Rattle.auction_core.proofs.Overlay.{ascending-cons}
use Rattle.auction_core.proofs.Cases.{with_noted, all_spent}

abbrev workers_of : List NotedSpent → List ℕ
workers_of noted = map (λ n. n.worker) noted

length-with : (x : NotedSpent) (ns : List NotedSpent) → length (noted_with x ns) ≡ length ns + 1
length-with x [] = refl
length-with x (n ∷ ns) =
    let rest = length-with x ns in
    let go : (b : Bool) → length (if b then x ∷ n ∷ ns else n ∷ noted_with x ns) ≡ length (n ∷ ns) + 1 = λ b. elim b as (λ b. length (if b then x ∷ n ∷ ns else n ∷ noted_with x ns) ≡ length (n ∷ ns) + 1) [ true ↦ omega arith | false ↦ omega arith ] in
    go (nat_lt x.worker n.worker)

worker-with : (x : NotedSpent) (ns : List NotedSpent) (z : ℕ) → is_in (workers_of (noted_with x ns)) z ≡ true → (x.worker ≡ z) ⊎ (is_in (workers_of ns) z ≡ true)
worker-with x [] z h = ⊎_elim (λ e. inl (eqb-true x.worker z e)) (λ (r : false ≡ true). absurd (false≢true r)) (or_cases (x.worker == z) false h)
worker-with x (n ∷ ns) z h =
    let go : (b : Bool) → is_in (workers_of (if b then x ∷ n ∷ ns else n ∷ noted_with x ns)) z ≡ true → (x.worker ≡ z) ⊎ (is_in (workers_of (n ∷ ns)) z ≡ true) = λ b. elim b as (λ b. is_in (workers_of (if b then x ∷ n ∷ ns else n ∷ noted_with x ns)) z ≡ true → (x.worker ≡ z) ⊎ (is_in (workers_of (n ∷ ns)) z ≡ true)) [
      | true ↦ λ k. ⊎_elim (λ l. inl (eqb-true x.worker z l)) (λ r. inr r) (or_cases (x.worker == z) (is_in (workers_of (n ∷ ns)) z) k)
      | false ↦ λ k. ⊎_elim (λ l. inr (or_left (n.worker == z) (is_in (workers_of ns) z) l)) (λ r. ⊎_elim (λ l. inl l) (λ q. inr (or_right (n.worker == z) (is_in (workers_of ns) z) q)) (worker-with x ns z r)) (or_cases (n.worker == z) (is_in (workers_of (noted_with x ns)) z) k)
    ] in
    go (nat_lt x.worker n.worker) h

ascending-with : (x : NotedSpent) (ns : List NotedSpent) → is_ascending (workers_of ns) ≡ true → is_noted ns x.worker ≡ false → is_ascending (workers_of (noted_with x ns)) ≡ true
ascending-with x [] a new = refl
ascending-with x (n ∷ ns) a new =
    let parts = or_parts (n.worker == x.worker) (is_noted ns x.worker) new in
    let go : (b : Bool) → nat_lt x.worker n.worker ≡ b → is_ascending (workers_of (if b then x ∷ n ∷ ns else n ∷ noted_with x ns)) ≡ true = λ b. elim b as (λ b. nat_lt x.worker n.worker ≡ b → is_ascending (workers_of (if b then x ∷ n ∷ ns else n ∷ noted_with x ns)) ≡ true) [
      | true ↦ λ e. and_from (nat_lt x.worker n.worker) (is_ascending (workers_of (n ∷ ns))) e a
      | false ↦ λ e. ascending-cons n.worker (workers_of (noted_with x ns)) (ascending-with x ns (ascending-rest n.worker (workers_of ns) a) parts.1) (λ z h. ⊎_elim
          (λ same.
          let le = ltb-false x.worker n.worker e in
          ⊎_elim (λ (g : n.worker ≡ x.worker). absurd (both_ways (n.worker == x.worker) parts.0 (eq-eqb n.worker x.worker g))) (λ o. ⊎_elim (λ (l : n.worker < x.worker). subst (λ w. n.worker < w) same l) (λ (m : x.worker < n.worker). absurd (omega arith)) o) (cases_order n.worker x.worker))
          (λ there. below-later n.worker (workers_of ns) z a there)
          (worker-with x ns z h))
    ] in
    go (nat_lt x.worker n.worker) refl

abbrev pub IsValidSpent : Scenario → BookView → CoreState → NotedSpent → Type 0
IsValidSpent sc book state x = (x.worker < length sc.workers) × Answers sc book state x.worker (Spent x.receipt)

valid-with : (sc : Scenario) (book : BookView) (state : CoreState) (x : NotedSpent) (ns : List NotedSpent) → IsValidSpent sc book state x → AreValid sc book state ns → AreValid sc book state (noted_with x ns)
valid-with sc book state x [] v h = (v, tt)
valid-with sc book state x (n ∷ ns) v h =
    let go : (b : Bool) → AreValid sc book state (if b then x ∷ n ∷ ns else n ∷ noted_with x ns) = λ b. elim b as (λ b. AreValid sc book state (if b then x ∷ n ∷ ns else n ∷ noted_with x ns)) [
      | true ↦ (v, h)
      | false ↦ (h.0, valid-with sc book state x ns v h.1)
    ] in
    go (nat_lt x.worker n.worker)

-- the query does not depend on the pending receipts
task-with : (sc : Scenario) (book : BookView) (state : CoreState) (x : NotedSpent) → task_of sc book (with_noted state x) ≡ task_of sc book state
unfolding task_of
task-with sc book state x = refl

valid-moves : (sc : Scenario) (book : BookView) (state : CoreState) (x : NotedSpent) (ns : List NotedSpent) → AreValid sc book state ns → AreValid sc book (with_noted state x) ns
valid-moves sc book state x [] h = tt
valid-moves sc book state x (n ∷ ns) h =
    ((h.0.0, subst (λ o. MatchOption o ⊥ (λ task. IsValidOf sc book task n.worker (Spent n.receipt))) (sym (task-with sc book state x)) h.0.1), valid-moves sc book state x ns h.1)

-- one more receipt that is not the last
pub noted-more : (sc : Scenario) (book : BookView) (state : CoreState) (x : NotedSpent) → AreNoted sc book state → IsValidSpent sc book state x → is_noted state.noted x.worker ≡ false → (length state.noted + 1 == length sc.workers) ≡ false → AreNoted sc book (with_noted state x)
noted-more sc book state x h v new more =
    let long = length-with x state.noted in
    let other : length state.noted + 1 ≡ length sc.workers → ⊥ = λ e. both_ways (length state.noted + 1 == length sc.workers) more (eq-eqb (length state.noted + 1) (length sc.workers) e) in
    let fewer = h.fewer in
    record {
      distinct = ascending-with x state.noted h.distinct new;
      fewer = ⊎_elim (λ (e : length state.noted + 1 ≡ length sc.workers). absurd (other e)) (λ o. ⊎_elim (λ (l : length state.noted + 1 < length sc.workers). omega arith) (λ (m : length sc.workers < length state.noted + 1). absurd (omega arith)) o) (cases_order (length state.noted + 1) (length sc.workers));
      valid = valid-moves sc book state x (noted_with x state.noted) (valid-with sc book state x state.noted v h.valid);
    }

-- ---- all receipts

-- ascending workers from lo on are no more than the numbers from lo to the number of workers
few : (sc : Scenario) (book : BookView) (state : CoreState) (lo : ℕ) (ns : List NotedSpent) → lo ≤ length sc.workers → is_ascending (workers_of ns) ≡ true → ((z : ℕ) → is_in (workers_of ns) z ≡ true → lo ≤ z) → AreValid sc book state ns → lo + length ns ≤ length sc.workers
few sc book state lo [] le a f v = omega arith
few sc book state lo (n ∷ ns) le a f v =
    let here : lo ≤ n.worker = f n.worker (or_left (n.worker == n.worker) (is_in (workers_of ns) n.worker) (eq-eqb n.worker n.worker refl)) in
    let under : n.worker < length sc.workers = v.0.0 in
    let under' : n.worker + 1 ≤ length sc.workers = omega arith in
    let rest = few sc book state (n.worker + 1) ns under' (ascending-rest n.worker (workers_of ns) a) (λ z h. let less : n.worker < z = below-later n.worker (workers_of ns) z a h in omega arith) v.1 in
    omega arith

-- the element at a place of the list, and the elements after it
at-place : (xs : List Worker) (i : ℕ) (y : Worker) (ys : List Worker) → drop i xs ≡ y ∷ ys → (slice_get xs i ≡ Some y) × (drop (suc i) xs ≡ ys)
at-place [] zero y ys e = cc
at-place [] (suc i) y ys e = cc
at-place (x ∷ xs) zero y ys e = (cc, cc)
at-place (x ∷ xs) (suc i) y ys e = at-place xs i y ys e

-- the number of elements from a place on
long : (xs : List Worker) (i : ℕ) → i ≤ length xs → i + length (drop i xs) ≡ length xs
long xs i h = simp length-drop (omega arith)

valid-for : (sc : Scenario) (book : BookView) (task : Task) (i : ℕ) (w : Worker) (receipt : Receipt) → slice_get sc.workers i ≡ Some w → IsValidOf sc book task i (Spent receipt) → IsValid book task w (Spent receipt)
valid-for sc book task i w receipt e h = subst (λ o. MatchOption o ⊥ (λ worker. IsValid book task worker (Spent receipt))) e h

-- with as many receipts as workers, receipt i is of worker i
all-receipts : (sc : Scenario) (book : BookView) (state : CoreState) (task : Task) (lo : ℕ) (ws : List Worker) (ns : List NotedSpent) → task_of sc book state ≡ Some task → drop lo sc.workers ≡ ws → lo + length ns ≡ length sc.workers → is_ascending (workers_of ns) ≡ true → ((z : ℕ) → is_in (workers_of ns) z ≡ true → lo ≤ z) → AreValid sc book state ns → AreReceipts book task ws (map (λ n. n.receipt) ns)
all-receipts sc book state task lo [] [] e d k a f v = tt
all-receipts sc book state task lo (w ∷ ws) [] e d k a f v =
    let whole = long sc.workers lo (omega arith) in
    let some : length (drop lo sc.workers) ≡ length (w ∷ ws) = ap length d in
    absurd (omega arith)
all-receipts sc book state task lo [] (n ∷ ns) e d k a f v =
    let whole = long sc.workers lo (omega arith) in
    let none : length (drop lo sc.workers) ≡ 0 = ap length d in
    absurd (omega arith)
all-receipts sc book state task lo (w ∷ ws) (n ∷ ns) e d k a f v =
    let here : lo ≤ n.worker = f n.worker (or_left (n.worker == n.worker) (is_in (workers_of ns) n.worker) (eq-eqb n.worker n.worker refl)) in
    let under : n.worker < length sc.workers = v.0.0 in
    let under' : n.worker + 1 ≤ length sc.workers = omega arith in
    let above : (z : ℕ) → is_in (workers_of ns) z ≡ true → n.worker + 1 ≤ z = λ z h. let less : n.worker < z = below-later n.worker (workers_of ns) z a h in omega arith in
    let bound = few sc book state (n.worker + 1) ns under' (ascending-rest n.worker (workers_of ns) a) above v.1 in
    let same : n.worker ≡ lo = omega arith in
    let k' : lo + 1 + length ns ≡ length sc.workers = omega arith in
    let place = at-place sc.workers lo w ws d in
    let next : lo + 1 ≡ suc lo = omega arith in
    let valid : IsValidOf sc book task n.worker (Spent n.receipt) = subst (λ o. MatchOption o ⊥ (λ task. IsValidOf sc book task n.worker (Spent n.receipt))) e v.0.1 in (
      receipt-means book task w n.receipt (valid-for sc book task lo w n.receipt place.0 (subst (λ i. IsValidOf sc book task i (Spent n.receipt)) same valid)),
      all-receipts sc book state task (lo + 1) ws ns e (ap (λ (i : ℕ). drop i sc.workers) next ∙ place.1) k' (ascending-rest n.worker (workers_of ns) a) (λ z h. subst (λ w. w + 1 ≤ z) same (above z h)) v.1,
    )

-- the last worker's receipt: every worker has a valid one
pub noted-last : (sc : Scenario) (book : BookView) (state : CoreState) (x : NotedSpent) → AreNoted sc book state → IsValidSpent sc book state x → is_noted state.noted x.worker ≡ false → (length state.noted + 1 == length sc.workers) ≡ true → MatchOption (task_of sc book state) ⊥ (λ task. IsSettledBy sc book task (Undecided (all_spent state x)))
noted-last sc book state x h v new last =
    let ns : List NotedSpent = noted_with x state.noted in
    let long = length-with x state.noted in
    let k : length state.noted + 1 ≡ length sc.workers = eqb-true (length state.noted + 1) (length sc.workers) last in
    let go : (o : Option Task) → task_of sc book state ≡ o → MatchOption o ⊥ (λ task. IsValidOf sc book task x.worker (Spent x.receipt)) → MatchOption o ⊥ (λ task. IsSettledBy sc book task (Undecided (all_spent state x))) = λ o. elim o as (λ o. task_of sc book state ≡ o → MatchOption o ⊥ (λ task. IsValidOf sc book task x.worker (Spent x.receipt)) → MatchOption o ⊥ (λ task. IsSettledBy sc book task (Undecided (all_spent state x)))) [
      | None ↦ λ e y. absurd y
      | Some task ↦ λ e y. all-receipts sc book state task 0 sc.workers ns e refl (omega arith) (ascending-with x state.noted h.distinct new) (λ z m. omega arith) (valid-with sc book state x state.noted v h.valid)
    ] in
    go (task_of sc book state) refl v.1
