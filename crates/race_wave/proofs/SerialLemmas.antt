-- What a posting changes within a turn, and that a turn ends.
use Rattle.std.proofs.Common.{◌≡◌, ◌≢◌, ◌∙◌, ℕ, zero, suc, ◌+◌, ◌<◌, ◌≤◌, Bool, true, false, cond, not, ◌||◌, ◌==◌, nat_lt, nat_le, inl, inr, List, [], ◌∷◌, length, map, filter, ◌++◌, append-nil, append_assoc, option_and_then, Some, None, refl, sym, ap, subst, arith, MatchOption, eq-eqb, eqb-true, ne_eqb, ◌⊎◌}
use Rattle.std.specs.List.{range_with_len}
use Rattle.std.specs.Prelude.{slice_get}
use Rattle.std.proofs.lemmas.Bool.{cases_lt, false_from_ne_true, false≢true, leb-true, or_cases, or_left, or_right}
use Rattle.std.proofs.lemmas.List.{length-map, map-append}
use Rattle.std.proofs.lemmas.Option.{slice_get_past}
use Rattle.pack_defs.specs.declared.scenario.Scenario.{Scenario}
use Rattle.pack_defs.specs.declared.worker.Worker.{Worker}
use Rattle.pack_defs.specs.Book.{BookView}
use Rattle.pack_defs.specs.Lists.{is_ascending, is_in}
use Rattle.pack_defs.proofs.Words.{ascending-rest, below-later, list_any-map}
use Rattle.cert_types.specs.declared.answer.Answer.{Answer}
use Rattle.cert_types.specs.declared.answer.Answer.TheVariants.{Fit, Refuted as Refutes, Spent}
use Rattle.cert_types.specs.declared.answer.Receipt.{Receipt}
use Rattle.cert_types.specs.declared.task.Task.{Task}
use Rattle.cert_types.specs.Certificate.{Certificate}
use Rattle.cert_types.specs.Query.{IsQuery}
use Rattle.cert_types.specs.Valid.{IsValid}
use Rattle.auction_core.specs.declared.posting.Posting.{Posting}
use Rattle.auction_core.specs.declared.posting.Reply.{Reply}
use Rattle.auction_core.specs.declared.posting.Reply.TheVariants.{AlreadySpent, Noted}
use Rattle.auction_core.specs.declared.posting.Said.TheVariants.{Good}
use Rattle.auction_core.specs.declared.record.Shown.{Shown}
use Rattle.auction_core.specs.declared.record.Shown.TheVariants.{Fits, Refuted, Undecided}
use Rattle.auction_core.specs.Auction.{AuctionView, entry_with_reply, accepted_answer}
use Rattle.auction_core.specs.Replay.{EntryView, entry_of, kept_answer}
use Rattle.auction_core.specs.Rule.{Answers, AreNoted, IsValidOf, KeepsTheRule}
use Rattle.auction_core.specs.Said.{taken}
use Rattle.auction_core.specs.State.{CoreState, NotedSpent, answered, has_ended, task_of}
use Rattle.auction_core.specs.Take.{accepted, advanced, is_noted, noted_with, spent, unjudged_reply}
use Rattle.auction_core.proofs.QueryLemmas.{answered-fewer, answered-number}
use Rattle.auction_core.proofs.TakingLemmas.{taken-told, task-noted}
use Rattle.auction_core.proofs.TaskLemmas.{task-has}
use Rattle.turn_lock.specs.Turns.{AllOf, StartsWith}
use Rattle.turn_lock.proofs.Lists.{all_more, map_more}
use Rattle.race_wave.specs.Serial.{AreOfTurn, ComesAfter, IsContinued, IsNotedFor, IsSettledSince, LeavesAfterAnswer, is_advanced, without_receipt}
use Rattle.race_wave.proofs.WaveLemmas.{noted-now}

cases_le : (a b : ℕ) → (a ≤ b) ⊎ (b < a)
cases_le a b = elim (cases_lt b a) [ inl lt ↦ inr lt | inr le ↦ inl le ]

-- ---- the query

-- The current query has the current number.
pub task-number : (sc : Scenario) (book : BookView) (state : CoreState) (task : Task) → task_of sc book state ≡ Some task → task.number ≡ state.number
task-number sc book state task e = task-has sc book state (λ task. task.number ≡ state.number) refl (λ t. refl) task e

-- A worker's number is a place of the list.
pub place-of : (workers : List Worker) (w : ℕ) (worker : Worker) → slice_get workers w ≡ Some worker → w < length workers
place-of workers w worker e =
    elim (cases_le (length workers) w) [
      | inl past ↦ let none : None ≡ Some worker = sym (slice_get_past workers w past) ∙ e in cc
      | inr within ↦ within
    ]

-- A valid answer of the worker answers the current query.
pub answers-query : (sc : Scenario) (book : BookView) (state : CoreState) (task : Task) (w : ℕ) (worker : Worker) (answer : Answer) → task_of sc book state ≡ Some task → slice_get sc.workers w ≡ Some worker → IsValid book task worker answer → Answers sc book state w answer
answers-query sc book state task w worker answer e f v =
    let of : IsValidOf sc book task w answer = subst (λ o. MatchOption o ⊥ (λ worker. IsValid book task worker answer)) (sym f) v in
    subst (λ o. MatchOption o ⊥ (λ task. IsValidOf sc book task w answer)) (sym e) of

-- ---- histories

-- Nothing was posted; the capacity may have grown.
pub continued-stays : (a b : AuctionView) → b.scenario ≡ a.scenario → b.book ≡ a.book → b.opened ≡ a.opened → b.state ≡ a.state → b.history ≡ a.history → KeepsTheRule a.scenario a.book a.state → IsContinued a b
continued-stays a b scenario book opened state history rule = record {
  scenario = scenario;
  book = book;
  opened = opened;
  order = ap (λ (s : CoreState). s.order) state;
  more = [];
  history = history ∙ sym (append-nil a.history);
  turn = tt;
  workers = (without_receipt a.state.noted (length a.scenario.workers), refl);
  rule = subst (λ (s : CoreState). KeepsTheRule b.scenario b.book s) (sym state) (subst (λ (k : BookView). KeepsTheRule b.scenario k a.state) (sym book) (subst (λ (sc : Scenario). KeepsTheRule sc a.book a.state) (sym scenario) rule));
}

-- Whether an entry is a noted receipt of one of `count` workers for the query with this number.
pub record IsNotedEntry (number count : ℕ) (e : EntryView) : Type 0 where
  pub query : e.number ≡ number
  pub worker : e.worker < count
  pub reply : e.reply ≡ Noted

turn-then : (number count : ℕ) (es after : List EntryView) → AllOf (IsNotedEntry number count) es → AreOfTurn number count after → AreOfTurn number count (es ++ after)
turn-then number count [] after h k = k
turn-then number count (e ∷ es) after h k =
    (record { query = h.0.query; worker = h.0.worker; reply = subst (λ r. ComesAfter r (es ++ after)) (sym h.0.reply) tt }, turn-then number count es after h.1 k)

all-turn : (number count : ℕ) (es : List EntryView) → AllOf (IsNotedEntry number count) es → AreOfTurn number count es
all-turn number count es h = subst (AreOfTurn number count) (append-nil es) (turn-then number count es [] h tt)

-- The workers of an entry.
abbrev worker-of : EntryView → ℕ
worker-of e = e.worker

-- Those that are asked first, and then the first of those that are left.
asked-then : (all left : List ℕ) (first second : List EntryView) → all ≡ map worker-of first ++ left → StartsWith left (map worker-of second) → StartsWith all (map worker-of (first ++ second))
asked-then all left first second e h =
    (h.0, e ∙ (ap (λ l. map worker-of first ++ l) h.1 ∙ (sym (append_assoc (map worker-of first) (map worker-of second) h.0) ∙ ap (λ l. l ++ h.0) (sym (map-append worker-of first second)))))

-- More of the same turn was posted.
pub continued-then : (a b c : AuctionView) (h : IsContinued a b) → AllOf (IsNotedEntry a.state.number (length a.scenario.workers)) h.more → b.state.number ≡ a.state.number
    → without_receipt a.state.noted (length a.scenario.workers) ≡ map worker-of h.more ++ without_receipt b.state.noted (length b.scenario.workers) → IsContinued b c → IsContinued a c
continued-then a b c h noted number asked k = record {
  scenario = k.scenario ∙ h.scenario;
  book = k.book ∙ h.book;
  opened = k.opened ∙ h.opened;
  order = k.order ∙ h.order;
  more = h.more ++ k.more;
  history = k.history ∙ (ap (λ l. l ++ k.more) h.history ∙ append_assoc a.history h.more k.more);
  turn = turn-then a.state.number (length a.scenario.workers) h.more k.more noted
      (subst (λ (n : ℕ). AreOfTurn n (length a.scenario.workers) k.more) number (subst (λ (sc : Scenario). AreOfTurn b.state.number (length sc.workers) k.more) h.scenario k.turn));
  workers = asked-then (without_receipt a.state.noted (length a.scenario.workers)) (without_receipt b.state.noted (length b.scenario.workers)) h.more k.more asked k.workers;
  rule = k.rule;
}

-- ---- what an answer changes

turned-none : (sc : Scenario) (state : CoreState) (w number : ℕ) → has_ended state ≡ false → number ≡ state.number → w < length sc.workers → unjudged_reply sc state w number ≡ None
turned-none sc state w number on same known =
    let equal : (number == state.number) ≡ true = eq-eqb number state.number same in
    let within : nat_le (length sc.workers) w ≡ false = false_from_ne_true (nat_le (length sc.workers) w) (λ past. let le = leb-true (length sc.workers) w past in absurd (omega (arith, le, known))) in
    rw (on, equal, within) refl

past : (sc : Scenario) (book : BookView) (state : CoreState) (shown : Shown) → has_ended state ≡ false → IsSettledSince sc state (answered sc book state shown)
past sc book state shown on = record {
  number = let next = answered-number sc book state shown in omega (arith, next);
  fewer = answered-fewer sc book state shown on;
}

-- What the worker's answer changes, given its reply and the new state.
abbrev Left : AuctionView → ℕ → Answer → Reply × CoreState → Type 0
Left old w answer told =
    (new : AuctionView) → new.state ≡ told.1 → new.history ≡ old.history ++ entry_of (record { worker = w; number = old.state.number; answer = answer }) told.0 ∷ [] → LeavesAfterAnswer w old new (is_advanced told.0)

settled-leaves : (old new : AuctionView) (shown : Shown) → has_ended old.state ≡ false → new.state ≡ answered old.scenario old.book old.state shown → IsSettledSince old.scenario old.state new.state
settled-leaves old new shown on e = subst (IsSettledSince old.scenario old.state) (sym e) (past old.scenario old.book old.state shown on)

-- The reply to a receipt that is not pending.
abbrev of-spent : AuctionView → ℕ → Receipt → (Reply × CoreState → Type 0) → Type 0
of-spent old w receipt P = P (spent old.scenario old.book old.state (record { worker = w; receipt = receipt }))

spent-cases : (old : AuctionView) (w : ℕ) (receipt : Receipt) (P : Reply × CoreState → Type 0) → is_noted old.state.noted w ≡ false
    → P (advanced old.scenario old.book old.state (Undecided (map (λ n. n.receipt) (noted_with (record { worker = w; receipt = receipt }) old.state.noted))))
    → P (Noted, record old.state { noted = noted_with (record { worker = w; receipt = receipt }) old.state.noted })
    → of-spent old w receipt P
spent-cases old w receipt P new last more =
    let x : NotedSpent = record { worker = w; receipt = receipt } in
    let told = advanced old.scenario old.book old.state (Undecided (map (λ n. n.receipt) (noted_with x old.state.noted))) in
    let next : CoreState = record old.state { noted = noted_with x old.state.noted } in
    let by : (b : Bool) → P (cond b told (Noted, next)) = λ b. elim b as (λ b. P (cond b told (Noted, next))) [ true ↦ last | false ↦ more ] in
    subst (λ b. P (cond b (AlreadySpent, old.state) (cond (length old.state.noted + 1 == length old.scenario.workers) told (Noted, next)))) (sym new) (by (length old.state.noted + 1 == length old.scenario.workers))

accepted-leaves : (old : AuctionView) (w : ℕ) (answer : Answer) → has_ended old.state ≡ false → is_noted old.state.noted w ≡ false → Left old w answer (accepted old.scenario old.book old.state w answer)
accepted-leaves old w (Fit delta) on fresh = λ new e h. settled-leaves old new (Fits delta) on e
accepted-leaves old w (Refutes how) on fresh = λ new e h. settled-leaves old new (Refuted w how) on e
accepted-leaves old w (Spent receipt) on fresh =
    spent-cases old w receipt (Left old w (Spent receipt)) fresh (λ new e h. settled-leaves old new (Undecided (map (λ n. n.receipt) (noted_with (record { worker = w; receipt = receipt }) old.state.noted))) on e) (λ new e h. record { receipt = receipt; same = e; history = h })

accepted-last : (old : AuctionView) (w : ℕ) (answer : Answer) → is_noted old.state.noted w ≡ false → ComesAfter (accepted old.scenario old.book old.state w answer).0 []
accepted-last old w (Fit delta) fresh = refl
accepted-last old w (Refutes how) fresh = refl
accepted-last old w (Spent receipt) fresh = spent-cases old w receipt (λ told. ComesAfter told.0 []) fresh refl tt

-- Whether a worker without a pending receipt posted an accepted answer to the current query, with this reply and its
-- entry in the history.
pub record IsAnswered (old new : AuctionView) (posting : Posting) (certified : Certificate) (reply : Reply) : Type 0 where
  pub standing : has_ended old.state ≡ false
  pub number : posting.number ≡ old.state.number
  pub known : posting.worker < length old.scenario.workers
  pub fresh : is_noted old.state.noted posting.worker ≡ false
  pub said : posting.said ≡ Good certified
  pub told : (reply, new.state) ≡ taken old.scenario old.book old.state posting
  pub history : new.history ≡ old.history ++ entry_with_reply posting reply ∷ []

told-as : (old new : AuctionView) (posting : Posting) (certified : Certificate) (reply : Reply) → IsAnswered old new posting certified reply → accepted old.scenario old.book old.state posting.worker certified.answer ≡ (reply, new.state)
told-as old new posting certified reply h =
    taken-told old.scenario old.book old.state posting (Good certified) (turned-none old.scenario old.state posting.worker posting.number h.standing h.number h.known) h.said ∙ sym h.told

-- The answer settles the query, or its receipt is noted.
pub told-leaves : (old new : AuctionView) (posting : Posting) (certified : Certificate) (reply : Reply) → IsAnswered old new posting certified reply → LeavesAfterAnswer posting.worker old new (is_advanced reply)
told-leaves old new posting certified reply h =
    let entry : entry_with_reply posting reply ≡ entry_of (record { worker = posting.worker; number = old.state.number; answer = certified.answer }) reply =
    λ j. record { worker = posting.worker; number = h.number j; reply = reply; answer = option_and_then (kept_answer reply) (accepted_answer (h.said j)) } in
    subst (Left old posting.worker certified.answer) (told-as old new posting certified reply h) (accepted-leaves old posting.worker certified.answer h.standing h.fresh)
    new refl (h.history ∙ ap (λ (e : EntryView). old.history ++ e ∷ []) entry)

-- The turn may continue after it, unless it settles the query.
pub told-turn : (old new : AuctionView) (posting : Posting) (certified : Certificate) (reply : Reply) → IsAnswered old new posting certified reply → AreOfTurn old.state.number (length old.scenario.workers) (entry_with_reply posting reply ∷ [])
told-turn old new posting certified reply h =
    let last : ComesAfter reply [] = subst (λ (told : Reply × CoreState). ComesAfter told.0 []) (told-as old new posting certified reply h) (accepted-last old posting.worker certified.answer h.fresh) in
    (record { query = h.number; worker = h.known; reply = last }, tt)

-- ---- the workers with pending receipts

with-others : (x : NotedSpent) (ns : List NotedSpent) (v : ℕ) → is_noted ns v ≡ true → is_noted (noted_with x ns) v ≡ true
with-others x [] v h = absurd (false≢true h)
with-others x (n ∷ ns) v h =
    elim (nat_lt x.worker n.worker) as (λ b. is_noted (cond b (x ∷ n ∷ ns) (n ∷ noted_with x ns)) v ≡ true) [
      | true ↦ or_right (x.worker == v) (is_noted (n ∷ ns) v) h
      | false ↦ elim (or_cases (n.worker == v) (is_noted ns v) h) [
        | inl here ↦ or_left (n.worker == v) (is_noted (noted_with x ns) v) here
        | inr there ↦ or_right (n.worker == v) (is_noted (noted_with x ns) v) (with-others x ns v there)
      ]
    ]

-- Whether another worker's receipt is pending does not change.
other-noted : (x : NotedSpent) (ns : List NotedSpent) (v : ℕ) → v ≢ x.worker → is_noted (noted_with x ns) v ≡ is_noted ns v
other-noted x [] v ne = ap (λ b. b || false) (ne_eqb x.worker v (λ e. ne (sym e)))
other-noted x (n ∷ ns) v ne =
    elim (nat_lt x.worker n.worker) as (λ b. is_noted (cond b (x ∷ n ∷ ns) (n ∷ noted_with x ns)) v ≡ is_noted (n ∷ ns) v) [
      | true ↦ ap (λ b. b || is_noted (n ∷ ns) v) (ne_eqb x.worker v (λ e. ne (sym e)))
      | false ↦ ap (λ b. (n.worker == v) || b) (other-noted x ns v ne)
    ]

-- Two tests that differ at w alone choose the same numbers past it.
same-past : (p q : ℕ → Bool) (w a n : ℕ) → w < a → ((v : ℕ) → v ≢ w → q v ≡ p v) → filter (λ v. not (p v)) (range_with_len a n) ≡ filter (λ v. not (q v)) (range_with_len a n)
same-past p q w a zero lt same = refl
same-past p q w a (suc n) lt same =
    let here : p a ≡ q a = sym (same a (λ e. absurd (omega (arith, e, lt)))) in
    let rest = same-past p q w (a + 1) n (omega (arith, lt)) same in
    λ j. cond (not (here j)) (a ∷ rest j) (rest j)

-- If w is the first number that is not marked, marking it takes it from the front.
first-of : (p q : ℕ → Bool) (w a n : ℕ) → a ≤ w → w < a + n → ((v : ℕ) → v < w → p v ≡ true) → p w ≡ false → q w ≡ true → ((v : ℕ) → v ≢ w → q v ≡ p v)
    → filter (λ v. not (p v)) (range_with_len a n) ≡ w ∷ filter (λ v. not (q v)) (range_with_len a n)
first-of p q w a zero le lt before at now same = absurd (omega (arith, le, lt))
first-of p q w a (suc n) le lt before at now same =
    elim (cases_lt a w) [
      | inl below ↦
          let skipped : p a ≡ true = before a below in
          let skips : q a ≡ true = same a (λ e. absurd (omega (arith, e, below))) ∙ skipped in
          rw (skipped, skips) (first-of p q w (a + 1) n (omega (arith, below)) (omega (arith, lt)) before at now same)
      | inr ge ↦
          let here : a ≡ w = omega (arith, le, ge) in
          let kept : p a ≡ false = ap p here ∙ at in
          let gone : q a ≡ true = ap q here ∙ now in
          let rest = same-past p q w (a + 1) n (omega (arith, here)) same in
          rw (kept, gone) (λ j. here j ∷ rest j)
    ]

-- The first worker without a pending receipt, and the others once its receipt is pending.
asks-first : (x : NotedSpent) (ns : List NotedSpent) (count : ℕ) → x.worker < count → ((v : ℕ) → v < x.worker → is_noted ns v ≡ true) → is_noted ns x.worker ≡ false → without_receipt ns count ≡ x.worker ∷ without_receipt (noted_with x ns) count
asks-first x ns count within before new =
    first-of (is_noted ns) (is_noted (noted_with x ns)) x.worker 0 count (omega arith) (omega (arith, within)) before new (noted-now x ns) (other-noted x ns)

-- The first worker without a pending receipt stands in front.
pub asks-one : (ns : List NotedSpent) (count w : ℕ) → w < count → ((v : ℕ) → v < w → is_noted ns v ≡ true) → is_noted ns w ≡ false → StartsWith (without_receipt ns count) (w ∷ [])
asks-one ns count w within before new =
    let q : ℕ → Bool = λ v. (v == w) || is_noted ns v in
    let now : q w ≡ true = or_left (w == w) (is_noted ns w) (eq-eqb w w refl) in
    let same : (v : ℕ) → v ≢ w → q v ≡ is_noted ns v = λ v ne. ap (λ b. b || is_noted ns v) (ne_eqb v w ne) in
    (filter (λ v. not (q v)) (range_with_len 0 count), first-of (is_noted ns) q w 0 count (omega arith) (omega (arith, within)) before new now same)

-- An ascending list that has each number from lo up to k, without k, has at least that many elements.
many : (lo k : ℕ) (xs : List ℕ) → is_ascending xs ≡ true → ((v : ℕ) → lo ≤ v → v < k → is_in xs v ≡ true) → k ≤ lo + length xs
many lo k [] a h =
    elim (cases_le k lo) [
      | inl le ↦ omega (arith, le)
      | inr lt ↦ absurd (false≢true (h lo (omega arith) lt))
    ]
many lo k (x ∷ xs) a h =
    let rest : (v : ℕ) → lo + 1 ≤ v → v < k → is_in xs v ≡ true = λ v low high. elim (or_cases (x == v) (is_in xs v) (h v (omega (arith, low)) high)) [
      | inl here ↦
          let same : x ≡ v = eqb-true x v here in
          elim (or_cases (x == lo) (is_in xs lo) (h lo (omega arith) (omega (arith, low, high)))) [
            | inl first ↦ let first-is : x ≡ lo = eqb-true x lo first in absurd (omega (arith, same, first-is, low))
            | inr later ↦ let below : x < lo = below-later x xs lo a later in absurd (omega (arith, same, below, low))
          ]
      | inr there ↦ there
    ] in
    let r : k ≤ lo + 1 + length xs = many (lo + 1) k xs (ascending-rest x xs a) rest in
    omega (arith, r)

-- Some worker has no pending receipt.
pub some-worker : (sc : Scenario) (book : BookView) (state : CoreState) → AreNoted sc book state → ((v : ℕ) → v < length sc.workers → is_noted state.noted v ≡ true) → ⊥
some-worker sc book state h all =
    let workers : List ℕ = map (λ n. n.worker) state.noted in
    let few : length sc.workers ≤ 0 + length workers = many 0 (length sc.workers) workers h.distinct (λ v low high. list_any-map (λ y. y == v) (λ (n : NotedSpent). n.worker) state.noted ∙ all v high) in
    let fewer = h.fewer in
    let same : length workers ≡ length state.noted = length-map state.noted (λ n. n.worker) in
    absurd (omega (arith, few, fewer, same))

-- ---- within a turn

up-to : (P : ℕ → Type 0) (i : ℕ) → ((v : ℕ) → v < i → P v) → P i → (v : ℕ) → v < i + 1 → P v
up-to P i below at v h =
    elim (cases_le i v) [
      | inl le ↦ let same : i ≡ v = omega (arith, le, h) in subst P same at
      | inr lt ↦ below v lt
    ]

-- Whether the query of the turn is current, each posting was noted, and each worker before this one has a pending
-- receipt.
pub record IsMidTurn (old new : AuctionView) (task : Task) (i : ℕ) : Type 0 where
  pub continued : IsContinued old new
  pub entries : AllOf (IsNotedEntry old.state.number (length old.scenario.workers)) continued.more
  pub same : new.state ≡ record old.state { noted = new.state.noted }
  pub noted : (v : ℕ) → v < i → is_noted new.state.noted v ≡ true
  pub asked : without_receipt old.state.noted (length old.scenario.workers) ≡ map worker-of continued.more ++ without_receipt new.state.noted (length new.scenario.workers)
  pub stands : task_of new.scenario new.book new.state ≡ Some task
  pub query : IsQuery new.book task

mid-number : (old new : AuctionView) (task : Task) (i : ℕ) → IsMidTurn old new task i → new.state.number ≡ old.state.number
mid-number old new task i m = ap (λ (s : CoreState). s.number) m.same

pub mid-start : (a : AuctionView) (task : Task) → KeepsTheRule a.scenario a.book a.state → task_of a.scenario a.book a.state ≡ Some task → IsQuery a.book task → IsMidTurn a a task 0
unfolding continued-stays
mid-start a task rule stands query = record {
  continued = continued-stays a a refl refl refl refl refl rule;
  entries = tt;
  same = refl;
  noted = λ v h. absurd (omega (arith, h));
  asked = refl;
  stands = stands;
  query = query;
}

-- A worker with a pending receipt is skipped.
pub mid-skip : (old new : AuctionView) (task : Task) (i : ℕ) → IsMidTurn old new task i → is_noted new.state.noted i ≡ true → IsMidTurn old new task (i + 1)
mid-skip old new task i m h = record {
  continued = m.continued;
  entries = m.entries;
  same = m.same;
  noted = up-to (λ v. is_noted new.state.noted v ≡ true) i m.noted h;
  asked = m.asked;
  stands = m.stands;
  query = m.query;
}

-- The turn continues.
pub mid-then : (old new next : AuctionView) (task : Task) (i : ℕ) → IsMidTurn old new task i → IsContinued new next → IsContinued old next
mid-then old new next task i m k = continued-then old new next m.continued m.entries (mid-number old new task i m) m.asked k

pub mid-more : (old new next : AuctionView) (task : Task) (i : ℕ) → i < length new.scenario.workers → is_noted new.state.noted i ≡ false → IsMidTurn old new task i → IsContinued new next → IsNotedFor i new next → IsMidTurn old next task (i + 1)
mid-more old new next task i known fresh m k n =
    let x : NotedSpent = record { worker = i; receipt = n.receipt } in
    let noted : next.state.noted ≡ noted_with x new.state.noted = ap (λ (s : CoreState). s.noted) n.same in
    let e : EntryView = entry_of (record { worker = i; number = new.state.number; answer = Spent n.receipt }) Noted in
    let within : i < length old.scenario.workers = subst (λ (sc : Scenario). i < length sc.workers) m.continued.scenario known in
    let one : AllOf (IsNotedEntry old.state.number (length old.scenario.workers)) (e ∷ []) = (record { query = mid-number old new task i m; worker = within; reply = refl }, tt) in
    let entries : AllOf (IsNotedEntry old.state.number (length old.scenario.workers)) (m.continued.more ++ e ∷ []) = all_more (IsNotedEntry old.state.number (length old.scenario.workers)) m.continued.more (e ∷ []) m.entries one in
    let before : List ℕ = map worker-of m.continued.more in
    let after : List ℕ = without_receipt next.state.noted (length next.scenario.workers) in
    let left : without_receipt (noted_with x new.state.noted) (length new.scenario.workers) ≡ after = λ j. without_receipt (sym noted j) (length (sym k.scenario j).workers) in
    let first : without_receipt new.state.noted (length new.scenario.workers) ≡ i ∷ after = asks-first x new.state.noted (length new.scenario.workers) known m.noted fresh ∙ ap (λ l. i ∷ l) left in
    let asked : without_receipt old.state.noted (length old.scenario.workers) ≡ map worker-of (m.continued.more ++ e ∷ []) ++ after =
    m.asked ∙ (ap (λ l. before ++ l) first ∙ (sym (append_assoc before (i ∷ []) after) ∙ ap (λ l. l ++ after) (sym (map_more worker-of m.continued.more e)))) in
    record {
      continued = record {
        scenario = k.scenario ∙ m.continued.scenario;
        book = k.book ∙ m.continued.book;
        opened = k.opened ∙ m.continued.opened;
        order = k.order ∙ m.continued.order;
        more = m.continued.more ++ e ∷ [];
        history = n.history ∙ (ap (λ l. l ++ e ∷ []) m.continued.history ∙ append_assoc old.history m.continued.more (e ∷ []));
        turn = all-turn old.state.number (length old.scenario.workers) (m.continued.more ++ e ∷ []) entries;
        workers = (after, asked);
        rule = k.rule;
      };
      entries = entries;
      same = n.same ∙ (λ j. record (m.same j) { noted = sym noted j });
      noted = λ v h. subst (λ ns. is_noted ns v ≡ true) (sym noted) (up-to (λ v. is_noted (noted_with x new.state.noted) v ≡ true) i (λ v b. with-others x new.state.noted v (m.noted v b)) (noted-now x new.state.noted) v h);
      asked = asked;
      stands = (λ j. task_of (k.scenario j) (k.book j) (n.same j)) ∙ (task-noted new.scenario new.book new.state (noted_with x new.state.noted) ∙ m.stands);
      query = subst (λ b. IsQuery b task) (sym k.book) m.query;
    }

pub mid-all : (old new : AuctionView) (task : Task) → IsMidTurn old new task (length new.scenario.workers) → ⊥
mid-all old new task m = some-worker new.scenario new.book new.state m.continued.rule.shown.noted m.noted
