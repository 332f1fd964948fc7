-- While a query's number is current, its task is current.
use Rattle.std.proofs.Common.{◌≡◌, ◌∙◌, ℕ, ◌<◌, ◌==◌, Bool, true, false, not, nat_le, if◌then◌else◌, List, [], ◌∷◌, ◌++◌, length, Option, Some, None, option_and_then, refl, sym, ap, subst, arith, inl, inr, ◌⊎◌, append_assoc, append-nil, eqb-true}
use Rattle.std.specs.Prelude.{slice_get}
use Rattle.pack_defs.specs.Book.{BookView}
use Rattle.pack_defs.specs.declared.scenario.Scenario.{Scenario}
use Rattle.pack_defs.specs.declared.worker.Worker.{Worker}
use Rattle.cert_types.specs.declared.answer.Answer.{Answer}
use Rattle.cert_types.specs.declared.answer.Place.{Place}
use Rattle.cert_types.specs.declared.task.Task.{Task}
use Rattle.cert_types.specs.Certificate.{Certificate}
use Rattle.cert_types.specs.Valid.{IsValid, answer_fault}
use Rattle.auction_core.specs.Auction.{AuctionView}
use Rattle.auction_core.specs.declared.posting.Reply.{Reply}
use Rattle.auction_core.specs.declared.posting.Reply.TheVariants.{Ended, WrongQuery, Stranger}
use Rattle.auction_core.specs.declared.posting.Said.TheVariants.{Good, Bad}
use Rattle.auction_core.specs.declared.record.Shown.TheVariants.{Fits, Refuted, Undecided}
use Rattle.auction_core.specs.Replay.{EntryView, after_entry, agrees, replay_from, stands}
use Rattle.auction_core.specs.State.{CoreState, has_ended, task_of}
use Rattle.auction_core.specs.Take.{PostingView, is_noted, take, unjudged_reply}
use Rattle.auction_core.proofs.Cases.{all_spent, noted_as, take-cases}
use Rattle.auction_core.proofs.QueryLemmas.{answered-number}
use Rattle.auction_core.proofs.TakingLemmas.{task-noted}
use Rattle.auction_core.proofs.TaskLemmas.{task-has}
use Rattle.auction_core.proofs.Replays.{if-some}
use Rattle.turn_lock.specs.Turns.{StartsWith}
use Rattle.answer_board.specs.Entries.{plain_entries}
use Rattle.answer_board.specs.Posts.{WasCurrent, StaysJudged, left_by}
use Rattle.answer_board.proofs.PostLemmas.{bad-stands, good-stands}

-- ---- what postings change

-- Whether the number is a later one, or only the pending receipts differ.
abbrev Goes : CoreState → CoreState → Type 0
Goes old new = (old.number < new.number) ⊎ (new ≡ record old { noted = new.noted })

goes-on : (a b c : CoreState) → Goes a b → Goes b c → Goes a c
goes-on a b c (inl h) (inl k) = inl (omega (arith, h, k))
goes-on a b c (inl h) (inr k) = let same : c.number ≡ b.number = ap (λ (s : CoreState). s.number) k in inl (omega (arith, h, same))
goes-on a b c (inr h) (inl k) = let same : b.number ≡ a.number = ap (λ (s : CoreState). s.number) h in inl (omega (arith, k, same))
goes-on a b c (inr h) (inr k) = inr (k ∙ ap (λ (s : CoreState). record s { noted = c.noted }) h)

take-goes : (sc : Scenario) (book : BookView) (state : CoreState) (p : PostingView) → Goes state (take sc book state p).1
take-goes sc book state p =
    take-cases sc book state p (λ (out : Reply × CoreState). Goes state out.1) (record {
      turned = λ reply t. inr refl;
      rejected = λ place t f. inr refl;
      fit = λ delta t f a. let next = answered-number sc book state (Fits delta) in inl (omega (arith, next));
      refuted = λ how t f a. let next = answered-number sc book state (Refuted p.worker how) in inl (omega (arith, next));
      already = λ receipt t f a n. inr refl;
      last = λ receipt t f a n k. let next = answered-number sc book state (Undecided (all_spent state (noted_as p.worker receipt))) in inl (omega (arith, next));
      more = λ receipt t f a n k. inr refl;
    })

entry-goes : (sc : Scenario) (book : BookView) (state new : CoreState) (e : EntryView) (o : Option Answer) → after_entry sc book state e o ≡ Some new → Goes state new
entry-goes sc book state new e (Some answer) s =
    let p : PostingView = record { worker = e.worker; number = e.number; answer = answer } in
    subst (Goes state) (if-some (agrees e.reply (take sc book state p).0) (take sc book state p).1 new s) (take-goes sc book state p)
entry-goes sc book state new e None s =
    subst (Goes state) (if-some (stands (unjudged_reply sc state e.worker e.number) (is_noted state.noted e.worker) e.reply) state new s) (inr refl)

replay-goes : (sc : Scenario) (book : BookView) (es : List EntryView) (state new : CoreState) → replay_from sc book es state ≡ Some new → Goes state new
replay-goes sc book [] state new s = let same : state ≡ new = cc in subst (Goes state) same (inr refl)
replay-goes sc book (e ∷ es) state new s =
    let go : (o : Option CoreState) → after_entry sc book state e e.answer ≡ o → option_and_then (replay_from sc book es) o ≡ Some new → Goes state new = λ o. elim o as (λ o. after_entry sc book state e e.answer ≡ o → option_and_then (replay_from sc book es) o ≡ Some new → Goes state new) [
      | None ↦ λ k r. cc
      | Some next ↦ λ k r. goes-on state next new (entry-goes sc book state next e e.answer k) (replay-goes sc book es next new r)
    ] in
    go (after_entry sc book state e e.answer) refl s

-- ---- histories that continue

pub replay-more : (sc : Scenario) (book : BookView) (es fs : List EntryView) (state : CoreState) → replay_from sc book (es ++ fs) state ≡ option_and_then (replay_from sc book fs) (replay_from sc book es state)
replay-more sc book [] fs state = refl
replay-more sc book (e ∷ es) fs state =
    elim (after_entry sc book state e e.answer) as (λ o. option_and_then (replay_from sc book (es ++ fs)) o ≡ option_and_then (replay_from sc book fs) (option_and_then (replay_from sc book es) o)) [
      | None ↦ refl
      | Some next ↦ replay-more sc book es fs next
    ]

pub replay-rest : (sc : Scenario) (book : BookView) (es fs : List EntryView) (first old new : CoreState) → replay_from sc book es first ≡ Some old → replay_from sc book (es ++ fs) first ≡ Some new → replay_from sc book fs old ≡ Some new
replay-rest sc book es fs first old new e f =
    sym (ap (λ o. option_and_then (replay_from sc book fs) o) e) ∙ (sym (replay-more sc book es fs first) ∙ f)

pub entries-more : (xs ys : List (ℕ × EntryView)) → plain_entries (xs ++ ys) ≡ plain_entries xs ++ plain_entries ys
entries-more [] ys = refl
entries-more (x ∷ xs) ys = ap (λ l. x.1 ∷ l) (entries-more xs ys)

pub starts-on : {X : Type 0} (xs ys zs : List X) → StartsWith ys xs → StartsWith zs ys → StartsWith zs xs
starts-on xs ys zs h k = (h.0 ++ k.0, k.1 ∙ (ap (λ l. l ++ k.0) h.1 ∙ append_assoc xs h.0 k.0))

pub starts-itself : {X : Type 0} (xs : List X) → StartsWith xs xs
starts-itself xs = ([], sym (append-nil xs))

-- ---- a query that was current

pub stood-on : (made : AuctionView) (seen log : List (ℕ × EntryView)) (task : Task) → WasCurrent made seen task → StartsWith log seen → WasCurrent made log task
stood-on made seen log task h k = record { before = h.before; begins = starts-on h.before seen log h.begins k; state = h.state; replays = h.replays; stands = h.stands }

-- The query is current while its number is.
pub stands-while : (made : AuctionView) (log : List (ℕ × EntryView)) (state : CoreState) (task : Task) → WasCurrent made log task → left_by made log ≡ Some state → state.number ≡ task.number → task_of made.scenario made.book state ≡ Some task
stands-while made log state task h replays same =
    let rest = h.begins.0 in
    let whole : replay_from made.scenario made.book (plain_entries h.before ++ plain_entries rest) made.opened ≡ Some state = ap (λ es. replay_from made.scenario made.book es made.opened) (sym (ap plain_entries h.begins.1 ∙ entries-more h.before rest)) ∙ replays in
    let goes : Goes h.state state = replay-goes made.scenario made.book (plain_entries rest) h.state state (replay-rest made.scenario made.book (plain_entries h.before) (plain_entries rest) made.opened h.state state h.replays whole) in
    let number : task.number ≡ h.state.number = task-has made.scenario made.book h.state (λ t. t.number ≡ h.state.number) refl (λ t. refl) task h.stands in
    elim goes [
      | inl later ↦ absurd (omega (arith, later, same, number))
      | inr noted ↦ ap (λ s. task_of made.scenario made.book s) noted ∙ (task-noted made.scenario made.book h.state state.noted ∙ h.stands)
    ]

number-in : (a b c : Bool) (n : ℕ) → (if a then Some Ended else (if not b then Some (WrongQuery n) else (if c then Some Stranger else None))) ≡ None → b ≡ true
number-in true b c n e = cc
number-in false false c n e = cc
number-in false true c n e = refl

pub same-number : (sc : Scenario) (state : CoreState) (w number : ℕ) → unjudged_reply sc state w number ≡ None → number ≡ state.number
same-number sc state w number e = eqb-true number state.number (number-in (has_ended state) (number == state.number) (nat_le (length sc.workers) w) state.number e)

-- ---- the verdict on an answer to it

pub good-on : (made : AuctionView) (seen : List (ℕ × EntryView)) (w number : ℕ) (task : Task) (worker : Worker) (certified : Certificate) (answer : Answer) → WasCurrent made seen task → number ≡ task.number → slice_get made.scenario.workers w ≡ Some worker → certified.answer ≡ answer → IsValid made.book task worker answer → StaysJudged made seen (record { worker = w; number = number; said = Good certified }) answer
good-on made seen w number task worker certified answer h n f same v log state begins replays t =
    let on = same-number made.scenario state w number t in
    good-stands made.scenario made.book state w number task worker certified answer (stands-while made log state task (stood-on made seen log task h begins) replays (sym on ∙ n)) f same v t

pub bad-on : (made : AuctionView) (seen : List (ℕ × EntryView)) (w number : ℕ) (task : Task) (worker : Worker) (place : Place) (answer : Answer) → WasCurrent made seen task → number ≡ task.number → slice_get made.scenario.workers w ≡ Some worker → answer_fault made.book task worker answer ≡ Some place → StaysJudged made seen (record { worker = w; number = number; said = Bad place }) answer
bad-on made seen w number task worker place answer h n f fault log state begins replays t =
    let on = same-number made.scenario state w number t in
    bad-stands made.scenario made.book state w number task worker place answer (stands-while made log state task (stood-on made seen log task h begins) replays (sym on ∙ n)) f fault t
