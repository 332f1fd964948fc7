-- When a worker of a wave has nothing left to do.
use Rattle.std.proofs.Common.{◌≡◌, ◌∙◌, ℕ, suc, ◌<◌, ◌==◌, Bool, true, false, not, nat_le, nat_lt, if◌then◌else◌, List, [], ◌∷◌, ◌++◌, length, get_or, Some, None, refl, sym, ap, inl, inr, eq-eqb, arith, append-nil, append_assoc}
use Rattle.std.specs.Prelude.{option_map}
use Rattle.std.specs.List.{AllZip}
use Rattle.std.proofs.lemmas.Bool.{cases_Bool, false≢true, or_right}
use Rattle.pack_defs.specs.Book.{BookView}
use Rattle.pack_defs.specs.declared.scenario.Scenario.{Scenario}
use Rattle.pack_defs.specs.declared.worker.Worker.{Worker}
use Rattle.cert_types.specs.declared.poll.Attempt.{Attempt}
use Rattle.cert_types.specs.declared.poll.Attempt.TheVariants.{Said, Moved}
use Rattle.cert_types.specs.declared.task.Task.{Task}
use Rattle.cert_types.specs.Query.{AttemptIs}
use Rattle.auction_core.specs.declared.posting.Reply.{Reply}
use Rattle.auction_core.specs.declared.posting.Reply.TheVariants.{Ended, WrongQuery, Stranger}
use Rattle.auction_core.specs.State.{CoreState, NotedSpent, has_ended}
use Rattle.auction_core.specs.Take.{PostingView, is_noted, noted_with, take}
use Rattle.auction_core.proofs.Cases.{take-cases}
use Rattle.auction_core.specs.Replay.{EntryView}
use Rattle.auction_core.proofs.TaskLemmas.{task-has}
use Rattle.answer_board.specs.declared.board.Board.{Board}
use Rattle.answer_board.specs.declared.look.Look.TheVariants as Look
use Rattle.answer_board.specs.Boards.{raised}
use Rattle.answer_board.specs.Posts.{LookIs, SeesState, is_faultless}
use Rattle.turn_lock.proofs.Lists.{all_more}
use Rattle.race_wave.specs.Watches.{IsNumberAfter}
use Rattle.race_wave.specs.Wave.{HasPosted, HasNothingLeft, SaysValid, ends_turn}

turned-last : (a b c : Bool) (n : ℕ) (reply : Reply) → (if a then Some Ended else (if not b then Some (WrongQuery n) else (if c then Some Stranger else None))) ≡ Some reply → ends_turn reply ≡ true → a ≡ true
turned-last true b c n reply e l = refl
turned-last false false c n reply e l = let same : WrongQuery n ≡ reply = cc in absurd (false≢true (ap ends_turn same ∙ l))
turned-last false true true n reply e l = let same : Stranger ≡ reply = cc in absurd (false≢true (ap ends_turn same ∙ l))
turned-last false true false n reply e l = cc

pub noted-now : (x : NotedSpent) (ns : List NotedSpent) → is_noted (noted_with x ns) x.worker ≡ true
noted-now x [] = rw (eq-eqb x.worker x.worker refl) refl
noted-now x (n ∷ ns) = elim (cases_Bool (nat_lt x.worker n.worker)) [
  | inl lt ↦ rw (lt, eq-eqb x.worker x.worker refl) refl
  | inr ge ↦ rw ge (or_right (n.worker == x.worker) (is_noted (noted_with x ns) x.worker) (noted-now x ns))
]

-- A posting with such a reply leaves its worker nothing to do.
pub rests : (sc : Scenario) (book : BookView) (state : CoreState) (p : PostingView) → ends_turn (take sc book state p).0 ≡ true → HasNothingLeft p.worker (take sc book state p).1
rests sc book state p =
    take-cases sc book state p (λ out. take sc book state p ≡ out → ends_turn out.0 ≡ true → HasNothingLeft p.worker out.1) (record {
      turned = λ reply t e l. inl (turned-last (has_ended state) (p.number == state.number) (nat_le (length sc.workers) p.worker) state.number reply t l);
      rejected = λ place t f e l. absurd (false≢true l);
      fit = λ delta t f a e l. absurd (false≢true l);
      refuted = λ how t f a e l. absurd (false≢true l);
      already = λ receipt t f a n e l. inr n;
      last = λ receipt t f a n k e l. absurd (false≢true l);
      more = λ receipt t f a n k e l. inr (noted-now (record { worker = p.worker; receipt = receipt }) state.noted);
    }) refl

-- A relation that holds at each place of two lists holds of the lists.
pub zip-each : {X : Type 0} (R : X → X → Type 0) (xs ys : List X) → length ys ≡ length xs → ((i : ℕ) (d : X) → i < length xs → R (get_or xs i d) (get_or ys i d)) → AllZip R xs ys
zip-each R [] [] e h = tt
zip-each R [] (y ∷ ys) e h = absurd (omega arith)
zip-each R (x ∷ xs) [] e h = absurd (omega arith)
zip-each R (x ∷ xs) (y ∷ ys) e h = (h 0 x (omega arith), zip-each R xs ys (omega arith) (λ i d lt. h (suc i) d (omega arith)))

-- The answer of an attempt is valid.
pub says-valid : (book : BookView) (task : Task) (worker : Worker) (last : ℕ) (attempt : Attempt) → AttemptIs book task worker last attempt → SaysValid book task worker attempt
says-valid book task worker last (Said answer) h = h
says-valid book task worker last (Moved now) h = tt

-- ---- what a worker posts

pub posted-none : (old new : List (ℕ × EntryView)) → new ≡ old → HasPosted old new
posted-none old new e = record { more = []; is = e ∙ sym (append-nil old); faultless = tt }

pub posted-one : (old new : List (ℕ × EntryView)) (e : ℕ × EntryView) → new ≡ old ++ e ∷ [] → is_faultless e.1.reply ≡ true → HasPosted old new
posted-one old new e is h = record { more = e ∷ []; is = is; faultless = (h, tt) }

pub posted-on : (a b c : List (ℕ × EntryView)) → HasPosted a b → HasPosted b c → HasPosted a c
posted-on a b c h k = record {
  more = h.more ++ k.more;
  is = k.is ∙ (ap (λ l. l ++ k.more) h.is ∙ append_assoc a h.more k.more);
  faultless = all_more (λ e. is_faultless e.1.reply ≡ true) h.more k.more h.faultless k.faultless;
}

-- ---- which query is current

pub number-after : (board : Board) (seen : List (ℕ × EntryView)) (number : ℕ) → SeesState (raised board) seen (λ state. number ≡ state.number) → IsNumberAfter board seen number
number-after board seen number h = ap (λ o. option_map (λ (state : CoreState). state.number) o) h.replays ∙ ap Some (sym h.holds)

-- The current query has its state's number.
pub number-of-task : (board : Board) (seen : List (ℕ × EntryView)) (task : Task) → SeesState (raised board) seen (λ state. LookIs (raised board).scenario (raised board).book state (Look.Task task)) → IsNumberAfter board seen task.number
number-of-task board seen task h =
    let on = raised board in
    number-after board seen task.number (record { state = h.state; replays = h.replays; holds = task-has on.scenario on.book h.state (λ t. t.number ≡ h.state.number) refl (λ t. refl) task h.holds.0 })
