-- A call that succeeds on some lines succeeds with the same result when more lines follow.
use Rattle.std.proofs.Common.{◌≡◌, ◌+◌, ◌==◌, ℕ, zero, suc, Bool, true, false, List, [], ◌∷◌, ◌++◌, Option, Some, None, Result, Ok, Err, refl, sym, ap, subst, length, if◌then◌else◌}
use Rattle.std.specs.Prelude.{codes}
use Rattle.std.specs.Str.{bytes_eq}
use Rattle.pack_defs.specs.declared.scenario.Scenario.{Scenario}
use Rattle.pack_defs.specs.declared.order.Order.{Order}
use Rattle.pack_defs.specs.Book.{BookView}
use Rattle.lrat_text.specs.Write.{greatest}
use Rattle.transcript_text.specs.declared.error.TextErr.{TextErr}
use Rattle.transcript_text.specs.declared.error.TextErr.TheVariants.{Version, BadLine, Truncated, NoMemory}
use Rattle.transcript_text.specs.declared.head.Head.{Head}
use Rattle.transcript_text.specs.declared.head.Head.TheVariants.{Fit, Same, NoChannel, Log, Dead, Outside, Undecided, End}
use Rattle.pack_defs.specs.Steps.{◌>>=◌}
use Rattle.auction_core.specs.LogNumbers.{clauses_in}
use Rattle.transcript_text.specs.Fields.{RemainingLines, count_at, line_end, next_line, next_field, number_at, word_at}
use Rattle.transcript_text.specs.LogLines.{log_at, log_line, entries_at, entry_at, moves_at, stations_at}
use Rattle.transcript_text.specs.Reading.{some_log, numbered_log, lines_receipt, moves_receipt, receipt_count, receipt_of_word, receipt_at, receipts_at, head_at, fit_step, log_step, outside_step, undecided_step, step_at, next_step, order_of, version_or, version_at, fit_start, empty_start, start_at}
use Rattle.transcript_text.specs.Pieces.{opened_at, with_lines}

-- Whether the second reading equals the first with these lines after what is left, unless the first lacks lines.
abbrev pub Stays : {A : Type 0} → List (List ℕ) → Result (A × RemainingLines) TextErr → Result (A × RemainingLines) TextErr → Type 0
Stays more (Ok x) read = read ≡ Ok (x.0, with_lines x.1 more)
Stays more (Err Version) read = read ≡ Err Version
Stays more (Err (BadLine n)) read = read ≡ Err (BadLine n)
Stays more (Err Truncated) read = Unit {0}
Stays more (Err NoMemory) read = read ≡ Err NoMemory

pub stays-then : {A B : Type 0} (more : List (List ℕ)) (r s : Result (A × RemainingLines) TextErr) (f g : A × RemainingLines → Result (B × RemainingLines) TextErr)
    → Stays more r s → ((x : A × RemainingLines) → Stays more (f x) (g (x.0, with_lines x.1 more))) → Stays more (r >>= f) (s >>= g)
stays-then more (Ok x) s f g h k = subst (λ r. Stays more (f x) (r >>= g)) (sym h) (k x)
stays-then more (Err Version) s f g h k = ap (λ r. r >>= g) h
stays-then more (Err (BadLine n)) s f g h k = ap (λ r. r >>= g) h
stays-then more (Err Truncated) s f g h k = tt
stays-then more (Err NoMemory) s f g h k = ap (λ r. r >>= g) h

fault-stays : (A : Type 0) (more : List (List ℕ)) (e : TextErr) → Stays {A = A} more (Err e) (Err e)
fault-stays A more Version = refl
fault-stays A more (BadLine n) = refl
fault-stays A more Truncated = tt
fault-stays A more NoMemory = refl

-- A step that reads no lines.
any-stays : {A B : Type 0} (more : List (List ℕ)) (r : Result A TextErr) (f g : A → Result (B × RemainingLines) TextErr) → ((x : A) → Stays more (f x) (g x)) → Stays more (r >>= f) (r >>= g)
any-stays more (Ok x) f g k = k x
any-stays {B = B} more (Err e) f g k = fault-stays B more e

either-stays : {A : Type 0} (more : List (List ℕ)) (b : Bool) (r s r' s' : Result (A × RemainingLines) TextErr) → Stays more r r' → Stays more s s' → Stays more (if b then r else s) (if b then r' else s')
either-stays more true r s r' s' h k = h
either-stays more false r s r' s' h k = k

next-stays : (more : List (List ℕ)) (lines : RemainingLines) → Stays more (next_line lines) (next_line (with_lines lines more))
next-stays more lines = go lines.number lines.left
  where
    go : (n : ℕ) (left : List (List ℕ)) → Stays more (next_line (record { number = n; left = left })) (next_line (record { number = n; left = left ++ more }))
    go n [] = tt
    go n (line ∷ left) = refl

log-stays : (more : List (List ℕ)) (number k : ℕ) (lines : RemainingLines) → Stays more (log_at number k lines) (log_at number k (with_lines lines more))
unfolding log_at
log-stays more number zero lines = refl
log-stays more number (suc k) lines =
    stays-then more (next_line lines) (next_line (with_lines lines more)) _ _ (next-stays more lines)
    (λ next. any-stays more (log_line number next.0) _ _ (λ line. stays-then more (log_at (number + 1) k next.1) (log_at (number + 1) k (with_lines next.1 more)) _ _ (log-stays more (number + 1) k next.1) (λ rest. refl)))

entries-stay : (more : List (List ℕ)) (sc : Scenario) (above : Option ℕ) (k : ℕ) (lines : RemainingLines) → Stays more (entries_at sc above k lines) (entries_at sc above k (with_lines lines more))
unfolding entries_at
entries-stay more sc above zero lines = refl
entries-stay more sc above (suc k) lines =
    stays-then more (next_line lines) (next_line (with_lines lines more)) _ _ (next-stays more lines)
    (λ next. any-stays more (entry_at sc (codes "at") above next.0) _ _ (λ entry. stays-then more (entries_at sc (Some entry.0) k next.1) (entries_at sc (Some entry.0) k (with_lines next.1 more)) _ _ (entries-stay more sc (Some entry.0) k next.1) (λ rest. refl)))

moves-stay : (more : List (List ℕ)) (sc : Scenario) (k : ℕ) (lines : RemainingLines) → Stays more (moves_at sc k lines) (moves_at sc k (with_lines lines more))
unfolding moves_at
moves-stay more sc zero lines = refl
moves-stay more sc (suc k) lines =
    stays-then more (next_line lines) (next_line (with_lines lines more)) _ _ (next-stays more lines)
    (λ next. any-stays more (entry_at sc (codes "move") None next.0) _ _ (λ move. stays-then more (moves_at sc k next.1) (moves_at sc k (with_lines next.1 more)) _ _ (moves-stay more sc k next.1) (λ rest. refl)))

numbered-stays : (more : List (List ℕ)) (k : ℕ) (lines : RemainingLines) → Stays more (numbered_log k lines) (numbered_log k (with_lines lines more))
unfolding numbered_log some_log
numbered-stays more k lines =
    either-stays more (k == 0) _ _ _ _ refl
    (stays-then more (next_line lines) (next_line (with_lines lines more)) _ _ (next-stays more lines)
    (λ next. any-stays more (number_at greatest next.0) _ _ (λ first. stays-then more (log_at first.0 k lines) (log_at first.0 k (with_lines lines more)) _ _ (log-stays more first.0 k lines) (λ log. refl))))

receipt-by-stays : (more : List (List ℕ)) (sc : Scenario) (n : ℕ) (word : List ℕ) (k : ℕ) (lines : RemainingLines) → Stays more (receipt_of_word sc n word k lines) (receipt_of_word sc n word k (with_lines lines more))
unfolding lines_receipt moves_receipt
receipt-by-stays more sc n word k lines =
    either-stays more (bytes_eq word (codes "lines")) _ _ _ _ (stays-then more (numbered_log k lines) (numbered_log k (with_lines lines more)) _ _ (numbered-stays more k lines) (λ found. refl))
    (either-stays more (bytes_eq word (codes "moves")) _ _ _ _ (stays-then more (moves_at sc k lines) (moves_at sc k (with_lines lines more)) _ _ (moves-stay more sc k lines) (λ moves. refl)) refl)

receipt-stays : (more : List (List ℕ)) (sc : Scenario) (worker : ℕ) (lines : RemainingLines) → Stays more (receipt_at sc worker lines) (receipt_at sc worker (with_lines lines more))
unfolding receipt_at
receipt-stays more sc worker lines =
    stays-then more (next_line lines) (next_line (with_lines lines more)) _ _ (next-stays more lines)
    (λ next. any-stays more (next_field next.0) _ _ (λ word. any-stays more (receipt_count worker word.1) _ _ (λ k. receipt-by-stays more sc lines.number word.0 k next.1)))

receipts-stay : (more : List (List ℕ)) (sc : Scenario) (worker k : ℕ) (lines : RemainingLines) → Stays more (receipts_at sc worker k lines) (receipts_at sc worker k (with_lines lines more))
unfolding receipts_at
receipts-stay more sc worker zero lines = refl
receipts-stay more sc worker (suc k) lines =
    stays-then more (receipt_at sc worker lines) (receipt_at sc worker (with_lines lines more)) _ _ (receipt-stays more sc worker lines)
    (λ found. stays-then more (receipts_at sc (worker + 1) k found.1) (receipts_at sc (worker + 1) k (with_lines found.1 more)) _ _ (receipts-stay more sc (worker + 1) k found.1) (λ rest. refl))

step-stays : (more : List (List ℕ)) (sc : Scenario) (book : BookView) (head : Head) (lines : RemainingLines) → Stays more (step_at sc book head lines) (step_at sc book head (with_lines lines more))
unfolding step_at fit_step log_step outside_step undecided_step
step-stays more sc book (Fit test k) lines =
    stays-then more (fit_step sc test k lines) (fit_step sc test k (with_lines lines more)) _ _ (stays-then more (entries_at sc None k lines) (entries_at sc None k (with_lines lines more)) _ _ (entries-stay more sc None k lines) (λ entries. refl)) (λ x. refl)
step-stays more sc book (Same test) lines = refl
step-stays more sc book (NoChannel test) lines = refl
step-stays more sc book (Log test worker k) lines =
    stays-then more (log_step sc book test worker k lines) (log_step sc book test worker k (with_lines lines more)) _ _
    (stays-then more (next_line lines) (next_line (with_lines lines more)) _ _ (next-stays more lines)
    (λ next. any-stays more (word_at (codes "on") next.0) _ _ (λ rest. any-stays more (stations_at sc rest.number None rest.fields) _ _
    (λ subset. stays-then more (log_at (clauses_in book subset + 1) k next.1) (log_at (clauses_in book subset + 1) k (with_lines next.1 more)) _ _ (log-stays more (clauses_in book subset + 1) k next.1) (λ log. refl)))))
    (λ x. refl)
step-stays more sc book (Dead test worker pair) lines = refl
step-stays more sc book (Outside test k) lines =
    stays-then more (outside_step test k lines) (outside_step test k (with_lines lines more)) _ _ (stays-then more (numbered_log k lines) (numbered_log k (with_lines lines more)) _ _ (numbered-stays more k lines) (λ found. refl)) (λ x. refl)
step-stays more sc book (Undecided test) lines =
    stays-then more (undecided_step sc test lines) (undecided_step sc test (with_lines lines more)) _ _ (stays-then more (receipts_at sc 0 (length sc.workers) lines) (receipts_at sc 0 (length sc.workers) (with_lines lines more)) _ _ (receipts-stay more sc 0 (length sc.workers) lines) (λ found. refl)) (λ x. refl)
step-stays more sc book End lines = refl

pub next-step-stays : (more : List (List ℕ)) (sc : Scenario) (book : BookView) (steps : ℕ) (lines : RemainingLines) → Stays more (next_step sc book steps lines) (next_step sc book steps (with_lines lines more))
unfolding next_step
next-step-stays more sc book steps lines =
    stays-then more (next_line lines) (next_line (with_lines lines more)) _ _ (next-stays more lines)
    (λ next. any-stays more (head_at sc steps next.0) _ _ (λ head. step-stays more sc book head next.1))

pub start-stays : (more : List (List ℕ)) (sc : Scenario) (lines : RemainingLines) → Stays more (start_at sc lines) (start_at sc (with_lines lines more))
unfolding start_at empty_start fit_start
start-stays more sc lines =
    stays-then more (next_line lines) (next_line (with_lines lines more)) _ _ (next-stays more lines)
    (λ next. any-stays more (word_at (codes "start") next.0) _ _ (λ rest. any-stays more (next_field rest) _ _
    (λ kind. either-stays more (bytes_eq kind.0 (codes "empty")) _ _ _ _ (any-stays more (line_end kind.1) _ _ (λ u. refl))
    (either-stays more (bytes_eq kind.0 (codes "fit")) _ _ _ _
    (any-stays more (count_at kind.1) _ _ (λ k. any-stays more (line_end k.1) _ _ (λ u. stays-then more (entries_at sc None k.0 next.1) (entries_at sc None k.0 (with_lines next.1 more)) _ _ (entries-stay more sc None k.0 next.1) (λ entries. refl))))
    refl))))

pub version-stays : (more lines : List (List ℕ)) → Stays more (version_at lines) (version_at (lines ++ more))
version-stays more [] = tt
version-stays more (line ∷ lines) = go (order_of line)
  where
    go : (o : Option Order) → Stays more (version_or o lines) (version_or o (lines ++ more))
    go None = refl
    go (Some order) = refl

pub opened-stays : (more : List (List ℕ)) (sc : Scenario) (lines : List (List ℕ)) → Stays more (opened_at sc lines) (opened_at sc (lines ++ more))
unfolding opened_at
opened-stays more sc lines =
    stays-then more (version_at lines) (version_at (lines ++ more)) _ _ (version-stays more lines)
    (λ version. stays-then more (start_at sc version.1) (start_at sc (with_lines version.1 more)) _ _ (start-stays more sc version.1) (λ start. refl))
