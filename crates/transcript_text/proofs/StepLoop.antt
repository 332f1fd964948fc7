-- Reading makes progress: a step takes a line at least. The loop over steps needs this for its bound.
use Rattle.std.proofs.Common.{◌≡◌, ◌<◌, ◌≤◌, ◌+◌, ◌==◌, ℕ, zero, suc, Bool, true, false, List, [], ◌∷◌, Option, Some, None, Result, Ok, Err, refl, subst, arith, length, if◌then◌else◌}
use Rattle.std.specs.Prelude.{codes}
use Rattle.std.specs.Str.{bytes_eq}
use Rattle.pack_defs.specs.declared.scenario.Scenario.{Scenario}
use Rattle.pack_defs.specs.Book.{BookView}
use Rattle.lrat_text.specs.Write.{greatest}
use Rattle.transcript_text.specs.declared.error.TextErr.{TextErr}
use Rattle.transcript_text.specs.declared.error.TextErr.TheVariants.{Truncated}
use Rattle.transcript_text.specs.declared.head.Head.{Head}
use Rattle.transcript_text.specs.declared.head.Head.TheVariants.{Fit, Same, NoChannel, Log, Dead, Outside, Undecided, End}
use Rattle.pack_defs.specs.Steps.{◌>>=◌}
use Rattle.auction_core.specs.LogNumbers.{clauses_in}
use Rattle.transcript_text.specs.Fields.{RemainingLines, RemainingFields, next_line, next_field, number_at, word_at}
use Rattle.transcript_text.specs.LogLines.{log_at, log_line, entries_at, entry_at, moves_at, stations_at}
use Rattle.transcript_text.specs.Reading.{some_log, numbered_log, lines_receipt, moves_receipt, receipt_count, receipt_of_word, receipt_at, receipts_at, head_at, fit_step, log_step, outside_step, undecided_step, step_at, next_step}

-- Whether no more lines are left than before, if the call succeeds.
abbrev pub NoMore : {A : Type 0} → RemainingLines → Result (A × RemainingLines) TextErr → Type 0
NoMore lines (Ok x) = length x.1.left ≤ length lines.left
NoMore lines (Err e) = Unit {0}

no-more-from : {A : Type 0} (a b : RemainingLines) (r : Result (A × RemainingLines) TextErr) → length a.left ≤ length b.left → NoMore a r → NoMore b r
no-more-from a b (Ok x) le h = omega (arith, le, h)
no-more-from a b (Err e) le h = tt

no-more-then : {A B : Type 0} (lines : RemainingLines) (r : Result (A × RemainingLines) TextErr) (f : A × RemainingLines → Result (B × RemainingLines) TextErr) → NoMore lines r → ((x : A × RemainingLines) → NoMore x.1 (f x)) → NoMore lines (r >>= f)
no-more-then lines (Ok x) f h g = no-more-from x.1 lines (f x) h (g x)
no-more-then lines (Err e) f h g = tt

any-then : {A B : Type 0} (lines : RemainingLines) (r : Result A TextErr) (f : A → Result (B × RemainingLines) TextErr) → ((x : A) → NoMore lines (f x)) → NoMore lines (r >>= f)
any-then lines (Ok x) f g = g x
any-then lines (Err e) f g = tt

either : {A : Type 0} (lines : RemainingLines) (b : Bool) (r s : Result (A × RemainingLines) TextErr) → NoMore lines r → NoMore lines s → NoMore lines (if b then r else s)
either lines true r s h k = h
either lines false r s h k = k

same : (lines : RemainingLines) → length lines.left ≤ length lines.left
same lines = omega arith

next-no-more : (lines : RemainingLines) → NoMore lines (next_line lines)
next-no-more lines = go lines.number lines.left
  where
    go : (n : ℕ) (left : List (List ℕ)) → NoMore (record { number = n; left = left }) (next_line (record { number = n; left = left }))
    go n [] = tt
    go n (line ∷ left) = omega arith

log-no-more : (number k : ℕ) (lines : RemainingLines) → NoMore lines (log_at number k lines)
unfolding log_at
log-no-more number zero lines = same lines
log-no-more number (suc k) lines =
    no-more-then lines (next_line lines) _ (next-no-more lines)
    (λ next. any-then next.1 (log_line number next.0) _ (λ line. no-more-then next.1 (log_at (number + 1) k next.1) _ (log-no-more (number + 1) k next.1) (λ rest. same rest.1)))

entries-no-more : (sc : Scenario) (above : Option ℕ) (k : ℕ) (lines : RemainingLines) → NoMore lines (entries_at sc above k lines)
unfolding entries_at
entries-no-more sc above zero lines = same lines
entries-no-more sc above (suc k) lines =
    no-more-then lines (next_line lines) _ (next-no-more lines)
    (λ next. any-then next.1 (entry_at sc (codes "at") above next.0) _ (λ entry. no-more-then next.1 (entries_at sc (Some entry.0) k next.1) _ (entries-no-more sc (Some entry.0) k next.1) (λ rest. same rest.1)))

moves-no-more : (sc : Scenario) (k : ℕ) (lines : RemainingLines) → NoMore lines (moves_at sc k lines)
unfolding moves_at
moves-no-more sc zero lines = same lines
moves-no-more sc (suc k) lines =
    no-more-then lines (next_line lines) _ (next-no-more lines)
    (λ next. any-then next.1 (entry_at sc (codes "move") None next.0) _ (λ move. no-more-then next.1 (moves_at sc k next.1) _ (moves-no-more sc k next.1) (λ rest. same rest.1)))

numbered-no-more : (k : ℕ) (lines : RemainingLines) → NoMore lines (numbered_log k lines)
unfolding numbered_log some_log
numbered-no-more k lines =
    either lines (k == 0) _ _ (same lines)
    (any-then lines (next_line lines) _ (λ next. any-then lines (number_at greatest next.0) _ (λ first. no-more-then lines (log_at first.0 k lines) _ (log-no-more first.0 k lines) (λ log. same log.1))))

receipt-by-no-more : (sc : Scenario) (n : ℕ) (word : List ℕ) (k : ℕ) (lines : RemainingLines) → NoMore lines (receipt_of_word sc n word k lines)
unfolding lines_receipt moves_receipt
receipt-by-no-more sc n word k lines =
    either lines (bytes_eq word (codes "lines")) _ _ (no-more-then lines (numbered_log k lines) _ (numbered-no-more k lines) (λ found. same found.1))
    (either lines (bytes_eq word (codes "moves")) _ _ (no-more-then lines (moves_at sc k lines) _ (moves-no-more sc k lines) (λ moves. same moves.1)) tt)

receipt-no-more : (sc : Scenario) (worker : ℕ) (lines : RemainingLines) → NoMore lines (receipt_at sc worker lines)
unfolding receipt_at
receipt-no-more sc worker lines =
    no-more-then lines (next_line lines) _ (next-no-more lines)
    (λ next. any-then next.1 (next_field next.0) _ (λ word. any-then next.1 (receipt_count worker word.1) _ (λ k. receipt-by-no-more sc lines.number word.0 k next.1)))

receipts-no-more : (sc : Scenario) (worker k : ℕ) (lines : RemainingLines) → NoMore lines (receipts_at sc worker k lines)
unfolding receipts_at
receipts-no-more sc worker zero lines = same lines
receipts-no-more sc worker (suc k) lines =
    no-more-then lines (receipt_at sc worker lines) _ (receipt-no-more sc worker lines)
    (λ found. no-more-then found.1 (receipts_at sc (worker + 1) k found.1) _ (receipts-no-more sc (worker + 1) k found.1) (λ rest. same rest.1))

step-no-more : (sc : Scenario) (book : BookView) (head : Head) (lines : RemainingLines) → NoMore lines (step_at sc book head lines)
unfolding step_at fit_step log_step outside_step undecided_step
step-no-more sc book (Fit test k) lines =
    no-more-then lines (fit_step sc test k lines) _ (no-more-then lines (entries_at sc None k lines) _ (entries-no-more sc None k lines) (λ entries. same entries.1)) (λ x. same x.1)
step-no-more sc book (Same test) lines = same lines
step-no-more sc book (NoChannel test) lines = same lines
step-no-more sc book (Log test worker k) lines =
    no-more-then lines (log_step sc book test worker k lines) _
    (no-more-then lines (next_line lines) _ (next-no-more lines)
    (λ next. any-then next.1 (word_at (codes "on") next.0) _ (λ rest. any-then next.1 (stations_at sc rest.number None rest.fields) _
    (λ subset. no-more-then next.1 (log_at (clauses_in book subset + 1) k next.1) _ (log-no-more (clauses_in book subset + 1) k next.1) (λ log. same log.1)))))
    (λ x. same x.1)
step-no-more sc book (Dead test worker pair) lines = same lines
step-no-more sc book (Outside test k) lines =
    no-more-then lines (outside_step test k lines) _ (no-more-then lines (numbered_log k lines) _ (numbered-no-more k lines) (λ found. same found.1)) (λ x. same x.1)
step-no-more sc book (Undecided test) lines =
    no-more-then lines (undecided_step sc test lines) _ (no-more-then lines (receipts_at sc 0 (length sc.workers) lines) _ (receipts-no-more sc 0 (length sc.workers) lines) (λ found. same found.1)) (λ x. same x.1)
step-no-more sc book End lines = same lines

-- Whether fewer lines are left than before, if the call succeeds.
abbrev pub Fewer : {A : Type 0} → RemainingLines → Result (A × RemainingLines) TextErr → Type 0
Fewer lines (Ok x) = length x.1.left < length lines.left
Fewer lines (Err e) = Unit {0}

fewer-then : {B : Type 0} (n : ℕ) (left : List (List ℕ)) (f : RemainingFields × RemainingLines → Result (B × RemainingLines) TextErr) → ((x : RemainingFields × RemainingLines) → NoMore x.1 (f x)) → Fewer (record { number = n; left = left }) (next_line (record { number = n; left = left }) >>= f)
fewer-then {B = B} n [] f g = tt
fewer-then {B = B} n (line ∷ left) f g = go (f _) (g _)
  where
    go : (r : Result (B × RemainingLines) TextErr) → NoMore (record { number = n + 1; left = left }) r → Fewer (record { number = n; left = line ∷ left }) r
    go (Ok x) h = omega (arith, h)
    go (Err e) h = tt

pub step-fewer : (sc : Scenario) (book : BookView) (steps : ℕ) (lines : RemainingLines) → Fewer lines (next_step sc book steps lines)
unfolding next_step
step-fewer sc book steps lines =
    fewer-then lines.number lines.left _ (λ next. any-then next.1 (head_at sc steps next.0) _ (λ head. step-no-more sc book head next.1))

pub next-truncated : (sc : Scenario) (book : BookView) (steps n : ℕ) (left : List (List ℕ)) → length left ≤ 0 → next_step sc book steps (record { number = n; left = left }) ≡ Err Truncated
unfolding next_step
next-truncated sc book steps n [] h = refl
next-truncated sc book steps n (line ∷ left) h = absurd (omega (arith, h))

-- A step that was read took a line.
pub took-line : {A : Type 0} (lines : RemainingLines) (r : Result (A × RemainingLines) TextErr) (x : A) (after : RemainingLines) → Fewer lines r → r ≡ Ok (x, after) → length after.left < length lines.left
took-line lines r x after h e = subst (Fewer lines) e h
