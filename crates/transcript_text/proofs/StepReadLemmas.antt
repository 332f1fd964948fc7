-- The text of the steps that were read equals the text that is written of the result.
use Rattle.std.proofs.Common.{◌≡◌, ◌≤◌, ◌+◌, ◌∙◌, ◌∷◌, ◌++◌, [], ℕ, zero, suc, List, Bool, true, false, ◌==◌, if◌then◌else◌, Result, Ok, Err, refl, sym, ap, subst, arith, length, eqb-true, decimal, append_assoc}
use Rattle.std.specs.Prelude.{codes}
use Rattle.std.specs.List.{flat_map}
use Rattle.std.specs.Str.{bytes_eq}
use Rattle.pack_defs.specs.declared.scenario.Scenario.{Scenario}
use Rattle.cert_types.specs.declared.answer.Receipt.{Receipt}
use Rattle.cert_types.specs.declared.answer.Receipt.TheVariants.{Lines, Moves}
use Rattle.lrat_text.specs.Lines.{line_of}
use Rattle.lrat_text.specs.Write.{greatest, log_text}
use Rattle.transcript_text.specs.declared.error.TextErr.{TextErr}
use Rattle.transcript_text.specs.declared.error.TextErr.TheVariants.{BadLine}
use Rattle.transcript_text.specs.declared.head.StepTest.{StepTest}
use Rattle.transcript_text.specs.declared.head.Head.{Head}
use Rattle.transcript_text.specs.declared.head.Head.TheVariants.{Fit, Same, NoChannel, Log as LogHead, Dead, Outside, Undecided, End}
use Rattle.transcript_text.specs.Spelling.{entry_text, receipt_text, receipts_text}
use Rattle.transcript_text.specs.Fields.{RemainingFields, RemainingLines, channel_at, count_at, exact_number_at, greatest_u32, line_end, most_counted, next_field, next_line, number_at, station_at, word_at, worker_at}
use Rattle.transcript_text.specs.LogLines.{log_at, moves_at}
use Rattle.transcript_text.specs.Reading.{FoundLog, FoundReceipt, dead_head, end_head, fit_head, found_log, head_at, head_of_word, lines_receipt, log_head, moves_receipt, none_head, numbered_log, outside_head, receipt_at, receipt_of_word, receipt_count, receipts_at, same_head, some_log, step_test_at, undecided_head}
use Rattle.transcript_text.proofs.FieldReadLemmas.{channel-said, end-said, err-ok, exactly-said, field-said, left_text, next-said, number-said, ok-same, same-bytes-said, station-said, word-said, worker-said}
use Rattle.transcript_text.proofs.LineReadLemmas.{IsListSaid, log-said, moves-said}
use Rattle.transcript_text.proofs.Rising.{after-ok}

-- ---- logs whose first line may have any number

abbrev pub IsLogSaid : ℕ → RemainingLines → FoundLog × RemainingLines → Type 0
IsLogSaid k lines x = IsListSaid k lines x.0.log.lines (log_text x.0.first x.0.log.lines) x.1

some-said : (k : ℕ) (lines : RemainingLines) (x : FoundLog × RemainingLines) → some_log k lines ≡ Ok x → IsLogSaid k lines x
unfolding some_log
some-said k lines x e =
    let next = after-ok (next_line lines) _ x e in
    let first = after-ok (number_at greatest next.0.0) _ x next.2 in
    let log = after-ok (log_at first.0.0 k lines) _ x first.2 in
    subst (IsLogSaid k lines) (ok-same (found_log first.0.0 log.0.0, log.0.1) x log.2) (log-said first.0.0 k lines log.0 log.1)

pub numbered-said : (k : ℕ) (lines : RemainingLines) (x : FoundLog × RemainingLines) → numbered_log k lines ≡ Ok x → IsLogSaid k lines x
unfolding numbered_log log_text
numbered-said k lines x e = go (k == 0) refl e
  where
    go : (b : Bool) → (k == 0) ≡ b → (if b then Ok (found_log 0 [], lines) else some_log k lines) ≡ Ok x → IsLogSaid k lines x
    go true p h = subst (IsLogSaid k lines) (ok-same (found_log 0 [], lines) x h) (record { count = sym (eqb-true k 0 p); said = refl })
    go false p h = some-said k lines x h

-- ---- receipts

abbrev IsReceiptSaid : ℕ → RemainingLines → FoundReceipt × RemainingLines → Type 0
IsReceiptSaid worker lines x = left_text lines ≡ receipt_text worker x.0.receipt x.0.first ++ left_text x.1

-- Whether what follows a receipt's first line, of this word and count, is the text of what was read.
abbrev IsBodySaid : ℕ → List ℕ → ℕ → RemainingLines → FoundReceipt × RemainingLines → Type 0
IsBodySaid worker word k lines x = line_of (word ∷ decimal worker ∷ decimal k ∷ []) ++ left_text lines ≡ receipt_text worker x.0.receipt x.0.first ++ left_text x.1

lines-said : (worker k : ℕ) (lines : RemainingLines) (x : FoundReceipt × RemainingLines) → lines_receipt k lines ≡ Ok x → IsBodySaid worker (codes "lines") k lines x
unfolding lines_receipt receipt_text
lines-said worker k lines x e =
    let found = after-ok (numbered_log k lines) _ x e in
    let said = numbered-said k lines found.0 found.1 in
    let head : List ℕ → List ℕ = λ t. line_of (codes "lines" ∷ decimal worker ∷ decimal k ∷ []) ++ t in
    subst (IsBodySaid worker (codes "lines") k lines) (ok-same (record { receipt = Lines found.0.0.log; first = found.0.0.first }, found.0.1) x found.2)
    (ap head said.said ∙ sym (append_assoc (line_of (codes "lines" ∷ decimal worker ∷ decimal k ∷ [])) (log_text found.0.0.first found.0.0.log.lines) (left_text found.0.1))
    ∙ ap (λ (n : ℕ). (line_of (codes "lines" ∷ decimal worker ∷ decimal n ∷ []) ++ log_text found.0.0.first found.0.0.log.lines) ++ left_text found.0.1) (sym said.count))

moves-read : (sc : Scenario) (worker k : ℕ) (lines : RemainingLines) (x : FoundReceipt × RemainingLines) → moves_receipt sc k lines ≡ Ok x → IsBodySaid worker (codes "moves") k lines x
unfolding moves_receipt receipt_text
moves-read sc worker k lines x e =
    let moves = after-ok (moves_at sc k lines) _ x e in
    let said = moves-said sc k lines moves.0 moves.1 in
    let head : List ℕ → List ℕ = λ t. line_of (codes "moves" ∷ decimal worker ∷ decimal k ∷ []) ++ t in
    let text : List ℕ = flat_map (entry_text (codes "move")) moves.0.0 in
    subst (IsBodySaid worker (codes "moves") k lines) (ok-same (record { receipt = Moves moves.0.0; first = 0 }, moves.0.1) x moves.2)
    (ap head said.said ∙ sym (append_assoc (line_of (codes "moves" ∷ decimal worker ∷ decimal k ∷ [])) text (left_text moves.0.1))
    ∙ ap (λ (n : ℕ). (line_of (codes "moves" ∷ decimal worker ∷ decimal n ∷ []) ++ text) ++ left_text moves.0.1) (sym said.count))

by-said : (sc : Scenario) (n worker : ℕ) (word : List ℕ) (k : ℕ) (lines : RemainingLines) (x : FoundReceipt × RemainingLines) → receipt_of_word sc n word k lines ≡ Ok x → IsBodySaid worker word k lines x
by-said sc n worker word k lines x e = go (bytes_eq word (codes "lines")) (bytes_eq word (codes "moves")) refl refl e
  where
    go : (a b : Bool) → bytes_eq word (codes "lines") ≡ a → bytes_eq word (codes "moves") ≡ b → (if a then lines_receipt k lines else (if b then moves_receipt sc k lines else Err (BadLine n))) ≡ Ok x → IsBodySaid worker word k lines x
    go true b p q h = subst (λ (w : List ℕ). IsBodySaid worker w k lines x) (sym (same-bytes-said word (codes "lines") p)) (lines-said worker k lines x h)
    go false true p q h = subst (λ (w : List ℕ). IsBodySaid worker w k lines x) (sym (same-bytes-said word (codes "moves") q)) (moves-read sc worker k lines x h)
    go false false p q h = absurd (err-ok (BadLine n) x h)

count-said : (worker : ℕ) (line : RemainingFields) (k : ℕ) → worker ≤ greatest → receipt_count worker line ≡ Ok k → line.fields ≡ decimal worker ∷ decimal k ∷ []
unfolding receipt_count
count-said worker line k le e =
    let rest = after-ok (exact_number_at worker line) _ k e in
    let count = after-ok (count_at rest.0) _ k rest.2 in
    let u = after-ok (line_end count.0.1) _ k count.2 in
    let same = ok-same count.0.0 k u.2 in
    exactly-said worker line rest.0 le rest.1
    ∙ ap (λ (r : List (List ℕ)). decimal worker ∷ r) (number-said most_counted rest.0 count.0 (omega arith) count.1)
    ∙ ap (λ (r : List (List ℕ)). decimal worker ∷ decimal count.0.0 ∷ r) (end-said count.0.1 u.0 u.1)
    ∙ ap (λ (n : ℕ). decimal worker ∷ decimal n ∷ []) same

receipt-said : (sc : Scenario) (worker : ℕ) (lines : RemainingLines) (x : FoundReceipt × RemainingLines) → worker ≤ greatest → receipt_at sc worker lines ≡ Ok x → IsReceiptSaid worker lines x
unfolding receipt_at
receipt-said sc worker lines x le e =
    let next = after-ok (next_line lines) _ x e in
    let word = after-ok (next_field next.0.0) _ x next.2 in
    let k = after-ok (receipt_count worker word.0.1) _ x word.2 in
    let fields : next.0.0.fields ≡ word.0.0 ∷ decimal worker ∷ decimal k.0 ∷ [] =
    field-said next.0.0 word.0 word.1 ∙ ap (λ (r : List (List ℕ)). word.0.0 ∷ r) (count-said worker word.0.1 k.0 le k.1) in
    next-said lines next.0 next.1 ∙ ap (λ (fs : List (List ℕ)). line_of fs ++ left_text next.0.1) fields ∙ by-said sc lines.number worker word.0.0 k.0 next.0.1 x k.2

-- Whether these lines are the text of the receipts of `k` workers.
pub record AreReceiptsSaid (worker k : ℕ) (lines : RemainingLines) (x : (List Receipt × List ℕ) × RemainingLines) : Type 0 where
  pub count : length x.0.0 ≡ k
  pub said : left_text lines ≡ receipts_text worker x.0.0 x.0.1 ++ left_text x.1

pub receipts-said : (sc : Scenario) (worker k : ℕ) (lines : RemainingLines) (x : (List Receipt × List ℕ) × RemainingLines) → worker + k ≤ greatest → receipts_at sc worker k lines ≡ Ok x → AreReceiptsSaid worker k lines x
unfolding receipts_at receipts_text
receipts-said sc worker zero lines x le e =
    subst (AreReceiptsSaid worker 0 lines) (ok-same (([], []), lines) x e) (record { count = refl; said = refl })
receipts-said sc worker (suc k) lines x le e =
    let found = after-ok (receipt_at sc worker lines) _ x e in
    let rest = after-ok (receipts_at sc (worker + 1) k found.0.1) _ x found.2 in
    let same = ok-same ((found.0.0.receipt ∷ rest.0.0.0, found.0.0.first ∷ rest.0.0.1), rest.0.1) x rest.2 in
    let first = receipt-said sc worker lines found.0 (omega (arith, le)) found.1 in
    let more = receipts-said sc (worker + 1) k found.0.1 rest.0 (omega (arith, le)) rest.1 in
    let text : List ℕ = receipt_text worker found.0.0.receipt found.0.0.first in
    subst (AreReceiptsSaid worker (suc k) lines) same (record {
      count = ap suc more.count;
      said = first ∙ ap (λ (t : List ℕ). text ++ t) more.said ∙ sym (append_assoc text (receipts_text (worker + 1) rest.0.0.0 rest.0.0.1) (left_text rest.0.1));
    })

-- ---- the first line of a step

-- The fields of a head, or of the last line after this many steps.
abbrev pub head_fields : Scenario → ℕ → Head → List (List ℕ)
head_fields sc steps (Fit t k) = codes "fit" ∷ decimal t.round ∷ decimal t.station ∷ decimal k ∷ []
head_fields sc steps (Same t) = codes "same" ∷ decimal t.round ∷ decimal t.station ∷ []
head_fields sc steps (NoChannel t) = codes "none" ∷ decimal t.round ∷ decimal t.station ∷ []
head_fields sc steps (LogHead t w k) = codes "log" ∷ decimal t.round ∷ decimal t.station ∷ decimal w ∷ decimal k ∷ []
head_fields sc steps (Dead t w p) = codes "dead" ∷ decimal t.round ∷ decimal t.station ∷ decimal w ∷ decimal p.f ∷ decimal p.a ∷ decimal p.g ∷ decimal p.b ∷ []
head_fields sc steps (Outside t k) = codes "outside" ∷ decimal t.round ∷ decimal t.station ∷ decimal k ∷ []
head_fields sc steps (Undecided t) = codes "undecided" ∷ decimal t.round ∷ decimal t.station ∷ decimal (length sc.workers) ∷ []
head_fields sc steps End = codes "end" ∷ decimal steps ∷ []

-- Whether the word and these fields are the head's.
abbrev IsHeadSaid : Scenario → ℕ → List ℕ → RemainingFields → Head → Type 0
IsHeadSaid sc steps word line head = word ∷ line.fields ≡ head_fields sc steps head

test-said : (sc : Scenario) (line : RemainingFields) (x : StepTest × RemainingFields) → step_test_at sc line ≡ Ok x → line.fields ≡ decimal x.0.round ∷ decimal x.0.station ∷ x.1.fields
unfolding step_test_at
test-said sc line x e =
    let r = after-ok (number_at greatest_u32 line) _ x e in
    let s = after-ok (station_at sc r.0.1) _ x r.2 in
    let same = ok-same (record { round = r.0.0; station = s.0.0 }, s.0.1) x s.2 in
    number-said greatest_u32 line r.0 (omega arith) r.1
    ∙ ap (λ (f : List (List ℕ)). decimal r.0.0 ∷ f) (station-said sc r.0.1 s.0 s.1)
    ∙ ap (λ (y : StepTest × RemainingFields). decimal y.0.round ∷ decimal y.0.station ∷ y.1.fields) same

-- A test, and a count as the last field.
counted-said : (sc : Scenario) (word : List ℕ) (line : RemainingFields) (t : StepTest × RemainingFields) (k : ℕ × RemainingFields) (u : Unit {0}) → step_test_at sc line ≡ Ok t → count_at t.1 ≡ Ok k → line_end k.1 ≡ Ok u
    → word ∷ line.fields ≡ word ∷ decimal t.0.round ∷ decimal t.0.station ∷ decimal k.0 ∷ []
counted-said sc word line t k u et ek eu =
    ap (λ (f : List (List ℕ)). word ∷ f) (test-said sc line t et)
    ∙ ap (λ (f : List (List ℕ)). word ∷ decimal t.0.round ∷ decimal t.0.station ∷ f) (number-said most_counted t.1 k (omega arith) ek)
    ∙ ap (λ (f : List (List ℕ)). word ∷ decimal t.0.round ∷ decimal t.0.station ∷ decimal k.0 ∷ f) (end-said k.1 u eu)

-- A test and no more fields.
bare-said : (sc : Scenario) (word : List ℕ) (line : RemainingFields) (t : StepTest × RemainingFields) (u : Unit {0}) → step_test_at sc line ≡ Ok t → line_end t.1 ≡ Ok u
    → word ∷ line.fields ≡ word ∷ decimal t.0.round ∷ decimal t.0.station ∷ []
bare-said sc word line t u et eu =
    ap (λ (f : List (List ℕ)). word ∷ f) (test-said sc line t et)
    ∙ ap (λ (f : List (List ℕ)). word ∷ decimal t.0.round ∷ decimal t.0.station ∷ f) (end-said t.1 u eu)

fit-said : (sc : Scenario) (steps : ℕ) (line : RemainingFields) (head : Head) → fit_head sc line ≡ Ok head → IsHeadSaid sc steps (codes "fit") line head
unfolding fit_head
fit-said sc steps line head e =
    let t = after-ok (step_test_at sc line) _ head e in
    let k = after-ok (count_at t.0.1) _ head t.2 in
    let u = after-ok (line_end k.0.1) _ head k.2 in
    subst (IsHeadSaid sc steps (codes "fit") line) (ok-same (Fit t.0.0 k.0.0) head u.2) (counted-said sc (codes "fit") line t.0 k.0 u.0 t.1 k.1 u.1)

same-said : (sc : Scenario) (steps : ℕ) (line : RemainingFields) (head : Head) → same_head sc line ≡ Ok head → IsHeadSaid sc steps (codes "same") line head
unfolding same_head
same-said sc steps line head e =
    let t = after-ok (step_test_at sc line) _ head e in
    let u = after-ok (line_end t.0.1) _ head t.2 in
    subst (IsHeadSaid sc steps (codes "same") line) (ok-same (Same t.0.0) head u.2) (bare-said sc (codes "same") line t.0 u.0 t.1 u.1)

none-said : (sc : Scenario) (steps : ℕ) (line : RemainingFields) (head : Head) → none_head sc line ≡ Ok head → IsHeadSaid sc steps (codes "none") line head
unfolding none_head
none-said sc steps line head e =
    let t = after-ok (step_test_at sc line) _ head e in
    let u = after-ok (line_end t.0.1) _ head t.2 in
    subst (IsHeadSaid sc steps (codes "none") line) (ok-same (NoChannel t.0.0) head u.2) (bare-said sc (codes "none") line t.0 u.0 t.1 u.1)

log-head-said : (sc : Scenario) (steps : ℕ) (line : RemainingFields) (head : Head) → log_head sc line ≡ Ok head → IsHeadSaid sc steps (codes "log") line head
unfolding log_head
log-head-said sc steps line head e =
    let t = after-ok (step_test_at sc line) _ head e in
    let w = after-ok (worker_at sc t.0.1) _ head t.2 in
    let k = after-ok (count_at w.0.1) _ head w.2 in
    let u = after-ok (line_end k.0.1) _ head k.2 in
    subst (IsHeadSaid sc steps (codes "log") line) (ok-same (LogHead t.0.0 w.0.0 k.0.0) head u.2)
    (ap (λ (f : List (List ℕ)). codes "log" ∷ f) (test-said sc line t.0 t.1)
    ∙ ap (λ (f : List (List ℕ)). codes "log" ∷ decimal t.0.0.round ∷ decimal t.0.0.station ∷ f) (worker-said sc t.0.1 w.0 w.1)
    ∙ ap (λ (f : List (List ℕ)). codes "log" ∷ decimal t.0.0.round ∷ decimal t.0.0.station ∷ decimal w.0.0 ∷ f) (number-said most_counted w.0.1 k.0 (omega arith) k.1)
    ∙ ap (λ (f : List (List ℕ)). codes "log" ∷ decimal t.0.0.round ∷ decimal t.0.0.station ∷ decimal w.0.0 ∷ decimal k.0.0 ∷ f) (end-said k.0.1 u.0 u.1))

dead-said : (sc : Scenario) (steps : ℕ) (line : RemainingFields) (head : Head) → dead_head sc line ≡ Ok head → IsHeadSaid sc steps (codes "dead") line head
unfolding dead_head
dead-said sc steps line head e =
    let t = after-ok (step_test_at sc line) _ head e in
    let w = after-ok (worker_at sc t.0.1) _ head t.2 in
    let f = after-ok (station_at sc w.0.1) _ head w.2 in
    let a = after-ok (channel_at f.0.1) _ head f.2 in
    let g = after-ok (station_at sc a.0.1) _ head a.2 in
    let b = after-ok (channel_at g.0.1) _ head g.2 in
    let u = after-ok (line_end b.0.1) _ head b.2 in
    let before : List (List ℕ) → List (List ℕ) = λ r. codes "dead" ∷ decimal t.0.0.round ∷ decimal t.0.0.station ∷ r in
    subst (IsHeadSaid sc steps (codes "dead") line) (ok-same (Dead t.0.0 w.0.0 (record { f = f.0.0; a = a.0.0; g = g.0.0; b = b.0.0 })) head u.2)
    (ap (λ (r : List (List ℕ)). codes "dead" ∷ r) (test-said sc line t.0 t.1)
    ∙ ap before (worker-said sc t.0.1 w.0 w.1)
    ∙ ap (λ (r : List (List ℕ)). before (decimal w.0.0 ∷ r)) (station-said sc w.0.1 f.0 f.1)
    ∙ ap (λ (r : List (List ℕ)). before (decimal w.0.0 ∷ decimal f.0.0 ∷ r)) (channel-said f.0.1 a.0 a.1)
    ∙ ap (λ (r : List (List ℕ)). before (decimal w.0.0 ∷ decimal f.0.0 ∷ decimal a.0.0 ∷ r)) (station-said sc a.0.1 g.0 g.1)
    ∙ ap (λ (r : List (List ℕ)). before (decimal w.0.0 ∷ decimal f.0.0 ∷ decimal a.0.0 ∷ decimal g.0.0 ∷ r)) (channel-said g.0.1 b.0 b.1)
    ∙ ap (λ (r : List (List ℕ)). before (decimal w.0.0 ∷ decimal f.0.0 ∷ decimal a.0.0 ∷ decimal g.0.0 ∷ decimal b.0.0 ∷ r)) (end-said b.0.1 u.0 u.1))

outside-said : (sc : Scenario) (steps : ℕ) (line : RemainingFields) (head : Head) → outside_head sc line ≡ Ok head → IsHeadSaid sc steps (codes "outside") line head
unfolding outside_head
outside-said sc steps line head e =
    let t = after-ok (step_test_at sc line) _ head e in
    let k = after-ok (count_at t.0.1) _ head t.2 in
    let u = after-ok (line_end k.0.1) _ head k.2 in
    subst (IsHeadSaid sc steps (codes "outside") line) (ok-same (Outside t.0.0 k.0.0) head u.2) (counted-said sc (codes "outside") line t.0 k.0 u.0 t.1 k.1 u.1)

undecided-said : (sc : Scenario) (steps : ℕ) (line : RemainingFields) (head : Head) → length sc.workers ≤ greatest → undecided_head sc line ≡ Ok head → IsHeadSaid sc steps (codes "undecided") line head
unfolding undecided_head
undecided-said sc steps line head le e =
    let t = after-ok (step_test_at sc line) _ head e in
    let r = after-ok (exact_number_at (length sc.workers) t.0.1) _ head t.2 in
    let u = after-ok (line_end r.0) _ head r.2 in
    subst (IsHeadSaid sc steps (codes "undecided") line) (ok-same (Undecided t.0.0) head u.2)
    (ap (λ (f : List (List ℕ)). codes "undecided" ∷ f) (test-said sc line t.0 t.1)
    ∙ ap (λ (f : List (List ℕ)). codes "undecided" ∷ decimal t.0.0.round ∷ decimal t.0.0.station ∷ f) (exactly-said (length sc.workers) t.0.1 r.0 le r.1)
    ∙ ap (λ (f : List (List ℕ)). codes "undecided" ∷ decimal t.0.0.round ∷ decimal t.0.0.station ∷ decimal (length sc.workers) ∷ f) (end-said r.0 u.0 u.1))

end-head-said : (sc : Scenario) (steps : ℕ) (line : RemainingFields) (head : Head) → end_head steps line ≡ Ok head → IsHeadSaid sc steps (codes "end") line head
unfolding end_head
end-head-said sc steps line head e =
    let r = after-ok (word_at (decimal steps) line) _ head e in
    let u = after-ok (line_end r.0) _ head r.2 in
    subst (IsHeadSaid sc steps (codes "end") line) (ok-same End head u.2)
    (ap (λ (f : List (List ℕ)). codes "end" ∷ f) (word-said (decimal steps) line r.0 r.1)
    ∙ ap (λ (f : List (List ℕ)). codes "end" ∷ decimal steps ∷ f) (end-said r.0 u.0 u.1))

-- A choice between two cases by a word.
pub word-choice : (P : List ℕ → Head → Type 0) (word own : List ℕ) (head : Head) (this rest : Result Head TextErr) → (this ≡ Ok head → P own head) → (rest ≡ Ok head → P word head) → (if bytes_eq word own then this else rest) ≡ Ok head → P word head
word-choice P word own head this rest f g e = go (bytes_eq word own) refl e
  where
    go : (b : Bool) → bytes_eq word own ≡ b → (if b then this else rest) ≡ Ok head → P word head
    go true p h = subst (λ w. P w head) (sym (same-bytes-said word own p)) (f h)
    go false p h = g h

head-by-said : (sc : Scenario) (steps : ℕ) (word : List ℕ) (line : RemainingFields) (head : Head) → length sc.workers ≤ greatest → head_of_word sc steps word line ≡ Ok head → IsHeadSaid sc steps word line head
head-by-said sc steps word line head le e =
    let P : List ℕ → Head → Type 0 = λ w h. IsHeadSaid sc steps w line h in
    word-choice P word (codes "fit") head _ _ (fit-said sc steps line head)
    (word-choice P word (codes "same") head _ _ (same-said sc steps line head)
    (word-choice P word (codes "none") head _ _ (none-said sc steps line head)
    (word-choice P word (codes "log") head _ _ (log-head-said sc steps line head)
    (word-choice P word (codes "dead") head _ _ (dead-said sc steps line head)
    (word-choice P word (codes "outside") head _ _ (outside-said sc steps line head)
    (word-choice P word (codes "undecided") head _ _ (undecided-said sc steps line head le)
    (word-choice P word (codes "end") head _ _ (end-head-said sc steps line head) (λ h. absurd (err-ok (BadLine line.number) head h)))))))))
    e

pub head-said : (sc : Scenario) (steps : ℕ) (line : RemainingFields) (head : Head) → length sc.workers ≤ greatest → head_at sc steps line ≡ Ok head → line.fields ≡ head_fields sc steps head
unfolding head_at
head-said sc steps line head le e =
    let word = after-ok (next_field line) _ head e in
    field-said line word.0 word.1 ∙ head-by-said sc steps word.0.0 word.0.1 head le word.2
