-- A transcript that was read can be written: each number is within the bound of its field.
use Rattle.std.proofs.Common.{◌≡◌, ◌≤◌, ◌<◌, ◌+◌, ◌∷◌, [], ℕ, zero, suc, List, Bool, true, false, ◌==◌, if◌then◌else◌, Option, Some, None, Result, Ok, Err, refl, sym, ap, subst, arith, length, eqb-true}
use Rattle.std.specs.Prelude.{codes, nat_le, nat_lt}
use Rattle.std.specs.List.{AllByRecursion}
use Rattle.std.specs.Str.{bytes_eq}
use Rattle.std.proofs.lemmas.Bool.Decides.{nat_tests}
use Rattle.pack_defs.specs.Book.{BookView}
use Rattle.pack_defs.specs.Limits.{GREATEST_CHANNEL, LEAST_CHANNEL}
use Rattle.pack_defs.specs.Lists.{is_empty, is_in}
use Rattle.pack_defs.specs.declared.scenario.Scenario.{Scenario}
use Rattle.pack_defs.specs.Scenario.{facilities}
use Rattle.clause_db.specs.declared.lit.Lit.{Lit}
use Rattle.rup_check.specs.declared.line.Line.{Line}
use Rattle.cert_types.specs.declared.answer.Receipt.{Receipt}
use Rattle.cert_types.specs.declared.answer.Receipt.TheVariants.{Lines, Moves}
use Rattle.cert_types.specs.declared.answer.Refutation.TheVariants.{Proof as LogProof, Dead as DeadPair}
use Rattle.auction_core.specs.LogNumbers.{clauses_in}
use Rattle.auction_core.specs.declared.record.Shown.{Shown}
use Rattle.auction_core.specs.declared.record.Shown.TheVariants.{Empty, Fits, Same as SameSet, NoChannel as WithoutChannel, Refuted, Outside as ByOutside, Undecided as LeftOpen}
use Rattle.auction_core.specs.declared.transcript.Transcript.{Transcript}
use Rattle.auction_core.specs.declared.transcript.TranscriptStep.{TranscriptStep}
use Rattle.lrat_text.specs.declared.field.Field.{Field}
use Rattle.lrat_text.specs.declared.field.Field.TheVariants.{End as EndField, Number}
use Rattle.lrat_text.specs.Lines.{ended_lines, is_whole}
use Rattle.lrat_text.specs.Read.{field_of, natural, signed_of}
use Rattle.lrat_text.specs.Write.{IsLitSpelled, greatest}
use Rattle.lrat_text.proofs.OneSpelling.{natural-is}
use Rattle.transcript_text.specs.declared.error.TextErr.{TextErr}
use Rattle.transcript_text.specs.declared.error.TextErr.TheVariants.{BadLine, Truncated}
use Rattle.transcript_text.specs.declared.head.StepTest.{StepTest}
use Rattle.transcript_text.specs.declared.head.Head.{Head}
use Rattle.transcript_text.specs.declared.head.Head.TheVariants.{Fit, Same, NoChannel, Log as LogHead, Dead, Outside, Undecided, End}
use Rattle.pack_defs.specs.Steps.{◌>>=◌}
use Rattle.transcript_text.specs.Fields.{RemainingFields, RemainingLines, channel_at, count_at, exact_number_at, found_or, greatest_u32, is_above, is_plainly_spelled, line_end, most_counted, next_field, next_line, number_at, plain_field, plain_number, station_above, station_at, word_at, worker_at}
use Rattle.transcript_text.specs.LogLines.{entries_at, entry_at, hints_at, hints_or, lits_at, lits_or, log_at, log_line, moves_at, stations_at}
use Rattle.transcript_text.specs.Reading.{FoundLog, FoundReceipt, as_some, dead_head, empty_start, end_head, fit_head, fit_start, fit_step, found_log, head_at, head_of_word, lines_receipt, log_head, log_step, moves_receipt, next_step, none_head, numbered_log, outside_head, outside_step, receipt_at, receipt_count, receipt_of_word, receipts_at, same_head, some_log, start_at, step_at, step_of, step_or, step_test_at, steps_at, text_end, transcript_of, undecided_head, undecided_step, version_at}
use Rattle.transcript_text.specs.Spelled.{AreEntries, AreLines, AreReceiptsSpelled, AreStations, IsChannel, IsEntry, IsHint, IsLog, IsReceipt, IsStartSpelled, IsStation, IsStepSpelled, IsWorker}
use Rattle.transcript_text.proofs.FieldReadLemmas.{err-ok, found-said, if-ok, ok-same}
use Rattle.transcript_text.proofs.LineReadLemmas.{log-said}
use Rattle.transcript_text.proofs.StepReadLemmas.{word-choice}
use Rattle.transcript_text.proofs.Rising.{after-ok}

-- ---- numbers

le-of : (a b : ℕ) → nat_le a b ≡ true → a ≤ b
le-of a b h = grind (arith, nat_tests)

lt-of : (a b : ℕ) → nat_lt a b ≡ true → a < b
lt-of a b h = grind (arith, nat_tests)

plain-fits : (most n : ℕ) (field : List ℕ) → plain_number most field ≡ Some n → n ≤ most
unfolding plain_number
plain-fits most n field e = go (is_plainly_spelled field) e
  where
    go : (b : Bool) → (if b then natural most field else None) ≡ Some n → n ≤ most
    go false h = absurd cc
    go true h = let is = natural-is most field n h in omega (arith, is.within, is.value)

number-fits : (most : ℕ) (line : RemainingFields) (x : ℕ × RemainingFields) → number_at most line ≡ Ok x → x.0 ≤ most
unfolding number_at
number-fits most line x e =
    let a = after-ok (next_field line) (λ field. found_or line.number (plain_number most field.0) field.1) x e in
    let b = found-said line.number (plain_number most a.0.0) a.0.1 x a.2 in
    plain-fits most x.0 a.0.0 b.0

station-fits : (sc : Scenario) (line : RemainingFields) (x : ℕ × RemainingFields) → station_at sc line ≡ Ok x → IsStation sc x.0
unfolding station_at
station-fits sc line x e =
    let a = after-ok (number_at greatest_u32 line) (λ s. if is_in (facilities sc) s.0 then Ok s else Err (BadLine line.number)) x e in
    let b = if-ok (is_in (facilities sc) a.0.0) a.0 x (BadLine line.number) a.2 in
    subst (λ (y : ℕ × RemainingFields). IsStation sc y.0) b.1 (b.0, number-fits greatest_u32 line a.0 a.1)

channel-fits : (line : RemainingFields) (x : ℕ × RemainingFields) → channel_at line ≡ Ok x → IsChannel x.0
unfolding channel_at
channel-fits line x e =
    let a = after-ok (number_at GREATEST_CHANNEL line) (λ c. if nat_le LEAST_CHANNEL c.0 then Ok c else Err (BadLine line.number)) x e in
    let b = if-ok (nat_le LEAST_CHANNEL a.0.0) a.0 x (BadLine line.number) a.2 in
    subst (λ (y : ℕ × RemainingFields). IsChannel y.0) b.1 (le-of LEAST_CHANNEL a.0.0 b.0, number-fits GREATEST_CHANNEL line a.0 a.1)

worker-fits : (sc : Scenario) (line : RemainingFields) (x : ℕ × RemainingFields) → worker_at sc line ≡ Ok x → IsWorker sc x.0
unfolding worker_at
worker-fits sc line x e =
    let a = after-ok (number_at greatest_u32 line) (λ w. if nat_lt w.0 (length sc.workers) then Ok w else Err (BadLine line.number)) x e in
    let b = if-ok (nat_lt a.0.0 (length sc.workers)) a.0 x (BadLine line.number) a.2 in
    subst (λ (y : ℕ × RemainingFields). IsWorker sc y.0) b.1 (lt-of a.0.0 (length sc.workers) b.0, number-fits greatest_u32 line a.0 a.1)

abbrev IsNext : Scenario → Option ℕ → ℕ → Type 0
IsNext sc above s = IsStation sc s × (is_above above s ≡ true)

above-fits : (sc : Scenario) (above : Option ℕ) (line : RemainingFields) (x : ℕ × RemainingFields) → station_above sc above line ≡ Ok x → IsNext sc above x.0
unfolding station_above
above-fits sc above line x e =
    let a = after-ok (station_at sc line) (λ s. if is_above above s.0 then Ok s else Err (BadLine line.number)) x e in
    let b = if-ok (is_above above a.0.0) a.0 x (BadLine line.number) a.2 in
    subst (λ (y : ℕ × RemainingFields). IsNext sc above y.0) b.1 (station-fits sc line a.0 a.1, b.0)

-- ---- entries, moves, stations

entry-fits : (sc : Scenario) (word : List ℕ) (above : Option ℕ) (line : RemainingFields) (x : ℕ × ℕ) → entry_at sc word above line ≡ Ok x → IsEntry sc x × (is_above above x.0 ≡ true)
unfolding entry_at
entry-fits sc word above line x e =
    let a = after-ok (word_at word line) _ x e in
    let s = after-ok (station_above sc above a.0) _ x a.2 in
    let c = after-ok (channel_at s.0.1) _ x s.2 in
    let u = after-ok (line_end c.0.1) _ x c.2 in
    let fits = above-fits sc above a.0 s.0 s.1 in
    subst (λ (y : ℕ × ℕ). IsEntry sc y × (is_above above y.0 ≡ true)) (ok-same (s.0.0, c.0.0) x u.2) ((fits.0, channel-fits s.0.1 c.0 c.1), fits.1)

-- Whether the list has so many entries.
abbrev AreCounted : Scenario → Option ℕ → ℕ → List (ℕ × ℕ) → Type 0
AreCounted sc above k xs = (length xs ≡ k) × AreEntries sc above xs

entries-fit : (sc : Scenario) (above : Option ℕ) (k : ℕ) (lines : RemainingLines) (x : List (ℕ × ℕ) × RemainingLines) → entries_at sc above k lines ≡ Ok x → AreCounted sc above k x.0
unfolding entries_at
entries-fit sc above zero lines x e = subst (λ (y : List (ℕ × ℕ) × RemainingLines). AreCounted sc above 0 y.0) (ok-same ([], lines) x e) (refl, tt)
entries-fit sc above (suc k) lines x e =
    let next = after-ok (next_line lines) _ x e in
    let entry = after-ok (entry_at sc (codes "at") above next.0.0) _ x next.2 in
    let rest = after-ok (entries_at sc (Some entry.0.0) k next.0.1) _ x entry.2 in
    let more = entries-fit sc (Some entry.0.0) k next.0.1 rest.0 rest.1 in
    subst (λ (y : List (ℕ × ℕ) × RemainingLines). AreCounted sc above (suc k) y.0) (ok-same (entry.0 ∷ rest.0.0, rest.0.1) x rest.2)
    (ap suc more.0, (entry-fits sc (codes "at") above next.0.0 entry.0 entry.1, more.1))

abbrev AreMoves : Scenario → ℕ → List (ℕ × ℕ) → Type 0
AreMoves sc k xs = (length xs ≡ k) × AllByRecursion (IsEntry sc) xs

moves-fit : (sc : Scenario) (k : ℕ) (lines : RemainingLines) (x : List (ℕ × ℕ) × RemainingLines) → moves_at sc k lines ≡ Ok x → AreMoves sc k x.0
unfolding moves_at
moves-fit sc zero lines x e = subst (λ (y : List (ℕ × ℕ) × RemainingLines). AreMoves sc 0 y.0) (ok-same ([], lines) x e) (refl, tt)
moves-fit sc (suc k) lines x e =
    let next = after-ok (next_line lines) _ x e in
    let move = after-ok (entry_at sc (codes "move") None next.0.0) _ x next.2 in
    let rest = after-ok (moves_at sc k next.0.1) _ x move.2 in
    let more = moves-fit sc k next.0.1 rest.0 rest.1 in
    subst (λ (y : List (ℕ × ℕ) × RemainingLines). AreMoves sc (suc k) y.0) (ok-same (move.0 ∷ rest.0.0, rest.0.1) x rest.2)
    (ap suc more.0, ((entry-fits sc (codes "move") None next.0.0 move.0 move.1).0, more.1))

stations-fit : (sc : Scenario) (n : ℕ) (above : Option ℕ) (fields : List (List ℕ)) (ss : List ℕ) → stations_at sc n above fields ≡ Ok ss → AreStations sc above ss
unfolding stations_at
stations-fit sc n above [] ss e = subst (AreStations sc above) (ok-same [] ss e) tt
stations-fit sc n above (field ∷ fields) ss e =
    let line : RemainingFields = record { number = n; fields = field ∷ [] } in
    let s = after-ok (station_above sc above line) _ ss e in
    let rest = after-ok (stations_at sc n (Some s.0.0) fields) _ ss s.2 in
    subst (AreStations sc above) (ok-same (s.0.0 ∷ rest.0) ss rest.2) (above-fits sc above line s.0 s.1, stations-fit sc n (Some s.0.0) fields rest.0 rest.1)

-- ---- logs

abbrev IsFieldFit : Option Field → Type 0
IsFieldFit None = Unit {0}
IsFieldFit (Some EndField) = Unit {0}
IsFieldFit (Some (Number l)) = IsLitSpelled l

positive-of : (n : ℕ) → (n == 0) ≡ false → 1 ≤ n
positive-of zero h = absurd cc
positive-of (suc n) h = omega arith

signed-fits : (s : Bool) (o : Option ℕ) → ((n : ℕ) → o ≡ Some n → n ≤ greatest) → IsFieldFit (signed_of s o)
signed-fits s None h = tt
signed-fits s (Some n) h = go (n == 0) s refl
  where
    go : (b p : Bool) → (n == 0) ≡ b → IsFieldFit (if b then (if p then Some EndField else None) else Some (Number (record { var = n; positive = p })))
    go true true e = tt
    go true false e = tt
    go false p e = (positive-of n e, h n refl)

natural-fits : (word : List ℕ) (n : ℕ) → natural greatest word ≡ Some n → n ≤ greatest
natural-fits word n e = let is = natural-is greatest word n e in omega (arith, is.within, is.value)

field-fits : (field : List ℕ) → IsFieldFit (field_of field)
unfolding field_of
field-fits [] = tt
field-fits (c ∷ rest) = go (c == 45)
  where
    go : (b : Bool) → IsFieldFit (if b then signed_of false (natural greatest rest) else signed_of true (natural greatest (c ∷ rest)))
    go true = signed-fits false (natural greatest rest) (natural-fits rest)
    go false = signed-fits true (natural greatest (c ∷ rest)) (natural-fits (c ∷ rest))

plain-field-fits : (field : List ℕ) → IsFieldFit (plain_field field)
unfolding plain_field
plain-field-fits field = go (is_plainly_spelled field)
  where
    go : (b : Bool) → IsFieldFit (if b then field_of field else None)
    go true = field-fits field
    go false = tt

abbrev AreLits : List Lit → Type 0
AreLits ls = AllByRecursion IsLitSpelled ls

lits-fit : (n : ℕ) (fields : List (List ℕ)) (x : List Lit × List (List ℕ)) → lits_at n fields ≡ Ok x → AreLits x.0
unfolding lits_at
lits-fit n [] x e = absurd (err-ok (BadLine n) x e)
lits-fit n (field ∷ fields) x e = go (plain_field field) (plain-field-fits field) (λ y q. lits-fit n fields y q) e
  where
    go : (o : Option Field) → IsFieldFit o → ((y : List Lit × List (List ℕ)) → lits_at n fields ≡ Ok y → AreLits y.0) → lits_or n o fields (lits_at n fields) ≡ Ok x → AreLits x.0
    go None fits rec h = absurd (err-ok (BadLine n) x h)
    go (Some EndField) fits rec h = subst (λ (y : List Lit × List (List ℕ)). AreLits y.0) (ok-same ([], fields) x h) tt
    go (Some (Number l)) fits rec h =
        let a = after-ok (lits_at n fields) (λ y. Ok (l ∷ y.0, y.1)) x h in
        subst (λ (y : List Lit × List (List ℕ)). AreLits y.0) (ok-same (l ∷ a.0.0, a.0.1) x a.2) (fits, rec a.0 a.1)

abbrev AreHints : List ℕ → Type 0
AreHints hs = AllByRecursion IsHint hs

hints-fit : (n : ℕ) (fields : List (List ℕ)) (hints : List ℕ) → hints_at n fields ≡ Ok hints → AreHints hints
unfolding hints_at
hints-fit n [] hints e = absurd (err-ok (BadLine n) hints e)
hints-fit n (field ∷ fields) hints e = go (plain_field field) (plain-field-fits field) (λ hs q. hints-fit n fields hs q) e
  where
    last : (b : Bool) → (if b then Ok [] else Err (BadLine n)) ≡ Ok hints → AreHints hints
    last false h = absurd (err-ok (BadLine n) hints h)
    last true h = subst AreHints (ok-same [] hints h) tt

    more : (l : Lit) (b : Bool) → IsLitSpelled l → ((hs : List ℕ) → hints_at n fields ≡ Ok hs → AreHints hs) → (if b then (hints_at n fields >>= λ hs. Ok (l.var ∷ hs)) else Err (BadLine n)) ≡ Ok hints → AreHints hints
    more l false fits rec h = absurd (err-ok (BadLine n) hints h)
    more l true fits rec h =
        let a = after-ok (hints_at n fields) (λ hs. Ok (l.var ∷ hs)) hints h in
        subst AreHints (ok-same (l.var ∷ a.0) hints a.2) (fits, rec a.0 a.1)

    go : (o : Option Field) → IsFieldFit o → ((hs : List ℕ) → hints_at n fields ≡ Ok hs → AreHints hs) → hints_or n o fields (hints_at n fields) ≡ Ok hints → AreHints hints
    go None fits rec h = absurd (err-ok (BadLine n) hints h)
    go (Some EndField) fits rec h = last (is_empty fields) h
    go (Some (Number l)) fits rec h = more l l.positive fits rec h

abbrev IsLine : ℕ → Line → Type 0
IsLine number line = (number ≤ greatest) × AllByRecursion IsLitSpelled line.lits × AllByRecursion IsHint line.hints

log-line-fits : (number : ℕ) (line : RemainingFields) (said : Line) → log_line number line ≡ Ok said → IsLine number said
unfolding log_line
log-line-fits number line said e =
    let own = after-ok (number_at greatest line) _ said e in
    let lits = after-ok (if own.0.0 == number then lits_at line.number own.0.1.fields else Err (BadLine line.number)) _ said own.2 in
    let hints = after-ok (hints_at line.number lits.0.1) _ said lits.2 in
    let tested = go own.0.0 own.0.1.fields (own.0.0 == number) refl lits.0 lits.1 in
    subst (IsLine number) (ok-same (record { lits = lits.0.0; hints = hints.0 }) said hints.2)
    (subst (λ (m : ℕ). m ≤ greatest) tested.0 (number-fits greatest line own.0 own.1), lits-fit line.number own.0.1.fields lits.0 tested.1, hints-fit line.number lits.0.1 hints.0 hints.1)
  where
    go : (m : ℕ) (fields : List (List ℕ)) (b : Bool) → (m == number) ≡ b → (x : List Lit × List (List ℕ)) → (if b then lits_at line.number fields else Err (BadLine line.number)) ≡ Ok x → (m ≡ number) × (lits_at line.number fields ≡ Ok x)
    go m fields false p x h = absurd (err-ok (BadLine line.number) x h)
    go m fields true p x h = (eqb-true m number p, h)

log-fits : (number k : ℕ) (lines : RemainingLines) (x : List Line × RemainingLines) → log_at number k lines ≡ Ok x → AreLines number x.0
unfolding log_at
log-fits number zero lines x e = subst (λ (y : List Line × RemainingLines). AreLines number y.0) (ok-same ([], lines) x e) tt
log-fits number (suc k) lines x e =
    let next = after-ok (next_line lines) _ x e in
    let line = after-ok (log_line number next.0.0) _ x next.2 in
    let rest = after-ok (log_at (number + 1) k next.0.1) _ x line.2 in
    subst (λ (y : List Line × RemainingLines). AreLines number y.0) (ok-same (line.0 ∷ rest.0.0, rest.0.1) x rest.2)
    (log-line-fits number next.0.0 line.0 line.1, log-fits (number + 1) k next.0.1 rest.0 rest.1)

as-log : (first k : ℕ) (lines : List Line) → length lines ≡ k → (k == 0) ≡ false → AreLines first lines → IsLog first lines
as-log first zero [] c p h = absurd cc
as-log first (suc k) [] c p h = absurd cc
as-log first k (line ∷ lines) c p h = h

abbrev IsFound : ℕ → FoundLog → Type 0
IsFound k x = (length x.log.lines ≡ k) × IsLog x.first x.log.lines

numbered-fits : (k : ℕ) (lines : RemainingLines) (x : FoundLog × RemainingLines) → numbered_log k lines ≡ Ok x → IsFound k x.0
unfolding numbered_log some_log
numbered-fits k lines x e = go (k == 0) refl e
  where
    go : (b : Bool) → (k == 0) ≡ b → (if b then Ok (found_log 0 [], lines) else some_log k lines) ≡ Ok x → IsFound k x.0
    go true p h = subst (λ (y : FoundLog × RemainingLines). IsFound k y.0) (ok-same (found_log 0 [], lines) x h) (sym (eqb-true k 0 p), refl)
    go false p h =
        let next = after-ok (next_line lines) _ x h in
        let first = after-ok (number_at greatest next.0.0) _ x next.2 in
        let log = after-ok (log_at first.0.0 k lines) _ x first.2 in
        let count = (log-said first.0.0 k lines log.0 log.1).count in
        subst (λ (y : FoundLog × RemainingLines). IsFound k y.0) (ok-same (found_log first.0.0 log.0.0, log.0.1) x log.2)
        (count, as-log first.0.0 k log.0.0 count p (log-fits first.0.0 k lines log.0 log.1))

-- ---- receipts

within : (n k : ℕ) → n ≡ k → k ≤ most_counted → n ≤ most_counted
within n k e le = subst (λ m. m ≤ most_counted) (sym e) le

abbrev IsReceiptFit : Scenario → FoundReceipt → Type 0
IsReceiptFit sc x = IsReceipt sc x.receipt x.first

lines-fit : (sc : Scenario) (k : ℕ) (lines : RemainingLines) (x : FoundReceipt × RemainingLines) → k ≤ most_counted → lines_receipt k lines ≡ Ok x → IsReceiptFit sc x.0
unfolding lines_receipt
lines-fit sc k lines x le e =
    let found = after-ok (numbered_log k lines) _ x e in
    let fits = numbered-fits k lines found.0 found.1 in
    subst (λ (y : FoundReceipt × RemainingLines). IsReceiptFit sc y.0) (ok-same (record { receipt = Lines found.0.0.log; first = found.0.0.first }, found.0.1) x found.2)
    (within (length found.0.0.log.lines) k fits.0 le, fits.1)

moved-fit : (sc : Scenario) (k : ℕ) (lines : RemainingLines) (x : FoundReceipt × RemainingLines) → k ≤ most_counted → moves_receipt sc k lines ≡ Ok x → IsReceiptFit sc x.0
unfolding moves_receipt
moved-fit sc k lines x le e =
    let moves = after-ok (moves_at sc k lines) _ x e in
    let fits = moves-fit sc k lines moves.0 moves.1 in
    subst (λ (y : FoundReceipt × RemainingLines). IsReceiptFit sc y.0) (ok-same (record { receipt = Moves moves.0.0; first = 0 }, moves.0.1) x moves.2)
    (within (length moves.0.0) k fits.0 le, fits.1, refl)

by-fits : (sc : Scenario) (n : ℕ) (word : List ℕ) (k : ℕ) (lines : RemainingLines) (x : FoundReceipt × RemainingLines) → k ≤ most_counted → receipt_of_word sc n word k lines ≡ Ok x → IsReceiptFit sc x.0
by-fits sc n word k lines x le e = go (bytes_eq word (codes "lines")) (bytes_eq word (codes "moves")) e
  where
    go : (a b : Bool) → (if a then lines_receipt k lines else (if b then moves_receipt sc k lines else Err (BadLine n))) ≡ Ok x → IsReceiptFit sc x.0
    go true b h = lines-fit sc k lines x le h
    go false true h = moved-fit sc k lines x le h
    go false false h = absurd (err-ok (BadLine n) x h)

count-fits : (worker : ℕ) (line : RemainingFields) (k : ℕ) → receipt_count worker line ≡ Ok k → k ≤ most_counted
unfolding receipt_count
count-fits worker line k e =
    let rest = after-ok (exact_number_at worker line) _ k e in
    let count = after-ok (count_at rest.0) _ k rest.2 in
    let u = after-ok (line_end count.0.1) _ k count.2 in
    subst (λ m. m ≤ most_counted) (ok-same count.0.0 k u.2) (number-fits most_counted rest.0 count.0 count.1)

receipt-fits : (sc : Scenario) (worker : ℕ) (lines : RemainingLines) (x : FoundReceipt × RemainingLines) → receipt_at sc worker lines ≡ Ok x → IsReceiptFit sc x.0
unfolding receipt_at
receipt-fits sc worker lines x e =
    let next = after-ok (next_line lines) _ x e in
    let word = after-ok (next_field next.0.0) _ x next.2 in
    let k = after-ok (receipt_count worker word.0.1) _ x word.2 in
    by-fits sc lines.number word.0.0 k.0 next.0.1 x (count-fits worker word.0.1 k.0 k.1) k.2

abbrev AreFit : Scenario → ℕ → List Receipt × List ℕ → Type 0
AreFit sc k x = (length x.0 ≡ k) × AreReceiptsSpelled sc x.0 x.1

receipts-fit : (sc : Scenario) (worker k : ℕ) (lines : RemainingLines) (x : (List Receipt × List ℕ) × RemainingLines) → receipts_at sc worker k lines ≡ Ok x → AreFit sc k x.0
unfolding receipts_at
receipts-fit sc worker zero lines x e = subst (λ (y : (List Receipt × List ℕ) × RemainingLines). AreFit sc 0 y.0) (ok-same (([], []), lines) x e) (refl, tt)
receipts-fit sc worker (suc k) lines x e =
    let found = after-ok (receipt_at sc worker lines) _ x e in
    let rest = after-ok (receipts_at sc (worker + 1) k found.0.1) _ x found.2 in
    let more = receipts-fit sc (worker + 1) k found.0.1 rest.0 rest.1 in
    subst (λ (y : (List Receipt × List ℕ) × RemainingLines). AreFit sc (suc k) y.0) (ok-same ((found.0.0.receipt ∷ rest.0.0.0, found.0.0.first ∷ rest.0.0.1), rest.0.1) x rest.2)
    (ap suc more.0, (receipt-fits sc worker lines found.0 found.1, more.1))

-- ---- the first line of a step

abbrev IsTestFit : Scenario → StepTest → Type 0
IsTestFit sc t = (t.round ≤ greatest_u32) × IsStation sc t.station

test-fits : (sc : Scenario) (line : RemainingFields) (x : StepTest × RemainingFields) → step_test_at sc line ≡ Ok x → IsTestFit sc x.0
unfolding step_test_at
test-fits sc line x e =
    let r = after-ok (number_at greatest_u32 line) _ x e in
    let s = after-ok (station_at sc r.0.1) _ x r.2 in
    subst (λ (y : StepTest × RemainingFields). IsTestFit sc y.0) (ok-same (record { round = r.0.0; station = s.0.0 }, s.0.1) x s.2) (number-fits greatest_u32 line r.0 r.1, station-fits sc r.0.1 s.0 s.1)

abbrev IsHeadFit : Scenario → Head → Type 0
IsHeadFit sc (Fit t k) = IsTestFit sc t × (k ≤ most_counted)
IsHeadFit sc (Same t) = IsTestFit sc t
IsHeadFit sc (NoChannel t) = IsTestFit sc t
IsHeadFit sc (LogHead t w k) = IsTestFit sc t × (IsWorker sc w × (k ≤ most_counted))
IsHeadFit sc (Dead t w p) = IsTestFit sc t × (IsWorker sc w × ((IsStation sc p.f × IsChannel p.a) × (IsStation sc p.g × IsChannel p.b)))
IsHeadFit sc (Outside t k) = IsTestFit sc t × (k ≤ most_counted)
IsHeadFit sc (Undecided t) = IsTestFit sc t
IsHeadFit sc End = Unit {0}

fit-fits : (sc : Scenario) (line : RemainingFields) (head : Head) → fit_head sc line ≡ Ok head → IsHeadFit sc head
unfolding fit_head
fit-fits sc line head e =
    let t = after-ok (step_test_at sc line) _ head e in
    let k = after-ok (count_at t.0.1) _ head t.2 in
    let u = after-ok (line_end k.0.1) _ head k.2 in
    subst (IsHeadFit sc) (ok-same (Fit t.0.0 k.0.0) head u.2) (test-fits sc line t.0 t.1, number-fits most_counted t.0.1 k.0 k.1)

same-fits : (sc : Scenario) (line : RemainingFields) (head : Head) → same_head sc line ≡ Ok head → IsHeadFit sc head
unfolding same_head
same-fits sc line head e =
    let t = after-ok (step_test_at sc line) _ head e in
    let u = after-ok (line_end t.0.1) _ head t.2 in
    subst (IsHeadFit sc) (ok-same (Same t.0.0) head u.2) (test-fits sc line t.0 t.1)

none-fits : (sc : Scenario) (line : RemainingFields) (head : Head) → none_head sc line ≡ Ok head → IsHeadFit sc head
unfolding none_head
none-fits sc line head e =
    let t = after-ok (step_test_at sc line) _ head e in
    let u = after-ok (line_end t.0.1) _ head t.2 in
    subst (IsHeadFit sc) (ok-same (NoChannel t.0.0) head u.2) (test-fits sc line t.0 t.1)

log-head-fits : (sc : Scenario) (line : RemainingFields) (head : Head) → log_head sc line ≡ Ok head → IsHeadFit sc head
unfolding log_head
log-head-fits sc line head e =
    let t = after-ok (step_test_at sc line) _ head e in
    let w = after-ok (worker_at sc t.0.1) _ head t.2 in
    let k = after-ok (count_at w.0.1) _ head w.2 in
    let u = after-ok (line_end k.0.1) _ head k.2 in
    subst (IsHeadFit sc) (ok-same (LogHead t.0.0 w.0.0 k.0.0) head u.2) (test-fits sc line t.0 t.1, (worker-fits sc t.0.1 w.0 w.1, number-fits most_counted w.0.1 k.0 k.1))

dead-fits : (sc : Scenario) (line : RemainingFields) (head : Head) → dead_head sc line ≡ Ok head → IsHeadFit sc head
unfolding dead_head
dead-fits sc line head e =
    let t = after-ok (step_test_at sc line) _ head e in
    let w = after-ok (worker_at sc t.0.1) _ head t.2 in
    let f = after-ok (station_at sc w.0.1) _ head w.2 in
    let a = after-ok (channel_at f.0.1) _ head f.2 in
    let g = after-ok (station_at sc a.0.1) _ head a.2 in
    let b = after-ok (channel_at g.0.1) _ head g.2 in
    let u = after-ok (line_end b.0.1) _ head b.2 in
    subst (IsHeadFit sc) (ok-same (Dead t.0.0 w.0.0 (record { f = f.0.0; a = a.0.0; g = g.0.0; b = b.0.0 })) head u.2)
    (test-fits sc line t.0 t.1, (worker-fits sc t.0.1 w.0 w.1, ((station-fits sc w.0.1 f.0 f.1, channel-fits f.0.1 a.0 a.1), (station-fits sc a.0.1 g.0 g.1, channel-fits g.0.1 b.0 b.1))))

outside-fits : (sc : Scenario) (line : RemainingFields) (head : Head) → outside_head sc line ≡ Ok head → IsHeadFit sc head
unfolding outside_head
outside-fits sc line head e =
    let t = after-ok (step_test_at sc line) _ head e in
    let k = after-ok (count_at t.0.1) _ head t.2 in
    let u = after-ok (line_end k.0.1) _ head k.2 in
    subst (IsHeadFit sc) (ok-same (Outside t.0.0 k.0.0) head u.2) (test-fits sc line t.0 t.1, number-fits most_counted t.0.1 k.0 k.1)

undecided-fits : (sc : Scenario) (line : RemainingFields) (head : Head) → undecided_head sc line ≡ Ok head → IsHeadFit sc head
unfolding undecided_head
undecided-fits sc line head e =
    let t = after-ok (step_test_at sc line) _ head e in
    let r = after-ok (exact_number_at (length sc.workers) t.0.1) _ head t.2 in
    let u = after-ok (line_end r.0) _ head r.2 in
    subst (IsHeadFit sc) (ok-same (Undecided t.0.0) head u.2) (test-fits sc line t.0 t.1)

end-fits : (sc : Scenario) (steps : ℕ) (line : RemainingFields) (head : Head) → end_head steps line ≡ Ok head → IsHeadFit sc head
unfolding end_head
end-fits sc steps line head e =
    let r = after-ok (word_at _ line) _ head e in
    let u = after-ok (line_end r.0) _ head r.2 in
    subst (IsHeadFit sc) (ok-same End head u.2) tt

head-by-fits : (sc : Scenario) (steps : ℕ) (word : List ℕ) (line : RemainingFields) (head : Head) → head_of_word sc steps word line ≡ Ok head → IsHeadFit sc head
head-by-fits sc steps word line head e =
    let P : List ℕ → Head → Type 0 = λ w h. IsHeadFit sc h in
    word-choice P word (codes "fit") head _ _ (fit-fits sc line head)
    (word-choice P word (codes "same") head _ _ (same-fits sc line head)
    (word-choice P word (codes "none") head _ _ (none-fits sc line head)
    (word-choice P word (codes "log") head _ _ (log-head-fits sc line head)
    (word-choice P word (codes "dead") head _ _ (dead-fits sc line head)
    (word-choice P word (codes "outside") head _ _ (outside-fits sc line head)
    (word-choice P word (codes "undecided") head _ _ (undecided-fits sc line head)
    (word-choice P word (codes "end") head _ _ (end-fits sc steps line head) (λ h. absurd (err-ok (BadLine line.number) head h))))))))) e

head-fits : (sc : Scenario) (steps : ℕ) (line : RemainingFields) (head : Head) → head_at sc steps line ≡ Ok head → IsHeadFit sc head
unfolding head_at
head-fits sc steps line head e =
    let word = after-ok (next_field line) _ head e in
    head-by-fits sc steps word.0.0 word.0.1 head word.2

-- ---- a step

abbrev IsNextFit : Scenario → BookView → Option TranscriptStep → Type 0
IsNextFit sc book None = Unit {0}
IsNextFit sc book (Some x) = IsStepSpelled sc book x

some-fits : (sc : Scenario) (book : BookView) (read : Result (TranscriptStep × RemainingLines) TextErr) (x : Option TranscriptStep × RemainingLines) → ((y : TranscriptStep × RemainingLines) → read ≡ Ok y → IsStepSpelled sc book y.0) → as_some read ≡ Ok x → IsNextFit sc book x.0
some-fits sc book read x f e =
    let y = after-ok read (λ z. Ok (Some z.0, z.1)) x e in
    subst (λ (z : Option TranscriptStep × RemainingLines). IsNextFit sc book z.0) (ok-same (Some y.0.0, y.0.1) x y.2) (f y.0 y.1)

abbrev IsFirstFit : Scenario → BookView → TranscriptStep × RemainingLines → Type 0
IsFirstFit sc book y = IsStepSpelled sc book y.0

fit-step-fits : (sc : Scenario) (book : BookView) (t : StepTest) (k : ℕ) (lines : RemainingLines) (y : TranscriptStep × RemainingLines) → IsHeadFit sc (Fit t k) → fit_step sc t k lines ≡ Ok y → IsStepSpelled sc book y.0
unfolding fit_step
fit-step-fits sc book t k lines y h e =
    let entries = after-ok (entries_at sc None k lines) _ y e in
    let fits = entries-fit sc None k lines entries.0 entries.1 in
    subst (IsFirstFit sc book) (ok-same (step_of t (Fits entries.0.0) [], entries.0.1) y entries.2)
    (record { round = h.0.0; station = h.0.1; shown = (within (length entries.0.0) k fits.0 h.1, fits.1, refl) })

log-step-fits : (sc : Scenario) (book : BookView) (t : StepTest) (w k : ℕ) (lines : RemainingLines) (y : TranscriptStep × RemainingLines) → IsHeadFit sc (LogHead t w k) → log_step sc book t w k lines ≡ Ok y → IsStepSpelled sc book y.0
unfolding log_step
log-step-fits sc book t w k lines y h e =
    let next = after-ok (next_line lines) _ y e in
    let rest = after-ok (word_at (codes "on") next.0.0) _ y next.2 in
    let subset = after-ok (stations_at sc rest.0.number None rest.0.fields) _ y rest.2 in
    let first : ℕ = clauses_in book subset.0 + 1 in
    let log = after-ok (log_at first k next.0.1) _ y subset.2 in
    let count = (log-said first k next.0.1 log.0 log.1).count in
    subst (IsFirstFit sc book) (ok-same (step_of t (Refuted w (LogProof subset.0 (record { lines = log.0.0 }))) [], log.0.1) y log.2)
    (record {
      round = h.0.0;
      station = h.0.1;
      shown = (h.1.0, (within (length log.0.0) k count h.1.1, stations-fit sc rest.0.number None rest.0.fields subset.0 subset.1, log-fits first k next.0.1 log.0 log.1), refl);
    })

outside-step-fits : (sc : Scenario) (book : BookView) (t : StepTest) (k : ℕ) (lines : RemainingLines) (y : TranscriptStep × RemainingLines) → IsHeadFit sc (Outside t k) → outside_step t k lines ≡ Ok y → IsStepSpelled sc book y.0
unfolding outside_step
outside-step-fits sc book t k lines y h e =
    let found = after-ok (numbered_log k lines) _ y e in
    let fits = numbered-fits k lines found.0 found.1 in
    subst (IsFirstFit sc book) (ok-same (step_of t (ByOutside (record { log = found.0.0.log })) (found.0.0.first ∷ []), found.0.1) y found.2)
    (record { round = h.0.0; station = h.0.1; shown = (within (length found.0.0.log.lines) k fits.0 h.1, fits.1) })

undecided-step-fits : (sc : Scenario) (book : BookView) (t : StepTest) (lines : RemainingLines) (y : TranscriptStep × RemainingLines) → IsHeadFit sc (Undecided t) → undecided_step sc t lines ≡ Ok y → IsStepSpelled sc book y.0
unfolding undecided_step
undecided-step-fits sc book t lines y h e =
    let found = after-ok (receipts_at sc 0 (length sc.workers) lines) _ y e in
    let fits = receipts-fit sc 0 (length sc.workers) lines found.0 found.1 in
    subst (IsFirstFit sc book) (ok-same (step_of t (LeftOpen found.0.0.0) found.0.0.1, found.0.1) y found.2)
    (record { round = h.0; station = h.1; shown = fits })

abbrev IsThere : Scenario → BookView → Option TranscriptStep × RemainingLines → Type 0
IsThere sc book x = IsNextFit sc book x.0

step-fits : (sc : Scenario) (book : BookView) (head : Head) (lines : RemainingLines) (x : Option TranscriptStep × RemainingLines) → IsHeadFit sc head → step_at sc book head lines ≡ Ok x → IsNextFit sc book x.0
unfolding step_at
step-fits sc book (Fit t k) lines x h e = some-fits sc book (fit_step sc t k lines) x (λ y q. fit-step-fits sc book t k lines y h q) e
step-fits sc book (Same t) lines x h e = subst (IsThere sc book) (ok-same (Some (step_of t SameSet []), lines) x e) (record { round = h.0; station = h.1; shown = refl })
step-fits sc book (NoChannel t) lines x h e = subst (IsThere sc book) (ok-same (Some (step_of t (WithoutChannel t.station) []), lines) x e) (record { round = h.0; station = h.1; shown = (refl, refl) })
step-fits sc book (LogHead t w k) lines x h e = some-fits sc book (log_step sc book t w k lines) x (λ y q. log-step-fits sc book t w k lines y h q) e
step-fits sc book (Dead t w p) lines x h e = subst (IsThere sc book) (ok-same (Some (step_of t (Refuted w (DeadPair p)) []), lines) x e) (record { round = h.0.0; station = h.0.1; shown = (h.1.0, h.1.1, refl) })
step-fits sc book (Outside t k) lines x h e = some-fits sc book (outside_step t k lines) x (λ y q. outside-step-fits sc book t k lines y h q) e
step-fits sc book (Undecided t) lines x h e = some-fits sc book (undecided_step sc t lines) x (λ y q. undecided-step-fits sc book t lines y h q) e
step-fits sc book End lines x h e = subst (IsThere sc book) (ok-same (None, lines) x e) tt

next-step-fits : (sc : Scenario) (book : BookView) (steps : ℕ) (lines : RemainingLines) (x : Option TranscriptStep × RemainingLines) → next_step sc book steps lines ≡ Ok x → IsNextFit sc book x.0
unfolding next_step
next-step-fits sc book steps lines x e =
    let next = after-ok (next_line lines) _ x e in
    let head = after-ok (head_at sc steps next.0.0) _ x next.2 in
    step-fits sc book head.0 next.0.1 x (head-fits sc steps next.0.0 head.0 head.1) head.2

-- ---- the complete text

abbrev AreSteps : Scenario → BookView → List TranscriptStep × RemainingLines → Type 0
AreSteps sc book x = AllByRecursion (IsStepSpelled sc book) x.0

steps-fit : (sc : Scenario) (book : BookView) (most n : ℕ) (lines : RemainingLines) (x : List TranscriptStep × RemainingLines) → steps_at sc book most n lines ≡ Ok x → AreSteps sc book x
unfolding steps_at
steps-fit sc book zero n lines x e = absurd (err-ok Truncated x e)
steps-fit sc book (suc most) n lines x e =
    let next = after-ok (next_step sc book n lines) (λ next. step_or next.0 next.1 (λ rest. steps_at sc book most (n + 1) rest)) x e in
    go next.0.0 next.0.1 (next-step-fits sc book n lines next.0 next.1) (λ rest y q. steps-fit sc book most (n + 1) rest y q) next.2
  where
    go : (o : Option TranscriptStep) (rest : RemainingLines) → IsNextFit sc book o → ((rest : RemainingLines) (y : List TranscriptStep × RemainingLines) → steps_at sc book most (n + 1) rest ≡ Ok y → AreSteps sc book y)
        → step_or o rest (λ rest. steps_at sc book most (n + 1) rest) ≡ Ok x → AreSteps sc book x
    go None rest fits rec h = subst (AreSteps sc book) (ok-same ([], rest) x h) tt
    go (Some s) rest fits rec h =
        let more = after-ok (steps_at sc book most (n + 1) rest) (λ more. Ok (s ∷ more.0, more.1)) x h in
        subst (AreSteps sc book) (ok-same (s ∷ more.0.0, more.0.1) x more.2) (fits, rec rest more.0 more.1)

abbrev IsStarted : Scenario → Shown × RemainingLines → Type 0
IsStarted sc x = IsStartSpelled sc x.0

start-fits : (sc : Scenario) (lines : RemainingLines) (x : Shown × RemainingLines) → start_at sc lines ≡ Ok x → IsStarted sc x
unfolding start_at empty_start fit_start
start-fits sc lines x e =
    let next = after-ok (next_line lines) _ x e in
    let rest = after-ok (word_at (codes "start") next.0.0) _ x next.2 in
    let kind = after-ok (next_field rest.0) _ x rest.2 in
    go (bytes_eq kind.0.0 (codes "empty")) (bytes_eq kind.0.0 (codes "fit")) kind.0.1 next.0.1 kind.2
  where
    go : (a b : Bool) (line : RemainingFields) (left : RemainingLines) → (if a then empty_start line left else (if b then fit_start sc line left else Err (BadLine lines.number))) ≡ Ok x → IsStarted sc x
    go true b line left h =
        let u = after-ok (line_end line) (λ u. Ok (Empty, left)) x h in
        subst (IsStarted sc) (ok-same (Empty, left) x u.2) tt
    go false true line left h =
        let k = after-ok (count_at line) _ x h in
        let u = after-ok (line_end k.0.1) _ x k.2 in
        let entries = after-ok (entries_at sc None k.0.0 left) _ x u.2 in
        let fits = entries-fit sc None k.0.0 left entries.0 entries.1 in
        subst (IsStarted sc) (ok-same (Fits entries.0.0, entries.0.1) x entries.2) (within (length entries.0.0) k.0.0 fits.0 (number-fits most_counted line k.0 k.1), fits.1)
    go false false line left h = absurd (err-ok (BadLine lines.number) x h)

-- What can be written of a transcript, apart from the number of its steps.
abbrev pub IsReadable : Scenario → BookView → Transcript → Type 0
IsReadable sc book t = IsStartSpelled sc t.start × AllByRecursion (IsStepSpelled sc book) t.steps

pub read-fits : (sc : Scenario) (book : BookView) (text : List ℕ) (t : Transcript) → transcript_of sc book text ≡ Ok t → IsReadable sc book t
unfolding transcript_of
read-fits sc book text t e =
    let version = after-ok (version_at (ended_lines text)) _ t e in
    let start = after-ok (start_at sc version.0.1) _ t version.2 in
    let steps = after-ok (steps_at sc book (length start.0.1.left) 0 start.0.1) _ t start.2 in
    let u = after-ok (text_end (is_whole text) steps.0.1) _ t steps.2 in
    subst (IsReadable sc book) (ok-same (record { order = version.0.0; start = start.0.0; steps = steps.0.0 }) t u.2)
    (start-fits sc version.0.1 start.0 start.1, steps-fit sc book (length start.0.1.left) 0 start.0.1 steps.0 steps.1)
