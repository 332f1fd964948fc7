-- A text that was read equals the text that is written of the result.
use Rattle.std.proofs.Common.{◌≡◌, ◌≤◌, ◌+◌, ◌∙◌, ◌∷◌, ◌++◌, ◌&&◌, [], ℕ, zero, suc, List, Bool, true, false, if◌then◌else◌, Option, Some, None, Result, Ok, Err, refl, sym, ap, subst, arith, length, map, decimal, append_assoc, append-nil}
use Rattle.std.specs.Prelude.{codes}
use Rattle.std.specs.List.{flat_map}
use Rattle.std.specs.Str.{bytes_eq}
use Rattle.std.proofs.lemmas.Bool.{and_parts}
use Rattle.pack_defs.specs.Book.{BookView}
use Rattle.pack_defs.specs.Lists.{is_empty}
use Rattle.pack_defs.specs.declared.order.Order.{Order}
use Rattle.pack_defs.specs.declared.order.Order.TheVariants.{ByFacility, ByVolume}
use Rattle.pack_defs.specs.declared.scenario.Scenario.{Scenario}
use Rattle.cert_types.specs.declared.answer.Refutation.TheVariants.{Proof as LogProof, Dead as DeadPair}
use Rattle.auction_core.specs.declared.record.Shown.{Shown}
use Rattle.auction_core.specs.declared.record.Shown.TheVariants.{Empty, Fits, Same as SameSet, NoChannel as WithoutChannel, Refuted, Outside as ByOutside, Undecided as LeftOpen}
use Rattle.lrat_text.specs.Lines.{is_whole, with_spaces, line_of, ended_lines}
use Rattle.lrat_text.specs.Write.{greatest, log_text}
use Rattle.lrat_text.proofs.OneSpelling.{ended, whole-text}
use Rattle.transcript_text.specs.declared.error.TextErr.{TextErr}
use Rattle.transcript_text.specs.declared.error.TextErr.TheVariants.{BadLine, Truncated, Version}
use Rattle.transcript_text.specs.declared.head.StepTest.{StepTest}
use Rattle.transcript_text.specs.declared.head.Head.{Head}
use Rattle.transcript_text.specs.declared.head.Head.TheVariants.{Fit, Same, NoChannel, Log as LogHead, Dead, Outside, Undecided, End}
use Rattle.auction_core.specs.declared.transcript.Transcript.{Transcript}
use Rattle.auction_core.specs.declared.transcript.TranscriptStep.{TranscriptStep}
use Rattle.transcript_text.specs.Spelling.{at_lines, end_text, head_line, outside_text, receipts_text, refuted_text, shown_text, spelling, start_text, step_text, version_text}
use Rattle.auction_core.specs.LogNumbers.{clauses_in}
use Rattle.transcript_text.specs.Fields.{RemainingFields, RemainingLines, count_at, line_end, most_counted, next_field, next_line, word_at}
use Rattle.transcript_text.specs.LogLines.{entries_at, log_at, stations_at}
use Rattle.transcript_text.specs.Reading.{as_some, empty_start, fit_start, fit_step, head_at, log_step, next_step, numbered_log, order_of, outside_step, receipts_at, start_at, start_of_word, step_at, step_of, step_or, steps_at, text_end, transcript_of, undecided_step, version_at, version_or}
use Rattle.transcript_text.proofs.FieldReadLemmas.{end-said, err-ok, field-said, if-ok, left_text, next-said, number-said, ok-same, same-bytes-said, word-said}
use Rattle.transcript_text.proofs.LineReadLemmas.{entries-said, line-then, log-said, stations-said}
use Rattle.transcript_text.proofs.StepReadLemmas.{head-said, head_fields, numbered-said, receipts-said}
use Rattle.transcript_text.proofs.Rising.{after-ok}

-- ---- a step

-- The text of a step, or of the last line after this many steps.
abbrev pub next_text : BookView → ℕ → Option TranscriptStep → List ℕ
next_text book steps None = end_text steps
next_text book steps (Some x) = step_text book x

-- Whether the text of a head and of the lines after it is the text of what was read.
abbrev IsNextSaid : Scenario → BookView → ℕ → Head → RemainingLines → Option TranscriptStep × RemainingLines → Type 0
IsNextSaid sc book steps head lines x = line_of (head_fields sc steps head) ++ left_text lines ≡ next_text book steps x.0 ++ left_text x.1

-- The same for a step that was read, as an option.
some-said : (sc : Scenario) (book : BookView) (steps : ℕ) (head : Head) (lines : RemainingLines) (read : Result (TranscriptStep × RemainingLines) TextErr) (x : Option TranscriptStep × RemainingLines)
    → ((y : TranscriptStep × RemainingLines) → read ≡ Ok y → IsNextSaid sc book steps head lines (Some y.0, y.1)) → as_some read ≡ Ok x → IsNextSaid sc book steps head lines x
some-said sc book steps head lines read x f e =
    let y = after-ok read (λ z. Ok (Some z.0, z.1)) x e in
    subst (IsNextSaid sc book steps head lines) (ok-same (Some y.0.0, y.0.1) x y.2) (f y.0 y.1)

fit-step-said : (sc : Scenario) (book : BookView) (steps : ℕ) (t : StepTest) (k : ℕ) (lines : RemainingLines) (y : TranscriptStep × RemainingLines) → fit_step sc t k lines ≡ Ok y → IsNextSaid sc book steps (Fit t k) lines (Some y.0, y.1)
unfolding fit_step shown_text
fit-step-said sc book steps t k lines y e =
    let entries = after-ok (entries_at sc None k lines) _ y e in
    let said = entries-said sc None k lines entries.0 entries.1 in
    subst (λ (z : TranscriptStep × RemainingLines). IsNextSaid sc book steps (Fit t k) lines (Some z.0, z.1)) (ok-same (step_of t (Fits entries.0.0) [], entries.0.1) y entries.2)
    (ap (λ (s : List ℕ). line_of (head_fields sc steps (Fit t k)) ++ s) said.said
    ∙ sym (append_assoc (line_of (head_fields sc steps (Fit t k))) (at_lines entries.0.0) (left_text entries.0.1))
    ∙ ap (λ (n : ℕ). (head_line (codes "fit") t.round t.station (decimal n ∷ []) ++ at_lines entries.0.0) ++ left_text entries.0.1) (sym said.count))

log-step-said : (sc : Scenario) (book : BookView) (steps : ℕ) (t : StepTest) (w k : ℕ) (lines : RemainingLines) (y : TranscriptStep × RemainingLines) → log_step sc book t w k lines ≡ Ok y → IsNextSaid sc book steps (LogHead t w k) lines (Some y.0, y.1)
unfolding log_step shown_text refuted_text
log-step-said sc book steps t w k lines y e =
    let next = after-ok (next_line lines) _ y e in
    let rest = after-ok (word_at (codes "on") next.0.0) _ y next.2 in
    let subset = after-ok (stations_at sc rest.0.number None rest.0.fields) _ y rest.2 in
    let first : ℕ = clauses_in book subset.0 + 1 in
    let log = after-ok (log_at first k next.0.1) _ y subset.2 in
    let said = log-said first k next.0.1 log.0 log.1 in
    let on : List (List ℕ) = codes "on" ∷ map decimal subset.0 in
    let fields : next.0.0.fields ≡ on = word-said (codes "on") next.0.0 rest.0 rest.1 ∙ ap (λ (f : List (List ℕ)). codes "on" ∷ f) (stations-said sc rest.0.number None rest.0.fields subset.0 subset.1) in
    let body : left_text lines ≡ (line_of on ++ log_text first log.0.0) ++ left_text log.0.1 = line-then lines next.0 on (log_text first log.0.0) log.0.1 next.1 fields said.said in
    subst (λ (z : TranscriptStep × RemainingLines). IsNextSaid sc book steps (LogHead t w k) lines (Some z.0, z.1)) (ok-same (step_of t (Refuted w (LogProof subset.0 (record { lines = log.0.0 }))) [], log.0.1) y log.2)
    (ap (λ (s : List ℕ). line_of (head_fields sc steps (LogHead t w k)) ++ s) body
    ∙ sym (append_assoc (line_of (head_fields sc steps (LogHead t w k))) (line_of on ++ log_text first log.0.0) (left_text log.0.1))
    ∙ ap (λ (n : ℕ). (head_line (codes "log") t.round t.station (decimal w ∷ decimal n ∷ []) ++ (line_of on ++ log_text first log.0.0)) ++ left_text log.0.1) (sym said.count))

outside-step-said : (sc : Scenario) (book : BookView) (steps : ℕ) (t : StepTest) (k : ℕ) (lines : RemainingLines) (y : TranscriptStep × RemainingLines) → outside_step t k lines ≡ Ok y → IsNextSaid sc book steps (Outside t k) lines (Some y.0, y.1)
unfolding outside_step shown_text outside_text
outside-step-said sc book steps t k lines y e =
    let found = after-ok (numbered_log k lines) _ y e in
    let said = numbered-said k lines found.0 found.1 in
    let text : List ℕ = log_text found.0.0.first found.0.0.log.lines in
    subst (λ (z : TranscriptStep × RemainingLines). IsNextSaid sc book steps (Outside t k) lines (Some z.0, z.1)) (ok-same (step_of t (ByOutside (record { log = found.0.0.log })) (found.0.0.first ∷ []), found.0.1) y found.2)
    (ap (λ (s : List ℕ). line_of (head_fields sc steps (Outside t k)) ++ s) said.said
    ∙ sym (append_assoc (line_of (head_fields sc steps (Outside t k))) text (left_text found.0.1))
    ∙ ap (λ (n : ℕ). (head_line (codes "outside") t.round t.station (decimal n ∷ []) ++ text) ++ left_text found.0.1) (sym said.count))

undecided-step-said : (sc : Scenario) (book : BookView) (steps : ℕ) (t : StepTest) (lines : RemainingLines) (y : TranscriptStep × RemainingLines) → length sc.workers ≤ greatest → undecided_step sc t lines ≡ Ok y → IsNextSaid sc book steps (Undecided t) lines (Some y.0, y.1)
unfolding undecided_step shown_text
undecided-step-said sc book steps t lines y le e =
    let found = after-ok (receipts_at sc 0 (length sc.workers) lines) _ y e in
    let said = receipts-said sc 0 (length sc.workers) lines found.0 (omega (arith, le)) found.1 in
    let text : List ℕ = receipts_text 0 found.0.0.0 found.0.0.1 in
    subst (λ (z : TranscriptStep × RemainingLines). IsNextSaid sc book steps (Undecided t) lines (Some z.0, z.1)) (ok-same (step_of t (LeftOpen found.0.0.0) found.0.0.1, found.0.1) y found.2)
    (ap (λ (s : List ℕ). line_of (head_fields sc steps (Undecided t)) ++ s) said.said
    ∙ sym (append_assoc (line_of (head_fields sc steps (Undecided t))) text (left_text found.0.1))
    ∙ ap (λ (n : ℕ). (head_line (codes "undecided") t.round t.station (decimal n ∷ []) ++ text) ++ left_text found.0.1) (sym said.count))

step-said : (sc : Scenario) (book : BookView) (steps : ℕ) (head : Head) (lines : RemainingLines) (x : Option TranscriptStep × RemainingLines) → length sc.workers ≤ greatest → step_at sc book head lines ≡ Ok x → IsNextSaid sc book steps head lines x
unfolding step_at shown_text refuted_text end_text
step-said sc book steps (Fit t k) lines x le e = some-said sc book steps (Fit t k) lines (fit_step sc t k lines) x (fit-step-said sc book steps t k lines) e
step-said sc book steps (Same t) lines x le e = subst (IsNextSaid sc book steps (Same t) lines) (ok-same (Some (step_of t SameSet []), lines) x e) refl
step-said sc book steps (NoChannel t) lines x le e = subst (IsNextSaid sc book steps (NoChannel t) lines) (ok-same (Some (step_of t (WithoutChannel t.station) []), lines) x e) refl
step-said sc book steps (LogHead t w k) lines x le e = some-said sc book steps (LogHead t w k) lines (log_step sc book t w k lines) x (log-step-said sc book steps t w k lines) e
step-said sc book steps (Dead t w p) lines x le e = subst (IsNextSaid sc book steps (Dead t w p) lines) (ok-same (Some (step_of t (Refuted w (DeadPair p)) []), lines) x e) refl
step-said sc book steps (Outside t k) lines x le e = some-said sc book steps (Outside t k) lines (outside_step t k lines) x (outside-step-said sc book steps t k lines) e
step-said sc book steps (Undecided t) lines x le e = some-said sc book steps (Undecided t) lines (undecided_step sc t lines) x (λ y q. undecided-step-said sc book steps t lines y le q) e
step-said sc book steps End lines x le e = subst (IsNextSaid sc book steps End lines) (ok-same (None, lines) x e) refl

pub next-step-said : (sc : Scenario) (book : BookView) (steps : ℕ) (lines : RemainingLines) (x : Option TranscriptStep × RemainingLines) → length sc.workers ≤ greatest → next_step sc book steps lines ≡ Ok x → left_text lines ≡ next_text book steps x.0 ++ left_text x.1
unfolding next_step
next-step-said sc book steps lines x le e =
    let next = after-ok (next_line lines) _ x e in
    let head = after-ok (head_at sc steps next.0.0) _ x next.2 in
    next-said lines next.0 next.1
    ∙ ap (λ (f : List (List ℕ)). line_of f ++ left_text next.0.1) (head-said sc steps next.0.0 head.0 le head.1)
    ∙ step-said sc book steps head.0 next.0.1 x le head.2

-- ---- all steps

abbrev AreStepsSaid : BookView → ℕ → RemainingLines → List TranscriptStep × RemainingLines → Type 0
AreStepsSaid book steps lines x = left_text lines ≡ (flat_map (step_text book) x.0 ++ end_text (steps + length x.0)) ++ left_text x.1

steps-said : (sc : Scenario) (book : BookView) (most steps : ℕ) (lines : RemainingLines) (x : List TranscriptStep × RemainingLines) → length sc.workers ≤ greatest → steps_at sc book most steps lines ≡ Ok x → AreStepsSaid book steps lines x
unfolding steps_at
steps-said sc book zero steps lines x le e = absurd (err-ok Truncated x e)
steps-said sc book (suc most) steps lines x le e =
    let next = after-ok (next_step sc book steps lines) _ x e in
    go next.0.0 next.0.1 (next-step-said sc book steps lines next.0 le next.1) (λ rest y q. steps-said sc book most (steps + 1) rest y le q) next.2
  where
    go : (o : Option TranscriptStep) (rest : RemainingLines) → left_text lines ≡ next_text book steps o ++ left_text rest
        → ((rest : RemainingLines) (y : List TranscriptStep × RemainingLines) → steps_at sc book most (steps + 1) rest ≡ Ok y → AreStepsSaid book (steps + 1) rest y)
        → step_or o rest (λ rest. steps_at sc book most (steps + 1) rest) ≡ Ok x → AreStepsSaid book steps lines x
    go None rest said rec h =
        let zero-more : steps ≡ steps + 0 = omega arith in
        subst (AreStepsSaid book steps lines) (ok-same ([], rest) x h) (said ∙ ap (λ (n : ℕ). end_text n ++ left_text rest) zero-more)
    go (Some s) rest said rec h =
        let more = after-ok (steps_at sc book most (steps + 1) rest) (λ more. Ok (s ∷ more.0, more.1)) x h in
        let one-more : steps + 1 + length more.0.0 ≡ steps + suc (length more.0.0) = omega arith in
        let tail : List ℕ = flat_map (step_text book) more.0.0 ++ end_text (steps + 1 + length more.0.0) in
        subst (AreStepsSaid book steps lines) (ok-same (s ∷ more.0.0, more.0.1) x more.2)
        (said ∙ ap (λ (t : List ℕ). step_text book s ++ t) (rec rest more.0 more.1)
        ∙ sym (append_assoc (step_text book s) tail (left_text more.0.1))
        ∙ ap (λ (t : List ℕ). t ++ left_text more.0.1) (sym (append_assoc (step_text book s) (flat_map (step_text book) more.0.0) (end_text (steps + 1 + length more.0.0))))
        ∙ ap (λ (n : ℕ). ((step_text book s ++ flat_map (step_text book) more.0.0) ++ end_text n) ++ left_text more.0.1) one-more)

-- ---- the start

abbrev pub IsStartSaid : RemainingLines → Shown × RemainingLines → Type 0
IsStartSaid lines x = left_text lines ≡ start_text x.0 ++ left_text x.1

-- Whether what follows the word and the kind of a start is the text of what was read.
abbrev IsStartBody : List ℕ → RemainingFields → RemainingLines → Shown × RemainingLines → Type 0
IsStartBody kind line lines x = line_of (codes "start" ∷ kind ∷ line.fields) ++ left_text lines ≡ start_text x.0 ++ left_text x.1

empty-start-said : (line : RemainingFields) (lines : RemainingLines) (x : Shown × RemainingLines) → empty_start line lines ≡ Ok x → IsStartBody (codes "empty") line lines x
unfolding empty_start start_text
empty-start-said line lines x e =
    let u = after-ok (line_end line) _ x e in
    subst (IsStartBody (codes "empty") line lines) (ok-same (Empty, lines) x u.2)
    (ap (λ (f : List (List ℕ)). line_of (codes "start" ∷ codes "empty" ∷ f) ++ left_text lines) (end-said line u.0 u.1))

fit-start-said : (sc : Scenario) (line : RemainingFields) (lines : RemainingLines) (x : Shown × RemainingLines) → fit_start sc line lines ≡ Ok x → IsStartBody (codes "fit") line lines x
unfolding fit_start start_text
fit-start-said sc line lines x e =
    let k = after-ok (count_at line) _ x e in
    let u = after-ok (line_end k.0.1) _ x k.2 in
    let entries = after-ok (entries_at sc None k.0.0 lines) _ x u.2 in
    let said = entries-said sc None k.0.0 lines entries.0 entries.1 in
    let start : ℕ → List ℕ = λ n. line_of (codes "start" ∷ codes "fit" ∷ decimal n ∷ []) in
    subst (IsStartBody (codes "fit") line lines) (ok-same (Fits entries.0.0, entries.0.1) x entries.2)
    (ap (λ (f : List (List ℕ)). line_of (codes "start" ∷ codes "fit" ∷ f) ++ left_text lines) (number-said most_counted line k.0 (omega arith) k.1 ∙ ap (λ (f : List (List ℕ)). decimal k.0.0 ∷ f) (end-said k.0.1 u.0 u.1))
    ∙ ap (λ (t : List ℕ). start k.0.0 ++ t) said.said
    ∙ sym (append_assoc (start k.0.0) (at_lines entries.0.0) (left_text entries.0.1))
    ∙ ap (λ (n : ℕ). (start n ++ at_lines entries.0.0) ++ left_text entries.0.1) (sym said.count))

start-by-said : (sc : Scenario) (n : ℕ) (kind : List ℕ) (line : RemainingFields) (lines : RemainingLines) (x : Shown × RemainingLines) → start_of_word sc n kind line lines ≡ Ok x → IsStartBody kind line lines x
start-by-said sc n kind line lines x e = go (bytes_eq kind (codes "empty")) (bytes_eq kind (codes "fit")) refl refl e
  where
    go : (a b : Bool) → bytes_eq kind (codes "empty") ≡ a → bytes_eq kind (codes "fit") ≡ b → (if a then empty_start line lines else (if b then fit_start sc line lines else Err (BadLine n))) ≡ Ok x → IsStartBody kind line lines x
    go true b p q h = subst (λ (w : List ℕ). IsStartBody w line lines x) (sym (same-bytes-said kind (codes "empty") p)) (empty-start-said line lines x h)
    go false true p q h = subst (λ (w : List ℕ). IsStartBody w line lines x) (sym (same-bytes-said kind (codes "fit") q)) (fit-start-said sc line lines x h)
    go false false p q h = absurd (err-ok (BadLine n) x h)

pub start-said : (sc : Scenario) (lines : RemainingLines) (x : Shown × RemainingLines) → start_at sc lines ≡ Ok x → IsStartSaid lines x
unfolding start_at
start-said sc lines x e =
    let next = after-ok (next_line lines) _ x e in
    let rest = after-ok (word_at (codes "start") next.0.0) _ x next.2 in
    let kind = after-ok (next_field rest.0) _ x rest.2 in
    let fields : next.0.0.fields ≡ codes "start" ∷ kind.0.0 ∷ kind.0.1.fields = word-said (codes "start") next.0.0 rest.0 rest.1 ∙ ap (λ (f : List (List ℕ)). codes "start" ∷ f) (field-said rest.0 kind.0 kind.1) in
    next-said lines next.0 next.1
    ∙ ap (λ (f : List (List ℕ)). line_of f ++ left_text next.0.1) fields
    ∙ start-by-said sc lines.number kind.0.0 kind.0.1 next.0.1 x kind.2

-- ---- the complete text

order-said : (line : List ℕ) (order : Order) → order_of line ≡ Some order → line ++ 10 ∷ [] ≡ version_text order
unfolding order_of version_text with_spaces
order-said line order e = go (bytes_eq line (codes "transcript 1")) (bytes_eq line (codes "transcript 2")) refl refl e
  where
    named : {one other : Order} → Some one ≡ Some other → one ≡ other
    named {one} {other} h = cc

    nothing : {A : Type 0} → None ≡ Some order → A
    nothing {A} h = absurd cc

    go : (a b : Bool) → bytes_eq line (codes "transcript 1") ≡ a → bytes_eq line (codes "transcript 2") ≡ b → (if a then Some ByFacility else (if b then Some ByVolume else None)) ≡ Some order → line ++ 10 ∷ [] ≡ version_text order
    go true b p q h = ap (λ (l : List ℕ). l ++ 10 ∷ []) (same-bytes-said line (codes "transcript 1") p) ∙ ap version_text (named h)
    go false true p q h = ap (λ (l : List ℕ). l ++ 10 ∷ []) (same-bytes-said line (codes "transcript 2") q) ∙ ap version_text (named h)
    go false false p q h = nothing h

pub version-said : (lines : List (List ℕ)) (x : Order × RemainingLines) → version_at lines ≡ Ok x → ended lines ≡ version_text x.0 ++ left_text x.1
version-said [] x e = absurd (err-ok Truncated x e)
version-said (line ∷ lines) x e = go (order_of line) refl e
  where
    go : (o : Option Order) → order_of line ≡ o → version_or o lines ≡ Ok x → ended (line ∷ lines) ≡ version_text x.0 ++ left_text x.1
    go None p h = absurd (err-ok Version x h)
    go (Some order) p h =
        let same = ok-same (order, record { number = 2; left = lines }) x h in
        ap (λ (t : List ℕ). t ++ ended lines) (order-said line order p) ∙ ap (λ (y : Order × RemainingLines). version_text y.0 ++ left_text y.1) same

empty-left : (lines : List (List ℕ)) → is_empty lines ≡ true → ended lines ≡ []
empty-left [] e = refl
empty-left (line ∷ lines) e = absurd cc

-- Exactly one text spells this transcript.
pub transcript-said : (sc : Scenario) (book : BookView) (text : List ℕ) (t : Transcript) → length sc.workers ≤ greatest → transcript_of sc book text ≡ Ok t → text ≡ spelling book t
unfolding transcript_of spelling
transcript-said sc book text t le e =
    let version = after-ok (version_at (ended_lines text)) _ t e in
    let start = after-ok (start_at sc version.0.1) _ t version.2 in
    let steps = after-ok (steps_at sc book (length start.0.1.left) 0 start.0.1) _ t start.2 in
    let u = after-ok (text_end (is_whole text) steps.0.1) _ t steps.2 in
    let last = if-ok (is_empty steps.0.1.left && is_whole text) tt u.0 (BadLine steps.0.1.number) u.1 in
    let parts = and_parts (is_empty steps.0.1.left) (is_whole text) last.0 in
    let same = ok-same (record { order = version.0.0; start = start.0.0; steps = steps.0.0 }) t u.2 in
    let none : left_text steps.0.1 ≡ [] = empty-left steps.0.1.left parts.0 in
    let all : List ℕ = flat_map (step_text book) steps.0.0 ++ end_text (length steps.0.0) in
    let count : 0 + length steps.0.0 ≡ length steps.0.0 = omega arith in
    let said : left_text start.0.1 ≡ all =
    steps-said sc book (length start.0.1.left) 0 start.0.1 steps.0 le steps.1
    ∙ ap (λ (n : ℕ). (flat_map (step_text book) steps.0.0 ++ end_text n) ++ left_text steps.0.1) count
    ∙ ap (λ (r : List ℕ). all ++ r) none ∙ append-nil all in
    sym (whole-text text parts.1)
    ∙ version-said (ended_lines text) version.0 version.1
    ∙ ap (λ (r : List ℕ). version_text version.0.0 ++ r) (start-said sc version.0.1 start.0 start.1 ∙ ap (λ (r : List ℕ). start_text start.0.0 ++ r) said)
    ∙ ap (spelling book) same
