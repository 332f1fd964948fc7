-- Every step that is complete in a text is kept of it.
use Rattle.std.proofs.Common.{◌≡◌, ◌<◌, ◌≤◌, ◌+◌, ◌-◌, ◌^◌, ◌∙◌, ℕ, zero, suc, false, List, [], ◌∷◌, ◌++◌, Result, Ok, Err, refl, sym, ap, subst, length, take, drop, arith, append_assoc, append-nil}
use Rattle.std.specs.Prelude.{MatchResult}
use Rattle.std.specs.List.{flat_map, AllByRecursion}
use Rattle.std.proofs.lemmas.Grind.{flat_map-append}
use Rattle.std.proofs.lemmas.List.{length-take, take-append-drop}
use Rattle.std.proofs.Math.Seq.{take-append-add}
use Rattle.pack_defs.specs.declared.scenario.Scenario.{Scenario}
use Rattle.pack_defs.specs.Book.{BookView}
use Rattle.auction_core.specs.NotShown.{first_steps}
use Rattle.auction_core.specs.declared.prefix.Prefix.{Prefix}
use Rattle.auction_core.specs.declared.transcript.Transcript.{Transcript}
use Rattle.auction_core.specs.declared.transcript.TranscriptStep.{TranscriptStep}
use Rattle.lrat_text.specs.Lines.{ended_lines}
use Rattle.transcript_text.specs.declared.error.TextErr.{TextErr}
use Rattle.pack_defs.specs.Steps.{◌>>=◌}
use Rattle.transcript_text.specs.PrefixReading.{IsPrefixOf, KeepsAllOf, StepsOfPrefix, goes_on_there, prefix_of, prefix_start, prefix_steps, transcript_prefix}
use Rattle.transcript_text.specs.PrefixSpelling.{prefix_spelling}
use Rattle.transcript_text.specs.Reading.{transcript_of}
use Rattle.transcript_text.specs.Spelled.{IsSpelled, IsStepSpelled}
use Rattle.transcript_text.specs.Spelling.{end_text, spelling, start_text, step_text, version_text}
use Rattle.transcript_text.proofs.FieldReads.{lines_at}
use Rattle.transcript_text.proofs.PrefixLaws.{prefix-first}
use Rattle.transcript_text.proofs.ReadSpelled.{IsReadable, read-fits}
use Rattle.transcript_text.proofs.TextReads.{shown-read, start-read, test_in, version-again}
use Rattle.transcript_text.proofs.TextReadLemmas.{transcript-said}

-- ---- the steps

-- Whether the steps that are kept begin with these, unless a line is invalid.
abbrev AreThere : List TranscriptStep → Result StepsOfPrefix TextErr → Type 0
AreThere xs r = MatchResult r (λ kept. take (length xs) kept.steps ≡ xs) (λ why. Unit {0})

none-there : (r : Result StepsOfPrefix TextErr) → AreThere [] r
none-there (Ok kept) = refl
none-there (Err e) = tt

one-there : (x : TranscriptStep) (xs : List TranscriptStep) (r : Result StepsOfPrefix TextErr) → AreThere xs r → AreThere (x ∷ xs) (r >>= λ more. Ok (record { steps = x ∷ more.steps; ended = more.ended }))
one-there x xs (Ok kept) h = ap (λ (ys : List TranscriptStep). x ∷ ys) h
one-there x xs (Err e) h = tt

abbrev texts : BookView → List TranscriptStep → List ℕ → List ℕ
texts book xs after = flat_map (step_text book) xs ++ after

steps-there : (sc : Scenario) (book : BookView) (most k n : ℕ) (xs : List TranscriptStep) (after : List ℕ) → length sc.workers < 2 ^ 32 → AllByRecursion (IsStepSpelled sc book) xs → length (ended_lines (texts book xs after)) ≤ most
    → AreThere xs (prefix_steps sc book most k (lines_at n (texts book xs after)))
unfolding prefix_steps
steps-there sc book most k n [] after workers h le = none-there (prefix_steps sc book most k (lines_at n (texts book [] after)))
steps-there sc book zero k n (x ∷ xs) after workers h le =
    let same = append_assoc (step_text book x) (flat_map (step_text book) xs) after in
    let this = shown-read sc book k n (test_in x) x.step.shown x.firsts (texts book xs after) workers h.0.round h.0.station h.0.shown in
    let le' : length (ended_lines (step_text book x ++ texts book xs after)) ≤ 0 = subst (λ (text : List ℕ). length (ended_lines text) ≤ 0) same le in
    absurd (omega (arith, this.less, le'))
steps-there sc book (suc most) k n (x ∷ xs) after workers h le =
    let same = append_assoc (step_text book x) (flat_map (step_text book) xs) after in
    let this = shown-read sc book k n (test_in x) x.step.shown x.firsts (texts book xs after) workers h.0.round h.0.station h.0.shown in
    let le' : length (ended_lines (step_text book x ++ texts book xs after)) ≤ suc most = subst (λ (text : List ℕ). length (ended_lines text) ≤ suc most) same le in
    let more = steps-there sc book most (k + 1) this.number xs after workers h.1 (omega (arith, this.less, le')) in
    subst (λ (text : List ℕ). AreThere (x ∷ xs) (prefix_steps sc book (suc most) k (lines_at n text))) (sym same)
    (rw this.read (one-there x xs (prefix_steps sc book most (k + 1) (lines_at this.number (texts book xs after))) more))

-- ---- the complete text

abbrev Keeps : Transcript → Result Prefix TextErr → Type 0
Keeps t r = MatchResult r (KeepsAllOf t) (λ why. Unit {0})

with-steps : (t : Transcript) (r : Result StepsOfPrefix TextErr) → AreThere t.steps r → Keeps t (r >>= λ more. Ok (transcript_prefix (record { order = t.order; start = t.start; steps = more.steps }) more.ended))
with-steps t (Ok kept) h = record { order = refl; start = refl; steps = h }
with-steps t (Err e) h = tt

regrouped : (book : BookView) (t : Transcript) (after : List ℕ) → prefix_spelling book (transcript_prefix t false) ++ after ≡ version_text t.order ++ (start_text t.start ++ texts book t.steps after)
unfolding prefix_spelling
regrouped book t after =
    let first = version_text t.order in
    let second = start_text t.start in
    let third = flat_map (step_text book) t.steps in
    append_assoc first (second ++ (third ++ [])) after
    ∙ ap (λ (text : List ℕ). first ++ text) (append_assoc second (third ++ []) after ∙ ap (λ (text : List ℕ). second ++ (text ++ after)) (append-nil third))

kept-there : (sc : Scenario) (book : BookView) (t : Transcript) (after : List ℕ) → length sc.workers < 2 ^ 32 → IsReadable sc book t → MatchResult (prefix_of sc book (prefix_spelling book (transcript_prefix t false) ++ after)) (KeepsAllOf t) (λ why. Unit {0})
unfolding prefix_of prefix_start goes_on_there
kept-there sc book t after workers h =
    let behind = texts book t.steps after in
    let start = start-read sc 2 t.start behind h.0 in
    let steps = steps-there sc book (length (ended_lines behind)) 0 start.0 t.steps after workers h.1 (omega arith) in
    subst (λ (text : List ℕ). Keeps t (prefix_of sc book text)) (sym (regrouped book t after))
    (rw (version-again t.order (start_text t.start ++ behind), start.1) (with-steps t (prefix_steps sc book (length (ended_lines behind)) 0 (lines_at start.0 behind)) steps))

pub all-kept : (sc : Scenario) (book : BookView) (t : Transcript) (after : List ℕ) → IsSpelled sc book t → MatchResult (prefix_of sc book (prefix_spelling book (transcript_prefix t false) ++ after)) (KeepsAllOf t) (λ why. Unit {0})
all-kept sc book t after h = kept-there sc book t after h.workers (h.start, h.steps)

-- ---- a cut text

-- The transcript with its first steps alone.
abbrev first : ℕ → Transcript → Transcript
first k t = record { order = t.order; start = t.start; steps = take k t.steps }

some-spelled : (P : TranscriptStep → Type 0) (k : ℕ) (xs : List TranscriptStep) → AllByRecursion P xs → AllByRecursion P (take k xs)
some-spelled P zero xs h = tt
some-spelled P (suc k) [] h = tt
some-spelled P (suc k) (x ∷ xs) h = (h.0, some-spelled P k xs h.1)

first-readable : (sc : Scenario) (book : BookView) (k : ℕ) (t : Transcript) → IsReadable sc book t → IsReadable sc book (first k t)
first-readable sc book k t h = (h.0, some-spelled (IsStepSpelled sc book) k t.steps h.1)

-- The text begins with that of the first steps.
first-there : (book : BookView) (k : ℕ) (t : Transcript) → spelling book t ≡ prefix_spelling book (transcript_prefix (first k t) false) ++ (flat_map (step_text book) (drop k t.steps) ++ end_text (length t.steps))
unfolding spelling
first-there book k t =
    let last = end_text (length t.steps) in
    let text = step_text book in
    let parts : flat_map text t.steps ≡ flat_map text (take k t.steps) ++ flat_map text (drop k t.steps) =
    ap (flat_map text) (sym (take-append-drop k t.steps)) ∙ flat_map-append text (take k t.steps) (drop k t.steps) in
    ap (λ (texts : List ℕ). version_text t.order ++ (start_text t.start ++ (texts ++ last))) parts
    ∙ ap (λ (texts : List ℕ). version_text t.order ++ (start_text t.start ++ texts)) (append_assoc (flat_map text (take k t.steps)) (flat_map text (drop k t.steps)) last)
    ∙ sym (regrouped book (first k t) (flat_map text (drop k t.steps) ++ last))

-- The first bytes of a text, if they are at least its front.
take-front : (front behind : List ℕ) (n : ℕ) → length front ≤ n → take n (front ++ behind) ≡ front ++ take (n - length front) behind
take-front front behind n h =
    let same : length front + (n - length front) ≡ n = omega (arith, h) in
    subst (λ m. take m (front ++ behind) ≡ front ++ take (n - length front) behind) same (take-append-add front behind (n - length front))

enough : (k : ℕ) (steps kept : List TranscriptStep) → k ≤ length steps → take (length (take k steps)) kept ≡ take k steps → k ≤ length kept
enough k steps kept h e =
    let same : length (take (length (take k steps)) kept) ≡ length (take k steps) = ap (λ (xs : List TranscriptStep). length xs) e in
    omega (arith, h, same, length-take (length (take k steps)) kept, length-take k steps)

both : (t : Transcript) (k : ℕ) (r : Result Prefix TextErr) → k ≤ length t.steps → Keeps (first k t) r → MatchResult r (λ kept. IsPrefixOf kept t) (λ why. ⊥) → MatchResult r (λ kept. k ≤ length kept.steps) (λ why. ⊥)
both t k (Ok kept) le h p = enough k t.steps kept.steps le h.steps
both t k (Err e) le h p = p

-- A text that is read, cut after the lines of some steps or later.
pub read-keeps : (sc : Scenario) (book : BookView) (text : List ℕ) (t : Transcript) (k n : ℕ) → length sc.workers < 2 ^ 32 → transcript_of sc book text ≡ Ok t → k ≤ length t.steps → length (prefix_spelling book (first_steps k t)) ≤ n
    → MatchResult (prefix_of sc book (take n text)) (λ kept. k ≤ length kept.steps) (λ why. ⊥)
read-keeps sc book text t k n few e le long =
    let front = prefix_spelling book (first_steps k t) in
    let behind = flat_map (step_text book) (drop k t.steps) ++ end_text (length t.steps) in
    let cut : take n text ≡ front ++ take (n - length front) behind = ap (take n) (transcript-said sc book text t (omega (arith, few)) e ∙ first-there book k t) ∙ take-front front behind n long in
    both t k (prefix_of sc book (take n text)) le
    (subst (λ (bytes : List ℕ). Keeps (first k t) (prefix_of sc book bytes)) (sym cut) (kept-there sc book (first k t) (take (n - length front) behind) few (first-readable sc book k t (read-fits sc book text t e))))
    (prefix-first sc book (take n text) (drop n text) t (ap (transcript_of sc book) (take-append-drop n text) ∙ e))

-- A transcript that was read can be written.
pub read-spelled : (sc : Scenario) (book : BookView) (text : List ℕ) (t : Transcript) → length sc.workers < 2 ^ 32 → length t.steps < 2 ^ 64 → transcript_of sc book text ≡ Ok t → IsSpelled sc book t
read-spelled sc book text t few count e =
    let fits = read-fits sc book text t e in
    record { start = fits.0; steps = fits.1; count = count; workers = few }
