-- What is kept of a beginning is what the text begins with.
use Rattle.std.proofs.Common.{◌≡◌, ◌≤◌, ◌+◌, ◌∙◌, ◌==◌, ℕ, zero, suc, Bool, true, false, List, [], ◌∷◌, ◌++◌, Option, Some, None, Result, Ok, Err, if◌then◌else◌, refl, sym, ap, subst, arith, length, take, append_assoc, eqb-true}
use Rattle.std.specs.List.{flat_map}
use Rattle.std.proofs.lemmas.List.{take_at}
use Rattle.pack_defs.specs.declared.scenario.Scenario.{Scenario}
use Rattle.pack_defs.specs.declared.order.Order.{Order}
use Rattle.pack_defs.specs.Book.{BookView}
use Rattle.auction_core.specs.declared.record.Shown.{Shown}
use Rattle.lrat_text.specs.Lines.{prepend_to_first_line, ended_lines}
use Rattle.lrat_text.specs.Write.{greatest}
use Rattle.lrat_text.proofs.OneSpelling.{ended}
use Rattle.transcript_text.specs.declared.error.TextErr.{TextErr}
use Rattle.transcript_text.specs.declared.error.TextErr.TheVariants.{Version, BadLine, Truncated, NoMemory}
use Rattle.auction_core.specs.declared.prefix.Prefix.{Prefix}
use Rattle.auction_core.specs.declared.transcript.TranscriptStep.{TranscriptStep}
use Rattle.transcript_text.specs.Fields.{RemainingLines}
use Rattle.transcript_text.specs.PrefixReading.{StepsOfPrefix, goes_on_there, if_complete, only_these_steps, empty_prefix, order_prefix, prefix_of, prefix_start, prefix_steps, prefix_step_or, transcript_prefix}
use Rattle.transcript_text.specs.PrefixSpelling.{behind_first, last_text, prefix_spelling}
use Rattle.transcript_text.specs.Reading.{next_step, start_at, text_end, version_at}
use Rattle.transcript_text.specs.Spelling.{end_text, start_text, step_text, version_text}
use Rattle.transcript_text.proofs.FieldReadLemmas.{err-ok, left_text, ok-same}
use Rattle.transcript_text.proofs.Rising.{after-ok}
use Rattle.transcript_text.proofs.TextReadLemmas.{next-step-said, next_text, start-said, version-said}

-- Whether a text begins with `front`.
record Begins (front text : List ℕ) : Type 0 where
  pub behind : List ℕ
  pub is : text ≡ front ++ behind

begins-none : (text : List ℕ) → Begins [] text
begins-none text = record { behind = text; is = refl }

begins-then : (part front left text : List ℕ) → text ≡ part ++ left → Begins front left → Begins (part ++ front) text
begins-then part front left text e h = record { behind = h.behind; is = e ∙ ap (λ (t : List ℕ). part ++ t) h.is ∙ sym (append_assoc part front h.behind) }

begins-of : (front middle text : List ℕ) → Begins front middle → Begins middle text → Begins front text
begins-of front middle text h k = record { behind = h.behind ++ k.behind; is = k.is ∙ ap (λ (t : List ℕ). t ++ k.behind) h.is ∙ append_assoc front h.behind k.behind }

-- ---- a text begins with its complete lines

lines-begin : (text : List ℕ) → Begins (ended (ended_lines text)) text
unfolding ended_lines
lines-begin [] = begins-none []
lines-begin (c ∷ rest) = go (c == 10) refl (lines-begin rest)
  where
    onto : (lines : List (List ℕ)) → Begins (ended lines) rest → Begins (ended (prepend_to_first_line c lines)) (c ∷ rest)
    onto [] h = begins-none (c ∷ rest)
    onto (line ∷ lines) h = record { behind = h.behind; is = ap (λ (t : List ℕ). c ∷ t) h.is }

    go : (b : Bool) → (c == 10) ≡ b → Begins (ended (ended_lines rest)) rest → Begins (ended (if b then [] ∷ ended_lines rest else prepend_to_first_line c (ended_lines rest))) (c ∷ rest)
    go true e h = record { behind = h.behind; is = ap (λ (t : List ℕ). c ∷ t) h.is ∙ ap (λ (d : ℕ). d ∷ (ended (ended_lines rest) ++ h.behind)) (eqb-true c 10 e) }
    go false e h = onto (ended_lines rest) h

-- ---- steps

-- Whether the lines begin with those of the kept steps, after this many steps.
AreKept : BookView → ℕ → RemainingLines → StepsOfPrefix → Type 0
AreKept book n lines x = Begins (flat_map (step_text book) x.steps ++ last_text x.ended (n + length x.steps)) (left_text lines)

none-kept : (book : BookView) (n : ℕ) (lines : RemainingLines) → AreKept book n lines only_these_steps
unfolding AreKept
none-kept book n lines = begins-none (left_text lines)

last-kept : (book : BookView) (n : ℕ) (lines rest : RemainingLines) → left_text lines ≡ end_text n ++ left_text rest → AreKept book n lines (record { steps = []; ended = true })
unfolding AreKept
last-kept book n lines rest e =
    let same : n ≡ n + 0 = omega arith in
    record { behind = left_text rest; is = e ∙ ap (λ (m : ℕ). end_text m ++ left_text rest) same }

one-kept : (book : BookView) (n : ℕ) (lines rest : RemainingLines) (s : TranscriptStep) (x : StepsOfPrefix) → left_text lines ≡ step_text book s ++ left_text rest → AreKept book (n + 1) rest x
    → AreKept book n lines (record { steps = s ∷ x.steps; ended = x.ended })
unfolding AreKept
one-kept book n lines rest s x e h =
    let one-more : n + 1 + length x.steps ≡ n + suc (length x.steps) = omega arith in
    let texts : List ℕ = flat_map (step_text book) x.steps in
    subst (λ (front : List ℕ). Begins front (left_text lines))
    (sym (append_assoc (step_text book s) texts (last_text x.ended (n + 1 + length x.steps))) ∙ ap (λ (m : ℕ). (step_text book s ++ texts) ++ last_text x.ended m) one-more)
    (begins-then (step_text book s) (texts ++ last_text x.ended (n + 1 + length x.steps)) (left_text rest) (left_text lines) e h)

steps-kept : (sc : Scenario) (book : BookView) (most n : ℕ) (lines : RemainingLines) (x : StepsOfPrefix) → length sc.workers ≤ greatest → prefix_steps sc book most n lines ≡ Ok x → AreKept book n lines x
unfolding prefix_steps
steps-kept sc book zero n lines x le e = subst (AreKept book n lines) (ok-same only_these_steps x e) (none-kept book n lines)
steps-kept sc book (suc most) n lines x le e =
    go (next_step sc book n lines) (λ o. next-step-said sc book n lines o le) (λ rest y q. steps-kept sc book most (n + 1) rest y le q) e
  where
    go : (r : Result (Option TranscriptStep × RemainingLines) TextErr)
        → ((o : Option TranscriptStep × RemainingLines) → r ≡ Ok o → left_text lines ≡ next_text book n o.0 ++ left_text o.1)
        → ((rest : RemainingLines) (y : StepsOfPrefix) → prefix_steps sc book most (n + 1) rest ≡ Ok y → AreKept book (n + 1) rest y)
        → if_complete only_these_steps r (λ next. prefix_step_or next.0 next.1 (λ rest. prefix_steps sc book most (n + 1) rest)) ≡ Ok x → AreKept book n lines x
    go (Ok (Some s, rest)) said rec h =
        let more = after-ok (prefix_steps sc book most (n + 1) rest) (λ more. Ok (record { steps = s ∷ more.steps; ended = more.ended })) x h in
        subst (AreKept book n lines) (ok-same (record { steps = s ∷ more.0.steps; ended = more.0.ended }) x more.2)
        (one-kept book n lines rest s more.0 (said (Some s, rest) refl) (rec rest more.0 more.1))
    go (Ok (None, rest)) said rec h =
        let u = after-ok (text_end true rest) (λ u. Ok (record { steps = []; ended = true })) x h in
        subst (AreKept book n lines) (ok-same (record { steps = []; ended = true }) x u.2) (last-kept book n lines rest (said (None, rest) refl))
    go (Err Version) said rec h = absurd (err-ok Version x h)
    go (Err (BadLine m)) said rec h = absurd (err-ok (BadLine m) x h)
    go (Err Truncated) said rec h = subst (AreKept book n lines) (ok-same only_these_steps x h) (none-kept book n lines)
    go (Err NoMemory) said rec h = absurd (err-ok NoMemory x h)

-- ---- after the first line

record IsKeptBehind (book : BookView) (order : Order) (lines : RemainingLines) (kept : Prefix) : Type 0 where
  pub named : kept.order ≡ Some order
  pub begins : Begins (behind_first book kept) (left_text lines)

start-kept-there : (book : BookView) (order : Order) (start : Shown) (lines rest : RemainingLines) (x : StepsOfPrefix) → left_text lines ≡ start_text start ++ left_text rest → AreKept book 0 rest x
    → IsKeptBehind book order lines (transcript_prefix (record { order = order; start = start; steps = x.steps }) x.ended)
unfolding AreKept
start-kept-there book order start lines rest x e h =
    let count : 0 + length x.steps ≡ length x.steps = omega arith in
    let texts : List ℕ = flat_map (step_text book) x.steps in
    record {
      named = refl;
      begins = begins-then (start_text start) (texts ++ last_text x.ended (length x.steps)) (left_text rest) (left_text lines) e
          (subst (λ (m : ℕ). Begins (texts ++ last_text x.ended m) (left_text rest)) count h);
    }

behind-kept : (sc : Scenario) (book : BookView) (order : Order) (lines : RemainingLines) (kept : Prefix) → length sc.workers ≤ greatest → prefix_start sc book order lines ≡ Ok kept → IsKeptBehind book order lines kept
unfolding prefix_start goes_on_there
behind-kept sc book order lines kept le e = go (start_at sc lines) (λ start. start-said sc lines start) e
  where
    go : (r : Result (Shown × RemainingLines) TextErr) → ((start : Shown × RemainingLines) → r ≡ Ok start → left_text lines ≡ start_text start.0 ++ left_text start.1)
        → if_complete (order_prefix order) r (λ start. goes_on_there sc book (record { order = order; start = start.0; steps = [] }) start.1) ≡ Ok kept → IsKeptBehind book order lines kept
    go (Ok start) said h =
        let more = after-ok (prefix_steps sc book (length start.1.left) 0 start.1) (λ more. Ok (transcript_prefix (record { order = order; start = start.0; steps = more.steps }) more.ended)) kept h in
        subst (IsKeptBehind book order lines) (ok-same (transcript_prefix (record { order = order; start = start.0; steps = more.0.steps }) more.0.ended) kept more.2)
        (start-kept-there book order start.0 lines start.1 more.0 (said start refl) (steps-kept sc book (length start.1.left) 0 start.1 more.0 le more.1))
    go (Err Version) said h = absurd (err-ok Version kept h)
    go (Err (BadLine m)) said h = absurd (err-ok (BadLine m) kept h)
    go (Err Truncated) said h = subst (IsKeptBehind book order lines) (ok-same (order_prefix order) kept h) (record { named = refl; begins = begins-none (left_text lines) })
    go (Err NoMemory) said h = absurd (err-ok NoMemory kept h)

-- ---- the complete text

first-kept : (book : BookView) (order : Order) (lines : RemainingLines) (text : List ℕ) (kept : Prefix) → text ≡ version_text order ++ left_text lines → IsKeptBehind book order lines kept → Begins (prefix_spelling book kept) text
unfolding prefix_spelling
first-kept book order lines text kept e h =
    rw h.named (begins-then (version_text order) (behind_first book kept) (left_text lines) text e h.begins)

prefix-begins : (sc : Scenario) (book : BookView) (lines : List (List ℕ)) (kept : Prefix) → length sc.workers ≤ greatest
    → if_complete empty_prefix (version_at lines) (λ version. prefix_start sc book version.0 version.1) ≡ Ok kept → Begins (prefix_spelling book kept) (ended lines)
unfolding prefix_spelling
prefix-begins sc book lines kept le e = go (version_at lines) (λ version. version-said lines version) e
  where
    go : (r : Result (Order × RemainingLines) TextErr) → ((version : Order × RemainingLines) → r ≡ Ok version → ended lines ≡ version_text version.0 ++ left_text version.1)
        → if_complete empty_prefix r (λ version. prefix_start sc book version.0 version.1) ≡ Ok kept → Begins (prefix_spelling book kept) (ended lines)
    go (Ok version) said h = first-kept book version.0 version.1 (ended lines) kept (said version refl) (behind-kept sc book version.0 version.1 kept le h)
    go (Err Version) said h = absurd (err-ok Version kept h)
    go (Err (BadLine m)) said h = absurd (err-ok (BadLine m) kept h)
    go (Err Truncated) said h = subst (λ (kept : Prefix). Begins (prefix_spelling book kept) (ended lines)) (ok-same empty_prefix kept h) (begins-none (ended lines))
    go (Err NoMemory) said h = absurd (err-ok NoMemory kept h)

pub prefix-said : (sc : Scenario) (book : BookView) (text : List ℕ) (kept : Prefix) → length sc.workers ≤ greatest → prefix_of sc book text ≡ Ok kept
    → take (length (prefix_spelling book kept)) text ≡ prefix_spelling book kept
unfolding prefix_of
prefix-said sc book text kept le e =
    let front : List ℕ = prefix_spelling book kept in
    let all = begins-of front (ended (ended_lines text)) text (prefix-begins sc book (ended_lines text) kept le e) (lines-begin text) in
    ap (λ (t : List ℕ). take (length front) t) all.is ∙ take_at front all.behind (length front) refl
