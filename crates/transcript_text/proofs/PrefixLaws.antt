-- A beginning compared with the complete transcript: what is kept of the text is a beginning of the transcript.
use Rattle.std.proofs.Common.{◌≡◌, ◌≢◌, ◌+◌, ◌∙◌, ◌==◌, ◌&&◌, ℕ, zero, suc, Bool, true, false, List, [], ◌∷◌, ◌++◌, Option, Some, None, Result, Ok, Err, if◌then◌else◌, refl, sym, ap, subst, length, take}
use Rattle.std.specs.Prelude.{MatchResult}
use Rattle.std.proofs.lemmas.Bool.{and_parts}
use Rattle.pack_defs.specs.Lists.{is_empty}
use Rattle.pack_defs.specs.declared.scenario.Scenario.{Scenario}
use Rattle.pack_defs.specs.declared.order.Order.{Order}
use Rattle.pack_defs.specs.Book.{BookView}
use Rattle.auction_core.specs.declared.record.Shown.{Shown}
use Rattle.lrat_text.specs.Lines.{is_whole, prepend_to_first_line, ended_lines}
use Rattle.transcript_text.specs.declared.error.TextErr.{TextErr}
use Rattle.transcript_text.specs.declared.error.TextErr.TheVariants.{Version, BadLine, Truncated, NoMemory}
use Rattle.auction_core.specs.declared.prefix.Prefix.{Prefix}
use Rattle.auction_core.specs.declared.transcript.Transcript.{Transcript}
use Rattle.auction_core.specs.declared.transcript.TranscriptStep.{TranscriptStep}
use Rattle.transcript_text.specs.Fields.{RemainingLines}
use Rattle.transcript_text.specs.Pieces.{with_lines}
use Rattle.transcript_text.specs.PrefixReading.{IsPrefixOf, StepsOfPrefix, goes_on_there, if_complete, only_these_steps, empty_prefix, order_prefix, prefix_of, prefix_start, prefix_steps, prefix_step_or, transcript_prefix}
use Rattle.transcript_text.specs.Reading.{next_step, start_at, step_or, steps_at, text_end, transcript_of, version_at}
use Rattle.pack_defs.specs.Steps.{◌>>=◌}
use Rattle.transcript_text.proofs.FieldReadLemmas.{err-ok, if-ok, ok-same}
use Rattle.transcript_text.proofs.Rising.{after-ok}
use Rattle.transcript_text.proofs.Stays.{Stays, next-step-stays, start-stays, version-stays}

-- ---- a beginning is never too short

if-there-never : {A B : Type 0} (kept : B) (r : Result A TextErr) (f : A → Result B TextErr) → ((x : A) → f x ≢ Err Truncated) → if_complete kept r f ≢ Err Truncated
if-there-never kept (Ok x) f h = h x
if-there-never kept (Err Version) f h = λ e. absurd cc e
if-there-never kept (Err (BadLine n)) f h = λ e. absurd cc e
if-there-never kept (Err Truncated) f h = λ e. absurd cc e
if-there-never kept (Err NoMemory) f h = λ e. absurd cc e

then-never : {A B : Type 0} (r : Result A TextErr) (f : A → Result B TextErr) → r ≢ Err Truncated → ((x : A) → f x ≢ Err Truncated) → (r >>= f) ≢ Err Truncated
then-never (Ok x) f h g = g x
then-never (Err Version) f h g = λ e. absurd cc e
then-never (Err (BadLine n)) f h g = λ e. absurd cc e
then-never (Err Truncated) f h g = λ e. h refl
then-never (Err NoMemory) f h g = λ e. absurd cc e

abbrev Never : Result (Unit {0}) TextErr → Type 0
Never r = r ≢ Err Truncated

end-never : (lines : RemainingLines) → text_end true lines ≢ Err Truncated
end-never lines = go (is_empty lines.left && true)
  where
    go : (b : Bool) → Never (if b then Ok tt else Err (BadLine lines.number))
    go true = λ e. absurd cc e
    go false = λ e. absurd cc e

ok-never : {A : Type 0} (x : A) → Ok x ≢ Err Truncated
ok-never x = λ e. absurd cc e

there-or-never : (o : Option TranscriptStep) (lines : RemainingLines) (rest : RemainingLines → Result StepsOfPrefix TextErr) → ((lines : RemainingLines) → rest lines ≢ Err Truncated) → prefix_step_or o lines rest ≢ Err Truncated
there-or-never None lines rest h = then-never (text_end true lines) _ (end-never lines) (λ u. ok-never _)
there-or-never (Some x) lines rest h = then-never (rest lines) _ (h lines) (λ more. ok-never _)

steps-never : (sc : Scenario) (book : BookView) (most n : ℕ) (lines : RemainingLines) → prefix_steps sc book most n lines ≢ Err Truncated
unfolding prefix_steps
steps-never sc book zero n lines = ok-never _
steps-never sc book (suc most) n lines =
    if-there-never only_these_steps (next_step sc book n lines) _ (λ next. there-or-never next.0 next.1 _ (λ rest. steps-never sc book most (n + 1) rest))

pub prefix-never : (sc : Scenario) (book : BookView) (text : List ℕ) → prefix_of sc book text ≢ Err Truncated
unfolding prefix_of prefix_start goes_on_there
prefix-never sc book text =
    if-there-never empty_prefix (version_at (ended_lines text)) _
    (λ version. if-there-never (order_prefix version.0) (start_at sc version.1) _
    (λ start. then-never (prefix_steps sc book (length start.1.left) 0 start.1) _ (steps-never sc book (length start.1.left) 0 start.1) (λ more. ok-never _)))

-- ---- a complete transcript is kept completely

steps-all : (sc : Scenario) (book : BookView) (most n : ℕ) (lines : RemainingLines) (x : List TranscriptStep × RemainingLines) → steps_at sc book most n lines ≡ Ok x → is_empty x.1.left ≡ true
    → prefix_steps sc book most n lines ≡ Ok (record { steps = x.0; ended = true })
unfolding steps_at prefix_steps
steps-all sc book zero n lines x e none = absurd (err-ok Truncated x e)
steps-all sc book (suc most) n lines x e none = go (next_step sc book n lines) (λ rest y. steps-all sc book most (n + 1) rest y) e
  where
    go : (r : Result (Option TranscriptStep × RemainingLines) TextErr)
        → ((rest : RemainingLines) (y : List TranscriptStep × RemainingLines) → steps_at sc book most (n + 1) rest ≡ Ok y → is_empty y.1.left ≡ true → prefix_steps sc book most (n + 1) rest ≡ Ok (record { steps = y.0; ended = true }))
        → (r >>= λ next. step_or next.0 next.1 (λ rest. steps_at sc book most (n + 1) rest)) ≡ Ok x
        → if_complete only_these_steps r (λ next. prefix_step_or next.0 next.1 (λ rest. prefix_steps sc book most (n + 1) rest)) ≡ Ok (record { steps = x.0; ended = true })
    go (Ok (Some s, rest)) all h =
        let more = after-ok (steps_at sc book most (n + 1) rest) (λ more. Ok (s ∷ more.0, more.1)) x h in
        let same = ok-same (s ∷ more.0.0, more.0.1) x more.2 in
        let empty : is_empty more.0.1.left ≡ true = ap (λ (y : List TranscriptStep × RemainingLines). is_empty y.1.left) same ∙ none in
        ap (λ (r : Result StepsOfPrefix TextErr). r >>= λ more. Ok (record { steps = s ∷ more.steps; ended = more.ended })) (all rest more.0 more.1 empty)
        ∙ ap (λ (y : List TranscriptStep × RemainingLines). Ok (record { steps = y.0; ended = true })) same
    go (Ok (None, rest)) all h =
        let same = ok-same ([], rest) x h in
        let empty : is_empty rest.left ≡ true = ap (λ (y : List TranscriptStep × RemainingLines). is_empty y.1.left) same ∙ none in
        ap (λ (b : Bool). (if b && true then Ok tt else Err (BadLine rest.number)) >>= λ u. Ok (record { steps = []; ended = true })) empty
        ∙ ap (λ (y : List TranscriptStep × RemainingLines). Ok (record { steps = y.0; ended = true })) same
    go (Err e) all h = absurd (err-ok e x h)

pub prefix-all : (sc : Scenario) (book : BookView) (text : List ℕ) (t : Transcript) → transcript_of sc book text ≡ Ok t → prefix_of sc book text ≡ Ok (transcript_prefix t true)
unfolding transcript_of prefix_of prefix_start goes_on_there
prefix-all sc book text t e =
    let version = after-ok (version_at (ended_lines text)) _ t e in
    let start = after-ok (start_at sc version.0.1) _ t version.2 in
    let steps = after-ok (steps_at sc book (length start.0.1.left) 0 start.0.1) _ t start.2 in
    let u = after-ok (text_end (is_whole text) steps.0.1) _ t steps.2 in
    let last = if-ok (is_empty steps.0.1.left && is_whole text) tt u.0 (BadLine steps.0.1.number) u.1 in
    let parts = and_parts (is_empty steps.0.1.left) (is_whole text) last.0 in
    ap (λ (r : Result (Order × RemainingLines) TextErr). if_complete empty_prefix r (λ version. prefix_start sc book version.0 version.1)) version.1
    ∙ ap (λ (r : Result (Shown × RemainingLines) TextErr). if_complete (order_prefix version.0.0) r (λ start. goes_on_there sc book (record { order = version.0.0; start = start.0; steps = [] }) start.1)) start.1
    ∙ ap (λ (r : Result StepsOfPrefix TextErr). r >>= λ more. Ok (transcript_prefix (record { order = version.0.0; start = start.0.0; steps = more.steps }) more.ended)) (steps-all sc book (length start.0.1.left) 0 start.0.1 steps.0 steps.1 parts.0)
    ∙ ap (λ (t : Transcript). Ok (transcript_prefix t true)) (ok-same (record { order = version.0.0; start = start.0.0; steps = steps.0.0 }) t u.2)

-- ---- the complete lines of a beginning are the first lines of the text

-- The lines after those of the first bytes.
unfoldable pub lines_behind : List ℕ → List ℕ → List (List ℕ)
lines_behind [] after = ended_lines after
lines_behind (c ∷ before) after =
    if c == 10 then lines_behind before after else (if is_empty (ended_lines before) then prepend_to_first_line c (lines_behind before after) else lines_behind before after)

pub lines-apart : (before after : List ℕ) → ended_lines (before ++ after) ≡ ended_lines before ++ lines_behind before after
unfolding ended_lines lines_behind
lines-apart [] after = refl
lines-apart (c ∷ before) after =
    ap (λ (ls : List (List ℕ)). if c == 10 then [] ∷ ls else prepend_to_first_line c ls) (lines-apart before after) ∙ go (c == 10) (ended_lines before) (lines_behind before after)
  where
    go : (b : Bool) (ls more : List (List ℕ))
        → (if b then [] ∷ (ls ++ more) else prepend_to_first_line c (ls ++ more))
        ≡ (if b then [] ∷ ls else prepend_to_first_line c ls) ++ (if b then more else (if is_empty ls then prepend_to_first_line c more else more))
    go true ls more = refl
    go false [] more = refl
    go false (l ∷ ls) more = refl

-- ---- what is kept is a beginning

-- Whether the kept steps are the first of these steps, and all of them if the `end` line was read.
record IsFirstOf (kept : StepsOfPrefix) (steps : List TranscriptStep) : Type 0 where
  pub first : kept.steps ≡ take (length kept.steps) steps
  pub all : kept.ended ≡ true → kept.steps ≡ steps

abbrev AreFirst : Result StepsOfPrefix TextErr → List TranscriptStep → Type 0
AreFirst r steps = MatchResult r (λ kept. IsFirstOf kept steps) (λ why. ⊥)

none-first : (steps : List TranscriptStep) → IsFirstOf only_these_steps steps
none-first steps = record { first = refl; all = λ e. absurd cc e }

one-first : (s : TranscriptStep) (steps : List TranscriptStep) (r : Result StepsOfPrefix TextErr) → AreFirst r steps → AreFirst (r >>= λ more. Ok (record { steps = s ∷ more.steps; ended = more.ended })) (s ∷ steps)
one-first s steps (Ok kept) h = record { first = ap (λ (xs : List TranscriptStep). s ∷ xs) h.first; all = λ e. ap (λ (xs : List TranscriptStep). s ∷ xs) (h.all e) }
one-first s steps (Err e) h = h

no-lines : (left more : List (List ℕ)) → is_empty (left ++ more) ≡ true → is_empty left ≡ true
no-lines [] more h = refl
no-lines (l ∷ left) more h = h

steps-first : (sc : Scenario) (book : BookView) (a b n : ℕ) (lines : RemainingLines) (more : List (List ℕ)) (x : List TranscriptStep × RemainingLines)
    → steps_at sc book b n (with_lines lines more) ≡ Ok x → is_empty x.1.left ≡ true → AreFirst (prefix_steps sc book a n lines) x.0
unfolding steps_at prefix_steps
steps-first sc book zero b n lines more x e none = none-first x.0
steps-first sc book (suc a) zero n lines more x e none = absurd (err-ok Truncated x e)
steps-first sc book (suc a) (suc b) n lines more x e none =
    go (next_step sc book n lines) (next_step sc book n (with_lines lines more)) (next-step-stays more sc book n lines) (λ rest y. steps-first sc book a b (n + 1) rest more y) e
  where
    from : Result (Option TranscriptStep × RemainingLines) TextErr → Result (List TranscriptStep × RemainingLines) TextErr
    from s = s >>= λ next. step_or next.0 next.1 (λ rest. steps_at sc book b (n + 1) rest)

    go : (r s : Result (Option TranscriptStep × RemainingLines) TextErr) → Stays more r s
        → ((rest : RemainingLines) (y : List TranscriptStep × RemainingLines) → steps_at sc book b (n + 1) (with_lines rest more) ≡ Ok y → is_empty y.1.left ≡ true → AreFirst (prefix_steps sc book a (n + 1) rest) y.0)
        → from s ≡ Ok x
        → AreFirst (if_complete only_these_steps r (λ next. prefix_step_or next.0 next.1 (λ rest. prefix_steps sc book a (n + 1) rest))) x.0
    go (Ok (Some y, rest)) s stays first h =
        let found = after-ok (steps_at sc book b (n + 1) (with_lines rest more)) (λ more. Ok (y ∷ more.0, more.1)) x (sym (ap from stays) ∙ h) in
        let same = ok-same (y ∷ found.0.0, found.0.1) x found.2 in
        let empty : is_empty found.0.1.left ≡ true = ap (λ (z : List TranscriptStep × RemainingLines). is_empty z.1.left) same ∙ none in
        subst (λ (z : List TranscriptStep × RemainingLines). AreFirst (prefix_steps sc book a (n + 1) rest >>= λ more. Ok (record { steps = y ∷ more.steps; ended = more.ended })) z.0) same
        (one-first y found.0.0 (prefix_steps sc book a (n + 1) rest) (first rest found.0 found.1 empty))
    go (Ok (None, rest)) s stays first h =
        let same = ok-same ([], with_lines rest more) x (sym (ap from stays) ∙ h) in
        let empty : is_empty rest.left ≡ true = no-lines rest.left more (ap (λ (z : List TranscriptStep × RemainingLines). is_empty z.1.left) same ∙ none) in
        subst (λ (z : List TranscriptStep × RemainingLines). AreFirst (text_end true rest >>= λ u. Ok (record { steps = []; ended = true })) z.0) same
        (subst (λ (b : Bool). AreFirst ((if b && true then Ok tt else Err (BadLine rest.number)) >>= λ u. Ok (record { steps = []; ended = true })) []) (sym empty) (record { first = refl; all = λ e. refl }))
    go (Err Version) s stays first h = absurd (err-ok Version x (sym (ap from stays) ∙ h))
    go (Err (BadLine m)) s stays first h = absurd (err-ok (BadLine m) x (sym (ap from stays) ∙ h))
    go (Err Truncated) s stays first h = none-first x.0
    go (Err NoMemory) s stays first h = absurd (err-ok NoMemory x (sym (ap from stays) ∙ h))

-- ---- the complete text

abbrev IsFirstPart : Result Prefix TextErr → Transcript → Type 0
IsFirstPart r t = MatchResult r (λ kept. IsPrefixOf kept t) (λ why. ⊥)

-- The transcript, read from its steps on.
abbrev from_steps : Scenario → BookView → Bool → Order → Shown × RemainingLines → Result Transcript TextErr
from_steps sc book whole order start = steps_at sc book (length start.1.left) 0 start.1 >>= λ steps. text_end whole steps.1 >>= λ u. Ok (record { order = order; start = start.0; steps = steps.0 })

-- The transcript, read from its start on.
abbrev from_start : Scenario → BookView → Bool → Order × RemainingLines → Result Transcript TextErr
from_start sc book whole version = start_at sc version.1 >>= λ start. from_steps sc book whole version.0 start

-- Whether the transcript has this order, this start and these steps.
record IsFrom (order : Order) (start : Shown) (steps : List TranscriptStep × RemainingLines) (t : Transcript) : Type 0 where
  pub none : is_empty steps.1.left ≡ true
  pub same : record { order = order; start = start; steps = steps.0 } ≡ t

ends-so : (whole : Bool) (order : Order) (start : Shown) (steps : List TranscriptStep × RemainingLines) (t : Transcript)
    → (text_end whole steps.1 >>= λ u. Ok (record { order = order; start = start; steps = steps.0 })) ≡ Ok t → IsFrom order start steps t
ends-so whole order start steps t e =
    let u = after-ok (text_end whole steps.1) (λ u. Ok (record { order = order; start = start; steps = steps.0 })) t e in
    let last = if-ok (is_empty steps.1.left && whole) tt u.0 (BadLine steps.1.number) u.1 in
    record { none = (and_parts (is_empty steps.1.left) whole last.0).0; same = ok-same (record { order = order; start = start; steps = steps.0 }) t u.2 }

-- The first line determines the order of the transcript.
same-order : (sc : Scenario) (book : BookView) (whole : Bool) (version : Order × RemainingLines) (t : Transcript) → from_start sc book whole version ≡ Ok t → version.0 ≡ t.order
same-order sc book whole version t e =
    let start = after-ok (start_at sc version.1) (λ start. from_steps sc book whole version.0 start) t e in
    let steps = after-ok (steps_at sc book (length start.0.1.left) 0 start.0.1) (λ steps. text_end whole steps.1 >>= λ u. Ok (record { order = version.0; start = start.0.0; steps = steps.0 })) t start.2 in
    ap (λ (t : Transcript). t.order) (ends-so whole version.0 start.0.0 steps.0 t steps.2).same

-- The steps that are kept are the first of the transcript's.
with-steps : (order : Order) (start : Shown) (steps : List TranscriptStep) (r : Result StepsOfPrefix TextErr) → AreFirst r steps
    → IsFirstPart (r >>= λ more. Ok (transcript_prefix (record { order = order; start = start; steps = more.steps }) more.ended)) (record { order = order; start = start; steps = steps })
with-steps order start steps (Ok kept) h = record {
  order = refl;
  start = refl;
  steps = h.first;
  all = λ e. ap (λ (b : Bool). transcript_prefix (record { order = order; start = start; steps = kept.steps }) b) e ∙ ap (λ (xs : List TranscriptStep). transcript_prefix (record { order = order; start = start; steps = xs }) true) (h.all e);
}
with-steps order start steps (Err e) h = h

started : (sc : Scenario) (book : BookView) (whole : Bool) (order : Order) (start : Shown × RemainingLines) (more : List (List ℕ)) (t : Transcript)
    → from_steps sc book whole order (start.0, with_lines start.1 more) ≡ Ok t → IsFirstPart (goes_on_there sc book (record { order = order; start = start.0; steps = [] }) start.1) t
unfolding goes_on_there
started sc book whole order start more t e =
    let steps = after-ok (steps_at sc book (length (start.1.left ++ more)) 0 (with_lines start.1 more)) (λ steps. text_end whole steps.1 >>= λ u. Ok (record { order = order; start = start.0; steps = steps.0 })) t e in
    let from = ends-so whole order start.0 steps.0 t steps.2 in
    subst (λ (t : Transcript). IsFirstPart (prefix_steps sc book (length start.1.left) 0 start.1 >>= λ more. Ok (transcript_prefix (record { order = order; start = start.0; steps = more.steps }) more.ended)) t) from.same
    (with-steps order start.0 steps.0.0 (prefix_steps sc book (length start.1.left) 0 start.1) (steps-first sc book (length start.1.left) (length (start.1.left ++ more)) 0 start.1 more steps.0 steps.1 from.none))

opened : (sc : Scenario) (book : BookView) (whole : Bool) (order : Order) (lines : RemainingLines) (more : List (List ℕ)) (t : Transcript)
    → from_start sc book whole (order, with_lines lines more) ≡ Ok t → IsFirstPart (prefix_start sc book order lines) t
unfolding prefix_start
opened sc book whole order lines more t e = go (start_at sc lines) (start_at sc (with_lines lines more)) (start-stays more sc lines) e
  where
    from : Result (Shown × RemainingLines) TextErr → Result Transcript TextErr
    from s = s >>= λ start. from_steps sc book whole order start

    go : (r s : Result (Shown × RemainingLines) TextErr) → Stays more r s → from s ≡ Ok t → IsFirstPart (if_complete (order_prefix order) r (λ start. goes_on_there sc book (record { order = order; start = start.0; steps = [] }) start.1)) t
    go (Ok start) s stays h = started sc book whole order start more t (sym (ap from stays) ∙ h)
    go (Err Version) s stays h = absurd (err-ok Version t (sym (ap from stays) ∙ h))
    go (Err (BadLine m)) s stays h = absurd (err-ok (BadLine m) t (sym (ap from stays) ∙ h))
    go (Err Truncated) s stays h = record { order = same-order sc book whole (order, with_lines lines more) t e; start = tt; steps = refl; all = λ e. absurd cc e }
    go (Err NoMemory) s stays h = absurd (err-ok NoMemory t (sym (ap from stays) ∙ h))

named : (sc : Scenario) (book : BookView) (whole : Bool) (lines more : List (List ℕ)) (t : Transcript)
    → (version_at (lines ++ more) >>= λ version. from_start sc book whole version) ≡ Ok t → IsFirstPart (if_complete empty_prefix (version_at lines) (λ version. prefix_start sc book version.0 version.1)) t
named sc book whole lines more t e = go (version_at lines) (version_at (lines ++ more)) (version-stays more lines) e
  where
    from : Result (Order × RemainingLines) TextErr → Result Transcript TextErr
    from s = s >>= λ version. from_start sc book whole version

    go : (r s : Result (Order × RemainingLines) TextErr) → Stays more r s → from s ≡ Ok t → IsFirstPart (if_complete empty_prefix r (λ version. prefix_start sc book version.0 version.1)) t
    go (Ok version) s stays h = opened sc book whole version.0 version.1 more t (sym (ap from stays) ∙ h)
    go (Err Version) s stays h = absurd (err-ok Version t (sym (ap from stays) ∙ h))
    go (Err (BadLine m)) s stays h = absurd (err-ok (BadLine m) t (sym (ap from stays) ∙ h))
    go (Err Truncated) s stays h = record { order = tt; start = tt; steps = refl; all = λ e. absurd cc e }
    go (Err NoMemory) s stays h = absurd (err-ok NoMemory t (sym (ap from stays) ∙ h))

pub prefix-first : (sc : Scenario) (book : BookView) (before after : List ℕ) (t : Transcript) → transcript_of sc book (before ++ after) ≡ Ok t → MatchResult (prefix_of sc book before) (λ kept. IsPrefixOf kept t) (λ why. ⊥)
unfolding transcript_of prefix_of
prefix-first sc book before after t e =
    named sc book (is_whole (before ++ after)) (ended_lines before) (lines_behind before after) t
    (sym (ap (λ (ls : List (List ℕ)). version_at ls >>= λ version. from_start sc book (is_whole (before ++ after)) version) (lines-apart before after)) ∙ e)
