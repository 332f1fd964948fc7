-- Steps stored as lines and verdicts: one more step, and the place of a fit. For `step_list`.
use Rattle.std.proofs.Common.{◌≡◌, ℕ, zero, suc, ◌+◌, ◌-◌, ◌<◌, ◌≤◌, Bool, true, false, if◌then◌else◌, List, [], ◌∷◌, ◌++◌, length, map, get_or, is_some, slice_get, unwrap_or, option_map, MatchOption, refl, sym, ap, ◌∙◌, eqb-true, eq-eqb, arith}
use Rattle.std.specs.Bool.{⊤}
use Rattle.std.specs.List.{list_all}
use Rattle.std.proofs.lemmas.Bool.{and_from, and_parts}
use Rattle.std.proofs.lemmas.List.Folds.{list_all-append}
use Rattle.std.proofs.lemmas.Option.{slice_get-map}
use Rattle.std.proofs.lemmas.List.{get_or_push, length_push}
use Rattle.auction_core.specs.declared.record.Shown.{Shown}
use Rattle.auction_core.specs.declared.record.Shown.TheVariants.{Empty, Fits, Same, NoChannel, Refuted, Outside, Undecided}
use Rattle.auction_core.specs.declared.record.Step.{Step}
use Rattle.auction_core.specs.declared.step_list.StepLine.{StepLine}
use Rattle.auction_core.specs.declared.step_list.StepKind.{StepKind}
use Rattle.auction_core.specs.declared.step_list.StepKind.TheVariants.{Verdict, SameSet, Channelless}
use Rattle.auction_core.specs.State.{fit_of}
use Rattle.auction_core.specs.StepList.{IsKept, fit_at, step_line_of, merged, names_only, shown_of_line, verdict_count, has_verdict, verdicts_after, verdicts_with, step_kind_of}

abbrev pub line_as : ℕ → ℕ → StepKind → StepLine
line_as r s w = record { round = r; station = s; step_kind = w }

abbrev pub step_as : ℕ → ℕ → Shown → Step
step_as r s x = record { round = r; station = s; shown = x }

pub length-merged : (ls : List StepLine) (told : List Shown) → length (merged ls told) ≡ length ls
length-merged [] told = refl
length-merged (l ∷ ls) told = ap suc (length-merged ls (verdicts_after l.step_kind told))

-- ---- one more step

-- a step with a verdict of its own
more-told : (ls : List StepLine) (told : List Shown) (r s : ℕ) (x : Shown) → verdict_count ls ≡ length told →
    merged (ls ++ line_as r s Verdict ∷ []) (told ++ x ∷ []) ≡ merged ls told ++ step_as r s x ∷ []
more-told [] [] r s x e = refl
more-told [] (y ∷ ys) r s x e = absurd (omega arith)
more-told (l ∷ ls) told r s x e = behind l.step_kind told e (λ rest f. more-told ls rest r s x f)
  where
    behind : (w : StepKind) (told : List Shown) → (if has_verdict w then 1 else 0) + verdict_count ls ≡ length told →
        ((rest : List Shown) → verdict_count ls ≡ length rest → merged (ls ++ line_as r s Verdict ∷ []) (rest ++ x ∷ []) ≡ merged ls rest ++ step_as r s x ∷ []) →
        step_as l.round l.station (shown_of_line w l.station (told ++ x ∷ [])) ∷ merged (ls ++ line_as r s Verdict ∷ []) (verdicts_after w (told ++ x ∷ [])) ≡ step_as l.round l.station (shown_of_line w l.station told) ∷ (merged ls (verdicts_after w told) ++ step_as r s x ∷ [])
    behind Verdict [] e next = absurd (omega arith)
    behind Verdict (y ∷ ys) e next = ap (λ xs. step_as l.round l.station y ∷ xs) (next ys (omega arith))
    behind SameSet told e next = ap (λ xs. step_as l.round l.station Same ∷ xs) (next told (omega arith))
    behind Channelless told e next = ap (λ xs. step_as l.round l.station (NoChannel l.station) ∷ xs) (next told (omega arith))

-- a step without a verdict
more-plain : (ls : List StepLine) (told : List Shown) (r s : ℕ) (step_kind : StepKind) → verdict_count ls ≡ length told →
    merged (ls ++ line_as r s step_kind ∷ []) told ≡ merged ls told ++ step_as r s (shown_of_line step_kind s []) ∷ []
more-plain [] [] r s step_kind e = refl
more-plain [] (y ∷ ys) r s step_kind e = absurd (omega arith)
more-plain (l ∷ ls) told r s step_kind e = behind l.step_kind told e (λ rest f. more-plain ls rest r s step_kind f)
  where
    behind : (w : StepKind) (told : List Shown) → (if has_verdict w then 1 else 0) + verdict_count ls ≡ length told →
        ((rest : List Shown) → verdict_count ls ≡ length rest → merged (ls ++ line_as r s step_kind ∷ []) rest ≡ merged ls rest ++ step_as r s (shown_of_line step_kind s []) ∷ []) →
        step_as l.round l.station (shown_of_line w l.station told) ∷ merged (ls ++ line_as r s step_kind ∷ []) (verdicts_after w told) ≡ step_as l.round l.station (shown_of_line w l.station told) ∷ (merged ls (verdicts_after w told) ++ step_as r s (shown_of_line step_kind s []) ∷ [])
    behind Verdict [] e next = absurd (omega arith)
    behind Verdict (y ∷ ys) e next = ap (λ xs. step_as l.round l.station y ∷ xs) (next ys (omega arith))
    behind SameSet told e next = ap (λ xs. step_as l.round l.station Same ∷ xs) (next told (omega arith))
    behind Channelless told e next = ap (λ xs. step_as l.round l.station (NoChannel l.station) ∷ xs) (next told (omega arith))

-- any step
pub pushed : (ls : List StepLine) (told : List Shown) (r s : ℕ) (x : Shown) → verdict_count ls ≡ length told → names_only s x ≡ true →
    merged (ls ++ line_as r s (step_kind_of x) ∷ []) (verdicts_with told x) ≡ merged ls told ++ step_as r s x ∷ []
pushed ls told r s Empty e n = more-told ls told r s Empty e
pushed ls told r s (Fits delta) e n = more-told ls told r s (Fits delta) e
pushed ls told r s Same e n = more-plain ls told r s SameSet e
pushed ls told r s (NoChannel f) e n = more-plain ls told r s Channelless e ∙ ap (λ g. merged ls told ++ step_as r s (NoChannel g) ∷ []) (sym (eqb-true f s n))
pushed ls told r s (Refuted worker how) e n = more-told ls told r s (Refuted worker how) e
pushed ls told r s (Outside proof) e n = more-told ls told r s (Outside proof) e
pushed ls told r s (Undecided receipts) e n = more-told ls told r s (Undecided receipts) e

-- the lines with a verdict, with one more line
takers-more : (ls : List StepLine) (l : StepLine) → verdict_count (ls ++ l ∷ []) ≡ verdict_count ls + (if has_verdict l.step_kind then 1 else 0)
takers-more [] l = omega arith
takers-more (m ∷ ls) l = let rest = takers-more ls l in omega (arith, rest)

pub still-told : (ls : List StepLine) (told : List Shown) (r s : ℕ) (x : Shown) → verdict_count ls ≡ length told →
    verdict_count (ls ++ line_as r s (step_kind_of x) ∷ []) ≡ length (verdicts_with told x)
still-told ls told r s x e =
    takers-more ls (line_as r s (step_kind_of x))
    ∙ elim (has_verdict (step_kind_of x)) as (λ b. verdict_count ls + (if b then 1 else 0) ≡ length (if b then told ++ x ∷ [] else told)) [
      | true ↦ let one = length_push told x in omega (arith, one, e)
      | false ↦ omega (arith, e)
    ]

-- the verdicts once a step without a verdict is pushed
pub plain-with : (told : List Shown) (x : Shown) (w : StepKind) (b : Bool) → w ≡ step_kind_of x → b ≡ has_verdict w → b ≡ false → told ≡ verdicts_with told x
plain-with told x w b step_kind is none =
    sym (ap (λ c. if c then told ++ x ∷ [] else told) (ap has_verdict (sym step_kind) ∙ (sym is ∙ none)))

pub more-with : (told : List Shown) (x : Shown) (w : StepKind) (b : Bool) → w ≡ step_kind_of x → b ≡ has_verdict w → b ≡ true → told ++ x ∷ [] ≡ verdicts_with told x
more-with told x w b step_kind is some =
    sym (ap (λ c. if c then told ++ x ∷ [] else told) (ap has_verdict (sym step_kind) ∙ (sym is ∙ some)))

pub takers-now : (ls now : List StepLine) (told told_now : List Shown) (r s : ℕ) (w : StepKind) (x : Shown) → w ≡ step_kind_of x → now ≡ ls ++ line_as r s w ∷ [] → told_now ≡ verdicts_with told x → verdict_count ls ≡ length told → verdict_count now ≡ length told_now
takers-now ls now told told_now r s w x step_kind lines verdicts e =
    ap verdict_count (lines ∙ ap (λ v. ls ++ line_as r s v ∷ []) step_kind) ∙ (still-told ls told r s x e ∙ ap length (sym verdicts))

pub steps-now : (ls now : List StepLine) (told told_now : List Shown) (r s : ℕ) (w : StepKind) (x : Shown) → w ≡ step_kind_of x → now ≡ ls ++ line_as r s w ∷ [] → told_now ≡ verdicts_with told x → verdict_count ls ≡ length told → names_only s x ≡ true → merged now told_now ≡ merged ls told ++ step_as r s x ∷ []
steps-now ls now told told_now r s w x step_kind lines verdicts e named =
    ap (λ ks. merged ks told_now) (lines ∙ ap (λ v. ls ++ line_as r s v ∷ []) step_kind)
    ∙ (ap (merged (ls ++ line_as r s (step_kind_of x) ∷ [])) verdicts ∙ pushed ls told r s x e named)

-- the entry is a verdict
abbrev pub is_verdict : Shown → Bool
is_verdict x = has_verdict (step_kind_of x)

still-verdicts : (told : List Shown) (x : Shown) → list_all is_verdict told ≡ true → list_all is_verdict (verdicts_with told x) ≡ true
still-verdicts told x v = go (has_verdict (step_kind_of x)) refl
  where
    go : (b : Bool) → has_verdict (step_kind_of x) ≡ b → list_all is_verdict (if b then told ++ x ∷ [] else told) ≡ true
    go true e = list_all-append is_verdict told (x ∷ []) ∙ and_from (list_all is_verdict told) (list_all is_verdict (x ∷ [])) v (and_from (is_verdict x) true e refl)
    go false e = v

pub kept-now : (ls now : List StepLine) (told told_now : List Shown) (r s : ℕ) (w : StepKind) (x : Shown) → w ≡ step_kind_of x → now ≡ ls ++ line_as r s w ∷ [] → told_now ≡ verdicts_with told x → IsKept ls told → IsKept now told_now
kept-now ls now told told_now r s w x step_kind lines verdicts k = record {
  each = takers-now ls now told told_now r s w x step_kind lines verdicts k.each;
  verdicts = ap (list_all is_verdict) verdicts ∙ still-verdicts told x k.verdicts;
}

-- ---- the line of a step

-- only one step kind takes a verdict
a-verdict : (w : StepKind) → has_verdict w ≡ true → w ≡ Verdict
a-verdict Verdict h = refl
a-verdict SameSet h = cc
a-verdict Channelless h = cc

-- the lines of the merged steps are the stored lines
lines-back : (ls : List StepLine) (told : List Shown) → verdict_count ls ≡ length told → list_all is_verdict told ≡ true → map step_line_of (merged ls told) ≡ ls
lines-back [] told e v = refl
lines-back (l ∷ ls) told e v = behind l.step_kind told e v (λ rest f u. lines-back ls rest f u)
  where
    behind : (w : StepKind) (told : List Shown) → (if has_verdict w then 1 else 0) + verdict_count ls ≡ length told → list_all is_verdict told ≡ true →
        ((rest : List Shown) → verdict_count ls ≡ length rest → list_all is_verdict rest ≡ true → map step_line_of (merged ls rest) ≡ ls) →
        step_line_of (step_as l.round l.station (shown_of_line w l.station told)) ∷ map step_line_of (merged ls (verdicts_after w told)) ≡ line_as l.round l.station w ∷ ls
    behind Verdict [] e v next = absurd (omega arith)
    behind Verdict (y ∷ ys) e v next =
        let both = and_parts (is_verdict y) (list_all is_verdict ys) v in
        ap (λ w. line_as l.round l.station w ∷ map step_line_of (merged ls ys)) (a-verdict (step_kind_of y) both.0)
        ∙ ap (λ ks. line_as l.round l.station Verdict ∷ ks) (next ys (omega arith) both.1)
    behind SameSet told e v next = ap (λ ks. line_as l.round l.station SameSet ∷ ks) (next told (omega arith) v)
    behind Channelless told e v next = ap (λ ks. line_as l.round l.station Channelless ∷ ks) (next told (omega arith) v)

pub line-there : (ls : List StepLine) (told : List Shown) (k : ℕ) → IsKept ls told → slice_get ls k ≡ option_map step_line_of (slice_get (merged ls told) k)
line-there ls told k h =
    ap (λ ks. slice_get ks k) (sym (lines-back ls told h.each h.verdicts)) ∙ slice_get-map step_line_of (merged ls told) k

-- no verdict names a station without a channel
verdict-names : (s : ℕ) (x : Shown) → is_verdict x ≡ true → names_only s x ≡ true
verdict-names s Empty h = refl
verdict-names s (Fits delta) h = refl
verdict-names s Same h = refl
verdict-names s (NoChannel f) h = cc
verdict-names s (Refuted worker how) h = refl
verdict-names s (Outside proof) h = refl
verdict-names s (Undecided receipts) h = refl

names-within : (ls : List StepLine) (told : List Shown) (k : ℕ) → verdict_count ls ≡ length told → list_all is_verdict told ≡ true → MatchOption (slice_get (merged ls told) k) ⊤ (λ x. names_only x.station x.shown ≡ true)
names-within [] told k e v = record {}
names-within (l ∷ ls) told k e v = behind l.step_kind told k e v (λ rest j f u. names-within ls rest j f u)
  where
    behind : (w : StepKind) (told : List Shown) (k : ℕ) → (if has_verdict w then 1 else 0) + verdict_count ls ≡ length told → list_all is_verdict told ≡ true →
        ((rest : List Shown) (j : ℕ) → verdict_count ls ≡ length rest → list_all is_verdict rest ≡ true → MatchOption (slice_get (merged ls rest) j) ⊤ (λ x. names_only x.station x.shown ≡ true)) →
        MatchOption (slice_get (step_as l.round l.station (shown_of_line w l.station told) ∷ merged ls (verdicts_after w told)) k) ⊤ (λ x. names_only x.station x.shown ≡ true)
    behind Verdict [] k e v next = absurd (omega arith)
    behind Verdict (y ∷ ys) zero e v next = verdict-names l.station y (and_parts (is_verdict y) (list_all is_verdict ys) v).0
    behind Verdict (y ∷ ys) (suc k) e v next = next ys k (omega arith) (and_parts (is_verdict y) (list_all is_verdict ys) v).1
    behind SameSet told zero e v next = refl
    behind SameSet told (suc k) e v next = next told k (omega arith) v
    behind Channelless told zero e v next = eq-eqb l.station l.station refl
    behind Channelless told (suc k) e v next = next told k (omega arith) v

pub names-there : (ls : List StepLine) (told : List Shown) (k : ℕ) → IsKept ls told → MatchOption (slice_get (merged ls told) k) ⊤ (λ x. names_only x.station x.shown ≡ true)
names-there ls told k h = names-within ls told k h.each h.verdicts

-- ---- the place of a fit among the verdicts

fit-behind : (told : List Shown) (k : ℕ) (d : Shown) → k < length told → fit_at told (suc k) ≡ unwrap_or (fit_of (get_or told k d)) []
fit-behind [] k d h = absurd (omega arith)
fit-behind (x ∷ xs) zero d h = refl
fit-behind (x ∷ xs) (suc k) d h = fit-behind xs k d (omega arith)

no-fit-behind : (told : List Shown) (k : ℕ) → length told ≤ k → fit_at told (suc k) ≡ []
no-fit-behind [] k h = refl
no-fit-behind (x ∷ xs) zero h = absurd (omega arith)
no-fit-behind (x ∷ xs) (suc k) h = no-fit-behind xs k (omega arith)

pub fit-there : (told : List Shown) (n : ℕ) (d : Shown) → 0 < n → n ≤ length told → fit_at told n ≡ unwrap_or (fit_of (get_or told (n - 1) d)) []
fit-there told n d some h =
    let next : n ≡ suc (n - 1) = omega arith in
    ap (fit_at told) next ∙ fit-behind told (n - 1) d (omega arith)

pub no-fit-there : (told : List Shown) (n : ℕ) → length told < n → fit_at told n ≡ []
no-fit-there told n h =
    let next : n ≡ suc (n - 1) = omega arith in
    ap (fit_at told) next ∙ no-fit-behind told (n - 1) (omega arith)

-- the fit at a place stays when verdicts are appended
fit-stays : (told more : List Shown) (n : ℕ) → n ≤ length told → fit_at (told ++ more) n ≡ fit_at told n
fit-stays told more zero h = refl
fit-stays [] more (suc n) h = absurd (omega arith)
fit-stays (x ∷ xs) more (suc zero) h = refl
fit-stays (x ∷ xs) more (suc (suc n)) h = fit-stays xs more (suc n) (omega arith)

pub fit-still : (told : List Shown) (x : Shown) (n : ℕ) → n ≤ length told → fit_at (verdicts_with told x) n ≡ fit_at told n
fit-still told x n h =
    elim (has_verdict (step_kind_of x)) as (λ b. fit_at (if b then told ++ x ∷ [] else told) n ≡ fit_at told n) [
      | true ↦ fit-stays told (x ∷ []) n h
      | false ↦ refl
    ]

pub told-grows : (told : List Shown) (x : Shown) → length told ≤ length (verdicts_with told x)
told-grows told x =
    elim (has_verdict (step_kind_of x)) as (λ b. length told ≤ length (if b then told ++ x ∷ [] else told)) [
      | true ↦ let one = length_push told x in omega (arith, one)
      | false ↦ omega arith
    ]

-- a fit is a verdict and is appended to those before it
fit-is-reported : (told : List Shown) (x : Shown) → is_some (fit_of x) ≡ true → verdicts_with told x ≡ told ++ x ∷ []
fit-is-reported told Empty h = cc
fit-is-reported told (Fits delta) h = refl
fit-is-reported told Same h = cc
fit-is-reported told (NoChannel s) h = cc
fit-is-reported told (Refuted worker how) h = cc
fit-is-reported told (Outside proof) h = cc
fit-is-reported told (Undecided receipts) h = cc

pub fit-told : (told : List Shown) (x : Shown) → is_some (fit_of x) ≡ true → fit_at (verdicts_with told x) (length (verdicts_with told x)) ≡ unwrap_or (fit_of x) []
fit-told told x h =
    ap (λ xs. fit_at xs (length xs)) (fit-is-reported told x h)
    ∙ (fit-there (told ++ x ∷ []) (length (told ++ x ∷ [])) x (let one = length_push told x in omega (arith, one)) (omega arith)
    ∙ ap (λ y. unwrap_or (fit_of y) []) (get_or_push told x x (length (told ++ x ∷ []) - 1) (let one = length_push told x in omega (arith, one))))
