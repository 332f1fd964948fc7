-- What a binary search knows after each answer, and which results follow.
use Rattle.std.proofs.Common.{◌≡◌, ℕ, zero, suc, ◌+◌, ◌-◌, ◌*◌, ◌^◌, ◌<◌, ◌≤◌, Bool, true, false, cond, ltb, Some, None, inl, inr, List, [], ◌∷◌, ◌++◌, length, refl, sym, ap, ◌∙◌, subst, arith, append_assoc, length-append}
use Rattle.std.proofs.Math.Nat.{pow-succ'}
use Rattle.std.proofs.lemmas.Bool.{false_from_ne_true, ltb-false, ltb-true, true≢false}
use Rattle.std.proofs.lemmas.List.Elements.{Contains-append_left, Contains-append_right, Contains-push_cases}
use Rattle.pack_defs.proofs.Members.{Contains-here}
use Rattle.target_seek.specs.declared.search.AnswerBelow.{AnswerBelow}
use Rattle.target_seek.specs.declared.search.AnswerBelow.TheVariants as below
use Rattle.target_seek.specs.declared.search.TopRange.{TopRange}
use Rattle.target_seek.specs.declared.search.Stage.{Stage}
use Rattle.target_seek.specs.declared.search.Stage.TheVariants.{Unasked, LastIsUnfit, LastIsOpen, BinarySearch}
use Rattle.target_seek.specs.declared.search.TopSearch.{TopSearch}
use Rattle.target_seek.specs.declared.sought.Sought.{Sought}
use Rattle.target_seek.specs.declared.sought.Sought.TheVariants.{NoneFits, LastOpen, Least, AboveOpen}
use Rattle.target_seek.specs.declared.top_test.TopAnswer.{TopAnswer}
use Rattle.target_seek.specs.declared.top_test.TopAnswer.TheVariants.{Fits, Unfit, Open}
use Rattle.target_seek.specs.TopChannels.{AreTrue, AskedTop, IsSought, IsTrueAt, IsTruth, SeekBase, WasAnswered, fits_at}
use Rattle.target_seek.specs.BinarySearch.{full_range, found_at, range_after, middle_of, next_at, stage_after}
use Rattle.target_seek.specs.Searching.{IsBelow, IsBinarySearch, IsSearching, IsStage, IsUnasked, Leads}
use Rattle.target_seek.proofs.AboveLemmas.{fits-above}

-- Whether the search between two tests has come so far by the answers since it began.
pub record IsMidway (base now_base : SeekBase) (before now : List AskedTop) (first last : ℕ) (search : TopSearch) : Type 0 where
  pub same_base : now_base ≡ base
  pub more : List AskedTop
  pub asked : now ≡ before ++ more
  pub are_true : AreTrue base more
  pub searching : IsSearching first last more search

-- ---- one more answer

pub true-more : (base : SeekBase) (asked : List AskedTop) (top : ℕ) (answer : TopAnswer) → AreTrue base asked → IsTrueAt base top answer → AreTrue base (asked ++ record { top = top; answer = answer } ∷ [])
true-more base asked top answer are_true is_true = λ x there. elim (Contains-push_cases asked _ x there) [
  | inl old ↦ are_true x old
  | inr new ↦ subst (λ (z : AskedTop). IsTrueAt base z.top z.answer) new is_true
]

below-more : (first low : ℕ) (asked : List AskedTop) (x : AskedTop) (b : AnswerBelow) → IsBelow first asked low b → IsBelow first (asked ++ x ∷ []) low b
below-more first low asked x below.Nothing is = is
below-more first low asked x below.Unfit is = (is.0, Contains-append_left _ _ _ is.1)
below-more first low asked x below.Open is = (is.0, Contains-append_left _ _ _ is.1)

-- ---- the start, each case of an answer, and the end

-- The last top fits.
halving-starts : (first last : ℕ) → 14 ≤ first → first ≤ last → last ≤ 51 → IsBinarySearch first last (record { top = last; answer = Fits } ∷ []) (full_range first last)
halving-starts first last low ordered high = record {
  ordered = ordered;
  least = omega arith;
  most = omega arith;
  fits = Contains-here _ [];
  below = refl;
  questions = 6;
  counted = refl;
  narrow = omega (arith, low, high);
}

-- Half of a number below twice another is below that one.
halved : (n : ℕ) → (w v : ℕ) → 0 < w → w < 2 ^ n → 2 * v ≤ w → (m : ℕ) × (suc m ≡ n) × (v < 2 ^ m)
halved zero w v some few half = absurd (omega (arith, some, few))
halved (suc m) w v some few half = let twice = pow-succ' 2 m in (m, refl, omega (arith, twice, few, half))

module _ (first last : ℕ) (asked : List AskedTop) (left : TopRange) (so_far : IsBinarySearch first last asked left) (open_yet : left.low < left.high) where
  -- The tops that are left, and the answer.
  next : (top : ℕ) (answer : TopAnswer) (after : TopRange) → after.low ≤ after.high → first ≤ after.low → after.high ≤ last → 2 * (after.high - after.low) ≤ left.high - left.low → WasAnswered (asked ++ record { top = top; answer = answer } ∷ []) after.high Fits → IsBelow first (asked ++ record { top = top; answer = answer } ∷ []) after.low after.below → IsBinarySearch first last (asked ++ record { top = top; answer = answer } ∷ []) after
  next top answer after ordered least most half fits below =
      let new : AskedTop = record { top = top; answer = answer } in
      let (m, one_less, narrow) = halved so_far.questions (left.high - left.low) (after.high - after.low) (omega (arith, open_yet)) so_far.narrow half in
      let counted = so_far.counted in
      let longer = length-append asked (new ∷ []) in
      record {
        ordered = ordered;
        least = least;
        most = most;
        fits = fits;
        below = below;
        questions = m;
        counted = omega (arith, longer, counted, one_less);
        narrow = narrow;
      }

  -- The answer about the middle is the answer about the top below those above it.
  told-below : (answer : TopAnswer) → WasAnswered (asked ++ record { top = middle_of left; answer = answer } ∷ []) (middle_of left + 1 - 1) answer
  told-below answer =
      let same_top : middle_of left ≡ middle_of left + 1 - 1 = omega arith in
      subst (λ z. WasAnswered (asked ++ record { top = middle_of left; answer = answer } ∷ []) z answer) same_top (Contains-append_right asked _ _ (Contains-here _ []))

  halving-goes_on : (answer : TopAnswer) → IsBinarySearch first last (asked ++ record { top = middle_of left; answer = answer } ∷ []) (range_after left (middle_of left) answer)
  halving-goes_on Fits =
      let least = so_far.least in let most = so_far.most in
      next (middle_of left) Fits (range_after left (middle_of left) Fits)
      (omega arith) so_far.least (omega (arith, most, open_yet)) (omega (arith, open_yet))
      (Contains-append_right asked _ _ (Contains-here _ [])) (below-more first left.low asked _ left.below so_far.below)
  halving-goes_on Unfit =
      let least = so_far.least in
      next (middle_of left) Unfit (range_after left (middle_of left) Unfit)
      (omega (arith, open_yet)) (omega (arith, least)) so_far.most (omega (arith, open_yet))
      (Contains-append_left asked _ _ so_far.fits) (omega (arith, least), told-below Unfit)
  halving-goes_on Open =
      let least = so_far.least in
      next (middle_of left) Open (range_after left (middle_of left) Open)
      (omega (arith, open_yet)) (omega (arith, least)) so_far.most (omega (arith, open_yet))
      (Contains-append_left asked _ _ so_far.fits) (omega (arith, least), told-below Open)

-- A choice by a test is something exactly if the test holds.
chosen-some : (b : Bool) (x y : ℕ) → cond b (Some x) None ≡ Some y → (b ≡ true) × (x ≡ y)
chosen-some true x y is = (refl, cc)
chosen-some false x y is = absurd (cc)

chosen-none : (b : Bool) (x : ℕ) → cond b (Some x) None ≡ None → b ≡ false
chosen-none true x is = absurd (cc)
chosen-none false x is = refl

-- The answer about the last top.
first-told : (first last lowest highest : ℕ) (asked : List AskedTop) (answer : TopAnswer) → IsUnasked first last asked lowest highest → IsStage first last (record { top = last; answer = answer } ∷ []) (stage_after (Unasked lowest highest) answer)
first-told first last lowest highest asked Fits is =
    subst (λ z. IsBinarySearch first last (record { top = last; answer = Fits } ∷ []) (full_range z highest)) (sym is.from_first)
    (subst (λ z. IsBinarySearch first last (record { top = last; answer = Fits } ∷ []) (full_range first z)) (sym is.to_last) (halving-starts first last is.least is.ordered is.most))
first-told first last lowest highest asked Unfit is = refl
first-told first last lowest highest asked Open is = refl

-- The answer about the top that is tested.
pub stage-goes_on : (first last : ℕ) (asked : List AskedTop) (stage : Stage) (top : ℕ) (answer : TopAnswer) → IsStage first last asked stage → next_at stage ≡ Some top → IsStage first last (asked ++ record { top = top; answer = answer } ∷ []) (stage_after stage answer)
stage-goes_on first last asked (Unasked lowest highest) top answer is next =
    let last_asked : last ≡ top = let to_last = is.to_last in cc in
    let alone : record { top = last; answer = answer } ∷ [] ≡ asked ++ record { top = top; answer = answer } ∷ [] = rw (is.nothing, ← last_asked) refl in
    subst (λ z. IsStage first last z (stage_after (Unasked lowest highest) answer)) alone (first-told first last lowest highest asked answer is)
stage-goes_on first last asked LastIsUnfit top answer is next = absurd (cc)
stage-goes_on first last asked LastIsOpen top answer is next = absurd (cc)
stage-goes_on first last asked (BinarySearch left) top answer is next =
    let (yet, here) = chosen-some (ltb left.low left.high) (middle_of left) top next in
    subst (λ z. IsBinarySearch first last (asked ++ record { top = z; answer = answer } ∷ []) (range_after left (middle_of left) answer)) here (halving-goes_on first last asked left is (ltb-true left.low left.high yet) answer)

-- The search stays a binary search, if the answer is about the top that is tested.
pub leads-more : (from : Stage) (xs : List AskedTop) (to : Stage) (top : ℕ) (answer : TopAnswer) → Leads from xs to → next_at to ≡ Some top → Leads from (xs ++ record { top = top; answer = answer } ∷ []) (stage_after to answer)
leads-more from [] to top answer same next = (ap (λ s. next_at s) (sym same) ∙ next, ap (λ s. stage_after s answer) same)
leads-more from (x ∷ xs) to top answer is next = (is.0, leads-more (stage_after from x.answer) xs to top answer is.1 next)

-- If one top is left, it is the result.
sought-below : (first last : ℕ) (asked : List AskedTop) (low high : ℕ) (b : AnswerBelow) → low ≡ high → first ≤ low → high ≤ last → WasAnswered asked high Fits → IsBelow first asked low b → IsSought first last asked (found_at high b)
sought-below first last asked low high below.Nothing same least most fits below = (omega (arith, same, least), most, fits, inl (sym same ∙ below))
sought-below first last asked low high below.Unfit same least most fits below = (omega (arith, same, least), most, fits, inr (subst (λ z. WasAnswered asked (z - 1) Unfit) same below.1))
sought-below first last asked low high below.Open same least most fits below = let after = below.0 in (omega (arith, same, after), most, fits, subst (λ z. WasAnswered asked (z - 1) Open) same below.1)

-- The answer about the last top.
pub unfit-told : (last : ℕ) (asked : List AskedTop) → asked ≡ record { top = last; answer = Unfit } ∷ [] → WasAnswered asked last Unfit
unfit-told last asked is = subst (λ z. WasAnswered z last Unfit) (sym is) (Contains-here _ [])

-- The result, if no top is tested next.
pub halving-ends : (first last : ℕ) (asked : List AskedTop) (left : TopRange) → IsBinarySearch first last asked left → next_at (BinarySearch left) ≡ None → IsSought first last asked (found_at left.high left.below) × (length asked ≤ 7)
halving-ends first last asked left is over =
    let closed = ltb-false left.low left.high (chosen-none (ltb left.low left.high) (middle_of left) over) in
    let ordered = is.ordered in let counted = is.counted in
    (sought-below first last asked left.low left.high left.below (omega (arith, ordered, closed)) is.least is.most is.fits is.below, omega (arith, counted))

-- Below a top at which the set does not fit, it fits at none.
unfit-below : (base : SeekBase) (lesser top : ℕ) → fits_at base top ≡ false → lesser ≤ top → fits_at base lesser ≡ false
unfit-below base lesser top unfit less = false_from_ne_true _ (λ fit. true≢false (sym (fits-above base lesser top fit less) ∙ unfit))

-- A result that follows from true answers is true.
pub truth-of : (base : SeekBase) (first last : ℕ) (asked : List AskedTop) (sought : Sought) → AreTrue base asked → IsSought first last asked sought → IsTruth base first last sought
truth-of base first last asked NoneFits are_true is = λ top less. unfit-below base top last (are_true _ is) less
truth-of base first last asked LastOpen are_true is = tt
truth-of base first last asked (Least top) are_true is = (
  are_true _ is.2,
  λ lesser less from. elim is.3 [
    | inl here ↦ absurd (omega (arith, here, less, from))
    | inr unfit ↦ unfit-below base lesser (top - 1) (are_true _ unfit) (omega (arith, less))
  ],
)
truth-of base first last asked (AboveOpen top) are_true is = are_true _ is.2

-- One more test between two states.
pub midway-goes_on : (base now_base then_base : SeekBase) (before now then : List AskedTop) (first last : ℕ) (search after : TopSearch) (top : ℕ) (answer : TopAnswer) (mid : IsMidway base now_base before now first last search) → then_base ≡ now_base → then ≡ now ++ record { top = top; answer = answer } ∷ [] → IsTrueAt now_base top answer → IsSearching first last (mid.more ++ record { top = top; answer = answer } ∷ []) after → IsMidway base then_base before then first last after
midway-goes_on base now_base then_base before now then first last search after top answer mid same asked is_true searching = record {
  same_base = same ∙ mid.same_base;
  more = mid.more ++ record { top = top; answer = answer } ∷ [];
  asked = asked ∙ (ap (λ xs. xs ++ record { top = top; answer = answer } ∷ []) mid.asked ∙ append_assoc before mid.more _);
  are_true = true-more base mid.more top answer mid.are_true (subst (λ b. IsTrueAt b top answer) mid.same_base is_true);
  searching = searching;
}
