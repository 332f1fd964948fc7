use Rattle.target_seek.specs.declared.sought.Sought.TheVariants.{NoneFits}
use Rattle.target_seek.specs.BinarySearch.{found_at}
use Rattle.target_seek.proofs.BinarySearchLemmas.{halving-ends, truth-of, unfit-told}
use Rattle.target_seek.proofs.search.TopSearch.found.Goals as goal

pub returns-in-LastIsUnfit-clause-truth : goal.returns-in-LastIsUnfit-clause-truth
returns-in-LastIsUnfit-clause-truth c = λ base first last asked is are_true.
    let stage = rw c.in-LastIsUnfit.is at is.stage in
    truth-of base first last asked NoneFits are_true (unfit-told last asked stage)

pub returns-in-BinarySearch-clause-sought : goal.returns-in-BinarySearch-clause-sought
returns-in-BinarySearch-clause-sought c = λ first last asked is.
    let stage = rw c.in-BinarySearch.is at is.stage in
    let over = rw c.in-BinarySearch.is at c.requires in
    rw c.search_result.ensures (halving-ends first last asked c.in-BinarySearch.left stage over)

pub returns-in-BinarySearch-clause-truth : goal.returns-in-BinarySearch-clause-truth
returns-in-BinarySearch-clause-truth c = λ base first last asked is are_true.
    let stage = rw c.in-BinarySearch.is at is.stage in
    let over = rw c.in-BinarySearch.is at c.requires in
    rw c.search_result.ensures
    (truth-of base first last asked (found_at c.in-BinarySearch.left.high c.in-BinarySearch.left.below) are_true (halving-ends first last asked c.in-BinarySearch.left stage over).0)
