use Rattle.target_seek.specs.BinarySearch.{questions_left}
use Rattle.target_seek.proofs.BinarySearchLemmas.{IsMidway}
use Rattle.target_seek.proofs.seek.seek_top.Given as goal

abbrev pub invariant-loop-top : goal.invariant-loop-top
invariant-loop-top g l = IsMidway (g.T.TopTest.base l.fn.test) (g.T.TopTest.base l.test) (g.T.TopTest.asked l.fn.test) (g.T.TopTest.asked l.test) l.first l.last l.search

abbrev pub decreases-loop-top : goal.decreases-loop-top
decreases-loop-top g l = questions_left l.search
