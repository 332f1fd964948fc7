use Rattle.target_seek.specs.declared.search.Stage.TheVariants.{Unasked}
use Rattle.target_seek.proofs.BinarySearchLemmas.{leads-more, stage-goes_on}
use Rattle.target_seek.proofs.search.TopSearch.with_top_answer.Goals as goal

pub returns-clause-searching : goal.returns-clause-searching
returns-clause-searching c = λ first last asked top is next. record {
  stage = rw c.after.ensures (stage-goes_on first last asked c.args.self.stage top c.args.answer is.stage next);
  binary_searched = rw c.after.ensures (leads-more (Unasked first last) asked c.args.self.stage top c.args.answer is.binary_searched next);
}
