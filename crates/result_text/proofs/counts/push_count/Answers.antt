use Rattle.std.proofs.Common.{rules, append_assoc}
use Rattle.result_text.specs.ResultText.{count_line}
use Rattle.result_text.proofs.counts.push_count.Goals as goal

pub returns : goal.returns
unfolding count_line
returns c = search (rules, append_assoc)
