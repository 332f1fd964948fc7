use Rattle.std.proofs.Common.{◌≡◌, codes, take}
use Rattle.std.proofs.lemmas.List.{take_all}
use Rattle.transcript_text.proofs.WriteLines.{line-parts}
use Rattle.transcript_text.proofs.line_writers.push_subset.Goals as goal

pub returns : goal.returns
returns c =
    let all : take c.loop-s.s-index c.args.subset.now ≡ c.args.subset.now = take_all c.loop-s.s-index c.args.subset.now c.loop-s-test.false in
    rw (c.in_ok-extend_from_slice-3.ensures.items, c.loop-s.invariant, all, c.in_ok-extend_from_slice.ensures.items)
    (line-parts c.args.text.now.items (codes "on") c.args.subset.now)
