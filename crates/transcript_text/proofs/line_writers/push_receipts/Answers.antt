use Rattle.std.proofs.Common.{◌++◌, ◌∙◌, map}
use Rattle.auction_core.specs.LogNumbers.{first_of}
use Rattle.transcript_text.specs.Spelling.{receipts_text}
use Rattle.transcript_text.proofs.WriteLines.{receipts-all, receipts-more}
use Rattle.transcript_text.proofs.line_writers.push_receipts.Goals as goal

pub loop-i-preserved : goal.loop-i-preserved
loop-i-preserved c =
    rw (c.in_ok-push_receipt.ensures, c.first_of-first.ensures.first)
    (receipts-more c.loop-i.text.items c.args.clauses c.loop-i.i c.index-receipts-i.result c.args.receipts.now c.loop-i-test.true c.index-receipts-i.is ∙ c.loop-i.invariant)

pub returns : goal.returns
returns c = receipts-all c.loop-i.text.items c.args.clauses c.loop-i.i c.args.receipts.now (c.args.text.now.items ++ receipts_text 0 c.args.receipts.now (map (first_of c.args.clauses) c.args.receipts.now)) c.loop-i-test.false c.loop-i.invariant
