use Rattle.std.proofs.Common.{◌≡◌, arith, ap, length}
use Rattle.transcript_text.specs.Reading.{receipts_at}
use Rattle.transcript_text.proofs.Fronts.{receipts-end, receipts-goes-on, receipts-stop}
use Rattle.transcript_text.proofs.reading.receipts_at.Goals as goal

pub returns-in-Err : goal.returns-in-Err
returns-in-Err c =
    let all : length c.as_slice-worker-end.result.now ≡ length c.args.sc.now.workers = ap length c.as_slice-worker-end.ensures in
    receipts-stop c.args.sc.now c.loop-worker.so_far c.in-Err.why (length c.args.sc.now.workers) c.loop-worker.worker c.loop-worker.rest (receipts_at c.args.sc.now 0 (length c.args.sc.now.workers) c.args.lines) (omega (arith, all, c.loop-worker-test.true)) c.in-Err.ensures c.loop-worker.invariant

pub loop-worker-preserved : goal.loop-worker-preserved
loop-worker-preserved c =
    let all : length c.as_slice-worker-end.result.now ≡ length c.args.sc.now.workers = ap length c.as_slice-worker-end.ensures in
    receipts-goes-on c.args.sc.now c.loop-worker.so_far c.in-Ok-with_receipt.next c.in-Ok.found (length c.args.sc.now.workers) c.loop-worker.worker c.loop-worker.rest c.in-Ok.after (receipts_at c.args.sc.now 0 (length c.args.sc.now.workers) c.args.lines) (omega (arith, all, c.loop-worker-test.true)) c.in-Ok.ensures c.in-Ok-with_receipt.ensures c.loop-worker.invariant

pub returns : goal.returns
returns c =
    let all : length c.as_slice-worker-end.result.now ≡ length c.args.sc.now.workers = ap length c.as_slice-worker-end.ensures in
    receipts-end c.args.sc.now c.loop-worker.so_far (length c.args.sc.now.workers) c.loop-worker.worker c.loop-worker.rest (receipts_at c.args.sc.now 0 (length c.args.sc.now.workers) c.args.lines) (omega (arith, all, c.loop-worker-test.false)) c.loop-worker.invariant
