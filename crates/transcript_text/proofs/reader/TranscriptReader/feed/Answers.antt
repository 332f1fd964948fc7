use Rattle.std.proofs.Common.{◌++◌}
use Rattle.transcript_text.proofs.Fed.{has-fault, has-piece, has-same}
use Rattle.transcript_text.proofs.reader.TranscriptReader.feed.Goals as goal

pub returns-in-Some : goal.returns-in-Some
returns-in-Some c = λ bytes h.
    has-fault c.args.sc.now c.args.book.now (bytes ++ c.args.piece.now) c.in_ok-read.read c.refused.result c.in-Some.why
    (has-same c.args.sc.now c.args.book.now (bytes ++ c.args.piece.now) c.in_ok-fed.fed c.in_ok-read.read (has-piece c.args.sc.now c.args.book.now bytes c.args.piece.now c.args.self c.in_ok-fed.fed h c.in_ok-fed.ensures) c.in_ok-read.ensures)
    (c.in-Some.ensures c.args.sc.now c.args.book.now) c.refused.ensures
