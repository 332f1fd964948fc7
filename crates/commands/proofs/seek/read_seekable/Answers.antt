-- A book was made, so each station has a domain row.
use Rattle.commands.proofs.SeekLemmas.{joined-book}
use Rattle.commands.proofs.seek.read_seekable.Goals as goal

pub returns-clause-seekable : goal.returns-clause-seekable
returns-clause-seekable g c =
    let whole = joined-book c.in_ok-sources.sources c.in_ok-book_of.field-0 c.in_ok-book_of.ensures.book in
    record { limits = c.in_ok-sources.ensures.limits; whole = whole.0 }
