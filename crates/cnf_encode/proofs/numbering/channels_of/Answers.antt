use Rattle.pack_defs.proofs.BookLemmas.{channels_in-ascend}
use Rattle.cnf_encode.proofs.numbering.channels_of.Goals as goal

pub returns-clause-ascending : goal.returns-clause-ascending
returns-clause-ascending c =
    rw c.domain.ensures (channels_in-ascend c.args.book.now.domains c.args.station c.keeps_order.ensures.domains.channels)
