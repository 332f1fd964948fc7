use Rattle.std.proofs.Common.{◌≡◌, List, ℕ, true, sym, subst}
use Rattle.pack_defs.specs.Lists.{is_ascending}
use Rattle.pack_defs.proofs.BookLemmas.{channels_in-ascend}
use Rattle.walk_repack.proofs.MapStatusLemmas.{not-elsewhere}
use Rattle.walk_repack.proofs.steps.advance.Goals as goal

pub other_channel-to-requires-clause-ascending : goal.other_channel-to-requires-clause-ascending
other_channel-to-requires-clause-ascending c =
    subst (λ (xs : List ℕ). is_ascending xs ≡ true) (sym c.domain-domain.ensures)
    (channels_in-ascend c.args.book.now.domains c.in-Open.station c.keeps_order.ensures.domains.channels)

pub make-requires-clause-elsewhere : goal.make-requires-clause-elsewhere
make-requires-clause-elsewhere c =
    not-elsewhere c.args.walk_state.now.entries c.in-Open.station c.in-Open.channel c.other_channel-to.result c.keeps_walk_state.ensures.ascending c.in-Open.ensures.stands c.other_channel-to.ensures.other
