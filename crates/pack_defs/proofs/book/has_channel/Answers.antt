use Rattle.std.proofs.Common.{◌≡◌, ◌∙◌, true, ap}
use Rattle.pack_defs.specs.Lists.{is_ascending, is_in}
use Rattle.pack_defs.proofs.BookLemmas.{channels_in-ascend}
use Rattle.pack_defs.proofs.Searches.{found-number}
use Rattle.pack_defs.proofs.book.has_channel.Goals as goal

pub returns : goal.returns
returns c =
    let up : is_ascending c.channels_of.result.now ≡ true = rw c.channels_of.ensures (channels_in-ascend c.args.domains.now c.args.station c.requires.channels) in
    c.is_ok.ensures.value
    ∙ found-number c.channels_of.result.now c.args.c c.binary_search.result c.binary_search.ensures.bound c.binary_search.ensures.position up
    ∙ ap (λ channels. is_in channels c.args.c) c.channels_of.ensures
