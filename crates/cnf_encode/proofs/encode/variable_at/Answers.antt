use Rattle.std.proofs.Common.{refl, arith}
use Rattle.cnf_encode.proofs.NumberLemmas.{variable-read}
use Rattle.cnf_encode.proofs.encode.variable_at.Goals as goal

pub returns : goal.returns
returns c =
    variable-read c.args.book.now c.args.set.now c.channels_of.result.now _ c.args.i c.place_of-place.result _ c.args.c
    c.channels_of.ensures.channels c.requires.ascending c.channels_of.ensures.ascending c.requires.in_set refl c.place_of-place.ensures.within c.place_of-place.ensures.at
    (c.requires.offsets.before c.args.i (omega arith))
