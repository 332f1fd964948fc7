use Rattle.std.proofs.Common.{◌∙◌, Contains, get_or, sym, subst}
use Rattle.std.proofs.lemmas.List.{get_or_default}
use Rattle.pack_defs.specs.declared.pair.Pair.{Pair}
use Rattle.pack_defs.specs.Book.{BookView}
use Rattle.walk_repack.proofs.PickLemmas.{both-stand}
use Rattle.walk_repack.proofs.pick.picked_pair.Goals as goal

pub returns-then-is_on_channel-2 : goal.returns-then-is_on_channel-2
returns-then-is_on_channel-2 c =
    let none : Pair = record { f = 0; a = 0; g = 0; b = 0 } in
    let pairs = c.listed-pairs.result.now in
    let i = c.in-Some.pick.index in
    let p : Pair = get_or pairs i none in
    let there : Contains pairs p = (i, c.if-pick-pairs.false, get_or_default pairs i p none c.if-pick-pairs.false) in
    let listed : Contains c.args.walk_state.now.book.pairs p = subst (λ (b : BookView). Contains b.pairs p) c.requires (c.listed-pairs.ensures p there) in
    both-stand c.args.walk_state.now.book c.args.walk_state.now.entries p listed (sym c.is_on_channel.ensures ∙ c.if-is_on_channel.true) (sym c.is_on_channel-then-is_on_channel.ensures ∙ c.if-is_on_channel-2.true)
