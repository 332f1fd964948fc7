use Rattle.std.proofs.Common.{◌≡◌, ◌&&◌, ◌∙◌, Bool, true, ap, sym}
use Rattle.pack_defs.specs.ChannelMap.{put}
use Rattle.cert_types.specs.Moves.{is_move, violates_some}
use Rattle.cert_types.proofs.WalkLemmas.{mover-there}
use Rattle.cert_types.proofs.moves.passes.Goals as goal

pub put-requires-clause-there : goal.put-requires-clause-there
put-requires-clause-there c =
    mover-there c.args.book.now c.args.map.now.entries c.args.x (sym c.is_move.ensures ∙ c.if-not-is_move.false)

pub returns-clause-passes : goal.returns-clause-passes
returns-clause-passes c =
    let book = c.args.book.now in
    let after = put c.args.x c.args.map.now.entries in
    let moved : is_move book c.args.map.now.entries c.args.x ≡ true = sym c.is_move.ensures ∙ c.if-not-is_move.false in
    c.violates_some.ensures
    ∙ (λ i. violates_some (c.put.ensures i).book (c.put.ensures i).entries)
    ∙ ap (λ b. violates_some b after) (sym c.requires)
    ∙ sym (ap (λ (b : Bool). b && violates_some book after) moved)
