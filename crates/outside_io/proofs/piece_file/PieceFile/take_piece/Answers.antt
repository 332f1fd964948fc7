use Rattle.std.proofs.Common.{◌≡◌, ◌+◌, drop, subst, ap, ◌∙◌}
use Rattle.outside_io.specs.Memory.{PieceFileView}
use Rattle.outside_io.specs.Pieces.{piece_size}
use Rattle.outside_io.proofs.PieceLaws.{piece-is, left-is}
use Rattle.outside_io.proofs.piece_file.PieceFile.take_piece.Goals as goal

pub returns-clause-piece : goal.returns-clause-piece
returns-clause-piece c =
    let held = c.deref.result.now in
    let left = ap (drop c.self.inside.next) c.deref.ensures.value ∙ ap (λ (v : PieceFileView). v.left) c.self.view_is in
    piece-is _ _ held c.args.self.now.left _ c.self.inside.next c.min-count.result piece_size left c.requires c.if-is_err.ensures.negation c.min-count.ensures c.extend_from_slice.ensures.items

pub returns-clause-rest : goal.returns-clause-rest
returns-clause-rest c =
    let next = c.self.inside.next in
    let held = c.deref.ensures.value in
    let left = c.args.self.now.left in
    let shown = ap (drop next) held ∙ ap (λ (v : PieceFileView). v.left) c.self.view_is in
    subst (λ xs. drop (next + c.min-count.result) xs ≡ drop piece_size left) held (left-is c.deref.result.now left next c.min-count.result piece_size shown c.min-count.ensures)
