use Rattle.std.proofs.Common.{◌==◌, ◌∙◌, ap, filter}
use Rattle.pack_defs.proofs.book.Book.pairs_to.Goals as goal

pub pairs_with_second-requires : goal.pairs_with_second-requires
pairs_with_second-requires c = rw c.deref.ensures.value c.self.invariant.2.rises

pub returns : goal.returns
returns c =
    c.pairs_with_second.ensures ∙ ap (filter (λ p. p.g == c.args.g)) c.deref.ensures.value ∙ c.self.invariant.2.same c.args.g ∙ ap (λ b. filter (λ p. p.g == c.args.g) b.pairs) c.self.view_is
