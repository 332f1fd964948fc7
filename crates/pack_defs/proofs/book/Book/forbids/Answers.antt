use Rattle.std.proofs.Common.{◌≡◌, ◌∙◌, true, ap}
use Rattle.pack_defs.specs.Book.{pairs_ascend}
use Rattle.pack_defs.proofs.BookLemmas.{forbidden-one_way, forbidden-other_way}
use Rattle.pack_defs.proofs.Searches.{found-pair}
use Rattle.pack_defs.proofs.book.Book.forbids.Goals as goal

pub returns-then-is_ok : goal.returns-then-is_ok
returns-then-is_ok c =
    let up : pairs_ascend c.deref.result.now ≡ true = rw c.deref.ensures.value c.self.invariant.0.pairs in
    let one = found-pair c.deref.result.now (record { f = c.args.station; a = c.args.a; g = c.args.other; b = c.args.b }) c.binary_search.result c.binary_search.ensures.bound c.binary_search.ensures.position up in
    forbidden-one_way c.args.self.now c.deref.result.now c.args.station c.args.a c.args.other c.args.b c.is_ok.result
    (c.deref.ensures.value ∙ ap (λ b. b.pairs) c.self.view_is) (c.is_ok.ensures.value ∙ one) c.if-is_ok.true

pub returns-else-is_ok : goal.returns-else-is_ok
returns-else-is_ok c =
    let up : pairs_ascend c.deref.result.now ≡ true = rw c.deref.ensures.value c.self.invariant.0.pairs in
    let up_again : pairs_ascend c.deref-else-is_ok.result.now ≡ true = rw c.deref-else-is_ok.ensures.value c.self.invariant.0.pairs in
    let one = found-pair c.deref.result.now (record { f = c.args.station; a = c.args.a; g = c.args.other; b = c.args.b }) c.binary_search.result c.binary_search.ensures.bound c.binary_search.ensures.position up in
    let other = found-pair c.deref-else-is_ok.result.now (record { f = c.args.other; a = c.args.b; g = c.args.station; b = c.args.a }) c.binary_search-else-is_ok.result c.binary_search-else-is_ok.ensures.bound c.binary_search-else-is_ok.ensures.position up_again in
    forbidden-other_way c.args.self.now c.args.station c.args.a c.args.other c.args.b c.is_ok.result c.is_ok-else-is_ok.result c.deref.result.now c.deref-else-is_ok.result.now
    (c.deref.ensures.value ∙ ap (λ b. b.pairs) c.self.view_is) (c.deref-else-is_ok.ensures.value ∙ ap (λ b. b.pairs) c.self.view_is) (c.is_ok.ensures.value ∙ one) c.if-is_ok.false (c.is_ok-else-is_ok.ensures.value ∙ other)
