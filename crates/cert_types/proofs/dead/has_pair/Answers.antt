use Rattle.std.proofs.Common.{◌≡◌, ◌∙◌, true, ap, subst, sym}
use Rattle.std.specs.List.{list_any}
use Rattle.pack_defs.specs.Book.{pairs_ascend}
use Rattle.pack_defs.proofs.Searches.{found-pair}
use Rattle.cert_types.specs.Refutes.{same_pair}
use Rattle.cert_types.proofs.CheckLemmas.{same-found}
use Rattle.cert_types.proofs.dead.has_pair.Goals as goal

pub returns : goal.returns
returns c =
    let pairs = c.pairs.result.now in
    let up : pairs_ascend pairs ≡ true = subst (λ ps. pairs_ascend ps ≡ true) (sym c.pairs.ensures) c.keeps_order.ensures.pairs in
    c.is_ok.ensures.value ∙ found-pair pairs c.args.pair c.binary_search.result c.binary_search.ensures.bound c.binary_search.ensures.position up
    ∙ same-found c.args.pair pairs
    ∙ ap (list_any (λ q. same_pair q c.args.pair)) c.pairs.ensures
