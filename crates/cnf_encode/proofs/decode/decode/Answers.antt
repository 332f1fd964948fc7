use Rattle.std.proofs.Common.{◌≡◌, ◌∙◌, sym, subst}
use Rattle.std.proofs.lemmas.Result.{IfOk-weaker}
use Rattle.pack_defs.specs.Packing.{IsPacking}
use Rattle.cnf_encode.specs.Decode.{decoded, listed_model}
use Rattle.cnf_encode.proofs.Decoding.{decoded-packing, decoded-whole, whole-ascends}
use Rattle.cnf_encode.proofs.decode.decode.Goals as goal

pub of-requires : goal.of-requires
of-requires c =
    let entries = c.deref-2.ensures.value ∙ decoded-whole c.args.book.now c.args.set.now (listed_model c.args.model.now) _ c.loop-i.i c.loop-i-test.false c.loop-i.invariant in
    whole-ascends c.args.book.now c.args.set.now (listed_model c.args.model.now) c.deref-2.result.now c.requires.ascending entries

pub returns-clause-packing : goal.returns-clause-packing
returns-clause-packing c =
    let book = c.args.book.now in
    let set = c.args.set.now in
    let model = listed_model c.args.model.now in
    let entries : c.deref-2.result.now ≡ decoded book set model = c.deref-2.ensures.value ∙ decoded-whole book set model _ c.loop-i.i c.loop-i-test.false c.loop-i.invariant in
    let packing : IsPacking book set c.deref-2.result.now = subst (IsPacking book set) (sym entries) (decoded-packing book set model c.requires.model) in
    IfOk-weaker c.of.result (λ m. m ≡ c.deref-2.result.now) (IsPacking book set) (λ m e. subst (IsPacking book set) (sym e) packing) c.of.ensures
