use Rattle.std.proofs.Common.{◌≡◌, ◌∙◌, ◌∷◌, [], ℕ, Vec, Global, get_or, arith, refl}
use Rattle.std.proofs.lemmas.List.{map-append, take_more}
use Rattle.constraint_files.proofs.FieldLemmas.{field-at}
use Rattle.constraint_files.proofs.WholeLineLemmas.{some_is}
use Rattle.constraint_files.proofs.records.own_fields.Goals as goal

pub unreachable-requires : goal.unreachable-requires
unreachable-requires c =
    let there = field-at c.args.fields.now c.loop-i.i [] (omega arith) in
    cc (c.in-None.ensures ∙ there)

pub loop-i-preserved : goal.loop-i-preserved
loop-i-preserved c =
    let fields = c.args.fields.now in
    let i = c.loop-i.i in
    let there = field-at fields i [] (omega arith) in
    let field : c.in-Some.field.now ≡ get_or fields i [] = some_is _ _ (c.in-Some.ensures ∙ there) in
    let copied = c.in_ok-from_slice-in-Some.field-0 in
    rw (c.in_ok-push-in-Some.ensures.items, map-append (λ (v : Vec ℕ Global). v.items) c.loop-i.own.items (copied ∷ []), c.loop-i.invariant, c.in_ok-from_slice-in-Some.ensures.items, field, take_more fields i [] (omega arith))
    refl
