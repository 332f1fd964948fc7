use Rattle.std.proofs.Common.{◌≡◌, ◌∙◌, ◌<◌, sym, true, refl, rules, arith, length}
use Rattle.std.specs.Result.{is_ok}
use Rattle.std.proofs.lemmas.List.{append-nil}
use Rattle.constraint_files.proofs.NumberLemmas.{numbers-more, numbers-none, numbers-refused}
use Rattle.constraint_files.proofs.field.numbers_from.Goals as goal

pub returns-in-None : goal.returns-in-None
returns-in-None c =
    let fields = c.args.fields.now in
    let lt : c.loop-i.i < length fields = rw c.len-i-end.ensures at c.loop-i-test.true in
    let none = numbers-refused fields c.loop-i.i lt (sym c.number_at.ensures ∙ c.in-None.is) in
    rw (← (rw none at c.loop-i.invariant)) refl

pub loop-i-preserved : goal.loop-i-preserved
loop-i-preserved c =
    let fields = c.args.fields.now in
    let lt : c.loop-i.i < length fields = rw c.len-i-end.ensures at c.loop-i-test.true in
    let good : is_ok c.push.result ≡ true = search rules in
    let items = rw good at c.push.ensures.items in
    rw items (numbers-more fields c.loop-i.i c.in-Some.n c.loop-i.list.items lt (sym c.number_at.ensures ∙ c.in-Some.is) ∙ c.loop-i.invariant)

pub returns : goal.returns
returns c =
    let fields = c.args.fields.now in
    let none = numbers-none fields c.loop-i.i (omega arith) in
    rw (c.from_vec.ensures, ← (rw (none, append-nil) at c.loop-i.invariant)) refl
