use Rattle.std.proofs.Common.{◌∙◌, arith, refl, sym}
use Rattle.std.proofs.lemmas.Bool.{eqb-true}
use Rattle.std.proofs.lemmas.List.{nil_from_length}
use Rattle.owner_line.specs.OwnersOf.{owners_of}
use Rattle.owner_line.proofs.OwnerLineLemmas.{line-next, line-stops, lines-none}
use Rattle.owner_line.proofs.read.read_owners.Goals as goal

pub loop-rest-init : goal.loop-rest-init
unfolding owners_of
loop-rest-init c = record {
  lines = rw c.new-owners.ensures refl;
  few = omega arith;
}

pub loop-rest-preserved : goal.loop-rest-preserved
loop-rest-preserved c =
    let loop = c.loop-rest in
    let next = line-next c.args.rounds c.args.ids.now loop.owners loop.number loop.rest.now c.split_line.result.0.now c.split_line.result.1.now c.split_line.ensures.lines in
    let done = rw c.in-Ok.is at c.add_line.ensures in
    record {
      lines = sym (rw done at next) ∙ loop.invariant.lines;
      few = omega (arith, c.split_line.ensures.shorter, loop.invariant.few);
    }

pub returns-in-Err-Refused : goal.returns-in-Err-Refused
returns-in-Err-Refused c =
    let loop = c.loop-rest in
    let refused = rw (c.in-Err-Refused.is, c.in-Err-Refused.field-0-is) at c.add_line.ensures in
    rw c.in-Err-Refused.field-0-is (sym loop.invariant.lines ∙ line-stops c.args.rounds c.args.ids.now loop.owners loop.number loop.rest.now c.split_line.result.0.now c.split_line.result.1.now c.in-Err-Refused.why c.split_line.ensures.lines refused)

pub returns : goal.returns
returns c =
    let none = nil_from_length c.loop-rest.rest.now (eqb-true _ 0 (sym c.is_empty.ensures ∙ c.loop-rest-test.false)) in
    let all = rw none at c.loop-rest.invariant.lines in
    sym all ∙ lines-none c.args.rounds c.args.ids.now c.loop-rest.owners c.loop-rest.number
