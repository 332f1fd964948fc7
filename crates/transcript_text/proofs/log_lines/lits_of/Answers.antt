use Rattle.std.proofs.Common.{◌≡◌, ◌∙◌, Some, ap, rules, sym}
use Rattle.lrat_text.specs.declared.field.Field.TheVariants.{End, Number}
use Rattle.transcript_text.specs.Fields.{plain_field}
use Rattle.transcript_text.specs.LogLines.{lits_at}
use Rattle.transcript_text.proofs.CursorLemmas.{left_fields, left-gone}
use Rattle.transcript_text.proofs.Fronts.{lits-more, lits-end, lits-bad, lits-none}
use Rattle.transcript_text.proofs.log_lines.lits_of.Goals as goal

pub loop-left-preserved : goal.loop-left-preserved
loop-left-preserved c =
    let said : plain_field c.first_field-said.result.0.now ≡ Some (Number c.in-Some-Number.lit) = search rules in
    rw c.in_ok-push-in-Some-Number.ensures.items
    (lits-more c.loop-left.lits.items c.args.n c.first_field-said.result.0.now (left_fields c.loop-left.left) (left_fields c.first_field-said.result.2) c.in-Some-Number.lit (lits_at c.args.n (left_fields c.args.fields)) (ap left_fields c.in-Some.is ∙ c.first_field-said.ensures.fields) said c.loop-left.invariant)

pub returns-in-Some-End : goal.returns-in-Some-End
returns-in-Some-End c =
    let said : plain_field c.first_field-said.result.0.now ≡ Some End = search rules in
    lits-end c.loop-left.lits.items c.args.n c.first_field-said.result.0.now (left_fields c.loop-left.left) (left_fields c.first_field-said.result.2) (lits_at c.args.n (left_fields c.args.fields)) (ap left_fields c.in-Some.is ∙ c.first_field-said.ensures.fields) said c.loop-left.invariant

pub returns-in-None : goal.returns-in-None
returns-in-None c = lits-bad c.loop-left.lits.items c.args.n c.first_field-said.result.0.now (left_fields c.loop-left.left) (left_fields c.first_field-said.result.2) (lits_at c.args.n (left_fields c.args.fields)) (ap left_fields c.in-Some.is ∙ c.first_field-said.ensures.fields) (sym c.first_field-said.ensures.said ∙ c.in-None.is) c.loop-left.invariant

pub returns : goal.returns
returns c = lits-none c.loop-left.lits.items c.args.n (left_fields c.loop-left.left) (lits_at c.args.n (left_fields c.args.fields)) (left-gone c.loop-left.left c.in_default.is) c.loop-left.invariant
