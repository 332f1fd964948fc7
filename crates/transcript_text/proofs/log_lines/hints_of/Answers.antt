use Rattle.std.proofs.Common.{◌≡◌, ◌∙◌, Some, ap, sym, rules, true, false}
use Rattle.lrat_text.specs.declared.field.Field.TheVariants.{End, Number}
use Rattle.transcript_text.specs.Fields.{plain_field}
use Rattle.transcript_text.specs.LogLines.{hints_at}
use Rattle.transcript_text.proofs.CursorLemmas.{left_fields, left-gone, left-none, left-some}
use Rattle.transcript_text.proofs.Fronts.{hints-more, hints-negative, hints-end, hints-behind, hints-bad, hints-none}
use Rattle.transcript_text.proofs.log_lines.hints_of.Goals as goal

pub returns-then-not-lit : goal.returns-then-not-lit
returns-then-not-lit c =
    let said : plain_field c.first_field-said.result.0.now ≡ Some (Number c.in-Some-Number.lit) = search rules in
    let p : c.in-Some-Number.lit.positive ≡ false = search rules in
    hints-negative c.loop-left.hints.items c.args.n c.first_field-said.result.0.now (left_fields c.loop-left.left) (left_fields c.first_field-said.result.2) c.in-Some-Number.lit (hints_at c.args.n (left_fields c.args.fields)) (ap left_fields c.in-Some.is ∙ c.first_field-said.ensures.fields) said p c.loop-left.invariant

pub loop-left-preserved : goal.loop-left-preserved
loop-left-preserved c =
    let said : plain_field c.first_field-said.result.0.now ≡ Some (Number c.in-Some-Number.lit) = search rules in
    let p : c.in-Some-Number.lit.positive ≡ true = search rules in
    rw c.in_ok-push-in-Some-Number.ensures.items
    (hints-more c.loop-left.hints.items c.args.n c.first_field-said.result.0.now (left_fields c.loop-left.left) (left_fields c.first_field-said.result.2) c.in-Some-Number.lit (hints_at c.args.n (left_fields c.args.fields)) (ap left_fields c.in-Some.is ∙ c.first_field-said.ensures.fields) said p c.loop-left.invariant)

pub returns-in-None-left : goal.returns-in-None-left
returns-in-None-left c =
    let said : plain_field c.first_field-said.result.0.now ≡ Some End = search rules in
    hints-end c.loop-left.hints.items c.args.n c.first_field-said.result.0.now (left_fields c.loop-left.left) (left_fields c.first_field-said.result.2) (hints_at c.args.n (left_fields c.args.fields)) (ap left_fields c.in-Some.is ∙ c.first_field-said.ensures.fields) said (left-none c.first_field-said.result.2 c.in-None-left.is) c.loop-left.invariant

pub returns-in-Some-left : goal.returns-in-Some-left
returns-in-Some-left c =
    let said : plain_field c.first_field-said.result.0.now ≡ Some End = search rules in
    hints-behind c.loop-left.hints.items c.args.n c.first_field-said.result.0.now (left_fields c.loop-left.left) (left_fields c.first_field-said.result.2) (hints_at c.args.n (left_fields c.args.fields)) (ap left_fields c.in-Some.is ∙ c.first_field-said.ensures.fields) said (left-some c.first_field-said.result.2 c.in-Some-left.field-0 c.in-Some-left.is) c.loop-left.invariant

pub returns-in-None : goal.returns-in-None
returns-in-None c = hints-bad c.loop-left.hints.items c.args.n c.first_field-said.result.0.now (left_fields c.loop-left.left) (left_fields c.first_field-said.result.2) (hints_at c.args.n (left_fields c.args.fields)) (ap left_fields c.in-Some.is ∙ c.first_field-said.ensures.fields) (sym c.first_field-said.ensures.said ∙ c.in-None.is) c.loop-left.invariant

pub returns : goal.returns
returns c = hints-none c.loop-left.hints.items c.args.n (left_fields c.loop-left.left) (hints_at c.args.n (left_fields c.args.fields)) (left-gone c.loop-left.left c.in_default.is) c.loop-left.invariant
