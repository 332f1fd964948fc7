use Rattle.std.proofs.Common.{◌∙◌, sym, refl, drop}
use Rattle.std.specs.Option.{ok_or}
use Rattle.std.proofs.lemmas.Result.{err_from_is_err_and}
use Rattle.constraint_files.specs.Field.{numbers}
use Rattle.constraint_files.specs.PairTable.{row_on}
use Rattle.constraint_files.specs.declared.error.RowWhy.TheVariants.{BadNumber}
use Rattle.constraint_files.proofs.ReadsLemmas.{takes-on}
use Rattle.constraint_files.proofs.RowLemmas.{interference_row-is, without-first, without-fourth}
use Rattle.constraint_files.proofs.interference_row.interference_row.Goals as goal
use Rattle.constraint_files.proofs.interference_row.interference_row.Goals.{in_default-via-in-Some+in_default, in_default-via-in_default, in_default-2-via-in-Some+in-Some+in_default, in_default-2-via-in-Some+in_default, in_default-2-via-in_default}

pub returns-in_default : goal.returns-in_default
returns-in_default c =
    elim c.in_default.branch [
      | in_default-via-in-Some+in_default w ↦ without-fourth c.args.fields.now (sym (rw w.in_default.is-1 at c.get-2.ensures))
      | in_default-via-in_default w ↦ without-first c.args.fields.now (sym (rw w.in_default.is-0 at c.get.ensures))
    ]

pub returns-in_default-offset_of : goal.returns-in_default-offset_of
returns-in_default-offset_of c =
    let fields = c.args.fields.now in
    let first = sym (rw c.in-Some-Some.is-0 at c.get.ensures) in
    let fourth = sym (rw c.in-Some-Some.is-1 at c.get-2.ensures) in
    let is = interference_row-is fields c.in-Some-Some.key.now c.in-Some-Some.field-0-1.now first fourth in
    let none = sym c.offset_of.ensures ∙ c.in_default-offset_of.is in
    rw (is, none) refl

pub returns-in_default-2 : goal.returns-in_default-2
returns-in_default-2 c =
    let fields = c.args.fields.now in
    let first = sym (rw c.in-Some-Some.is-0 at c.get.ensures) in
    let fourth = sym (rw c.in-Some-Some.is-1 at c.get-2.ensures) in
    let is = interference_row-is fields c.in-Some-Some.key.now c.in-Some-Some.field-0-1.now first fourth in
    let offset = sym c.offset_of.ensures ∙ c.in-Some.is in
    elim c.in_default-2.branch [
      | in_default-2-via-in-Some+in-Some+in_default w ↦
          let a = sym c.number_at.ensures ∙ w.in_default-2.is-0 in
          let b = sym c.number_at-2.ensures ∙ w.in_default-2.is-1 in
          let s = sym c.number_at-3.ensures ∙ w.in_default-2.is-2 in
          rw (is, offset, a, b, s) refl
      | in_default-2-via-in-Some+in_default w ↦
          let a = sym c.number_at.ensures ∙ w.in_default-2.is-0 in
          let b = sym c.number_at-2.ensures ∙ w.in_default-2.is-1 in
          rw (is, offset, a, b) refl
      | in_default-2-via-in_default w ↦
          let a = sym c.number_at.ensures ∙ w.in_default-2.is-0 in
          rw (is, offset, a) refl
    ]

pub returns-in_err-others : goal.returns-in_err-others
returns-in_err-others c =
    let fields = c.args.fields.now in
    let first = sym (rw c.in-Some-Some.is-0 at c.get.ensures) in
    let fourth = sym (rw c.in-Some-Some.is-1 at c.get-2.ensures) in
    let is = interference_row-is fields c.in-Some-Some.key.now c.in-Some-Some.field-0-1.now first fourth in
    let offset = sym c.offset_of.ensures ∙ c.in-Some.is in
    let some = c.in-Some-Some-Some in
    let a = sym c.number_at.ensures ∙ some.is-0 in
    let b = sym c.number_at-2.ensures ∙ some.is-1 in
    let s = sym c.number_at-3.ensures ∙ some.is-2 in
    let p = err_from_is_err_and c.from_residual.result c.from_residual.ensures.1 in
    rw (is, offset, a, b, s, p.1, p.2)
    (takes-on (row_on c.in-Some.offset some.a some.b some.station) (ok_or (numbers (drop 4 fields)) BadNumber) c.in_err-others.field-0.0 c.in_err-others.ensures)

pub returns-in_err-row_on : goal.returns-in_err-row_on
returns-in_err-row_on c =
    let fields = c.args.fields.now in
    let first = sym (rw c.in-Some-Some.is-0 at c.get.ensures) in
    let fourth = sym (rw c.in-Some-Some.is-1 at c.get-2.ensures) in
    let is = interference_row-is fields c.in-Some-Some.key.now c.in-Some-Some.field-0-1.now first fourth in
    let offset = sym c.offset_of.ensures ∙ c.in-Some.is in
    let some = c.in-Some-Some-Some in
    let a = sym c.number_at.ensures ∙ some.is-0 in
    let b = sym c.number_at-2.ensures ∙ some.is-1 in
    let s = sym c.number_at-3.ensures ∙ some.is-2 in
    let p = err_from_is_err_and c.from_residual-in_err-row_on.result c.from_residual-in_err-row_on.ensures.1 in
    rw (is, offset, a, b, s, c.in_ok-others.ensures, p.1, p.2) (sym c.row_on.ensures ∙ c.in_err-row_on.was)

pub returns : goal.returns
returns c =
    let fields = c.args.fields.now in
    let first = sym (rw c.in-Some-Some.is-0 at c.get.ensures) in
    let fourth = sym (rw c.in-Some-Some.is-1 at c.get-2.ensures) in
    let is = interference_row-is fields c.in-Some-Some.key.now c.in-Some-Some.field-0-1.now first fourth in
    let offset = sym c.offset_of.ensures ∙ c.in-Some.is in
    let some = c.in-Some-Some-Some in
    let a = sym c.number_at.ensures ∙ some.is-0 in
    let b = sym c.number_at-2.ensures ∙ some.is-1 in
    let s = sym c.number_at-3.ensures ∙ some.is-2 in
    rw (is, offset, a, b, s, c.in_ok-others.ensures) (sym c.row_on.ensures ∙ c.in_ok-row_on.was)
