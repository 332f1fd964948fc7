use Rattle.std.proofs.Common.{◌≡◌, ◌∙◌, codes, drop, false, refl, rules, sym, true}
use Rattle.std.specs.Option.{ok_or}
use Rattle.std.specs.Str.{bytes_eq}
use Rattle.std.proofs.lemmas.Result.{err_from_is_err_and}
use Rattle.constraint_files.specs.Domains.{domain_with_channels}
use Rattle.constraint_files.specs.Field.{numbers}
use Rattle.constraint_files.specs.declared.error.RowWhy.TheVariants.{BadNumber}
use Rattle.constraint_files.proofs.DomainLemmas.{domain_row-is, without-first, without-second}
use Rattle.constraint_files.proofs.ReadsLemmas.{takes-on}
use Rattle.constraint_files.proofs.domain_row.domain_row.Goals as goal
use Rattle.constraint_files.proofs.domain_row.domain_row.Goals.{in_default-via-in-Some+in_default, in_default-via-in_default}

pub returns-in_default : goal.returns-in_default
returns-in_default c =
    elim c.in_default.branch [
      | in_default-via-in-Some+in_default w ↦ without-second c.args.fields.now (sym (rw w.in_default.is-1 at c.get-2.ensures))
      | in_default-via-in_default w ↦ without-first c.args.fields.now (sym (rw w.in_default.is-0 at c.get.ensures))
    ]

pub returns-then-ne : goal.returns-then-ne
returns-then-ne c =
    let first = sym (rw c.in-Some-Some.is-0 at c.get.ensures) in
    let second = sym (rw c.in-Some-Some.is-1 at c.get-2.ensures) in
    let no : bytes_eq c.in-Some-Some.key.now (codes "DOMAIN") ≡ false = search rules in
    rw (domain_row-is c.args.fields.now c.in-Some-Some.key.now c.in-Some-Some.field-0-1.now first second, no) refl

pub returns-in_default-number_at : goal.returns-in_default-number_at
returns-in_default-number_at c =
    let first = sym (rw c.in-Some-Some.is-0 at c.get.ensures) in
    let second = sym (rw c.in-Some-Some.is-1 at c.get-2.ensures) in
    let yes : bytes_eq c.in-Some-Some.key.now (codes "DOMAIN") ≡ true = search rules in
    let none = sym c.number_at.ensures ∙ c.in_default-number_at.is in
    rw (domain_row-is c.args.fields.now c.in-Some-Some.key.now c.in-Some-Some.field-0-1.now first second, yes, none) refl

pub returns-in_err-named : goal.returns-in_err-named
returns-in_err-named c =
    let first = sym (rw c.in-Some-Some.is-0 at c.get.ensures) in
    let second = sym (rw c.in-Some-Some.is-1 at c.get-2.ensures) in
    let yes : bytes_eq c.in-Some-Some.key.now (codes "DOMAIN") ≡ true = search rules in
    let station = sym c.number_at.ensures ∙ c.in-Some.is in
    let p = err_from_is_err_and c.from_residual.result c.from_residual.ensures.1 in
    rw (domain_row-is c.args.fields.now c.in-Some-Some.key.now c.in-Some-Some.field-0-1.now first second, yes, station, p.1, p.2)
    (takes-on (domain_with_channels c.in-Some.station) (ok_or (numbers (drop 2 c.args.fields.now)) BadNumber) c.in_err-named.field-0.0 c.in_err-named.ensures)

pub returns : goal.returns
returns c =
    let first = sym (rw c.in-Some-Some.is-0 at c.get.ensures) in
    let second = sym (rw c.in-Some-Some.is-1 at c.get-2.ensures) in
    let yes : bytes_eq c.in-Some-Some.key.now (codes "DOMAIN") ≡ true = search rules in
    let station = sym c.number_at.ensures ∙ c.in-Some.is in
    let named = c.in_ok-named.ensures in
    rw (domain_row-is c.args.fields.now c.in-Some-Some.key.now c.in-Some-Some.field-0-1.now first second, yes, station, named) (rw c.as_slice.ensures at c.domain_with_channels.ensures)
