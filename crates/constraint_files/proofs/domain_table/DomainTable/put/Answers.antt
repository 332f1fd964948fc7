use Rattle.std.proofs.Common.{◌≡◌, ◌∙◌, refl, sym, ap, true, false, nat_cmp, arith, length}
use Rattle.std.specs.Map.{lookup}
use Rattle.std.specs.Option.{is_some}
use Rattle.std.specs.BTreeMap.{is_at}
use Rattle.std.proofs.lemmas.Bool.{le-leb, lt-leb}
use Rattle.std.proofs.lemmas.List.{length-map}
use Rattle.constraint_files.proofs.TableLemmas.{as_domain, has-row, with-row}
use Rattle.constraint_files.proofs.domain_table.DomainTable.put.Goals as goal

pub returns-then-is_some : goal.returns-then-is_some
returns-then-is_some c =
    let es = c.self.inside.rows.entries in
    let s = c.args.domain.station in
    let found : is_some (lookup (is_at (nat_cmp s)) es) ≡ true = ap is_some (sym c.in_ok-insert.ensures.old) ∙ sym c.is_some.ensures ∙ c.if-is_some.true in
    rw (← c.self.view_is, has-row es s, found) refl

pub returns-then-is_full : goal.returns-then-is_full
returns-then-is_full c =
    let es = c.self.inside.rows.entries in
    let s = c.args.domain.station in
    let new : is_some (lookup (is_at (nat_cmp s)) es) ≡ false = ap is_some (sym c.in_ok-insert.ensures.old) ∙ sym c.is_some.ensures ∙ c.if-is_some.false in
    rw (← c.self.view_is, has-row es s, new, length-map es as_domain, le-leb 65536 (length es) (omega arith)) refl

pub returns : goal.returns
returns c =
    let es = c.self.inside.rows.entries in
    let s = c.args.domain.station in
    let new : is_some (lookup (is_at (nat_cmp s)) es) ≡ false = ap is_some (sym c.in_ok-insert.ensures.old) ∙ sym c.is_some.ensures ∙ c.if-is_some.false in
    rw (← c.self.view_is, has-row es s, new, length-map es as_domain, lt-leb 65536 (length es) (omega arith), c.in_ok-insert.ensures.entries, with-row es s c.args.domain.channels new) refl
