use Rattle.std.proofs.Common.{Bor, List, ℕ, ◌≡◌, ◌∙◌, ◌+◌, ◌++◌, ap, sym, refl, inl, inr, length, Some, ◌∷◌, []}
use Rattle.std.proofs.lemmas.List.{length-append}
use Rattle.std.proofs.lemmas.Result.{err_from_is_err_and}
use Rattle.csv.specs.Reading.{Reached, default_config, strip_bom}
use Rattle.csv.specs.Records.{fields_of}
use Rattle.csv.specs.declared.parser.State.TheVariants as st
use Rattle.csv.proofs.ReadFacts.{rows-end, rows-more}
use Rattle.constraint_files.specs.PlainLines.{after_raws, raw_records}
use Rattle.constraint_files.proofs.CsvLemmas.{rows_from}
use Rattle.constraint_files.proofs.RunLemmas.{next-stops, raws-more, refused-row}
use Rattle.constraint_files.proofs.WholeLineLemmas.{are-records}
use Rattle.constraint_files.proofs.plain_lines.add_records.Goals as goal

pub loop-row-init : goal.loop-row-init
unfolding Reached after_raws
loop-row-init g c =
    let fr = c.from_reader-reader.ensures in
    let e = c.flexible.ensures in
    let h = c.has_headers.ensures in
    let start = c.into_iter-row-iterator.ensures.into_iter_gives ∙ refl in
    let rdr = c.into_byte_records-row-items.ensures.rdr in
    let left = c.into_byte_records-row-items.ensures.left in
    rw (start, rdr) (
      rw (e, h) at fr.trim ∙ c.new.ensures.trim,
      inr (inr (rw (e, h) at fr.has_headers, fr.headers)),
      left,
      rw (e, h) at fr.config ∙ c.new.ensures.config,
      strip_bom c.args.bytes.now,
      fr.source,
      [],
      (sym fr.state, refl),
      refl,
      refl,
    )

pub loop-row-preserved : goal.loop-row-preserved
loop-row-preserved g c =
    let inv = c.loop-row.invariant in
    let fields = fields_of c.in-Ok.row in
    let s = rw (c.in-Some.is, c.in-Ok.is) at ((c.next.ensures.steps inv.2 inv.0).0 inv.1) in
    let m = rows-more (λ (s : Bor (List ℕ)). Some s.now) c.loop-row.row-iterator.rdr c.next.new.self.rdr fields default_config st.StartRecord (strip_bom c.args.bytes.now) inv.4 inv.6 inv.3 inv.5 inv.7 s.0 in
    let added = c.in_ok-before.ensures in
    let count : length (inv.6 ++ (fields ∷ [])) ≡ c.in_ok-before.before = length-append inv.6 (fields ∷ []) ∙ (ap (λ n. n + 1) inv.9 ∙ sym added.1) in
    (s.0.3 ∙ inv.0, inl s.1, s.2, s.0.2 ∙ inv.3, m.0, m.1, inv.6 ++ (fields ∷ []), m.2, raws-more g.T.Table.add c.args.table c.loop-row.table _ inv.6 fields inv.8 added.0, count)

pub returns-in_err-before : goal.returns-in_err-before
returns-in_err-before g c =
    let inv = c.loop-row.invariant in
    let fields = fields_of c.in-Ok.row in
    let s = rw (c.in-Some.is, c.in-Ok.is) at ((c.next.ensures.steps inv.2 inv.0).0 inv.1) in
    let m = rows-more (λ (s : Bor (List ℕ)). Some s.now) c.loop-row.row-iterator.rdr c.next.new.self.rdr fields default_config st.StartRecord (strip_bom c.args.bytes.now) inv.4 inv.6 inv.3 inv.5 inv.7 s.0 in
    let p = err_from_is_err_and c.from_residual.result c.from_residual.ensures.1 in
    rw (p.1, p.2)
    (next-stops g.T.Table.add c.args.table c.loop-row.table c.add_next.new.table (raw_records c.args.bytes.now) inv.6 (rows_from c.next.new.self.rdr.state [] [] m.0) fields c.loop-row.before c.in_err-before.field-0.0
    (refused-row c.next.new.self.rdr.state (strip_bom c.args.bytes.now) m.0 inv.6 fields m.2) inv.9 inv.8 c.in_err-before.ensures)

pub returns : goal.returns
returns g c =
    let inv = c.loop-row.invariant in
    let s = rw c.in-None.is at ((c.next.ensures.steps inv.2 inv.0).0 inv.1) in
    let all = are-records default_config (strip_bom c.args.bytes.now) inv.6
    (c.loop-row.row-iterator.rdr.state, inv.4, inv.7, rows-end (λ (s : Bor (List ℕ)). Some s.now) c.loop-row.row-iterator.rdr c.next.new.self.rdr [] default_config inv.4 inv.3 inv.5 s) in
    rw (← all) inv.8
