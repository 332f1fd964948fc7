use Rattle.std.proofs.Common.{◌∙◌, ◌-◌, [], arith, map, sym}
use Rattle.std.proofs.lemmas.List.{length-map}
use Rattle.csv.specs.Records.{fields_of}
use Rattle.pack_defs.specs.Lists.{is_empty}
use Rattle.constraint_files.specs.Records.{trimmed}
use Rattle.constraint_files.proofs.FieldLemmas.{empty-at, trailing-next, trailing-none, trailing-stop}
use Rattle.constraint_files.proofs.record.count_kept.Goals as goal

pub loop-kept-preserved : goal.loop-kept-preserved
loop-kept-preserved c =
    let loop = c.loop-kept in
    let fs = fields_of c.args.row.now in
    let same = length-map fs trimmed in
    let passes = sym (empty-at fs (loop.kept - 1) (omega arith)) ∙ sym c.is_blank_at.ensures ∙ c.if-is_blank_at.true in
    record {
      fits = omega arith;
      kept = loop.invariant.kept ∙ trailing-next is_empty (map trimmed fs) loop.kept [] (omega arith) (omega (arith, same)) passes;
    }

pub returns-else-is_blank_at-clause-kept : goal.returns-else-is_blank_at-clause-kept
returns-else-is_blank_at-clause-kept c =
    let loop = c.loop-kept in
    let fs = fields_of c.args.row.now in
    let same = length-map fs trimmed in
    let stays = sym (empty-at fs (loop.kept - 1) (omega arith)) ∙ sym c.is_blank_at.ensures ∙ c.if-is_blank_at.false in
    loop.invariant.kept ∙ trailing-stop is_empty (map trimmed fs) loop.kept [] (omega arith) (omega (arith, same)) stays

pub returns-after-loop-kept-clause-kept : goal.returns-after-loop-kept-clause-kept
returns-after-loop-kept-clause-kept c =
    let loop = c.loop-kept in
    loop.invariant.kept ∙ trailing-none is_empty (map trimmed (fields_of c.args.row.now)) loop.kept (omega arith)
