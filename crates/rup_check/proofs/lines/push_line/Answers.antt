use Rattle.std.proofs.Common.{◌∙◌, ◌++◌, map, ap, arith}
use Rattle.rup_check.specs.declared.lines.Span.{Span}
use Rattle.rup_check.specs.Packed.{line_in}
use Rattle.rup_check.proofs.PackedLines.{lines-pushed, twice, within-pushed}
use Rattle.rup_check.proofs.lines.push_line.Goals as goal

pub returns-in_err-push_lits-clause-behind : goal.returns-in_err-push_lits-clause-behind
returns-in_err-push_lits-clause-behind c = let first = c.in_err-push_lits.ensures in (first.0, first.1)

pub returns-in_err-push_hints-clause-behind : goal.returns-in_err-push_hints-clause-behind
returns-in_err-push_hints-clause-behind c =
    let first = c.in_ok-push_lits.ensures in
    let last = c.in_err-push_hints.ensures in (first.0 ++ last.0, twice _ _ _ _ _ first.1 last.1)

pub returns-in_err-push-clause-behind : goal.returns-in_err-push-clause-behind
returns-in_err-push-clause-behind c =
    let first = c.in_ok-push_lits.ensures in
    let last = c.in_ok-push_hints.ensures in (first.0 ++ last.0, twice _ _ _ _ _ first.1 last.1)

pub returns-clause-behind : goal.returns-clause-behind
returns-clause-behind c =
    let first = c.in_ok-push_lits.ensures in
    let last = c.in_ok-push_hints.ensures in (first.0 ++ last.0, twice _ _ _ _ _ first.1 last.1)

pub returns-clause-pushed : goal.returns-clause-pushed
returns-clause-pushed c =
    let first = c.in_ok-push_lits.ensures in
    let last = c.in_ok-push_hints.ensures in
    let span : Span = record { lits = c.len-start.result; hints = c.len-middle.result; end = c.len.result } in
    ap (map (line_in c.push_hints.new.bytes.items)) c.in_ok-push.ensures.items
    ∙ lines-pushed c.args.bytes.now.items c.push_lits.new.bytes.items c.push_hints.new.bytes.items first.0 last.0 c.args.spans.now.items span c.args.lits.now c.args.hints.now c.requires first.1 last.1 first.2 last.2 (omega (arith, c.len-start.ensures, c.args.bytes.now.ok)) (omega (arith, c.len-middle.ensures, c.push_lits.new.bytes.ok)) (omega (arith, c.len.ensures, c.push_hints.new.bytes.ok))

pub returns-clause-within : goal.returns-clause-within
returns-clause-within c =
    let first = c.in_ok-push_lits.ensures in
    let last = c.in_ok-push_hints.ensures in
    let span : Span = record { lits = c.len-start.result; hints = c.len-middle.result; end = c.len.result } in
    rw c.in_ok-push.ensures.items (within-pushed c.args.bytes.now.items c.push_lits.new.bytes.items c.push_hints.new.bytes.items first.0 last.0 c.args.spans.now.items span c.requires first.1 last.1 (omega (arith, c.len-start.ensures, c.args.bytes.now.ok)) (omega (arith, c.len-middle.ensures, c.push_lits.new.bytes.ok)) (omega (arith, c.len.ensures, c.push_hints.new.bytes.ok)))
