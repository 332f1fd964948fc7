use Rattle.std.proofs.Common.{◌≡◌, ◌<◌, ◌+◌, ◌++◌, [], ℕ, List, ap, sym, ◌∙◌, arith, length, drop, append_assoc, append-nil}
use Rattle.std.proofs.lemmas.List.{drop_all, drop_more}
use Rattle.rup_check.specs.declared.line.Line.{Line}
use Rattle.rup_check.specs.Packed.{line_at, no_line}
use Rattle.lrat_text.specs.Lines.{line_of}
use Rattle.lrat_text.specs.Write.{log_fields, log_text}
use Rattle.lrat_text.proofs.CutLemmas.{all-begins, grown, step-begins}
use Rattle.lrat_text.proofs.write.push_lines.Goals as goal

-- The text with another line appended.
pub more : (text : List ℕ) (first i : ℕ) (lines : List Line) → i < length lines
    → (text ++ line_of (log_fields (first + i) (line_at lines i))) ++ log_text (first + (i + 1)) (drop (i + 1) lines) ≡ text ++ log_text (first + i) (drop i lines)
unfolding log_text
more text first i lines h =
    let n : first + (i + 1) ≡ first + i + 1 = omega arith in
    rw (drop_more lines i no_line h, n) (append_assoc text (line_of (log_fields (first + i) (line_at lines i))) (log_text (first + i + 1) (drop (i + 1) lines)))

pub loop-i-preserved : goal.loop-i-preserved
loop-i-preserved c =
    let h : c.loop-i.i < length c.args.log.now.lines = omega (arith, c.loop-i-test.true, c.len-i-end.ensures) in
    record {
      left =
          rw (c.in_ok-push_log_line.ensures.written, c.lits.ensures, c.hints.ensures)
          (more c.loop-i.text.items c.args.first c.loop-i.i c.args.log.now.lines h ∙ c.loop-i.invariant.left);
      begins = grown _ _ _ _ c.loop-i.invariant.begins c.in_ok-push_log_line.ensures.written;
    }

pub returns-in_err-push_log_line-clause-begins : goal.returns-in_err-push_log_line-clause-begins
returns-in_err-push_log_line-clause-begins c =
    let lines : List Line = c.args.log.now.lines in
    let first : ℕ = c.args.first in
    let i : ℕ = c.loop-i.i in
    let h : i < length lines = omega (arith, c.loop-i-test.true, c.len-i-end.ensures) in
    let line : Line = record { lits = c.lits.result; hints = c.hints.result } in
    let same : line ≡ line_at lines i = λ j. record { lits = c.lits.ensures j; hints = c.hints.ensures j } in
    let behind : List ℕ = log_text (first + (i + 1)) (drop (i + 1) lines) in
    step-begins c.args.text.now.items c.loop-i.text.items c.push_log_line.new.text.items (line_of (log_fields (first + i) line)) behind (log_text (first + i) (drop i lines)) (log_text first lines)
    c.loop-i.invariant.begins c.loop-i.invariant.left
    (ap (λ (z : Line). line_of (log_fields (first + i) z) ++ behind) same ∙ more [] first i lines h)
    c.in_err-push_log_line.ensures.begins

pub returns-clause-written : goal.returns-clause-written
unfolding log_text
returns-clause-written c =
    let none : drop c.loop-i.i c.args.log.now.lines ≡ [] = drop_all c.loop-i.i c.args.log.now.lines (omega (arith, c.loop-i-test.false, c.len-i-end.ensures)) in
    sym (append-nil c.loop-i.text.items) ∙ rw none at c.loop-i.invariant.left

pub returns-clause-begins : goal.returns-clause-begins
returns-clause-begins c = all-begins _ _ _ (returns-clause-written c)
