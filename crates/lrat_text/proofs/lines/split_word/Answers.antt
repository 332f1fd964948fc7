use Rattle.std.proofs.Common.{◌≡◌, ◌<◌, ◌+◌, ℕ, List, zero, suc, true, false, add-one, arith, sym, ◌∙◌, get_or}
use Rattle.std.proofs.lemmas.Bool.{both_ways}
use Rattle.std.proofs.lemmas.List.{take_rest}
use Rattle.lrat_text.specs.Lines.{is_space_or_tab}
use Rattle.lrat_text.proofs.SplitLemmas.{word-at, one-word, no-words}
use Rattle.lrat_text.proofs.lines.split_word.Goals as goal

-- The place is not the first, whose byte is no blank.
past-first : (line : List ℕ) (i : ℕ) → is_space_or_tab (get_or line 0 0) ≡ false → is_space_or_tab (get_or line i 0) ≡ true → 0 < i
past-first line zero e f = absurd (both_ways (is_space_or_tab (get_or line 0 0)) e f)
past-first line (suc i) e f = omega arith

pub returns-then-is_blank-clause-words : goal.returns-then-is_blank-clause-words
returns-then-is_blank-clause-words c =
    let line = c.args.line.now in
    let blank : is_space_or_tab (get_or line c.loop-i.i 0) ≡ true = sym c.is_blank.ensures ∙ c.if-is_blank.true in
    rw (take_rest line (c.loop-i.i + 1), add-one) (word-at line c.loop-i.i c.loop-i-test.true (past-first line c.loop-i.i c.requires.word blank) blank c.loop-i.invariant)

pub returns-clause-words : goal.returns-clause-words
returns-clause-words c =
    rw no-words (one-word c.args.line.now c.requires.some (λ k l. c.loop-i.invariant k (omega (arith, l, c.loop-i-test.false))))
