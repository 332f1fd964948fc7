use Rattle.std.proofs.Common.{◌≡◌, ◌∙◌, ◌==◌, ℕ, List, Some, None, length, get_or, find, filter, sym, ap, subst, option_map, arith}
use Rattle.pack_defs.proofs.Spans.{firsts-rise}
use Rattle.assign_check.specs.declared.fault.MapFault.TheVariants.{Violates}
use Rattle.assign_check.specs.Fault.{is_violated}
use Rattle.assign_check.proofs.Violations.{none-more, none-violated, violated-first}
use Rattle.assign_check.proofs.check.violation.Goals as goal

pub returns-in-Some : goal.returns-in-Some
returns-in-Some c =
    let map = c.args.map.now in
    let pairs = c.args.book.now.pairs in
    let found : find (is_violated map) (filter (λ p. p.f == (get_or map c.loop-x.x-index (0, 0)).0) pairs) ≡ Some c.in-Some.pair =
    subst (λ (es : List (ℕ × ℕ)). find (is_violated map) (filter (λ p. p.f == (get_or es c.loop-x.x-index (0, 0)).0) pairs) ≡ Some c.in-Some.pair) c.entries-x-items.ensures.entries (sym c.violated_from.ensures ∙ c.in-Some.is) in
    sym (ap (option_map Violates) (violated-first map pairs c.loop-x.x-index c.in-Some.pair c.requires (firsts-rise pairs c.keeps_order.ensures.pairs) c.loop-x.invariant found))

pub loop-x-preserved : goal.loop-x-preserved
loop-x-preserved c =
    let map = c.args.map.now in
    let pairs = c.args.book.now.pairs in
    let size = ap length c.entries-x-items.ensures.entries in
    let none : find (is_violated map) (filter (λ p. p.f == (get_or map c.loop-x.x-index (0, 0)).0) pairs) ≡ None =
    subst (λ (es : List (ℕ × ℕ)). find (is_violated map) (filter (λ p. p.f == (get_or es c.loop-x.x-index (0, 0)).0) pairs) ≡ None) c.entries-x-items.ensures.entries (sym c.violated_from.ensures ∙ c.in_default.is) in
    none-more map pairs c.loop-x.x-index (omega (arith, size, c.loop-x-test.true)) c.loop-x.invariant none

pub returns : goal.returns
returns c =
    let size = ap length c.entries-x-items.ensures.entries in
    sym (ap (option_map Violates) (none-violated c.args.map.now c.args.book.now.pairs c.loop-x.x-index (omega (arith, size, c.loop-x-test.false)) c.loop-x.invariant))
