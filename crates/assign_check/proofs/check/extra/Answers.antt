use Rattle.std.proofs.Common.{◌≡◌, ◌∙◌, ℕ, true, false, not, get_or, sym, ap, option_map}
use Rattle.pack_defs.specs.Lists.{is_in}
use Rattle.pack_defs.proofs.Searches.{found-number}
use Rattle.assign_check.specs.declared.fault.MapFault.TheVariants.{Extra}
use Rattle.assign_check.proofs.Finds.{found-here, found-later}
use Rattle.assign_check.proofs.check.extra.Goals as goal

pub returns-then-is_err : goal.returns-then-is_err
returns-then-is_err c =
    let x = get_or c.args.entries.now c.loop-x.x-index (0, 0) in
    let known : is_in c.args.set.now x.0 ≡ false = sym (found-number c.args.set.now x.0 c.binary_search.result c.binary_search.ensures.bound c.binary_search.ensures.position c.requires) ∙ c.if-is_err.ensures.negation in
    let here = found-here (λ x. not (is_in c.args.set.now x.0)) c.args.entries.now c.loop-x.x-index (0, 0) c.loop-x-test.true (ap not known) in
    ap (option_map (λ (x : ℕ × ℕ). Extra x.0)) (sym here ∙ c.loop-x.invariant)

pub loop-x-preserved : goal.loop-x-preserved
loop-x-preserved c =
    let x = get_or c.args.entries.now c.loop-x.x-index (0, 0) in
    let known : is_in c.args.set.now x.0 ≡ true = sym (found-number c.args.set.now x.0 c.binary_search.result c.binary_search.ensures.bound c.binary_search.ensures.position c.requires) ∙ c.if-is_err.ensures.negation in
    let later = found-later (λ x. not (is_in c.args.set.now x.0)) c.args.entries.now c.loop-x.x-index (0, 0) c.loop-x-test.true (ap not known) in
    sym later ∙ c.loop-x.invariant
