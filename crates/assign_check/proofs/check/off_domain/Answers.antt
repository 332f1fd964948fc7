use Rattle.std.proofs.Common.{◌≡◌, ◌∙◌, ℕ, true, false, not, get_or, sym, ap, option_map}
use Rattle.pack_defs.specs.Book.{domain_of}
use Rattle.pack_defs.specs.Lists.{is_in}
use Rattle.assign_check.specs.declared.fault.MapFault.TheVariants.{OffDomain}
use Rattle.assign_check.proofs.Finds.{found-here, found-later}
use Rattle.assign_check.proofs.check.off_domain.Goals as goal

pub returns-then-not-contains : goal.returns-then-not-contains
returns-then-not-contains c =
    let x = get_or c.args.entries.now c.loop-x.x-index (0, 0) in
    let known : is_in (domain_of c.args.book.now x.0) x.1 ≡ false = ap (λ channels. is_in channels x.1) (sym c.domain.ensures) ∙ sym c.contains.ensures.value ∙ c.if-not-contains.true in
    let here = found-here (λ x. not (is_in (domain_of c.args.book.now x.0) x.1)) c.args.entries.now c.loop-x.x-index (0, 0) c.loop-x-test.true (ap not known) in
    ap (option_map (λ (x : ℕ × ℕ). OffDomain x.0)) (sym here ∙ c.loop-x.invariant)

pub loop-x-preserved : goal.loop-x-preserved
loop-x-preserved c =
    let x = get_or c.args.entries.now c.loop-x.x-index (0, 0) in
    let known : is_in (domain_of c.args.book.now x.0) x.1 ≡ true = ap (λ channels. is_in channels x.1) (sym c.domain.ensures) ∙ sym c.contains.ensures.value ∙ c.if-not-contains.false in
    let later = found-later (λ x. not (is_in (domain_of c.args.book.now x.0) x.1)) c.args.entries.now c.loop-x.x-index (0, 0) c.loop-x-test.true (ap not known) in
    sym later ∙ c.loop-x.invariant
