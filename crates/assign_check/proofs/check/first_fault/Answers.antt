use Rattle.std.proofs.Common.{◌∙◌, sym, ap}
use Rattle.assign_check.specs.Fault.{extra, off_domain, first_fault}
use Rattle.assign_check.proofs.Finds.{or-first, or-second}
use Rattle.assign_check.proofs.check.first_fault.Goals as goal

pub returns-in-Some : goal.returns-in-Some
unfolding first_fault
returns-in-Some c = or-first _ _ _ (sym c.missing.ensures ∙ c.in-Some.is)

pub returns-in-Some-extra : goal.returns-in-Some-extra
unfolding first_fault
returns-in-Some-extra c =
    or-first _ _ _ (sym (c.extra.ensures ∙ ap (extra c.args.set.now) c.entries-entries.ensures.entries) ∙ c.in-Some-extra.is)
    ∙ or-second _ _ (sym c.missing.ensures ∙ c.in_default.is)

pub returns-in-Some-off_domain : goal.returns-in-Some-off_domain
unfolding first_fault
returns-in-Some-off_domain c =
    or-first _ _ _ (sym (c.off_domain.ensures ∙ ap (off_domain c.args.book.now) c.entries-entries.ensures.entries) ∙ c.in-Some-off_domain.is)
    ∙ or-second _ _ (sym (c.extra.ensures ∙ ap (extra c.args.set.now) c.entries-entries.ensures.entries) ∙ c.in_default-extra.is)
    ∙ or-second _ _ (sym c.missing.ensures ∙ c.in_default.is)

pub returns : goal.returns
unfolding first_fault
returns c =
    c.violation.ensures
    ∙ or-second _ _ (sym (c.off_domain.ensures ∙ ap (off_domain c.args.book.now) c.entries-entries.ensures.entries) ∙ c.in_default-off_domain.is)
    ∙ or-second _ _ (sym (c.extra.ensures ∙ ap (extra c.args.set.now) c.entries-entries.ensures.entries) ∙ c.in_default-extra.is)
    ∙ or-second _ _ (sym c.missing.ensures ∙ c.in_default.is)
