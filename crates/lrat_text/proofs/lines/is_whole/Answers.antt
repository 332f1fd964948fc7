use Rattle.std.proofs.Common.{◌∙◌, sym, ap}
use Rattle.std.specs.Option.{option_copied}
use Rattle.lrat_text.specs.Lines.{is_whole}
use Rattle.lrat_text.proofs.SplitLemmas.{whole-by-last, nil-by-last, whole-none}
use Rattle.lrat_text.proofs.lines.is_whole.Goals as goal

pub returns-in-Some : goal.returns-in-Some
returns-in-Some c =
    sym (whole-by-last c.args.text.now c.in-Some.byte.now (sym c.last.ensures.value ∙ ap option_copied c.in-Some.is))

pub returns-in-None : goal.returns-in-None
returns-in-None c =
    let nil = nil-by-last c.args.text.now (sym c.last.ensures.value ∙ ap option_copied c.in-None.is) in
    sym (ap is_whole nil ∙ whole-none)
