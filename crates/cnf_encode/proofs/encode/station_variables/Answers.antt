use Rattle.std.proofs.Common.{◌<◌, ◌∙◌, arith, ap, refl, get_or, length, subst}
use Rattle.pack_defs.specs.Book.{domain_of}
use Rattle.cnf_encode.specs.Formula.{variable_of}
use Rattle.cnf_encode.proofs.NumberLemmas.{variable-read, variables-push}
use Rattle.cnf_encode.proofs.encode.station_variables.Goals as goal

pub loop-j-preserved : goal.loop-j-preserved
loop-j-preserved c =
    let book = c.args.book.now in
    let set = c.args.set.now in
    let s = get_or set c.args.i 0 in
    let channels = c.channels_of-j-end.result.now in
    let j = c.loop-j.j in
    let own = c.channels_of-j-end.ensures.channels in
    let place : j < length channels = omega arith in
    let v = variable-read book set channels _ c.args.i j s (get_or channels j 0) own c.requires.ascending c.channels_of-j-end.ensures.ascending c.requires.in_set refl place refl (c.requires.offsets.before c.args.i (omega arith)) in
    variables-push (λ d. variable_of book set (s, d)) (domain_of book s) j _ _ _ (subst (λ z. j < length z) own place)
    (v ∙ ap (λ z. variable_of book set (s, get_or z j 0)) own) c.loop-j.invariant c.in_ok-push.ensures.items
