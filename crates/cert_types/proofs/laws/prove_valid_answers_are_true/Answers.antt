-- By the lemmas.
use Rattle.pack_defs.specs.ChannelMap.{overlaid}
use Rattle.pack_defs.proofs.MapLemmas.{overlaid-ascending}
use Rattle.assign_check.proofs.Faultless.{clean-stations}
use Rattle.cert_types.proofs.Meaning.{fit-means}
use Rattle.cert_types.proofs.Refuting.{refuted-unfit}
use Rattle.cert_types.proofs.Validity.{valid-refutes}
use Rattle.cert_types.proofs.laws.prove_valid_answers_are_true.Goals as goal

pub returns-clause-refuted : goal.returns-clause-refuted
returns-clause-refuted c book task worker how e = valid-refutes book task worker how e

pub returns-clause-unfit : goal.returns-clause-unfit
returns-clause-unfit c book task worker how order e f = refuted-unfit book task.set order (valid-refutes book task worker how e) f

pub returns-clause-clean : goal.returns-clause-clean
returns-clause-clean c book task worker delta rises ascends e =
    let clean = fit-means book task worker delta e in
    (clean-stations book task.set (overlaid task.last delta) rises (overlaid-ascending task.last delta ascends) clean, clean.clean)

pub returns-clause-fits : goal.returns-clause-fits
returns-clause-fits c book task worker delta rises ascends e =
    let clean = fit-means book task worker delta e in record {
      entries = overlaid task.last delta;
      stations = clean-stations book task.set (overlaid task.last delta) rises (overlaid-ascending task.last delta ascends) clean;
      clean = clean.clean;
    }
