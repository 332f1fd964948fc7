-- By the model of a map, and the map of a model.
use Rattle.cnf_encode.specs.Decode.{decoded, model_of}
use Rattle.cnf_encode.proofs.Decoding.{decoded-packing}
use Rattle.cnf_encode.proofs.Encoding.{packing-satisfies}
use Rattle.cnf_encode.proofs.laws.prove_fits_iff_model.Goals as goal

pub returns : goal.returns
returns c book set o a = (
  λ f. record { model = model_of book set f.entries; makes = packing-satisfies book set f.entries o a (record { stations = f.stations; clean = f.clean }) },
  λ m. let packing = decoded-packing book set m.model m.makes in record { entries = decoded book set m.model; stations = packing.stations; clean = packing.clean },
)
