use Rattle.std.proofs.Common.{◌≡◌, ◌∙◌, ℕ, List, sym}
use Rattle.pack_defs.specs.Components.{component}
use Rattle.pack_defs.specs.Packing.{fits}
use Rattle.pack_defs.proofs.ComponentLaws.{component_decides}
use Rattle.pack_defs.proofs.FitsLaws.{fits-gives, fits-from}
use Rattle.packing_graph.specs.Sets.{with_station}
use Rattle.packing_graph.proofs.SetLemmas.{with_station-has, with_station-gives}
use Rattle.packing_graph.proofs.laws.prove_component_is_enough.Goals as goal

pub returns : goal.returns
returns c = λ book on s entries stations clean.
    let set : List ℕ = with_station on s in
    let same : fits book set ≡ fits book (component book set s) =
    component_decides book on set s (with_station-has on s) (with_station-gives on s) (fits-from book on (record { entries = entries; stations = stations; clean = clean })) in (
      λ whole. fits-gives book (component book set s) (sym same ∙ fits-from book set whole),
      λ part. fits-gives book set (same ∙ fits-from book (component book set s) part),
    )
