-- A law of components. `src/laws` proves it, together with one that is short enough to be written out there.
use Rattle.std.specs.Prelude.{◌≡◌, ◌↔◌, ℕ, List, map}
use Rattle.pack_defs.specs.Book.{BookView}
use Rattle.pack_defs.specs.Components.{component}
use Rattle.pack_defs.specs.Packing.{Fits, IsClean}
use Rattle.packing_graph.specs.Sets.{with_station}

-- Given a clean map of the stations on air, these and one more station fit exactly if the component of that station among them fits.
abbrev pub ComponentIsEnough : Type 0
ComponentIsEnough =
    (book : BookView) (on : List ℕ) (s : ℕ) (entries : List (ℕ × ℕ)) →
    map (λ x. x.0) entries ≡ on → IsClean book entries →
    Fits book (with_station on s) ↔ Fits book (component book (with_station on s) s)
