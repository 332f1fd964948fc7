-- A law of packing, a statement about every book and every set of stations. `src/packing_laws` proves it.
use Rattle.std.specs.Prelude.{◌≡◌, ◌⊎◌, ℕ, List, Contains, IsTrue}
use Rattle.pack_defs.specs.Book.{BookView}
use Rattle.pack_defs.specs.Components.{component}
use Rattle.pack_defs.specs.Packing.{fits}

-- If some stations fit, they and one more station fit exactly if the component of that station among them fits.
abbrev pub ComponentDecidesFit : Type 0
ComponentDecidesFit =
    (book : BookView) (on set : List ℕ) (s : ℕ) →
    Contains set s → ((t : ℕ) → Contains set t → (t ≡ s) ⊎ Contains on t) → IsTrue (fits book on) →
    fits book set ≡ fits book (component book set s)
