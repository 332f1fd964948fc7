-- The components of the stations on air, as labels: two stations have the same label if and only if they are connected by
-- interfering pairs. A label also dates the last change of its component. The representation is this project's own; testing
-- component by component is from SATFC (Newman, Fréchette, Leyton-Brown 2017).
use Rattle.std.specs.Prelude.{◌≡◌, ◌≤◌, ◌↔◌, ◌⊎◌, ℕ, suc, Bool, true, false, not, nat_le, length, slice_index_or, slice_set, ◌&&◌, ◌||◌, ◌==◌, if◌then◌else◌, List, [], ◌∷◌, filter, Contains}
use Rattle.std.specs.List.{list_any}
use Rattle.pack_defs.specs.Book.{BookView}
use Rattle.pack_defs.specs.Components.{interferes, Reaches}
use Rattle.pack_defs.specs.ClockRule.{ClockState, OnAirSince, after_answer, is_on_air}
use Rattle.pack_defs.specs.declared.scenario.Scenario.{Scenario}
use Rattle.pack_defs.specs.Scenario.{facilities}
use Rattle.auction_core.specs.declared.record.Step.{Step}
use Rattle.auction_core.specs.State.{shows_room, test_of}

-- Whether the labels are those of the components. `since` numbers the stations by when they went on air. Two stations have one
-- label exactly if one reaches the other; a label is the greatest number in its component.
pub record AreComponents (book : BookView) (on : List ℕ) (since : ℕ → ℕ) (label : ℕ → ℕ) : Type 0 where
  pub same : (v w : ℕ) → Contains on v → Contains on w → (label v ≡ label w) ↔ Reaches book on v w
  pub own : (v : ℕ) → Contains on v → (w : ℕ) × Contains on w × (label w ≡ label v) × (since w ≡ label v)
  pub last : (v : ℕ) → Contains on v → since v ≤ label v

-- Whether station s interferes with a station on air that has label l.
abbrev pub touches : BookView → List ℕ → (ℕ → ℕ) → ℕ → ℕ → Bool
touches book on label s l = list_any (λ v. interferes book s v && (label v == l)) on

-- The labels once station u goes on air under number n: n is now the label of u and of each component that u touches.
abbrev pub relabelled : BookView → List ℕ → (ℕ → ℕ) → ℕ → ℕ → ℕ → ℕ
relabelled book on label u n z = if (z == u) || touches book on label u (label z) then n else label z

-- Whether `all` has the stations on air and one further station s.
pub record IsWithOneMore (on all : List ℕ) (s : ℕ) : Type 0 where
  pub each : (z : ℕ) → Contains on z → Contains all z
  pub one : Contains all s
  pub only : (z : ℕ) → Contains all z → Contains on z ⊎ (z ≡ s)
  pub new : Contains on s → ⊥

-- ---- as the program keeps them

-- The stations of an auction, ascending, and the label of each; 0 off air.
pub record ComponentLabelsView : Type 0 where
  pub stations : List ℕ
  pub labels : List ℕ

-- The label in the slot of station s; 0 if the list has no such station.
abbrev pub label_in : List ℕ → List ℕ → ℕ → ℕ
label_in [] labels s = 0
label_in (f ∷ fs) [] s = 0
label_in (f ∷ fs) (l ∷ ls) s = if f == s then l else label_in fs ls s

-- The label of a station.
abbrev pub label_of : ComponentLabelsView → ℕ → ℕ
label_of component_labels s = label_in component_labels.stations component_labels.labels s

-- The stations on air: those with a label other than 0.
abbrev pub labelled : ComponentLabelsView → List ℕ
labelled component_labels = filter (λ v. not (label_of component_labels v == 0)) component_labels.stations

-- The number x, with `new` in place of `old`.
abbrev pub replaced_label : ℕ → ℕ → ℕ → ℕ
replaced_label old new x = if x == old then new else x

-- The labels once the component of v, if v is on air, has the label n.
abbrev pub merged_label : (ℕ → ℕ) → ℕ → ℕ → ℕ → ℕ
merged_label label v n z = if not (label v == 0) && (label v == label z) then n else label z

-- The labels once the component of each of these stations has the label n.
abbrev pub merged_labels : (ℕ → ℕ) → List ℕ → ℕ → ℕ → ℕ
merged_labels label [] n = label
merged_labels label (v ∷ vs) n = merged_labels (merged_label label v n) vs n

-- Whether s interferes with a station on air whose component changed at this time or later.
abbrev pub touches_since : BookView → ComponentLabelsView → ℕ → ℕ → Bool
touches_since book component_labels s time = list_any (λ v. interferes book s v && nat_le time (label_of component_labels v)) (labelled component_labels)

-- The station s and the stations on air whose labels s touches.
abbrev pub touched_set : BookView → ComponentLabelsView → ℕ → List ℕ
touched_set book component_labels s =
    filter (λ z. (z == s) || (not (label_of component_labels z == 0) && touches book (labelled component_labels) (label_of component_labels) s (label_of component_labels z))) component_labels.stations

-- The marks once the label of each of these stations is marked.
abbrev pub marked : (ℕ → ℕ) → List ℕ → List Bool → List Bool
marked label [] marks = marks
marked label (v ∷ vs) marks = marked label vs (slice_set marks (label v) true)

-- Whether a test of s asks about z, whose label is `label`: z is s, or is on air and its label is marked.
abbrev pub is_asked : ℕ → List Bool → ℕ → ℕ → Bool
is_asked s marks z label = (z == s) || (not (label == 0) && slice_index_or marks label false)

-- ---- in terms of the clock

-- The place of a station in the list of those on air, counted from k; 0 if it is not there.
abbrev pub number_from : ℕ → List OnAirSince → ℕ → ℕ
number_from k [] s = 0
number_from k (x ∷ xs) s = if x.station == s then k else number_from (suc k) xs s

-- The number of stations on air just after this station went on air; 0 if it is not on air.
abbrev pub number_on_air : ClockState → ℕ → ℕ
number_on_air clock s = number_from 1 clock.on_air s

-- The number of stations on air at the last test of s among these steps, which start from this state of the clock; n if s has no
-- test there.
abbrev pub last_seen : Scenario → ClockState → List Step → ℕ → ℕ → ℕ
last_seen sc clock [] s n = n
last_seen sc clock (x ∷ xs) s n =
    last_seen sc (after_answer sc clock (test_of x) (shows_room x.shown)) xs s (if x.station == s then length clock.on_air else n)

-- Whether the labels are those of the components of the stations on air in this state of the clock.
pub record AreLabelsOf (sc : Scenario) (book : BookView) (clock : ClockState) (component_labels : ComponentLabelsView) : Type 0 where
  pub stations : component_labels.stations ≡ facilities sc
  pub on_air : (z : ℕ) → Contains (facilities sc) z → not (label_of component_labels z == 0) ≡ is_on_air clock z
  pub are : AreComponents book (labelled component_labels) (number_on_air clock) (label_of component_labels)
  pub most : (z : ℕ) → label_of component_labels z ≤ length clock.on_air
