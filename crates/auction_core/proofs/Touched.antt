-- What a test asks about, from the marks of the labels that its station touches, and by the rule. For `component_labels::touched_stations_on`.
use Rattle.std.proofs.Common.{◌≡◌, ℕ, ◌+◌, ◌<◌, ◌≤◌, Bool, true, false, not, ◌==◌, ◌&&◌, ◌||◌, List, [], ◌∷◌, ◌++◌, filter, length, get_or, set, take, replicate, cond, Contains, refl, sym, ap, ◌∙◌, subst, ⊎_elim, eqb-true, eq-eqb, arith, append-nil, length-set, get_or-set_other, get_or-set_same}
use Rattle.std.specs.List.{list_any}
use Rattle.std.proofs.lemmas.Bool.{and_parts, and_from, or_cases, or_left, or_right, both_ways}
use Rattle.std.proofs.lemmas.List.{get_or-replicate, length-replicate}
use Rattle.std.proofs.lemmas.List.Elements.{filter_agree, filter_more}
use Rattle.pack_defs.proofs.Members.{Contains-filter, Contains-from_filter, is_in-from, is_in-gives}
use Rattle.pack_defs.proofs.Words.{ascending-from, same-ascending, or_turned}
use Rattle.pack_defs.specs.Book.{BookView}
use Rattle.pack_defs.specs.Lists.{is_ascending, is_in}
use Rattle.pack_defs.specs.declared.scenario.Scenario.{Scenario}
use Rattle.pack_defs.specs.Scenario.{facilities}
use Rattle.pack_defs.specs.Components.{component}
use Rattle.pack_defs.specs.ClockRule.{ClockState, asked_set, is_on_air}
use Rattle.pack_defs.proofs.Chains.{ascending-filter}
use Rattle.auction_core.specs.ComponentLabels.{AreLabelsOf, ComponentLabelsView, is_asked, label_in, label_of, labelled, marked, number_on_air, touched_set, touches}
use Rattle.auction_core.specs.Rule.{IsAuction}
use Rattle.auction_core.specs.State.{tested_set}
use Rattle.auction_core.proofs.LabelLemmas.{ListsNear, label-at, meets, meets-touches}
use Rattle.auction_core.proofs.Sets.{tested-rises}
use Rattle.auction_core.proofs.Since.{asks-with-one}
use Rattle.auction_core.proofs.Tied.{part-of}

-- ---- marks

marked-length : (label : ℕ → ℕ) (vs : List ℕ) (marks : List Bool) → length (marked label vs marks) ≡ length marks
marked-length label [] marks = refl
marked-length label (v ∷ vs) marks = marked-length label vs (set marks (label v) true) ∙ length-set marks (label v) true

-- there is a mark for each label, also after some are marked
pub marks-made : (label : ℕ → ℕ) (most : ℕ) (none : List Bool) → ((z : ℕ) → label z ≤ most) → none ≡ replicate (most + 1) false → (z : ℕ) → label z < length none
marks-made label most none low is z = let h = low z in omega (arith, h, ap length is, length-replicate (most + 1) false)

pub marks-kept : (label : ℕ → ℕ) (vs : List ℕ) (before after : List Bool) → ((z : ℕ) → label z < length before) → after ≡ marked label vs before → (z : ℕ) → label z < length after
marks-kept label vs before after inside is z = let h = inside z in omega (arith, h, ap length is, marked-length label vs before)

-- a label is marked if one of these stations has it, or if it was marked before
has-mark : (label : ℕ → ℕ) (vs : List ℕ) (marks : List Bool) (l : ℕ) → ((z : ℕ) → label z < length marks) → get_or (marked label vs marks) l false ≡ (list_any (λ v. label v == l) vs || get_or marks l false)
has-mark label [] marks l inside = refl
has-mark label (v ∷ vs) marks l inside =
    let next : List Bool = set marks (label v) true in
    let long = length-set marks (label v) true in
    let rest = has-mark label vs next l (λ z. let h = inside z in omega (arith, h, long)) in
    let one : get_or next l false ≡ ((label v == l) || get_or marks l false) =
    (elim (label v == l) as (λ b. (label v == l) ≡ b → get_or next l false ≡ (b || get_or marks l false)) [
      | true ↦ λ e. subst (λ n. get_or next n false ≡ true) (eqb-true (label v) l e) (get_or-set_same marks (label v) true false (inside v))
      | false ↦ λ e. get_or-set_other marks (label v) l true false (λ k. both_ways (label v == l) e (eq-eqb (label v) l (sym k)))
    ]) refl in
    rest ∙ (ap (λ b. list_any (λ w. label w == l) vs || b) one ∙ or_turned (list_any (λ w. label w == l) vs) (label v == l) (get_or marks l false))

-- a test asks about no station without a label, so the mark of 0 does not matter
some-label : (label : ℕ → ℕ) (vs : List ℕ) (l : ℕ) → (l == 0) ≡ false → list_any (λ v. label v == l) vs ≡ meets label vs l
some-label label [] l some = refl
some-label label (v ∷ vs) l some =
    let own : (label v == l) ≡ (not (label v == 0) && (label v == l)) =
    (elim (label v == l) as (λ b. (label v == l) ≡ b → b ≡ (not (label v == 0) && b)) [
      | true ↦ λ e. sym (and_from (not (label v == 0)) true (ap not (ap (λ n. n == 0) (eqb-true (label v) l e) ∙ some)) refl)
      | false ↦ λ e. no-other (not (label v == 0))
    ]) refl in
    ap (λ b. b || list_any (λ w. label w == l) vs) own ∙ ap (λ b. (not (label v == 0) && (label v == l)) || b) (some-label label vs l some)
  where
    no-other : (b : Bool) → false ≡ (b && false)
    no-other true = refl
    no-other false = refl

or-none : (a b : Bool) → b ≡ false → (a || b) ≡ a
or-none true b e = refl
or-none false b e = e

-- the marks of the neighbours determine what the station touches
pub asked-is : (book : BookView) (component_labels : ComponentLabelsView) (s most : ℕ) (near : List ℕ) (marks : List Bool) (set : List ℕ) → ListsNear book s near → ((z : ℕ) → label_of component_labels z ≤ most) → marks ≡ marked (label_of component_labels) near (replicate (most + 1) false) → set ≡ filter (λ z. is_asked s marks z (label_of component_labels z)) component_labels.stations → set ≡ touched_set book component_labels s
asked-is book component_labels s most near marks set listed low are is =
    is ∙ filter_agree (λ z. is_asked s marks z (label_of component_labels z)) (λ z. (z == s) || (not (label_of component_labels z == 0) && touches book (labelled component_labels) (label_of component_labels) s (label_of component_labels z))) (λ z. ap (λ b. (z == s) || b) (alike z)) component_labels.stations
  where
    none : List Bool
    none = replicate (most + 1) false

    inside : (z : ℕ) → label_of component_labels z < length none
    inside z = let h = low z in omega (arith, h, length-replicate (most + 1) false)

    alike : (z : ℕ) → (not (label_of component_labels z == 0) && get_or marks (label_of component_labels z) false) ≡ (not (label_of component_labels z == 0) && touches book (labelled component_labels) (label_of component_labels) s (label_of component_labels z))
    alike z =
        let l : ℕ = label_of component_labels z in
        let h = low z in
        (elim (l == 0) as (λ b. (l == 0) ≡ b → (not b && get_or marks l false) ≡ (not b && touches book (labelled component_labels) (label_of component_labels) s l)) [
          | true ↦ λ e. refl
          | false ↦ λ e.
              ap (λ xs. get_or xs l false) are
              ∙ (has-mark (label_of component_labels) near none l inside
              ∙ (or-none (list_any (λ v. label_of component_labels v == l) near) (get_or none l false) (get_or-replicate (most + 1) l false false (omega (arith, h)))
              ∙ (some-label (label_of component_labels) near l e ∙ meets-touches book component_labels s l near listed)))
        ]) refl

-- ---- one more station of the pass

module _ (s z l i d : ℕ) (marks : List Bool) (fs ls found : List ℕ) (up : is_ascending fs ≡ true) (long : length ls ≡ length fs) (inside : i < length fs) (here : get_or fs i 0 ≡ z) (own : get_or ls i d ≡ l) (so_far : found ≡ filter (λ y. is_asked s marks y (label_in fs ls y)) (take i fs)) where
  abbrev asked : ℕ → Bool
  asked y = is_asked s marks y (label_in fs ls y)

  one-more : (b : Bool) → is_asked s marks z l ≡ b → filter asked (take (i + 1) fs) ≡ found ++ cond b (z ∷ []) []
  one-more b is =
      let before : List ℕ = filter asked (take i fs) in
      filter_more asked fs i 0 inside
      ∙ (ap (λ y. before ++ cond (asked y) (y ∷ []) []) here
      ∙ (ap (λ n. before ++ cond (is_asked s marks z n) (z ∷ []) []) (label-at fs ls i z d up long inside here ∙ own)
      ∙ (ap (λ c. before ++ cond c (z ∷ []) []) is ∙ ap (λ ys. ys ++ cond b (z ∷ []) []) (sym so_far))))

  pub asked-passed : is_asked s marks z l ≡ false → found ≡ filter asked (take (i + 1) fs)
  asked-passed is = sym (one-more false is ∙ append-nil found)

  pub asked-taken : is_asked s marks z l ≡ true → found ++ z ∷ [] ≡ filter asked (take (i + 1) fs)
  asked-taken is = sym (one-more true is)

-- ---- by the rule

-- a test of a station off air asks about the stations that the labels determine
pub touched-tested : (sc : Scenario) (book : BookView) (clock : ClockState) (s : ℕ) (component_labels : ComponentLabelsView) → IsAuction sc book → Contains (facilities sc) s → is_on_air clock s ≡ false → AreLabelsOf sc book clock component_labels → touched_set book component_labels s ≡ tested_set sc book clock s
touched-tested sc book clock s component_labels a known off h =
    same-ascending (touched_set book component_labels s) (tested_set sc book clock s)
    (ascending-filter test component_labels.stations (subst (λ xs. is_ascending xs ≡ true) (sym h.stations) (ascending-from (facilities sc) a.stations)))
    (tested-rises sc book clock s a)
    (λ z there.
    let (listed, is) = Contains-from_filter test component_labels.stations z (is_in-gives (touched_set book component_labels s) z there) in
    word z ∙ ⊎_elim
    (λ e. or_left (z == s) (is_in on z && touched z) e)
    (λ k.
    let both = and_parts (not (label z == 0)) (touched z) k in
    or_right (z == s) (is_in on z && touched z) (and_from (is_in on z) (touched z) (is_in-from on z (Contains-filter (λ v. not (label v == 0)) component_labels.stations z listed both.0)) both.1))
    (or_cases (z == s) (not (label z == 0) && touched z) is))
    (λ z there. is_in-from (touched_set book component_labels s) z
    (⊎_elim
    (λ e. Contains-filter test component_labels.stations z
    (subst (λ xs. Contains xs z) (sym h.stations) (subst (λ v. Contains (facilities sc) v) (sym (eqb-true z s e)) known))
    (or_left (z == s) (not (label z == 0) && touched z) e))
    (λ k.
    let both = and_parts (is_in on z) (touched z) k in
    let (listed, some) = Contains-from_filter (λ v. not (label v == 0)) component_labels.stations z (is_in-gives on z both.0) in
    Contains-filter test component_labels.stations z listed
    (or_right (z == s) (not (label z == 0) && touched z) (and_from (not (label z == 0)) (touched z) some both.1)))
    (or_cases (z == s) (is_in on z && touched z) (sym (word z) ∙ there))))
  where
    label : ℕ → ℕ
    label = label_of component_labels

    on : List ℕ
    on = labelled component_labels

    touched : ℕ → Bool
    touched z = touches book on label s (label z)

    test : ℕ → Bool
    test z = (z == s) || (not (label z == 0) && touched z)

    word : (z : ℕ) → is_in (component book (asked_set sc clock s) s) z ≡ ((z == s) || (is_in on z && touched z))
    word z = part-of book on (number_on_air clock) label h.are (asked_set sc clock s) s (asks-with-one sc book clock component_labels s known off h) z
