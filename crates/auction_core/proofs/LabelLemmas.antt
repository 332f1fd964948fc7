-- The labels of the components on air, and the slots of the stations. For `component_labels`.
use Rattle.std.proofs.Common.{◌≡◌, ℕ, zero, suc, ◌+◌, ◌<◌, ◌≤◌, Bool, true, false, not, ◌==◌, ◌&&◌, ◌||◌, nat_le, if◌then◌else◌, List, [], ◌∷◌, ◌++◌, map, take, length, get_or, Contains, refl, sym, ap, ◌∙◌, subst, ⊎_elim, eqb-true, eq-eqb, ne_eqb, arith, append_assoc, append-nil}
use Rattle.std.specs.Prelude.{slice_set}
use Rattle.std.specs.List.{list_any}
use Rattle.std.proofs.lemmas.Bool.{and_parts, and_from, both_ways, false_from_ne_true, cases_Bool, cond-true, cond-false, leb-true}
use Rattle.std.proofs.lemmas.List.{take_more}
use Rattle.std.proofs.lemmas.List.Folds.{list_any-append}
use Rattle.std.proofs.lemmas.List.Elements.{Contains-get_or}
use Rattle.pack_defs.proofs.Members.{Contains-filter, Contains-from_filter, is_in-from, is_in-gives, list_any-from, list_any-gives}
use Rattle.pack_defs.proofs.Words.{ascending-rest, below-later, same-truth}
use Rattle.pack_defs.specs.Book.{BookView}
use Rattle.pack_defs.specs.Components.{interferes}
use Rattle.pack_defs.specs.Lists.{is_ascending, is_in}
use Rattle.auction_core.specs.ComponentLabels.{ComponentLabelsView, label_in, label_of, labelled, merged_label, merged_labels, relabelled, replaced_label, touches, touches_since}

-- ---- places

pub label-at : (fs ls : List ℕ) (i s d : ℕ) → is_ascending fs ≡ true → length ls ≡ length fs → i < length fs → get_or fs i 0 ≡ s → label_in fs ls s ≡ get_or ls i d
label-at [] ls i s d a same inside at = absurd (omega arith)
label-at (f ∷ fs) [] i s d a same inside at = absurd (omega arith)
label-at (f ∷ fs) (l ∷ ls) zero s d a same inside at = cond-true (f == s) l (label_in fs ls s) (eq-eqb f s at)
label-at (f ∷ fs) (l ∷ ls) (suc i) s d a same inside at =
    let later : is_in fs s ≡ true = subst (λ z. is_in fs z ≡ true) at (is_in-from fs (get_or fs i 0) (Contains-get_or fs i 0 (omega arith))) in
    let less = below-later f fs s a later in
    cond-false (f == s) l (label_in fs ls s) (ne_eqb f s (λ e. omega (arith, less, e)))
    ∙ label-at fs ls i s d (ascending-rest f fs a) (omega arith) (omega arith) at

pub label-out : (fs ls : List ℕ) (s : ℕ) → is_in fs s ≡ false → label_in fs ls s ≡ 0
label-out [] ls s out = refl
label-out (f ∷ fs) [] s out = refl
label-out (f ∷ fs) (l ∷ ls) s out =
    (elim (f == s) as (λ b. (b || is_in fs s) ≡ false → (if b then l else label_in fs ls s) ≡ 0) [
      | true ↦ λ e. cc
      | false ↦ λ e. label-out fs ls s e
    ]) out

pub label-set : (fs ls : List ℕ) (i s n z : ℕ) → is_ascending fs ≡ true → length ls ≡ length fs → i < length fs → get_or fs i 0 ≡ s → label_in fs (slice_set ls i n) z ≡ (if z == s then n else label_in fs ls z)
label-set [] ls i s n z a same inside at = absurd (omega arith)
label-set (f ∷ fs) [] i s n z a same inside at = absurd (omega arith)
label-set (f ∷ fs) (l ∷ ls) zero s n z a same inside at =
    (elim (f == z) as (λ b. (f == z) ≡ b → (if b then n else label_in fs ls z) ≡ (if z == s then n else (if b then l else label_in fs ls z))) [
      | true ↦ λ e. sym (cond-true (z == s) n l (eq-eqb z s (sym (eqb-true f z e) ∙ at)))
      | false ↦ λ e. sym (cond-false (z == s) n (label_in fs ls z) (ne_eqb z s (λ k. both_ways (f == z) e (eq-eqb f z (at ∙ sym k)))))
    ]) refl
label-set (f ∷ fs) (l ∷ ls) (suc i) s n z a same inside at =
    let rest = label-set fs ls i s n z (ascending-rest f fs a) (omega arith) (omega arith) at in
    let later : is_in fs s ≡ true = subst (λ w. is_in fs w ≡ true) at (is_in-from fs (get_or fs i 0) (Contains-get_or fs i 0 (omega arith))) in
    let less = below-later f fs s a later in
    (elim (f == z) as (λ b. (f == z) ≡ b → (if b then l else label_in fs (slice_set ls i n) z) ≡ (if z == s then n else (if b then l else label_in fs ls z))) [
      | true ↦ λ e. let is = eqb-true f z e in sym (cond-false (z == s) n l (ne_eqb z s (λ k. omega (arith, less, is, k))))
      | false ↦ λ e. rest
    ]) refl

pub label-map : (fs ls : List ℕ) (g : ℕ → ℕ) (z : ℕ) → g 0 ≡ 0 → label_in fs (map g ls) z ≡ g (label_in fs ls z)
label-map [] ls g z none = sym none
label-map (f ∷ fs) [] g z none = sym none
label-map (f ∷ fs) (l ∷ ls) g z none =
    elim (f == z) as (λ b. (if b then g l else label_in fs (map g ls) z) ≡ g (if b then l else label_in fs ls z)) [
      | true ↦ refl
      | false ↦ label-map fs ls g z none
    ]

-- ---- the first n labels are replaced

abbrev pub swapped_first : ℕ → ℕ → ℕ → List ℕ → List ℕ
swapped_first zero old new xs = xs
swapped_first (suc i) old new [] = []
swapped_first (suc i) old new (x ∷ xs) = replaced_label old new x ∷ swapped_first i old new xs

swapped-length : (i old new : ℕ) (xs : List ℕ) → length (swapped_first i old new xs) ≡ length xs
swapped-length zero old new xs = refl
swapped-length (suc i) old new [] = refl
swapped-length (suc i) old new (x ∷ xs) = ap suc (swapped-length i old new xs)

swapped-next : (i old new d : ℕ) (xs : List ℕ) → i < length xs → slice_set (swapped_first i old new xs) i (replaced_label old new (get_or (swapped_first i old new xs) i d)) ≡ swapped_first (suc i) old new xs
swapped-next i old new d [] h = absurd (omega arith)
swapped-next zero old new d (x ∷ xs) h = refl
swapped-next (suc i) old new d (x ∷ xs) h = ap (λ ys. replaced_label old new x ∷ ys) (swapped-next i old new d xs (omega arith))

pub swapped-more : (i old new d y : ℕ) (xs now next : List ℕ) → now ≡ swapped_first i old new xs → i < length xs → y ≡ replaced_label old new (get_or now i d) → next ≡ slice_set now i y → next ≡ swapped_first (i + 1) old new xs
swapped-more i old new d y xs now next so_far inside is set =
    let k : i + 1 ≡ suc i = omega arith in
    set ∙ (ap (slice_set now i) is ∙ (ap (λ zs. slice_set zs i (replaced_label old new (get_or zs i d))) so_far ∙ (swapped-next i old new d xs inside ∙ ap (λ n. swapped_first n old new xs) (sym k))))

pub all-swapped : (i old new : ℕ) (xs : List ℕ) → length xs ≤ i → swapped_first i old new xs ≡ map (λ x. replaced_label old new x) xs
all-swapped zero old new [] h = refl
all-swapped zero old new (x ∷ xs) h = absurd (omega arith)
all-swapped (suc i) old new [] h = refl
all-swapped (suc i) old new (x ∷ xs) h = ap (λ ys. replaced_label old new x ∷ ys) (all-swapped i old new xs (omega arith))

pub swapped-long : (i old new : ℕ) (xs : List ℕ) → length (swapped_first i old new xs) ≡ length xs
swapped-long = swapped-length

-- ---- zeros

pub zero-first : (fs : List ℕ) (s : ℕ) → label_in fs [] s ≡ 0
zero-first [] s = refl
zero-first (f ∷ fs) s = refl

pub zero-push : (fs ls : List ℕ) (s : ℕ) → ((gs : List ℕ) (t : ℕ) → label_in gs ls t ≡ 0) → label_in fs (ls ++ 0 ∷ []) s ≡ 0
zero-push [] ls s h = refl
zero-push (f ∷ fs) [] s h =
    elim (f == s) as (λ b. (if b then 0 else label_in fs [] s) ≡ 0) [ true ↦ refl | false ↦ zero-first fs s ]
zero-push (f ∷ fs) (l ∷ ls) s h =
    let first : l ≡ 0 = sym (cond-true (s == s) l (label_in [] ls s) (eq-eqb s s refl)) ∙ h (s ∷ []) s in
    let rest : (gs : List ℕ) (t : ℕ) → label_in gs ls t ≡ 0 = λ gs t. sym (cond-false (suc t == t) l (label_in gs ls t) (ne_eqb (suc t) t (λ e. omega (arith, e)))) ∙ h (suc t ∷ gs) t in
    elim (f == s) as (λ b. (if b then l else label_in fs (ls ++ 0 ∷ []) s) ≡ 0) [ true ↦ first | false ↦ zero-push fs ls s rest ]

-- ---- merged labels

pub merged-none : (label : ℕ → ℕ) (v n : ℕ) → label v ≡ 0 → label ≡ merged_label label v n
merged-none label v n none = λ i z. sym (cond-false (not (label v == 0) && (label v == label z)) n (label z) (ap (λ b. not b && (label v == label z)) (eq-eqb (label v) 0 none))) i

pub merged-own : (label : ℕ → ℕ) (v n : ℕ) → label v ≡ n → label ≡ merged_label label v n
merged-own label v n own = λ i z. same z i
  where
    same : (z : ℕ) → label z ≡ merged_label label v n z
    same z = (elim (not (label v == 0) && (label v == label z)) as (λ b. (not (label v == 0) && (label v == label z)) ≡ b → label z ≡ (if b then n else label z)) [
      | true ↦ λ e. sym (eqb-true (label v) (label z) (and_parts (not (label v == 0)) (label v == label z) e).1) ∙ own
      | false ↦ λ _. refl
    ]) refl

pub merged-swap : (fs ls now : List ℕ) (v n l : ℕ) → label_in fs ls v ≡ l → (l ≡ 0 → ⊥) → now ≡ map (λ x. replaced_label l n x) ls → label_in fs now ≡ merged_label (label_in fs ls) v n
merged-swap fs ls now v n l own some is = λ i z. same z i
  where
    none : replaced_label l n 0 ≡ 0
    none = cond-false (0 == l) n 0 (ne_eqb 0 l (λ e. some (sym e)))

    same : (z : ℕ) → label_in fs now z ≡ merged_label (label_in fs ls) v n z
    same z =
        let at = label_in fs ls z in
        ap (λ xs. label_in fs xs z) is ∙ (label-map fs ls (λ x. replaced_label l n x) z none ∙
        (elim (at == l) as (λ b. (at == l) ≡ b → (if b then n else at) ≡ merged_label (label_in fs ls) v n z) [
          | true ↦ λ e. sym (cond-true (not (label_in fs ls v == 0) && (label_in fs ls v == at)) n at
              (and_from (not (label_in fs ls v == 0)) (label_in fs ls v == at) (ap not (ne_eqb (label_in fs ls v) 0 (λ k. some (sym own ∙ k)))) (eq-eqb (label_in fs ls v) at (own ∙ sym (eqb-true at l e)))))
          | false ↦ λ e. sym (cond-false (not (label_in fs ls v == 0) && (label_in fs ls v == at)) n at
              (false_from_ne_true _ (λ yes. both_ways (at == l) e (eq-eqb at l (sym (eqb-true (label_in fs ls v) at (and_parts (not (label_in fs ls v == 0)) (label_in fs ls v == at) yes).1) ∙ own)))))
        ]) refl)

pub merged-push : (label : ℕ → ℕ) (vs : List ℕ) (v n : ℕ) → merged_labels label (vs ++ v ∷ []) n ≡ merged_label (merged_labels label vs n) v n
merged-push label [] v n = refl
merged-push label (w ∷ vs) v n = merged-push (merged_label label w n) vs v n

-- one more station
pub merged-take : (L M N : ℕ → ℕ) (vs : List ℕ) (i n d : ℕ) → i < length vs → M ≡ merged_labels L (take i vs) n → N ≡ merged_label M (get_or vs i d) n → N ≡ merged_labels L (take (i + 1) vs) n
merged-take L M N vs i n d inside so_far step =
    step
    ∙ (ap (λ f. merged_label f (get_or vs i d) n) so_far
    ∙ (sym (merged-push L (take i vs) (get_or vs i d) n)
    ∙ ap (λ ws. merged_labels L ws n) (sym (take_more vs i d inside))))

-- ---- merging one after another, and at once

-- one of these stations is on air in a component with this label
abbrev pub meets : (ℕ → ℕ) → List ℕ → ℕ → Bool
meets label vs l = list_any (λ v. not (label v == 0) && (label v == l)) vs

abbrev at_once : (ℕ → ℕ) → List ℕ → ℕ → ℕ → ℕ
at_once label vs n z = if meets label vs (label z) then n else label z

-- the cases of one step
step-cases : (m l k n : ℕ) (any_v any_z : Bool) → (k ≡ l → any_v ≡ any_z) →
    (if not ((if any_v then n else k) == 0) && ((if any_v then n else k) == (if any_z then n else l)) then n else (if any_z then n else l))
    ≡ (if any_z || ((not (k == 0) && (k == l)) || false) then n else l)
step-cases m l k n any_v true same =
    elim (not ((if any_v then n else k) == 0) && ((if any_v then n else k) == n)) as (λ b. (if b then n else n) ≡ n) [ true ↦ refl | false ↦ refl ]
step-cases m l k n true false same =
    let apart : k ≡ l → ⊥ = λ e. let no : true ≡ false = same e in cc in
    let other : (not (k == 0) && (k == l)) ≡ false = false_from_ne_true _ (λ yes. apart (eqb-true k l (and_parts (not (k == 0)) (k == l) yes).1)) in
    (elim (not (n == 0) && (n == l)) as (λ b. (not (n == 0) && (n == l)) ≡ b → (if b then n else l) ≡ (if ((not (k == 0) && (k == l)) || false) then n else l)) [
      | true ↦ λ e. eqb-true n l (and_parts (not (n == 0)) (n == l) e).1 ∙ sym (cond-false ((not (k == 0) && (k == l)) || false) n l (ap (λ b. b || false) other))
      | false ↦ λ _. sym (cond-false ((not (k == 0) && (k == l)) || false) n l (ap (λ b. b || false) other))
    ]) refl
step-cases m l k n false false same = ap (λ b. if b then n else l) (or_false (not (k == 0) && (k == l)))
  where
    or_false : (b : Bool) → b ≡ (b || false)
    or_false true = refl
    or_false false = refl

at-once-push : (label : ℕ → ℕ) (vs : List ℕ) (v n z : ℕ) → merged_label (at_once label vs n) v n z ≡ at_once label (vs ++ v ∷ []) n z
at-once-push label vs v n z =
    step-cases 0 (label z) (label v) n (meets label vs (label v)) (meets label vs (label z)) (λ e. ap (meets label vs) e)
    ∙ ap (λ b. if b then n else label z) (sym (list_any-append (λ w. not (label w == 0) && (label w == label z)) vs (v ∷ [])))

-- merging one after another, continued from merging at once
merged-from : (label : ℕ → ℕ) (vs ws : List ℕ) (n z : ℕ) → merged_labels (at_once label vs n) ws n z ≡ at_once label (vs ++ ws) n z
merged-from label vs [] n z = ap (λ xs. at_once label xs n z) (sym (append-nil vs))
merged-from label vs (w ∷ ws) n z =
    let same : merged_label (at_once label vs n) w n ≡ at_once label (vs ++ w ∷ []) n = λ i y. at-once-push label vs w n y i in
    ap (λ f. merged_labels f ws n z) same ∙ (merged-from label (vs ++ w ∷ []) ws n z ∙ ap (λ xs. at_once label xs n z) (append_assoc vs (w ∷ []) ws))

-- ---- by the neighbours in the book

-- the list has exactly the stations that interfere with this one
abbrev pub ListsNear : BookView → ℕ → List ℕ → Type 0
ListsNear book u near = (t : ℕ) → is_in near t ≡ interferes book u t

-- a station with a label is one of the list
label-known : (component_labels : ComponentLabelsView) (v : ℕ) → not (label_of component_labels v == 0) ≡ true → Contains (labelled component_labels) v
label-known component_labels v some =
    Contains-filter (λ w. not (label_of component_labels w == 0)) component_labels.stations v
    (is_in-gives component_labels.stations v (⊎_elim (λ yes. yes) (λ out. let none : not (label_of component_labels v == 0) ≡ false = ap (λ l. not (l == 0)) (label-out component_labels.stations component_labels.labels v out) in absurd (both_ways (not (label_of component_labels v == 0)) none some)) (cases_Bool (is_in component_labels.stations v)))) some

pub meets-touches : (book : BookView) (component_labels : ComponentLabelsView) (u l : ℕ) (near : List ℕ) → ListsNear book u near → meets (label_of component_labels) near l ≡ touches book (labelled component_labels) (label_of component_labels) u l
meets-touches book component_labels u l near listed = same-truth _ _
    (λ h.
    let (v, there, is) = list_any-gives (λ w. not (label_of component_labels w == 0) && (label_of component_labels w == l)) near h in
    let both = and_parts (not (label_of component_labels v == 0)) (label_of component_labels v == l) is in
    list_any-from (λ w. interferes book u w && (label_of component_labels w == l)) (labelled component_labels) v (label-known component_labels v both.0)
    (and_from (interferes book u v) (label_of component_labels v == l) (sym (listed v) ∙ is_in-from near v there) both.1))
    (λ h.
    let (v, there, is) = list_any-gives (λ w. interferes book u w && (label_of component_labels w == l)) (labelled component_labels) h in
    let both = and_parts (interferes book u v) (label_of component_labels v == l) is in
    list_any-from (λ w. not (label_of component_labels w == 0) && (label_of component_labels w == l)) near v (is_in-gives near v (listed v ∙ both.0))
    (and_from (not (label_of component_labels v == 0)) (label_of component_labels v == l) (Contains-from_filter (λ w. not (label_of component_labels w == 0)) component_labels.stations v there).1 both.1))

-- the labels once the station's components are merged and it has its own label
pub joined-is : (book : BookView) (component_labels : ComponentLabelsView) (u n z : ℕ) (near : List ℕ) → ListsNear book u near → (if z == u then n else merged_labels (label_of component_labels) near n z) ≡ relabelled book (labelled component_labels) (label_of component_labels) u n z
joined-is book component_labels u n z near listed =
    let same : merged_labels (label_of component_labels) near n z ≡ (if touches book (labelled component_labels) (label_of component_labels) u (label_of component_labels z) then n else label_of component_labels z) =
    merged-from (label_of component_labels) [] near n z ∙ ap (λ b. if b then n else label_of component_labels z) (meets-touches book component_labels u (label_of component_labels z) near listed) in
    elim (z == u) as (λ b. (if b then n else merged_labels (label_of component_labels) near n z) ≡ (if b || touches book (labelled component_labels) (label_of component_labels) u (label_of component_labels z) then n else label_of component_labels z)) [
      | true ↦ refl
      | false ↦ same
    ]

-- ---- since when

-- a neighbour has this label or a greater one
pub since-is : (book : BookView) (component_labels : ComponentLabelsView) (u time : ℕ) (near : List ℕ) → ListsNear book u near → 0 < time → list_any (λ v. nat_le time (label_of component_labels v)) near ≡ touches_since book component_labels u time
since-is book component_labels u time near listed some = same-truth _ _
    (λ h.
    let (v, there, is) = list_any-gives (λ w. nat_le time (label_of component_labels w)) near h in
    let least = leb-true time (label_of component_labels v) is in
    let on : not (label_of component_labels v == 0) ≡ true = ap not (ne_eqb (label_of component_labels v) 0 (λ e. omega (arith, some, least, e))) in
    list_any-from (λ w. interferes book u w && nat_le time (label_of component_labels w)) (labelled component_labels) v (label-known component_labels v on)
    (and_from (interferes book u v) (nat_le time (label_of component_labels v)) (sym (listed v) ∙ is_in-from near v there) is))
    (λ h.
    let (v, there, is) = list_any-gives (λ w. interferes book u w && nat_le time (label_of component_labels w)) (labelled component_labels) h in
    let both = and_parts (interferes book u v) (nat_le time (label_of component_labels v)) is in
    list_any-from (λ w. nat_le time (label_of component_labels w)) near v (is_in-gives near v (listed v ∙ both.0)) both.1)
