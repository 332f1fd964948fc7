-- For `changes`: the pairs of the changed stations, with one lookup for each, decide what a changed map violates.
use Rattle.std.proofs.Common.{◌≡◌, ℕ, ◌+◌, ◌<◌, Bool, true, false, cond, ◌==◌, ◌&&◌, ◌||◌, List, [], ◌∷◌, drop, filter, length, get_or, Some, None, nat_eq, option_map, find, Contains, inl, inr, refl, sym, ap, ◌∙◌, eqb-true, eq-eqb}
use Rattle.std.specs.List.{list_any}
use Rattle.std.specs.Option.{option_or, option_eq}
use Rattle.std.proofs.lemmas.Bool.{and_parts, and_from, or_from, or_left, or_right, both_ways, false_from_ne_true}
use Rattle.std.proofs.lemmas.List.{drop_more}
use Rattle.pack_defs.specs.declared.pair.Pair.{Pair}
use Rattle.pack_defs.specs.Book.{BookView}
use Rattle.pack_defs.specs.ChannelMap.{IsAscending, channel_of, overlaid}
use Rattle.pack_defs.specs.Lists.{has_entry}
use Rattle.pack_defs.proofs.MapLemmas.{overlaid-ascending}
use Rattle.pack_defs.proofs.Members.{Contains-filter, Contains-from_filter, list_any-from}
use Rattle.pack_defs.proofs.Words.{entry, Contains-from_has_entry, list_any-from_each, mapped-none}
use Rattle.assign_check.specs.declared.fault.MapFault.TheVariants.{Violates}
use Rattle.assign_check.specs.Changes.{violates_at, violates_at_some}
use Rattle.assign_check.specs.Fault.{is_violated, violation}
use Rattle.assign_check.proofs.Faultless.{found-none, none-found}
use Rattle.assign_check.proofs.Finds.{stands-exactly}
use Rattle.assign_check.proofs.Overlays.{change-stands, over-channel, overlaid-from}
use Rattle.assign_check.proofs.Violations.{from_own, is_violated_from, own-channel}

-- ---- an entry of the map

-- the map has the entry if its channel is the changed one, or the last one without a change
pub stands-changed : (s c d : ℕ) (last changes : List (ℕ × ℕ)) → IsAscending last → IsAscending changes → channel_of s changes ≡ Some d → nat_eq d c ≡ has_entry (overlaid last changes) (s, c)
stands-changed s c d last changes a b e =
    let known : channel_of s (overlaid last changes) ≡ Some d = over-channel s last changes b ∙ ap (λ o. option_or o (channel_of s last)) e in
    ap (λ o. option_eq nat_eq o (Some c)) (sym known) ∙ stands-exactly s c (overlaid last changes) (overlaid-ascending last changes a)

pub stands-unchanged : (s c : ℕ) (last changes : List (ℕ × ℕ)) → IsAscending last → IsAscending changes → channel_of s changes ≡ None → has_entry last (s, c) ≡ has_entry (overlaid last changes) (s, c)
stands-unchanged s c last changes a b e =
    let known : channel_of s (overlaid last changes) ≡ channel_of s last = over-channel s last changes b ∙ ap (λ o. option_or o (channel_of s last)) e in
    sym (stands-exactly s c last a) ∙ ap (λ o. option_eq nat_eq o (Some c)) (sym known) ∙ stands-exactly s c (overlaid last changes) (overlaid-ascending last changes a)

-- the rules for `is_on_channel`
pub ruleset standing = (stands-changed, stands-unchanged)

-- ---- the pairs of a changed station

-- the pair is on this entry's channel at its second station, and its other entry is in the map
abbrev pub is_violated_to : List (ℕ × ℕ) → ℕ × ℕ → Pair → Bool
is_violated_to entries own p = (p.b == own.1) && has_entry entries (p.f, p.a)

and_swap : (a b : Bool) → (a && b) ≡ (b && a)
and_swap true true = refl
and_swap true false = refl
and_swap false true = refl
and_swap false false = refl

-- hence a pair to the entry's station is violated
to_own : (entries : List (ℕ × ℕ)) (own : ℕ × ℕ) (p : Pair) → IsAscending entries → has_entry entries own ≡ true → p.g ≡ own.0 → is_violated_to entries own p ≡ is_violated entries p
to_own entries own p a h e =
    ap (λ b. b && has_entry entries (p.f, p.a)) (sym (own-channel entries own p.b a h) ∙ ap (λ (g : ℕ). has_entry entries (g, p.b)) (sym e))
    ∙ and_swap (has_entry entries (p.g, p.b)) (has_entry entries (p.f, p.a))

any-agrees : (keep t u : Pair → Bool) (ps : List Pair) → ((p : Pair) → keep p ≡ true → t p ≡ u p) → list_any t (filter keep ps) ≡ list_any u (filter keep ps)
any-agrees keep t u [] h = refl
any-agrees keep t u (p ∷ ps) h =
    (elim (keep p) as (λ b. keep p ≡ b → list_any t (cond b (p ∷ filter keep ps) (filter keep ps)) ≡ list_any u (cond b (p ∷ filter keep ps) (filter keep ps))) [
      | true ↦ λ e. ap (λ b. b || list_any t (filter keep ps)) (h p e) ∙ ap (λ b. u p || b) (any-agrees keep t u ps h)
      | false ↦ λ e. any-agrees keep t u ps h
    ]) refl

pub changed-from : (last changes : List (ℕ × ℕ)) (own : ℕ × ℕ) (pairs : List Pair) → IsAscending last → IsAscending changes → has_entry changes own ≡ true → list_any (is_violated_from (overlaid last changes) own) (filter (λ p. p.f == own.0) pairs) ≡ list_any (is_violated (overlaid last changes)) (filter (λ p. p.f == own.0) pairs)
changed-from last changes own pairs a b h =
    let map = overlaid last changes in
    any-agrees (λ p. p.f == own.0) (is_violated_from map own) (is_violated map) pairs (λ p e. from_own map own p (overlaid-ascending last changes a) (change-stands last changes own b h) (eqb-true p.f own.0 e))

pub changed-to : (last changes : List (ℕ × ℕ)) (own : ℕ × ℕ) (pairs : List Pair) → IsAscending last → IsAscending changes → has_entry changes own ≡ true → list_any (is_violated_to (overlaid last changes) own) (filter (λ p. p.g == own.0) pairs) ≡ list_any (is_violated (overlaid last changes)) (filter (λ p. p.g == own.0) pairs)
changed-to last changes own pairs a b h =
    let map = overlaid last changes in
    any-agrees (λ p. p.g == own.0) (is_violated_to map own) (is_violated map) pairs (λ p e. to_own map own p (overlaid-ascending last changes a) (change-stands last changes own b h) (eqb-true p.g own.0 e))

-- ---- a pass over a list is at an item that passes a test

pub any-here : {A : Type 0} (p : A → Bool) (xs : List A) (i : ℕ) (d : A) → i < length xs → p (get_or xs i d) ≡ true → list_any p (drop i xs) ≡ true
any-here p xs i d l t =
    ap (list_any p) (drop_more xs i d l) ∙ or_left (p (get_or xs i d)) (list_any p (drop (i + 1) xs)) t

-- ---- the changed stations decide

-- a violated pair of the book, with this one of its entries changed
at-first : (book : BookView) (map changes : List (ℕ × ℕ)) (p : Pair) → Contains book.pairs p → is_violated map p ≡ true → has_entry changes (p.f, p.a) ≡ true → violates_at_some book map changes ≡ true
at-first book map changes p there h own =
    list_any-from (λ x. violates_at book map x.0) changes (entry p.f p.a) (Contains-from_has_entry changes (entry p.f p.a) own)
    (or_left (list_any (is_violated map) (filter (λ q. q.f == p.f) book.pairs)) (list_any (is_violated map) (filter (λ q. q.g == p.f) book.pairs))
    (list_any-from (is_violated map) (filter (λ q. q.f == p.f) book.pairs) p (Contains-filter (λ q. q.f == p.f) book.pairs p there (eq-eqb p.f p.f refl)) h))

at-second : (book : BookView) (map changes : List (ℕ × ℕ)) (p : Pair) → Contains book.pairs p → is_violated map p ≡ true → has_entry changes (p.g, p.b) ≡ true → violates_at_some book map changes ≡ true
at-second book map changes p there h own =
    list_any-from (λ x. violates_at book map x.0) changes (entry p.g p.b) (Contains-from_has_entry changes (entry p.g p.b) own)
    (or_right (list_any (is_violated map) (filter (λ q. q.f == p.g) book.pairs)) (list_any (is_violated map) (filter (λ q. q.g == p.g) book.pairs))
    (list_any-from (is_violated map) (filter (λ q. q.g == p.g) book.pairs) p (Contains-filter (λ q. q.g == p.g) book.pairs p there (eq-eqb p.g p.g refl)) h))

none-of-pairs : (book : BookView) (entries : List (ℕ × ℕ)) → violation book entries ≡ None → list_any (is_violated entries) book.pairs ≡ false
none-of-pairs book entries e = found-none (is_violated entries) book.pairs (mapped-none Violates (find (is_violated entries) book.pairs) e)

-- if the last map violates no pair, a violated pair of the new map is of a changed station
violated-at : (book : BookView) (last changes : List (ℕ × ℕ)) (p : Pair) → violation book last ≡ None → Contains book.pairs p → is_violated (overlaid last changes) p ≡ true → violates_at_some book (overlaid last changes) changes ≡ true
violated-at book last changes p none there h =
    let map = overlaid last changes in
    let both = and_parts (has_entry map (p.f, p.a)) (has_entry map (p.g, p.b)) h in
    elim (overlaid-from last changes (entry p.f p.a) both.0) [
      | inl own ↦ at-first book map changes p there h own
      | inr first ↦ elim (overlaid-from last changes (entry p.g p.b) both.1) [
        | inl own ↦ at-second book map changes p there h own
        | inr second ↦
            let before : list_any (is_violated last) book.pairs ≡ true = list_any-from (is_violated last) book.pairs p there (and_from (has_entry last (p.f, p.a)) (has_entry last (p.g, p.b)) first second) in
            absurd (both_ways (list_any (is_violated last) book.pairs) (none-of-pairs book last none) before)
      ]
    ]

none-kept : (book : BookView) (entries : List (ℕ × ℕ)) (keep : Pair → Bool) → violation book entries ≡ None → list_any (is_violated entries) (filter keep book.pairs) ≡ false
none-kept book entries keep none =
    list_any-from_each (is_violated entries) (filter keep book.pairs) (λ p c. false_from_ne_true (is_violated entries p) (λ h.
    both_ways (list_any (is_violated entries) book.pairs) (none-of-pairs book entries none)
    (list_any-from (is_violated entries) book.pairs p (Contains-from_filter keep book.pairs p c).0 h)))

-- if the last map violates no pair, the new one violates none exactly if no pair of a changed station is violated
pub none-violated_changed : (book : BookView) (last changes : List (ℕ × ℕ)) → violation book last ≡ None → violates_at_some book (overlaid last changes) changes ≡ false → violation book (overlaid last changes) ≡ None
none-violated_changed book last changes none e =
    let map = overlaid last changes in
    ap (option_map Violates) (none-found (is_violated map) book.pairs (list_any-from_each (is_violated map) book.pairs (λ p there.
    false_from_ne_true (is_violated map p) (λ h. both_ways (violates_at_some book map changes) e (violated-at book last changes p none there h)))))

pub none-changed_violated : (book : BookView) (entries changes : List (ℕ × ℕ)) → violation book entries ≡ None → violates_at_some book entries changes ≡ false
none-changed_violated book entries changes none =
    list_any-from_each (λ x. violates_at book entries x.0) changes (λ x c.
    or_from (list_any (is_violated entries) (filter (λ p. p.f == x.0) book.pairs)) (list_any (is_violated entries) (filter (λ p. p.g == x.0) book.pairs))
    (none-kept book entries (λ p. p.f == x.0) none) (none-kept book entries (λ p. p.g == x.0) none))
