-- The channel map entries of the stations that have a channel in their slot. For `air_map`.
use Rattle.std.proofs.Common.{◌≡◌, ℕ, zero, suc, ◌+◌, ◌<◌, ◌≤◌, true, false, ◌==◌, nat_lt, List, [], ◌∷◌, ◌++◌, drop, length, get_or, slice_set, Option, Some, None, MatchOption, Result, Ok, Err, refl, sym, ap, ◌∙◌, subst, arith, eq-eqb, ne_eqb, append_assoc, append-nil}
use Rattle.std.specs.List.Sorted.{IsBinarySearchResult, IsSearchInRange}
use Rattle.std.specs.Ordering.{nat_cmp}
use Rattle.std.specs.Result.{result_ok}
use Rattle.std.proofs.lemmas.Bool.{and_parts, and_from, or_parts, or_left, or_right, cond-true, cond-false, false_from_ne_true}
use Rattle.std.proofs.lemmas.List.{drop_more}
use Rattle.std.proofs.Math.ListN.{drop_of_length-le}
use Rattle.pack_defs.specs.ChannelMap.{IsAscending, channel_of, overlaid, put}
use Rattle.pack_defs.specs.Lists.{has_station, is_ascending, is_in}
use Rattle.pack_defs.proofs.Chains.{ascending-skip}
use Rattle.pack_defs.proofs.MapLemmas.{channel_of-none, put-before, put-behind, put-here, stations}
use Rattle.pack_defs.proofs.Searches.{found-key, found-number}
use Rattle.pack_defs.proofs.Words.{ascending-rest, below-later, after-first}
use Rattle.auction_core.specs.AirMap.{placed_entries}

-- ---- a search for a place

pub place-found : (xs : List ℕ) (k : ℕ) (r : Result ℕ ℕ) → IsSearchInRange r (length xs) → IsBinarySearchResult (λ y. nat_cmp y k) xs r → is_ascending xs ≡ true → MatchOption (result_ok r) (is_in xs k ≡ false) (λ i. (i < length xs) × (get_or xs i 0 ≡ k))
place-found xs k (Ok i) bound h a = (bound, found-key (λ y. y) xs k i 0 h)
place-found xs k (Err i) bound h a = sym (found-number xs k (Err i) bound h a)

-- ---- the entries ascend as the stations do

placed-above : (b : ℕ) (ss : List ℕ) (cs : List (Option ℕ)) → is_ascending (b ∷ ss) ≡ true → is_ascending (b ∷ stations (placed_entries ss cs)) ≡ true
placed-above b [] cs a = refl
placed-above b (s ∷ ss) [] a = refl
placed-above b (s ∷ ss) (None ∷ cs) a = placed-above b ss cs (ascending-skip b s ss a)
placed-above b (s ∷ ss) (Some c ∷ cs) a =
    let parts = and_parts (nat_lt b s) (is_ascending (s ∷ ss)) a in
    and_from (nat_lt b s) (is_ascending (s ∷ stations (placed_entries ss cs))) parts.0 (placed-above s ss cs parts.1)

pub placed-ascending : (ss : List ℕ) (cs : List (Option ℕ)) → is_ascending ss ≡ true → IsAscending (placed_entries ss cs)
placed-ascending [] cs a = refl
placed-ascending (s ∷ ss) [] a = refl
placed-ascending (s ∷ ss) (None ∷ cs) a = placed-ascending ss cs (ascending-rest s ss a)
placed-ascending (s ∷ ss) (Some c ∷ cs) a = placed-above s ss cs a

-- a number below all others is not one of them
pub not-above : (s : ℕ) (xs : List ℕ) → is_ascending (s ∷ xs) ≡ true → is_in xs s ≡ false
not-above s xs a = false_from_ne_true (is_in xs s) (λ h. let less : s < s = below-later s xs s a h in absurd (omega arith))

-- no entry is of a station below all others
pub none-above : (s : ℕ) (es : List (ℕ × ℕ)) → is_ascending (s ∷ stations es) ≡ true → channel_of s es ≡ None
none-above s es a = channel_of-none es s (not-above s (stations es) a)

-- ---- the channel of a station is the one in its slot

channel-there : (ss : List ℕ) (cs : List (Option ℕ)) (i : ℕ) (d : Option ℕ) → is_ascending ss ≡ true → length cs ≡ length ss → i < length ss → channel_of (get_or ss i 0) (placed_entries ss cs) ≡ get_or cs i d
channel-there [] cs i d a e l = absurd (omega arith)
channel-there (s ∷ ss) [] i d a e l = absurd (omega arith)
channel-there (s ∷ ss) (None ∷ cs) zero d a e l = none-above s (placed_entries ss cs) (placed-above s ss cs a)
channel-there (s ∷ ss) (Some c ∷ cs) zero d a e l = cond-true (s == s) (Some c) (channel_of s (placed_entries ss cs)) (eq-eqb s s refl)
channel-there (s ∷ ss) (None ∷ cs) (suc i) d a e l = channel-there ss cs i d (ascending-rest s ss a) (omega arith) (omega arith)
channel-there (s ∷ ss) (Some c ∷ cs) (suc i) d a e l =
    let less : s < get_or ss i 0 = after-first s ss i a (omega arith) in
    cond-false (s == get_or ss i 0) (Some c) (channel_of (get_or ss i 0) (placed_entries ss cs)) (ne_eqb s (get_or ss i 0) (λ q. omega arith))
    ∙ channel-there ss cs i d (ascending-rest s ss a) (omega arith) (omega arith)

pub channel-at : (ss : List ℕ) (cs : List (Option ℕ)) (i s : ℕ) (d : Option ℕ) → is_ascending ss ≡ true → length cs ≡ length ss → (i < length ss) × (get_or ss i 0 ≡ s) → get_or cs i d ≡ channel_of s (placed_entries ss cs)
channel-at ss cs i s d a e at = subst (λ t. get_or cs i d ≡ channel_of t (placed_entries ss cs)) at.1 (sym (channel-there ss cs i d a e at.0))

pub channel-out : (ss : List ℕ) (cs : List (Option ℕ)) (s : ℕ) → is_in ss s ≡ false → channel_of s (placed_entries ss cs) ≡ None
channel-out [] cs s h = refl
channel-out (x ∷ ss) [] s h = refl
channel-out (x ∷ ss) (None ∷ cs) s h = channel-out ss cs s (or_parts (x == s) (is_in ss s) h).1
channel-out (x ∷ ss) (Some c ∷ cs) s h =
    let parts = or_parts (x == s) (is_in ss s) h in
    cond-false (x == s) (Some c) (channel_of s (placed_entries ss cs)) parts.0 ∙ channel-out ss cs s parts.1

-- ---- a channel put into a slot

put-first : (x : ℕ × ℕ) (es : List (ℕ × ℕ)) → is_ascending (x.0 ∷ stations es) ≡ true → put x es ≡ x ∷ es
put-first x [] a = refl
put-first x (y ∷ ys) a =
    let less : x.0 < y.0 = below-later x.0 (stations (y ∷ ys)) y.0 a (or_left (y.0 == y.0) (is_in (stations ys) y.0) (eq-eqb y.0 y.0 refl)) in
    put-before x y ys less

put-there : (ss : List ℕ) (cs : List (Option ℕ)) (i c : ℕ) → is_ascending ss ≡ true → length cs ≡ length ss → i < length ss → placed_entries ss (slice_set cs i (Some c)) ≡ put (get_or ss i 0, c) (placed_entries ss cs)
put-there [] cs i c a e l = absurd (omega arith)
put-there (s ∷ ss) [] i c a e l = absurd (omega arith)
put-there (s ∷ ss) (None ∷ cs) zero c a e l = sym (put-first (s, c) (placed_entries ss cs) (placed-above s ss cs a))
put-there (s ∷ ss) (Some d ∷ cs) zero c a e l = sym (put-here (s, c) (s, d) (placed_entries ss cs) refl)
put-there (s ∷ ss) (None ∷ cs) (suc i) c a e l = put-there ss cs i c (ascending-rest s ss a) (omega arith) (omega arith)
put-there (s ∷ ss) (Some d ∷ cs) (suc i) c a e l =
    ap (λ (es : List (ℕ × ℕ)). (s, d) ∷ es) (put-there ss cs i c (ascending-rest s ss a) (omega arith) (omega arith))
    ∙ sym (put-behind (get_or ss i 0, c) (s, d) (placed_entries ss cs) (after-first s ss i a (omega arith)))

pub put-at : (ss : List ℕ) (cs : List (Option ℕ)) (i s c : ℕ) → is_ascending ss ≡ true → length cs ≡ length ss → (i < length ss) × (get_or ss i 0 ≡ s) → placed_entries ss (slice_set cs i (Some c)) ≡ put (s, c) (placed_entries ss cs)
put-at ss cs i s c a e at = subst (λ t. placed_entries ss (slice_set cs i (Some c)) ≡ put (t, c) (placed_entries ss cs)) at.1 (put-there ss cs i c a e at.0)

-- without channels there is no entry
pub none-anywhere : (ss : List ℕ) → placed_entries ss [] ≡ []
none-anywhere [] = refl
none-anywhere (s ∷ ss) = refl

pub none-more : (ss : List ℕ) (cs : List (Option ℕ)) → placed_entries ss (cs ++ None ∷ []) ≡ placed_entries ss cs
none-more [] cs = refl
none-more (s ∷ ss) [] = none-anywhere ss
none-more (s ∷ ss) (None ∷ cs) = none-more ss cs
none-more (s ∷ ss) (Some c ∷ cs) = ap (λ (es : List (ℕ × ℕ)). (s, c) ∷ es) (none-more ss cs)

-- ---- one more slot

-- the entry of a station, if it has a channel, before others
abbrev pub with_own : ℕ → Option ℕ → List (ℕ × ℕ) → List (ℕ × ℕ)
with_own s None es = es
with_own s (Some c) es = (s, c) ∷ es

pub places-more : (ss : List ℕ) (cs : List (Option ℕ)) (i : ℕ) (o : Option ℕ) → length cs ≡ length ss → i < length ss → o ≡ get_or cs i o → placed_entries (drop i ss) (drop i cs) ≡ with_own (get_or ss i 0) o (placed_entries (drop (i + 1) ss) (drop (i + 1) cs))
places-more ss cs i o e l is =
    ap (λ xs. placed_entries xs (drop i cs)) (drop_more ss i 0 l)
    ∙ ap (λ xs. placed_entries (get_or ss i 0 ∷ drop (i + 1) ss) xs) (drop_more cs i o (omega arith))
    ∙ ap (λ z. placed_entries (get_or ss i 0 ∷ drop (i + 1) ss) (z ∷ drop (i + 1) cs)) (sym is)
    ∙ own (get_or ss i 0) o (drop (i + 1) ss) (drop (i + 1) cs)
  where
    own : (s : ℕ) (o : Option ℕ) (ss : List ℕ) (cs : List (Option ℕ)) → placed_entries (s ∷ ss) (o ∷ cs) ≡ with_own s o (placed_entries ss cs)
    own s None ss cs = refl
    own s (Some c) ss cs = refl

-- ---- all entries, slot by slot

pub place-passed : (ss : List ℕ) (cs : List (Option ℕ)) (done all : List (ℕ × ℕ)) (i : ℕ) (o : Option ℕ) → length cs ≡ length ss → i < length ss → o ≡ get_or cs i o → o ≡ None → done ++ placed_entries (drop i ss) (drop i cs) ≡ all → done ++ placed_entries (drop (i + 1) ss) (drop (i + 1) cs) ≡ all
place-passed ss cs done all i o e l is none h =
    ap (λ xs. done ++ xs) (sym (places-more ss cs i o e l is ∙ ap (λ o. with_own (get_or ss i 0) o (placed_entries (drop (i + 1) ss) (drop (i + 1) cs))) none)) ∙ h

pub place-taken : (ss : List ℕ) (cs : List (Option ℕ)) (done all : List (ℕ × ℕ)) (i c : ℕ) (o : Option ℕ) → length cs ≡ length ss → i < length ss → o ≡ get_or cs i o → o ≡ Some c → done ++ placed_entries (drop i ss) (drop i cs) ≡ all → (done ++ (get_or ss i 0, c) ∷ []) ++ placed_entries (drop (i + 1) ss) (drop (i + 1) cs) ≡ all
place-taken ss cs done all i c o e l is some h =
    append_assoc done ((get_or ss i 0, c) ∷ []) (placed_entries (drop (i + 1) ss) (drop (i + 1) cs))
    ∙ ap (λ xs. done ++ xs) (sym (places-more ss cs i o e l is ∙ ap (λ o. with_own (get_or ss i 0) o (placed_entries (drop (i + 1) ss) (drop (i + 1) cs))) some)) ∙ h

pub places-done : (ss : List ℕ) (cs : List (Option ℕ)) (done all : List (ℕ × ℕ)) (i : ℕ) → length ss ≤ i → done ++ placed_entries (drop i ss) (drop i cs) ≡ all → done ≡ all
places-done ss cs done all i l h =
    sym (append-nil done) ∙ ap (λ xs. done ++ xs) (sym (ap (λ xs. placed_entries xs (drop i cs)) (drop_of_length-le ss l))) ∙ h

-- ---- an overlay, entry by entry

pub overlay-more : (es xs all : List (ℕ × ℕ)) (i : ℕ) → i < length xs → overlaid es (drop i xs) ≡ all → overlaid (put (get_or xs i (0, 0)) es) (drop (i + 1) xs) ≡ all
overlay-more es xs all i l h = sym (ap (overlaid es) (drop_more xs i (0, 0) l)) ∙ h

pub overlay-done : (es xs all : List (ℕ × ℕ)) (i : ℕ) → length xs ≤ i → overlaid es (drop i xs) ≡ all → es ≡ all
overlay-done es xs all i l h = sym (ap (overlaid es) (drop_of_length-le xs l)) ∙ h

-- an entry's station is one of its map's
pub station-there : (xs : List (ℕ × ℕ)) (i : ℕ) → i < length xs → has_station xs (get_or xs i (0, 0)).0 ≡ true
station-there [] i l = absurd (omega arith)
station-there (x ∷ xs) zero l = or_left (x.0 == x.0) (has_station xs x.0) (eq-eqb x.0 x.0 refl)
station-there (x ∷ xs) (suc i) l = or_right (x.0 == (get_or xs i (0, 0)).0) (has_station xs (get_or xs i (0, 0)).0) (station-there xs i (omega arith))
