-- The domains of the definitions are in order.
use Rattle.std.proofs.Common.{◌≡◌, ◌<◌, ◌+◌, ◌∷◌, [], ℕ, List, Bool, Option, Some, None, Result, Ok, Err, true, false, codes, cond, length, nat_le, nat_lt, refl, arith, map, eqb, subst}
use Rattle.std.specs.List.{list_all}
use Rattle.std.specs.List.Sorted.{IsStrictlyIncreasing}
use Rattle.std.specs.Option.{is_some, ok_or}
use Rattle.std.specs.Str.{bytes_eq}
use Rattle.std.proofs.lemmas.Bool.{and_from, and_parts, eqb-false, ltb-false, ltb-true, lt-ltb}
use Rattle.std.proofs.lemmas.List.FromFn.{get_or-range_with_len}
use Rattle.std.proofs.lemmas.List.Kept.{IsStrictlyIncreasing-filter}
use Rattle.pack_defs.proofs.Words.{ascending-from, ascending-rest}
use Rattle.pack_defs.specs.Book.{AreInOrder}
use Rattle.pack_defs.specs.Lists.{is_ascending, is_in}
use Rattle.pack_defs.specs.declared.domain.Domain.{Domain}
use Rattle.constraint_files.specs.Domains.{add_domain_row, channels_to_keep, domain_with_channels, domain_row, domains_of, kept_channels, put_domain, channels_of, with_domain}
use Rattle.constraint_files.specs.Field.{is_channel, number, numbers}
use Rattle.constraint_files.specs.Records.{after_lines, after_records, line_records, lines_of, after_read_line}
use Rattle.pack_defs.specs.Steps.{◌>>=◌}
use Rattle.constraint_files.specs.declared.error.RowWhy.{RowWhy}
use Rattle.constraint_files.specs.declared.error.RowWhy.TheVariants.{BadKey, BadNumber, ChannelRange, SecondDomain, TooMany}

-- What each record preserves, all records preserve.
after-keeps : {S : Type 0} (add : S → List (List ℕ) → Result S RowWhy) (P : S → Type 0) → ((s last : S) (r : List (List ℕ)) → P s → add s r ≡ Ok last → P last)
    → (s last : S) (rs : List (List (List ℕ))) → P s → after_records add s rs ≡ Ok last → P last
unfolding after_records
after-keeps add P keeps s last [] p e = subst P (cc) p
after-keeps {S = S} add P keeps s last (r ∷ rs) p e = go (add s r) (λ next k. keeps s next r p k) (λ next q h. after-keeps add P keeps next last rs q h) e
  where
    go : (o : Result S RowWhy) → ((next : S) → o ≡ Ok next → P next) → ((next : S) → P next → after_records add next rs ≡ Ok last → P last)
        → (o >>= (λ next. after_records add next rs)) ≡ Ok last → P last
    go (Err why) kept later h = cc
    go (Ok next) kept later h = later next (kept next refl) h

pub lines-keep : {S : Type 0} (add : S → List (List ℕ) → Result S RowWhy) (P : S → Type 0) → ((s last : S) (r : List (List ℕ)) → P s → add s r ≡ Ok last → P last)
    → (s last : S) (number : ℕ) (lines : List (List ℕ)) → P s → after_lines add s number lines ≡ Ok last → P last
unfolding after_lines
lines-keep add P keeps s last number [] p e = subst P (cc) p
lines-keep {S = S} add P keeps s last number (line ∷ lines) p e =
    go (after_records add s (line_records line)) (λ next k. after-keeps add P keeps s next (line_records line) p k) (λ next q h. lines-keep add P keeps next last (number + 1) lines q h) e
  where
    go : (o : Result S RowWhy) → ((next : S) → o ≡ Ok next → P next) → ((next : S) → P next → after_lines add next (number + 1) lines ≡ Ok last → P last)
        → after_read_line number o (λ next. after_lines add next (number + 1) lines) ≡ Ok last → P last
    go (Err why) kept later h = cc
    go (Ok next) kept later h = later next (kept next refl) h

-- The channels of a domain ascend.
to-keep-rise : IsStrictlyIncreasing channels_to_keep
unfolding channels_to_keep
to-keep-rise k h =
    rw (get_or-range_with_len 14 38 k 0 (omega arith), get_or-range_with_len 14 38 (k + 1) 0 h) (omega arith)

pub kept-ascend : (named : List ℕ) → is_ascending (kept_channels named) ≡ true
kept-ascend named = ascending-from (kept_channels named) (IsStrictlyIncreasing-filter (λ c. is_in named c) channels_to_keep to-keep-rise)

naming-ascends : (s : ℕ) (named : List ℕ) (d : Domain) → domain_with_channels s named ≡ Ok d → is_ascending d.channels ≡ true
naming-ascends s named d e = go (list_all is_channel named) e
  where
    go : (b : Bool) → cond b (Ok (record { station = s; channels = kept_channels named })) (Err ChannelRange) ≡ Ok d → is_ascending d.channels ≡ true
    go true h =
        let is : record { station = s; channels = kept_channels named } ≡ d = cc in
        rw (← is) (kept-ascend named)
    go false h = cc

row-ascends : (fields : List (List ℕ)) (d : Domain) → domain_row fields ≡ Ok d → is_ascending d.channels ≡ true
unfolding domain_row
row-ascends [] d e = cc
row-ascends (key ∷ []) d e = cc
row-ascends (key ∷ facility ∷ channels) d e = by_key (bytes_eq key (codes "DOMAIN")) e
  where
    by_numbers : (s : ℕ) (o : Option (List ℕ)) → (ok_or o BadNumber >>= domain_with_channels s) ≡ Ok d → is_ascending d.channels ≡ true
    by_numbers s None h = cc
    by_numbers s (Some named) h = naming-ascends s named d h

    by_station : (o : Option ℕ) → (ok_or o BadNumber >>= (λ s. ok_or (numbers channels) BadNumber >>= domain_with_channels s)) ≡ Ok d → is_ascending d.channels ≡ true
    by_station None h = cc
    by_station (Some s) h = by_numbers s (numbers channels) h

    by_key : (b : Bool) → cond b (ok_or (number facility) BadNumber >>= (λ s. ok_or (numbers channels) BadNumber >>= domain_with_channels s)) (Err BadKey) ≡ Ok d → is_ascending d.channels ≡ true
    by_key true h = by_station (number facility) h
    by_key false h = cc

-- A domain inserted in its place keeps the stations ascending.
above-first : (x : ℕ) (d : Domain) (es : List Domain) → x < d.station → is_ascending (x ∷ map (λ e. e.station) es) ≡ true
    → is_ascending (map (λ e. e.station) (with_domain d es)) ≡ true → is_ascending (x ∷ map (λ e. e.station) (with_domain d es)) ≡ true
above-first x d [] below up later = rw (lt-ltb x d.station below) refl
above-first x d (f ∷ fs) below up later = go (nat_lt f.station d.station) later
  where
    go : (b : Bool) → is_ascending (map (λ e. e.station) (cond b (f ∷ with_domain d fs) (d ∷ f ∷ fs))) ≡ true
        → is_ascending (x ∷ map (λ e. e.station) (cond b (f ∷ with_domain d fs) (d ∷ f ∷ fs))) ≡ true
    go true h = and_from _ _ (and_parts _ _ up).0 h
    go false h = and_from _ _ (lt-ltb x d.station below) h

with-ascends : (d : Domain) (es : List Domain) → is_ascending (map (λ e. e.station) es) ≡ true → is_some (channels_of es d.station) ≡ false
    → is_ascending (map (λ e. e.station) (with_domain d es)) ≡ true
with-ascends d [] up new = refl
with-ascends d (e ∷ es) up new =
    go (eqb e.station d.station) (nat_lt e.station d.station) refl refl new (with-ascends d es (ascending-rest e.station (map (λ x. x.station) es) up))
  where
    go : (same less : Bool) → eqb e.station d.station ≡ same → nat_lt e.station d.station ≡ less
        → is_some (cond same (Some e.channels) (channels_of es d.station)) ≡ false
        → (is_some (channels_of es d.station) ≡ false → is_ascending (map (λ x. x.station) (with_domain d es)) ≡ true)
        → is_ascending (map (λ x. x.station) (cond less (e ∷ with_domain d es) (d ∷ e ∷ es))) ≡ true
    go true less s l gone later = cc
    go false true s l gone later = above-first e.station d es (ltb-true e.station d.station l) up (later gone)
    go false false s l gone later =
        let apart = eqb-false e.station d.station s in
        let not-less = ltb-false e.station d.station l in
        and_from _ _ (lt-ltb d.station e.station (omega arith)) up

with-channels : (d : Domain) (es : List Domain) → is_ascending d.channels ≡ true → list_all (λ e. is_ascending e.channels) es ≡ true
    → list_all (λ e. is_ascending e.channels) (with_domain d es) ≡ true
with-channels d [] one all = rw one refl
with-channels d (e ∷ es) one all = go (nat_lt e.station d.station) (with-channels d es one (and_parts _ _ all).1)
  where
    go : (less : Bool) → list_all (λ x. is_ascending x.channels) (with_domain d es) ≡ true
        → list_all (λ x. is_ascending x.channels) (cond less (e ∷ with_domain d es) (d ∷ e ∷ es)) ≡ true
    go true later = and_from _ _ (and_parts _ _ all).0 later
    go false later = and_from _ _ one all

put-in-order : (ds last : List Domain) (d : Domain) → is_ascending d.channels ≡ true → AreInOrder ds → put_domain ds d ≡ Ok last → AreInOrder last
put-in-order ds last d one order e = go (is_some (channels_of ds d.station)) (nat_le 65536 (length ds)) refl e
  where
    go : (b full : Bool) → is_some (channels_of ds d.station) ≡ b → cond b (Err SecondDomain) (cond full (Err TooMany) (Ok (with_domain d ds))) ≡ Ok last → AreInOrder last
    go true full s h = cc
    go false true s h = cc
    go false false s h =
        let is : with_domain d ds ≡ last = cc in
        subst AreInOrder is (record { stations = with-ascends d ds order.stations s; channels = with-channels d ds one order.channels })

pub add-in-order : (ds last : List Domain) (r : List (List ℕ)) → AreInOrder ds → add_domain_row ds r ≡ Ok last → AreInOrder last
add-in-order ds last r order e = go (domain_row r) (row-ascends r) e
  where
    go : (o : Result Domain RowWhy) → ((d : Domain) → o ≡ Ok d → is_ascending d.channels ≡ true) → (o >>= put_domain ds) ≡ Ok last → AreInOrder last
    go (Err why) one h = cc
    go (Ok d) one h = put-in-order ds last d (one d refl) order h

-- The domains of a file are in order.
pub domains-in-order : (bytes : List ℕ) (ds : List Domain) → domains_of bytes ≡ Ok ds → AreInOrder ds
unfolding domains_of
domains-in-order bytes ds e =
    lines-keep add_domain_row AreInOrder add-in-order [] ds 1 (lines_of bytes) (record { stations = refl; channels = refl }) e
