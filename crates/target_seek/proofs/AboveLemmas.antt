-- What fits up to a top channel fits up to each greater one.
use Rattle.std.proofs.Common.{◌≡◌, ℕ, ◌≤◌, true, false, ◌&&◌, eqb, leb, List, map, Contains, filter, refl, sym, ◌∙◌, subst, arith, inl, inr}
use Rattle.std.proofs.lemmas.Bool.{and_parts, and_from, or_cases, eqb-true, false_from_ne_true, true≢false, le-leb, leb-true}
use Rattle.pack_defs.specs.declared.domain.Domain.{Domain}
use Rattle.pack_defs.specs.declared.pair.Pair.{Pair}
use Rattle.pack_defs.specs.Book.{channels_in, cut_book, cut_domain, domain_of, is_forbidden, is_within, joins}
use Rattle.pack_defs.specs.Lists.{is_in}
use Rattle.pack_defs.specs.Packing.{Fits}
use Rattle.pack_defs.specs.Prices.{start_set}
use Rattle.pack_defs.proofs.BookLemmas.{channels_in-cut, channels_in-cut_none}
use Rattle.pack_defs.proofs.FitsLaws.{fits-gives, fits-from}
use Rattle.pack_defs.proofs.Members.{Contains-nil, Contains-filter, Contains-from_filter, is_in-from, list_any-from, list_any-gives}
use Rattle.target_seek.specs.TopChannels.{SeekBase, book_at, fits_at}

-- What the four tests of a pair at two entries, in one order, say of the pair.
all_four : (p : Pair) (x y : ℕ × ℕ) → (eqb p.f x.0 && (eqb p.a x.1 && (eqb p.g y.0 && eqb p.b y.1))) ≡ true → (p.f ≡ x.0) × (p.a ≡ x.1) × (p.g ≡ y.0) × (p.b ≡ y.1)
all_four p x y h =
    let first = and_parts (eqb p.f x.0) (eqb p.a x.1 && (eqb p.g y.0 && eqb p.b y.1)) h in
    let second = and_parts (eqb p.a x.1) (eqb p.g y.0 && eqb p.b y.1) first.1 in
    let third = and_parts (eqb p.g y.0) (eqb p.b y.1) second.1 in
    (eqb-true p.f x.0 first.0, eqb-true p.a x.1 second.0, eqb-true p.g y.0 third.0, eqb-true p.b y.1 third.1)

-- Whether the domains have this channel for this station.
abbrev Has : List Domain → ℕ → ℕ → Type 0
Has domains s c = is_in (channels_in domains s) c ≡ true

has-moved : (domains : List Domain) (s t c d : ℕ) → s ≡ t → c ≡ d → Has domains t d → Has domains s c
has-moved domains s t c d same_station same_channel has = subst (λ z. Has domains z c) (sym same_station) (subst (λ z. Has domains t z) (sym same_channel) has)

-- A pair that joins two entries on channels of the domains is on channels of the domains.
pair-within : (domains : List Domain) (p : Pair) (x y : ℕ × ℕ) → Has domains x.0 x.1 → Has domains y.0 y.1 → joins p x y ≡ true → is_within domains p ≡ true
pair-within domains p x y has_x has_y h =
    elim (or_cases (eqb p.f x.0 && (eqb p.a x.1 && (eqb p.g y.0 && eqb p.b y.1))) (eqb p.f y.0 && (eqb p.a y.1 && (eqb p.g x.0 && eqb p.b x.1))) h) [
      | inl forth ↦
          let (f, a, g, b) = all_four p x y forth in
          and_from _ _ (has-moved domains p.f x.0 p.a x.1 f a has_x) (has-moved domains p.g y.0 p.b y.1 g b has_y)
      | inr back ↦
          let (f, a, g, b) = all_four p y x back in
          and_from _ _ (has-moved domains p.f y.0 p.a y.1 f a has_y) (has-moved domains p.g x.0 p.b x.1 g b has_x)
    ]

-- A channel up to a top is one up to each greater top.
filter-grows : (cs : List ℕ) (top greater c : ℕ) → top ≤ greater → Contains (filter (λ d. leb d top) cs) c → Contains (filter (λ d. leb d greater) cs) c
filter-grows cs top greater c less there =
    let (listed, low) = Contains-from_filter (λ d. leb d top) cs c there in
    let low_too = leb-true c top low in
    Contains-filter (λ d. leb d greater) cs c listed (le-leb c greater (omega (arith, low_too, less)))

module _ (domains : List Domain) (ids : List ℕ) (pairs : List Pair) where
  -- A station may use up to a greater top what it may use up to the lesser one.
  channel-stays : (top greater s c : ℕ) → top ≤ greater → Contains (channels_in (map (cut_domain top domains) ids) s) c → Contains (channels_in (map (cut_domain greater domains) ids) s) c
  channel-stays top greater s c less there =
      (elim (is_in ids s) as (λ b. is_in ids s ≡ b → Contains (channels_in (map (cut_domain greater domains) ids) s) c) [
        | true ↦ λ known. subst (λ z. Contains z c) (sym (channels_in-cut greater domains ids s known))
            (filter-grows (channels_in domains s) top greater c less (subst (λ z. Contains z c) (channels_in-cut top domains ids s known) there))
        | false ↦ λ unknown. absurd (Contains-nil c (subst (λ z. Contains z c) (channels_in-cut_none top domains ids s unknown) there))
      ]) refl

  -- Two entries that no pair forbids up to a top are forbidden by none up to another.
  still-apart : (top greater : ℕ) (x y : ℕ × ℕ) → Contains (domain_of (cut_book top ids domains pairs) x.0) x.1 → Contains (domain_of (cut_book top ids domains pairs) y.0) y.1 → is_forbidden (cut_book top ids domains pairs) x y ≡ false → is_forbidden (cut_book greater ids domains pairs) x y ≡ false
  still-apart top greater x y on_x on_y apart = false_from_ne_true _ (λ forbidden.
      let low : List Domain = map (cut_domain top domains) ids in
      let high : List Domain = map (cut_domain greater domains) ids in
      let (p, kept, joined) = list_any-gives (λ p. joins p x y) (filter (is_within high) pairs) forbidden in
      let listed = (Contains-from_filter (is_within high) pairs p kept).0 in
      let within = pair-within low p x y (is_in-from _ x.1 on_x) (is_in-from _ y.1 on_y) joined in
      let also = list_any-from (λ p. joins p x y) (filter (is_within low) pairs) p (Contains-filter (is_within low) pairs p listed within) joined in
      true≢false (sym also ∙ apart))

  -- A map that is clean up to a top is clean up to each greater one.
  fits-more : (set : List ℕ) (top greater : ℕ) → top ≤ greater → Fits (cut_book top ids domains pairs) set → Fits (cut_book greater ids domains pairs) set
  fits-more set top greater less fit = record {
    entries = fit.entries;
    stations = fit.stations;
    clean = record {
      on_domain = λ x there. channel-stays top greater x.0 x.1 less (fit.clean.on_domain x there);
      apart = λ x y in_x in_y. still-apart top greater x y (fit.clean.on_domain x in_x) (fit.clean.on_domain y in_y) (fit.clean.apart x y in_x in_y);
    };
  }

-- The start set fits up to each top above one up to which it fits.
pub fits-above : (base : SeekBase) (top greater : ℕ) → fits_at base top ≡ true → top ≤ greater → fits_at base greater ≡ true
fits-above base top greater fit less =
    let set : List ℕ = start_set base.scenario in
    fits-from (book_at base greater) set (fits-more base.domains set base.pairs set top greater less (fits-gives (book_at base top) set fit))
