-- The bits of stations that a set has are among the set's.
use Rattle.std.proofs.Common.{◌≡◌, ℕ, zero, suc, ◌<◌, ◌/◌, Bool, true, false, ◌&&◌, ◌||◌, ◌==◌, List, [], ◌∷◌, length, get_or, set, replicate, refl, sym, ap, ◌∙◌, subst, arith, eqb-true}
use Rattle.std.specs.Prelude.{bit_or}
use Rattle.std.specs.List.{list_all}
use Rattle.std.proofs.Math.Nat.{mod-lt}
use Rattle.std.proofs.lemmas.Bool.{and_parts, true≢false}
use Rattle.std.proofs.lemmas.List.{get_or-set_same, length-set, length-replicate}
use Rattle.pack_defs.specs.Lists.{is_in}
use Rattle.batch_cache.specs.StationBits.{word_place, station_bit, with_bits, station_bits, are_covered}
use Rattle.cert_types.proofs.SignatureLemmas.{Among, among-both, among-first, among-second, among-all, among-covers}

-- Whether each bit of the words is one of those of the function.
abbrev AreAmong : List ℕ → (ℕ → ℕ) → Type 0
AreAmong words f = (w : ℕ) → Among (get_or words w 0) (f w)

abbrev word_in : List ℕ → ℕ → ℕ
word_in words w = get_or words w 0

among-itself : (a : ℕ) → Among a a
among-itself a = λ i. omega arith

-- ---- one word is set

set-keeps : (words : List ℕ) (p x : ℕ) → Among (get_or words p 0) x → AreAmong words (word_in (set words p x))
set-keeps [] p x h w = among-itself 0
set-keeps (y ∷ ys) zero x h zero = h
set-keeps (y ∷ ys) zero x h (suc w) = among-itself (get_or ys w 0)
set-keeps (y ∷ ys) (suc p) x h zero = among-itself y
set-keeps (y ∷ ys) (suc p) x h (suc w) = set-keeps ys p x h w

set-within : (words : List ℕ) (p x : ℕ) (f : ℕ → ℕ) → AreAmong words f → Among x (f p) → AreAmong (set words p x) f
set-within [] p x f h k w = h w
set-within (y ∷ ys) zero x f h k zero = k
set-within (y ∷ ys) zero x f h k (suc w) = h (suc w)
set-within (y ∷ ys) (suc p) x f h k zero = h 0
set-within (y ∷ ys) (suc p) x f h k (suc w) = set-within ys p x (λ n. f (suc n)) (λ n. h (suc n)) k w

-- ---- the bits of stations

-- The words with one station's bit added.
abbrev one_more : List ℕ → ℕ → List ℕ
one_more words s = set words (word_place s) (bit_or (get_or words (word_place s) 0) (station_bit s))

bits-kept : (ss words : List ℕ) → AreAmong words (word_in (with_bits words ss))
bits-kept [] words = λ w. among-itself (get_or words w 0)
bits-kept (s ∷ ss) words = λ w. among-both (get_or words w 0) (get_or (one_more words s) w 0) (get_or (with_bits (one_more words s) ss) w 0)
    (set-keeps words (word_place s) (bit_or (get_or words (word_place s) 0) (station_bit s)) (among-first (get_or words (word_place s) 0) (station_bit s)) w)
    (bits-kept ss (one_more words s) w)

place-within : (s : ℕ) (words : List ℕ) → length words ≡ 16 → word_place s < length words
place-within s words h = subst (λ (n : ℕ). word_place s < n) (sym h) (mod-lt (s / 64) {m = 16} (omega arith))

-- The bit of a station that was added is set.
bit-set : (words : List ℕ) (s : ℕ) → length words ≡ 16 → Among (station_bit s) (get_or (one_more words s) (word_place s) 0)
bit-set words s h =
    let put : get_or (one_more words s) (word_place s) 0 ≡ bit_or (get_or words (word_place s) 0) (station_bit s)
    = get_or-set_same words (word_place s) (bit_or (get_or words (word_place s) 0) (station_bit s)) 0 (place-within s words h) in
    subst (λ (n : ℕ). Among (station_bit s) n) (sym put) (among-second (get_or words (word_place s) 0) (station_bit s))

has-bit : (ss words : List ℕ) (t : ℕ) → length words ≡ 16 → is_in ss t ≡ true → Among (station_bit t) (get_or (with_bits words ss) (word_place t) 0)
has-bit [] words t h there = cc
has-bit (s ∷ ss) words t h there =
    let long : length (one_more words s) ≡ 16 = length-set words (word_place s) (bit_or (get_or words (word_place s) 0) (station_bit s)) ∙ h in
    (elim (s == t) as (λ b. (s == t) ≡ b → Among (station_bit t) (get_or (with_bits (one_more words s) ss) (word_place t) 0)) [
      | true ↦ λ e. subst (λ (u : ℕ). Among (station_bit u) (get_or (with_bits (one_more words s) ss) (word_place u) 0)) (eqb-true s t e)
          (among-both (station_bit s) (get_or (one_more words s) (word_place s) 0) (get_or (with_bits (one_more words s) ss) (word_place s) 0)
          (bit-set words s h) (bits-kept ss (one_more words s) (word_place s)))
      | false ↦ λ e. has-bit ss (one_more words s) t long (ap (λ (b : Bool). b || is_in ss t) (sym e) ∙ there)
    ]) refl

-- The bits of stations that a set has are among the set's words.
bits-within : (xs ys words : List ℕ) → AreAmong words (word_in (station_bits xs)) → list_all (is_in xs) ys ≡ true → AreAmong (with_bits words ys) (word_in (station_bits xs))
bits-within xs [] words h all = h
bits-within xs (y ∷ ys) words h all =
    let parts = and_parts (is_in xs y) (list_all (is_in xs) ys) all in
    let has : Among (station_bit y) (get_or (station_bits xs) (word_place y) 0) = has-bit xs (replicate 16 0) y (length-replicate {A = ℕ} 16 0) parts.0 in
    bits-within xs ys (one_more words y)
    (set-within words (word_place y) (bit_or (get_or words (word_place y) 0) (station_bit y)) (word_in (station_bits xs)) h
    (among-all (get_or words (word_place y) 0) (station_bit y) (get_or (station_bits xs) (word_place y) 0) (h (word_place y)) has))
    parts.1

words-covered : (these words : List ℕ) → AreAmong words (word_in these) → are_covered these words ≡ true
words-covered [] words h = refl
words-covered (t ∷ ts) [] h = refl
words-covered (t ∷ ts) (w ∷ ws) h =
    ap (λ (b : Bool). b && are_covered ts ws) (among-covers t w (h 0)) ∙ words-covered ts ws (λ n. h (suc n))

covered-where_held : (xs ys : List ℕ) → list_all (is_in xs) ys ≡ true → are_covered (station_bits xs) (station_bits ys) ≡ true
covered-where_held xs ys all = words-covered (station_bits xs) (station_bits ys) (bits-within xs ys (replicate 16 0) (bits-kept xs (replicate 16 0)) all)

-- If the bits are not among a set's, the set does not contain the stations.
pub not-held : (xs ys bits others : List ℕ) → bits ≡ station_bits xs → others ≡ station_bits ys → are_covered bits others ≡ false → list_all (is_in xs) ys ≡ false
not-held xs ys bits others these those none =
    (elim (list_all (is_in xs) ys) as (λ b. list_all (is_in xs) ys ≡ b → list_all (is_in xs) ys ≡ false) [
      | true ↦ λ e. absurd (true≢false (sym (covered-where_held xs ys e) ∙ (sym (ap (λ (b : List ℕ). are_covered b (station_bits ys)) these) ∙ (sym (ap (are_covered bits) those) ∙ none))))
      | false ↦ λ e. e
    ]) refl
