-- The signature of some stations: 1,024 bits in sixteen words. If a set contains stations, it has all their bits.
use Rattle.std.specs.Prelude.{ℕ, Bool, true, ◌&&◌, ◌*◌, ◌/◌, ◌%◌, ◌^◌, ◌==◌, List, [], ◌∷◌, bit_and, bit_or, slice_set, slice_index, replicate}

-- The place of a station's word.
abbrev pub word_place : ℕ → ℕ
word_place s = s / 64 % 16

-- A station's bit in its word.
abbrev pub station_bit : ℕ → ℕ
station_bit s = 1 * 2 ^ (s % 64) % 2 ^ 64

-- The words with the bits of these stations added.
abbrev pub with_bits : List ℕ → List ℕ → List ℕ
with_bits words [] = words
with_bits words (s ∷ ss) = with_bits (slice_set words (word_place s) (bit_or (slice_index words (word_place s)) (station_bit s))) ss

-- The bits of these stations.
abbrev pub station_bits : List ℕ → List ℕ
station_bits stations = with_bits (replicate 16 0) stations

-- Whether all of the word's bits are among these.
abbrev pub covers_word : ℕ → ℕ → Bool
covers_word these word = bit_and word these == word

-- Whether all of the bits are among these, word by word.
abbrev pub are_covered : List ℕ → List ℕ → Bool
are_covered [] words = true
are_covered (these ∷ more) [] = true
are_covered (these ∷ more) (word ∷ words) = covers_word these word && are_covered more words
