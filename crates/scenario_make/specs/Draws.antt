-- The random words from which the files of a generated auction are drawn, by their places.
use Rattle.std.specs.Prelude.{ℕ, zero, suc, ◌%◌}
use Rattle.rand_pcg.specs.Lcg.{Lcg, increment_of, started}
use Rattle.rand_pcg.specs.Pcg.{multiplier_64, pcg32}

-- The generator of a seed: PCG32 in stream 0.
abbrev pub generator_of : ℕ → Lcg
generator_of seed = started 64 multiplier_64 seed (increment_of 64 0)

-- The generator after this many words.
unfoldable pub generator_after : Lcg → ℕ → Lcg
generator_after g zero = g
generator_after g (suc k) = (pcg32 (generator_after g k)).1

-- The word at a place, from 0.
abbrev pub draw_word_at : Lcg → ℕ → ℕ
draw_word_at g k = (pcg32 (generator_after g k)).0

-- The draw at a place: its word modulo this number.
abbrev pub draw_at : Lcg → ℕ → ℕ → ℕ
draw_at g k modulus = draw_word_at g k % modulus
