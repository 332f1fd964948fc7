-- Which channels are free for a station beside others, and what a search for one finds.
use Rattle.std.specs.Prelude.{ℕ, Bool, true, false, not, ◌≡◌, ◌&&◌, ◌==◌, List, [], ◌∷◌, Option, Some, None, filter, length, slice_index_or}
use Rattle.std.specs.List.{list_any}
use Rattle.pack_defs.specs.declared.pair.Pair.{Pair}
use Rattle.pack_defs.specs.Book.{BookView, domain_of}
use Rattle.pack_defs.specs.ChannelMap.{put}
use Rattle.pack_defs.specs.Lists.{has_entry, is_in}
use Rattle.quick_fits.specs.declared.local_repair.Proposal.{Proposal}
use Rattle.quick_fits.specs.declared.obstacles.Blocker.{Blocker}
use Rattle.quick_fits.specs.declared.obstacles.Blocker.TheVariants.{No, One, Many}
use Rattle.quick_fits.specs.declared.obstacles.ChannelObstacles.{ChannelObstacles}

-- The map with one of its stations moved, if `Some`.
abbrev pub moved_map : List (ℕ × ℕ) → Option (ℕ × ℕ) → List (ℕ × ℕ)
moved_map entries None = entries
moved_map entries (Some x) = put x entries

-- Whether the pair has its first station on the channel, and its other entry in the map.
abbrev pub blocks_first : List (ℕ × ℕ) → ℕ → Pair → Bool
blocks_first entries c p = (p.a == c) && has_entry entries (p.g, p.b)

-- Whether the pair has its second station on the channel, and its other entry in the map.
abbrev pub blocks_second : List (ℕ × ℕ) → ℕ → Pair → Bool
blocks_second entries c p = (p.b == c) && has_entry entries (p.f, p.a)

-- Whether no pair of the station on the channel has its other entry in the map.
abbrev pub is_free : BookView → List (ℕ × ℕ) → ℕ → ℕ → Bool
is_free book entries s c =
    not (list_any (blocks_first entries c) (filter (λ p. p.f == s) book.pairs))
    && not (list_any (blocks_second entries c) (filter (λ p. p.g == s) book.pairs))

-- Whether nobody blocks.
abbrev pub is_unblocked : Blocker → Bool
is_unblocked No = true
is_unblocked (One t) = false
is_unblocked Many = false

-- Whether nobody blocks the channel.
abbrev pub is_channel_open : ChannelObstacles → Bool
is_channel_open way = is_unblocked way.blocker

-- What is met on a channel; an open channel past the end of the list.
abbrev pub obstacles_at : List ChannelObstacles → ℕ → ChannelObstacles
obstacles_at ways c = slice_index_or ways c (record { blocker = No; pairs = 0 })

-- What a station meets on each of the 256 channels that a number can name.
pub record AreObstacles (book : BookView) (entries : List (ℕ × ℕ)) (s : ℕ) (ways : List ChannelObstacles) : Type 0 where
  pub size : length ways ≡ 256
  pub free : (c : ℕ) → is_channel_open (obstacles_at ways c) ≡ is_free book entries s c

-- The proposal moves only the station, to a free channel of its domain.
pub record IsFreeChannel (book : BookView) (entries : List (ℕ × ℕ)) (s : ℕ) (proposal : Proposal) : Type 0 where
  pub own : proposal.own.0 ≡ s
  pub alone : proposal.moved ≡ None
  pub of_domain : is_in (domain_of book s) proposal.own.1 ≡ true
  pub free : is_free book entries s proposal.own.1 ≡ true

-- The proposal exists, and moves only the station, to a free channel of its domain.
abbrev pub IsFreeProposal : BookView → List (ℕ × ℕ) → ℕ → Option Proposal → Type 0
IsFreeProposal book entries s None = ⊥
IsFreeProposal book entries s (Some proposal) = IsFreeChannel book entries s proposal

-- The entry of one station, and that of another station if given, ascending by station; `own` replaces an entry of its own station.
abbrev pub changed : ℕ × ℕ → Option (ℕ × ℕ) → List (ℕ × ℕ)
changed own None = own ∷ []
changed own (Some x) = put own (x ∷ [])
