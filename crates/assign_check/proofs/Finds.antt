-- For the loops of `check`: what a pass over a list finds as the first item that passes a test.
use Rattle.std.proofs.Common.{◌≡◌, ℕ, ◌+◌, ◌<◌, Bool, true, false, cond, ◌==◌, ◌||◌, List, [], ◌∷◌, drop, length, get_or, Option, Some, None, find, refl, sym, ap, ◌∙◌}
use Rattle.std.specs.Option.{option_or, is_some}
use Rattle.std.proofs.lemmas.Bool.{cond-true, cond-false}
use Rattle.std.proofs.lemmas.List.{drop_more}
use Rattle.pack_defs.specs.Lists.{has_station}
use Rattle.pack_defs.specs.ChannelMap.{channel_of}
pub use Rattle.pack_defs.proofs.MapLemmas.{stands-exactly, stands-only, stands-where}

-- the first result, or else the second
pub or-first : {A : Type 0} (a b : Option A) (x : A) → a ≡ Some x → Some x ≡ option_or a b
or-first None b x e = cc
or-first (Some y) b x e = sym e

pub or-second : {A : Type 0} (a b : Option A) → a ≡ None → b ≡ option_or a b
or-second None b e = refl
or-second (Some y) b e = cc

-- the pass is at an item that passes, or continues after one that does not
pub found-here : {A : Type 0} (p : A → Bool) (xs : List A) (i : ℕ) (d : A) → i < length xs → p (get_or xs i d) ≡ true → find p (drop i xs) ≡ Some (get_or xs i d)
found-here p xs i d l t =
    ap (find p) (drop_more xs i d l) ∙ cond-true (p (get_or xs i d)) (Some (get_or xs i d)) (find p (drop (i + 1) xs)) t

pub found-later : {A : Type 0} (p : A → Bool) (xs : List A) (i : ℕ) (d : A) → i < length xs → p (get_or xs i d) ≡ false → find p (drop i xs) ≡ find p (drop (i + 1) xs)
found-later p xs i d l f =
    ap (find p) (drop_more xs i d l) ∙ cond-false (p (get_or xs i d)) (Some (get_or xs i d)) (find p (drop (i + 1) xs)) f

-- the map has a channel for the station exactly if it has an entry of the station
pub channel-known : (s : ℕ) (m : List (ℕ × ℕ)) → is_some (channel_of s m) ≡ has_station m s
channel-known s [] = refl
channel-known s (x ∷ xs) =
    elim (x.0 == s) as (λ b. is_some (cond b (Some x.1) (channel_of s xs)) ≡ (b || has_station xs s)) [
      | true ↦ refl
      | false ↦ channel-known s xs
    ]
