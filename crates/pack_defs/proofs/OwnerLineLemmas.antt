-- Whether a line speaks of a station in a round: a line that says stay, or one that says leave.
use Rattle.std.proofs.Common.{◌≡◌, ◌&&◌, ◌||◌, ◌==◌, ◌∷◌, ◌∙◌, [], ℕ, List, Bool, true, false, not, refl, sym, ap}
use Rattle.std.specs.List.{list_any}
use Rattle.pack_defs.specs.declared.owners.OwnerLine.{OwnerLine}
use Rattle.pack_defs.specs.Prices.{has_line_for, stays}

-- Whether a line of the station in the round says leave.
abbrev pub leaves : List OwnerLine → ℕ → ℕ → Bool
leaves lines r s = list_any (λ x. ((x.round == r) && (x.station == s)) && not x.stays) lines

either : (here stay first later : Bool) → (((here && stay) || first) || ((here && not stay) || later)) ≡ (here || (first || later))
either false stay first later = refl
either true true first later = refl
either true false true later = refl
either true false false later = refl

said : (lines : List OwnerLine) (r s : ℕ) → (stays lines r s || leaves lines r s) ≡ has_line_for lines r s
said [] r s = refl
said (x ∷ xs) r s =
    either ((x.round == r) && (x.station == s)) x.stays (stays xs r s) (leaves xs r s)
    ∙ ap (λ b. ((x.round == r) && (x.station == s)) || b) (said xs r s)

pub said-then : (lines : List OwnerLine) (r s : ℕ) → stays lines r s ≡ true → has_line_for lines r s ≡ true
said-then lines r s h = sym (said lines r s) ∙ ap (λ b. b || leaves lines r s) h

pub said-else : (lines : List OwnerLine) (r s : ℕ) → stays lines r s ≡ false → has_line_for lines r s ≡ leaves lines r s
said-else lines r s h = sym (said lines r s) ∙ ap (λ b. b || leaves lines r s) h
