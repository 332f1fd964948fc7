-- Laws of a piece, the next bytes of those that are left, and of a file that a caller reads in pieces.
use Rattle.outside_io.specs.Files.{StoredFile, bytes_of}
use Rattle.outside_io.specs.Pieces.{piece_size, Begins, BeginsFile, GivesPiece, GaveSoFar, GaveAll}
use Rattle.std.proofs.Common.{arith, ◌≡◌, ◌≢◌, suc, if◌then◌else◌, Bool, true, ℕ, ◌+◌, ◌-◌, List, [], ◌∷◌, ◌++◌, take, drop, length, Option, Some, None, Ok, refl, sym, ap, subst, ◌∙◌, min, take-append-drop, append_assoc, append-nil}
use Rattle.std.proofs.lemmas.List.{take_rest, take_min, drop_min, drop-drop}

-- the bytes from a place on, as the code takes them
rest-is : (held left : List ℕ) (next : ℕ) → drop next held ≡ left → take (length held - next) (drop next held) ≡ left
rest-is held left next e = take_rest held next ∙ e

-- what is appended to no bytes is the piece, if memory sufficed
pub piece-is : (into old held left : List ℕ) (ok : Bool) (next count size : ℕ) → drop next held ≡ left → old ≡ [] → ok ≡ true
    → count ≡ min size (length (take (length held - next) (drop next held)))
    → into ≡ (if ok then old ++ take count (take (length held - next) (drop next held)) else old) → into ≡ take size left
piece-is into old held left ok next count size e none done c i =
    let slice = take (length held - next) (drop next held) in
    i
    ∙ ap (λ b. if b then old ++ take count slice else old) done
    ∙ ap (λ o. o ++ take count slice) none
    ∙ ap (λ n. take n slice) c
    ∙ take_min size slice
    ∙ ap (take size) (rest-is held left next e)

-- the other bytes are left
pub left-is : (held left : List ℕ) (next count size : ℕ) → drop next held ≡ left
    → count ≡ min size (length (take (length held - next) (drop next held)))
    → drop (next + count) held ≡ drop size left
left-is held left next count size e c =
    sym (drop-drop count next held)
    ∙ ap (drop count) e
    ∙ ap (λ n. drop n left) (c ∙ ap (λ xs. min size (length xs)) (rest-is held left next e))
    ∙ drop_min size left

-- a caller that has just opened a file has read no bytes of it
begun-file : (bytes : Option (List ℕ)) (limit : ℕ) (u : Unit {0}) (left : Option (List ℕ)) → BeginsFile bytes limit (Ok u) left
    → (rest : List ℕ) × (left ≡ Some rest) × (bytes ≡ Some rest)
begun-file None limit u left h = absurd h
begun-file (Some bytes) limit u left h = (bytes, h.0, refl)

pub begun-none : (modelled : Option (List StoredFile)) (name : List ℕ) (limit : ℕ) (u : Unit {0}) (left : Option (List ℕ))
    → Begins modelled name limit (Ok u) left → GaveSoFar modelled name [] left
begun-none None name limit u left h = tt
begun-none (Some files) name limit u left h = begun-file (bytes_of files name) limit u left h

-- the next bytes of what was left were read
one-more : (files : List StoredFile) (name done rest into : List ℕ) (left after : Option (List ℕ)) (u : Unit {0})
    → left ≡ Some rest → bytes_of files name ≡ Some (done ++ rest) → GivesPiece left after (Ok u) into
    → (more : List ℕ) × (after ≡ Some more) × (bytes_of files name ≡ Some ((done ++ into) ++ more))
one-more files name done rest into left after u is whole h =
    let parts : GivesPiece (Some rest) after (Ok u) into = subst (λ o. GivesPiece o after (Ok u) into) is h in
    let more = drop piece_size rest in
    (more, parts.1, whole ∙ ap (λ xs. Some xs) (ap (λ xs. done ++ xs) (sym (take-append-drop piece_size rest) ∙ ap (λ xs. xs ++ more) (sym parts.0)) ∙ sym (append_assoc done into more)))

-- each piece adds its bytes
pub handed-more : (modelled : Option (List StoredFile)) (name done into : List ℕ) (left after : Option (List ℕ)) (u : Unit {0})
    → GaveSoFar modelled name done left → GivesPiece left after (Ok u) into → GaveSoFar modelled name (done ++ into) after
handed-more None name done into left after u so_far h = tt
handed-more (Some files) name done into left after u so_far h = one-more files name done so_far.0 into left after u so_far.1 so_far.2 h

not-zero : (n : ℕ) → suc n ≢ 0
not-zero n h = omega (arith, h)

-- a piece has no bytes only if none are left
none-left : (n : ℕ) (rest into : List ℕ) → into ≡ take (suc n) rest → length into ≡ 0 → rest ≡ []
none-left n [] into h none = refl
none-left n (x ∷ xs) into h none = absurd (not-zero (length (take n xs)) (ap (λ (l : List ℕ). length l) (sym h) ∙ none))

last-one : (files : List StoredFile) (name done rest into : List ℕ) (left after : Option (List ℕ)) (u : Unit {0})
    → left ≡ Some rest → bytes_of files name ≡ Some (done ++ rest) → GivesPiece left after (Ok u) into → length into ≡ 0
    → bytes_of files name ≡ Some done
last-one files name done rest into left after u is whole h none =
    let parts : GivesPiece (Some rest) after (Ok u) into = subst (λ o. GivesPiece o after (Ok u) into) is h in
    whole ∙ ap (λ xs. Some (done ++ xs)) (none-left 65535 rest into parts.0 none) ∙ ap (λ xs. Some xs) (append-nil done)

-- a piece without bytes ends the file
pub handed-all : (modelled : Option (List StoredFile)) (name done into : List ℕ) (left after : Option (List ℕ)) (u : Unit {0})
    → GaveSoFar modelled name done left → GivesPiece left after (Ok u) into → length into ≡ 0 → GaveAll modelled name done
handed-all None name done into left after u so_far h none = tt
handed-all (Some files) name done into left after u so_far h none = last-one files name done so_far.0 into left after u so_far.1 so_far.2 h none
