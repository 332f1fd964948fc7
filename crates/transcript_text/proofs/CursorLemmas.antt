-- The remaining fields of a line, for the contracts of `fields`.
use Rattle.std.proofs.Common.{◌≡◌, ◌≤◌, ◌<◌, ◌∷◌, ◌&&◌, [], ℕ, List, Bool, true, false, not, Option, Some, None, Result, Ok, Err, IfSome, refl, sym, arith, length, map, get_or, if◌then◌else◌, eq-eqb, ◌==◌, Bor}
use Rattle.std.specs.Option.{option_map_or}
use Rattle.std.specs.Prelude.{nat_le}
use Rattle.std.specs.Ordering.{nat_cmp}
use Rattle.std.specs.Result.{is_ok}
use Rattle.std.specs.Str.{all_ascii_digits}
use Rattle.std.specs.Str.Parse.{digits_value}
use Rattle.std.specs.List.Sorted.{IsBinarySearchResult, IsSearchInRange}
use Rattle.std.proofs.lemmas.Bool.{and_parts, leb-true}
use Rattle.std.proofs.lemmas.List.{length-map}
use Rattle.std.proofs.lemmas.List.Folds.{list_any_at}
use Rattle.pack_defs.specs.Lists.{is_in, is_ascending}
use Rattle.pack_defs.proofs.Searches.{found-at, found-no_key}
use Rattle.lrat_text.specs.Read.{natural}
use Rattle.pack_defs.specs.Lists.{is_empty}
use Rattle.lrat_text.specs.Lines.{fields_of, pieces, is_space, prepend_to_piece}
use Rattle.transcript_text.specs.declared.error.TextErr.TheVariants.{BadLine}
use Rattle.transcript_text.specs.Fields.{RemainingFields, line_end}

-- A text always has a piece.
pub some-piece : (p : ℕ → Bool) (xs : List ℕ) → is_empty (pieces p xs) ≡ false
unfolding pieces
some-piece p [] = refl
some-piece p (c ∷ xs) = go (p c) (pieces p xs)
  where
    go : (b : Bool) (more : List (List ℕ)) → is_empty (if b then [] ∷ more else prepend_to_piece c more) ≡ false
    go true more = refl
    go false [] = refl
    go false (x ∷ more) = refl

-- The fields of what is left of a line.
abbrev pub left_fields : Option (Bor (List ℕ)) → List (List ℕ)
left_fields left = option_map_or (λ rest. fields_of rest.now) left []

pub left-none : (left : Option (Bor (List ℕ))) → left ≡ None → is_empty (left_fields left) ≡ true
left-none left e = rw e refl

pub left-some : (left : Option (Bor (List ℕ))) (rest : Bor (List ℕ)) → left ≡ Some rest → is_empty (left_fields left) ≡ false
left-some left rest e = rw e (some-piece is_space rest.now)

pub left-gone : (left : Option (Bor (List ℕ))) → left ≡ None → left_fields left ≡ []
left-gone left e = rw e refl

-- A line that has a rest has a field.
pub fields-left : (line : RemainingFields) (n : ℕ) (rest : List ℕ) → n ≡ line.number → line.fields ≡ fields_of rest → line_end line ≡ Err (BadLine n)
unfolding line_end
fields-left line n rest e f = rw (f, some-piece is_space rest, e) refl

-- A number that is read is at most `most`.
pub natural-few : (most : ℕ) (word : List ℕ) → IfSome (natural most word) (λ n. n ≤ most)
unfolding natural
natural-few most word = go (not (is_empty word) && (all_ascii_digits word && nat_le (digits_value 10 word) most)) (λ h. leb-true (digits_value 10 word) most (and_parts _ _ (and_parts _ _ h).1).1)
  where
    go : (b : Bool) → (b ≡ true → digits_value 10 word ≤ most) → IfSome (if b then Some (digits_value 10 word) else None) (λ n. n ≤ most)
    go true h = h refl
    go false h = tt

-- A binary search by a key finds the key exactly if the list has it.
pub has-key : {X : Type 0} (key : X → ℕ) (xs : List X) (k : ℕ) (r : Result ℕ ℕ) → is_ascending (map key xs) ≡ true → IsSearchInRange r (length xs) → IsBinarySearchResult (λ y. nat_cmp (key y) k) xs r → is_ok r ≡ is_in (map key xs) k
has-key key xs k (Ok i) a range found =
    let within : i < length (map key xs) = omega (arith, range, length-map xs key) in
    sym (list_any_at (λ y. y == k) (map key xs) i 0 within (eq-eqb (get_or (map key xs) i 0) k (found-at key xs k i range found)))
has-key key xs k (Err i) a range found = sym (found-no_key key xs k i range found a)
