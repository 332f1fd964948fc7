-- How records and lines extend the earlier records, that an error propagates, and how many records a list has.
use Rattle.std.proofs.Common.{◌≡◌, ◌∙◌, ◌<◌, ◌≤◌, ◌+◌, ◌∷◌, ◌++◌, [], ℕ, true, false, cond, ltb, List, Option, Some, None, Result, Ok, Err, refl, sym, ap, subst, arith, length, map, drop, get_or}
use Rattle.std.specs.Option.{option_and_then, option_map}
use Rattle.std.proofs.lemmas.Bool.{ltb-true}
use Rattle.std.proofs.lemmas.Option.{none-some, option_and_then_some, same_Some}
use Rattle.std.proofs.lemmas.List.{drop_all, drop_more, length-map, length-append}
use Rattle.std.proofs.Math.ListN.{get_or-map}
use Rattle.constraint_files.specs.Records.{line_records, lines_of}
use Rattle.batch_list.specs.ListOf.{ListedNames, after_list_line, list_limit, list_of, unless_empty, listed_of, with_list_lines, with_listed, with_all_listed}
use Rattle.batch_list.specs.Read.{ListChanges, ListReads}
use Rattle.batch_list.specs.declared.error.ListAddErr.{ListAddErr}
use Rattle.batch_list.specs.declared.error.ListAddErr.TheVariants.{NoMemory, Refused}
use Rattle.batch_list.specs.declared.error.ListErr.{ListErr}
use Rattle.batch_list.specs.declared.error.ListErr.TheVariants.{BadLine, Empty, NoMemory as NoRoom}

-- The names of some records, by the first of them.
with-first : (listed : List ListedNames) (rs : List (List (List ℕ))) (i : ℕ) (r : List (List ℕ)) → i < length rs → r ≡ get_or rs i r
    → with_all_listed listed (drop i rs) ≡ option_and_then (λ next. with_all_listed next (drop (i + 1) rs)) (with_listed listed r)
unfolding with_all_listed
with-first listed rs i r h e = rw (drop_more rs i r h, ← e) refl

-- An error of a record is the error of all records from it on.
stops : (listed new : List ListedNames) (rs : List (List (List ℕ))) (i : ℕ) (r : List (List ℕ)) (e : ListAddErr) → i < length rs → r ≡ get_or rs i r
    → ListChanges (with_listed listed r) new (Err e) → ListChanges (with_all_listed listed (drop i rs)) new (Err e)
stops listed new rs i r Refused h is refused =
    with-first listed rs i r h is ∙ ap (option_and_then (λ next. with_all_listed next (drop (i + 1) rs))) refused
stops listed new rs i r NoMemory h is refused = tt

-- The same for records that are each made from an item of a list.
module _ {X : Type 0} (own : X → List (List ℕ)) (xs : List X) where
  within : (i : ℕ) → i < length xs → i < length (map own xs)
  within i h = subst (λ n. i < n) (sym (length-map xs own)) h

  at : (i : ℕ) (x : X) → x ≡ get_or xs i x → own x ≡ get_or (map own xs) i (own x)
  at i x is = ap own is ∙ sym (get_or-map own xs i x)

  pub stops-own : (listed new : List ListedNames) (i : ℕ) (x : X) (r : List (List ℕ)) (e : ListAddErr) → i < length xs → x ≡ get_or xs i x → r ≡ own x → ListChanges (with_listed listed r) new (Err e) → ListChanges (with_all_listed listed (drop i (map own xs))) new (Err e)
  stops-own listed new i x r e h is same refused =
      stops listed new (map own xs) i (own x) e (within i h) (at i x is) (subst (λ z. ListChanges (with_listed listed z) new (Err e)) same refused)

  pub next-own : (listed new : List ListedNames) (i : ℕ) (x : X) (r : List (List ℕ)) → i < length xs → x ≡ get_or xs i x → r ≡ own x → with_listed listed r ≡ Some new → with_all_listed listed (drop i (map own xs)) ≡ with_all_listed new (drop (i + 1) (map own xs))
  next-own listed new i x r h is same taken =
      with-first listed (map own xs) i (own x) (within i h) (at i x is)
      ∙ ap (option_and_then (λ next. with_all_listed next (drop (i + 1) (map own xs)))) (ap (with_listed listed) (sym same) ∙ taken)

  -- No record is left.
  pub none-own : (listed : List ListedNames) (i : ℕ) → length xs ≤ i → with_all_listed listed (drop i (map own xs)) ≡ Some listed
  unfolding with_all_listed
  none-own listed i h = rw (drop_all i (map own xs) (subst (λ n. n ≤ i) (sym (length-map xs own)) h)) refl

-- The names in the lines of some bytes, by the first of them.
pub line-next : (listed : List ListedNames) (number : ℕ) (bytes line rest : List ℕ) → lines_of bytes ≡ line ∷ lines_of rest
    → with_list_lines listed number (lines_of bytes) ≡ after_list_line number (with_all_listed listed (line_records line)) (λ next. with_list_lines next (number + 1) (lines_of rest))
unfolding with_list_lines
line-next listed number bytes line rest e = rw e refl

-- An error of a line is the error of all lines from it on.
pub line-stops : (listed : List ListedNames) (number : ℕ) (bytes line rest : List ℕ) → lines_of bytes ≡ line ∷ lines_of rest
    → with_all_listed listed (line_records line) ≡ None → with_list_lines listed number (lines_of bytes) ≡ Err (BadLine number)
line-stops listed number bytes line rest first refused =
    line-next listed number bytes line rest first ∙ ap (λ o. after_list_line number o (λ next. with_list_lines next (number + 1) (lines_of rest))) refused

-- No bytes have no lines.
pub lines-none : (listed : List ListedNames) (number : ℕ) → with_list_lines listed number (lines_of []) ≡ Ok listed
unfolding with_list_lines lines_of
lines-none listed number = refl

-- ---- a list that was read to its end

-- An error of the records is an error of the list.
pub list-refused : (bytes : List ℕ) (e : ListErr) → ListReads (with_list_lines [] 1 (lines_of bytes)) (Err e) → ListReads (list_of bytes) (Err e)
unfolding list_of
list-refused bytes (BadLine line) is = ap unless_empty is
list-refused bytes Empty is = ap unless_empty is
list-refused bytes NoRoom is = tt

pub list-empty : (bytes : List ℕ) (xs : List ListedNames) → with_list_lines [] 1 (lines_of bytes) ≡ Ok xs → length xs ≡ 0 → list_of bytes ≡ Err Empty
unfolding list_of
list-empty bytes [] is none = ap unless_empty is
list-empty bytes (x ∷ xs) is none = absurd (omega (arith, none))

pub list-read : (bytes : List ℕ) (xs : List ListedNames) → with_list_lines [] 1 (lines_of bytes) ≡ Ok xs → 1 ≤ length xs → list_of bytes ≡ Ok xs
unfolding list_of
list-read bytes [] is some = absurd (omega (arith, some))
list-read bytes (x ∷ xs) is some = ap unless_empty is

-- ---- a list has at most as many records as its limit

one-more : (o : Option ListedNames) (listed next : List ListedNames) → option_map (λ names. listed ++ names ∷ []) o ≡ Some next → length next ≡ length listed + 1
one-more None listed next is = absurd (none-some next is)
one-more (Some x) listed next is = ap length (sym (same_Some (listed ++ x ∷ []) next is)) ∙ length-append listed (x ∷ [])

record-few : (listed next : List ListedNames) (fields : List (List ℕ)) → with_listed listed fields ≡ Some next → length next ≤ list_limit
record-few listed next fields is =
    (elim (ltb (length listed) list_limit) as (λ b. ltb (length listed) list_limit ≡ b → cond b (option_map (λ names. listed ++ names ∷ []) (listed_of fields)) None ≡ Some next → length next ≤ list_limit) [
      | true ↦ λ room taken.
          let more = one-more (listed_of fields) listed next taken in
          let below = ltb-true (length listed) list_limit room in
          omega (arith, more, below)
      | false ↦ λ _ none. absurd (none-some next none)
    ]) refl is

records-few : (rs : List (List (List ℕ))) (listed next : List ListedNames) → length listed ≤ list_limit → with_all_listed listed rs ≡ Some next → length next ≤ list_limit
unfolding with_all_listed
records-few [] listed next few is = subst (λ xs. length xs ≤ list_limit) (same_Some listed next is) few
records-few (r ∷ rs) listed next few is =
    option_and_then_some (λ n. with_all_listed n rs) (with_listed listed r) next is (λ x taken rest. records-few rs x next (record-few listed x r taken) rest)

-- The earlier records, if the lines behind a line were read to the end.
after-read : {P : Type 0} (number : ℕ) (o : Option (List ListedNames)) (rest : List ListedNames → Result (List ListedNames) ListErr) (next : List ListedNames) → after_list_line number o rest ≡ Ok next → ((x : List ListedNames) → o ≡ Some x → rest x ≡ Ok next → P) → P
after-read number None rest next is go = cc
after-read number (Some x) rest next is go = go x refl is

lines-few : (lines : List (List ℕ)) (listed next : List ListedNames) (number : ℕ) → length listed ≤ list_limit → with_list_lines listed number lines ≡ Ok next → length next ≤ list_limit
unfolding with_list_lines
lines-few [] listed next number few is = let same : listed ≡ next = cc in subst (λ xs. length xs ≤ list_limit) same few
lines-few (line ∷ lines) listed next number few is =
    after-read number (with_all_listed listed (line_records line)) (λ n. with_list_lines n (number + 1) lines) next is
    (λ x taken rest. lines-few lines x next (number + 1) (records-few (line_records line) listed x few taken) rest)

pub list-few : (bytes : List ℕ) (xs : List ListedNames) → with_list_lines [] 1 (lines_of bytes) ≡ Ok xs → length xs ≤ list_limit
list-few bytes xs is = lines-few (lines_of bytes) [] xs 1 (omega arith) is
