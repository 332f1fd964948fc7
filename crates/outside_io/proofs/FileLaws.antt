-- Laws of the files of a modelled folder. For `memory_folder`.
use Rattle.std.proofs.Common.{◌≡◌, ◌≢◌, ℕ, ◌+◌, ◌<◌, Bool, true, false, cond, List, [], ◌∷◌, ◌++◌, take, drop, set, get_or, Option, Some, None, length, refl, sym, ap, ap₂, ◌∙◌, add-one}
use Rattle.std.specs.Str.{bytes_eq}
use Rattle.std.proofs.lemmas.Bool.{false_from_ne_true}
use Rattle.std.proofs.lemmas.List.{take_more, drop_more, take-append-drop, set_split, append-nil}
use Rattle.std.proofs.lemmas.Slice.Eq.{bytes_eq-Decides}
use Rattle.outside_io.specs.Files.{StoredFile, bytes_of, IsPlace, with_file, Puts, OthersUnchanged}

-- a name equals itself, and no other name
same_name : (a b : List ℕ) → a ≡ b → bytes_eq a b ≡ true
same_name a b h = (bytes_eq-Decides a b).1 h

other_name : (a b : List ℕ) → a ≢ b → bytes_eq a b ≡ false
other_name a b h = false_from_ne_true _ (λ e. h ((bytes_eq-Decides a b).0 e))

-- a file of another name is skipped
passed : (b : Bool) (bytes : List ℕ) (rest : Option (List ℕ)) → cond b (Some bytes) rest ≡ None → (b ≡ false) × (rest ≡ None)
passed true bytes rest h = cc
passed false bytes rest h = (refl, h)

-- after files without the name
pub bytes_of-append : (xs ys : List StoredFile) (name : List ℕ) → bytes_of xs name ≡ None → bytes_of (xs ++ ys) name ≡ bytes_of ys name
bytes_of-append [] ys name h = refl
bytes_of-append (x ∷ xs) ys name h =
    let p = passed (bytes_eq x.name name) x.bytes (bytes_of xs name) h in
    rw p.0 (bytes_of-append xs ys name p.1)

with_file-append : (xs ys : List StoredFile) (name bytes : List ℕ) → bytes_of xs name ≡ None → with_file (xs ++ ys) name bytes ≡ xs ++ with_file ys name bytes
with_file-append [] ys name bytes h = refl
with_file-append (x ∷ xs) ys name bytes h =
    let p = passed (bytes_eq x.name name) x.bytes (bytes_of xs name) h in
    rw p.0 (ap (λ zs. x ∷ zs) (with_file-append xs ys name bytes p.1))

-- one more file without the name
pub bytes_of-take_more : (xs : List StoredFile) (i : ℕ) (x : StoredFile) (name : List ℕ) → bytes_of (take i xs) name ≡ None → i < length xs → x ≡ get_or xs i x → bytes_eq x.name name ≡ false → bytes_of (take (i + 1) xs) name ≡ None
bytes_of-take_more xs i x name absent within at differs =
    ap (λ ys. bytes_of ys name) (take_more xs i x within)
    ∙ bytes_of-append (take i xs) (get_or xs i x ∷ []) name absent
    ∙ ap (λ y. bytes_of (y ∷ []) name) (sym at)
    ∙ rw differs refl

-- a list split around one of its elements
around : (xs : List StoredFile) (i : ℕ) (x : StoredFile) → i < length xs → x ≡ get_or xs i x → xs ≡ take i xs ++ x ∷ drop (i + 1) xs
around xs i x within at =
    sym (take-append-drop i xs)
    ∙ ap (λ rest. take i xs ++ rest) (drop_more xs i x within)
    ∙ ap (λ y. take i xs ++ y ∷ drop (i + 1) xs) (sym at)

-- the file at the place of a name has that name
pub name_of-place : (xs : List StoredFile) (i : ℕ) (x : StoredFile) (name : List ℕ) → IsPlace xs name i → x ≡ get_or xs i x → x.name ≡ name
name_of-place xs i x name place at = ap (λ (f : StoredFile). f.name) at ∙ place.named x

-- the file at the place of a name has the contents of that name
pub bytes_of-place : (xs : List StoredFile) (i : ℕ) (x : StoredFile) (name : List ℕ) → IsPlace xs name i → x ≡ get_or xs i x → bytes_of xs name ≡ Some x.bytes
bytes_of-place xs i x name place at =
    ap (λ ys. bytes_of ys name) (around xs i x place.within at)
    ∙ bytes_of-append (take i xs) (x ∷ drop (i + 1) xs) name place.first
    ∙ rw (same_name x.name name (name_of-place xs i x name place at)) refl

-- a file of this name and these bytes
same_file : (x : StoredFile) (name bytes : List ℕ) → x.name ≡ name → x.bytes ≡ bytes → x ≡ record { name = name; bytes = bytes }
same_file x name bytes named held =
    let file : List ℕ → List ℕ → StoredFile = λ n b. record { name = n; bytes = b } in
    ap₂ file named held

-- the file at the place of a name is replaced by one with other bytes
pub with_file-place : (xs : List StoredFile) (i : ℕ) (x y : StoredFile) (name bytes : List ℕ) → IsPlace xs name i → x ≡ get_or xs i x → y.name ≡ x.name → y.bytes ≡ bytes → set xs i y ≡ with_file xs name bytes
with_file-place xs i x y name bytes place at kept held =
    let named = name_of-place xs i x name place at in
    let put : StoredFile = record { name = name; bytes = bytes } in
    let moved : with_file (x ∷ drop (i + 1) xs) name bytes ≡ put ∷ drop (i + 1) xs = rw (same_name x.name name named) refl in
    ap (set xs i) (same_file y name bytes (kept ∙ named) held)
    ∙ set_split xs i put place.within
    ∙ ap (λ n. take i xs ++ put ∷ drop n xs) (sym (add-one i))
    ∙ ap (λ rest. take i xs ++ rest) (sym moved)
    ∙ sym (with_file-append (take i xs) (x ∷ drop (i + 1) xs) name bytes place.first)
    ∙ ap (λ ys. with_file ys name bytes) (sym (around xs i x place.within at))

-- a file whose name is not there is appended
pub with_file-push : (xs ys : List StoredFile) (x : StoredFile) (name bytes : List ℕ) → bytes_of xs name ≡ None → x.name ≡ name → x.bytes ≡ bytes → ys ≡ xs ++ x ∷ [] → ys ≡ with_file xs name bytes
with_file-push xs ys x name bytes absent named held pushed =
    pushed
    ∙ ap (λ y. xs ++ y ∷ []) (same_file x name bytes named held)
    ∙ sym (with_file-append xs [] name bytes absent)
    ∙ ap (λ zs. with_file zs name bytes) (append-nil xs)

-- the file of the name has the bytes
holds : (xs : List StoredFile) (name bytes : List ℕ) → bytes_of (with_file xs name bytes) name ≡ Some bytes
holds [] name bytes = rw (same_name name name refl) refl
holds (x ∷ xs) name bytes =
    let go : (b : Bool) → bytes_eq x.name name ≡ b → bytes_of (cond b (record { name = name; bytes = bytes } ∷ xs) (x ∷ with_file xs name bytes)) name ≡ Some bytes =
    elim [ true ↦ λ _. rw (same_name name name refl) refl | false ↦ λ e. rw e (holds xs name bytes) ] in
    go (bytes_eq x.name name) refl

-- every other file is unchanged
others : (xs : List StoredFile) (name bytes : List ℕ) → OthersUnchanged xs (with_file xs name bytes) name
others [] name bytes other h = rw (other_name name other (λ e. h (sym e))) refl
others (x ∷ xs) name bytes other h =
    let go : (b : Bool) → bytes_eq x.name name ≡ b → bytes_of (cond b (record { name = name; bytes = bytes } ∷ xs) (x ∷ with_file xs name bytes)) other ≡ bytes_of (x ∷ xs) other =
    elim [ true ↦ λ e. rw (other_name name other (λ q. h (sym q)), other_name x.name other (λ q. h (sym q ∙ (bytes_eq-Decides x.name name).0 e))) refl | false ↦ λ e. ap (λ rest. cond (bytes_eq x.name other) (Some x.bytes) rest) (others xs name bytes other h) ] in
    go (bytes_eq x.name name) refl

pub Puts-with_file : (xs : List StoredFile) (name bytes : List ℕ) → Puts xs (with_file xs name bytes) name bytes
Puts-with_file xs name bytes = record { holds = holds xs name bytes; others = others xs name bytes }
