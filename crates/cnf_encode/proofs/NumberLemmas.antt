-- For `numbering`: the number of a choice is the number of variables of the stations before, plus the place of its channel.
use Rattle.std.proofs.Common.{◌≡◌, ℕ, zero, suc, ◌+◌, ◌*◌, ◌<◌, ◌≤◌, Bool, true, false, ◌==◌, ◌&&◌, if◌then◌else◌, List, [], ◌∷◌, ◌++◌, cond, map, length, get_or, take, refl, sym, ap, ap₂, ◌∙◌, arith, subst, ⊎_elim, eq-eqb, ne_eqb, length-append}
use Rattle.std.specs.List.{count_by}
use Rattle.std.proofs.Math.Bool.{and-false}
use Rattle.std.proofs.lemmas.Bool.{and_from, both_ways, cond-true, cond-false, or_cases, or_from, or_left, or_parts, or_right}
use Rattle.std.proofs.lemmas.List.{get_or_default, length-map, map-append, take_all, take_more}
use Rattle.std.proofs.lemmas.List.Folds.{list_any_at}
use Rattle.std.proofs.lemmas.List.Sums.{sum_by-append}
use Rattle.pack_defs.specs.Book.{BookView, domain_of, stations_of}
use Rattle.pack_defs.specs.Lists.{is_in, is_ascending, same_entry, has_entry}
use Rattle.pack_defs.proofs.BookLemmas.{channels_in-none}
use Rattle.pack_defs.proofs.Words.{below-later, ascending-rest, entry}
use Rattle.cnf_encode.specs.Formula.{choices, number_of, variable_of, variables_in}
use Rattle.cnf_encode.specs.ByStation.{AreOffsets, IsCount}
use Rattle.cnf_encode.proofs.AscendingLemmas.{ascending-take, count-most}

-- the choices of one station
abbrev pub row : ℕ → List ℕ → List (ℕ × ℕ)
row s channels = map (λ c. (s, c)) channels

-- one more station
pub variables-step : (book : BookView) (xs : List ℕ) (s : ℕ) → variables_in book (xs ++ s ∷ []) ≡ variables_in book xs + length (domain_of book s)
variables-step book [] s =
    let row_long : length (row s (domain_of book s)) ≡ length (domain_of book s) = length-map (domain_of book s) (entry s) in
    omega (arith, length-append (row s (domain_of book s)) [])
variables-step book (x ∷ xs) s =
    let rest = variables-step book xs s in
    let longer = length-append (row x (domain_of book x)) (choices book (xs ++ s ∷ [])) in
    let shorter = length-append (row x (domain_of book x)) (choices book xs) in
    omega arith

pub variables-more : (book : BookView) (set : List ℕ) (i : ℕ) → i < length set → variables_in book (take (i + 1) set) ≡ variables_in book (take i set) + length (domain_of book (get_or set i 0))
variables-more book set i l = rw (take_more set i 0 l) (variables-step book (take i set) (get_or set i 0))

-- a station of the book has at most 256 variables, and others have none
pub few-channels : (book : BookView) (s n : ℕ) → n ≡ length (domain_of book s) → n ≤ 256 → n ≤ 256 * cond (is_in (stations_of book) s) 1 0
few-channels book s n e l =
    (elim (is_in (stations_of book) s) as (λ b. is_in (stations_of book) s ≡ b → n ≤ 256 * cond b 1 0) [
      | true ↦ λ m. omega arith
      | false ↦ λ m. let none : length (domain_of book s) ≡ 0 = ap length (channels_in-none book.domains s m) in omega arith
    ]) refl

-- the count of the stations up to a place, and one more
pub count-step : (book : BookView) (set : List ℕ) (i before n : ℕ) → is_ascending set ≡ true → length book.domains ≤ 8192 → i < length set → IsCount book (take i set) before → n ≡ length (domain_of book (get_or set i 0)) → n ≤ 256 → IsCount book (take (i + 1) set) (before + n)
count-step book set i before n a stations l h e small =
    let s = get_or set i 0 in
    let p : ℕ → Bool = is_in (stations_of book) in
    let here : n ≤ 256 * cond (p s) 1 0 = few-channels book s n e small in
    let more = variables-more book set i l in
    let counted = ap (count_by p) (take_more set i 0 l) ∙ sum_by-append (λ x. cond (p x) 1 0) (take i set) (s ∷ []) in
    let exact = h.exact in
    let bound = h.few in
    let few : before + n ≤ 256 * count_by p (take (i + 1) set) = omega arith in
    let most = count-most (stations_of book) (take (i + 1) set) (ascending-take set (i + 1) a) in
    let all = length-map book.domains (λ d. d.station) in
    record { exact = omega arith; few = few; fits = omega arith }

-- the offsets of the stations before a place, and its own
pub record OffsetsTo (book : BookView) (set : List ℕ) (i : ℕ) (offsets : List ℕ) : Type 0 where
  pub one_more : length offsets ≡ i + 1
  pub before : (k : ℕ) → k ≤ i → get_or offsets k 0 ≡ variables_in book (take k set)

number-front : (xs ys : List (ℕ × ℕ)) (x : ℕ × ℕ) → has_entry xs x ≡ true → number_of (xs ++ ys) x ≡ number_of xs x
number-front [] ys x h = cc
number-front (z ∷ zs) ys x h =
    (elim (same_entry z x) as (λ b. same_entry z x ≡ b → (if b then 1 else number_of (zs ++ ys) x + 1) ≡ (if b then 1 else number_of zs x + 1)) [
      | true ↦ λ e. refl
      | false ↦ λ e. ap (λ n. n + 1) (number-front zs ys x (⊎_elim (λ (yes : same_entry z x ≡ true). absurd (both_ways (same_entry z x) e yes)) (λ r. r) (or_cases (same_entry z x) (has_entry zs x) h)))
    ]) refl

number-behind : (xs ys : List (ℕ × ℕ)) (x : ℕ × ℕ) → has_entry xs x ≡ false → number_of (xs ++ ys) x ≡ length xs + number_of ys x
number-behind [] ys x h = omega arith
number-behind (z ∷ zs) ys x h =
    let parts = or_parts (same_entry z x) (has_entry zs x) h in
    let rest = number-behind zs ys x parts.1 in
    cond-false {A = ℕ} (same_entry z x) 1 (number_of (zs ++ ys) x + 1) parts.0 ∙ omega arith

row-lacks : (t s c : ℕ) (cs : List ℕ) → (t == s) ≡ false → has_entry (row t cs) (s, c) ≡ false
row-lacks t s c [] h = refl
row-lacks t s c (d ∷ ds) h =
    or_from ((t == s) && (d == c)) (has_entry (row t ds) (s, c)) (ap (λ b. b && (d == c)) h) (row-lacks t s c ds h)

-- the number of a choice among those of its station is the place of its channel, from 1
row-number : (s : ℕ) (cs : List ℕ) (j c : ℕ) → is_ascending cs ≡ true → j < length cs → get_or cs j 0 ≡ c → (has_entry (row s cs) (s, c) ≡ true) × (number_of (row s cs) (s, c) ≡ j + 1)
row-number s [] j c a l e = absurd (omega arith)
row-number s (d ∷ ds) zero c a l e =
    let same : same_entry (s, d) (s, c) ≡ true = and_from (s == s) (d == c) (eq-eqb s s refl) (eq-eqb d c e) in
    (or_left (same_entry (s, d) (s, c)) (has_entry (row s ds) (s, c)) same, cond-true {A = ℕ} (same_entry (s, d) (s, c)) 1 (number_of (row s ds) (s, c) + 1) same ∙ omega arith)
row-number s (d ∷ ds) (suc j) c a l e =
    let here : j < length ds = omega arith in
    let rest = row-number s ds j c (ascending-rest d ds a) here e in
    let less : d < c = below-later d ds c a (list_any_at (λ y. y == c) ds j 0 here (eq-eqb (get_or ds j 0) c e)) in
    let other : same_entry (s, d) (s, c) ≡ false = ap (λ b. (s == s) && b) (ne_eqb d c (λ q. omega arith)) ∙ and-false (s == s) in
    (or_right (same_entry (s, d) (s, c)) (has_entry (row s ds) (s, c)) rest.0, cond-false {A = ℕ} (same_entry (s, d) (s, c)) 1 (number_of (row s ds) (s, c) + 1) other ∙ omega (arith, rest.1))

-- the variable of a station's channel: those of the stations before, and the channel's place, from 1
pub variable-at : (book : BookView) (set : List ℕ) (i j s c : ℕ) → is_ascending set ≡ true → is_ascending (domain_of book s) ≡ true → i < length set → get_or set i 0 ≡ s → j < length (domain_of book s) → get_or (domain_of book s) j 0 ≡ c → variable_of book set (s, c) ≡ variables_in book (take i set) + j + 1
variable-at book [] i j s c a d l e k f = absurd (omega arith)
variable-at book (t ∷ ts) zero j s c a d l e k f =
    let own = row-number s (domain_of book s) j c d k f in
    subst (λ t. number_of (row t (domain_of book t) ++ choices book ts) (s, c) ≡ 0 + j + 1) (sym e)
    (number-front (row s (domain_of book s)) (choices book ts) (s, c) own.0 ∙ own.1 ∙ omega arith)
variable-at book (t ∷ ts) (suc i) j s c a d l e k f =
    let here : i < length ts = omega arith in
    let less : t < s = below-later t ts s a (list_any_at (λ y. y == s) ts i 0 here (eq-eqb (get_or ts i 0) s e)) in
    let lacks = row-lacks t s c (domain_of book t) (ne_eqb t s (λ q. omega arith)) in
    let rest = variable-at book ts i j s c (ascending-rest t ts a) d here e k f in
    let longer = length-append (row t (domain_of book t)) (choices book (take i ts)) in
    number-behind (row t (domain_of book t)) (choices book ts) (s, c) lacks ∙ omega arith

-- the same, as the code reads it
pub variable-read : (book : BookView) (set channels : List ℕ) (before i j s c : ℕ) → channels ≡ domain_of book s → is_ascending set ≡ true → is_ascending channels ≡ true → i < length set → get_or set i 0 ≡ s → j < length channels → get_or channels j 0 ≡ c → before ≡ variables_in book (take i set) → before + j + 1 ≡ variable_of book set (s, c)
variable-read book set channels before i j s c own a d l e k f counted =
    let at = variable-at book set i j s c a (subst (λ z. is_ascending z ≡ true) own d) l e (subst (λ z. j < length z) own k) (subst (λ z. get_or z j 0 ≡ c) own f) in
    omega (arith, at)

-- one more variable of a station
pub variables-push : (f : ℕ → ℕ) (channels : List ℕ) (j v : ℕ) (variables more : List ℕ) → j < length channels → v ≡ f (get_or channels j 0) → variables ≡ map f (take j channels) → more ≡ variables ++ v ∷ [] → more ≡ map f (take (j + 1) channels)
variables-push f channels j v variables more l own so_far e =
    e ∙ ap₂ (λ xs x. xs ++ x ∷ []) so_far own ∙ sym (ap (map f) (take_more channels j 0 l) ∙ map-append f (take j channels) (get_or channels j 0 ∷ []))

-- the last offset counts all
pub last-offset : (book : BookView) (set offsets : List ℕ) (n : ℕ) → AreOffsets book set offsets → n ≡ get_or offsets (length set) n → n ≡ variables_in book set
last-offset book set offsets n h e =
    let within : length set < length offsets = omega (arith, h.one_more) in
    e ∙ get_or_default offsets (length set) n 0 within ∙ h.before (length set) (omega arith) ∙ ap (variables_in book) (take_all (length set) set (omega arith))
