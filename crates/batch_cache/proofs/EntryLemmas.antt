-- The contracts of `lru`, in the words of the cache.
use Rattle.std.proofs.Common.{◌≡◌, ℕ, zero, suc, ◌-◌, ◌<◌, ◌≤◌, Bool, true, false, ◌==◌, List, [], ◌∷◌, length, take, Some, None, refl, sym, ap, ◌∙◌, subst, arith, eq-eqb, eqb-true, find}
use Rattle.std.specs.List.{AllByRecursion, IsDistinct}
use Rattle.std.specs.Map.{keys_of, lookup_entry, remove_entry}
use Rattle.std.specs.Option.{option_map_or}
use Rattle.std.proofs.lemmas.Bool.{and_parts, and_from, true≢false}
use Rattle.std.proofs.lemmas.List.{take_all}
use Rattle.std.proofs.lemmas.Map.Keys.{IsDistinct-head, IsDistinct-tail}
use Rattle.lru.specs.LruCache.{LruCache, lru_cache, IsValid, promoted, put_entries}
use Rattle.pack_defs.specs.Lists.{same_list}
use Rattle.batch_cache.specs.declared.key.Key.{Key}
use Rattle.batch_cache.specs.Cache.{same_key, without_key, to_front, first_kept}
use Rattle.pack_defs.proofs.Words.{same_list-itself}

-- ---- keys

same_list-is : (xs ys : List ℕ) → same_list xs ys ≡ true → xs ≡ ys
same_list-is [] [] e = refl
same_list-is [] (y ∷ ys) e = cc
same_list-is (x ∷ xs) [] e = cc
same_list-is (x ∷ xs) (y ∷ ys) e =
    let parts = and_parts (x == y) (same_list xs ys) e in
    let first : x ≡ y = eqb-true x y parts.0 in
    let rest : xs ≡ ys = same_list-is xs ys parts.1 in
    cc

same_key-is : (k l : Key) → same_key k l ≡ true → k ≡ l
same_key-is k l e =
    let parts = and_parts (k.top == l.top) (same_list k.set l.set) e in
    let top : k.top ≡ l.top = eqb-true k.top l.top parts.0 in
    let stations : k.set ≡ l.set = same_list-is k.set l.set parts.1 in
    λ i. record { top = top i; set = stations i }

same_key-itself : (k : Key) → same_key k k ≡ true
same_key-itself k = and_from (k.top == k.top) (same_list k.set k.set) (eq-eqb k.top k.top refl) (same_list-itself k.set)

not-same : (k l : Key) → same_key l k ≡ false → same_key k l ≡ false
not-same k l h = (elim (same_key k l) as (λ b. same_key k l ≡ b → same_key k l ≡ false) [
  | true ↦ λ t. absurd (true≢false (sym (same_key-itself k) ∙ (ap (λ (m : Key). same_key m k) (same_key-is k l t) ∙ h)))
  | false ↦ λ t. t
]) refl

-- ---- entries

module _ {V : Type 0} where
  -- No entry has the key: none is removed.
  none-goes : (es : List (Key × V)) (k : Key) → AllByRecursion (λ l. same_key k l ≡ false) (keys_of es) → without_key k es ≡ es
  none-goes [] k h = refl
  none-goes (e ∷ es) k h = rw (h.0) (ap (λ (fs : List (Key × V)). e ∷ fs) (none-goes es k h.1))

  missing-goes : (es : List (Key × V)) (k : Key) → lookup_entry (same_key k) es ≡ None → without_key k es ≡ es
  missing-goes [] k h = refl
  missing-goes (e ∷ es) k h = (elim (same_key k e.0) as (λ b. same_key k e.0 ≡ b → without_key k (e ∷ es) ≡ e ∷ es) [
    | true ↦ λ t. let h' = rw t at h in cc
    | false ↦ λ t. rw t (ap (λ (fs : List (Key × V)). e ∷ fs) (missing-goes es k (rw t at h)))
  ]) refl

  -- If the keys differ, the first entry with the key is the only one.
  first-goes : (es : List (Key × V)) (k : Key) → IsDistinct same_key (keys_of es) → remove_entry (same_key k) es ≡ without_key k es
  first-goes [] k d = refl
  first-goes (e ∷ es) k d = (elim (same_key k e.0) as (λ b. same_key k e.0 ≡ b → remove_entry (same_key k) (e ∷ es) ≡ without_key k (e ∷ es)) [
    | true ↦ λ t. let others = subst (λ (l : Key). AllByRecursion (λ m. same_key l m ≡ false) (keys_of es)) (sym (same_key-is k e.0 t)) (IsDistinct-head same_key e.0 (keys_of es) d) in
        rw t (sym (none-goes es k others))
    | false ↦ λ t. rw t (ap (λ (fs : List (Key × V)). e ∷ fs) (first-goes es k (IsDistinct-tail same_key e.0 (keys_of es) d)))
  ]) refl

  length-removed : (es : List (Key × V)) (k : Key) (e : Key × V) → lookup_entry (same_key k) es ≡ Some e → suc (length (remove_entry (same_key k) es)) ≡ length es
  length-removed [] k e h = cc
  length-removed (f ∷ es) k e h = (elim (same_key k f.0) as (λ b. same_key k f.0 ≡ b → suc (length (remove_entry (same_key k) (f ∷ es))) ≡ suc (length es)) [
    | true ↦ λ t. rw t refl
    | false ↦ λ t. rw t (ap suc (length-removed es k e (rw t at h)))
  ]) refl

  looked-up-key : (es : List (Key × V)) (k : Key) (e : Key × V) → lookup_entry (same_key k) es ≡ Some e → e.0 ≡ k
  looked-up-key [] k e h = cc
  looked-up-key (f ∷ es) k e h = (elim (same_key k f.0) as (λ b. same_key k f.0 ≡ b → e.0 ≡ k) [
    | true ↦ λ t. let h' = rw t at h in let same : f ≡ e = cc in sym (ap (λ (g : Key × V). g.0) same) ∙ sym (same_key-is k f.0 t)
    | false ↦ λ t. looked-up-key es k e (rw t at h)
  ]) refl

  some-room : (es : List (Key × V)) (room : ℕ) (k : Key) (v : V) → 0 < room → without_key k es ≡ es → (k, v) ∷ take (room - 1) es ≡ first_kept room (k, v) es
  some-room es zero k v some none = absurd (omega (arith, some))
  some-room es (suc n) k v some none =
      let less : suc n - 1 ≡ n = omega arith in
      ap (λ (m : ℕ). (k, v) ∷ take m es) less ∙ ap (λ (fs : List (Key × V)). (k, v) ∷ take n fs) (sym none)

  -- A put makes the entry the first, and keeps as many of the others as there is room for.
  pub put-first : (es : List (Key × V)) (room : ℕ) (k : Key) (v : V) → IsValid same_key (lru_cache es room) → put_entries same_key (lru_cache es room) k v ≡ first_kept room (k, v) es
  put-first es room k v valid = (elim (lookup_entry (same_key k) es) as (λ o. lookup_entry (same_key k) es ≡ o → option_map_or (λ e. (e.0, v) ∷ remove_entry (same_key k) es) o ((k, v) ∷ take (room - 1) es) ≡ first_kept room (k, v) es) [
    | None ↦ λ h. some-room es room k v valid.2 (missing-goes es k h)
    | Some e ↦ λ h.
        let long = length-removed es k e h in let fits = valid.1 in
        let short : length ((k, v) ∷ remove_entry (same_key k) es) ≤ room = omega (arith, long, fits) in
        ap (λ (l : Key). (l, v) ∷ remove_entry (same_key k) es) (looked-up-key es k e h)
        ∙ (sym (take_all room ((k, v) ∷ remove_entry (same_key k) es) short)
        ∙ ap (λ (fs : List (Key × V)). take room ((k, v) ∷ fs)) (first-goes es k valid.0))
  ]) refl

  -- The same for a complete cache whose key and value equal these.
  pub put-cache : (old new : LruCache Key V) (k l : Key) (v w : V) → IsValid same_key old → new ≡ lru_cache (put_entries same_key old k v) old.cap → k ≡ l → v ≡ w → new ≡ lru_cache (first_kept old.cap (l, w) old.entries) old.cap
  put-cache old new k l v w valid is key value =
      is ∙ (ap (λ (es : List (Key × V)). lru_cache es old.cap) (put-first old.entries old.cap k v valid)
      ∙ (λ i. lru_cache (first_kept old.cap (key i, value i) old.entries) old.cap))

  -- What holds of each key holds of the key of an entry that is found.
  at-found : (P : Key → Type 0) (p : Key × V → Bool) (es : List (Key × V)) (e : Key × V) → find p es ≡ Some e → AllByRecursion P (keys_of es) → P e.0
  at-found P p [] e h all = cc
  at-found P p (f ∷ es) e h all = (elim (p f) as (λ b. p f ≡ b → P e.0) [
    | true ↦ λ t. let h' = rw t at h in let same : f ≡ e = cc in subst (λ (g : Key × V). P g.0) same all.0
    | false ↦ λ t. at-found P p es e (rw t at h) all.1
  ]) refl

  -- If the keys differ, an entry that is found is looked up by its key.
  looked-up : (p : Key × V → Bool) (es : List (Key × V)) (e : Key × V) → IsDistinct same_key (keys_of es) → find p es ≡ Some e → lookup_entry (same_key e.0) es ≡ Some e
  looked-up p [] e d h = cc
  looked-up p (f ∷ es) e d h = (elim (p f) as (λ b. p f ≡ b → lookup_entry (same_key e.0) (f ∷ es) ≡ Some e) [
    | true ↦ λ t. let h' = rw t at h in let same : f ≡ e = cc in
        subst (λ (g : Key × V). lookup_entry (same_key g.0) (f ∷ es) ≡ Some g) same (rw (same_key-itself f.0) refl)
    | false ↦ λ t.
        let later : find p es ≡ Some e = rw t at h in
        let apart : same_key f.0 e.0 ≡ false = at-found (λ l. same_key f.0 l ≡ false) p es e later (IsDistinct-head same_key f.0 (keys_of es) d) in
        let other : same_key e.0 f.0 ≡ false = not-same e.0 f.0 apart in
        rw other (looked-up p es e (IsDistinct-tail same_key f.0 (keys_of es) d) later)
  ]) refl

  -- Promoting an entry that was found makes it the first.
  pub promoted-first : (p : Key × V → Bool) (es : List (Key × V)) (e : Key × V) → IsDistinct same_key (keys_of es) → find p es ≡ Some e → promoted (same_key e.0) es ≡ to_front e es
  promoted-first p es e d h = rw (looked-up p es e d h) (ap (λ (fs : List (Key × V)). e ∷ fs) (first-goes es e.0 d))
