-- The entry that was found answers, and becomes the first of its kind.
use Rattle.std.proofs.Common.{◌≡◌, ℕ, Bool, List, Option, Some, None, refl, sym, ap, ◌∙◌, subst, find}
use Rattle.std.specs.Prelude.{option_map}
use Rattle.lru.specs.LruCache.{LruCache, lru_cache, IsValid as IsOrdered, promoted}
use Rattle.pack_defs.specs.Book.{BookView}
use Rattle.pack_defs.specs.declared.worker.Worker.{Worker}
use Rattle.cert_types.specs.declared.answer.Refutation.{Refutation}
use Rattle.cert_types.specs.declared.task.Task.{Task}
use Rattle.cert_types.specs.Valid.{IsValid}
use Rattle.batch_cache.specs.declared.key.Key.{Key}
use Rattle.batch_cache.specs.declared.search.FoundAnswer.{FoundAnswer}
use Rattle.batch_cache.specs.Cache.{CacheView, first_kept, same_key, to_front}
use Rattle.batch_cache.specs.Answering.{gives_fit, gives_refutation, moved_to_front}
use Rattle.batch_cache.specs.KeptRefutation.{fit_found, refutation_found}
use Rattle.batch_cache.proofs.EntryLemmas.{promoted-first}
use Rattle.batch_cache.proofs.NoneLaws.{fit-valid, refutation-valid}
use Rattle.pack_defs.proofs.Words.{mapped-none}

-- A mapped option that has a value comes from one that has a value.
mapped-some : {A B : Type 0} (f : A → B) (o : Option A) (y : B) → option_map f o ≡ Some y → (x : A) × (o ≡ Some x) × (y ≡ f x)
mapped-some f None y h = cc
mapped-some f (Some x) y h = (x, refl, cc)

-- The cache made of these two lists.
abbrev pub view_of : LruCache Key (List (ℕ × ℕ)) → LruCache Key Refutation → CacheView
view_of maps refutations = record { room = maps.cap; maps = maps.entries; refutations = refutations.entries }

-- ---- `put`

pub map-put : (self : CacheView) (maps new : LruCache Key (List (ℕ × ℕ))) (refutations : LruCache Key Refutation) (k : Key) (map : List (ℕ × ℕ)) → view_of maps refutations ≡ self → new ≡ lru_cache (first_kept maps.cap (k, map) maps.entries) maps.cap →
    view_of new refutations ≡ record self { maps = first_kept self.room (k, map) self.maps }
map-put self maps new refutations k map view put =
    ap (λ (m : LruCache Key (List (ℕ × ℕ))). view_of m refutations) put
    ∙ ap (λ (v : CacheView). record v { maps = first_kept v.room (k, map) v.maps }) view

pub refutation-put : (self : CacheView) (maps : LruCache Key (List (ℕ × ℕ))) (refutations new : LruCache Key Refutation) (k : Key) (refutation : Refutation) → view_of maps refutations ≡ self → refutations.cap ≡ maps.cap → new ≡ lru_cache (first_kept refutations.cap (k, refutation) refutations.entries) refutations.cap →
    view_of maps new ≡ record self { refutations = first_kept self.room (k, refutation) self.refutations }
refutation-put self maps refutations new k refutation view same put =
    ap (λ (m : LruCache Key Refutation). view_of maps m) put
    ∙ (ap (λ (n : ℕ). record (view_of maps refutations) { refutations = first_kept n (k, refutation) refutations.entries }) same
    ∙ ap (λ (v : CacheView). record v { refutations = first_kept v.room (k, refutation) v.refutations }) view)

-- ---- `answer` and `suggest`

module _ (top : ℕ) (book : BookView) (task : Task) (worker : Worker) where
  pub found-fit-valid : (es : List (Key × List (ℕ × ℕ))) (found : FoundAnswer) → option_map (fit_found task) (find (gives_fit top book task worker) es) ≡ Some found → IsValid book task worker found.answer
  found-fit-valid es found h =
      let (e, here, is) = mapped-some (fit_found task) (find (gives_fit top book task worker) es) found h in
      subst (λ (f : FoundAnswer). IsValid book task worker f.answer) (sym is) (fit-valid top book task worker es e here)

  pub found-refutation-valid : (es : List (Key × Refutation)) (found : FoundAnswer) → option_map refutation_found (find (gives_refutation top book task worker) es) ≡ Some found → IsValid book task worker found.answer
  found-refutation-valid es found h =
      let (e, here, is) = mapped-some refutation_found (find (gives_refutation top book task worker) es) found h in
      subst (λ (f : FoundAnswer). IsValid book task worker f.answer) (sym is) (refutation-valid top book task worker es e here)

-- The entry that was found by these tests is the first from then on.
module _ (p : Key × List (ℕ × ℕ) → Bool) (q : Key × Refutation → Bool) (self : CacheView) (maps : LruCache Key (List (ℕ × ℕ))) (refutations : LruCache Key Refutation) (view : view_of maps refutations ≡ self) where
  pub map-moved : (made : Key × List (ℕ × ℕ) → FoundAnswer) → ((e : Key × List (ℕ × ℕ)) → (made e).key ≡ e.0) → (new : LruCache Key (List (ℕ × ℕ))) (found : FoundAnswer) → IsOrdered same_key maps → option_map made (find p maps.entries) ≡ Some found → new ≡ lru_cache (promoted (same_key found.key) maps.entries) maps.cap →
      view_of new refutations ≡ moved_to_front self (find p self.maps) (find q self.refutations)
  map-moved made its new found ordered h moved =
      let (e, here, is) = mapped-some made (find p maps.entries) found h in
      let front : new ≡ lru_cache (to_front e maps.entries) maps.cap =
      moved ∙ ap (λ (es : List (Key × List (ℕ × ℕ))). lru_cache es maps.cap)
      (ap (λ (k : Key). promoted (same_key k) maps.entries) (ap (λ (f : FoundAnswer). f.key) is ∙ its e) ∙ promoted-first p maps.entries e ordered.0 here) in
      ap (λ (m : LruCache Key (List (ℕ × ℕ))). view_of m refutations) front
      ∙ (sym (ap (λ (o : Option (Key × List (ℕ × ℕ))). moved_to_front (view_of maps refutations) o (find q refutations.entries)) here)
      ∙ ap (λ (v : CacheView). moved_to_front v (find p v.maps) (find q v.refutations)) view)

  pub refutation-moved : (made : Key × List (ℕ × ℕ) → FoundAnswer) (new : LruCache Key Refutation) (found : FoundAnswer) → IsOrdered same_key refutations → option_map made (find p maps.entries) ≡ None → option_map refutation_found (find q refutations.entries) ≡ Some found → new ≡ lru_cache (promoted (same_key found.key) refutations.entries) refutations.cap →
      view_of maps new ≡ moved_to_front self (find p self.maps) (find q self.refutations)
  refutation-moved made new found ordered none h moved =
      let no_map = mapped-none made (find p maps.entries) none in
      let (e, here, is) = mapped-some refutation_found (find q refutations.entries) found h in
      let front : new ≡ lru_cache (to_front e refutations.entries) refutations.cap =
      moved ∙ ap (λ (es : List (Key × Refutation)). lru_cache es refutations.cap)
      (ap (λ (f : FoundAnswer). promoted (same_key f.key) refutations.entries) is ∙ promoted-first q refutations.entries e ordered.0 here) in
      ap (λ (m : LruCache Key Refutation). view_of maps m) front
      ∙ (sym (λ i. moved_to_front (view_of maps refutations) (no_map i) (here i))
      ∙ ap (λ (v : CacheView). moved_to_front v (find p v.maps) (find q v.refutations)) view)
