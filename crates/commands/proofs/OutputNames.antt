-- If no name of a file to store is given again, the texts that a command stores have different names.
use Rattle.std.proofs.Common.{◌≡◌, ◌≢◌, ◌<◌, ◌∙◌, ℕ, Bool, true, cond, inl, inr, List, [], ◌∷◌, ◌++◌, count_by, refl, sym, arith, None, subst}
use Rattle.std.specs.Prelude.{Contains, find}
use Rattle.std.specs.Str.{bytes_eq}
use Rattle.std.proofs.lemmas.Bool.{cond-true, false≢true, lt-ltb}
use Rattle.std.proofs.lemmas.List.Elements.{All-cons, All-nil}
use Rattle.std.proofs.lemmas.List.Sums.{sum_by-append, sum_by-cons}
use Rattle.std.proofs.lemmas.Slice.Eq.{bytes_eq-Decides}
use Rattle.auction_core.proofs.Finds.{find_cases}
use Rattle.pack_defs.proofs.Members.{Contains-here, Contains-there, list_any-from}
use Rattle.command_words.specs.Words.{ImportNames, MakeNames, ResumeNames, RunNames, ShowNames, first_repeated, import, is_repeated_among, make, names_read, repeated_by, resume, run, show}
use Rattle.commands.specs.Delivery.{named}
use Rattle.commands.specs.Ends.{output_texts, pair_of_texts}
use Rattle.commands.specs.Make.{input_texts_under}
use Rattle.commands.proofs.DeliveryLemmas.{AreApart}
use Rattle.transcript_text.proofs.FieldReads.{same-bytes}

-- Whether the three texts that are stored under these names have different names, whatever the texts are.
abbrev pub HaveOwnNames : RunNames → Type 0
HaveOwnNames names = (result channels transcript : List ℕ) → AreApart (output_texts names result channels transcript)

-- What a search does not find does not pass the test.
pub not-found : (p : List ℕ → Bool) (xs : List (List ℕ)) (x : List ℕ) → find p xs ≡ None → Contains xs x → p x ≡ true → ⊥
not-found p xs x none here passes = elim (find_cases p xs) [
  | inl absent ↦ false≢true (sym absent.1 ∙ list_any-from p xs x here passes)
  | inr found ↦ cc (sym none ∙ found.1)
]

-- Two elements that pass are counted.
two-pass : (p : List ℕ → Bool) (xs ys zs : List (List ℕ)) (a b : List ℕ) → p a ≡ true → p b ≡ true → 1 < count_by p (xs ++ a ∷ (ys ++ b ∷ zs))
two-pass p xs ys zs a b first second =
    let f : List ℕ → ℕ = λ x. cond (p x) 1 0 in
    let one : f a ≡ 1 = cond-true (p a) 1 0 first in
    let other : f b ≡ 1 = cond-true (p b) 1 0 second in
    omega (arith, sum_by-append f xs (a ∷ (ys ++ b ∷ zs)), sum_by-cons f a (ys ++ b ∷ zs), sum_by-append f ys (b ∷ zs), sum_by-cons f b zs, one, other)

-- A name at two places of a list is repeated in it.
pub twice-among : (given xs ys zs : List (List ℕ)) (a b : List ℕ) → xs ++ a ∷ (ys ++ b ∷ zs) ≡ given → a ≡ b → is_repeated_among given a ≡ true
twice-among given xs ys zs a b whole same =
    lt-ltb 1 (count_by (bytes_eq a) given)
    (subst (λ names. 1 < count_by (bytes_eq a) names) whole (two-pass (bytes_eq a) xs ys zs a b (same-bytes a) ((bytes_eq-Decides a b).1 same)))

-- Two names at two places are different.
two-apart : (stored read xs ys zs : List (List ℕ)) (a b : List ℕ) → first_repeated stored read ≡ None → Contains stored a → xs ++ a ∷ (ys ++ b ∷ zs) ≡ stored ++ read → a ≢ b
unfolding first_repeated
two-apart stored read xs ys zs a b once here whole = λ same. not-found (is_repeated_among (stored ++ read)) stored a once here (twice-among (stored ++ read) xs ys zs a b whole same)

-- Two texts, and three.
pair-apart : (a b : List ℕ) (read : List (List ℕ)) (t u : List ℕ) → first_repeated (a ∷ b ∷ []) read ≡ None → AreApart (named a t ∷ named b u ∷ [])
pair-apart a b read t u once =
    let first : a ≢ b = two-apart (a ∷ b ∷ []) read [] [] read a b once (Contains-here a (b ∷ [])) refl in
    (All-cons (λ name. a ≢ name) b [] first (All-nil (λ name. a ≢ name)), (All-nil (λ name. b ≢ name), tt))

three-apart : (a b c : List ℕ) (read : List (List ℕ)) (t u v : List ℕ) → first_repeated (a ∷ b ∷ c ∷ []) read ≡ None → AreApart (named a t ∷ named b u ∷ named c v ∷ [])
three-apart a b c read t u v once =
    let all = a ∷ b ∷ c ∷ [] in
    let first : a ≢ b = two-apart all read [] [] (c ∷ read) a b once (Contains-here a (b ∷ c ∷ [])) refl in
    let last : a ≢ c = two-apart all read [] (b ∷ []) read a c once (Contains-here a (b ∷ c ∷ [])) refl in
    let behind : b ≢ c = two-apart all read (a ∷ []) [] read b c once (Contains-there a b (b ∷ c ∷ []) (Contains-here b (c ∷ []))) refl in (
      All-cons (λ name. a ≢ name) b (c ∷ []) first (All-cons (λ name. a ≢ name) c [] last (All-nil (λ name. a ≢ name))),
      (
        All-cons (λ name. b ≢ name) c [] behind (All-nil (λ name. b ≢ name)),
        (All-nil (λ name. c ≢ name), tt),
      ),
    )

-- ---- the files of each command

pub own-names : (names : RunNames) → repeated_by (run names) ≡ None → HaveOwnNames names
own-names names once result channels transcript = three-apart names.result names.channels names.transcript (names_read names.inputs) result channels transcript once

pub own-resumed : (names : ResumeNames) → repeated_by (resume names) ≡ None → HaveOwnNames names.run_files
own-resumed names once result channels transcript =
    let files = names.run_files in
    three-apart files.result files.channels files.transcript (names.prefix ∷ names_read files.inputs) result channels transcript once

pub own-made : (names : MakeNames) (domain_file row_file scenario_file : List ℕ) → repeated_by (make names) ≡ None → AreApart (input_texts_under names.outputs domain_file row_file scenario_file)
own-made names domain_file row_file scenario_file once =
    three-apart names.outputs.domains names.outputs.rows names.outputs.scenario [] domain_file row_file scenario_file once

pub own-imports : (names : ImportNames) (result transcript : List ℕ) → repeated_by (import names) ≡ None → AreApart (pair_of_texts names result transcript)
own-imports names result transcript once =
    pair-apart names.result names.transcript (names.proof ∷ names.shown.transcript ∷ names_read names.shown.inputs) result transcript once

pub own-shown : (names : ShowNames) (result channels : List ℕ) → repeated_by (show names) ≡ None → AreApart (named names.result result ∷ named names.channels channels ∷ [])
own-shown names result channels once = pair-apart names.result names.channels (names.shown.transcript ∷ names_read names.shown.inputs) result channels once
