-- A transcript's file is read piece by piece: the reader has read exactly the pieces.
use Rattle.std.proofs.Common.{◌≡◌, ◌≢◌, ◌∙◌, ◌≤◌, ◌<◌, ◌+◌, ◌++◌, [], ◌∷◌, ℕ, suc, Bool, true, List, length, take, drop, refl, sym, ap, subst, arith}
use Rattle.std.proofs.lemmas.List.{length-append}
use Rattle.std.specs.Prelude.{Option, Some, None, Result, Ok, Err}
use Rattle.outside_io.specs.Faults.{HasRisen}
use Rattle.outside_io.specs.Files.{StoredFile, bytes_of}
use Rattle.outside_io.specs.Pieces.{Begins, BeginsFile, GaveAll, GaveSoFar, GivesPiece, piece_size}
use Rattle.outside_io.specs.declared.folder.LoadErr.{LoadErr}
use Rattle.outside_io.specs.declared.folder.LoadErr.TheVariants.{Failed, TooLong, NoMemory as NoLoad}
use Rattle.outside_io.proofs.PieceLaws.{begun-none, handed-all, handed-more}
use Rattle.transcript_text.specs.Pieces.{HasRead, ReadSoFar}
use Rattle.commands.specs.declared.inputs.Inputs.{Inputs}
use Rattle.commands.specs.Inputs.{transcript_limit}
use Rattle.commands.specs.Shown.{IsTextRead}
use Rattle.commands.proofs.MessageLemmas.{rises-before}

-- Whether the reader has read the bytes that were returned of the file with this name, and their number is `come`.
pub record IsReading (inputs : Inputs) (modelled : Option (List StoredFile)) (name : List ℕ) (left : Option (List ℕ)) (come : ℕ) (read : ReadSoFar) : Type 0 where
  pub bytes : List ℕ
  pub has_read : HasRead inputs.scenario inputs.book bytes read
  pub handed : GaveSoFar modelled name bytes left
  pub so_many : come ≡ length bytes

-- The file is opened.
pub reading-begins : (inputs : Inputs) (modelled : Option (List StoredFile)) (name : List ℕ) (left : Option (List ℕ)) (come : ℕ) (read : ReadSoFar) (u : Unit {0}) → HasRead inputs.scenario inputs.book [] read
    → Begins modelled name transcript_limit (Ok u) left → come ≡ 0 → IsReading inputs modelled name left come read
reading-begins inputs modelled name left come read u empty begun none =
    record { bytes = []; has_read = empty; handed = begun-none modelled name transcript_limit u left begun; so_many = none }

-- Each piece is read.
pub reading-goes-on : (inputs : Inputs) (modelled : Option (List StoredFile)) (name : List ℕ) (left after : Option (List ℕ)) (come now : ℕ) (piece : List ℕ) (read more : ReadSoFar) (u : Unit {0}) → IsReading inputs modelled name left come read
    → GivesPiece left after (Ok u) piece → now ≡ come + length piece
    → ((bytes : List ℕ) → HasRead inputs.scenario inputs.book bytes read → HasRead inputs.scenario inputs.book (bytes ++ piece) more)
    → IsReading inputs modelled name after now more
reading-goes-on inputs modelled name left after come now piece read more u r hands counts feeds = record {
  bytes = r.bytes ++ piece;
  has_read = feeds r.bytes r.has_read;
  handed = handed-more modelled name r.bytes piece left after u r.handed hands;
  so_many = counts ∙ ap (λ n. n + length piece) r.so_many ∙ sym (length-append r.bytes piece);
}

-- A piece without bytes ends the file.
pub reading-ends : (inputs : Inputs) (modelled : Option (List StoredFile)) (name : List ℕ) (left after : Option (List ℕ)) (come now most : ℕ) (piece : List ℕ) (read : ReadSoFar) (u : Unit {0}) (steady : Bool) (before faults : ℕ) → IsReading inputs modelled name left come read
    → GivesPiece left after (Ok u) piece → length piece ≡ 0 → now ≡ come + length piece → now ≤ most → most ≡ transcript_limit
    → IsTextRead inputs modelled steady before faults now name (Ok read)
reading-ends inputs modelled name left after come now most piece read u steady before faults r hands none counts within limit =
    let all = handed-all modelled name r.bytes piece left after u r.handed hands none in
    (r.bytes, r.has_read, omega (arith, r.so_many, none, counts), λ files at. (subst (λ o. GaveAll o name r.bytes) at all, omega (arith, r.so_many, none, counts, within, limit)))

-- ---- a file that is not read to its end

is-absent : (held : Option (List ℕ)) → ((bytes : List ℕ) → held ≡ Some bytes → ⊥) → held ≡ None
is-absent None h = refl
is-absent (Some bytes) h = absurd (h bytes refl)

is-long : (held : Option (List ℕ)) (limit : ℕ) (left : Option (List ℕ)) → BeginsFile held limit (Err TooLong) left → (bytes : List ℕ) × (held ≡ Some bytes) × (limit < length bytes)
is-long None limit left h = absurd h
is-long (Some bytes) limit left h = (bytes, refl, h)

abbrev failing : LoadErr → Result (Unit {0}) LoadErr
failing why = Err why

-- The file is not opened.
pub begin-fails : (inputs : Inputs) (modelled : Option (List StoredFile)) (name : List ℕ) (left : Option (List ℕ)) (steady : Bool) (before now come : ℕ) (why : LoadErr) → Begins modelled name transcript_limit (Err why) left
    → (failing why ≡ Err Failed → HasRisen before now)
    → ((files : List StoredFile) (bytes : List ℕ) → steady ≡ true → modelled ≡ Some files → bytes_of files name ≡ Some bytes → failing why ≢ Err Failed)
    → IsTextRead inputs modelled steady before now come name (Err why)
begin-fails inputs modelled name left steady before now come Failed begun rises steady_never_fails =
    (rises refl, λ files at still. is-absent (bytes_of files name) (λ bytes is. steady_never_fails files bytes still at is refl))
begin-fails inputs modelled name left steady before now come TooLong begun rises steady_never_fails =
    λ files at. is-long (bytes_of files name) transcript_limit left (subst (λ o. Begins o name transcript_limit (Err TooLong) left) at begun)
begin-fails inputs modelled name left steady before now come NoLoad begun rises steady_never_fails = tt

never-long : (files : List StoredFile) (name done : List ℕ) (left after : Option (List ℕ)) (piece : List ℕ) → GaveSoFar (Some files) name done left → GivesPiece left after (Err TooLong) piece → ⊥
never-long files name done left after piece so_far hands = subst (λ o. GivesPiece o after (Err TooLong) piece) so_far.1 hands

-- A piece of the file is not returned.
pub reading-fails : (inputs : Inputs) (modelled : Option (List StoredFile)) (name : List ℕ) (left after : Option (List ℕ)) (come : ℕ) (piece : List ℕ) (read : ReadSoFar) (steady still : Bool) (before middle now at_end : ℕ) (why : LoadErr) → IsReading inputs modelled name left come read
    → GivesPiece left after (Err why) piece → before ≤ middle → (failing why ≡ Err Failed → HasRisen middle now)
    → still ≡ steady → (still ≡ true → failing why ≢ Err Failed)
    → IsTextRead inputs modelled steady before now at_end name (Err why)
reading-fails inputs modelled name left after come piece read steady still before middle now at_end Failed r hands kept rises same steady_never_fails =
    (rises-before before middle now kept (rises refl), λ files at is. absurd (steady_never_fails (same ∙ is) refl))
reading-fails inputs modelled name left after come piece read steady still before middle now at_end TooLong r hands kept rises same steady_never_fails =
    λ files at. absurd (never-long files name r.bytes left after piece (subst (λ o. GaveSoFar o name r.bytes left) at r.handed) hands)
reading-fails inputs modelled name left after come piece read steady still before middle now at_end NoLoad r hands kept rises same steady_never_fails = tt

-- ---- for any folder

no-bytes : (bytes : List ℕ) → length bytes ≡ 0 → bytes ≡ []
no-bytes [] e = refl
no-bytes (c ∷ bytes) e = absurd (omega (arith, e))

nothing-taken : (n : ℕ) (left : List ℕ) → take (suc n) left ≡ [] → left ≡ []
nothing-taken n [] e = refl
nothing-taken n (c ∷ left) e = cc

-- After a piece without bytes the file has ended.
pub has-ended : (left after : Option (List ℕ)) (piece : List ℕ) (u : Unit {0}) → GivesPiece left after (Ok u) piece → length piece ≡ 0 → after ≡ Some []
has-ended None after piece u hands none = hands.0 (no-bytes piece none)
has-ended (Some left) after piece u hands none =
    let empty : left ≡ [] = nothing-taken 65535 left (sym hands.0 ∙ no-bytes piece none) in
    hands.1 ∙ ap (λ (bytes : List ℕ). Some (drop piece_size bytes)) empty
