-- What a delivery leaves, from the results of its steps.
use Rattle.std.proofs.Common.{◌≡◌, ◌≢◌, ◌<◌, ◌≤◌, ◌∙◌, ℕ, true, inl, inr, List, [], ◌∷◌, ◌++◌, length, map, take, refl, sym, ap, subst, arith, Option, Some, None}
use Rattle.std.specs.Prelude.{Contains, Ok, Err, MatchOption, slice_get, suc, zero}
use Rattle.std.proofs.lemmas.Bool.{true≢false}
use Rattle.std.proofs.lemmas.List.Elements.{All-cons, All-head, All-nil, All-tail}
use Rattle.pack_defs.proofs.Members.{Contains-here, Contains-there}
use Rattle.outside_io.specs.Faults.{HasRisen}
use Rattle.outside_io.specs.StoreAll.{AreAllStored as AllStoredBy, FailsOne, StopsAt, StoresOne, stored_file}
use Rattle.outside_io.specs.Models.{FolderModel, SinkModel}
use Rattle.outside_io.specs.declared.folder.NewFile.{NewFile}
use Rattle.outside_io.specs.Files.{OthersUnchanged, Puts, StoredFile, bytes_of}
use Rattle.outside_io.specs.Loads.{Stores, Writes}
use Rattle.outside_io.specs.declared.folder.StoreErr.{StoreErr}
use Rattle.outside_io.specs.declared.folder.StoreErr.TheVariants.{Failed, NoMemory}
use Rattle.commands.specs.Delivery.{AreAllStored, AreStored, AreStoredUpTo, Delivers, ExplainsStore, IsNotStored, IsOther, IsPrinted, IsStored, NamedText, StopsAtOne, named_text, names_of}
use Rattle.commands.specs.Delivery.IsNotStored.{Unwritten, OutOfRoom as NoRoom}
use Rattle.commands.specs.Delivery.IsPrinted.{Written, CutShort}
use Rattle.commands.specs.Outside.{Outside, IsLinePrinted, outside}
use Rattle.commands.specs.Messages.{memory_line, unwritten_line}
use Rattle.commands.specs.Faults.{AreFaultsCounted}
use Rattle.commands.proofs.MessageLemmas.{rises-before}
use Rattle.commands.proofs.Statuses.{off, one-of}

-- Whether the texts have different names.
abbrev pub AreApart : List NamedText → Type 0
AreApart [] = Unit {0}
AreApart (x ∷ xs) = IsOther (names_of xs) x.name × AreApart xs

-- Whether each text was stored, if the folder is modelled.
abbrev pub LeavesAll : List NamedText → Outside → Outside → Type 0
LeavesAll xs before after = (files : List StoredFile) → before.files ≡ Some files → AreApart xs → MatchOption after.files ⊥ (λ new. AreStored files new xs)

-- The texts up to this one, which was not stored.
pub record IsPart (files : List StoredFile) (xs : List NamedText) (x : NamedText) (after : Outside) : Type 0 where
  pub new : List StoredFile
  pub now_modelled : after.files ≡ Some new
  pub part : AreStoredUpTo files new xs
  pub failed : part.failed ≡ x

abbrev pub LeavesPart : List NamedText → NamedText → Outside → Outside → Type 0
LeavesPart xs x before after = (files : List StoredFile) → before.files ≡ Some files → AreApart xs → IsPart files xs x after

-- How a delivery ends: all is done; the summary fails; a store fails; or memory runs out at a store.
pub data Ended (xs : List NamedText) (summary : List ℕ) (done : ℕ) (before after : Outside) (status : ℕ) : Type 0 where
  Both : status ≡ done → LeavesAll xs before after → Writes before.held after.held summary (Ok tt) → Ended xs summary done before after status
  NotSaid : status ≡ 4 → LeavesAll xs before after → HasRisen before.sink_faults after.sink_faults → before.sure < length summary →
      IsLinePrinted before after summary → Ended xs summary done before after status
  NotStored : (x : NamedText) → Contains xs x → status ≡ 4 → LeavesPart xs x before after → HasRisen before.faults after.faults → before.steady ≢ true →
      IsLinePrinted before after (unwritten_line x.name) → Ended xs summary done before after status
  OutOfRoom : (x : NamedText) → status ≡ 8 → LeavesPart xs x before after → IsLinePrinted before after memory_line →
      Ended xs summary done before after status

-- ---- one store

told-store : (now : Option (List StoredFile)) (files : List StoredFile) (name text : List ℕ) → Stores (Some files) now name text (Ok tt) → (new : List StoredFile) × (now ≡ Some new) × Puts files new name text
told-store None files name text h = absurd h
told-store (Some new) files name text h = (new, refl, h)

failed-store : (now : Option (List StoredFile)) (files : List StoredFile) (name text : List ℕ) (e : StoreErr) → Stores (Some files) now name text (Err e) → (new : List StoredFile) × (now ≡ Some new) × OthersUnchanged files new name
failed-store None files name text e h = absurd h
failed-store (Some new) files name text e h = (new, refl, h)

pub for-told : (o : Option (List StoredFile)) (P Q : List StoredFile → Type 0) → ((new : List StoredFile) → P new → Q new) → MatchOption o ⊥ P → MatchOption o ⊥ Q
for-told None P Q f h = h
for-told (Some new) P Q f h = f new h

-- ---- one text before the others

stored-more : (files mid new : List StoredFile) (x : NamedText) (xs : List NamedText) → Puts files mid x.name x.text → IsOther (names_of xs) x.name → AreStored mid new xs → AreStored files new (x ∷ xs)
stored-more files mid new x xs puts apart st = record {
  hold = All-cons (λ y. bytes_of new y.name ≡ Some y.text) x xs (st.others x.name apart ∙ puts.holds) st.hold;
  others = λ other k. st.others other (All-tail (λ name. other ≢ name) x.name (names_of xs) k) ∙ puts.others other (All-head (λ name. other ≢ name) x.name (names_of xs) k);
}

-- The names up to a text are among the names of all.
names-up-to : (stored : List NamedText) (failed : NamedText) (left : List NamedText) (other : List ℕ) → IsOther (names_of (stored ++ failed ∷ left)) other → IsOther (names_of stored ++ failed.name ∷ []) other
names-up-to [] failed left other k =
    All-cons (λ name. other ≢ name) failed.name [] (All-head (λ name. other ≢ name) failed.name (names_of left) k) (All-nil (λ name. other ≢ name))
names-up-to (y ∷ ys) failed left other k =
    All-cons (λ name. other ≢ name) y.name (names_of ys ++ failed.name ∷ []) (All-head (λ name. other ≢ name) y.name (names_of (ys ++ failed ∷ left)) k)
    (names-up-to ys failed left other (All-tail (λ name. other ≢ name) y.name (names_of (ys ++ failed ∷ left)) k))

pub others-up-to : (old new : List StoredFile) (xs : List NamedText) (u : AreStoredUpTo old new xs) (other : List ℕ) → IsOther (names_of xs) other → bytes_of new other ≡ bytes_of old other
others-up-to old new xs u other k =
    u.others other (names-up-to u.stored u.failed u.left other (subst (λ zs. IsOther (names_of zs) other) (sym u.parts) k))

part-more : (files mid : List StoredFile) (after : Outside) (x y : NamedText) (xs : List NamedText) → Puts files mid x.name x.text → IsOther (names_of xs) x.name → IsPart mid xs y after → IsPart files (x ∷ xs) y after
part-more files mid after x y xs puts apart p = record {
  new = p.new;
  now_modelled = p.now_modelled;
  part = record {
    stored = x ∷ p.part.stored;
    failed = p.part.failed;
    left = p.part.left;
    parts = ap (λ zs. x ∷ zs) p.part.parts;
    hold = All-cons (λ z. bytes_of p.new z.name ≡ Some z.text) x p.part.stored (others-up-to mid p.new xs p.part x.name apart ∙ puts.holds) p.part.hold;
    others = λ other k.
        let rest = names_of p.part.stored ++ p.part.failed.name ∷ [] in
        p.part.others other (All-tail (λ name. other ≢ name) x.name rest k) ∙ puts.others other (All-head (λ name. other ≢ name) x.name rest k);
  };
  failed = p.failed;
}

pub all-more : (x : NamedText) (xs : List NamedText) (before next after : Outside) → IsStored x before next → LeavesAll xs next after → LeavesAll (x ∷ xs) before after
all-more x xs before next after s rest = λ files modelled apart.
    let (mid, between, puts) = told-store next.files files x.name x.text (subst (λ z. Stores z next.files x.name x.text (Ok tt)) modelled s.stores) in
    for-told after.files (λ new. AreStored mid new xs) (λ new. AreStored files new (x ∷ xs)) (λ new st. stored-more files mid new x xs puts apart.0 st) (rest mid between apart.1)

pub up-more : (x y : NamedText) (xs : List NamedText) (before next after : Outside) → IsStored x before next → LeavesPart xs y next after → LeavesPart (x ∷ xs) y before after
up-more x y xs before next after s rest = λ files modelled apart.
    let (mid, between, puts) = told-store next.files files x.name x.text (subst (λ z. Stores z next.files x.name x.text (Ok tt)) modelled s.stores) in
    part-more files mid after x y xs puts apart.0 (rest mid between apart.1)

-- The first text was not stored.
pub part-here : (x : NamedText) (xs : List NamedText) (e : StoreErr) (before after : Outside) → Stores before.files after.files x.name x.text (Err e) → LeavesPart (x ∷ xs) x before after
part-here x xs e before after stores = λ files modelled apart.
    let (new, now, others) = failed-store after.files files x.name x.text e (subst (λ z. Stores z after.files x.name x.text (Err e)) modelled stores) in
    record {
      new = new;
      now_modelled = now;
      part = record {
        stored = [];
        failed = x;
        left = xs;
        parts = refl;
        hold = All-nil (λ z. bytes_of new z.name ≡ Some z.text);
        others = λ other k. others other (All-head (λ name. other ≢ name) x.name [] k);
      };
      failed = refl;
    }

-- No text is left to store.
pub all-none : (before after : Outside) → after.files ≡ before.files → LeavesAll [] before after
all-none before after same = λ files modelled apart.
    let here : after.files ≡ Some files = same ∙ modelled in
    subst (λ o. MatchOption o ⊥ (λ new. AreStored files new [])) (sym here) (record { hold = All-nil (λ x. bytes_of files x.name ≡ Some x.text); others = λ other k. refl })

-- ---- the complete delivery

one-more : (x : NamedText) (xs : List NamedText) (summary : List ℕ) (done : ℕ) (before next after : Outside) (status : ℕ) → IsStored x before next → Ended xs summary done next after status → Ended (x ∷ xs) summary done before after status
one-more x xs summary done before next after status s (Both is all writes) =
    Both is (all-more x xs before next after s all) (subst (λ z. Writes z after.held summary (Ok tt)) s.held writes)
one-more x xs summary done before next after status s (NotSaid four all rises less said) =
    NotSaid four (all-more x xs before next after s all) (subst (λ z. HasRisen z after.sink_faults) s.sink_faults rises) (subst (λ z. z < length summary) s.sure less) (rw (s.held, s.sink_faults) at said)
one-more x xs summary done before next after status s (NotStored y among four part rises unsteady said) =
    NotStored y (Contains-there x y xs among) four (up-more x y xs before next after s part) (rises-before before.faults next.faults after.faults s.faults rises) (λ steady. unsteady (s.steady ∙ steady)) (rw (s.held, s.sink_faults) at said)
one-more x xs summary done before next after status s (OutOfRoom y eight part said) =
    OutOfRoom y eight (up-more x y xs before next after s part) (rw (s.held, s.sink_faults) at said)

pub ended-of : (xs : List NamedText) (summary : List ℕ) (done : ℕ) (before after : Outside) (status : ℕ) → Delivers xs summary done before after status → Ended xs summary done before after status
ended-of [] summary done before after status (Written is same writes) = Both is (all-none before after same) writes
ended-of [] summary done before after status (CutShort four same rises less said) = NotSaid four (all-none before after same) rises less said
ended-of (x ∷ xs) summary done before after status (inl d) = one-more x xs summary done before d.0 after status d.1 (ended-of xs summary done d.0 after status d.2)
ended-of (x ∷ xs) summary done before after status (inr (Unwritten four stores rises unsteady said)) = NotStored x (Contains-here x xs) four (part-here x xs Failed before after stores) rises unsteady said
ended-of (x ∷ xs) summary done before after status (inr (NoRoom eight stores said)) = OutOfRoom x eight (part-here x xs NoMemory before after stores) said

-- ---- a delivery in two steps

-- All texts were stored, and then the summary was printed.
pub delivers-all : (xs : List NamedText) (summary : List ℕ) (done : ℕ) (before between after : Outside) (status : ℕ) → AreAllStored xs before between → IsPrinted summary done between after status → Delivers xs summary done before after status
delivers-all [] summary done before between after status same p = subst (λ (o : Outside). IsPrinted summary done o after status) same p
delivers-all (x ∷ xs) summary done before between after status all p = inl (all.0, all.1, delivers-all xs summary done all.0 between after status all.2 p)

-- A text was not stored.
pub delivers-some : (xs : List NamedText) (summary : List ℕ) (done : ℕ) (before after : Outside) (status : ℕ) → StopsAtOne xs before after status → Delivers xs summary done before after status
delivers-some [] summary done before after status stops = absurd stops
delivers-some (x ∷ xs) summary done before after status (inl s) = inl (s.0, s.1, delivers-some xs summary done s.0 after status s.2)
delivers-some (x ∷ xs) summary done before after status (inr n) = inr n

-- ---- the folder's contract for several texts

-- A text that the folder stored.
stored-one : (x : NewFile) (old new : FolderModel) (sink : SinkModel) → StoresOne (stored_file x) old new → IsStored (named_text x) (outside old sink) (outside new sink)
stored-one x old new sink one = let same = one.faults in record { stores = one.stores; faults = omega arith; steady = one.steady; held = refl; sink_faults = refl; sure = refl }

-- All of them.
pub all-stored : (files : List NewFile) (old new : FolderModel) (sink : SinkModel) → AllStoredBy (map stored_file files) old new → AreAllStored (map named_text files) (outside old sink) (outside new sink)
all-stored [] old new sink same = ap (λ (f : FolderModel). outside f sink) same
all-stored (x ∷ xs) old new sink all = (outside all.0 sink, stored-one x old all.0 sink all.1, all-stored xs all.0 new sink all.2)

-- The first text that the folder did not store, and the line for it.
not-stored-one : (x : NewFile) (why : StoreErr) (old new : FolderModel) (sink said : SinkModel) (status : ℕ) → FailsOne (stored_file x) why old new → ExplainsStore x.name.now why sink.held said.held sink.faults said.faults status
    → IsNotStored (named_text x) (outside old sink) (outside new said) status
not-stored-one x Failed old new sink said status f e = Unwritten e.0 f.stores (f.failed refl) (λ steady. f.steady_never_fails steady refl) e.1
not-stored-one x NoMemory old new sink said status f e = NoRoom e.0 f.stores e.1

stops-there : (files : List NewFile) (place : ℕ) (why : StoreErr) (old between new : FolderModel) (sink said : SinkModel) (status : ℕ) (x : StoredFile) → slice_get (map stored_file files) place ≡ Some x → AllStoredBy (take place (map stored_file files)) old between
    → FailsOne x why between new → ((y : NewFile) → slice_get files place ≡ Some y → ExplainsStore y.name.now why sink.held said.held sink.faults said.faults status)
    → StopsAtOne (map named_text files) (outside old sink) (outside new said) status
stops-there [] place why old between new sink said status x there all fails explains = cc there
stops-there (y ∷ ys) zero why old between new sink said status x there all fails explains =
    inr (not-stored-one y why old new sink said status (subst (λ (f : FolderModel). FailsOne (stored_file y) why f new) all (subst (λ (z : StoredFile). FailsOne z why between new) (sym (some-is there)) fails)) (explains y refl))
  where
    some-is : {a b : StoredFile} → Some a ≡ Some b → a ≡ b
    some-is e = cc e
stops-there (y ∷ ys) (suc n) why old between new sink said status x there all fails explains =
    inl (outside all.0 sink, stored-one y old all.0 sink all.1, stops-there ys n why all.0 between new sink said status x there all.2 fails explains)

pub stops-stored : (files : List NewFile) (place : ℕ) (why : StoreErr) (old new : FolderModel) (sink said : SinkModel) (status : ℕ) → StopsAt (map stored_file files) place why old new
    → ((y : NewFile) → slice_get files place ≡ Some y → ExplainsStore y.name.now why sink.held said.held sink.faults said.faults status)
    → StopsAtOne (map named_text files) (outside old sink) (outside new said) status
stops-stored files place why old new sink said status s explains = stops-there files place why old s.between new sink said status s.file s.there s.before s.fails explains

-- A successful store does not change the fault count.
pub all-uncounted : (xs : List StoredFile) (old new : FolderModel) → AllStoredBy xs old new → new.faults ≡ old.faults
all-uncounted [] old new same = ap (λ (f : FolderModel). f.faults) same
all-uncounted (x ∷ xs) old new all = all-uncounted xs all.0 new all.2 ∙ all.1.faults

pub stops-counted : (xs : List StoredFile) (place : ℕ) (why : StoreErr) (old new : FolderModel) (sink said : SinkModel) (status : ℕ) (name : List ℕ) → StopsAt xs place why old new → ExplainsStore name why sink.held said.held sink.faults said.faults status
    → AreFaultsCounted (outside old sink) (outside new said) status
stops-counted xs place Failed old new sink said status name s e = record {
  folder = λ h. absurd (true≢false (sym (one-of (3 ∷ 4 ∷ []) status 4 e.0 refl) ∙ h));
  sink = λ h. absurd (off (0 ∷ 1 ∷ 11 ∷ []) status 4 h e.0 refl);
}
stops-counted xs place NoMemory old new sink said status name s e = record {
  folder = λ h. s.fails.faults_unchanged (λ x. cc x) ∙ all-uncounted (take place xs) old s.between s.before;
  sink = λ h. absurd (off (0 ∷ 1 ∷ 11 ∷ []) status 8 h e.0 refl);
}

-- ---- a delivery, seen from before the reading

-- Whether only a fault count differs, and did not fall.
pub record IsSince (before between : Outside) : Type 0 where
  pub files : between.files ≡ before.files
  pub faults : before.faults ≤ between.faults
  pub steady : between.steady ≡ before.steady
  pub held : between.held ≡ before.held
  pub sink_faults : between.sink_faults ≡ before.sink_faults
  pub sure : between.sure ≡ before.sure

pub printed-since : (text : List ℕ) (done : ℕ) (before between after : Outside) (status : ℕ) → IsSince before between → IsPrinted text done between after status → IsPrinted text done before after status
printed-since text done before between after status s (Written is same writes) =
    Written is (same ∙ s.files) (subst (λ z. Writes z after.held text (Ok tt)) s.held writes)
printed-since text done before between after status s (CutShort four same rises less said) =
    CutShort four (same ∙ s.files) (subst (λ z. HasRisen z after.sink_faults) s.sink_faults rises) (subst (λ z. z < length text) s.sure less) (rw (s.held, s.sink_faults) at said)

stored-since : (x : NamedText) (before between next : Outside) → IsSince before between → IsStored x between next → IsStored x before next
stored-since x before between next s h = let kept = s.faults in let more = h.faults in record {
  stores = subst (λ z. Stores z next.files x.name x.text (Ok tt)) s.files h.stores;
  faults = omega arith;
  steady = h.steady ∙ s.steady;
  held = h.held ∙ s.held;
  sink_faults = h.sink_faults ∙ s.sink_faults;
  sure = h.sure ∙ s.sure;
}

not-stored-since : (x : NamedText) (before between after : Outside) (status : ℕ) → IsSince before between → IsNotStored x between after status → IsNotStored x before after status
not-stored-since x before between after status s (Unwritten four stores rises unsteady said) =
    Unwritten four (subst (λ z. Stores z after.files x.name x.text (Err Failed)) s.files stores) (rises-before before.faults between.faults after.faults s.faults rises) (λ steady. unsteady (s.steady ∙ steady)) (rw (s.held, s.sink_faults) at said)
not-stored-since x before between after status s (NoRoom eight stores said) =
    NoRoom eight (subst (λ z. Stores z after.files x.name x.text (Err NoMemory)) s.files stores) (rw (s.held, s.sink_faults) at said)

pub delivers-since : (xs : List NamedText) (summary : List ℕ) (done : ℕ) (before between after : Outside) (status : ℕ) → Delivers xs summary done between after status → IsSince before between → Delivers xs summary done before after status
delivers-since [] summary done before between after status d s = printed-since summary done before between after status s d
delivers-since (x ∷ xs) summary done before between after status (inl d) s = inl (d.0, stored-since x before between d.0 s d.1, d.2)
delivers-since (x ∷ xs) summary done before between after status (inr n) s = inr (not-stored-since x before between after status s n)
