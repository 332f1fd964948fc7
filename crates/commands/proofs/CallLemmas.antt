-- The calls of a folder that keeps a diary: from the calls of the parts to those of the whole.
use Rattle.std.proofs.Common.{◌≡◌, ◌≢◌, ◌⊎◌, ◌∙◌, ℕ, inl, inr, List, [], ◌∷◌, ◌++◌, map, take, Option, Some, None, refl, sym, ap, subst}
use Rattle.std.specs.Prelude.{Ok, Err, IsSome, IsTrue}
use Rattle.std.specs.Option.{option_map_or}
use Rattle.std.proofs.lemmas.List.Elements.{All-cons, All-head, All-nil, All-tail}
use Rattle.pack_defs.specs.Lists.{is_in}
use Rattle.auction_core.specs.declared.record.Record.{Record}
use Rattle.outside_io.specs.Diary.{Adds, AddsPiece, FolderCall, load_call, store_call, with_call}
use Rattle.outside_io.specs.Files.{StoredFile}
use Rattle.outside_io.specs.Models.{FolderModel}
use Rattle.outside_io.specs.StoreAll.{AreAllStored, StopsAt, stored_file}
use Rattle.outside_io.specs.declared.folder.NewFile.{NewFile}
use Rattle.outside_io.specs.declared.diary.CallKind.{CallKind}
use Rattle.outside_io.specs.declared.diary.CallKind.TheVariants.{Begin, Store}
use Rattle.outside_io.specs.declared.diary.CallEnd.{CallEnd}
use Rattle.outside_io.specs.declared.diary.CallEnd.TheVariants.{Done, Failed, TooLong, NoMemory as OutOfMemory}
use Rattle.outside_io.specs.declared.folder.LoadErr.{LoadErr}
use Rattle.outside_io.specs.declared.folder.LoadErr.TheVariants.{Failed as LoadFailed, TooLong as LongFile, NoMemory as NoLoad}
use Rattle.outside_io.specs.declared.folder.StoreErr.{StoreErr}
use Rattle.command_words.specs.declared.run_words.Input.{Input}
use Rattle.command_words.specs.Words.{InputNames, name_of}
use Rattle.commands.specs.declared.inputs.input_file.Stop.{Stop}
use Rattle.commands.specs.declared.inputs.input_file.Stop.TheVariants.{CannotRead, Refused, NoMemory}
use Rattle.commands.specs.Calls.{AreStores, CallsAll, CallsOne, CallsPieces, ConcludesCalls, Diary, HasAsked, IsPartRead, IsReadUpTo, IsUnread, KeepsRunDiary, after_calls, loaded_as, owner_calls, piece_as}
use Rattle.commands.specs.Calls.IsUnread.{CallFailed, PieceFailed}
use Rattle.commands.specs.Calls.IsPartRead.{NotAsked, Asked, PieceLost}
use Rattle.commands.specs.Calls.ConcludesCalls.{NoStore, Stores}
use Rattle.commands.specs.Calls.RunCalls.{Unread, Stopped, AllRead}
use Rattle.commands.specs.Ends.{ExplainsHalt}
use Rattle.commands.specs.Inputs.{IsBookOf, refused_by, stop_of}
use Rattle.commands.specs.declared.inputs.sources.Sources.{Sources}
use Rattle.constraint_files.specs.declared.error.ReadErr.{ReadErr}
use Rattle.constraint_files.specs.declared.error.ReadErr.TheVariants.{Row as RefusedRow, NoMemory as NoRoom}
use Rattle.command_words.specs.declared.run_words.Input.TheVariants.{Owners as OwnersFile}
use Rattle.commands.specs.Outside.{Outside}
use Rattle.commands.proofs.Statuses.{off, one-of, within}

-- ---- what is kept at the end was kept before

-- if a diary with one more call is kept, the diary before it was
pub kept-before : (x : FolderCall) (old new : Diary) → new ≡ with_call x old → IsSome new → IsSome old
kept-before x None new e h = subst (λ (d : Diary). IsSome d) e h
kept-before x (Some calls) new e h = refl

same-kept : (old new : Diary) → new ≡ old → IsSome new → IsSome old
same-kept old new e h = subst (λ (d : Diary). IsSome d) e h

kept-unread : (x : FolderCall) (old new : Diary) → IsUnread x old new → IsSome new → IsSome old
kept-unread x old new (CallFailed e) h = kept-before _ old new e h
kept-unread x old new (PieceFailed kind e) h = kept-before x old (with_call x old) refl (kept-before _ (with_call x old) new e h)

kept-part : (x : FolderCall) (old new : Diary) → IsPartRead x old new → IsSome new → IsSome old
kept-part x old new (NotAsked e) h = same-kept old new e h
kept-part x old new (Asked end e) h = kept-before _ old new e h
kept-part x old new (PieceLost end kind e) h = kept-before x old (with_call x old) refl (kept-before _ (with_call x old) new e h)

kept-upto : (xs : List FolderCall) (name : Option (List ℕ)) (old new : Diary) → IsReadUpTo xs name old new → IsSome new → IsSome old
kept-upto [] None old new e h = same-kept old new e h
kept-upto [] (Some name) old new e h = absurd e
kept-upto (x ∷ xs) None old new (inl part) h = kept-part x old new part h
kept-upto (x ∷ xs) None old new (inr more) h = kept-before x old (with_call x old) refl (kept-upto xs None (with_call x old) new more h)
kept-upto (x ∷ xs) (Some name) old new (inl part) h = kept-unread x old new part.1 h
kept-upto (x ∷ xs) (Some name) old new (inr more) h = kept-before x old (with_call x old) refl (kept-upto xs (Some name) (with_call x old) new more h)

pub kept-after : (xs : List FolderCall) (old : Diary) → IsSome (after_calls xs old) → IsSome old
kept-after [] old h = h
kept-after (x ∷ xs) old h = kept-before x old (with_call x old) refl (kept-after xs (with_call x old) h)

-- a reading did not stop at a file that cannot be read
abbrev pub IsRefusal : Stop → Type 0
IsRefusal (CannotRead i) = ⊥
IsRefusal (Refused why) = Unit {0}
IsRefusal NoMemory = Unit {0}

-- ---- one file

-- a load or a `begin` that stops
pub load-stops : (kind : CallKind) (name : List ℕ) (input : Input) (why : LoadErr) (old new : Diary) → Adds (load_call kind name (Err why)) old new
    → CallsOne (record { kind = kind; name = name; end = Done }) input old new (Some (stop_of why input))
load-stops kind name input LoadFailed old new h = (refl, λ kept. CallFailed (h kept))
load-stops kind name input LongFile old new h = λ kept. Asked TooLong (h kept)
load-stops kind name input NoLoad old new h = λ kept. Asked OutOfMemory (h kept)

-- a piece that stops
pub piece-stops : (input : Input) (why : LoadErr) (old new : Diary) → AddsPiece (Err why) old new → CallsPieces input old new (Some (stop_of why input))
piece-stops input LoadFailed old new h = (refl, h)
piece-stops input LongFile old new h = λ kept. inr (TooLong, h kept)
piece-stops input NoLoad old new h = λ kept. inr (OutOfMemory, h kept)

-- a file that was begun, and whose pieces stop
lost : (x : FolderCall) (old mid new : Diary) → x.kind ≡ Begin → (IsSome mid → mid ≡ with_call x old) → (new ≡ mid) ⊎ ((end : CallEnd) × (new ≡ with_call (piece_as end) mid)) → IsSome new → IsPartRead x old new
lost x old mid new kind begun (inl e) kept = Asked x.end (e ∙ begun (same-kept mid new e kept))
lost x old mid new kind begun (inr p) kept = PieceLost p.0 kind (p.1 ∙ ap (with_call (piece_as p.0)) (begun (kept-before _ mid new p.1 kept)))

pieces-since : (old mid new : Diary) → mid ≡ old → (new ≡ mid) ⊎ ((end : CallEnd) × (new ≡ with_call (piece_as end) mid)) → (new ≡ old) ⊎ ((end : CallEnd) × (new ≡ with_call (piece_as end) old))
pieces-since old mid new same (inl e) = inl (e ∙ same)
pieces-since old mid new same (inr p) = inr (p.0, p.1 ∙ ap (with_call (piece_as p.0)) same)

pub pieces-stop : (x : FolderCall) (input : Input) (why : Stop) (old mid new : Diary) → x.kind ≡ Begin → (IsSome mid → mid ≡ with_call x old) → CallsPieces input mid new (Some why)
    → CallsOne x input old new (Some why)
pieces-stop x input (CannotRead i) old mid new kind begun h = (h.0, λ kept. PieceFailed kind (h.1 kept ∙ ap (with_call (piece_as Failed)) (begun (kept-before _ mid new (h.1 kept) kept))))
pieces-stop x input (Refused why) old mid new kind begun h = λ kept. lost x old mid new kind begun (h kept) kept
pieces-stop x input NoMemory old mid new kind begun h = λ kept. lost x old mid new kind begun (h kept) kept

-- the same since the file was begun
pub pieces-fail : (input : Input) (why : Stop) (old mid new : Diary) → mid ≡ old → CallsPieces input mid new (Some why) → CallsPieces input old new (Some why)
pieces-fail input (CannotRead i) old mid new same h = (h.0, λ kept. h.1 kept ∙ ap (with_call (piece_as Failed)) same)
pieces-fail input (Refused why) old mid new same h = λ kept. pieces-since old mid new same (h kept)
pieces-fail input NoMemory old mid new same h = λ kept. pieces-since old mid new same (h kept)

-- the reader rejects the pieces so far
pub rows-stop : (input : Input) (why : ReadErr) (old new : Diary) → new ≡ old → CallsPieces input old new (Some (refused_by input why))
rows-stop input (RefusedRow line why) old new same = λ kept. inl same
rows-stop input NoRoom old new same = λ kept. inl same

-- a file that was begun and read to its end
pub read-whole : (x : FolderCall) (old mid new : Diary) → (IsSome mid → mid ≡ with_call x old) → new ≡ mid → IsSome new → new ≡ with_call x old
read-whole x old mid new begun same kept = same ∙ begun (same-kept mid new same kept)

-- and the reader rejects it
pub rows-refused : (x : FolderCall) (input : Input) (why : ReadErr) (old new : Diary) → (IsSome new → new ≡ with_call x old) → CallsOne x input old new (Some (refused_by input why))
rows-refused x input (RefusedRow line why) old new h = λ kept. Asked x.end (h kept)
rows-refused x input NoRoom old new h = λ kept. Asked x.end (h kept)

-- a file that was read, and whose contents take too much memory
pub whole-part : (x : FolderCall) (old new : Diary) → (IsSome new → new ≡ with_call x old) → IsSome new → IsPartRead x old new
whole-part x old new h kept = Asked x.end (h kept)

-- ---- several files

-- the first of several files stopped the reading
pub first-stops : (names : InputNames) (x : FolderCall) (xs : List FolderCall) (input : Input) (why : Stop) (old new : Diary) → name_of names input ≡ x.name → CallsOne x input old new (Some why)
    → CallsAll names (x ∷ xs) old new (Some why)
first-stops names x xs input (CannotRead i) old new named h = λ kept. inl (ap (name_of names) h.0 ∙ named, h.1 kept)
first-stops names x xs input (Refused why) old new named h = λ kept. inl (h kept)
first-stops names x xs input NoMemory old new named h = λ kept. inl (h kept)

-- files that were read before others
upto-behind : (xs ys : List FolderCall) (name : Option (List ℕ)) (old new : Diary) → IsReadUpTo ys name (after_calls xs old) new → IsReadUpTo (xs ++ ys) name old new
upto-behind [] ys name old new h = h
upto-behind (x ∷ xs) ys None old new h = inr (upto-behind xs ys None (with_call x old) new h)
upto-behind (x ∷ xs) ys (Some name) old new h = inr (upto-behind xs ys (Some name) (with_call x old) new h)

pub after-both : (xs ys : List FolderCall) (old : Diary) → after_calls (xs ++ ys) old ≡ after_calls ys (after_calls xs old)
after-both [] ys old = refl
after-both (x ∷ xs) ys old = after-both xs ys (with_call x old)

pub all-behind : (names : InputNames) (xs ys : List FolderCall) (old mid new : Diary) (result : Option Stop) → (IsSome mid → mid ≡ after_calls xs old) → CallsAll names ys mid new result
    → CallsAll names (xs ++ ys) old new result
all-behind names xs ys old mid new None read h = λ kept.
    let whole = h kept in
    let was = kept-after ys mid (subst (λ (d : Diary). IsSome d) whole kept) in
    whole ∙ ap (after_calls ys) (read was) ∙ sym (after-both xs ys old)
all-behind names xs ys old mid new (Some (CannotRead i)) read h = λ kept.
    let stop = h kept in
    upto-behind xs ys (Some (name_of names i)) old new (subst (λ (d : Diary). IsReadUpTo ys (Some (name_of names i)) d new) (read (kept-upto ys (Some (name_of names i)) mid new stop kept)) stop)
all-behind names xs ys old mid new (Some (Refused why)) read h = λ kept.
    let stop = h kept in
    upto-behind xs ys None old new (subst (λ (d : Diary). IsReadUpTo ys None d new) (read (kept-upto ys None mid new stop kept)) stop)
all-behind names xs ys old mid new (Some NoMemory) read h = λ kept.
    let stop = h kept in
    upto-behind xs ys None old new (subst (λ (d : Diary). IsReadUpTo ys None d new) (read (kept-upto ys None mid new stop kept)) stop)

-- files that were to be read after those that stopped the reading
upto-more : (xs ys : List FolderCall) (name : Option (List ℕ)) (old new : Diary) → IsReadUpTo xs name old new → IsReadUpTo (xs ++ ys) name old new
upto-more [] [] None old new h = h
upto-more [] (y ∷ ys) None old new h = inl (NotAsked h)
upto-more [] ys (Some name) old new h = absurd h
upto-more (x ∷ xs) ys None old new (inl part) = inl part
upto-more (x ∷ xs) ys None old new (inr more) = inr (upto-more xs ys None (with_call x old) new more)
upto-more (x ∷ xs) ys (Some name) old new (inl part) = inl part
upto-more (x ∷ xs) ys (Some name) old new (inr more) = inr (upto-more xs ys (Some name) (with_call x old) new more)

pub stops-before : (names : InputNames) (xs ys : List FolderCall) (old new : Diary) (why : Stop) → CallsAll names xs old new (Some why) → CallsAll names (xs ++ ys) old new (Some why)
stops-before names xs ys old new (CannotRead i) h = λ kept. upto-more xs ys (Some (name_of names i)) old new (h kept)
stops-before names xs ys old new (Refused why) h = λ kept. upto-more xs ys None old new (h kept)
stops-before names xs ys old new NoMemory h = λ kept. upto-more xs ys None old new (h kept)

-- all were read, and what they hold stops it
upto-all : (xs : List FolderCall) (old : Diary) → IsReadUpTo xs None old (after_calls xs old)
upto-all [] old = refl
upto-all (x ∷ xs) old = inr (upto-all xs (with_call x old))

pub stops-behind : (names : InputNames) (xs : List FolderCall) (old new : Diary) (why : Stop) → IsRefusal why → (IsSome new → new ≡ after_calls xs old) → CallsAll names xs old new (Some why)
stops-behind names xs old new (CannotRead i) refusal h = absurd refusal
stops-behind names xs old new (Refused why) refusal h = λ kept. subst (λ (d : Diary). IsReadUpTo xs None old d) (sym (h kept)) (upto-all xs old)
stops-behind names xs old new NoMemory refusal h = λ kept. subst (λ (d : Diary). IsReadUpTo xs None old d) (sym (h kept)) (upto-all xs old)

-- a book that cannot be joined
pub book-refusal : (s : Sources) (why : Stop) → IsBookOf s (Err why) → IsRefusal why
book-refusal s (CannotRead i) h = h
book-refusal s (Refused why) h = tt
book-refusal s NoMemory h = tt

-- ---- the owners' file

pub owners-none : (names : InputNames) (old : Diary) → names.owners ≡ None → CallsAll names (owner_calls names.owners) old old None
owners-none names old e = subst (λ (o : Option (List ℕ)). CallsAll names (owner_calls o) old old None) (sym e) (λ kept. refl)

pub owners-stop : (names : InputNames) (name : List ℕ) (why : Stop) (old new : Diary) → names.owners ≡ Some name → CallsOne (loaded_as Done name) OwnersFile old new (Some why)
    → CallsAll names (owner_calls names.owners) old new (Some why)
owners-stop names name why old new e h =
    subst (λ (o : Option (List ℕ)). CallsAll names (owner_calls o) old new (Some why)) (sym e)
    (first-stops names (loaded_as Done name) [] OwnersFile why old new (ap (λ (o : Option (List ℕ)). option_map_or (λ n. n) o names.scenario) e) h)

pub owners-read : (names : InputNames) (name : List ℕ) (old new : Diary) → names.owners ≡ Some name → (IsSome new → new ≡ with_call (loaded_as Done name) old)
    → CallsAll names (owner_calls names.owners) old new None
owners-read names name old new e h = subst (λ (o : Option (List ℕ)). CallsAll names (owner_calls o) old new None) (sym e) h

-- ---- stores

-- stores and one more
and-one : (xs : List FolderCall) (x : FolderCall) → AreStores xs → x.kind ≡ Store → AreStores (xs ++ x ∷ [])
and-one [] x h e = All-cons (λ call. call.kind ≡ Store) x [] e h
and-one (y ∷ ys) x h e = All-cons (λ call. call.kind ≡ Store) y (ys ++ x ∷ []) (All-head (λ call. call.kind ≡ Store) y ys h) (and-one ys x (All-tail (λ call. call.kind ≡ Store) y ys h) e)

-- the calls that stored these texts
pub record Stored (old new : Diary) : Type 0 where
  pub calls : List FolderCall
  pub stores : AreStores calls
  pub made : new ≡ after_calls calls old

asked-all : (xs : List StoredFile) (old new : FolderModel) → AreAllStored xs old new → IsSome new.calls → Stored old.calls new.calls
asked-all [] old new same kept = record { calls = []; stores = All-nil (λ call. call.kind ≡ Store); made = ap (λ (m : FolderModel). m.calls) same }
asked-all (x ∷ xs) old new all kept =
    let one = all.1 in
    let more = asked-all xs all.0 new all.2 kept in
    let was = kept-after more.calls (all.0).calls (subst (λ (d : Diary). IsSome d) more.made kept) in
    record {
      calls = store_call x.name (Ok tt) ∷ more.calls;
      stores = All-cons (λ call. call.kind ≡ Store) (store_call x.name (Ok tt)) more.calls refl more.stores;
      made = more.made ∙ ap (after_calls more.calls) (one.called was);
    }

-- some text was stored
pub asked-texts : (files : List NewFile) (old new : FolderModel) → files ≢ [] → AreAllStored (map stored_file files) old new → IsSome new.calls → HasAsked old.calls new.calls
asked-texts [] old new some all kept = absurd (some refl)
asked-texts (x ∷ xs) old new some all kept =
    let one = all.1 in
    let more = asked-all (map stored_file xs) all.0 new all.2 kept in
    let was = kept-after more.calls (all.0).calls (subst (λ (d : Diary). IsSome d) more.made kept) in
    record {
      first = store_call x.name.now (Ok tt);
      later = more.calls;
      stores = All-cons (λ call. call.kind ≡ Store) (store_call x.name.now (Ok tt)) more.calls refl more.stores;
      made = more.made ∙ ap (after_calls more.calls) (one.called was);
    }

-- a text was not stored, after others
asked-then : (calls : List FolderCall) (x : FolderCall) (old mid new : Diary) → AreStores calls → x.kind ≡ Store → mid ≡ after_calls calls old → new ≡ with_call x mid → HasAsked old new
asked-then [] x old mid new stores kind made e = record { first = x; later = []; stores = and-one [] x stores kind; made = e ∙ ap (with_call x) made }
asked-then (y ∷ ys) x old mid new stores kind made e = record {
  first = y;
  later = ys ++ x ∷ [];
  stores = and-one (y ∷ ys) x stores kind;
  made = e ∙ ap (with_call x) made ∙ sym (after-both (y ∷ ys) (x ∷ []) old);
}

pub asked-stop : (xs : List StoredFile) (place : ℕ) (why : StoreErr) (old new : FolderModel) → StopsAt xs place why old new → IsSome new.calls → HasAsked old.calls new.calls
asked-stop xs place why old new s kept =
    let last = s.fails in
    let e = last.called kept in
    let was = kept-before (store_call s.file.name (Err why)) s.between.calls new.calls e kept in
    let before = asked-all (take place xs) old s.between s.before was in
    asked-then before.calls (store_call s.file.name (Err why)) old.calls s.between.calls new.calls before.stores refl before.made e

-- ---- a run

-- an input stopped it
pub run-stops : (names : InputNames) (calls : List FolderCall) (before after : Outside) (old new : Diary) (stop : Stop) (status : ℕ) (found : Option Record)
    → ExplainsHalt names stop before.held after.held before.sink_faults after.sink_faults status → found ≡ None → CallsAll names calls old new (Some stop) → KeepsRunDiary calls before after old new status found
run-stops names calls before after old new (CannotRead i) status found e none h = λ kept. Unread e.0 none (name_of names i) (h kept) e.1
run-stops names calls before after old new (Refused why) status found e none h = λ kept. Stopped (one-of (5 ∷ 8 ∷ []) status 5 e.0 refl) none (h kept)
run-stops names calls before after old new NoMemory status found e none h = λ kept. Stopped (one-of (5 ∷ 8 ∷ []) status 8 e.0 refl) none (h kept)

-- the inputs were read, and then the auction was concluded
pub run-goes-on : (calls : List FolderCall) (before after : Outside) (old mid new : Diary) (status : ℕ) (found : Option Record)
    → (IsSome mid → mid ≡ after_calls calls old) → (IsSome new → ConcludesCalls mid new status found) → KeepsRunDiary calls before after old new status found
run-goes-on calls before after old mid new status found read h = λ kept.
    let c = h kept in
    AllRead (subst (λ (d : Diary). ConcludesCalls d new status found) (read (was c kept)) c)
  where
    was : ConcludesCalls mid new status found → IsSome new → IsSome mid
    was (NoStore at none same) kept = same-kept mid new same kept
    was (Stores at asked) kept = kept-after (asked.first ∷ asked.later) mid (subst (λ (d : Diary). IsSome d) asked.made kept)

-- no auction follows the start
pub no-auction : (old : Diary) (status n : ℕ) (found : Option Record) → IsTrue (is_in (6 ∷ 7 ∷ []) n) → status ≡ n → ConcludesCalls old old status found
no-auction old status n found at is =
    NoStore (one-of (6 ∷ 7 ∷ 8 ∷ []) status n is (within (6 ∷ 7 ∷ []) (6 ∷ 7 ∷ 8 ∷ []) n refl at)) (λ eight. absurd (off (6 ∷ 7 ∷ []) n 8 at (sym is ∙ eight) refl)) refl

-- memory ran out before a store
pub starved-calls : (old : Diary) (status : ℕ) (found : Option Record) → status ≡ 8 → found ≡ None → ConcludesCalls old old status found
starved-calls old status found eight none = NoStore (one-of (6 ∷ 7 ∷ 8 ∷ []) status 8 eight refl) (λ e. none) refl
