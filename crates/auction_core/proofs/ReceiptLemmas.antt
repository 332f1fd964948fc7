-- Receipts that are checked one after another. For `receipts`.
use Rattle.std.proofs.Common.{◌≡◌, ◌<◌, ◌+◌, ◌==◌, ◌∷◌, ℕ, List, Bool, true, false, if◌then◌else◌, Option, Some, None, option_map, refl, sym, subst, ◌∙◌, length, drop, get_or}
use Rattle.std.proofs.lemmas.List.{drop_more, get_or_default}
use Rattle.pack_defs.specs.declared.worker.Worker.{Worker}
use Rattle.pack_defs.specs.Book.{BookView}
use Rattle.cert_types.specs.declared.task.Task.{Task}
use Rattle.cert_types.specs.declared.answer.Answer.TheVariants.{Spent}
use Rattle.cert_types.specs.declared.answer.Receipt.{Receipt}
use Rattle.cert_types.specs.declared.answer.Place.{Place}
use Rattle.cert_types.specs.Valid.{answer_fault}
use Rattle.auction_core.specs.LogNumbers.{clauses_in, first_of}
use Rattle.auction_core.specs.declared.prefix.ShownWhy.{ShownWhy}
use Rattle.auction_core.specs.declared.prefix.ShownWhy.TheVariants.{NotValid}
use Rattle.auction_core.specs.declared.step_err.StepErr.{StepErr}
use Rattle.auction_core.specs.declared.step_err.StepErr.TheVariants as step
use Rattle.auction_core.specs.Checked.{IsStepFault, numbered_fault}
use Rattle.auction_core.specs.NotShown.{or_first_line, first_place_or, each_fault}

numbered-is : (b : Bool) (fault : Option Place) → numbered_fault b fault ≡ (if b then fault else or_first_line fault)
numbered-is true fault = refl
numbered-is false fault = refl

-- the first error of the receipts from this place on
pub each-next : (book : BookView) (task : Task) (ws : List Worker) (x : Receipt) (xs : List Receipt) (ns : List ℕ) (i : ℕ) (w : Worker) (n clauses : ℕ) (right : Bool) → i < length ws → i < length ns
    → w ≡ get_or ws i w → n ≡ get_or ns i 0 → clauses ≡ clauses_in book task.set → right ≡ (n == first_of clauses x)
    → each_fault book task (drop i ws) (x ∷ xs) (drop i ns) ≡ first_place_or (numbered_fault right (answer_fault book task w (Spent x))) (each_fault book task (drop (i + 1) ws) xs (drop (i + 1) ns))
each-next book task ws x xs ns i w n clauses right hw hn ew en ec er =
    rw (drop_more ws i w hw, drop_more ns i 0 hn, ← ew, ← en, ← ec, ← er, numbered-is right (answer_fault book task w (Spent x))) refl

absurd-why : (why : ShownWhy) → None ≡ Some why → ⊥
absurd-why why e = cc

pub first-told : (e : StepErr) (a b : Option Place) → IsStepFault e (option_map NotValid a) → IsStepFault e (option_map NotValid (first_place_or a b))
first-told step.NoMemory a b h = tt
first-told (step.Fault why) None b h = absurd (absurd-why why h)
first-told (step.Fault why) (Some place) b h = h

pub rest-told : (a b : Option Place) → a ≡ None → first_place_or a b ≡ b
rest-told None b e = refl
rest-told (Some place) b e = absurd cc

-- a rejected receipt has the first error of all
pub err-told : (e : StepErr) (book : BookView) (task : Task) (ws : List Worker) (x : Receipt) (rest : List Receipt) (ns : List ℕ) (i clauses : ℕ) (d : Worker) (right : Bool) (all : Option Place)
    → i < length ws → i < length ns → clauses ≡ clauses_in book task.set → right ≡ (get_or ns i 0 == first_of clauses x)
    → each_fault book task (drop i ws) (x ∷ rest) (drop i ns) ≡ all
    → IsStepFault e (option_map NotValid (numbered_fault right (answer_fault book task (get_or ws i d) (Spent x))))
    → IsStepFault e (option_map NotValid all)
err-told e book task ws x rest ns i clauses d right all hw hn ec er is h =
    let w = get_or ws i d in
    let next = each-next book task ws x rest ns i w (get_or ns i 0) clauses right hw hn (get_or_default ws i d w hw) refl ec er in
    subst (λ (o : Option Place). IsStepFault e (option_map NotValid o)) (sym next ∙ is)
    (first-told e (numbered_fault right (answer_fault book task w (Spent x))) (each_fault book task (drop (i + 1) ws) rest (drop (i + 1) ns)) h)
