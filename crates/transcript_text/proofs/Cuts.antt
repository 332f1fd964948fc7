-- A text in two parts, the first of which ends with a line end; for the contracts of `pieces`.
use Rattle.std.proofs.Common.{◌≡◌, ◌<◌, ◌≤◌, ◌-◌, ◌==◌, ◌∙◌, ℕ, zero, suc, Bool, true, false, List, [], ◌∷◌, ◌++◌, refl, sym, ap, subst, append_assoc, append-nil, arith, take, drop, length, if◌then◌else◌}
use Rattle.std.proofs.lemmas.List.{drop_all, length-drop, take-append-drop, take_all}
use Rattle.pack_defs.specs.Lists.{is_empty}
use Rattle.lrat_text.specs.Lines.{ended_lines, is_whole, prepend_to_first_line}
use Rattle.transcript_text.specs.Pieces.{HasLinesOf}

onto-append : (c : ℕ) (b : Bool) (lines more : List (List ℕ)) → (b ≡ false → is_empty lines ≡ false)
    → (if b then [] ∷ (lines ++ more) else prepend_to_first_line c (lines ++ more)) ≡ (if b then [] ∷ lines else prepend_to_first_line c lines) ++ more
onto-append c true lines more some = refl
onto-append c false [] more some = absurd cc (some refl)
onto-append c false (line ∷ lines) more some = refl

-- A text that ends with a line end has a line, unless it is empty.
pub some-line : (c : ℕ) (text : List ℕ) → is_whole (c ∷ text) ≡ true → is_empty (ended_lines (c ∷ text)) ≡ false
unfolding is_whole ended_lines
some-line c [] w = rw w refl
some-line c (d ∷ rest) w = go (c == 10) (ended_lines (d ∷ rest)) (some-line d rest w)
  where
    go : (b : Bool) (lines : List (List ℕ)) → is_empty lines ≡ false → is_empty (if b then [] ∷ lines else prepend_to_first_line c lines) ≡ false
    go true lines h = refl
    go false [] h = h
    go false (line ∷ lines) h = refl

pub lines-append : (text more : List ℕ) → is_whole text ≡ true → ended_lines (text ++ more) ≡ ended_lines text ++ ended_lines more
unfolding is_whole ended_lines
lines-append [] more w = refl
lines-append (c ∷ []) more w = rw w refl
lines-append (c ∷ d ∷ rest) more w =
    ap (λ (lines : List (List ℕ)). if c == 10 then [] ∷ lines else prepend_to_first_line c lines) (lines-append (d ∷ rest) more w)
    ∙ onto-append c (c == 10) (ended_lines (d ∷ rest)) (ended_lines more) (λ e. some-line d rest w)

pub whole-append : (text more : List ℕ) → is_whole text ≡ true → is_whole (text ++ more) ≡ is_whole more
unfolding is_whole
whole-append [] more w = refl
whole-append (c ∷ []) [] w = w
whole-append (c ∷ []) (d ∷ more) w = refl
whole-append (c ∷ d ∷ rest) more w = whole-append (d ∷ rest) more w

-- The search for the last line end moves one byte to the left.
pub no-line-before : (end : ℕ) (text : List ℕ) → end < length text → is_whole (take (suc end) text) ≡ false → ended_lines (drop (suc end) text) ≡ [] → ended_lines (drop end text) ≡ []
unfolding is_whole ended_lines
no-line-before zero (c ∷ rest) less w h = rw (w, h) refl
no-line-before (suc end) (c ∷ d ∷ rest) less w h = no-line-before end (d ∷ rest) (omega (arith, less)) w h
no-line-before (suc end) (c ∷ []) less w h = absurd (omega (arith, less))
no-line-before end [] less w h = absurd (omega (arith, less))

pub some-end : (end : ℕ) (text : List ℕ) → is_whole (take end text) ≡ false → 1 ≤ end
unfolding is_whole
some-end zero text w = absurd cc w
some-end (suc end) text w = omega arith

pub no-line-sooner : (end : ℕ) (text : List ℕ) → end ≤ length text → is_whole (take end text) ≡ false → ended_lines (drop end text) ≡ [] → ended_lines (drop (end - 1) text) ≡ []
no-line-sooner zero text le w h = h
no-line-sooner (suc end) text le w h =
    let same : end ≡ suc end - 1 = omega arith in
    subst (λ (e : ℕ). ended_lines (drop e text) ≡ []) same (no-line-before end text (omega (arith, le)) w h)

pub none-behind : (text : List ℕ) → ended_lines (drop (length text) text) ≡ []
unfolding ended_lines
none-behind text = ap ended_lines (drop_all (length text) text (omega arith))

pub lines-of-part : (end : ℕ) (text : List ℕ) → is_whole (take end text) ≡ true → ended_lines (drop end text) ≡ [] → ended_lines (take end text) ≡ ended_lines text
lines-of-part end text w h =
    sym (ap ended_lines (sym (take-append-drop end text)) ∙ lines-append (take end text) (drop end text) w ∙ ap (λ (ls : List (List ℕ)). ended_lines (take end text) ++ ls) h ∙ append-nil (ended_lines (take end text)))

pub to-the-end : (k : ℕ) (text : List ℕ) → take (length text - k) (drop k text) ≡ drop k text
to-the-end k text = take_all (length text - k) (drop k text) (omega (arith, length-drop k text))

-- ---- the complete lines of a text, with other bytes after them

pub kept-lines : (text part behind kept : List ℕ) → is_whole part ≡ true → ended_lines part ≡ ended_lines text → kept ≡ part ++ behind → HasLinesOf text behind kept
kept-lines text part behind kept w l e = record {
  lines = λ more. ap (λ (k : List ℕ). ended_lines (k ++ more)) e ∙ ap ended_lines (append_assoc part behind more) ∙ lines-append part (behind ++ more) w ∙ ap (λ (ls : List (List ℕ)). ls ++ ended_lines (behind ++ more)) l;
  end = λ more. ap (λ (k : List ℕ). is_whole (k ++ more)) e ∙ ap is_whole (append_assoc part behind more) ∙ whole-append part (behind ++ more) w;
}

-- A text that has a complete line still has one with bytes after it.
pub lines-stay : (text more : List ℕ) → is_empty (ended_lines text) ≡ false → is_empty (ended_lines (text ++ more)) ≡ false
unfolding ended_lines
lines-stay [] more some = absurd cc some
lines-stay (c ∷ rest) more some = go (c == 10) (ended_lines rest) (ended_lines (rest ++ more)) (lines-stay rest more) some
  where
    go : (b : Bool) (lines all : List (List ℕ)) → (is_empty lines ≡ false → is_empty all ≡ false)
        → is_empty (if b then [] ∷ lines else prepend_to_first_line c lines) ≡ false → is_empty (if b then [] ∷ all else prepend_to_first_line c all) ≡ false
    go true lines all stay h = refl
    go false [] all stay h = absurd cc h
    go false (line ∷ lines) [] stay h = absurd cc (stay refl)
    go false (line ∷ lines) (first ∷ all) stay h = refl
