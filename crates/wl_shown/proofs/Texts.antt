-- The loop over the lines of an input.
use Rattle.std.proofs.Common.{◌≡◌, ℕ, suc, ◌+◌, ◌<◌, ◌≤◌, List, [], ◌∷◌, ◌++◌, length, refl, sym, ap, subst, ◌∙◌, append_assoc, arith, inl, inr}
use Rattle.std.proofs.lemmas.List.{append-nil}
use Rattle.wl_shown.specs.declared.line.LineFault.{LineFault}
use Rattle.wl_shown.specs.declared.line.LineFault.TheVariants as lines
use Rattle.wl_shown.specs.declared.decode.TextFault.{TextFault}
use Rattle.wl_shown.specs.declared.line.Kind.{Kind}
use Rattle.wl_shown.specs.Line.{lines_of, IsLineFault, IsHexLine}
use Rattle.wl_shown.specs.Shown.{Shown, AddsShown}
use Rattle.wl_shown.specs.Decoded.{ShownLines, IsFirstBad, IsTextFault, IsFaultAt, AddsLine}

-- what is no hex line in the rest is none in the whole, behind so many lines
pub record Counts (input rest : List ℕ) (number : ℕ) : Type 0 where
  pub bad : (n : ℕ) → IsFirstBad (lines_of rest) n → IsFirstBad (lines_of input) (number + n)
  pub counted : number + length rest ≤ length input

-- whatever the lines left give, with the lines so far it is that of the whole input
pub record Continues (input rest : List ℕ) (number : ℕ) (out : List ℕ) : Type 0 where
  pub shown : (text : List ℕ) → ShownLines (lines_of rest) text → ShownLines (lines_of input) (out ++ text)
  pub counts : Counts input rest number

pub counts_begin : (input : List ℕ) → Counts input input 0
counts_begin input = record { bad = λ n h. subst (IsFirstBad (lines_of input)) (omega arith) h; counted = omega arith }

pub begins : (input : List ℕ) → Continues input input 0 []
begins input = record { shown = λ text h. h; counts = counts_begin input }

pub counts_more : (input rest line after : List ℕ) (number : ℕ) (kind : Kind) (octets : List ℕ) → Counts input rest number → lines_of rest ≡ line ∷ lines_of after → length after < length rest → IsHexLine line kind octets → Counts input after (number + 1)
counts_more input rest line after number kind octets so_far first fewer is_line = record {
  bad = λ n h.
      let one : IsFirstBad (line ∷ lines_of after) (suc n) = inr (kind, octets, n, is_line, h, refl) in
      let same : number + suc n ≡ (number + 1) + n = omega arith in
      subst (IsFirstBad (lines_of input)) same (so_far.bad (suc n) (subst (λ (x : List (List ℕ)). IsFirstBad x (suc n)) (sym first) one));
  counted = omega (arith, so_far.counted, fewer);
}

pub one_more : (input rest line after : List ℕ) (number : ℕ) (out new : List ℕ) → Continues input rest number out → lines_of rest ≡ line ∷ lines_of after → length after < length rest → AddsLine line out new → Continues input after (number + 1) new
one_more input rest line after number out new so_far first fewer (shown, (kind, octets, is_line, is_shown), added) = record {
  shown = λ text h.
      let one : ShownLines (line ∷ lines_of after) (shown ++ 10 ∷ text) = (shown, text, (kind, octets, is_line, is_shown), h, refl) in
      let whole = so_far.shown (shown ++ 10 ∷ text) (subst (λ (x : List (List ℕ)). ShownLines x (shown ++ 10 ∷ text)) (sym first) one) in
      let same : out ++ (shown ++ 10 ∷ text) ≡ new ++ text = ap (λ (x : List ℕ). out ++ x) (sym (append_assoc shown (10 ∷ []) text)) ∙ sym (append_assoc out (shown ++ 10 ∷ []) text) ∙ ap (λ (x : List ℕ). x ++ text) (sym added) in
      subst (ShownLines (lines_of input)) same whole;
  counts = counts_more input rest line after number kind octets so_far.counts first fewer is_line;
}

pub fails : (input rest line after : List ℕ) (number : ℕ) (fault : LineFault) (answer : TextFault) → Counts input rest number → lines_of rest ≡ line ∷ lines_of after → IsLineFault line fault → IsFaultAt (number + 1) fault answer → IsTextFault (lines_of input) answer
fails input rest line after number lines.NotHex answer so_far first no_line same =
    let one : IsFirstBad (line ∷ lines_of after) 1 = inl (no_line, refl) in
    subst (IsTextFault (lines_of input)) (sym same) (so_far.bad 1 (subst (λ (x : List (List ℕ)). IsFirstBad x 1) (sym first) one))
fails input rest line after number lines.Memory answer so_far first no_line same = subst (IsTextFault (lines_of input)) (sym same) tt

pub ends : (input rest : List ℕ) (number : ℕ) (out : List ℕ) → Continues input rest number out → rest ≡ [] → ShownLines (lines_of input) out
ends input rest number out so_far nil =
    let none : ShownLines (lines_of rest) [] = subst (λ (x : List ℕ). ShownLines (lines_of x) []) (sym nil) refl in
    subst (ShownLines (lines_of input)) (append-nil out) (so_far.shown [] none)

-- what is shown for a line, and its line end
pub line_added : (line : List ℕ) (kind : Kind) (octets same : List ℕ) (old mid new : List ℕ) → IsHexLine line kind octets → same ≡ octets → AddsShown kind same old mid → new ≡ mid ++ 10 ∷ [] → AddsLine line old new
line_added line kind octets same old mid new is_line is (shown, is_shown, added) ended =
    (shown, (kind, octets, is_line, subst (λ (x : List ℕ). Shown kind x shown) is is_shown), ended ∙ ap (λ (x : List ℕ). x ++ 10 ∷ []) added ∙ append_assoc old shown (10 ∷ []))
