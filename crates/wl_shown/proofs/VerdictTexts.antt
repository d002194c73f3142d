-- The loop that judges the lines of an input.
use Rattle.std.proofs.Common.{◌≡◌, ℕ, ◌+◌, ◌<◌, Bool, true, false, List, [], ◌∷◌, ◌++◌, length, Option, Some, None, refl, sym, ap, subst, ◌∙◌, append_assoc, arith}
use Rattle.std.proofs.lemmas.List.{append-nil}
use Rattle.wl_shown.specs.declared.line.Kind.{Kind}
use Rattle.wl_shown.specs.Line.{lines_of, IsHexLine}
use Rattle.wl_shown.specs.Checked.{VerdictOf, VerdictLines, AddsAnswer, AddsVerdict, first_refused, refused_of_all, refused_with}
use Rattle.wl_shown.proofs.Texts.{Counts, counts_begin, counts_more}

-- whatever the verdicts on the lines left are, with those so far they are those of the whole input
pub record Continues (input rest : List ℕ) (number : ℕ) (out : List ℕ) (refused : Option ℕ) : Type 0 where
  pub judged : (text : List ℕ) (later : Option ℕ) → VerdictLines (lines_of rest) text later → VerdictLines (lines_of input) (out ++ text) (refused_of_all number refused later)
  pub counts : Counts input rest number

nothing_before : (later : Option ℕ) → later ≡ refused_of_all 0 None later
nothing_before None = refl
nothing_before (Some n) = ap (λ (k : ℕ). Some k) (omega arith)

pub begins : (input : List ℕ) → Continues input input 0 [] None
begins input = record { judged = λ text later h. subst (VerdictLines (lines_of input) text) (nothing_before later) h; counts = counts_begin input }

-- the line of the next number and the lines behind it
one_step : (number : ℕ) (refused : Option ℕ) (accepted : Bool) (later : Option ℕ) → refused_of_all number refused (first_refused accepted later) ≡ refused_of_all (number + 1) (refused_with (number + 1) refused accepted) later
one_step number (Some first) accepted later = refl
one_step number None false later = refl
one_step number None true None = refl
one_step number None true (Some n) = ap (λ (k : ℕ). Some k) (omega arith)

pub one_more : (input rest line after : List ℕ) (number : ℕ) (out new : List ℕ) (refused next : Option ℕ) (accepted : Bool) → Continues input rest number out refused
    → lines_of rest ≡ line ∷ lines_of after → length after < length rest → AddsVerdict line accepted out new → next ≡ refused_with (number + 1) refused accepted → Continues input after (number + 1) new next
one_more input rest line after number out new refused next accepted so_far first fewer (verdict, (kind, octets, is_line, judged), added) told = record {
  judged = λ text later h.
      let one : VerdictLines (line ∷ lines_of after) (verdict ++ 10 ∷ text) (first_refused accepted later) = (accepted, verdict, text, later, (kind, octets, is_line, judged), h, refl, refl) in
      let whole = so_far.judged (verdict ++ 10 ∷ text) (first_refused accepted later) (subst (λ (x : List (List ℕ)). VerdictLines x (verdict ++ 10 ∷ text) (first_refused accepted later)) (sym first) one) in
      let same : out ++ (verdict ++ 10 ∷ text) ≡ new ++ text = ap (λ (x : List ℕ). out ++ x) (sym (append_assoc verdict (10 ∷ []) text)) ∙ sym (append_assoc out (verdict ++ 10 ∷ []) text) ∙ ap (λ (x : List ℕ). x ++ text) (sym added) in
      let told_of_all : refused_of_all number refused (first_refused accepted later) ≡ refused_of_all (number + 1) next later = one_step number refused accepted later ∙ ap (λ (x : Option ℕ). refused_of_all (number + 1) x later) (sym told) in
      subst (VerdictLines (lines_of input) (new ++ text)) told_of_all (subst (λ (x : List ℕ). VerdictLines (lines_of input) x (refused_of_all number refused (first_refused accepted later))) same whole);
  counts = counts_more input rest line after number kind octets so_far.counts first fewer is_line;
}

nothing_behind : (number : ℕ) (refused : Option ℕ) → refused_of_all number refused None ≡ refused
nothing_behind number (Some first) = refl
nothing_behind number None = refl

pub ends : (input rest : List ℕ) (number : ℕ) (out : List ℕ) (refused : Option ℕ) → Continues input rest number out refused → rest ≡ [] → VerdictLines (lines_of input) out refused
ends input rest number out refused so_far nil =
    let none : VerdictLines (lines_of rest) [] None = subst (λ (x : List ℕ). VerdictLines (lines_of x) [] None) (sym nil) (refl, refl) in
    subst (VerdictLines (lines_of input) out) (nothing_behind number refused) (subst (λ (x : List ℕ). VerdictLines (lines_of input) x (refused_of_all number refused None)) (append-nil out) (so_far.judged [] None none))

-- the verdict on a line, and its line end
pub verdict_added : (line : List ℕ) (kind : Kind) (octets same : List ℕ) (accepted : Bool) (old mid new : List ℕ) → IsHexLine line kind octets → same ≡ octets → AddsAnswer kind same accepted old mid → new ≡ mid ++ 10 ∷ []
    → AddsVerdict line accepted old new
verdict_added line kind octets same accepted old mid new is_line is (verdict, judged, added) ended =
    (verdict, (kind, octets, is_line, subst (λ (x : List ℕ). VerdictOf kind x accepted verdict) is judged), ended ∙ ap (λ (x : List ℕ). x ++ 10 ∷ []) added ∙ append_assoc old verdict (10 ∷ []))
