-- A shown value is the texts of its segments.
use Rattle.std.proofs.Common.{◌≡◌, ℕ, List, [], ◌∷◌, ◌++◌, Result, OnOk, refl, sym, ap, subst, ◌∙◌, append_assoc}
use Rattle.std.proofs.lemmas.List.{append-nil}
use Rattle.std.specs.Prelude.{codes}
use Rattle.wl_shown.specs.Parts.{more_parts, joined_parts}

pub more_parts-append : (xs ys : List (List ℕ)) → more_parts (xs ++ ys) ≡ more_parts xs ++ more_parts ys
more_parts-append [] ys = refl
more_parts-append (x ∷ xs) ys =
    ap (λ (t : List ℕ). (codes "," ++ x) ++ t) (more_parts-append xs ys) ∙ sym (append_assoc (codes "," ++ x) (more_parts xs) (more_parts ys))

-- two segments
pub two : (old head : List ℕ) (part : List ℕ) (first last : List (List ℕ)) (end : List ℕ)
    → (old ++ (head ++ joined_parts (part ∷ first))) ++ (more_parts last ++ end) ≡ old ++ ((head ++ joined_parts ((part ∷ first) ++ last)) ++ end)
two old head part first last end =
    append_assoc old (head ++ (part ++ more_parts first)) (more_parts last ++ end)
    ∙ ap (λ (t : List ℕ). old ++ t) (
    sym (append_assoc (head ++ (part ++ more_parts first)) (more_parts last) end)
    ∙ ap (λ (t : List ℕ). t ++ end) (
    append_assoc head (part ++ more_parts first) (more_parts last)
    ∙ ap (λ (t : List ℕ). head ++ t) (append_assoc part (more_parts first) (more_parts last) ∙ ap (λ (t : List ℕ). part ++ t) (sym (more_parts-append first last)))
    )
    )

-- one segment more
pub with_more : (old head : List ℕ) (part : List ℕ) (first more : List (List ℕ))
    → (old ++ (head ++ joined_parts (part ∷ first))) ++ more_parts more ≡ old ++ (head ++ joined_parts ((part ∷ first) ++ more))
with_more old head part first more =
    append_assoc old (head ++ (part ++ more_parts first)) (more_parts more)
    ∙ ap (λ (t : List ℕ). old ++ t) (append_assoc head (part ++ more_parts first) (more_parts more) ∙ ap (λ (t : List ℕ). head ++ t) (append_assoc part (more_parts first) (more_parts more) ∙ ap (λ (t : List ℕ). part ++ t) (sym (more_parts-append first more))))

-- three segments
pub three : (old head : List ℕ) (part : List ℕ) (first more last : List (List ℕ)) (end : List ℕ)
    → ((old ++ (head ++ joined_parts (part ∷ first))) ++ more_parts more) ++ (more_parts last ++ end) ≡ old ++ ((head ++ joined_parts (((part ∷ first) ++ more) ++ last)) ++ end)
three old head part first more last end =
    ap (λ (t : List ℕ). t ++ (more_parts last ++ end)) (with_more old head part first more) ∙ two old head part (first ++ more) last end

-- segments without a head
pub both : (old : List ℕ) (first more : List (List ℕ)) → (old ++ more_parts first) ++ more_parts more ≡ old ++ more_parts (first ++ more)
both old first more = append_assoc old (more_parts first) (more_parts more) ∙ ap (λ (t : List ℕ). old ++ t) (sym (more_parts-append first more))

-- five segments
pub five : (old head : List ℕ) (part : List ℕ) (first a b c last : List (List ℕ)) (end : List ℕ)
    → ((((old ++ (head ++ joined_parts (part ∷ first))) ++ more_parts a) ++ more_parts b) ++ more_parts c) ++ (more_parts last ++ end)
    ≡ old ++ ((head ++ joined_parts (((((part ∷ first) ++ a) ++ b) ++ c) ++ last)) ++ end)
five old head part first a b c last end =
    ap (λ (t : List ℕ). ((t ++ more_parts b) ++ more_parts c) ++ (more_parts last ++ end)) (with_more old head part first a)
    ∙ ap (λ (t : List ℕ). (t ++ more_parts c) ++ (more_parts last ++ end)) (with_more old head part (first ++ a) b)
    ∙ three old head part ((first ++ a) ++ b) c last end

-- a value of one part to one of five, put part by part

pub solo : (old name a end : List ℕ) → old ++ ((name ++ a) ++ end) ≡ old ++ ((name ++ (a ++ [])) ++ end)
solo old name a end = simp (append_assoc, append-nil)

pub pair : (old name a b comma end : List ℕ) → (old ++ (name ++ a)) ++ ((comma ++ b) ++ end) ≡ old ++ ((name ++ (a ++ ((comma ++ b) ++ []))) ++ end)
pair old name a b comma end = simp (append_assoc, append-nil)

pub trio : (old name a b c comma end : List ℕ) → ((old ++ (name ++ a)) ++ (comma ++ b)) ++ ((comma ++ c) ++ end) ≡ old ++ ((name ++ (a ++ ((comma ++ b) ++ ((comma ++ c) ++ [])))) ++ end)
trio old name a b c comma end = simp (append_assoc, append-nil)

pub quad : (old name a b c d comma end : List ℕ) → (((old ++ (name ++ a)) ++ (comma ++ b)) ++ (comma ++ c)) ++ ((comma ++ d) ++ end) ≡ old ++ ((name ++ (a ++ ((comma ++ b) ++ ((comma ++ c) ++ ((comma ++ d) ++ []))))) ++ end)
quad old name a b c d comma end = simp (append_assoc, append-nil)

pub quint : (old name a b c d f comma end : List ℕ) → ((((old ++ (name ++ a)) ++ (comma ++ b)) ++ (comma ++ c)) ++ (comma ++ d)) ++ ((comma ++ f) ++ end)
    ≡ old ++ ((name ++ (a ++ ((comma ++ b) ++ ((comma ++ c) ++ ((comma ++ d) ++ ((comma ++ f) ++ [])))))) ++ end)
quint old name a b c d f comma end = simp (append_assoc, append-nil)

-- three texts in turn
pub in_turn : (old a b c : List ℕ) → ((old ++ a) ++ b) ++ c ≡ old ++ (a ++ (b ++ c))
in_turn old a b c = simp append_assoc

-- parts in turn, each behind its comma

pub two_parts : (old a b : List ℕ) → (old ++ a) ++ b ≡ old ++ (a ++ (b ++ []))
two_parts old a b = simp (append_assoc, append-nil)

pub four_parts : (old a b c d : List ℕ) → (((old ++ a) ++ b) ++ c) ++ d ≡ old ++ (a ++ (b ++ (c ++ (d ++ []))))
four_parts old a b c d = simp (append_assoc, append-nil)

pub five_parts : (old a b c d e : List ℕ) → ((((old ++ a) ++ b) ++ c) ++ d) ++ e ≡ old ++ (a ++ (b ++ (c ++ (d ++ (e ++ [])))))
five_parts old a b c d e = simp (append_assoc, append-nil)

pub six_parts : (old a b c d e f : List ℕ) → (((((old ++ a) ++ b) ++ c) ++ d) ++ e) ++ f ≡ old ++ (a ++ (b ++ (c ++ (d ++ (e ++ (f ++ []))))))
six_parts old a b c d e f = simp (append_assoc, append-nil)

-- what the last step adds is what all of them add
pub all_added : {T E : Type 0} (r : Result T E) (new last all : List ℕ) → OnOk r (new ≡ last) → last ≡ all → OnOk r (new ≡ all)
all_added r new last all added same = subst (λ (x : List ℕ). OnOk r (new ≡ x)) same added
