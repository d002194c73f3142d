-- Octets, words and fields of a body.
use Rattle.std.proofs.Common.{◌≡◌, ℕ, zero, suc, ◌+◌, ◌*◌, ◌/◌, ◌%◌, ◌^◌, ◌<◌, ◌≤◌, Bool, true, false, List, [], ◌∷◌, ◌++◌, length, take, drop, get_or, refl, sym, ap, subst, ◌∙◌, arith, append_assoc, length-drop}
use Rattle.std.specs.Prelude.{is_some}
use Rattle.std.specs.List.{AllByRecursion}
use Rattle.std.proofs.lemmas.List.{append-nil, length-append, drop-drop, take_more}
use Rattle.std.proofs.Math.Seq.{drop-cons}
use Rattle.wl_elem.specs.Octets.{octets_of}
use Rattle.wl_elem.specs.Fields.{field, Fits, width_if, word_at}
use Rattle.wl_elem.proofs.Octets.{IsOctets, IsOctets-drop}
use Rattle.wl_elem.proofs.Numbers.{octet_below, word_below}
use Rattle.wl_action.specs.declared.statuses.LinkStatus.{LinkStatus}
use Rattle.wl_action.specs.Action.{statuses, IsWord, IsLinkStatus}
use Rattle.wl_action.specs.Reading.{some_if, statuses_in}

pub word_fits : (octets : List ℕ) (i : ℕ) → IsOctets octets → IsWord (word_at octets i)
word_fits octets i is = let most : 256 ^ 2 ≡ 65536 = refl in omega (arith, word_below octets i is, most)

-- the octets of two octets' number
word_text : (low high : ℕ) → low < 256 → high < 256 → octets_of 2 (low + 256 * high) ≡ low ∷ high ∷ []
word_text low high a b =
    let first : (low + 256 * high) % 256 ≡ low = omega arith in
    let second : (low + 256 * high) / 256 % 256 ≡ high = omega arith in
    rw (first, second) refl

-- what stands at an index

pub octet_here : (octets : List ℕ) (i n : ℕ) → n ≡ suc i → i < length octets → drop i octets ≡ get_or octets i 0 ∷ drop n octets
octet_here octets i n e lt = rw e (drop-cons octets i 0 lt)

pub word_here : (octets : List ℕ) (i n : ℕ) → n ≡ i + 2 → IsOctets octets → i + 1 < length octets → drop i octets ≡ octets_of 2 (word_at octets i) ++ drop n octets
word_here octets i n e is lt =
    let next : suc i ≡ i + 1 = omega arith in
    let text = word_text (get_or octets i 0) (get_or octets (i + 1) 0) (octet_below octets i is) (octet_below octets (i + 1) is) in
    octet_here octets i (i + 1) (omega arith) (omega arith) ∙ ap (λ (x : List ℕ). get_or octets i 0 ∷ x) (octet_here octets (i + 1) n (omega arith) lt) ∙ sym (ap (λ (x : List ℕ). x ++ drop n octets) text)

-- a word that is read again
pub word_again : (n : ℕ) → IsWord n → n ≡ n % 256 + 256 * (n / 256 % 256)
word_again n fits = let most : 256 ^ 2 ≡ 65536 = refl in omega (arith, fits, most)

-- ---- fields that may be there

pub word_if_here : (there : Bool) (octets : List ℕ) (i : ℕ) → IsOctets octets → i + width_if there 2 ≤ length octets → drop i octets ≡ field 2 (some_if there (word_at octets i)) ++ drop (i + width_if there 2) octets
word_if_here true octets i is le = word_here octets i (i + 2) refl is (omega arith)
word_if_here false octets i is le = let e : i ≡ i + 0 = omega arith in ap (λ (n : ℕ). drop n octets) e

pub octet_if_here : (there : Bool) (octets : List ℕ) (i : ℕ) → IsOctets octets → i + width_if there 1 ≤ length octets → drop i octets ≡ field 1 (some_if there (get_or octets i 0)) ++ drop (i + width_if there 1) octets
octet_if_here true octets i is le =
    let small = octet_below octets i is in
    let low : get_or octets i 0 % 256 ≡ get_or octets i 0 = omega (arith, small) in
    octet_here octets i (i + 1) (omega arith) (omega arith) ∙ ap (λ (n : ℕ). n ∷ drop (i + 1) octets) (sym low)
octet_if_here false octets i is le = let e : i ≡ i + 0 = omega arith in ap (λ (n : ℕ). drop n octets) e

pub some_if-there : (there : Bool) (n : ℕ) → is_some (some_if there n) ≡ there
some_if-there true n = refl
some_if-there false n = refl

pub Fits-some_if : (there : Bool) (width n : ℕ) → n < 256 ^ width → Fits width (some_if there n)
Fits-some_if true width n lt = lt
Fits-some_if false width n lt = tt

-- ---- links and statuses

-- what stands at the front of octets is so many links with their statuses
pub record AreStatuses (count : ℕ) (octets : List ℕ) (list : List LinkStatus) : Type 0 where
  pub counted : length list ≡ count
  pub fit : AllByRecursion IsLinkStatus list
  pub text : octets ≡ statuses list ++ drop (3 * count) octets

pub statuses_here : (count : ℕ) (octets : List ℕ) → IsOctets octets → 3 * count ≤ length octets → AreStatuses count octets (statuses_in count octets)
unfolding statuses_in
statuses_here zero octets is le = record { counted = refl; fit = tt; text = refl }
statuses_here (suc count) octets is le =
    let after = drop 3 octets in
    let room : 3 * count ≤ length after = omega (arith, length-drop 3 octets) in
    let more = statuses_here count after (IsOctets-drop 3 octets is) room in
    let link = get_or octets 0 0 in
    let status = word_at octets 1 in
    let parts : octets ≡ link ∷ (octets_of 2 status ++ after) = octet_here octets 0 1 refl (omega arith) ∙ ap (λ (x : List ℕ). link ∷ x) (word_here octets 1 3 refl is (omega arith)) in
    let next : 3 + 3 * count ≡ 3 * suc count = omega arith in
    let behind : drop (3 * count) after ≡ drop (3 * suc count) octets = drop-drop (3 * count) 3 octets ∙ ap (λ (n : ℕ). drop n octets) next in
    record {
      counted = ap suc more.counted;
      fit = (record { link = octet_below octets 0 is; status = word_fits octets 1 is }, more.fit);
      text = parts ∙ ap (λ (x : List ℕ). link ∷ (octets_of 2 status ++ x)) (more.text ∙ ap (λ (x : List ℕ). statuses (statuses_in count after) ++ x) behind);
    }

pub statuses_again : (list : List LinkStatus) (rest : List ℕ) → AllByRecursion IsLinkStatus list → statuses_in (length list) (statuses list ++ rest) ≡ list
unfolding statuses_in
statuses_again [] rest fit = refl
statuses_again (s ∷ list) rest fit =
    let status = word_again s.status fit.0.status in
    let one : LinkStatus = record { link = s.link; status = s.status % 256 + 256 * (s.status / 256 % 256) } in
    let same : one ≡ s = ap (λ (n : ℕ). record { link = s.link; status = n }) (sym status) in
    ap (λ (x : List LinkStatus). one ∷ x) (statuses_again list rest fit.1) ∙ ap (λ (x : LinkStatus). x ∷ list) same

pub length-statuses : (list : List LinkStatus) → length (statuses list) ≡ 3 * length list
length-statuses [] = refl
length-statuses (s ∷ list) = let more = length-statuses list in omega (arith, more)

pub behind_statuses : (list : List LinkStatus) (rest : List ℕ) → drop (3 * length list) (statuses list ++ rest) ≡ rest
behind_statuses [] rest = refl
behind_statuses (s ∷ list) rest =
    let next : 3 * suc (length list) ≡ suc (suc (suc (3 * length list))) = omega arith in
    ap (λ (n : ℕ). drop n (statuses (s ∷ list) ++ rest)) next ∙ behind_statuses list rest

-- ---- as a loop does

pub one_link : (list new : List LinkStatus) (count status : ℕ) (octets after : List ℕ) (total : List LinkStatus) → list ++ statuses_in (suc count) octets ≡ total → status ≡ word_at octets 1 → new ≡ list ++ record { link = get_or octets 0 0; status = status } ∷ [] → after ≡ drop 3 octets → new ++ statuses_in count after ≡ total
unfolding statuses_in
one_link list new count status octets after total so_far is pushed e = rw (pushed, is, e) (append_assoc list (record { link = get_or octets 0 0; status = word_at octets 1 } ∷ []) (statuses_in count (drop 3 octets)) ∙ so_far)

pub no_link : (list : List LinkStatus) (count : ℕ) (octets : List ℕ) (total : List LinkStatus) → count ≡ 0 → list ++ statuses_in count octets ≡ total → list ≡ total
unfolding statuses_in
no_link list count octets total none so_far = sym (ap (λ (n : ℕ). list ++ statuses_in n octets) none ∙ append-nil list) ∙ so_far

pub statuses-append : (a b : List LinkStatus) → statuses (a ++ b) ≡ statuses a ++ statuses b
statuses-append [] b = refl
statuses-append (s ∷ a) b = ap (λ (x : List ℕ). s.link ∷ (octets_of 2 s.status ++ x)) (statuses-append a b)

statuses_more : (list : List LinkStatus) (i : ℕ) (d : LinkStatus) → i < length list → statuses (take (i + 1) list) ≡ statuses (take i list) ++ (get_or list i d).link ∷ octets_of 2 (get_or list i d).status
statuses_more list i d lt =
    ap statuses (take_more list i d lt) ∙ statuses-append (take i list) (get_or list i d ∷ [])

pub one_put : (list : List LinkStatus) (i : ℕ) (d : LinkStatus) (out old pushed new : List ℕ) → i < length list → old ≡ out ++ statuses (take i list) → pushed ≡ old ++ (get_or list i d).link ∷ [] → new ≡ pushed ++ octets_of 2 (get_or list i d).status → new ≡ out ++ statuses (take (i + 1) list)
one_put list i d out old pushed new lt so_far one two =
    let more = statuses_more list i d lt in
    rw (two, one, so_far, more) (simp append_assoc)

typed_more : (list : List LinkStatus) (i : ℕ) (d : LinkStatus) → i < length list → AllByRecursion IsLinkStatus (take i list) → IsLinkStatus (get_or list i d) → AllByRecursion IsLinkStatus (take (i + 1) list)
typed_more [] i d lt all one = absurd (omega arith)
typed_more (s ∷ list) zero d lt all one = (one, tt)
typed_more (s ∷ list) (suc i) d lt all one =
    let next : suc i + 1 ≡ suc (i + 1) = omega arith in
    subst (λ (n : ℕ). AllByRecursion IsLinkStatus (take n (s ∷ list))) (sym next) (all.0, typed_more list i d (omega arith) all.1 one)

-- the octets of one link more, and its room
pub record IsMore (list : List LinkStatus) (i len : ℕ) : Type 0 where
  pub counted : len ≡ length (statuses (take (i + 1) list))
  pub typed : AllByRecursion IsLinkStatus (take (i + 1) list)

pub one_length : (list : List LinkStatus) (i : ℕ) (d : LinkStatus) (len : ℕ) → i < length list → len ≡ length (statuses (take i list)) → AllByRecursion IsLinkStatus (take i list) → (get_or list i d).link < 256 → IsWord (get_or list i d).status → IsMore list i (len + 3)
one_length list i d len lt so_far typed link status =
    let more : length (statuses (take (i + 1) list)) ≡ length (statuses (take i list) ++ (get_or list i d).link ∷ octets_of 2 (get_or list i d).status) = ap length (statuses_more list i d lt) in
    record {
      counted = omega (arith, so_far, more, length-append (statuses (take i list)) ((get_or list i d).link ∷ octets_of 2 (get_or list i d).status));
      typed = typed_more list i d lt typed (record { link = link; status = status });
    }
